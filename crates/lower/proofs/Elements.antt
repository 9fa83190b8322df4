-- A store to an element, as the step of a task.
use Rattle.lower.proofs.Names.{◌≡◌, ℕ, ◌+◌, ◌*◌, ◌==◌, ◌<◌, ◌≤◌, List, [], ◌∷◌, ◌++◌, length, map, Option, Some, Contains, Bool, true, false, refl, sym, ap}
use Rattle.lower.proofs.Names.{◌∙◌, subst, arith, ⊎_elim, length-append, append-nil, if◌then◌else◌, cases_eq, cases_lt, length-map, All-same, Effect, Store}
use Rattle.lower.proofs.Names.{put, put_other, Shared, word_at, with_word, Variables, Outcome, PlainOperation, plain_word, WordState, Behaviour, going_on}
use Rattle.lower.proofs.Names.{then_on, is_place, word_listed, versioned_stored, behaviour, own_place, versioned_updated, stored, nothing, ArrayPlace}
use Rattle.lower.proofs.Names.{word_place, Version, ArrayCopies, VariablePlace, Array, word_even, private_words, IsArrayAt, Element, IsCopied, element, copy}
use Rattle.lower.proofs.Names.{version, element_address, copy_address, version_address, IsSpot, Spot, spot_address, array_place, list_place, listed_of}
use Rattle.lower.proofs.Names.{own_word, element_pair, at_copy, at_version, HoldVariables, StandsFor, Scene, CopyPair}
use Rattle.lower.proofs.Names.{locals_from, seen_from}
use Rattle.std.proofs.Common.{get_or}
use Rattle.source_values.specs.Statements.{Attempt, goes_on}
use Rattle.lower.proofs.Addresses.{fram_place, spot_place, element_is, copy_is, version_is, has_element}
use Rattle.lower.proofs.Stored.{word_past, set_holds, same_list, same_emits, spot_emits, spot_list}
use Rattle.lower.proofs.Lists.{HasNext, lists_word}
use Rattle.lower.proofs.Versioned.{stores_again, stores_first, stores_nothing, update_stores, updates_nothing, element_set, again_stored, after_mark}
use Rattle.lower.proofs.Versioned.{own_spot, IsStored, mark_keeps_pairs, mark_keeps_words, elements_have_next, first_stored_at, first_emits}
use Rattle.lower.proofs.Versioned.{first_list, pushed_of, push_listed}
use Rattle.lower.proofs.Ends.{Does, settles}
use Rattle.lower.proofs.Transitions.{untold_store}
use Rattle.lower.proofs.Names.{answered_by, answers_told, map-append, IsRedo, Did, IsTaskStore, TakesAndStores, own_by}
use Rattle.lower.proofs.Acts.{plain_did}

-- where statements begin that emit and list so much: an attempt, the elements that it has listed, a state that stands for it, and how many
-- elements of each array may be listed behind them; there is room
pub record Start (z : Scene) (emitting : ℕ) (count : ℕ → ℕ) : Type 0 where
  pub m : Attempt
  pub listed : List Element
  pub w : WordState
  pub most : ℕ → ℕ
  pub stands : StandsFor z.p z.first m listed (seen_from z.own w)
  pub number : w.fram (word_place z.p.map Version) ≡ z.ver
  pub emits : length m.emitted + emitting ≤ z.room.emits
  pub lists : (v : ℕ) → listed_of v listed + count v ≤ most v
  pub within : (v : ℕ) → most v ≤ z.stores v

-- what a behaviour does there, as the source does from the attempt
abbrev pub DoesFrom : {z : Scene} {n : ℕ} {count : ℕ → ℕ} → Start z n count → Behaviour → (Attempt → Outcome) → Type 0
DoesFrom {z} here b run = Does z here.w.fram here.most here.w.stack b (λ answers. run (answered_by answers here.m))

pub few_listed : {z : Scene} {n : ℕ} {count : ℕ → ℕ} (here : Start z n count) (v : ℕ) → listed_of v here.listed ≤ here.most v
few_listed here v = let a = here.lists v in omega (arith, a)

pub list_fits : {z : Scene} {n : ℕ} {count : ℕ → ℕ} (here : Start z n count)
    → z.first + (length here.listed + private_words z.p.privates) ≤ z.room.list
list_fits {z} here = z.has_room here.listed here.stands.list.are_listed (λ v. let a = here.lists v in let b = here.within v in omega (arith, a, b))

pub few_emitted : {z : Scene} {n : ℕ} {count : ℕ → ℕ} (here : Start z n count) → length here.m.emitted ≤ z.room.emits
few_emitted here = let a = here.emits in omega (arith, a)

-- a store to a word that the task works on, no version word: the rest stays
pub spot_stands : {z : Scene} {n : ℕ} {count : ℕ → ℕ} (here : Start z n count) (s : Spot) (v : ℕ) (m : Variables) → IsSpot z.p s
    → ((x : Element) → version x ≡ s → ⊥) → HoldVariables z.p m (put here.w.fram (spot_address z.p s) v) (locals_from z.own here.w.locals)
    → StandsFor z.p z.first (record here.m { variables = m }) here.listed (seen_from z.own (stored (spot_address z.p s) v here.w))
spot_stands {z} here s v m is ne variables =
    let f = here.w.fram in
    let g = put f (spot_address z.p s) v in
    let fits = list_fits here in
    record {
      variables = variables;
      emitted = same_emits z.p z.room here.m.emitted f g (few_emitted here) (spot_emits z.p z.room s v f z.apart is) here.stands.emitted;
      list = same_list z.p z.first z.room here.listed f g (omega (arith, fits)) (spot_list z.p z.room s v f z.apart is ne) here.stands.list;
      readings = here.stands.readings;
    }

-- a store to an element of array n
module _ (z : Scene) (n i v elements len : ℕ) (c : ArrayCopies) (at : IsArrayAt z.p n elements len (Some c))
    (h : Start z 0 (λ u. if n == u then 1 else 0)) where
  open h use {m, listed, w, most}

  abbrev place : ArrayPlace
  place = array_place elements len c

  abbrev after : Attempt
  after = record m { variables = with_word m.variables (Shared n) i v }

  abbrev Result : Behaviour → Type 0
  Result b = Does z w.fram most w.stack (then_on b (behaviour nothing)) (λ answers. goes_on (answered_by answers after))

  abbrev x : Element
  x = record { array = n; index = i }

  is_copied : i < len → IsCopied z.p x
  is_copied l = record { elements = elements; length = len; copies = c; is_array = at; below = l }

  abbrev IsHere : ℕ → Type 0
  IsHere a = is_place a ≡ true

  here_copy : (l : i < len) → IsHere (2 * i + c.copies)
  here_copy l = subst IsHere (copy_is z.p x elements len c at) (spot_place z.p z.room (copy x) z.apart z.even (is_copied l))

  here_version : (l : i < len) → IsHere (2 * i + c.versions)
  here_version l = subst IsHere (version_is z.p x elements len c at) (spot_place z.p z.room (version x) z.apart z.even (is_copied l))

  here_element : (l : i < len) → IsHere (2 * i + elements)
  here_element l = subst IsHere (element_is z.p x elements len (Some c) at)
      (spot_place z.p z.room (element x) z.apart z.even (has_element z.p x (is_copied l)))

  here_number : IsHere (word_place z.p.map Version)
  here_number = let apart = z.apart in fram_place (word_place z.p.map Version) (word_even z.p.map Version z.even.row) (omega (arith, apart))
      (omega (arith, apart))

  -- a store of the copy leaves VER and the version word
  number_stays : i < len → put w.fram (2 * i + c.copies) v (word_place z.p.map Version) ≡ w.fram (word_place z.p.map Version)
  number_stays l =
      let apart = z.apart in
      let Behind : ℕ → Type 0 = λ a. z.p.map.emits.address + 2 * z.room.emits ≤ a in
      let far = subst Behind (copy_is z.p x elements len c at) (apart.spots (copy x) (is_copied l)) in
      put_other w.fram (2 * i + c.copies) v (word_place z.p.map Version) (λ e. omega (arith, e, far, apart))

  mark_stays : i < len → put w.fram (2 * i + c.copies) v (2 * i + c.versions) ≡ w.fram (version_address z.p x)
  mark_stays l =
      let n = version_address z.p x in
      let is = is_copied l in
      sym (ap (put w.fram (2 * i + c.copies) v) (version_is z.p x elements len c at))
      ∙ sym (ap (λ a. put w.fram a v n) (copy_is z.p x elements len c at))
      ∙ put_other w.fram (copy_address z.p x) v n (λ e. let d = z.apart.distinct (version x) (copy x) is is e in cc)

  -- past the end nothing changes
  past_set : len ≤ i → HoldVariables z.p (with_word m.variables (Shared n) i v) w.fram (locals_from z.own w.locals)
  past_set past =
      let held = h.stands.variables in
      let row = held.rows n (Array elements len (Some c)) at.place in
      let l = held.lengths n (Array elements len (Some c)) at.place in
      let short : length (get_or m.variables.shared n []) ≤ i = omega (arith, l, past) in
      set_holds z.p n i v m.variables w.fram w.fram (locals_from z.own w.locals) row held (λ u j is. held.words u j is
      ∙ sym (word_past m.variables n i v u j row short))
      (λ y is. held.elements y is ∙ sym (word_past m.variables n i v y.array y.index row short))

  pub past : len ≤ i → Result (going_on [] w)
  past l = settles z w.fram most w.stack [] w after (record {
    did = plain_did z.p z.written z.room z.ver [] w.fram tt;
    untold = refl;
    stack_kept = refl;
    listed = listed;
    stands = record { variables = past_set l; emitted = h.stands.emitted; list = h.stands.list; readings = h.stands.readings };
    few = few_listed h;
  })

  past_versioned : len ≤ i → Result (versioned_stored place (list_place z.p) i v w)
  past_versioned l = subst Result (sym (stores_nothing place (list_place z.p) i v w l)) (past l)

  -- ---- under redo

  redo_did : IsRedo z.p → (es : List Effect) → TakesAndStores (IsTaskStore z.p z.written z.room z.ver) es
      → Did z.p z.written z.room z.ver w.fram es
  redo_did redo es stores = record { stores = stores; acts = λ undo. absurd (cc (redo, undo)) }

  -- stores to a copy or a version word tell no answer
  copy_untold : (es : List Effect) → IsCopied z.p x → answers_told (Store (copy_address z.p x) v ∷ es) ≡ answers_told es
  copy_untold es is = let below = z.apart.below (copy x) is in untold_store (copy_address z.p x) v es (λ e. omega (arith, e, below))

  mark_untold : (number : ℕ) (es : List Effect) → IsCopied z.p x → answers_told (Store (version_address z.p x) number ∷ es) ≡ answers_told es
  mark_untold number es is = let below = z.apart.below (version x) is in untold_store (version_address z.p x) number es (λ e. omega (arith, e, below))

  -- the version word is VER
  again : IsRedo z.p → (l : i < len) → w.fram (word_place z.p.map Version) ≡ w.fram (version_address z.p x)
      → Result (versioned_stored place (list_place z.p) i v w)
  again redo l marked =
      let p = z.p in
      let f = w.fram in
      let is = is_copied l in
      let own : ℕ = spot_address p (own_spot p.map.runtime.logging x) in
      let own_is : own ≡ copy_address p x = ap (λ logging. spot_address p (own_spot logging x)) redo in
      let now = subst (λ a. IsStored p x v f (put f a v)) own_is (again_stored p z.room x v f z.apart is marked) in
      let Q : ℕ → Type 0 = λ a. put f a v (word_place p.map Version) ≡ put f a v (version_address p x) in
      let same = subst Q (copy_is p x elements len c at) (now.number ∙ sym now.mark) ∙ ap (put f (2 * i + c.copies) v) (version_is p x elements len c at) in
      let P : ℕ → Type 0 = λ a. Does z f most w.stack (going_on (Store a v ∷ []) (record w { fram = put f a v }))
      (λ answers. goes_on (answered_by answers after)) in
      let t : WordState = record w { fram = put f (copy_address p x) v } in
      subst Result (sym (stores_again place (list_place p) i v w l (here_copy l) here_number (here_version l) same))
      (subst P (copy_is p x elements len c at) (settles z f most w.stack (Store (copy_address p x) v ∷ []) t after (record {
        did = redo_did redo (Store (copy_address p x) v ∷ []) (at_copy x is refl, tt);
        untold = copy_untold [] is;
        stack_kept = refl;
        listed = listed;
        stands = spot_stands h (copy x) v (with_word m.variables (Shared n) i v) is (λ y e. cc)
            (element_set p z.room x v m.variables f (put f (copy_address p x) v) (locals_from z.own w.locals) is now h.stands.variables);
        few = few_listed h;
      })))

  -- there is room for one more in the list
  pub one_more : IsCopied z.p x → (Contains listed x → ⊥) → z.first + length listed < z.room.list
  one_more is fresh =
      let P : (u : ℕ) → listed_of u (listed ++ x ∷ []) ≤ z.stores u = λ u.
      let a = h.lists u in let b = h.within u in let e = pushed_of u listed x in omega (arith, a, b, e) in
      let fits = z.has_room (listed ++ x ∷ []) (push_listed z.p listed x h.stands.list.are_listed is fresh) P in
      let l = length-append listed (x ∷ []) in
      omega (arith, fits, l)

  -- it isn't
  first : IsRedo z.p → (l : i < len) → (w.fram (word_place z.p.map Version) ≡ w.fram (version_address z.p x) → ⊥)
      → Result (versioned_stored place (list_place z.p) i v w)
  first redo l unmarked =
      let p = z.p in
      let f = w.fram in
      let apart = z.apart in
      let list = list_place p in
      let is = is_copied l in
      let fresh : Contains listed x → ⊥ = λ d. unmarked (sym (h.stands.list.marked x d)) in
      let fits = one_more is fresh in
      let at_c = copy_is p x elements len c at in
      let at_n = version_is p x elements len c at in
      let at_e = element_is p x elements len (Some c) at in
      let w2 : WordState = record w { fram = after_mark p x v f } in
      let shorter : length listed ≤ z.room.list = omega (arith, fits) in
      let pairs = mark_keeps_pairs p z.first z.room listed x v f apart is redo shorter h.stands.list in
      let names = ap (length {A = CopyPair}) pairs in
      let mapped = length-map listed (element_pair p) in
      let lists = lists_word p z.written z.room z.ver (element_address p x) (copy_address p x) w2 apart z.even (omega (arith, names, mapped, fits))
      (mark_keeps_words p z.first z.room listed x v f apart is redo shorter h.stands.list)
      (All-same HasNext _ (map (element_pair p) listed) pairs (elements_have_next p z.room listed apart h.stands.list.are_listed.copied)) in
      let g = lists.memory in
      let now = first_stored_at p z.room x v f g apart is lists.elsewhere redo in
      let here : ℕ → ℕ → ℕ → Type 0 = λ a b d.
      word_listed list d a (record w { fram = put (put f a v) b (f (word_place p.map Version)) }) ≡ going_on lists.effects (record w { fram = g }) in
      let does : here (2 * i + c.copies) (2 * i + c.versions) (2 * i + elements) =
      subst (λ d. here (2 * i + c.copies) (2 * i + c.versions) d) at_e
      (subst (λ b. here (2 * i + c.copies) b (element_address p x)) at_n (subst (λ a. here a (version_address p x) (element_address p x)) at_c lists.does)) in
      let number = f (word_place p.map Version) in
      let P : List Effect → ℕ → ℕ → Type 0 = λ es a b. Does z f most w.stack (going_on (Store a v ∷ Store b number ∷ es) (record w { fram = g }))
      (λ answers. goes_on (answered_by answers after)) in
      let all = Store (copy_address p x) v ∷ Store (version_address p x) number ∷ lists.effects in
      let went : P lists.effects (copy_address p x) (version_address p x) = settles z f most w.stack all (record w { fram = g }) after (record {
        did = redo_did redo all (at_copy x is refl, (at_version x is refl h.number, lists.stores));
        untold = copy_untold (Store (version_address p x) number ∷ lists.effects) is ∙ mark_untold number lists.effects is ∙ lists.untold;
        stack_kept = refl;
        listed = listed ++ x ∷ [];
        stands = record {
          variables = element_set p z.room x v m.variables f g (locals_from z.own w.locals) is now h.stands.variables;
          emitted = same_emits p z.room m.emitted f g (few_emitted h)
              (first_emits p z.room x v f g apart is lists.elsewhere redo) h.stands.emitted;
          list = first_list p z.first listed x v f g is unmarked h.stands.list now (record {
            pairs = λ redo. lists.pairs ∙ ap (λ l. l ++ element_pair p x ∷ []) pairs ∙ sym (map-append (element_pair p) listed (x ∷ []));
            runs = λ redo. lists.have;
            count = λ undo. absurd (cc (redo, undo));
          });
          readings = h.stands.readings;
        };
        few = λ u. subst (λ a. a ≤ most u) (sym (pushed_of u listed x)) (h.lists u);
      }) in
      subst Result (sym (stores_first place list i v w lists.effects g l (here_copy l) here_number (here_version l) (here_element l)
      (λ e. unmarked (sym (number_stays l) ∙ e ∙ mark_stays l)) (number_stays l) does))
      (subst (λ b. P (lists.effects ++ []) (2 * i + c.copies) b) at_n (subst (λ a. P (lists.effects ++ []) a (version_address p x)) at_c
      (subst (λ es. P es (copy_address p x) (version_address p x)) (sym (append-nil lists.effects)) went)))

  pub store_does : IsRedo z.p → Result (versioned_stored place (list_place z.p) i v w)
  store_does redo = ⊎_elim
      (λ l. ⊎_elim (again redo l) (first redo l) (cases_eq (w.fram (word_place z.p.map Version)) (w.fram (version_address z.p x))))
      past_versioned (cases_lt i len)

  -- where this attempt has the element
  abbrev own : ℕ
  own = own_place (w.fram (word_place z.p.map Version) == w.fram (2 * i + c.versions)) place i

  own_here : i < len → IsHere own
  own_here l = by (w.fram (word_place z.p.map Version) == w.fram (2 * i + c.versions))
    where
      by : (b : Bool) → IsHere (own_place b place i)
      by true = here_copy l
      by false = here_element l

  own_is : IsRedo z.p → i < len → w.fram own ≡ word_at m.variables (Shared n) i
  own_is redo l =
      let P : Option VariablePlace → Type 0 = λ o. own_word z.p w.fram o i ≡ word_at m.variables (Shared n) i in
      let marked = w.fram (word_place z.p.map Version) == w.fram (2 * i + c.versions) in
      by marked
      ∙ sym (ap (λ logging. own_by logging marked (w.fram (2 * i + c.copies)) (w.fram (2 * i + elements))) redo)
      ∙ subst P at.place (h.stands.variables.elements x (has_element z.p x (is_copied l)))
    where
      by : (b : Bool) → w.fram (own_place b place i) ≡ (if b then w.fram (2 * i + c.copies) else w.fram (2 * i + elements))
      by true = refl
      by false = refl

  -- where the word is what an operation gives of the element and of another, an update is this store
  is_store : IsRedo z.p → (op : PlainOperation) (y : ℕ) → plain_word op (word_at m.variables (Shared n) i) y ≡ v
      → versioned_updated op place (list_place z.p) i y w ≡ versioned_stored place (list_place z.p) i v w
  is_store redo op y given =
      ⊎_elim
      (λ l. update_stores op place (list_place z.p) i y v w l here_number (here_version l) (own_here l) (number_stays l)
      (mark_stays l ∙ ap w.fram (version_is z.p x elements len c at)) (ap (λ u. plain_word op u y) (own_is redo l) ∙ given))
      (λ l. updates_nothing op place (list_place z.p) i y v w l) (cases_lt i len)

  pub element_update_does : IsRedo z.p → (op : PlainOperation) (y : ℕ) → plain_word op (word_at m.variables (Shared n) i) y ≡ v
      → Result (versioned_updated op place (list_place z.p) i y w)
  element_update_does redo op y given = subst Result (sym (is_store redo op y given)) (store_does redo)
