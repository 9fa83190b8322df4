-- A store to an element under undo, as the step of a task: the first time in an attempt the element is listed with the word that stands there,
-- and marked; then it is stored where it stands.
use Rattle.lower.proofs.Names.{◌≡◌, ℕ, ◌+◌, ◌*◌, ◌%◌, ◌==◌, ◌<◌, ◌≤◌, List, [], ◌∷◌, ◌++◌, length, Option, Some, Bool, true, refl, sym, ap}
use Rattle.lower.proofs.Names.{◌∙◌, subst, arith, ⊎_elim, length-append, if◌then◌else◌, cases_eq, cases_lt, lt-ltb, le-ltb, ne_eqb, Effect, Store}
use Rattle.lower.proofs.Names.{put, put_at, put_other, Shared, word_at, with_word, PlainOperation, plain_word, WordState, Behaviour, going_on, then_on}
use Rattle.lower.proofs.Names.{is_place, at_place, behind_effects, behaviour, stored, nothing, ListPlace, LoggedPlace, own_logged, logged_before, logged_stored}
use Rattle.lower.proofs.Names.{logged_updated, word_place, ListLength, EmitCount, Version, ArrayCopies, VariablePlace, word_even, IsArrayAt, Element}
use Rattle.lower.proofs.Names.{IsCopied, element, version, element_address, version_address, IsSpot, spot_address, array_place, list_place, logged_place}
use Rattle.lower.proofs.Names.{own_by, own_word, IsUndo, at_element, at_version, in_list, at_list_length, to_element, word_logged}
use Rattle.lower.proofs.Names.{Scene, answered_by, answers_told}
use Rattle.lower.proofs.Names.{locals_from}
use Rattle.std.proofs.Common.{eq-eqb}
use Rattle.source_values.specs.Statements.{Attempt, goes_on}
use Rattle.lower.proofs.Addresses.{fram_place, placed, spot_place, element_is, version_is, has_element}
use Rattle.lower.proofs.Stored.{EmitsStay, same_emits}
use Rattle.lower.proofs.Versioned.{own_spot, IsStored, again_stored, element_set, first_list, pushed_of}
use Rattle.lower.proofs.Transitions.{untold_store}
use Rattle.lower.proofs.Ends.{Does, DidFrom, settles}
use Rattle.lower.proofs.Elements.{Start, few_listed, few_emitted, spot_stands, past, one_more}

-- a store to an element of array n
module _ (z : Scene) (n i v elements len : ℕ) (c : ArrayCopies) (at : IsArrayAt z.p n elements len (Some c))
    (h : Start z 0 (λ u. if n == u then 1 else 0)) (undo : IsUndo z.p) where
  open h use {m, listed, w, most}

  abbrev f : ℕ → ℕ
  f = w.fram

  abbrev place : LoggedPlace
  place = logged_place (array_place elements len c)

  abbrev list : ListPlace
  list = list_place z.p

  abbrev x : Element
  x = record { array = n; index = i }

  -- where the element stands, and its version word
  abbrev home : ℕ
  home = element_address z.p x

  abbrev mark : ℕ
  mark = version_address z.p x

  abbrev after : Attempt
  after = record m { variables = with_word m.variables (Shared n) i v }

  abbrev Result : Behaviour → Type 0
  Result b = Does z f most w.stack (then_on b (behaviour nothing)) (λ answers. goes_on (answered_by answers after))

  abbrev IsHere : ℕ → Type 0
  IsHere a = is_place a ≡ true

  -- the word that is stored, by the state right in front of the store: that of v where the element is as it was
  abbrev IsWord : (WordState → ℕ) → Type 0
  IsWord word = (t : WordState) → t.fram home ≡ f home → word t ≡ v

  -- the store itself, and all of the step, by both addresses
  abbrev store_at : ℕ → (WordState → ℕ) → WordState → Behaviour
  store_at a word t = going_on (Store a (word t) ∷ []) (stored a (word t) t)

  abbrev step_at : ℕ → ℕ → (WordState → ℕ) → Behaviour
  step_at a b word =
      at_place a (at_place list.ver (at_place b (if f list.ver == f b then store_at a word w else logged_before list a b w (store_at a word))))

  module _ (is : IsCopied z.p x) (word : WordState → ℕ) (is_word : IsWord word) where
    of_element : IsSpot z.p (element x)
    of_element = has_element z.p x is

    home_low : z.p.map.emits.address + 2 * z.room.emits ≤ home
    home_low = z.apart.spots (element x) of_element

    mark_low : z.p.map.emits.address + 2 * z.room.emits ≤ mark
    mark_low = z.apart.spots (version x) is

    -- the element and its version word are two words
    home_mark : home ≡ mark → ⊥
    home_mark e = let d = z.apart.distinct (element x) (version x) of_element is e in cc

    here_number : IsHere (word_place z.p.map Version)
    here_number =
        let apart = z.apart in
        fram_place (word_place z.p.map Version) (word_even z.p.map Version z.even.row) (omega (arith, apart)) (omega (arith, apart))

    -- up to the question whether the element is marked
    opened : step_at home mark word ≡ (if f list.ver == f mark then store_at home word w else logged_before list home mark w (store_at home word))
    opened =
        let last = if f list.ver == f mark then store_at home word w else logged_before list home mark w (store_at home word) in
        placed home (at_place list.ver (at_place mark last)) (spot_place z.p z.room (element x) z.apart z.even of_element)
        ∙ placed list.ver (at_place mark last) here_number
        ∙ placed mark last (spot_place z.p z.room (version x) z.apart z.even is)

    -- ---- it is marked

    module _ (marked : f list.ver ≡ f mark) where
      again_does : step_at home mark word ≡ going_on (Store home v ∷ []) (stored home v w)
      again_does =
          opened
          ∙ ap (λ b. if b then store_at home word w else logged_before list home mark w (store_at home word)) (eq-eqb (f list.ver) (f mark) marked)
          ∙ ap (λ u. going_on (Store home u ∷ []) (stored home u w)) (is_word w refl)

      again_did : DidFrom z f (Store home v ∷ [])
      again_did = record {
        stores = (at_element undo x is refl, tt);
        acts = λ u. record {
          acts = to_element x v ∷ [];
          each = ((is, λ ne. absurd (ne (sym marked))), tt);
          is = ap (λ b. ((if b then [] else (word_logged z.p.map home f ++ (Store mark (f list.ver) ∷ []))) ++ (Store home v ∷ [])) ++ [])
              (sym (eq-eqb (f mark) (f list.ver) (sym marked)));
        };
      }

      again : Result (step_at home mark word)
      again =
          let below = z.apart.below (element x) of_element in
          let own = ap (λ logging. spot_address z.p (own_spot logging x)) undo in
          let now = subst (λ a. IsStored z.p x v f (put f a v)) own (again_stored z.p z.room x v f z.apart is marked) in
          subst Result (sym again_does) (settles z f most w.stack (Store home v ∷ []) (stored home v w) after (record {
            did = again_did;
            untold = untold_store home v [] (λ e. omega (arith, e, below));
            stack_kept = refl;
            listed = listed;
            stands = spot_stands h (element x) v (with_word m.variables (Shared n) i v) of_element (λ y e. cc)
                (element_set z.p z.room x v m.variables f (put f home v) (locals_from z.own w.locals) is now h.stands.variables);
            few = few_listed h;
          }))

    -- ---- it isn't

    module _ (unmarked : f list.ver ≡ f mark → ⊥) where
      -- how many entries there are
      abbrev number : ℕ
      number = f list.cln

      -- the place of the next
      abbrev entry : ℕ
      entry = list.list + 4 * number

      counted : number ≡ z.first + length listed
      counted = h.stands.list.count undo

      fits : number < z.room.list
      fits =
          let more = one_more z n i v elements len c at h is (λ d. unmarked (sym (h.stands.list.marked x d))) in
          let all = counted in
          omega (arith, more, all)

      -- ---- FRAM then

      abbrev fram_listed : ℕ → ℕ → ℕ
      fram_listed old = put (put f entry home) (entry + 2) old

      abbrev fram_counted : ℕ → ℕ → ℕ → ℕ
      fram_counted old count = put (fram_listed old) list.cln count

      abbrev count : ℕ
      count = (number + 1) % 65536

      abbrev fram_marked : ℕ → ℕ
      fram_marked = put (fram_counted (f home) count) mark (f list.ver)

      abbrev g : ℕ → ℕ
      g = put fram_marked home v

      listed_keeps : (old a : ℕ) → (a ≡ entry → ⊥) → (a ≡ entry + 2 → ⊥) → fram_listed old a ≡ f a
      listed_keeps old a ne nx = put_other (put f entry home) (entry + 2) old a nx ∙ put_other f entry home a ne

      -- a word in front of the list
      low_keeps : (old a : ℕ) → a < list.list → fram_listed old a ≡ f a
      low_keeps old a low = listed_keeps old a (λ e. omega (arith, e, low)) (λ e. omega (arith, e, low))

      -- one behind it
      high_keeps : (old a : ℕ) → z.p.map.emits.address ≤ a → fram_listed old a ≡ f a
      high_keeps old a high =
          let apart = z.apart in
          let few = fits in
          listed_keeps old a (λ e. omega (arith, e, high, apart, few)) (λ e. omega (arith, e, high, apart, few))

      -- what isn't stored
      else_keeps : (a : ℕ) → fram_listed (f home) a ≡ f a → (a ≡ list.cln → ⊥) → (a ≡ mark → ⊥) → (a ≡ home → ⊥) → g a ≡ f a
      else_keeps a same nc nm nh =
          put_other fram_marked home v a nh ∙ put_other (fram_counted (f home) count) mark (f list.ver) a nm
          ∙ put_other (fram_listed (f home)) list.cln count a nc ∙ same

      -- the element, in front of its store
      home_kept : fram_marked home ≡ f home
      home_kept =
          let apart = z.apart in
          let low = home_low in
          put_other (fram_counted (f home) count) mark (f list.ver) home home_mark
          ∙ put_other (fram_listed (f home)) list.cln count home (λ e. omega (arith, e, low, apart))
          ∙ high_keeps (f home) home (omega (arith, low))

      -- ---- what the step does

      abbrev effects : List Effect
      effects = Store entry home ∷ Store (entry + 2) (f home) ∷ Store list.cln count ∷ Store mark (f list.ver) ∷ Store home v ∷ []

      here_entry : IsHere entry
      here_entry =
          let apart = z.apart in
          let even = z.even.list in
          let few = fits in
          fram_place entry (omega (arith, even)) (omega (arith, apart)) (omega (arith, apart, few))

      here_word : IsHere (entry + 2)
      here_word =
          let apart = z.apart in
          let even = z.even.list in
          let few = fits in
          fram_place (entry + 2) (omega (arith, even)) (omega (arith, apart)) (omega (arith, apart, few))

      here_count : IsHere list.cln
      here_count =
          let apart = z.apart in
          fram_place list.cln (word_even z.p.map ListLength z.even.row) (omega (arith, apart)) (omega (arith, apart))

      -- the entry, the count and the mark with these words, and the store behind them
      abbrev made : ℕ → ℕ → ℕ → Behaviour
      made old count number =
          behind_effects (Store entry home ∷ Store (entry + 2) old ∷ Store list.cln count ∷ Store mark number ∷ [])
          (store_at home word (stored mark number (stored list.cln count (stored (entry + 2) old (stored entry home w)))))

      made_as : made (put f entry home home) ((fram_listed (put f entry home home) list.cln + 1) % 65536)
          (fram_counted (put f entry home home) ((fram_listed (put f entry home home) list.cln + 1) % 65536) list.ver)
          ≡ made (f home) count (f list.ver)
      made_as =
          let apart = z.apart in
          let low = home_low in
          let few = fits in
          let old : put f entry home home ≡ f home = put_other f entry home home (λ e. omega (arith, e, low, apart, few)) in
          let number_is : fram_listed (f home) list.cln ≡ number = low_keeps (f home) list.cln (omega (arith, apart)) in
          let ver_is : fram_counted (f home) count list.ver ≡ f list.ver =
          put_other (fram_listed (f home)) list.cln count list.ver (λ e. omega (arith, e)) ∙ low_keeps (f home) list.ver (omega (arith, apart)) in
          ap (λ o. made o ((fram_listed o list.cln + 1) % 65536) (fram_counted o ((fram_listed o list.cln + 1) % 65536) list.ver)) old
          ∙ ap (λ k. made (f home) ((k + 1) % 65536) (fram_counted (f home) ((k + 1) % 65536) list.ver)) number_is
          ∙ ap (made (f home) count) ver_is

      first_does : step_at home mark word ≡ going_on effects (record w { fram = g })
      first_does =
          let next = store_at home word in
          let raw = made (put f entry home home) ((fram_listed (put f entry home home) list.cln + 1) % 65536)
          (fram_counted (put f entry home home) ((fram_listed (put f entry home home) list.cln + 1) % 65536) list.ver) in
          let t : WordState = record w { fram = fram_marked } in
          opened
          ∙ ap (λ b. if b then next w else logged_before list home mark w next) (ne_eqb (f list.ver) (f mark) unmarked)
          ∙ placed list.cln (at_place entry (at_place (entry + 2) raw)) here_count ∙ placed entry (at_place (entry + 2) raw) here_entry
          ∙ placed (entry + 2) raw here_word ∙ made_as
          ∙ ap (λ u. behind_effects (Store entry home ∷ Store (entry + 2) (f home) ∷ Store list.cln count ∷ Store mark (f list.ver) ∷ [])
          (going_on (Store home u ∷ []) (stored home u t))) (is_word t home_kept)

      -- ---- what it leaves

      first_did : DidFrom z f effects
      first_did =
          let few = fits in
          let at_most : count ≤ z.room.list = omega (arith, few) in
          record {
            stores = (
              in_list (omega arith) (omega (arith, few)),
              (
                in_list (omega arith) (omega (arith, few)),
                (at_list_length refl at_most, (at_version x is refl h.number, (at_element undo x is refl, tt))),
              ),
            );
            acts = λ u. record {
              acts = to_element x v ∷ [];
              each = ((is, λ ne. few), tt);
              is = ap (λ b. ((if b then [] else (Store entry home ∷ Store (entry + 2) (f home) ∷ Store list.cln count ∷ Store mark (f list.ver) ∷ []))
                  ++ (Store home v ∷ [])) ++ []) (sym (ne_eqb (f mark) (f list.ver) (λ e. unmarked (sym e))));
            };
          }

      first_untold : answers_told effects ≡ []
      first_untold =
          let apart = z.apart in
          let few = fits in
          let at_home = z.apart.below (element x) of_element in
          let at_mark = z.apart.below (version x) is in
          let last = Store home v ∷ [] in
          let marking = Store mark (f list.ver) ∷ last in
          let counting = Store list.cln count ∷ marking in
          untold_store entry home (Store (entry + 2) (f home) ∷ counting) (λ e. omega (arith, e, apart, few))
          ∙ untold_store (entry + 2) (f home) counting (λ e. omega (arith, e, apart, few))
          ∙ untold_store list.cln count marking (λ e. omega (arith, e, apart))
          ∙ untold_store mark (f list.ver) last (λ e. omega (arith, e, at_mark))
          ∙ untold_store home v [] (λ e. omega (arith, e, at_home))

      first_stored : IsStored z.p x v f g
      first_stored =
          let apart = z.apart in
          let at_home = home_low in
          let at_mark = mark_low in
          record {
            number = else_keeps list.ver (low_keeps (f home) list.ver (omega (arith, apart))) (λ e. omega (arith, e)) (λ e. omega (arith, e, at_mark, apart))
                (λ e. omega (arith, e, at_home, apart));
            mark = put_other fram_marked home v mark (λ e. home_mark (sym e))
                ∙ put_at (fram_counted (f home) count) mark (f list.ver) mark refl;
            own = ap (λ logging. g (spot_address z.p (own_spot logging x))) undo ∙ put_at fram_marked home v home refl;
            spots = λ s of ne d.
                let low = z.apart.spots s of in
                let as_own = ap (λ logging. own_spot logging x) undo in
                else_keeps (spot_address z.p s) (high_keeps (f home) (spot_address z.p s) (omega (arith, low))) (λ e. omega (arith, e, low, apart))
                (λ e. d (z.apart.distinct s (version x) of is e)) (λ e. ne (z.apart.distinct s (element x) of of_element e ∙ sym as_own));
          }

      first_emits : EmitsStay z.p z.room f g
      first_emits =
          let apart = z.apart in
          let at_home = home_low in
          let at_mark = mark_low in
          record {
            emit_count = else_keeps (word_place z.p.map EmitCount) (low_keeps (f home) (word_place z.p.map EmitCount) (omega (arith, apart)))
                (λ e. omega (arith, e)) (λ e. omega (arith, e, at_mark, apart)) (λ e. omega (arith, e, at_home, apart));
            buffer = λ j l. else_keeps (2 * j + z.p.map.emits.address) (high_keeps (f home) (2 * j + z.p.map.emits.address) (omega arith))
                (λ e. omega (arith, e, apart)) (λ e. omega (arith, e, at_mark, l)) (λ e. omega (arith, e, at_home, l));
          }

      -- one entry more
      first_count : g list.cln ≡ z.first + length (listed ++ x ∷ [])
      first_count =
          let apart = z.apart in
          let at_home = home_low in
          let at_mark = mark_low in
          let few = fits in
          let all = counted in
          let more = length-append listed (x ∷ []) in
          let up : count ≡ z.first + length (listed ++ x ∷ []) = omega (arith, apart, few, all, more) in
          put_other fram_marked home v list.cln (λ e. omega (arith, e, at_home, apart))
          ∙ put_other (fram_counted (f home) count) mark (f list.ver) list.cln (λ e. omega (arith, e, at_mark, apart))
          ∙ put_at (fram_listed (f home)) list.cln count list.cln refl ∙ up

      first : Result (step_at home mark word)
      first =
          subst Result (sym first_does) (settles z f most w.stack effects (record w { fram = g }) after (record {
            did = first_did;
            untold = first_untold;
            stack_kept = refl;
            listed = listed ++ x ∷ [];
            stands = record {
              variables = element_set z.p z.room x v m.variables f g (locals_from z.own w.locals) is first_stored h.stands.variables;
              emitted = same_emits z.p z.room m.emitted f g (few_emitted h) first_emits h.stands.emitted;
              list = first_list z.p z.first listed x v f g is unmarked h.stands.list first_stored (record {
                pairs = λ redo. absurd (cc (redo, undo));
                runs = λ redo. absurd (cc (redo, undo));
                count = λ u. first_count;
              });
              readings = h.stands.readings;
            };
            few = λ u. subst (λ a. a ≤ most u) (sym (pushed_of u listed x)) (h.lists u);
          }))

    either : Result (step_at home mark word)
    either = ⊎_elim again first (cases_eq (f list.ver) (f mark))

  -- ---- the steps

  is_copied : i < len → IsCopied z.p x
  is_copied l = record { elements = elements; length = len; copies = c; is_array = at; below = l }

  own_does : (l : i < len) (word : WordState → ℕ) → IsWord word → Result (own_logged place list i word w)
  own_does l word is_word =
      subst (λ a. Result (step_at a (2 * i + c.versions) word)) (element_is z.p x elements len (Some c) at)
      (subst (λ b. Result (step_at home b word)) (version_is z.p x elements len c at) (either (is_copied l) word is_word))

  pub logged_does : Result (logged_stored place list i v w)
  logged_does =
      let P : Bool → Type 0 = λ b. Result (if b then own_logged place list i (λ t. v) w else going_on [] w) in
      ⊎_elim (λ l. subst P (sym (lt-ltb i len l)) (own_does l (λ t. v) (λ t e. refl)))
      (λ l. subst P (sym (le-ltb i len l)) (past z n i v elements len c at h l)) (cases_lt i len)

  -- the element is the attempt's word
  held : i < len → f home ≡ word_at m.variables (Shared n) i
  held l =
      let P : Option VariablePlace → Type 0 = λ o. own_word z.p f o i ≡ word_at m.variables (Shared n) i in
      let marked = f list.ver == f (2 * i + c.versions) in
      ap f (element_is z.p x elements len (Some c) at)
      ∙ sym (ap (λ logging. own_by logging marked (f (2 * i + c.copies)) (f (2 * i + elements))) undo)
      ∙ subst P at.place (h.stands.variables.elements x (has_element z.p x (is_copied l)))

  -- where the word is what an operation gives of the element and of another
  pub logged_update_does : (op : PlainOperation) (y : ℕ) → plain_word op (word_at m.variables (Shared n) i) y ≡ v
      → Result (logged_updated op place list i y w)
  logged_update_does op y given =
      let a = 2 * i + elements in
      let word : WordState → ℕ = λ t. plain_word op (t.fram a) y in
      let P : Bool → Type 0 = λ b. Result (if b then own_logged place list i word w else going_on [] w) in
      ⊎_elim
      (λ l. subst P (sym (lt-ltb i len l)) (own_does l word
      (λ t e. ap (λ b. plain_word op (t.fram b) y) (sym (element_is z.p x elements len (Some c) at)) ∙ ap (λ u. plain_word op u y) (e ∙ held l) ∙ given)))
      (λ l. subst P (sym (le-ltb i len l)) (past z n i v elements len c at h l)) (cases_lt i len)
