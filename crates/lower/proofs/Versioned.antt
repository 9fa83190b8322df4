-- A store to an element: to its copy, and the first time in an attempt to its version word and to the commit list.
use Rattle.lower.proofs.Names.{◌≡◌, ℕ, zero, suc, ◌+◌, ◌*◌, ◌==◌, ◌<◌, ◌≤◌, List, [], ◌∷◌, ◌++◌, length, map, Option, Some, Contains, true, Bool, refl, sym}
use Rattle.lower.proofs.Names.{ap, ◌∙◌, subst, arith, ne_eqb, lt-ltb, le-ltb, ⊎_elim, if◌then◌else◌, All-append, All-map, All-weaker}
use Rattle.lower.proofs.Names.{Contains-append_left, Contains-append_right, Contains-append_cases, Contains-get_or, all_pairs_push, Effect, Store, put}
use Rattle.lower.proofs.Names.{put_at, put_other, Shared, Variables, word_at, with_word, PlainOperation, plain_word, ArrayPlace, ListPlace, WordState}
use Rattle.lower.proofs.Names.{Behaviour, behind_effects, is_place, at_place, stored, word_listed, first_stored, own_stored, versioned_stored, own_place}
use Rattle.lower.proofs.Names.{own_kept, own_updated, versioned_updated, Room, AreApart, AreDifferent, AreListed, listed_of, own_word, HoldVariables}
use Rattle.lower.proofs.Names.{element_pair, HoldList, entries_from, entries_alike, word_place, ListLength, EmitCount, Version, Array, Places, scalar_address}
use Rattle.lower.proofs.Names.{IsScalarAt, IsScalarWord, Element, IsElement, IsCopied, Spot, scalar, element, copy, version, IsSpot, copy_address}
use Rattle.lower.proofs.Names.{version_address, spot_address, Logging, Redo, Undo, IsRedo, IsUndo, own_by}
use Rattle.std.proofs.Common.{slice_get, All, eq-eqb}
use Rattle.array_versions.specs.Behaviour.{goes_on}
use Rattle.lower.proofs.Addresses.{placed, has_element, element_is, copy_is, version_is, no_scalar, word_scalar, same_element, same_or_not}
use Rattle.lower.proofs.Stored.{word_same, word_other, set_holds, own_same, EmitsStay, few_entries}
use Rattle.lower.proofs.Lists.{HaveWords, HasNext, IsElse}

-- ---- what the step does

-- a store to an element whose version word is VER: its copy alone
pub stores_again : (place : ArrayPlace) (list : ListPlace) (i v : ℕ) (s : WordState) → let c = 2 * i + place.copies in let n = 2 * i + place.versions in
    i < place.length → is_place c ≡ true → is_place list.ver ≡ true → is_place n ≡ true → put s.fram c v list.ver ≡ put s.fram c v n
    → versioned_stored place list i v s ≡ goes_on (Store c v ∷ []) (stored c v s)
stores_again place list i v s below is_c is_ver is_n same =
    let c = 2 * i + place.copies in
    let n = 2 * i + place.versions in
    let t : WordState = stored c v s in
    let a : Behaviour = goes_on (Store c v ∷ []) t in
    let b : Behaviour = behind_effects (Store c v ∷ []) (first_stored place list i t) in
    let last : Behaviour = if t.fram list.ver == t.fram n then a else b in
    ap (λ z. if z then own_stored place list i v s else goes_on [] s) (lt-ltb i place.length below)
    ∙ placed c (at_place list.ver (at_place n last)) is_c ∙ placed list.ver (at_place n last) is_ver ∙ placed n last is_n
    ∙ ap (λ z. if z then a else b) (eq-eqb (t.fram list.ver) (t.fram n) same)

-- where the version word isn't VER, behind what lists the word
pub stores_first : (place : ArrayPlace) (list : ListPlace) (i v : ℕ) (s : WordState) (es : List Effect) (g : ℕ → ℕ)
    → let c = 2 * i + place.copies in let n = 2 * i + place.versions in let e = 2 * i + place.elements in
    i < place.length → is_place c ≡ true → is_place list.ver ≡ true → is_place n ≡ true → is_place e ≡ true
    → (put s.fram c v list.ver ≡ put s.fram c v n → ⊥) → put s.fram c v list.ver ≡ s.fram list.ver
    → word_listed list e c (record s { fram = put (put s.fram c v) n (s.fram list.ver) }) ≡ goes_on es (record s { fram = g })
    → versioned_stored place list i v s ≡ goes_on (Store c v ∷ Store n (s.fram list.ver) ∷ es) (record s { fram = g })
stores_first place list i v s es g below is_c is_ver is_n is_e differ kept lists =
    let c = 2 * i + place.copies in
    let n = 2 * i + place.versions in
    let e = 2 * i + place.elements in
    let t : WordState = stored c v s in
    let u = s.fram list.ver in
    let a : Behaviour = goes_on (Store c v ∷ []) t in
    let b : Behaviour = behind_effects (Store c v ∷ []) (first_stored place list i t) in
    let last : Behaviour = if t.fram list.ver == t.fram n then a else b in
    let marked : ℕ → Behaviour = λ z. behind_effects (Store n z ∷ []) (word_listed list e c (stored n z t)) in
    ap (λ z. if z then own_stored place list i v s else goes_on [] s) (lt-ltb i place.length below)
    ∙ placed c (at_place list.ver (at_place n last)) is_c ∙ placed list.ver (at_place n last) is_ver ∙ placed n last is_n
    ∙ ap (λ z. if z then a else b) (ne_eqb (t.fram list.ver) (t.fram n) differ)
    ∙ ap (λ z. behind_effects (Store c v ∷ []) (at_place e (marked z))) kept
    ∙ ap (behind_effects (Store c v ∷ [])) (placed e (marked u) is_e)
    ∙ ap (λ z. behind_effects (Store c v ∷ []) (behind_effects (Store n u ∷ []) z)) lists

-- past the end nothing is stored
pub stores_nothing : (place : ArrayPlace) (list : ListPlace) (i v : ℕ) (s : WordState) → place.length ≤ i → versioned_stored place list i v s ≡ goes_on [] s
stores_nothing place list i v s past = ap (λ z. if z then own_stored place list i v s else goes_on [] s) (le-ltb i place.length past)

-- an update is the store of what the operation gives, where a store of the copy leaves VER and the version word
pub update_stores : (op : PlainOperation) (place : ArrayPlace) (list : ListPlace) (i v u : ℕ) (s : WordState)
    → let c = 2 * i + place.copies in let n = 2 * i + place.versions in let a = own_place (s.fram list.ver == s.fram n) place i in
    i < place.length → is_place list.ver ≡ true → is_place n ≡ true → is_place a ≡ true
    → put s.fram c u list.ver ≡ s.fram list.ver → put s.fram c u n ≡ s.fram n → plain_word op (s.fram a) v ≡ u
    → versioned_updated op place list i v s ≡ versioned_stored place list i u s
update_stores op place list i v u s below is_ver is_n is_a number mark given =
    let c = 2 * i + place.copies in
    let n = 2 * i + place.versions in
    let t : WordState = stored c u s in
    let b = s.fram list.ver == s.fram n in
    let a = own_place b place i in
    let by_mark : Bool → Behaviour = λ z. if z then goes_on (Store c u ∷ []) t else behind_effects (Store c u ∷ []) (first_stored place list i t) in
    let last = by_mark (t.fram list.ver == t.fram n) in
    let kept = own_kept b place list i (plain_word op (s.fram a) v) s in
    ap (λ z. if z then own_updated op place list i v s else goes_on [] s) (lt-ltb i place.length below)
    ∙ placed list.ver (at_place n (at_place a kept)) is_ver ∙ placed n (at_place a kept) is_n ∙ placed a kept is_a
    ∙ ap (λ w. own_kept b place list i w s) given
    ∙ sym (λ j. at_place c (by_mark (number j == mark j)))
    ∙ sym (ap (at_place c) (placed list.ver (at_place n last) is_ver ∙ placed n last is_n))
    ∙ sym (ap (λ z. if z then own_stored place list i u s else goes_on [] s) (lt-ltb i place.length below))

-- past the end too: nothing is stored
pub updates_nothing : (op : PlainOperation) (place : ArrayPlace) (list : ListPlace) (i v u : ℕ) (s : WordState) → place.length ≤ i
    → versioned_updated op place list i v s ≡ versioned_stored place list i u s
updates_nothing op place list i v u s past =
    ap (λ z. if z then own_updated op place list i v s else goes_on [] s) (le-ltb i place.length past) ∙ sym (stores_nothing place list i u s past)

-- ---- an element stored

-- where a task that writes an array stores its elements: under redo in their copies, under undo where they stand
abbrev pub own_spot : Logging → Element → Spot
own_spot Redo x = copy x
own_spot Undo x = element x

-- that is no word of a scalar and no version word, and of one element alone
no_scalar_own : (logging : Logging) (x : Element) (u j : ℕ) → scalar u j ≡ own_spot logging x → ⊥
no_scalar_own Redo x u j e = cc
no_scalar_own Undo x u j e = cc

pub no_version_own : (logging : Logging) (x y : Element) → version y ≡ own_spot logging x → ⊥
no_version_own Redo x y e = cc
no_version_own Undo x y e = cc

element_own : (logging : Logging) (x y : Element) → element y ≡ own_spot logging x → x ≡ y
element_own Redo x y e = absurd (cc)
element_own Undo x y e = cc

copy_own : (logging : Logging) (x y : Element) → copy y ≡ own_spot logging x → x ≡ y
copy_own Redo x y e = cc
copy_own Undo x y e = absurd (cc)

pub is_own : (p : Places) (logging : Logging) (x : Element) → IsCopied p x → IsSpot p (own_spot logging x)
is_own p Redo x is = is
is_own p Undo x is = has_element p x is

-- an element has this word where it is stored, and its version word is VER; all other words that the task works on stay
pub record IsStored (p : Places) (x : Element) (v : ℕ) (f g : ℕ → ℕ) : Type 0 where
  pub number : g (word_place p.map Version) ≡ f (word_place p.map Version)
  pub mark : g (version_address p x) ≡ f (word_place p.map Version)
  pub own : g (spot_address p (own_spot p.map.runtime.logging x)) ≡ v
  pub spots : (s : Spot) → IsSpot p s → (s ≡ own_spot p.map.runtime.logging x → ⊥) → (s ≡ version x → ⊥) → g (spot_address p s) ≡ f (spot_address p s)

-- an element whose version word is VER is as it is stored
own_stays : (p : Places) (g : ℕ → ℕ) (x : Element) → IsCopied p x → g (word_place p.map Version) ≡ g (version_address p x)
    → own_word p g (slice_get p.map.variables x.array) x.index ≡ g (spot_address p (own_spot p.map.runtime.logging x))
own_stays p g x is e = ap (λ o. own_word p g o x.index) is.is_array.place ∙ by p.map.runtime.logging
  where
    n : ℕ
    n = 2 * x.index + is.copies.versions

    by : (logging : Logging)
        → own_by logging (g (word_place p.map Version) == g n) (g (2 * x.index + is.copies.copies)) (g (2 * x.index + is.elements))
        ≡ g (spot_address p (own_spot logging x))
    by Redo =
        ap (λ b. if b then g (2 * x.index + is.copies.copies) else g (2 * x.index + is.elements))
        (eq-eqb (g (word_place p.map Version)) (g n) (e ∙ ap g (version_is p x is.elements is.length is.copies is.is_array)))
        ∙ sym (ap g (copy_is p x is.elements is.length is.copies is.is_array))
    by Undo = sym (ap g (element_is p x is.elements is.length (Some is.copies) is.is_array))

pub element_set : (p : Places) (room : Room) (x : Element) (v : ℕ) (m : Variables) (f g : ℕ → ℕ) (locals : ℕ → Option ℕ) → IsCopied p x → IsStored p x v f g
    → HoldVariables p m f locals → HoldVariables p (with_word m (Shared x.array) x.index v) g locals
element_set p room x v m f g locals is k h =
    set_holds p x.array x.index v m f g locals row h words (λ y of. ⊎_elim (same y) (other y of) (same_or_not x y))
  where
    row : x.array < length m.shared
    row = h.rows x.array (Array is.elements is.length (Some is.copies)) is.is_array.place

    words : (u j : ℕ) → IsScalarWord p u j → g (scalar_address p u j) ≡ word_at (with_word m (Shared x.array) x.index v) (Shared u) j
    words u j of =
        let ne : u ≡ x.array → ⊥ =
        λ e. no_scalar p x.array is.elements is.length (Some is.copies) is.is_array (subst (IsScalarAt p) e (word_scalar p u j of)) in
        k.spots (scalar u j) of (no_scalar_own p.map.runtime.logging x u j) (λ e. cc) ∙ h.words u j of
        ∙ sym (word_other m x.array x.index v u j row (λ e. absurd (ne e)))

    same : (y : Element) → x ≡ y
        → own_word p g (slice_get p.map.variables y.array) y.index ≡ word_at (with_word m (Shared x.array) x.index v) (Shared y.array) y.index
    same y e =
        let P : Element → Type 0 = λ z. own_word p g (slice_get p.map.variables z.array) z.index ≡ word_at (with_word m (Shared x.array) x.index v)
        (Shared z.array) z.index in
        let l = h.lengths x.array (Array is.elements is.length (Some is.copies)) is.is_array.place in
        let below = is.below in
        subst P e (own_stays p g x is (k.number ∙ sym k.mark) ∙ k.own ∙ sym (word_same m x.array x.index v row (omega (arith, l, below))))

    other : (y : Element) → IsElement p y → AreDifferent x y
        → own_word p g (slice_get p.map.variables y.array) y.index ≡ word_at (with_word m (Shared x.array) x.index v) (Shared y.array) y.index
    other y of ne =
        let logging = p.map.runtime.logging in
        own_same p f g y of k.number (k.spots (element y) of (λ e. ne (element_own logging x y e)) (λ e. cc))
        (λ c. k.spots (copy y) c (λ e. ne (copy_own logging x y e)) (λ e. cc))
        (λ c. k.spots (version y) c (no_version_own logging x y) (λ e. let d : x ≡ y = cc in ne d))
        ∙ h.elements y of ∙ sym (word_other m x.array x.index v y.array y.index row (λ a b. ne (same_element x y (sym a) (sym b))))

-- ---- a later store

pub again_stored : (p : Places) (room : Room) (x : Element) (v : ℕ) (f : ℕ → ℕ) → AreApart p room → IsCopied p x → f (word_place p.map Version)
    ≡ f (version_address p x)
    → IsStored p x v f (put f (spot_address p (own_spot p.map.runtime.logging x)) v)
again_stored p room x v f apart is marked =
    let s = own_spot p.map.runtime.logging x in
    let own = is_own p p.map.runtime.logging x is in
    let low = apart.spots s own in
    let a = spot_address p s in
    record {
      number = put_other f a v (word_place p.map Version) (λ e. omega (arith, e, low, apart));
      mark = put_other f a v (version_address p x) (λ e. no_version_own p.map.runtime.logging x x (apart.distinct (version x) s is own e)) ∙ sym marked;
      own = put_at f a v a refl;
      spots = λ t of ne d. put_other f a v (spot_address p t) (λ e. ne (apart.distinct t s of own e));
    }

-- ---- the first store

-- FRAM behind the copy and the version word
abbrev pub after_mark : Places → Element → ℕ → (ℕ → ℕ) → ℕ → ℕ
after_mark p x v f = put (put f (copy_address p x) v) (version_address p x) (f (word_place p.map Version))

mark_keeps : (p : Places) (x : Element) (v a : ℕ) (f : ℕ → ℕ) → (a ≡ copy_address p x → ⊥) → (a ≡ version_address p x → ⊥) → after_mark p x v f a ≡ f a
mark_keeps p x v a f c n =
    put_other (put f (copy_address p x) v) (version_address p x) (f (word_place p.map Version)) a n ∙ put_other f (copy_address p x) v a c

-- a word in front of the emitted ones' end
pub mark_keeps_low : (p : Places) (room : Room) (x : Element) (v a : ℕ) (f : ℕ → ℕ) → AreApart p room → IsCopied p x
    → a < p.map.emits.address + 2 * room.emits → after_mark p x v f a ≡ f a
mark_keeps_low p room x v a f apart is low =
    let c = apart.spots (copy x) is in
    let n = apart.spots (version x) is in
    mark_keeps p x v a f (λ e. omega (arith, e, low, c)) (λ e. omega (arith, e, low, n))

-- FRAM behind them and the commit list
module _ (p : Places) (room : Room) (x : Element) (v : ℕ) (f g : ℕ → ℕ) (apart : AreApart p room) (is : IsCopied p x)
    (elsewhere : (a : ℕ) → IsElse (word_place p.map ListLength) p.map.list.address room.list a → g a ≡ after_mark p x v f a) (redo : IsRedo p) where
  -- behind the list
  behind : (a : ℕ) → p.map.emits.address ≤ a → g a ≡ after_mark p x v f a
  behind a low = elsewhere a (record { not_count = λ e. omega (arith, e, low, apart); outside = λ from to. omega (arith, low, to, apart) })

  -- in front of it
  low_keeps : (a : ℕ) → a < p.map.list.address → (a ≡ word_place p.map ListLength → ⊥) → g a ≡ f a
  low_keeps a low d =
      elsewhere a (record { not_count = d; outside = λ from to. omega (arith, low, from) })
      ∙ mark_keeps_low p room x v a f apart is (omega (arith, low, apart))

  spot_keeps : (s : Spot) → IsSpot p s → (s ≡ copy x → ⊥) → (s ≡ version x → ⊥) → g (spot_address p s) ≡ f (spot_address p s)
  spot_keeps s of c n =
      let low = apart.spots s of in
      behind (spot_address p s) (omega (arith, low))
      ∙ mark_keeps p x v (spot_address p s) f (λ e. c (apart.distinct s (copy x) of is e)) (λ e. n (apart.distinct s (version x) of is e))

  pub first_stored_at : IsStored p x v f g
  first_stored_at =
      let c = copy_address p x in
      let n = version_address p x in
      let f1 : ℕ → ℕ = put f c v in
      let at_c = apart.spots (copy x) is in
      let at_n = apart.spots (version x) is in
      record {
        number = low_keeps (word_place p.map Version) (omega (arith, apart)) (λ e. omega (arith, e, apart));
        mark = behind n (omega (arith, at_n)) ∙ put_at f1 n (f (word_place p.map Version)) n refl;
        own = ap (λ logging. g (spot_address p (own_spot logging x))) redo ∙ behind c (omega (arith, at_c))
            ∙ put_other f1 n (f (word_place p.map Version)) c (λ e. let d = (apart.distinct (copy x) (version x) is is e) in cc) ∙ put_at f c v c refl;
        spots = λ s of ne d. spot_keeps s of (λ e. ne (e ∙ sym (ap (λ logging. own_spot logging x) redo))) d;
      }

  pub first_emits : EmitsStay p room f g
  first_emits = record {
    emit_count = low_keeps (word_place p.map EmitCount) (omega (arith, apart)) (λ e. omega (arith, e, apart));
    buffer = λ i l. behind (2 * i + p.map.emits.address) (omega arith)
        ∙ mark_keeps_low p room x v (2 * i + p.map.emits.address) f apart is (omega (arith, l));
  }

-- ---- one more in the list

pub pushed_of : (v : ℕ) (xs : List Element) (x : Element) → listed_of v (xs ++ x ∷ []) ≡ listed_of v xs + (if x.array == v then 1 else 0)
pushed_of v [] x = omega arith
pushed_of v (y ∷ xs) x = let h = pushed_of v xs x in omega (arith, h)

all_single : (P : Element → Type 0) (x : Element) → P x → All P (x ∷ [])
all_single P x h zero d l = h
all_single P x h (suc k) d l = absurd (omega (arith, l))

single : (x y : Element) → Contains (x ∷ []) y → x ≡ y
single x y (zero, l, e) = e
single x y (suc k, l, e) = absurd (omega (arith, l))

pub push_listed : (p : Places) (xs : List Element) (x : Element) → AreListed p xs → IsCopied p x → (Contains xs x → ⊥) → AreListed p (xs ++ x ∷ [])
push_listed p xs x h is fresh = record {
  copied = All-append (IsCopied p) xs (x ∷ []) h.copied (all_single (IsCopied p) x is);
  different = all_pairs_push AreDifferent xs x h.different (λ k d l e. fresh (subst (Contains xs) e (Contains-get_or xs k d l)));
}

-- the list is in front of all that a task works on
pub mark_keeps_pairs : (p : Places) (first : ℕ) (room : Room) (xs : List Element) (x : Element) (v : ℕ) (f : ℕ → ℕ) → AreApart p room → IsCopied p x
    → IsRedo p → length xs ≤ room.list → HoldList p first xs f
    → entries_from (after_mark p x v f (word_place p.map ListLength)) p.map.list.address (after_mark p x v f) ≡ map (element_pair p) xs
mark_keeps_pairs p first room xs x v f apart is redo few h =
    let n = f (word_place p.map ListLength) in
    let list = p.map.list.address in
    let entries = few_entries p first xs f redo h in
    ap (λ j. entries_from j list (after_mark p x v f)) (mark_keeps_low p room x v (word_place p.map ListLength) f apart is (omega (arith, apart)))
    ∙ entries_alike n list f (after_mark p x v f) (λ a from to. mark_keeps_low p room x v a f apart is (omega (arith, to, entries, few, apart)))
    ∙ h.pairs redo

pub mark_keeps_words : (p : Places) (first : ℕ) (room : Room) (xs : List Element) (x : Element) (v : ℕ) (f : ℕ → ℕ) → AreApart p room → IsCopied p x
    → IsRedo p → length xs ≤ room.list → HoldList p first xs f
    → HaveWords p.map.list.address (after_mark p x v f (word_place p.map ListLength)) (after_mark p x v f)
mark_keeps_words p first room xs x v f apart is redo few h i l =
    let list = p.map.list.address in
    let entries = few_entries p first xs f redo h in
    let before : i < f (word_place p.map ListLength) =
    subst (λ j. i < j) (mark_keeps_low p room x v (word_place p.map ListLength) f apart is (omega (arith, apart))) l in
    subst (λ y. 0 < y) (sym (mark_keeps_low p room x v (list + 6 * i + 4) f apart is (omega (arith, before, entries, few, apart)))) (h.runs redo i before)

-- each listed element has a word behind it, and so has its copy
pub elements_have_next : (p : Places) (room : Room) (xs : List Element) → AreApart p room → All (IsCopied p) xs → All HasNext (map (element_pair p) xs)
elements_have_next p room xs apart copied =
    All-map HasNext (element_pair p) xs (All-weaker (IsCopied p) (λ x. HasNext (element_pair p x)) (λ x is.
    let home = apart.below (element x) (has_element p x is) in
    let copied_to = apart.below (copy x) is in
    record { home = omega (arith, home); copy = omega (arith, copied_to) }) xs copied)

-- what the list holds then, by its entries
pub record IsPushed (p : Places) (first : ℕ) (xs : List Element) (g : ℕ → ℕ) : Type 0 where
  pub pairs : IsRedo p → entries_from (g (word_place p.map ListLength)) p.map.list.address g ≡ map (element_pair p) xs
  pub runs : IsRedo p → HaveWords p.map.list.address (g (word_place p.map ListLength)) g
  pub count : IsUndo p → g (word_place p.map ListLength) ≡ first + length xs

pub first_list : (p : Places) (first : ℕ) (xs : List Element) (x : Element) (v : ℕ) (f g : ℕ → ℕ) → IsCopied p x
    → (f (word_place p.map Version) ≡ f (version_address p x) → ⊥) → HoldList p first xs f → IsStored p x v f g
    → IsPushed p first (xs ++ x ∷ []) g → HoldList p first (xs ++ x ∷ []) g
first_list p first xs x v f g is unmarked h now pushed = record {
  are_listed = push_listed p xs x h.are_listed is fresh;
  pairs = pushed.pairs;
  runs = pushed.runs;
  count = pushed.count;
  marked = λ y c. ⊎_elim (λ e. subst (λ z. g (version_address p z) ≡ g (word_place p.map Version)) e (now.mark ∙ sym now.number))
      (λ ne. still y ne (old y ne c)) (same_or_not x y);
  only_marked = λ y of e. ⊎_elim (λ d. subst (Contains (xs ++ x ∷ [])) d last)
      (λ ne. Contains-append_left xs (x ∷ []) y (h.only_marked y of (sym (mark_stays y of ne) ∙ e ∙ now.number))) (same_or_not x y);
}
  where
    fresh : Contains xs x → ⊥
    fresh c = unmarked (sym (h.marked x c))

    mark_stays : (y : Element) → IsCopied p y → AreDifferent x y → g (version_address p y) ≡ f (version_address p y)
    mark_stays y of ne = now.spots (version y) of (no_version_own p.map.runtime.logging x y) (λ e. let d : x ≡ y = cc in ne d)

    old : (y : Element) → AreDifferent x y → Contains (xs ++ x ∷ []) y → Contains xs y
    old y ne c = ⊎_elim (λ a. a) (λ b. absurd (ne (single x y b))) (Contains-append_cases xs (x ∷ []) y c)

    still : (y : Element) → AreDifferent x y → Contains xs y → g (version_address p y) ≡ g (word_place p.map Version)
    still y ne c = mark_stays y (subst (IsCopied p) c.2 (h.are_listed.copied c.0 y c.1)) ne ∙ h.marked y c ∙ sym now.number

    last : Contains (xs ++ x ∷ []) x
    last = Contains-append_right xs (x ∷ []) x (0, omega arith, refl)
