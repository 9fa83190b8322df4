-- Words that are put into an image.
use Rattle.link_image.proofs.Names.{◌≡◌, ◌≢◌, ◌∙◌, ◌+◌, ◌-◌, ◌*◌, ◌/◌, ◌%◌, ◌<◌, ◌≤◌, ◌==◌, ◌&&◌, ℕ, zero, suc, Bool, true, false, cond, if◌then◌else◌, List}
use Rattle.link_image.proofs.Names.{[], ◌∷◌, map, drop, length, replicate, refl, sym, ap, subst, arith, eqb-true, slice_index, slice_set, get_or}
use Rattle.link_image.proofs.Names.{get_or-set_same, get_or-set_other, at_drop_more, SharedDeclaration, place_of, IsFram, fram_of, initial_words}
use Rattle.link_image.proofs.Names.{fram_first, reset_vector, OneWord, TwoWords, Scalar, Array, MemoryMap, end_of, home_region, AreInOrder, IsLaidOut}
use Rattle.link_image.proofs.Names.{in_order_end, parts_in_fram, is_within, word_of_row, shared_word, AreWords, All-nil, All-cons}
use Rattle.task_ast.specs.declared.Extent.TheVariants as extent
use Rattle.image_text.specs.ImageValue.{zeros}
use Rattle.std.proofs.lemmas.Bool.Decides.{nat_tests}
use Rattle.machine_effects.proofs.Interface.{zeros_at}
use Rattle.task_ast.specs.declared.Extent.{Extent}
use Rattle.fram_board.specs.Bus.{is_fram}
use Rattle.memory_map.specs.declared.place.Region.{Region}
use Rattle.memory_map.specs.declared.place.VariablePlace.{VariablePlace}
use Rattle.source_maps.specs.Placing.{IsOfKind, ArePlacesOf}
use Rattle.link_image.specs.Initial.{initial_put}
use Rattle.image_laws.proofs.Interface.{fram_at, within, none_before}

-- a word that is set
pub fram_set : (ws : List ℕ) (at w a : ℕ) → length ws ≡ 24064 → IsFram at → IsFram a → fram_of (slice_set ws (place_of at) w) a
    ≡ (if a == at then w else fram_of ws a)
fram_set ws at w a count there here = go (a == at) refl
  where
    place : (x : ℕ) → IsFram x → place_of x < length ws
    place x h = let low = h.low in let high = h.high in omega (arith, count, low, high)

    go : (b : Bool) → (a == at) ≡ b → fram_of (slice_set ws (place_of at) w) a ≡ (if b then w else fram_of ws a)
    go true e =
        let same : a ≡ at = eqb-true a at e in
        fram_at (slice_set ws (place_of at) w) a here ∙ ap (λ x. slice_index (slice_set ws (place_of at) w) (place_of x)) same
        ∙ get_or-set_same ws (place_of at) w 0 (place at there)
    go false e =
        let low = here.low in let even = here.even in let other_low = there.low in let other_even = there.even in
        let apart : place_of a ≢ place_of at = λ same. grind (arith, nat_tests, e, low, even, other_low, other_even, same) in
        fram_at (slice_set ws (place_of at) w) a here ∙ get_or-set_other ws (place_of at) (place_of a) w 0 apart ∙ sym (fram_at ws a here)

-- the words that declarations begin with
abbrev pub rows_of : List SharedDeclaration → List (List ℕ)
rows_of ds = map (λ d. initial_words d.extent) ds

-- an image without words has none
pub blank_at : (ws : List ℕ) (a : ℕ) → ws ≡ zeros 24064 → fram_of ws a ≡ 0
unfolding zeros
blank_at ws a is = ap (λ x. fram_of x a) is ∙ go ((a % 2 == 0) && is_fram a)
  where
    go : (b : Bool) → cond b (slice_index (replicate 24064 0) (place_of a)) 0 ≡ 0
    go true = zeros_at 24064 (place_of a)
    go false = refl

-- the place of a scalar has its word alone
scalar_word : (home copy w a old : ℕ) (vs : List VariablePlace) (rows : List (List ℕ)) → home % 2 ≡ 0 → a % 2 ≡ 0 → old ≡ shared_word vs rows a
    → (if a == home then w else old) ≡ shared_word (Scalar home copy OneWord ∷ vs) ((w ∷ []) ∷ rows) a
scalar_word home copy w a old vs rows even_home even same = go (a == home) refl
  where
    r : Region
    r = record { address = home; words = 1 }

    go : (b : Bool) → (a == home) ≡ b → (if b then w else old) ≡ cond (is_within r a) (word_of_row r (w ∷ []) a) (shared_word vs rows a)
    go true e =
        let is : a ≡ home = eqb-true a home e in
        let inside : is_within r a ≡ true = within r a (omega (arith, is)) (omega (arith, is)) in
        let index : (a - home) / 2 ≡ 0 = omega (arith, is) in
        sym (ap (λ b. cond b (word_of_row r (w ∷ []) a) (shared_word vs rows a)) inside ∙ ap (slice_index (w ∷ [])) index)
    go false e =
        let outside : is_within r a ≡ false = grind (arith, nat_tests, e, even_home, even) in
        same ∙ sym (ap (λ b. cond b (word_of_row r (w ∷ []) a) (shared_word vs rows a)) outside)

-- the place of a long has its two words alone
long_word : (home copy low high a old : ℕ) (vs : List VariablePlace) (rows : List (List ℕ)) → home % 2 ≡ 0 → a % 2 ≡ 0 → old ≡ shared_word vs rows a
    → (if a == home + 2 then high else if a == home then low else old) ≡ shared_word (Scalar home copy TwoWords ∷ vs) ((low ∷ high ∷ []) ∷ rows) a
long_word home copy low high a old vs rows even_home even same = go (a == home + 2) (a == home) refl refl
  where
    r : Region
    r = record { address = home; words = 2 }

    row : List ℕ
    row = low ∷ high ∷ []

    its : Bool → ℕ
    its b = cond b (word_of_row r row a) (shared_word vs rows a)

    go : (b c : Bool) → (a == home + 2) ≡ b → (a == home) ≡ c → (if b then high else if c then low else old) ≡ its (is_within r a)
    go true c e f =
        let is : a ≡ home + 2 = eqb-true a (home + 2) e in
        let inside : is_within r a ≡ true = within r a (omega (arith, is)) (omega (arith, is)) in
        let index : (a - home) / 2 ≡ 1 = omega (arith, is) in
        sym (ap its inside ∙ ap (slice_index row) index)
    go false true e f =
        let is : a ≡ home = eqb-true a home f in
        let inside : is_within r a ≡ true = within r a (omega (arith, is)) (omega (arith, is)) in
        let index : (a - home) / 2 ≡ 0 = omega (arith, is) in
        sym (ap its inside ∙ ap (slice_index row) index)
    go false false e f =
        let outside : is_within r a ≡ false = grind (arith, nat_tests, e, f, even_home, even) in
        same ∙ sym (ap its outside)

-- an array has no words yet, behind it neither
array_word : (elements n a end : ℕ) (place : VariablePlace) (vs : List VariablePlace) (rows : List (List ℕ)) (old : ℕ)
    → AreInOrder (end_of (home_region place)) (map home_region vs) end
    → old ≡ shared_word vs rows a → old ≡ shared_word (place ∷ vs) (replicate n 0 ∷ rows) a
array_word elements n a end place vs rows old order same = go (is_within (home_region place) a) refl
  where
    r : Region
    r = home_region place

    go : (b : Bool) → is_within r a ≡ b → old ≡ cond b (word_of_row r (replicate n 0) a) (shared_word vs rows a)
    go true e =
        let below : a < end_of r = grind (arith, nat_tests, e) in
        same ∙ none_before (end_of r) end a vs rows order below ∙ sym (zeros_at n ((a - r.address) / 2))
    go false e = same

-- one more variable, from the last to the first: the words of the rest stand, and its own is put if it is a scalar
variable_put : (e : Extent) (place : VariablePlace) (vs : List VariablePlace) (rows : List (List ℕ)) (from end a old : ℕ) → IsOfKind e place
    → AreInOrder from (map home_region (place ∷ vs)) end → a % 2 ≡ 0 → old ≡ shared_word vs rows a
    → initial_put e place a old ≡ shared_word (place ∷ vs) (initial_words e ∷ rows) a
variable_put (extent.Scalar w) (Scalar home copy width) vs rows from end a old kind order even same =
    scalar_word home copy w a old vs rows order.0.even even same ∙ ap (λ x. shared_word (Scalar home copy x ∷ vs) ((w ∷ []) ∷ rows) a) (sym kind)
variable_put (extent.Long n) (Scalar home copy width) vs rows from end a old kind order even same =
    let low = n % 65536 in
    let high = n / 65536 in
    long_word home copy low high a old vs rows order.0.even even same
    ∙ ap (λ x. shared_word (Scalar home copy x ∷ vs) ((low ∷ high ∷ []) ∷ rows) a) (sym kind)
variable_put (extent.Scalar w) (Array elements n copies) vs rows from end a old kind order even same = absurd kind
variable_put (extent.Long v) (Array elements n copies) vs rows from end a old kind order even same = absurd kind
variable_put (extent.Array n) (Scalar home copy width) vs rows from end a old kind order even same = absurd kind
variable_put (extent.Array n) (Array elements m copies) vs rows from end a old kind order even same =
    array_word elements n a end (Array elements m copies) vs rows old order.1 same

-- places from a number on
pub record FromHere (ds : List SharedDeclaration) (vs : List VariablePlace) (low end : ℕ) : Type 0 where
  pub places : ArePlacesOf ds vs
  pub from : ℕ
  pub above : low ≤ from
  pub order : AreInOrder from (map home_region vs) end

from_number : (ds : List SharedDeclaration) (vs : List VariablePlace) (low end i : ℕ) → FromHere ds vs low end → FromHere (drop i ds) (drop i vs) low end
from_number ds vs low end zero h = h
from_number [] [] low end (suc i) h = h
from_number [] (v ∷ vs) low end (suc i) h = absurd h.places
from_number (d ∷ ds) [] low end (suc i) h = absurd h.places
from_number (d ∷ ds) (v ∷ vs) low end (suc i) h =
    let above = h.above in let start = h.order.0.from in
    from_number ds vs low end i (record { places = h.places.1; from = end_of (home_region v); above = omega (arith, above, start); order = h.order.1 })

-- the variable of a number, and those behind it
pub record IsNext (d : SharedDeclaration) (v : VariablePlace) (ds : List SharedDeclaration) (vs : List VariablePlace) (low end : ℕ) : Type 0 where
  pub here : FromHere (d ∷ ds) (v ∷ vs) low end

pub same_length : (ds : List SharedDeclaration) (vs : List VariablePlace) → ArePlacesOf ds vs → length ds ≡ length vs
same_length [] [] h = refl
same_length [] (v ∷ vs) h = absurd h
same_length (d ∷ ds) [] h = absurd h
same_length (d ∷ ds) (v ∷ vs) h = let r = same_length ds vs h.1 in omega (arith, r)

-- the variable of a number, with its declaration
module _ (ds : List SharedDeclaration) (vs : List VariablePlace) (low end i : ℕ) (d : SharedDeclaration) (v : VariablePlace) (places : ArePlacesOf ds vs)
    (order : AreInOrder low (map home_region vs) end) (l : i < length ds) (m : i < length vs) (e : d ≡ get_or ds i d) (f : v ≡ get_or vs i v) where
  pub next_of : IsNext d v (drop (i + 1) ds) (drop (i + 1) vs) low end
  next_of =
      let all : FromHere ds vs low end = record { places = places; from = low; above = omega arith; order = order } in
      let there = from_number ds vs low end i all in
      let one = subst (λ xs. FromHere xs (drop i vs) low end) (at_drop_more (λ xs. xs) ds i d l ∙ ap (λ x. x ∷ drop (i + 1) ds) (sym e)) there in
      record { here = subst (λ xs. FromHere (d ∷ drop (i + 1) ds) xs low end) (at_drop_more (λ xs. xs) vs i v m ∙ ap (λ x. x ∷ drop (i + 1) vs) (sym f)) one }

  pub next_put : (a old new : ℕ) → a % 2 ≡ 0 → old ≡ shared_word (drop (i + 1) vs) (rows_of (drop (i + 1) ds)) a → new ≡ initial_put d.extent v a old
      → new ≡ shared_word (drop i vs) (rows_of (drop i ds)) a
  next_put a old new even same put =
      let n = next_of.here in
      put ∙ variable_put d.extent v (drop (i + 1) vs) (rows_of (drop (i + 1) ds)) n.from end a old n.places.0 n.order even same
      ∙ sym (at_drop_more (λ xs. shared_word (drop i vs) (rows_of xs) a) ds i d l ∙ ap (λ x. shared_word (drop i vs) (rows_of (x ∷ drop (i + 1) ds)) a) (sym e)
      ∙ at_drop_more (λ xs. shared_word xs (rows_of (d ∷ drop (i + 1) ds)) a) vs i v m
      ∙ ap (λ x. shared_word (x ∷ drop (i + 1) vs) (rows_of (d ∷ drop (i + 1) ds)) a) (sym f))

-- one more word behind others
pub word_put : (at k w a old new : ℕ) (ws : List ℕ) → at % 2 ≡ 0 → a % 2 ≡ 0 → w ≡ slice_index ws k → k < length ws
    → new ≡ (if a == at + 2 * k then w else (if is_within (record { address = at; words = k }) a then slice_index ws ((a - at) / 2) else old))
    → new ≡ (if is_within (record { address = at; words = k + 1 }) a then slice_index ws ((a - at) / 2) else old)
word_put at k w a old new ws even_at even word less put = put ∙ go (a == at + 2 * k) refl
  where
    r : Region
    r = record { address = at; words = k }

    s : Region
    s = record { address = at; words = k + 1 }

    go : (b : Bool) → (a == at + 2 * k) ≡ b
        → (if b then w else (if is_within r a then slice_index ws ((a - at) / 2) else old)) ≡ (if is_within s a then slice_index ws ((a - at) / 2) else old)
    go true e =
        let is : a ≡ at + 2 * k = eqb-true a (at + 2 * k) e in
        let inside : is_within s a ≡ true = within s a (omega (arith, is)) (omega (arith, is)) in
        let index : (a - at) / 2 ≡ k = omega (arith, is) in
        word ∙ ap (slice_index ws) (sym index) ∙ sym (ap (λ b. cond b (slice_index ws ((a - at) / 2)) old) inside)
    go false e =
        let alike : is_within r a ≡ is_within s a = grind (arith, nat_tests, e, even_at, even) in
        ap (λ b. cond b (slice_index ws ((a - at) / 2)) old) alike

-- ---- the places of a layout

wider : (from low end high : ℕ) (vs : List VariablePlace) → low ≤ from → end ≤ high → AreInOrder from (map home_region vs) end
    → AreInOrder low (map home_region vs) high
wider from low end high [] l h o = omega (arith, l, h, o)
wider from low end high (v ∷ vs) l h o =
    let start = o.0.from in
    (record { from = omega (arith, l, start); even = o.0.even }, wider (end_of (home_region v)) (end_of (home_region v)) end high vs (omega arith) h o.1)

pub wider_order : (l : MemoryMap) → IsLaidOut l → AreInOrder fram_first (map home_region l.variables) reset_vector
wider_order l h =
    let homes = (parts_in_fram l h).homes in
    let end = homes.end in
    wider l.homes.address fram_first (end_of l.homes) reset_vector l.variables homes.from (omega (arith, end)) h.homes

-- ---- words

replicated : (n : ℕ) → AreWords (replicate n 0)
replicated zero = All-nil (λ w. w < 0x10000)
replicated (suc n) = All-cons (λ w. w < 0x10000) 0 (replicate n 0) (omega arith) (replicated n)

pub zeros_are_words : (n : ℕ) → AreWords (zeros n)
unfolding zeros
zeros_are_words n = replicated n

-- a variable of a number stands at an even address behind the first, and ends in front of the last
pub record StandsWithin (low end : ℕ) (v : VariablePlace) : Type 0 where
  pub even : (home_region v).address % 2 ≡ 0
  pub above : low ≤ (home_region v).address
  pub below : end_of (home_region v) ≤ end

pub region_at : (vs : List VariablePlace) (low end k : ℕ) (e : VariablePlace) → AreInOrder low (map home_region vs) end → k < length vs
    → StandsWithin low end (get_or vs k e)
region_at [] low end k e o l = absurd (omega (arith, l))
region_at (v ∷ vs) low end zero e o l =
    record { even = o.0.even; above = o.0.from; below = in_order_end (end_of (home_region v)) (map home_region vs) end o.1 }
region_at (v ∷ vs) low end (suc k) e o l =
    let start = o.0.from in
    let r = region_at vs (end_of (home_region v)) end k e o.1 (omega (arith, l)) in
    let above = r.above in record { even = r.even; above = omega (arith, start, above); below = r.below }
