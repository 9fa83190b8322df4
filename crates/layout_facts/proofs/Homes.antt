-- The words of the variables fill their region.
use Rattle.layout_facts.proofs.Names.{◌≡◌, ℕ, suc, ◌+◌, ◌*◌, ◌%◌, ◌/◌, ◌-◌, ◌<◌, ◌≤◌, ◌⊎◌, inl, inr, Bool, List, [], ◌∷◌, length, map, sym, ap, arith, Some}
use Rattle.layout_facts.proofs.Names.{refl, slice_get, cases_lt, Extent, SharedDeclaration, shared_sum_from, is_written, Region, VariablePlace, Scalar, Array}
use Rattle.layout_facts.proofs.Names.{end_of, scalar_words, AreInOrder, home_region, even_of, home_between, one_home, home_part, IsPlaceOf}
use Rattle.layout_facts.proofs.Names.{SharedWordsAreOfVariables, WordsOfVariablesAreShared, EachIsOneWord}
use Rattle.task_ast.specs.declared.Extent.TheVariants as extent
use Rattle.cost_bound.specs.Summaries.{summaries}

pub words_of_variables_are_shared : WordsOfVariablesAreShared
words_of_variables_are_shared p allow plans l h v i a w =
    let b = home_between l h.layout.rules v i a w in
    let end = b.end in
    record { even = b.even; from = b.from; below = omega (arith, end) }

pub each_is_one_word : EachIsOneWord
each_is_one_word p allow plans l h v w i j a s t = one_home l h.layout.rules v i w j a s t

-- ---- no gaps

-- the words of the variables at these places
abbrev place_words : List VariablePlace → ℕ
place_words [] = 0
place_words (v ∷ vs) = (home_region v).words + place_words vs

part_is : (written : Bool) (e : Extent) (v : VariablePlace) → IsPlaceOf written e v → home_part e ≡ (home_region v).words
part_is written (extent.Scalar w) (Scalar home copy width) k = sym (ap scalar_words k)
part_is written (extent.Long n) (Scalar home copy width) k = sym (ap scalar_words k)
part_is written (extent.Array n) (Array elements length copies) k = sym k.0
part_is written (extent.Scalar w) (Array _ _ _) k = absurd k
part_is written (extent.Long n) (Array _ _ _) k = absurd k
part_is written (extent.Array n) (Scalar _ _ _) k = absurd k

sum_is : (written : ℕ → Bool) (i : ℕ) (ds : List SharedDeclaration) (vs : List VariablePlace) → length vs ≡ length ds
    → ((k : ℕ) (d : SharedDeclaration) (v : VariablePlace) → slice_get ds k ≡ Some d → slice_get vs k ≡ Some v → IsPlaceOf (written k) d.extent v)
    → shared_sum_from (λ k e. home_part e) i ds ≡ place_words vs
sum_is written i [] [] e h = refl
sum_is written i [] (v ∷ vs) e h = absurd (omega (arith, e))
sum_is written i (d ∷ ds) [] e h = absurd (omega (arith, e))
sum_is written i (d ∷ ds) (v ∷ vs) e h =
    let here = part_is (written 0) d.extent v (h 0 d v refl refl) in
    let rest = sum_is (λ k. written (suc k)) (i + 1) ds vs (omega (arith, e)) (λ k d v x y. h (suc k) d v x y) in
    omega (arith, here, rest)

take_room : (from : ℕ) (vs : List VariablePlace) (end : ℕ) → AreInOrder from (map home_region vs) end → from + 2 * place_words vs ≤ end
take_room from [] end h = omega (arith, h)
take_room from (v ∷ vs) end (b, rest) = let r = take_room (end_of (home_region v)) vs end rest in let f = b.from in omega (arith, r, f)

-- a word among those of the variables at these places
record IsAmongWords (vs : List VariablePlace) (a : ℕ) : Type 0 where
  number : ℕ
  index : ℕ
  place : VariablePlace
  at : slice_get vs number ≡ Some place
  below : index < (home_region place).words
  address : a ≡ 2 * index + (home_region place).address

next_word : (v : VariablePlace) (vs : List VariablePlace) (a : ℕ) → IsAmongWords vs a → IsAmongWords (v ∷ vs) a
next_word v vs a w = record { number = suc w.number; index = w.index; place = w.place; at = w.at; below = w.below; address = w.address }

half : (a from address words : ℕ) → address ≡ from → from % 2 ≡ 0 → a % 2 ≡ 0 → from ≤ a → a < address + 2 * words
    → (i : ℕ) × (i < words) × (a ≡ 2 * i + address)
half a from address words e f g l h = ((a - from) / 2, omega arith, omega arith)

found : (from : ℕ) (vs : List VariablePlace) (end a : ℕ) → AreInOrder from (map home_region vs) end → end ≤ from + 2 * place_words vs → from % 2 ≡ 0 → a % 2 ≡ 0
    → from ≤ a → a < end → IsAmongWords vs a
found from [] end a h t f g l k = absurd (omega (arith, t, l, k))
found from (v ∷ vs) end a (b, rest) t f g l k = pick (cases_lt a (end_of (home_region v))) (found (end_of (home_region v)) vs end a rest)
  where
    r : Region
    r = home_region v

    begins : r.address ≡ from
    begins = let room = take_room (end_of r) vs end rest in let x = b.from in omega (arith, room, x, t)

    pick : (a < end_of r) ⊎ (end_of r ≤ a) → (end ≤ end_of r + 2 * place_words vs → end_of r % 2 ≡ 0 → a % 2 ≡ 0 → end_of r ≤ a → a < end → IsAmongWords vs a)
        → IsAmongWords (v ∷ vs) a
    pick (inl lt) behind =
        let i = half a from r.address r.words begins f g l lt in
        record { number = 0; index = i.0; place = v; at = refl; below = i.1; address = i.2 }
    pick (inr ge) behind =
        let x = begins in
        next_word v vs a (behind (omega (arith, x, t)) (omega (arith, x, f)) g ge k)

pub shared_words_are_of_variables : SharedWordsAreOfVariables
shared_words_are_of_variables p allow plans l h a s =
    let sum = sum_is (is_written (summaries p) p.tasks) 0 p.shared l.variables h.layout.variables.count h.layout.variables.each in
    let words = h.layout.homes in
    let room : end_of l.homes ≤ l.homes.address + 2 * place_words l.variables = omega (arith, sum, words) in
    let w = found l.homes.address l.variables (end_of l.homes) a h.layout.rules.homes room (even_of l h.layout.rules).homes s.even s.from s.below in
    (w.number, w.index, record { place = w.place; at = w.at; below = w.below; address = w.address })
