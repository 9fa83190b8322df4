-- Lists of different elements: how many there can be.
use Rattle.layout_facts.proofs.Names.{◌≡◌, ℕ, zero, suc, ◌+◌, ◌<◌, ◌≤◌, ◌⊎◌, inl, inr, Bool, true, false, ◌&&◌, ltb, List, [], ◌∷◌, length, arith, ap, subst}
use Rattle.layout_facts.proofs.Names.{sym, Some, refl, slice_get, All, AllPairs, ◌==◌, cases_Bool, eqb-true, eq-eqb, ne_eqb, lt-ltb, le-ltb, cases_lt, cases_eq}
use Rattle.layout_facts.proofs.Names.{cases_order, and_right, All-head, All-tail, Extent, SharedDeclaration, shared_sum_from, list_part, is_scalar, Element}
use Rattle.layout_facts.proofs.Names.{listed_of, AreDifferent}
use Rattle.task_ast.specs.declared.Extent.TheVariants.{Scalar, Long, Array}
use Rattle.alp_words.specs.Words.{bit}

-- how many of these elements are of an array and have an index below a number
abbrev below_in : ℕ → ℕ → List Element → ℕ
below_in v n [] = 0
below_in v n (x ∷ xs) = bit ((x.array == v) && ltb x.index n) + below_in v n xs

-- how many are this very element
abbrev count_at : ℕ → ℕ → List Element → ℕ
count_at v n [] = 0
count_at v n (x ∷ xs) = bit ((x.array == v) && (x.index == n)) + count_at v n xs

-- an element that differs from all of a list is not in it
none_at : (v n : ℕ) (xs : List Element) → All (λ x. AreDifferent (record { array = v; index = n }) x) xs → count_at v n xs ≡ 0
none_at v n [] h = refl
none_at v n (x ∷ xs) h =
    let differs = All-head (λ y. AreDifferent (record { array = v; index = n }) y) x xs h in
    let rest = none_at v n xs (All-tail (λ y. AreDifferent (record { array = v; index = n }) y) x xs h) in
    by differs rest (cases_Bool (x.array == v)) (cases_Bool (x.index == n))
  where
    by : AreDifferent (record { array = v; index = n }) x → count_at v n xs ≡ 0 → ((x.array == v) ≡ true) ⊎ ((x.array == v) ≡ false)
        → ((x.index == n) ≡ true) ⊎ ((x.index == n) ≡ false)
        → bit ((x.array == v) && (x.index == n)) + count_at v n xs ≡ 0
    by differs rest (inl a) (inl b) =
        let array : v ≡ x.array = sym (eqb-true x.array v a) in
        let index : n ≡ x.index = sym (eqb-true x.index n b) in
        absurd (differs (λ j. record { array = array j; index = index j }))
    by differs rest (inl a) (inr b) = rw (a, b) (omega (arith, rest))
    by differs rest (inr a) b = rw a (omega (arith, rest))

others_differ : (x : Element) (xs : List Element) → AllPairs AreDifferent (x ∷ xs) → AllPairs AreDifferent xs
others_differ x xs h i j d lt k = h (suc i) (suc j) d (omega arith) (omega arith)

first_differs : (x : Element) (xs : List Element) → AllPairs AreDifferent (x ∷ xs) → All (AreDifferent x) xs
first_differs x xs h k d lt = h 0 (suc k) d (omega arith) (omega arith)

-- where all differ, each is there once
once : (v n : ℕ) (xs : List Element) → AllPairs AreDifferent xs → count_at v n xs ≤ 1
once v n [] h = omega arith
once v n (x ∷ xs) h = by (once v n xs (others_differ x xs h)) (cases_Bool (x.array == v)) (cases_Bool (x.index == n))
  where
    none : x.array ≡ v → x.index ≡ n → count_at v n xs ≡ 0
    none a b =
        let same : x ≡ record { array = v; index = n } = λ j. record { array = a j; index = b j } in
        none_at v n xs (subst (λ y. All (AreDifferent y) xs) same (first_differs x xs h))

    by : count_at v n xs ≤ 1 → ((x.array == v) ≡ true) ⊎ ((x.array == v) ≡ false) → ((x.index == n) ≡ true) ⊎ ((x.index == n) ≡ false)
        → bit ((x.array == v) && (x.index == n)) + count_at v n xs ≤ 1
    by rest (inl a) (inl b) = let is = none (eqb-true x.array v a) (eqb-true x.index n b) in rw (a, b) (omega (arith, is))
    by rest (inl a) (inr b) = rw (a, b) (omega (arith, rest))
    by rest (inr a) b = rw a (omega (arith, rest))

bit_step : (b : Bool) (i n : ℕ) → bit (b && ltb i (suc n)) ≡ bit (b && ltb i n) + bit (b && (i == n))
bit_step false i n = refl
bit_step true i n = by (cases_order i n)
  where
    by : (i ≡ n) ⊎ ((i < n) ⊎ (n < i)) → bit (ltb i (suc n)) ≡ bit (ltb i n) + bit (i == n)
    by (inl e) = rw (lt-ltb i (suc n) (omega (arith, e)), le-ltb i n (omega (arith, e)), eq-eqb i n e)
    by (inr (inl lt)) = rw (lt-ltb i (suc n) (omega (arith, lt)), lt-ltb i n lt, ne_eqb i n (λ e. omega (arith, e, lt)))
    by (inr (inr gt)) = rw (le-ltb i (suc n) (omega (arith, gt)), le-ltb i n (omega (arith, gt)), ne_eqb i n (λ e. omega (arith, e, gt)))

below_step : (v n : ℕ) (xs : List Element) → below_in v (suc n) xs ≡ below_in v n xs + count_at v n xs
below_step v n [] = refl
below_step v n (x ∷ xs) =
    let here : bit ((x.array == v) && ltb x.index (suc n)) ≡ bit ((x.array == v) && ltb x.index n) + bit ((x.array == v) && (x.index == n)) =
    bit_step (x.array == v) x.index n in
    let rest : below_in v (suc n) xs ≡ below_in v n xs + count_at v n xs = below_step v n xs in
    omega (arith, here, rest)

none_below : (v : ℕ) (xs : List Element) → below_in v 0 xs ≡ 0
none_below v [] = refl
none_below v (x ∷ xs) = rw (and_right (x.array == v) (ltb x.index 0) (le-ltb x.index 0 (omega arith))) (let rest = none_below v xs in omega (arith, rest))

below_most : (v n : ℕ) (xs : List Element) → AllPairs AreDifferent xs → below_in v n xs ≤ n
below_most v zero xs h = let none = none_below v xs in omega (arith, none)
below_most v (suc n) xs h =
    let less = below_most v n xs h in
    let one = once v n xs h in
    let step = below_step v n xs in
    omega (arith, less, one, step)

all_below : (v n : ℕ) (xs : List Element) → All (λ x. x.array ≡ v → x.index < n) xs → listed_of v xs ≡ below_in v n xs
all_below v n [] h = refl
all_below v n (x ∷ xs) h = by (all_below v n xs (All-tail (λ x. x.array ≡ v → x.index < n) x xs h)) (cases_Bool (x.array == v))
  where
    by : listed_of v xs ≡ below_in v n xs → ((x.array == v) ≡ true) ⊎ ((x.array == v) ≡ false)
        → bit (x.array == v) + listed_of v xs ≡ bit ((x.array == v) && ltb x.index n) + below_in v n xs
    by rest (inl a) =
        let lt = All-head (λ x. x.array ≡ v → x.index < n) x xs h (eqb-true x.array v a) in
        rw (a, lt-ltb x.index n lt) (ap (λ k. 1 + k) rest)
    by rest (inr a) = rw a (omega (arith, rest))

-- different elements of an array are no more than it has
pub listed_most : (v n : ℕ) (xs : List Element) → AllPairs AreDifferent xs → All (λ x. x.array ≡ v → x.index < n) xs → listed_of v xs ≤ n
listed_most v n xs h k = let is = all_below v n xs k in let most = below_most v n xs h in omega (arith, is, most)

-- where none is of a variable, none is listed of it
pub listed_none : (v : ℕ) (xs : List Element) → All (λ x. x.array ≡ v → ⊥) xs → listed_of v xs ≡ 0
listed_none v [] h = refl
listed_none v (x ∷ xs) h =
    let other = ne_eqb x.array v (All-head (λ x. x.array ≡ v → ⊥) x xs h) in
    let rest = listed_none v xs (All-tail (λ x. x.array ≡ v → ⊥) x xs h) in
    rw other (omega (arith, rest))

-- ---- sums over the variables

sum_zero : (i : ℕ) (ds : List SharedDeclaration) → shared_sum_from (λ k e. 0) i ds ≡ 0
sum_zero i [] = refl
sum_zero i (d ∷ ds) = let rest : shared_sum_from (λ k e. 0) (i + 1) ds ≡ 0 = sum_zero (i + 1) ds in omega (arith, rest)

sum_split : (f g : ℕ → ℕ) (i : ℕ) (ds : List SharedDeclaration)
    → shared_sum_from (λ k e. f k + g k) i ds ≡ shared_sum_from (λ k e. f k) i ds + shared_sum_from (λ k e. g k) i ds
sum_split f g i [] = refl
sum_split f g i (d ∷ ds) =
    let rest : shared_sum_from (λ k e. f k + g k) (i + 1) ds ≡ shared_sum_from (λ k e. f k) (i + 1) ds + shared_sum_from (λ k e. g k) (i + 1) ds =
    sum_split f g (i + 1) ds in
    omega (arith, rest)

none_of : (v i : ℕ) (ds : List SharedDeclaration) → v < i → shared_sum_from (λ k e. bit (v == k)) i ds ≡ 0
none_of v i [] lt = refl
none_of v i (d ∷ ds) lt =
    let rest : shared_sum_from (λ k e. bit (v == k)) (i + 1) ds ≡ 0 = none_of v (i + 1) ds (omega (arith, lt)) in
    rw (ne_eqb v i (λ e. omega (arith, e, lt))) (omega (arith, rest))

one_of : (v i : ℕ) (ds : List SharedDeclaration) → i ≤ v → v < i + length ds → shared_sum_from (λ k e. bit (v == k)) i ds ≡ 1
one_of v i [] l h = absurd (omega (arith, l, h))
one_of v i (d ∷ ds) l h = by (λ k. one_of v (i + 1) ds k (omega (arith, h))) (cases_eq v i)
  where
    by : (i + 1 ≤ v → shared_sum_from (λ k e. bit (v == k)) (i + 1) ds ≡ 1) → (v ≡ i) ⊎ (v ≡ i → ⊥)
        → bit (v == i) + shared_sum_from (λ k e. bit (v == k)) (i + 1) ds ≡ 1
    by behind (inl e) = rw (eq-eqb v i e) (ap (λ k. 1 + k) (none_of v (i + 1) ds (omega (arith, e))))
    by behind (inr n) = let rest = behind (later (cases_lt i v)) in rw (ne_eqb v i n) (omega (arith, rest))
      where
        later : (i < v) ⊎ (v ≤ i) → i + 1 ≤ v
        later (inl lt) = omega (arith, lt)
        later (inr ge) = absurd (n (omega (arith, ge, l)))

-- elements of as many arrays are counted by their arrays
pub all_counted : (ds : List SharedDeclaration) (xs : List Element) → All (λ x. x.array < length ds) xs
    → length xs ≡ shared_sum_from (λ k e. listed_of k xs) 0 ds
all_counted ds [] h = sym (sum_zero 0 ds)
all_counted ds (x ∷ xs) h =
    let here : shared_sum_from (λ k e. bit (x.array == k)) 0 ds ≡ 1 =
    one_of x.array 0 ds (omega arith) (let lt = All-head (λ x. x.array < length ds) x xs h in omega (arith, lt)) in
    let rest : length xs ≡ shared_sum_from (λ k e. listed_of k xs) 0 ds = all_counted ds xs (All-tail (λ x. x.array < length ds) x xs h) in
    let both : shared_sum_from (λ k e. bit (x.array == k) + listed_of k xs) 0 ds
    ≡ shared_sum_from (λ k e. bit (x.array == k)) 0 ds + shared_sum_from (λ k e. listed_of k xs) 0 ds
    = sum_split (λ k. bit (x.array == k)) (λ k. listed_of k xs) 0 ds in
    omega (arith, here, rest, both)

-- a sum of parts that are each at most another
pub sum_at_most : (f g : ℕ → Extent → ℕ) (i : ℕ) (ds : List SharedDeclaration)
    → ((k j : ℕ) (d : SharedDeclaration) → slice_get ds k ≡ Some d → j ≡ i + k → f j d.extent ≤ g j d.extent)
    → shared_sum_from f i ds ≤ shared_sum_from g i ds
sum_at_most f g i [] h = omega arith
sum_at_most f g i (d ∷ ds) h =
    let here : f i d.extent ≤ g i d.extent = h 0 i d refl (omega arith) in
    let rest : shared_sum_from f (i + 1) ds ≤ shared_sum_from g (i + 1) ds = sum_at_most f g (i + 1) ds (λ k j d e at. h (suc k) j d e (omega (arith, at))) in
    omega (arith, here, rest)

-- so many stores, and no more than there are elements
pub part_at_most : (listed stores : ℕ) (e : Extent) → listed ≤ stores → (is_scalar e ≡ true → listed ≡ 0) → ((n : ℕ) → e ≡ Array n → listed ≤ n)
    → listed ≤ list_part stores e
part_at_most listed stores (Scalar w) h a b = let none = a refl in omega (arith, none)
part_at_most listed stores (Long w) h a b = let none = a refl in omega (arith, none)
part_at_most listed stores (Array n) h a b = let most = b n refl in omega (arith, h, most)
