-- Scalars that are marked have at most as many words as are counted.
use Rattle.std.proofs.Common.{◌≡◌, ℕ, zero, suc, ◌+◌, ◌<◌, ◌≤◌, Bool, true, false, List, [], ◌∷◌, length, get_or, arith, sym, ap, ◌∙◌}
use Rattle.std.specs.Prelude.{All, AllPairs, IsSomeAnd, slice_get}
use Rattle.std.proofs.lemmas.List.Elements.{All-head, All-tail}
use Rattle.task_ast.specs.declared.Extent.{Extent}
use Rattle.task_ast.specs.declared.SharedDeclaration.{SharedDeclaration}
use Rattle.cost_bound.specs.Allowance.{shared_sum_from, shared_sum, scalar_part}

-- the words of the variables of these numbers, by those of each
abbrev pub words_of_all : (ℕ → ℕ) → List ℕ → ℕ
words_of_all words [] = 0
words_of_all words (x ∷ xs) = words x + words_of_all words xs

-- the variable of a number takes no more words than a scalar of its declaration that is assigned
abbrev pub HasWords : List SharedDeclaration → ℕ → ℕ → Type 0
HasWords ds i n = IsSomeAnd (slice_get ds i) (λ d. n ≤ scalar_part true d.extent)

module _ (marks : ℕ → Bool) (words : ℕ → ℕ) where
  -- among the declarations from number k on, number x is one that has its words and is marked
  record IsMarked (k : ℕ) (ds : List SharedDeclaration) (x : ℕ) : Type 0 where
    behind : ℕ
    is : x ≡ k + behind
    has : HasWords ds behind (words x)
    marked : marks x ≡ true

  abbrev counted : ℕ → List SharedDeclaration → ℕ
  counted k ds = shared_sum_from (λ i extent. scalar_part (marks i) extent) k ds

  -- of a number behind the first
  not_first : (k : ℕ) (d : SharedDeclaration) (ds : List SharedDeclaration) (x : ℕ) → k < x → IsMarked k (d ∷ ds) x → IsMarked (k + 1) ds x
  not_first k d ds x l h = by h.behind h.is h.has
    where
      by : (j : ℕ) → x ≡ k + j → HasWords (d ∷ ds) j (words x) → IsMarked (k + 1) ds x
      by zero e s = absurd (omega (arith, l, e))
      by (suc j) e s = record { behind = j; is = omega (arith, e); has = s; marked = h.marked }

  one_counted : (b : Bool) (e : Extent) (n : ℕ) → b ≡ true → n ≤ scalar_part true e → n ≤ scalar_part b e
  one_counted true e n h s = s
  one_counted false e n h s = cc

  -- the first number is the first declaration's, or all are of those behind it
  first_or_none : (k : ℕ) (d : SharedDeclaration) (ds : List SharedDeclaration) (x : ℕ) (xs : List ℕ) → AllPairs ◌<◌ (x ∷ xs)
      → All (IsMarked k (d ∷ ds)) (x ∷ xs)
      → (All (IsMarked (k + 1) ds) xs → words_of_all words xs ≤ counted (k + 1) ds)
      → (All (IsMarked (k + 1) ds) (x ∷ xs) → words_of_all words (x ∷ xs) ≤ counted (k + 1) ds)
      → words_of_all words (x ∷ xs) ≤ counted k (d ∷ ds)
  first_or_none k d ds x xs ascending h others all = by first.behind first.is first.has
    where
      first : IsMarked k (d ∷ ds) x
      first = All-head (IsMarked k (d ∷ ds)) x xs h

      above : (j e : ℕ) → j < length xs → x < get_or xs j e
      above j e l = ascending 0 (suc j) e (omega arith) (omega (arith, l))

      by : (j : ℕ) → x ≡ k + j → HasWords (d ∷ ds) j (words x) → words_of_all words (x ∷ xs) ≤ counted k (d ∷ ds)
      by zero e s =
          let at : x ≡ k = omega (arith, e) in
          let one : words x ≤ scalar_part (marks k) d.extent = one_counted (marks k) d.extent (words x) (sym (ap marks at) ∙ first.marked) s in
          let rest = others (λ j n l. let lower = above j n l in
          not_first k d ds (get_or xs j n) (omega (arith, lower, at)) (All-tail (IsMarked k (d ∷ ds)) x xs h j n l)) in
          omega (arith, one, rest)
      by (suc j) e s =
          let front = not_first k d ds x (omega (arith, e)) first in
          let rest = all (λ i n l. behind i n l front) in
          omega (arith, rest)
        where
          behind : (i n : ℕ) → i < length (x ∷ xs) → IsMarked (k + 1) ds x → IsMarked (k + 1) ds (get_or (x ∷ xs) i n)
          behind zero n l front = front
          behind (suc i) n l front =
              let lower = above i n (omega (arith, l)) in
              not_first k d ds (get_or xs i n) (omega (arith, lower, e)) (All-tail (IsMarked k (d ∷ ds)) x xs h i n (omega (arith, l)))

  counted_from : (k : ℕ) (ds : List SharedDeclaration) (xs : List ℕ) → AllPairs ◌<◌ xs → All (IsMarked k ds) xs → words_of_all words xs ≤ counted k ds
  counted_from k ds [] ascending h = omega arith
  counted_from k [] (x ∷ xs) ascending h = absurd ((All-head (IsMarked k []) x xs h).has)
  counted_from k (d ∷ ds) (x ∷ xs) ascending h =
      first_or_none k d ds x xs ascending h
      (counted_from (k + 1) ds xs (λ i j n l m. ascending (suc i) (suc j) n (omega arith) (omega arith)))
      (counted_from (k + 1) ds (x ∷ xs) ascending)

-- scalars that are marked, their numbers in ascending order, have at most as many words as are counted
pub marked_are_counted : (marks : ℕ → Bool) (words : ℕ → ℕ) (shared : List SharedDeclaration) (xs : List ℕ) → AllPairs ◌<◌ xs
    → All (λ i. HasWords shared i (words i) × (marks i ≡ true)) xs
    → words_of_all words xs ≤ shared_sum (λ i extent. scalar_part (marks i) extent) shared
marked_are_counted marks words shared xs ascending h =
    counted_from marks words 0 shared xs ascending
    (λ k d l.
    let m = h k d l in
    let same : get_or xs k d ≡ 0 + get_or xs k d = omega arith in
    record { behind = get_or xs k d; is = same; has = m.0; marked = m.1 })
