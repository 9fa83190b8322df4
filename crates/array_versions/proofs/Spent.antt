-- What ways spend, against the cycles of programs.
use Rattle.std.proofs.Common.{◌≡◌, ℕ, zero, suc, ◌+◌, ◌-◌, ◌*◌, ◌≤◌, max, Bool, true, false, if◌then◌else◌, List, [], ◌∷◌, refl, arith}
use Rattle.array_versions.specs.declared.operations.Comparison.{Comparison}
use Rattle.array_versions.specs.Operations.{is_true, compare_words}
use Rattle.array_versions.specs.Program.{Step, Test, number}
use Rattle.array_versions.specs.Program.{truth, choose, repeat, call, holds}
use Rattle.array_versions.specs.Program.{compares}
use Rattle.array_versions.specs.Program.{both, either, fails, nothing, step, joined}
use Rattle.array_versions.specs.Behaviour.{WordState, End, GoesOn, Jumps, Gives, Short, Strays, Broken, Behaviour, on_end, with_stack, with_local, called}
use Rattle.array_versions.specs.Behaviour.{step_behaviour, behaviour}
use Rattle.array_versions.specs.Cost.{step_cycles, test_cycles, cycles_of, spent_on, top_spent, words_spent, spent_by_top, spent_by_two, turns_spent}
use Rattle.array_versions.specs.Cost.{step_spent}
use Rattle.array_versions.specs.Cost.{test_spent}
use Rattle.array_versions.specs.Cost.{spent}
use Rattle.array_versions.specs.Laws.{JoinedSpend, WaysKeepToCycles}

-- behind an end no more is spent than from any state
spent_on_most : (e : End) (most : ℕ) (next : WordState → ℕ) → ((s : WordState) → next s ≤ most) → spent_on e next ≤ most
spent_on_most (GoesOn s) most next h = h s
spent_on_most (Jumps to s) most next h = omega arith
spent_on_most (Gives v s) most next h = omega arith
spent_on_most Short most next h = omega arith
spent_on_most Strays most next h = omega arith
spent_on_most Broken most next h = omega arith

top_most : (vs : List ℕ) (most : ℕ) (next : ℕ → List ℕ → ℕ) → ((v : ℕ) (us : List ℕ) → next v us ≤ most) → top_spent vs next ≤ most
top_most [] most next h = omega arith
top_most (v ∷ vs) most next h = h v vs

words_most : (n : ℕ) (vs : List ℕ) (most : ℕ) (next : List ℕ → ℕ) → ((words : List ℕ) → next words ≤ most) → words_spent n vs next ≤ most
words_most zero vs most next h = h []
words_most (suc n) vs most next h = top_most vs most _ (λ v us. words_most n us most _ (λ words. h (v ∷ words)))

-- one of two ways
either_most : (c : Bool) (x y a b : ℕ) → x ≤ a → y ≤ b → (if c then x else y) ≤ max a b
either_most true x y a b h k = omega arith
either_most false x y a b h k = omega arith

-- a way spends at most so many
abbrev SpendsAtMost : (WordState → ℕ) → ℕ → Type 0
SpendsAtMost cost most = (s : WordState) → cost s ≤ most

-- one of two ways, by the top of the stack
by_top_most : (held failed : WordState → ℕ) (a b : ℕ) (s : WordState) → SpendsAtMost held a → SpendsAtMost failed b → spent_by_top held failed s ≤ max a b
by_top_most held failed a b s h k =
    top_most s.stack (max a b) _
    (λ v vs. let u = with_stack vs s in either_most (is_true v) (held u) (failed u) a b (h u) (k u))

-- the same by two words
by_two_most : (op : Comparison) (held failed : WordState → ℕ) (a b : ℕ) (s : WordState) → SpendsAtMost held a → SpendsAtMost failed b
    → spent_by_two op held failed s ≤ max a b
by_two_most op held failed a b s h k =
    top_most s.stack (max a b) _ (λ y us. top_most us (max a b) _
    (λ x vs. let u = with_stack vs s in either_most (compare_words op x y) (held u) (failed u) a b (h u) (k u)))

turns_most : (m n k most : ℕ) (body : WordState → Behaviour) (cost : WordState → ℕ) (s : WordState) → ((t : WordState) → cost t ≤ most)
    → turns_spent m n k body cost s ≤ m * (15 + most)
turns_most zero n k most body cost s h = omega arith
turns_most (suc m) n k most body cost s h =
    let t = with_local n k s in
    omega (arith, h t, spent_on_most (body t).end (m * (15 + most)) (turns_spent m n (k + 1) body cost) (λ u. turns_most m n (k + 1) most body cost u h))

mutual
  step_most : (first : Step) (s : WordState) → step_spent first s ≤ step_cycles first
  step_most (truth t) s = omega (arith, test_most t (λ v. 5) (λ v. 3) 5 3 s (λ v. omega arith) (λ v. omega arith))
  step_most (choose t taken otherwise) s =
      test_most t (λ v. spent taken v + 3) (spent otherwise) (cycles_of taken + 3) (cycles_of otherwise) s
      (λ v. omega (arith, ways_keep_to_cycles taken v)) (ways_keep_to_cycles otherwise)
  step_most (repeat n from below body) s =
      omega (arith, turns_most (below - from) n from (cycles_of body) (behaviour body) (spent body) s (λ t. ways_keep_to_cycles body t))
  step_most (call entry frame first count body) s =
      omega (
        arith,
        words_most count s.stack (cycles_of body) (λ words. spent body (called first words s))
            (λ words. ways_keep_to_cycles body (called first words s)),
      )
  -- of each other step alike: the first clause makes it a proof by cases
  step_most (number w) s = omega arith
  step_most _ s = omega arith

  test_most : (t : Test) (held failed : WordState → ℕ) (a b : ℕ) (s : WordState) → SpendsAtMost held a → SpendsAtMost failed b
      → test_spent t held failed s ≤ test_cycles t + max a b
  test_most (holds p) held failed a b s h k =
      omega (
        arith,
        ways_keep_to_cycles p s,
        spent_on_most (behaviour p s).end (8 + max a b) (λ v. 8 + spent_by_top held failed v) (λ v. omega (arith, by_top_most held failed a b v h k)),
      )
  test_most (compares op p) held failed a b s h k =
      omega (
        arith,
        ways_keep_to_cycles p s,
        spent_on_most (behaviour p s).end (10 + max a b) (λ v. 10 + spent_by_two op held failed v) (λ v. omega (arith, by_two_most op held failed a b v h k)),
      )
  test_most (both t u) held failed a b s h k =
      let second = test_cycles u + max a b in
      omega (arith, test_most t (test_spent u held failed) failed second b s (λ v. test_most u held failed a b v h k) k)
  test_most (either t u) held failed a b s h k =
      let second = test_cycles u + max a b in
      omega (arith, test_most t held (test_spent u held failed) a second s h (λ v. test_most u held failed a b v h k))
  test_most (fails t) held failed a b s h k = omega (arith, test_most t failed held b a s k h)

  -- no way spends more than the program's cycles
  pub ways_keep_to_cycles : WaysKeepToCycles
  ways_keep_to_cycles nothing s = omega arith
  ways_keep_to_cycles (step first more) s =
      omega (arith, step_most first s, spent_on_most (step_behaviour first s).end (cycles_of more) (spent more) (λ t. ways_keep_to_cycles more t))

-- what is spent behind two parts, of which the second stands behind the first
spent_behind : (e : End) (f : WordState → Behaviour) (a b c : WordState → ℕ) → ((s : WordState) → c s ≡ a s + spent_on (f s).end b)
    → spent_on e c ≡ spent_on e a + spent_on (on_end e f).end b
spent_behind (GoesOn s) f a b c h = h s
spent_behind (Jumps to s) f a b c h = refl
spent_behind (Gives v s) f a b c h = refl
spent_behind Short f a b c h = refl
spent_behind Strays f a b c h = refl
spent_behind Broken f a b c h = refl

-- what two programs spend, one behind the other
pub joined_spend : JoinedSpend
joined_spend nothing q s = omega arith
joined_spend (step first more) q s =
    omega (arith, spent_behind (step_behaviour first s).end (behaviour more) (spent more) (spent q) (spent (joined more q)) (joined_spend more q))
