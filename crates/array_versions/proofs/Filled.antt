-- The bodies of the functions that a program calls: neither its words nor its locals are those of the bodies.
use Rattle.std.proofs.Common.{◌≡◌, ℕ, ◌+◌, max, refl, ap, ap₂, arith}
use Rattle.array_versions.specs.Program.{Step, Test, Program, number, truth, choose, repeat, call, holds, compares, both, either, fails, nothing, step}
use Rattle.array_versions.specs.Program.{joined, step_filled, test_filled, filled}
use Rattle.array_versions.specs.Form.{StepOfWords, TestOfWords, OfWords, step_locals, test_locals, locals_of}
use Rattle.array_versions.specs.Cost.{step_words, test_words, words_of}
use Rattle.array_versions.specs.Laws.{FilledWords, FilledLocals, FilledOfWords, FilledJoined}

module _ (bodies : ℕ → Program) where
  -- words
  mutual
    step_filled_words : (first : Step) → step_words (step_filled bodies first) ≡ step_words first
    step_filled_words (truth t) = ap (λ n. n + 3) (test_filled_words t)
    step_filled_words (choose t taken otherwise) = omega (arith, test_filled_words t, words_filled taken, words_filled otherwise)
    step_filled_words (repeat n from below body) = omega (arith, words_filled body)
    step_filled_words (call entry frame first count body) = refl
    -- of each other step alike: the first clause makes it a proof by cases
    step_filled_words (number w) = refl
    step_filled_words _ = refl

    test_filled_words : (t : Test) → test_words (test_filled bodies t) ≡ test_words t
    test_filled_words (holds p) = omega (arith, words_filled p)
    test_filled_words (compares op p) = omega (arith, words_filled p)
    test_filled_words (both t u) = omega (arith, test_filled_words t, test_filled_words u)
    test_filled_words (either t u) = omega (arith, test_filled_words t, test_filled_words u)
    test_filled_words (fails t) = test_filled_words t

    words_filled : (p : Program) → words_of (filled bodies p) ≡ words_of p
    words_filled nothing = refl
    words_filled (step first more) = omega (arith, step_filled_words first, words_filled more)

  -- locals
  mutual
    step_filled_locals : (first : Step) → step_locals (step_filled bodies first) ≡ step_locals first
    step_filled_locals (truth t) = test_filled_locals t
    step_filled_locals (choose t taken otherwise) = ap₂ max (test_filled_locals t) (ap₂ max (locals_filled taken) (locals_filled otherwise))
    step_filled_locals (repeat n from below body) = ap (max (n + 1)) (locals_filled body)
    step_filled_locals (call entry frame first count body) = refl
    -- of each other step alike: the first clause makes it a proof by cases
    step_filled_locals (number w) = refl
    step_filled_locals _ = refl

    test_filled_locals : (t : Test) → test_locals (test_filled bodies t) ≡ test_locals t
    test_filled_locals (holds p) = locals_filled p
    test_filled_locals (compares op p) = locals_filled p
    test_filled_locals (both t u) = ap₂ max (test_filled_locals t) (test_filled_locals u)
    test_filled_locals (either t u) = ap₂ max (test_filled_locals t) (test_filled_locals u)
    test_filled_locals (fails t) = test_filled_locals t

    locals_filled : (p : Program) → locals_of (filled bodies p) ≡ locals_of p
    locals_filled nothing = refl
    locals_filled (step first more) = ap₂ max (step_filled_locals first) (locals_filled more)

  -- a program of words with bodies of words
  module _ (words : (entry : ℕ) → OfWords (bodies entry)) where
    mutual
      step_filled_of_words : (first : Step) → StepOfWords first → StepOfWords (step_filled bodies first)
      step_filled_of_words (truth t) h = test_filled_of_words t h
      step_filled_of_words (choose t taken otherwise) h = (test_filled_of_words t h.0, of_words_filled taken h.1, of_words_filled otherwise h.2)
      step_filled_of_words (repeat n from below body) h = (h.0, h.1, h.2, of_words_filled body h.3)
      step_filled_of_words (call entry frame first count body) h = (h.0, h.1, h.2, h.3, words entry)
      -- of each other step alike: the first clause makes it a proof by cases
      step_filled_of_words (number w) h = h
      step_filled_of_words first h = h

      test_filled_of_words : (t : Test) → TestOfWords t → TestOfWords (test_filled bodies t)
      test_filled_of_words (holds p) h = of_words_filled p h
      test_filled_of_words (compares op p) h = of_words_filled p h
      test_filled_of_words (both t u) h = (test_filled_of_words t h.0, test_filled_of_words u h.1)
      test_filled_of_words (either t u) h = (test_filled_of_words t h.0, test_filled_of_words u h.1)
      test_filled_of_words (fails t) h = test_filled_of_words t h

      of_words_filled : (p : Program) → OfWords p → OfWords (filled bodies p)
      of_words_filled nothing h = tt
      of_words_filled (step first more) h = (step_filled_of_words first h.0, of_words_filled more h.1)

pub filled_words : FilledWords
filled_words bodies p = words_filled bodies p

pub filled_locals : FilledLocals
filled_locals bodies p = locals_filled bodies p

pub filled_of_words : FilledOfWords
filled_of_words bodies p words h = of_words_filled bodies words p h

pub filled_joined : FilledJoined
filled_joined bodies nothing q = refl
filled_joined bodies (step first more) q = ap (step (step_filled bodies first)) (filled_joined bodies more q)
