-- Each step of a body's program: its locals are its own, its loops count, its calls are within their bounds, it leaves as it may, and its numbers are
-- words.
use Rattle.std.proofs.Common.{◌≡◌, ℕ, ◌%◌, ◌<◌, ◌≤◌, Bool, not, List, ap, ◌∙◌, arith}
use Rattle.alp_words.specs.Words.{IsWord}
use Rattle.task_ast.specs.Paths.{CheckedBlock}
use Rattle.array_versions.specs.Program.{Step, Test, Program, nothing, step, joined}
use Rattle.array_versions.specs.Form.{StepEachLocal, TestEachLocal, EachLocal, CallBounds, StepIsFormed, TestIsFormed, IsFormed, StepOfWords, TestOfWords}
use Rattle.array_versions.specs.Form.{OfWords, Spares}
use Rattle.memory_map.specs.Spots.{Places}
use Rattle.lower.specs.Lowered.{local_number, call_step, lowered_block}
use Rattle.whole_programs.proofs.Placed.{PlacesOfWords}
use Rattle.whole_programs.proofs.Fit.{Setting, IsFitBlock}
use Rattle.whole_programs.proofs.Built.{Leaf, a_number, Stores, a_store, EachStep, block_has}
use Rattle.whole_programs.proofs.Spared.{block_spares}

-- what is said of the code of a body: which locals it may have, within which bounds its calls are, and whether it ends by giving a word
pub record Code : Type 1 where
  pub locals : ℕ → Type 0
  pub bounds : CallBounds
  pub gives : Bool

abbrev pub Sound : Code → Program → Type 0
Sound c q = EachLocal c.locals q × IsFormed c.bounds c.gives q × OfWords q

abbrev pub StepSound : Code → Step → Type 0
StepSound c s = StepEachLocal c.locals s × StepIsFormed c.bounds c.gives s × StepOfWords s

abbrev TestSound : Code → Test → Type 0
TestSound c t = TestEachLocal c.locals t × TestIsFormed c.bounds c.gives t × TestOfWords t

-- a step without a local has its numbers alone; the first clauses make them proofs by cases
leaf_sound : (c : Code) (d e : ℕ) (s : Step) → Leaf d e s → StepOfWords s → StepSound c s
leaf_sound c d e s (a_number w) h = (tt, tt, h)
leaf_sound c d e s k h = (tt, tt, h)

store_sound : (c : Code) (p : Places) (s : Step) → Stores p s → StepOfWords s → StepSound c s
store_sound c p s (a_store v) h = (tt, tt, h)
store_sound c p s k h = (tt, tt, h)

sound_joined : (c : Code) (p q : Program) → Sound c p → Sound c q → Sound c (joined p q)
sound_joined c nothing q h k = k
sound_joined c (step first more) q h k =
    let rest = sound_joined c more q (h.0.1, h.1.1, h.2.1) k in ((h.0.0, rest.0), (h.1.0, rest.1), (h.2.0, rest.2))

-- a body whose locals are those of its code, which ends as it may, and each of whose calls is sound
pub record IsOwnCode (p : Places) (rs : List Program) (g : Setting) (c : Code) : Type 0 where
  pub locals : (n : ℕ) → n < 256 → n < g.own → c.locals (local_number p n)
  pub ends : c.gives ≡ not g.in_task
  pub calls : (k count : ℕ) → count ≤ 256 → g.calls k count → StepSound c (call_step p rs k (count % 65536))

module _ (p : Places) (rs : List Program) (g : Setting) (c : Code) (own : IsOwnCode p rs g c) where
  -- the number of a local
  number_is_word : (n : ℕ) → IsWord (local_number p n)
  number_is_word n = omega arith

  abbrev each_sound : EachStep p rs g
  each_sound = record {
    of_step = StepSound c;
    of_program = Sound c;
    of_test = TestSound c;
    spared = λ y. ⊥;
    of_body = Spares;
    leaf = leaf_sound c;
    stores = store_sound c p;
    jumps = λ ends commit. (tt, own.ends ∙ ap not ends, commit);
    gives = λ ends. (tt, own.ends ∙ ap not ends, tt);
    called = own.calls;
    reads = λ n l low. (own.locals n l low, tt, number_is_word n);
    writes = λ n l low a. (own.locals n l low, tt, number_is_word n);
    updates = λ op n l low a. (own.locals n l low, tt, number_is_word n);
    asked = λ t h. h;
    chosen = λ t a b h k l. ((h.0, k.0, l.0), (h.1, k.1, l.1), (h.2, k.2, l.2));
    counted = λ n from below body l low a i j k h. ((own.locals n l low, h.0), (k, h.1), (number_is_word n, i, j, h.2));
    empty = (tt, tt, tt);
    alone = λ s h. ((h.0, tt), (h.1, tt), (h.2, tt));
    chain = sound_joined c;
    not_zero = λ q h. h;
    compared = λ op q h. h;
    both_hold = λ s t h k. ((h.0, k.0), (h.1, k.1), (h.2, k.2));
    one_holds = λ s t h k. ((h.0, k.0), (h.1, k.1), (h.2, k.2));
    turned = λ t h. h;
  }

  pub block_sound : PlacesOfWords p → (b : CheckedBlock) → IsFitBlock g b → Sound c (lowered_block p rs b)
  block_sound words b is =
      block_has p rs g each_sound words (λ n b low spared is. block_spares p rs g words n b low spared is) b (λ y none. absurd none) is
