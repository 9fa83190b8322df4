-- The program of statements that don't assign a local spares it.
use Rattle.std.proofs.Common.{◌≡◌, ℕ, ◌%◌, ◌==◌, ◌<◌, false, List, Option, Some, None, refl, sym, subst, arith, slice_index_or}
use Rattle.std.specs.Prelude.{◌≢◌}
use Rattle.std.proofs.lemmas.Bool.Decides.{nat_tests}
use Rattle.task_ast.specs.Paths.{CheckedBlock}
use Rattle.task_ast.specs.declared.names.Variable.TheVariants.{Local}
use Rattle.path_checks.specs.Loops.{block_assigns}
use Rattle.array_versions.specs.Program.{Step, Program, nothing, step, joined}
use Rattle.array_versions.specs.Form.{StepSpares, TestSpares, Spares}
use Rattle.memory_map.specs.declared.place.RoutinePlace.{RoutinePlace}
use Rattle.memory_map.specs.Spots.{Places, routine_of}
use Rattle.lower.specs.Lowered.{call_at, local_number, lowered_block}
use Rattle.whole_programs.proofs.Placed.{PlacesOfWords}
use Rattle.whole_programs.proofs.Fit.{Setting, IsFitBlock}
use Rattle.whole_programs.proofs.Built.{Leaf, a_number, Stores, a_store, IsApart, EachStep, block_has}

-- a step without a local spares each; the first clauses make them proofs by cases
leaf_spares : (n d e : ℕ) (s : Step) → Leaf d e s → StepSpares n s
leaf_spares n d e s (a_number w) = tt
leaf_spares n d e s k = tt

store_spares : (n : ℕ) (p : Places) (s : Step) → Stores p s → StepSpares n s
store_spares n p s (a_store v) = tt
store_spares n p s k = tt

-- so does a call: the locals of what it calls are its own
call_spares : (n : ℕ) (o : Option RoutinePlace) (count : ℕ) (body : Program) → StepSpares n (call_at o count body)
call_spares n (Some r) count body = tt
call_spares n None count body = tt

spares_joined : (n : ℕ) (p q : Program) → Spares n p → Spares n q → Spares n (joined p q)
spares_joined n nothing q h k = k
spares_joined n (step first more) q h k = (h.0, spares_joined n more q h.1 k)

-- two locals of a body have two numbers
apart : (p : Places) (m y : ℕ) → m < 256 → y < 256 → (y == m) ≡ false → local_number p m ≢ local_number p y
apart p m y l k h e = absurd (let other : y ≢ m = grind (arith, nat_tests) in other (omega (arith, l, k, e)))

module _ (p : Places) (rs : List Program) (g : Setting) (y : ℕ) (low : y < 256) where
  other : (m : ℕ) → m < 256 → IsApart (λ z. z ≡ y) (Local m) → local_number p m ≢ local_number p y
  other m l a = apart p m y l low (a y refl)

  -- no step assigns the local
  abbrev each_spares : EachStep p rs g
  each_spares = record {
    of_step = StepSpares (local_number p y);
    of_program = Spares (local_number p y);
    of_test = TestSpares (local_number p y);
    spared = λ z. z ≡ y;
    of_body = λ n q. Unit {0};
    leaf = λ d e s k numbers. leaf_spares (local_number p y) d e s k;
    stores = λ s k numbers. store_spares (local_number p y) p s k;
    jumps = λ ends commit. tt;
    gives = λ ends. tt;
    called = λ k count few h. call_spares (local_number p y) (routine_of p k) (count % 65536) (slice_index_or rs k nothing);
    reads = λ n l own. tt;
    writes = λ n l own a. other n l a;
    updates = λ op n l own a. other n l a;
    asked = λ c h. h;
    chosen = λ c a b h k l. (h, k, l);
    counted = λ n from below body l own a i j k h. (other n l a, h);
    empty = tt;
    alone = λ s h. (h, tt);
    chain = spares_joined (local_number p y);
    not_zero = λ q h. h;
    compared = λ c q h. h;
    both_hold = λ b c h k. (h, k);
    one_holds = λ b c h k. (h, k);
    turned = λ c h. h;
  }

pub block_spares : (p : Places) (rs : List Program) (g : Setting) → PlacesOfWords p → (y : ℕ) (b : CheckedBlock) → y < 256
    → block_assigns (Local y) b ≡ false → IsFitBlock g b → Spares (local_number p y) (lowered_block p rs b)
block_spares p rs g words y b low spared is =
    block_has p rs g (each_spares p rs g y low) words (λ n b l s is. tt) b (λ z same. subst (λ x. block_assigns (Local x) b ≡ false) (sym same) spared) is
