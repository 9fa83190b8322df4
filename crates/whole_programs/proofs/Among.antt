-- Each call of a task, and of what it calls, is of the code of one of the functions that the task reaches.
use Rattle.std.proofs.Common.{◌≡◌, ℕ, zero, suc, ◌%◌, ◌<◌, ◌≤◌, true, false, List, length, map, take, Some, refl, sym, ap, subst, ◌∙◌, arith}
use Rattle.std.proofs.Common.{slice_index_or}
use Rattle.std.specs.Option.{option_map}
use Rattle.std.proofs.lemmas.Option.{slice_get-map}
use Rattle.task_ast.specs.Paths.{CheckedProgram, CheckedBlock}
use Rattle.memory_map.specs.declared.place.RoutinePlace.{RoutinePlace}
use Rattle.memory_map.specs.Spots.{Places, routine_of, routine_places}
use Rattle.array_versions.specs.Program.{Step, Program, nothing, step, joined}
use Rattle.linked_code.specs.Linked.{IsRoutineAt, StepCallsAmong, TestCallsAmong, CallsAmong}
use Rattle.lower.specs.Lowered.{call_at, call_step, lowered_block, routine_bodies}
use Rattle.checked_trees.specs.WellFormed.{IsWellFormed}
use Rattle.whole_programs.proofs.Placed.{PlacesOfWords, routine_words}
use Rattle.whole_programs.proofs.Fit.{Setting, IsFitBlock}
use Rattle.whole_programs.proofs.Built.{Leaf, a_number, Stores, a_store, EachStep, block_has}
use Rattle.whole_programs.proofs.Called.{Task, Here, Made, setting, body_fit, program_of, callee_of, task_callee, body_among, body_in_front}
use Rattle.whole_programs.proofs.Called.{task_program}

-- a step that calls nothing; the first clauses make them proofs by cases
leaf_among : (rs : List RoutinePlace) (ps : List Program) (d e : ℕ) (s : Step) → Leaf d e s → StepCallsAmong rs ps s
leaf_among rs ps d e s (a_number w) = tt
leaf_among rs ps d e s k = tt

store_among : (rs : List RoutinePlace) (ps : List Program) (p : Places) (s : Step) → Stores p s → StepCallsAmong rs ps s
store_among rs ps p s (a_store v) = tt
store_among rs ps p s k = tt

among_joined : (rs : List RoutinePlace) (ps : List Program) (p q : Program) → CallsAmong rs ps p → CallsAmong rs ps q → CallsAmong rs ps (joined p q)
among_joined rs ps nothing q h k = k
among_joined rs ps (step first more) q h k = (h.0, among_joined rs ps more q h.1 k)

-- a body each of whose calls is of one of these functions
module _ (rs : List RoutinePlace) (ps : List Program) (p : Places) (bodies : List Program) (g : Setting)
    (calls : (k count : ℕ) → count ≤ 256 → g.calls k count → StepCallsAmong rs ps (call_step p bodies k (count % 65536))) where
  abbrev each_among : EachStep p bodies g
  each_among = record {
    of_step = StepCallsAmong rs ps;
    of_program = CallsAmong rs ps;
    of_test = TestCallsAmong rs ps;
    spared = λ y. ⊥;
    of_body = λ n q. Unit {0};
    leaf = λ d e s k numbers. leaf_among rs ps d e s k;
    stores = λ s k numbers. store_among rs ps p s k;
    jumps = λ ends commit. tt;
    gives = λ ends. tt;
    called = calls;
    reads = λ n l own. tt;
    writes = λ n l own a. tt;
    updates = λ op n l own a. tt;
    asked = λ c h. h;
    chosen = λ c a b h k l. (h, k, l);
    counted = λ n from below body l own a i j k h. h;
    empty = tt;
    alone = λ s h. (h, tt);
    chain = among_joined rs ps;
    not_zero = λ q h. h;
    compared = λ c q h. h;
    both_hold = λ b c h k. (h, k);
    one_holds = λ b c h k. (h, k);
    turned = λ c h. h;
  }

  block_among : PlacesOfWords p → (b : CheckedBlock) → IsFitBlock g b → CallsAmong rs ps (lowered_block p bodies b)
  block_among words b is = block_has p bodies g each_among words (λ n b l s is. tt) b (λ y none. absurd none) is

module _ (program : CheckedProgram) (body : CheckedBlock) (p : Places) (task : Task program body p) where
  -- the programs of the functions that the task reaches
  abbrev pub programs : List Program
  programs = map (λ r. slice_index_or (routine_bodies p program.functions) r.function nothing) p.routines

  abbrev Among : Program → Type 0
  Among = CallsAmong p.routines programs

  -- a call of a function whose own calls are so
  call_among : (k : ℕ) (h : Here program body p task k) (bodies : List Program) (count : ℕ)
      → slice_index_or bodies k nothing ≡ program_of program body p task k h → Among (program_of program body p task k h)
      → StepCallsAmong p.routines programs (call_step p bodies k count)
  call_among k h bodies count is inner =
      subst (λ b. StepCallsAmong p.routines programs (call_at (routine_of p k) count b)) (sym is)
      (subst (λ o. StepCallsAmong p.routines programs (call_at o count (program_of program body p task k h))) (sym h.found) (place, inner))
    where
      own : slice_index_or (routine_bodies p program.functions) h.place.function nothing ≡ program_of program body p task k h
      own =
          ap (λ n. slice_index_or (routine_bodies p program.functions) n nothing) h.number_is
          ∙ body_among program body p task k h program.functions h.is.function refl

      place : IsRoutineAt p.routines programs h.place.code.address (program_of program body p task k h)
      place = record {
        number = h.index;
        place = h.place;
        at = h.stands;
        is =
            slice_get-map (λ r. slice_index_or (routine_bodies p program.functions) r.function nothing) p.routines h.index
            ∙ ap (option_map (λ r. slice_index_or (routine_bodies p program.functions) r.function nothing)) h.stands ∙ ap Some own;
        address_is = refl;
      }

  -- a body, where those of all in front of it are so
  body_calls_among : (k : ℕ) (h : Here program body p task k)
      → ((j : ℕ) → j < k → (callee : Here program body p task j) → Among (program_of program body p task j callee))
      → Among (program_of program body p task k h)
  body_calls_among k h in_front =
      block_among p.routines programs (routine_places p h.place) (routine_bodies p (take k program.functions))
      (setting program (length h.known.function.parameters) k false h.known.function.body) calls (routine_words p h.place task.words) h.known.function.body
      (body_fit program (length h.known.function.parameters) k false h.known.function.body (task.formed k h.known.function h.is.function))
    where
      calls : (j count : ℕ) → count ≤ 256 → Made program.functions k h.known.function.body j count
          → StepCallsAmong p.routines programs (call_step (routine_places p h.place) (routine_bodies p (take k program.functions)) j (count % 65536))
      calls j count few made =
          let callee = callee_of program body p task k h j count made in
          call_among j callee (routine_bodies p (take k program.functions)) (count % 65536) (body_in_front program body p task j callee k made.1)
          (in_front j made.1 callee)

  -- the bodies of the functions with a number below m
  among_below : (m k : ℕ) → k < m → (h : Here program body p task k) → Among (program_of program body p task k h)
  among_below zero k lt h = absurd (let none : ⊥ = omega (arith, lt) in none)
  among_below (suc m) k lt h = body_calls_among k h (λ j low callee. among_below m j (omega (arith, lt, low)) callee)

  pub task_among : IsWellFormed program 0 (length program.functions) true body → Among (task_program program body p task)
  task_among w =
      block_among p.routines programs p (routine_bodies p program.functions) (setting program 0 (length program.functions) true body) calls task.words body
      (body_fit program 0 (length program.functions) true body w)
    where
      calls : (j count : ℕ) → count ≤ 256 → Made program.functions (length program.functions) body j count
          → StepCallsAmong p.routines programs (call_step p (routine_bodies p program.functions) j (count % 65536))
      calls j count few made =
          let callee = task_callee program body p task j count made in
          call_among j callee (routine_bodies p program.functions) (count % 65536)
          (body_among program body p task j callee program.functions callee.is.function refl) (among_below (suc j) j (omega arith) callee)
