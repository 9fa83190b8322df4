-- An attempt, from where it starts up to the end of its commit, whichever the runtime is: what is done in front of it, its start, the task's code, the commit.
use Rattle.msp_step.specs.declared.machine.Stop.TheVariants as stop
use Rattle.std.proofs.Common.{◌≡◌, ◌≤◌, ◌+◌, ℕ, true, if◌then◌else◌, List, [], ◌++◌, refl, sym, ap, ◌∙◌, subst, arith, append-nil, append_assoc}
use Rattle.fram_board.specs.Effects.{Effect}
use Rattle.machine_effects.specs.World.{fram_after}
use Rattle.machine_effects.specs.Inputs.{Inputs}
use Rattle.machine_effects.specs.Going.{Leads, Stalls}
use Rattle.machine_effects.specs.Machine.{MachineBoard, MachineOutcome}
use Rattle.machine_effects.proofs.Interface.{join, join_stall, fram_after-append}
use Rattle.code_forms.specs.Forms.{Core, board_of}
use Rattle.source_values.specs.Runs.{CheckedProgram}
use Rattle.array_versions.specs.Behaviour.{WordState, Behaviour, End, GoesOn, Jumps, Gives, Short as Starving, Strays, Broken, behaviour, started}
use Rattle.array_versions.specs.Laws.{EndsByEffects}
use Rattle.array_versions.proofs.Interface.{behaves_by_effects}
use Rattle.word_code.specs.Laws.{HasJumped}
use Rattle.memory_map.specs.declared.words.RuntimeWord.TheVariants.{CurrentTask}
use Rattle.memory_map.specs.MemoryMap.{MemoryMap, word_place}
use Rattle.runtime_code.specs.Addresses.{stack_top}
use Rattle.runtime_code.specs.Comes.{IsAt, Enters}
use Rattle.boot_runtime.specs.Entries.{task_entries}
use Rattle.boot_runtime.specs.Listing.{entry_at}
use Rattle.crash_rules.specs.Model.{ProgramEffects, program_effects}
use Rattle.crash_rules.specs.Runs.{Makes}
use Rattle.compiled_model.specs.Parts.{has_jumped, task_program}
use Rattle.compiled_model.specs.Needs.{LeavesFor}
use Rattle.lower.specs.Lowered.{lowered}
use Rattle.linked_code.specs.Linked.{attempt_start}
use Rattle.linked_code.specs.Watch.{StackedComes, StackedRuns, StackedStarves, StackedTo}
use Rattle.compiled_runs.specs.Program.{stack_lows, compiled_program}

-- a machine from which the start of an attempt is come to, with what is done in front of it
pub record Arrival (p : CheckedProgram) (l : MemoryMap) : Type 0 where
  pub core : Core
  pub front : List Effect
  pub steps : ℕ
  pub cycles : ℕ
  pub comes : StackedComes l (lowered l p) (stack_lows p l) front steps cycles core (IsAt (attempt_start l) (fram_after front core.fram) core.inputs)

module _ (p : CheckedProgram) (l : MemoryMap) (start commit : (ℕ → ℕ) → List Effect) (at : Arrival p l) where
  abbrev step : MachineBoard → MachineOutcome
  step = (compiled_program p l).step

  -- what the code comes to under watch
  abbrev Reaches : List Effect → (steps cycles : ℕ) → Core → (Core → Type 0) → Type 0
  Reaches = StackedComes l (lowered l p) (stack_lows p l)

  abbrev inputs : Inputs
  inputs = at.core.inputs

  -- FRAM where the attempt starts, and the task that CUR names there
  abbrev pub here : ℕ → ℕ
  here = fram_after at.front at.core.fram

  abbrev pub named : ℕ
  named = here (word_place l CurrentTask)

  abbrev es : List Effect
  es = start here

  -- FRAM where the task's code is entered, and what this does
  abbrev pub entered : ℕ → ℕ
  entered = fram_after es here

  abbrev pub done : Behaviour
  done = behaviour (task_program p l named) (started entered inputs)

  -- all that is done up to the commit, and FRAM behind it
  abbrev before : List Effect
  before = at.front ++ (es ++ done.effects)

  abbrev pub behind : ℕ → ℕ
  behind = fram_after before at.core.fram

  abbrev pub EntersTask : Core → Type 0
  EntersTask v = Enters (entry_at (task_entries l) named).code stack_top entered inputs v

  -- its stretches: that the code makes them, and that they are within a cost
  pub record Stretches (cost : ℕ) : Type 0 where
    pub start_steps : ℕ
    pub start_cycles : ℕ
    pub starts : (v : Core) → IsAt (attempt_start l) here inputs v → Reaches es start_steps start_cycles v EntersTask
    pub most : ℕ
    pub body : (v : Core) → EntersTask v → StackedTo l (lowered l p) (stack_lows p l) most v done.effects done.end
    pub leaves : LeavesFor l.commit.address done.end
    pub commit_steps : ℕ
    pub commit_cycles : ℕ
    pub commits : has_jumped done.end ≡ true → (v : Core) → IsAt l.commit.address behind v.inputs v
        → Reaches (commit behind) commit_steps commit_cycles v (IsAt (attempt_start l) (fram_after (commit behind) behind) v.inputs)
    pub within : at.cycles + start_cycles + most ≤ cost
    pub all_within : has_jumped done.end ≡ true → at.cycles + start_cycles + most + commit_cycles ≤ cost

  -- its effects, with the commit's where its program comes to a jump
  abbrev pub script_by : End → ProgramEffects
  script_by e = program_effects (before ++ (if has_jumped e then commit behind else [])) (has_jumped e)

  module _ (cost : ℕ) (k : Stretches cost) where
    abbrev to_steps : ℕ
    to_steps = at.steps + k.start_steps

    abbrev to_cycles : ℕ
    to_cycles = at.cycles + k.start_cycles

    there : Reaches (at.front ++ es) to_steps to_cycles at.core EntersTask
    there =
        let from = at.comes.end in
        let a = k.starts from at.comes.holds in
        record {
          end = a.end;
          leads = join step at.steps k.start_steps at.front es at.cycles k.start_cycles (board_of at.core) (board_of from) (board_of a.end) at.comes.leads
              a.leads;
          holds = a.holds;
        }

    one_list : (at.front ++ es) ++ done.effects ≡ before
    one_list = append_assoc at.front es done.effects

    jumps_on : (to : ℕ) (w : WordState) → done.end ≡ Jumps to w → to ≡ l.commit.address
        → StackedRuns l (lowered l p) (stack_lows p l) k.most there.end done.effects (HasJumped to w)
        → Makes (compiled_program p l) (λ i. 0) cost (script_by (Jumps to w)) (board_of at.core)
    jumps_on to w e t q =
        let jumped : has_jumped done.end ≡ true = ap has_jumped e in
        let by = subst (EndsByEffects (started entered inputs) done.effects) e (behaves_by_effects (task_program p l named) (started entered inputs)) in
        let same : w.fram ≡ behind = by.0 ∙ sym (fram_after-append at.front (es ++ done.effects) at.core.fram ∙ fram_after-append es done.effects here) in
        let v = q.end in
        let arrived : IsAt l.commit.address behind v.inputs v = record { pc = q.holds.pc ∙ t; fram = q.holds.fram ∙ same; inputs = refl } in
        let h = k.commits jumped v arrived in
        let one = join step to_steps q.steps (at.front ++ es) done.effects to_cycles q.cycles (board_of at.core) (board_of there.end) (board_of v)
        there.leads q.leads in
        let all = join step (to_steps + q.steps) k.commit_steps ((at.front ++ es) ++ done.effects) (commit behind)
        (to_cycles + q.cycles) k.commit_cycles (board_of at.core) (board_of v) (board_of h.end) one h.leads in
        let Leading : List Effect → Type 0 = λ fs. Leads step (to_steps + q.steps + k.commit_steps) (fs ++ commit behind)
        (to_cycles + q.cycles + k.commit_cycles) (board_of at.core) (board_of h.end) in
        let most = k.all_within jumped in let body_most = q.within in
        record {
          steps = to_steps + q.steps + k.commit_steps;
          cycles = to_cycles + q.cycles + k.commit_cycles;
          ends = λ z. record {
            end = board_of h.end;
            within = omega (arith, most, body_most);
            leads = subst Leading one_list all;
            at_start = record { core = h.end; is = refl; pc = h.holds.pc };
          };
          lacks = λ z. absurd (cc (z));
        }

    lacks_on : StackedStarves l (lowered l p) (stack_lows p l) k.most there.end done.effects
        → Makes (compiled_program p l) (λ i. 0) cost (script_by Starving) (board_of at.core)
    lacks_on q =
        let all = join_stall step to_steps q.steps (at.front ++ es) done.effects to_cycles q.cycles (board_of at.core) (board_of there.end)
        q.price stop.NoReading there.leads q.stalls in
        let most = k.within in let body_most = q.within in
        let Stalling : List Effect → Type 0 = λ fs. Stalls step (to_steps + q.steps) fs (to_cycles + q.cycles) (board_of at.core) q.price
        stop.NoReading in
        record {
          steps = to_steps + q.steps;
          cycles = to_cycles + q.cycles;
          ends = λ z. absurd (cc (z));
          lacks = λ z. record {
            price = q.price;
            within = omega (arith, most, body_most);
            stalls = subst Stalling (one_list ∙ sym (append-nil before)) all;
          };
        }

    by_end : (e : End) → done.end ≡ e → LeavesFor l.commit.address e → StackedTo l (lowered l p) (stack_lows p l) k.most there.end done.effects e
        → Makes (compiled_program p l) (λ i. 0) cost (script_by e) (board_of at.core)
    by_end (Jumps to w) e t q = jumps_on to w e t q
    by_end Starving e t q = lacks_on q
    by_end (GoesOn w) e t q = absurd t
    by_end (Gives v w) e t q = absurd t
    by_end Strays e t q = absurd t
    by_end Broken e t q = absurd t

    -- all of it is made
    pub attempt_made : Makes (compiled_program p l) (λ i. 0) cost (script_by done.end) (board_of at.core)
    attempt_made = by_end done.end refl k.leaves (k.body there.end there.holds)
