-- The code of a task, where it is entered, does as its program under watch: SP stays in the task's stack.
use Rattle.std.proofs.Common.{◌≡◌, ◌<◌, ◌≤◌, ℕ, suc, Bool, true, false, List, length, get_or, Some, slice_get, refl, subst, arith}
use Rattle.std.proofs.lemmas.Option.{slice_get-get_or}
use Rattle.boot_runtime.specs.fram_board.Effects.{Effect}
use Rattle.boot_runtime.specs.machine_effects.Inputs.{Inputs, InputsAreWords}
use Rattle.boot_runtime.specs.machine_effects.Machine.{Code, MachineBoard, exec}
use Rattle.boot_runtime.specs.code_forms.Forms.{Core, board_of, IsKept}
use Rattle.boot_runtime.specs.code_forms.Code.{KeptCode, rules_of, IsTidy, IsAtKept, StepsAreKept}
use Rattle.boot_runtime.proofs.code_forms.Interface.{EachFront, MayStand, only_is_part, only_is_tidy, fronts_on_stack, leads_watched, stalls_watched}
use Rattle.word_code.specs.array_versions.Behaviour.{behaviour, started, End, GoesOn, Jumps, Gives, Short, Strays, Broken}
use Rattle.word_code.specs.array_versions.Program.{Program}
use Rattle.word_code.specs.array_versions.Form.{IsWhole}
use Rattle.word_code.specs.array_versions.TaskPrograms.{TaskPrograms, no_programs, program_at}
use Rattle.word_code.specs.Code.{code_spent}
use Rattle.word_code.specs.Laws.{IsEntry, ComesToWithin, KeepsWithin, RoutinesStand}
use Rattle.word_code.proofs.Interface.{code_keeps_to_the_stack}
use Rattle.boot_runtime.specs.memory_map.MemoryMap.{MemoryMap, TaskPlace}
use Rattle.boot_runtime.specs.runtime_code.Addresses.{stack_top}
use Rattle.boot_runtime.specs.runtime_code.Comes.{Enters}
use Rattle.boot_runtime.specs.Entries.{task_entries}
use Rattle.boot_runtime.specs.Listing.{entry_at}
use Rattle.linked_code.specs.Linked.{linked_code, CodeFits, ProgramsAreWhole, TaskFits}
use Rattle.linked_code.specs.Watch.{keeps_stacks, is_in_task, task_only, HasStack, BodyStands, StackedTo}
use Rattle.linked_code.proofs.Called.{routine_even, routines_stand}
use Rattle.linked_code.proofs.Linked.{linked_is_code, linked_stands}
use Rattle.linked_code.proofs.Stretches.{task_fits, entry_there}
use Rattle.linked_code.proofs.Watched.{own_only, routine_only, task_may}

-- where stacks begin is above the lowest place of a program's
entry_above : {p : Program} (w : IsWhole p) → w.bounds.floor ≤ stack_top
entry_above w = let low = w.lowest in let floor = w.floor in omega (arith, low, floor)

module _ (l : MemoryMap) (programs : List TaskPrograms) (fits : CodeFits l programs) (whole : ProgramsAreWhole programs) (lows : List ℕ)
    (k : ℕ) (named : k < length programs) (stack : HasStack l programs whole lows k named) where
  abbrev code : Code
  code = linked_code l programs

  abbrev place : TaskPlace
  place = stack.place

  -- the code of the task by itself
  abbrev pub part : KeptCode
  part = task_only l place stack.low code

  abbrev own : TaskPrograms
  own = get_or programs k no_programs

  abbrev program : Program
  program = program_at programs k

  there : slice_get programs k ≡ Some own
  there = slice_get-get_or programs k no_programs named

  fit : TaskFits place own
  fit = task_fits l.tasks programs k place own fits.tasks stack.at there

  tidy : IsTidy part.code
  tidy = only_is_tidy (λ a. is_in_task a place) code (linked_is_code l programs fits).tidy

  routines : RoutinesStand part.code program
  routines =
      let stand = (linked_stands l programs fits).tasks k place own stack.at there in
      routines_stand part.code place own (routine_even l fits.rules k place stack.at)
      (λ j r q a b. routine_only code place own fit j r q a b (stand.routines j r q a b)) fit.calls

  keeps : KeepsWithin part program (whole.whole k named)
  keeps = record { low = stack.lowest; high = omega arith }

  -- it stands there, with what it calls, and may keep SP in its stack
  body_stands : (v : Core) → IsEntry place.code.address v → BodyStands part place.code.address program (whole.whole k named) v
  body_stands v entry = record {
    tidy = tidy;
    stands = own_only code place own fit ((linked_stands l programs fits).tasks k place own stack.at there).own;
    routines = routines;
    keeps = keeps;
    entry = entry;
  }

  module _ (v : Core) (entry : IsEntry place.code.address v) where
    on_stack : IsKept (rules_of part) v.sp
    on_stack =
        let sp = entry.sp in let under = entry_above (whole.whole k named) in let low = stack.lowest in
        (omega (arith, low, sp, under), omega (arith, sp))

    may : (s : MachineBoard) → IsAtKept part s → IsKept (rules_of part) (s.registers 1) → keeps_stacks l lows s.registers ≡ true
    may = task_may l lows code k place stack.low stack.at stack.is_low

    fronts : (n : ℕ) → StepsAreKept part n v → EachFront (exec part.code) (MayStand (keeps_stacks l lows) part) n (board_of v)
    fronts n forms = fronts_on_stack (keeps_stacks l lows) part v n tidy forms on_stack may

    -- so what it does by itself it does under watch
    stacked : (most : ℕ) (es : List Effect) (e : End) → ComesToWithin part most v es e → StackedTo l programs lows most v es e
    stacked most es (Jumps to s) a = record {
      steps = a.steps;
      cycles = a.cycles;
      within = a.within;
      end = a.end;
      leads =
          leads_watched (keeps_stacks l lows) code part (only_is_part (λ x. is_in_task x place) code) a.steps a.cycles es _ _ (fronts a.steps a.forms) a.leads;
      holds = a.holds;
    }
    stacked most es Short a = record {
      steps = a.steps;
      cycles = a.cycles;
      price = a.price;
      within = a.within;
      stalls =
          stalls_watched (keeps_stacks l lows) code part (only_is_part (λ x. is_in_task x place) code) a.steps a.cycles es _ a.price _
          (fronts (suc a.steps) a.forms) a.stalls;
    }
    stacked most es Strays a = tt
    stacked most es (GoesOn s) a = a
    stacked most es (Gives w s) a = a
    stacked most es Broken a = a

  -- what a task's body does under watch on FRAM and inputs, within so many cycles
  abbrev pub DoesBody : Core → ℕ → (ℕ → ℕ) → Inputs → Type 0
  DoesBody v most g inputs = let b = behaviour program (started g inputs) in StackedTo l programs lows most v b.effects b.end

  -- what a law says of its code by itself, within such cycles
  abbrev pub BodyLaw : ((ℕ → ℕ) → Inputs → ℕ) → Type 0
  BodyLaw spent = (v : Core) → BodyStands part place.code.address program (whole.whole k named) v
      → let b = behaviour program (started v.fram v.inputs) in ComesToWithin part (spent v.fram v.inputs) v b.effects b.end

  -- where a task is entered, its code does so under watch as its word program
  pub body_by : (spent : (ℕ → ℕ) → Inputs → ℕ) → BodyLaw spent → (v : Core) (g : ℕ → ℕ) (inputs : Inputs)
      → Enters (entry_at (task_entries l) k).code stack_top g inputs v → ((a : ℕ) → g a < 0x10000) → InputsAreWords inputs
      → DoesBody v (spent g inputs) g inputs
  body_by spent law v g inputs enters words ready =
      let entry = entry_there l programs fits whole v k place stack.at g inputs enters words ready in
      let b = behaviour program (started v.fram v.inputs) in
      let made : DoesBody v (spent v.fram v.inputs) v.fram v.inputs =
      stacked v entry (spent v.fram v.inputs) b.effects b.end (law v (body_stands v entry)) in
      subst (λ q. DoesBody v (spent g q) g q) enters.inputs (subst (λ f. DoesBody v (spent f v.inputs) f v.inputs) enters.fram made)

  -- within the cycles of the way that it takes
  pub body_there : (v : Core) (g : ℕ → ℕ) (inputs : Inputs)
      → Enters (entry_at (task_entries l) k).code stack_top g inputs v → ((a : ℕ) → g a < 0x10000) → InputsAreWords inputs
      → DoesBody v (code_spent program (started g inputs)) g inputs
  body_there =
      body_by (λ f given. code_spent program (started f given)) (λ v b. code_keeps_to_the_stack part place.code.address program v b.tidy b.stands b.routines
      (whole.whole k named) b.keeps (whole.of_words k named) b.entry)
