-- The rules of interrupts, kept by a step of code in which the CPU accepts them.
use Rattle.std.proofs.Common.{◌≡◌, ℕ, refl, subst, Bool, true, false, not, if◌then◌else◌, List}
use Rattle.std.proofs.lemmas.Bool.{and_parts}
use Rattle.msp_step.specs.Step.{is_interruptible}
use Rattle.fram_board.specs.Effects.{Effect}
use Rattle.machine_effects.specs.Going.{Goes}
use Rattle.machine_effects.specs.Machine.{Code, MachineBoard, exec, is_exposed, breaks_rules, step_with, is_prepared}
use Rattle.machine_effects.specs.Machine.{keeps_stack, in_stack}
use Rattle.code_forms.proofs.Interface.{goes_kept, code_stays_open}
use Rattle.program_view.specs.Laws.{KeepsItsStack}

stack_by : (a b k p : Bool) → (if a then not (if b then k else p) else b) ≡ false → a ≡ true → b ≡ true → k ≡ true
stack_by true true true p h e f = refl
stack_by true true false p h e f = absurd cc
stack_by true false k p h e f = absurd cc
stack_by false b k p h e f = absurd cc

-- a step of code with events, on a machine that is prepared
pub stack_kept : (code : Code) (s t : MachineBoard) (es : List Effect) (c : ℕ) → code.events ≡ true → exec code s ≡ Goes es c t → is_prepared s ≡ true
    → is_interruptible s.registers ≡ true → KeepsItsStack s t
stack_kept code s t es c on e prepared was =
    let kept = goes_kept code.events s t (step_with (code.at (s.registers 0)) s) es c e in
    let rules : breaks_rules s t ≡ false = subst (λ b. is_exposed b s t ≡ false) on kept in
    let now = code_stays_open code s t es c on e was in
    record {
      accepts = now;
      in_stack = (and_parts _ (in_stack (s.registers 1)) prepared).1;
      stack = stack_by (is_interruptible t.registers) (is_interruptible s.registers) (keeps_stack (s.registers 1) (t.registers 1)) (is_prepared t)
          rules now was;
    }
