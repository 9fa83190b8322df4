-- Whatever a command makes of its texts has one ending.
use Rattle.std.proofs.Common.{◌≡◌, ◌∙◌, ℕ, List, Option, sym, ap, subst}
use Rattle.plain_commands.specs.energy_trace.TraceValue.{TraceValue}
use Rattle.plain_commands.specs.energy_trace.Reading.{trace_of}
use Rattle.plain_commands.specs.state_text.declared.state.State.{State}
use Rattle.plain_commands.specs.state_text.Reading.{state_of}
use Rattle.plain_commands.specs.fram_board.Laws.{HasOneRun}
use Rattle.plain_commands.specs.fram_board.Run.{Run, RunOutcome}
use Rattle.plain_commands.specs.image_text.ImageValue.{ImageValue}
use Rattle.plain_commands.specs.board_run.Charges.{charges_of}
use Rattle.plain_commands.specs.board_run.History.{start_of}
use Rattle.plain_commands.specs.command_answers.Ending.{Ending}
use Rattle.state_commands.specs.Resumed.{Resumes}
use Rattle.plain_commands.specs.RunReport.{IsReportFrom, ending_of}
use Rattle.state_commands.specs.Saved.{Saves, from_state}
use Rattle.plain_commands.proofs.command_texts.Interface.{same_value}
use Rattle.plain_commands.proofs.Interface.{one_run}

pub resume_ending : (Holds : ImageValue → State → TraceValue → RunOutcome → List ℕ → Type 0) → HasOneRun → (x y z : List ℕ) (e e' : Ending) (o o' : List ℕ)
    → Resumes Holds x y z e o → Resumes Holds x y z e' o' → e ≡ e'
resume_ending Holds law x y z e e' o o' a b =
    let state : b.saved ≡ a.saved = same_value (state_of y) b.saved a.saved b.state_said a.state_said in
    let trace : b.charges ≡ a.charges = same_value (trace_of z) b.charges a.charges b.trace_said a.trace_said in
    let OfState : State → Type 0 = λ s. IsReportFrom (from_state s b.charges) (start_of s.image) b.charges e' o' in
    let OfTrace : TraceValue → Type 0 = λ t. IsReportFrom (from_state a.saved t) (start_of a.saved.image) t e' o' in
    one_run law _ _ a.charges e e' o o' a.report (subst OfTrace trace (subst OfState state b.report))

pub save_ending : (Holds : State → TraceValue → RunOutcome → Type 0) → HasOneRun → (x y : List ℕ) (f f' : Option (List ℕ)) (e e' : Ending) (o o' : List ℕ)
    → Saves Holds x y f e o → Saves Holds x y f' e' o' → e ≡ e'
save_ending Holds law x y f f' e e' o o' a b =
    let state : b.state ≡ a.state = same_value (state_of x) b.state a.state b.state_said a.state_said in
    let trace : b.charges ≡ a.charges = same_value (trace_of y) b.charges a.charges b.trace_said a.trace_said in
    let OfState : State → Type 0 = λ s. Run (charges_of b.charges.charges) (from_state s b.charges) b.outcome in
    let OfTrace : TraceValue → Type 0 = λ t. Run (charges_of t.charges) (from_state a.state t) b.outcome in
    let run = subst OfTrace trace (subst OfState state b.run) in
    a.ends ∙ ap (λ r. ending_of r.ending) (law _ _ a.outcome b.outcome a.run run) ∙ sym b.ends
