-- What `resume` makes.
use Rattle.std.proofs.Common.{◌≡◌, ℕ, List, [], ◌∷◌, Ok, refl}
use Rattle.plain_commands.specs.energy_trace.TraceValue.{TraceValue}
use Rattle.plain_commands.specs.energy_trace.Reading.{trace_of}
use Rattle.plain_commands.specs.image_text.ImageValue.{ImageValue}
use Rattle.plain_commands.specs.image_text.Reading.{image_of}
use Rattle.plain_commands.specs.state_text.declared.state.State.{State}
use Rattle.plain_commands.specs.state_text.Reading.{state_of}
use Rattle.fram_state.specs.Belongs.{Belongs}
use Rattle.plain_commands.specs.fram_board.Board.{BoardValue}
use Rattle.plain_commands.specs.board_run.History.{start_of}
use Rattle.plain_commands.specs.command_answers.Ending.{Ending}
use Rattle.plain_commands.specs.RunReport.{IsReportFrom}
use Rattle.plain_commands.specs.source_runs.Traces.{IsTraceOfWords}
use Rattle.state_commands.specs.Resumed.{ResumesOnWords, resume_promise}
use Rattle.state_commands.specs.Saved.{IsOfWords, from_state}
use Rattle.plain_commands.proofs.Interface.{told_from}
use Rattle.plain_commands.proofs.command_answers.Interface.{output_alone}

pub resume_product : (a b c image state trace : List ℕ) (i : ImageValue) (s : State) (t : TraceValue) (board : BoardValue)
    → image_of image ≡ Ok i → state_of state ≡ Ok s → trace_of trace ≡ Ok t → Belongs i s
    → IsOfWords s → IsTraceOfWords t → board ≡ from_state s t
    → (ending : Ending) (output : List ℕ) → IsReportFrom board (start_of s.image) t ending output
    → (resume_promise ResumesOnWords a b c).makes (image ∷ state ∷ trace ∷ []) (output_alone output ending)
resume_product a b c image state trace i s t board image_said state_said trace_said belongs whole words is_board ending output r =
    let report = told_from board (from_state s t) (start_of s.image) (start_of s.image) t is_board refl ending output r in (
      record {
        value = i;
        saved = s;
        charges = t;
        image_said = image_said;
        state_said = state_said;
        trace_said = trace_said;
        belongs = belongs;
        report = report;
        holds = (whole, words);
      },
      refl,
    )
