-- The four lines that tell of the run of a generated source, on the trace of its number.
use Rattle.std.specs.Prelude.{◌≡◌, ℕ, ◌%◌, List, [], ◌∷◌, ◌++◌, codes, decimal, Ok}
use Rattle.plain_commands.specs.alp_io.Report.{texts, bound_line, end_line}
use Rattle.plain_commands.specs.energy_trace.TraceValue.{TraceValue}
use Rattle.plain_commands.specs.image_text.ImageValue.{ImageValue}
use Rattle.plain_commands.specs.fram_board.Board.{BoardValue, fresh}
use Rattle.plain_commands.specs.fram_board.Run.{RunOutcome, Run}
use Rattle.plain_commands.specs.board_run.declared.trace_run.RunEnd.{RunEnd}
use Rattle.plain_commands.specs.board_run.Charges.{charges_of}
use Rattle.plain_commands.specs.board_run.History.{History, start_of, total}
use Rattle.plain_commands.specs.board_run.Report.{after_all, answer_of, last_line}
use Rattle.plain_commands.specs.Ends.{reason_of}

-- the number that the source and its trace are generated from
unfoldable pub number_line : ℕ → List ℕ
number_line n = texts (codes "gen " ∷ decimal n ∷ codes "\n" ∷ [])

-- the sum of the shared words
unfoldable pub sum_line : ℕ → List ℕ
sum_line w = texts (codes "sum " ∷ decimal w ∷ codes "\n" ∷ [])

-- the number, the bound, how the run ended, and the sum modulo 65536 of all shared words at its last completed transition
abbrev pub four_lines : ℕ → ℕ → List ℕ → History → List ℕ
four_lines number bound end now = number_line number ++ (bound_line bound ++ (end ++ sum_line (total now.shared % 65536)))

-- the four lines of a run that begins with a history
abbrev pub generated_lines : ℕ → ℕ → History → RunOutcome → List ℕ
generated_lines number bound start r = let now = after_all start r.moments in four_lines number bound (last_line now r.ending r.board) now

-- the last line of a run that answers so, by its board and its history
abbrev pub ended_line : RunEnd → BoardValue → History → List ℕ
ended_line end b now = end_line (reason_of end) now.completed b.receiver.accepted b.receiver.repeats

-- the run of the image's fresh board on a trace, which answers so, and the board and the history at its end
pub record RanSo (image : ImageValue) (trace : TraceValue) (end : RunEnd) (board : BoardValue) (now : History) : Type 0 where
  pub outcome : RunOutcome
  pub run : Run (charges_of trace.charges) (fresh image.words trace.readings trace.events) outcome
  pub answer : Ok end ≡ answer_of outcome.ending
  pub at_end : board ≡ outcome.board
  pub history : now ≡ after_all (start_of image) outcome.moments
