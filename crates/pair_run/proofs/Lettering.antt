-- A step of a side, and a line of its, behind the side's letter.
use Rattle.std.proofs.Common.{ℕ, false, List, Option, Result, Ok, Err}
use Rattle.alp_io.specs.declared.sink.Failed.{Failed}
use Rattle.prefixed_lines.specs.Prefixes.{text_behind, Prefixes}
use Rattle.board_run.specs.declared.stepwise.Advance.{Advance}
use Rattle.board_run.specs.Report.{lines_from}
use Rattle.board_run.specs.Parts.{Known}
use Rattle.board_run.specs.Stepwise.{RunState, IsAdvance}
use Rattle.pair_run.specs.Sides.{IsLettered}

-- a step that is written without the letter stands with it
pub lettered : (letter : ℕ) (s t : RunState) (h now : Known) (first told all : Option (List ℕ)) (result : Result Advance Failed)
    → IsAdvance s h (text_behind first first letter false) told result t now → Prefixes letter first told all result
    → IsLettered letter s h first all result t now
lettered letter s t h now first told all (Ok answer) a p = record {
  moments = a.moments;
  steps = a.steps;
  written = (p (lines_from h.history a.moments) (record { whole = a.wrote.written; part = tt })).whole;
  history = a.wrote.history;
  tally = a.wrote.tally;
  done = a.done;
  powers = a.powers;
}
lettered letter s t h now first told all (Err e) a p = record {
  moments = a.moments;
  behind = a.behind;
  steps = a.steps;
  written = (p (lines_from h.history a.moments) (record { whole = tt; part = a.written })).part;
}
