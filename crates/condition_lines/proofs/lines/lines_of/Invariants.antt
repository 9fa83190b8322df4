use Rattle.std.proofs.Common.{◌≡◌, ◌++◌, ◌≤◌, drop, length, false}
use Rattle.task_lex.specs.Faults.{line_of}
use Rattle.task_lex.specs.Spans.{InOrder}
use Rattle.condition_lines.specs.Lines.{lines_from}
use Rattle.condition_lines.proofs.lines.lines_of.Given as goal

abbrev pub invariant-loop-token : goal.invariant-loop-token
invariant-loop-token l =
    record {
      found : l.lines.items ++ lines_from l.source l.behind_else (drop l.token-index l.tokens) ≡ lines_from l.source false l.tokens;
      order : InOrder l.at (length l.source) (drop l.token-index l.tokens);
      within : l.at ≤ length l.source;
      line : l.line ≡ line_of l.source l.at;
    }
