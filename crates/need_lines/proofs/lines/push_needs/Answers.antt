use Rattle.std.proofs.Common.{map}
use Rattle.std.proofs.lemmas.Result.{on_ok_weaker}
use Rattle.need_lines.specs.Rows.{row_of}
use Rattle.need_lines.proofs.Written.{needs_written}
use Rattle.need_lines.proofs.lines.push_needs.Goals as goal

pub returns : goal.returns
returns c = on_ok_weaker c.push_last.result
    (needs_written (map row_of c.args.tasks.now) c.args.bound c.args.out.now.items _ _ _ c.in_ok-push_tasks.ensures
    (rw c.greatest_undo.ensures at c.in_ok-push_last_undo.ensures))
    (rw c.greatest.ensures at c.push_last.ensures)
