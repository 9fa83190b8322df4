use Rattle.std.proofs.Common.{map}
use Rattle.std.proofs.lemmas.Result.{on_ok_weaker}
use Rattle.text_parts.proofs.Interface.{added}
use Rattle.need_lines.proofs.Written.{line_written}
use Rattle.need_lines.proofs.lines.push_line.Goals as goal

pub returns : goal.returns
returns c = on_ok_weaker c.extend_from_slice-2.result
    (line_written c.args.first.now (map (λ f. f.now) c.args.fields.now) c.args.out.now.items _ _ _ c.in_ok-extend_from_slice.ensures.items
    c.in_ok-push_tail.ensures)
    (added _ _ _ _ c.extend_from_slice-2.ensures.items)
