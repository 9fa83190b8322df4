use Rattle.std.proofs.Common.{◌≡◌, ◌++◌, drop, map}
use Rattle.need_lines.specs.Lines.{tail_text}
use Rattle.need_lines.proofs.lines.push_tail.Given as goal

abbrev pub invariant-loop-field : goal.invariant-loop-field
invariant-loop-field l = l.out.items ++ tail_text (map (λ f. f.now) (drop l.field-index l.fields)) ≡ l.fn.out.items ++ tail_text (map (λ f. f.now) l.fields)
