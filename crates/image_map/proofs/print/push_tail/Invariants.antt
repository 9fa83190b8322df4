use Rattle.std.proofs.Common.{◌≡◌, ◌++◌, drop, map}
use Rattle.image_map.specs.Text.{tail_text}
use Rattle.image_map.proofs.print.push_tail.Given as goal

abbrev pub invariant-loop-field : goal.invariant-loop-field
invariant-loop-field l = l.out.items ++ tail_text (map (λ f. f.now) (drop l.field-index l.fields)) ≡ l.fn.out.items ++ tail_text (map (λ f. f.now) l.fields)
