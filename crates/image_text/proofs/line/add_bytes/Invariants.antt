use Rattle.std.proofs.Common.{◌≡◌, ◌++◌, length, option_map}
use Rattle.text_parts.specs.Fields.{fields}
use Rattle.image_text.specs.Line.{bytes_of}
use Rattle.image_text.proofs.line.add_bytes.Given as goal

abbrev pub invariant-loop-field : goal.invariant-loop-field
invariant-loop-field l = option_map (λ bs. l.into.items ++ bs) (bytes_of (fields l.rest)) ≡ option_map (λ bs. l.fn.into.items ++ bs) (bytes_of (fields l.line))

abbrev pub decreases-loop-field : goal.decreases-loop-field
decreases-loop-field l = length l.rest
