use Rattle.std.proofs.Common.{◌∙◌, sym}
use Rattle.image_map.proofs.Last.{end_scalars}
use Rattle.image_map.proofs.map.are_scalars.Goals as goal

pub returns : goal.returns
returns c = sym (end_scalars c.loop-v.left.now c.args.last.now c.args.variables.now c.loop-v.v-index c.loop-v-test.false) ∙ c.loop-v.invariant
