use Rattle.std.proofs.Common.{map, ap, ◌∙◌}
use Rattle.asm_line.specs.Values.{look_up}
use Rattle.asm_line.specs.TableViews.{row_of}
use Rattle.asm_line.proofs.registers.register_named.Goals as goal

pub returns : goal.returns
unfolding Rattle.asm_line.specs.Values.register_named
returns c = c.look_up.ensures ∙ ap (λ rows. look_up (map row_of rows) c.args.name.now) c.as_slice.ensures
