use Rattle.std.proofs.Common.{sym}
use Rattle.image_text.proofs.Printed.{none_printed}
use Rattle.image_text.proofs.print.push_map_part.Goals as goal

pub returns-in-None-clause-text : goal.returns-in-None-clause-text
returns-in-None-clause-text c = rw c.in-None.is (sym (none_printed c.args.out.now.items))
