use Rattle.std.proofs.Common.{sym}
use Rattle.text_parts.specs.Fields.{fields}
use Rattle.energy_trace.proofs.Steps.{charge_repeats}
use Rattle.energy_trace.proofs.parse.add_charge.Goals as goal

pub add-requires-clause-repeats : goal.add-requires-clause-repeats
add-requires-clause-repeats c = charge_repeats c.args.kind (fields c.args.line.now) _ (sym c.in-Some.ensures)
