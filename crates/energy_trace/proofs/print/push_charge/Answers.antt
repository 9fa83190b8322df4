use Rattle.std.proofs.lemmas.Result.{on_ok_weaker}
use Rattle.text_parts.proofs.Interface.{added}
use Rattle.energy_trace.proofs.Printed.{charge_written}
use Rattle.energy_trace.proofs.print.push_charge.Goals as goal

pub returns-clause-text : goal.returns-clause-text
returns-clause-text c = on_ok_weaker c.extend_from_slice.result (charge_written _ _ _ _ _ c.in_ok-push_amount.ensures.text c.in_ok-push_times.ensures)
    (added _ _ _ _ c.extend_from_slice.ensures.items)

pub returns-clause-ranges : goal.returns-clause-ranges
returns-clause-ranges c = on_ok_weaker c.extend_from_slice.result (λ _. c.in_ok-push_amount.ensures.ranges) (added _ _ _ _ c.extend_from_slice.ensures.items)
