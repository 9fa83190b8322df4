use Rattle.std.proofs.Common.{arith}
use Rattle.board_run.specs.Charges.{charge_of}
use Rattle.board_run.specs.State.{known_so}
use Rattle.board_run.proofs.Charges.{one_spent}
use Rattle.board_run.proofs.trace_run.spend_one.Goals as goal

pub returns-clause-spent : goal.returns-clause-spent
returns-clause-spent g c = one_spent (known_so c.args.watch.now) (known_so c.note_power_up.new.self) (known_so c.spend.new.watch)
    (charge_of c.args.charge.now) c.args.board.now
    c.power_up.new.self c.spend.new.board _ _ c.spend.result 4294967295
    c.power_up.ensures (record { history = c.note_power_up.ensures.history; tally = c.note_power_up.ensures.tally }) (omega arith) c.spend.ensures.spent
