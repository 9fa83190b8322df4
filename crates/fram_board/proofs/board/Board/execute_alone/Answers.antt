use Rattle.std.proofs.Common.{arith, ◌∙◌, ap}
use Rattle.fram_board.proofs.Steps.{heard_few_of, closed_is, taken_grows, stopped_keeps}
use Rattle.fram_board.proofs.board.Board.execute_alone.Goals as goal

pub overflow_sub-result : goal.overflow_sub-result
overflow_sub-result c =
    let d = c.self.inside.devices in
    let grown = taken_grows c.args.instruction.now c.self.inside.cpu d c.execute-answer.result c.execute-answer.new.cpu c.execute-answer.new.bus
    c.execute-answer.ensures.executes in
    let from = grown.from in
    let before = c.taken-before.ensures.taken in
    let after = c.taken.ensures.taken ∙ ap (λ s. s.taken) c.receive-emitted.ensures.devices in
    omega arith

pub returns-clause-board : goal.returns-clause-board
returns-clause-board c =
    closed_is c.args.self.now c.self.inside.cpu c.self.inside.devices c.self.inside.receiver c.args.instruction.now
    c.execute-answer.result c.execute-answer.new.cpu c.execute-answer.new.bus c.receive-emitted.new.devices c.receive-emitted.new.receiver
    c.self.view_is c.self.invariant c.execute-answer.ensures.executes c.reg-pc.ensures.valid.long
    c.receive-emitted.ensures.devices c.receive-emitted.ensures.receiver

pub returns-in-Err-clause-board : goal.returns-in-Err-clause-board
returns-in-Err-clause-board c =
    closed_is c.args.self.now c.self.inside.cpu c.self.inside.devices c.self.inside.receiver c.args.instruction.now
    c.execute-answer.result c.execute-answer.new.cpu c.execute-answer.new.bus c.receive.new.devices c.receive.new.receiver
    c.self.view_is c.self.invariant c.execute-answer.ensures.executes c.reg-pc.ensures.valid.long
    c.receive.ensures.devices c.receive.ensures.receiver

pub returns-in-Err-clause-stopped : goal.returns-in-Err-clause-stopped
returns-in-Err-clause-stopped c = stopped_keeps c.args.self.now c.self.inside.cpu c.self.inside.devices c.self.inside.receiver
    c.execute-answer.new.cpu c.execute-answer.new.bus c.receive.new.devices c.receive.new.receiver
    c.self.view_is c.self.invariant c.in-Err.ensures.cpu c.in-Err.ensures.reads
    c.receive.ensures.devices c.receive.ensures.receiver

pub returns-clause-took : goal.returns-clause-took
returns-clause-took c =
    let grown = taken_grows c.args.instruction.now c.self.inside.cpu c.self.inside.devices c.execute-answer.result c.execute-answer.new.cpu
    c.execute-answer.new.bus c.execute-answer.ensures.executes in
    let to = grown.to in
    let before = c.taken-before.ensures.taken in
    let after = c.taken.ensures.taken ∙ ap (λ s. s.taken) c.receive-emitted.ensures.devices in
    omega arith

pub returns-clause-counts : goal.returns-clause-counts
returns-clause-counts c =
    let d = c.execute-answer.new.bus in
    heard_few_of d.outnum d.offered c.self.inside.receiver c.args.self.now.receiver c.receive-emitted.new.receiver (ap (λ x. x.receiver) c.self.view_is)
    c.receive-emitted.ensures.receiver

pub returns-in-Err-clause-counts : goal.returns-in-Err-clause-counts
returns-in-Err-clause-counts c =
    let d = c.execute-answer.new.bus in
    heard_few_of d.outnum d.offered c.self.inside.receiver c.args.self.now.receiver c.receive.new.receiver (ap (λ x. x.receiver) c.self.view_is)
    c.receive.ensures.receiver
