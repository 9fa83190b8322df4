use Rattle.std.proofs.Common.{◌∙◌, sym, Some}
use Rattle.board_run.specs.State.{history_of}
use Rattle.board_run.proofs.Transitions.{decided_gate}
use Rattle.board_run.proofs.state.State.note_gate.Goals as goal

pub returns-then-is_decide-clause-history : goal.returns-then-is_decide-clause-history
returns-then-is_decide-clause-history g c =
    c.decide.ensures.history (Some c.args.map.now)
    ∙ decided_gate c.args.map.now (history_of (Some c.args.map.now) c.args.self.now) c.args.board.now c.args.now (sym c.if-is_done.ensures)
    (sym c.if-is_decide.ensures)
