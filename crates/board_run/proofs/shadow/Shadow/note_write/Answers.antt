use Rattle.std.proofs.Common.{arith}
use Rattle.board_run.proofs.Marks.{writes_there}
use Rattle.board_run.proofs.shadow.Shadow.note_write.Goals as goal

pub returns-clause-in_fram : goal.returns-clause-in_fram
returns-clause-in_fram c is = writes_there c.args.wrote (omega (arith, c.if-address-lt-FRAM_FIRST.false, c.unwrap_or-address.ensures))
