use Rattle.std.proofs.Common.{◌%◌}
use Rattle.plain_commands.proofs.alp_io.Interface.{writes_err}
use Rattle.plain_commands.specs.board_run.History.{total}
use Rattle.compiler_commands.specs.Generated.{ended_line, sum_line}
use Rattle.compiler_commands.proofs.GenLines.{in_second, in_third, all_four}
use Rattle.compiler_commands.proofs.gen_lines.write_lines.Goals as goal

pub returns-in_err-write_bound-clause-bytes : goal.returns-in_err-write_bound-clause-bytes
returns-in_err-write_bound-clause-bytes g c =
    writes_err _ _ _ _ c.from_residual-in_err-write_bound.ensures.0
    (in_second _ _ _ _ _ (ended_line c.args.end c.args.board.now c.args.watch.now) (sum_line (total c.args.watch.now.shared % 65536))
    c.in_ok-write_number.ensures.bytes.whole c.in_err-write_bound.ensures.bytes.part)

pub returns-in_err-write_end-clause-bytes : goal.returns-in_err-write_end-clause-bytes
returns-in_err-write_end-clause-bytes g c =
    writes_err _ _ _ _ c.from_residual-in_err-write_end.ensures.0
    (in_third _ _ _ _ _ _ _ (sum_line (total c.args.watch.now.shared % 65536)) c.in_ok-write_number.ensures.bytes.whole
    c.in_ok-write_bound.ensures.bytes.whole c.in_err-write_end.ensures.bytes.part)

pub returns-clause-bytes : goal.returns-clause-bytes
returns-clause-bytes g c =
    let sum = rw c.sum.ensures at c.write_sum.ensures.bytes in
    all_four _ _ _ _ _ _ _ _ _ _ c.in_ok-write_number.ensures.bytes.whole c.in_ok-write_bound.ensures.bytes.whole c.in_ok-write_end.ensures.bytes.whole sum
