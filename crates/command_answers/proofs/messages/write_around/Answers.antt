use Rattle.command_answers.proofs.NameLaws.{cut_between, last_of_three}
use Rattle.alp_io.proofs.Interface.{part_of_first, writes_err}
use Rattle.command_answers.proofs.messages.write_around.Goals as goal

pub returns-in_err-write_all-clause-bytes : goal.returns-in_err-write_all-clause-bytes
returns-in_err-write_all-clause-bytes g c =
    writes_err _ _ _ _ c.from_residual.ensures.0 (part_of_first _ _ _ _ c.in_err-write_all.ensures.bytes.part)

pub returns-in_err-write_name-clause-bytes : goal.returns-in_err-write_name-clause-bytes
returns-in_err-write_name-clause-bytes g c =
    cut_between _ _ _ _ _ _ _ c.from_residual-in_err-write_name.ensures.0 c.in_ok-write_all.ensures.bytes.whole c.in_err-write_name.ensures.bytes.part

pub returns-clause-bytes : goal.returns-clause-bytes
returns-clause-bytes g c =
    last_of_three _ _ _ _ _ _ _ _ c.in_ok-write_all.ensures.bytes.whole c.in_ok-write_name.ensures.bytes.whole c.write_pieces.ensures.bytes
