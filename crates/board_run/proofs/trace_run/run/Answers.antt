use Rattle.std.proofs.Common.{◌∙◌, ap, Err}
use Rattle.std.proofs.lemmas.Result.{err_from_is_err_and}
use Rattle.board_run.proofs.Charges.{bound_first, bound_cut}
use Rattle.board_run.proofs.trace_run.run.Goals as goal

pub returns-in_err-write_bound-clause-run : goal.returns-in_err-write_bound-clause-run
returns-in_err-write_bound-clause-run g c =
    let p = err_from_is_err_and c.from_residual.result c.from_residual.ensures.1 in
    bound_cut _ _ _ _ _ _ _ c.from_residual.result (p.1 ∙ ap Err p.2) c.in_err-write_bound.ensures.bytes.part

pub returns-clause-run : goal.returns-clause-run
returns-clause-run g c = bound_first _ _ _ _ _ _ _ _ _ c.run_charges.result c.in_ok-write_bound.ensures.bytes.whole c.run_charges.ensures.run
