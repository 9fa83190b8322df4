use Rattle.task_ast.specs.View.{program_of}
use Rattle.task_check.proofs.Interface.{is_placed}
use Rattle.war_analysis.proofs.Returning.{each_returns}
use Rattle.war_analysis.proofs.analysis.analyse.Goals as goal

pub plan_of-requires-clause-calls : goal.plan_of-requires-clause-calls
plan_of-requires-clause-calls c =
    rw c.source.ensures (is_placed (program_of c.args.checked.now.source) c.args.checked.now.placed).calls

pub plan_of-requires-clause-returning : goal.plan_of-requires-clause-returning
plan_of-requires-clause-returning c =
    let p = program_of c.args.checked.now.source in
    rw c.source.ensures (each_returns p (is_placed p c.args.checked.now.placed) c.args.checked.now.returns)
