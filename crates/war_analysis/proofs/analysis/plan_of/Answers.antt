use Rattle.std.proofs.Common.{◌≡◌, length, subst, arith}
use Rattle.task_ast.specs.View.{program_of}
use Rattle.war_analysis.specs.Known.{AreSumsByVariable}
use Rattle.war_analysis.proofs.analysis.plan_of.Goals as goal

-- the sums of all functions, and the plans of tasks that call these
pub returns : goal.returns
returns c =
    let p = program_of c.args.source.now in
    let count : c.len.result ≡ length p.shared = omega (arith, c.len.ensures, c.args.source.now.shared.ok.0) in
    let sums = subst (λ n. AreSumsByVariable p.functions n c.in_ok-sums.sums.items) count (rw c.deref.ensures.value at c.in_ok-sums.ensures) in
    let plans = rw (c.deref-2.ensures.value, c.deref-3.ensures.value, c.deref-4.ensures.value) at c.in_ok-tasks.ensures in
    plans p.functions sums c.requires.calls.tasks
