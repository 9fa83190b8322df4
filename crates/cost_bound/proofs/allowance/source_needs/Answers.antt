use Rattle.std.proofs.Common.{map, subst}
use Rattle.task_ast.specs.View.{task_of, program_of}
use Rattle.cost_bound.specs.Needs.{AreNeeds}
use Rattle.cost_bound.specs.Machine.{known_of}
use Rattle.cost_bound.specs.Summaries.{summaries}
use Rattle.cost_bound.proofs.Called.{few_known}
use Rattle.cost_bound.proofs.Same.{needs_same}
use Rattle.cost_bound.proofs.allowance.source_needs.Goals as goal

pub returns : goal.returns
returns c =
    needs_same (known_of c.args.functions.now) (summaries (program_of c.args.source.now)) (few_known c.args.functions.now c.requires.few_functions)
    c.requires.same c.args.events c.args.versions c.args.source.now.shared.items c.requires.few (map task_of c.args.source.now.tasks.items)
    c.all_needs.result
    (subst (λ ts. AreNeeds (known_of c.args.functions.now) c.args.events c.args.versions c.args.source.now.shared.items (map task_of ts) c.all_needs.result)
    c.deref-2.ensures.value
    (subst (λ ds. AreNeeds (known_of c.args.functions.now) c.args.events c.args.versions ds (map task_of c.deref-2.result.now) c.all_needs.result)
    c.deref.ensures.value c.all_needs.ensures))
