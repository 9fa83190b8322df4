use Rattle.std.proofs.Common.{map, ◌∙◌}
use Rattle.task_ast.specs.View.{task_of, program_of}
use Rattle.cost_bound.specs.Machine.{known_of}
use Rattle.cost_bound.specs.Summaries.{summaries}
use Rattle.cost_bound.specs.Allowance.{is_written, version_part}
use Rattle.cost_bound.proofs.Sums.{written_sum}
use Rattle.cost_bound.proofs.Called.{few_known}
use Rattle.cost_bound.proofs.Same.{written_same}
use Rattle.cost_bound.proofs.allowance.version_words.Goals as goal

pub returns-clause-value : goal.returns-clause-value
returns-clause-value c =
    let tasks = map task_of c.args.source.now.tasks.items in
    let known = summaries (program_of c.args.source.now) in
    written_sum version_part c.args.source.now.shared.items c.deref.result.now c.args.written.now (is_written known tasks) c.versions.result
    c.requires.few c.deref.ensures.value
    (λ k l. c.requires.written k l ∙ written_same (known_of c.args.functions.now) known (few_known c.args.functions.now c.requires.few_functions)
    c.requires.same tasks k l)
    c.versions.ensures.value
