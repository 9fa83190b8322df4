use Rattle.std.proofs.Common.{◌∙◌, ap, rules, map}
use Rattle.task_ast.specs.View.{block_view, task_of, program_of}
use Rattle.cost_bound.specs.Table.{capped}
use Rattle.cost_bound.specs.Counts.{emits_of}
use Rattle.cost_bound.specs.Machine.{known_of}
use Rattle.cost_bound.specs.Summaries.{summaries}
use Rattle.cost_bound.proofs.Called.{few_known}
use Rattle.cost_bound.proofs.First.{refused_at}
use Rattle.cost_bound.proofs.Same.{over_same, emits_same}
use Rattle.cost_bound.proofs.allowance.too_many_emits.Goals as goal

pub returns : goal.returns
returns c =
    let kept = known_of c.args.functions.now in
    let known = summaries (program_of c.args.source.now) in
    let few = few_known c.args.functions.now c.requires.few_functions in
    let first = over_same kept known few c.requires.same (map task_of c.args.source.now.tasks.items) c.args.number c.requires.first in
    let same = refused_at known c.args.source.now.tasks.items c.args.number c.emits.result c.index-task.result.now first c.index-task.ensures in
    record {
      number = c.args.number;
      first = first;
      line_is = search rules;
      name_is = same.0;
      count_is = c.emits.ensures ∙ ap (λ b. capped (emits_of kept (block_view b))) c.deref.ensures.value ∙ ap (λ b. capped (emits_of kept b)) same.1
          ∙ emits_same kept known few c.requires.same first.task.body;
    }
