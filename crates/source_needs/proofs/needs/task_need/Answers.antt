use Rattle.std.proofs.Common.{◌≡◌, ◌∙◌, get_or, ap}
use Rattle.task_ast.specs.View.{program_of}
use Rattle.source_report.specs.SourceReport.{spelled}
use Rattle.memory_map.specs.declared.runtime.Logging.TheVariants.{Redo}
use Rattle.memory_map.specs.MemoryMap.{logged_map}
use Rattle.compiled_model.specs.Parts.{program_parts}
use Rattle.task_needs.specs.Needs.{need_parts}
use Rattle.cost_bound.specs.Summaries.{summaries}
use Rattle.cost_bound.specs.Allowance.{task_words}
use Rattle.source_needs.specs.Needs.{parts_in, undo_need}
use Rattle.source_needs.proofs.Rows.{task_at}
use Rattle.source_needs.proofs.needs.task_need.Goals as goal

pub returns : goal.returns
returns c = λ task there.
    let text = c.args.accepted.now.text.items in
    let p = program_of c.args.accepted.now.checked.source in
    let l = c.args.layout.now in
    let k = c.args.number in
    let source = c.source.ensures ∙ ap (λ x. x.source) c.checked.ensures in
    let at = task_at c.args.accepted.now.checked.source.tasks.items k c.index-task.result.now task there
    (c.index-task.ensures ∙ ap (λ s. get_or s.tasks.items k c.index-task.result.now) source) in
    let priced = c.price_task-priced.result in
    let parts : parts_in priced.parts ≡ need_parts Redo p l k = c.price_task-priced.ensures.parts ∙ ap (λ g. need_parts g p l k) c.requires.redo in
    let name : c.spelled.result.now ≡ spelled text task.name =
    c.spelled.ensures ∙ ap (λ t. spelled t c.index-task.result.now.name) c.source-2.ensures ∙ ap (spelled text) at.0 in
    let boot = ap (λ n. n.boot) parts in
    let start = ap (λ n. n.start) parts in
    let path = ap (λ n. n.path) parts in
    let commit = ap (λ n. n.commit) parts in
    let bound : priced.bound ≡ (program_parts p l).cost k = c.price_task-priced.ensures.bound in
    let words : priced.words ≡ task_words (summaries p) p.shared task.body = c.price_task-priced.ensures.words task there in
    let undo : c.args.undo ≡ undo_need p (logged_map l) k = c.requires.undo in
    λ i. record {
      name = name i;
      boot = boot i;
      start = start i;
      path = path i;
      commit = commit i;
      table = bound i;
      words = words i;
      ways = c.args.ways.items;
      undo = undo i;
    }
