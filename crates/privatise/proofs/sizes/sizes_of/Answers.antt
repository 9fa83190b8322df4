use Rattle.std.proofs.Common.{◌≤◌, ◌∙◌, [], ap, arith, length, map}
use Rattle.task_ast.specs.View.{task_of, program_of}
use Rattle.cost_bound.specs.Machine.{known_of}
use Rattle.cost_bound.specs.Summaries.{summaries}
use Rattle.cost_bound.specs.Allowance.{is_written, total}
use Rattle.cost_bound.proofs.Interface.{known_length, written_sum}
use Rattle.privatise.specs.Sizes.{home_words, copy_part, body_words, boot_words}
use Rattle.privatise.proofs.Sums.{bodies_small}
use Rattle.privatise.proofs.Known.{boot_same, total_exact, total_small}
use Rattle.privatise.proofs.sizes.sizes_of.Goals as goal

pub all_task_words-requires-clause-small : goal.all_task_words-requires-clause-small
all_task_words-requires-clause-small c =
    let p = program_of c.args.source.now in
    let known = known_of c.args.functions.now in
    let count = known_length c.args.functions.now in
    rw (c.deref-5.ensures.value, c.deref-6.ensures.value)
    (total_small known (summaries p) [] (omega (arith, count, c.requires.few_functions)) c.requires.same p.shared c.requires.few p.tasks
    (bodies_small p c.requires.small))

pub returns : goal.returns
returns c =
    let p = program_of c.args.source.now in
    let known = known_of c.args.functions.now in
    let count = known_length c.args.functions.now in
    let few : length known ≤ 64 = omega (arith, count, c.requires.few_functions) in
    record {
      homes = c.home_words.ensures ∙ ap home_words c.deref.ensures.value;
      copies = written_sum copy_part c.args.source.now.shared.items c.deref-2.result.now c.args.written.now
          (is_written (summaries (program_of c.args.source.now)) (map task_of c.args.source.now.tasks.items)) c.copy_words.result
          c.requires.few c.deref-2.ensures.value c.requires.written c.copy_words.ensures;
      boot = c.boot_words.ensures ∙ ap (λ ds. boot_words known ds (map task_of c.deref-4.result.now)) c.deref-3.ensures.value
          ∙ ap (λ ts. boot_words known c.args.source.now.shared.items (map task_of ts)) c.deref-4.ensures.value
          ∙ boot_same known (summaries p) [] few c.requires.same p.shared c.requires.few p.tasks;
      code = c.all_task_words.ensures ∙ ap (λ ds. total (body_words known ds) (map task_of c.deref-6.result.now)) c.deref-5.ensures.value
          ∙ ap (λ ts. total (body_words known c.args.source.now.shared.items) (map task_of ts)) c.deref-6.ensures.value
          ∙ total_exact known (summaries p) [] few c.requires.same p.shared c.requires.few p.tasks (bodies_small p c.requires.small);
    }
