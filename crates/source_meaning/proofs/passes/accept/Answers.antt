use Rattle.std.proofs.Common.{[], rules}
use Rattle.task_ast.specs.View.{program_of}
use Rattle.source_meaning.proofs.Runnable.{checked_runnable}
use Rattle.source_meaning.proofs.Unique.{one_program}
use Rattle.source_meaning.proofs.passes.accept.Goals as goal

pub invariant_of-result : goal.invariant_of-result
invariant_of-result c =
    let program = program_of c.in_ok-checked.checked.source in
    record {
      runnable = checked_runnable c.args.text.now program c.in_ok-checked.ensures.checks c.in-Ok.ensures.ok.few_emits;
      short = search rules;
    }

pub returns-in_ok-to_vec-in-Ok-clause-only : goal.returns-in_ok-to_vec-in-Ok-clause-only
returns-in_ok-to_vec-in-Ok-clause-only c =
    let program = program_of c.in_ok-checked.checked.source in
    one_program c.args.text.now program c.in-Ok.allow c.in_ok-checked.ensures.only c.in-Ok.ensures.ok (c.one_answer.ensures program [])
