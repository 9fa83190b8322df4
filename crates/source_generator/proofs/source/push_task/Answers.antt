use Rattle.std.proofs.Common.{◌∙◌, sym, ap}
use Rattle.std.proofs.lemmas.Result.{on_ok_weaker}
use Rattle.source_generator.specs.Draws.{next}
use Rattle.source_generator.proofs.Steps.{behind_seven}
use Rattle.source_generator.proofs.source.push_task.Goals as goal

pub returns-clause-state : goal.returns-clause-state
returns-clause-state c = on_ok_weaker c.push_task_end.result
    (λ _. c.draw.ensures.state ∙ ap next c.in_ok-push_statements.ensures.state ∙ sym (behind_seven c.args.generator.now.state))
    c.push_task_end.ensures
