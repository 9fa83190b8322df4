use Rattle.std.proofs.Common.{refl}
use Rattle.state_commands.specs.Saved.{the_state, the_states_trace}
use Rattle.plain_commands.proofs.command_answers.Interface.{refusal_fails, memory_fails, handed_on}
use Rattle.state_commands.proofs.SaveLaws.{ran_on}
use Rattle.state_commands.proofs.save.state_run_of.Goals as goal

pub returns-in_err-state-clause-failure : goal.returns-in_err-state-clause-failure
returns-in_err-state-clause-failure c =
    handed_on _ _ _ c.from_residual.ensures
    (λ shelf stands out silent. refusal_fails _ _ _ _ _ 0 _ _ refl (λ r no. the_state r no) stands silent c.in_err-state.ensures.refused)

pub returns-in_err-trace-clause-failure : goal.returns-in_err-trace-clause-failure
returns-in_err-trace-clause-failure c =
    handed_on _ _ _ c.from_residual-in_err-trace.ensures
    (λ shelf stands out silent.
    refusal_fails _ _ _ _ _ 1 _ _ refl (λ r no. the_states_trace _ r c.in_ok-state.ensures.said no) stands silent c.in_err-trace.ensures.refused)

pub returns-in_err-ran-clause-failure : goal.returns-in_err-ran-clause-failure
returns-in_err-ran-clause-failure c =
    handed_on _ _ _ c.from_residual-in_err-ran.ensures
    (λ shelf stands out silent. memory_fails _ _ _ _ _ c.in_err-ran.ensures.failure stands silent)

pub returns-clause-ran : goal.returns-clause-ran
returns-clause-ran c =
    ran_on _ _ _ _ _ _ _ c.in_ok-state.ensures.said c.in_ok-trace.ensures.said c.is_of_words.ensures c.in_ok-trace.ensures.words c.in_ok-ran.ensures.ran
