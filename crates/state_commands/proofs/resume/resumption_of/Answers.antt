use Rattle.std.proofs.Common.{refl}
use Rattle.state_commands.specs.Resumed.{the_states_image, the_resumed_state, the_resumed_trace}
use Rattle.plain_commands.proofs.command_answers.Interface.{handed_on, refusal_fails}
use Rattle.state_commands.proofs.resume.resumption_of.Goals as goal

pub returns-in_err-image-clause-failure : goal.returns-in_err-image-clause-failure
returns-in_err-image-clause-failure c =
    handed_on _ _ _ c.from_residual.ensures
    (λ shelf stands out silent. refusal_fails _ _ _ _ _ 0 _ _ refl (λ r no. the_states_image r no) stands silent c.in_err-image.ensures.refused)

pub returns-in_err-state-clause-failure : goal.returns-in_err-state-clause-failure
returns-in_err-state-clause-failure c =
    handed_on _ _ _ c.from_residual-in_err-state.ensures
    (λ shelf stands out silent.
    refusal_fails _ _ _ _ _ 1 _ _ refl (λ r no. the_resumed_state _ r c.in_ok-image.ensures.said no) stands silent c.in_err-state.ensures.refused)

pub returns-in_err-trace-clause-failure : goal.returns-in_err-trace-clause-failure
returns-in_err-trace-clause-failure c =
    handed_on _ _ _ c.from_residual-in_err-trace.ensures
    (λ shelf stands out silent. refusal_fails _ _ _ _ _ 2 _ _ refl
    (λ r no. the_resumed_trace _ _ r c.in_ok-image.ensures.said c.in_ok-state.ensures.said no) stands silent c.in_err-trace.ensures.refused)

pub returns-clause-said : goal.returns-clause-said
returns-clause-said c = record {
  image_said = c.in_ok-image.ensures.said;
  state_said = c.in_ok-state.ensures.said;
  trace_said = c.in_ok-trace.ensures.said;
  words = c.in_ok-trace.ensures.words;
}
