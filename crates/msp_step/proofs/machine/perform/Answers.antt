use Rattle.msp_step.specs.Step.{effect}
use Rattle.msp_step.proofs.machine.perform.Goals as goal

pub returns-in-Two : goal.returns-in-Two
unfolding effect
returns-in-Two g c = rw c.in-Two.is c.two_operand_effect.ensures
