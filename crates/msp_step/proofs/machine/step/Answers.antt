use Rattle.std.proofs.Common.{sym, subst, arith}
use Rattle.msp_step.specs.Reads.{Nothing}
use Rattle.msp_step.specs.Step.{StepResult, Stopped, Executed}
use Rattle.msp_step.specs.Registers.{registers_of}
use Rattle.msp_step.proofs.machine.step.Goals as goal

pub returns-in-Ok-clause-steps : goal.returns-in-Ok-clause-steps
returns-in-Ok-clause-steps g c =
    subst (λ o. StepResult g.B.Bus.model (registers_of c.args.cpu.now) c.args.bus.now o) (sym c.execute.ensures.executes)
    (Executed c.in-Ok.instruction c.in-Ok.ensures.found)

pub returns-in-Err-clause-steps : goal.returns-in-Err-clause-steps
returns-in-Err-clause-steps g c = Stopped c.in-Err.stop c.in-Err.ensures.none

pub returns-in-Err-clause-reads : goal.returns-in-Err-clause-reads
returns-in-Err-clause-reads g c = record { count = 0; few = omega arith; reads = Nothing }
