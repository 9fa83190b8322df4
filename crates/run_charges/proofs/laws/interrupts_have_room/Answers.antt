use Rattle.run_charges.proofs.Room.{stack_has_room, interrupts_stay_on}
use Rattle.run_charges.proofs.laws.interrupts_have_room.Goals as goal

pub returns-clause-stack : goal.returns-clause-stack
returns-clause-stack g c = stack_has_room g.S.Compiled.program

pub returns-clause-stay : goal.returns-clause-stay
returns-clause-stay g c = interrupts_stay_on g.S.Compiled.program
