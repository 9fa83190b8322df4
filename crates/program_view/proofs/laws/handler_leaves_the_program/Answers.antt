use Rattle.program_view.proofs.Handler.{acceptances_begin, handlers_go_on}
use Rattle.program_view.proofs.laws.handler_leaves_the_program.Goals as goal

pub returns-clause-begins : goal.returns-clause-begins
returns-clause-begins c = acceptances_begin

pub returns-clause-goes_on : goal.returns-clause-goes_on
returns-clause-goes_on c = handlers_go_on
