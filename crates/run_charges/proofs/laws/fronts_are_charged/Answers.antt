use Rattle.run_charges.proofs.Fronts.{programs_run, programs_run_alone, fronts_are_charged}
use Rattle.run_charges.proofs.Brief.{handlers_are_brief}
use Rattle.run_charges.proofs.laws.fronts_are_charged.Goals as goal

pub returns-clause-runs : goal.returns-clause-runs
returns-clause-runs g c = programs_run g.S.Compiled.program

pub returns-clause-alone : goal.returns-clause-alone
returns-clause-alone g c = programs_run_alone g.S.Compiled.program

pub returns-clause-charged : goal.returns-clause-charged
returns-clause-charged g c = fronts_are_charged g.S.Compiled.program

pub returns-clause-brief : goal.returns-clause-brief
returns-clause-brief g c = handlers_are_brief g.S.Compiled.program
