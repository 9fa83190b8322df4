use Rattle.model_runs.proofs.Fronts.{fronts_are_lawful}
use Rattle.model_runs.proofs.Spans.{spans_are_in_order, spans_past_are_in_order}
use Rattle.model_runs.proofs.laws.fronts_are_lawful.Goals as goal

pub returns-clause-lawful : goal.returns-clause-lawful
returns-clause-lawful g c = fronts_are_lawful g.S.Compiled.model g.S.Compiled.program

pub returns-clause-spans : goal.returns-clause-spans
returns-clause-spans g c = spans_are_in_order g.S.Compiled.model g.S.Compiled.program

pub returns-clause-past : goal.returns-clause-past
returns-clause-past g c = spans_past_are_in_order g.S.Compiled.model g.S.Compiled.program
