use Rattle.layout_facts.proofs.laws.rows_fit_places.Goals as goal
use Rattle.layout_facts.proofs.Views.{rows_fit_places}

pub returns : goal.returns
returns c = rows_fit_places
