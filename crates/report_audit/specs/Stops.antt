-- What an end of the reading says.
use Rattle.report_audit.specs.declared.front.Stop.{Stop}
use Rattle.report_audit.specs.declared.front.Stop.TheVariants.{At, Memory}
use Rattle.report_audit.specs.Fronts.{Inputs, IsStop}

-- the report stops being good there; nothing is said where memory was refused
abbrev pub StopsBy : Inputs → Stop → Type 0
StopsBy i (At place) = IsStop i place
StopsBy i Memory = Unit {0}
