use Rattle.war_analysis.proofs.Unique.{one_plan}
use Rattle.war_analysis.proofs.laws.one_plan.Goals as goal

pub returns : goal.returns
returns c = λ p a b x y. one_plan p a b x y
