-- What holds of plans.
use Rattle.std.specs.Prelude.{◌≡◌, List}
use Rattle.cost_bound.specs.Allowance.{CheckedProgram}
use Rattle.war_analysis.specs.PlanValue.{TaskPlanValue}
use Rattle.war_analysis.specs.Plans.{IsPlan}

-- a source has one plan at most
abbrev pub OnePlan : CheckedProgram → Type 0
OnePlan p = (a b : List TaskPlanValue) → IsPlan p a → IsPlan p b → a ≡ b
