use Rattle.word_code.proofs.Prefixes.{runs_stay_within, starving_stays_within}
use Rattle.word_code.proofs.laws.effects_so_far_are_a_prefix.Goals as goal

pub returns-clause-runs : goal.returns-clause-runs
returns-clause-runs c = runs_stay_within

pub returns-clause-starves : goal.returns-clause-starves
returns-clause-starves c = starving_stays_within
