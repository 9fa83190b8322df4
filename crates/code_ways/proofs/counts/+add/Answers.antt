use Rattle.std.proofs.Common.{◌∙◌, ap}
use Rattle.code_ways.specs.Choices.{choices_of}
use Rattle.code_ways.proofs.Grown.{behind_grown, turns_grown, choices_behind, choices_turned}
use Rattle.code_ways.proofs.counts.+add.Goals as goal

pub returns-in-Behind-clause-grown : goal.returns-in-Behind-clause-grown
returns-in-Behind-clause-grown t c =
    behind_grown _ _ _ c.args.holds c.args.times _ _ _ c.add.ensures.length (rw c.deref.ensures at c.add.ensures.grown)
    (rw c.deref-in-Behind.ensures at c.add-in-Behind.ensures.grown)
    (ap choices_of c.in-Behind.is ∙ choices_behind c.in-Behind.first c.in-Behind.second)

pub returns-in-Turns-clause-grown : goal.returns-in-Turns-clause-grown
returns-in-Turns-clause-grown t c =
    turns_grown _ _ c.args.holds c.args.times c.in-Turns.turns _ _ _ c.saturating_mul.ensures (rw c.deref-in-Turns.ensures at c.add-in-Turns.ensures.grown)
    (ap choices_of c.in-Turns.is ∙ choices_turned c.in-Turns.turns c.in-Turns.turn)
