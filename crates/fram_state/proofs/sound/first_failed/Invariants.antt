use Rattle.std.proofs.Common.{◌≡◌, drop, not}
use Rattle.std.specs.Prelude.{find}
use Rattle.fram_state.specs.Sound.{keeps}
use Rattle.fram_state.proofs.sound.first_failed.Given as goal

abbrev pub invariant-loop-rule : goal.invariant-loop-rule
invariant-loop-rule l =
    find (λ r. not (keeps l.map l.words l.runtime l.number r)) (drop l.rule-index l.rules) ≡ find (λ r. not (keeps l.map l.words l.runtime l.number r)) l.rules
