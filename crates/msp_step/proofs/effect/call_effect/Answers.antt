use Rattle.std.proofs.Common.{◌∙◌, ap}
use Rattle.msp_step.specs.Registers.{Registers}
use Rattle.msp_step.specs.Effect.{called}
use Rattle.msp_step.specs.Answer.{addressed}
use Rattle.msp_step.proofs.effect.call_effect.Goals as goal

pub returns : goal.returns
returns g c =
    let after : Registers → _ = λ r. addressed (called g.B.Bus.model c.in_ok-v.v r c.source.new.bus) in
    rw (← c.word-first.ensures, ← c.words.ensures.value, ← c.set.ensures, ← c.in_ok-v.ensures) (c.call_to.ensures ∙ ap after c.set-2.ensures)
