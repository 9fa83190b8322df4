use Rattle.std.proofs.Common.{◌+◌, ◌*◌, ◌%◌, ◌∙◌, ap}
use Rattle.msp_step.specs.Registers.{Registers, with_register}
use Rattle.msp_step.specs.Effect.{written_back, modification_of}
use Rattle.msp_step.specs.Answer.{addressed}
use Rattle.msp_step.proofs.effect.read_modify_write.Goals as goal

pub returns : goal.returns
returns g c =
    let first = (c.word-first.result + 2) % 0x10000 in
    let next = (first + 2 * c.words.result) % 0x10000 in
    let after : Registers → _ = λ r. addressed (written_back g.B.Bus.model (modification_of c.args.change) c.args.width c.operand_location-at.result
    c.in_ok-v.v r
    c.load.new.bus) in
    rw (← c.word-first.ensures, ← c.words.ensures.value, ← c.set.ensures, ← c.operand_location-at.ensures, ← c.in_ok-v.ensures)
    (c.write_back.ensures ∙ ap after (c.set-2.ensures ∙ ap (λ r. with_register r 0 next) c.increment.ensures))
