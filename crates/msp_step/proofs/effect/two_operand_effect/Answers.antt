use Rattle.std.proofs.Common.{◌+◌, ◌*◌, ◌%◌, ◌∙◌, ap}
use Rattle.msp_step.specs.Registers.{Registers, registers_of}
use Rattle.msp_step.specs.Effect.{destination_location, after_source}
use Rattle.msp_step.specs.declared.operand.Location.{Location}
use Rattle.msp_step.specs.Answer.{addressed}
use Rattle.msp_step.proofs.effect.two_operand_effect.Goals as goal

pub returns : goal.returns
returns g c =
    let ext = (c.word-pc.result + 2) % 0x10000 in
    let at_words = (ext + 2 * c.words.result) % 0x10000 in
    let at : Location → _ = λ l. addressed (after_source g.B.Bus.model c.args.op c.args.width l c.in_ok-s.s (registers_of c.set-2.new.self) c.source.new.bus) in
    let after : Registers → _ = λ r. addressed (after_source g.B.Bus.model c.args.op c.args.width (destination_location r at_words c.args.dst) c.in_ok-s.s r
    c.source.new.bus) in
    rw (← c.word-pc.ensures, ← c.words.ensures.value, ← c.words-2.ensures.value, ← c.set.ensures, ← c.in_ok-s.ensures)
    (c.after_source.ensures ∙ ap at c.destination_location-at.ensures ∙ ap after c.set-2.ensures)
