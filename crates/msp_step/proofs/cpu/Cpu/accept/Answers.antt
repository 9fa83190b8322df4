use Rattle.std.proofs.Common.{◌∙◌, ap}
use Rattle.msp_step.specs.Registers.{registers_of, with_register}
use Rattle.msp_step.proofs.cpu.Cpu.accept.Goals as goal

pub returns : goal.returns
returns c =
    let r = registers_of c.args.self.now in
    let at_status = ap (λ a. with_register (with_register (with_register r 1 a) 2 0) 0 c.args.vector) c.return_places-status.ensures.sr in
    let cleared = ap (λ q. with_register (with_register q 2 0) 0 c.args.vector) c.set.ensures in
    let at_vector = ap (λ q. with_register q 0 c.args.vector) c.set-2.ensures in
    c.set-3.ensures ∙ at_vector ∙ cleared ∙ at_status
