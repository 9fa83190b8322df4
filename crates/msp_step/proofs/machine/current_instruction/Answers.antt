use Rattle.msp_step.specs.Registers.{registers_of}
use Rattle.msp_step.proofs.Fetched.{is_current}
use Rattle.msp_step.proofs.machine.current_instruction.Goals as goal

pub returns-clause-found : goal.returns-clause-found
returns-clause-found g c =
    let d = c.in-Ok.ensures in
    is_current g.B.Bus.model (registers_of c.args.cpu.now) c.args.bus.now c.in_ok-words.words c.in-Ok.instruction c.in_ok-words.ensures.found d.fits d.found.0

pub unreachable-requires : goal.unreachable-requires
unreachable-requires g c =
    let begun = c.in_ok-words.ensures.found.1.begun in
    c.in-Err.ensures.illegal.1 begun.0 begun.1 begun.2
