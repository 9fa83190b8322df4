use Rattle.std.proofs.Common.{sym}
use Rattle.msp_step.specs.Registers.{registers_of}
use Rattle.msp_step.specs.Step.{effect}
use Rattle.msp_step.proofs.Accesses.{faulted_after_reads, reads_keep}
use Rattle.msp_step.proofs.Addressed.{faulted_so}
use Rattle.msp_step.proofs.machine.execute.Goals as goal

pub returns-in-Err-clause-reads : goal.returns-in-Err-clause-reads
returns-in-Err-clause-reads g c =
    let made = effect g.B.Bus.model c.args.instruction.now (registers_of c.args.cpu.now) c.args.bus.now in
    faulted_after_reads g.B.Bus.model c.args.instruction.now (registers_of c.args.cpu.now) c.args.bus.now c.perform.new.bus _ _
    (faulted_so made _ _ _ (sym c.in-Err.ensures))

pub returns-in-Err-clause-memory : goal.returns-in-Err-clause-memory
returns-in-Err-clause-memory g c =
    let made = effect g.B.Bus.model c.args.instruction.now (registers_of c.args.cpu.now) c.args.bus.now in
    let read = faulted_after_reads g.B.Bus.model c.args.instruction.now (registers_of c.args.cpu.now) c.args.bus.now c.perform.new.bus _ _
    (faulted_so made _ _ _ (sym c.in-Err.ensures)) in
    reads_keep g.B.Bus.model g.met.B.Bus.reads_keep_memory c.args.bus.now c.perform.new.bus read.count read.reads
