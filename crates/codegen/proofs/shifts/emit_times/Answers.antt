use Rattle.codegen.proofs.Emitted.{forms_owed}
use Rattle.codegen.proofs.shifts.emit_times.Goals as goal

pub loop-i-preserved : goal.loop-i-preserved
loop-i-preserved c = forms_owed c.args.forms.now c.args.count c.loop-i.i c.loop-i.code.items c.extend_from_slice.new.self.items _ c.loop-i-test.true
    c.in_ok-extend_from_slice.ensures.items c.loop-i.invariant
