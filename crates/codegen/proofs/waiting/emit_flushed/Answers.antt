use Rattle.codegen.proofs.Names.{◌-◌, length, get_or, rules}
use Rattle.word_code.specs.declared.waiting.Waiting.TheVariants as waiting
use Rattle.codegen.proofs.Emitted.{flushed_step}
use Rattle.codegen.proofs.waiting.emit_flushed.Goals as goal

pub loop-i-preserved : goal.loop-i-preserved
loop-i-preserved c =
    let os = c.args.waiting.now in
    let o = get_or os (length os - 1 - c.loop-i.i) (waiting.Number 0) in
    flushed_step os c.loop-i.i o c.waiting_source.result c.args.code.now.items c.loop-i.code.items c.extend_from_slice.new.self.items c.loop-i-test.true
    (search rules) c.waiting_source.ensures c.in_ok-extend_from_slice.ensures.items c.loop-i.invariant
