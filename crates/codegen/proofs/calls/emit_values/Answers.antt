use Rattle.codegen.proofs.Names.{ap, ◌∙◌, source_from}
use Rattle.codegen.proofs.Emitted.{values_step, words_step}
use Rattle.codegen.proofs.calls.emit_values.Goals as goal

pub loop-i-preserved : goal.loop-i-preserved
loop-i-preserved c =
    let known = c.loop-i.invariant in
    let k = c.loop-i.i in
    let os = c.loop-i.waiting.items in
    let taken = c.source_from-source.ensures ∙ ap source_from c.take.ensures.top in
    record {
      owed = values_step c.args.first c.args.count k os c.take.new.waiting.items c.source_from-source.result c.register_behind-register.result
          c.loop-i.code.items c.extend_from_slice.new.self.items _ c.loop-i-test.true taken c.register_behind-register.ensures c.take.ensures.below
          c.in_ok-extend_from_slice.ensures.items known.owed;
      below = words_step c.args.count k os c.take.new.waiting.items _ c.loop-i-test.true c.take.ensures.below known.below;
    }
