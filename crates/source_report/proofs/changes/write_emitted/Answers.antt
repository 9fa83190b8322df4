use Rattle.std.proofs.Common.{arith, rules}
use Rattle.alp_io.proofs.Interface.{progress_step, progress_err}
use Rattle.source_report.proofs.ReportLines.{rest_of_emitted}
use Rattle.source_report.proofs.changes.write_emitted.Goals as goal

pub returns-in_err-accepted-clause-bytes : goal.returns-in_err-accepted-clause-bytes
returns-in_err-accepted-clause-bytes g c =
    let split = rest_of_emitted c.args.words.now c.loop-w.w-index c.loop-w-test.true in
    progress_err _ _ _ _ _ _ _ c.from_residual.ensures.0 (rw split at c.loop-w.invariant.bytes) c.in_err-accepted.ensures.bytes.part

pub loop-w-preserved : goal.loop-w-preserved
loop-w-preserved g c =
    let split = rest_of_emitted c.args.words.now c.loop-w.w-index c.loop-w-test.true in
    record {
      same_sink = search rules;
      bytes = progress_step _ _ _ _ _ _ (rw split at c.loop-w.invariant.bytes) c.in_ok-accepted.ensures.bytes.whole;
      count = omega arith;
    }
