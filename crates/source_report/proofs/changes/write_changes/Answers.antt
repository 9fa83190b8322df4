use Rattle.std.proofs.Common.{arith, rules}
use Rattle.alp_io.proofs.Interface.{progress_step, progress_err}
use Rattle.source_report.proofs.ReportLines.{shaped_row, rest_of_changes}
use Rattle.source_report.proofs.changes.write_changes.Goals as goal

pub write_variable-requires-clause-before : goal.write_variable-requires-clause-before
write_variable-requires-clause-before g c = shaped_row c.args.shared.now c.args.run.now.before c.loop-v.v _ c.requires.before c.loop-v-test.true

pub write_variable-requires-clause-now : goal.write_variable-requires-clause-now
write_variable-requires-clause-now g c = shaped_row c.args.shared.now c.args.run.now.shared c.loop-v.v _ c.requires.now c.loop-v-test.true

pub returns-in_err-write_variable-clause-bytes : goal.returns-in_err-write_variable-clause-bytes
returns-in_err-write_variable-clause-bytes g c =
    let split = rest_of_changes c.args.text.now c.args.shared.now c.args.run.now.before c.args.run.now.shared c.loop-v.v _ c.loop-v-test.true
    c.requires.before c.requires.now in
    progress_err _ _ _ _ _ _ _ c.from_residual.ensures.0 (rw split at c.loop-v.invariant.bytes) c.in_err-write_variable.ensures.bytes.part

pub loop-v-preserved : goal.loop-v-preserved
loop-v-preserved g c =
    let split = rest_of_changes c.args.text.now c.args.shared.now c.args.run.now.before c.args.run.now.shared c.loop-v.v _ c.loop-v-test.true
    c.requires.before c.requires.now in
    record {
      same_sink = search rules;
      bytes = progress_step _ _ _ _ _ _ (rw split at c.loop-v.invariant.bytes) c.in_ok-write_variable.ensures.bytes.whole;
      count = omega arith;
    }
