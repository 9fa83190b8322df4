use Rattle.std.proofs.Common.{arith, rules, ◌≡◌, ◌+◌, ◌-◌, ◌∙◌, ap, length, length-drop}
use Rattle.alp_io.proofs.Interface.{progress_step, progress_err, progress_last}
use Rattle.task_ast.specs.View.{program_of}
use Rattle.source_values.specs.Runs.{completion_of}
use Rattle.source_report.proofs.ReportSteps.{report_at_limit, report_short, report_more}
use Rattle.source_report.proofs.report.write_mean_report.Goals as goal

pub returns-in-Err-clause-bytes : goal.returns-in-Err-clause-bytes
returns-in-Err-clause-bytes g c =
    let step = report_short (c.args.most - c.loop-k.k) c.args.text.now (program_of c.args.source.now) (length c.args.readings.now) c.loop-k.k
    c.loop-k.accepted c.loop-k.run.task c.loop-k.run.shared c.loop-k.left.now (omega arith) (ap completion_of c.in-Err.ensures.short) in
    progress_last _ _ _ _ _ _ (rw step at c.loop-k.invariant.bytes) c.end.ensures.bytes

pub returns-in_err-write_transition-in-Ok-clause-bytes : goal.returns-in_err-write_transition-in-Ok-clause-bytes
returns-in_err-write_transition-in-Ok-clause-bytes g c =
    let step = report_more (c.args.most - c.loop-k.k) (c.args.most - (c.loop-k.k + 1)) c.args.text.now (program_of c.args.source.now)
    (length c.args.readings.now) c.loop-k.k c.loop-k.accepted c.loop-k.run.task c.loop-k.run.shared c.loop-k.left.now _ (omega arith) c.in-Ok.ensures.done in
    progress_err _ _ _ _ _ _ _ c.from_residual.ensures.0 (rw step at c.loop-k.invariant.bytes)
    (rw (c.in-Ok.ensures.before, c.in-Ok.ensures.from, c.behind-rest.ensures) at c.in_err-write_transition-in-Ok.ensures.bytes.part)

pub loop-k-preserved : goal.loop-k-preserved
loop-k-preserved g c =
    let step = report_more (c.args.most - c.loop-k.k) (c.args.most - (c.loop-k.k + 1)) c.args.text.now (program_of c.args.source.now)
    (length c.args.readings.now) c.loop-k.k c.loop-k.accepted c.loop-k.run.task c.loop-k.run.shared c.loop-k.left.now _ (omega arith) c.in-Ok.ensures.done in
    record {
      same_sink = search rules;
      bytes = rw (c.emitted.ensures, c.behind-rest.ensures, ← c.in-Ok.ensures.next.0) (progress_step _ _ _ _ _ _ (rw step at c.loop-k.invariant.bytes)
          (rw (c.in-Ok.ensures.before, c.in-Ok.ensures.from, c.behind-rest.ensures) at c.in_ok-write_transition-in-Ok.ensures.bytes.whole));
      count = omega arith;
      left = omega (arith, ap length c.behind-rest.ensures, length-drop c.in-Ok.done.used c.loop-k.left.now, c.loop-k.invariant.left);
      words = omega (arith, ap length c.emitted.ensures, c.in-Ok.ensures.few_emitted, c.loop-k.invariant.words);
      shaped = c.in-Ok.ensures.same_lengths ∙ c.loop-k.invariant.shaped;
      task = rw c.in-Ok.ensures.next.0 at c.in-Ok.ensures.next.1;
    }

pub returns-clause-bytes : goal.returns-clause-bytes
returns-clause-bytes g c =
    let step = report_at_limit (c.args.most - c.loop-k.k) c.args.text.now (program_of c.args.source.now) (length c.args.readings.now) c.loop-k.k
    c.loop-k.accepted c.loop-k.run.task c.loop-k.run.shared c.loop-k.left.now (omega arith) in
    let full : c.args.most ≡ c.loop-k.k = omega arith in
    progress_last _ _ _ _ _ _ (rw step at c.loop-k.invariant.bytes) (rw full at c.end-2.ensures.bytes)
