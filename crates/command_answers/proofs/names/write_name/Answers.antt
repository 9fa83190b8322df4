use Rattle.std.proofs.Common.{arith, sym, ◌∙◌, ◌+◌}
use Rattle.alp_io.proofs.Interface.{progress_step, progress_last, progress_err}
use Rattle.command_answers.proofs.NameLaws.{run_of_name, no_run, run_more, last_run}
use Rattle.command_answers.proofs.names.write_name.Goals.{then-is_ascii_control+in_ok-write_run, else-is_ascii_control}
use Rattle.command_answers.proofs.names.write_name.Goals as goal

pub returns-in_err-write_run-clause-bytes : goal.returns-in_err-write_run-clause-bytes
returns-in_err-write_run-clause-bytes g c =
    let inv = c.loop-at.invariant in
    let split = run_of_name c.args.name.now c.loop-at.from c.loop-at.at _ inv.inside c.loop-at-test.true inv.plain
    (sym c.is_ascii_control.ensures.value ∙ c.if-is_ascii_control.true) in
    progress_err _ _ _ _ _ _ _ c.from_residual.ensures.0 (rw split at inv.bytes) c.in_err-write_run.ensures.bytes.part

pub loop-at-preserved : goal.loop-at-preserved
loop-at-preserved g c =
    let inv = c.loop-at.invariant in
    elim c.if-is_ascii_control.branch [
      | then-is_ascii_control+in_ok-write_run w ↦
          let split = run_of_name c.args.name.now c.loop-at.from c.loop-at.at _ inv.inside c.loop-at-test.true inv.plain
          (sym c.is_ascii_control.ensures.value ∙ w.if-is_ascii_control.true) in
          let next = progress_step _ _ _ _ _ _ (rw split at inv.bytes) w.in_ok-write_run.ensures.bytes.whole in
          record {
            inside = omega (arith, w.from-is);
            plain = rw w.from-is (no_run _ (c.loop-at.at + 1));
            bytes = rw (w.from-is, w.err-is) next;
            count = rw w.err-is (omega (arith, inv.count, w.write_run.ensures.cause.later));
          }
      | else-is_ascii_control w ↦
          let more = run_more c.args.name.now c.loop-at.from c.loop-at.at _ inv.inside c.loop-at-test.true inv.plain
          (sym c.is_ascii_control.ensures.value ∙ w.if-is_ascii_control.false) in
          record {
            inside = omega (arith, w.from-is, inv.inside);
            plain = rw w.from-is more;
            bytes = rw (w.from-is, w.err-is) inv.bytes;
            count = rw w.err-is inv.count;
          }
    ]

pub returns-clause-bytes : goal.returns-clause-bytes
returns-clause-bytes g c =
    let inv = c.loop-at.invariant in
    let rest = last_run c.args.name.now c.loop-at.from c.loop-at.at (omega (arith, c.loop-at-test.false)) inv.plain in
    progress_last _ _ _ _ _ _ (rw rest at inv.bytes) c.write_all.ensures.bytes
