use Rattle.std.proofs.Common.{arith, ◌∙◌}
use Rattle.alp_io.proofs.Interface.{progress_step, progress_err}
use Rattle.board_run.proofs.Changes.{words_next, next_lines}
use Rattle.board_run.proofs.state.write_words.Goals as goal

pub returns-in_err-accepted-clause-bytes : goal.returns-in_err-accepted-clause-bytes
returns-in_err-accepted-clause-bytes g c = progress_err _ _ _ _ _ _ _ c.from_residual.ensures.0
    (next_lines _ _ _ _ _ (words_next c.args.words.now c.loop-w.w-index c.loop-w-test.true) c.loop-w.invariant.lines) c.in_err-accepted.ensures.bytes.part

pub loop-w-preserved : goal.loop-w-preserved
loop-w-preserved g c = record {
  same = c.in_ok-accepted.ensures.same_sink ∙ c.loop-w.invariant.same;
  count = omega (arith, c.in_ok-accepted.ensures.cause.later, c.loop-w.invariant.count);
  lines = progress_step _ _ _ _ _ _ (next_lines _ _ _ _ _ (words_next c.args.words.now c.loop-w.w-index c.loop-w-test.true) c.loop-w.invariant.lines)
      c.in_ok-accepted.ensures.bytes.whole;
}
