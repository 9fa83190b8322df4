use Rattle.std.proofs.Common.{arith, ◌∙◌}
use Rattle.alp_io.proofs.Interface.{progress_step, progress_err}
use Rattle.board_run.proofs.Changes.{next_lines, variable_of}
use Rattle.board_run.proofs.state.write_changes.Goals as goal

pub returns-in_err-write_variable-clause-bytes : goal.returns-in_err-write_variable-clause-bytes
returns-in_err-write_variable-clause-bytes g c = progress_err _ _ _ _ _ _ _ c.from_residual.ensures.0
    (next_lines _ _ _ _ _ (variable_of _ _ _ _ _ _ c.variables-v-items.ensures c.v-item.is c.loop-v-test.true) c.loop-v.invariant.lines)
    c.in_err-write_variable.ensures.bytes.part

pub loop-v-preserved : goal.loop-v-preserved
loop-v-preserved g c = record {
  same = c.in_ok-write_variable.ensures.same_sink ∙ c.loop-v.invariant.same;
  count = omega (arith, c.in_ok-write_variable.ensures.cause.later, c.loop-v.invariant.count);
  lines = progress_step _ _ _ _ _ _ (next_lines _ _ _ _ _ (variable_of _ _ _ _ _ _ c.variables-v-items.ensures c.v-item.is c.loop-v-test.true)
      c.loop-v.invariant.lines) c.in_ok-write_variable.ensures.bytes.whole;
}
