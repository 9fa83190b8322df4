use Rattle.war_analysis.proofs.analysis.task_plan.Goals as goal

pub returns : goal.returns
returns c = λ fs known calls. record {
  private_scalars = c.in_ok-private_scalars.ensures fs known calls;
  versioned_arrays = c.in_ok-versioned_arrays.ensures fs known calls;
}
