use Rattle.source_generator.proofs.Limits.{few_charges, each_once, few_readings}
use Rattle.source_generator.proofs.trace.generated_trace.Goals as goal

pub of-requires-clause-charges : goal.of-requires-clause-charges
of-requires-clause-charges c = few_charges _ _ _ c.in_ok-charges.ensures

pub of-requires-clause-readings : goal.of-requires-clause-readings
of-requires-clause-readings c = few_readings _ _ c.in_ok-readings.ensures.readings

pub of-requires-clause-repeats : goal.of-requires-clause-repeats
of-requires-clause-repeats c = each_once _ _ _ c.in_ok-charges.ensures
