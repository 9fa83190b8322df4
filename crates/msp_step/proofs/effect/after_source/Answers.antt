use Rattle.msp_step.proofs.effect.after_source.Goals as goal

pub returns : goal.returns
returns g c = rw (
  ← c.in_ok-d.ensures,
  ← c.word.ensures,
  ← c.flags_of.ensures,
  ← c.operated-value.ensures.flags,
  ← c.operated-value.ensures.value,
  ← c.set_flags.ensures,
) c.finish.ensures
