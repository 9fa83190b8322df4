use Rattle.std.proofs.Common.{refl, inl, inr}
use Rattle.fram_state.proofs.Taken.{taken_ok}
use Rattle.fram_state.proofs.belongs.Goals as goal

pub returns-in-None-clause-value : goal.returns-in-None-clause-value
returns-in-None-clause-value c = inr (c.in-None.ensures.none, refl)

pub returns-in-Some-clause-value : goal.returns-in-Some-clause-value
returns-in-Some-clause-value c = inl (c.in-Some.map.now, c.in-Some.ensures.some, c.belongs_with.ensures.value)

pub returns-in-Some-clause-sound : goal.returns-in-Some-clause-sound
returns-in-Some-clause-sound c = taken_ok c.args.image.now c.args.state.now c.in-Some.map.now c.belongs_with.result c.in-Some.ensures.some
    c.belongs_with.ensures.images c.belongs_with.ensures.value
