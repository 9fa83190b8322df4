use Rattle.std.proofs.Common.{refl, sym, ◌∙◌}
use Rattle.pair_run.proofs.Bringing.{newest_acknowledgement_brings}
use Rattle.pair_run.proofs.sides.Sides.bring_newest_ack.Goals as goal

pub returns-in-Some-clause-brought : goal.returns-in-Some-clause-brought
returns-in-Some-clause-brought c p k shows =
    newest_acknowledgement_brings _ _ p k shows _ (record { b = refl; known = refl; known_a = c.bring_ack.ensures.known; listener = refl; packets = refl })
    (sym c.bring_newest.ensures.value ∙ c.in-Some.is) c.bring_ack.ensures.state c.bring_newest.ensures.left

pub returns-in_default-clause-brought : goal.returns-in_default-clause-brought
returns-in_default-clause-brought c p k shows =
    newest_acknowledgement_brings _ _ p k shows _ (record { b = refl; known = refl; known_a = refl; listener = refl; packets = refl })
    (sym c.bring_newest.ensures.value ∙ c.in_default.is) refl c.bring_newest.ensures.left
