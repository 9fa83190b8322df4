use Rattle.std.proofs.Common.{refl, sym, ◌∙◌}
use Rattle.pair_run.proofs.Bringing.{newest_packet_brings}
use Rattle.pair_run.proofs.sides.Sides.bring_newest_packet.Goals as goal

pub returns-in-Some-clause-brought : goal.returns-in-Some-clause-brought
returns-in-Some-clause-brought c p k shows =
    newest_packet_brings _ _ p k shows _ (record { a = refl; known = refl; known_b = c.bring_packet.ensures.known; listener = refl; acknowledgements = refl })
    (sym c.bring_newest.ensures.value ∙ c.in-Some.is) c.bring_packet.ensures.state c.bring_newest.ensures.left

pub returns-in_default-clause-brought : goal.returns-in_default-clause-brought
returns-in_default-clause-brought c p k shows =
    newest_packet_brings _ _ p k shows _ (record { a = refl; known = refl; known_b = refl; listener = refl; acknowledgements = refl })
    (sym c.bring_newest.ensures.value ∙ c.in_default.is) refl c.bring_newest.ensures.left
