-- What the proofs of other crates cite.

-- What becomes of a word in hand.
pub use Rattle.event_rules.proofs.Runs.{hands_are_kept, waits_in_the_handler}
-- What stands in the ring.
pub use Rattle.event_rules.proofs.Ring.{ring_holds_accepted}
-- Effects that take words of the ring in order, one part behind another, as long as looks are left.
pub use Rattle.event_rules.proofs.Scripts.{looks_after, left_behind, dropped, joined, off_ring}
-- So do the moments of runs whose scripts do.
pub use Rattle.event_rules.proofs.InOrder.{runs_take_in_order}
-- The word in hand and the ring over one moment of a charge, and over moments in two parts.
pub use Rattle.event_rules.proofs.Hands.{held, stored_at, stored_by, moves_hand, own_high, no_slot, event_head}
pub use Rattle.event_rules.proofs.Ring.{fram_next, next_fram, either_fram}
pub use Rattle.event_rules.proofs.Runs.{after, after-append, power_up_loses, power_up_empties}
