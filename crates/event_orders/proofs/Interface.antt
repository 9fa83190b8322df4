-- What the proofs of other crates cite.

-- A run whose program takes the words of the ring in order keeps their order.
pub use Rattle.event_orders.proofs.Runs.{rings_keep_order}
