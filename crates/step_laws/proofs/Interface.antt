-- What the proofs of other crates cite.

-- Two buses that answer alike carry any instruction alike, up to an access that the second one refuses.
pub use Rattle.step_laws.proofs.EffectAlike.{effect_alike}
-- Valid registers stay valid.
pub use Rattle.step_laws.proofs.Valid.{stays_valid}
