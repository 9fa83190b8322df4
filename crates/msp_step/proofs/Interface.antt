-- What the proofs of other crates cite.

-- That the words of an instruction stand at an address, from what was fetched.
pub use Rattle.msp_step.proofs.Fetched.{fetched_at, is_current}
-- An instruction reads at most twice, and then writes at most once; where an access is refused, it has only read.
pub use Rattle.msp_step.proofs.Accesses.{Ends, effect_ends}
-- A state steps in one way: what is fetched begins one instruction or says why there is none.
pub use Rattle.msp_step.proofs.Determined.{same_current, same_stop, not_stopped, determined, takes_its_cost}
