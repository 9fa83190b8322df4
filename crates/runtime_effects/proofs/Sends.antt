-- What the sends of a commit do to FRAM.
use Rattle.std.proofs.Common.{ℕ, zero, suc, ◌+◌, ◌%◌}
use Rattle.machine_effects.specs.World.{EachStore}
use Rattle.runtime_effects.specs.Stages.{sends}

-- sends store nothing
pub sends_store : (P : ℕ → ℕ → Type 0) (n k p : ℕ) (f : ℕ → ℕ) → EachStore P (sends n k p f)
sends_store P zero k p f = tt
sends_store P (suc n) k p f = (tt, sends_store P n ((k + 1) % 0x10000) (p + 2) f)
