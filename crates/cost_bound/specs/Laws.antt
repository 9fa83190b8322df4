-- What holds of the definitions.
use Rattle.std.specs.Prelude.{◌≡◌, ℕ, ◌+◌, ◌*◌, ◌<◌, ◌≤◌, ◌^◌, List}
use Rattle.cost_bound.specs.declared.allowance.Allow.{Allow}
use Rattle.cost_bound.specs.declared.fault.Over.{Over}
use Rattle.cost_bound.specs.Allowance.{CheckedProgram, IsAllowed, IsOver}

-- a source has one allowance, or else is too much in one way
pub record OneAnswer (p : CheckedProgram) (lines : List ℕ) : Type 0 where
  pub one_allowance : (a b : Allow) → IsAllowed p a → IsAllowed p b → a ≡ b
  pub one_refusal : (a b : Over) → IsOver p lines a → IsOver p lines b → a ≡ b
  pub never_both : (a : Allow) (b : Over) → IsAllowed p a → IsOver p lines b → ⊥

-- the room of an allowed source: its versions, of three words each, its list entries, of three words each, and its emits are in its words
pub record IsSmall (allow : Allow) : Type 0 where
  pub emits : allow.emits ≤ 256
  pub all : 600 + 3 * allow.versions + 3 * allow.list + allow.emits ≤ allow.words
  pub words : allow.words ≤ 22000
  pub cycles : allow.cycles < 2 ^ 32
