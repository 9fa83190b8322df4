-- What a shelf tells of its files, and its four counts.
use Rattle.std.specs.Prelude.{◌≡◌, ◌≢◌, ℕ, ◌≤◌, List, Option, Some, IfSome, IsSomeAnd}

-- files by name
abbrev pub Files : Type 0
Files = List ℕ → Option (List ℕ)

-- how many reads failed, found no file, or found one that is too long, and how many puts failed
pub record Counts : Type 0 where
  pub failed_reads : ℕ
  pub missing_reads : ℕ
  pub overlong_reads : ℕ
  pub failed_puts : ℕ

-- no count has fallen
pub record NeverFall (old new : Counts) : Type 0 where
  pub failed_reads : old.failed_reads ≤ new.failed_reads
  pub missing_reads : old.missing_reads ≤ new.missing_reads
  pub overlong_reads : old.overlong_reads ≤ new.overlong_reads
  pub failed_puts : old.failed_puts ≤ new.failed_puts

-- what was told is told after the call too, and the two are in this relation
abbrev pub Told : Option Files → Option Files → (Files → Files → Type 0) → Type 0
Told old new P = IfSome old (λ before. IsSomeAnd new (λ after. P before after))

-- the one name may hold anything or nothing; all others are as before
abbrev pub ChangesOnly : List ℕ → Files → Files → Type 0
ChangesOnly name before after = (other : List ℕ) → other ≢ name → after other ≡ before other

-- the one name holds these bytes; all others are as before
pub record Sets (name bytes : List ℕ) (before after : Files) : Type 0 where
  pub set : after name ≡ Some bytes
  pub others : ChangesOnly name before after
