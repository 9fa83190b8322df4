-- Statements emit no more words than they count.
use Rattle.lower.proofs.Names.{ℕ, ◌+◌, ◌≤◌, List, length, CheckedStatement, CheckedBlock, Outcome, to_task, returns, short, run_statement, run_block}
use Rattle.lower.proofs.Names.{statement_emits}
use Rattle.lower.proofs.Names.{block_emits, EmitsUpTo, statement_up_to, block_up_to}
use Rattle.source_values.specs.Statements.{Attempt, goes_on}
use Rattle.source_values.specs.Values.{Meaning}
use Rattle.source_values.proofs.Interface.{KnownUpTo}

-- where an outcome goes on, at most so many words are emitted
abbrev pub EmitsAtMost : ℕ → Outcome → Type 0
EmitsAtMost n (goes_on s) = length s.emitted ≤ n
EmitsAtMost n (to_task task s) = Unit {0}
EmitsAtMost n (returns w s) = Unit {0}
EmitsAtMost n short = Unit {0}

-- what holds of each outcome that isn't short holds of one that goes on
where_it_goes_on : (n : ℕ) (o : Outcome) → EmitsUpTo n o → EmitsAtMost n o
where_it_goes_on n (goes_on s) h = h
where_it_goes_on n (to_task task s) h = tt
where_it_goes_on n (returns w s) h = tt
where_it_goes_on n short h = tt

-- a statement that goes on has emitted no more words than it counts
pub statement_emitted : (known : List Meaning) (counts : List ℕ) → KnownUpTo known counts → (s : CheckedStatement) (m : Attempt) (n : ℕ)
    → length m.emitted + statement_emits counts s ≤ n → EmitsAtMost n (run_statement known s m)
statement_emitted known counts up s m n h = where_it_goes_on n (run_statement known s m) (statement_up_to known counts up s m n h)

-- nor has a block
pub block_emitted : (known : List Meaning) (counts : List ℕ) → KnownUpTo known counts → (b : CheckedBlock) (m : Attempt) (n : ℕ)
    → length m.emitted + block_emits counts b ≤ n → EmitsAtMost n (run_block known b m)
block_emitted known counts up b m n h = where_it_goes_on n (run_block known b m) (block_up_to known counts up b m n h)
