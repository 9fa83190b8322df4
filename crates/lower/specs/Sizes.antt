-- What word programs cost, against the allowance of a source.
use Rattle.std.specs.Prelude.{◌≡◌, ℕ, ◌+◌, ◌*◌, ◌≤◌, true, false, List, length, All, slice_index_or}
use Rattle.task_ast.specs.Paths.{CheckedExpression, CheckedBlock, CheckedFunction}
use Rattle.task_check.specs.Placed.{block_ends}
use Rattle.cost_bound.specs.Summary.{Summary}
use Rattle.cost_bound.specs.Summaries.{function_summaries}
use Rattle.cost_bound.specs.Table.{cycles_column, words_column, called_price, expression_price, block_price}
use Rattle.array_versions.specs.Program.{Program, nothing}
use Rattle.array_versions.specs.Behaviour.{WordState, End, GoesOn, Jumps, Gives, Short, Strays, Broken, behaviour}
use Rattle.array_versions.specs.Cost.{cycles_of, words_of, spent}
use Rattle.memory_map.specs.Spots.{Places, private_words}
use Rattle.lower.specs.Lowered.{lowered_expression, lowered_block, routine_bodies}

-- the bodies of functions take no more cycles than calls of them are allowed
abbrev pub BodiesKeep : List Summary → List Program → Type 0
BodiesKeep known rs = (i : ℕ) → cycles_of (slice_index_or rs i nothing) ≤ called_price known cycles_column i

-- so do those of a source's functions, in which there is no transition
abbrev pub RoutinesKeep : Type 0
RoutinesKeep = (p : Places) (fs : List CheckedFunction) → All (λ f. block_ends false f.body ≡ true) fs
    → BodiesKeep (function_summaries fs) (routine_bodies p fs)

-- the words of statements' code, in a task whose private scalars have at most so many words, by functions that keep to their cycles
abbrev pub BlocksKeepToWords : Type 0
BlocksKeepToWords = (known : List Summary) (rs : List Program) → BodiesKeep known rs → (p : Places) (scalars : ℕ) (block : CheckedBlock)
    → private_words p.privates ≤ scalars → words_of (lowered_block p rs block) ≤ block_price known (words_column scalars) block

-- the cycles of an expression, with 11 to spare: a test has them
abbrev pub ExpressionsKeepToCycles : Type 0
ExpressionsKeepToCycles = (known : List Summary) (rs : List Program) → BodiesKeep known rs → (p : Places) (e : CheckedExpression)
    → cycles_of (lowered_expression p rs e) + 11 ≤ expression_price known cycles_column e

-- what the entries of the private scalars take at most where a task leaves, 26 cycles for each
abbrev pub entry_cycles : Places → End → ℕ
entry_cycles p (GoesOn s) = 0
entry_cycles p (Jumps to s) = 26 * length p.privates
entry_cycles p (Gives v s) = 0
entry_cycles p Short = 0
entry_cycles p Strays = 26 * length p.privates
entry_cycles p Broken = 26 * length p.privates

-- the cycles of statements from any state on, along the way that they take: those of the allowance, and behind a transition those of the
-- entries
abbrev pub BlocksKeepToCycles : Type 0
BlocksKeepToCycles = (known : List Summary) (rs : List Program) → BodiesKeep known rs → (p : Places) (block : CheckedBlock) (w : WordState)
    → spent (lowered_block p rs block) w ≤ block_price known cycles_column block + entry_cycles p (behaviour (lowered_block p rs block) w).end
