-- What the paths of a block tell of its runs.
use Rattle.std.specs.Prelude.{◌≡◌, ◌<◌, ◌≤◌, ℕ, true, false, List, length, Some, None, All}
use Rattle.source_values.specs.task_ast.Tree as t
use Rattle.source_values.specs.task_ast.Answers.{answers}
use Rattle.source_values.specs.task_ast.Calls.{BlockCallsBelow, FunctionsCallBelow}
use Rattle.source_values.specs.task_ast.Paths.{CheckedStatement, CheckedChoice, CheckedBlock, CheckedFunction}
use Rattle.source_values.specs.task_ast.declared.names.Variable.TheVariants.{Shared}
use Rattle.source_values.specs.task_ast.declared.names.VariableName.{VariableName}
use Rattle.path_sums.specs.Access.{is_same, writes, SomePath, IsPrivate}
use Rattle.path_sums.specs.Known.{EachReturns}
use Rattle.path_sums.specs.Reaches.{statement_falls_through}
use Rattle.source_values.specs.Values.{Meaning, by_width}
use Rattle.source_values.specs.Statements.{Attempt, goes_on, assigned, run_statement, run_block, meaning_of}

-- a statement that goes on has a path that goes on
abbrev pub RunsGoOnAlongPaths : Type 0
RunsGoOnAlongPaths = (known : List Meaning) (s : CheckedStatement) (a b : Attempt) → run_statement known s a ≡ goes_on b
    → statement_falls_through s ≡ true

-- if the variable of a name is this shared one, an assignment gives it so many words at least
abbrev pub HasWords : ℕ → ℕ → VariableName → Type 0
HasWords v n x = is_same (Shared v) x.variable ≡ true → n ≤ by_width x.word_type 1 2

abbrev mutual
  -- this shared variable is a scalar of so many words: no element of it is stored to, and it is given no fewer words
  pub IsScalarInStatement : ℕ → ℕ → CheckedStatement → Type 0
  IsScalarInStatement v n (t.declare of x None) = Unit {0}
  IsScalarInStatement v n (t.declare of x (Some e)) = HasWords v n x
  IsScalarInStatement v n (t.assign x e) = HasWords v n x
  IsScalarInStatement v n (t.store x index e) = is_same (Shared v) x.variable ≡ false
  IsScalarInStatement v n (t.choose choice) = IsScalarInChoice v n choice
  IsScalarInStatement v n (t.loop x from tested below stepped body) = (is_same (Shared v) x.variable ≡ true → n ≤ 1)
      × IsScalarIn v n body
  IsScalarInStatement v n (t.emit e) = Unit {0}
  IsScalarInStatement v n (t.give at e) = Unit {0}
  IsScalarInStatement v n (t.transition at task) = Unit {0}

  pub IsScalarInChoice : ℕ → ℕ → CheckedChoice → Type 0
  IsScalarInChoice v n t.nothing = Unit {0}
  IsScalarInChoice v n (t.otherwise block) = IsScalarIn v n block
  IsScalarInChoice v n (t.test e block more) = IsScalarIn v n block × IsScalarInChoice v n more

  pub IsScalarIn : ℕ → ℕ → CheckedBlock → Type 0
  IsScalarIn v n t.end = Unit {0}
  IsScalarIn v n (t.step s more) = IsScalarInStatement v n s × IsScalarIn v n more

-- functions that call those in front of them and come to a return, in each of which this shared variable is a scalar of so many words
pub record HaveScalar (v n : ℕ) (fs : List CheckedFunction) : Type 0 where
  pub calls : FunctionsCallBelow 0 fs
  pub returning : EachReturns fs
  pub scalars : All (λ f. IsScalarIn v n f.body) fs

-- A scalar that some path of a block writes, and that isn't private to it, is written on each path before it is read and before the
-- transition, be it in a call. So the block comes to the same whichever words the scalar held.
abbrev pub FirstWritesForget : Type 0
FirstWritesForget = (fs : List CheckedFunction) (b : CheckedBlock) → BlockCallsBelow (length fs) b → (v n i w : ℕ) (s : Attempt) → HaveScalar v n fs
    → IsScalarIn v n b → i < n → SomePath fs b (writes (Shared v)) → (IsPrivate fs b (Shared v) → ⊥)
    → run_block (answers meaning_of fs) b (assigned s (Shared v) i w) ≡ run_block (answers meaning_of fs) b s
