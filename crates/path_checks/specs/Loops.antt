-- Which loops are bad: the three names of a `for` have to be one local, which its body leaves alone.
use Rattle.std.specs.Prelude.{◌≡◌, ℕ, ◌==◌, ◌⊎◌, Bool, false, ◌&&◌, ◌||◌, not}
use Rattle.alp_text.specs.declared.lines.Span.{Span}
use Rattle.task_ast.specs.declared.names.Variable.{Variable}
use Rattle.task_ast.specs.declared.names.Variable.TheVariants.{Shared, Local}
use Rattle.task_ast.specs.declared.names.VariableName.{VariableName}
use Rattle.task_ast.specs.Tree as t
use Rattle.task_ast.specs.Paths.{CheckedStatement, CheckedChoice, CheckedBlock}
use Rattle.path_checks.specs.Firsts.{CheckedProgram, SomeFunction, SomeTask}

-- whether it is the local with this number
abbrev pub is_local : ℕ → Variable → Bool
is_local x (Shared _) = false
is_local x (Local y) = y == x

-- whether the two are one local
abbrev pub is_same_local : Variable → Variable → Bool
is_same_local (Shared _) _ = false
is_same_local (Local x) v = is_local x v

abbrev mutual
  -- Whether a variable is given a value or used as a loop variable: it stands on the left of an assignment, is declared (which a
  -- looked-up name never is within its own loop), or is one of the three names of a `for`. A call gives its caller's locals no value.
  pub statement_assigns : Variable → CheckedStatement → Bool
  statement_assigns v (t.declare _ n _) = is_same_local n.variable v
  statement_assigns v (t.assign n _) = is_same_local n.variable v
  statement_assigns v (t.store n _ _) = is_same_local n.variable v
  statement_assigns v (t.choose c) = choice_assigns v c
  statement_assigns v (t.loop a _ b _ c body) =
      (is_same_local a.variable v || (is_same_local b.variable v || is_same_local c.variable v)) || block_assigns v body
  statement_assigns v (t.emit _) = false
  statement_assigns v (t.give _ _) = false
  statement_assigns v (t.transition _ _) = false

  pub choice_assigns : Variable → CheckedChoice → Bool
  choice_assigns v t.nothing = false
  choice_assigns v (t.otherwise b) = block_assigns v b
  choice_assigns v (t.test _ b more) = block_assigns v b || choice_assigns v more

  pub block_assigns : Variable → CheckedBlock → Bool
  block_assigns v t.end = false
  block_assigns v (t.step s more) = statement_assigns v s || block_assigns v more

-- whether the three names of a `for` are one local, and its body leaves that alone
abbrev pub is_good_loop : VariableName → VariableName → VariableName → CheckedBlock → Bool
is_good_loop a b c body =
    (is_same_local a.variable b.variable && is_same_local a.variable c.variable) && not (block_assigns a.variable body)

abbrev mutual
  -- a bad loop, by the place of the first of its three names
  pub BadLoopInStatement : CheckedStatement → Span → Type 0
  BadLoopInStatement (t.declare _ _ _) s = ⊥
  BadLoopInStatement (t.assign _ _) s = ⊥
  BadLoopInStatement (t.store _ _ _) s = ⊥
  BadLoopInStatement (t.choose c) s = BadLoopInChoice c s
  BadLoopInStatement (t.loop a _ b _ c body) s = ((a.span ≡ s) × (is_good_loop a b c body ≡ false)) ⊎ BadLoopIn body s
  BadLoopInStatement (t.emit _) s = ⊥
  BadLoopInStatement (t.give _ _) s = ⊥
  BadLoopInStatement (t.transition _ _) s = ⊥

  pub BadLoopInChoice : CheckedChoice → Span → Type 0
  BadLoopInChoice t.nothing s = ⊥
  BadLoopInChoice (t.otherwise b) s = BadLoopIn b s
  BadLoopInChoice (t.test _ b more) s = BadLoopIn b s ⊎ BadLoopInChoice more s

  pub BadLoopIn : CheckedBlock → Span → Type 0
  BadLoopIn t.end s = ⊥
  BadLoopIn (t.step statement more) s = BadLoopInStatement statement s ⊎ BadLoopIn more s

-- a bad loop stands at the place, in a function or in a task
abbrev pub BadLoopAt : CheckedProgram → Span → Type 0
BadLoopAt program s = SomeFunction program.functions (λ f. BadLoopIn f.body s) ⊎ SomeTask program.tasks (λ task. BadLoopIn task.body s)
