-- A run ends only as the statements of its text may: at the tasks that their transitions name, and at a `return` where there is one.
use Rattle.std.proofs.Common.{ℕ, zero, suc, ◌+◌, ◌-◌, Bool, true, false, List, Some, None, if◌then◌else◌}
use Rattle.task_ast.specs.Tree as t
use Rattle.task_ast.specs.Paths.{CheckedExpression, CheckedStatement, CheckedChoice, CheckedBlock}
use Rattle.task_ast.specs.declared.names.Variable.{Variable}
use Rattle.source_values.specs.Values.{Meaning, holds}
use Rattle.source_values.specs.Statements.{Attempt, Outcome, goes_on, to_task, returns, short, and_then, with_value, assigned, turns}
use Rattle.source_values.specs.Statements.{run_statement, run_choice, run_block}
use Rattle.source_values.proofs.Interface.{for_value}

-- it goes to such a task, and returns where that may be
abbrev pub EndsAs : (ℕ → Type 0) → Type 0 → Outcome → Type 0
EndsAs Goes Gives (goes_on s) = Unit {0}
EndsAs Goes Gives (to_task k s) = Goes k
EndsAs Goes Gives (returns w s) = Gives
EndsAs Goes Gives short = Unit {0}

abbrev mutual
  -- what a statement may do so
  pub StatementMay : (ℕ → Type 0) → Type 0 → CheckedStatement → Type 0
  StatementMay Goes Gives (t.declare of x e) = Unit {0}
  StatementMay Goes Gives (t.assign x e) = Unit {0}
  StatementMay Goes Gives (t.store x index e) = Unit {0}
  StatementMay Goes Gives (t.choose choice) = ChoiceMay Goes Gives choice
  StatementMay Goes Gives (t.loop x from tested under stepped body) = BlockMay Goes Gives body
  StatementMay Goes Gives (t.emit e) = Unit {0}
  StatementMay Goes Gives (t.give at e) = Gives
  StatementMay Goes Gives (t.transition at task) = Goes task.task

  -- each block of an `if`
  pub ChoiceMay : (ℕ → Type 0) → Type 0 → CheckedChoice → Type 0
  ChoiceMay Goes Gives t.nothing = Unit {0}
  ChoiceMay Goes Gives (t.otherwise block) = BlockMay Goes Gives block
  ChoiceMay Goes Gives (t.test e block more) = BlockMay Goes Gives block × ChoiceMay Goes Gives more

  -- each statement of a block
  pub BlockMay : (ℕ → Type 0) → Type 0 → CheckedBlock → Type 0
  BlockMay Goes Gives t.end = Unit {0}
  BlockMay Goes Gives (t.step s more) = StatementMay Goes Gives s × BlockMay Goes Gives more

module _ (known : List Meaning) (Goes : ℕ → Type 0) (Gives : Type 0) where
  abbrev Ends : Outcome → Type 0
  Ends o = EndsAs Goes Gives o

  ends_then : (o : Outcome) (next : Attempt → Outcome) → Ends o → ((s : Attempt) → Ends (next s)) → Ends (and_then o next)
  ends_then (goes_on s) next h more = more s
  ends_then (to_task k s) next h more = h
  ends_then (returns w s) next h more = h
  ends_then short next h more = tt

  ends_value : (e : CheckedExpression) (s : Attempt) (next : ℕ → Attempt → Outcome) → ((w : ℕ) (s : Attempt) → Ends (next w s))
      → Ends (with_value known e s next)
  ends_value e s next more = for_value Ends known e s next tt (λ w u is. more w u)

  ends_if : (b : Bool) (first second : Outcome) → Ends first → Ends second → Ends (if b then first else second)
  ends_if true first second p q = p
  ends_if false first second p q = q

  ends_turns : (n from : ℕ) (x : Variable) (body : Attempt → Outcome) (s : Attempt) → ((s : Attempt) → Ends (body s)) → Ends (turns n from x body s)
  ends_turns zero from x body s h = tt
  ends_turns (suc n) from x body s h =
      ends_then (body (assigned s x 0 from)) (turns n (from + 1) x body) (h (assigned s x 0 from)) (λ s. ends_turns n (from + 1) x body s h)

  mutual
    statement_ends_so : (s : CheckedStatement) → StatementMay Goes Gives s → (a : Attempt) → Ends (run_statement known s a)
    statement_ends_so (t.declare of x None) may a = tt
    statement_ends_so (t.declare of x (Some e)) may a = ends_value e a _ (λ w s. tt)
    statement_ends_so (t.assign x e) may a = ends_value e a _ (λ w s. tt)
    statement_ends_so (t.store x index e) may a = ends_value index a _ (λ i s. ends_value e s _ (λ w s. tt))
    statement_ends_so (t.choose choice) may a = choice_ends_so choice may a
    statement_ends_so (t.loop x from tested under stepped body) may a =
        ends_turns (under - from) from x.variable (run_block known body) a (block_ends_so body may)
    statement_ends_so (t.emit e) may a = ends_value e a _ (λ w s. tt)
    statement_ends_so (t.give at e) may a = ends_value e a _ (λ w s. may)
    statement_ends_so (t.transition at task) may a = may

    choice_ends_so : (c : CheckedChoice) → ChoiceMay Goes Gives c → (a : Attempt) → Ends (run_choice known c a)
    choice_ends_so t.nothing may a = tt
    choice_ends_so (t.otherwise block) may a = block_ends_so block may a
    choice_ends_so (t.test e block more) may a =
        ends_value e a (λ w s. if holds w then run_block known block s else run_choice known more s)
        (λ w s. ends_if (holds w) (run_block known block s) (run_choice known more s) (block_ends_so block may.0 s) (choice_ends_so more may.1 s))

    pub block_ends_so : (b : CheckedBlock) → BlockMay Goes Gives b → (a : Attempt) → Ends (run_block known b a)
    block_ends_so t.end may a = tt
    block_ends_so (t.step s more) may a =
        ends_then (run_statement known s a) (run_block known more) (statement_ends_so s may.0 a) (block_ends_so more may.1)
