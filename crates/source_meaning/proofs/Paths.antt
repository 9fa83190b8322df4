-- A run that goes on behind a block makes a path that does, where the functions that are called are taken as ones that return at once.
use Rattle.std.proofs.Common.{◌≡◌, ◌∙◌, ◌<◌, ◌≤◌, ℕ, zero, suc, ◌+◌, ◌-◌, Bool, true, false, List, [], ◌∷◌, ◌++◌, length, map, take, Some, None}
use Rattle.std.proofs.Common.{ap, arith, refl, slice_get, if◌then◌else◌}
use Rattle.std.specs.Option.{option_map}
use Rattle.std.proofs.lemmas.Option.{slice_get-map}
use Rattle.task_ast.specs.Tree as t
use Rattle.task_ast.specs.Worked.{nowhere}
use Rattle.task_ast.specs.Paths.{CheckedFunction, CheckedExpression, CheckedValues, CheckedStatement, CheckedChoice, CheckedBlock, Access, write}
use Rattle.task_ast.specs.Paths.{ExpressionPath, ValuesPath, StatementPath, ChoicePath, TurnsPath, BlockPath}
use Rattle.task_ast.specs.Paths as path
use Rattle.task_ast.specs.Calls.{CallsAreBelow, ValuesCallBelow, StatementCallsBelow, ChoiceCallsBelow, BlockCallsBelow}
use Rattle.task_ast.specs.declared.names.VariableName.{VariableName}
use Rattle.task_ast.specs.declared.names.FunctionName.{FunctionName}
use Rattle.cost_bound.specs.path_sums.Reaches.{at_once}
use Rattle.source_values.specs.Values.{Meaning, holds}
use Rattle.source_values.specs.Statements.{Attempt, Outcome, goes_on, to_task, returns, short, and_then, with_value, assigned, turns}
use Rattle.source_values.specs.Statements.{run_statement, run_choice, run_block}
use Rattle.source_values.proofs.Interface.{for_value}

-- where the outcome goes on, some path does
abbrev pub OnPath : (List Access → Type 0) → Outcome → Type 0
OnPath paths (goes_on s) = (xs : List Access) × paths xs
OnPath paths (to_task k s) = Unit {0}
OnPath paths (returns w s) = Unit {0}
OnPath paths short = Unit {0}

on_map : (p q : List Access → Type 0) (f : List Access → List Access) → ((xs : List Access) → p xs → q (f xs)) → (o : Outcome) → OnPath p o → OnPath q o
on_map p q f g (goes_on s) h = (f h.0, g h.0 h.1)
on_map p q f g (to_task k s) h = tt
on_map p q f g (returns w s) h = tt
on_map p q f g short h = tt

on_then : (p q r : List Access → Type 0) (f : List Access → List Access → List Access) → ((xs ys : List Access) → p xs → q ys → r (f xs ys))
    → (o : Outcome) (next : Attempt → Outcome) → OnPath p o → ((s : Attempt) → OnPath q (next s)) → OnPath r (and_then o next)
on_then p q r f g (goes_on s) next h more = on_map q r (f h.0) (λ ys y. g h.0 ys h.1 y) (next s) (more s)
on_then p q r f g (to_task k s) next h more = tt
on_then p q r f g (returns w s) next h more = tt
on_then p q r f g short next h more = tt

on_if : (p : List Access → Type 0) (b : Bool) (first second : Outcome) → OnPath p first → OnPath p second → OnPath p (if b then first else second)
on_if p true first second x y = x
on_if p false first second x y = y

-- the function of a number
found : (functions : List CheckedFunction) (k : ℕ) → k < length functions → (f : CheckedFunction) × (slice_get functions k ≡ Some f)
found [] k low = absurd (omega (arith, low))
found (f ∷ more) zero low = (f, refl)
found (f ∷ more) (suc k) low = found more k (omega (arith, low))

-- of functions, and calls of the first n of them alone
module _ (functions : List CheckedFunction) (n : ℕ) (few : n ≤ length functions) where
  -- the functions as ones that return at once
  abbrev fs : List CheckedFunction
  fs = map at_once functions

  -- one of them has a path that returns
  called : (f : FunctionName) → f.function < n
      → (function : CheckedFunction) × (slice_get fs f.function ≡ Some function) × BlockPath (take f.function fs) function.body [] path.returns
  called f low =
      let g = found functions f.function (omega (arith, low, few)) in
      let front = take f.function fs in
      let gives : StatementPath front (t.give nowhere (t.number 0)) [] path.returns = path.give nowhere (t.number 0) [] (path.number 0) in (
        at_once g.0,
        slice_get-map at_once functions f.function ∙ ap (option_map at_once) g.1,
        path.stopped (t.give nowhere (t.number 0)) t.end [] path.returns tt gives,
      )

  mutual
    -- some path of an expression
    expression_path : (e : CheckedExpression) → CallsAreBelow n e → (xs : List Access) × ExpressionPath fs e xs
    expression_path (t.number w) calls = ([], path.number w)
    expression_path (t.long_number w) calls = ([], path.long_number w)
    expression_path (t.name x) calls = (path.read x ∷ [], path.name x)
    expression_path (t.element x index) calls =
        let i = expression_path index calls in (i.0 ++ path.read x ∷ [], path.element x index i.0 i.1)
    expression_path t.sense calls = ([], path.sense)
    expression_path t.next_event calls = ([], path.next_event)
    expression_path (t.call f values) calls =
        let v = values_path values calls.1 in
        let c = called f calls.0 in
        (v.0 ++ [], path.call f c.0 values v.0 [] c.1 v.1 c.2)
    expression_path (t.unary op e) calls = let p = expression_path e calls in (p.0, path.unary op e p.0 p.1)
    expression_path (t.binary op a b) calls =
        let p = expression_path a calls.0 in
        let q = expression_path b calls.1 in
        (p.0 ++ q.0, path.binary op a b p.0 q.0 p.1 q.1)
    expression_path (t.shift op e count) calls = let p = expression_path e calls in (p.0, path.shift op e count p.0 p.1)
    expression_path (t.short_circuit op a b) calls = let p = expression_path a calls.0 in (p.0, path.left_alone op a b p.0 p.1)

    values_path : (values : CheckedValues) → ValuesCallBelow n values → (xs : List Access) × ValuesPath fs values xs
    values_path t.no_value calls = ([], path.no_value)
    values_path (t.value e more) calls =
        let p = expression_path e calls.0 in
        let q = values_path more calls.1 in
        (p.0 ++ q.0, path.value e more p.0 q.0 p.1 q.1)

  module _ (known : List Meaning) where
    on_value : (p : List Access → Type 0) (e : CheckedExpression) (s : Attempt) (next : ℕ → Attempt → Outcome)
        → ((w : ℕ) (s : Attempt) → OnPath p (next w s)) → OnPath p (with_value known e s next)
    on_value p e s next more = for_value (OnPath p) known e s next tt (λ w u is. more w u)

    -- the paths that go on
    abbrev Through : CheckedBlock → List Access → Type 0
    Through b xs = BlockPath fs b xs path.goes_on

    abbrev ThroughStatement : CheckedStatement → List Access → Type 0
    ThroughStatement s xs = StatementPath fs s xs path.goes_on

    abbrev ThroughChoice : CheckedChoice → List Access → Type 0
    ThroughChoice c xs = ChoicePath fs c xs path.goes_on

    abbrev ThroughTurns : VariableName → ℕ → CheckedBlock → List Access → Type 0
    ThroughTurns x left body xs = TurnsPath fs x left body xs path.goes_on

    turns_path : (left from : ℕ) (x : VariableName) (body : CheckedBlock) (s : Attempt)
        → ((s : Attempt) → OnPath (Through body) (run_block known body s))
        → OnPath (ThroughTurns x left body) (turns left from x.variable (run_block known body) s)
    turns_path zero from x body s h = ([], path.over x body)
    turns_path (suc left) from x body s h =
        on_then (Through body) (ThroughTurns x left body) (ThroughTurns x (suc left) body)
        (λ xs ys. xs ++ write x ∷ ys) (λ xs ys p q. path.turn x left body xs ys path.goes_on p q)
        (run_block known body (assigned s x.variable 0 from)) (turns left (from + 1) x.variable (run_block known body))
        (h (assigned s x.variable 0 from)) (λ s. turns_path left (from + 1) x body s h)

    mutual
      statement_path : (s : CheckedStatement) → StatementCallsBelow n s → (a : Attempt)
          → OnPath (ThroughStatement s) (run_statement known s a)
      statement_path (t.declare of x None) calls a = (path.unset x ∷ [], path.declare_unset of x)
      statement_path (t.declare of x (Some e)) calls a =
          let p = expression_path e calls in
          on_value (ThroughStatement (t.declare of x (Some e))) e a _ (λ w s. (p.0 ++ write x ∷ [], path.declare_set of x e p.0 p.1))
      statement_path (t.assign x e) calls a =
          let p = expression_path e calls in
          on_value (ThroughStatement (t.assign x e)) e a _ (λ w s. (p.0 ++ write x ∷ [], path.assign x e p.0 p.1))
      statement_path (t.store x index e) calls a =
          let i = expression_path index calls.0 in
          let p = expression_path e calls.1 in
          on_value (ThroughStatement (t.store x index e)) index a _
          (λ k s. on_value (ThroughStatement (t.store x index e)) e s _
          (λ w s. (i.0 ++ (p.0 ++ write x ∷ []), path.store x index e i.0 p.0 i.1 p.1)))
      statement_path (t.choose c) calls a =
          on_map (ThroughChoice c) (ThroughStatement (t.choose c)) (λ xs. xs) (λ xs p. path.choose c xs path.goes_on p)
          (run_choice known c a) (choice_path c calls a)
      statement_path (t.loop x from tested under stepped body) calls a =
          on_map (ThroughTurns x (under - from) body) (ThroughStatement (t.loop x from tested under stepped body)) (λ xs. write x ∷ xs)
          (λ xs p. path.loop x from tested under stepped body xs path.goes_on p)
          (turns (under - from) from x.variable (run_block known body) a)
          (turns_path (under - from) from x body a (block_path body calls))
      statement_path (t.emit e) calls a =
          let p = expression_path e calls in on_value (ThroughStatement (t.emit e)) e a _ (λ w s. (p.0, path.emit e p.0 p.1))
      statement_path (t.give at e) calls a = on_value (ThroughStatement (t.give at e)) e a _ (λ w s. tt)
      statement_path (t.transition at task) calls a = tt

      choice_path : (c : CheckedChoice) → ChoiceCallsBelow n c → (a : Attempt) → OnPath (ThroughChoice c) (run_choice known c a)
      choice_path t.nothing calls a = ([], path.nothing)
      choice_path (t.otherwise b) calls a =
          on_map (Through b) (ThroughChoice (t.otherwise b)) (λ xs. xs) (λ xs p. path.otherwise b xs path.goes_on p)
          (run_block known b a) (block_path b calls a)
      choice_path (t.test e b more) calls a =
          let p = expression_path e calls.0 in
          on_value (ThroughChoice (t.test e b more)) e a (λ w s. if holds w then run_block known b s else run_choice known more s)
          (λ w s. on_if (ThroughChoice (t.test e b more)) (holds w) (run_block known b s) (run_choice known more s)
          (on_map (Through b) (ThroughChoice (t.test e b more)) (λ ys. p.0 ++ ys)
          (λ ys q. path.taken e b more p.0 ys path.goes_on p.1 q) (run_block known b s) (block_path b calls.1.0 s))
          (on_map (ThroughChoice more) (ThroughChoice (t.test e b more)) (λ ys. p.0 ++ ys)
          (λ ys q. path.passed e b more p.0 ys path.goes_on p.1 q) (run_choice known more s) (choice_path more calls.1.1 s)))

      pub block_path : (b : CheckedBlock) → BlockCallsBelow n b → (a : Attempt) → OnPath (Through b) (run_block known b a)
      block_path t.end calls a = ([], path.finished)
      block_path (t.step s more) calls a =
          on_then (ThroughStatement s) (Through more) (Through (t.step s more)) (λ xs ys. xs ++ ys)
          (λ xs ys p q. path.step s more xs ys path.goes_on p q) (run_statement known s a) (run_block known more)
          (statement_path s calls.0 a) (block_path more calls.1)
