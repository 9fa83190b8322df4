-- What a body has of which the word program is made: it is well-formed, its expressions have room, its locals are its own, what is asked of its calls
-- holds of each, and it ends as it may.
use Rattle.std.proofs.Common.{◌≡◌, ℕ, ◌==◌, ◌<◌, ◌||◌, Bool, true, List, Some, None, refl, arith, eq-eqb}
use Rattle.std.proofs.lemmas.Bool.{and_parts, or_left, or_right}
use Rattle.task_ast.specs.Tree as t
use Rattle.task_ast.specs.Calls.{CallsAreBelow, ValuesCallBelow, StatementCallsBelow, ChoiceCallsBelow, BlockCallsBelow}
use Rattle.task_ast.specs.Paths.{CheckedExpression, CheckedValues, CheckedStatement, CheckedChoice, CheckedBlock, CheckedFunction}
use Rattle.task_ast.specs.declared.SharedDeclaration.{SharedDeclaration}
use Rattle.task_ast.specs.declared.PlacedOperator.{PlacedOperator}
use Rattle.task_ast.specs.declared.ShiftOperator.{ShiftOperator}
use Rattle.task_ast.specs.declared.Literal.{Literal}
use Rattle.task_check.specs.Placed.{statement_ends, choice_ends, block_ends}
use Rattle.cost_bound.specs.Counts.{expression_calls, values_call, statement_calls, choice_calls, block_calls}
use Rattle.checked_trees.specs.WellFormed.{values_in, HasParameters, ExpressionCounts, ValuesCount, StatementCounts, ChoiceCounts, BlockCounts}
use Rattle.checked_trees.specs.WellFormed.{WellFormedExpression, WellFormedStatement, WellFormedChoice, WellFormedBlock, ExpressionNames, StatementNames}
use Rattle.checked_trees.specs.WellFormed.{ChoiceNames, BlockNames}
use Rattle.whole_programs.proofs.Rooms.{IsRoomFor, StatementRoom, ChoiceRoom, BlockRoom}

-- ---- calls

-- what is asked of a call, by its function and how many values it has
abbrev pub OfCalls : Type 1
OfCalls = ℕ → ℕ → Type 0

abbrev mutual
  pub ExpressionEachCall : OfCalls → CheckedExpression → Type 0
  ExpressionEachCall P (t.number w) = Unit {0}
  ExpressionEachCall P (t.long_number w) = Unit {0}
  ExpressionEachCall P (t.name x) = Unit {0}
  ExpressionEachCall P (t.element x index) = ExpressionEachCall P index
  ExpressionEachCall P t.sense = Unit {0}
  ExpressionEachCall P t.next_event = Unit {0}
  ExpressionEachCall P (t.call f values) = P f.function (values_in values) × ValuesEachCall P values
  ExpressionEachCall P (t.unary op e) = ExpressionEachCall P e
  ExpressionEachCall P (t.binary op a b) = ExpressionEachCall P a × ExpressionEachCall P b
  ExpressionEachCall P (t.shift op e count) = ExpressionEachCall P e
  ExpressionEachCall P (t.short_circuit op a b) = ExpressionEachCall P a × ExpressionEachCall P b

  pub ValuesEachCall : OfCalls → CheckedValues → Type 0
  ValuesEachCall P t.no_value = Unit {0}
  ValuesEachCall P (t.value e more) = ExpressionEachCall P e × ValuesEachCall P more

abbrev mutual
  pub StatementEachCall : OfCalls → CheckedStatement → Type 0
  StatementEachCall P (t.declare of x None) = Unit {0}
  StatementEachCall P (t.declare of x (Some e)) = ExpressionEachCall P e
  StatementEachCall P (t.assign x e) = ExpressionEachCall P e
  StatementEachCall P (t.store x index e) = ExpressionEachCall P index × ExpressionEachCall P e
  StatementEachCall P (t.choose choice) = ChoiceEachCall P choice
  StatementEachCall P (t.loop x from tested below stepped body) = EachCall P body
  StatementEachCall P (t.emit e) = ExpressionEachCall P e
  StatementEachCall P (t.give at e) = ExpressionEachCall P e
  StatementEachCall P (t.transition at task) = Unit {0}

  pub ChoiceEachCall : OfCalls → CheckedChoice → Type 0
  ChoiceEachCall P t.nothing = Unit {0}
  ChoiceEachCall P (t.otherwise block) = EachCall P block
  ChoiceEachCall P (t.test e block more) = ExpressionEachCall P e × EachCall P block × ChoiceEachCall P more

  pub EachCall : OfCalls → CheckedBlock → Type 0
  EachCall P t.end = Unit {0}
  EachCall P (t.step s more) = StatementEachCall P s × EachCall P more

-- nothing is asked of any
abbrev pub Anything : OfCalls
Anything k count = Unit {0}

mutual
  pub any_call : (e : CheckedExpression) → ExpressionEachCall Anything e
  any_call (t.number w) = tt
  any_call (t.long_number w) = tt
  any_call (t.name x) = tt
  any_call (t.element x index) = any_call index
  any_call t.sense = tt
  any_call t.next_event = tt
  any_call (t.call f values) = (tt, any_calls values)
  any_call (t.unary op e) = any_call e
  any_call (t.binary op a b) = (any_call a, any_call b)
  any_call (t.shift op e count) = any_call e
  any_call (t.short_circuit op a b) = (any_call a, any_call b)

  any_calls : (values : CheckedValues) → ValuesEachCall Anything values
  any_calls t.no_value = tt
  any_calls (t.value e more) = (any_call e, any_calls more)

-- a text calls those of the first n functions that it names, with as many values as they have parameters
module _ (functions : List CheckedFunction) (n : ℕ) (P : OfCalls) where
  -- what holds of each function that a text calls
  abbrev Holds : (ℕ → Bool) → Type 0
  Holds calls = (k count : ℕ) → HasParameters functions k count → k < n → calls k ≡ true → P k count

  first_holds : (f g : ℕ → Bool) → Holds (λ k. f k || g k) → Holds f
  first_holds f g h k count has low calls = h k count has low (or_left (f k) (g k) calls)

  second_holds : (f g : ℕ → Bool) → Holds (λ k. f k || g k) → Holds g
  second_holds f g h k count has low calls = h k count has low (or_right (f k) (g k) calls)

  mutual
    each_of_expression : (e : CheckedExpression) → ExpressionCounts functions e → CallsAreBelow n e → Holds (λ k. expression_calls k e)
        → ExpressionEachCall P e
    each_of_expression (t.number w) counts low h = tt
    each_of_expression (t.long_number w) counts low h = tt
    each_of_expression (t.name x) counts low h = tt
    each_of_expression (t.element x index) counts low h = each_of_expression index counts low h
    each_of_expression t.sense counts low h = tt
    each_of_expression t.next_event counts low h = tt
    each_of_expression (t.call f values) counts low h = (
      h f.function (values_in values) counts.0 low.0
          (or_left (f.function == f.function) (values_call f.function values) (eq-eqb f.function f.function refl)),
      each_of_values values counts.1 low.1 (second_holds (λ k. f.function == k) (λ k. values_call k values) h),
    )
    each_of_expression (t.unary op e) counts low h = each_of_expression e counts low h
    each_of_expression (t.binary op a b) counts low h = (
      each_of_expression a counts.0 low.0 (first_holds (λ k. expression_calls k a) (λ k. expression_calls k b) h),
      each_of_expression b counts.1 low.1 (second_holds (λ k. expression_calls k a) (λ k. expression_calls k b) h),
    )
    each_of_expression (t.shift op e count) counts low h = each_of_expression e counts low h
    each_of_expression (t.short_circuit op a b) counts low h = (
      each_of_expression a counts.0 low.0 (first_holds (λ k. expression_calls k a) (λ k. expression_calls k b) h),
      each_of_expression b counts.1 low.1 (second_holds (λ k. expression_calls k a) (λ k. expression_calls k b) h),
    )

    each_of_values : (values : CheckedValues) → ValuesCount functions values → ValuesCallBelow n values → Holds (λ k. values_call k values)
        → ValuesEachCall P values
    each_of_values t.no_value counts low h = tt
    each_of_values (t.value e more) counts low h = (
      each_of_expression e counts.0 low.0 (first_holds (λ k. expression_calls k e) (λ k. values_call k more) h),
      each_of_values more counts.1 low.1 (second_holds (λ k. expression_calls k e) (λ k. values_call k more) h),
    )

  mutual
    each_of_statement : (s : CheckedStatement) → StatementCounts functions s → StatementCallsBelow n s → Holds (λ k. statement_calls k s)
        → StatementEachCall P s
    each_of_statement (t.declare of x None) counts low h = tt
    each_of_statement (t.declare of x (Some e)) counts low h = each_of_expression e counts low h
    each_of_statement (t.assign x e) counts low h = each_of_expression e counts low h
    each_of_statement (t.store x index e) counts low h = (
      each_of_expression index counts.0 low.0 (first_holds (λ k. expression_calls k index) (λ k. expression_calls k e) h),
      each_of_expression e counts.1 low.1 (second_holds (λ k. expression_calls k index) (λ k. expression_calls k e) h),
    )
    each_of_statement (t.choose choice) counts low h = each_of_choice choice counts low h
    each_of_statement (t.loop x from tested below stepped body) counts low h = each_call body counts low h
    each_of_statement (t.emit e) counts low h = each_of_expression e counts low h
    each_of_statement (t.give at e) counts low h = each_of_expression e counts low h
    each_of_statement (t.transition at task) counts low h = tt

    each_of_choice : (c : CheckedChoice) → ChoiceCounts functions c → ChoiceCallsBelow n c → Holds (λ k. choice_calls k c) → ChoiceEachCall P c
    each_of_choice t.nothing counts low h = tt
    each_of_choice (t.otherwise block) counts low h = each_call block counts low h
    each_of_choice (t.test e block more) counts low h =
        let behind = second_holds (λ k. expression_calls k e) (λ k. block_calls k block || choice_calls k more) h in (
          each_of_expression e counts.0 low.0 (first_holds (λ k. expression_calls k e) (λ k. block_calls k block || choice_calls k more) h),
          each_call block counts.1 low.1.0 (first_holds (λ k. block_calls k block) (λ k. choice_calls k more) behind),
          each_of_choice more counts.2 low.1.1 (second_holds (λ k. block_calls k block) (λ k. choice_calls k more) behind),
        )

    -- what holds of each function that a text calls holds of each call
    pub each_call : (b : CheckedBlock) → BlockCounts functions b → BlockCallsBelow n b → Holds (λ k. block_calls k b) → EachCall P b
    each_call t.end counts low h = tt
    each_call (t.step s more) counts low h = (
      each_of_statement s counts.0 low.0 (first_holds (λ k. statement_calls k s) (λ k. block_calls k more) h),
      each_call more counts.1 low.1 (second_holds (λ k. statement_calls k s) (λ k. block_calls k more) h),
    )

-- ---- bodies

-- where a body stands: the shared variables, how many locals are its own, how many functions it may call, the room of its stack, whether it is that of
-- a task, and what is asked of its calls
pub record Setting : Type 1 where
  pub shared : List SharedDeclaration
  pub own : ℕ
  pub callable : ℕ
  pub room : ℕ
  pub in_task : Bool
  pub calls : OfCalls

-- an expression above so many words
pub record IsFitExpression (g : Setting) (beneath : ℕ) (e : CheckedExpression) : Type 0 where
  pub formed : WellFormedExpression g.shared e
  pub fits : IsRoomFor g.room beneath e
  pub names : ExpressionNames g.own e
  pub calls : ExpressionEachCall g.calls e

pub record IsFitStatement (g : Setting) (s : CheckedStatement) : Type 0 where
  pub formed : WellFormedStatement g.shared s
  pub fits : StatementRoom g.room s
  pub below : StatementCallsBelow g.callable s
  pub names : StatementNames g.own s
  pub calls : StatementEachCall g.calls s
  pub ends : statement_ends g.in_task s ≡ true

pub record IsFitChoice (g : Setting) (c : CheckedChoice) : Type 0 where
  pub formed : WellFormedChoice g.shared c
  pub fits : ChoiceRoom g.room c
  pub below : ChoiceCallsBelow g.callable c
  pub names : ChoiceNames g.own c
  pub calls : ChoiceEachCall g.calls c
  pub ends : choice_ends g.in_task c ≡ true

pub record IsFitBlock (g : Setting) (b : CheckedBlock) : Type 0 where
  pub formed : WellFormedBlock g.shared b
  pub fits : BlockRoom g.room b
  pub below : BlockCallsBelow g.callable b
  pub names : BlockNames g.own b
  pub calls : EachCall g.calls b
  pub ends : block_ends g.in_task b ≡ true

module _ (g : Setting) where
  -- the right side of an operator, without the left one
  pub right_fit : (d : ℕ) (op : PlacedOperator) (b c : CheckedExpression) → IsFitExpression g d (t.binary op b c) → IsFitExpression g d c
  right_fit d op b c is =
      let few = is.fits in
      record { formed = is.formed.1; fits = omega (arith, few); names = is.names.1; calls = is.calls.1 }

  -- what is shifted
  pub shifted_fit : (d : ℕ) (op : ShiftOperator) (e : CheckedExpression) (count : Literal) → IsFitExpression g d (t.shift op e count) → IsFitExpression g d e
  shifted_fit d op e count is = record { formed = is.formed.0; fits = is.fits; names = is.names; calls = is.calls }

  pub first_fit : (s : CheckedStatement) (more : CheckedBlock) → IsFitBlock g (t.step s more) → IsFitStatement g s
  first_fit s more is = record {
    formed = is.formed.0;
    fits = is.fits.0;
    below = is.below.0;
    names = is.names.0;
    calls = is.calls.0;
    ends = (and_parts (statement_ends g.in_task s) (block_ends g.in_task more) is.ends).0;
  }

  pub rest_fit : (s : CheckedStatement) (more : CheckedBlock) → IsFitBlock g (t.step s more) → IsFitBlock g more
  rest_fit s more is = record {
    formed = is.formed.1;
    fits = is.fits.1;
    below = is.below.1;
    names = is.names.1;
    calls = is.calls.1;
    ends = (and_parts (statement_ends g.in_task s) (block_ends g.in_task more) is.ends).1;
  }

  pub choice_fit : (choice : CheckedChoice) → IsFitStatement g (t.choose choice) → IsFitChoice g choice
  choice_fit choice is =
      record { formed = is.formed; fits = is.fits; below = is.below; names = is.names; calls = is.calls; ends = is.ends }

  pub otherwise_fit : (b : CheckedBlock) → IsFitChoice g (t.otherwise b) → IsFitBlock g b
  otherwise_fit b is = record { formed = is.formed; fits = is.fits; below = is.below; names = is.names; calls = is.calls; ends = is.ends }

  pub taken_fit : (e : CheckedExpression) (b : CheckedBlock) (more : CheckedChoice) → IsFitChoice g (t.test e b more) → IsFitBlock g b
  taken_fit e b more is = record {
    formed = is.formed.1;
    fits = is.fits.1;
    below = is.below.1.0;
    names = is.names.1;
    calls = is.calls.1;
    ends = (and_parts (block_ends g.in_task b) (choice_ends g.in_task more) is.ends).0;
  }

  pub passed_fit : (e : CheckedExpression) (b : CheckedBlock) (more : CheckedChoice) → IsFitChoice g (t.test e b more) → IsFitChoice g more
  passed_fit e b more is = record {
    formed = is.formed.2;
    fits = is.fits.2;
    below = is.below.1.1;
    names = is.names.2;
    calls = is.calls.2;
    ends = (and_parts (block_ends g.in_task b) (choice_ends g.in_task more) is.ends).1;
  }
