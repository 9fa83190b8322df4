-- Sums of what the paths of a block do, from the bottom up, for any way to sum up accesses.
use Rattle.std.specs.Prelude.{ℕ, ◌==◌, ◌-◌, if◌then◌else◌, List, Some, None, slice_index_or}
use Rattle.task_ast.specs.Tree as t
use Rattle.task_ast.specs.Answers.{answers}
use Rattle.task_ast.specs.Paths.{CheckedExpression, CheckedValues, CheckedStatement, CheckedChoice, CheckedBlock, CheckedFunction}
use Rattle.task_ast.specs.Paths.{Access, read, write, unset}

-- What is summed up: nothing done, a transition or a return, one access, one part after another, one part or another, and a call of what
-- a function's body sums up to.
pub record Algebra (S : Type 0) : Type 0 where
  pub unit : S
  pub gone : S
  pub one : Access → S
  pub seq : S → S → S
  pub join : S → S → S
  pub called : S → S

-- of a call of the function of a number, where these are the sums of calls: nothing, where there is no such function
abbrev pub call_sum : {S : Type 0} → List S → Algebra S → ℕ → S
call_sum known A k = slice_index_or known k A.unit

abbrev mutual
  pub expression_sum : {S : Type 0} → List S → Algebra S → CheckedExpression → S
  expression_sum known A (t.number _) = A.unit
  expression_sum known A (t.long_number _) = A.unit
  expression_sum known A (t.name n) = A.one (read n)
  expression_sum known A (t.element n index) = A.seq (expression_sum known A index) (A.one (read n))
  expression_sum known A t.sense = A.unit
  expression_sum known A t.next_event = A.unit
  expression_sum known A (t.call f values) = A.seq (values_sum known A values) (call_sum known A f.function)
  expression_sum known A (t.unary _ a) = expression_sum known A a
  expression_sum known A (t.binary _ a b) = A.seq (expression_sum known A a) (expression_sum known A b)
  expression_sum known A (t.shift _ a _) = expression_sum known A a
  expression_sum known A (t.short_circuit _ a b) =
      A.join (expression_sum known A a) (A.seq (expression_sum known A a) (expression_sum known A b))

  pub values_sum : {S : Type 0} → List S → Algebra S → CheckedValues → S
  values_sum known A t.no_value = A.unit
  values_sum known A (t.value e more) = A.seq (expression_sum known A e) (values_sum known A more)

-- n turns that each do s: two do what more do
abbrev pub turns_sum : {S : Type 0} → Algebra S → ℕ → S → S
turns_sum A n s = if n == 0 then A.unit else (if n == 1 then s else A.seq s s)

abbrev mutual
  pub statement_sum : {S : Type 0} → List S → Algebra S → CheckedStatement → S
  statement_sum known A (t.declare _ n None) = A.one (unset n)
  statement_sum known A (t.declare _ n (Some value)) = A.seq (expression_sum known A value) (A.one (write n))
  statement_sum known A (t.assign n value) = A.seq (expression_sum known A value) (A.one (write n))
  statement_sum known A (t.store n index value) =
      A.seq (expression_sum known A index) (A.seq (expression_sum known A value) (A.one (write n)))
  statement_sum known A (t.choose c) = choice_sum known A c
  statement_sum known A (t.loop variable from _ below _ body) =
      A.seq (A.one (write variable)) (turns_sum A (below - from) (A.seq (block_sum known A body) (A.one (write variable))))
  statement_sum known A (t.emit value) = expression_sum known A value
  statement_sum known A (t.give _ value) = A.seq (expression_sum known A value) A.gone
  statement_sum known A (t.transition _ _) = A.gone

  pub choice_sum : {S : Type 0} → List S → Algebra S → CheckedChoice → S
  choice_sum known A t.nothing = A.unit
  choice_sum known A (t.otherwise b) = block_sum known A b
  choice_sum known A (t.test e b more) = A.seq (expression_sum known A e) (A.join (block_sum known A b) (choice_sum known A more))

  pub block_sum : {S : Type 0} → List S → Algebra S → CheckedBlock → S
  block_sum known A t.end = A.unit
  block_sum known A (t.step s more) = A.seq (statement_sum known A s) (block_sum known A more)

-- the sum of a call of a function, from those of calls of the functions in front of it
abbrev pub function_sum : {S : Type 0} → Algebra S → List S → CheckedFunction → S
function_sum A known f = A.called (block_sum known A f.body)

-- the sums of calls of the functions of a source
abbrev pub call_sums : {S : Type 0} → Algebra S → List CheckedFunction → List S
call_sums A fs = answers (function_sum A) fs
