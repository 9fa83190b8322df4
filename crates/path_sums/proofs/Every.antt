-- What holds of each part of a sum, and of parts put together, holds of the sum.
use Rattle.std.proofs.Common.{ℕ, if◌then◌else◌, ◌==◌, ◌-◌, Bool, true, false, List, Some, None}
use Rattle.task_ast.specs.Tree as t
use Rattle.task_ast.specs.Paths.{CheckedExpression, CheckedValues, CheckedStatement, CheckedChoice, CheckedBlock, Access, read, write, unset}
use Rattle.path_sums.specs.Sums.{Algebra, expression_sum, values_sum, call_sum, turns_sum, statement_sum, choice_sum, block_sum}

pub record Kept {S : Type 0} (A : Algebra S) (P : S → Type 0) : Type 0 where
  pub unit : P A.unit
  pub gone : P A.gone
  pub one : (x : Access) → P (A.one x)
  pub seq : (s t : S) → P s → P t → P (A.seq s t)
  pub join : (s t : S) → P s → P t → P (A.join s t)

module _ {S : Type 0} (known : List S) (A : Algebra S) (P : S → Type 0) (kept : Kept A P) (call : (k : ℕ) → P (call_sum known A k)) where
  mutual
    expression_is : (e : CheckedExpression) → P (expression_sum known A e)
    expression_is (t.number _) = kept.unit
    expression_is (t.long_number _) = kept.unit
    expression_is (t.name n) = kept.one (read n)
    expression_is (t.element n index) = kept.seq _ _ (expression_is index) (kept.one (read n))
    expression_is t.sense = kept.unit
    expression_is t.next_event = kept.unit
    expression_is (t.call f values) = kept.seq _ _ (values_are values) (call f.function)
    expression_is (t.unary _ a) = expression_is a
    expression_is (t.binary _ a b) = kept.seq _ _ (expression_is a) (expression_is b)
    expression_is (t.shift _ a _) = expression_is a
    expression_is (t.short_circuit _ a b) = kept.join _ _ (expression_is a) (kept.seq _ _ (expression_is a) (expression_is b))

    values_are : (values : CheckedValues) → P (values_sum known A values)
    values_are t.no_value = kept.unit
    values_are (t.value e more) = kept.seq _ _ (expression_is e) (values_are more)

  one_of : (a b : Bool) (r s t : S) → P r → P s → P t → P (if a then r else (if b then s else t))
  one_of true b r s t x y z = x
  one_of false true r s t x y z = y
  one_of false false r s t x y z = z

  turns_are : (n : ℕ) (s : S) → P s → P (turns_sum A n s)
  turns_are n s h = one_of (n == 0) (n == 1) _ _ _ kept.unit h (kept.seq s s h h)

  mutual
    statement_is : (s : CheckedStatement) → P (statement_sum known A s)
    statement_is (t.declare _ n None) = kept.one (unset n)
    statement_is (t.declare _ n (Some value)) = kept.seq _ _ (expression_is value) (kept.one (write n))
    statement_is (t.assign n value) = kept.seq _ _ (expression_is value) (kept.one (write n))
    statement_is (t.store n index value) = kept.seq _ _ (expression_is index) (kept.seq _ _ (expression_is value) (kept.one (write n)))
    statement_is (t.choose c) = choice_is c
    statement_is (t.loop n from _ below _ body) = kept.seq _ _ (kept.one (write n))
        (turns_are (below - from) _ (kept.seq _ _ (every_block body) (kept.one (write n))))
    statement_is (t.emit value) = expression_is value
    statement_is (t.give _ value) = kept.seq _ _ (expression_is value) kept.gone
    statement_is (t.transition _ _) = kept.gone

    choice_is : (c : CheckedChoice) → P (choice_sum known A c)
    choice_is t.nothing = kept.unit
    choice_is (t.otherwise b) = every_block b
    choice_is (t.test e b more) = kept.seq _ _ (expression_is e) (kept.join _ _ (every_block b) (choice_is more))

    -- what the algebra keeps holds of a block's sum
    pub every_block : (b : CheckedBlock) → P (block_sum known A b)
    every_block t.end = kept.unit
    every_block (t.step s more) = kept.seq _ _ (statement_is s) (every_block more)
