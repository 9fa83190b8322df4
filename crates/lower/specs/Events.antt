-- Which sources a program that takes events may stand for, and which one that takes none.
use Rattle.std.specs.Prelude.{◌≡◌, Bool, true, Some, None}
use Rattle.task_ast.specs.Tree.{element, next_event, call, unary, binary, shift, short_circuit, no_value, value}
use Rattle.task_ast.specs.Tree.{declare, assign, store, choose, loop, emit, give, transition, nothing, otherwise, test, end, step}
use Rattle.task_ast.specs.Paths.{CheckedExpression, CheckedValues, CheckedStatement, CheckedChoice, CheckedBlock}

abbrev mutual
  -- `next_event()` stands in an expression only where events are taken
  pub AdmitsExpression : Bool → CheckedExpression → Type 0
  AdmitsExpression events next_event = events ≡ true
  AdmitsExpression events (element x index) = AdmitsExpression events index
  AdmitsExpression events (call f values) = AdmitsValues events values
  AdmitsExpression events (unary op e) = AdmitsExpression events e
  AdmitsExpression events (binary op a b) = AdmitsExpression events a × AdmitsExpression events b
  AdmitsExpression events (shift op e count) = AdmitsExpression events e
  AdmitsExpression events (short_circuit op a b) = AdmitsExpression events a × AdmitsExpression events b
  AdmitsExpression events _ = Unit {0}

  -- the same of a call's values
  pub AdmitsValues : Bool → CheckedValues → Type 0
  AdmitsValues events no_value = Unit {0}
  AdmitsValues events (value e more) = AdmitsExpression events e × AdmitsValues events more

abbrev mutual
  -- the same of a statement
  pub AdmitsStatement : Bool → CheckedStatement → Type 0
  AdmitsStatement events (declare t x None) = Unit {0}
  AdmitsStatement events (declare t x (Some e)) = AdmitsExpression events e
  AdmitsStatement events (assign x e) = AdmitsExpression events e
  AdmitsStatement events (store x index e) = AdmitsExpression events index × AdmitsExpression events e
  AdmitsStatement events (choose choice) = AdmitsChoice events choice
  AdmitsStatement events (loop x from tested below stepped body) = AdmitsBlock events body
  AdmitsStatement events (emit e) = AdmitsExpression events e
  AdmitsStatement events (give at e) = AdmitsExpression events e
  AdmitsStatement events (transition at task) = Unit {0}

  -- of conditions with their blocks
  pub AdmitsChoice : Bool → CheckedChoice → Type 0
  AdmitsChoice events nothing = Unit {0}
  AdmitsChoice events (otherwise block) = AdmitsBlock events block
  AdmitsChoice events (test condition block more) = AdmitsExpression events condition × AdmitsBlock events block × AdmitsChoice events more

  -- and of a block
  pub AdmitsBlock : Bool → CheckedBlock → Type 0
  AdmitsBlock events end = Unit {0}
  AdmitsBlock events (step statement more) = AdmitsStatement events statement × AdmitsBlock events more
