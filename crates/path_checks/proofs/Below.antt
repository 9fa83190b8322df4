-- Functions that stand in front of a place stand in front of each later one, too.
use Rattle.std.proofs.Common.{ℕ, suc, ◌+◌, ◌<◌, ◌≤◌, List, [], ◌∷◌, length, Option, Some, None, All, arith}
use Rattle.std.proofs.lemmas.List.Elements.{All-cons}
use Rattle.task_ast.specs.Tree as t
use Rattle.task_ast.specs.Paths.{CheckedExpression, CheckedValues, CheckedStatement, CheckedChoice, CheckedBlock, CheckedFunction, CheckedProgram}
use Rattle.task_ast.specs.Calls.{CallsAreBelow, ValuesCallBelow, InitialCallsBelow, StatementCallsBelow, ChoiceCallsBelow, BlockCallsBelow}
use Rattle.task_ast.specs.Calls.{FunctionsCallBelow, CallsAreKnown}

module _ (n m : ℕ) (more : n ≤ m) where
  mutual
    expression_below : (e : CheckedExpression) → CallsAreBelow n e → CallsAreBelow m e
    expression_below (t.number _) h = h
    expression_below (t.long_number _) h = h
    expression_below (t.name _) h = h
    expression_below (t.element _ index) h = expression_below index h
    expression_below t.sense h = h
    expression_below t.next_event h = h
    expression_below (t.call f values) h = (omega (arith, h.0), values_below values h.1)
    expression_below (t.unary _ a) h = expression_below a h
    expression_below (t.binary _ a b) h = (expression_below a h.0, expression_below b h.1)
    expression_below (t.shift _ a _) h = expression_below a h
    expression_below (t.short_circuit _ a b) h = (expression_below a h.0, expression_below b h.1)

    values_below : (values : CheckedValues) → ValuesCallBelow n values → ValuesCallBelow m values
    values_below t.no_value h = h
    values_below (t.value e others) h = (expression_below e h.0, values_below others h.1)

  initial_below : (value : Option CheckedExpression) → InitialCallsBelow n value → InitialCallsBelow m value
  initial_below None h = h
  initial_below (Some e) h = expression_below e h

  mutual
    statement_below : (s : CheckedStatement) → StatementCallsBelow n s → StatementCallsBelow m s
    statement_below (t.declare _ _ value) h = initial_below value h
    statement_below (t.assign _ e) h = expression_below e h
    statement_below (t.store _ index e) h = (expression_below index h.0, expression_below e h.1)
    statement_below (t.choose c) h = choice_below c h
    statement_below (t.loop _ _ _ _ _ body) h = block_below body h
    statement_below (t.emit e) h = expression_below e h
    statement_below (t.give _ e) h = expression_below e h
    statement_below (t.transition _ _) h = h

    choice_below : (c : CheckedChoice) → ChoiceCallsBelow n c → ChoiceCallsBelow m c
    choice_below t.nothing h = h
    choice_below (t.otherwise b) h = block_below b h
    choice_below (t.test e b others) h = (expression_below e h.0, (block_below b h.1.0, choice_below others h.1.1))

    pub block_below : (b : CheckedBlock) → BlockCallsBelow n b → BlockCallsBelow m b
    block_below t.end h = h
    block_below (t.step s others) h = (statement_below s h.0, block_below others h.1)

functions_below : (n m : ℕ) (fs : List CheckedFunction) → FunctionsCallBelow n fs → n + length fs ≤ m → All (λ f. BlockCallsBelow m f.body) fs
functions_below n m [] h le = λ k d l. absurd (omega arith)
functions_below n m (f ∷ fs) h le =
    All-cons (λ f. BlockCallsBelow m f.body) f fs (block_below n m (omega arith) f.body h.0) (functions_below (n + 1) m fs h.1 (omega arith))

-- each function of a source calls functions of it
pub functions_known : (p : CheckedProgram) → CallsAreKnown p → All (λ f. BlockCallsBelow (length p.functions) f.body) p.functions
functions_known p h = functions_below 0 (length p.functions) p.functions h.functions (omega arith)
