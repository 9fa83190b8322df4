use Rattle.std.proofs.Common.{rules, refl}
use Rattle.task_ast.specs.Tree as tree
use Rattle.task_ast.specs.View.{expression_of, values_of}
use Rattle.path_checks.proofs.Walks.{first_as, first_both, first_short, first_call, first_value}
use Rattle.path_checks.proofs.walk.+first.Goals as goal

pub first_in-returns-in-Name : goal.first_in-returns-in-Name
first_in-returns-in-Name t c =
    first_as c.args.walk.now _ _ (expression_of c.args.e.now) (tree.name c.in-Name.name) refl (search rules) c.first_read.ensures

pub first_in-returns-in-Element : goal.first_in-returns-in-Element
first_in-returns-in-Element t c =
    let index = expression_of c.deref.result.now in
    first_as c.args.walk.now _ _ (expression_of c.args.e.now) (tree.element c.in-Element.name index) c.first_of.ensures (search rules)
    (first_both c.args.walk.now index (tree.name c.in-Element.name) _ _ c.first_in.ensures c.first_read-in-Element.ensures)

pub first_in-returns-in-Binary : goal.first_in-returns-in-Binary
first_in-returns-in-Binary t c =
    let a = expression_of c.deref-in-Binary.result.now in
    let b = expression_of c.deref-in-Binary-2.result.now in
    first_as c.args.walk.now _ _ (expression_of c.args.e.now) (tree.binary c.in-Binary.field-0 a b) c.first_of-in-Binary.ensures (search rules)
    (first_both c.args.walk.now a b _ _ c.first_in-in-Binary.ensures c.first_in-in-Binary-2.ensures)

pub first_in-returns-in-ShortCircuit : goal.first_in-returns-in-ShortCircuit
first_in-returns-in-ShortCircuit t c =
    let a = expression_of c.deref-in-ShortCircuit.result.now in
    let b = expression_of c.deref-in-ShortCircuit-2.result.now in
    first_as c.args.walk.now _ _ (expression_of c.args.e.now) (tree.short_circuit c.in-ShortCircuit.field-0 a b) c.first_of-in-ShortCircuit.ensures
    (search rules) (first_short c.args.walk.now a b _ _ c.first_in-in-ShortCircuit.ensures c.first_in-in-ShortCircuit-2.ensures)

pub first_in-returns-in-Unary : goal.first_in-returns-in-Unary
first_in-returns-in-Unary t c =
    first_as c.args.walk.now _ _ (expression_of c.args.e.now) (tree.unary c.in-Unary.field-0 (expression_of c.deref-in-Unary.result.now)) refl
    (search rules) c.first_in-in-Unary.ensures

pub first_in-returns-in-Shift : goal.first_in-returns-in-Shift
first_in-returns-in-Shift t c =
    first_as c.args.walk.now _ _ (expression_of c.args.e.now)
    (tree.shift c.in-Shift.field-0 (expression_of c.deref-in-Shift.result.now) c.in-Shift.field-2) refl (search rules) c.first_in-in-Shift.ensures

pub first_in-returns-in-Call : goal.first_in-returns-in-Call
first_in-returns-in-Call t c =
    first_call c.args.walk.now _ (expression_of c.args.e.now) c.in-Call.field-0 (values_of c.in-Call.values) (search rules) c.first_in_values.ensures

pub first_in_values-returns-in-Value : goal.first_in_values-returns-in-Value
first_in_values-returns-in-Value t c =
    first_value c.args.walk.now _ _ _ (values_of c.args.values.now) (expression_of c.deref.result.now) (values_of c.deref-in-Value.result.now)
    c.first_of.ensures (search rules) c.first_in.ensures c.first_in_values.ensures
