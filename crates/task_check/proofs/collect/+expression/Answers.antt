use Rattle.std.proofs.Common.{rules, ◌≡◌, [], ◌∷◌, ◌++◌, length, set, ap, ◌∙◌, arith}
use Rattle.task_ast.specs.View.{expression_of}
use Rattle.task_check.specs.Typed.{types_of}
use Rattle.task_check.specs.Occurrences.{expression_names, occurrence}
use Rattle.task_check.proofs.Operands.{put_back, stands_within}
use Rattle.task_check.proofs.collect.+expression.Goals as goal

pub expression_names-put_role-requires : goal.expression_names-put_role-requires
expression_names-put_role-requires t c =
    let types = types_of c.args.types.now in
    let front = c.expression_names-in-Binary.new.names.items in
    let left = expression_of c.deref-in-Binary-2.result.now in
    let first = occurrence c.in-Binary.op.span c.operator_role.result in
    let count : c.len-at.result ≡ length front = search rules in
    let names : c.expression_names-in-Binary-2.new.names.items ≡ expression_names types left (front ++ first ∷ []) =
    c.in_ok-left-in-Binary.ensures.names ∙ ap (expression_names types left) c.in_ok-add-in-Binary.ensures in
    let within = stands_within types left front first in
    let sizes = ap length names in
    omega arith

pub expression_names-returns-in_ok-left-in-Binary-clause-names : goal.expression_names-returns-in_ok-left-in-Binary-clause-names
expression_names-returns-in_ok-left-in-Binary-clause-names t c =
    let types = types_of c.args.types.now in
    let front = c.expression_names-in-Binary.new.names.items in
    let left = expression_of c.deref-in-Binary-2.result.now in
    let first = occurrence c.in-Binary.op.span c.operator_role.result in
    let count : c.len-at.result ≡ length front = search rules in
    let names : c.expression_names-in-Binary-2.new.names.items ≡ expression_names types left (front ++ first ∷ []) =
    c.in_ok-left-in-Binary.ensures.names ∙ ap (expression_names types left) c.in_ok-add-in-Binary.ensures in
    let last = occurrence c.in-Binary.op.span c.operator_role-role.result in
    let whole : expression_names types left (front ++ last ∷ []) ≡ expression_names types (expression_of c.args.e.now) c.args.names.now.items = search rules in
    c.put_role.ensures ∙ ap (λ n. set c.expression_names-in-Binary-2.new.names.items n last) count ∙ ap (λ xs. set xs (length front) last) names
    ∙ put_back types left front first last ∙ whole

pub expression_names-put_role-requires-in-Shift : goal.expression_names-put_role-requires-in-Shift
expression_names-put_role-requires-in-Shift t c =
    let types = types_of c.args.types.now in
    let front = c.args.names.now.items in
    let left = expression_of c.deref-in-Shift.result.now in
    let first = occurrence c.in-Shift.count.span c.count_role.result in
    let count : c.len-at-in-Shift.result ≡ length front = search rules in
    let names : c.expression_names-in-Shift.new.names.items ≡ expression_names types left (front ++ first ∷ []) =
    c.in_ok-left-in-Shift.ensures.names ∙ ap (expression_names types left) c.in_ok-add-in-Shift.ensures in
    let within = stands_within types left front first in
    let sizes = ap length names in
    omega arith

pub expression_names-returns-in_ok-left-in-Shift-clause-names : goal.expression_names-returns-in_ok-left-in-Shift-clause-names
expression_names-returns-in_ok-left-in-Shift-clause-names t c =
    let types = types_of c.args.types.now in
    let front = c.args.names.now.items in
    let left = expression_of c.deref-in-Shift.result.now in
    let first = occurrence c.in-Shift.count.span c.count_role.result in
    let count : c.len-at-in-Shift.result ≡ length front = search rules in
    let names : c.expression_names-in-Shift.new.names.items ≡ expression_names types left (front ++ first ∷ []) =
    c.in_ok-left-in-Shift.ensures.names ∙ ap (expression_names types left) c.in_ok-add-in-Shift.ensures in
    let last = occurrence c.in-Shift.count.span c.count_role-in-Shift.result in
    let whole : expression_names types left (front ++ last ∷ []) ≡ expression_names types (expression_of c.args.e.now) c.args.names.now.items = search rules in
    c.put_role-in-Shift.ensures ∙ ap (λ n. set c.expression_names-in-Shift.new.names.items n last) count ∙ ap (λ xs. set xs (length front) last) names
    ∙ put_back types left front first last ∙ whole
