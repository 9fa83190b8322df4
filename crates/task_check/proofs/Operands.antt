-- What an operator's operands forbid is put in its place when both of them are walked.
use Rattle.std.proofs.Common.{◌≡◌, ◌+◌, ◌<◌, List, [], ◌∷◌, ◌++◌, length, set, refl, ap, sym, ◌∙◌, arith, append_assoc, append-nil, length-append}
use Rattle.alp_text.specs.declared.lines.Span.{Span}
use Rattle.task_ast.specs.declared.WordType.{WordType}
use Rattle.task_ast.specs.Tree.{Expression, Values}
use Rattle.task_ast.specs.Tree as t
use Rattle.task_ast.specs.Types.{is_long, joined_type}
use Rattle.task_check.specs.declared.occurrence.Occurrence.{Occurrence}
use Rattle.task_check.specs.declared.fault.Kept.TheVariants as kept
use Rattle.task_check.specs.declared.occurrence.Role.TheVariants as role
use Rattle.task_check.specs.Occurrences.{expression_names, values_names, values_length, width_type, element_of, occurrence, operator_role, count_role}

set_behind : (p : List Occurrence) (x : Occurrence) (ys : List Occurrence) (y : Occurrence) → set (p ++ x ∷ ys) (length p) y ≡ p ++ y ∷ ys
set_behind [] x ys y = refl
set_behind (z ∷ p) x ys y = ap (λ r. z ∷ r) (set_behind p x ys y)

push_two : (xs ys : List Occurrence) (a b : Occurrence) → ((xs ++ ys) ++ a ∷ []) ++ b ∷ [] ≡ xs ++ ((ys ++ a ∷ []) ++ b ∷ [])
push_two xs ys a b = ap (λ r. r ++ b ∷ []) (append_assoc xs ys (a ∷ [])) ∙ append_assoc xs (ys ++ a ∷ []) (b ∷ [])

push_between : (xs ys zs : List Occurrence) (a : Occurrence) → ((xs ++ ys) ++ a ∷ []) ++ zs ≡ xs ++ ((ys ++ a ∷ []) ++ zs)
push_between xs ys zs a = ap (λ r. r ++ zs) (append_assoc xs ys (a ∷ [])) ∙ append_assoc xs (ys ++ a ∷ []) zs

module _ (types : Span → WordType) where
  mutual
    -- the names of an expression are the same, whatever stands behind it
    names_front : (e : Expression Span Span) (xs : List Occurrence) → expression_names types e xs ≡ xs ++ expression_names types e []
    names_front (t.number n) xs = sym (append-nil xs)
    names_front (t.long_number n) xs = sym (append-nil xs)
    names_front (t.name s) xs = refl
    names_front (t.element s index) xs =
        let of = width_type types index in
        ap (element_of of s) (names_front index xs)
        ∙ push_two xs (expression_names types index []) (occurrence s (role.Operand (is_long of) (kept.Name s))) (occurrence s role.Element)
    names_front t.sense xs = sym (append-nil xs)
    names_front t.next_event xs = sym (append-nil xs)
    names_front (t.call s values) xs =
        let o = occurrence s (role.Call (values_length values)) in
        ap (λ r. r ++ o ∷ []) (values_front values xs) ∙ append_assoc xs (values_names types values []) (o ∷ [])
    names_front (t.unary op a) xs = names_front a xs
    names_front (t.binary op a b) xs =
        let o = occurrence op.span (operator_role op.operator (joined_type (width_type types a) (width_type types b))) in
        let left = expression_names types a [] in
        let right = expression_names types b [] in
        names_front a (expression_names types b xs ++ o ∷ []) ∙ ap (λ r. (r ++ o ∷ []) ++ left) (names_front b xs) ∙ push_between xs right left o
        ∙ ap (λ r. xs ++ r) (sym (names_front a (right ++ o ∷ [])))
    names_front (t.shift op a count) xs =
        let o = occurrence count.span (count_role count.value (width_type types a)) in
        names_front a (xs ++ o ∷ []) ∙ append_assoc xs (o ∷ []) (expression_names types a []) ∙ ap (λ r. xs ++ r) (sym (names_front a (o ∷ [])))
    names_front (t.short_circuit op a b) xs =
        names_front a (expression_names types b xs) ∙ ap (λ r. r ++ expression_names types a []) (names_front b xs)
        ∙ append_assoc xs (expression_names types b []) (expression_names types a [])
        ∙ ap (λ r. xs ++ r) (sym (names_front a (expression_names types b [])))

    values_front : (values : Values Span Span) (xs : List Occurrence) → values_names types values xs ≡ xs ++ values_names types values []
    values_front t.no_value xs = sym (append-nil xs)
    values_front (t.value e more) xs =
        names_front e (values_names types more xs) ∙ ap (λ r. r ++ expression_names types e []) (values_front more xs)
        ∙ append_assoc xs (values_names types more []) (expression_names types e [])
        ∙ ap (λ r. xs ++ r) (sym (names_front e (values_names types more [])))

  -- what stands behind an expression, and one of them put in its place
  pub put_back : (e : Expression Span Span) (xs : List Occurrence) (x y : Occurrence)
      → set (expression_names types e (xs ++ x ∷ [])) (length xs) y ≡ expression_names types e (xs ++ y ∷ [])
  put_back e xs x y =
      let own = expression_names types e [] in
      ap (λ r. set r (length xs) y) (names_front e (xs ++ x ∷ []) ∙ append_assoc xs (x ∷ []) own) ∙ set_behind xs x own y
      ∙ sym (names_front e (xs ++ y ∷ []) ∙ append_assoc xs (y ∷ []) own)

  pub stands_within : (e : Expression Span Span) (xs : List Occurrence) (x : Occurrence) → length xs < length (expression_names types e (xs ++ x ∷ []))
  stands_within e xs x =
      let sizes : length (expression_names types e (xs ++ x ∷ [])) ≡ length xs + 1 + length (expression_names types e []) =
      ap length (names_front e (xs ++ x ∷ [])) ∙ length-append (xs ++ x ∷ []) (expression_names types e [])
      ∙ ap (λ n. n + length (expression_names types e [])) (length-append xs (x ∷ [])) in
      omega arith
