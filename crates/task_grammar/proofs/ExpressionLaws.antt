-- The parsers of expressions keep to the grammar.
use Rattle.std.proofs.Common.{◌≡◌, ℕ, zero, suc, Bool, true, false, cond, ◌==◌, List, [], ◌∷◌, ◌++◌, Option, Some, None, refl, ap₂, sym, subst, arith}
use Rattle.std.proofs.Common.{append_assoc, append-nil}
use Rattle.task_lex.specs.declared.token.Token.{Token}
use Rattle.task_lex.specs.declared.token.Kind.{Kind}
use Rattle.task_lex.specs.declared.token.Kind.TheVariants as k
use Rattle.task_grammar.specs.declared.operators.Infix.{Infix}
use Rattle.task_grammar.specs.declared.operators.Infix.TheVariants.{Binary, Shift, ShortCircuit}
use Rattle.task_grammar.specs.Parsed.{Expression}
use Rattle.task_ast.specs.Tree as node
use Rattle.task_grammar.specs.Grammar.{prefix_of, infix_of, weakest, placed, long_worth, literal_of, IsExpression, IsValues, number, long_number, name}
use Rattle.task_grammar.specs.Grammar.{element, sense}
use Rattle.task_grammar.specs.Grammar.{next_event, call, brackets, prefixed, tighter}
use Rattle.task_grammar.specs.Grammar.{joined, short_circuited, shifted}
use Rattle.task_grammar.specs.Expressions as reading
use Rattle.task_grammar.specs.Reading.{Parser, pure, again, over}
use Rattle.task_grammar.specs.Expressions.{of_precedence, infix_at, joined_with, climb_on, climb_turn, climb, up_to, values, named_by, named, bracketed}
use Rattle.task_grammar.specs.Expressions.{primary_by}
use Rattle.task_grammar.specs.Expressions.{primary}
use Rattle.task_grammar.specs.Expressions.{unary_within}
use Rattle.task_grammar.proofs.ParserLaws.{Law, Sentence, law_pure, law_refuse, law_bind, law_by, law_accept, law_accept_at, law_take, law_map, law_weaken}
use Rattle.task_grammar.proofs.Turns.{Leads, Shrinks, law_shrinks, law_repeat}
use Rattle.task_grammar.proofs.Values.{law_values}

zero_token : Token
zero_token = record { kind = k.Number; span = record { from = 0; to = 0 }; value = 0; high = 0 }

-- the sentence `0`
pub some_expr : (j : ℕ) → Sentence (IsExpression j)
unfolding zero_token
some_expr zero = (zero_token ∷ [], node.number 0, number zero_token refl)
some_expr (suc j) = let s = some_expr j in (s.0, s.1, tighter j s.0 s.1 s.2)

of_precedence_some : (j : ℕ) (o : Option (ℕ × Infix)) (op : Infix) → of_precedence j o ≡ Some op → o ≡ Some (j, op)
of_precedence_some j None op h = absurd (cc)
of_precedence_some j (Some p) op h = go (p.0 == j) refl h
  where
    go : (b : Bool) → (p.0 == j) ≡ b → cond b (Some p.1) None ≡ Some op → Some p ≡ Some (j, op)
    go true e h = let same : p.0 ≡ j = grind arith in let one : p.1 ≡ op = cc in ap₂ (λ (a : ℕ) (b : Infix). Some (a, b)) same one
    go false e h = absurd (cc)

pub law_number : Law reading.number (IsExpression 0)
unfolding reading.number
law_number = law_take k.Number (λ t. pure (node.number t.value)) (IsExpression 0)
    (λ t is. law_pure (node.number t.value) (λ ys a. IsExpression 0 (t ∷ ys) a) (number t is))

pub law_long_number : Law reading.long_number (IsExpression 0)
unfolding reading.long_number
law_long_number = law_take k.LongNumber (λ t. pure (node.long_number (long_worth t))) (IsExpression 0)
    (λ t is. law_pure (node.long_number (long_worth t)) (λ ys a. IsExpression 0 (t ∷ ys) a) (long_number t is))

-- what may follow the left side
abbrev pub GoesOn : ℕ → Expression → List Token → Expression → Type 0
GoesOn j left ys whole = (xs : List Token) → IsExpression j xs left → IsExpression j (xs ++ ys) whole

goes_nowhere : (j : ℕ) (left : Expression) → GoesOn j left [] left
goes_nowhere j left xs is = subst (λ x. IsExpression j x left) (sym (append-nil xs)) is

module _ (j : ℕ) (lower : Parser Expression) (law : Law lower (IsExpression j)) where
  law_joined_with : (t : Token) (op : Infix) (left : Expression) → infix_of t.kind ≡ Some (suc j, op)
      → Law (joined_with lower left t.span op) (λ ys whole. GoesOn (suc j) left (t ∷ ys) whole)
  law_joined_with t (Binary op) left is = law_map lower (node.binary (placed op t.span) left) (IsExpression j)
      (λ ys whole. GoesOn (suc j) left (t ∷ ys) whole) law
      (λ ys right is_right xs is_left. joined j t op xs ys left right is_left is is_right)
  law_joined_with t (ShortCircuit op) left is = law_map lower (node.short_circuit op left) (IsExpression j) (λ ys whole. GoesOn (suc j) left (t ∷ ys) whole) law
      (λ ys right is_right xs is_left. short_circuited j t op xs ys left right is_left is is_right)
  law_joined_with t (Shift op) left is = law_take k.Number (λ n. pure (node.shift op left (literal_of n))) (λ ys whole. GoesOn (suc j) left (t ∷ ys) whole)
      (λ n is_n. law_pure (node.shift op left (literal_of n)) (λ ys whole. GoesOn (suc j) left (t ∷ n ∷ ys) whole)
      (λ xs is_left. shifted j t n op xs left is_left is is_n))

  turn_after : (t : Token) (ys : List Token) (left whole : Expression) → GoesOn (suc j) left (t ∷ ys) whole → Leads (GoesOn (suc j)) left (t ∷ ys) (again whole)
  turn_after t ys left whole goes = (
    omega arith,
    λ zs all after xs is_left. subst (λ x. IsExpression (suc j) x all) (append_assoc xs (t ∷ ys) zs)
        (after (xs ++ t ∷ ys) (goes xs is_left)),
  )

  law_climb_turn : (left : Expression) → Law (climb_turn lower (suc j) left) (Leads (GoesOn (suc j)) left)
  unfolding climb_turn infix_at
  law_climb_turn left = law_accept_at (infix_at (suc j)) (climb_on lower left) (pure (over left)) (Leads (GoesOn (suc j)) left)
      (λ t op is. law_map (joined_with lower left t.span op) again (λ ys whole. GoesOn (suc j) left (t ∷ ys) whole)
      (λ ys turn. Leads (GoesOn (suc j)) left (t ∷ ys) turn)
      (law_joined_with t op left (of_precedence_some (suc j) (infix_of t.kind) op is)) (λ ys whole goes. turn_after t ys left whole goes))
      (law_pure (over left) (Leads (GoesOn (suc j)) left) (goes_nowhere (suc j) left))

  pub shrinks_climb : Shrinks (climb_turn lower (suc j))
  shrinks_climb = law_shrinks (climb_turn lower (suc j)) (GoesOn (suc j)) law_climb_turn

  law_climb : (left : Expression) → Law (climb lower (suc j) left) (GoesOn (suc j) left)
  law_climb = law_repeat (climb_turn lower (suc j)) shrinks_climb (GoesOn (suc j)) law_climb_turn (λ left. ([], left, goes_nowhere (suc j) left))

pub law_up_to : (p : Parser Expression) → Law p (IsExpression 0) → (j : ℕ) → Law (up_to p j) (IsExpression j)
unfolding up_to
law_up_to p law zero = law
law_up_to p law (suc j) = law_bind (climb (up_to p j) (suc j)) (IsExpression j) (IsExpression (suc j))
    (λ xs left is. law_weaken (climb (up_to p j) (suc j) left) (GoesOn (suc j) left) (λ ys whole. IsExpression (suc j) (xs ++ ys) whole)
    (λ ys whole g. g xs (tighter j xs left is)) (law_climb j (up_to p j) (law_up_to p law j) left))
    (up_to p j) (law_up_to p law j)

law_sense : Law reading.sense (IsExpression 0)
unfolding reading.sense
law_sense = law_take k.Sense _ (IsExpression 0) (λ s is. law_take k.Open _ _
    (λ o is_o. law_take k.Close _ _ (λ c is_c. law_pure node.sense _ (sense s o c is is_o is_c))))

law_next_event : Law reading.next_event (IsExpression 0)
unfolding reading.next_event
law_next_event = law_take k.NextEvent _ (IsExpression 0) (λ e is. law_take k.Open _ _
    (λ o is_o. law_take k.Close _ _ (λ c is_c. law_pure node.next_event _ (next_event e o c is is_o is_c))))

module _ (p : Parser Expression) (law : Law p (IsExpression weakest)) where
  law_named_by : (t : Token) → t.kind ≡ k.Name → (kind : Option Kind) → Law (named_by p t kind) (λ ys a. IsExpression 0 (t ∷ ys) a)
  law_named_by t is (Some k.OpenSquare) = law_take k.OpenSquare _ _
      (λ o is_o. law_bind _ (IsExpression weakest) _
      (λ xs index is_index. law_take k.CloseSquare _ _ (λ c is_c. law_pure (node.element t.span index) _ (element t o c xs index is is_o is_index is_c))) p law)
  law_named_by t is (Some k.Open) = law_take k.Open _ _ (λ o is_o. law_bind _ IsValues _
      (λ xs given is_given. law_take k.Close _ _ (λ c is_c. law_pure (node.call t.span given) _ (call t o c xs given is is_o is_given is_c)))
      (values p) (law_values p law))
  law_named_by t is _ = law_pure (node.name t.span) _ (name t is)

  law_named : Law (named p) (IsExpression 0)
  unfolding named
  law_named = law_take k.Name _ _ (λ t is. law_by (named_by p t) _ (law_named_by t is))

  law_bracketed : Law (bracketed p) (IsExpression 0)
  unfolding bracketed
  law_bracketed = law_take k.Open _ _ (λ o is_o. law_bind _ (IsExpression weakest) _
      (λ xs inner is_inner. law_take k.Close _ _ (λ c is_c. law_pure inner _ (brackets o c xs inner is_o is_inner is_c))) p law)

  law_primary_by : (kind : Option Kind) → Law (primary_by p kind) (IsExpression 0)
  law_primary_by (Some k.Number) = law_number
  law_primary_by (Some k.LongNumber) = law_long_number
  law_primary_by (Some k.Name) = law_named
  law_primary_by (Some k.Sense) = law_sense
  law_primary_by (Some k.NextEvent) = law_next_event
  law_primary_by (Some k.Open) = law_bracketed
  law_primary_by _ = law_refuse (IsExpression 0) (some_expr 0)

  law_primary : Law (primary p) (IsExpression 0)
  unfolding primary
  law_primary = law_by (primary_by p) (IsExpression 0) law_primary_by

  law_prefixed : (q : Parser Expression) → Law q (IsExpression 0) → Law (reading.prefixed p q) (IsExpression 0)
  unfolding reading.prefixed
  law_prefixed q inside = law_accept prefix_of _ _ (IsExpression 0)
      (λ t op is. law_bind (λ inner. pure (node.unary op inner)) (IsExpression 0) _
      (λ xs inner is_inner. law_pure (node.unary op inner) _
      (subst (λ x. IsExpression 0 (t ∷ x) (node.unary op inner)) (sym (append-nil xs)) (prefixed t op xs inner is is_inner))) q inside)
      law_primary

pub law_within : (n : ℕ) → Law (unary_within n) (IsExpression 0)
unfolding unary_within
law_within zero = law_refuse (IsExpression 0) (some_expr 0)
law_within (suc n) = law_prefixed (up_to (unary_within n) weakest) (law_up_to (unary_within n) (law_within n) weakest) (unary_within n) (law_within n)
