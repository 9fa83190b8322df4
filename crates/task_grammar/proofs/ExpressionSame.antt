-- More fuel changes no answer, so the parser without fuel keeps to its equation.
use Rattle.std.proofs.Common.{◌≡◌, ℕ, zero, suc, ◌+◌, ◌-◌, ◌<◌, ◌≤◌, List, [], ◌∷◌, length, Option, Some, refl, ap, sym, ◌∙◌, subst, arith}
use Rattle.alp_text.specs.declared.lines.Span.{Span}
use Rattle.task_lex.specs.declared.token.Token.{Token}
use Rattle.task_lex.specs.declared.token.Kind.{Kind}
use Rattle.task_lex.specs.declared.token.Kind.TheVariants as k
use Rattle.task_grammar.specs.Parsed.{Expression}
use Rattle.task_ast.specs.Tree as node
use Rattle.task_grammar.specs.declared.operators.Infix.{Infix}
use Rattle.task_grammar.specs.declared.operators.Infix.TheVariants.{Binary, Shift, ShortCircuit}
use Rattle.task_grammar.specs.Grammar.{prefix_of, weakest, placed, IsExpression}
use Rattle.task_grammar.specs.Reading.{Parser, and_then, pure, kind_of, again, over, turned}
use Rattle.task_grammar.specs.Expressions.{more_by, more_values, infix_at, joined_with, climb_on, climb_turn, climb, up_to, values, named_by, named}
use Rattle.task_grammar.specs.Expressions.{bracketed, primary_by, primary}
use Rattle.task_grammar.specs.Expressions.{prefixed}
use Rattle.task_grammar.specs.Expressions.{unary_within, unary, expression}
use Rattle.task_grammar.proofs.ParserLaws.{Law}
use Rattle.task_grammar.proofs.SameLaws.{Same, Shortens, law_shortens, same_bind, same_take, same_accept, same_accept_at}
use Rattle.task_grammar.proofs.Turns.{law_enough, same_repeat, repeat_is}
use Rattle.task_grammar.proofs.Values as called
use Rattle.task_grammar.proofs.ExpressionLaws.{law_up_to, law_within, shrinks_climb}

same_joined_with : (m : ℕ) (lower lower' : Parser Expression) → Same m lower lower' → (left : Expression) (place : Span) (op : Infix)
    → Same m (joined_with lower left place op) (joined_with lower' left place op)
same_joined_with m lower lower' same left place (Binary op) ts fits =
    ap (λ o. and_then o (λ right. pure (node.binary (placed op place) left right))) (same ts fits)
same_joined_with m lower lower' same left place (ShortCircuit op) ts fits =
    ap (λ o. and_then o (λ right. pure (node.short_circuit op left right))) (same ts fits)
same_joined_with m lower lower' same left place (Shift op) ts fits = refl

module _ (m j : ℕ) (lower lower' : Parser Expression) (same : Same m lower lower') (law : Law lower (IsExpression j)) where
  same_climb_turn : (left : Expression) → Same m (climb_turn lower (suc j) left) (climb_turn lower' (suc j) left)
  unfolding climb_turn infix_at
  same_climb_turn left ts fits = same_accept_at m (infix_at (suc j)) (climb_on lower left) (climb_on lower' left) (pure (over left)) (pure (over left))
      (λ place op rest le. ap (λ o. and_then o (λ whole. pure (again whole))) (same_joined_with m lower lower' same left place op rest le)) (λ rest le. refl) ts
      (omega arith)

  same_climb : (left : Expression) → Same m (climb lower (suc j) left) (climb lower' (suc j) left)
  same_climb = same_repeat m (climb_turn lower (suc j)) (climb_turn lower' (suc j)) same_climb_turn (shrinks_climb j lower law)

same_up_to : (m : ℕ) (u u' : Parser Expression) → Same m u u' → Law u (IsExpression 0) → (j : ℕ) → Same m (up_to u j) (up_to u' j)
unfolding up_to
same_up_to m u u' same law zero = same
same_up_to m u u' same law (suc j) =
    let lower = law_up_to u law j in
    same_bind m (up_to u j) (up_to u' j) (climb (up_to u j) (suc j)) (climb (up_to u' j) (suc j)) (same_up_to m u u' same law j)
    (same_climb m j (up_to u j) (up_to u' j) (same_up_to m u u' same law j) lower) (law_shortens (up_to u j) (IsExpression j) lower)

-- ---- inside brackets

module _ (m : ℕ) (x x' : Parser Expression) (same : Same m x x') (law : Law x (IsExpression weakest)) where
  shorter : Shortens x
  shorter = law_shortens x (IsExpression weakest) law

  same_named_by : (t : Token) (kind : Option Kind) → Same m (named_by x t kind) (named_by x' t kind)
  same_named_by t (Some k.OpenSquare) = λ ts fits. same_take m k.OpenSquare _ _ (λ o. same_bind m x x' _ _ same (λ index rest le. refl) shorter) ts
      (omega arith)
  same_named_by t (Some k.Open) = λ ts fits. same_take m k.Open _ _ (λ o. same_bind m (values x) (values x') _ _
      (called.same_values m x x' same shorter) (λ given rest le. refl) (called.shorter_values x law)) ts (omega arith)
  same_named_by t _ = λ ts fits. refl

  same_named : Same (suc m) (named x) (named x')
  unfolding named
  same_named = same_take m k.Name _ _ (λ t ts fits. same_named_by t (kind_of ts) ts fits)

  same_bracketed : Same (suc m) (bracketed x) (bracketed x')
  unfolding bracketed
  same_bracketed = same_take m k.Open _ _ (λ o. same_bind m x x' _ _ same (λ inner rest le. refl) shorter)

  same_primary_by : (kind : Option Kind) → Same (suc m) (primary_by x kind) (primary_by x' kind)
  same_primary_by (Some k.Name) = same_named
  same_primary_by (Some k.Open) = same_bracketed
  same_primary_by _ = λ ts fits. refl

  same_primary : Same (suc m) (primary x) (primary x')
  unfolding primary
  same_primary = λ ts fits. same_primary_by (kind_of ts) ts fits

  same_prefixed : (u u' : Parser Expression) → Same m u u' → Shortens u → Same (suc m) (prefixed x u) (prefixed x' u')
  unfolding prefixed
  same_prefixed u u' inside less = same_accept m prefix_of _ _ (primary x) (primary x') (λ op. same_bind m u u' _ _ inside (λ inner rest le. refl) less)
      same_primary

same_step : (m n : ℕ) (u : Parser Expression) → Same m (unary_within n) u
    → Same (suc m) (prefixed (up_to (unary_within n) weakest) (unary_within n)) (prefixed (up_to u weakest) u)
same_step m n u same =
    same_prefixed m (up_to (unary_within n) weakest) (up_to u weakest) (same_up_to m (unary_within n) u same (law_within n) weakest)
    (law_up_to (unary_within n) (law_within n) weakest)
    (unary_within n) u same (law_shortens (unary_within n) (IsExpression 0) (law_within n))

one_more : (n : ℕ) → Same n (unary_within n) (unary_within (suc n))
unfolding unary_within prefixed primary
one_more zero [] fits = refl
one_more zero (t ∷ ts) fits = absurd (omega arith)
one_more (suc n) ts fits = same_step n n (unary_within (suc n)) (one_more n) ts fits

some_more : (n more : ℕ) → Same n (unary_within n) (unary_within (more + n))
some_more n zero ts fits = ap (λ k. unary_within k ts) (omega arith)
some_more n (suc more) ts fits = some_more n more ts fits ∙ one_more (more + n) ts (omega arith) ∙ ap (λ k. unary_within k ts) (omega arith)

unary_enough : (n : ℕ) (ts : List Token) → length ts ≤ n → unary_within n ts ≡ unary ts
unfolding unary
unary_enough n ts fits = ap (λ k. unary_within k ts) (omega arith) ∙ sym (some_more (length ts) (n - length ts) ts (omega arith))

pub unary_is : (ts : List Token) → unary ts ≡ prefixed expression unary ts
unfolding unary unary_within prefixed primary
unary_is [] = refl
unary_is (t ∷ ts) = same_step (length ts) (length ts) unary (λ xs fits. unary_enough (length ts) xs fits) (t ∷ ts) (omega arith)

pub law_unary : Law unary (IsExpression 0)
law_unary = law_enough unary_within unary (IsExpression 0) law_within (λ n ts fits. unary_enough n ts (omega arith))

pub up_to_zero : (ts : List Token) → up_to unary 0 ts ≡ unary ts
unfolding up_to
up_to_zero ts = refl

pub up_to_above : (j : ℕ) (ts : List Token) → 0 < j → up_to unary j ts ≡ and_then (up_to unary (j - 1) ts) (climb (up_to unary (j - 1)) j)
unfolding up_to
up_to_above zero ts some = absurd (omega arith)
up_to_above (suc j) ts some = let back : j ≡ suc j - 1 = omega arith in ap (λ i. and_then (up_to unary i ts) (climb (up_to unary i) (suc j))) back

pub climb_suc : (j : ℕ) (left : Expression) (ts : List Token) → climb (up_to unary j) (suc j) left ts
    ≡ and_then (climb_turn (up_to unary j) (suc j) left ts) (turned (climb (up_to unary j) (suc j)))
climb_suc j = repeat_is (climb_turn (up_to unary j) (suc j)) (shrinks_climb j (up_to unary j) (law_up_to unary law_unary j))

pub climb_is : (j : ℕ) (left : Expression) (ts : List Token) → 0 < j → climb (up_to unary (j - 1)) j left ts
    ≡ and_then (climb_turn (up_to unary (j - 1)) j left ts) (turned (climb (up_to unary (j - 1)) j))
climb_is zero left ts some = absurd (omega arith)
climb_is (suc j) left ts some = let back : j ≡ suc j - 1 = omega arith in
    subst (λ i. climb (up_to unary i) (suc j) left ts ≡ and_then (climb_turn (up_to unary i) (suc j) left ts) (turned (climb (up_to unary i) (suc j)))) back
    (climb_suc j left ts)

pub more_values_is : (ts : List Token) → more_values expression ts ≡ more_by expression (more_values expression) (kind_of ts) ts
more_values_is = called.more_values_is expression (law_up_to unary law_unary weakest)

pub ruleset up_to_is = (up_to_zero, up_to_above, climb_is)
