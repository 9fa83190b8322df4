-- The parsers of a call's values keep to the grammar, and more fuel changes no answer.
use Rattle.std.proofs.Common.{◌≡◌, ℕ, zero, suc, ◌<◌, ◌≤◌, List, [], ◌∷◌, length, Option, Some, refl, ap, arith}
use Rattle.task_lex.specs.declared.token.Token.{Token}
use Rattle.task_lex.specs.declared.token.Kind.{Kind}
use Rattle.task_lex.specs.declared.token.Kind.TheVariants as k
use Rattle.task_grammar.specs.Parsed.{Expression, Values}
use Rattle.task_ast.specs.Tree as node
use Rattle.task_grammar.specs.Grammar as grammar
use Rattle.task_grammar.specs.Grammar.{weakest, IsExpression, IsValues, IsMoreValues}
use Rattle.task_grammar.specs.Reading.{Parser, and_then, pure, kind_of}
use Rattle.task_grammar.specs.Expressions.{more_by, more_within, more_values, values_by, values}
use Rattle.task_grammar.proofs.ParserLaws.{Law, law_pure, law_refuse, law_bind, law_by, law_take, law_map}
use Rattle.task_grammar.proofs.SameLaws.{Same, Shortens, law_shortens, same_bind, same_take}
use Rattle.task_grammar.proofs.Turns.{law_enough}

module _ (m : ℕ) (p p' : Parser Expression) (same : Same m p p') (shorter : Shortens p) where
  same_more_by : (more more' : Parser Values) (j : ℕ) → j ≤ m → Same j more more' → (kind : Option Kind)
      → Same (suc j) (more_by p more kind) (more_by p' more' kind)
  same_more_by more more' j le behind (Some k.Comma) = same_take j k.Comma _ _ (λ c. same_bind j p p' _ _ (λ ts fits. same ts (omega arith))
      (λ next ts fits. ap (λ o. and_then o (λ vs. pure (node.value next vs))) (behind ts fits)) shorter)
  same_more_by more more' j le behind _ = λ ts fits. refl

  same_more : (n n' : ℕ) (ts : List Token) → length ts ≤ m → length ts < n → length ts < n' → more_within p n ts ≡ more_within p' n' ts
  unfolding more_within
  same_more zero n' ts fits le le' = absurd (omega arith)
  same_more (suc n) zero ts fits le le' = absurd (omega arith)
  same_more (suc n) (suc n') [] fits le le' = refl
  same_more (suc n) (suc n') (t ∷ ts) fits le le' = same_more_by (more_within p n) (more_within p' n') (length ts) (omega arith)
      (λ xs short. same_more n n' xs (omega arith) (omega arith) (omega arith)) (Some t.kind) (t ∷ ts) (omega arith)

  same_more_values : Same m (more_values p) (more_values p')
  unfolding more_values
  same_more_values ts fits = same_more (suc (length ts)) (suc (length ts)) ts fits (omega arith) (omega arith)

  same_values_by : (kind : Option Kind) → Same m (values_by p kind) (values_by p' kind)
  same_values_by (Some k.Close) = λ ts fits. refl
  same_values_by _ = same_bind m p p' _ _ same
      (λ first ts fits. ap (λ o. and_then o (λ more. pure (node.value first more))) (same_more_values ts fits)) shorter

  pub same_values : Same m (values p) (values p')
  unfolding values
  same_values = λ ts fits. same_values_by (kind_of ts) ts fits

module _ (p : Parser Expression) (law : Law p (IsExpression weakest)) where
  shorter_value : Shortens p
  shorter_value = law_shortens p (IsExpression weakest) law

  more_enough : (n : ℕ) (ts : List Token) → length ts < n → more_within p n ts ≡ more_values p ts
  unfolding more_values
  more_enough n ts fits = same_more (length ts) p p (λ xs le. refl) shorter_value n (suc (length ts)) ts (omega arith) fits (omega arith)

  pub more_values_is : (ts : List Token) → more_values p ts ≡ more_by p (more_values p) (kind_of ts) ts
  unfolding more_values more_within
  more_values_is [] = refl
  more_values_is (t ∷ ts) = same_more_by (length ts) p p (λ xs le. refl) shorter_value (more_within p (suc (length ts))) (more_values p) (length ts)
      (omega arith) (λ xs fits. more_enough (suc (length ts)) xs (omega arith)) (Some t.kind) (t ∷ ts) (omega arith)

  law_more_by : (more : Parser Values) → Law more IsMoreValues → (kind : Option Kind) → Law (more_by p more kind) IsMoreValues
  law_more_by more behind (Some k.Comma) = law_take k.Comma _ _ (λ c is_c. law_bind _ (IsExpression weakest) _
      (λ xs next is_next. law_map more (node.value next) IsMoreValues _ behind
      (λ ys vs is. grammar.another_value c xs ys next vs is_c is_next is)) p law)
  law_more_by more behind _ = law_pure node.no_value IsMoreValues grammar.no_more

  law_more_within : (n : ℕ) → Law (more_within p n) IsMoreValues
  unfolding more_within
  law_more_within zero = law_refuse IsMoreValues ([], node.no_value, grammar.no_more)
  law_more_within (suc n) = law_by (more_by p (more_within p n)) IsMoreValues (law_more_by (more_within p n) (law_more_within n))

  law_more_values : Law (more_values p) IsMoreValues
  law_more_values = law_enough (more_within p) (more_values p) IsMoreValues law_more_within more_enough

  law_values_by : (kind : Option Kind) → Law (values_by p kind) IsValues
  law_values_by (Some k.Close) = law_pure node.no_value IsValues grammar.no_values
  law_values_by _ = law_bind _ (IsExpression weakest) IsValues (λ xs first is_first. law_map (more_values p) (node.value first) IsMoreValues _
      law_more_values (λ ys more is. grammar.values xs ys first more is_first is)) p law

  pub law_values : Law (values p) IsValues
  unfolding values
  law_values = law_by (values_by p) IsValues law_values_by

  pub shorter_values : Shortens (values p)
  shorter_values = law_shortens (values p) IsValues law_values
