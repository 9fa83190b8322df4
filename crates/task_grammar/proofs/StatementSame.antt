-- The parsers of statements without fuel keep to their equations.
use Rattle.std.proofs.Common.{◌≡◌, ℕ, zero, suc, ◌+◌, ◌-◌, ◌≤◌, Bool, true, false, List, [], ◌∷◌, ◌++◌, length, Option, Some, refl, ap, sym, ◌∙◌, arith}
use Rattle.task_lex.specs.declared.token.Token.{Token}
use Rattle.task_lex.specs.declared.token.Kind.{Kind}
use Rattle.task_lex.specs.declared.token.Kind.TheVariants as k
use Rattle.task_ast.specs.Tree.{block_of, choice_of}
use Rattle.task_grammar.specs.Parsed.{Statement, Block, Tested}
use Rattle.task_ast.specs.Tree as node
use Rattle.task_grammar.specs.Grammar.{weakest, IsExpression, IsBlock, IsArm}
use Rattle.task_grammar.specs.Reading.{Parser, and_then, ◌>>=◌, pure, kind_of, token, again}
use Rattle.task_grammar.specs.Expressions.{expression}
use Rattle.task_grammar.specs.Statements.{begins, arm, after_else, else_by, else_turn, elses, choice, looped, statement_by, statement, statement_if}
use Rattle.task_grammar.specs.Statements.{statement_turn, statements, braced, block_within, block}
use Rattle.task_grammar.proofs.ParserLaws.{Law}
use Rattle.task_grammar.proofs.SameLaws.{Same, Shortens, law_shortens, same_bind, same_take}
use Rattle.task_grammar.proofs.Turns.{same_repeat}
use Rattle.task_grammar.proofs.StatementLaws.{law_expression, law_arm, law_block_within, shrinks_else, shrinks_statement}

take_within : {A : Type 0} (m : ℕ) (kind : Kind) (f g : Token → Parser A) → ((t : Token) → Same m (f t) (g t)) → Same m (token kind >>= f) (token kind >>= g)
take_within m kind f g next ts fits = same_take m kind f g next ts (omega arith)

shorter_expression : Shortens expression
shorter_expression = law_shortens expression (IsExpression weakest) law_expression

module _ (m : ℕ) (b b' : Parser Block) (same : Same m b b') (law : Law b IsBlock) where
  shorter_block : Shortens b
  shorter_block = law_shortens b IsBlock law

  same_arm : Same (suc m) (arm b) (arm b')
  unfolding arm
  same_arm = same_take m k.If _ _ (λ i. take_within m k.Open _ _
      (λ o. same_bind m expression expression _ _ (λ ts fits. refl) (λ condition. take_within m k.Close _ _ (λ c.
      same_bind m b b' _ _ same (λ body ts fits. refl) shorter_block)) shorter_expression))

  same_after_else : (found : List Tested) (kind : Option Kind) → Same m (after_else b found kind) (after_else b' found kind)
  same_after_else found (Some k.If) = λ ts fits. ap (λ o. and_then o (λ a. pure (again (found ++ a ∷ [])))) (same_arm ts (omega arith))
  same_after_else found _ = same_bind m b b' _ _ same (λ body ts fits. refl) shorter_block

  same_else_by : (found : List Tested) (kind : Option Kind) → Same (suc m) (else_by b found kind) (else_by b' found kind)
  same_else_by found (Some k.Else) = same_take m k.Else _ _ (λ t ts fits. same_after_else found (kind_of ts) ts fits)
  same_else_by found _ = λ ts fits. refl

  same_else_turn : (found : List Tested) → Same (suc m) (else_turn b found) (else_turn b' found)
  unfolding else_turn
  same_else_turn found ts fits = same_else_by found (kind_of ts) ts fits

  same_elses : (found : List Tested) → Same (suc m) (elses b found) (elses b' found)
  same_elses = same_repeat (suc m) (else_turn b) (else_turn b') same_else_turn (shrinks_else b law)

  same_choice : Same (suc m) (choice b) (choice b')
  unfolding choice
  same_choice = same_bind (suc m) (arm b) (arm b') _ _ same_arm
      (λ a ts fits. ap (λ o. and_then o (λ r. pure (node.choose (choice_of r.0 r.1)))) (same_elses (a ∷ []) ts fits))
      (law_shortens (arm b) IsArm (law_arm b law))

  same_loop : Same (suc m) (looped b) (looped b')
  unfolding looped
  same_loop = same_take m k.For _ _ (λ f. take_within m k.Open _ _
      (λ o. take_within m k.Name _ _ (λ n. take_within m k.Assign _ _ (λ q. take_within m k.Number _ _ (λ a. take_within m k.Semicolon _ _ (λ y.
      take_within m k.Name _ _ (λ w. take_within m k.Less _ _
      (λ l. take_within m k.Number _ _ (λ z. take_within m k.Semicolon _ _
      (λ z2. take_within m k.Name _ _ (λ w2. take_within m k.PlusPlus _ _ (λ p. take_within m k.Close _ _ (λ c.
      same_bind m b b' _ _ same (λ body ts fits. refl) shorter_block)))))))))))))

  same_statement_by : (kind : Option Kind) → Same (suc m) (statement_by b kind) (statement_by b' kind)
  same_statement_by (Some k.If) = same_choice
  same_statement_by (Some k.For) = same_loop
  same_statement_by _ = λ ts fits. refl

  same_statement : Same (suc m) (statement b) (statement b')
  unfolding statement
  same_statement ts fits = same_statement_by (kind_of ts) ts fits

  same_statement_if : (found : List Statement) (begun : Bool) → Same (suc m) (statement_if b found begun) (statement_if b' found begun)
  same_statement_if found true ts fits = ap (λ o. and_then o (λ x. pure (again (found ++ x ∷ [])))) (same_statement ts fits)
  same_statement_if found false ts fits = refl

  same_statement_turn : (found : List Statement) → Same (suc m) (statement_turn b found) (statement_turn b' found)
  unfolding statement_turn
  same_statement_turn found ts fits = same_statement_if found (begins (kind_of ts)) ts fits

  same_statements : (found : List Statement) → Same (suc m) (statements b found) (statements b' found)
  same_statements = same_repeat (suc m) (statement_turn b) (statement_turn b') same_statement_turn (shrinks_statement b law)

  same_braced : Same (suc m) (braced b) (braced b')
  unfolding braced
  same_braced = same_take m k.OpenBrace _ _ (λ o ts fits. ap (λ o. and_then o (λ all. token k.CloseBrace >>= λ c. pure (block_of all)))
      (same_statements [] ts (omega arith)))

one_more : (n : ℕ) → Same n (block_within n) (block_within (suc n))
unfolding block_within braced token
one_more zero [] fits = refl
one_more zero (t ∷ ts) fits = absurd (omega arith)
one_more (suc n) ts fits = same_braced n (block_within n) (block_within (suc n)) (one_more n) (law_block_within n) ts fits

some_more : (n more : ℕ) → Same n (block_within n) (block_within (more + n))
some_more n zero ts fits = ap (λ k. block_within k ts) (omega arith)
some_more n (suc more) ts fits = some_more n more ts fits ∙ one_more (more + n) ts (omega arith) ∙ ap (λ k. block_within k ts) (omega arith)

pub block_enough : (n : ℕ) (ts : List Token) → length ts ≤ n → block_within n ts ≡ block ts
unfolding block
block_enough n ts fits = ap (λ k. block_within k ts) (omega arith) ∙ sym (some_more (length ts) (n - length ts) ts (omega arith))

pub block_is : (ts : List Token) → block ts ≡ braced block ts
unfolding block block_within braced token
block_is [] = refl
block_is (t ∷ ts) = let n = length ts in same_braced n (block_within n) block (λ xs fits. block_enough n xs fits) (law_block_within n) (t ∷ ts) (omega arith)
