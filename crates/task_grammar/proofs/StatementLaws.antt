-- The parsers of statements keep to the grammar.
use Rattle.std.proofs.Common.{◌≡◌, ℕ, zero, suc, ◌<◌, Bool, true, false, List, [], ◌∷◌, ◌++◌, length, Option, Some, None, refl, sym, ◌∙◌, subst, arith}
use Rattle.std.proofs.Common.{append_assoc, append-nil}
use Rattle.task_ast.specs.declared.WordType.{WordType}
use Rattle.task_ast.specs.declared.WordType.TheVariants as word
use Rattle.task_lex.specs.declared.token.Token.{Token}
use Rattle.task_lex.specs.declared.token.Kind.{Kind}
use Rattle.task_lex.specs.declared.token.Kind.TheVariants as k
use Rattle.task_ast.specs.Tree.{block_of, choice_of}
use Rattle.task_grammar.specs.Parsed.{Statement, Block, Tested}
use Rattle.task_ast.specs.Tree as node
use Rattle.task_grammar.specs.Grammar as grammar
use Rattle.task_grammar.specs.Grammar.{weakest, IsExpression, arm_from, IsGiven, IsStatement, IsElses, IsArm, IsBlock, IsStatements, type_of}
use Rattle.task_grammar.specs.Reading.{Parser, again, over, refuse, pure, ◌>>=◌}
use Rattle.task_grammar.specs.Expressions.{expression, unary}
use Rattle.task_grammar.specs.Statements.{given, assigned_by, assigned, emitted, returned, transition, begins, arm, after_else, else_by, else_turn, elses}
use Rattle.task_grammar.specs.Statements.{choice, looped}
use Rattle.task_grammar.specs.Statements.{statement_by, statement, statement_if, statement_turn, statements, braced, block_within, typed, declared_by, declared}
use Rattle.task_grammar.proofs.ParserLaws.{Law, Sentence, law_pure, law_refuse, law_bind, law_by, law_take, law_map, law_accept}
use Rattle.task_grammar.proofs.ExpressionLaws.{law_up_to}
use Rattle.task_grammar.proofs.ExpressionSame.{law_unary}
use Rattle.task_grammar.proofs.Turns.{Leads, Shrinks, law_shrinks, law_repeat}

pub law_expression : Law expression (IsExpression weakest)
law_expression = law_up_to unary law_unary weakest

token_of : Kind → Token
token_of kind = record { kind = kind; span = record { from = 0; to = 0 }; value = 0; high = 0 }

some_statement : Sentence IsStatement
unfolding token_of
some_statement = (
  token_of k.TransitionTo ∷ token_of k.Open ∷ token_of k.Name ∷ token_of k.Close ∷ token_of k.Semicolon ∷ [],
  node.transition (record { from = 0; to = 0 }) (record { from = 0; to = 0 }),
  grammar.transition (token_of k.TransitionTo) _ (token_of k.Name) _ _ refl refl refl refl refl,
)

some_block : Sentence IsBlock
unfolding token_of
some_block = (token_of k.OpenBrace ∷ token_of k.CloseBrace ∷ [], block_of [], grammar.block _ _ [] [] refl grammar.none refl)

arm_token : {xs : List Token} {a : Tested} (ys : List Token) → IsArm xs a → 0 < length (xs ++ ys)
arm_token ys (grammar.arm i o c ts bs condition block is is_o is_condition is_c is_block) = omega arith

some_token : {xs : List Token} {x : Statement} → IsStatement xs x → 0 < length xs
some_token (grammar.declare t n z of is is_n is_z) = omega arith
some_token (grammar.declare_as t n of ts value is is_n is_given) = omega arith
some_token (grammar.assign n ts value is is_given) = omega arith
some_token (grammar.store n o c is ts index value h is_o is_index is_c is_given) = omega arith
some_token (grammar.emit t o c z ts value is is_o is_value is_c is_z) = omega arith
some_token (grammar.give t z ts value is is_value is_z) = omega arith
some_token (grammar.transition t o n c z is is_o is_n is_c is_z) = omega arith
some_token (grammar.choice xs ys arm arms last is rest) = arm_token ys is
some_token (grammar.loop f o n q a y m l b z w p c ts body is is_o is_n is_q is_a is_y is_m is_l is_b is_z is_w is_p is_c is_body) = omega arith

abbrev pub IsType : List Token → WordType → Type 0
IsType ts of = (t : Token) × (ts ≡ t ∷ []) × (type_of t.kind ≡ Some of)

law_typed : Law typed IsType
unfolding typed token_of
law_typed = law_accept type_of pure refuse IsType (λ t of is. law_pure of (λ ys a. IsType (t ∷ ys) a) (t, refl, is))
    (law_refuse IsType (token_of k.Int ∷ [], word.Int, (token_of k.Int, refl, refl)))

pub law_type : {A : Type 0} (f : WordType → Parser A) (R : List Token → A → Type 0)
    → ((t : Token) (of : WordType) → type_of t.kind ≡ Some of → Law (f of) (λ ys a. R (t ∷ ys) a)) → Law (typed >>= f) R
law_type f R next = law_bind f IsType R (λ xs of is. subst (λ x. Law (f of) (λ ys a. R (x ++ ys) a)) (sym is.1) (next is.0 of is.2)) typed law_typed

law_given : Law given IsGiven
unfolding given
law_given = law_take k.Assign _ _ (λ q is_q. law_bind _ (IsExpression weakest) _
    (λ xs value is_value. law_take k.Semicolon _ _ (λ z is_z. law_pure value _ (grammar.given q z xs value is_q is_value is_z))) expression law_expression)

law_declared_by : (t n : Token) (of : WordType) → type_of t.kind ≡ Some of → n.kind ≡ k.Name → (kind : Option Kind)
    → Law (declared_by of n kind) (λ ys a. IsStatement (t ∷ n ∷ ys) a)
law_declared_by t n of is is_n (Some k.Assign) = law_map given (λ value. node.declare of n.span (Some value)) IsGiven (λ ys a. IsStatement (t ∷ n ∷ ys) a)
    law_given (λ xs value is_given. grammar.declare_as t n of xs value is is_n is_given)
law_declared_by t n of is is_n _ = law_take k.Semicolon _ _ (λ z is_z. law_pure (node.declare of n.span None) _ (grammar.declare t n z of is is_n is_z))

law_declared : Law declared IsStatement
unfolding declared
law_declared = law_type _ _ (λ t of is. law_take k.Name _ _ (λ n is_n. law_by (declared_by of n) _ (law_declared_by t n of is is_n)))

law_emitted : Law emitted IsStatement
unfolding emitted
law_emitted = law_take k.Emit _ _ (λ t is. law_take k.Open _ _
    (λ o is_o. law_bind _ (IsExpression weakest) _ (λ xs value is_value. law_take k.Close _ _ (λ c is_c. law_take k.Semicolon _ _ (λ z is_z.
    law_pure (node.emit value) _ (grammar.emit t o c z xs value is is_o is_value is_c is_z)))) expression law_expression))

law_returned : Law returned IsStatement
unfolding returned
law_returned = law_take k.Return _ _ (λ t is. law_bind _ (IsExpression weakest) _ (λ xs value is_value. law_take k.Semicolon _ _ (λ z is_z.
    law_pure (node.give t.span value) _ (grammar.give t z xs value is is_value is_z))) expression law_expression)

law_moved : Law transition IsStatement
unfolding transition
law_moved = law_take k.TransitionTo _ _ (λ t is. law_take k.Open _ _
    (λ o is_o. law_take k.Name _ _ (λ n is_n. law_take k.Close _ _
    (λ c is_c. law_take k.Semicolon _ _ (λ z is_z. law_pure (node.transition t.span n.span) _ (grammar.transition t o n c z is is_o is_n is_c is_z))))))

law_assigned_by : (n : Token) → n.kind ≡ k.Name → (kind : Option Kind) → Law (assigned_by n kind) (λ ys a. IsStatement (n ∷ ys) a)
law_assigned_by n is (Some k.OpenSquare) = law_take k.OpenSquare _ _
    (λ o is_o. law_bind _ (IsExpression weakest) _ (λ xs index is_index. law_take k.CloseSquare _ _ (λ c is_c.
    law_map given (node.store n.span index) IsGiven _ law_given (λ ts value is_given. grammar.store n o c xs ts index value is is_o is_index is_c is_given)))
    expression law_expression)
law_assigned_by n is _ = law_map given (node.assign n.span) IsGiven _ law_given (λ ts value is_given. grammar.assign n ts value is is_given)

law_assigned : Law assigned IsStatement
unfolding assigned
law_assigned = law_take k.Name _ _ (λ n is. law_by (assigned_by n) _ (law_assigned_by n is))

abbrev pub AfterElses : List Tested → List Token → List Tested × Option Block → Type 0
AfterElses found ys r = (arms : List Tested) × (r.0 ≡ found ++ arms) × IsElses ys arms r.1

abbrev pub AfterStatements : List Statement → List Token → List Statement → Type 0
AfterStatements found ys r = (all : List Statement) × (r ≡ found ++ all) × IsStatements ys all

module _ (b : Parser Block) (law : Law b IsBlock) where
  pub law_arm : Law (arm b) IsArm
  unfolding arm
  law_arm = law_take k.If _ _ (λ i is. law_take k.Open _ _
      (λ o is_o. law_bind _ (IsExpression weakest) _ (λ xs condition is_condition. law_take k.Close _ _ (λ c is_c.
      law_map b (arm_from condition) IsBlock _ law (λ ys body is_body. grammar.arm i o c xs ys condition body is is_o is_condition is_c is_body))) expression
      law_expression))

  law_after_else : (found : List Tested) (t : Token) → t.kind ≡ k.Else → (kind : Option Kind)
      → Law (after_else b found kind) (λ ys a. Leads AfterElses found (t ∷ ys) a)
  law_after_else found t is (Some k.If) = law_map (arm b) (λ a. again (found ++ a ∷ [])) IsArm (λ ys a. Leads AfterElses found (t ∷ ys) a) law_arm
      (λ xs a is_arm. (
        omega arith,
        λ zs r after. (
          a ∷ after.0,
          after.1 ∙ append_assoc found (a ∷ []) after.0,
          grammar.another t xs zs a after.0 r.1 is is_arm after.2,
        ),
      ))
  law_after_else found t is _ = law_map b (λ body. over (found, Some body)) IsBlock (λ ys a. Leads AfterElses found (t ∷ ys) a) law
      (λ xs body is_body. ([], sym (append-nil found), grammar.last t xs body is is_body))

  law_else_by : (found : List Tested) (kind : Option Kind) → Law (else_by b found kind) (Leads AfterElses found)
  law_else_by found (Some k.Else) = law_take k.Else _ _ (λ t is. law_by (after_else b found) _ (law_after_else found t is))
  law_else_by found _ = law_pure (over (found, None)) (Leads AfterElses found) ([], sym (append-nil found), grammar.nothing)

  pub law_else_turn : (found : List Tested) → Law (else_turn b found) (Leads AfterElses found)
  unfolding else_turn
  law_else_turn found = law_by (else_by b found) _ (law_else_by found)

  pub shrinks_else : Shrinks (else_turn b)
  shrinks_else = law_shrinks (else_turn b) AfterElses law_else_turn

  pub law_elses : (found : List Tested) → Law (elses b found) (AfterElses found)
  law_elses = law_repeat (else_turn b) shrinks_else AfterElses law_else_turn (λ found. ([], (found, None), ([], sym (append-nil found), grammar.nothing)))

  law_choice : Law (choice b) IsStatement
  unfolding choice
  law_choice = law_bind _ IsArm IsStatement (λ xs a is_arm. law_map (elses b (a ∷ [])) (λ r. node.choose (choice_of r.0 r.1)) (AfterElses (a ∷ [])) _
      (law_elses (a ∷ []))
      (λ ys r after. subst (λ arms. IsStatement (xs ++ ys) (node.choose (choice_of arms r.1))) (sym after.1)
      (grammar.choice xs ys a after.0 r.1 is_arm after.2))) (arm b) law_arm

  law_loop : Law (looped b) IsStatement
  unfolding looped
  law_loop = law_take k.For _ _ (λ f is_f. law_take k.Open _ _
      (λ o is_o. law_take k.Name _ _ (λ n is_n. law_take k.Assign _ _ (λ q is_q. law_take k.Number _ _ (λ a is_a. law_take k.Semicolon _ _ (λ y is_y.
      law_take k.Name _ _ (λ m is_m. law_take k.Less _ _
      (λ l is_l. law_take k.Number _ _ (λ b2 is_b. law_take k.Semicolon _ _
      (λ z is_z. law_take k.Name _ _ (λ w is_w. law_take k.PlusPlus _ _ (λ p is_p. law_take k.Close _ _ (λ c is_c.
      law_map b (λ body. node.loop n.span a.value m.span b2.value w.span body) IsBlock _ law
      (λ xs body is_body. grammar.loop f o n q a y m l b2 z w p c xs body is_f is_o is_n is_q is_a is_y is_m is_l is_b is_z is_w is_p is_c
      is_body))))))))))))))

  law_statement_by : (kind : Option Kind) → Law (statement_by b kind) IsStatement
  law_statement_by (Some k.Unsigned) = law_declared
  law_statement_by (Some k.Int) = law_declared
  law_statement_by (Some k.Name) = law_assigned
  law_statement_by (Some k.If) = law_choice
  law_statement_by (Some k.For) = law_loop
  law_statement_by (Some k.Emit) = law_emitted
  law_statement_by (Some k.Return) = law_returned
  law_statement_by (Some k.TransitionTo) = law_moved
  law_statement_by _ = law_refuse IsStatement some_statement

  pub law_statement : Law (statement b) IsStatement
  unfolding statement
  law_statement = law_by (statement_by b) IsStatement law_statement_by

  law_statement_if : (found : List Statement) (begun : Bool) → Law (statement_if b found begun) (Leads AfterStatements found)
  law_statement_if found true = law_map (statement b) (λ x. again (found ++ x ∷ [])) IsStatement (Leads AfterStatements found) law_statement
      (λ xs x is. (some_token is, λ zs r after. (x ∷ after.0, after.1 ∙ append_assoc found (x ∷ []) after.0, grammar.more xs zs x after.0 is after.2)))
  law_statement_if found false = law_pure (over found) (Leads AfterStatements found) ([], sym (append-nil found), grammar.none)

  pub law_statement_turn : (found : List Statement) → Law (statement_turn b found) (Leads AfterStatements found)
  unfolding statement_turn
  law_statement_turn found = law_by (λ kind. statement_if b found (begins kind)) _ (λ kind. law_statement_if found (begins kind))

  pub shrinks_statement : Shrinks (statement_turn b)
  shrinks_statement = law_shrinks (statement_turn b) AfterStatements law_statement_turn

  pub law_statements : (found : List Statement) → Law (statements b found) (AfterStatements found)
  law_statements = law_repeat (statement_turn b) shrinks_statement AfterStatements law_statement_turn
      (λ found. ([], found, ([], sym (append-nil found), grammar.none)))

  law_braced : Law (braced b) IsBlock
  unfolding braced
  law_braced = law_take k.OpenBrace _ _ (λ o is_o. law_bind _ (AfterStatements []) _
      (λ xs all after. law_take k.CloseBrace _ _ (λ c is_c. law_pure (block_of all) _
      (subst (λ x. IsBlock (o ∷ xs ++ c ∷ []) (block_of x)) (sym after.1) (grammar.block o c xs after.0 is_o after.2 is_c)))) (statements b [])
      (law_statements []))

pub law_block_within : (n : ℕ) → Law (block_within n) IsBlock
unfolding block_within
law_block_within zero = law_refuse IsBlock some_block
law_block_within (suc n) = law_braced (block_within n) (law_block_within n)
