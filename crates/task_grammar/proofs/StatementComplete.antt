-- The statements that the grammar relates are read.
use Rattle.std.proofs.Common.{◌≡◌, Bool, true, false, List, [], ◌∷◌, ◌++◌, Option, Some, None, refl, ap, sym, ◌∙◌, arith, append_assoc, append-nil}
use Rattle.task_ast.specs.declared.WordType.{WordType}
use Rattle.task_lex.specs.declared.token.Token.{Token}
use Rattle.task_lex.specs.declared.token.Kind.{Kind}
use Rattle.task_lex.specs.declared.token.Kind.TheVariants as k
use Rattle.task_grammar.specs.Parsed.{Expression, Statement, Block, Tested}
use Rattle.task_grammar.specs.Grammar as grammar
use Rattle.task_grammar.specs.Grammar.{weakest, IsExpression, arm_from, IsGiven, IsStatement, IsElses, IsArm, IsBlock, IsStatements, type_of}
use Rattle.task_grammar.specs.Reading.{Outcome, done, Parser, and_then, pure, kind_of, token, again, over, turned, chosen, refuse}
use Rattle.task_grammar.specs.Expressions.{expression}
use Rattle.task_grammar.specs.Statements.{given, assigned_by, assigned, emitted, returned, transition, begins, arm, after_else, else_by, else_turn, elses}
use Rattle.task_grammar.specs.Statements.{choice, looped}
use Rattle.task_grammar.specs.Statements.{statement_by, statement, statement_if, statement_turn, statements, braced, block_within, block, typed, declared_by}
use Rattle.task_grammar.specs.Statements.{declared}
use Rattle.task_grammar.proofs.ParserLaws.{Law}
use Rattle.task_grammar.proofs.ExpressionComplete.{takes_one, takes, reads_to}
use Rattle.task_grammar.proofs.Turns.{law_enough, repeat_is}
use Rattle.task_grammar.proofs.StatementLaws.{law_block_within, shrinks_else, shrinks_statement}
use Rattle.task_grammar.proofs.StatementSame.{block_enough, block_is}
use Rattle.task_grammar.proofs.Views.{statement_push}

pub law_block : Law block IsBlock
law_block = law_enough block_within block IsBlock law_block_within (λ n ts fits. block_enough n ts (omega arith))

pub goes : {A B : Type 0} (o : Outcome A) (a : A) (rest : List Token) (f : A → Parser B) → o ≡ done a rest → and_then o f ≡ f a rest
goes o a rest f h = ap (λ o. and_then o f) h

pub elses_is : (found : List Tested) (ts : List Token) → elses block found ts ≡ and_then (else_turn block found ts) (turned (elses block))
elses_is = repeat_is (else_turn block) (shrinks_else block law_block)

pub statements_is : (found : List Statement) (ts : List Token)
    → statements block found ts ≡ and_then (statement_turn block found ts) (turned (statements block))
statements_is = repeat_is (statement_turn block) (shrinks_statement block law_block)

-- turn by turn, a statement behind those that were found
pub ruleset statement_by_statement = (statements_is, statement_push)

-- a turn that reads a statement
pub another_statement : (found : List Statement) (x : Statement) (ts rest : List Token) → begins (kind_of ts) ≡ true → statement block ts ≡ done x rest
    → statements block found ts ≡ statements block (found ++ x ∷ []) rest
unfolding statement_turn
another_statement found x ts rest begun h =
    statements_is found ts ∙ goes (statement_turn block found ts) (again (found ++ x ∷ [])) rest (turned (statements block))
    (ap (λ b. statement_if block found b ts) begun ∙ goes (statement block ts) x rest _ h)

-- a turn that reads an `else if`
pub another_arm : (found : List Tested) (a : Tested) (t : Token) (ts next rest : List Token) → kind_of ts ≡ Some k.Else → token k.Else ts ≡ done t next
    → kind_of next ≡ Some k.If → arm block next ≡ done a rest
    → elses block found ts ≡ elses block (found ++ a ∷ []) rest
unfolding else_turn
another_arm found a t ts next rest is_else taken is_if h =
    elses_is found ts ∙ goes (else_turn block found ts) (again (found ++ a ∷ [])) rest (turned (elses block))
    (ap (λ kd. else_by block found kd ts) is_else ∙ goes (token k.Else ts) t next _ taken ∙ ap (λ kd. after_else block found kd next) is_if
    ∙ goes (arm block next) a rest _ h)

abbrev pub is_else : Option Kind → Bool
is_else (Some k.Else) = true
is_else _ = false

else_ends : (found : List Tested) (kind : Option Kind) (ts : List Token) → is_else kind ≡ false → else_by block found kind ts ≡ done (over (found, None)) ts
else_ends found (Some k.Else) ts h = absurd (cc)
else_ends found _ ts h = refl

after_block : (found : List Tested) (kind : Option Kind) (ts : List Token) → kind ≡ Some k.OpenBrace
    → after_else block found kind ts ≡ and_then (block ts) (λ b. pure (over (found, Some b)))
after_block found kind ts h = ap (λ kd. after_else block found kd ts) h

begun_not_else : (kind : Option Kind) → begins kind ≡ true → is_else kind ≡ false
begun_not_else (Some k.Else) h = absurd (cc)
begun_not_else _ h = refl

type_begins : (kind : Kind) (of : WordType) → type_of kind ≡ Some of → begins (Some kind) ≡ true
type_begins k.Unsigned of h = refl
type_begins k.Int of h = refl
type_begins _ of h = absurd (cc)

pub takes_type : {A : Type 0} (t : Token) (of : WordType) (ts : List Token) (f : WordType → Parser A) → type_of t.kind ≡ Some of
    → and_then (typed (t ∷ ts)) f ≡ f of ts
unfolding typed
takes_type t of ts f is = ap (λ o. and_then (chosen o pure refuse (t ∷ ts)) f) is

type_statement : (kind : Kind) (of : WordType) (ts : List Token) → type_of kind ≡ Some of → statement_by block (Some kind) ts ≡ declared ts
type_statement k.Unsigned of ts h = refl
type_statement k.Int of ts h = refl
type_statement _ of ts h = absurd (cc)

begun : {xs : List Token} {x : Statement} → IsStatement xs x → (rest : List Token) → begins (kind_of (xs ++ rest)) ≡ true
begun (grammar.declare t n z of is is_n is_z) rest = type_begins t.kind of is
begun (grammar.declare_as t n of ts value is is_n is_given) rest = type_begins t.kind of is
begun (grammar.assign n ts value is is_given) rest = ap (λ kd. begins (Some kd)) is
begun (grammar.store n o c xs ts index value is is_o is_index is_c is_given) rest = ap (λ kd. begins (Some kd)) is
begun (grammar.emit t o c z ts value is is_o is_value is_c is_z) rest = ap (λ kd. begins (Some kd)) is
begun (grammar.give t z ts value is is_value is_z) rest = ap (λ kd. begins (Some kd)) is
begun (grammar.transition t o n c z is is_o is_n is_c is_z) rest = ap (λ kd. begins (Some kd)) is
begun (grammar.choice xs ys a arms last is_arm is_rest) rest = arm_begun ys is_arm rest
  where
    arm_begun : {xs : List Token} {a : Tested} (ys : List Token) → IsArm xs a → (rest : List Token) → begins (kind_of ((xs ++ ys) ++ rest)) ≡ true
    arm_begun ys (grammar.arm i o c ts bs condition body is is_o is_condition is_c is_body) rest = ap (λ kd. begins (Some kd)) is
begun (grammar.loop f o n q a y m l b z w p c ts body is is_o is_n is_q is_a is_y is_m is_l is_b is_z is_w is_p is_c is_body) rest =
    ap (λ kd. begins (Some kd)) is

not_else : {ys : List Token} {all : List Statement} → IsStatements ys all → (rest : List Token) → is_else (kind_of rest) ≡ false
    → is_else (kind_of (ys ++ rest)) ≡ false
not_else grammar.none rest h = h
not_else (grammar.more xs ys x all is is_rest) rest h =
    begun_not_else (kind_of ((xs ++ ys) ++ rest)) (ap (λ ts. begins (kind_of ts)) (append_assoc xs ys rest) ∙ begun is (ys ++ rest))

arm_first : {xs : List Token} {a : Tested} → IsArm xs a → (ys rest : List Token) → kind_of ((xs ++ ys) ++ rest) ≡ Some k.If
arm_first (grammar.arm i o c ts bs condition body is is_o is_condition is_c is_body) ys rest = ap Some is

block_first : {xs : List Token} {all : Block} → IsBlock xs all → (rest : List Token) → kind_of (xs ++ rest) ≡ Some k.OpenBrace
block_first (grammar.block o c ts all is_o is is_c) rest = ap Some is_o

statement_is : (ts : List Token) (kind : Option Kind) → kind_of ts ≡ kind → statement block ts ≡ statement_by block kind ts
unfolding statement
statement_is ts kind h = ap (λ kd. statement_by block kd ts) h

given_first : {ts : List Token} {value : Expression} → IsGiven ts value → (rest : List Token) → kind_of (ts ++ rest) ≡ Some k.Assign
given_first (grammar.given q z ts value is_q is_value is_z) rest = ap Some is_q

reads_given : {ts : List Token} {value : Expression} → IsGiven ts value → (rest : List Token) → given (ts ++ rest) ≡ done value rest
unfolding given
reads_given (grammar.given q z ts value is_q is_value is_z) rest =
    ap (λ x. given (q ∷ x)) (append_assoc ts (z ∷ []) rest) ∙ takes k.Assign q (ts ++ z ∷ rest) _ is_q
    ∙ goes (expression (ts ++ z ∷ rest)) value (z ∷ rest) _ (reads_to ts rest value z k.Semicolon is_value is_z refl) ∙ takes k.Semicolon z rest _ is_z

mutual
  unfolding declared assigned emitted returned transition choice looped else_turn arm braced statement_turn

  pub reads_statement : {xs : List Token} {x : Statement} → IsStatement xs x → (rest : List Token) → is_else (kind_of rest) ≡ false
      → statement block (xs ++ rest) ≡ done x rest
  reads_statement (grammar.declare t n z of is is_n is_z) rest h =
      statement_is (t ∷ n ∷ z ∷ rest) (Some t.kind) refl ∙ type_statement t.kind of (t ∷ n ∷ z ∷ rest) is ∙ takes_type t of (n ∷ z ∷ rest) _ is
      ∙ takes k.Name n (z ∷ rest) _ is_n ∙ ap (λ kd. declared_by of n (Some kd) (z ∷ rest)) is_z ∙ takes k.Semicolon z rest _ is_z
  reads_statement (grammar.declare_as t n of ts value is is_n is_given) rest h =
      statement_is (t ∷ n ∷ ts ++ rest) (Some t.kind) refl ∙ type_statement t.kind of (t ∷ n ∷ ts ++ rest) is ∙ takes_type t of (n ∷ ts ++ rest) _ is
      ∙ takes k.Name n (ts ++ rest) _ is_n
      ∙ ap (λ kd. declared_by of n kd (ts ++ rest)) (given_first is_given rest) ∙ goes (given (ts ++ rest)) value rest _ (reads_given is_given rest)
  reads_statement (grammar.assign n ts value is is_given) rest h =
      statement_is (n ∷ ts ++ rest) (Some k.Name) (ap Some is) ∙ takes k.Name n (ts ++ rest) _ is
      ∙ ap (λ kd. assigned_by n kd (ts ++ rest)) (given_first is_given rest) ∙ goes (given (ts ++ rest)) value rest _ (reads_given is_given rest)
  reads_statement (grammar.store n o c xs ts index value is is_o is_index is_c is_given) rest h =
      ap (λ x. statement block (n ∷ o ∷ x)) (append_assoc xs (c ∷ ts) rest) ∙ statement_is (n ∷ o ∷ xs ++ (c ∷ ts ++ rest)) (Some k.Name) (ap Some is)
      ∙ takes k.Name n _ _ is ∙ ap (λ kd. assigned_by n (Some kd) (o ∷ xs ++ (c ∷ ts ++ rest))) is_o ∙ takes k.OpenSquare o _ _ is_o
      ∙ goes (expression (xs ++ (c ∷ ts ++ rest))) index (c ∷ ts ++ rest) _ (reads_to xs (ts ++ rest) index c k.CloseSquare is_index is_c refl)
      ∙ takes k.CloseSquare c (ts ++ rest) _ is_c ∙ goes (given (ts ++ rest)) value rest _ (reads_given is_given rest)
  reads_statement (grammar.emit t o c z ts value is is_o is_value is_c is_z) rest h =
      ap (λ x. statement block (t ∷ o ∷ x)) (append_assoc ts (c ∷ z ∷ []) rest) ∙ statement_is (t ∷ o ∷ ts ++ c ∷ z ∷ rest) (Some k.Emit) (ap Some is)
      ∙ takes k.Emit t (o ∷ ts ++ c ∷ z ∷ rest) _ is ∙ takes k.Open o (ts ++ c ∷ z ∷ rest) _ is_o
      ∙ goes (expression (ts ++ c ∷ z ∷ rest)) value (c ∷ z ∷ rest) _ (reads_to ts (z ∷ rest) value c k.Close is_value is_c refl)
      ∙ takes k.Close c (z ∷ rest) _ is_c ∙ takes k.Semicolon z rest _ is_z
  reads_statement (grammar.give t z ts value is is_value is_z) rest h =
      ap (λ x. statement block (t ∷ x)) (append_assoc ts (z ∷ []) rest) ∙ statement_is (t ∷ ts ++ z ∷ rest) (Some k.Return) (ap Some is)
      ∙ takes k.Return t (ts ++ z ∷ rest) _ is
      ∙ goes (expression (ts ++ z ∷ rest)) value (z ∷ rest) _ (reads_to ts rest value z k.Semicolon is_value is_z refl) ∙ takes k.Semicolon z rest _ is_z
  reads_statement (grammar.transition t o n c z is is_o is_n is_c is_z) rest h =
      statement_is (t ∷ o ∷ n ∷ c ∷ z ∷ rest) (Some k.TransitionTo) (ap Some is) ∙ takes k.TransitionTo t (o ∷ n ∷ c ∷ z ∷ rest) _ is
      ∙ takes k.Open o (n ∷ c ∷ z ∷ rest) _ is_o ∙ takes k.Name n (c ∷ z ∷ rest) _ is_n ∙ takes k.Close c (z ∷ rest) _ is_c ∙ takes k.Semicolon z rest _ is_z
  reads_statement (grammar.choice xs ys a arms last is_arm is_rest) rest h =
      statement_is ((xs ++ ys) ++ rest) (Some k.If) (arm_first is_arm ys rest) ∙ ap (choice block) (append_assoc xs ys rest)
      ∙ goes (arm block (xs ++ (ys ++ rest))) a (ys ++ rest) _ (reads_arm is_arm (ys ++ rest))
      ∙ goes (elses block (a ∷ []) (ys ++ rest)) (a ∷ arms, last) rest _ (reads_elses is_rest (a ∷ []) rest h)
  reads_statement (grammar.loop f o n q a y m l b z w p c ts body is is_o is_n is_q is_a is_y is_m is_l is_b is_z is_w is_p is_c is_body) rest h =
      statement_is (f ∷ o ∷ n ∷ q ∷ a ∷ y ∷ m ∷ l ∷ b ∷ z ∷ w ∷ p ∷ c ∷ ts ++ rest) (Some k.For) (ap Some is) ∙ takes k.For f _ _ is
      ∙ takes k.Open o _ _ is_o ∙ takes k.Name n _ _ is_n ∙ takes k.Assign q _ _ is_q ∙ takes k.Number a _ _ is_a ∙ takes k.Semicolon y _ _ is_y
      ∙ takes k.Name m _ _ is_m ∙ takes k.Less l _ _ is_l ∙ takes k.Number b _ _ is_b ∙ takes k.Semicolon z _ _ is_z ∙ takes k.Name w _ _ is_w
      ∙ takes k.PlusPlus p _ _ is_p ∙ takes k.Close c (ts ++ rest) _ is_c
      ∙ goes (block (ts ++ rest)) body rest _ (reads_block is_body rest)

  pub reads_elses : {ys : List Token} {arms : List Tested} {last : Option Block} → IsElses ys arms last → (found : List Tested) (rest : List Token)
      → is_else (kind_of rest) ≡ false
      → elses block found (ys ++ rest) ≡ done (found ++ arms, last) rest
  reads_elses grammar.nothing found rest h = elses_is found rest ∙ goes (else_turn block found rest) (over (found, None)) rest _
      (else_ends found (kind_of rest) rest h) ∙ ap (λ x. done (x, None) rest) (sym (append-nil found))
  reads_elses (grammar.last t ts body is is_body) found rest h =
      elses_is found (t ∷ ts ++ rest) ∙ goes (else_turn block found (t ∷ ts ++ rest)) (over (found, Some body)) rest (turned (elses block))
      (ap (λ kd. else_by block found (Some kd) (t ∷ ts ++ rest)) is ∙ takes k.Else t (ts ++ rest) _ is
      ∙ after_block found (kind_of (ts ++ rest)) (ts ++ rest) (block_first is_body rest) ∙ goes (block (ts ++ rest)) body rest _ (reads_block is_body rest))
      ∙ ap (λ x. done (x, Some body) rest) (sym (append-nil found))
  reads_elses (grammar.another t xs ys a arms last is is_arm is_rest) found rest h =
      ap (λ x. elses block found (t ∷ x)) (append_assoc xs ys rest)
      ∙ another_arm found a t (t ∷ xs ++ (ys ++ rest)) (xs ++ (ys ++ rest)) (ys ++ rest) (ap Some is) (takes_one k.Else t (xs ++ (ys ++ rest)) is)
      (sym (ap kind_of (append_assoc xs ys rest)) ∙ arm_first is_arm ys rest) (reads_arm is_arm (ys ++ rest))
      ∙ reads_elses is_rest (found ++ a ∷ []) rest h ∙ ap (λ x. done (x, last) rest) (append_assoc found (a ∷ []) arms)

  pub reads_arm : {xs : List Token} {a : Tested} → IsArm xs a → (rest : List Token) → arm block (xs ++ rest) ≡ done a rest
  reads_arm (grammar.arm i o c ts bs condition body is is_o is_condition is_c is_body) rest =
      ap (λ x. arm block (i ∷ o ∷ x)) (append_assoc ts (c ∷ bs) rest) ∙ takes k.If i _ _ is ∙ takes k.Open o _ _ is_o
      ∙ goes (expression (ts ++ (c ∷ bs ++ rest))) condition (c ∷ bs ++ rest) _ (reads_to ts (bs ++ rest) condition c k.Close is_condition is_c refl)
      ∙ takes k.Close c (bs ++ rest) _ is_c ∙ goes (block (bs ++ rest)) body rest _ (reads_block is_body rest)

  pub reads_block : {xs : List Token} {all : Block} → IsBlock xs all → (rest : List Token) → block (xs ++ rest) ≡ done all rest
  reads_block (grammar.block o c ts all is_o is is_c) rest =
      ap (λ x. block (o ∷ x)) (append_assoc ts (c ∷ []) rest) ∙ block_is (o ∷ ts ++ c ∷ rest) ∙ takes k.OpenBrace o (ts ++ c ∷ rest) _ is_o
      ∙ goes (statements block [] (ts ++ c ∷ rest)) all (c ∷ rest) _
      (reads_statements is [] (c ∷ rest) (ap (λ kd. begins (Some kd)) is_c) (ap (λ kd. is_else (Some kd)) is_c)) ∙ takes k.CloseBrace c rest _ is_c

  pub reads_statements : {ys : List Token} {all : List Statement} → IsStatements ys all → (found : List Statement) (rest : List Token)
      → begins (kind_of rest) ≡ false → is_else (kind_of rest) ≡ false
      → statements block found (ys ++ rest) ≡ done (found ++ all) rest
  reads_statements grammar.none found rest h h2 =
      statements_is found rest ∙ goes (statement_turn block found rest) (over found) rest (turned (statements block))
      (ap (λ b. statement_if block found b rest) h) ∙ ap (λ x. done x rest) (sym (append-nil found))
  reads_statements (grammar.more xs ys x all is is_rest) found rest h h2 =
      ap (statements block found) (append_assoc xs ys rest)
      ∙ another_statement found x (xs ++ (ys ++ rest)) (ys ++ rest) (begun is (ys ++ rest)) (reads_statement is (ys ++ rest) (not_else is_rest rest h2))
      ∙ reads_statements is_rest (found ++ x ∷ []) rest h h2 ∙ ap (λ y. done y rest) (append_assoc found (x ∷ []) all)
