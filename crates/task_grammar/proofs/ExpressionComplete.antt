-- What the grammar relates is read.
use Rattle.std.proofs.Common.{◌≡◌, ℕ, zero, suc, ◌<◌, ◌≤◌, Bool, true, false, cond, ◌==◌, List, [], ◌∷◌, ◌++◌, Option, Some, None, refl, ap, ◌∙◌, arith}
use Rattle.std.proofs.Common.{append_assoc}
use denote.Enum.Bare.{true_same}
use Rattle.task_lex.specs.contracts.token.Kind.{the_type}
use Rattle.task_lex.specs.declared.token.Token.{Token}
use Rattle.task_lex.specs.declared.token.Kind.{Kind}
use Rattle.task_lex.specs.declared.token.Kind.TheVariants as k
use Rattle.task_ast.specs.declared.UnaryOperator.{UnaryOperator}
use Rattle.task_grammar.specs.declared.operators.Infix.{Infix}
use Rattle.task_grammar.specs.declared.operators.Infix.TheVariants.{Binary, Shift, ShortCircuit}
use Rattle.task_grammar.specs.Parsed.{Expression, Values}
use Rattle.task_ast.specs.Tree as node
use Rattle.task_grammar.specs.Grammar.{prefix_of, infix_of, weakest, placed, long_worth, literal_of, IsExpression, IsValues, IsMoreValues, number}
use Rattle.task_grammar.specs.Grammar.{long_number, name, element, sense}
use Rattle.task_grammar.specs.Grammar as grammar
use Rattle.task_grammar.specs.Grammar.{next_event, call, brackets, prefixed, tighter}
use Rattle.task_grammar.specs.Grammar.{joined, short_circuited, shifted}
use Rattle.task_grammar.specs.Expressions as reading
use Rattle.task_grammar.specs.Reading.{done, fault, Parser, ◌>>=◌, and_then, pure, kind_of, place_of, same_kind, token, chosen, meaning, again, over, turned}
use Rattle.task_grammar.specs.Expressions.{of_precedence, infix_at, joined_with, climb_on, climb_turn, climb, up_to, more_by, more_values, values_by, values}
use Rattle.task_grammar.specs.Expressions.{named_by, named, bracketed, primary_by}
use Rattle.task_grammar.specs.Expressions.{primary}
use Rattle.task_grammar.specs.Expressions.{unary, expression}
use Rattle.task_grammar.proofs.ExpressionSame.{unary_is, climb_suc, more_values_is}

pub takes_one : (kind : Kind) (t : Token) (ts : List Token) → t.kind ≡ kind → token kind (t ∷ ts) ≡ done t ts
unfolding token same_kind
takes_one kind t ts is = ap (λ b. cond b (done t ts) (fault (t ∷ ts))) (true_same the_type t.kind kind is)

pub takes : {A : Type 0} (kind : Kind) (t : Token) (ts : List Token) (f : Token → Parser A) → t.kind ≡ kind → and_then (token kind (t ∷ ts)) f ≡ f t ts
takes kind t ts f is = ap (λ o. and_then o f) (takes_one kind t ts is)

-- The precedence that an expression would have to go beyond to take the token: 0 for an opening bracket, which ends nothing.
abbrev pub reach_of : Option (ℕ × Infix) → ℕ
reach_of None = suc weakest
reach_of (Some p) = p.0

abbrev pub reach_by : Kind → ℕ
reach_by k.OpenSquare = 0
reach_by k.Open = 0
reach_by kind = reach_of (infix_of kind)

abbrev pub reach : Option Kind → ℕ
reach None = suc weakest
reach (Some kind) = reach_by kind

reach-infix : (kind : Kind) (p : ℕ × Infix) → infix_of kind ≡ Some p → reach_by kind ≡ p.0
reach-infix k.OpenSquare p h = absurd (cc)
reach-infix k.Open p h = absurd (cc)
reach-infix kind p h = ap reach_of h

none_at : (j : ℕ) (o : Option (ℕ × Infix)) → j < reach_of o → of_precedence j o ≡ None
none_at j None h = refl
none_at j (Some p) h = let other : (p.0 == j) ≡ false = grind arith in ap (λ b. cond b (Some p.1) None) other

none_by : (j : ℕ) (kind : Kind) → j < reach_by kind → infix_at j kind ≡ None
unfolding infix_at
none_by j k.OpenSquare h = refl
none_by j k.Open h = refl
none_by j kind h = none_at j (infix_of kind) h

none_past : (j : ℕ) (next : Option Kind) → j < reach next → meaning (infix_at j) next ≡ None
none_past j None h = refl
none_past j (Some kind) h = none_by j kind h

some_at : (j : ℕ) (kind : Kind) (op : Infix) → infix_of kind ≡ Some (j, op) → infix_at j kind ≡ Some op
unfolding infix_at
some_at j kind op h = let same : (j == j) ≡ true = grind arith in ap (of_precedence j) h ∙ ap (λ b. cond b (Some op) None) same

climb_ends : (j : ℕ) (left : Expression) (rest : List Token) → suc j < reach (kind_of rest) → climb (up_to unary j) (suc j) left rest ≡ done left rest
unfolding climb_turn
climb_ends j left rest h =
    climb_suc j left rest ∙ ap (λ o. and_then (chosen o (climb_on (up_to unary j) left (place_of rest)) (pure (over left)) rest)
    (turned (climb (up_to unary j) (suc j)))) (none_past (suc j) (kind_of rest) h)

climb_goes : (j : ℕ) (left whole : Expression) (t : Token) (op : Infix) (ts rest : List Token) → infix_of t.kind ≡ Some (suc j, op)
    → joined_with (up_to unary j) left t.span op ts ≡ done whole rest
    → climb (up_to unary j) (suc j) left (t ∷ ts) ≡ climb (up_to unary j) (suc j) whole rest
unfolding climb_turn
climb_goes j left whole t op ts rest is h =
    climb_suc j left (t ∷ ts)
    ∙ ap (λ o. and_then (chosen o (climb_on (up_to unary j) left t.span) (pure (over left)) (t ∷ ts))
    (turned (climb (up_to unary j) (suc j)))) (some_at (suc j) t.kind op is)
    ∙ ap (λ o. and_then (and_then o (λ whole. pure (again whole))) (turned (climb (up_to unary j) (suc j)))) h

module _ (x p : Parser Expression) where
  primary_is : (kind : Kind) (ts : List Token) → kind_of ts ≡ Some kind → prefix_of kind ≡ None → reading.prefixed x p ts ≡ primary_by x (Some kind) ts
  unfolding reading.prefixed primary
  primary_is kind ts is plain =
      ap (λ o. chosen o (λ op. p >>= λ inner. pure (node.unary op inner)) (primary x) ts) (ap (meaning prefix_of) is ∙ plain) ∙ ap (λ kd. primary_by x kd ts) is

  reads_number : (t : Token) (rest : List Token) → t.kind ≡ k.Number → reading.prefixed x p (t ∷ rest) ≡ done (node.number t.value) rest
  unfolding reading.number
  reads_number t rest is = primary_is k.Number (t ∷ rest) (ap Some is) refl ∙ takes k.Number t rest _ is

  reads_long_number : (t : Token) (rest : List Token) → t.kind ≡ k.LongNumber
      → reading.prefixed x p (t ∷ rest) ≡ done (node.long_number (long_worth t)) rest
  unfolding reading.long_number
  reads_long_number t rest is = primary_is k.LongNumber (t ∷ rest) (ap Some is) refl ∙ takes k.LongNumber t rest _ is

  name_ends : (t : Token) (kind : Option Kind) (ts : List Token) → 0 < reach kind → named_by x t kind ts ≡ done (node.name t.span) ts
  name_ends t (Some k.OpenSquare) ts h = absurd (omega arith)
  name_ends t (Some k.Open) ts h = absurd (omega arith)
  name_ends t _ ts h = refl

  reads_name : (t : Token) (rest : List Token) → t.kind ≡ k.Name → 0 < reach (kind_of rest) → reading.prefixed x p (t ∷ rest) ≡ done (node.name t.span) rest
  unfolding named
  reads_name t rest is ends = primary_is k.Name (t ∷ rest) (ap Some is) refl ∙ takes k.Name t rest _ is ∙ name_ends t (kind_of rest) rest ends

  reads_element : (t o c : Token) (ts rest : List Token) (index : Expression) → t.kind ≡ k.Name → o.kind ≡ k.OpenSquare → x ts ≡ done index (c ∷ rest)
      → c.kind ≡ k.CloseSquare
      → reading.prefixed x p (t ∷ o ∷ ts) ≡ done (node.element t.span index) rest
  unfolding named
  reads_element t o c ts rest index is is_o r is_c =
      primary_is k.Name (t ∷ o ∷ ts) (ap Some is) refl ∙ takes k.Name t (o ∷ ts) _ is ∙ ap (λ kd. named_by x t (Some kd) (o ∷ ts)) is_o
      ∙ takes k.OpenSquare o ts _ is_o
      ∙ ap (λ o. and_then o (λ index. token k.CloseSquare >>= λ c. pure (node.element t.span index))) r ∙ takes k.CloseSquare c rest _ is_c

  reads_call : (t o c : Token) (ts rest : List Token) (given : Values) → t.kind ≡ k.Name → o.kind ≡ k.Open → values x ts ≡ done given (c ∷ rest)
      → c.kind ≡ k.Close
      → reading.prefixed x p (t ∷ o ∷ ts) ≡ done (node.call t.span given) rest
  unfolding named
  reads_call t o c ts rest given is is_o r is_c =
      primary_is k.Name (t ∷ o ∷ ts) (ap Some is) refl ∙ takes k.Name t (o ∷ ts) _ is ∙ ap (λ kd. named_by x t (Some kd) (o ∷ ts)) is_o
      ∙ takes k.Open o ts _ is_o
      ∙ ap (λ o. and_then o (λ given. token k.Close >>= λ c. pure (node.call t.span given))) r ∙ takes k.Close c rest _ is_c

  reads_sense : (s o c : Token) (rest : List Token) → s.kind ≡ k.Sense → o.kind ≡ k.Open → c.kind ≡ k.Close
      → reading.prefixed x p (s ∷ o ∷ c ∷ rest) ≡ done node.sense rest
  unfolding reading.sense
  reads_sense s o c rest is is_o is_c = primary_is k.Sense (s ∷ o ∷ c ∷ rest) (ap Some is) refl ∙ takes k.Sense s (o ∷ c ∷ rest) _ is
      ∙ takes k.Open o (c ∷ rest) _ is_o ∙ takes k.Close c rest _ is_c

  reads_next_event : (e o c : Token) (rest : List Token) → e.kind ≡ k.NextEvent → o.kind ≡ k.Open → c.kind ≡ k.Close
      → reading.prefixed x p (e ∷ o ∷ c ∷ rest) ≡ done node.next_event rest
  unfolding reading.next_event
  reads_next_event e o c rest is is_o is_c = primary_is k.NextEvent (e ∷ o ∷ c ∷ rest) (ap Some is) refl ∙ takes k.NextEvent e (o ∷ c ∷ rest) _ is
      ∙ takes k.Open o (c ∷ rest) _ is_o ∙ takes k.Close c rest _ is_c

  reads_brackets : (o c : Token) (ts rest : List Token) (inner : Expression) → o.kind ≡ k.Open → x ts ≡ done inner (c ∷ rest) → c.kind ≡ k.Close
      → reading.prefixed x p (o ∷ ts) ≡ done inner rest
  unfolding bracketed
  reads_brackets o c ts rest inner is_o r is_c =
      primary_is k.Open (o ∷ ts) (ap Some is_o) refl ∙ takes k.Open o ts _ is_o ∙ ap (λ o. and_then o (λ inner. token k.Close >>= λ c. pure inner)) r
      ∙ takes k.Close c rest _ is_c

  reads_prefixed : (t : Token) (op : UnaryOperator) (ts rest : List Token) (inner : Expression) → prefix_of t.kind ≡ Some op → p ts ≡ done inner rest
      → reading.prefixed x p (t ∷ ts) ≡ done (node.unary op inner) rest
  unfolding reading.prefixed
  reads_prefixed t op ts rest inner is r =
      ap (λ o. chosen o (λ op. p >>= λ inner. pure (node.unary op inner)) (primary x) (t ∷ ts)) is
      ∙ ap (λ o. and_then o (λ inner. pure (node.unary op inner))) r

-- ---- the whole

abbrev pub Reads : ℕ → List Token → Expression → Type 0
Reads zero used tree = (rest : List Token) → 0 < reach (kind_of rest) → unary (used ++ rest) ≡ done tree rest
Reads (suc j) used tree = (rest : List Token) → suc j ≤ reach (kind_of rest) → up_to unary (suc j) (used ++ rest) ≡ climb (up_to unary j) (suc j) tree rest

-- with nothing left to take
ends : (j : ℕ) (used : List Token) (tree : Expression) → Reads j used tree → (rest : List Token) → j < reach (kind_of rest)
    → up_to unary j (used ++ rest) ≡ done tree rest
unfolding up_to
ends zero used tree r rest h = r rest h
ends (suc j) used tree r rest h = r rest (omega arith) ∙ climb_ends j tree rest h

reads_tighter : (j : ℕ) (used : List Token) (tree : Expression) → Reads j used tree → Reads (suc j) used tree
unfolding up_to
reads_tighter j used tree r rest h = ap (λ o. and_then o (climb (up_to unary j) (suc j))) (ends j used tree r rest (omega arith))

reads_joined : (j : ℕ) (t : Token) (op : Infix) (xs ys : List Token) (a whole : Expression) → Reads (suc j) xs a → infix_of t.kind ≡ Some (suc j, op)
    → ((rest : List Token) → j < reach (kind_of rest) → joined_with (up_to unary j) a t.span op (ys ++ rest) ≡ done whole rest)
    → Reads (suc j) (xs ++ t ∷ ys) whole
reads_joined j t op xs ys a whole left is right rest h =
    ap (up_to unary (suc j)) (append_assoc xs (t ∷ ys) rest) ∙ left (t ∷ ys ++ rest) (let e = reach-infix t.kind (suc j, op) is in omega arith)
    ∙ climb_goes j a whole t op (ys ++ rest) rest is (right rest (omega arith))

pub closing : (c : Token) (kind : Kind) → c.kind ≡ kind → reach_by kind ≡ suc weakest → weakest < reach (Some c.kind)
closing c kind is far = let e : reach (Some c.kind) ≡ suc weakest = ap reach_by is ∙ far in omega arith

-- an expression and the token that ends it
inside : (ts : List Token) (tree : Expression) (c : Token) (kind : Kind) → Reads weakest ts tree → c.kind ≡ kind → reach_by kind ≡ suc weakest
    → (rest : List Token) → expression (ts ++ c ∷ rest) ≡ done tree (c ∷ rest)
inside ts tree c kind r is far rest = ends weakest ts tree r (c ∷ rest) (closing c kind is far)

-- ---- the values of a call

abbrev pub is_close : Option Kind → Bool
is_close (Some k.Close) = true
is_close _ = false

prefix_no_close : (kind : Kind) (op : UnaryOperator) → prefix_of kind ≡ Some op → is_close (Some kind) ≡ false
prefix_no_close k.Close op h = absurd (cc)
prefix_no_close _ op h = refl

-- no expression begins with a closing bracket
begins_open : {j : ℕ} {used : List Token} {tree : Expression} → IsExpression j used tree → (rest : List Token) → is_close (kind_of (used ++ rest)) ≡ false
begins_open (number t is) rest = ap (λ kd. is_close (Some kd)) is
begins_open (long_number t is) rest = ap (λ kd. is_close (Some kd)) is
begins_open (name t is) rest = ap (λ kd. is_close (Some kd)) is
begins_open (element t o c ts index is is_o r is_c) rest = ap (λ kd. is_close (Some kd)) is
begins_open (sense s o c is is_o is_c) rest = ap (λ kd. is_close (Some kd)) is
begins_open (next_event e o c is is_o is_c) rest = ap (λ kd. is_close (Some kd)) is
begins_open (call t o c ts given is is_o r is_c) rest = ap (λ kd. is_close (Some kd)) is
begins_open (brackets o c ts inner is_o r is_c) rest = ap (λ kd. is_close (Some kd)) is_o
begins_open (prefixed t op ts inner is r) rest = prefix_no_close t.kind op is
begins_open (tighter j ts inner r) rest = begins_open r rest
begins_open (joined j t op xs ys a b left is right) rest = ap (λ ts. is_close (kind_of ts)) (append_assoc xs (t ∷ ys) rest) ∙ begins_open left (t ∷ ys ++ rest)
begins_open (short_circuited j t op xs ys a b left is right) rest =
    ap (λ ts. is_close (kind_of ts)) (append_assoc xs (t ∷ ys) rest) ∙ begins_open left (t ∷ ys ++ rest)
begins_open (shifted j t n op xs a left is is_n) rest =
    ap (λ ts. is_close (kind_of ts)) (append_assoc xs (t ∷ n ∷ []) rest) ∙ begins_open left (t ∷ n ∷ rest)

values_open : (kind : Option Kind) (ts : List Token) → is_close kind ≡ false
    → values_by expression kind ts ≡ and_then (expression ts) (λ first. more_values expression >>= λ more. pure (node.value first more))
values_open (Some k.Close) ts h = absurd (cc)
values_open _ ts h = refl

-- what stands behind a value ends it
more_ends : {ys : List Token} {more : Values} → IsMoreValues ys more → (c : Token) (rest : List Token) → c.kind ≡ k.Close
    → weakest < reach (kind_of (ys ++ c ∷ rest))
more_ends grammar.no_more c rest is_c = closing c k.Close is_c refl
more_ends (grammar.another_value t xs ys next more is is_next are_more) c rest is_c = closing t k.Comma is refl

mutual
  unfolding values

  pub reads : {j : ℕ} {used : List Token} {tree : Expression} → IsExpression j used tree → Reads j used tree
  reads (number t is) = λ rest end. unary_is (t ∷ rest) ∙ reads_number expression unary t rest is
  reads (long_number t is) = λ rest end. unary_is (t ∷ rest) ∙ reads_long_number expression unary t rest is
  reads (name t is) = λ rest end. unary_is (t ∷ rest) ∙ reads_name expression unary t rest is end
  reads (element t o c ts index is is_o r is_c) = λ rest end. ap (λ x. unary (t ∷ o ∷ x)) (append_assoc ts (c ∷ []) rest) ∙ unary_is (t ∷ o ∷ ts ++ c ∷ rest)
      ∙ reads_element expression unary t o c (ts ++ c ∷ rest) rest index is is_o (inside ts index c k.CloseSquare (reads r) is_c refl rest) is_c
  reads (call t o c ts given is is_o r is_c) = λ rest end. ap (λ x. unary (t ∷ o ∷ x)) (append_assoc ts (c ∷ []) rest) ∙ unary_is (t ∷ o ∷ ts ++ c ∷ rest)
      ∙ reads_call expression unary t o c (ts ++ c ∷ rest) rest given is is_o (reads_values r c rest is_c) is_c
  reads (sense s o c is is_o is_c) = λ rest end. unary_is (s ∷ o ∷ c ∷ rest) ∙ reads_sense expression unary s o c rest is is_o is_c
  reads (next_event e o c is is_o is_c) = λ rest end. unary_is (e ∷ o ∷ c ∷ rest) ∙ reads_next_event expression unary e o c rest is is_o is_c
  reads (brackets o c ts inner is_o r is_c) = λ rest end. ap (λ x. unary (o ∷ x)) (append_assoc ts (c ∷ []) rest) ∙ unary_is (o ∷ ts ++ c ∷ rest)
      ∙ reads_brackets expression unary o c (ts ++ c ∷ rest) rest inner is_o (inside ts inner c k.Close (reads r) is_c refl rest) is_c
  reads (prefixed t op ts inner is r) = λ rest end. unary_is (t ∷ ts ++ rest) ∙ reads_prefixed expression unary t op (ts ++ rest) rest inner is
      (reads r rest end)
  reads (tighter j ts inner r) = reads_tighter j ts inner (reads r)
  reads (joined j t op xs ys a b left is right) = reads_joined j t (Binary op) xs ys a (node.binary (placed op t.span) a b) (reads left) is
      (λ rest end. ap (λ o. and_then o (λ right. pure (node.binary (placed op t.span) a right))) (ends j ys b (reads right) rest end))
  reads (short_circuited j t op xs ys a b left is right) =
      reads_joined j t (ShortCircuit op) xs ys a (node.short_circuit op a b) (reads left) is
      (λ rest end. ap (λ o. and_then o (λ right. pure (node.short_circuit op a right))) (ends j ys b (reads right) rest end))
  reads (shifted j t c op xs a left is is_c) = reads_joined j t (Shift op) xs (c ∷ []) a (node.shift op a (literal_of c)) (reads left) is
      (λ rest end. takes k.Number c rest _ is_c)

  pub reads_values : {ts : List Token} {given : Values} → IsValues ts given → (c : Token) (rest : List Token) → c.kind ≡ k.Close
      → values expression (ts ++ c ∷ rest) ≡ done given (c ∷ rest)
  reads_values grammar.no_values c rest is_c = ap (λ kd. values_by expression (Some kd) (c ∷ rest)) is_c
  reads_values (grammar.values xs ys first more is_first are_more) c rest is_c =
      let behind = ys ++ c ∷ rest in
      ap (values expression) (append_assoc xs ys (c ∷ rest)) ∙ values_open (kind_of (xs ++ behind)) (xs ++ behind) (begins_open is_first behind)
      ∙ ap (λ o. and_then o (λ first. more_values expression >>= λ more. pure (node.value first more)))
      (ends weakest xs first (reads is_first) behind (more_ends are_more c rest is_c))
      ∙ ap (λ o. and_then o (λ more. pure (node.value first more))) (reads_more are_more c rest is_c)

  pub reads_more : {ts : List Token} {more : Values} → IsMoreValues ts more → (c : Token) (rest : List Token) → c.kind ≡ k.Close
      → more_values expression (ts ++ c ∷ rest) ≡ done more (c ∷ rest)
  reads_more grammar.no_more c rest is_c = more_values_is (c ∷ rest)
      ∙ ap (λ kd. more_by expression (more_values expression) (Some kd) (c ∷ rest)) is_c
  reads_more (grammar.another_value t xs ys next more is is_next are_more) c rest is_c =
      let behind = ys ++ c ∷ rest in
      ap (λ x. more_values expression (t ∷ x)) (append_assoc xs ys (c ∷ rest)) ∙ more_values_is (t ∷ xs ++ behind)
      ∙ ap (λ kd. more_by expression (more_values expression) (Some kd) (t ∷ xs ++ behind)) is ∙ takes k.Comma t (xs ++ behind) _ is
      ∙ ap (λ o. and_then o (λ next. more_values expression >>= λ more. pure (node.value next more)))
      (ends weakest xs next (reads is_next) behind (more_ends are_more c rest is_c))
      ∙ ap (λ o. and_then o (λ more. pure (node.value next more))) (reads_more are_more c rest is_c)

pub reads_to : (xs rest : List Token) (tree : Expression) (c : Token) (kind : Kind) → IsExpression weakest xs tree → c.kind ≡ kind
    → reach_by kind ≡ suc weakest → expression (xs ++ c ∷ rest) ≡ done tree (c ∷ rest)
reads_to xs rest tree c kind is is_c far = inside xs tree c kind (reads is) is_c far rest
