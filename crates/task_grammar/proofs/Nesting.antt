-- How deep brackets nest, and how long rows are.
use Rattle.std.proofs.Common.{◌≡◌, ℕ, ◌+◌, ◌-◌, ◌≤◌, Bool, true, false, cond, List, [], ◌∷◌, ◌++◌, drop, refl, ap, sym, arith, Option, Some, None}
use Rattle.std.specs.Prelude.{IfSome}
use Rattle.task_lex.specs.declared.token.Token.{Token}
use Rattle.task_lex.specs.declared.token.Kind.{Kind}
use Rattle.task_lex.specs.declared.token.Kind.TheVariants as k
use Rattle.task_lex.specs.Lex.{is_opening, is_closing, is_end, depth_after, width_after}
use Rattle.task_lex.specs.Spans.{IsBounded}
use Rattle.task_ast.specs.declared.UnaryOperator.{UnaryOperator}
use Rattle.task_ast.specs.declared.WordType.{WordType}
use Rattle.task_grammar.specs.declared.operators.Infix.{Infix}
use Rattle.task_grammar.specs.Grammar.{prefix_of, type_of}
use Rattle.task_grammar.specs.Reading.{kind_of, meaning}
use Rattle.task_grammar.specs.Expressions.{infix_at}
use Rattle.task_grammar.specs.Nesting.{nesting_by, nesting, row_by, row_length, NestingIsBounded}

pub nesting_of : (t : Token) (ts : List Token) (kind : Kind) → t.kind ≡ kind → nesting (t ∷ ts) ≡ nesting_by kind (nesting ts)
unfolding nesting
nesting_of t ts kind h = ap (λ kd. nesting_by kd (nesting ts)) h

pub row_of : (t : Token) (ts : List Token) (kind : Kind) → t.kind ≡ kind → row_length (t ∷ ts) ≡ row_by kind (row_length ts)
unfolding row_length
row_of t ts kind h = ap (λ kd. row_by kd (row_length ts)) h

-- a token that is neither a bracket nor the end of a row
abbrev pub IsPlain : Kind → Type 0
IsPlain kind = (n : ℕ) → (nesting_by kind n ≡ n) × (row_by kind n ≡ n + 1)

prefix_plain : (kind : Kind) (op : UnaryOperator) → prefix_of kind ≡ Some op → IsPlain kind
prefix_plain k.Minus op h n = (refl, refl)
prefix_plain k.Tilde op h n = (refl, refl)
prefix_plain k.Bang op h n = (refl, refl)
prefix_plain _ op h n = absurd (cc)

type_plain : (kind : Kind) (of : WordType) → type_of kind ≡ Some of → IsPlain kind
type_plain k.Unsigned of h n = (refl, refl)
type_plain k.Int of h n = (refl, refl)
type_plain _ of h n = absurd (cc)

infix_plain : (j : ℕ) (kind : Kind) (op : Infix) → infix_at j kind ≡ Some op → IsPlain kind
unfolding infix_at
infix_plain j k.Open op h n = absurd (cc)
infix_plain j k.Close op h n = absurd (cc)
infix_plain j k.OpenSquare op h n = absurd (cc)
infix_plain j k.CloseSquare op h n = absurd (cc)
infix_plain j k.OpenBrace op h n = absurd (cc)
infix_plain j k.CloseBrace op h n = absurd (cc)
infix_plain j k.Semicolon op h n = absurd (cc)
infix_plain j _ op h n = (refl, refl)

module _ {B : Type 0} (f : Kind → Option B) (plain : (kind : Kind) (b : B) → f kind ≡ Some b → IsPlain kind) where
  nests_behind : (ts : List Token) (o : Option B) → o ≡ meaning f (kind_of ts) → IfSome o (λ b. nesting (drop 1 ts) ≡ nesting ts)
  unfolding nesting
  nests_behind ts None h = tt
  nests_behind [] (Some b) h = absurd (cc)
  nests_behind (t ∷ ts) (Some b) h = sym (plain t.kind b (sym h) (nesting ts)).0

  row_behind : (ts : List Token) (o : Option B) → o ≡ meaning f (kind_of ts) → IfSome o (λ b. row_length ts ≡ row_length (drop 1 ts) + 1)
  unfolding row_length
  row_behind ts None h = tt
  row_behind [] (Some b) h = absurd (cc)
  row_behind (t ∷ ts) (Some b) h = (plain t.kind b (sym h) (row_length ts)).1

pub nests_behind_prefix : (ts : List Token) (o : Option UnaryOperator) → o ≡ meaning prefix_of (kind_of ts) → IfSome o (λ op. nesting (drop 1 ts) ≡ nesting ts)
nests_behind_prefix = nests_behind prefix_of prefix_plain

pub row_behind_prefix : (ts : List Token) (o : Option UnaryOperator) → o ≡ meaning prefix_of (kind_of ts)
    → IfSome o (λ op. row_length ts ≡ row_length (drop 1 ts) + 1)
row_behind_prefix = row_behind prefix_of prefix_plain

pub nests_behind_type : (ts : List Token) (o : Option WordType) → o ≡ meaning type_of (kind_of ts) → IfSome o (λ of. nesting (drop 1 ts) ≡ nesting ts)
nests_behind_type = nests_behind type_of type_plain

pub nests_behind_infix : (j : ℕ) (ts : List Token) (o : Option Infix) → o ≡ meaning (infix_at j) (kind_of ts)
    → IfSome o (λ op. nesting (drop 1 ts) ≡ nesting ts)
nests_behind_infix j = nests_behind (infix_at j) (infix_plain j)

pub row_behind_infix : (j : ℕ) (ts : List Token) (o : Option Infix) → o ≡ meaning (infix_at j) (kind_of ts)
    → IfSome o (λ op. row_length ts ≡ row_length (drop 1 ts) + 1)
row_behind_infix j = row_behind (infix_at j) (infix_plain j)

-- ---- bounded tokens

nested : (depth width : ℕ) (ts : List Token) → depth ≤ 64 → IsBounded depth width ts → depth + nesting ts ≤ 64
unfolding nesting
nested depth width [] le h = omega arith
nested depth width (t ∷ ts) le h = go (is_opening t.kind) (is_closing t.kind) (nested (depth_after t.kind depth) (width_after t.kind width) ts h.0 h.2)
  where
    go : (opens closes : Bool) → cond opens (depth + 1) (cond closes (depth - 1) depth) + nesting ts ≤ 64
        → depth + cond opens (nesting ts + 1) (cond closes (nesting ts - 1) (nesting ts)) ≤ 64
    go true closes more = omega arith
    go false true more = omega arith
    go false false more = more

rowed : (depth width : ℕ) (ts : List Token) → width ≤ 256 → IsBounded depth width ts → width + row_length ts ≤ 256
unfolding row_length
rowed depth width [] le h = omega arith
rowed depth width (t ∷ ts) le h = go (is_end t.kind) (rowed (depth_after t.kind depth) (width_after t.kind width) ts h.1 h.2)
  where
    go : (ends : Bool) → cond ends 0 (width + 1) + row_length ts ≤ 256 → width + cond ends 0 (row_length ts + 1) ≤ 256
    go true more = omega arith
    go false more = omega arith

brackets : (depth width : ℕ) (front rest : List Token) → depth ≤ 64 → IsBounded depth width (front ++ rest) → nesting rest ≤ 64
brackets depth width [] rest le h = let all = nested depth width rest le h in omega arith
brackets depth width (t ∷ front) rest le h = brackets (depth_after t.kind depth) (width_after t.kind width) front rest h.0 h.2

rows : (depth width : ℕ) (front rest : List Token) → width ≤ 256 → IsBounded depth width (front ++ rest) → row_length rest ≤ 256
rows depth width [] rest le h = let all = rowed depth width rest le h in omega arith
rows depth width (t ∷ front) rest le h = rows (depth_after t.kind depth) (width_after t.kind width) front rest h.1 h.2

pub nesting_is_bounded : NestingIsBounded
nesting_is_bounded = record {
  brackets = λ front rest h. brackets 0 0 front rest (omega arith) h;
  rows = λ front rest h. rows 0 0 front rest (omega arith) h;
}
