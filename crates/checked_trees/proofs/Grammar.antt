-- What the grammar reads from sound tokens fits, and what is left of them is sound.
use Rattle.std.proofs.Common.{◌≡◌, ℕ, suc, ◌+◌, ◌*◌, ◌≤◌, true, false, cond, List, [], ◌∷◌, ◌++◌, Option, Some, refl, sym, ap, ◌∙◌, subst, arith}
use Rattle.std.proofs.Common.{append_assoc}
use Rattle.std.specs.Prelude.{All}
use Rattle.std.proofs.lemmas.List.Elements.{All-nil, All-cons}
use Rattle.task_ast.specs.declared.UnaryOperator.{UnaryOperator}
use Rattle.task_ast.specs.declared.WordType.{WordType}
use Rattle.task_ast.specs.declared.WordType.TheVariants.{Unsigned, Int, Long}
use Rattle.task_ast.specs.declared.Extent.{Extent}
use Rattle.task_ast.specs.declared.SharedDeclaration.{SharedDeclaration}
use Rattle.task_ast.specs.Tree as t
use Rattle.task_ast.specs.Tree.{block_of, choice_of}
use Rattle.task_ast.specs.Types.{IsOneWord, is_long}
use Rattle.task_lex.specs.declared.token.Token.{Token}
use Rattle.task_lex.specs.declared.token.Kind.{Kind}
use Rattle.task_lex.specs.declared.token.Kind.TheVariants as k
use Rattle.task_lex.specs.Lex.{is_end, width_after}
use Rattle.task_grammar.specs.declared.operators.Infix.{Infix}
use Rattle.task_grammar.specs.Parsed.{Expression, Values, Statement, Block, Tested, Parameter, Function, Task, Program}
use Rattle.task_grammar.specs.Grammar.{prefix_of, infix_of, weakest, type_of, IsExpression, IsValues, IsMoreValues, IsGiven, IsStatement, IsElses}
use Rattle.task_grammar.specs.Grammar.{IsArm, IsBlock, IsStatements, Row, IsExtent, IsWorth, IsLongExtent, IsShared, IsParameter, IsFurther}
use Rattle.task_grammar.specs.Grammar.{IsParameters, IsFunction, IsTask, IsProgram}
use Rattle.task_grammar.specs.Grammar as grammar
use Rattle.source_values.specs.Runs.{is_long_extent}
use Rattle.checked_trees.specs.WellFormed.{stack_words, values_in, enough, HasItsExtent}
use Rattle.checked_trees.proofs.Fits.{ExpressionFits, ValuesFit, StatementFits, ChoiceFits, BlockFits, FunctionFits}
use Rattle.checked_trees.proofs.Tokens.{AreSound}

-- ---- tokens that end no row

-- a token of the kind ends no row
abbrev InRow : Kind → Type 0
InRow kind = is_end kind ≡ false

prefix_in_row : (kind : Kind) (op : UnaryOperator) → prefix_of kind ≡ Some op → InRow kind
prefix_in_row k.Minus op h = refl
prefix_in_row k.Tilde op h = refl
prefix_in_row k.Bang op h = refl
prefix_in_row _ op h = absurd (cc)

type_in_row : (kind : Kind) (of : WordType) → type_of kind ≡ Some of → InRow kind
type_in_row k.Unsigned of h = refl
type_in_row k.Int of h = refl
type_in_row _ of h = absurd (cc)

infix_in_row : (kind : Kind) (found : ℕ × Infix) → infix_of kind ≡ Some found → InRow kind
infix_in_row k.Semicolon found h = absurd (cc)
infix_in_row k.OpenBrace found h = absurd (cc)
infix_in_row k.CloseBrace found h = absurd (cc)
infix_in_row _ found h = refl

-- the type that a keyword names has one word
type_of_word : (kind : Kind) (of : WordType) → type_of kind ≡ Some of → IsOneWord of
type_of_word kind Long h = absurd (never kind h)
  where
    never : (kind : Kind) → type_of kind ≡ Some Long → ⊥
    never k.Unsigned h = cc
    never k.Int h = cc
    never _ h = cc
type_of_word kind Int h = tt
type_of_word kind Unsigned h = tt

-- behind a token
behind : (w : ℕ) (t : Token) (ts : List Token) (kind : Kind) → t.kind ≡ kind → AreSound w (t ∷ ts) → AreSound (width_after kind w) ts
behind w t ts kind is h = subst (λ kind. AreSound (width_after kind w) ts) is h.2

-- behind one that ends no row
past : (w : ℕ) (t : Token) (ts : List Token) → InRow t.kind → AreSound w (t ∷ ts) → AreSound (w + 1) ts
past w t ts plain h = subst (λ b. AreSound (cond b 0 (w + 1)) ts) plain h.2

-- a row has room for a token
in_row : (w : ℕ) (t : Token) (ts : List Token) → InRow t.kind → AreSound w (t ∷ ts) → w + 1 ≤ 256
in_row w t ts plain h = subst (λ b. cond b 0 (w + 1) ≤ 256) plain h.0

-- tokens, then others, then the rest
apart : (w : ℕ) (xs ys rest : List Token) → AreSound w ((xs ++ ys) ++ rest) → AreSound w (xs ++ (ys ++ rest))
apart w xs ys rest h = subst (AreSound w) (append_assoc xs ys rest) h

-- tokens that are left behind at least so many in a row
record Left (w : ℕ) (ts : List Token) : Type 0 where
  width : ℕ
  later : w ≤ width
  sound : AreSound width ts

left : (w : ℕ) (ts : List Token) → AreSound w ts → Left w ts
left w ts h = record { width = w; later = omega arith; sound = h }

-- behind one more that ends no row
left_past : (v w : ℕ) (t : Token) (ts : List Token) → InRow t.kind → v ≤ w + 1 → Left w (t ∷ ts) → Left v ts
left_past v w t ts plain le h = let later = h.later in record { width = h.width + 1; later = omega (arith, le, later); sound = past h.width t ts plain h.sound }

left_since : (v w : ℕ) (ts : List Token) → v ≤ w → Left w ts → Left v ts
left_since v w ts le h = let later = h.later in record { width = h.width; later = omega (arith, le, later); sound = h.sound }

-- ---- expressions

-- behind so many tokens in a row there is room above so many words
abbrev IsRoomy : ℕ → ℕ → Type 0
IsRoomy w beneath = beneath ≤ 2 * w + 1

-- room for one token more
token_room : (w beneath : ℕ) → IsRoomy w beneath → w + 1 ≤ 256 → 2 + beneath ≤ enough
token_room w beneath l few = omega (arith, l, few)

-- an expression leaves a word, or two
two_needed : (e : Expression) → 2 ≤ stack_words e
two_needed (t.number w) = omega arith
two_needed (t.long_number w) = omega arith
two_needed (t.name x) = omega arith
two_needed (t.element x index) = two_needed index
two_needed t.sense = omega arith
two_needed t.next_event = omega arith
two_needed (t.call f values) = omega arith
two_needed (t.unary op e) = omega arith
two_needed (t.binary op a b) = let few = two_needed a in omega (arith, few)
two_needed (t.shift op e count) = two_needed e
two_needed (t.short_circuit op a b) = let few = two_needed a in omega (arith, few)

mutual
  expression_fits : (j : ℕ) (ts : List Token) (e : Expression) → IsExpression j ts e → (w beneath : ℕ) (rest : List Token) → IsRoomy w beneath
      → AreSound w (ts ++ rest)
      → ExpressionFits beneath e × Left (w + 1) rest
  expression_fits j ts e (grammar.number n is) w beneath rest l h =
      let plain : InRow n.kind = ap is_end is in
      ((h.1.0, token_room w beneath l (in_row w n rest plain h)), left (w + 1) rest (past w n rest plain h))
  expression_fits j ts e (grammar.long_number n is) w beneath rest l h =
      let plain : InRow n.kind = ap is_end is in
      let low = h.1.0 in
      let high = h.1.1 in
      ((omega (arith, low, high), token_room w beneath l (in_row w n rest plain h)), left (w + 1) rest (past w n rest plain h))
  expression_fits j ts e (grammar.name n is) w beneath rest l h =
      let plain : InRow n.kind = ap is_end is in
      ((tt, token_room w beneath l (in_row w n rest plain h)), left (w + 1) rest (past w n rest plain h))
  expression_fits j ts e (grammar.element n o c xs index is_n is_o inner is_c) w beneath rest l h =
      let a = past w n (o ∷ ((xs ++ c ∷ []) ++ rest)) (ap is_end is_n) h in
      let b = apart (w + 1 + 1) xs (c ∷ []) rest (past (w + 1) o ((xs ++ c ∷ []) ++ rest) (ap is_end is_o) a) in
      let i = expression_fits weakest xs index inner (w + 1 + 1) beneath (c ∷ rest) (omega (arith, l)) b in
      (i.0, left_past (w + 1) (w + 1 + 1 + 1) c rest (ap is_end is_c) (omega arith) i.1)
  expression_fits j ts e (grammar.sense s o c is_s is_o is_c) w beneath rest l h =
      let plain : InRow s.kind = ap is_end is_s in
      let a = past w s (o ∷ c ∷ rest) plain h in
      let b = past (w + 1) o (c ∷ rest) (ap is_end is_o) a in (
        (tt, token_room w beneath l (in_row w s (o ∷ c ∷ rest) plain h)),
        left_since (w + 1) (w + 1 + 1 + 1) rest (omega arith) (left (w + 1 + 1 + 1) rest (past (w + 1 + 1) c rest (ap is_end is_c) b)),
      )
  expression_fits j ts e (grammar.next_event n o c is_n is_o is_c) w beneath rest l h =
      let plain : InRow n.kind = ap is_end is_n in
      let a = past w n (o ∷ c ∷ rest) plain h in
      let b = past (w + 1) o (c ∷ rest) (ap is_end is_o) a in (
        (tt, token_room w beneath l (in_row w n (o ∷ c ∷ rest) plain h)),
        left_since (w + 1) (w + 1 + 1 + 1) rest (omega arith) (left (w + 1 + 1 + 1) rest (past (w + 1 + 1) c rest (ap is_end is_c) b)),
      )
  expression_fits j ts e (grammar.call n o c xs values is_n is_o inner is_c) w beneath rest l h =
      let plain : InRow n.kind = ap is_end is_n in
      let a = past w n (o ∷ ((xs ++ c ∷ []) ++ rest)) plain h in
      let b = apart (w + 1 + 1) xs (c ∷ []) rest (past (w + 1) o ((xs ++ c ∷ []) ++ rest) (ap is_end is_o) a) in
      let own = token_room w beneath l (in_row w n (o ∷ ((xs ++ c ∷ []) ++ rest)) plain h) in
      let v = values_fit xs values inner (w + 1 + 1) beneath (c ∷ rest) (omega (arith, l)) (omega (arith, own)) b in
      let room = v.0.1 in
      let later = v.1.later in
      let last = in_row v.1.width c rest (ap is_end is_c) v.1.sound in
      let closing = left_since (w + 1 + 1) (w + 1 + 1 + values_in values) (c ∷ rest) (omega arith) v.1 in (
        ((v.0.0, omega (arith, later, last)), omega (arith, own, room)),
        left_past (w + 1) (w + 1 + 1) c rest (ap is_end is_c) (omega arith) closing,
      )
  expression_fits j ts e (grammar.brackets o c xs inner is_o is_inner is_c) w beneath rest l h =
      let b = apart (w + 1) xs (c ∷ []) rest (past w o ((xs ++ c ∷ []) ++ rest) (ap is_end is_o) h) in
      let i = expression_fits weakest xs inner is_inner (w + 1) beneath (c ∷ rest) (omega (arith, l)) b in
      (i.0, left_past (w + 1) (w + 1 + 1) c rest (ap is_end is_c) (omega arith) i.1)
  expression_fits j ts e (grammar.prefixed t op xs inner is is_inner) w beneath rest l h =
      let a = past w t (xs ++ rest) (prefix_in_row t.kind op is) h in
      let i = expression_fits 0 xs inner is_inner (w + 1) (suc (suc beneath)) rest (omega (arith, l)) a in
      let fits = i.0.1 in
      ((i.0.0, omega (arith, fits)), left_since (w + 1) (w + 1 + 1) rest (omega arith) i.1)
  expression_fits j ts e (grammar.tighter i xs inner is) w beneath rest l h = expression_fits i xs inner is w beneath rest l h
  expression_fits j ts e (grammar.joined i t op xs ys a b is_a is is_b) w beneath rest l h =
      let x = expression_fits (suc i) xs a is_a w beneath (t ∷ (ys ++ rest)) l (apart w xs (t ∷ ys) rest h) in
      let s : Left (w + 1 + 1) (ys ++ rest) = left_past (w + 1 + 1) (w + 1) t (ys ++ rest) (infix_in_row t.kind _ is) (omega arith) x.1 in
      let later = s.later in
      let y = expression_fits i ys b is_b s.width (suc (suc beneath)) rest (omega (arith, l, later)) s.sound in
      let first = x.0.1 in
      let second = y.0.1 in
      (((x.0.0, y.0.0), omega (arith, first, second)), left_since (w + 1) (s.width + 1) rest (omega (arith, later)) y.1)
  expression_fits j ts e (grammar.short_circuited i t op xs ys a b is_a is is_b) w beneath rest l h =
      let x = expression_fits (suc i) xs a is_a w beneath (t ∷ (ys ++ rest)) l (apart w xs (t ∷ ys) rest h) in
      let s : Left (w + 1 + 1) (ys ++ rest) = left_past (w + 1 + 1) (w + 1) t (ys ++ rest) (infix_in_row t.kind _ is) (omega arith) x.1 in
      let later = s.later in
      let y = expression_fits i ys b is_b s.width beneath rest (omega (arith, l, later)) s.sound in
      let first = x.0.1 in
      let second = y.0.1 in
      (((x.0.0, y.0.0), omega (arith, first, second)), left_since (w + 1) (s.width + 1) rest (omega (arith, later)) y.1)
  expression_fits j ts e (grammar.shifted i t n op xs a is_a is is_n) w beneath rest l h =
      let x = expression_fits (suc i) xs a is_a w beneath (t ∷ n ∷ rest) l (apart w xs (t ∷ n ∷ []) rest h) in
      let s : Left (w + 1 + 1) (n ∷ rest) = left_past (w + 1 + 1) (w + 1) t (n ∷ rest) (infix_in_row t.kind _ is) (omega arith) x.1 in
      (((x.0.0, s.sound.1.0), x.0.1), left_past (w + 1) (w + 1 + 1) n rest (ap is_end is_n) (omega arith) s)

  -- each value has a token of its own
  values_fit : (ts : List Token) (values : Values) → IsValues ts values → (w beneath : ℕ) (rest : List Token) → IsRoomy w beneath → beneath ≤ enough
      → AreSound w (ts ++ rest)
      → ValuesFit beneath values × Left (w + values_in values) rest
  values_fit ts values grammar.no_values w beneath rest l few h =
      ((tt, omega (arith, few)), left_since (w + 0) w rest (omega arith) (left w rest h))
  values_fit ts values (grammar.values xs ys first more is is_more) w beneath rest l few h =
      let e = expression_fits weakest xs first is w beneath (ys ++ rest) l (apart w xs ys rest h) in
      let later = e.1.later in
      let room = e.0.1 in
      let two = two_needed first in
      let m = more_fit ys more is_more e.1.width (suc beneath) rest (omega (arith, l, later)) (omega (arith, room, two)) e.1.sound in
      let others = m.0.1 in (
        ((e.0.0, m.0.0), omega (arith, room, others)),
        left_since (w + suc (values_in more)) (e.1.width + values_in more) rest (omega (arith, later)) m.1,
      )

  more_fit : (ts : List Token) (values : Values) → IsMoreValues ts values → (w beneath : ℕ) (rest : List Token) → IsRoomy w beneath → beneath ≤ enough
      → AreSound w (ts ++ rest)
      → ValuesFit beneath values × Left (w + values_in values) rest
  more_fit ts values grammar.no_more w beneath rest l few h =
      ((tt, omega (arith, few)), left_since (w + 0) w rest (omega arith) (left w rest h))
  more_fit ts values (grammar.another_value c xs ys next more is_c is is_more) w beneath rest l few h =
      let a = apart (w + 1) xs ys rest (past w c ((xs ++ ys) ++ rest) (ap is_end is_c) h) in
      let e = expression_fits weakest xs next is (w + 1) beneath (ys ++ rest) (omega (arith, l)) a in
      let later = e.1.later in
      let room = e.0.1 in
      let two = two_needed next in
      let m = more_fit ys more is_more e.1.width (suc beneath) rest (omega (arith, l, later)) (omega (arith, room, two)) e.1.sound in
      let others = m.0.1 in (
        ((e.0.0, m.0.0), omega (arith, room, others)),
        left_since (w + suc (values_in more)) (e.1.width + values_in more) rest (omega (arith, later)) m.1,
      )

-- ---- statements

-- whatever is left is sound
abbrev Rest : List Token → Type 0
Rest ts = Left 0 ts

rest : (w : ℕ) (ts : List Token) → AreSound w ts → Rest ts
rest w ts h = left_since 0 w ts (omega arith) (left w ts h)

given_fits : (ts : List Token) (value : Expression) → IsGiven ts value → (w beneath : ℕ) (more : List Token) → IsRoomy w beneath
    → AreSound w (ts ++ more)
    → ExpressionFits beneath value × Rest more
given_fits ts value (grammar.given q z xs v is_q is is_z) w beneath more l h =
    let a = apart (w + 1) xs (z ∷ []) more (past w q ((xs ++ z ∷ []) ++ more) (ap is_end is_q) h) in
    let x = expression_fits weakest xs v is (w + 1) beneath (z ∷ more) (omega (arith, l)) a in
    (x.0, rest 0 more (behind x.1.width z more k.Semicolon is_z x.1.sound))

-- a condition and its block
abbrev ArmFits : Tested → Type 0
ArmFits a = ExpressionFits 0 a.condition × BlockFits a.block

mutual
  statement_fits : (ts : List Token) (s : Statement) → IsStatement ts s → (w : ℕ) (more : List Token) → AreSound w (ts ++ more)
      → StatementFits s × Rest more
  statement_fits ts s (grammar.declare t n z of is_t is_n is_z) w more h =
      let a = past w t (n ∷ z ∷ more) (type_in_row t.kind of is_t) h in
      let b = past (w + 1) n (z ∷ more) (ap is_end is_n) a in
      ((type_of_word t.kind of is_t, tt), rest 0 more (behind (w + 1 + 1) z more k.Semicolon is_z b))
  statement_fits ts s (grammar.declare_as t n of xs value is_t is_n is) w more h =
      let a = past w t (n ∷ (xs ++ more)) (type_in_row t.kind of is_t) h in
      let v = given_fits xs value is (w + 1 + 1) 0 more (omega arith) (past (w + 1) n (xs ++ more) (ap is_end is_n) a) in
      ((type_of_word t.kind of is_t, v.0), v.1)
  statement_fits ts s (grammar.assign n xs value is_n is) w more h =
      given_fits xs value is (w + 1) 0 more (omega arith) (past w n (xs ++ more) (ap is_end is_n) h)
  statement_fits ts s (grammar.store n o c xs ys index value is_n is_o is_index is_c is) w more h =
      let a = past w n (o ∷ ((xs ++ (c ∷ ys)) ++ more)) (ap is_end is_n) h in
      let b = apart (w + 1 + 1) xs (c ∷ ys) more (past (w + 1) o ((xs ++ (c ∷ ys)) ++ more) (ap is_end is_o) a) in
      let i = expression_fits weakest xs index is_index (w + 1 + 1) 0 (c ∷ (ys ++ more)) (omega arith) b in
      let e = past i.1.width c (ys ++ more) (ap is_end is_c) i.1.sound in
      let v = given_fits ys value is (i.1.width + 1) 1 more (omega arith) e in
      ((i.0, v.0), v.1)
  statement_fits ts s (grammar.emit t o c z xs value is_t is_o is is_c is_z) w more h =
      let a = past w t (o ∷ ((xs ++ c ∷ z ∷ []) ++ more)) (ap is_end is_t) h in
      let b = apart (w + 1 + 1) xs (c ∷ z ∷ []) more (past (w + 1) o ((xs ++ c ∷ z ∷ []) ++ more) (ap is_end is_o) a) in
      let v = expression_fits weakest xs value is (w + 1 + 1) 0 (c ∷ z ∷ more) (omega arith) b in
      let e = past v.1.width c (z ∷ more) (ap is_end is_c) v.1.sound in
      (v.0, rest 0 more (behind (v.1.width + 1) z more k.Semicolon is_z e))
  statement_fits ts s (grammar.give t z xs value is_t is is_z) w more h =
      let a = apart (w + 1) xs (z ∷ []) more (past w t ((xs ++ z ∷ []) ++ more) (ap is_end is_t) h) in
      let v = expression_fits weakest xs value is (w + 1) 0 (z ∷ more) (omega arith) a in
      (v.0, rest 0 more (behind v.1.width z more k.Semicolon is_z v.1.sound))
  statement_fits ts s (grammar.transition t o n c z is_t is_o is_n is_c is_z) w more h =
      let a = past w t (o ∷ n ∷ c ∷ z ∷ more) (ap is_end is_t) h in
      let b = past (w + 1 + 1) n (c ∷ z ∷ more) (ap is_end is_n) (past (w + 1) o (n ∷ c ∷ z ∷ more) (ap is_end is_o) a) in
      let e = past (w + 1 + 1 + 1) c (z ∷ more) (ap is_end is_c) b in
      (tt, rest 0 more (behind (w + 1 + 1 + 1 + 1) z more k.Semicolon is_z e))
  statement_fits ts s (grammar.choice xs ys arm arms last is_arm is) w more h =
      let a = arm_fits xs arm is_arm w (ys ++ more) (apart w xs ys more h) in
      let b = elses_fit ys arms last is a.1.width more a.1.sound in
      ((a.0.0, a.0.1, b.0), b.1)
  statement_fits ts s (grammar.loop f o n q a y m lt b z u p c xs body is_f is_o is_n is_q is_a is_y is_m is_l is_b is_z is_u is_p is_c is) w more h =
      let r0 = c ∷ (xs ++ more) in
      let r1 = p ∷ r0 in
      let r2 = u ∷ r1 in
      let r3 = z ∷ r2 in
      let r4 = b ∷ r3 in
      let r5 = lt ∷ r4 in
      let r6 = m ∷ r5 in
      let r7 = y ∷ r6 in
      let r8 = a ∷ r7 in
      let r9 = q ∷ r8 in
      let r10 = n ∷ r9 in
      let r11 = o ∷ r10 in
      let h1 = past w f r11 (ap is_end is_f) h in
      let h2 = past (w + 1) o r10 (ap is_end is_o) h1 in
      let h3 = past (w + 1 + 1) n r9 (ap is_end is_n) h2 in
      let h4 = past (w + 1 + 1 + 1) q r8 (ap is_end is_q) h3 in
      let h5 = past (w + 1 + 1 + 1 + 1) a r7 (ap is_end is_a) h4 in
      let h6 = behind (w + 1 + 1 + 1 + 1 + 1) y r6 k.Semicolon is_y h5 in
      let h7 = past 0 m r5 (ap is_end is_m) h6 in
      let h8 = past 1 lt r4 (ap is_end is_l) h7 in
      let h9 = past 2 b r3 (ap is_end is_b) h8 in
      let h10 = behind 3 z r2 k.Semicolon is_z h9 in
      let h11 = past 0 u r1 (ap is_end is_u) h10 in
      let h12 = past 1 p r0 (ap is_end is_p) h11 in
      let i = block_fits xs body is 3 more (past 2 c (xs ++ more) (ap is_end is_c) h12) in
      ((i.0, h4.1.0, h8.1.0), i.1)

  elses_fit : (ts : List Token) (arms : List Tested) (last : Option Block) → IsElses ts arms last → (w : ℕ) (more : List Token)
      → AreSound w (ts ++ more)
      → ChoiceFits (choice_of arms last) × Rest more
  elses_fit ts arms last grammar.nothing w more h = (tt, rest w more h)
  elses_fit ts arms last (grammar.last t xs block is_t is) w more h = block_fits xs block is (w + 1) more (past w t (xs ++ more) (ap is_end is_t) h)
  elses_fit ts arms last (grammar.another t xs ys arm others end is_t is_arm is) w more h =
      let a = arm_fits xs arm is_arm (w + 1) (ys ++ more) (apart (w + 1) xs ys more (past w t ((xs ++ ys) ++ more) (ap is_end is_t) h)) in
      let b = elses_fit ys others end is a.1.width more a.1.sound in
      ((a.0.0, a.0.1, b.0), b.1)

  arm_fits : (ts : List Token) (arm : Tested) → IsArm ts arm → (w : ℕ) (more : List Token) → AreSound w (ts ++ more)
      → ArmFits arm × Rest more
  arm_fits ts arm (grammar.arm i o c xs bs condition block is_i is_o is is_c is_block) w more h =
      let a = past w i (o ∷ ((xs ++ (c ∷ bs)) ++ more)) (ap is_end is_i) h in
      let b = apart (w + 1 + 1) xs (c ∷ bs) more (past (w + 1) o ((xs ++ (c ∷ bs)) ++ more) (ap is_end is_o) a) in
      let v = expression_fits weakest xs condition is (w + 1 + 1) 0 (c ∷ (bs ++ more)) (omega arith) b in
      let u = block_fits bs block is_block (v.1.width + 1) more (past v.1.width c (bs ++ more) (ap is_end is_c) v.1.sound) in
      ((v.0, u.0), u.1)

  block_fits : (ts : List Token) (b : Block) → IsBlock ts b → (w : ℕ) (more : List Token) → AreSound w (ts ++ more)
      → BlockFits b × Rest more
  block_fits ts b (grammar.block o c xs all is_o is is_c) w more h =
      let a = apart 0 xs (c ∷ []) more (behind w o ((xs ++ c ∷ []) ++ more) k.OpenBrace is_o h) in
      let v = statements_fit xs all is 0 (c ∷ more) a in
      (v.0, rest 0 more (behind v.1.width c more k.CloseBrace is_c v.1.sound))

  statements_fit : (ts : List Token) (all : List Statement) → IsStatements ts all → (w : ℕ) (more : List Token) → AreSound w (ts ++ more)
      → BlockFits (block_of all) × Rest more
  statements_fit ts all grammar.none w more h = (tt, rest w more h)
  statements_fit ts all (grammar.more xs ys first others is_first is) w more h =
      let a = statement_fits xs first is_first w (ys ++ more) (apart w xs ys more h) in
      let b = statements_fit ys others is a.1.width more a.1.sound in
      ((a.0, b.0), b.1)

-- ---- programs

extent_passes : (ts : List Token) (e : Extent) → IsExtent ts e → (w : ℕ) (more : List Token) → AreSound w (ts ++ more) → Rest more
extent_passes ts e grammar.nothing_written w more h = rest w more h
extent_passes ts e (grammar.array o n c is_o is_n is_c) w more h =
    let a = past (w + 1) n (c ∷ more) (ap is_end is_n) (past w o (n ∷ c ∷ more) (ap is_end is_o) h) in
    rest (w + 1 + 1 + 1) more (past (w + 1 + 1) c more (ap is_end is_c) a)
extent_passes ts e (grammar.value q n is_q is_n) w more h =
    rest (w + 1 + 1) more (past (w + 1) n more (ap is_end is_n) (past w q (n ∷ more) (ap is_end is_q) h))
extent_passes ts e (grammar.negative q m n is_q is_m is_n) w more h =
    let a = past (w + 1) m (n ∷ more) (ap is_end is_m) (past w q (m ∷ n ∷ more) (ap is_end is_q) h) in
    rest (w + 1 + 1 + 1) more (past (w + 1 + 1) n more (ap is_end is_n) a)

worth_in_row : (t : Token) (n : ℕ) → IsWorth t n → InRow t.kind
worth_in_row t n (grammar.number m is) = ap is_end is
worth_in_row t n (grammar.long_number m is) = ap is_end is

long_extent_passes : (ts : List Token) (e : Extent) → IsLongExtent ts e → (w : ℕ) (more : List Token) → AreSound w (ts ++ more) → Rest more
long_extent_passes ts e grammar.no_value w more h = rest w more h
long_extent_passes ts e (grammar.long_value q n v is_q is_n) w more h =
    rest (w + 1 + 1) more (past (w + 1) n more (worth_in_row n v is_n) (past w q (n ∷ more) (ap is_end is_q) h))
long_extent_passes ts e (grammar.long_negative q m n v is_q is_m is_n) w more h =
    let a = past (w + 1) m (n ∷ more) (ap is_end is_m) (past w q (m ∷ n ∷ more) (ap is_end is_q) h) in
    rest (w + 1 + 1 + 1) more (past (w + 1 + 1) n more (worth_in_row n v is_n) a)

shared_passes : (ts : List Token) (s : SharedDeclaration) → IsShared ts s → (w : ℕ) (more : List Token) → AreSound w (ts ++ more) → Rest more
shared_passes ts s (grammar.shared h t n z of xs found is_h is_t is_n is is_z) w more sound =
    let tail = (xs ++ z ∷ []) ++ more in
    let a = past w h (t ∷ n ∷ tail) (ap is_end is_h) sound in
    let b = past (w + 1) t (n ∷ tail) (type_in_row t.kind of is_t) a in
    let c = apart (w + 1 + 1 + 1) xs (z ∷ []) more (past (w + 1 + 1) n tail (ap is_end is_n) b) in
    let e = extent_passes xs found is (w + 1 + 1 + 1) (z ∷ more) c in
    rest 0 more (behind e.width z more k.Semicolon is_z e.sound)
shared_passes ts s (grammar.long h t m n z xs found is_h is_t is_m is_n is is_z) w more sound =
    let tail = (xs ++ z ∷ []) ++ more in
    let a = past w h (t ∷ m ∷ n ∷ tail) (ap is_end is_h) sound in
    let b = past (w + 1 + 1) m (n ∷ tail) (ap is_end is_m) (past (w + 1) t (m ∷ n ∷ tail) (ap is_end is_t) a) in
    let c = apart (w + 1 + 1 + 1 + 1) xs (z ∷ []) more (past (w + 1 + 1 + 1) n tail (ap is_end is_n) b) in
    let e = long_extent_passes xs found is (w + 1 + 1 + 1 + 1) (z ∷ more) c in
    rest 0 more (behind e.width z more k.Semicolon is_z e.sound)

shareds_pass : (ts : List Token) (all : List SharedDeclaration) → Row IsShared ts all → (w : ℕ) (more : List Token) → AreSound w (ts ++ more)
    → Rest more
shareds_pass ts [] row w more h = rest w more (subst (λ ts. AreSound w (ts ++ more)) row h)
shareds_pass ts (s ∷ all) (xs, ys, cut, is, row) w more h =
    let a = shared_passes xs s is w (ys ++ more) (apart w xs ys more (subst (λ ts. AreSound w (ts ++ more)) cut h)) in
    shareds_pass ys all row a.width more a.sound

-- a parameter has one word
abbrev ParameterFits : Parameter → Type 0
ParameterFits p = IsOneWord p.word_type

parameter_fits : (ts : List Token) (p : Parameter) → IsParameter ts p → (w : ℕ) (more : List Token) → AreSound w (ts ++ more)
    → ParameterFits p × Rest more
parameter_fits ts p (grammar.parameter t n of is_t is_n) w more h =
    (type_of_word t.kind of is_t, rest (w + 1 + 1) more (past (w + 1) n more (ap is_end is_n) (past w t (n ∷ more) (type_in_row t.kind of is_t) h)))

further_fits : (ts : List Token) (p : Parameter) → IsFurther ts p → (w : ℕ) (more : List Token) → AreSound w (ts ++ more) → ParameterFits p × Rest more
further_fits ts p (grammar.further c xs found is_c is) w more h = parameter_fits xs found is (w + 1) more (past w c (xs ++ more) (ap is_end is_c) h)

furthers_fit : (ts : List Token) (all : List Parameter) → Row IsFurther ts all → (w : ℕ) (more : List Token) → AreSound w (ts ++ more)
    → All ParameterFits all × Rest more
furthers_fit ts [] row w more h = (All-nil ParameterFits, rest w more (subst (λ ts. AreSound w (ts ++ more)) row h))
furthers_fit ts (p ∷ all) (xs, ys, cut, is, row) w more h =
    let a = further_fits xs p is w (ys ++ more) (apart w xs ys more (subst (λ ts. AreSound w (ts ++ more)) cut h)) in
    let b = furthers_fit ys all row a.1.width more a.1.sound in
    (All-cons ParameterFits p all a.0 b.0, b.1)

parameters_fit : (ts : List Token) (all : List Parameter) → IsParameters ts all → (w : ℕ) (more : List Token) → AreSound w (ts ++ more)
    → All ParameterFits all × Rest more
parameters_fit ts all grammar.no_parameter w more h = (All-nil ParameterFits, rest w more h)
parameters_fit ts all (grammar.parameters xs ys first others is is_more) w more h =
    let a = parameter_fits xs first is w (ys ++ more) (apart w xs ys more h) in
    let b = furthers_fit ys others is_more a.1.width more a.1.sound in
    (All-cons ParameterFits first others a.0 b.0, b.1)

function_fits : (ts : List Token) (f : Function) → IsFunction ts f → (w : ℕ) (more : List Token) → AreSound w (ts ++ more) → FunctionFits f × Rest more
function_fits ts f (grammar.function t n o c of ps bs parameters body is_t is_n is_o is_ps is_c is) w more sound =
    let tail = (ps ++ (c ∷ bs)) ++ more in
    let a = past (w + 1) n (o ∷ tail) (ap is_end is_n) (past w t (n ∷ o ∷ tail) (type_in_row t.kind of is_t) sound) in
    let b = apart (w + 1 + 1 + 1) ps (c ∷ bs) more (past (w + 1 + 1) o tail (ap is_end is_o) a) in
    let p = parameters_fit ps parameters is_ps (w + 1 + 1 + 1) (c ∷ (bs ++ more)) b in
    let d = block_fits bs body is (p.1.width + 1) more (past p.1.width c (bs ++ more) (ap is_end is_c) p.1.sound) in
    (record { gives = type_of_word t.kind of is_t; takes = p.0; body = d.0 }, d.1)

functions_fit : (ts : List Token) (all : List Function) → Row IsFunction ts all → (w : ℕ) (more : List Token) → AreSound w (ts ++ more)
    → All FunctionFits all × Rest more
functions_fit ts [] row w more h = (All-nil FunctionFits, rest w more (subst (λ ts. AreSound w (ts ++ more)) row h))
functions_fit ts (f ∷ all) (xs, ys, cut, is, row) w more h =
    let a = function_fits xs f is w (ys ++ more) (apart w xs ys more (subst (λ ts. AreSound w (ts ++ more)) cut h)) in
    let b = functions_fit ys all row a.1.width more a.1.sound in
    (All-cons FunctionFits f all a.0 b.0, b.1)

task_fits : (ts : List Token) (task : Task) → IsTask ts task → (w : ℕ) (more : List Token) → AreSound w (ts ++ more)
    → BlockFits task.body × Rest more
task_fits ts task (grammar.task h n xs body is_h is_n is) w more sound =
    block_fits xs body is (w + 1 + 1) more (past (w + 1) n (xs ++ more) (ap is_end is_n) (past w h (n ∷ (xs ++ more)) (ap is_end is_h) sound))

tasks_fit : (ts : List Token) (all : List Task) → Row IsTask ts all → (w : ℕ) (more : List Token) → AreSound w (ts ++ more)
    → All (λ task. BlockFits task.body) all
tasks_fit ts [] row w more h = All-nil (λ task. BlockFits task.body)
tasks_fit ts (task ∷ all) (xs, ys, cut, is, row) w more h =
    let a = task_fits xs task is w (ys ++ more) (apart w xs ys more (subst (λ ts. AreSound w (ts ++ more)) cut h)) in
    All-cons (λ task. BlockFits task.body) task all a.0 (tasks_fit ys all row a.1.width more a.1.sound)

-- the functions and the tasks of a program fit
pub record ProgramFits (p : Program) : Type 0 where
  pub functions : All FunctionFits p.functions
  pub tasks : All (λ task. BlockFits task.body) p.tasks

pub program_fits : (ts : List Token) (p : Program) → IsProgram ts p → AreSound 0 ts → ProgramFits p
program_fits ts p (grammar.program xs fs ys zs h n z shareds functions first others is_shareds is_functions is_first is_others is_h is_n is_z) sound =
    let end = h ∷ n ∷ z ∷ [] in
    let a = shareds_pass xs shareds is_shareds 0 (fs ++ (ys ++ (zs ++ end))) sound in
    let f = functions_fit fs functions is_functions a.width (ys ++ (zs ++ end)) a.sound in
    let b = task_fits ys first is_first f.1.width (zs ++ end) f.1.sound in
    record {
      functions = f.0;
      tasks = All-cons (λ task. BlockFits task.body) first others b.0 (tasks_fit zs others is_others b.1.width end b.1.sound);
    }

-- ---- declarations

shared_typed : (ts : List Token) (d : SharedDeclaration) → IsShared ts d → HasItsExtent d
shared_typed ts d (grammar.shared h t n z of xs found is_h is_t is_n is is_z) = of_extent xs found is ∙ sym (of_word of (type_of_word t.kind of is_t))
  where
    of_extent : (ts : List Token) (e : Extent) → IsExtent ts e → is_long_extent e ≡ false
    of_extent ts e grammar.nothing_written = refl
    of_extent ts e (grammar.array o n c is_o is_n is_c) = refl
    of_extent ts e (grammar.value q n is_q is_n) = refl
    of_extent ts e (grammar.negative q m n is_q is_m is_n) = refl

    of_word : (of : WordType) → IsOneWord of → is_long of ≡ false
    of_word Long h = absurd h
    of_word Int h = refl
    of_word Unsigned h = refl
shared_typed ts d (grammar.long h t m n z xs found is_h is_t is_m is_n is is_z) = of_long xs found is
  where
    of_long : (ts : List Token) (e : Extent) → IsLongExtent ts e → is_long_extent e ≡ true
    of_long ts e grammar.no_value = refl
    of_long ts e (grammar.long_value q n v is_q is_n) = refl
    of_long ts e (grammar.long_negative q m n v is_q is_m is_n) = refl

shareds_typed : (ts : List Token) (all : List SharedDeclaration) → Row IsShared ts all → All HasItsExtent all
shareds_typed ts [] row = All-nil HasItsExtent
shareds_typed ts (d ∷ all) (xs, ys, cut, is, row) = All-cons HasItsExtent d all (shared_typed xs d is) (shareds_typed ys all row)

-- the longs of a program are declared as such
pub program_typed : (ts : List Token) (p : Program) → IsProgram ts p → All HasItsExtent p.shared
program_typed ts p (grammar.program xs fs ys zs h n z shareds functions first others is_shareds is_functions is_first is_others is_h is_n is_z) =
    shareds_typed xs shareds is_shareds
