-- No more than 64 brackets are open at once, and no more than 256 tokens stand in a row.
use Rattle.std.proofs.Common.{◌≡◌, ℕ, zero, suc, ◌+◌, ◌-◌, ◌≤◌, Bool, true, false, cond, ◌&&◌, ◌==◌, not, nat_lt, List, [], ◌∷◌, length, drop, take, refl}
use Rattle.std.proofs.Common.{subst, arith, Option, Some, None}
use Rattle.task_lex.specs.declared.token.Token.{Token}
use Rattle.task_lex.specs.declared.token.Kind.{Kind}
use Rattle.task_lex.specs.declared.piece.Piece.{Piece}
use Rattle.task_lex.specs.declared.piece.Piece.TheVariants as piece
use Rattle.task_lex.specs.declared.piece.Numeral.{Numeral}
use Rattle.task_lex.specs.declared.step.Place.{Place}
use Rattle.task_lex.specs.declared.step.Step.{Step}
use Rattle.task_lex.specs.declared.step.Step.TheVariants.{Skip, Take, Fails}
use Rattle.task_lex.specs.declared.fault.Flaw.TheVariants as flaw
use Rattle.task_lex.specs.Pieces.{piece_of, numeral, word_kind}
use Rattle.task_lex.specs.Lex.{Lexed, tokens, fault, with_front, after, step, step_by, counted, numbered, is_opening, is_closing, is_end, depth_after}
use Rattle.task_lex.specs.Lex.{width_after, lex_within, lex_from, lexed}
use Rattle.task_lex.specs.Spans.{IsBounded}

-- the depth behind a token stays within 64 where none is too deep
deep : (opens closes : Bool) (depth : ℕ) → depth ≤ 64 → (opens && depth == 64) ≡ false → cond opens (depth + 1) (cond closes (depth - 1) depth) ≤ 64
deep true closes depth le h = let other : (depth == 64) ≡ false = h in grind arith
deep false true depth le h = omega arith
deep false false depth le h = le

-- the width behind a token stays within 256 where none is too wide
pub wide : (ends : Bool) (width : ℕ) → width ≤ 256 → (not ends && width == 256) ≡ false → cond ends 0 (width + 1) ≤ 256
wide true width le h = omega arith
wide false width le h = let other : (width == 256) ≡ false = h in grind arith

-- the counts that a step leaves
abbrev pub Counts : Place → Step → Type 0
Counts p (Skip q) = (q.depth ≡ p.depth) × (q.width ≡ p.width)
Counts p (Take t q) = (q.depth ≡ depth_after t.kind p.depth) × (q.width ≡ width_after t.kind p.width) × (q.depth ≤ 64) × (q.width ≤ 256)
Counts p (Fails f) = Unit {0}

counted_counts : (p : Place) (n : ℕ) (kind : Kind) (value high : ℕ) → p.depth ≤ 64 → p.width ≤ 256 → Counts p (counted p n kind value high)
unfolding counted
counted_counts p n kind value high depth width = go (is_opening kind && p.depth == 64) (not (is_end kind) && p.width == 256) refl refl
  where
    go : (a b : Bool) → (is_opening kind && p.depth == 64) ≡ a → (not (is_end kind) && p.width == 256) ≡ b
        → Counts p (cond a (Fails flaw.TooDeep) (cond b (Fails flaw.TooWide)
        (Take (record { kind = kind; span = record { from = p.at; to = p.at + n }; value = value; high = high })
        (record { at = p.at + n; depth = depth_after kind (p.depth); width = width_after kind (p.width) }))))
    go true b e f = tt
    go false true e f = tt
    go false false e f = (refl, refl, deep (is_opening kind) (is_closing kind) p.depth depth e, wide (is_end kind) p.width width f)

counts_by : (text : List ℕ) (p : Place) (found : Piece) (n : ℕ) → p.depth ≤ 64 → p.width ≤ 256 → Counts p (step_by text p found n)
counts_by text p piece.Blank n depth width = (refl, refl)
counts_by text p piece.Word n depth width = go (nat_lt 31 n)
  where
    go : (b : Bool) → Counts p (cond b (Fails flaw.BadName) (counted p n (word_kind (take n text)) 0 0))
    go true = tt
    go false = counted_counts p n (word_kind (take n text)) 0 0 depth width
counts_by text p piece.Numeral n depth width = go (numeral (take n text))
  where
    go : (o : Option Numeral) → Counts p (numbered p n o)
    go None = tt
    go (Some x) = counted_counts p n x.kind x.value x.high depth width
counts_by text p (piece.Mark kind) n depth width = counted_counts p n kind 0 0 depth width
counts_by text p piece.Bad n depth width = tt

counts : (source : List ℕ) (p : Place) → p.depth ≤ 64 → p.width ≤ 256 → Counts p (step source p)
unfolding step
counts source p depth width = let text = drop (p.at) source in let found = piece_of text in counts_by text p found.0 found.1 depth width

abbrev pub Bounded : ℕ → ℕ → Lexed → Type 0
Bounded depth width (tokens ts) = IsBounded depth width ts
Bounded depth width (fault f at) = Unit {0}

bounded_front : (depth width : ℕ) (t : Token) (rest : Lexed) → depth_after t.kind depth ≤ 64 → width_after t.kind width ≤ 256
    → Bounded (depth_after t.kind depth) (width_after t.kind width) rest → Bounded depth width (with_front (t ∷ []) rest)
bounded_front depth width t (tokens ts) a b h = (a, b, h)
bounded_front depth width t (fault f at) a b h = tt

bounded_after : (go : Place → Lexed) (p : Place) (s : Step) → p.depth ≤ 64 → p.width ≤ 256 → Counts p s
    → ((q : Place) → q.depth ≤ 64 → q.width ≤ 256 → Bounded (q.depth) (q.width) (go q)) → Bounded (p.depth) (p.width) (after go (p.at) s)
bounded_after go p (Skip q) depth width h next =
    subst (λ d. Bounded d (p.width) (go q)) h.0 (subst (λ w. Bounded (q.depth) w (go q)) h.1 (next q (omega arith) (omega arith)))
bounded_after go p (Take t q) depth width h next =
    bounded_front (p.depth) (p.width) t (go q) (omega arith) (omega arith)
    (subst (λ d. Bounded d (width_after t.kind p.width) (go q)) h.0 (subst (λ w. Bounded (q.depth) w (go q)) h.1 (next q h.2 h.3)))
bounded_after go p (Fails f) depth width h next = tt

module _ (source : List ℕ) where
  bounded_if : (depth width : ℕ) (b : Bool) (x : Lexed) → Bounded depth width x → Bounded depth width (cond b x (tokens []))
  bounded_if depth width true x h = h
  bounded_if depth width false x h = tt

  bounded : (n : ℕ) (p : Place) → p.depth ≤ 64 → p.width ≤ 256 → Bounded (p.depth) (p.width) (lex_within source n p)
  unfolding lex_within
  bounded zero p depth width = tt
  bounded (suc n) p depth width =
      bounded_if (p.depth) (p.width) (nat_lt (p.at) (length source)) _
      (bounded_after (lex_within source n) p (step source p) depth width (counts source p depth width) (λ q d w. bounded n q d w))

  pub is_bounded : (ts : List Token) → lexed source ≡ tokens ts → IsBounded 0 0 ts
  unfolding lex_from
  is_bounded ts h = subst (Bounded 0 0) h (bounded (suc (length source - 0)) (record { at = 0; depth = 0; width = 0 }) (omega arith) (omega arith))
