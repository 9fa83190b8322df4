-- Between tokens stand blanks and comments alone.
use Rattle.std.proofs.Common.{◌≡◌, ℕ, zero, suc, ◌+◌, ◌-◌, ◌<◌, ◌≤◌, Bool, true, false, cond, ◌&&◌, ◌==◌, not, nat_lt, List, [], ◌∷◌, ◌++◌, length, drop}
use Rattle.std.proofs.Common.{take, refl, ap, sym, ◌∙◌, subst, arith, length-drop, Option, Some, None}
use Rattle.std.specs.Prelude.{slice_range}
use Rattle.std.proofs.lemmas.List.{take-append-drop, drop-drop, drop_all}
use Rattle.std.proofs.Math.Seq.{take-add}
use Rattle.task_lex.specs.declared.token.Token.{Token}
use Rattle.task_lex.specs.declared.token.Kind.{Kind}
use Rattle.task_lex.specs.declared.piece.Piece.{Piece}
use Rattle.task_lex.specs.declared.piece.Piece.TheVariants as piece
use Rattle.task_lex.specs.declared.piece.Numeral.{Numeral}
use Rattle.task_lex.specs.declared.step.Place.{Place}
use Rattle.task_lex.specs.declared.step.Step.{Step}
use Rattle.task_lex.specs.declared.step.Step.TheVariants.{Skip, Take, Fails}
use Rattle.task_lex.specs.declared.fault.Flaw.TheVariants as flaw
use Rattle.task_lex.specs.Pieces.{word_kind, numeral, piece_of}
use Rattle.task_lex.specs.Lexemes.{IsLexeme, StandsInFront}
use Rattle.task_lex.specs.Lex.{Lexed, tokens, fault, with_front, after, step, step_by, counted, numbered, is_opening, is_end, depth_after, width_after}
use Rattle.task_lex.specs.Lex.{lex_within, lex_from, lexed}
use Rattle.task_lex.specs.Slices.{IsGap, nothing, more, AreGaps}
use Rattle.task_lex.proofs.Loop.{Moves, moves}
use Rattle.task_lex.proofs.Longest.{longest}
use Rattle.task_lex.proofs.Spans.{Lies, lies, Ordered, ordered}

module _ (source : List ℕ) where
  -- what a step skips
  abbrev pub Skips : Place → Step → Type 0
  Skips p (Skip q) = (n : ℕ) × (q.at ≡ p.at + n) × IsLexeme piece.Blank (take n (drop p.at source))
  Skips p _ = Unit {0}

  counted_skips : (p : Place) (n : ℕ) (kind : Kind) (value high : ℕ) → Skips p (counted p n kind value high)
  unfolding counted
  counted_skips p n kind value high = go (is_opening kind && p.depth == 64) (not (is_end kind) && p.width == 256)
    where
      go : (a b : Bool) → Skips p (cond a (Fails flaw.TooDeep)
          (cond b (Fails flaw.TooWide) (Take (record { kind = kind; span = record { from = p.at; to = p.at + n }; value = value; high = high })
          (record { at = p.at + n; depth = depth_after kind (p.depth); width = width_after kind (p.width) }))))
      go true b = tt
      go false true = tt
      go false false = tt

  skips_by : (p : Place) (found : Piece) (n : ℕ) → StandsInFront (drop p.at source) found n → Skips p (step_by (drop p.at source) p found n)
  skips_by p piece.Blank n stands = (n, refl, stands)
  skips_by p piece.Word n stands = go (nat_lt 31 n)
    where
      go : (b : Bool) → Skips p (cond b (Fails flaw.BadName) (counted p n (word_kind (take n (drop p.at source))) 0 0))
      go true = tt
      go false = counted_skips p n _ 0 0
  skips_by p piece.Numeral n stands = go (numeral (take n (drop p.at source)))
    where
      go : (o : Option Numeral) → Skips p (numbered p n o)
      go None = tt
      go (Some x) = counted_skips p n x.kind x.value x.high
  skips_by p (piece.Mark kind) n stands = counted_skips p n kind 0 0
  skips_by p piece.Bad n stands = tt

  skips : (p : Place) → p.at < length source → Skips p (step source p)
  unfolding step
  skips p inside = let found = piece_of (drop p.at source) in skips_by p found.0 found.1 (longest (drop p.at source) (simp length-drop (omega arith))).front

  -- a gap that begins with what is skipped
  gap_to : (at n end : ℕ) → IsLexeme piece.Blank (take n (drop at source)) → at + n ≤ end → IsGap (slice_range source (at + n) end)
      → IsGap (slice_range source at end)
  gap_to at n end is le rest =
      let size : end - at ≡ n + (end - (at + n)) = omega arith in
      let cut : slice_range source at end ≡ take n (drop at source) ++ slice_range source (at + n) end =
      ap (λ m. take m (drop at source)) size ∙ take-add n (end - (at + n)) (drop at source)
      ∙ ap (λ x. take n (drop at source) ++ take (end - (at + n)) x) (drop-drop n at source) in
      subst IsGap (sym cut) (more (take n (drop at source)) (slice_range source (at + n) end) is rest)

  gap_last : (at n : ℕ) → IsLexeme piece.Blank (take n (drop at source)) → IsGap (drop (at + n) source) → IsGap (drop at source)
  gap_last at n is rest =
      let cut : drop at source ≡ take n (drop at source) ++ drop (at + n) source = sym (take-append-drop n (drop at source))
      ∙ ap (λ x. take n (drop at source) ++ x) (drop-drop n at source) in
      subst IsGap (sym cut) (more (take n (drop at source)) (drop (at + n) source) is rest)

  abbrev pub Gapped : ℕ → Lexed → Type 0
  Gapped at (tokens ts) = AreGaps source at ts
  Gapped at (fault f place) = Unit {0}

  skipped : (at n : ℕ) (rest : Lexed) → IsLexeme piece.Blank (take n (drop at source)) → Ordered (at + n) (length source) rest → Gapped (at + n) rest
      → Gapped at rest
  skipped at n (tokens []) is order gaps = gap_last at n is gaps
  skipped at n (tokens (t ∷ ts)) is order gaps = (gap_to at n t.span.from is order.0 gaps.0, gaps.1)
  skipped at n (fault f place) is order gaps = tt

  no_gap : (at from : ℕ) → at ≡ from → IsGap (slice_range source at from)
  no_gap at from same = let size : 0 ≡ from - at = omega arith in subst (λ m. IsGap (take m (drop at source))) size nothing

  gapped_front : (at : ℕ) (t : Token) (rest : Lexed) → at ≡ t.span.from → Gapped t.span.to rest → Gapped at (with_front (t ∷ []) rest)
  gapped_front at t (tokens ts) same gaps = (no_gap at t.span.from same, gaps)
  gapped_front at t (fault f place) same gaps = tt

  gapped_after : (go : Place → Lexed) (p : Place) (s : Step) → Moves p s → Lies (length source) p s → Skips p s
      → ((q : Place) → Ordered q.at (length source) (go q)) → ((q : Place) → p.at < q.at → Gapped q.at (go q)) → Gapped p.at (after go p.at s)
  gapped_after go p (Skip q) m l (n, same, is) order next =
      skipped p.at n (go q) is (subst (λ i. Ordered i (length source) (go q)) same (order q)) (subst (λ i. Gapped i (go q)) same (next q m))
  gapped_after go p (Take t q) m l is order next = gapped_front p.at t (go q) l.0 (subst (λ i. Gapped i (go q)) (sym l.2) (next q m))
  gapped_after go p (Fails f) m l is order next = tt

  gapped_if : (at : ℕ) (b : Bool) (x : Lexed) → (b ≡ true → Gapped at x) → (b ≡ false → IsGap (drop at source)) → Gapped at (cond b x (tokens []))
  gapped_if at true x h g = h refl
  gapped_if at false x h g = g refl

  gapped : (n : ℕ) (p : Place) → length source - p.at < n → Gapped p.at (lex_within source n p)
  unfolding lex_within
  gapped zero p fits = absurd (omega arith)
  gapped (suc n) p fits = gapped_if p.at (nat_lt p.at (length source)) _
      (λ h. let inside : p.at < length source = grind arith in
      gapped_after (lex_within source n) p (step source p) (moves source p inside) (lies source p inside) (skips p inside) (ordered source n)
      (λ q further. gapped n q (omega arith)))
      (λ h. let past : length source ≤ p.at = grind arith in subst IsGap (sym (drop_all p.at source past)) nothing)

  pub are_gaps : (ts : List Token) → lexed source ≡ tokens ts → AreGaps source 0 ts
  unfolding lex_from
  are_gaps ts h = subst (Gapped 0) h (gapped (suc (length source - 0)) (record { at = 0; depth = 0; width = 0 }) (omega arith))
