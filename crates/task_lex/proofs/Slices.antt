-- Each token's slice of the source spells it.
use Rattle.std.proofs.Common.{◌≡◌, ℕ, zero, suc, ◌+◌, ◌-◌, ◌<◌, ◌≤◌, Bool, true, false, cond, ◌&&◌, ◌==◌, not, nat_lt, List, [], ◌∷◌, length, drop, take}
use Rattle.std.proofs.Common.{refl, sym, subst, arith, length-drop, length-take, Option, Some, None}
use Rattle.std.specs.Prelude.{All}
use Rattle.std.specs.Str.{bytes_eq}
use Rattle.std.proofs.lemmas.List.Elements.{All-cons}
use Rattle.std.proofs.lemmas.Slice.Eq.{bytes_eq-Decides}
use Rattle.task_lex.specs.declared.token.Token.{Token}
use Rattle.task_lex.specs.declared.token.Kind.{Kind}
use Rattle.task_lex.specs.declared.piece.Piece.{Piece}
use Rattle.task_lex.specs.declared.piece.Piece.TheVariants as piece
use Rattle.task_lex.specs.declared.piece.Numeral.{Numeral}
use Rattle.task_lex.specs.declared.step.Place.{Place}
use Rattle.task_lex.specs.declared.step.Step.{Step}
use Rattle.task_lex.specs.declared.step.Step.TheVariants.{Skip, Take, Fails}
use Rattle.task_lex.specs.declared.fault.Flaw.TheVariants as flaw
use Rattle.task_lex.specs.Pieces.{Text, spelling, spelled, keywords, singles, pairs, or_name, word_kind, numeral, piece_of}
use Rattle.task_lex.specs.Lexemes.{IsLexeme, word, one, two, StandsInFront}
use Rattle.task_lex.specs.Lex.{Lexed, tokens, fault, with_front, after, step, step_by, counted, numbered, is_opening, is_end, depth_after, width_after}
use Rattle.task_lex.specs.Lex.{lex_within, lex_from, lexed}
use Rattle.task_lex.specs.Slices.{Spells, fixed, name, worth, IsSlice}
use Rattle.task_lex.proofs.Longest.{longest}

spelled_is : (kinds : List Kind) (w : Text) (kind : Kind) → spelled kinds w ≡ Some kind → w ≡ spelling kind
unfolding spelled
spelled_is [] w kind h = absurd (cc)
spelled_is (x ∷ more) w kind h = go (bytes_eq w (spelling x)) refl h (spelled_is more w kind)
  where
    go : (b : Bool) → bytes_eq w (spelling x) ≡ b → cond b (Some x) (spelled more w) ≡ Some kind → (spelled more w ≡ Some kind → w ≡ spelling kind)
        → w ≡ spelling kind
    go true e h later = let same : x ≡ kind = cc in subst (λ y. w ≡ spelling y) same ((bytes_eq-Decides w (spelling x)).0 e)
    go false e h later = later h

fixed_at : (w : Text) (kind : Kind) → w ≡ spelling kind → 0 < length w → Spells w kind 0 0
fixed_at w kind is some = subst (λ x. Spells x kind 0 0) (sym is) (fixed kind (subst (λ x. 0 < length x) is some))

mark_spells : (kind : Kind) (w : Text) → IsLexeme (piece.Mark kind) w → Spells w kind 0 0
mark_spells kind w (one _ b h) = fixed_at (b ∷ []) kind (spelled_is singles (b ∷ []) kind h) (omega arith)
mark_spells kind w (two _ b c h) = fixed_at (b ∷ c ∷ []) kind (spelled_is pairs (b ∷ c ∷ []) kind h) (omega arith)

some_word : (w : Text) → IsLexeme piece.Word w → 0 < length w
some_word w (word b bs is all) = omega arith

word_spells : (w : Text) → IsLexeme piece.Word w → length w ≤ 31 → Spells w (word_kind w) 0 0
unfolding word_kind
word_spells w is short = go (spelled keywords w) refl
  where
    go : (o : Option Kind) → spelled keywords w ≡ o → Spells w (or_name o) 0 0
    go None e = name w is short e
    go (Some kind) e = fixed_at w kind (spelled_is keywords w kind e) (some_word w is)

module _ (source : List ℕ) where
  -- a token that a step takes
  abbrev pub Takes : Step → Type 0
  Takes (Take t q) = IsSlice source t
  Takes _ = Unit {0}

  counted_takes : (p : Place) (n : ℕ) (kind : Kind) (value high : ℕ) → Spells (take n (drop p.at source)) kind value high → Takes (counted p n kind value high)
  unfolding counted
  counted_takes p n kind value high spells = go (is_opening kind && p.depth == 64) (not (is_end kind) && p.width == 256)
    where
      go : (a b : Bool) → Takes (cond a (Fails flaw.TooDeep)
          (cond b (Fails flaw.TooWide) (Take (record { kind = kind; span = record { from = p.at; to = p.at + n }; value = value; high = high })
          (record { at = p.at + n; depth = depth_after kind (p.depth); width = width_after kind (p.width) }))))
      go true b = tt
      go false true = tt
      go false false = let size : n ≡ p.at + n - p.at = omega arith in subst (λ m. Spells (take m (drop p.at source)) kind value high) size spells

  takes_by : (p : Place) (found : Piece) (n : ℕ) → StandsInFront (drop p.at source) found n → Takes (step_by (drop p.at source) p found n)
  takes_by p piece.Blank n stands = tt
  takes_by p piece.Word n stands = go (nat_lt 31 n) refl
    where
      go : (b : Bool) → nat_lt 31 n ≡ b → Takes (cond b (Fails flaw.BadName) (counted p n (word_kind (take n (drop p.at source))) 0 0))
      go true e = tt
      go false e = let short : n ≤ 31 = grind arith in counted_takes p n _ 0 0 (word_spells (take n (drop p.at source)) stands (simp length-take (omega arith)))
  takes_by p piece.Numeral n stands = go (numeral (take n (drop p.at source))) refl
    where
      go : (o : Option Numeral) → numeral (take n (drop p.at source)) ≡ o → Takes (numbered p n o)
      go None e = tt
      go (Some x) e = counted_takes p n x.kind x.value x.high (worth (take n (drop p.at source)) x stands e)
  takes_by p (piece.Mark kind) n stands = counted_takes p n kind 0 0 (mark_spells kind (take n (drop p.at source)) stands)
  takes_by p piece.Bad n stands = tt

  takes : (p : Place) → p.at < length source → Takes (step source p)
  unfolding step
  takes p inside = let found = piece_of (drop p.at source) in takes_by p found.0 found.1 (longest (drop p.at source) (simp length-drop (omega arith))).front

  abbrev pub Sliced : Lexed → Type 0
  Sliced (tokens ts) = All (IsSlice source) ts
  Sliced (fault f at) = Unit {0}

  none : All (IsSlice source) []
  none i d less = absurd (omega arith)

  sliced_front : (t : Token) (rest : Lexed) → IsSlice source t → Sliced rest → Sliced (with_front (t ∷ []) rest)
  sliced_front t (tokens ts) is all = All-cons (IsSlice source) t ts is all
  sliced_front t (fault f at) is all = tt

  sliced_after : (go : Place → Lexed) (at : ℕ) (s : Step) → Takes s → ((q : Place) → Sliced (go q)) → Sliced (after go at s)
  sliced_after go at (Skip q) is next = next q
  sliced_after go at (Take t q) is next = sliced_front t (go q) is (next q)
  sliced_after go at (Fails f) is next = tt

  sliced_if : (b : Bool) (x : Lexed) → (b ≡ true → Sliced x) → Sliced (cond b x (tokens []))
  sliced_if true x h = h refl
  sliced_if false x h = none

  sliced : (n : ℕ) (p : Place) → Sliced (lex_within source n p)
  unfolding lex_within
  sliced zero p = none
  sliced (suc n) p = sliced_if (nat_lt (p.at) (length source)) _
      (λ h. let inside : p.at < length source = grind arith in sliced_after (lex_within source n) (p.at) (step source p) (takes p inside) (sliced n))

  pub are_slices : (ts : List Token) → lexed source ≡ tokens ts → All (IsSlice source) ts
  unfolding lex_from
  are_slices ts h = subst Sliced h (sliced (suc (length source - 0)) (record { at = 0; depth = 0; width = 0 }))
