-- The tokens of a text: no more than 256 of them stand in a row, and each number is a word or two.
use Rattle.std.proofs.Common.{◌≡◌, ℕ, zero, suc, ◌+◌, ◌-◌, ◌/◌, ◌%◌, ◌≤◌, Bool, true, false, cond, ◌&&◌, ◌==◌, not, nat_lt, nat_le, List, [], ◌∷◌, length}
use Rattle.std.proofs.Common.{drop, take}
use Rattle.std.proofs.Common.{refl, subst, arith, Option, Some, None, Result, Ok, Err}
use Rattle.std.proofs.lemmas.Bool.Decides.{nat_tests}
use Rattle.alp_words.specs.Words.{IsWord}
use Rattle.alp_text.specs.Numbers.{number_of}
use Rattle.alp_text.specs.declared.numbers.NumberFault.{NumberFault}
use Rattle.task_lex.specs.declared.token.Token.{Token}
use Rattle.task_lex.specs.declared.token.Kind.{Kind}
use Rattle.task_lex.specs.declared.token.Kind.TheVariants as k
use Rattle.task_lex.specs.declared.piece.Piece.{Piece}
use Rattle.task_lex.specs.declared.piece.Piece.TheVariants as piece
use Rattle.task_lex.specs.declared.piece.Numeral.{Numeral}
use Rattle.task_lex.specs.declared.step.Place.{Place}
use Rattle.task_lex.specs.declared.step.Step.{Step}
use Rattle.task_lex.specs.declared.step.Step.TheVariants.{Skip, Take, Fails}
use Rattle.task_lex.specs.declared.fault.Flaw.TheVariants as flaw
use Rattle.task_lex.specs.Pieces.{is_zero_led, up_to, piece_of, number_to, has_suffix, word_numeral, long_numeral, numeral, word_kind}
use Rattle.task_lex.specs.Lex.{Lexed, tokens, fault, with_front, after, step, step_by, counted, numbered, is_opening, is_end, depth_after, width_after}
use Rattle.task_lex.specs.Lex.{lex_within, lex_from, lexed}
use Rattle.task_lex.proofs.Interface.{wide}

-- the number of a token is of words
abbrev pub OfWords : Token → Type 0
OfWords t = IsWord t.value × IsWord t.high

-- behind so many tokens in a row, tokens of which no more than 256 stand in a row, and with words for numbers
abbrev pub AreSound : ℕ → List Token → Type 0
AreSound width [] = Unit {0}
AreSound width (t ∷ ts) = (width_after t.kind width ≤ 256) × OfWords t × AreSound (width_after t.kind width) ts

-- ---- numerals are worth words

at_most : (most : ℕ) (r : Result ℕ NumberFault) (value : ℕ) → up_to most r ≡ Some value → value ≤ most
at_most most (Ok n) value h = go (nat_le n most) refl h
  where
    go : (b : Bool) → nat_le n most ≡ b → cond b (Some n) None ≡ Some value → value ≤ most
    go true e h = let same : n ≡ value = cc in let within : n ≤ most = grind (arith, nat_tests, e) in omega (arith, same, within)
    go false e h = absurd (cc)
at_most most (Err e) value h = absurd (cc)

number_at_most : (most : ℕ) (w : List ℕ) (value : ℕ) → number_to most w ≡ Some value → value ≤ most
unfolding number_to
number_at_most most w value h = go (is_zero_led w) h
  where
    go : (b : Bool) → cond b None (up_to most (number_of w)) ≡ Some value → value ≤ most
    go true h = absurd (cc)
    go false h = at_most most (number_of w) value h

-- the number of a numeral is of words
abbrev NumeralOfWords : Numeral → Type 0
NumeralOfWords x = IsWord x.value × IsWord x.high

word_of_words : (o : Option ℕ) (x : Numeral) → ((n : ℕ) → o ≡ Some n → n ≤ 65535) → word_numeral o ≡ Some x → NumeralOfWords x
word_of_words None x most h = absurd (cc)
word_of_words (Some n) x most h =
    let one : Numeral = record { kind = k.Number; value = n; high = 0 } in
    let is : one ≡ x = cc in
    let within = most n refl in
    subst NumeralOfWords is (omega (arith, within), omega arith)

long_of_words : (o : Option ℕ) (x : Numeral) → ((n : ℕ) → o ≡ Some n → n ≤ 4294967295) → long_numeral o ≡ Some x → NumeralOfWords x
long_of_words None x most h = absurd (cc)
long_of_words (Some n) x most h =
    let one : Numeral = record { kind = k.LongNumber; value = n % 65536; high = n / 65536 } in
    let is : one ≡ x = cc in
    let within = most n refl in
    subst NumeralOfWords is (omega arith, omega (arith, within))

numeral_of_words : (w : List ℕ) (x : Numeral) → numeral w ≡ Some x → NumeralOfWords x
unfolding numeral
numeral_of_words w x h = go (has_suffix w) h
  where
    digits : List ℕ
    digits = take (length w - 2) w

    go : (b : Bool) → cond b (long_numeral (number_to 4294967295 digits)) (word_numeral (number_to 65535 w)) ≡ Some x → NumeralOfWords x
    go true h = long_of_words (number_to 4294967295 digits) x (λ n e. number_at_most 4294967295 digits n e) h
    go false h = word_of_words (number_to 65535 w) x (λ n e. number_at_most 65535 w n e) h

-- ---- steps

-- what a step takes is sound, and counts the row on
abbrev StepSound : Place → Step → Type 0
StepSound p (Skip q) = q.width ≡ p.width
StepSound p (Take t q) = (q.width ≡ width_after t.kind p.width) × (q.width ≤ 256) × OfWords t
StepSound p (Fails f) = Unit {0}

counted_sound : (p : Place) (n : ℕ) (kind : Kind) (value high : ℕ) → p.width ≤ 256 → IsWord value × IsWord high → StepSound p (counted p n kind value high)
unfolding counted
counted_sound p n kind value high width words = go (is_opening kind && p.depth == 64) (not (is_end kind) && p.width == 256) refl
  where
    taken : Token
    taken = record { kind = kind; span = record { from = p.at; to = p.at + n }; value = value; high = high }

    next : Place
    next = record { at = p.at + n; depth = depth_after kind (p.depth); width = width_after kind (p.width) }

    go : (a b : Bool) → (not (is_end kind) && p.width == 256) ≡ b → StepSound p (cond a (Fails flaw.TooDeep) (cond b (Fails flaw.TooWide) (Take taken next)))
    go true b e = tt
    go false true e = tt
    go false false e = (refl, wide (is_end kind) p.width width e, words)

sound_by : (text : List ℕ) (p : Place) (found : Piece) (n : ℕ) → p.width ≤ 256 → StepSound p (step_by text p found n)
sound_by text p piece.Blank n width = refl
sound_by text p piece.Word n width = go (nat_lt 31 n)
  where
    go : (b : Bool) → StepSound p (cond b (Fails flaw.BadName) (counted p n (word_kind (take n text)) 0 0))
    go true = tt
    go false = counted_sound p n (word_kind (take n text)) 0 0 width (omega arith, omega arith)
sound_by text p piece.Numeral n width = go (numeral (take n text)) refl
  where
    go : (o : Option Numeral) → numeral (take n text) ≡ o → StepSound p (numbered p n o)
    go None e = tt
    go (Some x) e = counted_sound p n x.kind x.value x.high width (numeral_of_words (take n text) x e)
sound_by text p (piece.Mark kind) n width = counted_sound p n kind 0 0 width (omega arith, omega arith)
sound_by text p piece.Bad n width = tt

step_sound : (source : List ℕ) (p : Place) → p.width ≤ 256 → StepSound p (step source p)
unfolding step
step_sound source p width = let text = drop (p.at) source in let found = piece_of text in sound_by text p found.0 found.1 width

-- ---- the whole text

abbrev Sound : ℕ → Lexed → Type 0
Sound width (tokens ts) = AreSound width ts
Sound width (fault f at) = Unit {0}

sound_front : (width : ℕ) (t : Token) (rest : Lexed) → width_after t.kind width ≤ 256 → OfWords t → Sound (width_after t.kind width) rest
    → Sound width (with_front (t ∷ []) rest)
sound_front width t (tokens ts) a b h = (a, b, h)
sound_front width t (fault f at) a b h = tt

sound_after : (go : Place → Lexed) (p : Place) (s : Step) → p.width ≤ 256 → StepSound p s → ((q : Place) → q.width ≤ 256 → Sound (q.width) (go q))
    → Sound (p.width) (after go (p.at) s)
sound_after go p (Skip q) width h next = subst (λ d. Sound d (go q)) h (next q (omega arith))
sound_after go p (Take t q) width h next = sound_front (p.width) t (go q) (omega (arith, h.0, h.1)) h.2 (subst (λ d. Sound d (go q)) h.0 (next q h.1))
sound_after go p (Fails f) width h next = tt

module _ (source : List ℕ) where
  sound_if : (width : ℕ) (b : Bool) (x : Lexed) → Sound width x → Sound width (cond b x (tokens []))
  sound_if width true x h = h
  sound_if width false x h = tt

  sound : (n : ℕ) (p : Place) → p.width ≤ 256 → Sound (p.width) (lex_within source n p)
  unfolding lex_within
  sound zero p width = tt
  sound (suc n) p width =
      sound_if (p.width) (nat_lt (p.at) (length source)) _
      (sound_after (lex_within source n) p (step source p) width (step_sound source p width) (λ q w. sound n q w))

  -- lexed tokens are sound
  pub are_sound : (ts : List Token) → lexed source ≡ tokens ts → AreSound 0 ts
  unfolding lex_from
  are_sound ts h = subst (Sound 0) h (sound (suc (length source - 0)) (record { at = 0; depth = 0; width = 0 }) (omega arith))
