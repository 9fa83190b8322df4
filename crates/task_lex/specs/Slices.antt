-- What the slice of the source is that a token stands for, and what stands between tokens.
use Rattle.std.specs.Prelude.{◌≡◌, ◌<◌, ◌≤◌, ℕ, List, [], ◌∷◌, ◌++◌, drop, length, slice_range, Some, None}
use Rattle.task_lex.specs.declared.token.Token.{Token}
use Rattle.task_lex.specs.declared.token.Kind.{Kind}
use Rattle.task_lex.specs.declared.token.Kind.TheVariants as k
use Rattle.task_lex.specs.declared.piece.Piece.TheVariants as piece
use Rattle.task_lex.specs.declared.piece.Numeral.{Numeral}
use Rattle.task_lex.specs.Pieces.{Text, spelling, spelled, keywords, numeral}
use Rattle.task_lex.specs.Lexemes.{IsLexeme}

-- The bytes spell a token of this kind, value and high word: a keyword or a mark as it is spelled, a word that is no keyword, or a
-- numeral with what it is worth. Only numbers have a value.
pub data Spells : Text → Kind → ℕ → ℕ → Type 0 where
  -- a keyword or a mark
  fixed : (kind : Kind) → 0 < length (spelling kind) → Spells (spelling kind) kind 0 0
  -- a name
  name : (word : Text) → IsLexeme piece.Word word → length word ≤ 31 → spelled keywords word ≡ None
      → Spells word k.Name 0 0
  -- a number
  worth : (w : Text) (x : Numeral) → IsLexeme piece.Numeral w → numeral w ≡ Some x → Spells w x.kind x.value x.high

-- the token is a slice of the source, which spells it
abbrev pub IsSlice : Text → Token → Type 0
IsSlice source t = Spells (slice_range source t.span.from t.span.to) t.kind t.value t.high

-- blanks and comments, one after another
pub data IsGap : Text → Type 0 where
  -- none
  nothing : IsGap []
  -- one, then further ones
  more : (front rest : Text) → IsLexeme piece.Blank front → IsGap rest → IsGap (front ++ rest)

-- From the place on, in front of the tokens, between them and behind the last one stand blanks and comments alone.
abbrev pub AreGaps : Text → ℕ → List Token → Type 0
AreGaps source at [] = IsGap (drop at source)
AreGaps source at (t ∷ ts) = IsGap (slice_range source at t.span.from) × AreGaps source t.span.to ts
