-- How deep brackets nest in tokens and how long their rows are: the measures of the parser's calls.
use Rattle.std.specs.Prelude.{ℕ, ◌+◌, ◌-◌, ◌≤◌, if◌then◌else◌, List, [], ◌∷◌, ◌++◌}
use Rattle.task_lex.specs.declared.token.Token.{Token}
use Rattle.task_lex.specs.declared.token.Kind.{Kind}
use Rattle.task_lex.specs.Lex.{is_opening, is_closing, is_end}
use Rattle.task_lex.specs.Spans.{IsBounded}

-- how deep a token nests with those behind it, which nest so deep
abbrev pub nesting_by : Kind → ℕ → ℕ
nesting_by kind n = if is_opening kind then n + 1 else if is_closing kind then n - 1 else n

-- the most brackets that are open at once in the tokens, those left out that are open in front of them
unfoldable pub nesting : List Token → ℕ
nesting [] = 0
nesting (t ∷ ts) = nesting_by t.kind (nesting ts)

-- how many tokens of the row there are from a token on, where there are so many behind it
abbrev pub row_by : Kind → ℕ → ℕ
row_by kind n = if is_end kind then 0 else n + 1

-- the number of tokens in front of the next `;`, `{` or `}`
unfoldable pub row_length : List Token → ℕ
row_length [] = 0
row_length (t ∷ ts) = row_by t.kind (row_length ts)

-- Whatever is left of bounded tokens nests no deeper than 64 brackets, and no more than 256 tokens of it come before the
-- next `;`, `{` or `}`.
pub record NestingIsBounded : Type 0 where
  pub brackets : (front rest : List Token) → IsBounded 0 0 (front ++ rest) → nesting rest ≤ 64
  pub rows : (front rest : List Token) → IsBounded 0 0 (front ++ rest) → row_length rest ≤ 256
