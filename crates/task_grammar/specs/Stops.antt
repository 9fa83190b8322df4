-- Where tokens stop being the beginning of a program.
use Rattle.std.specs.Prelude.{◌≡◌, ◌<◌, ◌≤◌, ℕ, suc, List, ◌++◌, length, take, slice_get, Option, Some, None}
use Rattle.task_lex.specs.declared.token.Token.{Token}
use Rattle.task_lex.specs.Faults.{line_of}
use Rattle.task_grammar.specs.Parsed.{Program}
use Rattle.task_grammar.specs.Grammar.{IsProgram}

-- Some program begins with the tokens before i, and none with those up to i. The end of the text is a token.
pub record StopsAt (tokens : List Token) (i : ℕ) : Type 0 where
  pub within : i ≤ length tokens
  pub before : (more : List Token) × (tree : Program) × IsProgram (take i tokens ++ more) tree
  pub none : i < length tokens → (more : List Token) (tree : Program) → IsProgram (take (suc i) tokens ++ more) tree → ⊥
  pub none_ends : i ≡ length tokens → (tree : Program) → IsProgram tokens tree → ⊥

-- where the token begins, or the text's end
abbrev pub from_of : List ℕ → Option Token → ℕ
from_of source (Some t) = t.span.from
from_of source None = length source

-- the line of the token at i; the end of the text stands behind all its LFs
abbrev pub token_line : List ℕ → List Token → ℕ → ℕ
token_line source tokens i = line_of source (from_of source (slice_get tokens i))

-- tokens are one program, or stop at one place, and not both
pub record OneAnswer : Type 0 where
  pub one_tree : (tokens : List Token) (a b : Program) → IsProgram tokens a → IsProgram tokens b → a ≡ b
  pub one_stop : (tokens : List Token) (i j : ℕ) → StopsAt tokens i → StopsAt tokens j → i ≡ j
  pub no_program : (tokens : List Token) (i : ℕ) (tree : Program) → StopsAt tokens i → IsProgram tokens tree → ⊥
