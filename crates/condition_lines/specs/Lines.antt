-- The lines of the `if`s of a text.
use Rattle.std.specs.Prelude.{ℕ, Bool, true, false, not, ◌&&◌, List, [], ◌∷◌, ◌++◌}
use Rattle.task_lex.specs.declared.token.Token.{Token}
use Rattle.task_lex.specs.declared.token.Kind.{Kind}
use Rattle.task_lex.specs.declared.token.Kind.TheVariants as k
use Rattle.task_lex.specs.Lex.{Lexed, tokens, fault, lexed}
use Rattle.task_lex.specs.Faults.{line_of}

abbrev pub is_if : Kind → Bool
is_if k.If = true
is_if _ = false

abbrev pub is_else : Kind → Bool
is_else k.Else = true
is_else _ = false

-- one line more where there is one
abbrev pub line_if : Bool → ℕ → List ℕ
line_if true line = line ∷ []
line_if false line = []

-- the lines of tokens `if` that don't stand right behind an `else`, by whether one stands in front of the first
abbrev pub lines_from : List ℕ → Bool → List Token → List ℕ
lines_from source behind_else [] = []
lines_from source behind_else (t ∷ more) =
    line_if (is_if t.kind && not behind_else) (line_of source t.span.from) ++ lines_from source (is_else t.kind) more

abbrev pub lines_in : List ℕ → Lexed → List ℕ
lines_in source (tokens ts) = lines_from source false ts
lines_in source (fault flaw at) = []

-- the line of each `if` of a text, in its order: each begins the conditions of one statement
abbrev pub if_lines : List ℕ → List ℕ
if_lines source = lines_in source (lexed source)
