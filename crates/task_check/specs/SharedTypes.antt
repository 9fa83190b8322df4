-- The types of names, as far as the uses of a source ask for them: which expressions are long.
use Rattle.std.specs.Prelude.{ℕ, List, [], ◌∷◌, Option, Some, None, unwrap_or}
use Rattle.std.specs.Option.{option_or}
use Rattle.std.specs.Str.{bytes_eq}
use Rattle.alp_text.specs.declared.lines.Span.{Span}
use Rattle.task_ast.specs.declared.WordType.{WordType}
use Rattle.task_ast.specs.declared.WordType.TheVariants.{Unsigned}
use Rattle.task_ast.specs.declared.SharedDeclaration.{SharedDeclaration}
use Rattle.task_check.specs.Scope.{text_of, if_named}

-- the type of the first shared variable of the name
abbrev pub type_in : List ℕ → List ℕ → List SharedDeclaration → Option WordType
type_in source name [] = None
type_in source name (d ∷ more) = option_or (if_named (bytes_eq (text_of source d.name) name) (Some d.word_type)) (type_in source name more)

-- The type of a name, of a shared variable its own, else unsigned: what is no shared variable isn't long. A local has the name of no
-- shared variable, where no name is repeated.
unfoldable pub shared_type : List ℕ → List SharedDeclaration → Span → WordType
shared_type source shared s = unwrap_or (type_in source (text_of source s) shared) Unsigned
