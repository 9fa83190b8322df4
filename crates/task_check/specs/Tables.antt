-- Tables by the bytes of names.
use Rattle.std.specs.Prelude.{◌≡◌, ℕ, List, Option}
use denote.Ref.{Bor}
use Rattle.std.specs.Ordering.{nat_cmp}
use Rattle.std.specs.Cmp.Lexicographic.{slice_cmp}
use Rattle.std.specs.BTreeMap.{BTreeMap, get_by}
use Rattle.task_ast.specs.declared.WordType.{WordType}
use Rattle.task_ast.specs.declared.SharedDeclaration.{SharedDeclaration}
use Rattle.task_check.specs.SharedTypes.{type_in}

-- what a name stands for
abbrev pub found : {T : Type 0} → BTreeMap (Bor (List ℕ)) T → List ℕ → Option T
found table name = get_by (λ k. slice_cmp nat_cmp name k.now) table

-- the table has the type of the first shared variable of each name
abbrev pub HasTypes : List ℕ → List SharedDeclaration → BTreeMap (Bor (List ℕ)) WordType → Type 0
HasTypes source shared table = (name : List ℕ) → found table name ≡ type_in source name shared
