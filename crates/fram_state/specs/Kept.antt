-- What a new version of a source keeps of an old one.
use Rattle.std.specs.Prelude.{◌≡◌, ℕ, ◌==◌, ◌&&◌, Bool, true, false, cond, List, map, Option, Some, None, slice_get}
use Rattle.std.specs.List.{position_from}
use Rattle.std.specs.Str.{bytes_eq}
use Rattle.task_ast.specs.alp_text.Sequence.{◌>>?◌}
use Rattle.task_ast.specs.declared.WordType.{WordType}
use Rattle.task_ast.specs.declared.WordType.TheVariants.{Unsigned, Int, Long}
use Rattle.task_ast.specs.declared.Extent.{Extent}
use Rattle.task_ast.specs.declared.Extent.TheVariants.{Scalar, Array}
use Rattle.task_ast.specs.declared.Extent.TheVariants as extent
use Rattle.task_ast.specs.declared.SharedDeclaration.{SharedDeclaration}
use Rattle.task_ast.specs.declared.names.Variable.TheVariants.{Shared}
use Rattle.task_ast.specs.Paths.{CheckedBlock, CheckedFunction}
use Rattle.war_analysis.specs.path_sums.Access.{writes, SomePath, IsPrivate}
use Rattle.source_report.specs.source_values.Runs.{CheckedProgram}
use Rattle.source_report.specs.SourceReport.{spelled}

-- the number of the first of these names that is this one; nothing where none is
abbrev pub number_of : List (List ℕ) → List ℕ → Option ℕ
number_of names name = position_from (λ n. bytes_eq n name) 0 names

-- the names of a source's shared variables, and of its tasks
abbrev pub shared_names : List ℕ → List SharedDeclaration → List (List ℕ)
shared_names text shared = map (λ d. spelled text d.name) shared

abbrev pub task_names : List ℕ → CheckedProgram → List (List ℕ)
task_names text p = map (λ t. spelled text t.name) p.tasks

-- whether two types are the same
abbrev pub same_type : WordType → WordType → Bool
same_type Unsigned Unsigned = true
same_type Int Int = true
same_type Long Long = true
same_type _ _ = false

-- whether both are scalars of one width, or both arrays of one length
abbrev pub same_kind : Extent → Extent → Bool
same_kind (Scalar w) (Scalar v) = true
same_kind (extent.Long w) (extent.Long v) = true
same_kind (Array n) (Array m) = n == m
same_kind _ _ = false

-- whether two variables have the same type, kind and length
abbrev pub are_alike : SharedDeclaration → SharedDeclaration → Bool
are_alike d e = same_type d.word_type e.word_type && same_kind d.extent e.extent

-- the number, if the variable that has it is like this one
abbrev pub if_alike : List SharedDeclaration → SharedDeclaration → ℕ → Option ℕ
if_alike shared d j = slice_get shared j >>? λ e. cond (are_alike e d) (Some j) None

-- the number of the old variable from which a new one is kept: it has the same name, and is like it
abbrev pub kept_from : List ℕ → List SharedDeclaration → List ℕ → SharedDeclaration → Option ℕ
kept_from text shared name d = number_of (shared_names text shared) name >>? if_alike shared d

-- a task with this body, which may call these functions, writes the shared scalar of this number in place: some path of it does, and the scalar
-- isn't private in it
pub record IsInPlace (functions : List CheckedFunction) (code : CheckedBlock) (number : ℕ) : Type 0 where
  pub written : SomePath functions code (writes (Shared number))
  pub not_private : IsPrivate functions code (Shared number) → ⊥
