-- The names of a source.
use Rattle.std.specs.Prelude.{◌≡◌, ℕ, true, List, [], ◌++◌, All, map}
use Rattle.task_ast.specs.Paths.{CheckedProgram}
use Rattle.task_ast.specs.declared.Extent.{Extent}
use Rattle.task_ast.specs.declared.Extent.TheVariants.{Scalar, Long, Array}
use Rattle.image_map.specs.Names.{is_name}
use Rattle.image_map.specs.MapValue.{are_different}
use Rattle.source_report.specs.SourceReport.{spelled}
use Rattle.source_meaning.specs.Acceptance.{Checks}

-- a variable has a word at least
abbrev pub HasWords : Extent → Type 0
HasWords (Scalar w) = Unit {0}
HasWords (Long n) = Unit {0}
HasWords (Array n) = n ≡ 0 → ⊥

-- the names of a source's variables and tasks are names, and all different; no array is empty
pub record HasNames (text : List ℕ) (p : CheckedProgram) : Type 0 where
  pub variables : All (λ d. is_name (spelled text d.name) ≡ true) p.shared
  pub tasks : All (λ t. is_name (spelled text t.name) ≡ true) p.tasks
  pub different : are_different [] (map (λ d. spelled text d.name) p.shared ++ map (λ t. spelled text t.name) p.tasks) ≡ true
  pub words : All (λ d. HasWords d.extent) p.shared

-- so it is with each source that no check refuses
abbrev pub NamesAreNames : Type 0
NamesAreNames = (text : List ℕ) (p : CheckedProgram) → Checks text p → HasNames text p
