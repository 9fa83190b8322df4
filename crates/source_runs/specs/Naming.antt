-- A map that is a source's.
use Rattle.std.specs.Prelude.{◌≡◌, ℕ, List, [], ◌∷◌, map, Option, Some, None}
use Rattle.task_ast.specs.declared.SharedDeclaration.{SharedDeclaration}
use Rattle.task_ast.specs.declared.Extent.{Extent}
use Rattle.task_ast.specs.declared.Extent.TheVariants.{Scalar, Long, Array}
use Rattle.image_map.specs.declared.parts.Variable.{Variable}
use Rattle.image_map.specs.MapValue.{MapValue, is_long}
use Rattle.source_values.specs.Runs.{CheckedProgram, is_long_extent}
use Rattle.source_report.specs.SourceReport.{spelled}

-- the length of an array; nothing for a scalar
abbrev pub length_of : Extent → Option ℕ
length_of (Scalar w) = None
length_of (Long n) = None
length_of (Array n) = Some n

-- a map's variables are these declarations', by name, length and whether it is a long, in order
abbrev pub AreVariablesOf : List ℕ → List Variable → List SharedDeclaration → Type 0
AreVariablesOf text [] [] = Unit {0}
AreVariablesOf text [] (d ∷ ds) = ⊥
AreVariablesOf text (v ∷ vs) [] = ⊥
AreVariablesOf text (v ∷ vs) (d ∷ ds) = (v.name ≡ spelled text d.name) × (v.length ≡ length_of d.extent)
    × (is_long v.value_type ≡ is_long_extent d.extent) × AreVariablesOf text vs ds

-- a map names the shared variables and the tasks of a source, in order
pub record IsMapOf (text : List ℕ) (program : CheckedProgram) (m : MapValue) : Type 0 where
  pub variables : AreVariablesOf text m.variables program.shared
  pub tasks : map (λ t. t.name) m.tasks ≡ map (λ t. spelled text t.name) program.tasks
