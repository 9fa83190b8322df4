-- When an image is one of a source: its map has the lines that the source gives, wherever its variables stand, and a ring where the source has one.
use Rattle.std.specs.Prelude.{◌≡◌, ℕ, List, [], ◌∷◌, map, Option, Some, is_some}
use Rattle.image_text.specs.image_map.declared.parts.ValueType.{ValueType}
use Rattle.image_text.specs.image_map.declared.parts.Variable.{Variable}
use Rattle.image_text.specs.image_map.MapValue.{MapValue, TaskValue}
use Rattle.image_text.specs.ImageValue.{ImageValue}
use Rattle.task_ast.specs.declared.SharedDeclaration.{SharedDeclaration}
use Rattle.task_check.specs.path_checks.Firsts.{CheckedTask}
use Rattle.cost_bound.specs.Allowance.{uses_events}
use Rattle.war_analysis.specs.PlanValue.{TaskPlanValue}
use Rattle.war_analysis.specs.Plans.{IsPlan}
use Rattle.source_report.specs.source_values.Runs.{CheckedProgram}
use Rattle.source_report.specs.SourceReport.{spelled}
use Rattle.source_maps.specs.source_runs.Naming.{length_of}
use Rattle.source_maps.specs.Maps.{value_type_of, shared_name}

-- what the line of a variable says besides its address: its name, its type, and the length of an array
pub record Line : Type 0 where
  pub name : List ℕ
  pub value_type : ValueType
  pub length : Option ℕ

-- that of a map's variable
abbrev pub line_of : Variable → Line
line_of v = record { name = v.name; value_type = v.value_type; length = v.length }

-- that of a declaration
abbrev pub declared_line : List ℕ → SharedDeclaration → Line
declared_line text d = record { name = spelled text d.name; value_type = value_type_of d.word_type d.extent; length = length_of d.extent }

-- a task with the names of the scalars that are private in it by its plan
abbrev pub planned_task : List ℕ → List SharedDeclaration → CheckedTask → TaskPlanValue → TaskValue
planned_task text shared task plan = record { name = spelled text task.name; privates = map (shared_name text shared) plan.private_scalars }

-- the tasks, each with its plan
abbrev pub planned_tasks : List ℕ → List SharedDeclaration → List CheckedTask → List TaskPlanValue → List TaskValue
planned_tasks text shared (task ∷ tasks) (plan ∷ plans) = planned_task text shared task plan ∷ planned_tasks text shared tasks plans
planned_tasks text shared _ _ = []

-- a map has the lines that a source with this plan gives, addresses aside; and a ring exactly where the source uses events
pub record HasLinesOf (text : List ℕ) (p : CheckedProgram) (plans : List TaskPlanValue) (m : MapValue) : Type 0 where
  pub variables : map line_of m.variables ≡ map (declared_line text) p.shared
  pub tasks : m.tasks ≡ planned_tasks text p.shared p.tasks plans
  pub ring : is_some m.ring ≡ uses_events p

-- an image suits a source: it has a map, with the lines that the source gives
pub record Suits (text : List ℕ) (p : CheckedProgram) (image : ImageValue) : Type 0 where
  pub plans : List TaskPlanValue
  pub is_plan : IsPlan p plans
  pub named : MapValue
  pub mapped : image.map ≡ Some named
  pub lines : HasLinesOf text p plans named
