-- The places that variables and tasks are given.
use Rattle.std.specs.Prelude.{◌≡◌, ℕ, ◌+◌, ◌*◌, ◌%◌, ◌≤◌, Bool, true, false, if◌then◌else◌, List, length, map, Option, Some, None, All, slice_get}
use Rattle.std.specs.Prelude.{slice_index_or, IsSomeAnd}
use Rattle.std.specs.List.{flat_map}
use Rattle.task_ast.specs.declared.Extent.{Extent}
use Rattle.task_ast.specs.declared.Extent.TheVariants as extent
use Rattle.task_ast.specs.declared.SharedDeclaration.{SharedDeclaration}
use Rattle.cost_bound.specs.declared.allowance.Allow.{Allow}
use Rattle.cost_bound.specs.Summaries.{summaries}
use Rattle.cost_bound.specs.Allowance.{CheckedTask, CheckedProgram, shared_sum, version_part, total}
use Rattle.war_analysis.specs.PlanValue.{TaskPlanValue}
use Rattle.memory_map.specs.address_space.Limits.{fram_first, program_end}
use Rattle.memory_map.specs.Words.{row_words}
use Rattle.memory_map.specs.declared.place.ArrayCopies.{ArrayCopies}
use Rattle.memory_map.specs.declared.place.ScalarWidth.{ScalarWidth}
use Rattle.memory_map.specs.declared.place.ScalarWidth.TheVariants.{OneWord, TwoWords}
use Rattle.memory_map.specs.declared.place.VariablePlace.{VariablePlace}
use Rattle.memory_map.specs.declared.place.VariablePlace.TheVariants.{Scalar, Array}
use Rattle.memory_map.specs.declared.place.PrivateScalar.{PrivateScalar}
use Rattle.privatise.specs.declared.variables.Free.{Free}
use Rattle.privatise.specs.declared.sizes.Sizes.{Sizes}
use Rattle.memory_map.specs.declared.layouts.Regions.{Regions}
use Rattle.memory_map.specs.MemoryMap.{TaskPlace}
use Rattle.memory_map.specs.Places.{home_region, copy_regions, version_regions, code_regions, AreInOrder, HasItsPlace, end_of, list_entry_room}
use Rattle.privatise.specs.Sizes.{home_words, copy_part, copy_words, body_words, boot_words, commit_words}
use Rattle.privatise.specs.Routines.{KnownFunctions}
use Rattle.privatise.specs.Layouts.{IsTaskLayout}

-- copies and versions of an array at the free addresses, where it is written
abbrev pub copies_where : Bool → Free → Option ArrayCopies
copies_where written free = if written then Some (record { copies = free.copy; versions = free.version }) else None

-- a scalar at the free addresses
abbrev pub scalar_at : ScalarWidth → Free → VariablePlace
scalar_at width free = Scalar free.home free.copy width

-- a variable at the free addresses
abbrev pub place_at : Bool → Extent → Free → VariablePlace
place_at written (extent.Scalar _) free = scalar_at OneWord free
place_at written (extent.Long _) free = scalar_at TwoWords free
place_at written (extent.Array n) free = Array free.home n (copies_where written free)

-- the words of all copies and versions, where the written arrays are marked
abbrev pub copy_sum : List Bool → List SharedDeclaration → ℕ
copy_sum written shared = shared_sum (λ i extent. copy_part (slice_index_or written i false) extent) shared

-- the version words of all arrays that are written
abbrev pub version_sum : List Bool → List SharedDeclaration → ℕ
version_sum written shared = shared_sum (λ i extent. version_part (slice_index_or written i false) extent) shared

-- all variables have room from the free addresses on, which are even
pub record IsRoom (shared : List SharedDeclaration) (written : List Bool) (free : Free) : Type 0 where
  pub home : free.home + 2 * home_words shared ≤ program_end
  pub copy : free.copy + 2 * copy_sum written shared ≤ program_end
  pub version : free.version + 2 * version_sum written shared ≤ program_end
  pub even_home : free.home % 2 ≡ 0
  pub even_copy : free.copy % 2 ≡ 0
  pub even_version : free.version % 2 ≡ 0

-- the places of all variables, in order from the free addresses on
pub record ArePlaced (shared : List SharedDeclaration) (written : List Bool) (free : Free) (places : List VariablePlace) : Type 0 where
  pub count : length places ≡ length shared
  pub each : (i : ℕ) (d : SharedDeclaration) (place : VariablePlace) → slice_get shared i ≡ Some d → slice_get places i ≡ Some place
      → (at : Free) × (place ≡ place_at (slice_index_or written i false) d.extent at)
  pub homes : AreInOrder free.home (map home_region places) (free.home + 2 * home_words shared)
  pub copies : AreInOrder free.copy (flat_map copy_regions places) (free.copy + 2 * copy_sum written shared)
  pub versions : AreInOrder free.version (flat_map version_regions places) (free.version + 2 * version_sum written shared)

-- whether it is the place of a scalar
abbrev pub is_scalar_place : VariablePlace → Bool
is_scalar_place (Scalar _ _ _) = true
is_scalar_place (Array _ _ _) = false

-- the variable of a number has the place of a scalar
abbrev pub IsScalarPlaceAt : List VariablePlace → ℕ → Type 0
IsScalarPlaceAt places i = IsSomeAnd (slice_get places i) (λ place. is_scalar_place place ≡ true)

-- the scalars of these numbers, each with its place
pub record ArePrivates (variables : List VariablePlace) (plan : List ℕ) (privates : List PrivateScalar) : Type 0 where
  pub numbers : map (λ s. s.number) privates ≡ plan
  pub places : All (HasItsPlace variables) privates

-- a task's layout, its code from an address on
pub record IsPlacedTask (known : KnownFunctions) (shared : List SharedDeclaration) (places : List VariablePlace) (task : CheckedTask) (plan : TaskPlanValue)
    (at : ℕ) (t : TaskPlace) : Type 0 where
  pub layout : IsTaskLayout known shared task.body plan t
  pub privates : All (HasItsPlace places) t.privates
  pub address : t.code.address ≡ at

-- the layouts of all tasks, their code in order from an address on
pub record ArePlacedTasks (known : KnownFunctions) (shared : List SharedDeclaration) (places : List VariablePlace) (tasks : List CheckedTask)
    (plans : List TaskPlanValue) (address : ℕ) (layouts : List TaskPlace) : Type 0 where
  pub count : length layouts ≡ length tasks
  pub each : (k : ℕ) (task : CheckedTask) (plan : TaskPlanValue) (t : TaskPlace) → slice_get tasks k ≡ Some task → slice_get plans k ≡ Some plan
      → slice_get layouts k ≡ Some t → IsTaskLayout known shared task.body plan t
  pub privates : All (λ t. All (HasItsPlace places) t.privates) layouts
  pub code : AreInOrder address (flat_map code_regions layouts) (address + 2 * total (body_words known.summaries shared) tasks)

-- the words of a source's variables, of their copies, of the boot and of the tasks' code
pub record AreSizes (p : CheckedProgram) (sizes : Sizes) : Type 0 where
  pub homes : sizes.homes ≡ home_words p.shared
  pub copies : sizes.copies ≡ copy_words p
  pub boot : sizes.boot ≡ boot_words (summaries p) p.shared p.tasks
  pub code : sizes.code ≡ total (body_words (summaries p) p.shared) p.tasks

-- the words of the runtime, and behind them the regions of these sizes, one right behind another
pub record AreRegions (allow : Allow) (sizes : Sizes) (r : Regions) : Type 0 where
  pub row : r.row ≡ fram_first
  pub list : r.list.address ≡ r.row + 2 * row_words
  pub list_words : r.list.words ≡ list_entry_room * allow.list
  pub entries : r.entries ≡ allow.list
  pub emits : r.emits.address ≡ end_of r.list
  pub emits_words : r.emits.words ≡ allow.emits
  pub versions : r.versions.address ≡ end_of r.emits
  pub versions_words : r.versions.words ≡ allow.versions
  pub homes : r.homes.address ≡ end_of r.versions
  pub homes_words : r.homes.words ≡ sizes.homes
  pub copies : r.copies.address ≡ end_of r.homes
  pub copies_words : r.copies.words ≡ sizes.copies
  pub boot : r.boot.address ≡ end_of r.copies
  pub boot_words : r.boot.words ≡ sizes.boot
  pub commit : r.commit.address ≡ end_of r.boot
  pub commit_words : r.commit.words ≡ commit_words
  pub code : r.code.address ≡ end_of r.commit
  pub code_words : r.code.words ≡ sizes.code
