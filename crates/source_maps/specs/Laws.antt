-- What holds of the map of a source.
use Rattle.std.specs.Prelude.{◌<◌, ◌≤◌, ℕ, List, length, All}
use Rattle.cost_bound.specs.declared.allowance.Allow.{Allow}
use Rattle.cost_bound.specs.Allowance.{CheckedProgram, IsAllowed}
use Rattle.privatise.specs.war_analysis.PlanValue.{TaskPlanValue}
use Rattle.privatise.specs.war_analysis.Plans.{IsPlan}
use Rattle.memory_map.specs.MemoryMap.{MemoryMap}
use Rattle.memory_map.specs.declared.runtime.Logging.{Logging}
use Rattle.privatise.specs.Layouts.{IsLayoutFor}
use Rattle.image_map.specs.Kept.{IsMap}
use Rattle.source_runs.specs.Naming.{IsMapOf}
use Rattle.source_maps.specs.Names.{HasNames}
use Rattle.source_maps.specs.Maps.{map_of}
use Rattle.source_maps.specs.Adding.{TakesSource}
use Rattle.source_maps.specs.Placing.{ArePlacesOf}

-- a source with names of its own, few variables and tasks, an allowance, a plan and a layout for some runtime
pub record IsLaidOutSource (text : List ℕ) (p : CheckedProgram) (allow : Allow) (plans : List TaskPlanValue) (l : MemoryMap) : Type 0 where
  pub names : HasNames text p
  pub few_shared : length p.shared ≤ 256
  pub few_tasks : length p.tasks ≤ 64
  pub allowed : IsAllowed p allow
  pub plan : IsPlan p plans
  pub logging : Logging
  pub layout : IsLayoutFor logging p allow plans l

-- the map keeps the rules of maps, names the source's variables and tasks, and can be made one line behind the other; each variable has a
-- place of its kind, and each private scalar is a variable
pub record IsSourceMap (text : List ℕ) (p : CheckedProgram) (allow : Allow) (l : MemoryMap) : Type 0 where
  pub is_map : IsMap (map_of text p l allow)
  pub of_source : IsMapOf text p (map_of text p l allow)
  pub takes : TakesSource text p l allow
  pub places : ArePlacesOf p.shared l.variables
  pub declared : All (λ t. All (λ s. s.number < length p.shared) t.privates) l.tasks

-- the names of an accepted source with its layout make a map
abbrev pub MapsAreOfSources : Type 0
MapsAreOfSources = (text : List ℕ) (p : CheckedProgram) (allow : Allow) (plans : List TaskPlanValue) (l : MemoryMap)
    → IsLaidOutSource text p allow plans l → IsSourceMap text p allow l
