-- The image of an accepted source.
use Rattle.std.specs.Prelude.{◌≡◌, ℕ, List, All, Some}
use Rattle.cost_bound.specs.declared.allowance.Allow.{Allow}
use Rattle.source_values.specs.Runs.{CheckedProgram}
use Rattle.war_analysis.specs.PlanValue.{TaskPlanValue}
use Rattle.war_analysis.specs.Plans.{IsPlan}
use Rattle.memory_map.specs.declared.runtime.Logging.{Logging}
use Rattle.memory_map.specs.declared.runtime.Logging.TheVariants.{Redo}
use Rattle.memory_map.specs.MemoryMap.{MemoryMap}
use Rattle.privatise.specs.Layouts.{IsLayoutFor}
use Rattle.array_versions.specs.Form.{OfWords}
use Rattle.image_text.specs.ImageValue.{ImageValue}
use Rattle.lower.specs.Lowered.{lowered}
use Rattle.source_meaning.specs.Acceptance.{IsAcceptedText}
use Rattle.image_laws.specs.Words.{AreImageWords}
use Rattle.source_maps.specs.Maps.{map_of}

-- an image has the words and the map of a source's layout for a runtime that logs so, of which there is one: that for the source's plan and its allowance
pub record IsCompiledFor (logging : Logging) (text : List ℕ) (p : CheckedProgram) (allow : Allow) (image : ImageValue) : Type 0 where
  pub plans : List TaskPlanValue
  pub layout : MemoryMap
  pub is_plan : IsPlan p plans
  pub is_layout : IsLayoutFor logging p allow plans layout
  pub of_words : All (λ q. OfWords q.own) (lowered layout p)
  pub words : AreImageWords p layout image.words
  pub map : image.map ≡ Some (map_of text p layout allow)

-- the image of a source that works in copies
abbrev pub IsCompiled : List ℕ → CheckedProgram → Allow → ImageValue → Type 0
IsCompiled = IsCompiledFor Redo

-- the text is accepted, and this is an image of it for a runtime that logs so
pub record IsImageFor (logging : Logging) (text : List ℕ) (image : ImageValue) : Type 0 where
  pub program : CheckedProgram
  pub allow : Allow
  pub accepted : IsAcceptedText text program allow
  pub compiled : IsCompiledFor logging text program allow image

-- and for the one that works in copies
abbrev pub IsImageOf : List ℕ → ImageValue → Type 0
IsImageOf = IsImageFor Redo
