-- A compiled source with its map.
use Rattle.std.specs.Prelude.{◌≡◌, ℕ, List}
use Rattle.image_map.specs.MapValue.{MapValue}
use Rattle.image_map.specs.Kept.{IsMap}
use Rattle.cost_bound.specs.Allowance.{bound_of, uses_events}
use Rattle.source_values.specs.Runs.{CheckedProgram, State}
use Rattle.source_values.specs.Running.{IsRunnable}
use Rattle.memory_map.specs.MemoryMap.{MemoryMap}
use Rattle.machine_effects.specs.World.{World}
use Rattle.model_runs.specs.Events.{IsInFront}
use Rattle.source_runs.specs.Naming.{IsMapOf}
use Rattle.source_maps.specs.Maps.{map_ring, map_words}
use Rattle.source_runs.specs.Transitions.{HasWordsOf}
use Rattle.compiled_model.specs.Parts.{compiled_model}

-- a map tells of a source with its layout: its variables and tasks, its bound, the runtime's words, all in front of the handler, its ring where the
-- source takes events, and where the words of each state are
pub record IsSourcesMap (text : List ℕ) (p : CheckedProgram) (l : MemoryMap) (m : MapValue) : Type 0 where
  pub runnable : IsRunnable p
  pub is_map : IsMap m
  pub of_source : IsMapOf text p m
  pub bound : m.bound ≡ bound_of p
  pub words : m.words ≡ map_words l
  pub ring : m.ring ≡ map_ring l
  pub runtime : l.runtime.events ≡ uses_events p
  pub front : IsInFront m
  pub rests : (s : State) (x : World) → (compiled_model p l).Rests s x → HasWordsOf m x s
