-- What holds of the image of an accepted source.
use Rattle.std.specs.Prelude.{◌≡◌, ◌<◌, ◌≤◌, ◌⊎◌, ℕ, true, List, []}
use Rattle.address_space.specs.Limits.{program_end, reset_vector}
use Rattle.event_places.specs.Places.{handler_place, is_ring}
use Rattle.event_handler.specs.Handler.{HasHandler}
use Rattle.cost_bound.specs.declared.allowance.Allow.{Allow}
use Rattle.source_values.specs.Runs.{CheckedProgram, State, first_state}
use Rattle.source_meaning.specs.Acceptance.{IsAcceptedText}
use Rattle.image_text.specs.ImageValue.{ImageValue}
use Rattle.machine_effects.specs.World.{World}
use Rattle.machine_effects.specs.Machine.{IsFram, fram_of}
use Rattle.code_forms.specs.Placed.{Holds}
use Rattle.memory_map.specs.declared.runtime.Logging.{Logging}
use Rattle.memory_map.specs.MemoryMap.{MemoryMap}
use Rattle.stands_for.specs.StandsFor.{HoldsWords, IsAtRest, IsPendingCommit}
use Rattle.source_runs.specs.Transitions.{HasWordsOf}
use Rattle.lower.specs.Lowered.{lowered}
use Rattle.linked_code.specs.Linked.{CodeFits}
use Rattle.compiled_model.specs.Places.{program_places}
use Rattle.compiled_model.specs.View.{state_in, state_left}
use Rattle.compiled_model.specs.Parts.{compiled_model}
use Rattle.image_laws.specs.Words.{code_words}
use Rattle.source_maps.specs.Maps.{map_of}
use Rattle.image_laws.specs.Compiled.{IsCompiledFor, IsCompiled, IsImageFor}

-- the world of an image before anything was done
abbrev pub fresh_world : ImageValue → World
fresh_world image = record { fram = fram_of image.words; accepted = [] }

-- a fresh image: the code has room in the layout and stands from the boot's address on, which is the reset vector; where the source takes
-- events the handler stands, and its ring is empty; its world rests at the source's first state, and has that state's words
pub record IsFreshImage (text : List ℕ) (p : CheckedProgram) (allow : Allow) (l : MemoryMap) (image : ImageValue) : Type 0 where
  pub fits : CodeFits l (lowered l p)
  pub code : Holds (fram_of image.words) l.boot.address (code_words p l)
  pub vector : fram_of image.words reset_vector ≡ l.boot.address
  pub handler : l.runtime.events ≡ true → HasHandler (fram_of image.words)
  pub ring : (a : ℕ) → IsFram a → program_end ≤ a → a < handler_place ⊎ is_ring a ≡ true → fram_of image.words a ≡ 0
  pub rests : (compiled_model p l).Rests (first_state p) (fresh_world image)
  pub has_words : HasWordsOf (map_of text p l allow) (fresh_world image) (first_state p)

-- the image of an accepted source, for either runtime, rests at the source's first state, before any run
abbrev pub ImagesAreFresh : Type 0
ImagesAreFresh = (logging : Logging) (text : List ℕ) (p : CheckedProgram) (allow : Allow) (image : ImageValue) → IsAcceptedText text p allow
    → (c : IsCompiledFor logging text p allow image) → IsFreshImage text p allow c.layout image

-- where the world rests at a state of the source, the map finds the state's words in it
abbrev pub MapsFindStates : Type 0
MapsFindStates = (logging : Logging) (text : List ℕ) (p : CheckedProgram) (allow : Allow) (image : ImageValue) → IsAcceptedText text p allow
    → (c : IsCompiledFor logging text p allow image) → (s : State) (x : World) → (compiled_model p c.layout).Rests s x
    → HasWordsOf (map_of text p c.layout allow) x s

-- Each world of words has a state, which the map finds. Where no commit is pending the world rests at it, and a pending commit leaves the
-- state that the world has behind it
pub record HasStates (text : List ℕ) (p : CheckedProgram) (allow : Allow) (l : MemoryMap) : Type 0 where
  pub words : (x : World) → HoldsWords x.fram → HasWordsOf (map_of text p l allow) x (state_in l x)
  pub rest : (x : World) → IsAtRest (program_places p l) x → (compiled_model p l).Rests (state_in l x) x
  pub commit : (x : World) → IsPendingCommit (program_places p l) x → (compiled_model p l).Committing (state_left l x) x

-- so with the image of each accepted source that works in copies
abbrev pub ImagesHaveStates : Type 0
ImagesHaveStates = (text : List ℕ) (p : CheckedProgram) (allow : Allow) (image : ImageValue) → IsAcceptedText text p allow
    → (c : IsCompiled text p allow image) → HasStates text p allow c.layout

-- an accepted text has one image for each runtime
abbrev pub ImagesAreOne : Type 0
ImagesAreOne = (logging : Logging) (text : List ℕ) (a b : ImageValue) → IsImageFor logging text a → IsImageFor logging text b → a ≡ b
