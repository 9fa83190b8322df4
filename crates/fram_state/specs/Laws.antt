-- What holds of the answers about states.
use Rattle.std.specs.Prelude.{◌≡◌, ℕ, List, length, Some, Result, Ok}
use Rattle.image_text.specs.address_space.Limits.{fram_first, fram_words}
use Rattle.image_text.specs.image_map.MapValue.{MapValue}
use Rattle.image_text.specs.ImageValue.{ImageValue}
use Rattle.state_text.specs.declared.state.State.{State}
use Rattle.fram_state.specs.declared.fault.StateFault.{StateFault}
use Rattle.fram_state.specs.OtherImage.{first_other, IsFirstOther}
use Rattle.fram_state.specs.Belongs.{Belongs, IsAnswer}
use Rattle.fram_state.specs.declared.migration.MigrateFault.{MigrateFault}
use Rattle.fram_state.specs.declared.migration.MigrateFault.TheVariants.{Memory}
use Rattle.fram_state.specs.Migrated.{EditionValue, CanMigrate, IsFault}

-- about an image and a state there is one answer
abbrev pub AnswersAreOne : Type 0
AnswersAreOne = (image : ImageValue) (s : State) (a b : Result (Unit {0}) StateFault) → IsAnswer image s a → IsAnswer image s b → a ≡ b

-- so many words are an image's
pub record AreImages (image words : List ℕ) : Type 0 where
  pub of_image : length image ≡ fram_words
  pub of_state : length words ≡ fram_words

-- a state that belongs to an image is taken
abbrev pub BelongingStatesAreTaken : Type 0
BelongingStatesAreTaken = (image : ImageValue) (s : State) → AreImages image.words s.image.words → Belongs image s → IsAnswer image s (Ok tt)

-- the word that is told is the first one, by its address
abbrev pub OtherWordsAreFirst : Type 0
OtherWordsAreFirst = (m : MapValue) (image words : List ℕ) (a : ℕ) → AreImages image words → first_other m image words fram_first ≡ Some a
    → IsFirstOther m image words a

-- of a state that can be migrated no other fault is told than want of memory
abbrev pub NoMigrationIsRefused : Type 0
NoMigrationIsRefused = (old new : EditionValue) (fault : MigrateFault) → CanMigrate old new → IsFault old new fault → fault ≡ Memory
