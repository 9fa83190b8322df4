-- Which states a board may go on from with an image, and what is answered about one.
use Rattle.std.specs.Prelude.{◌≡◌, ℕ, ◌⊎◌, List, Option, Some, None, Result, Ok, Err}
use Rattle.image_text.specs.address_space.Limits.{fram_first}
use Rattle.image_text.specs.image_map.MapValue.{MapValue}
use Rattle.image_text.specs.ImageValue.{ImageValue}
use Rattle.state_text.specs.declared.state.State.{State}
use Rattle.fram_state.specs.declared.fault.Rule.{Rule}
use Rattle.fram_state.specs.declared.fault.StateFault.{StateFault}
use Rattle.fram_state.specs.declared.fault.StateFault.TheVariants.{OtherMap, OtherWord, Unsound}
use Rattle.fram_state.specs.OtherImage.{HaveMap, HaveNoMap, first_other, SameBut}
use Rattle.fram_state.specs.Sound.{first_broken, IsSound}

-- a state belongs to an image: it has its map, its words where the map names nothing, and is sound
pub record Belongs (image : ImageValue) (s : State) : Type 0 where
  pub map : MapValue
  pub have : HaveMap image s map
  pub others : SameBut map image.words s.image.words
  pub sound : IsSound map s.image.words s.receiver

-- the answer of a first word that isn't the image's, and of a first rule that is broken
abbrev pub answer_of : Option ℕ → Option Rule → Result (Unit {0}) StateFault
answer_of (Some a) broken = Err (OtherWord a)
answer_of None (Some r) = Err (Unsound r)
answer_of None None = Ok tt

-- the answer about a state that has this map, as an image of these words has
abbrev pub answer_with : MapValue → List ℕ → State → Result (Unit {0}) StateFault
answer_with m image s = answer_of (first_other m image s.image.words fram_first) (first_broken m s.image.words s.receiver)

-- the answer about a state: by the map that it shares with the image, if they share one
abbrev pub IsAnswer : ImageValue → State → Result (Unit {0}) StateFault → Type 0
IsAnswer image s answer =
    ((m : MapValue) × HaveMap image s m × (answer ≡ answer_with m image.words s)) ⊎ (HaveNoMap image s × (answer ≡ Err OtherMap))
