-- Whether a state is one of an image: it has the image's map and, where the map names nothing, its words.
use Rattle.std.specs.Prelude.{◌≡◌, ℕ, ◌+◌, ◌<◌, ◌==◌, ◌||◌, false, if◌then◌else◌, List, [], ◌∷◌, Option, Some, None}
use Rattle.image_text.specs.image_map.MapValue.{MapValue, IsFramWord}
use Rattle.image_text.specs.ImageValue.{ImageValue}
use Rattle.state_text.specs.declared.state.State.{State}
use Rattle.fram_state.specs.Named.{is_named}
use Rattle.fram_state.specs.Runtime.{word_in}

-- an image and a state have this map
pub record HaveMap (image : ImageValue) (s : State) (m : MapValue) : Type 0 where
  pub of_image : image.map ≡ Some m
  pub of_state : s.image.map ≡ Some m

-- they have no map in common: the image has none, or the state another one or none
abbrev pub HaveNoMap : ImageValue → State → Type 0
HaveNoMap image s = (m : MapValue) → HaveMap image s m → ⊥

-- the first address, of words from this one on, at which they differ and that the map doesn't name
abbrev pub first_other : MapValue → List ℕ → List ℕ → ℕ → Option ℕ
first_other m [] vs a = None
first_other m (w ∷ ws) [] a = None
first_other m (w ∷ ws) (v ∷ vs) a = if is_named m a || w == v then first_other m ws vs (a + 2) else Some a

-- each word that a map doesn't name is the same here and there
pub record SameBut (m : MapValue) (image words : List ℕ) : Type 0 where
  pub each : (a : ℕ) → IsFramWord a → is_named m a ≡ false → word_in words a ≡ word_in image a

-- the first address of a word that a map doesn't name and that isn't the same here and there
pub record IsFirstOther (m : MapValue) (image words : List ℕ) (a : ℕ) : Type 0 where
  pub word : IsFramWord a
  pub unnamed : is_named m a ≡ false
  pub differs : word_in words a ≡ word_in image a → ⊥
  pub first : (b : ℕ) → IsFramWord b → b < a → is_named m b ≡ false → word_in words b ≡ word_in image b
