-- A store that is made where a program takes events.
use Rattle.std.proofs.Common.{◌≡◌, ℕ, [], ◌∷◌, Bool, true, false, refl}
use Rattle.machine_effects.specs.fram_board.Effects.{Store}
use Rattle.machine_effects.specs.World.{fram_after, EachStore}
use Rattle.machine_effects.specs.Inputs.{inputs_taken, no_inputs}
use Rattle.machine_effects.proofs.Interface.{put_other}
use Rattle.memory_map.specs.MemoryMap.{where_events}

-- it leaves any other word
pub where_leaves : (events : Bool) (a w b : ℕ) (f : ℕ → ℕ) → (events ≡ true → b ≡ a → ⊥) → fram_after (where_events events (Store a w ∷ [])) f b ≡ f b
where_leaves true a w b f other = put_other f a w b (other refl)
where_leaves false a w b f other = refl

-- what holds of it
pub where_stores : (P : ℕ → ℕ → Type 0) (events : Bool) (a w : ℕ) → (events ≡ true → P a w) → EachStore P (where_events events (Store a w ∷ []))
where_stores P true a w h = (h refl, tt)
where_stores P false a w h = tt

-- it takes nothing of what is ready
pub where_takes : (events : Bool) (a w : ℕ) → inputs_taken (where_events events (Store a w ∷ [])) ≡ no_inputs
where_takes true a w = refl
where_takes false a w = refl
