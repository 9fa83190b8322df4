-- Code that a runtime has where it takes events.
use Rattle.std.proofs.Common.{◌≡◌, ℕ, ◌+◌, ◌%◌, ◌≤◌, List, [], ◌++◌, Bool, true, false, refl, subst, arith}
use Rattle.runtime_effects.specs.fram_board.Effects.{Effect}
use Rattle.runtime_effects.specs.machine_effects.Machine.{Code, IsPlace}
use Rattle.runtime_effects.specs.memory_map.MemoryMap.{where_events, with_events}
use Rattle.runtime_effects.specs.memory_map.event_places.Places.{tail_place, count_place, sent_place}
use Rattle.code_forms.specs.Forms.{Core, Form}
use Rattle.code_forms.specs.Code.{Stands, forms_bytes, anywhere}
use Rattle.code_forms.specs.Placed.{instructions, AreInstructions}
use Rattle.code_forms.proofs.Interface.{stands_back, no_steps}
use Rattle.runtime_code.specs.Comes.{Comes}

-- the words that count events are places
pub count_is_place : IsPlace count_place
count_is_place = record { even = refl; low = omega arith; high = omega arith }

pub tail_is_place : IsPlace tail_place
tail_is_place = record { even = refl; low = omega arith; high = omega arith }

pub sent_is_place : IsPlace sent_place
sent_is_place = record { even = refl; low = omega arith; high = omega arith }

-- at most so many
pub with_events_most : (events : Bool) (n : ℕ) → with_events events n ≤ n
with_events_most true n = omega arith
with_events_most false n = omega arith

-- two of them
pub with_events_sum : (events : Bool) (m n : ℕ) → with_events events m + with_events events n ≡ with_events events (m + n)
with_events_sum true m n = refl
with_events_sum false m n = refl

-- even ones
pub with_events_even : (events : Bool) (n : ℕ) → n % 2 ≡ 0 → with_events events n % 2 ≡ 0
with_events_even true n e = e
with_events_even false n e = refl

-- how long it is
pub where_bytes : (events : Bool) (ms : List Form) → forms_bytes (where_events events ms) ≡ with_events events (forms_bytes ms)
where_bytes true ms = refl
where_bytes false ms = refl

-- it is instructions
pub where_instructions : (events : Bool) (ms : List Form) → AreInstructions (instructions ms) → AreInstructions (instructions (where_events events ms))
where_instructions true ms h = h
where_instructions false ms h = tt

module _ (code : Code) (events : Bool) (ms : List Form) where
  -- what stands behind it
  pub behind_where : (p : ℕ) (rest : List Form) → Stands code p (where_events events ms ++ rest) → Stands code (p + with_events events (forms_bytes ms)) rest
  behind_where p rest h = subst (λ n. Stands code (p + n) rest) (where_bytes events ms) (stands_back code p (where_events events ms) rest h)

-- from an address on it makes its effects, or there is nothing to do
pub where_comes : (code : Code) (events : Bool) (ms : List Form) (es : List Effect) (steps cycles bytes p : ℕ) (Q : ℕ → List Effect → Core → Type 0) (u : Core)
    → (Stands code p ms → Comes code es steps cycles u (Q (p + bytes) es)) → Stands code p (where_events events ms) → Q p [] u
    → let is = where_events events es in Comes code is (with_events events steps) (with_events events cycles) u (Q (p + with_events events bytes) is)
where_comes code true ms es steps cycles bytes p Q u made h at = made h
where_comes code false ms es steps cycles bytes p Q u made h at =
    let e : p ≡ p + 0 = omega arith in no_steps (anywhere code) u _ (subst (λ n. Q n [] u) e at)
