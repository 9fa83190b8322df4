-- Stretches of memory: the addresses from one on, up to another.
use Rattle.std.specs.Prelude.{◌≡◌, ℕ, ◌+◌, ◌*◌, ◌<◌, ◌≤◌, ◌&&◌, Bool, true, nat_le, nat_lt, List, Option, option_map, find}
use Rattle.std.specs.List.{list_any}
use Rattle.image_text.specs.address_space.Limits.{fram_end}
use Rattle.fram_state.specs.declared.stretch.Stretch.{Stretch}

-- so many words from an address on
abbrev pub words_at : ℕ → ℕ → Stretch
words_at a n = record { from = a; to = a + 2 * n }

-- whether an address is one of a stretch
abbrev pub holds : Stretch → ℕ → Bool
holds s a = nat_le s.from a && nat_lt a s.to

-- whether it is one of any of these
abbrev pub is_held : List Stretch → ℕ → Bool
is_held ss a = list_any (λ s. holds s a) ss

-- the end of the first of these that has an address
abbrev pub held_until : List Stretch → ℕ → Option ℕ
held_until ss a = option_map (λ s. s.to) (find (λ s. holds s a) ss)

-- each address from one on up to another passes a test
pub record AllUpTo (test : ℕ → Bool) (from to : ℕ) : Type 0 where
  pub below : from < to
  pub each : (a : ℕ) → from ≤ a → a < to → test a ≡ true

-- whether all of one stretch is in another
abbrev pub lies_in : Stretch → Stretch → Bool
lies_in s outer = nat_le outer.from s.from && nat_le s.to outer.to

-- whether a stretch that begins in the FRAM lies in it
abbrev pub fits_fram : Stretch → Bool
fits_fram s = nat_le s.to fram_end
