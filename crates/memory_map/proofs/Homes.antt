-- The words of the variables.
use Rattle.std.proofs.Common.{◌≡◌, ℕ, List, [], ◌∷◌, sym, ◌∙◌, subst}
use Rattle.std.specs.List.{flat_map}
use Rattle.std.proofs.lemmas.List.Concat.{flat_map_single}
use Rattle.memory_map.specs.declared.place.Region.{Region}
use Rattle.memory_map.specs.declared.place.VariablePlace.{VariablePlace}
use Rattle.memory_map.specs.MemoryMap.{MemoryMap}
use Rattle.memory_map.specs.Places.{end_of, AreInOrder, home_region, IsLaidOut}
use Rattle.memory_map.specs.Spots.{IsWordOf}
use Rattle.memory_map.proofs.InRegions.{Row, IsIn, IsSingle, IsBetween, within, one_word, alone, alone_is}

-- a variable's words as a list of one region
abbrev pub homes_of : VariablePlace → List Region
homes_of v = home_region v ∷ []

pub homes_single : IsSingle homes_of
homes_single x r q c d = sym (alone_is (home_region x) r c) ∙ alone_is (home_region x) q d

pub homes_in_order : (l : MemoryMap) → IsLaidOut l → AreInOrder l.homes.address (flat_map homes_of l.variables) (end_of l.homes)
homes_in_order l h = subst (λ rs. AreInOrder l.homes.address rs (end_of l.homes)) (sym (flat_map_single home_region l.variables)) h.homes

abbrev homes_row : (l : MemoryMap) → IsLaidOut l → Row
homes_row l h = record { regions = homes_of; variables = l.variables; from = l.homes.address; end = end_of l.homes; ordered = homes_in_order l h }

pub in_homes : (l : MemoryMap) (v i a : ℕ) → IsWordOf l v i a → IsIn homes_of l.variables v i a
in_homes l v i a w =
    record { place = w.place; region = home_region w.place; at = w.at; contains = alone (home_region w.place); below = w.below; address = w.address }

pub home_between : (l : MemoryMap) → IsLaidOut l → (v i a : ℕ) → IsWordOf l v i a → IsBetween l.homes.address a (end_of l.homes)
home_between l h v i a w = within (homes_row l h) v i a (in_homes l v i a w)

-- no two words of variables stand at one address
pub one_home : (l : MemoryMap) → IsLaidOut l → (v i w j a : ℕ) → IsWordOf l v i a → IsWordOf l w j a → (v ≡ w) × (i ≡ j)
one_home l h v i w j a s t = one_word (homes_row l h) v w i j a homes_single (in_homes l v i a s) (in_homes l w j a t)
