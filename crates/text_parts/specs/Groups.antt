-- A list cut into groups of one size, the last of them perhaps shorter.
use Rattle.std.specs.Prelude.{◌≡◌, ℕ, ◌-◌, ◌==◌, ◌<◌, if◌then◌else◌, List, [], ◌∷◌, length, take, drop}

-- an item more at the front of the first group
abbrev pub onto_group : {A : Type 0} → A → List (List A) → List (List A)
onto_group x [] = (x ∷ []) ∷ []
onto_group x (g ∷ gs) = (x ∷ g) ∷ gs

-- groups of a size, where the first has so many places
unfoldable pub groups_from : {A : Type 0} → ℕ → ℕ → List A → List (List A)
groups_from size places [] = []
groups_from size places (x ∷ xs) = if places == 1 then (x ∷ []) ∷ groups_from size size xs else onto_group x (groups_from size (places - 1) xs)

-- groups of a size
abbrev pub groups : {A : Type 0} → ℕ → List A → List (List A)
groups size xs = groups_from size size xs

-- each group is the first items that are left: as many as the size says, or all
abbrev pub AreGroups : {A : Type 0} → ℕ → List (List A) → List A → Type 0
AreGroups size [] xs = xs ≡ []
AreGroups size (g ∷ gs) xs = (0 < length xs) × (g ≡ take size xs) × AreGroups size gs (drop size xs)
