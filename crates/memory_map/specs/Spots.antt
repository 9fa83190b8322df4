-- The words that a task works on: where each stands.
use Rattle.std.specs.Prelude.{◌≡◌, ℕ, ◌+◌, ◌*◌, ◌%◌, ◌<◌, ◌≤◌, ◌==◌, if◌then◌else◌, List, [], ◌∷◌, Option, Some, None, All, slice_get}
use Rattle.address_space.specs.Limits.{program_end}
use Rattle.memory_map.specs.declared.place.ArrayCopies.{ArrayCopies}
use Rattle.memory_map.specs.declared.place.VariablePlace.{VariablePlace}
use Rattle.memory_map.specs.declared.place.VariablePlace.TheVariants.{Scalar, Array}
use Rattle.memory_map.specs.declared.place.PrivateScalar.{PrivateScalar}
use Rattle.memory_map.specs.declared.place.RoutinePlace.{RoutinePlace}
use Rattle.memory_map.specs.MemoryMap.{MemoryMap, TaskPlace}
use Rattle.memory_map.specs.Places.{scalar_words, home_region, HasItsPlace, IsLaidOut}

-- ---- what a task has of a memory map

-- the memory map, the scalars that are private in the task, the number of the first local of the code that is at work, and the functions that the
-- task reaches
pub record Places : Type 0 where
  pub map : MemoryMap
  pub privates : List PrivateScalar
  pub first : ℕ
  pub routines : List RoutinePlace

-- those of a task in a memory map
abbrev pub places_of : MemoryMap → TaskPlace → Places
places_of m t = record { map = m; privates = t.privates; first = t.first; routines = t.routines }

-- the same where a function's code is at work, whose locals are its own
abbrev pub routine_places : Places → RoutinePlace → Places
routine_places p r = record p { first = r.first }

-- the function of a number, where it is among these
abbrev pub routine_among : List RoutinePlace → ℕ → Option RoutinePlace
routine_among [] number = None
routine_among (r ∷ more) number = if r.function == number then Some r else routine_among more number

-- where it is one that the task reaches
abbrev pub routine_of : Places → ℕ → Option RoutinePlace
routine_of p number = routine_among p.routines number

-- how many words private scalars have
abbrev pub private_words : List PrivateScalar → ℕ
private_words [] = 0
private_words (s ∷ more) = scalar_words s.width + private_words more

-- the copy of the variable of a number, where it is among these private scalars
abbrev pub copy_among : List PrivateScalar → ℕ → Option ℕ
copy_among [] number = None
copy_among (s ∷ more) number = if s.number == number then Some s.copy else copy_among more number

-- the first word of a scalar, or the first element of an array
abbrev pub home_in : Option VariablePlace → ℕ
home_in (Some (Scalar home copy width)) = home
home_in (Some (Array elements length copies)) = elements
home_in None = 0

-- that of the variable of a number
abbrev pub home_of : List VariablePlace → ℕ → ℕ
home_of variables number = home_in (slice_get variables number)

-- a copy, if there is one, else the home
abbrev pub copy_else : Option ℕ → ℕ → ℕ
copy_else (Some copy) home = copy
copy_else None home = home

-- the address of a shared variable in a task: that of its copy where it is private there, else that of its first word
abbrev pub address_of : Places → ℕ → ℕ
address_of p number = copy_else (copy_among p.privates number) (home_of p.map.variables number)

-- that of a word of a scalar
abbrev pub scalar_address : Places → ℕ → ℕ → ℕ
scalar_address p v i = 2 * i + address_of p v

-- ---- the variables at these places

-- the place of a scalar
abbrev pub IsScalarPlace : Option VariablePlace → Type 0
IsScalarPlace (Some (Scalar home copy width)) = Unit {0}
IsScalarPlace (Some (Array elements length copies)) = ⊥
IsScalarPlace None = ⊥

-- the number of a shared scalar
abbrev pub IsScalarAt : Places → ℕ → Type 0
IsScalarAt p v = IsScalarPlace (slice_get p.map.variables v)

-- how many words the scalar at a place has: none where there is no scalar
abbrev pub words_at : Option VariablePlace → ℕ
words_at (Some (Scalar home copy width)) = scalar_words width
words_at (Some (Array elements length copies)) = 0
words_at None = 0

-- the shared scalar of a number has a word of this index
abbrev pub IsScalarWord : Places → ℕ → ℕ → Type 0
IsScalarWord p v i = i < words_at (slice_get p.map.variables v)

-- the number of a shared array, with its elements and its copies, if it has any
pub record IsArrayAt (p : Places) (v elements length : ℕ) (copies : Option ArrayCopies) : Type 0 where
  pub place : slice_get p.map.variables v ≡ Some (Array elements length copies)

-- an element of a shared array
pub record Element : Type 0 where
  pub array : ℕ
  pub index : ℕ

-- an array has this element
pub record IsElement (p : Places) (x : Element) : Type 0 where
  pub elements : ℕ
  pub length : ℕ
  pub copies : Option ArrayCopies
  pub is_array : IsArrayAt p x.array elements length copies
  pub below : x.index < length

-- an array has this element, and a copy of it
pub record IsCopied (p : Places) (x : Element) : Type 0 where
  pub elements : ℕ
  pub length : ℕ
  pub copies : ArrayCopies
  pub is_array : IsArrayAt p x.array elements length (Some copies)
  pub below : x.index < length

-- ---- their addresses

-- a word that a task works on: a word of a scalar as the task has it, an element, its copy, or its version word
pub data Spot : Type 0 where
  scalar : (v i : ℕ) → Spot
  element : (x : Element) → Spot
  copy : (x : Element) → Spot
  version : (x : Element) → Spot

-- there is such a word
abbrev pub IsSpot : Places → Spot → Type 0
IsSpot p (scalar v i) = IsScalarWord p v i
IsSpot p (element x) = IsElement p x
IsSpot p (copy x) = IsCopied p x
IsSpot p (version x) = IsCopied p x

-- the address of word i of the elements, the copies or the version words of the array at a place
abbrev pub element_in : Option VariablePlace → ℕ → ℕ
element_in (Some (Array elements length copies)) i = 2 * i + elements
element_in (Some (Scalar _ _ _)) i = 0
element_in None i = 0

-- of its copy, 0 where it has none
abbrev pub copy_in : Option VariablePlace → ℕ → ℕ
copy_in (Some (Array elements length (Some c))) i = 2 * i + c.copies
copy_in (Some (Array elements length None)) i = 0
copy_in (Some (Scalar _ _ _)) i = 0
copy_in None i = 0

-- of its version word, 0 where it has none
abbrev pub version_in : Option VariablePlace → ℕ → ℕ
version_in (Some (Array elements length (Some c))) i = 2 * i + c.versions
version_in (Some (Array elements length None)) i = 0
version_in (Some (Scalar _ _ _)) i = 0
version_in None i = 0

-- the address of an element
abbrev pub element_address : Places → Element → ℕ
element_address p x = element_in (slice_get p.map.variables x.array) x.index

-- the address of its copy
abbrev pub copy_address : Places → Element → ℕ
copy_address p x = copy_in (slice_get p.map.variables x.array) x.index

-- the address of its version word
abbrev pub version_address : Places → Element → ℕ
version_address p x = version_in (slice_get p.map.variables x.array) x.index

-- the address of a word that a task works on
abbrev pub spot_address : Places → Spot → ℕ
spot_address p (scalar v i) = scalar_address p v i
spot_address p (element x) = element_address p x
spot_address p (copy x) = copy_address p x
spot_address p (version x) = version_address p x

-- word i of variable v stands at an address
pub record IsWordOf (l : MemoryMap) (v i a : ℕ) : Type 0 where
  pub place : VariablePlace
  pub at : slice_get l.variables v ≡ Some place
  pub below : i < (home_region place).words
  pub address : a ≡ 2 * i + (home_region place).address

-- ---- they stand apart

-- behind the first version word, at an even address in front of the program's end
pub record SpotStands (p : Places) (s : Spot) : Type 0 where
  pub even : spot_address p s % 2 ≡ 0
  pub from : p.map.versions.address ≤ spot_address p s
  pub end : spot_address p s + 2 ≤ program_end

-- each word that a task works on, at an address of its own
pub record SpotsStand (p : Places) : Type 0 where
  pub each : (s : Spot) → IsSpot p s → SpotStands p s
  pub distinct : (s t : Spot) → IsSpot p s → IsSpot p t → spot_address p s ≡ spot_address p t → s ≡ t

-- of each task whose private scalars have their places
abbrev pub SpotsAreApart : Type 0
SpotsAreApart = (m : MemoryMap) (t : TaskPlace) → IsLaidOut m → All (HasItsPlace m.variables) t.privates → SpotsStand (places_of m t)
