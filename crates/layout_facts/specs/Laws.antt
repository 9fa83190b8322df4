-- What the layout of a source gives to the layers above.
use Rattle.std.specs.Prelude.{◌≡◌, ◌↔◌, ℕ, ◌+◌, ◌*◌, ◌<◌, ◌≤◌, true, false, Option, Some, is_some, List, [], length, map, All, AllPairs, Contains, slice_get}
use Rattle.std.specs.Prelude.{slice_index, slice_index_or}
use Rattle.task_ast.specs.declared.Extent.TheVariants as extent
use Rattle.task_ast.specs.declared.SharedDeclaration.{SharedDeclaration}
use Rattle.memory_map.specs.declared.place.RoutinePlace.{RoutinePlace}
use Rattle.cost_bound.specs.Summaries.{summaries}
use Rattle.cost_bound.specs.declared.allowance.Allow.{Allow}
use Rattle.cost_bound.specs.Counts.{stores_of, assigns_of}
use Rattle.cost_bound.specs.Allowance.{CheckedProgram, CheckedTask, is_written, list_of, scalars_of}
use Rattle.war_analysis.specs.PlanValue.{TaskPlanValue}
use Rattle.war_analysis.specs.Plans.{IsPrivateIn}
use Rattle.war_analysis.specs.Plans as plan
use Rattle.memory_map.specs.declared.place.ArrayCopies.{ArrayCopies}
use Rattle.memory_map.specs.declared.place.ScalarWidth.{ScalarWidth}
use Rattle.memory_map.specs.declared.place.VariablePlace.{VariablePlace}
use Rattle.memory_map.specs.declared.place.VariablePlace.TheVariants.{Scalar, Array}
use Rattle.memory_map.specs.declared.place.PrivateScalar.{PrivateScalar}
use Rattle.memory_map.specs.declared.runtime.Logging.TheVariants.{Redo}
use Rattle.memory_map.specs.MemoryMap.{MemoryMap, TaskPlace}
use Rattle.memory_map.specs.Places.{scalar_words, HasItsPlace}
use Rattle.privatise.specs.Sizes.{home_part}
use Rattle.boot_runtime.specs.Entries.{task_entries}
use Rattle.boot_runtime.specs.Listing.{privates_in}
use Rattle.memory_map.specs.Laws.{AreApart}
use Rattle.stands_for.specs.Layout.{HaveRoom, ArePrivate, IsSharedWord, IsCopyWord}
use Rattle.memory_map.specs.Spots.{Places, address_of, Element, IsElement, IsCopied, element_address, copy_address}
use Rattle.memory_map.specs.Spots.{version_address, IsWordOf, private_words}
use Rattle.lower.specs.Spots.{HasRoom}
use Rattle.lower.specs.Spots as spots
use Rattle.lower.specs.Agreement.{place_length, AsDeclared, HasCopies}
use Rattle.checked_trees.specs.WellFormed.{WellFormedBlock}
use Rattle.path_sums.specs.Access.{writes, SomePath, IsPrivate}
use Rattle.task_ast.specs.declared.names.Variable.TheVariants.{Shared}
use Rattle.source_values.specs.Runs.{task_body}
use Rattle.lower.specs.Seen.{some_path_writes}
use Rattle.compiled_model.specs.Places.{is_private_in, program_places}
use Rattle.compiled_model.specs.View.{shared_word, are_rows, state_view, state_in, state_left}
use Rattle.compiled_model.specs.Parts.{compiled_model, private_homes}
use Rattle.undo_states.specs.States.{AreLogged}
use Rattle.machine_effects.specs.World.{World}
use Rattle.stands_for.specs.StandsFor.{HoldsWords, IsAtRest, IsPendingCommit}
use Rattle.layout_facts.specs.Facts.{HasLayout, IsTaskAt, task_room, task_places}

-- what holds of each source and its layout
abbrev OfLayouts : (CheckedProgram → MemoryMap → Type 0) → Type 0
OfLayouts F = (p : CheckedProgram) (allow : Allow) (plans : List TaskPlanValue) (l : MemoryMap) → HasLayout p allow plans l → F p l

-- what holds of each of its tasks
abbrev OfTasks : (CheckedProgram → MemoryMap → CheckedTask → TaskPlace → Type 0) → Type 0
OfTasks F = OfLayouts (λ p l. (t : ℕ) (task : CheckedTask) (layout : TaskPlace) → IsTaskAt p l t task layout → F p l task layout)

-- ---- as the crash theorem takes places

-- the places stand apart
abbrev pub PlacesAreApart : Type 0
PlacesAreApart = OfLayouts (λ p l. AreApart l)

-- the buffers have room for each task
abbrev pub TasksHaveRoom : Type 0
TasksHaveRoom = OfLayouts (λ p l. HaveRoom (program_places p l))

-- what the boot copies for a task is private there; it copies nothing for numbers beyond the tasks
abbrev pub PrivatesAreTheirs : Type 0
PrivatesAreTheirs = OfLayouts (λ p l. (t : ℕ) → ArePrivate (program_places p l) t (privates_in (task_entries l) t))

-- what the undo runtime's start lists for a task are the words of its private scalars, for which the task's list has room; nothing for numbers
-- beyond the tasks
abbrev pub PrivatesAreLogged : Type 0
PrivatesAreLogged = OfLayouts (λ p l. (t : ℕ) → AreLogged (program_places p l) t (private_homes l t))

-- ---- as the lowering takes them

-- the words that a task works on stand apart, and behind what it lists and emits
abbrev pub TaskPlacesAreApart : Type 0
TaskPlacesAreApart = OfTasks (λ p l task layout. spots.AreApart (task_places p l task layout) (task_room p task))

-- all at even addresses
abbrev pub TaskPlacesAreEven : Type 0
TaskPlacesAreEven = OfTasks (λ p l task layout. spots.AreEven (task_places p l task layout))

-- different elements, of each array no more than there are stores to it, are no more than a task's list has beside the scalars that it assigns
abbrev pub ElementsAreStores : Type 0
ElementsAreStores = OfTasks (λ p l task layout. (xs : List Element) → spots.AreListed (task_places p l task layout) xs
    → ((v : ℕ) → spots.listed_of v xs ≤ stores_of (summaries p) v task.body)
    → length xs + scalars_of (summaries p) p.shared task.body ≤ list_of (summaries p) p.shared task.body)

-- the list has room for the private scalars and for as many different elements of each array as there are stores to it
abbrev pub ListsHaveRoom : Type 0
ListsHaveRoom = OfTasks (λ p l task layout. HasRoom (task_places p l task layout) (λ v. stores_of (summaries p) v task.body) (task_room p task))

-- ---- addresses and variables

-- each shared word is a word of a variable
abbrev pub SharedWordsAreOfVariables : Type 0
SharedWordsAreOfVariables = OfLayouts (λ p l. (a : ℕ) → IsSharedWord (program_places p l) a → (v i : ℕ) × IsWordOf l v i a)

-- and each word of a variable is a shared word
abbrev pub WordsOfVariablesAreShared : Type 0
WordsOfVariablesAreShared = OfLayouts (λ p l. (v i a : ℕ) → IsWordOf l v i a → IsSharedWord (program_places p l) a)

-- of one variable, and one of its words
abbrev pub EachIsOneWord : Type 0
EachIsOneWord = OfLayouts (λ p l. (v w i j a : ℕ) → IsWordOf l v i a → IsWordOf l w j a → (v ≡ w) × (i ≡ j))

-- the view of a state has there the word of the variable's row
abbrev pub ViewHasTheirWords : Type 0
ViewHasTheirWords = OfLayouts (λ p l. (rows : List (List ℕ)) (v i a : ℕ) → IsWordOf l v i a
    → shared_word l.variables rows a ≡ slice_index (slice_index_or rows v []) i)

-- rows of the declared lengths have the lengths of the places
abbrev pub RowsFitPlaces : Type 0
RowsFitPlaces = OfLayouts (λ p l. (rows : List (List ℕ)) (v : ℕ) (place : VariablePlace) → are_rows p.shared rows ≡ true
    → slice_get l.variables v ≡ Some place → (v < length rows) × (length (slice_index_or rows v []) ≡ place_length place))

-- A world of words has a state, whose shared words are the world's. Under redo the world rests at it where no commit is pending, and a pending commit
-- leaves the state that the world has behind it
pub record WorldsStand (p : CheckedProgram) (l : MemoryMap) : Type 0 where
  pub is_state : (x : World) → HoldsWords x.fram → (state_view p l).is_state (state_in l x) ≡ true
  pub shared : (x : World) (a : ℕ) → IsSharedWord (program_places p l) a → x.fram a ≡ (state_view p l).word (state_in l x) a
  pub rest : l.runtime.logging ≡ Redo → (x : World) → IsAtRest (program_places p l) x → (compiled_model p l).Rests (state_in l x) x
  pub commit : l.runtime.logging ≡ Redo → (x : World) → IsPendingCommit (program_places p l) x → (compiled_model p l).Committing (state_left l x) x

-- so with each source and its layout
abbrev pub WorldsHaveStates : Type 0
WorldsHaveStates = OfLayouts WorldsStand

-- an element's address is that of its word; its copy is a copy, its version word one of those that are counted
pub record ElementStands (p : CheckedProgram) (l : MemoryMap) (places : Places) : Type 0 where
  pub word : (x : Element) → IsElement places x → IsWordOf l x.array x.index (element_address places x)
  pub copy : (x : Element) → IsCopied places x → IsCopyWord (program_places p l) (copy_address places x)
  pub version : (x : Element) → IsCopied places x
      → (j : ℕ) × (j < l.versions.words) × (version_address places x ≡ l.versions.address + 2 * j)

-- so with each element that a task works on
abbrev pub ElementsStand : Type 0
ElementsStand = OfTasks (λ p l task layout. ElementStands p l (task_places p l task layout))

-- each word of a scalar is a word of the variable, its copy a copy
pub record ScalarStands (p : CheckedProgram) (l : MemoryMap) (v home copy : ℕ) (width : ScalarWidth) : Type 0 where
  pub is_word : (i : ℕ) → i < scalar_words width → IsWordOf l v i (2 * i + home)
  pub is_copy : (i : ℕ) → i < scalar_words width → IsCopyWord (program_places p l) (2 * i + copy)

-- so with each scalar
abbrev pub ScalarsStand : Type 0
ScalarsStand = OfLayouts (λ p l. (v home copy : ℕ) (width : ScalarWidth) → slice_get l.variables v ≡ Some (Scalar home copy width)
    → ScalarStands p l v home copy width)

-- ---- declarations and places

-- a place of a variable is of the kind that the source declares, a scalar as wide, and an array has copies exactly where some task writes
-- it
pub record PlacesMatch (p : CheckedProgram) (l : MemoryMap) : Type 0 where
  pub count : length l.variables ≡ length p.shared
  pub scalar : (v : ℕ) → plan.IsScalarAt p.shared v
      → (home copy : ℕ) × (width : ScalarWidth) × (slice_get l.variables v ≡ Some (Scalar home copy width))
  pub is_scalar : (v home copy : ℕ) (width : ScalarWidth) → slice_get l.variables v ≡ Some (Scalar home copy width) → plan.IsScalarAt p.shared v
  pub is_wide : (v home copy : ℕ) (width : ScalarWidth) (d : SharedDeclaration) → slice_get l.variables v ≡ Some (Scalar home copy width)
      → slice_get p.shared v ≡ Some d → scalar_words width ≡ home_part d.extent
  pub array : (v n : ℕ) (d : SharedDeclaration) → slice_get p.shared v ≡ Some d → d.extent ≡ extent.Array n
      → (elements : ℕ) × (copies : Option ArrayCopies)
      × (slice_get l.variables v ≡ Some (Array elements n copies)) × (is_some copies ≡ is_written (summaries p) p.tasks v)
  pub is_array : (v elements n : ℕ) (copies : Option ArrayCopies) → slice_get l.variables v ≡ Some (Array elements n copies)
      → (d : SharedDeclaration) × (slice_get p.shared v ≡ Some d) × (d.extent ≡ extent.Array n) × (is_some copies ≡ is_written (summaries p) p.tasks v)

-- so with each source and its layout
abbrev pub PlacesAreDeclared : Type 0
PlacesAreDeclared = OfLayouts PlacesMatch

-- a task's private scalars are exactly those that its paths make private, each once and with its place, and of no more words than the
-- allowance counts; the layout has copies of the arrays that stand on the left of an assignment in it
pub record TaskMatches (p : CheckedProgram) (l : MemoryMap) (task : CheckedTask) (layout : TaskPlace) : Type 0 where
  pub ascending : AllPairs ◌<◌ (map (λ s. s.number) layout.privates)
  pub only : (s : PrivateScalar) → Contains layout.privates s → IsPrivateIn p.functions p.shared task.body s.number × HasItsPlace l.variables s
  pub each : (v : ℕ) → IsPrivateIn p.functions p.shared task.body v → (s : PrivateScalar) × Contains layout.privates s × (s.number ≡ v)
  pub count : private_words layout.privates ≤ scalars_of (summaries p) p.shared task.body
  pub stored : (v : ℕ) → plan.IsArrayAt p.shared v → assigns_of (summaries p) v task.body ≡ true
      → (elements n : ℕ) × (copies : ArrayCopies) × (slice_get l.variables v ≡ Some (Array elements n (Some copies)))

-- so with each task
abbrev pub TasksMatch : Type 0
TasksMatch = OfTasks TaskMatches

-- a scalar's address in a task is that of its copy where it is private there, else that of its first word
pub record AddressIs (p : CheckedProgram) (l : MemoryMap) (task : CheckedTask) (layout : TaskPlace) : Type 0 where
  pub private : (v home copy : ℕ) (width : ScalarWidth) → slice_get l.variables v ≡ Some (Scalar home copy width) → is_private_in p.functions task.body v ≡ true
      → address_of (task_places p l task layout) v ≡ copy
  pub left : (v home copy : ℕ) (width : ScalarWidth) → slice_get l.variables v ≡ Some (Scalar home copy width) → is_private_in p.functions task.body v ≡ false
      → address_of (task_places p l task layout) v ≡ home
  pub each : (v home copy : ℕ) (width : ScalarWidth) → slice_get l.variables v ≡ Some (Scalar home copy width) → is_private_in p.functions task.body v ≡ true
      → Contains layout.privates (record { number = v; home = home; copy = copy; width = width })

-- so in each task
abbrev pub AddressesAre : Type 0
AddressesAre = OfTasks AddressIs

-- the task's places have what the source declares
abbrev pub PlacesAreAsDeclared : Type 0
PlacesAreAsDeclared = OfTasks (λ p l task layout. AsDeclared p.shared (task_places p l task layout))

-- of a well-formed task, each array that some path writes has copies
abbrev pub WrittenArraysHaveCopies : Type 0
WrittenArraysHaveCopies = OfTasks (λ p l task layout.
    WellFormedBlock p.shared task.body → All (λ f. WellFormedBlock p.shared f.body) p.functions
    → HasCopies p.shared (task_places p l task layout) (some_path_writes p.functions task.body))

-- the numbers of its locals, and of those of each function that it reaches, are words
pub record LowLocals (layout : TaskPlace) : Type 0 where
  pub own : layout.first + 256 ≤ 65536
  pub routines : All (λ (r : RoutinePlace). r.first + 256 ≤ 65536) layout.routines

abbrev pub LocalsAreLow : Type 0
LocalsAreLow = OfTasks (λ p l task layout. LowLocals layout)

-- a task writes the words of a scalar in place exactly where some path of it writes it, and it isn't private there
abbrev pub InPlaceByPaths : Type 0
InPlaceByPaths = OfLayouts (λ p l. (t v home copy : ℕ) (width : ScalarWidth) (i : ℕ) → slice_get l.variables v ≡ Some (Scalar home copy width)
    → i < scalar_words width
    → ((program_places p l).written_in_place t (2 * i + home) ≡ true)
    ↔ (SomePath p.functions (task_body p t) (writes (Shared v)) × (IsPrivate p.functions (task_body p t) (Shared v) → ⊥)))
