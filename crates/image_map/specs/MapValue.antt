-- What a map is, its rules, and what a line may add to it.
use Rattle.std.specs.Prelude.{◌≡◌, ℕ, ◌+◌, ◌*◌, ◌%◌, ◌^◌, ◌==◌, ◌<◌, ◌&&◌, ◌||◌, Bool, true, false, nat_lt, nat_le, not, if◌then◌else◌, List, [], ◌∷◌}
use Rattle.std.specs.Prelude.{◌++◌, length, map, Option, Some, None, is_none}
use Rattle.std.specs.List.{list_any}
use Rattle.std.specs.Str.{bytes_eq}
use Rattle.address_space.specs.Limits.{fram_first, fram_end}
pub use Rattle.address_space.specs.Limits.{IsFramWord}
use Rattle.image_map.specs.declared.parts.RuntimeWords.{RuntimeWords}
use Rattle.image_map.specs.declared.parts.Place.{Place}
use Rattle.image_map.specs.declared.parts.RingPlaces.{RingPlaces}
use Rattle.image_map.specs.declared.parts.ValueType.{ValueType}
use Rattle.image_map.specs.declared.parts.ValueType.TheVariants as value_type
use Rattle.image_map.specs.declared.parts.Variable.{Variable}

-- a task and the names of its private scalars
pub record TaskValue : Type 0 where
  pub name : List ℕ
  pub privates : List (List ℕ)

-- a map: the bound of a transition in cycles, the addresses of the runtime's words, the places of commit list, emits, versions,
-- private copies and the ring of events, then variables and tasks in order of declaration. A map may not say where the copies are, or the ring:
-- then there are none, or there is no ring
pub record MapValue : Type 0 where
  pub bound : ℕ
  pub words : RuntimeWords
  pub list : Place
  pub emits : Place
  pub versions : Place
  pub copies : Option Place
  pub ring : Option RingPlaces
  pub variables : List Variable
  pub tasks : List TaskValue

-- whether a word of the FRAM stands at an address below 10000
abbrev pub is_fram_word : ℕ → Bool
is_fram_word a = nat_le fram_first a && (a % 2 == 0)

-- the words of a scalar of this type: a long has two
abbrev pub scalar_words : ValueType → ℕ
scalar_words value_type.Unsigned = 1
scalar_words value_type.Int = 1
scalar_words value_type.Long = 2

-- how many words a variable of this type and length has
abbrev pub word_count : ValueType → Option ℕ → ℕ
word_count t None = scalar_words t
word_count t (Some n) = n

-- whether so many words from an address on are all there, and there is one at least
abbrev pub fits : ℕ → ℕ → Bool
fits a n = nat_lt 0 n && nat_le (a + 2 * n) fram_end

-- how many words a ring has room for
abbrev pub ring_words : ℕ
ring_words = 64

-- whether the numbers of this type have two words
abbrev pub is_long : ValueType → Bool
is_long value_type.Unsigned = false
is_long value_type.Int = false
is_long value_type.Long = true

-- whether a variable may have this type and length: the elements of an array are words
abbrev pub is_kind : ValueType → Option ℕ → Bool
is_kind t None = true
is_kind t (Some n) = not (is_long t)

-- whether a name is one of these
abbrev pub is_among : List ℕ → List (List ℕ) → Bool
is_among name names = list_any (λ other. bytes_eq other name) names

-- the names of a map's variables
abbrev pub variable_names : List Variable → List (List ℕ)
variable_names vs = map (λ v. v.name) vs

-- the names of its tasks
abbrev pub task_names : List TaskValue → List (List ℕ)
task_names ts = map (λ t. t.name) ts

-- whether a name is one of a variable or of a task
abbrev pub is_used : MapValue → List ℕ → Bool
is_used m name = is_among name (variable_names m.variables) || is_among name (task_names m.tasks)

-- whether a variable may be the next one: no task stands yet, and there is room for one more
unfoldable pub takes_variable : MapValue → Variable → Bool
takes_variable m v = nat_le (length m.tasks) 0 && (nat_lt (length m.variables) 256 &&
    (is_fram_word v.address && (fits v.address (word_count v.value_type v.length) && (is_kind v.value_type v.length && not (is_used m v.name)))))

-- whether a name may be the next task's
unfoldable pub takes_task : MapValue → List ℕ → Bool
takes_task m name = nat_lt (length m.tasks) 64 && not (is_used m name)

-- whether a variable is the scalar of this name
abbrev pub is_scalar_of : List ℕ → Variable → Bool
is_scalar_of name v = is_none v.length && bytes_eq v.name name

-- the names that are left behind a variable: all but the first, where that is the variable's
abbrev pub names_behind : List (List ℕ) → Variable → List (List ℕ)
names_behind [] v = []
names_behind (n ∷ ns) v = if is_scalar_of n v then ns else n ∷ ns

-- whether names are names of scalars in order of declaration
abbrev pub are_scalars : List (List ℕ) → List Variable → Bool
are_scalars [] vs = true
are_scalars (n ∷ ns) [] = false
are_scalars (n ∷ ns) (v ∷ vs) = are_scalars (names_behind (n ∷ ns) v) vs

-- the private scalars of the last task
abbrev pub last_privates : List TaskValue → Option (List (List ℕ))
last_privates [] = None
last_privates (t ∷ []) = Some t.privates
last_privates (t ∷ u ∷ ts) = last_privates (u ∷ ts)

-- whether a name may stand behind these, if there are any: they are scalars, in order of declaration
abbrev pub follow : Option (List (List ℕ)) → List ℕ → List Variable → Bool
follow None name vs = false
follow (Some ns) name vs = are_scalars (ns ++ name ∷ []) vs

-- whether a name may be the next private scalar of the last task
unfoldable pub takes_private : MapValue → List ℕ → Bool
takes_private m name = follow (last_privates m.tasks) name m.variables

-- a map with one variable more
abbrev pub with_variable : MapValue → Variable → MapValue
with_variable m v = record m { variables = m.variables ++ v ∷ [] }

-- a map with one task more
abbrev pub with_task : MapValue → List ℕ → MapValue
with_task m name = record m { tasks = m.tasks ++ record { name = name; privates = [] } ∷ [] }

-- tasks of which the last has one private scalar more
abbrev pub onto_last : List ℕ → List TaskValue → List TaskValue
onto_last name [] = []
onto_last name (t ∷ []) = record t { privates = t.privates ++ name ∷ [] } ∷ []
onto_last name (t ∷ u ∷ ts) = t ∷ onto_last name (u ∷ ts)

-- a map whose last task has one private scalar more
abbrev pub with_private : MapValue → List ℕ → MapValue
with_private m name = record m { tasks = onto_last name m.tasks }

-- each word of the runtime stands at an even address of the FRAM
pub record AreFramWords (w : RuntimeWords) : Type 0 where
  pub current_task : IsFramWord w.current_task
  pub next_task : IsFramWord w.next_task
  pub gate : IsFramWord w.gate
  pub list_length : IsFramWord w.list_length
  pub emit_count : IsFramWord w.emit_count
  pub base : IsFramWord w.base
  pub sent_base : IsFramWord w.sent_base
  pub version : IsFramWord w.version

-- a place at an even address of the FRAM; its items needn't fit behind it
pub record IsPlace (p : Place) : Type 0 where
  pub address : IsFramWord p.address
  pub capacity : p.capacity < 2 ^ 32

-- a ring whose words stand at even addresses of the FRAM, with all its slots
pub record IsRing (r : RingPlaces) : Type 0 where
  pub head : IsFramWord r.head
  pub tail : IsFramWord r.tail
  pub event_count : IsFramWord r.event_count
  pub sent_tail : IsFramWord r.sent_tail
  pub answer : IsFramWord r.answer
  pub slots : IsFramWord r.slots
  pub fits : fits r.slots ring_words ≡ true

-- a variable at an even address of the FRAM, whose words all stand in the FRAM; no array is one of longs
pub record IsVariable (v : Variable) : Type 0 where
  pub address : IsFramWord v.address
  pub fits : fits v.address (word_count v.value_type v.length) ≡ true
  pub kind : is_kind v.value_type v.length ≡ true

-- each name differs from all before it
abbrev pub are_different : List (List ℕ) → List (List ℕ) → Bool
are_different before [] = true
are_different before (n ∷ ns) = not (is_among n before) && are_different (before ++ n ∷ []) ns
