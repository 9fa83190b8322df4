-- A map as lines of text.
use Rattle.std.specs.Prelude.{ℕ, ◌/◌, ◌%◌, List, [], ◌∷◌, ◌++◌, map, Option, Some, None, codes, decimal}
use Rattle.text_parts.specs.Hex.{upper_hex}
use Rattle.text_parts.specs.Printed.{printed}
use Rattle.image_map.specs.declared.parts.RuntimeWords.{RuntimeWords}
use Rattle.image_map.specs.declared.parts.Place.{Place}
use Rattle.image_map.specs.declared.parts.RingPlaces.{RingPlaces}
use Rattle.image_map.specs.declared.parts.ValueType.{ValueType}
use Rattle.image_map.specs.declared.parts.ValueType.TheVariants as value_type
use Rattle.image_map.specs.declared.parts.Variable.{Variable}
use Rattle.image_map.specs.MapValue.{MapValue, TaskValue, ring_words}

-- four upper-case hexadecimal digits
unfoldable pub address_text : ℕ → List ℕ
address_text a = upper_hex (a / 256) ++ upper_hex (a % 256)

-- the line of the runtime's words
abbrev pub runtime_fields : RuntimeWords → List (List ℕ)
runtime_fields w = codes "words" ∷ address_text w.current_task ∷ address_text w.next_task ∷ address_text w.gate ∷ address_text w.list_length ∷
    address_text w.emit_count ∷ address_text w.base ∷ address_text w.sent_base ∷ address_text w.version ∷ []

-- the line of a place, behind its first word
abbrev pub place_fields : List ℕ → Place → List (List ℕ)
place_fields word p = word ∷ address_text p.address ∷ decimal p.capacity ∷ []

-- how a type is spelled
abbrev pub type_text : ValueType → List ℕ
type_text value_type.Unsigned = codes "unsigned"
type_text value_type.Int = codes "int"
type_text value_type.Long = codes "long"

abbrev pub sized_fields : Option ℕ → List ℕ → ValueType → ℕ → List (List ℕ)
sized_fields None name t a = codes "scalar" ∷ name ∷ type_text t ∷ address_text a ∷ []
sized_fields (Some n) name t a = codes "array" ∷ name ∷ type_text t ∷ address_text a ∷ decimal n ∷ []

-- the line of a variable
abbrev pub variable_fields : Variable → List (List ℕ)
variable_fields v = sized_fields v.length v.name v.value_type v.address

-- the line of a private scalar
abbrev pub private_fields : List ℕ → List (List ℕ)
private_fields name = codes "private" ∷ name ∷ []

-- the lines of a task
abbrev pub task_fields : TaskValue → List (List (List ℕ))
task_fields t = (codes "task" ∷ t.name ∷ []) ∷ map private_fields t.privates

-- the lines of tasks
abbrev pub tasks_fields : List TaskValue → List (List (List ℕ))
tasks_fields [] = []
tasks_fields (t ∷ ts) = task_fields t ++ tasks_fields ts

-- the line of the copies, if a map says where they are
abbrev pub copies_fields : Option Place → List (List (List ℕ))
copies_fields None = []
copies_fields (Some p) = place_fields (codes "copies") p ∷ []

-- the line of a ring
abbrev pub ring_line : RingPlaces → List (List ℕ)
ring_line r = codes "ring" ∷ address_text r.head ∷ address_text r.tail ∷ address_text r.event_count ∷ address_text r.sent_tail ∷
    address_text r.answer ∷ address_text r.slots ∷ decimal ring_words ∷ []

-- the line of the ring, if a map has one
abbrev pub ring_fields : Option RingPlaces → List (List (List ℕ))
ring_fields None = []
ring_fields (Some r) = ring_line r ∷ []

-- the lines that may be left out: of the copies, then of the ring
abbrev pub optional_fields : MapValue → List (List (List ℕ))
optional_fields m = copies_fields m.copies ++ ring_fields m.ring

-- the first six lines
abbrev pub head_fields : MapValue → List (List (List ℕ))
head_fields m = (codes "map" ∷ []) ∷ (codes "bound" ∷ decimal m.bound ∷ []) ∷ runtime_fields m.words ∷
    place_fields (codes "list") m.list ∷ place_fields (codes "emits") m.emits ∷ place_fields (codes "versions") m.versions ∷ []

-- the lines of a map
unfoldable pub map_fields : MapValue → List (List (List ℕ))
map_fields m = head_fields m ++ (optional_fields m ++ (map variable_fields m.variables ++ (tasks_fields m.tasks ++ (codes "end" ∷ []) ∷ [])))

-- the text of a map
abbrev pub map_text : MapValue → List ℕ
map_text m = printed (map_fields m)

-- fields, each behind a space
unfoldable pub tail_text : List (List ℕ) → List ℕ
tail_text [] = []
tail_text (w ∷ ws) = 32 ∷ w ++ tail_text ws
