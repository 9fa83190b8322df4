-- What is known of a run so far, and the lines of its moments.
-- With a map, events are read off the moments: a boot is a power-up; a decide is an instruction after which GATE is 1 and before
-- which it wasn't; a done is one after which GATE is 0 and before which it was 1. A transition is completed at its done.
use Rattle.std.specs.Prelude.{ℕ, zero, suc, ◌+◌, ◌*◌, ◌==◌, Bool, true, false, nat_lt, if◌then◌else◌, List, [], ◌∷◌, ◌++◌, length, map, flat_map}
use Rattle.std.specs.Prelude.{sum_by, slice_get, slice_index, Option, Some, None}
use Rattle.alp_io.specs.Count.{risen}
use Rattle.alp_io.specs.Report.{accepted_line, more_line, step_line, value_line, bound_line}
use Rattle.image_text.specs.image_map.declared.parts.ValueType.{ValueType}
use Rattle.image_text.specs.image_map.declared.parts.Variable.{Variable}
use Rattle.image_text.specs.image_map.MapValue.{MapValue, TaskValue, is_long}
use Rattle.image_text.specs.ImageValue.{ImageValue, place_of}
use Rattle.fram_board.specs.Board.{BoardValue}
pub use Rattle.fram_board.specs.Gate.{is_decide, is_done}
use Rattle.fram_board.specs.Run.{Moment, Action, PowerUp, Execute, word_list}

-- what is known of a run behind some of its moments
pub record History : Type 0 where
  pub map : Option MapValue  -- the map of the image
  pub gate : ℕ  -- GATE
  pub completed : ℕ  -- how many transitions were completed; a count stands still at 2^64 - 1
  pub task : ℕ  -- CUR at the last done
  pub shared : List ℕ  -- all shared numbers at the last done
  pub accepted : List ℕ  -- the words accepted since the last done, the first 256 of them
  pub more : ℕ  -- how many words were accepted behind these
  pub since : ℕ  -- how many readings were taken at the last boot or done
  pub span_from : ℕ  -- the span of the last decide: the readings taken between the last boot or done before it and the decide
  pub span_to : ℕ

-- a shared number, which is a word or a long: the name of its variable, its index in an array, and the address of its only or its low word
pub record SharedNumber : Type 0 where
  pub name : List ℕ
  pub index : Option ℕ
  pub address : ℕ
  pub is_long : Bool

-- so many words of an array from an index on
abbrev pub array_words : List ℕ → ℕ → ℕ → ℕ → List SharedNumber
array_words name address i zero = []
array_words name address i (suc n) = record { name = name; index = Some i; address = address; is_long = false } ∷ array_words name (address + 2) (i + 1) n

-- the number of a scalar of this type
abbrev pub scalar_number : List ℕ → ℕ → ValueType → SharedNumber
scalar_number name address t = record { name = name; index = None; address = address; is_long = is_long t }

-- the numbers of a variable of this type and length
abbrev pub variable_numbers : List ℕ → ℕ → ValueType → Option ℕ → List SharedNumber
variable_numbers name address t None = scalar_number name address t ∷ []
variable_numbers name address t (Some n) = array_words name address 0 n

-- all shared numbers, in order of declaration and index
abbrev pub shared_numbers : List Variable → List SharedNumber
shared_numbers vs = flat_map (λ v. variable_numbers v.name v.address v.value_type v.length) vs

-- the word of the FRAM at an address
abbrev pub word_in : List ℕ → ℕ → ℕ
word_in fram a = slice_index fram (place_of a)

-- the number that the words at an address and behind it are: of a long the low word comes first
abbrev pub number_at : (ℕ → ℕ) → ℕ → Bool → ℕ
number_at word a false = word a
number_at word a true = word a + 65536 * word (a + 2)

-- a shared number, where words are so
abbrev pub number_of : (ℕ → ℕ) → SharedNumber → ℕ
number_of word p = number_at word p.address p.is_long

-- what shared numbers are in the FRAM
abbrev pub values_in : List ℕ → List SharedNumber → List ℕ
values_in fram ps = map (number_of (word_in fram)) ps

-- the line of a shared number, if it isn't what it was
abbrev pub changed_line : SharedNumber → ℕ → ℕ → List ℕ
changed_line p was now = if now == was then [] else value_line p.name p.index now

-- the lines of the shared numbers that differ from what they were
abbrev pub changed_lines : List SharedNumber → List ℕ → List ℕ → List ℕ
changed_lines [] olds fram = []
changed_lines (p ∷ ps) [] fram = []
changed_lines (p ∷ ps) (w ∷ ws) fram = changed_line p w (number_of (word_in fram) p) ++ changed_lines ps ws fram

-- the name of a task by its number, if it names one
abbrev pub task_name : List TaskValue → ℕ → Option (List ℕ)
task_name ts k = slice_get (map (λ t. t.name) ts) k

-- how many words more
abbrev pub more_lines : ℕ → List ℕ
more_lines zero = []
more_lines (suc n) = more_line (suc n)

-- a word more was accepted
abbrev pub with_word : History → ℕ → History
with_word h w = if nat_lt (length h.accepted) 256 then record h { accepted = h.accepted ++ w ∷ [] } else record h { more = risen h.more }

-- the words that an instruction made the receiver accept: one or none
abbrev pub with_words : History → List ℕ → History
with_words h [] = h
with_words h (w ∷ ws) = with_words (with_word h w) ws

-- the lines of a transition that is completed at this board
abbrev pub transition_lines : MapValue → History → BoardValue → List ℕ
transition_lines m h b = step_line (risen h.completed) (task_name m.tasks h.task) (task_name m.tasks (word_in b.fram m.words.current_task)) h.span_from
    h.span_to
    ++ (flat_map accepted_line h.accepted ++ (more_lines h.more ++ changed_lines (shared_numbers m.variables) h.shared b.fram))

-- the history behind a decide, where the board is this
abbrev pub decided : History → BoardValue → History
decided h b = record h { span_from = h.since; span_to = b.taken }

-- the history behind a done
abbrev pub completed : MapValue → History → BoardValue → History
completed m h b = record h {
  completed = risen h.completed;
  task = word_in b.fram m.words.current_task;
  shared = values_in b.fram (shared_numbers m.variables);
  accepted = [];
  more = 0;
  since = b.taken;
}

-- the history behind a change of GATE from one word to another
abbrev pub gated : MapValue → History → BoardValue → ℕ → History
gated m h b now = record (if is_done h.gate now then completed m h b else if is_decide h.gate now then decided h b else h) { gate = now }

-- the lines of an instruction that made these words accepted and left this board
abbrev pub instruction_lines : Option MapValue → History → List ℕ → BoardValue → List ℕ
instruction_lines None h ws b = flat_map accepted_line ws
instruction_lines (Some m) h ws b = if is_done h.gate (word_in b.fram m.words.gate) then transition_lines m (with_words h ws) b else []

-- the history behind it
abbrev pub behind_instruction : Option MapValue → History → List ℕ → BoardValue → History
behind_instruction None h ws b = h
behind_instruction (Some m) h ws b = gated m (with_words h ws) b (word_in b.fram m.words.gate)

-- the history behind a power-up
abbrev pub behind_power_up : Option MapValue → History → BoardValue → History
behind_power_up None h b = h
behind_power_up (Some m) h b = record h { since = b.taken }

-- the lines that a report has of what a step did
abbrev pub action_lines : Action → History → BoardValue → List ℕ
action_lines PowerUp h b = []
action_lines (Execute kind done offered) h b = instruction_lines h.map h (word_list done.accepted) b

-- what is known of the run behind it
abbrev pub behind_action : Action → History → BoardValue → History
behind_action PowerUp h b = behind_power_up h.map h b
behind_action (Execute kind done offered) h b = behind_instruction h.map h (word_list done.accepted) b

-- the lines of a moment
unfoldable pub moment_lines : History → Moment → List ℕ
moment_lines h m = action_lines m.action h m.after

-- the history behind a moment
unfoldable pub noted : History → Moment → History
noted h m = behind_action m.action h m.after

-- nothing is known yet but what the image says
abbrev pub start_with : List ℕ → Option MapValue → History
start_with words None = record { map = None; gate = 0; completed = 0; task = 0; shared = []; accepted = []; more = 0; since = 0; span_from = 0; span_to = 0 }
start_with words (Some m) = record {
  map = Some m;
  gate = word_in words m.words.gate;
  completed = 0;
  task = word_in words m.words.current_task;
  shared = values_in words (shared_numbers m.variables);
  accepted = [];
  more = 0;
  since = 0;
  span_from = 0;
  span_to = 0;
}

-- the history of a board that is new from an image
abbrev pub start_of : ImageValue → History
start_of image = start_with image.words image.map

-- the bound of the map, if there is one
abbrev pub bound_lines : Option MapValue → List ℕ
bound_lines None = []
bound_lines (Some m) = bound_line m.bound

-- the sum of numbers
abbrev pub total : List ℕ → ℕ
total ws = sum_by (λ w. w) ws
