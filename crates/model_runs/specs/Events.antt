-- The events of a board's run, read off its effects; what is known of the run so far by them; and the lines of its report as a
-- function of its dones.
use Rattle.std.specs.Prelude.{◌≡◌, ℕ, zero, suc, ◌+◌, ◌-◌, ◌*◌, ◌<◌, ◌≤◌, All, IfSome, List, [], ◌∷◌, ◌++◌, length, map, flat_map, take, drop, Option}
use Rattle.std.specs.Prelude.{Some, None}
use Rattle.alp_io.specs.Count.{risen}
use Rattle.alp_io.specs.Report.{accepted_line, step_line}
use Rattle.image_map.specs.declared.parts.RingPlaces.{RingPlaces}
use Rattle.image_map.specs.MapValue.{MapValue, word_count}
use Rattle.fram_board.specs.Board.{BoardValue}
use Rattle.fram_board.specs.Saved.{TakesNextBehind}
use Rattle.board_run.specs.History.{SharedNumber, number_of, shared_numbers, task_name, changed_line, more_lines}
use Rattle.board_run.specs.History as board
use Rattle.machine_effects.specs.event_places.Places.{handler_place}
use Rattle.machine_effects.specs.World.{World}
use Rattle.crash_rules.specs.Model.{Marks}
use Rattle.crash_rules.specs.History.{Done, History}
use Rattle.run_charges.specs.View.{outside_of}

-- where ANS is, if a map has a ring
abbrev pub answer_in : Option RingPlaces → Option ℕ
answer_in None = None
answer_in (Some ring) = Some ring.answer

-- what happens in a run is told by the words that a map names
abbrev pub marks_of : MapValue → Marks
marks_of m = record { gate = m.words.gate; answer = answer_in m.ring }

-- the words of a map of which a run's report tells stand in front of the handler, which writes none of them
pub record IsInFront (m : MapValue) : Type 0 where
  pub gate : m.words.gate < handler_place
  pub current_task : m.words.current_task < handler_place
  pub variables : All (λ v. v.address + 2 * word_count v.value_type v.length ≤ handler_place) m.variables
  pub answer : IfSome m.ring (λ ring. ring.answer < handler_place)

-- a history tells of this board: its FRAM, the word that its receiver takes next, how many readings were taken
pub record TellsOf (b : BoardValue) (k : History) : Type 0 where
  pub fram : k.world.fram ≡ (outside_of b).fram
  pub accepted : TakesNextBehind k.world.accepted b.receiver
  pub taken : k.taken ≡ b.taken

-- the world behind the last done, or at first
abbrev pub last_world : World → List Done → World
last_world x [] = x
last_world x (d ∷ ds) = last_world d.world ds

-- a count that was raised so often
abbrev pub counted : ℕ → ℕ
counted zero = 0
counted (suc n) = risen (counted n)

-- what shared numbers are in a world
abbrev pub world_values : World → List SharedNumber → List ℕ
world_values x ps = map (number_of x.fram) ps

-- the words accepted from one world to another
abbrev pub words_between : World → World → List ℕ
words_between x y = drop (length x.accepted) y.accepted

-- what a report's history and one by effects say alike, where the run began with world x: how many transitions were completed;
-- the task and the shared numbers at the last done; the words accepted since; the readings taken at the last boot or done; and the
-- span of the last decide
pub record SaysAlike (m : MapValue) (x : World) (h : board.History) (k : History) : Type 0 where
  pub mapped : h.map ≡ Some m
  pub completed : h.completed ≡ counted (length k.completed)
  pub task : h.task ≡ (last_world x k.completed).fram m.words.current_task
  pub shared : h.shared ≡ world_values (last_world x k.completed) (shared_numbers m.variables)
  pub words : List ℕ
  pub words_are : k.world.accepted ≡ (last_world x k.completed).accepted ++ words
  pub accepted : h.accepted ≡ take 256 words
  pub more : h.more ≡ counted (length words - 256)
  pub since : h.since ≡ k.since
  pub span_from : h.span_from ≡ k.span_from
  pub span_to : h.span_to ≡ k.span_to

-- and GATE
pub record SaysTheSame (m : MapValue) (x : World) (h : board.History) (k : History) : Type 0 where
  pub alike : SaysAlike m x h k
  pub gate : h.gate ≡ k.world.fram m.words.gate

-- the lines of accepted words: the first 256 of them, and how many came behind these
abbrev pub word_lines : List ℕ → List ℕ
word_lines ws = flat_map accepted_line (take 256 ws) ++ more_lines (counted (length ws - 256))

-- the lines of the shared numbers that are others in the second world
abbrev pub change_lines : List SharedNumber → World → World → List ℕ
change_lines ps x y = flat_map (λ p. changed_line p (number_of x.fram p) (number_of y.fram p)) ps

-- the lines of a done by its number and the world behind the done before it: the transition, the words accepted in between, and
-- the shared numbers that changed
abbrev pub done_lines : MapValue → ℕ → World → Done → List ℕ
done_lines m number x d =
    step_line number (task_name m.tasks (x.fram m.words.current_task)) (task_name m.tasks (d.world.fram m.words.current_task)) d.span_from d.span_to
    ++ (word_lines (words_between x d.world) ++ change_lines (shared_numbers m.variables) x d.world)

-- the lines of dones behind so many, the first of which follows this world
abbrev pub dones_lines : MapValue → ℕ → World → List Done → List ℕ
dones_lines m n x [] = []
dones_lines m n x (d ∷ ds) = done_lines m (risen n) x d ++ dones_lines m (risen n) d.world ds
