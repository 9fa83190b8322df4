-- States as worlds, the source's states that they have, and the runs that go on from them as sources tell them.
use Rattle.std.specs.Prelude.{◌≡◌, ℕ, ◌%◌, ◌<◌, ◌≤◌, true, false, List, ◌++◌, length, All, IfSome}
use Rattle.address_space.specs.Limits.{fram_words}
use Rattle.state_text.specs.declared.state.State.{State}
use Rattle.fram_state.specs.Belongs.{Belongs}
use Rattle.fram_state.specs.Named.{is_in_ring}
use Rattle.fram_state.specs.Runtime.{runtime_of}
use Rattle.fram_state.specs.Sound.{is_pending, is_ring_at}
use Rattle.image_text.specs.ImageValue.{ImageValue}
use Rattle.energy_trace.specs.TraceValue.{Event, TraceValue}
use Rattle.fram_board.specs.Board.{BoardValue, started}
use Rattle.fram_board.specs.Run.{Moment, RunOutcome}
use Rattle.fram_board.specs.Saved.{saved}
use Rattle.board_run.specs.Charges.{charges_of}
use Rattle.machine_effects.specs.World.{World}
use Rattle.machine_effects.specs.Machine.{IsFram, fram_of}
use Rattle.machine_effects.specs.Runs.{last_board}
use Rattle.cost_bound.specs.declared.allowance.Allow.{Allow}
use Rattle.source_values.specs.Runs.{CheckedProgram}
use Rattle.source_values.specs.Runs as runs
use Rattle.source_meaning.specs.Acceptance.{IsAcceptedText}
use Rattle.source_maps.specs.Maps.{map_of, map_ring}
use Rattle.memory_map.specs.MemoryMap.{MemoryMap}
use Rattle.compiled_model.specs.View.{state_in}
use Rattle.compiled_model.specs.Parts.{compiled_model}
use Rattle.image_laws.specs.Compiled.{IsCompiled}
use Rattle.image_reports.specs.ImageLaw.{world_with}
use Rattle.image_reports.specs.Resumed.{IsToldOnward}

-- the world of a state whose receiver accepted these words before
abbrev pub world_of : State → List ℕ → World
world_of s accepted = world_with s.image.words accepted

-- these may be the words that it accepted before: it takes next the word behind them
abbrev pub MayHaveAccepted : State → List ℕ → Type 0
MayHaveAccepted s accepted = length accepted % 0x10000 ≡ s.receiver

-- a state has as many words as the FRAM, and they and its receiver's number are below 65536
pub record HasFramWords (s : State) : Type 0 where
  pub count : length s.image.words ≡ fram_words
  pub are_words : All (λ w. w < 0x10000) s.image.words
  pub receiver : s.receiver < 0x10000

-- from the first word of the code on a state has the words of an image, but for its ring
abbrev pub HasCodeWords : MemoryMap → ImageValue → State → Type 0
HasCodeWords l image s = (a : ℕ) → IsFram a → l.boot.address ≤ a → is_in_ring (map_ring l) a ≡ false → fram_of s.image.words a ≡ fram_of image.words a

-- the ring of a state, where its map has one, keeps the rule of rings
abbrev pub KeepsRing : State → Type 0
KeepsRing s = IfSome s.image.map (λ m. is_ring_at m.ring s.image.words (is_pending (runtime_of m.words s.image.words)) ≡ true)

-- a state of a source: these shared words, this task, and these words emitted so far
abbrev pub state_with : (shared : List (List ℕ)) (task : ℕ) (emitted : List ℕ) → runs.State
state_with shared task emitted = record { shared = shared; task = task; emitted = emitted }

-- A state belongs to an image of a source and, whatever words its receiver accepted before, rests at the source's state of these shared words and
-- this task, which is the one that it has.
pub record BelongsAt (p : CheckedProgram) (l : MemoryMap) (image : ImageValue) (shared : List (List ℕ)) (task : ℕ) (s : State) : Type 0 where
  pub belongs : Belongs image s
  pub has : (accepted : List ℕ) → state_in l (world_of s accepted) ≡ state_with shared task accepted
  pub rests : (accepted : List ℕ) → MayHaveAccepted s accepted
      → (compiled_model p l).Rests (state_with shared task accepted) (world_of s accepted)

-- the board that goes on from a state, on these readings and events
abbrev pub board_of : State → List ℕ → List Event → BoardValue
board_of s readings events = started s.image.words s.receiver readings events

-- A run from a state on a trace is told so by whatever source the image is of, whatever words were accepted before: from the state on; or, where
-- its commit is pending, behind the transition that this makes
abbrev pub IsToldByItsSource : ImageValue → State → TraceValue → RunOutcome → List ℕ → Type 0
IsToldByItsSource image s trace r report = (text : List ℕ) (p : CheckedProgram) (allow : Allow) → IsAcceptedText text p allow
    → (c : IsCompiled text p allow image) → (accepted : List ℕ) → MayHaveAccepted s accepted
    → IsToldOnward text p (map_of text p c.layout allow) c.layout (world_of s accepted) (charges_of trace.charges)
    (board_of s trace.readings trace.events) r report

-- what is saved of each board of a run from a state belongs to the image, and so does what is saved at its end
pub record LeavesItsStates (image : ImageValue) (s : State) (b : BoardValue) (r : RunOutcome) : Type 0 where
  pub boards : (ms rest : List Moment) → r.moments ≡ ms ++ rest → Belongs image (saved (last_board b ms) s.image.map)
  pub end : Belongs image (saved r.board s.image.map)
