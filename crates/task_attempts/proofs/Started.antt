-- A started attempt of a task, under each runtime, and what the laws on it speak of.
use Rattle.task_attempts.proofs.Names.{◌≡◌, ℕ, ◌+◌, ◌*◌, ◌<◌, length, World, Inputs, CheckedBlock, CheckedProgram, State, task_entries, privates_in}
use Rattle.task_attempts.proofs.Names.{ProgramPlaces, StateView, StartedAt, UndecidedAt, Room, program_places, state_view, Version, EmitCount, MemoryMap}
use Rattle.task_attempts.proofs.Names.{TaskPlace}
use Rattle.task_attempts.proofs.Names.{word_place, Places, task_places, task_room, stores_of, arith, ap, redo_seen, Undo}
use Rattle.lower.specs.Seen.{task_seen}
use Rattle.lower.specs.Spots.{HasRoomBehind}
use Rattle.compiled_model.specs.Parts.{private_homes}
use Rattle.undo_states.specs.States.{LoggingAt}
use Rattle.task_attempts.proofs.Given.{IsSource, IsTaskSeen, IsGiven, IsTaskGiven, IsLoggedGiven, IsTaskLogged}
use Rattle.task_attempts.proofs.Tasks.{IsAt, task_at}
use Rattle.cost_bound.specs.Summaries.{summaries}

-- what is alike under each runtime: a source with its layout, a state of it, the state's task with its layout and the place that is its own, the world
-- behind the start of an attempt, where no shared word has changed but those that are written in place, the inputs that are left, and how many words
-- the start has listed
pub record Attempting : Type 0 where
  pub program : CheckedProgram
  pub map : MemoryMap
  pub given : IsSource program map
  pub state : State
  pub task : IsAt program map state.task
  pub own : TaskPlace
  pub own_is : task_seen map.runtime.logging task.layout ≡ own
  pub facts : IsTaskSeen program map task.task own
  pub world : World
  pub inputs : Inputs
  pub first : ℕ
  pub has_room : HasRoomBehind first (task_places program map task.task own) (λ v. stores_of (summaries program) v task.task.body) (task_room program task.task)
  pub undecided : UndecidedAt (program_places program map) (state_view program map) state world
  pub emit_count : world.fram (word_place map EmitCount) ≡ 0
  pub versions : (i : ℕ) → i < map.versions.words → world.fram (map.versions.address + 2 * i) < world.fram (word_place map Version)

-- the places that the task works on, its statements and its room; the places of the source, its states by addresses; the attempt's number
pub record Scene : Type 0 where
  pub here : Places
  pub code : CheckedBlock
  pub space : Room
  pub sites : ProgramPlaces
  pub view : StateView State
  pub ver : ℕ

abbrev pub scene : Attempting → Scene
scene run = record {
  here = task_places run.program run.map run.task.task run.own;
  code = run.task.task.body;
  space = task_room run.program run.task.task;
  sites = program_places run.program run.map;
  view = state_view run.program run.map;
  ver = run.world.fram (word_place run.map Version);
}

-- ---- under redo

pub record Started : Type 0 where
  pub program : CheckedProgram
  pub map : MemoryMap
  pub given : IsGiven program map
  pub state : State
  pub task : IsAt program map state.task
  pub facts : IsTaskGiven program map task.task task.layout
  pub world : World
  pub inputs : Inputs
  pub start : StartedAt (program_places program map) (state_view program map) state (privates_in (task_entries map) state.task) world

abbrev pub redo_run : Started → Attempting
redo_run st = record {
  program = st.program;
  map = st.map;
  given = st.given.source;
  state = st.state;
  task = st.task;
  own = st.task.layout;
  own_is = redo_seen st.map.runtime.logging st.task.layout st.facts.redo;
  facts = st.facts.seen;
  world = st.world;
  inputs = st.inputs;
  first = 0;
  has_room = λ xs are few. let h = st.facts.has_room xs are few in omega (arith, h);
  undecided = st.start.undecided;
  emit_count = st.start.emit_count;
  versions = st.start.versions;
}

-- what an attempt's start leaves
abbrev pub attempt_at : (p : CheckedProgram) (l : MemoryMap) (given : IsGiven p l) (s : State) (x : World) → Inputs
    → StartedAt (program_places p l) (state_view p l) s (privates_in (task_entries l) s.task) x → Started
attempt_at p l given s x inputs st =
    let i = task_at p l given.source.count s.task st.undecided.is_open.is_task in
    record {
      program = p;
      map = l;
      given = given;
      state = s;
      task = i;
      facts = given.tasks s.task i.task i.layout i.task_is i.layout_is;
      world = x;
      inputs = inputs;
      start = st;
    }

-- ---- under undo

pub record Logged : Type 0 where
  pub program : CheckedProgram
  pub map : MemoryMap
  pub given : IsLoggedGiven program map
  pub state : State
  pub task : IsAt program map state.task
  pub facts : IsTaskLogged program map state.task task.task task.layout
  pub world : World
  pub inputs : Inputs
  pub start : LoggingAt (program_places program map) (state_view program map) state (private_homes map state.task) world

abbrev pub undo_run : Logged → Attempting
undo_run st = record {
  program = st.program;
  map = st.map;
  given = st.given.source;
  state = st.state;
  task = st.task;
  own = task_seen Undo st.task.layout;
  own_is = ap (λ logging. task_seen logging st.task.layout) st.given.undo;
  facts = st.facts.seen;
  world = st.world;
  inputs = st.inputs;
  first = length (private_homes st.map st.state.task);
  has_room = st.facts.has_room;
  undecided = st.start.stands;
  emit_count = st.start.emit_count;
  versions = st.start.versions;
}

abbrev pub logged_at : (p : CheckedProgram) (l : MemoryMap) (given : IsLoggedGiven p l) (s : State) (x : World) → Inputs
    → LoggingAt (program_places p l) (state_view p l) s (private_homes l s.task) x → Logged
logged_at p l given s x inputs st =
    let i = task_at p l given.source.count s.task st.stands.is_open.is_task in
    record {
      program = p;
      map = l;
      given = given;
      state = s;
      task = i;
      facts = given.tasks s.task i.task i.layout i.task_is i.layout_is;
      world = x;
      inputs = inputs;
      start = st;
    }
