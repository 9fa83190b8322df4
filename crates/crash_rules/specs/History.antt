-- What is read off the effects of a run. Its events are those of the board's runs: a boot is a power-up; a decide is a write after
-- which GATE is 1 and before which it wasn't; a done is one after which GATE is 0 and before which it was 1. Positions count the
-- readings taken.
use Rattle.std.specs.Prelude.{◌≡◌, ℕ, ◌+◌, ◌≤◌, ◌==◌, Bool, true, false, if◌then◌else◌, List, [], ◌∷◌, ◌++◌, length, drop, map}
use Rattle.std.specs.List.{slice_range}
use Rattle.machine_effects.specs.fram_board.Board.{BoardValue, BoardOutcome}
use Rattle.machine_effects.specs.fram_board.Effects.{Effect, effects_of}
pub use Rattle.machine_effects.specs.fram_board.Gate.{is_decide, is_done}
use Rattle.machine_effects.specs.World.{World, world_after_one, world_after, readings_taken}
use Rattle.machine_effects.specs.Inputs.{Look, Inputs}
use Rattle.crash_rules.specs.Model.{Marks, Given, answers_in}

-- a done: the span and the answers of the decide before it, and FRAM and the accepted words behind it
pub record Done : Type 0 where
  pub span_from : ℕ
  pub span_to : ℕ
  pub answers : List ℕ
  pub world : World

-- what is known of a run so far
pub record History : Type 0 where
  pub world : World  -- FRAM and the accepted words
  pub taken : ℕ  -- how many readings were taken
  pub booted : Bool  -- whether no done came since the last boot
  pub since : ℕ  -- how many of them at the last boot or done
  pub start : World  -- the world at the last boot or done
  pub effects : List Effect  -- the effects since
  pub span_from : ℕ  -- the span of the last decide: the readings taken between the last boot or done before it and the decide
  pub span_to : ℕ
  pub answers : List ℕ  -- the answers of the last decide: the words stored to ANS between the same
  pub decided : Bool  -- whether no done came since the last decide
  pub completed : List Done  -- the dones, in order

-- the history behind one effect, but for its event
abbrev pub with_effect : Effect → History → History
with_effect e h = record h {
  world = world_after_one e h.world;
  taken = h.taken + length (readings_taken (e ∷ []));
  effects = h.effects ++ e ∷ [];
}

-- the history behind a decide
abbrev pub behind_decide : Marks → History → History
behind_decide marks h = record h { span_from = h.since; span_to = h.taken; answers = answers_in marks h.effects; decided = true }

-- the history behind a done
abbrev pub behind_done : History → History
behind_done h = record h {
  booted = false;
  since = h.taken;
  start = h.world;
  effects = [];
  decided = false;
  completed = h.completed ++ record { span_from = h.span_from; span_to = h.span_to; answers = h.answers; world = h.world } ∷ [];
}

-- the history behind a change of GATE
abbrev pub behind_gate : Marks → ℕ → ℕ → History → History
behind_gate marks before now h = if is_done before now then behind_done h else if is_decide before now then behind_decide marks h else h

-- the history behind one effect, by these marks
abbrev pub observe_one : Marks → Effect → History → History
observe_one marks e h = behind_gate marks (h.world.fram marks.gate) ((world_after_one e h.world).fram marks.gate) (with_effect e h)

-- the history behind effects, the first one first
abbrev pub observe : Marks → List Effect → History → History
observe marks [] h = h
observe marks (e ∷ es) h = observe marks es (observe_one marks e h)

-- the history behind a boot
abbrev pub behind_boot : History → History
behind_boot h = record h { booted = true; since = h.taken; start = h.world; effects = [] }

-- the history of a run that begins with this world. Where GATE is 1 then, a transition is pending
abbrev pub first_history : Marks → World → History
first_history marks x = record {
  world = x;
  taken = 0;
  booted = true;
  since = 0;
  start = x;
  effects = [];
  span_from = 0;
  span_to = 0;
  answers = [];
  decided = x.fram marks.gate == 1;
  completed = [];
}

-- the readings of the last decide
abbrev pub decided_readings : List ℕ → History → List ℕ
decided_readings readings h = slice_range readings h.span_from h.span_to

-- the committed readings of a done
abbrev pub done_readings : List ℕ → Done → List ℕ
done_readings readings d = slice_range readings d.span_from d.span_to

-- what is left of a run's readings from a position on, as inputs with these looks. Readings are a run's; the looks of each charge are its own
abbrev pub inputs_from : List ℕ → ℕ → List Look → Inputs
inputs_from readings from looks = record { readings = drop from readings; looks = looks }

-- what the task of the last decide was given, and that of a done
abbrev pub decided_given : List ℕ → History → Given
decided_given readings h = record { readings = decided_readings readings h; answers = h.answers }

abbrev pub done_given : List ℕ → Done → Given
done_given readings d = record { readings = done_readings readings d; answers = d.answers }

-- what a task was given since the last boot or done, if it asks for no reading more: all that are left from there on
abbrev pub given_since : Marks → List ℕ → History → Given
given_since marks readings h = record { readings = drop h.since readings; answers = answers_in marks h.effects }

-- the positions of a history: those at the last boot or done and of the last decide, and from where to where each done has its span
pub record Positions : Type 0 where
  pub since : ℕ
  pub span_from : ℕ
  pub span_to : ℕ
  pub spans : List (ℕ × ℕ)

-- the positions of a history
abbrev pub positions_of : History → Positions
positions_of h = record {
  since = h.since;
  span_from = h.span_from;
  span_to = h.span_to;
  spans = map (λ d. (d.span_from, d.span_to)) h.completed;
}

-- the positions behind an instruction, by GATE before and behind it, and by how many readings were taken behind it
abbrev pub positions_behind : ℕ → ℕ → ℕ → Positions → Positions
positions_behind before now taken p =
    if is_done before now then record p { since = taken; spans = p.spans ++ (p.span_from, p.span_to) ∷ [] }
    else if is_decide before now then record p { span_from = p.since; span_to = taken }
    else p

-- the events of an instruction by its effects are those by GATE before and behind it: of its effects its takes come first, and it
-- has one store at most. So a history by effects has the positions of one that compares GATE between boards
pub record IsOneEvent (marks : Marks) (b : BoardValue) (x : BoardOutcome) (h : History) : Type 0 where
  pub positions : positions_of (observe marks (effects_of b x) h) ≡ positions_behind (h.world.fram marks.gate)
      ((world_after (effects_of b x) h.world).fram marks.gate) x.board.taken (positions_of h)
  pub taken : (observe marks (effects_of b x) h).taken ≡ x.board.taken

-- so of each instruction that takes no more readings than there are
abbrev pub EventsOfInstructions : Type 0
EventsOfInstructions = (marks : Marks) (b : BoardValue) (x : BoardOutcome) (h : History) → h.taken ≡ b.taken → b.taken ≤ x.board.taken
    → x.board.taken ≤ length b.readings → IsOneEvent marks b x h
