-- What holds of each run of an accepted source's image that goes on from a saved state, on the board itself, beside what holds from its
-- fresh board.
use Rattle.std.specs.Prelude.{◌≡◌, ℕ, ◌^◌, ◌%◌, ◌<◌, ◌≤◌, ◌==◌, true, false, if◌then◌else◌, List, [], ◌++◌, length, All}
use Rattle.event_places.specs.Places.{is_ring}
use Rattle.event_rules.specs.Rings.{KeepsRing}
use Rattle.event_orders.specs.Waiting.{TakesInOrder}
use Rattle.machine_effects.specs.Machine.{fram_of}
use Rattle.msp_step.specs.declared.machine.Stop.{Stop}
use Rattle.msp_step.specs.declared.machine.Stop.TheVariants as stop
use Rattle.address_space.specs.Limits.{fram_words}
use Rattle.image_map.specs.MapValue.{MapValue}
use Rattle.energy_trace.specs.TraceValue.{Event}
use Rattle.image_text.specs.ImageValue.{ImageValue}
use Rattle.fram_board.specs.Board.{BoardValue, started}
use Rattle.fram_board.specs.Saved.{TakesNextBehind}
use Rattle.fram_board.specs.Run.{BoardCharge, Moment, Stopped, RunOutcome, Run, accepted_words}
use Rattle.board_run.specs.History.{start_of}
use Rattle.board_run.specs.Events.{NeverReads, hand_after, head_of, no_hand}
use Rattle.board_run.specs.Report.{report_of}
use Rattle.machine_effects.specs.World.{World, world_after, readings_taken}
use Rattle.machine_effects.specs.View.{IsWhole}
use Rattle.machine_effects.specs.Runs.{last_board}
use Rattle.cost_bound.specs.declared.allowance.Allow.{Allow}
use Rattle.source_values.specs.Runs.{CheckedProgram, State, Transition}
use Rattle.source_meaning.specs.Acceptance.{IsAcceptedText}
use Rattle.source_runs.specs.Traces.{AreInputs}
use Rattle.source_runs.specs.Tells.{at_first, cost_of, cost_due, EachChargePays}
use Rattle.source_runs.specs.Resumed.{IsToldFrom, IsToldBehind}
use Rattle.source_maps.specs.Maps.{map_of}
use Rattle.memory_map.specs.declared.words.RuntimeWord.TheVariants.{CurrentTask, Gate}
use Rattle.memory_map.specs.MemoryMap.{MemoryMap, word_place}
use Rattle.runtime_effects.specs.Needs.{IsEventWord}
use Rattle.runtime_effects.specs.Stages.{commit_effects}
use Rattle.crash_rules.specs.Model.{IsBetween}
use Rattle.crash_rules.specs.History.{History, first_history}
use Rattle.crash_rules.specs.Laws.{Origin, Resting, Pending, StandsFor, FollowsScript, AcceptedWords}
use Rattle.program_view.specs.View.{outside_of}
use Rattle.run_charges.specs.Charges.{ArePowerStates, observed}
use Rattle.stands_for.specs.StandsFor.{IsSound}
use Rattle.compiled_model.specs.Places.{program_places}
use Rattle.compiled_model.specs.View.{state_in, state_left}
use Rattle.compiled_model.specs.Parts.{compiled_model, start_of as start_due}
use Rattle.compiled_bounds.specs.Capacities.{KeepsCapacities}
use Rattle.model_runs.specs.Events.{words_between}
use Rattle.model_runs.specs.Runs.{IsShort, all_amounts}
use Rattle.task_needs.specs.Needs.{need_of}
use Rattle.charge_limits.specs.Laws.{readings_from, words_offered, words_from}
use Rattle.image_laws.specs.Compiled.{IsCompiled}
use Rattle.image_reports.specs.ImageLaw.{runtime_marks, world_with, VersionsBelow, KeepsCode, StepsOn, EventsHold, HasRoom, RaisesVersion, StackIsKept}
use Rattle.image_reports.specs.ImageLaw.{StaysOpen, RingsHold, AnswersHold}

-- a world from which a run of an image may go on: the code, the vectors and the handler are the image's, the runtime's counts keep to their
-- capacities, and it is sound
pub record BelongsTo (p : CheckedProgram) (l : MemoryMap) (image : ImageValue) (x : World) : Type 0 where
  pub code : KeepsCode p l image x.fram
  pub capacities : KeepsCapacities l x.fram
  pub sound : IsSound (program_places p l) x

-- how a run goes on from a world: at the state that it has; or with its commit pending, and the state that this leaves
abbrev pub origin_of : MemoryMap → World → Origin State
origin_of l x = if x.fram (word_place l Gate) == 1 then Pending (state_left l x) else Resting (state_in l x)

-- the transition that the pending commit of a world makes: from the task of CUR to that of NEXT, with the shared words before and behind
-- it, and the words that weren't accepted yet
abbrev pub pending_transition : MemoryMap → World → Transition
pending_transition l x =
    let y = world_after (commit_effects l x.fram) x in
    record {
      from = x.fram (word_place l CurrentTask);
      next = y.fram (word_place l CurrentTask);
      before = (state_in l x).shared;
      after = (state_in l y).shared;
      emitted = words_between x y;
    }

-- a report of a run from a world is told by the source: from the state that the world has; or behind the transition of its pending commit
pub data IsToldOnward (text : List ℕ) (p : CheckedProgram) (m : MapValue) (l : MemoryMap) (x : World) (cs : List BoardCharge) (b : BoardValue)
    (r : RunOutcome) (report : List ℕ) : Type 0 where
  ToldAtRest : x.fram (word_place l Gate) ≡ 0 → IsToldFrom text p m [] (state_in l x) cs b r report → IsToldOnward text p m l x cs b r report
  ToldPending : x.fram (word_place l Gate) ≡ 1 → IsToldBehind text p m (pending_transition l x) (state_left l x) cs b r report
      → IsToldOnward text p m l x cs b r report

-- what is read off the effects of a run's moments, behind them, where this world began it
abbrev pub known_from : MemoryMap → World → List Moment → History
known_from l x ms = observed (runtime_marks l) ms (first_history (runtime_marks l) x)

-- What holds at each boundary between two steps of a run that goes on so: `b` is the board behind these moments, and `h` what is
-- known of the run so far. All is as from a fresh board (`HoldsAt`), and a run may go on from this board too. While the commit that was
-- pending at the start isn't done, the words accepted since are some of those that the state has beyond the start's which it leaves
pub record HoldsFrom (p : CheckedProgram) (l : MemoryMap) (image : ImageValue) (x : World) (origin : Origin State) (readings : List ℕ) (b : BoardValue)
    (ms : List Moment) (h : History) : Type 0 where
  pub whole : IsWhole b
  pub fram : h.world.fram ≡ (outside_of b).fram
  pub words : h.world.accepted ≡ x.accepted ++ accepted_words ms
  pub number : TakesNextBehind h.world.accepted b.receiver
  pub taken : h.taken ≡ b.taken
  pub effects : FollowsScript (compiled_model p l) readings h
  pub stands : StandsFor (compiled_model p l) readings origin h
  pub never_lost : h.decided ≡ true → ((outside_of b).fram (word_place l Gate) ≡ 1)
      × ((s : State) → (compiled_model p l).Undecided s h.world → ⊥)
  pub accepted : AcceptedWords (compiled_model p l) readings origin h stands.state h.decided
  pub takes_few : length (readings_taken h.effects) ≤ readings_from p l h.start.fram
  pub offers_few : length (words_offered h.effects) ≤ words_from p l origin h.completed stands.state
  pub sent : (to : State) → origin ≡ Pending to → h.completed ≡ [] → IsBetween x.accepted to.emitted h.world.accepted
  pub versions : h.effects ≡ start_due l h.start.fram → VersionsBelow l (outside_of b).fram
  pub belongs : BelongsTo p l image h.world
  pub stack : StackIsKept p l b
  -- no store fell on the code, nor on a word behind it, but for the words that count events
  pub kept : (a : ℕ) → l.boot.address ≤ a → (IsEventWord l a → ⊥) → (outside_of b).fram a ≡ x.fram a
  pub fetches : StepsOn p l image b
  pub events : EventsHold l b (hand_after (head_of image.map) ms no_hand)
  pub room : l.runtime.events ≡ true → HasRoom b

-- What holds of a run of an image from a saved state, with these words in FRAM and this number for the next word; the words accepted before
-- are any that have it.
pub record IsResumedRun (text : List ℕ) (p : CheckedProgram) (allow : Allow) (l : MemoryMap) (image : ImageValue) (x : World) (cs : List BoardCharge)
    (b : BoardValue) (r : RunOutcome) : Type 0 where
  -- at each board, behind any number of instructions
  pub fronts : (ms rest : List Moment) → r.moments ≡ ms ++ rest
      → HoldsFrom p l image x (origin_of l x) b.readings (last_board b ms) ms (known_from l x ms)
  -- it stops for want of a reading alone, and only where the source is short, at the state of the last done
  pub stops : (e : Stop) → r.ending ≡ Stopped e
      → (e ≡ stop.NoReading) × IsShort (compiled_model p l) b.readings (origin_of l x) (known_from l x r.moments)
  -- where the source takes no events nothing is read of EVENT, by the step that stopped it neither
  pub unheard : l.runtime.events ≡ false → NeverReads r
  -- and nothing stores where HEAD and the ring would be
  pub ringless : l.runtime.events ≡ false → (ms rest : List Moment) → r.moments ≡ ms ++ rest → (a : ℕ) → is_ring a ≡ true
      → fram_of (last_board b ms).fram a ≡ fram_of b.fram a
  -- where it does, the handler may begin between any two of a charge's instructions but the first ones
  pub opens : l.runtime.events ≡ true → StaysOpen r.moments
  -- and the ring holds the accepted words, where it kept its rule at first
  pub rings : l.runtime.events ≡ true → KeepsRing (word_place l Gate) (fram_of b.fram) → RingsHold l b r
  -- each answer is the next of the words that waited there at first and of those accepted since, and 0 only where HEAD was TAIL + EC as the program
  -- looked; and the transitions have these words, in order and each once
  pub takes : l.runtime.events ≡ true → KeepsRing (word_place l Gate) (fram_of b.fram) → TakesInOrder (word_place l Gate) b r.moments
  pub answered : l.runtime.events ≡ true → KeepsRing (word_place l Gate) (fram_of b.fram) → AnswersHold l (map_of text p l allow) b r
  -- in a charge that begins with GATE 0 and VER not 65535, VER is raised within the first 40 instructions, if the charge has them
  pub raises : RaisesVersion l r.moments
  -- a charge that is spent has n transitions, if it has n bounds and 100 for each event that arose in it; and it is less than those and the costs of
  -- the tasks that were completed in it, and of the one that was to come; a commit that was pending at the start costs the bound
  pub progress : let m = map_of text p l allow in EachChargePays m (cost_due m (cost_of p) (x.fram (word_place l Gate) == 1)) cs b (at_first m b) r
  -- and so with what the tasks need by the code that is linked
  pub needs : let m = map_of text p l allow in EachChargePays m (cost_due m (need_of p l) (x.fram (word_place l Gate) == 1)) cs b (at_first m b) r
  -- its report is told by the source, where the charges have fewer than 2^64 cycles and instructions in all
  pub told : all_amounts cs < 2 ^ 64
      → IsToldOnward text p (map_of text p l allow) l x cs b r (report_of (start_of (record image { words = b.fram })) b.line.coming r)

-- the fresh world of an accepted text's image belongs to it
abbrev pub ImagesBelong : Type 0
ImagesBelong = (text : List ℕ) (p : CheckedProgram) (allow : Allow) (image : ImageValue) → IsAcceptedText text p allow
    → (c : IsCompiled text p allow image) → BelongsTo p c.layout image (world_with image.words [])

-- the run of each state that belongs to the image of an accepted text is such, under every list of charges, from every state that each
-- power-up may leave, and on all readings and events that a board may hold
abbrev pub ImagesResume : Type 0
ImagesResume = (text : List ℕ) (p : CheckedProgram) (allow : Allow) (image : ImageValue) → IsAcceptedText text p allow
    → (c : IsCompiled text p allow image)
    → (words : List ℕ) → length words ≡ fram_words → All (λ w. w < 0x10000) words
    → (number : ℕ) (accepted : List ℕ) → length accepted % 0x10000 ≡ number
    → let x : World = world_with words accepted in BelongsTo p c.layout image x
    → (cs : List BoardCharge) → ArePowerStates cs → (readings : List ℕ) (events : List Event) → AreInputs readings events
    → (r : RunOutcome) → Run cs (started words number readings events) r
    → IsResumedRun text p allow c.layout image x cs (started words number readings events) r
