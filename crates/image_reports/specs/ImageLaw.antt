-- What holds of each run of the image of an accepted source, on the board itself, cut wherever power fails, whatever events arise: the
-- effects since the last boot or done, what the board stands for, the words accepted, the counts, the stack, the code that is fetched, what
-- became of the events, how it ends, and its report. Where the source takes events a handler runs between any two instructions of the code: it is the
-- image's, and what holds of the code is said of what happens outside it.
use Rattle.std.specs.Prelude.{◌≡◌, ◌≢◌, ℕ, ◌+◌, ◌*◌, ◌^◌, ◌%◌, ◌<◌, ◌≤◌, Bool, true, false, if◌then◌else◌, List, [], ◌∷◌, ◌++◌, length, map, Some, slice_get}
use Rattle.address_space.specs.Limits.{stack_floor, stack_top}
use Rattle.event_places.specs.Places.{handler_place, head_place}
use Rattle.msp_isa.specs.declared.instructions.Instr.{Instr}
use Rattle.msp_isa.specs.Encoding.{encoding}
use Rattle.msp_step.specs.Registers.{registers_of}
use Rattle.msp_step.specs.Step.{is_interruptible}
use Rattle.msp_step.specs.declared.machine.Stop.{Stop}
use Rattle.msp_step.specs.declared.machine.Stop.TheVariants as stop
use Rattle.energy_trace.specs.TraceValue.{Event}
use Rattle.image_map.specs.MapValue.{MapValue}
use Rattle.image_text.specs.ImageValue.{ImageValue}
use Rattle.fram_board.specs.Effects.{Effect}
use Rattle.fram_board.specs.declared.board.NextStep.TheVariants as next_step
use Rattle.fram_board.specs.Events.{words_in}
use Rattle.fram_board.specs.Board.{BoardValue, fresh, IsNextStep}
use Rattle.fram_board.specs.Run.{BoardCharge, PowerUp, Moment, Stopped, RunOutcome, Run, accepted_words, word_list}
use Rattle.board_run.specs.History.{start_of}
use Rattle.board_run.specs.Events.{Hand, NeverReads, hand_after, head_of, no_hand}
use Rattle.board_run.specs.Report.{report_of}
use Rattle.machine_effects.specs.World.{World, fram_after, readings_taken}
use Rattle.machine_effects.specs.Machine.{fram_of}
use Rattle.machine_effects.specs.Runs.{last_board}
use Rattle.event_handler.specs.Handler.{Stage, HasHandler, instruction_at, place_at}
use Rattle.event_rules.specs.Rings.{KeepsRing, HoldsLast}
use Rattle.event_orders.specs.Answers.{AnswersInOrder}
use Rattle.event_orders.specs.Waiting.{words_behind, TakesInOrder}
use Rattle.code_forms.specs.Placed.{Holds}
use Rattle.cost_bound.specs.declared.allowance.Allow.{Allow}
use Rattle.cost_bound.specs.Allowance.{CheckedTask}
use Rattle.cost_bound.specs.Summaries.{summaries}
use Rattle.source_values.specs.Runs.{CheckedProgram, State, first_state}
use Rattle.source_meaning.specs.Acceptance.{IsAcceptedText}
use Rattle.source_runs.specs.Traces.{AreInputs}
use Rattle.source_runs.specs.Tells.{at_first, attempts_of, no_answers, cost_of, EachChargePays, IsToldBySource}
use Rattle.source_maps.specs.Maps.{map_of}
use Rattle.memory_map.specs.declared.runtime.Logging.{Logging}
use Rattle.memory_map.specs.declared.runtime.Logging.TheVariants.{Redo, Undo}
use Rattle.memory_map.specs.declared.words.RuntimeWord.TheVariants.{Gate, Version}
use Rattle.memory_map.specs.MemoryMap.{MemoryMap, TaskPlace, word_place}
use Rattle.crash_rules.specs.Model.{Marks, CommitContract}
use Rattle.crash_rules.specs.History.{History, first_history}
use Rattle.crash_rules.specs.Laws.{Resting, StandsFor, FollowsScript, AcceptedWords}
use Rattle.program_view.specs.View.{steady, outside_of}
use Rattle.run_charges.specs.Charges.{ArePowerStates, AreInstructionMoments, observed, program_steps}
use Rattle.memory_map.specs.Laws.{AreApart}
use Rattle.compiled_model.specs.Parts.{compiled_model, start_of as start_due}
use Rattle.stands_for.specs.Program.{answer_word}
use Rattle.compiled_bounds.specs.Capacities.{KeepsCapacities}
use Rattle.model_runs.specs.Runs.{IsShort, all_amounts}
use Rattle.runtime_code.specs.Addresses.{stack_top}
use Rattle.linked_code.specs.Watch.{is_in_task}
use Rattle.compiled_runs.specs.Program.{stack_low}
use Rattle.task_needs.specs.Needs.{need_of}
use Rattle.charge_limits.specs.Laws.{readings_from, words_offered, words_from}
use Rattle.image_laws.specs.Words.{code_words}
use Rattle.image_laws.specs.Compiled.{IsCompiledFor}
use Rattle.image_laws.specs.Laws.{fresh_world}

-- the words by which what happens in a run is told: GATE, and ANS where the source takes events
abbrev pub runtime_marks : MemoryMap → Marks
runtime_marks l = record { gate = word_place l Gate; answer = answer_word l }

-- the world of words of FRAM whose receiver accepted these before: HEAD and the ring are no part of it, which the handler alone writes
abbrev pub world_with : List ℕ → List ℕ → World
world_with words accepted = record { fram = steady (fram_of words); accepted = accepted }

-- what is read off the effects of a run's moments, behind them, where an image's fresh board began it
abbrev pub known_behind : MemoryMap → ImageValue → List Moment → History
known_behind l image ms = observed (runtime_marks l) ms (first_history (runtime_marks l) (world_with image.words []))

-- what is known behind these moments is of the board behind them: its FRAM but for HEAD and the ring, the words that its receiver accepted, in
-- order, and how many readings were taken
pub record TellsOfBoard (b : BoardValue) (ms : List Moment) (h : History) : Type 0 where
  pub fram : h.world.fram ≡ (outside_of b).fram
  pub accepted : h.world.accepted ≡ accepted_words ms
  pub taken : h.taken ≡ b.taken

-- each version word is below VER
abbrev pub VersionsBelow : MemoryMap → (ℕ → ℕ) → Type 0
VersionsBelow l f = (i : ℕ) → i < l.versions.words → f (l.versions.address + 2 * i) < f (word_place l Version)

-- what is due in front of a task's own code, where the runtime works in place: behind a boot the entries are put back, then the start
abbrev pub due_in_place : CheckedProgram → MemoryMap → Bool → (ℕ → ℕ) → List Effect
due_in_place p l booted f = let es = if booted then (compiled_model p l).recover f else [] in es ++ start_due l (fram_after es f)

-- the address behind the code
abbrev pub code_end : CheckedProgram → MemoryMap → ℕ
code_end p l = l.boot.address + 2 * length (code_words p l)

-- FRAM has the image's words in all of the code, and its reset vector; and the handler with its vector, where the source takes events
pub record KeepsCode (p : CheckedProgram) (l : MemoryMap) (image : ImageValue) (f : ℕ → ℕ) : Type 0 where
  pub code : (a : ℕ) → a % 2 ≡ 0 → l.boot.address ≤ a → a < code_end p l → f a ≡ fram_of image.words a
  pub vector : f 0xFFFE ≡ fram_of image.words 0xFFFE
  pub handler : l.runtime.events ≡ true → HasHandler f

-- the board's next step is an instruction of the code: no acceptance is due, CPUOFF is clear, and its words stand at PC, as they are
-- fetched, within the code, and are those that the image has there
pub record FetchesCode (p : CheckedProgram) (l : MemoryMap) (image : ImageValue) (b : BoardValue) : Type 0 where
  pub instruction : Instr
  pub next : IsNextStep b (next_step.Instruction instruction)
  pub from : l.boot.address ≤ registers_of b.cpu 0
  pub to : registers_of b.cpu 0 + 2 * length (encoding instruction) ≤ code_end p l
  pub same : Holds (fram_of image.words) (registers_of b.cpu 0) (encoding instruction)

-- it is an acceptance, at a board that stands at the code
pub record Accepts (p : CheckedProgram) (l : MemoryMap) (b : BoardValue) : Type 0 where
  pub events : l.runtime.events ≡ true
  pub next : IsNextStep b next_step.Acceptance
  pub from : l.boot.address ≤ registers_of b.cpu 0
  pub to : registers_of b.cpu 0 < code_end p l

-- it is an instruction of the handler, whose words stand there in the image too
pub record FetchesHandler (l : MemoryMap) (image : ImageValue) (b : BoardValue) : Type 0 where
  pub events : l.runtime.events ≡ true
  pub at : Stage
  pub next : IsNextStep b (next_step.Instruction (instruction_at at))
  pub there : registers_of b.cpu 0 ≡ place_at at
  pub same : Holds (fram_of image.words) (place_at at) (encoding (instruction_at at))

-- the board's next step: only where the source takes events it is another than an instruction of the code
pub data StepsOn (p : CheckedProgram) (l : MemoryMap) (image : ImageValue) (b : BoardValue) : Type 0 where
  InCode : FetchesCode p l image b → StepsOn p l image b
  AtAcceptance : Accepts p l b → StepsOn p l image b
  InHandler : FetchesHandler l image b → StepsOn p l image b

-- what became of the events at a board with this behind it in hand: each that arose was accepted, was lost, waits in EVENT, or is in hand. Where the
-- source takes no events each waits, or was lost at the port
pub record EventsHold (l : MemoryMap) (b : BoardValue) (hand : Hand) : Type 0 where
  pub counted : b.line.arisen ≡ length hand.accepted + (b.line.missed + hand.lost) + (words_in b.line.port + length (word_list hand.word))
  pub none : l.runtime.events ≡ false → b.line.arisen ≡ b.line.missed + words_in b.line.port

-- what the ring holds behind these moments of a run from a board: it keeps its rule; HEAD counts the accepted words, and the last 63 of them stand in
-- their slots
pub record RingHolds (l : MemoryMap) (b : BoardValue) (ms : List Moment) : Type 0 where
  pub keeps : KeepsRing (word_place l Gate) (fram_of (last_board b ms).fram)
  pub last : HoldsLast (fram_of b.fram head_place) (fram_of (last_board b ms).fram) (hand_after (Some head_place) ms no_hand).accepted

-- so at each board of a run, behind any number of instructions
abbrev pub RingsHold : MemoryMap → BoardValue → RunOutcome → Type 0
RingsHold l b r = (ms rest : List Moment) → r.moments ≡ ms ++ rest → RingHolds l b ms

-- the answers of the attempts that were committed in a run from a board are the first of the words that waited at first, and of those accepted since
abbrev pub AnswersHold : MemoryMap → MapValue → BoardValue → RunOutcome → Type 0
AnswersHold l m b r =
    AnswersInOrder (map (λ a. a.answers) (attempts_of m (at_first m b) no_answers r.moments)) (words_behind (word_place l Gate) b r.moments)

-- SP is within the stack wherever the handler may begin
abbrev pub HasRoom : BoardValue → Type 0
HasRoom b = is_interruptible (registers_of b.cpu) ≡ true → (stack_floor ≤ registers_of b.cpu 1) × (registers_of b.cpu 1 ≤ stack_top)

-- SP is in the stack of a task: it has as many words as the source's stack counts for the task and all that it calls (`stack_of`), but for the 16 that are
-- left to handlers, and goes down from where the stacks of code begin, 2400
pub record IsOnStack (p : CheckedProgram) (l : MemoryMap) (task : CheckedTask) (sp : ℕ) : Type 0 where
  pub from : stack_low (summaries p) task ≤ sp
  pub to : sp ≤ stack_top

-- wherever the board stands in the code of a task, or in that of a function for the task, SP is in the task's stack
abbrev pub StackIsKept : CheckedProgram → MemoryMap → BoardValue → Type 0
StackIsKept p l b = (k : ℕ) (task : CheckedTask) (place : TaskPlace) → slice_get p.tasks k ≡ Some task → slice_get l.tasks k ≡ Some place
    → is_in_task (registers_of b.cpu 0) place ≡ true → IsOnStack p l task (registers_of b.cpu 1)

-- What holds at each boundary between two steps: `b` is the board behind these moments, and `h` what is known of the run so far.
pub record HoldsAt (p : CheckedProgram) (l : MemoryMap) (image : ImageValue) (readings : List ℕ) (b : BoardValue) (ms : List Moment)
    (h : History) : Type 0 where
  pub tells : TellsOfBoard b ms h
  -- the effects since the last boot or done are a prefix of what was due there: where GATE was 1, of the commit that was pending; else of the
  -- start of an attempt, of the task that CUR named, on the readings from there on, and of its commit
  pub effects : FollowsScript (compiled_model p l) readings h
  -- the board is undecided at the state of the last done (at first the first state), which the source's tasks reach on the committed
  -- readings of the dones; or it is decided from it to the state that its task gives on the committed readings of the decide
  pub stands : StandsFor (compiled_model p l) readings (Resting (first_state p)) h
  -- a decided state is never lost: between a decide and its done the board is undecided at no state, whatever boots stand between
  pub never_lost : h.decided ≡ true → ((outside_of b).fram (word_place l Gate) ≡ 1)
      × ((s : State) → (compiled_model p l).Undecided s h.world → ⊥)
  -- between a done, or the start, and the next decide no word is accepted; between a decide and its done a prefix of that task's
  pub accepted : AcceptedWords (compiled_model p l) readings (Resting (first_state p)) h stands.state h.decided
  -- since the last boot or done no more readings were taken than the text of the task has that CUR named there, and no more words were offered than that of
  -- the state of the last done emits; each on the path with the most
  pub takes_few : length (readings_taken h.effects) ≤ readings_from p l h.start.fram
  pub offers_few : length (words_offered h.effects) ≤ words_from p l (Resting (first_state p)) h.completed stands.state
  -- CLN and EN are within the map's capacities, and version words at most VER
  pub capacities : KeepsCapacities l (outside_of b).fram
  -- SP stays in the stack of the task in whose code the board stands
  pub stack : StackIsKept p l b
  -- as a task's first own instruction runs, whose start is made and which has done nothing yet, each version word is below VER. (With
  -- exactly the start's effects the code comes to the task's own: `start_is_made` of `boot_runtime`.) So where the runtime works in copies
  pub versions : l.runtime.logging ≡ Redo → h.effects ≡ start_due l h.start.fram → VersionsBelow l (outside_of b).fram
  -- and where it works in place, behind what is put back, if no commit was pending
  pub versions_in_place : l.runtime.logging ≡ Undo → h.start.fram (word_place l Gate) ≡ 0 → h.effects ≡ due_in_place p l h.booted h.start.fram
      → VersionsBelow l (outside_of b).fram
  -- no store fell on the code, nor on the handler
  pub code : KeepsCode p l image (outside_of b).fram
  -- every word that is fetched is the fresh image's
  pub fetches : StepsOn p l image b
  -- each event that arose is accounted for
  pub events : EventsHold l b (hand_after (head_of image.map) ms no_hand)
  -- wherever the handler may begin it has its room on the stack
  pub room : l.runtime.events ≡ true → HasRoom b

-- VER is raised within the first 40 of these instructions: behind some of them it is one more than on the board on which they began. The handler's
-- aren't counted
pub record IsRaisedSoon (l : MemoryMap) (b : BoardValue) (steps : List Moment) : Type 0 where
  pub first : List Moment
  pub rest : List Moment
  pub are : steps ≡ first ++ rest
  pub soon : program_steps first ≤ 40
  pub raised : (outside_of (last_board b first)).fram (word_place l Version) ≡ (outside_of b).fram (word_place l Version) + 1

-- in a charge that begins with GATE 0 and VER not 65535, if the charge has 40 instructions beside the handler's
abbrev pub RaisesVersion : MemoryMap → List Moment → Type 0
RaisesVersion l moments = (ms steps rest : List Moment) (boot : Moment) → moments ≡ ms ++ (boot ∷ (steps ++ rest)) → boot.action ≡ PowerUp
    → AreInstructionMoments steps → 40 ≤ program_steps steps → (outside_of boot.after).fram (word_place l Gate) ≡ 0
    → (outside_of boot.after).fram (word_place l Version) ≢ 0xFFFF → IsRaisedSoon l boot.after steps

-- the CPU accepts interrupts at every boundary outside the handler behind the first four of a charge's own instructions
abbrev pub StaysOpen : List Moment → Type 0
StaysOpen moments = (ms steps rest : List Moment) (boot : Moment) → moments ≡ ms ++ (boot ∷ (steps ++ rest)) → boot.action ≡ PowerUp
    → AreInstructionMoments steps → 4 ≤ program_steps steps
    → let b = last_board boot.after steps in registers_of b.cpu 0 < handler_place → is_interruptible (registers_of b.cpu) ≡ true

-- What holds of a run of an image under charges, on readings and events.
pub record IsLawfulRun (text : List ℕ) (p : CheckedProgram) (allow : Allow) (l : MemoryMap) (image : ImageValue) (cs : List BoardCharge) (readings : List ℕ)
    (events : List Event) (r : RunOutcome) : Type 0 where
  -- the fresh board rests at the source's first state
  pub rests : (compiled_model p l).Rests (first_state p) (fresh_world image)
  -- the places that the map names are apart
  pub apart : AreApart l
  -- each prefix of a commit keeps decided, and the whole of it rests at the new state
  pub commits : (s next : State) (x : World) → (compiled_model p l).Decided s next x → CommitContract (compiled_model p l) s next x
  -- at each board, behind any number of instructions
  pub fronts : (ms rest : List Moment) → r.moments ≡ ms ++ rest
      → HoldsAt p l image readings (last_board (fresh image.words readings events) ms) ms (known_behind l image ms)
  -- it stops for want of a reading alone: at no illegal word, no bus fault and not off; and only where the source is short, at the state
  -- of the last done on the readings from the last boot or done on
  pub stops : (e : Stop) → r.ending ≡ Stopped e
      → (e ≡ stop.NoReading) × IsShort (compiled_model p l) readings (Resting (first_state p)) (known_behind l image r.moments)
  -- where the source takes no events nothing is read of EVENT, by the step that stopped it neither
  pub unheard : l.runtime.events ≡ false → NeverReads r
  -- where it does, the handler may begin between any two of a charge's instructions but the first ones
  pub opens : l.runtime.events ≡ true → StaysOpen r.moments
  -- and the ring holds the accepted words, never more than it has slots
  pub rings : l.runtime.events ≡ true → RingsHold l (fresh image.words readings events) r
  -- each answer of `next_event()` is the accepted word whose turn it is, and 0 only where HEAD was TAIL + EC as the program looked
  pub takes : l.runtime.events ≡ true → TakesInOrder (word_place l Gate) (fresh image.words readings events) r.moments
  -- and the transitions have the accepted words, in order and each once
  pub answered : l.runtime.events ≡ true → AnswersHold l (map_of text p l allow) (fresh image.words readings events) r
  -- in a charge that begins with GATE 0 and VER not 65535, VER is raised within the first 40 instructions, if the charge has them and the runtime works
  -- in copies
  pub raises : l.runtime.logging ≡ Redo → RaisesVersion l r.moments
  -- a charge that is spent has n transitions, if it has n bounds and 100 for each event that arose in it; and it is less than those and the costs of
  -- the tasks that were completed in it, and of the one that was to come
  pub progress : let m = map_of text p l allow in let b = fresh image.words readings events in
      EachChargePays m (λ h. cost_of p h.task) cs b (at_first m b) r
  -- and each is less than those and what the tasks need by the code that is linked, of which none needs more than its part of the bound: so one that holds
  -- what the next n tasks need has n transitions
  pub needs : let m = map_of text p l allow in let b = fresh image.words readings events in
      EachChargePays m (λ h. need_of p l h.task) cs b (at_first m b) r
  -- its report is told by the source, where the charges have fewer than 2^64 cycles and instructions in all
  pub told : all_amounts cs < 2 ^ 64
      → IsToldBySource text p (map_of text p l allow) cs (fresh image.words readings events) r (report_of (start_of image) events r)

-- What holds of an image: under every list of charges of cycles or of instructions, from every state that each power-up may leave (any
-- words in RAM, registers and OUTNUM), and on all readings and events that a board may hold, its run is such.
abbrev pub IsLawful : List ℕ → CheckedProgram → Allow → MemoryMap → ImageValue → Type 0
IsLawful text p allow l image = (cs : List BoardCharge) → ArePowerStates cs → (readings : List ℕ) (events : List Event) → AreInputs readings events
    → (r : RunOutcome) → Run cs (fresh image.words readings events) r → IsLawfulRun text p allow l image cs readings events r

-- it holds of every accepted text and its image for either runtime
abbrev pub ImagesKeepTheLaws : Type 0
ImagesKeepTheLaws = (logging : Logging) (text : List ℕ) (p : CheckedProgram) (allow : Allow) (image : ImageValue) → IsAcceptedText text p allow
    → (c : IsCompiledFor logging text p allow image) → IsLawful text p allow c.layout image
