-- What holds of the states of images of accepted sources.
use Rattle.std.specs.Prelude.{◌≡◌, ℕ, List, length, Some, IfSome}
use Rattle.address_space.specs.Limits.{fram_words}
use Rattle.state_text.specs.declared.state.State.{State}
use Rattle.fram_state.specs.Belongs.{Belongs}
use Rattle.fram_state.specs.Suits.{Suits}
use Rattle.fram_state.specs.Migrated.{EditionValue, edition_with, rows_of, IsStateOf, IsMigrated}
use Rattle.image_map.specs.MapValue.{MapValue}
use Rattle.image_map.specs.Kept.{IsMap}
use Rattle.image_text.specs.ImageValue.{ImageValue}
use Rattle.energy_trace.specs.TraceValue.{Event, TraceValue}
use Rattle.fram_board.specs.Run.{BoardCharge, RunOutcome, Run}
use Rattle.board_run.specs.Charges.{charges_of}
use Rattle.board_run.specs.History.{start_of}
use Rattle.board_run.specs.Report.{report_of}
use Rattle.run_charges.specs.Charges.{ArePowerStates}
use Rattle.source_runs.specs.Traces.{AreInputs, IsTraceOfWords}
use Rattle.cost_bound.specs.declared.allowance.Allow.{Allow}
use Rattle.source_values.specs.Runs.{CheckedProgram}
use Rattle.source_meaning.specs.Acceptance.{IsAcceptedText}
use Rattle.image_laws.specs.Compiled.{IsCompiled, IsImageOf}
use Rattle.image_reports.specs.Resumed.{BelongsTo, IsResumedRun}
use Rattle.compiled_states.specs.Worlds.{world_of, MayHaveAccepted, HasFramWords, HasCodeWords, KeepsRing, BelongsAt, board_of, IsToldByItsSource}
use Rattle.compiled_states.specs.Worlds.{LeavesItsStates}

-- what holds of each image of an accepted source
abbrev OfImages : ((text : List ℕ) (p : CheckedProgram) (allow : Allow) (image : ImageValue) → IsCompiled text p allow image → Type 0) → Type 0
OfImages F = (text : List ℕ) (p : CheckedProgram) (allow : Allow) (image : ImageValue) → IsAcceptedText text p allow → (c : IsCompiled text p allow image)
    → F text p allow image c

-- the world of a state that belongs to the image is one from which a run may go on, whatever words were accepted before
abbrev pub StatesAreWorlds : Type 0
StatesAreWorlds = OfImages (λ text p allow image c. (s : State) (accepted : List ℕ) → HasFramWords s → MayHaveAccepted s accepted → Belongs image s
    → BelongsTo p c.layout image (world_of s accepted))

-- and a state of the image's map, with such a world, a ring that keeps its rule, and the image's words from the code on, belongs to the image
abbrev pub WorldsAreStates : Type 0
WorldsAreStates = OfImages (λ text p allow image c. (s : State) (accepted : List ℕ) → length s.image.words ≡ fram_words → MayHaveAccepted s accepted
    → s.image.map ≡ image.map → HasCodeWords c.layout image s → KeepsRing s → BelongsTo p c.layout image (world_of s accepted) → Belongs image s)

-- the image, before anything was done, is a state that belongs to it
abbrev pub FreshStatesBelong : Type 0
FreshStatesBelong = (text : List ℕ) (image : ImageValue) → IsImageOf text image → Belongs image (record { image = image; receiver = 0 })

-- each run from a state that belongs to the image keeps the laws of runs that go on, whatever words were accepted before: under every list of
-- charges, from every state that each power-up may leave, and on all readings and events that a board may hold; and what is saved of each of its boards
-- belongs to the image again
abbrev pub StatesGoOn : Type 0
StatesGoOn = OfImages (λ text p allow image c. (s : State) (accepted : List ℕ) → HasFramWords s → MayHaveAccepted s accepted → Belongs image s
    → (cs : List BoardCharge) → ArePowerStates cs → (readings : List ℕ) (events : List Event) → AreInputs readings events
    → (r : RunOutcome) → Run cs (board_of s readings events) r
    → IsResumedRun text p allow c.layout image (world_of s accepted) cs (board_of s readings events) r
    × LeavesItsStates image s (board_of s readings events) r)

-- on any trace of words, the report of the one run from a state that belongs to an image is told by the image's source
abbrev pub StatesAreTold : Type 0
StatesAreTold = (image : ImageValue) (s : State) → HasFramWords s → Belongs image s → (trace : TraceValue) → IsTraceOfWords trace
    → (r : RunOutcome) → Run (charges_of trace.charges) (board_of s trace.readings trace.events) r
    → IsToldByItsSource image s trace r (report_of (start_of s.image) trace.events r)

-- and it leaves states that belong to the image, where this is one of an accepted source
abbrev pub StatesStay : Type 0
StatesStay = (text : List ℕ) (image : ImageValue) → IsImageOf text image → (s : State) → HasFramWords s → Belongs image s → (trace : TraceValue)
    → IsTraceOfWords trace → (r : RunOutcome) → Run (charges_of trace.charges) (board_of s trace.readings trace.events) r
    → LeavesItsStates image s (board_of s trace.readings trace.events) r

-- the image suits its source
abbrev pub ImagesSuitTheirSources : Type 0
ImagesSuitTheirSources = OfImages (λ text p allow image c. Suits text p image)

-- A state rests in place of an old one: whatever source the old one is of, and whatever accepted source's edition, with its image, it was migrated
-- to, the new one belongs to that image, and rests at the state of that source whose shared words are those that are kept of the old state, or
-- else those that the source begins with, and whose task is the one of the old current task's name
abbrev pub RestsInPlaceOf : State → State → Type 0
RestsInPlaceOf s t = OfImages (λ text p allow image c. (old_text : List ℕ) (old_p : CheckedProgram) (m n : MapValue) → IsStateOf old_text old_p s
    → s.image.map ≡ Some m → image.map ≡ Some n
    → let old : EditionValue = edition_with old_text old_p m s.image.words in
    let new : EditionValue = edition_with text p n image.words in
    (g : IsMigrated old new s.receiver t) → BelongsAt p c.layout image (rows_of old new) g.migrates.can.number t)

-- so it is with each two states, whatever image the old one is of
abbrev pub MigratedStatesBelong : Type 0
MigratedStatesBelong = (s t : State) → HasFramWords s → IfSome s.image.map IsMap → HasFramWords t → RestsInPlaceOf s t
