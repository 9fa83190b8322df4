-- What a migration makes of an old state: the state of a new version of its program, which goes on where the old one stopped.
use Rattle.std.specs.Prelude.{◌≡◌, ℕ, ◌+◌, ◌-◌, ◌/◌, ◌<◌, ◌==◌, true, if◌then◌else◌, List, [], ◌∷◌, map, Option, Some, None, unwrap_or, slice_get, slice_index}
use Rattle.std.specs.Prelude.{Result, Ok, Err}
use Rattle.std.specs.Option.{option_map_or}
use Rattle.state_text.specs.alp_text.declared.lines.Span.{Span}
use Rattle.image_text.specs.image_map.declared.parts.RingPlaces.{RingPlaces}
use Rattle.image_text.specs.image_map.declared.parts.Variable.{Variable}
use Rattle.image_text.specs.image_map.MapValue.{MapValue, IsFramWord, ring_words, word_count}
use Rattle.image_text.specs.ImageValue.{ImageValue}
use Rattle.state_text.specs.declared.state.State.{State}
use Rattle.task_ast.specs.declared.SharedDeclaration.{SharedDeclaration}
use Rattle.task_check.specs.path_checks.Firsts.{CheckedTask}
use Rattle.war_analysis.specs.Plans.{is_scalar}
use Rattle.source_report.specs.source_values.Runs.{CheckedProgram, initial_words, task_body}
use Rattle.source_report.specs.SourceReport.{spelled}
use Rattle.fram_state.specs.declared.migration.MigrateFault.{MigrateFault}
use Rattle.fram_state.specs.declared.migration.MigrateFault.TheVariants.{Pending, NoTask, Unsettled, Memory}
use Rattle.fram_state.specs.Stretch.{words_at, holds}
use Rattle.fram_state.specs.Named.{variable_words}
use Rattle.fram_state.specs.Runtime.{word_in, words_from}
use Rattle.fram_state.specs.Belongs.{Belongs}
use Rattle.fram_state.specs.Suits.{Suits}
use Rattle.fram_state.specs.Kept.{number_of, task_names, kept_from, IsInPlace}

-- an edition of a program: its text and what this says, and words of the FRAM with their map
pub record EditionValue : Type 0 where
  pub text : List ℕ
  pub program : CheckedProgram
  pub named : MapValue
  pub words : List ℕ

-- a state is one of a source: it belongs to an image that suits the source
pub record IsStateOf (text : List ℕ) (p : CheckedProgram) (s : State) : Type 0 where
  pub image : ImageValue
  pub suits : Suits text p image
  pub belongs : Belongs image s

-- ---- its task

-- the number of the task that CUR names, and that task
abbrev pub current : EditionValue → ℕ
current e = word_in e.words e.named.words.current_task

abbrev pub current_task : EditionValue → Option CheckedTask
current_task e = slice_get e.program.tasks (current e)

-- the number of the new task that goes on in place of an old one: it has the same name
abbrev pub next_edition_of : EditionValue → EditionValue → CheckedTask → Option ℕ
next_edition_of old new task = number_of (task_names new.text new.program) (spelled old.text task.name)

-- the current task of the old edition, and the number of the new one that goes on in its place
pub record GoesOnAt (old new : EditionValue) (task : CheckedTask) (number : ℕ) : Type 0 where
  pub is : current_task old ≡ Some task
  pub named : next_edition_of old new task ≡ Some number

-- ---- its shared words

-- the number of the old variable from which one that a new text declares is kept
abbrev pub kept_number : EditionValue → List ℕ → SharedDeclaration → Option ℕ
kept_number old text d = kept_from old.text old.program.shared (spelled text d.name) d

-- the words of the variable of a number
abbrev pub words_of : EditionValue → ℕ → List ℕ
words_of e number = option_map_or (λ v. words_from e.words v.address (word_count v.value_type v.length)) (slice_get e.named.variables number) []

-- the words that a new variable goes on with: those of the old one from which it is kept, or else those that it begins with
abbrev pub row_of : EditionValue → List ℕ → SharedDeclaration → List ℕ
row_of old text d = option_map_or (words_of old) (kept_number old text d) (initial_words d.extent)

-- those of each new variable
abbrev pub rows_of : EditionValue → EditionValue → List (List ℕ)
rows_of old new = map (row_of old new.text) new.program.shared

-- the word at an address of variables with these words; of the first variable that has it, if a map lays several over it
abbrev pub shared_word : List Variable → List (List ℕ) → ℕ → Option ℕ
shared_word (v ∷ vs) (row ∷ rows) a = if holds (variable_words v) a then Some (slice_index row ((a - v.address) / 2)) else shared_word vs rows a
shared_word _ _ a = None

-- ---- its ring of events

-- the word at an address of a ring that goes on with an old one, by the old words: HEAD, TAIL and the slots, the rest of it begins anew
abbrev pub ring_word : (new old : RingPlaces) → List ℕ → ℕ → Option ℕ
ring_word new old words a =
    if a == new.head then Some (word_in words old.head)
    else (if a == new.tail then Some (word_in words old.tail)
    else (if holds (words_at new.slots ring_words) a then Some (word_in words (old.slots + (a - new.slots))) else None))

-- a ring goes on where both maps have one
abbrev pub kept_ring_word : (new old : Option RingPlaces) → List ℕ → ℕ → Option ℕ
kept_ring_word None old words a = None
kept_ring_word (Some n) None words a = None
kept_ring_word (Some n) (Some o) words a = ring_word n o words a

-- ---- its FRAM

-- the word at an address: CUR names the new task, BASE is the old one's, a ring goes on, a variable has its words, and all others are the new image's
abbrev pub migrated_word : EditionValue → EditionValue → (task : ℕ) → ℕ → ℕ
migrated_word old new task a =
    if a == new.named.words.current_task then task
    else (if a == new.named.words.base then word_in old.words old.named.words.base
    else unwrap_or (kept_ring_word new.named.ring old.named.ring old.words a)
    (unwrap_or (shared_word new.named.variables (rows_of old new) a) (word_in new.words a)))

-- each word of the FRAM is so
abbrev pub AreMigrated : EditionValue → EditionValue → (task : ℕ) → List ℕ → Type 0
AreMigrated old new task words = (a : ℕ) → IsFramWord a → word_in words a ≡ migrated_word old new task a

-- ---- why there is none

-- the commit of the state is pending
abbrev pub IsPendingAt : EditionValue → Type 0
IsPendingAt e = word_in e.words e.named.words.gate ≡ 1

-- A new scalar, by its number, is kept but isn't settled: the old current task writes it in place, so that a cut attempt may have left any
-- word in it, and the task that goes on doesn't, so that it may read that word.
pub record IsUnsettled (old new : EditionValue) (task number : ℕ) : Type 0 where
  pub scalar : SharedDeclaration
  pub is : slice_get new.program.shared number ≡ Some scalar
  pub one_word : is_scalar scalar.extent ≡ true
  pub from : ℕ
  pub kept : kept_number old new.text scalar ≡ Some from
  pub before : IsInPlace old.program.functions (task_body old.program (current old)) from
  pub behind : IsInPlace new.program.functions (task_body new.program task) number → ⊥

-- the new source has no task of the current task's name, which stands there in the old text
pub record HasNoTask (old new : EditionValue) (name : Span) : Type 0 where
  pub at_rest : IsPendingAt old → ⊥
  pub task : CheckedTask
  pub is : current_task old ≡ Some task
  pub none : next_edition_of old new task ≡ None
  pub stands : name ≡ task.name

-- the first scalar that isn't settled, whose name stands there in the new text
pub record IsFirstUnsettled (old new : EditionValue) (name : Span) : Type 0 where
  pub at_rest : IsPendingAt old → ⊥
  pub task : CheckedTask
  pub number : ℕ
  pub goes_on : GoesOnAt old new task number
  pub scalar : ℕ
  pub unsettled : IsUnsettled old new number scalar
  pub first : (i : ℕ) → i < scalar → IsUnsettled old new number i → ⊥
  pub stands : name ≡ unsettled.scalar.name

-- what each fault says; nothing where memory was refused
abbrev pub IsFault : EditionValue → EditionValue → MigrateFault → Type 0
IsFault old new Pending = IsPendingAt old
IsFault old new (NoTask name) = HasNoTask old new name
IsFault old new (Unsettled name) = IsFirstUnsettled old new name
IsFault old new Memory = Unit {0}

-- ---- the answer

-- nothing speaks against it: no commit is pending, the new source has a task of the current task's name, and each kept scalar is settled
pub record CanMigrate (old new : EditionValue) : Type 0 where
  pub at_rest : IsPendingAt old → ⊥
  pub task : CheckedTask
  pub number : ℕ
  pub goes_on : GoesOnAt old new task number
  pub settled : (i : ℕ) → IsUnsettled old new number i → ⊥

-- these are the words of the migrated FRAM
pub record Migrates (old new : EditionValue) (words : List ℕ) : Type 0 where
  pub can : CanMigrate old new
  pub each : AreMigrated old new can.number words

-- a state goes on in place of an old one whose receiver takes this number next: it has the new map and the migrated FRAM, and keeps the number
pub record IsMigrated (old new : EditionValue) (receiver : ℕ) (s : State) : Type 0 where
  pub migrates : Migrates old new s.image.words
  pub mapped : s.image.map ≡ Some new.named
  pub keeps : s.receiver ≡ receiver

-- the answer about an old state whose receiver takes this number next
abbrev pub IsAnswerFor : EditionValue → EditionValue → ℕ → Result State MigrateFault → Type 0
IsAnswerFor old new receiver (Ok s) = IsMigrated old new receiver s
IsAnswerFor old new receiver (Err fault) = IsFault old new fault

-- an edition of a source, with the words of an image that has this map
abbrev pub edition_with : List ℕ → CheckedProgram → MapValue → List ℕ → EditionValue
edition_with text p m words = record { text = text; program = p; named = m; words = words }
