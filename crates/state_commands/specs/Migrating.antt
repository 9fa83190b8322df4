-- What the parts of a migration bring.
use Rattle.std.specs.Prelude.{◌≡◌, ℕ, ◌≤◌, List, [], ◌∷◌, length, Some, Ok, slice_get}
use Rattle.plain_commands.specs.source_report.task_ast.View.{program_of}
use Rattle.plain_commands.specs.image_text.Reading.{image_of}
use Rattle.plain_commands.specs.image_text.image_map.MapValue.{MapValue}
use Rattle.plain_commands.specs.state_text.Reading.{state_of}
use Rattle.fram_state.specs.Migrated.{EditionValue, edition_with}
use Rattle.plain_commands.specs.source_values.Runs.{CheckedProgram}
use Rattle.plain_commands.specs.command_answers.declared.failure.Failure.{Failure}
use Rattle.plain_commands.specs.command_answers.declared.failure.Failure.TheVariants.{Refused, Put, Write, Memory}
use Rattle.state_commands.specs.declared.migrate.EditionTexts.{EditionTexts}
use Rattle.state_commands.specs.declared.migrate.MigrateNames.{MigrateNames}
use Rattle.state_commands.specs.declared.migrate.FiveTexts.{FiveTexts}
use Rattle.state_commands.specs.declared.migrate.OldSaid.{OldSaid}
use Rattle.state_commands.specs.declared.migrate.Said.{Said}
use Rattle.plain_commands.specs.command_answers.Refusals.{Refusal}
use Rattle.plain_commands.specs.command_texts.Sources.{IsSourceText}
use Rattle.plain_commands.specs.command_answers.Views.{refusal_of}
use Rattle.state_commands.specs.Migrated.{Editions, migrate_promise, MigratesWords}
use Rattle.plain_commands.specs.command_answers.Promises.{Promise}

-- the texts as values
abbrev pub editions_of : EditionTexts → Editions
editions_of t = record { source = t.source.now; image = t.image.now; state = t.state.now; new_source = t.new_source.now; new_image = t.new_image.now }

-- each has at most 1,048,576 bytes
pub record AreShort (t : Editions) : Type 0 where
  pub source : length t.source ≤ 1048576
  pub image : length t.image ≤ 1048576
  pub state : length t.state ≤ 1048576
  pub new_source : length t.new_source ≤ 1048576
  pub new_image : length t.new_image ≤ 1048576

-- the texts in order
abbrev pub texts_of : Editions → List (List ℕ)
texts_of t = t.source ∷ t.image ∷ t.state ∷ t.new_source ∷ t.new_image ∷ []

-- what was read from the files
abbrev pub editions_in : FiveTexts → Editions
editions_in t = record { source = t.source.items; image = t.image.items; state = t.state.items; new_source = t.new_source.items; new_image = t.new_image.items }

-- the command of these names
abbrev pub migration_of : MigrateNames → Promise
migration_of n = migrate_promise MigratesWords n.source.now n.image.now n.state.now n.new_source.now n.new_image.now n.new_state.now

-- the names of the files that it reads
abbrev pub read_by : MigrateNames → List (List ℕ)
read_by n = n.source.now ∷ n.image.now ∷ n.state.now ∷ n.new_source.now ∷ n.new_image.now ∷ []

-- the texts of the old edition say this
pub record AreOldRead (t : Editions) (s : OldSaid) : Type 0 where
  pub text : s.source.text.items ≡ t.source
  pub source_said : IsSourceText t.source (program_of s.source.checked.source)
  pub only : (other : CheckedProgram) → IsSourceText t.source other → other ≡ program_of s.source.checked.source
  pub image_said : image_of t.image ≡ Ok s.image
  pub state_said : state_of t.state ≡ Ok s.state

-- the texts say this
pub record AreRead (t : Editions) (s : Said) : Type 0 where
  pub text : s.source.text.items ≡ t.source
  pub source_said : IsSourceText t.source (program_of s.source.checked.source)
  pub only : (other : CheckedProgram) → IsSourceText t.source other → other ≡ program_of s.source.checked.source
  pub image_said : image_of t.image ≡ Ok s.image
  pub state_said : state_of t.state ≡ Ok s.state
  pub new_text : s.new_source.text.items ≡ t.new_source
  pub new_source_said : IsSourceText t.new_source (program_of s.new_source.checked.source)
  pub new_only : (other : CheckedProgram) → IsSourceText t.new_source other → other ≡ program_of s.new_source.checked.source
  pub new_image_said : image_of t.new_image ≡ Ok s.new_image

-- the edition of the old source with a map and the FRAM of the state, and that of the new one
abbrev pub old_with : Said → MapValue → EditionValue
old_with s m = edition_with s.source.text.items (program_of s.source.checked.source) m s.state.image.words

abbrev pub new_with : Said → MapValue → EditionValue
new_with s n = edition_with s.new_source.text.items (program_of s.new_source.checked.source) n s.new_image.words

-- this is so of the editions with the maps that they have
abbrev pub OfEditions : Said → (EditionValue → EditionValue → Type 0) → Type 0
OfEditions s P = (m n : MapValue) → s.state.image.map ≡ Some m → s.new_image.map ≡ Some n → P (old_with s m) (new_with s n)

-- one of the named texts is refused, by its place, or memory was
abbrev pub FailsAt : List (List ℕ) → (ℕ → Refusal → Type 0) → Failure → Type 0
FailsAt names P (Refused file r) = (place : ℕ) × (slice_get names place ≡ Some file.now) × P place (refusal_of r)
FailsAt names P (Put file) = ⊥
FailsAt names P Write = ⊥
FailsAt names P Memory = Unit {0}
