-- What `migrate` makes of its texts: the state of a new edition of a program that goes on in place of an old one; and why there is none.
use Rattle.std.specs.Prelude.{◌≡◌, ℕ, List, codes, Option, Some, None, Ok, [], ◌∷◌, IsSomeAnd, IfSome}
use Rattle.plain_commands.specs.image_text.ImageValue.{ImageValue}
use Rattle.plain_commands.specs.image_text.Reading.{image_of}
use Rattle.plain_commands.specs.state_text.declared.state.State.{State}
use Rattle.plain_commands.specs.state_text.Reading.{state_of}
use Rattle.plain_commands.specs.state_text.Text.{state_text}
use Rattle.fram_state.specs.declared.migration.MigrateFault.{MigrateFault}
use Rattle.fram_state.specs.declared.migration.MigrateFault.TheVariants.{Pending, NoTask, Unsettled, Memory}
use Rattle.fram_state.specs.Belongs.{Belongs, IsAnswer}
use Rattle.fram_state.specs.Suits.{Suits}
use Rattle.fram_state.specs.Migrated.{EditionValue, edition_with, CanMigrate, IsMigrated, IsFault}
use Rattle.plain_commands.specs.source_values.Runs.{CheckedProgram}
use Rattle.plain_commands.specs.state_text.image_map.Kept.{IsMap}
use Rattle.state_commands.specs.Saved.{IsOfWords}
use Rattle.plain_commands.specs.command_answers.Refusals.{Refusal, plain, named}
use Rattle.state_commands.specs.Resumed.{RefusesOther}
use Rattle.plain_commands.specs.command_texts.Sources.{IsSourceText, RefusesSource}
use Rattle.plain_commands.specs.command_texts.Texts.{RefusesImage, RefusesState}
use Rattle.plain_commands.specs.command_answers.Ending.{well}
use Rattle.plain_commands.specs.command_answers.Promises.{Promise, OfFiveTexts}

-- the texts that `migrate` reads, in order
pub record Editions : Type 0 where
  pub source : List ℕ
  pub image : List ℕ
  pub state : List ℕ
  pub new_source : List ℕ
  pub new_image : List ℕ

abbrev pub editions : (source image state new_source new_image : List ℕ) → Editions
editions source image state new_source new_image =
    record { source = source; image = image; state = state; new_source = new_source; new_image = new_image }

-- what they say: two sources that are compiled, each with its image
pub record AreSaid (t : Editions) : Type 0 where
  pub program : CheckedProgram
  pub image : ImageValue
  pub state : State
  pub new_program : CheckedProgram
  pub new_image : ImageValue
  pub source_said : IsSourceText t.source program
  pub image_said : image_of t.image ≡ Ok image
  pub state_said : state_of t.state ≡ Ok state
  pub new_source_said : IsSourceText t.new_source new_program
  pub new_image_said : image_of t.new_image ≡ Ok new_image

-- the sources are accepted as these programs alone
pub record AreAlone (t : Editions) (s : AreSaid t) : Type 0 where
  pub old : (other : CheckedProgram) → IsSourceText t.source other → other ≡ s.program
  pub new : (other : CheckedProgram) → IsSourceText t.new_source other → other ≡ s.new_program

-- each image suits its source
pub record AreSuited (t : Editions) (s : AreSaid t) : Type 0 where
  pub old : Suits t.source s.program s.image
  pub new : Suits t.new_source s.new_program s.new_image

-- the old edition, with the FRAM of the state; and the new one, with that of its image
abbrev pub old_edition : (t : Editions) (s : AreSaid t) → AreSuited t s → EditionValue
old_edition t s u = edition_with t.source s.program u.old.named s.state.image.words

abbrev pub new_edition : (t : Editions) (s : AreSaid t) → AreSuited t s → EditionValue
new_edition t s u = edition_with t.new_source s.new_program u.new.named s.new_image.words

-- what may hold of the texts of a migration and of the state that it makes
abbrev pub HoldsOfMigrations : Type 1
HoldsOfMigrations = (t : Editions) (s : AreSaid t) (u : AreSuited t s) (state : State)
    → IsMigrated (old_edition t s u) (new_edition t s u) s.state.receiver state → Type 0

-- by their types both states are of words, and the old one's map keeps the rules of maps
abbrev pub MigratesWords : HoldsOfMigrations
MigratesWords t s u state g = IsOfWords s.state × IfSome s.state.image.map IsMap × IsOfWords state

-- The texts are a source, an image that suits it and a state that belongs to this image; and a new source and an image that suits it. These bytes are
-- the text, which reads back, of a state that goes on in place of the old one. And this holds of them.
pub record Migrates (Holds : HoldsOfMigrations) (t : Editions) (file : List ℕ) : Type 0 where
  pub said : AreSaid t
  pub alone : AreAlone t said
  pub suited : AreSuited t said
  pub belongs : Belongs said.image said.state
  pub state : State
  pub migrated : IsMigrated (old_edition t said suited) (new_edition t said suited) said.state.receiver state
  pub holds : Holds t said suited state migrated
  pub text : file ≡ state_text state
  pub reads_back : state_of file ≡ Ok state

-- the same texts, and nothing speaks against a migration
pub record CanBeMigrated (t : Editions) : Type 0 where
  pub said : AreSaid t
  pub suited : AreSuited t said
  pub taken : IsAnswer said.image said.state (Ok tt)
  pub can : CanMigrate (old_edition t said suited) (new_edition t said suited)

-- ---- why there is none

-- the refusal of an image that doesn't suit its source
abbrev pub other_source : Refusal
other_source = plain 0 (codes "OtherSource")

-- the refusal of a state that doesn't go on in the new edition, if it is one of the texts
abbrev pub migrate_refusal : Editions → MigrateFault → Option Refusal
migrate_refusal t Pending = Some (plain 0 (codes "Pending"))
migrate_refusal t (NoTask name) = Some (named t.source 0 (codes "NoTask") name)
migrate_refusal t (Unsettled name) = Some (named t.new_source 0 (codes "Unsettled") name)
migrate_refusal t Memory = None

-- the text at this place, from 0, is the first that is refused, and so; behind all faults of the texts an image that doesn't suit its source, then a
-- state that doesn't belong to the old image, and then one that doesn't go on in the new edition
pub data MigrateRefuses (t : Editions) : ℕ → Refusal → Type 0 where
  the_old_source : (r : Refusal) → RefusesSource t.source r → MigrateRefuses t 0 r
  the_old_image : (p : CheckedProgram) (r : Refusal) → IsSourceText t.source p → RefusesImage t.image r → MigrateRefuses t 1 r
  the_old_state : (p : CheckedProgram) (i : ImageValue) (r : Refusal) → IsSourceText t.source p → image_of t.image ≡ Ok i → RefusesState t.state r
      → MigrateRefuses t 2 r
  the_new_source : (p : CheckedProgram) (i : ImageValue) (s : State) (r : Refusal) → IsSourceText t.source p → image_of t.image ≡ Ok i
      → state_of t.state ≡ Ok s → RefusesSource t.new_source r → MigrateRefuses t 3 r
  the_new_image : (p : CheckedProgram) (i : ImageValue) (s : State) (q : CheckedProgram) (r : Refusal) → IsSourceText t.source p
      → image_of t.image ≡ Ok i → state_of t.state ≡ Ok s → IsSourceText t.new_source q → RefusesImage t.new_image r → MigrateRefuses t 4 r
  unsuited : (s : AreSaid t) → AreAlone t s → (Suits t.source s.program s.image → ⊥) → MigrateRefuses t 1 other_source
  unsuited_new : (s : AreSaid t) → AreAlone t s → Suits t.source s.program s.image → (Suits t.new_source s.new_program s.new_image → ⊥)
      → MigrateRefuses t 4 other_source
  another_state : (s : AreSaid t) → AreAlone t s → AreSuited t s → (r : Refusal) → RefusesOther s.image s.state r → MigrateRefuses t 2 r
  not_migrated : (s : AreSaid t) → AreAlone t s → (u : AreSuited t s) → Belongs s.image s.state → (f : MigrateFault) (r : Refusal)
      → IsFault (old_edition t s u) (new_edition t s u) f → migrate_refusal t f ≡ Some r → MigrateRefuses t 2 r

-- what it promises
abbrev pub migrate_promise : HoldsOfMigrations → (source image state new_source new_image new_state : List ℕ) → Promise
migrate_promise Holds source image state new_source new_image new_state = record {
  reads = source ∷ image ∷ state ∷ new_source ∷ new_image ∷ [];
  judges = source ∷ image ∷ state ∷ new_source ∷ new_image ∷ [];
  puts = Some new_state;
  takes = OfFiveTexts (λ s i t n j. CanBeMigrated (editions s i t n j));
  makes = λ texts p. OfFiveTexts (λ s i t n j. IsSomeAnd p.file (Migrates Holds (editions s i t n j)) × (p.output ≡ []) × (p.ending ≡ well)) texts;
  refuses = λ texts place r. OfFiveTexts (λ s i t n j. MigrateRefuses (editions s i t n j) place r) texts;
}
