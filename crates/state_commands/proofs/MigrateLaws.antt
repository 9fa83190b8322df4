-- The parts of a migration, put together.
use Rattle.std.proofs.Common.{◌≡◌, ◌∙◌, ℕ, List, [], Some, Result, Ok, Err, refl, sym, ap, subst, IfOk, IfErr, Option, IfSome}
use Rattle.std.specs.Prelude.{slice_get}
use Rattle.std.specs.Io.KnownBytes.{Appends}
use Rattle.std.proofs.KnownBytes.{Appends-nil}
use Rattle.plain_commands.specs.alp_io.Shelf.{Told, Sets, Files, Counts, NeverFall}
use Rattle.plain_commands.specs.source_report.task_ast.View.{program_of}
use Rattle.plain_commands.specs.state_text.declared.state.State.{State}
use Rattle.plain_commands.specs.state_text.Reading.{state_of}
use Rattle.plain_commands.specs.state_text.Text.{state_text}
use Rattle.fram_state.specs.declared.migration.MigrateFault.{MigrateFault}
use Rattle.fram_state.specs.Belongs.{Belongs}
use Rattle.fram_state.specs.Suits.{Suits}
use Rattle.fram_state.specs.Migrated.{EditionValue, IsStateOf, IsMigrated, IsFault}
use Rattle.plain_commands.specs.state_text.image_map.Kept.{IsMap}
use Rattle.state_commands.specs.Saved.{IsOfWords}
use Rattle.plain_commands.specs.source_values.Runs.{CheckedProgram}
use Rattle.plain_commands.specs.source_meaning.Acceptance.{IsAcceptedText}
use Rattle.plain_commands.specs.cost_bound.declared.allowance.Allow.{Allow}
use Rattle.plain_commands.specs.command_answers.declared.failure.Failure.{Failure}
use Rattle.plain_commands.specs.command_answers.declared.failure.Failure.TheVariants.{Refused, Put, Write, Memory}
use Rattle.state_commands.specs.declared.migrate.MigrateNames.{MigrateNames}
use Rattle.state_commands.specs.declared.migrate.Said.{Said}
use Rattle.plain_commands.specs.command_answers.CommandAnswers.{IsWhole, CommandAnswers, TextAnswers}
use Rattle.plain_commands.specs.command_answers.Ending.{well}
use Rattle.state_commands.specs.Migrated.{Editions, AreSaid, AreAlone, AreSuited, Migrates, MigratesWords, MigrateRefuses, unsuited, unsuited_new}
use Rattle.state_commands.specs.Migrated.{another_state, not_migrated, other_source, migrate_refusal, old_edition, new_edition}
use Rattle.state_commands.specs.Migrating.{AreRead, FailsAt, OfEditions, old_with, new_with, read_by, texts_of, migration_of}
use Rattle.plain_commands.specs.command_answers.Outcomes.{FailsBy, FailsPutting, FailsRefused}
use Rattle.plain_commands.specs.command_answers.Outside.{Shelved, WhereSilent, Written}
use Rattle.plain_commands.specs.command_answers.Refusals.{Refusal}
use Rattle.state_commands.specs.Resumed.{RefusesOther}
use Rattle.plain_commands.specs.command_texts.Sources.{IsSourceText}
use Rattle.plain_commands.specs.command_answers.Views.{refusal_of}
use Rattle.plain_commands.proofs.command_answers.Interface.{put_whole, put_fails, of_texts, earlier_read}
use Rattle.plain_commands.specs.command_answers.declared.status.Status.{Status}
use Rattle.plain_commands.specs.command_answers.InputFiles.{AreHeld}

-- a text of a migration is refused, at its place
pub fails_at : (e : Failure) (name : List ℕ) (P : Refusal → Type 0) (n : MigrateNames) (t : Editions) (place : ℕ)
    → slice_get (read_by n) place ≡ Some name → ((r : Refusal) → P r → MigrateRefuses t place r) → FailsRefused name P e
    → FailsAt (read_by n) (MigrateRefuses t) e
fails_at (Refused file r) name P n t place named is fails = (place, named ∙ ap Some (sym fails.0), is (refusal_of r) fails.1)
fails_at (Put file) name P n t place named is fails = absurd fails
fails_at Write name P n t place named is fails = absurd fails
fails_at Memory name P n t place named is fails = tt

-- a fault of a migration is why its state is refused
pub fault_refuses : (e : Failure) (name : List ℕ) (t : Editions) (s : Said) (f : MigrateFault) → OfEditions s (λ a b. IsFault a b f)
    → FailsRefused name (λ r. migrate_refusal t f ≡ Some r) e
    → FailsRefused name (λ r. (x : MigrateFault) × OfEditions s (λ a b. IsFault a b x) × (migrate_refusal t x ≡ Some r)) e
fault_refuses (Refused file r) name t s f is fails = (fails.0, (f, is, fails.1))
fault_refuses (Put file) name t s f is fails = fails
fault_refuses Write name t s f is fails = fails
fault_refuses Memory name t s f is fails = tt

-- ---- what the texts say

-- a source is accepted as one program alone
pub alone : (text : List ℕ) (p : CheckedProgram) (w : Allow)
    → ((other : CheckedProgram) (price : Allow) → IsAcceptedText text other price → (other ≡ p) × (price ≡ w))
    → (other : CheckedProgram) → IsSourceText text other → other ≡ p
alone text p w only other said = (only other said.allow said.accepted).0

module _ (t : Editions) (s : Said) (read : AreRead t s) where
  abbrev pub said_in : AreSaid t
  said_in = record {
    program = program_of s.source.checked.source;
    image = s.image;
    state = s.state;
    new_program = program_of s.new_source.checked.source;
    new_image = s.new_image;
    source_said = read.source_said;
    image_said = read.image_said;
    state_said = read.state_said;
    new_source_said = read.new_source_said;
    new_image_said = read.new_image_said;
  }

  pub alone_in : AreAlone t said_in
  alone_in = record { old = read.only; new = read.new_only }

  -- the old image suits its source, or is refused
  pub suits_old : Suits s.source.text.items (program_of s.source.checked.source) s.image → Suits t.source (program_of s.source.checked.source) s.image
  suits_old h = subst (λ x. Suits x (program_of s.source.checked.source) s.image) read.text h

  pub suits_new : Suits s.new_source.text.items (program_of s.new_source.checked.source) s.new_image
      → Suits t.new_source (program_of s.new_source.checked.source) s.new_image
  suits_new h = subst (λ x. Suits x (program_of s.new_source.checked.source) s.new_image) read.new_text h

  pub refused_old : (r : Refusal) → (r ≡ other_source) × (Suits s.source.text.items (program_of s.source.checked.source) s.image → ⊥) → MigrateRefuses t 1 r
  refused_old r h =
      let back : Suits t.source (program_of s.source.checked.source) s.image → Suits s.source.text.items (program_of s.source.checked.source) s.image =
      λ x. subst (λ x. Suits x (program_of s.source.checked.source) s.image) (sym read.text) x in
      subst (λ x. MigrateRefuses t 1 x) (sym h.0) (unsuited said_in alone_in (λ x. h.1 (back x)))

  pub refused_new : Suits s.source.text.items (program_of s.source.checked.source) s.image → (r : Refusal)
      → (r ≡ other_source) × (Suits s.new_source.text.items (program_of s.new_source.checked.source) s.new_image → ⊥) → MigrateRefuses t 4 r
  refused_new old r h =
      let back : Suits t.new_source (program_of s.new_source.checked.source) s.new_image
      → Suits s.new_source.text.items (program_of s.new_source.checked.source) s.new_image =
      λ x. subst (λ x. Suits x (program_of s.new_source.checked.source) s.new_image) (sym read.new_text) x in
      subst (λ x. MigrateRefuses t 4 x) (sym h.0) (unsuited_new said_in alone_in (suits_old old) (λ x. h.1 (back x)))

  module _ (old : Suits s.source.text.items (program_of s.source.checked.source) s.image)
      (new : Suits s.new_source.text.items (program_of s.new_source.checked.source) s.new_image) where
    abbrev suited : AreSuited t said_in
    suited = record { old = suits_old old; new = suits_new new }

    pub refused_state : (r : Refusal) → RefusesOther s.image s.state r → MigrateRefuses t 2 r
    refused_state r h = another_state said_in alone_in suited r h

    module _ (belongs : Belongs s.image s.state) where
      -- the map of the state is that of its image
      map_is : s.state.image.map ≡ Some suited.old.named
      map_is =
          let same : Some belongs.map ≡ Some suited.old.named = sym belongs.have.of_image ∙ suited.old.mapped in
          belongs.have.of_state ∙ same

      -- so what is said of the editions with their maps is said of these
      of_editions : (P : EditionValue → EditionValue → Type 0) → OfEditions s P → P (old_edition t said_in suited) (new_edition t said_in suited)
      of_editions P h =
          let here = h suited.old.named suited.new.named map_is suited.new.mapped in
          let Old : List ℕ → Type 0 = λ x. P (record (old_with s suited.old.named) { text = x }) (new_with s suited.new.named) in
          let New : List ℕ → Type 0 = λ x. P (old_edition t said_in suited) (record (new_with s suited.new.named) { text = x }) in
          subst New read.new_text (subst Old read.text here)

      pub is_state_of : IsStateOf s.source.text.items (program_of s.source.checked.source) s.state
      is_state_of = record { image = s.image; suits = old; belongs = belongs }

      pub refused_migration : (r : Refusal) → (f : MigrateFault) × OfEditions s (λ a b. IsFault a b f) × (migrate_refusal t f ≡ Some r)
          → MigrateRefuses t 2 r
      refused_migration r h = not_migrated said_in alone_in suited belongs h.0 r (of_editions (λ a b. IsFault a b h.0) h.1) h.2

      pub migrates : (x : State) (file : List ℕ) → OfEditions s (λ a b. IsMigrated a b s.state.receiver x) → IsOfWords s.state
          × IfSome s.state.image.map IsMap × IsOfWords x → file ≡ state_text x
          → state_of file ≡ Ok x → Migrates MigratesWords t file
      migrates x file h words text back = record {
        said = said_in;
        alone = alone_in;
        suited = suited;
        belongs = belongs;
        state = x;
        migrated = of_editions (λ a b. IsMigrated a b s.state.receiver x) h;
        holds = words;
        text = text;
        reads_back = back;
      }

-- ---- the command

pub refusal_at : (e : Failure) (n : MigrateNames) (t : Editions) (shelf : Shelved) → FailsAt (read_by n) (MigrateRefuses t) e
    → (shelf.new ≡ shelf.old) → WhereSilent (FailsBy e (migration_of n) (texts_of t) shelf)
refusal_at (Refused file r) n t shelf fails stands = λ out silent. (record { place = fails.0; named = fails.1; refused = fails.2 }, stands, silent)
refusal_at (Put file) n t shelf fails stands = absurd fails
refusal_at Write n t shelf fails stands = absurd fails
refusal_at Memory n t shelf fails stands = λ out silent. (stands, silent)

pub migrate_whole : {A : Type 0} (result : Result A Failure) (n : MigrateNames) (t : Editions) (file bytes : List ℕ) (shelf : Shelved)
    → Migrates MigratesWords t file
    → bytes ≡ file → IfOk result (λ x. Told shelf.old shelf.new (Sets n.new_state.now bytes))
    → IfOk result (λ x. WhereSilent (IsWhole (migration_of n) (texts_of t) well shelf))
migrate_whole (Ok x) n t file bytes shelf is same put = λ out silent.
    put_whole (λ output. output ≡ []) (migration_of n) (texts_of t) n.new_state.now file bytes shelf out refl (λ output none. (is, none, refl)) same put
    ([], refl, subst (λ now. Appends out.old now []) (sym silent) (Appends-nil out.old))
migrate_whole (Err e) n t file bytes shelf is same put = tt

pub migrate_fails : {A : Type 0} (result : Result A Failure) (n : MigrateNames) (t : Editions) (file : List ℕ) (shelf : Shelved) → Migrates MigratesWords t file
    → IfErr result (λ e. FailsPutting e n.new_state.now shelf) → IfErr result (λ e. WhereSilent (FailsBy e (migration_of n) (texts_of t) shelf))
migrate_fails (Ok x) n t file shelf is fails = tt
migrate_fails (Err e) n t file shelf is fails = λ out silent.
    put_fails e (migration_of n) (texts_of t) n.new_state.now file [] shelf out refl (is, refl, refl) silent fails

-- a migration, which reads five files and then may put one
pub of_five_read : (status : Status) (n : MigrateNames) (read lent : Editions) (files mid now : Option Files) (before between after : Counts)
    (out err : Written) → lent ≡ read → mid ≡ files → NeverFall before between → IfSome files (λ f. AreHeld f (read_by n) (texts_of read))
    → TextAnswers status (migration_of n) (texts_of lent) (record { old = mid; new = now; counts_old = between; counts_new = after }) out err
    → CommandAnswers status (migration_of n) (record { old = files; new = now; counts_old = before; counts_new = after }) out err
of_five_read status n read lent files mid now before between after out err is same falls held answer =
    let of_read = subst (λ t. TextAnswers status (migration_of n) (texts_of t) (record { old = mid; new = now; counts_old = between; counts_new = after })
    out err)
    is answer in
    of_texts status (migration_of n) (texts_of read) _ out err held
    (earlier_read status (migration_of n) (texts_of read) files mid now before between after out err same falls of_read)
