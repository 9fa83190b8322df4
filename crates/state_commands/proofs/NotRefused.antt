-- Texts are accepted or refused, not both.
use Rattle.std.proofs.Common.{◌≡◌, ◌∙◌, ℕ, List, Some, None, Ok, Err, sym, ap, subst}
use Rattle.plain_commands.specs.image_text.ImageValue.{ImageValue}
use Rattle.plain_commands.specs.image_text.Reading.{image_of}
use Rattle.plain_commands.specs.state_text.Reading.{state_of}
use Rattle.fram_state.specs.Belongs.{IsAnswer}
use Rattle.fram_state.specs.Laws.{AnswersAreOne, NoMigrationIsRefused}
use Rattle.plain_commands.specs.source_values.Runs.{CheckedProgram}
use Rattle.plain_commands.specs.command_answers.Refusals.{Refusal}
use Rattle.plain_commands.specs.command_texts.Texts.{SaysTrace, SaysState}
use Rattle.fram_state.specs.Suits.{Suits}
use Rattle.fram_state.specs.Migrated.{EditionValue, edition_with, CanMigrate}
use Rattle.state_commands.specs.Migrated.{Editions, AreSaid, AreAlone, AreSuited, CanBeMigrated, MigrateRefuses, migrate_refusal, old_edition, new_edition}
use Rattle.state_commands.specs.Migrated as migrated
use Rattle.state_commands.specs.Resumed.{SaysItsState, ResumeRefuses, the_states_image, the_resumed_state, the_resumed_trace, the_other_state}
use Rattle.state_commands.specs.Saved.{SaveRefuses, the_state, the_states_trace}
use Rattle.plain_commands.proofs.command_texts.Interface.{same_value, no_trace, no_image, no_state, SourcesExclude}

-- no source and no state is taken and refused
pub record TextsExclude : Type 0 where
  pub sources : SourcesExclude
  pub states : AnswersAreOne
  pub migrations : NoMigrationIsRefused

pub no_save : (image trace : List ℕ) (place : ℕ) (r : Refusal) → SaysState image × SaysTrace trace → SaveRefuses image trace place r → ⊥
no_save image trace place r said (the_state x fails) = no_state image r said.0 fails
no_save image trace place r said (the_states_trace i x other fails) = no_trace trace r said.1 fails

pub no_resume : AnswersAreOne → (image state trace : List ℕ) (place : ℕ) (r : Refusal) → SaysItsState image state × SaysTrace trace
    → ResumeRefuses image state trace place r → ⊥
no_resume law image state trace place r said (the_states_image x fails) = no_image image r (said.0.value, said.0.image_said) fails
no_resume law image state trace place r said (the_resumed_state i x other fails) = no_state state r (said.0.saved, said.0.state_said) fails
no_resume law image state trace place r said (the_resumed_trace i s x one other fails) = no_trace trace r said.1 fails
no_resume law image state trace place r said (the_other_state i s t x image_said state_said trace_said fails) =
    let image_is : said.0.value ≡ i = same_value (image_of image) said.0.value i said.0.image_said image_said in
    let state_is : said.0.saved ≡ s = same_value (state_of state) said.0.saved s said.0.state_said state_said in
    let taken : IsAnswer i s (Ok tt) = subst (λ v. IsAnswer v s (Ok tt)) image_is (subst (λ v. IsAnswer said.0.value v (Ok tt)) state_is said.0.taken) in
    let both : Ok tt ≡ Err fails.0 = law i s (Ok tt) (Err fails.0) taken fails.1 in
    cc

-- what texts of a migration say is what they say as these programs alone
record AreSame (t : Editions) (a b : AreSaid t) : Type 0 where
  program : a.program ≡ b.program
  image : a.image ≡ b.image
  state : a.state ≡ b.state
  new_program : a.new_program ≡ b.new_program
  new_image : a.new_image ≡ b.new_image

are_same : (t : Editions) (a b : AreSaid t) → AreAlone t b → AreSame t a b
are_same t a b alone = record {
  program = alone.old a.program a.source_said;
  image = same_value (image_of t.image) a.image b.image a.image_said b.image_said;
  state = same_value (state_of t.state) a.state b.state a.state_said b.state_said;
  new_program = alone.new a.new_program a.new_source_said;
  new_image = same_value (image_of t.new_image) a.new_image b.new_image a.new_image_said b.new_image_said;
}

suits_same : (text : List ℕ) (p q : CheckedProgram) (i j : ImageValue) → p ≡ q → i ≡ j → Suits text p i → Suits text q j
suits_same text p q i j programs images s = subst (λ q. Suits text q j) programs (subst (λ j. Suits text p j) images s)

-- an image has one map
one_map : (text : List ℕ) (p q : CheckedProgram) (i j : ImageValue) (a : Suits text p i) (b : Suits text q j) → i ≡ j → a.named ≡ b.named
one_map text p q i j a b images = let same : Some a.named ≡ Some b.named = sym a.mapped ∙ ap (λ i. i.map) images ∙ b.mapped in cc

old_same : (t : Editions) (a b : AreSaid t) → AreSame t a b → (u : AreSuited t a) (v : AreSuited t b) → old_edition t a u ≡ old_edition t b v
old_same t a b s u v =
    let maps : u.old.named ≡ v.old.named = one_map t.source a.program b.program a.image b.image u.old v.old s.image in
    ap (λ p. edition_with t.source p u.old.named a.state.image.words) s.program
    ∙ ap (λ m. edition_with t.source b.program m a.state.image.words) maps
    ∙ ap (λ x. edition_with t.source b.program v.old.named x.image.words) s.state

new_same : (t : Editions) (a b : AreSaid t) → AreSame t a b → (u : AreSuited t a) (v : AreSuited t b) → new_edition t a u ≡ new_edition t b v
new_same t a b s u v =
    let maps : u.new.named ≡ v.new.named = one_map t.new_source a.new_program b.new_program a.new_image b.new_image u.new v.new s.new_image in
    ap (λ p. edition_with t.new_source p u.new.named a.new_image.words) s.new_program
    ∙ ap (λ m. edition_with t.new_source b.new_program m a.new_image.words) maps
    ∙ ap (λ x. edition_with t.new_source b.new_program v.new.named x.words) s.new_image

pub no_migrate : TextsExclude → (t : Editions) (place : ℕ) (r : Refusal) → CanBeMigrated t → MigrateRefuses t place r → ⊥
no_migrate law t place r can (migrated.the_old_source x fails) = law.sources t.source can.said.program r can.said.source_said fails
no_migrate law t place r can (migrated.the_old_image p x said fails) = no_image t.image r (can.said.image, can.said.image_said) fails
no_migrate law t place r can (migrated.the_old_state p i x said one fails) = no_state t.state r (can.said.state, can.said.state_said) fails
no_migrate law t place r can (migrated.the_new_source p i s x said one two fails) =
    law.sources t.new_source can.said.new_program r can.said.new_source_said fails
no_migrate law t place r can (migrated.the_new_image p i s q x said one two three fails) =
    no_image t.new_image r (can.said.new_image, can.said.new_image_said) fails
no_migrate law t place r can (migrated.unsuited s alone fails) =
    let same = are_same t can.said s alone in
    fails (suits_same t.source can.said.program s.program can.said.image s.image same.program same.image can.suited.old)
no_migrate law t place r can (migrated.unsuited_new s alone old fails) =
    let same = are_same t can.said s alone in
    fails (suits_same t.new_source can.said.new_program s.new_program can.said.new_image s.new_image same.new_program same.new_image can.suited.new)
no_migrate law t place r can (migrated.another_state s alone suited x fails) =
    let same = are_same t can.said s alone in
    let taken : IsAnswer s.image s.state (Ok tt) =
    subst (λ v. IsAnswer v s.state (Ok tt)) same.image (subst (λ v. IsAnswer can.said.image v (Ok tt)) same.state can.taken) in
    let both : Ok tt ≡ Err fails.0 = law.states s.image s.state (Ok tt) (Err fails.0) taken fails.1 in
    cc
no_migrate law t place r can (migrated.not_migrated s alone u belongs f x fails told) =
    let same = are_same t can.said s alone in
    let P : EditionValue → Type 0 = λ e. CanMigrate e (new_edition t can.said can.suited) in
    let Q : EditionValue → Type 0 = λ e. CanMigrate (old_edition t s u) e in
    let go = subst Q (new_same t can.said s same can.suited u) (subst P (old_same t can.said s same can.suited u) can.can) in
    let memory = law.migrations (old_edition t s u) (new_edition t s u) f go fails in
    let none : None ≡ Some r = ap (migrate_refusal t) (sym memory) ∙ told in
    cc
