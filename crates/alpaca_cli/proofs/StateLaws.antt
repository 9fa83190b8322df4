-- What `save`, `resume` and `migrate` make, where an image is one of a source.
use Rattle.std.proofs.Common.{◌≡◌, ◌∙◌, ℕ, List, [], ◌∷◌, Option, Some, None, IsSomeAnd, inl, inr, sym, subst}
use Rattle.plain_commands.specs.energy_trace.TraceValue.{TraceValue}
use Rattle.plain_commands.specs.image_text.ImageValue.{ImageValue}
use Rattle.plain_commands.specs.state_text.declared.state.State.{State}
use Rattle.state_commands.specs.fram_state.Belongs.{Belongs}
use Rattle.plain_commands.specs.fram_board.Run.{RunOutcome, Run}
use Rattle.plain_commands.specs.board_run.Charges.{charges_of}
use Rattle.plain_commands.specs.board_run.History.{start_of}
use Rattle.plain_commands.specs.board_run.Report.{report_of}
use Rattle.source_runs.specs.Traces.{IsTraceOfWords}
use Rattle.compiled_states.specs.Worlds.{HasFramWords}
use Rattle.compiled_states.specs.Laws.{FreshStatesBelong, MigratedStatesBelong, StatesAreTold, StatesStay}
use Rattle.plain_commands.specs.command_answers.Promises.{Product}
use Rattle.state_commands.specs.Saved.{IsOfWords, RunsOnWords, from_state, save_promise}
use Rattle.state_commands.specs.Resumed.{ResumesOnWords, resume_promise}
use Rattle.state_commands.specs.Migrated.{Editions, Migrates, MigratesWords, editions, migrate_promise}
use Rattle.alpaca_cli.specs.OfSources.{StaysWithItsImage, SavedStatesStay, IsOfItsSource, RestsInItsSource}

has_words : (s : State) → IsOfWords s → HasFramWords s
has_words s w = record { count = w.0; are_words = w.1; receiver = w.2 }

-- What a command makes of its texts doesn't depend on the names of its files: here they have none.

-- ---- `save`

stays_with : FreshStatesBelong → StatesStay → (s : State) → IsOfWords s → (t : TraceValue) → IsTraceOfWords t → (r : RunOutcome)
    → Run (charges_of t.charges) (from_state s t) r → StaysWithItsImage s r
stays_with fresh stay s whole t words r run source image of (inl is) =
    (stay source image of s (has_words s whole) (subst (Belongs image) (sym is) (fresh source image of)) t words r run).end
stays_with fresh stay s whole t words r run source image of (inr b) = (stay source image of s (has_words s whole) b t words r run).end

pub saves_more : FreshStatesBelong → StatesStay → (texts : List (List ℕ)) (p : Product)
    → (save_promise RunsOnWords [] [] []).makes texts p → (save_promise SavedStatesStay [] [] []).makes texts p
saves_more fresh stay [] p m = m
saves_more fresh stay (x ∷ []) p m = m
saves_more fresh stay (x ∷ y ∷ []) p m = record {
  state = m.state;
  charges = m.charges;
  outcome = m.outcome;
  state_said = m.state_said;
  trace_said = m.trace_said;
  run = m.run;
  ends = m.ends;
  put = m.put;
  holds = stays_with fresh stay m.state m.holds.0 m.charges m.holds.1 m.outcome m.run;
  line = m.line;
}
saves_more fresh stay (x ∷ y ∷ z ∷ more) p m = m

-- ---- `resume`

of_its_source : StatesAreTold → StatesStay → (image : ImageValue) (s : State) → IsOfWords s → Belongs image s → (t : TraceValue) → IsTraceOfWords t
    → (r : RunOutcome) → Run (charges_of t.charges) (from_state s t) r → (output : List ℕ) → output ≡ report_of (start_of s.image) t.events r
    → IsOfItsSource image s t r output
of_its_source told stay image s whole b t words r run output lines =
    let of_report : IsOfItsSource image s t r (report_of (start_of s.image) t.events r) = record {
      told = told image s (has_words s whole) b t words r run;
      stays = λ source of. stay source image of s (has_words s whole) b t words r run;
    } in subst (IsOfItsSource image s t r) (sym lines) of_report

pub resumes_more : StatesAreTold → StatesStay → (texts : List (List ℕ)) (p : Product)
    → (resume_promise ResumesOnWords [] [] []).makes texts p → (resume_promise IsOfItsSource [] [] []).makes texts p
resumes_more told stay [] p m = m
resumes_more told stay (x ∷ []) p m = m
resumes_more told stay (x ∷ y ∷ []) p m = m
resumes_more told stay (x ∷ y ∷ z ∷ []) p (m, none) = (
  record {
    value = m.value;
    saved = m.saved;
    charges = m.charges;
    image_said = m.image_said;
    state_said = m.state_said;
    trace_said = m.trace_said;
    belongs = m.belongs;
    report = m.report;
    holds = of_its_source told stay m.value m.saved m.holds.0 m.belongs m.charges m.holds.1 m.report.outcome m.report.run p.output m.report.lines;
  },
  none,
)
resumes_more told stay (x ∷ y ∷ z ∷ u ∷ more) p m = m

-- ---- `migrate`

rests : MigratedStatesBelong → (t : Editions) (file : List ℕ) (m : Migrates MigratesWords t file) → RestsInItsSource t m.said m.suited m.state m.migrated
rests law t file m allow ok c =
    let old = m.suited.old in
    let same : Some m.belongs.map ≡ Some old.named = sym m.belongs.have.of_image ∙ old.mapped in
    law m.said.state m.state (has_words m.said.state m.holds.0) m.holds.1 (has_words m.state m.holds.2)
    t.new_source m.said.new_program allow m.said.new_image ok c t.source m.said.program old.named m.suited.new.named
    (record { image = m.said.image; suits = old; belongs = m.belongs }) (m.belongs.have.of_state ∙ same) m.suited.new.mapped m.migrated

migrates_of_source : MigratedStatesBelong → (t : Editions) (file : Option (List ℕ)) → IsSomeAnd file (Migrates MigratesWords t)
    → IsSomeAnd file (Migrates RestsInItsSource t)
migrates_of_source law t None m = m
migrates_of_source law t (Some file) m = record {
  said = m.said;
  alone = m.alone;
  suited = m.suited;
  belongs = m.belongs;
  state = m.state;
  migrated = m.migrated;
  holds = rests law t file m;
  text = m.text;
  reads_back = m.reads_back;
}

pub migrates_more : MigratedStatesBelong → (texts : List (List ℕ)) (p : Product)
    → (migrate_promise MigratesWords [] [] [] [] [] []).makes texts p → (migrate_promise RestsInItsSource [] [] [] [] [] []).makes texts p
migrates_more law [] p m = m
migrates_more law (x ∷ []) p m = m
migrates_more law (x ∷ y ∷ []) p m = m
migrates_more law (x ∷ y ∷ z ∷ []) p m = m
migrates_more law (x ∷ y ∷ z ∷ u ∷ []) p m = m
migrates_more law (x ∷ y ∷ z ∷ u ∷ v ∷ []) p m = (migrates_of_source law (editions x y z u v) p.file m.0, m.1, m.2)
migrates_more law (x ∷ y ∷ z ∷ u ∷ v ∷ w ∷ more) p m = m
