-- The commit list and the emit buffer keep to their capacities, and version words to VER.
use Rattle.std.proofs.Common.{ℕ, ⊎_elim, refl, sym, subst, arith, List}
use Rattle.machine_effects.specs.World.{World, EachStore}
use Rattle.machine_effects.specs.Inputs.{Inputs}
use Rattle.cost_bound.specs.Allowance.{CheckedProgram}
use Rattle.source_values.specs.Runs.{State}
use Rattle.memory_map.specs.declared.words.RuntimeWord.TheVariants.{ListLength, EmitCount}
use Rattle.memory_map.specs.MemoryMap.{MemoryMap, word_place}
use Rattle.crash_rules.specs.Model.{Model}
use Rattle.crash_rules.specs.History.{History}
use Rattle.crash_rules.specs.Runs.{Program}
use Rattle.crash_rules.specs.Laws.{Origin, Phase, UndecidedPhase, DecidedPhase, CommittingPhase, ScriptsStore}
use Rattle.memory_map.specs.Laws.{AreApart}
use Rattle.stands_for.specs.StandsFor.{CommittingTo, HoldsWords, VersionsWithin}
use Rattle.stands_for.proofs.Interface.{commit_stores_all}
use Rattle.compiled_model.specs.Places.{program_places}
use Rattle.compiled_model.specs.View.{state_view}
use Rattle.undo_states.specs.States.{UndoneAt}
use Rattle.undo_states.proofs.Interface.{recovery_stores, undo_commit_stores, undone_versions}
use Rattle.compiled_model.specs.Parts.{redo_model, logged_model, compiled_model}
use Rattle.compiled_model.specs.Needs.{AttemptsStore}
use Rattle.compiled_model.proofs.Interface.{either_logging, is_redo, is_logged}
use Rattle.model_runs.specs.Runs.{history_behind}
use Rattle.model_runs.proofs.Interface.{fronts_are_lawful, words_stay_within}
use Rattle.compiled_bounds.specs.Laws.{CountsFit, AttemptsFit, CapacitiesAreKept}

module _ (p : CheckedProgram) (l : MemoryMap) (apart : AreApart l) where
  -- a commit stores neither to CLN nor to EN
  commits_fit : (to : State) (x : World) (inputs : Inputs) → CommittingTo (program_places p l) (state_view p l) to x
      → EachStore (CountsFit l) ((redo_model p l).commit x.fram inputs)
  commits_fit to x inputs d =
      commit_stores_all (program_places p l) apart x d.pending (CountsFit l)
      (λ a w h. record { list = λ e. absurd (omega (arith, apart, h, e)); emits = λ e. absurd (omega (arith, apart, h, e)) })
      (λ w on. record { list = λ e. absurd (omega (arith, apart, e)); emits = λ e. absurd (omega (arith, apart, e)) })
      (λ w. record { list = λ e. absurd (omega (arith, apart, e)); emits = λ e. absurd (omega (arith, apart, e)) })
      (λ w. record { list = λ e. absurd (omega (arith, apart, e)); emits = λ e. absurd (omega (arith, apart, e)) })
      (λ w. record { list = λ e. absurd (omega (arith, apart, e)); emits = λ e. absurd (omega (arith, apart, e)) })

  -- under undo, nor does a recovery, but that CLN becomes 0 by both
  undo_commits_fit : (x : World) (inputs : Inputs) → EachStore (CountsFit l) ((logged_model p l).commit x.fram inputs)
  undo_commits_fit x inputs =
      undo_commit_stores l (CountsFit l) x.fram
      (λ w on. record { list = λ e. absurd (omega (arith, apart, e)); emits = λ e. absurd (omega (arith, apart, e)) })
      (λ w. record { list = λ e. absurd (omega (arith, apart, e)); emits = λ e. absurd (omega (arith, apart, e)) })
      (λ w. record { list = λ e. absurd (omega (arith, apart, e)); emits = λ e. absurd (omega (arith, apart, e)) })
      (record { list = λ e. omega arith; emits = λ e. omega arith })
      (record { list = λ e. omega arith; emits = λ e. omega arith })

  recoveries_fit : (s : State) (x : World) → UndoneAt (program_places p l) (state_view p l) s x
      → EachStore (CountsFit l) ((logged_model p l).recover x.fram)
  recoveries_fit s x u =
      recovery_stores (program_places p l) (state_view p l) s x u (CountsFit l)
      (λ a w h. record { list = λ e. absurd (omega (arith, apart, h, e)); emits = λ e. absurd (omega (arith, apart, h, e)) })
      (record { list = λ e. omega arith; emits = λ e. omega arith })

  -- so no script stores beyond the capacities where no attempt does
  scripts_fit : AttemptsFit p l → ScriptsStore (compiled_model p l) (CountsFit l)
  scripts_fit fit =
      let P : Model State → Type 0 = λ m. AttemptsStore m (CountsFit l) → ScriptsStore m (CountsFit l) in
      ⊎_elim {C = ScriptsStore (compiled_model p l) (CountsFit l)}
      (λ logs. subst P (sym (is_redo p l logs)) (λ attempts. record {
        recoveries = λ s y u. tt;
        attempts = attempts;
        commits = commits_fit;
      }) fit)
      (λ logs. subst P (sym (is_logged p l logs)) (λ attempts. record {
        recoveries = recoveries_fit;
        attempts = attempts;
        commits = λ to y inputs d. undo_commits_fit y inputs;
      }) fit) (either_logging l.runtime.logging)

-- FRAM whose words are words, with no version word above VER
pub record KeepsVersions (p : CheckedProgram) (l : MemoryMap) (f : ℕ → ℕ) : Type 0 where
  pub words : HoldsWords f
  pub versions : VersionsWithin (program_places p l) f

module _ (p : CheckedProgram) (l : MemoryMap) (apart : AreApart l) (readings : List ℕ) (origin : Origin State) (s : State) (h : History) where
  under_redo : Phase (redo_model p l) readings origin s h → KeepsVersions p l h.world.fram
  under_redo (UndecidedPhase u settled w) = record { words = w.is_open.words; versions = w.is_open.versions }
  under_redo (DecidedPhase next u t w) = record { words = w.decided.sends.words; versions = w.decided.sends.versions }
  under_redo (CommittingPhase u k n w) = record { words = w.pending.words; versions = w.pending.versions }

  under_undo : Phase (logged_model p l) readings origin s h → KeepsVersions p l h.world.fram
  under_undo (UndecidedPhase u settled w) =
      record { words = w.words; versions = undone_versions (program_places p l) (state_view p l) s h.world w apart }
  under_undo (DecidedPhase next u t w) = record { words = w.closes.sends.words; versions = w.closes.sends.versions }
  under_undo (CommittingPhase u k n w) =
      let sends = w.decided.closes.sends in record { words = sends.words; versions = sends.versions }

  -- so is what a run stands for
  pub phase_keeps_versions : Phase (compiled_model p l) readings origin s h → KeepsVersions p l h.world.fram
  phase_keeps_versions phase =
      let P : Model State → Type 0 = λ m. Phase m readings origin s h in
      ⊎_elim {C = KeepsVersions p l h.world.fram} (λ logs. under_redo (subst P (is_redo p l logs) phase))
      (λ logs. under_undo (subst P (is_logged p l logs) phase)) (either_logging l.runtime.logging)

-- the counts of a compiled source keep to the capacities of its layout at each board of a run
pub capacities_are_kept : (c : Program) → CapacitiesAreKept c
capacities_are_kept c p l apart fit readings origin x cs b r run bears first ms rest e =
    let model = compiled_model p l in
    let stays = words_stay_within model c (CountsFit l) readings origin x cs b r run bears (scripts_fit p l apart fit) in
    let k = fronts_are_lawful model c readings origin x cs b r run bears ms rest e in
    let Within : (ℕ → ℕ) → Type 0 = λ f. VersionsWithin (program_places p l) f in
    record {
      list = stays (word_place l ListLength) l.entries (λ w s. s.list refl) first.list ms rest e;
      emits = stays (word_place l EmitCount) l.emits.words (λ w s. s.emits refl) first.emits ms rest e;
      versions = subst Within (sym k.1.fram)
          (phase_keeps_versions p l apart readings origin k.0.stands.state (history_behind model x ms) k.0.stands.phase).versions;
    }
