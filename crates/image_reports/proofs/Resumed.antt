-- Each run of a state that belongs to the image of an accepted text keeps the laws.
use Rattle.image_reports.proofs.Names.{◌≡◌, ◌<◌, ◌%◌, ◌^◌, ◌==◌, if◌then◌else◌, ℕ, refl, sym, ap, ◌∙◌, subst, arith, Option, Some, List, ◌++◌, length, drop}
use Rattle.image_reports.proofs.Names.{MapValue, ImageValue, BoardValue, started, BoardCharge, RunOutcome, start_with, start_of, report_of, World}
use Rattle.image_reports.proofs.Names.{world_after, world_with, Allow, CheckedProgram, State, IsAcceptedText, map_of, resumed_runs_are_told, Gate, MemoryMap}
use Rattle.image_reports.proofs.Names.{word_place, commit_effects, Model, first_history, Origin, Resting, Pending, StandsFor, runs_may_begin, IsRunOfWords}
use Rattle.image_reports.proofs.Names.{BearsModel, all_amounts, stops_where_short, IsSound, SoundAtRest, SoundPending, IsAtRest, IsPendingCommit}
use Rattle.image_reports.proofs.Names.{unsent_are_few, program_places, compiled_model, compiled_program, IsReadyToRun, sources_are_ready, IsCompiled, HasStates}
use Rattle.image_reports.proofs.Names.{laid_out, images_are_fresh, worlds_stand, runtime_marks, BelongsTo, origin_of, pending_transition, IsToldOnward}
use Rattle.image_reports.proofs.Names.{ToldAtRest, ToldPending, IsResumedRun, ImagesResume, Bool, true, false, IsFirstWithin, task_costs, cost_of}
use Rattle.image_reports.proofs.Names.{bound_is_the_sources}
use Rattle.std.proofs.Math.Seq.{drop-append_seam}
use Rattle.energy_trace.specs.TraceValue.{Event}
use Rattle.source_runs.specs.Traces.{AreInputs}
use Rattle.source_runs.specs.Resumed.{HasTransition}
use Rattle.source_runs.specs.Laws.{ResumedRunIsTold}
use Rattle.compiled_model.specs.View.{state_in, state_left}
use Rattle.image_reports.proofs.CompiledTold.{models_are_of_sources}
use Rattle.image_reports.proofs.Told.{source}
use Rattle.image_reports.proofs.Begins.{bears, run_of_words}
use Rattle.crash_rules.specs.Model.{bound}
use Rattle.task_needs.specs.Needs.{need_of}
use Rattle.task_needs.specs.Lists.{with_needs}
use Rattle.image_reports.proofs.Names.{◌≤◌, logs_so, last_board, known_from}
use Rattle.memory_map.specs.declared.runtime.Logging.TheVariants.{Redo}
use Rattle.image_reports.proofs.Needs.{needs_model_laws, need_within, needs_bound, needs_pay}
use Rattle.image_reports.proofs.Onward.{Onward, holds_from, starts_with, front, unheard, ringless, opens, raises, pays, rings, takes, answered}

-- the world of a saved state that belongs to an image
module _ (text : List ℕ) (p : CheckedProgram) (allow : Allow) (image : ImageValue) (ok : IsAcceptedText text p allow) (c : IsCompiled text p allow image)
    (fram : List ℕ) (number : ℕ) (before : List ℕ) (counted : length before % 0x10000 ≡ number)
    (belongs : BelongsTo p c.layout image (world_with fram before)) where
  abbrev l : MemoryMap
  l = c.layout

  abbrev model : Model State
  model = compiled_model p l

  abbrev m : MapValue
  m = map_of text p l allow

  abbrev x : World
  x = world_with fram before

  abbrev origin : Origin State
  origin = origin_of l x

  ready : IsReadyToRun p l
  ready = sources_are_ready text p allow c.plans l (laid_out text p allow image ok c)

  redo : l.runtime.logging ≡ Redo
  redo = logs_so text p allow image c

  states : HasStates text p allow l
  states = worlds_stand text p allow image ok c

  -- how it goes on, by GATE
  at_rest : x.fram (word_place l Gate) ≡ 0 → Resting (state_in l x) ≡ origin
  at_rest e = sym (ap (λ n. if n == 1 then Pending (state_left l x) else Resting (state_in l x)) e)

  in_commit : x.fram (word_place l Gate) ≡ 1 → Pending (state_left l x) ≡ origin
  in_commit e = sym (ap (λ n. if n == 1 then Pending (state_left l x) else Resting (state_in l x)) e)

  -- the first transition costs what CUR says; or the bound, where it is a pending commit
  first_within : (pending : Bool) → IsFirstWithin model (if pending then Pending (state_left l x) else Resting (state_in l x))
      (task_costs m (cost_of p) pending x).first
  first_within true = let same = bound_is_the_sources p l ∙ sym (source text p allow image ok c).bound in omega (arith, same)
  first_within false = λ below. omega arith

  -- a sound world is undecided at the state that it has, or about to commit the one that its commit leaves
  undecided_there : IsAtRest (program_places p l) x → model.Undecided (state_in l x) x
  undecided_there q =
      let s = state_in l x in ready.model.settled_undecided s x (ready.model.rests_settled s x (states.rest x q))

  begun_by : (readings : List ℕ) → IsSound (program_places p l) x → StandsFor model readings origin (first_history (runtime_marks l) x)
  begun_by readings (SoundAtRest q) =
      subst (λ o. StandsFor model readings o (first_history (runtime_marks l) x)) (at_rest q.gate)
      ((runs_may_begin model ready.model readings).resting (state_in l x) x (undecided_there q))
  begun_by readings (SoundPending q) =
      subst (λ o. StandsFor model readings o (first_history (runtime_marks l) x)) (in_commit q.gate)
      ((runs_may_begin model ready.model readings).pending (state_left l x) x (states.commit x q))

  -- the same with what its tasks need
  abbrev costed : Model State
  costed = with_needs p l model

  -- the first task needs what CUR says; a pending commit takes no more than the bound
  first_need : (pending : Bool) → bound costed ≤ m.bound → IsSound (program_places p l) x
      → IsFirstWithin costed (if pending then Pending (state_left l x) else Resting (state_in l x)) (task_costs m (need_of p l) pending x).first
  first_need true within sound = within
  first_need false within (SoundAtRest q) =
      need_within p l m (state_in l x) x (ready.model.undecided_task (state_in l x) x (undecided_there q)) (states.words x q.words)
  first_need false within (SoundPending q) = need_within p l m (state_in l x) x q.current_task (states.words x q.words)

  begun_needs : (readings : List ℕ) → IsSound (program_places p l) x → StandsFor costed readings origin (first_history (runtime_marks l) x)
  begun_needs readings (SoundAtRest q) =
      subst (λ o. StandsFor costed readings o (first_history (runtime_marks l) x)) (at_rest q.gate)
      ((runs_may_begin costed (needs_model_laws p l ready) readings).resting (state_in l x) x (undecided_there q))
  begun_needs readings (SoundPending q) =
      subst (λ o. StandsFor costed readings o (first_history (runtime_marks l) x)) (in_commit q.gate)
      ((runs_may_begin costed (needs_model_laws p l ready) readings).pending (state_left l x) x (states.commit x q))

  -- the world's CUR names a task
  some_task : IsSound (program_places p l) x → 0 < length p.tasks
  some_task (SoundAtRest q) = let below = q.current_task in omega (arith, below)
  some_task (SoundPending q) = let below = q.current_task in omega (arith, below)

  -- the pending commit makes its transition from the state that the world has
  transition : IsPendingCommit (program_places p l) x → HasTransition m x (state_in l x) (state_left l x) (pending_transition l x)
  transition q =
      let y = world_after (commit_effects l x.fram) x in
      let s = unsent_are_few (program_places p l) ready.code.apart x q ready.code.room in
      let unsent : drop (length before) y.accepted ≡ s.0 = ap (drop (length before)) s.1 ∙ drop-append_seam before s.0 in
      let same : before ++ drop (length before) y.accepted ≡ y.accepted = ap (λ ws. before ++ ws) unsent ∙ sym s.1 in
      let most = s.2 in
      let len = ap length unsent in
      record {
        words = states.words x q.words;
        from = refl;
        before = refl;
        few = omega (arith, most, len);
        leaves = ap (λ ws. record (state_left l x) { emitted = ws }) same;
      }

  -- its run
  module _ (cs : List BoardCharge) (readings : List ℕ) (events : List Event) (inputs : AreInputs readings events) (r : RunOutcome)
      (run : IsRunOfWords cs (started fram number readings events) r) where
    abbrev b : BoardValue
    b = started fram number readings events

    abbrev on : Onward
    on = record {
      start = record {
        text = text;
        program = p;
        allow = allow;
        image = image;
        logging = Redo;
        compiled = c;
        ready = ready;
        new = images_are_fresh text p allow image ok c;
        fram = fram;
        number = number;
        before = before;
        counted = counted;
        code = belongs.code;
        origin = origin;
        readings = readings;
        events = events;
        inputs = inputs;
        begun = begun_by readings belongs.sound;
      };
      accepted = ok;
      capacities = belongs.capacities;
      charges = cs;
      outcome = r;
      run = run;
    }

    abbrev bearing : BearsModel model (compiled_program p l) readings origin x b
    bearing = bears on.start

    module _ (few_in_all : all_amounts cs < 2 ^ 64) where
      told : ResumedRunIsTold model (compiled_program p l) text p m x cs b r
      told = resumed_runs_are_told model (compiled_program p l) text p m x cs b r (models_are_of_sources text p l m (source text p allow image ok c))
          (starts_with on) run few_in_all

      onward_by : IsSound (program_places p l) x → IsToldOnward text p m l x cs b r (report_of (start_with fram (Some m)) events r)
      onward_by (SoundAtRest q) =
          ToldAtRest q.gate (told.resting (state_in l x) (subst (λ o. BearsModel model (compiled_program p l) readings o x b) (sym (at_rest q.gate)) bearing)
          (undecided_there q) (states.words x q.words))
      onward_by (SoundPending q) =
          ToldPending q.gate (told.pending (state_in l x) (state_left l x) (pending_transition l x)
          (subst (λ o. BearsModel model (compiled_program p l) readings o x b) (sym (in_commit q.gate)) bearing) (transition q))

      onward : IsToldOnward text p m l x cs b r (report_of (start_of (record image { words = fram })) events r)
      onward =
          let P : Option MapValue → Type 0 = λ o. IsToldOnward text p m l x cs b r (report_of (start_with fram o) events r) in
          subst P (sym c.map) (onward_by belongs.sound)

    resumed : IsResumedRun text p allow l image x cs b r
    resumed = record {
      fronts = λ ms rest e. holds_from p l image x origin readings (last_board b ms) ms (known_from l x ms) redo (front on ms rest e);
      stops = stops_where_short model (compiled_program p l) readings origin x cs b r run bearing;
      unheard = unheard on;
      ringless = ringless on;
      opens = opens on;
      rings = rings on;
      takes = takes on;
      answered = answered on;
      raises = raises on redo;
      progress = pays on (x.fram (word_place l Gate) == 1) (first_within (x.fram (word_place l Gate) == 1));
      needs = needs_pay on (begun_needs readings belongs.sound) (some_task belongs.sound) (x.fram (word_place l Gate) == 1)
          (first_need (x.fram (word_place l Gate) == 1) (needs_bound on (some_task belongs.sound)) belongs.sound);
      told = onward;
    }

pub images_resume : ImagesResume
images_resume text p allow image ok c fram long are_words number accepted count belongs cs starts readings events inputs r go =
    resumed text p allow image ok c fram number accepted count belongs cs readings events inputs r
    (run_of_words fram long are_words number cs starts readings events inputs r go)
