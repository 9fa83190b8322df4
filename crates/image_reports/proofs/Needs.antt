-- Each charge of a run pays for its transitions by what their tasks need.
use Rattle.image_reports.proofs.Names.{◌<◌, ◌≤◌, ◌*◌, ℕ, zero, suc, refl, ap, ◌≡◌, ◌∙◌, subst, arith, List, length, Bool, MapValue, BoardValue}
use Rattle.image_reports.proofs.Names.{BoardCharge}
use Rattle.image_reports.proofs.Names.{RunOutcome, World, CheckedProgram, State, map_of, MemoryMap, Model, ModelLaws, History, first_history, Program}
use Rattle.image_reports.proofs.Names.{StandsFor, BearsModel, IsFirstWithin, IsTaskWithin, task_costs, cost_due, at_first, EachChargePays}
use Rattle.image_reports.proofs.Names.{compiled_model, compiled_program, runtime_marks, IsReadyToRun}
use Rattle.crash_rules.specs.Model.{Marks, Inputs, bound}
use Rattle.crash_rules.specs.Laws.{TaskCosts, CoversTasks}
use Rattle.model_runs.specs.Runs.{no_delay, PaysFor, Progresses, AllSpent, SpentOne, StoppedIn}
use Rattle.model_runs.proofs.Interface.{makes_progress, runs_so}
use Rattle.memory_map.specs.declared.runtime.Logging.{Logging}
use Rattle.memory_map.specs.declared.runtime.Logging.TheVariants.{Redo, Undo}
use Rattle.source_runs.specs.Transitions.{HasWordsOf}
use Rattle.source_runs.proofs.Interface.{read_off}
use Rattle.task_needs.specs.Needs.{need_of}
use Rattle.task_needs.specs.Lists.{with_needs}
use Rattle.task_needs.proofs.Interface.{own_cost}
use Rattle.compiled_bounds.specs.Laws.{CostsFor}
use Rattle.compiled_bounds.proofs.Interface.{needs_keep_to_the_bound}
use Rattle.compiled_runs.specs.Laws.{RunsBy}
use Rattle.compiled_runs.proofs.Interface.{needs_keep_the_laws, code_keeps_to_needs}
use Rattle.image_reports.specs.Sources.{IsSourcesMap}
use Rattle.image_reports.proofs.CompiledTold.{models_are_of_sources}
use Rattle.image_reports.proofs.Begins.{first_world, first_board, bears}
use Rattle.image_reports.proofs.Onward.{Onward, starts_with}
use Rattle.image_reports.proofs.Told.{source}

-- ---- a greater bound

times_more : (n a b : ℕ) → a ≤ b → n * a ≤ n * b
times_more zero a b h = omega arith
times_more (suc n) a b h = let rest = times_more n a b h in omega (arith, h, rest)

pays_more : (a b : ℕ) (costs : TaskCosts) (delay : ℕ) (c : BoardCharge) (arisen : ℕ) (before behind : History) → a ≤ b
    → PaysFor a costs delay c arisen before behind → PaysFor b costs delay c arisen before behind
pays_more a b costs delay c arisen before behind more pays = record {
  bounds = λ is n enough. pays.bounds is n (let less = times_more n a b more in omega (arith, less, enough));
  tasks = pays.tasks;
}

progresses_more : (marks : Marks) (n most : ℕ) (costs : TaskCosts) (delay : Inputs → ℕ) → n ≤ most
    → (cs : List BoardCharge) (b : BoardValue) (h : History) (r : RunOutcome) → Progresses marks n costs delay cs b h r
    → Progresses marks most costs delay cs b h r
progresses_more marks n most costs delay more cs b h r (AllSpent _ _) = AllSpent b h
progresses_more marks n most costs delay more cs b h r (SpentOne c ds _ _ ms end rest one pays on) =
    SpentOne c ds b h ms end rest one (pays_more n most costs _ c _ h _ more pays) (progresses_more marks n most costs delay more ds end _ rest on)
progresses_more marks n most costs delay more cs b h r (StoppedIn c ds _ _ ms stop end one) = StoppedIn c ds b h ms stop end one

-- ---- a run of an image

-- the model with the needs, of a source that is ready to run
pub needs_model_laws : (p : CheckedProgram) (l : MemoryMap) → IsReadyToRun p l → ModelLaws (with_needs p l (compiled_model p l))
needs_model_laws p l ready = needs_keep_the_laws p l ready.code ready.few ready.model

-- each task of a source that can run keeps to its part of the bound
costs_for : (logging : Logging) (p : CheckedProgram) (l : MemoryMap) → RunsBy logging p l → CostsFor logging p l
costs_for Redo p l runs = runs.costs
costs_for Undo p l runs = runs.costs

-- a state's task costs what it needs, and the world says so that has the state's words
pub need_within : (p : CheckedProgram) (l : MemoryMap) (m : MapValue) (s : State) (x : World) → s.task < length p.tasks → HasWordsOf m x s
    → IsTaskWithin (with_needs p l (compiled_model p l)) s (need_of p l (x.fram m.words.current_task))
need_within p l m s x is_task here below =
    let cost = own_cost p l (compiled_model p l) s.task is_task in
    let same : need_of p l (x.fram m.words.current_task) ≡ need_of p l s.task = ap (need_of p l) here.task in
    subst (λ n. n ≤ need_of p l (x.fram m.words.current_task)) (same ∙ cost) (omega arith)

module _ (onward : Onward) where
  open onward use {start as beginning, accepted as ok, charges as cs, outcome as r, run}
  open (onward.start) use {text, program as p, allow, image, compiled as c, ready, origin, readings, inputs}

  abbrev l : MemoryMap
  l = c.layout

  abbrev m : MapValue
  m = map_of text p l allow

  abbrev model : Model State
  model = with_needs p l (compiled_model p l)

  abbrev program : Program
  program = compiled_program p l

  abbrev x : World
  x = first_world beginning

  abbrev b : BoardValue
  b = first_board beginning

  is_sources : IsSourcesMap text p l m
  is_sources = source text p allow image ok c

  -- the needs are within the bound that the map names
  pub needs_bound : 0 < length p.tasks → bound model ≤ m.bound
  needs_bound some =
      let within = needs_keep_to_the_bound p l some (costs_for l.runtime.logging p l ready.code.own) ready.needs in
      let is = is_sources.bound in
      omega (arith, within, is)

  -- the board bears the model with the needs, where this stands for its first history
  bears_needs : StandsFor model readings origin (first_history (runtime_marks l) x) → BearsModel model program readings origin x b
  bears_needs begun = record {
    model = needs_model_laws p l ready;
    program = code_keeps_to_needs p l ready.code ready.few ready.needs ready.model;
    begins = record { fram = refl; readings_left = refl; words = inputs.readings_are_words; stands = begun };
    stands = (bears beginning).stands;
  }

  -- each charge that is spent pays for its transitions, where the first one needs no more than its world says
  pub needs_pay : StandsFor model readings origin (first_history (runtime_marks l) x) → 0 < length p.tasks → (pending : Bool)
      → IsFirstWithin model origin (task_costs m (need_of p l) pending x).first
      → EachChargePays m (cost_due m (need_of p l) pending) cs b (at_first m b) r
  needs_pay begun some pending first =
      let costs = task_costs m (need_of p l) pending x in
      let bearing = bears_needs begun in
      let is = models_are_of_sources text p l m is_sources in
      let covers : CoversTasks model origin costs = record {
        first = first;
        behind = λ s y rests below.
            need_within p l m s y (ready.model.undecided_task s y (ready.model.settled_undecided s y (ready.model.rests_settled s y rests)))
            (is.rests s y rests) below;
      } in
      let P : Marks → Type 0 = λ g. Progresses g m.bound costs no_delay cs b (first_history g x) r in
      let made = makes_progress model program readings origin x cs b r run bearing costs covers in
      let raised = progresses_more model.marks (bound model) m.bound costs no_delay (needs_bound some) cs b (first_history model.marks x) r made in
      (read_off m x cs b r is.is_map is.front (starts_with onward) (runs_so model program readings origin x b bearing cs r run)).pays x (need_of p l) pending
      (subst P is.marks raised) (starts_with onward)
