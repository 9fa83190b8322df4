-- The code makes each attempt and each commit within what its task costs.
use Rattle.std.proofs.Common.{◌≡◌, ◌<◌, ◌≤◌, ◌+◌, ℕ, Bool, true, List, [], ◌++◌, length, refl, sym, ap, ◌∙◌, subst, arith}
use Rattle.fram_board.specs.Effects.{Effect}
use Rattle.machine_effects.specs.World.{World, fram_after, world_after}
use Rattle.machine_effects.specs.Inputs.{InputsAreWords}
use Rattle.machine_effects.specs.Machine.{MachineBoard}
use Rattle.machine_effects.proofs.Interface.{stay}
use Rattle.code_forms.specs.Forms.{Core, board_of}
use Rattle.crash_rules.proofs.Interface.{world_fram}
use Rattle.source_values.specs.Runs.{CheckedProgram, State}
use Rattle.array_versions.specs.Behaviour.{Behaviour, behaviour, started}
use Rattle.memory_map.specs.declared.words.RuntimeWord.TheVariants.{CurrentTask, Gate, ListLength, EmitCount, SentBase, Version}
use Rattle.memory_map.specs.MemoryMap.{MemoryMap, word_place, with_events}
use Rattle.runtime_effects.specs.Places.{CopyPair, listed}
use Rattle.runtime_effects.specs.Stages.{is_at_end, start_effects, commit_effects}
use Rattle.runtime_code.specs.Comes.{Comes, IsAt}
use Rattle.boot_runtime.specs.Entries.{task_entries}
use Rattle.boot_runtime.specs.Listing.{TaskEntry, privates_in, start_steps, start_cycles}
use Rattle.boot_runtime.specs.Laws.{NamesHandler}
use Rattle.boot_runtime.proofs.Interface.{clearing_is_dearest}
use Rattle.commit_runtime.specs.Listing.{commit_steps, commit_cycles}
use Rattle.lower.specs.Lowered.{lowered}
use Rattle.crash_rules.specs.Model.{Model, program_effects, ModelLaws, with_commit}
use Rattle.crash_rules.specs.Runs.{Program, Makes}
use Rattle.stands_for.specs.Program.{StartContract}
use Rattle.stands_for.specs.StandsFor.{HoldsWords, StartedAt}
use Rattle.stands_for.proofs.Interface.{numbered_starts, pending_can_commit}
use Rattle.compiled_model.specs.Places.{program_places}
use Rattle.compiled_model.specs.View.{state_view}
use Rattle.memory_map.specs.declared.runtime.Logging.{Logging}
use Rattle.memory_map.specs.declared.runtime.Logging.TheVariants.{Redo}
use Rattle.memory_map.specs.declared.runtime.Role.{Role}
use Rattle.compiled_model.specs.Parts.{has_jumped, task_program, redo_model, started_under}
use Rattle.compiled_model.proofs.Interface.{under_map}
use Rattle.compiled_model.specs.Needs.{boot_cycles, LeavesFor}
use Rattle.linked_code.specs.Linked.{ProgramsAreWhole, attempt_start}
use Rattle.linked_code.specs.Watch.{StackedComes}
use Rattle.commit_runtime.proofs.Interface.{commit_grows}
use Rattle.linked_code.proofs.Interface.{around, under_watch, to_start, start_there, commit_there, to_commit}
use Rattle.compiled_runs.specs.Program.{stack_lows, IsBooting, IsStarting, compiled_program}
use Rattle.compiled_runs.specs.Laws.{CanRun}
use Rattle.cost_bound.specs.Summaries.{summaries}
use Rattle.cost_bound.specs.Counts.{emits_of}
use Rattle.source_values.specs.Runs.{task_body}
use Rattle.compiled_runs.proofs.Costs.{FitsCommit, BodyWithin, Costs, by_redo, programs_are, are_whole}
use Rattle.compiled_runs.proofs.Attempts.{Arrival, Stretches, attempt_made}

-- a source with its layout, whose code can run and which keeps the laws of redo's model, and what its tasks cost
record Source : Type 0 where
  program : CheckedProgram
  map : MemoryMap
  logs : map.runtime.logging ≡ Redo
  can : CanRun program map
  laws : ModelLaws (redo_model program map)
  costs : Costs program map

module _ (source : Source) where
  open source use {program as p, map as l, logs, can as r, laws, costs}

  abbrev m : Model State
  m = redo_model p l

  abbrev c : Program
  c = compiled_program p l

  abbrev tasks : List TaskEntry
  tasks = task_entries l

  abbrev privates : ℕ → List CopyPair
  privates = privates_in tasks

  whole : ProgramsAreWhole (lowered l p)
  whole = are_whole p l r

  -- what boot and commit do by themselves the code of the source does under watch
  so : {es : List Effect} {n cycles : ℕ} {u : Core} {P : Core → Type 0} → Comes (around l (lowered l p) r.fits whole) es n cycles u P
      → StackedComes l (lowered l p) (stack_lows p l) es n cycles u P
  so a = under_watch l (lowered l p) r.fits whole (stack_lows p l) a

  -- a board, and the start of an attempt behind it
  record ReachesStart (b : MachineBoard) : Type 0 where
    pub core : Core
    pub is : b ≡ board_of core
    pub steps : ℕ
    pub cycles : ℕ
    pub within : cycles ≤ with_events l.runtime.events 3 + 6
    pub comes : StackedComes l (lowered l p) (stack_lows p l) [] steps cycles core (IsAt (attempt_start l) core.fram core.inputs)

  from_boot : (b : MachineBoard) → IsBooting l b → b.fram (word_place l Gate) ≡ 0 → ReachesStart b
  from_boot b k z =
      let zero : k.core.fram (word_place l Gate) ≡ 0 = ap (λ s. s.fram (word_place l Gate)) (sym k.is) ∙ z in
      record {
        core = k.core;
        is = k.is;
        steps = with_events l.runtime.events 2 + 2;
        cycles = with_events l.runtime.events 3 + 6;
        within = omega arith;
        comes = so (to_start l (lowered l p) r.fits whole logs k.core k.pc k.named zero);
      }

  from_start : (b : MachineBoard) → IsStarting l b → ReachesStart b
  from_start b k =
      let u = k.core in
      let here : IsAt (attempt_start l) u.fram u.inputs u = record { pc = k.pc; fram = refl; inputs = refl } in
      record {
        core = u;
        is = k.is;
        steps = 0;
        cycles = 0;
        within = omega arith;
        comes = record { end = u; leads = stay c.step (board_of u); holds = here };
      }

  abbrev cost : ℕ → ℕ
  cost k = costs.cost k

  -- what the start of an attempt keeps
  start_keeps : StartContract (program_places p l) (state_view p l) privates (start_effects l privates)
  start_keeps = numbered_starts State (program_places p l) (state_view p l) privates r.apart (by_redo p l logs r).privates

  -- what a commit takes behind a boot, at most
  abbrev CommitWithin : (ℕ → ℕ) → ℕ → Type 0
  CommitWithin f most =
      boot_cycles l + commit_cycles l.runtime.events (f (word_place l ListLength)) (length (listed l f)) (f (word_place l EmitCount)) ≤ most

  -- a pending commit, from a boot on
  commit_from_boot : (to : State) (accepted : List ℕ) (u : Core) → u.pc ≡ l.boot.address → NamesHandler l u.fram
      → (d : m.Committing to (record { fram = u.fram; accepted = accepted })) → (most : ℕ) → CommitWithin u.fram most
      → Makes c m.delay most (program_effects (m.commit u.fram u.inputs) true) (board_of u)
  commit_from_boot to accepted u e named d most within =
      let x : World = record { fram = u.fram; accepted = accepted } in
      let q = d.pending in
      let a = so (to_commit l (lowered l p) r.fits whole logs u e named q.gate (pending_can_commit (program_places p l) x r.apart q)
      (q.words (word_place l SentBase))) in
      let n = u.fram (word_place l ListLength) in let ws = length (listed l u.fram) in let k = u.fram (word_place l EmitCount) in
      record {
        steps = with_events l.runtime.events 2 + 3 + commit_steps l.runtime.events n ws k;
        cycles = boot_cycles l + commit_cycles l.runtime.events n ws k;
        ends = λ t. record {
          end = board_of a.end;
          within = omega (arith, within);
          leads = a.leads;
          at_start = record { core = a.end; is = refl; pc = a.holds.pc };
        };
        lacks = λ t. absurd (cc (t));
      }

  commit_within : (to : State) (x : World) (b : MachineBoard) → IsBooting l b → b.fram ≡ x.fram → m.Committing to x → (most : ℕ)
      → CommitWithin x.fram most → Makes c m.delay most (program_effects (m.commit b.fram b.inputs) true) b
  commit_within to x b k e d most within =
      let u = k.core in
      let f : x.fram ≡ u.fram = sym e ∙ ap (λ q. q.fram) k.is in
      let d' : m.Committing to (record { fram = u.fram; accepted = x.accepted }) =
      subst (λ g. m.Committing to (record { fram = g; accepted = x.accepted })) f d in
      subst (λ q. Makes c m.delay most (program_effects (m.commit q.fram q.inputs) true) q) (sym k.is)
      (commit_from_boot to x.accepted u k.pc k.named d' most (subst (λ g. CommitWithin g most) f within))

  -- any commit: the list and the words to send have room
  makes_commit : (to : State) (x : World) (b : MachineBoard) → IsBooting l b → b.fram ≡ x.fram → m.Committing to x → (most : ℕ)
      → boot_cycles l + commit_cycles l.runtime.events l.entries l.entries l.emits.words ≤ most
      → Makes c m.delay most (program_effects (m.commit b.fram b.inputs) true) b
  makes_commit to x b k e d most room =
      let q = d.pending in
      let list = q.list_length in let words = q.list_words in let emits = q.emit_count in
      let n = x.fram (word_place l ListLength) in let ws = length (listed l x.fram) in let o = x.fram (word_place l EmitCount) in
      let dearest = commit_grows l.runtime.events n l.entries ws l.entries o l.emits.words list words emits in
      commit_within to x b k e d most (omega (arith, dearest, room))

  -- one that a task decided: its list has no more entries and words, and it has no more to send, than what the task's own cost has the cycles for
  makes_decided : (s next : State) (x : World) (b : MachineBoard) → IsBooting l b → b.fram ≡ x.fram → m.Decided s next x
      → FitsCommit l (costs.entries s.task) (costs.words s.task) (emits_of (summaries p) (task_body p s.task)) x.fram
      → Makes c m.delay (cost s.task) (program_effects (m.commit b.fram b.inputs) true) b
  makes_decided s next x b k e d fits =
      let list = fits.list in let words = fits.named in let emits = fits.sent in
      let most = costs.commits s.task d.decided.sends.is_task in
      let n = x.fram (word_place l ListLength) in let ws = length (listed l x.fram) in let o = x.fram (word_place l EmitCount) in
      let dearest = commit_grows l.runtime.events n (costs.entries s.task) ws (costs.words s.task) o (emits_of (summaries p) (task_body p s.task)) list words
      emits in
      commit_within next x b k e (laws.decided_committing s next x d) (cost s.task) (omega (arith, dearest, most))

  -- an undecided world, and a machine with its FRAM from which the start of an attempt is reached
  record Attempting : Type 0 where
    state : State
    accepted : List ℕ
    core : Core
    words : InputsAreWords core.inputs
    undecided : m.Undecided state (record { fram = core.fram; accepted = accepted })
    steps : ℕ
    cycles : ℕ
    few : cycles ≤ with_events l.runtime.events 3 + 6
    comes : StackedComes l (lowered l p) (stack_lows p l) [] steps cycles core (IsAt (attempt_start l) core.fram core.inputs)

  module _ (at : Attempting) where
    open at use {state as s, accepted, core as u, words, undecided as und, steps, cycles, few, comes}

    abbrev x : World
    x = record { fram = u.fram; accepted = accepted }

    abbrev k : ℕ
    k = u.fram (word_place l CurrentTask)

    abbrev es : List Effect
    es = start_effects l privates u.fram

    abbrev g : ℕ → ℕ
    g = fram_after es u.fram

    abbrev b : Behaviour
    b = behaviour (task_program p l k) (started g u.inputs)

    abbrev f : ℕ → ℕ
    f = fram_after (es ++ b.effects) u.fram

    is_current : k ≡ s.task
    is_current = und.is_open.current_task

    named : k < length p.tasks
    named = let e = is_current in let t = und.is_open.is_task in omega (arith, e, t)

    program_named : k < length (lowered l p)
    program_named = let h = named in let n = programs_are p l r in omega (arith, h, n)

    is_started : StartedAt (program_places p l) (state_view p l) s (privates s.task) (world_after es x)
    is_started = start_keeps.started s x und

    started_fram : (world_after es x).fram ≡ g
    started_fram = world_fram es x

    start_words : HoldsWords g
    start_words = subst HoldsWords started_fram is_started.undecided.is_open.words

    leaves : LeavesFor l.commit.address b.end
    leaves =
        let P : Logging → Role → Type 0 = λ logging role. started_under logging p l s (world_after es x) in
        let a = r.leave.leave s (world_after es x) u.inputs words (under_map l P logs is_started) in
        subst (λ t. LeavesFor l.commit.address (behaviour (task_program p l t) (started g u.inputs)).end) (sym is_current)
        (subst (λ h. LeavesFor l.commit.address (behaviour (task_program p l s.task) (started h u.inputs)).end) started_fram a)

    -- the cycles of its body, and that its cost has room for them
    abbrev paid : BodyWithin p l (cost k) (costs.entries k) (costs.words k) k g u.inputs
    paid = costs.body k g u.inputs named start_words words

    -- what it lists where it decides
    abbrev FitsAt : ℕ → (ℕ → ℕ) → Type 0
    FitsAt t h = FitsCommit l (costs.entries t) (costs.words t) (emits_of (summaries p) (task_body p t)) h

    fits_there : has_jumped b.end ≡ true → FitsAt k f
    fits_there ends = subst (λ t. FitsAt t f) (sym is_current) (costs.lists s x u.inputs words und ends)

    abbrev clears : Bool
    clears = is_at_end l u.fram

    abbrev start_time : ℕ
    start_time = start_cycles l.runtime.events clears l.versions.words (length (privates k))

    -- the cost has room for the clearing in each attempt
    at_most : start_time ≤ start_cycles l.runtime.events true l.versions.words (length (privates k))
    at_most = clearing_is_dearest l.runtime.events clears l.versions.words (length (privates k))

    abbrev listed_entries : ℕ
    listed_entries = f (word_place l ListLength)

    abbrev listed_words : ℕ
    listed_words = length (listed l f)

    abbrev to_send : ℕ
    to_send = f (word_place l EmitCount)

    abbrev commit_time : ℕ
    commit_time = commit_cycles l.runtime.events listed_entries listed_words to_send

    all_paid : has_jumped b.end ≡ true → cycles + start_time + paid.most + commit_time ≤ cost k
    all_paid ends =
        let fits : FitsAt k f = fits_there ends in
        let list = fits.list in let words = fits.named in let emits = fits.sent in
        let most = paid.within in let start_most = at_most in
        let dearest = commit_grows l.runtime.events listed_entries (costs.entries k) listed_words (costs.words k) to_send
        (emits_of (summaries p) (task_body p k))
        list words emits in
        omega (arith, few, most, start_most, dearest)

    abbrev arrival : Arrival p l
    arrival = record { core = u; front = []; steps = steps; cycles = cycles; comes = comes }

    stretches : Stretches p l (start_effects l privates) (commit_effects l) arrival (cost k)
    stretches = record {
      start_steps = start_steps l.runtime.events clears l.versions.words (length (privates k));
      start_cycles = start_time;
      starts = λ v h. so (start_there l (lowered l p) r.fits whole logs v u.fram u.inputs h program_named (und.is_open.words (word_place l Version)));
      most = paid.most;
      body = λ v h. paid.comes v h;
      leaves = leaves;
      commit_steps = commit_steps l.runtime.events listed_entries listed_words to_send;
      commit_cycles = commit_time;
      commits = λ ends v h. let fits : FitsAt k f = fits_there ends in
          so (commit_there l (lowered l p) r.fits whole logs v f v.inputs h fits.can fits.base);
      within = let most = paid.within in let start_most = at_most in omega (arith, few, most, start_most);
      all_within = all_paid;
    }

    made : Makes c m.delay (cost s.task) (with_commit m u.fram u.inputs (m.attempt u.fram u.inputs)) (board_of u)
    made = subst (λ t. Makes c m.delay (cost t) (with_commit m u.fram u.inputs (m.attempt u.fram u.inputs)) (board_of u)) is_current
        (attempt_made p l (start_effects l privates) (commit_effects l) arrival (cost k) stretches)

  makes_from : (s : State) (x : World) (b : MachineBoard) → ReachesStart b → b.fram ≡ x.fram → InputsAreWords b.inputs → m.Undecided s x
      → Makes c m.delay (cost s.task) (with_commit m b.fram b.inputs (m.attempt b.fram b.inputs)) b
  makes_from s x b k same words und =
      let u = k.core in
      let f : x.fram ≡ u.fram = sym same ∙ ap (λ q. q.fram) k.is in
      let und' : m.Undecided s (record { fram = u.fram; accepted = x.accepted }) =
      subst (λ g. m.Undecided s (record { fram = g; accepted = x.accepted })) f und in
      let words' : InputsAreWords u.inputs = subst (λ q. InputsAreWords q.inputs) k.is words in
      subst (λ q. Makes c m.delay (cost s.task) (with_commit m q.fram q.inputs (m.attempt q.fram q.inputs)) q) (sym k.is)
      (made (record {
        state = s;
        accepted = x.accepted;
        core = u;
        words = words';
        undecided = und';
        steps = k.steps;
        cycles = k.cycles;
        few = k.within;
        comes = k.comes;
      }))

  makes_boot : (s : State) (x : World) (b : MachineBoard) → IsBooting l b → b.fram ≡ x.fram → InputsAreWords b.inputs → m.Undecided s x
      → Makes c m.delay (cost s.task) (with_commit m b.fram b.inputs (m.attempt b.fram b.inputs)) b
  makes_boot s x b k same words und =
      let zero : b.fram (word_place l Gate) ≡ 0 = ap (λ f. f (word_place l Gate)) same ∙ laws.undecided_gate s x und in
      makes_from s x b (from_boot b k zero) same words und

-- what the code owes a model that has redo's runtime and worlds, in which these are the costs
pub record CodeMakes (p : CheckedProgram) (l : MemoryMap) (costs : Costs p l) : Type 0 where
  pub boot : (s : State) (x : World) (b : MachineBoard) → IsBooting l b → b.fram ≡ x.fram → InputsAreWords b.inputs → (redo_model p l).Undecided s x
      → Makes (compiled_program p l) (redo_model p l).delay (costs.cost s.task)
      (with_commit (redo_model p l) b.fram b.inputs ((redo_model p l).attempt b.fram b.inputs)) b
  pub attempt : (s : State) (x : World) (b : MachineBoard) → IsStarting l b → b.fram ≡ x.fram → InputsAreWords b.inputs → (redo_model p l).Undecided s x
      → Makes (compiled_program p l) (redo_model p l).delay (costs.cost s.task)
      (with_commit (redo_model p l) b.fram b.inputs ((redo_model p l).attempt b.fram b.inputs)) b
  pub decided : (s next : State) (x : World) (b : MachineBoard) → IsBooting l b → b.fram ≡ x.fram → (redo_model p l).Decided s next x
      → FitsCommit l (costs.entries s.task) (costs.words s.task) (emits_of (summaries p) (task_body p s.task)) x.fram
      → Makes (compiled_program p l) (redo_model p l).delay (costs.cost s.task) (program_effects ((redo_model p l).commit b.fram b.inputs) true) b
  pub commit : (to : State) (x : World) (b : MachineBoard) → IsBooting l b → b.fram ≡ x.fram → (redo_model p l).Committing to x → (most : ℕ)
      → boot_cycles l + commit_cycles l.runtime.events l.entries l.entries l.emits.words ≤ most
      → Makes (compiled_program p l) (redo_model p l).delay most (program_effects ((redo_model p l).commit b.fram b.inputs) true) b

pub code_makes : (p : CheckedProgram) (l : MemoryMap) → l.runtime.logging ≡ Redo → CanRun p l → ModelLaws (redo_model p l) → (costs : Costs p l)
    → CodeMakes p l costs
code_makes p l logs r laws costs =
    let source : Source = record { program = p; map = l; logs = logs; can = r; laws = laws; costs = costs } in
    record {
      boot = makes_boot source;
      attempt = λ s x b k. makes_from source s x b (from_start source b k);
      decided = makes_decided source;
      commit = makes_commit source;
    }
