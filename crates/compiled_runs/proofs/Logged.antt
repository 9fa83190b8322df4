-- Under undo the code makes each recovery with its attempt, and each commit, within what its task costs: its part of the bound, or its need.
use Rattle.std.proofs.Common.{◌≡◌, ◌<◌, ◌≤◌, ◌+◌, ℕ, Bool, true, false, List, [], ◌++◌, length, refl, sym, ap, ◌∙◌, subst, inr, arith}
use Rattle.std.proofs.lemmas.List.Elements.{All-nil}
use Rattle.fram_board.specs.Effects.{Effect}
use Rattle.machine_effects.specs.World.{World, fram_after, world_after}
use Rattle.machine_effects.specs.Inputs.{Look, Inputs, InputsAreWords, no_inputs}
use Rattle.machine_effects.specs.Machine.{MachineBoard}
use Rattle.machine_effects.proofs.Interface.{stay, fram_after-append}
use Rattle.code_forms.specs.Forms.{Core, board_of}
use Rattle.cost_bound.specs.Summaries.{summaries}
use Rattle.cost_bound.specs.Allowance.{list_of}
use Rattle.cost_bound.specs.Counts.{emits_of}
use Rattle.source_values.specs.Runs.{CheckedProgram, State, task_body}
use Rattle.array_versions.specs.Behaviour.{Behaviour, behaviour, started}
use Rattle.word_code.specs.Code.{code_spent}
use Rattle.memory_map.specs.declared.runtime.Logging.{Logging}
use Rattle.memory_map.specs.declared.runtime.Logging.TheVariants.{Undo}
use Rattle.memory_map.specs.declared.runtime.Role.{Role}
use Rattle.memory_map.specs.declared.words.RuntimeWord.TheVariants.{CurrentTask, ListLength, EmitCount, SentBase, Version}
use Rattle.memory_map.specs.MemoryMap.{MemoryMap, word_place, with_events}
use Rattle.runtime_effects.specs.Stages.{is_at_end}
use Rattle.runtime_code.specs.Addresses.{stack_top}
use Rattle.runtime_code.specs.Comes.{Comes, IsAt, Enters}
use Rattle.runtime_code.proofs.Interface.{if_any_grows}
use Rattle.boot_runtime.specs.Entries.{task_entries}
use Rattle.boot_runtime.specs.Listing.{entry_at}
use Rattle.boot_runtime.specs.Laws.{NamesHandler}
use Rattle.undo_effects.specs.Stages.{recovery, undo_start, undo_commit}
use Rattle.undo_runtime.specs.Listing.{recovery_steps, recovery_cycles, start_steps, start_cycles, commit_steps, commit_cycles}
use Rattle.undo_runtime.specs.Needs.{IsLoggable, CanRecover, CanClose}
use Rattle.lower.specs.Lowered.{lowered}
use Rattle.crash_rules.specs.Model.{Model, ModelLaws, ProgramEffects, program_effects, with_commit, attempt_from}
use Rattle.crash_rules.specs.Runs.{Program, ProgramLaws, Makes}
use Rattle.crash_rules.proofs.Interface.{world_fram}
use Rattle.stands_for.specs.Layout.{IsSharedWord}
use Rattle.stands_for.specs.StandsFor.{HoldsWords}
use Rattle.undo_states.specs.States.{LoggingAt}
use Rattle.undo_states.specs.Program.{LoggingContract}
use Rattle.undo_states.proofs.Interface.{settled_stands, logging_starts}
use Rattle.compiled_model.specs.Places.{program_places}
use Rattle.compiled_model.specs.View.{state_view}
use Rattle.compiled_model.specs.Parts.{has_jumped, task_program, private_homes, logged_model, compiled_model, started_under}
use Rattle.compiled_model.specs.Needs.{LeavesFor, boot_cycles, logged_cycles}
use Rattle.compiled_model.proofs.Interface.{is_logged, under_map}
use Rattle.linked_code.specs.Linked.{ProgramsAreWhole, attempt_start}
use Rattle.linked_code.specs.Watch.{keeps_stacks, StackedComes, StackedTo}
use Rattle.linked_code.proofs.Interface.{body_there, around, under_watch, to_recovered, logged_start_there, logged_commit_there, to_logged_commit}
use Rattle.compiled_runs.specs.Program.{placed_code, stack_lows, IsBooting, IsStarting, compiled_program}
use Rattle.compiled_runs.specs.Laws.{CanRun}
use Rattle.compiled_runs.proofs.Steps.{watched_takes, watched_changes}
use Rattle.compiled_runs.proofs.Costs.{by_undo, programs_are, are_whole, has_stack, decided_behind}
use Rattle.compiled_runs.proofs.Attempts.{Arrival, Stretches, attempt_made}

-- more entries take more to be put back, and a start takes the most where it clears
recovery_grows : (n m : ℕ) → n ≤ m → recovery_cycles n ≤ recovery_cycles m
recovery_grows n m h = let begins = if_any_grows n m 2 h in omega (arith, h, begins)

commit_grows : (events : Bool) (n m : ℕ) → n ≤ m → commit_cycles events n ≤ commit_cycles events m
commit_grows events n m h = let begins = if_any_grows n m 2 h in omega (arith, h, begins)

clearing_is_dearest : (events clears : Bool) (versions privates : ℕ) → start_cycles events clears versions privates ≤ start_cycles events true versions privates
clearing_is_dearest events true versions privates = omega arith
clearing_is_dearest events false versions privates = omega arith

-- the code of a task on FRAM and inputs keeps to so many cycles, for which its cost has room beside a boot that puts back all that the task may list, the
-- clearing and a commit
pub record LoggedBodyWithin (p : CheckedProgram) (l : MemoryMap) (cost k : ℕ) (g : ℕ → ℕ) (inputs : Inputs) : Type 0 where
  pub most : ℕ
  pub comes : (v : Core) → Enters (entry_at (task_entries l) k).code stack_top g inputs v
      → let b = behaviour (task_program p l k) (started g inputs) in StackedTo l (lowered l p) (stack_lows p l) most v b.effects b.end
  pub within : with_events l.runtime.events 3 + 6 + recovery_cycles (list_of (summaries p) p.shared (task_body p k))
      + start_cycles l.runtime.events true l.versions.words (length (private_homes l k)) + most
      + commit_cycles l.runtime.events (emits_of (summaries p) (task_body p k)) ≤ cost

-- what each task costs: its cost has its body's cycles, and those of a commit that it left pending
pub record LoggedCosts (p : CheckedProgram) (l : MemoryMap) : Type 0 where
  pub cost : ℕ → ℕ
  pub body : (k : ℕ) (g : ℕ → ℕ) (inputs : Inputs) → k < length p.tasks → HoldsWords g → InputsAreWords inputs → LoggedBodyWithin p l (cost k) k g inputs
  pub commits : (k : ℕ) → k < length p.tasks → boot_cycles l + commit_cycles l.runtime.events (emits_of (summaries p) (task_body p k)) ≤ cost k

module _ (p : CheckedProgram) (l : MemoryMap) (logs : l.runtime.logging ≡ Undo) (r : CanRun p l) (laws : ModelLaws (logged_model p l))
    (costs : LoggedCosts p l) where
  abbrev m : Model State
  m = logged_model p l

  abbrev c : Program
  c = compiled_program p l

  abbrev start : (ℕ → ℕ) → List Effect
  start = undo_start l (private_homes l)

  abbrev list : ℕ → ℕ
  list t = list_of (summaries p) p.shared (task_body p t)

  abbrev emits : ℕ → ℕ
  emits t = emits_of (summaries p) (task_body p t)

  whole : ProgramsAreWhole (lowered l p)
  whole = are_whole p l r

  -- what boot and commit do by themselves the code of the source does under watch
  so : {es : List Effect} {n cycles : ℕ} {u : Core} {P : Core → Type 0} → Comes (around l (lowered l p) r.fits whole) es n cycles u P
      → StackedComes l (lowered l p) (stack_lows p l) es n cycles u P
  so a = under_watch l (lowered l p) r.fits whole (stack_lows p l) a

  start_keeps : LoggingContract (program_places p l) (state_view p l) (private_homes l) start
  start_keeps = logging_starts State (program_places p l) (state_view p l) (private_homes l) r.apart r.room (by_undo p l logs r).privates

  -- ---- what FRAM has for a recovery and for a commit

  loggable : (a : ℕ) → IsSharedWord (program_places p l) a → IsLoggable l a
  loggable a h =
      let k = r.apart in
      record {
        place = record { even = h.even; low = omega (arith, k, h); high = omega (arith, k, h) };
        length = λ e. omega (arith, k, h, e);
        list = inr (omega (arith, k, h));
      }

  can_recover : (s : State) (x : World) → m.Undecided s x → CanRecover l x.fram
  can_recover s x u =
      let task = u.behind.is_open.is_task in
      let within = u.within in let few = r.room.list s.task task in
      record { few = omega (arith, within, few); each = λ a h. loggable a (u.shared a h) }

  can_close : (s next : State) (x : World) → m.Decided s next x → CanClose l x.fram
  can_close s next x d =
      let sends = d.closes.sends in
      let count = sends.emit_count in let within = sends.within_emits in let few = r.room.emits s.task sends.is_task in
      record { emit_count = omega (arith, count, within, few); sent_base = sends.words (word_place l SentBase) }

  few_sends : (s next : State) (x : World) → m.Decided s next x → x.fram (word_place l EmitCount) ≤ emits s.task
  few_sends s next x d =
      let sends = d.closes.sends in let count = sends.emit_count in let within = sends.within_emits in omega (arith, count, within)

  -- ---- attempts

  -- a machine that comes to where an attempt starts, on a world that is settled there
  record Attempting : Type 0 where
    state : State
    accepted : List ℕ
    arrival : Arrival p l
    words : InputsAreWords arrival.core.inputs
    settled : m.Settled state (record { fram = fram_after arrival.front arrival.core.fram; accepted = accepted })
    few : arrival.cycles ≤ with_events l.runtime.events 3 + 6 + recovery_cycles (list state.task)

  module _ (at : Attempting) where
    open at use {state as s, accepted, arrival, words, settled, few}

    abbrev u : Core
    u = arrival.core

    -- FRAM where the attempt starts
    abbrev here : ℕ → ℕ
    here = fram_after arrival.front u.fram

    abbrev x : World
    x = record { fram = here; accepted = accepted }

    abbrev k : ℕ
    k = here (word_place l CurrentTask)

    abbrev es : List Effect
    es = start here

    abbrev g : ℕ → ℕ
    g = fram_after es here

    abbrev b : Behaviour
    b = behaviour (task_program p l k) (started g u.inputs)

    -- FRAM where its program jumped
    abbrev f : ℕ → ℕ
    f = fram_after (arrival.front ++ (es ++ b.effects)) u.fram

    is_current : k ≡ s.task
    is_current = (settled_stands (program_places p l) (state_view p l) s x settled).is_open.current_task

    is_task : s.task < length p.tasks
    is_task = settled.undecided.behind.is_open.is_task

    named : k < length p.tasks
    named = let e = is_current in let t = is_task in omega (arith, e, t)

    program_named : k < length (lowered l p)
    program_named = let h = named in let n = programs_are p l r in omega (arith, h, n)

    is_started : LoggingAt (program_places p l) (state_view p l) s (private_homes l s.task) (world_after es x)
    is_started = start_keeps.started s x settled

    start_words : HoldsWords g
    start_words = subst HoldsWords (world_fram es x) is_started.undecided.words

    leaves : LeavesFor l.commit.address b.end
    leaves =
        let P : Logging → Role → Type 0 = λ logging role. started_under logging p l s (world_after es x) in
        let a = r.leave.leave s (world_after es x) u.inputs words (under_map l P logs is_started) in
        subst (λ t. LeavesFor l.commit.address (behaviour (task_program p l t) (started g u.inputs)).end) (sym is_current)
        (subst (λ h. LeavesFor l.commit.address (behaviour (task_program p l s.task) (started h u.inputs)).end) (world_fram es x) a)

    -- the world that it decides
    closes : has_jumped b.end ≡ true → CanClose l f × (f (word_place l EmitCount) ≤ emits k)
    closes ends =
        let d = decided_behind m s x u.inputs (m.attempt here u.inputs) (laws.attempts s x u.inputs words settled) ends in
        let same : d.world.fram ≡ f = d.fram ∙ sym (fram_after-append arrival.front (es ++ b.effects) u.fram) in
        let Closing : (ℕ → ℕ) → Type 0 = λ h. CanClose l h × (h (word_place l EmitCount) ≤ emits k) in
        let sent = few_sends s d.next d.world d.decided in
        let there : d.world.fram (word_place l EmitCount) ≤ emits k = subst (λ t. d.world.fram (word_place l EmitCount) ≤ emits t) (sym is_current) sent in
        subst Closing same (can_close s d.next d.world d.decided, there)

    -- ---- its cycles

    abbrev clears : Bool
    clears = is_at_end l here

    abbrev start_time : ℕ
    start_time = start_cycles l.runtime.events clears l.versions.words (length (private_homes l k))

    -- the cycles of its body, and that its cost has room for them
    abbrev paid : LoggedBodyWithin p l (costs.cost k) k g u.inputs
    paid = costs.body k g u.inputs named start_words words

    abbrev commit_time : ℕ
    commit_time = commit_cycles l.runtime.events (f (word_place l EmitCount))

    few_here : arrival.cycles ≤ with_events l.runtime.events 3 + 6 + recovery_cycles (list k)
    few_here = subst (λ t. arrival.cycles ≤ with_events l.runtime.events 3 + 6 + recovery_cycles (list t)) (sym is_current) few

    start_most : start_time ≤ start_cycles l.runtime.events true l.versions.words (length (private_homes l k))
    start_most = clearing_is_dearest l.runtime.events clears l.versions.words (length (private_homes l k))

    all_paid : has_jumped b.end ≡ true → arrival.cycles + start_time + paid.most + commit_time ≤ costs.cost k
    all_paid ends =
        let front = few_here in let body = paid.within in let most = start_most in
        let dearest = commit_grows l.runtime.events (f (word_place l EmitCount)) (emits k) (closes ends).1 in
        omega (arith, front, body, most, dearest)

    stretches : Stretches p l start (undo_commit l) arrival (costs.cost k)
    stretches = record {
      start_steps = start_steps l.runtime.events clears l.versions.words (length (private_homes l k));
      start_cycles = start_time;
      starts = λ v h. so (logged_start_there l (lowered l p) r.fits whole logs v here u.inputs h program_named
          (settled.undecided.words (word_place l Version)) settled.none);
      most = paid.most;
      body = λ v h. paid.comes v h;
      leaves = leaves;
      commit_steps = commit_steps l.runtime.events (f (word_place l EmitCount));
      commit_cycles = commit_time;
      commits = λ ends v h. so (logged_commit_there l (lowered l p) r.fits whole logs v f v.inputs h (closes ends).0);
      within = let front = few_here in let body = paid.within in let most = start_most in omega (arith, front, body, most);
      all_within = all_paid;
    }

    abbrev script : ProgramEffects
    script = with_commit m u.fram u.inputs (program_effects (arrival.front ++ (m.attempt here u.inputs).effects) (m.attempt here u.inputs).ends)

    made : Makes c m.delay (costs.cost s.task) script (board_of u)
    made = subst (λ t. Makes c m.delay (costs.cost t) script (board_of u)) is_current
        (attempt_made p l start (undo_commit l) arrival (costs.cost k) stretches)

  -- ---- from a boot, behind the recovery

  boot_made : (s : State) (accepted : List ℕ) (u : Core) → u.pc ≡ l.boot.address → NamesHandler l u.fram → InputsAreWords u.inputs
      → m.Undecided s (record { fram = u.fram; accepted = accepted })
      → Makes c m.delay (costs.cost s.task) (with_commit m u.fram u.inputs (attempt_from m true u.fram u.inputs)) (board_of u)
  boot_made s accepted u at handler words und =
      let x : World = record { fram = u.fram; accepted = accepted } in
      let back = recovery l u.fram in
      let n = u.fram (word_place l ListLength) in
      let comes = so (to_recovered l (lowered l p) r.fits whole logs u at handler (laws.undecided_gate s x und) (can_recover s x und)) in
      let keeps = laws.recovers s x und in
      let within = und.within in
      let grows = recovery_grows n (list s.task) within in
      let accepted' = (world_after back x).accepted in
      made (record {
        state = s;
        accepted = accepted';
        arrival = record {
          core = u;
          front = back;
          steps = with_events l.runtime.events 2 + 2 + recovery_steps n;
          cycles = with_events l.runtime.events 3 + 6 + recovery_cycles n;
          comes = comes;
        };
        words = words;
        settled = subst (λ f. m.Settled s (record { fram = f; accepted = accepted' })) (world_fram back x) keeps.settled;
        few = omega (arith, grows);
      })

  makes_boot : (s : State) (x : World) (b : MachineBoard) → IsBooting l b → b.fram ≡ x.fram → InputsAreWords b.inputs → m.Undecided s x
      → Makes c m.delay (costs.cost s.task) (with_commit m b.fram b.inputs (attempt_from m true b.fram b.inputs)) b
  makes_boot s x b k same words und =
      let u = k.core in
      let f : x.fram ≡ u.fram = sym same ∙ ap (λ q. q.fram) k.is in
      let und' : m.Undecided s (record { fram = u.fram; accepted = x.accepted }) =
      subst (λ g. m.Undecided s (record { fram = g; accepted = x.accepted })) f und in
      let words' : InputsAreWords u.inputs = subst (λ q. InputsAreWords q.inputs) k.is words in
      subst (λ q. Makes c m.delay (costs.cost s.task) (with_commit m q.fram q.inputs (attempt_from m true q.fram q.inputs)) q) (sym k.is)
      (boot_made s x.accepted u k.pc k.named words' und')

  -- ---- from the end of a commit

  start_made : (s : State) (accepted : List ℕ) (u : Core) → u.pc ≡ attempt_start l → InputsAreWords u.inputs
      → m.Settled s (record { fram = u.fram; accepted = accepted })
      → Makes c m.delay (costs.cost s.task) (with_commit m u.fram u.inputs (m.attempt u.fram u.inputs)) (board_of u)
  start_made s accepted u at words settled =
      let there : IsAt (attempt_start l) u.fram u.inputs u = record { pc = at; fram = refl; inputs = refl } in
      made (record {
        state = s;
        accepted = accepted;
        arrival = record {
          core = u;
          front = [];
          steps = 0;
          cycles = 0;
          comes = record { end = u; leads = stay c.step (board_of u); holds = there };
        };
        words = words;
        settled = settled;
        few = omega arith;
      })

  makes_attempt : (s : State) (x : World) (b : MachineBoard) → IsStarting l b → b.fram ≡ x.fram → InputsAreWords b.inputs → m.Settled s x
      → Makes c m.delay (costs.cost s.task) (with_commit m b.fram b.inputs (m.attempt b.fram b.inputs)) b
  makes_attempt s x b k same words settled =
      let u = k.core in
      let f : x.fram ≡ u.fram = sym same ∙ ap (λ q. q.fram) k.is in
      let settled' : m.Settled s (record { fram = u.fram; accepted = x.accepted }) =
      subst (λ g. m.Settled s (record { fram = g; accepted = x.accepted })) f settled in
      let words' : InputsAreWords u.inputs = subst (λ q. InputsAreWords q.inputs) k.is words in
      subst (λ q. Makes c m.delay (costs.cost s.task) (with_commit m q.fram q.inputs (m.attempt q.fram q.inputs)) q) (sym k.is)
      (start_made s x.accepted u k.pc words' settled')

  -- ---- a pending commit

  commit_made : (s next : State) (accepted : List ℕ) (u : Core) → u.pc ≡ l.boot.address → NamesHandler l u.fram
      → (d : m.Decided s next (record { fram = u.fram; accepted = accepted })) → (most : ℕ)
      → boot_cycles l + commit_cycles l.runtime.events (u.fram (word_place l EmitCount)) ≤ most
      → Makes c m.delay most (program_effects (m.commit u.fram u.inputs) true) (board_of u)
  commit_made s next accepted u at handler d most within =
      let x : World = record { fram = u.fram; accepted = accepted } in
      let a = so (to_logged_commit l (lowered l p) r.fits whole logs u at handler d.closes.sends.gate (can_close s next x d)) in
      let n = u.fram (word_place l EmitCount) in
      record {
        steps = with_events l.runtime.events 2 + 3 + commit_steps l.runtime.events n;
        cycles = boot_cycles l + commit_cycles l.runtime.events n;
        ends = λ t. record {
          end = board_of a.end;
          within = omega (arith, within);
          leads = a.leads;
          at_start = record { core = a.end; is = refl; pc = a.holds.pc };
        };
        lacks = λ t. absurd (cc (t));
      }

  makes_within : (s next : State) (x : World) (b : MachineBoard) → IsBooting l b → b.fram ≡ x.fram → m.Decided s next x → (most : ℕ)
      → boot_cycles l + commit_cycles l.runtime.events (emits s.task) ≤ most → Makes c m.delay most (program_effects (m.commit b.fram b.inputs) true) b
  makes_within s next x b k e d most room =
      let u = k.core in
      let f : x.fram ≡ u.fram = sym e ∙ ap (λ q. q.fram) k.is in
      let d' : m.Decided s next (record { fram = u.fram; accepted = x.accepted }) =
      subst (λ g. m.Decided s next (record { fram = g; accepted = x.accepted })) f d in
      let sent = few_sends s next (record { fram = u.fram; accepted = x.accepted }) d' in
      let dearest = commit_grows l.runtime.events (u.fram (word_place l EmitCount)) (emits s.task) sent in
      subst (λ q. Makes c m.delay most (program_effects (m.commit q.fram q.inputs) true) q) (sym k.is)
      (commit_made s next x.accepted u k.pc k.named d' most (omega (arith, dearest, room)))

  -- one that a task decided: the cost of the task has room for it
  makes_decided : (s next : State) (x : World) (b : MachineBoard) → IsBooting l b → b.fram ≡ x.fram → m.Decided s next x
      → Makes c m.delay (costs.cost s.task) (program_effects (m.commit b.fram b.inputs) true) b
  makes_decided s next x b k e d = makes_within s next x b k e d (costs.cost s.task) (costs.commits s.task d.closes.sends.is_task)

  -- any commit: the buffer has room for it
  makes_commit : (to : State) (x : World) (b : MachineBoard) → IsBooting l b → b.fram ≡ x.fram → m.Committing to x → (most : ℕ)
      → boot_cycles l + commit_cycles l.runtime.events l.emits.words ≤ most → Makes c m.delay most (program_effects (m.commit b.fram b.inputs) true) b
  makes_commit to x b k e d most room =
      let few = r.room.emits d.from.task d.decided.closes.sends.is_task in
      let dearest = commit_grows l.runtime.events (emits d.from.task) l.emits.words few in
      makes_within d.from to x b k e d.decided most (omega (arith, dearest, room))

-- what the code owes a model that has undo's runtime and worlds, in which these are the costs
pub record LoggedCodeMakes (p : CheckedProgram) (l : MemoryMap) (costs : LoggedCosts p l) : Type 0 where
  pub boot : (s : State) (x : World) (b : MachineBoard) → IsBooting l b → b.fram ≡ x.fram → InputsAreWords b.inputs → (logged_model p l).Undecided s x
      → Makes (compiled_program p l) (logged_model p l).delay (costs.cost s.task)
      (with_commit (logged_model p l) b.fram b.inputs (attempt_from (logged_model p l) true b.fram b.inputs)) b
  pub attempt : (s : State) (x : World) (b : MachineBoard) → IsStarting l b → b.fram ≡ x.fram → InputsAreWords b.inputs → (logged_model p l).Settled s x
      → Makes (compiled_program p l) (logged_model p l).delay (costs.cost s.task)
      (with_commit (logged_model p l) b.fram b.inputs ((logged_model p l).attempt b.fram b.inputs)) b
  pub decided : (s next : State) (x : World) (b : MachineBoard) → IsBooting l b → b.fram ≡ x.fram → (logged_model p l).Decided s next x
      → Makes (compiled_program p l) (logged_model p l).delay (costs.cost s.task) (program_effects ((logged_model p l).commit b.fram b.inputs) true) b
  pub commit : (to : State) (x : World) (b : MachineBoard) → IsBooting l b → b.fram ≡ x.fram → (logged_model p l).Committing to x → (most : ℕ)
      → boot_cycles l + commit_cycles l.runtime.events l.emits.words ≤ most
      → Makes (compiled_program p l) (logged_model p l).delay most (program_effects ((logged_model p l).commit b.fram b.inputs) true) b

pub logged_code_makes : (p : CheckedProgram) (l : MemoryMap) → l.runtime.logging ≡ Undo → CanRun p l → ModelLaws (logged_model p l)
    → (costs : LoggedCosts p l) → LoggedCodeMakes p l costs
logged_code_makes p l logs r laws costs = record {
  boot = makes_boot p l logs r laws costs;
  attempt = makes_attempt p l logs r laws costs;
  decided = makes_decided p l logs r laws costs;
  commit = makes_commit p l logs r laws costs;
}

-- ---- within the bound

-- each task's part of the bound has its cycles
module _ (p : CheckedProgram) (l : MemoryMap) (logs : l.runtime.logging ≡ Undo) (r : CanRun p l) where
  bound_body : (k : ℕ) (g : ℕ → ℕ) (inputs : Inputs) → k < length p.tasks → HoldsWords g → InputsAreWords inputs
      → LoggedBodyWithin p l ((logged_model p l).task_cost k) k g inputs
  bound_body k g inputs named are_words ready =
      let count = programs_are p l r in
      let there : k < length (lowered l p) = omega (arith, named, count) in
      let whole : logged_cycles p l k g inputs ≤ (logged_model p l).task_cost k = (by_undo p l logs r).costs.within k g inputs named are_words ready in
      record {
        most = code_spent (task_program p l k) (started g inputs);
        comes = λ v enters. body_there l (lowered l p) r.fits (are_whole p l r) (stack_lows p l) k there (has_stack p l r k there) v g inputs enters are_words
            ready;
        within = omega (arith, whole);
      }

  bound_commits : (k : ℕ) → k < length p.tasks
      → boot_cycles l + commit_cycles l.runtime.events (emits_of (summaries p) (task_body p k)) ≤ (logged_model p l).task_cost k
  bound_commits k named =
      let zeros : ℕ → ℕ = λ a. 0 in
      let paid : logged_cycles p l k zeros no_inputs ≤ (logged_model p l).task_cost k =
      (by_undo p l logs r).costs.within k zeros no_inputs named (λ a. omega arith) (record {
        readings = All-nil (λ w. w < 0x10000);
        looks = All-nil (λ (look : Look). (n : ℕ) → look n < 0x10000);
      }) in
      omega (arith, paid)

  abbrev bound_costs : LoggedCosts p l
  bound_costs = record { cost = (logged_model p l).task_cost; body = bound_body; commits = bound_commits }

pub under_undo : (p : CheckedProgram) (l : MemoryMap) → l.runtime.logging ≡ Undo → CanRun p l → ModelLaws (compiled_model p l)
    → ProgramLaws (compiled_model p l) (compiled_program p l)
under_undo p l logs r laws =
    let L : Model State → Type 0 = λ m. ModelLaws m in
    let P : Model State → Type 0 = λ m. ProgramLaws m (compiled_program p l) in
    let makes = logged_code_makes p l logs r (subst L (is_logged p l logs) laws) (bound_costs p l logs r) in
    subst P (sym (is_logged p l logs)) (record {
      changes = λ s. watched_changes (keeps_stacks l (stack_lows p l)) (placed_code p l) s;
      takes_cycles = λ s. watched_takes (keeps_stacks l (stack_lows p l)) (placed_code p l) s;
      makes_boot = makes.boot;
      makes_attempt = makes.attempt;
      makes_decided = makes.decided;
      makes_commit = λ to x b k e d.
          makes.commit to x b k e d _ ((by_undo p l logs r).costs.commits d.from.task d.decided.closes.sends.is_task);
    })
