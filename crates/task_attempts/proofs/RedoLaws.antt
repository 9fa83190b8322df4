-- What tasks owe under redo.
use Rattle.task_attempts.proofs.Names.{ℕ, List, sym, subst, inl, inr, ⊎_elim, arith, World, world_after, fram_after, EachStore, Inputs, InputsAreWords}
use Rattle.task_attempts.proofs.Names.{CopyPair, behaviour, started, MemoryMap, CheckedProgram, redo_model, task_program}
use Rattle.task_attempts.proofs.Names.{AttemptsStore, each_store-append, State, task_entries, privates_in, world_fram, each_weaker, numbered_starts}
use Rattle.task_attempts.proofs.Names.{blocks_agree}
use Rattle.task_attempts.proofs.Names.{program_places, state_view, program_parts, IsBelowCode, word_place, CurrentTask, Redo}
use Rattle.task_attempts.proofs.Names.{◌≡◌, ◌++◌, true, ap, ◌∙◌, Gate}
use Rattle.runtime_effects.specs.Stages.{start_effects}
use Rattle.memory_map.specs.declared.runtime.Role.TheVariants.{Alone}
use Rattle.stands_for.specs.StandsFor.{StartedAt}
use Rattle.stands_for.specs.Program.{StartContract, TasksContract, IsStartStore}
use Rattle.compiled_model.specs.Needs.{StoresBelow}
use Rattle.machine_effects.specs.Inputs.{Look}
use Rattle.event_rules.specs.Taking.{Taking, Before, Open, Advances, FollowsSeeing, ScriptsTakeInOrder}
use Rattle.event_rules.proofs.Interface.{looks_after, left_behind, joined}
use Rattle.task_needs.specs.Lists.{ListsAtEnd}
use Rattle.task_attempts.proofs.Given.{IsGiven}
use Rattle.task_attempts.proofs.Quiet.{quiet_through}
use Rattle.task_attempts.proofs.Started.{Started, redo_run, scene, attempt_at}
use Rattle.task_attempts.proofs.RedoStarts.{redo_stands}
use Rattle.task_attempts.proofs.Leaving.{before}
use Rattle.task_attempts.proofs.Decided.{quiet_start, quiet_of, quiet_before, lists_within, decided}
use Rattle.task_attempts.proofs.Contracts.{Keeps, program_keeps, program_stores, program_ends, program_in_order}
use Rattle.task_attempts.proofs.Runtime.{start_in_order, commit_in_order}

pub redo_keeps : (st : Started) → Keeps Redo Alone (redo_run st)
redo_keeps st =
    let here = scene (redo_run st) in
    record {
      stands = redo_stands st;
      throughout = λ es did words. quiet_through here.sites here.view st.state here.ver es st.world (quiet_of st es did words) (quiet_start st);
      until = λ t. quiet_through here.sites here.view st.state here.ver (before (redo_run st) t) st.world (quiet_before st t) (quiet_start st);
      decided = decided st;
    }

module _ (p : CheckedProgram) (l : MemoryMap) (g : IsGiven p l) where
  abbrev pub privates : ℕ → List CopyPair
  privates = privates_in (task_entries l)

  pub start : StartContract (program_places p l) (state_view p l) privates (start_effects l privates)
  start = numbered_starts State (program_places p l) (state_view p l) privates g.source.apart g.privates

  pub keeps : TasksContract (program_places p l) (state_view p l) privates (program_parts p l)
  keeps s x inputs small st =
      let a = attempt_at p l g s x inputs st in program_keeps Redo Alone (redo_run a) (redo_keeps a) blocks_agree small

  pub stores : AttemptsStore (redo_model p l) (IsBelowCode l)
  stores s x inputs small u =
      let es = (program_parts p l).start x.fram in
      let apart = g.source.apart in
      let code = g.source.code in
      let a = attempt_at p l g s (world_after es x) inputs (start.started s x u) in
      let task = program_stores Redo Alone (redo_run a) (redo_keeps a) blocks_agree small in
      each_store-append (IsBelowCode l) es ((program_parts p l).body (x.fram (word_place l CurrentTask)) (fram_after es x.fram) inputs).effects
      (each_weaker (IsStartStore (program_places p l)) (IsBelowCode l) (λ a w k. record {
        from = let low = k.from in omega (arith, apart, low);
        below = ⊎_elim {C = StoresBelow l l.boot.address a w} (λ low. inl (omega (arith, apart, low, code))) (λ counter. inr counter) k.below;
        list = λ e. let none = k.list_length e in omega (arith, none);
        emits = λ e. let none = k.emit_count e in omega (arith, none);
      }) es (start.stores x.fram))
      (subst (λ k. EachStore (IsBelowCode l) ((program_parts p l).body k (fram_after es x.fram) inputs).effects) (sym u.is_open.current_task)
      (subst (λ f. EachStore (IsBelowCode l) ((program_parts p l).body s.task f inputs).effects) (world_fram es x) task))

  -- where it takes events, words of the ring in order
  pub in_order : l.runtime.events ≡ true → ScriptsTakeInOrder (redo_model p l)
  in_order on = record {
    gate = let apart = g.source.apart in omega (arith, apart);
    recoveries = λ s x u. tt;
    attempts = λ s x inputs small u. attempt_in_order s x inputs small u;
    commits = λ to x inputs committing. commit_in_order (program_places p l) g.source.apart on x inputs.looks committing.pending;
  }
    where
      attempt_in_order : (s : State) (x : World) (inputs : Inputs) → InputsAreWords inputs → (redo_model p l).Settled s x
          → let q = (redo_model p l).attempt x.fram inputs in
          (u : Taking) × FollowsSeeing (Advances (word_place l Gate)) x.fram inputs.looks Before q.effects u × (q.ends ≡ true → u ≡ Before)
      attempt_in_order s x inputs small u =
          let es = (program_parts p l).start x.fram in
          let zero = u.is_open.gate in
          let begins = start_in_order (program_places p l) g.source.apart on privates g.privates x.fram inputs.looks (λ e. omega (arith, zero, e)) in
          let y = world_after es x in
          let a = attempt_at p l g s y inputs (start.started s x u) in
          let task = program_in_order Redo Alone (redo_run a) (redo_keeps a) blocks_agree small on in
          let same : x.fram (word_place l CurrentTask) ≡ s.task = u.is_open.current_task in
          let P : ℕ → (ℕ → ℕ) → Type 0 = λ k f. let r = (program_parts p l).body k f inputs in
          (v : Taking) × FollowsSeeing (Advances (word_place l Gate)) f inputs.looks Open r.effects v × (r.ends ≡ true → v ≡ Before) in
          let there = subst (λ k. P k (fram_after es x.fram)) (sym same) (subst (λ f. P s.task f) (world_fram es x) task) in
          let quiet : looks_after es inputs.looks ≡ inputs.looks =
          ap (λ ls. looks_after es (ls ++ inputs.looks)) (sym (ap (λ i. i.looks) (start.takes_none x.fram))) ∙ left_behind es inputs.looks in
          let rest = (program_parts p l).body (x.fram (word_place l CurrentTask)) (fram_after es x.fram) inputs in
          let Q : List Look → Type 0 = λ ls. FollowsSeeing (Advances (word_place l Gate)) (fram_after es x.fram) ls Open rest.effects there.0 in
          (there.0, joined (Advances (word_place l Gate)) begins (subst Q (sym quiet) there.1), there.2)

  -- where a task leaves, its list is within what it needs cycles for
  pub lists : (s : State) (x : World) (inputs : Inputs) (small : InputsAreWords inputs) → StartedAt (program_places p l) (state_view p l) s (privates s.task) x
      → let b = behaviour (task_program p l s.task) (started x.fram inputs) in ListsAtEnd p l s.task (fram_after b.effects x.fram) b.end
  lists s x inputs small st =
      let a = attempt_at p l g s x inputs st in
      program_ends Redo Alone (redo_run a) (redo_keeps a) (λ f e. ListsAtEnd p l s.task f e) (λ t. lists_within a t) (λ es. tt) blocks_agree small
