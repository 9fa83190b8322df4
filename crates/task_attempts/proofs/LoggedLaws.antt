-- What tasks owe under undo.
use Rattle.task_attempts.proofs.Names.{ℕ, List, sym, subst, inl, inr, ⊎_elim, arith, World, world_after, fram_after, EachStore, Inputs, InputsAreWords}
use Rattle.task_attempts.proofs.Names.{◌≡◌, ◌≤◌, ◌++◌, length, true, ap, ◌∙◌, Gate, MemoryMap, CheckedProgram, AttemptsStore, each_store-append, State}
use Rattle.task_attempts.proofs.Names.{world_fram}
use Rattle.task_attempts.proofs.Names.{each_weaker, blocks_agree, program_places, state_view, program_parts, IsBelowCode, word_place, CurrentTask, ListLength}
use Rattle.task_attempts.proofs.Names.{EmitCount, Undo}
use Rattle.memory_map.specs.declared.runtime.Role.TheVariants.{Alone}
use Rattle.compiled_model.specs.Needs.{StoresBelow}
use Rattle.compiled_model.specs.Parts.{private_homes, logged_parts, logged_model}
use Rattle.machine_effects.specs.Inputs.{Look}
use Rattle.undo_effects.specs.Stages.{undo_start}
use Rattle.undo_states.specs.Program.{LoggingContract, LoggedTasksContract, IsLoggingStore}
use Rattle.undo_states.proofs.Interface.{logging_starts, settled_stands}
use Rattle.event_rules.specs.Taking.{Taking, Before, Open, Advances, FollowsSeeing, ScriptsTakeInOrder}
use Rattle.event_rules.proofs.Interface.{looks_after, left_behind, joined}
use Rattle.task_attempts.proofs.Given.{IsLoggedGiven}
use Rattle.task_attempts.proofs.Started.{Logged, undo_run, logged_at}
use Rattle.task_attempts.proofs.LoggedStarts.{undo_stands}
use Rattle.task_attempts.proofs.LoggedDecided.{throughout, until, decided}
use Rattle.task_attempts.proofs.Contracts.{Keeps, program_keeps, program_stores, program_in_order}
use Rattle.task_attempts.proofs.LoggedRuntime.{each_both, start_zero, stores_within, recovery_off, logging_in_order, closing_in_order}

pub logged_keeps : (st : Logged) → Keeps Undo Alone (undo_run st)
logged_keeps st = record { stands = undo_stands st; throughout = throughout st; until = until st; decided = decided st }

module _ (p : CheckedProgram) (l : MemoryMap) (g : IsLoggedGiven p l) where
  pub start : LoggingContract (program_places p l) (state_view p l) (private_homes l) (undo_start l (private_homes l))
  start = logging_starts State (program_places p l) (state_view p l) (private_homes l) g.source.apart g.source.room g.privates

  pub keeps : LoggedTasksContract (program_places p l) (state_view p l) (private_homes l) (logged_parts p l)
  keeps s x inputs small st =
      let a = logged_at p l g s x inputs st in program_keeps Undo Alone (undo_run a) (logged_keeps a) blocks_agree small

  -- an attempt stores before the code
  pub stores : AttemptsStore (logged_model p l) (IsBelowCode l)
  stores s x inputs small u =
      let sites = program_places p l in
      let es = undo_start l (private_homes l) x.fram in
      let apart = g.source.apart in
      let code = g.source.code in
      let stands = settled_stands sites (state_view p l) s x u in
      let list = g.source.room.list s.task stands.is_open.is_task in
      let Counts : ℕ → ℕ → Type 0 = λ a w. a ≡ word_place l ListLength → w ≤ sites.list_capacity s.task in
      let Emits : ℕ → ℕ → Type 0 = λ a w. a ≡ word_place l EmitCount → w ≡ 0 in
      let both = each_both Counts Emits es (stores_within sites apart (state_view p l) s es x (start.undecided s x u))
      (start_zero sites apart (private_homes l) x.fram) in
      let all = each_both (IsLoggingStore sites) (λ a w. Counts a w × Emits a w) es (start.stores s x u) both in
      let a = logged_at p l g s (world_after es x) inputs (start.started s x u) in
      let task = program_stores Undo Alone (undo_run a) (logged_keeps a) blocks_agree small in
      each_store-append (IsBelowCode l) es ((program_parts p l).body (x.fram (word_place l CurrentTask)) (fram_after es x.fram) inputs).effects
      (each_weaker (λ a w. IsLoggingStore sites a w × (Counts a w × Emits a w)) (IsBelowCode l) (λ a w k. record {
        from = let low = k.0.from in omega (arith, apart, low);
        below = ⊎_elim {C = StoresBelow l l.boot.address a w} (λ low. inl (omega (arith, apart, low, code))) (λ counter. inr counter) k.0.below;
        list = λ e. let few = k.1.0 e in omega (arith, few, list);
        emits = λ e. let none = k.1.1 e in omega (arith, none);
      }) es all)
      (subst (λ k. EachStore (IsBelowCode l) ((program_parts p l).body k (fram_after es x.fram) inputs).effects) (sym stands.is_open.current_task)
      (subst (λ f. EachStore (IsBelowCode l) ((program_parts p l).body s.task f inputs).effects) (world_fram es x) task))

  -- where it takes events, words of the ring in order
  pub in_order : l.runtime.events ≡ true → ScriptsTakeInOrder (logged_model p l)
  in_order on = record {
    gate = let apart = g.source.apart in omega (arith, apart);
    recoveries = λ s x u. recovery_off (program_places p l) g.source.apart (state_view p l) s x u;
    attempts = λ s x inputs small u. attempt_in_order s x inputs small u;
    commits = λ to x inputs closes. closing_in_order (program_places p l) g.source.apart on (state_view p l) to x inputs.looks closes;
  }
    where
      attempt_in_order : (s : State) (x : World) (inputs : Inputs) → InputsAreWords inputs → (logged_model p l).Settled s x
          → let q = (logged_model p l).attempt x.fram inputs in
          (u : Taking) × FollowsSeeing (Advances (word_place l Gate)) x.fram inputs.looks Before q.effects u × (q.ends ≡ true → u ≡ Before)
      attempt_in_order s x inputs small u =
          let sites = program_places p l in
          let es = undo_start l (private_homes l) x.fram in
          let stands = settled_stands sites (state_view p l) s x u in
          let zero = stands.is_open.gate in
          let same : x.fram (word_place l CurrentTask) ≡ s.task = stands.is_open.current_task in
          let none = u.none in
          let few = (g.privates s.task).few in
          let room = g.source.room.list s.task stands.is_open.is_task in
          let own = ap (λ k. length (private_homes l k)) same in
          let begins = logging_in_order sites g.source.apart on (private_homes l) x.fram inputs.looks (λ e. omega (arith, zero, e))
          (omega (arith, none, few, room, own)) in
          let y = world_after es x in
          let a = logged_at p l g s y inputs (start.started s x u) in
          let task = program_in_order Undo Alone (undo_run a) (logged_keeps a) blocks_agree small on in
          let P : ℕ → (ℕ → ℕ) → Type 0 = λ k f. let r = (program_parts p l).body k f inputs in
          (v : Taking) × FollowsSeeing (Advances (word_place l Gate)) f inputs.looks Open r.effects v × (r.ends ≡ true → v ≡ Before) in
          let there = subst (λ k. P k (fram_after es x.fram)) (sym same) (subst (λ f. P s.task f) (world_fram es x) task) in
          let quiet : looks_after es inputs.looks ≡ inputs.looks =
          ap (λ ls. looks_after es (ls ++ inputs.looks)) (sym (ap (λ i. i.looks) (start.takes_none x.fram))) ∙ left_behind es inputs.looks in
          let rest = (program_parts p l).body (x.fram (word_place l CurrentTask)) (fram_after es x.fram) inputs in
          let Q : List Look → Type 0 = λ ls. FollowsSeeing (Advances (word_place l Gate)) (fram_after es x.fram) ls Open rest.effects there.0 in
          (there.0, joined (Advances (word_place l Gate)) begins (subst Q (sym quiet) there.1), there.2)
