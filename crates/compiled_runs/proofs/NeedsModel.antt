-- A source with its tasks' needs as their costs keeps what the crash theorem asks of a model. Under redo its commit list is within the task's where an attempt
-- decides, and the commit leaves the list as it is; under undo nothing is asked of the list.
use Rattle.std.proofs.Common.{◌≡◌, ◌≢◌, ◌<◌, ◌≤◌, ◌⊎◌, inl, inr, ⊎_elim, ℕ, true, List, [], ◌∷◌, length, refl, sym, ap, ◌∙◌, subst, arith}
use Rattle.fram_board.specs.Effects.{Effect, Store, Take, Outside}
use Rattle.machine_effects.specs.World.{World, fram_after, world_after, world_after_one, EachStore}
use Rattle.machine_effects.specs.Inputs.{Inputs, InputsAreWords}
use Rattle.machine_effects.proofs.Interface.{fram_after-append, each_store-front, put_other}
use Rattle.crash_rules.proofs.Interface.{world_fram, holds_both}
use Rattle.source_values.specs.Runs.{CheckedProgram, State}
use Rattle.array_versions.specs.Behaviour.{Behaviour, End, GoesOn, Jumps, Gives, Short as Starving, Strays, Broken, behaviour, started}
use Rattle.memory_map.specs.declared.runtime.Logging.{Logging}
use Rattle.memory_map.specs.declared.runtime.Logging.TheVariants.{Redo, Undo}
use Rattle.memory_map.specs.declared.runtime.Role.{Role}
use Rattle.memory_map.specs.declared.words.RuntimeWord.TheVariants.{CurrentTask, Gate, ListLength}
use Rattle.memory_map.specs.MemoryMap.{MemoryMap, word_place}
use Rattle.runtime_effects.specs.Places.{CopyPair, entries_from, listed}
use Rattle.runtime_effects.specs.Stages.{start_effects, commit_effects}
use Rattle.runtime_effects.proofs.Interface.{entries_alike}
use Rattle.boot_runtime.specs.Entries.{task_entries}
use Rattle.boot_runtime.specs.Listing.{privates_in}
use Rattle.crash_rules.specs.Model.{Model, ModelLaws, ProgramEffects, HoldsThroughout, AttemptContract, Comes as Decides, Lacks, CommitKeeps}
use Rattle.stands_for.specs.StandsFor.{StartedAt, IsPendingCommit}
use Rattle.stands_for.proofs.Interface.{numbered_starts, commit_stores_all}
use Rattle.compiled_model.specs.Places.{program_places}
use Rattle.compiled_model.specs.View.{state_view}
use Rattle.compiled_model.specs.Parts.{has_jumped, task_program, redo_model, logged_model, compiled_model, started_under}
use Rattle.compiled_model.proofs.Interface.{either_logging, is_redo, is_logged, under_map}
use Rattle.task_needs.specs.Needs.{own_entries, own_words}
use Rattle.task_needs.specs.Lists.{ListsWithin, ListsAtEnd, TasksListFew, DecidedWithin, with_needs}
use Rattle.compiled_runs.specs.Laws.{CanRun, NeedsKeepTheLaws}
use Rattle.compiled_runs.proofs.Costs.{by_redo, decided_fram}

-- where a program jumps
by_end : (p : CheckedProgram) (l : MemoryMap) (t : ℕ) (f : ℕ → ℕ) (e : End) → has_jumped e ≡ true → ListsAtEnd p l t f e → ListsWithin p l t f
by_end p l t f (Jumps to w) h k = k
by_end p l t f (GoesOn w) h k = absurd (cc h)
by_end p l t f (Gives v w) h k = absurd (cc h)
by_end p l t f Starving h k = absurd (cc h)
by_end p l t f Strays h k = absurd (cc h)
by_end p l t f Broken h k = absurd (cc h)

-- what holds throughout, and follows from that
weaker : (P Q : World → Type 0) → ((y : World) → P y → Q y) → (es : List Effect) (x : World) → HoldsThroughout P es x → HoldsThroughout Q es x
weaker P Q f [] x h = f x h
weaker P Q f (e ∷ es) x h = (f x h.0, weaker P Q f es (world_after_one e x) h.1)

-- what always holds holds throughout
always : (P : World → Type 0) → ((y : World) → P y) → (es : List Effect) (x : World) → HoldsThroughout P es x
always P holds [] x = holds x
always P holds (e ∷ es) x = (holds x, always P holds es (world_after_one e x))

-- ---- any model of the source

-- from its laws those of the model with the needs, where under redo each attempt that ends and each step of a commit lists what the task may
module _ (p : CheckedProgram) (l : MemoryMap) (m : Model State) (tasks : m.tasks ≡ length p.tasks) where
  abbrev n : Model State
  n = with_needs p l m

  -- under redo the list of a world is within a task's
  abbrev pub Within : ℕ → World → Type 0
  Within t x = l.runtime.logging ≡ Redo → ListsWithin p l t x.fram

  abbrev pub AttemptsListFew : Type 0
  AttemptsListFew = (s : State) (x : World) (inputs : Inputs) → InputsAreWords inputs → m.Settled s x → let q = m.attempt x.fram inputs in
      q.ends ≡ true → l.runtime.logging ≡ Redo → ListsWithin p l s.task (fram_after q.effects x.fram)

  abbrev pub CommitsKeepLists : Type 0
  CommitsKeepLists = (s next : State) (x : World) (inputs : Inputs) → (d : DecidedWithin m p l s next x)
      → (k : CommitKeeps m (m.Decided s next) next inputs x) → HoldsThroughout (Within s.task) k.before x

  attempt_by : (s : State) (x : World) (inputs : Inputs) (q : ProgramEffects) → AttemptContract m s inputs x q
      → (q.ends ≡ true → l.runtime.logging ≡ Redo → ListsWithin p l s.task (fram_after q.effects x.fram)) → AttemptContract n s inputs x q
  attempt_by s x inputs q (Decides next d) lists = Decides next (record {
    before = d.before;
    left = d.left;
    is = d.is;
    elsewhere = d.elsewhere;
    reads = d.reads;
    undecided = d.undecided;
    decided = record {
      decided = d.decided;
      lists = λ redo. subst (ListsWithin p l s.task) (sym (decided_fram m s next inputs x q d)) (lists (ap (λ e. e.ends) d.is) redo);
    };
    exact = d.exact;
  })
  attempt_by s x inputs q (Lacks d) lists =
      Lacks (record { is = d.is; elsewhere = d.elsewhere; undecided = d.undecided; short = d.short })

  commit_by : CommitsKeepLists → (s next : State) (x : World) (inputs : Inputs) → DecidedWithin m p l s next x
      → CommitKeeps m (m.Decided s next) next inputs x → CommitKeeps n (DecidedWithin m p l s next) next inputs x
  commit_by keep s next x inputs d k = record {
    before = k.before;
    is = k.is;
    elsewhere = k.elsewhere;
    takes_none = k.takes_none;
    kept = holds_both (m.Decided s next) (Within s.task) (DecidedWithin m p l s next) (λ y e few. record { decided = e; lists = few }) k.before x k.kept
        (keep s next x inputs d k);
    rests = k.rests;
  }

  with_needs_laws : AttemptsListFew → CommitsKeepLists → ModelLaws m → ModelLaws n
  with_needs_laws few keep laws = record {
    rests_settled = laws.rests_settled;
    rests_words = laws.rests_words;
    settled_undecided = laws.settled_undecided;
    undecided_gate = laws.undecided_gate;
    undecided_task = λ s x u. let below = laws.undecided_task s x u in omega (arith, below, tasks);
    undecided_words = laws.undecided_words;
    decided_task = λ s next x d. let below = laws.decided_task s next x d.decided in omega (arith, below, tasks);
    decided_words = λ s next x d. laws.decided_words s next x d.decided;
    decided_commits = λ s next x d inputs. commit_by keep s next x inputs d (laws.decided_commits s next x d.decided inputs);
    decided_committing = λ s next x d. laws.decided_committing s next x d.decided;
    committing_gate = laws.committing_gate;
    committing_words = laws.committing_words;
    commits = λ to x inputs d.
        let k = laws.commits to x inputs d in
        record { before = k.before; is = k.is; elsewhere = k.elsewhere; takes_none = k.takes_none; kept = k.kept; rests = k.rests };
    recovers = λ s x u.
        let k = laws.recovers s x u in
        record {
          stays = record {
            takes_none = k.stays.takes_none;
            answers_none = k.stays.answers_none;
            elsewhere = k.stays.elsewhere;
            undecided = k.stays.undecided;
          };
          settled = k.settled;
        };
    attempts = λ s x inputs ready settled.
        attempt_by s x inputs (m.attempt x.fram inputs) (laws.attempts s x inputs ready settled) (few s x inputs ready settled);
  }

-- ---- under redo

module _ (p : CheckedProgram) (l : MemoryMap) (logs : l.runtime.logging ≡ Redo) (r : CanRun p l) where
  abbrev m : Model State
  m = redo_model p l

  abbrev privates : ℕ → List CopyPair
  privates = privates_in (task_entries l)

  -- ---- attempts

  -- where an attempt comes to its end its list is within the task's
  pub lists_there : TasksListFew p l → (s : State) (x : World) (inputs : Inputs) → InputsAreWords inputs → m.Undecided s x
      → let q = m.attempt x.fram inputs in q.ends ≡ true → ListsWithin p l s.task (fram_after q.effects x.fram)
  lists_there few s x inputs ready und ends =
      let k = x.fram (word_place l CurrentTask) in
      let es : List Effect = start_effects l privates x.fram in
      let g = fram_after es x.fram in
      let start : StartedAt (program_places p l) (state_view p l) s (privates s.task) (world_after es x) =
      (numbered_starts State (program_places p l) (state_view p l) privates r.apart (by_redo p l logs r).privates).started s x und in
      let P : Logging → Role → Type 0 = λ logging role. started_under logging p l s (world_after es x) in
      let At : ℕ → (ℕ → ℕ) → Type 0 = λ t h.
      let done = behaviour (task_program p l t) (started h inputs) in ListsAtEnd p l s.task (fram_after done.effects h) done.end in
      let at_end : At s.task (world_after es x).fram = few.few s (world_after es x) inputs ready (under_map l P logs start) in
      let there : At k g = subst (λ t. At t g) (sym und.is_open.current_task) (subst (At s.task) (world_fram es x) at_end) in
      let b : Behaviour = behaviour (task_program p l k) (started g inputs) in
      subst (ListsWithin p l s.task) (sym (fram_after-append es b.effects x.fram)) (by_end p l s.task (fram_after b.effects g) b.end ends there)

  -- ---- commits

  -- a store that leaves CLN and the commit list
  abbrev Off : ℕ → ℕ → Type 0
  Off a w = (a ≢ word_place l ListLength) × ((a < l.list.address) ⊎ (l.emits.address ≤ a))

  -- the same CLN and commit list
  abbrev SameList : World → World → Type 0
  SameList x y = (y.fram (word_place l ListLength) ≡ x.fram (word_place l ListLength))
      × ((a : ℕ) → l.list.address ≤ a → a < l.emits.address → y.fram a ≡ x.fram a)

  lists_alike : (t : ℕ) (x y : World) → x.fram (word_place l ListLength) ≤ l.entries → SameList x y → ListsWithin p l t x.fram → ListsWithin p l t y.fram
  lists_alike t x y room same k =
      let count = x.fram (word_place l ListLength) in
      let list = l.list.address in
      let apart = r.apart in
      let pairs : listed l y.fram ≡ listed l x.fram = ap (λ j. entries_from j list y.fram) same.0
      ∙ entries_alike count list x.fram y.fram (λ a from to. same.1 a from (omega (arith, to, room, apart))) in
      record {
        entries = subst (λ j. j ≤ own_entries p l t) (sym same.0) k.entries;
        words = subst (λ ps. length ps ≤ own_words p l t) (sym pairs) k.words;
      }

  store_keeps : (x y : World) (a w : ℕ) → Off a w → SameList x y → SameList x (world_after_one (Store a w) y)
  store_keeps x y a w off k = (
    put_other y.fram a w (word_place l ListLength) (λ e. off.0 (sym e)) ∙ k.0,
    λ b from to. put_other y.fram a w b (λ e. ⊎_elim {C = ⊥} (λ low. omega (arith, low, e, from)) (λ high. omega (arith, high, e, to)) off.1) ∙ k.1 b from to,
  )

  throughout : (x : World) (es : List Effect) (y : World) → EachStore Off es → SameList x y → HoldsThroughout (SameList x) es y
  throughout x [] y stores k = k
  throughout x (Store a w ∷ es) y stores k = (k, throughout x es (world_after_one (Store a w) y) stores.1 (store_keeps x y a w stores.0 k))
  throughout x (Take w ∷ es) y stores k = (k, throughout x es y stores.1 k)
  throughout x (Outside o ∷ es) y stores k = (k, throughout x es (world_after_one (Outside o) y) stores.1 k)

  commit_off : (x : World) → IsPendingCommit (program_places p l) x → EachStore Off (commit_effects l x.fram)
  commit_off x pending =
      let apart = r.apart in
      commit_stores_all (program_places p l) apart x pending Off (λ a w h. ((λ e. omega (arith, apart, h, e)), inr (omega (arith, apart, h))))
      (λ w on. ((λ e. omega (arith, apart, e)), inr (omega (arith, apart)))) (λ w. ((λ e. omega (arith, e)), inl (omega (arith, apart))))
      (λ w. ((λ e. omega (arith, e)), inl (omega (arith, apart)))) (λ w. ((λ e. omega (arith, e)), inl (omega (arith, apart))))

  commits_keep : ModelLaws m → CommitsKeepLists p l m refl
  commits_keep laws s next x inputs d k =
      let pending = (laws.decided_committing s next x d.decided).pending in
      let lists = d.lists logs in
      let front : EachStore Off k.before =
      each_store-front Off k.before (Store (word_place l Gate) 0 ∷ []) (subst (EachStore Off) k.is (commit_off x pending)) in
      weaker (SameList x) (Within p l m refl s.task) (λ y same redo. lists_alike s.task x y pending.list_length same lists) k.before x
      (throughout x k.before x front (refl, λ a from to. refl))

  redo_laws : TasksListFew p l → ModelLaws m → ModelLaws (with_needs p l m)
  redo_laws few laws =
      with_needs_laws p l m refl (λ s x inputs ready settled ends redo. lists_there few s x inputs ready settled ends) (commits_keep laws) laws

-- ---- under undo

-- no map logs by both
not_redo : (l : MemoryMap) → l.runtime.logging ≡ Undo → l.runtime.logging ≡ Redo → ⊥
not_redo l undo redo = absurd (cc (redo, undo))

undo_laws : (p : CheckedProgram) (l : MemoryMap) → l.runtime.logging ≡ Undo → ModelLaws (logged_model p l) → ModelLaws (with_needs p l (logged_model p l))
undo_laws p l logs laws =
    with_needs_laws p l (logged_model p l) refl (λ s x inputs ready settled ends redo. absurd (not_redo l logs redo))
    (λ s next x inputs d k. always (Within p l (logged_model p l) refl s.task) (λ y redo. absurd (not_redo l logs redo)) k.before x) laws

pub needs_keep_the_laws : NeedsKeepTheLaws
needs_keep_the_laws p l r few laws =
    let L : Model State → Type 0 = λ m. ModelLaws m in
    let P : Model State → Type 0 = λ m. ModelLaws (with_needs p l m) in
    ⊎_elim {C = P (compiled_model p l)}
    (λ logs. subst P (sym (is_redo p l logs)) (redo_laws p l logs r (few logs) (subst L (is_redo p l logs) laws)))
    (λ logs. subst P (sym (is_logged p l logs)) (undo_laws p l logs (subst L (is_logged p l logs) laws)))
    (either_logging l.runtime.logging)
