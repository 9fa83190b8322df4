-- The laws of what a world stands for.
use Rattle.std.proofs.Common.{◌≡◌, ℕ, ◌+◌, ◌*◌, ◌<◌, ◌≤◌, ◌==◌, ⊎_elim, inl, inr, Bool, if◌then◌else◌, List, [], ◌∷◌, ◌++◌}
use Rattle.std.proofs.Common.{sym, ap, ◌∙◌, subst, arith, take, drop, append_assoc, eq-eqb, ne_eqb}
use Rattle.std.proofs.lemmas.Bool.{cases_eq}
use Rattle.std.proofs.lemmas.List.{take-append-drop}
use Rattle.memory_map.specs.Laws.{AreApart}
use Rattle.memory_map.specs.MemoryMap.{word_place}
use Rattle.memory_map.specs.event_places.Places.{answer_place}
use Rattle.memory_map.specs.declared.words.RuntimeWord.TheVariants.{Gate, Version}
use Rattle.fram_board.specs.Effects.{Store}
use Rattle.machine_effects.specs.World.{World, put, world_after_one, world_after, fram_after, EachStore}
use Rattle.machine_effects.proofs.Interface.{put_other}
use Rattle.undo_effects.specs.Entries.{Logged, logged, IsLogged}
use Rattle.undo_effects.specs.Stages.{word_logged, element_stored}
use Rattle.undo_effects.proofs.Interface.{undone_other, undone_at, is_logged_last}
use Rattle.crash_rules.specs.Model.{HoldsThroughout, IsElsewhere, behind_effects, Inputs, InputsAreWords, AttemptContract, IsBetween}
use Rattle.crash_rules.proofs.Interface.{holds_both, world_fram, holds-append, in_front}
use Rattle.stands_for.specs.Layout.{ProgramPlaces, StateView, IsSharedWord, HaveRoom}
use Rattle.stands_for.specs.StandsFor.{VersionsWithin}
use Rattle.stands_for.specs.Program.{ProgramParts, attempt_effects}
use Rattle.stands_for.proofs.Interface.{put_either, each_weaker, none_answered}
use Rattle.undo_states.specs.States.{list_length, restored, UndoneAt, SettledAt, ClosesFrom, ClosesTo}
use Rattle.undo_states.specs.Program.{undo_model, IsLoggingStore, LoggingContract, LoggedTasksContract, UndoKeepsTheLaws, LoggingStarts, CanStore}
use Rattle.undo_states.specs.Program.{ElementStoresStay, SharedStoresStay}
use Rattle.undo_states.proofs.Steps.{at_end}
use Rattle.undo_states.proofs.Undecided.{IsBeside, list_within, beside_keeps, beside_entries, over_keeps, in_place_keeps, logs, logs_leave}
use Rattle.undo_states.proofs.Opening.{settled_stands, none_logged}
use Rattle.undo_states.proofs.Starts.{logging_start}
use Rattle.undo_states.proofs.Recovery.{recovery_keeps}
use Rattle.undo_states.proofs.Commits.{kept, commit_keeps}

module _ {St : Type 0} (l : ProgramPlaces) (apart : AreApart l.map) (v : StateView St) where
  -- a word that isn't shared is there as it is with the entries put back
  stands_there : (s : St) (x : World) (a : ℕ) → UndoneAt l v s x → (IsSharedWord l a → ⊥) → x.fram a ≡ (restored l x).fram a
  stands_there s x a u none = sym (undone_other (logged l.map x.fram) x.fram a (λ h. none (u.shared a h)))

  -- an attempt keeps its contract
  module _ (privates : ℕ → List ℕ) (p : ProgramParts St) (start : LoggingContract l v privates p.start) (tasks : LoggedTasksContract l v privates p) where
    attempts : (s : St) (x : World) (inputs : Inputs) → InputsAreWords inputs → SettledAt l v s x
        → AttemptContract (undo_model l v p) s inputs x (attempt_effects l p x.fram inputs)
    attempts s x inputs words u =
        let m = undo_model l v p in
        let st = p.start x.fram in
        let y = world_after st x in
        let stores = start.stores s x u in
        let gate : EachStore (IsElsewhere (word_place l.map Gate)) st =
        each_weaker (IsLoggingStore l) (IsElsewhere (word_place l.map Gate)) (λ a w k e. let from = k.from in omega (arith, from, e)) st stores in
        let answers : EachStore (IsElsewhere answer_place) st =
        each_weaker (IsLoggingStore l) (IsElsewhere answer_place) (λ a w k. k.answer) st stores in
        let k = in_front m s x inputs st (p.body (v.task s) y.fram inputs)
        (record {
          takes_none = start.takes_none x.fram;
          answers_none = none_answered l.map st answers;
          elsewhere = gate;
          undecided = start.undecided s x u;
        })
        (tasks s y inputs words (start.started s x u)) in
        let k2 : AttemptContract m s inputs x (behind_effects st (p.body (v.task s) (fram_after st x.fram) inputs)) =
        subst (λ f. AttemptContract m s inputs x (behind_effects st (p.body (v.task s) f inputs))) (world_fram st x) k in
        subst (λ t. AttemptContract m s inputs x (behind_effects st (p.body t (fram_after st x.fram) inputs)))
        (sym (settled_stands l v s x u).is_open.current_task) k2

-- a decided world's accepted words
between : {St : Type 0} (l : ProgramPlaces) (v : StateView St) (s next : St) (x : World) → ClosesFrom l v s next x
    → IsBetween (v.emitted s) (v.emitted next) x.accepted
between l v s next x d =
    let sends = d.closes.sends in
    record {
      sent = take sends.accepted.count d.emits;
      unsent = drop sends.accepted.count d.emits;
      accepted_is = sends.accepted.is;
      to_is = sends.emitted ∙ ap (λ es. v.emitted s ++ es) (sym (take-append-drop sends.accepted.count d.emits));
    }

-- from a start and tasks that keep their contracts, all that the crash theorem asks of a source
pub undo_keeps_the_laws : (St : Type 0) → UndoKeepsTheLaws St
undo_keeps_the_laws St l v privates p apart room start tasks =
    record {
      rests_settled = λ s x r. record {
        undecided = none_logged l v s x (record { is_open = r.rests.is_open; shared = λ a h. inr (r.rests.shared a h) }) r.none;
        none = r.none;
      };
      rests_words = λ s x r. r.rests.is_open.accepted;
      settled_undecided = λ s x u. u.undecided;
      undecided_gate = λ s x u. stands_there l apart v s x (word_place l.map Gate) u (λ h. omega (arith, apart, h)) ∙ u.behind.is_open.gate;
      undecided_task = λ s x u. u.behind.is_open.is_task;
      undecided_words = λ s x u. u.behind.is_open.accepted;
      decided_task = λ s next x d. d.closes.sends.is_task;
      decided_words = between l v;
      decided_commits = λ s next x d inputs. commit_keeps l apart room v s next x inputs d p (ClosesFrom l v s next) (kept l apart room v s next x inputs d);
      decided_committing = λ s next x d. record { from = s; decided = d };
      committing_gate = λ to x d. d.decided.closes.sends.gate;
      committing_words = λ to x d.
          let b = between l v d.from to x d.decided in
          record {
            sent = v.emitted d.from ++ b.sent;
            unsent = b.unsent;
            accepted_is = b.accepted_is;
            to_is = b.to_is ∙ sym (append_assoc (v.emitted d.from) b.sent b.unsent);
          };
      commits = λ to x inputs d.
          let k = kept l apart room v d.from to x inputs d.decided in
          commit_keeps l apart room v d.from to x inputs d.decided p (ClosesTo l v to)
          (holds_both (ClosesFrom l v d.from to) (ClosesFrom l v d.from to) (ClosesTo l v to) (λ y a b. record { from = d.from; decided = a }) _ x k k);
      recovers = λ s x u. recovery_keeps l apart room v s p x u;
      attempts = attempts l apart v privates p start tasks;
    }

-- the start that logs the words of private scalars keeps its contract
pub logging_starts : (St : Type 0) → LoggingStarts St
logging_starts St l v privates apart room laid = logging_start l apart room v privates laid

-- a store to a shared word that is logged, or written in place
pub shared_stores_stay : (St : Type 0) → SharedStoresStay St
shared_stores_stay St l v s x a w apart room u sh either small =
    let es = logged l.map x.fram in
    let Stays = UndoneAt l v s (world_after_one (Store a w) x) in
    let over : IsLogged es a → Stays = λ h. over_keeps l apart v s room x a w small h u in (
      u,
      ⊎_elim {C = Stays} over (λ place. ⊎_elim {C = Stays} (λ k. over k.0) (λ k. in_place_keeps l apart v s room x a w small sh place k.0 u) (undone_at es a))
          either,
    )

-- a store to an element
module _ {St : Type 0} (l : ProgramPlaces) (apart : AreApart l.map) (room : HaveRoom l) (v : StateView St) (s : St) (element version w : ℕ)
    (small : w < 0x10000) where
  -- one to a logged element
  later : (x : World) → UndoneAt l v s x → IsLogged (logged l.map x.fram) element → HoldsThroughout (UndoneAt l v s) (Store element w ∷ []) x
  later x u h = (u, over_keeps l apart v s room x element w small h u)

  -- VER goes to the version word, and the element is stored
  module _ (x : World) (u : UndoneAt l v s x) (k : CanStore l v s element version x) (free : list_length l x < l.list_capacity (v.task s)) where
    abbrev f : ℕ → ℕ
    f = x.fram

    abbrev ver : ℕ
    ver = f (word_place l.map Version)

    abbrev y : World
    y = world_after (word_logged l.map element f) x

    abbrev entry : Logged
    entry = record { address = element; word = f element }

    undecided : UndoneAt l v s y
    undecided = at_end (UndoneAt l v s) (UndoneAt l v s) (λ y k. k) (word_logged l.map element f) x (logs l apart v s room x element u k.is_shared free).through

    -- VER stays
    ver_there : y.fram (word_place l.map Version) ≡ ver
    ver_there = logs_leave l apart v s room x element u k.is_shared free (word_place l.map Version) (λ q. omega (arith, q)) (inl (omega (arith, apart)))

    version_beside : IsBeside l apart v s y version
    version_beside =
        let is = k.version_is in let lt = k.index_below in
        let few = list_within l apart v s room y undecided in
        record {
          leaves = record {
            current = λ q. omega (arith, apart, is, q);
            gate = λ q. omega (arith, apart, is, q);
            base = λ q. omega (arith, apart, is, q);
            shared = λ h. absurd (omega (arith, apart, is, lt, h));
          };
          length = λ q. omega (arith, apart, is, q);
          list = inr (omega (arith, apart, is, few));
          unlogged = λ h. let sh = undecided.shared version h in omega (arith, apart, is, lt, sh);
        }

    versions_within : VersionsWithin l (put (restored l y).fram version ver)
    versions_within i lt =
        let is = k.version_is in
        let g = (restored l y).fram in
        let before = undecided.behind.is_open.versions i lt in
        let top : put g version ver (word_place l.map Version) ≡ ver =
        put_other g version ver (word_place l.map Version) (λ q. omega (arith, apart, is, q))
        ∙ sym (stands_there l apart v s y (word_place l.map Version) undecided (λ h. omega (arith, apart, h))) ∙ ver_there in
        let top_before : g (word_place l.map Version) ≡ ver =
        sym (stands_there l apart v s y (word_place l.map Version) undecided (λ h. omega (arith, apart, h))) ∙ ver_there in
        ⊎_elim {C = put g version ver (l.map.versions.address + 2 * i) ≤ put g version ver (word_place l.map Version)}
        (λ q. let e = q.1 in omega (arith, e, top)) (λ q. let e = q.1 in omega (arith, e, top, before, top_before))
        (put_either g version ver (l.map.versions.address + 2 * i))

    abbrev z : World
    z = world_after_one (Store version ver) y

    marked : UndoneAt l v s z
    marked = beside_keeps l apart v s y version ver (u.words (word_place l.map Version)) version_beside versions_within undecided

    listed_there : IsLogged (logged l.map z.fram) element
    listed_there =
        let entries = (logs l apart v s room x element u k.is_shared free).entries in
        subst (λ es. IsLogged es element)
        (sym (beside_entries l apart v s y version ver version_beside ∙ entries))
        (is_logged_last (logged l.map f) entry)

    first : HoldsThroughout (UndoneAt l v s) ((word_logged l.map element f ++ (Store version ver ∷ [])) ++ (Store element w ∷ [])) x
    first =
        let front = word_logged l.map element f ++ (Store version ver ∷ []) in
        holds-append (UndoneAt l v s) front (Store element w ∷ []) x
        (holds-append (UndoneAt l v s) (word_logged l.map element f) (Store version ver ∷ []) x
        (logs l apart v s room x element u k.is_shared free).through (undecided, marked))
        (later z marked listed_there)

  stays : (x : World) → UndoneAt l v s x → CanStore l v s element version x → HoldsThroughout (UndoneAt l v s) (element_stored l.map element version w x.fram) x
  stays x u k =
      let f = x.fram in
      let ver = f (word_place l.map Version) in
      let Stays : Bool → Type 0 = λ b.
      HoldsThroughout (UndoneAt l v s) ((if b then [] else word_logged l.map element f ++ (Store version ver ∷ [])) ++ (Store element w ∷ [])) x in
      ⊎_elim {C = Stays (f version == ver)} (λ e. subst Stays (sym (eq-eqb (f version) ver e)) (later x u (k.later e)))
      (λ n. subst Stays (sym (ne_eqb (f version) ver n)) (first x u k (k.first n))) (cases_eq (f version) ver)

pub element_stores_stay : (St : Type 0) → ElementStoresStay St
element_stores_stay St l v s x element version w apart room u k small = stays l apart room v s element version w small x u k
