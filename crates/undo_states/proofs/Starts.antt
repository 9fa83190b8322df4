-- An attempt's start: its opening, then the words of the private scalars are logged.
use Rattle.std.proofs.Common.{◌≡◌, ℕ, ◌+◌, ◌*◌, ◌<◌, ◌≤◌, ⊎_elim, inl, inr, false, List, [], ◌∷◌, ◌++◌, length, map, refl, sym, ap, ◌∙◌, subst, arith}
use Rattle.std.proofs.Common.{append_assoc, append-nil, length-append}
use Rattle.std.specs.Prelude.{All}
use Rattle.std.proofs.lemmas.List.{map-append}
use Rattle.std.proofs.lemmas.List.Elements.{All-head, All-tail}
use Rattle.memory_map.specs.Laws.{AreApart}
use Rattle.memory_map.specs.MemoryMap.{word_place}
use Rattle.memory_map.specs.declared.words.RuntimeWord.TheVariants.{CurrentTask, EmitCount, Version}
use Rattle.fram_board.specs.Effects.{Effect}
use Rattle.machine_effects.specs.World.{World, world_after, fram_after, EachStore}
use Rattle.machine_effects.specs.Inputs.{inputs_taken, no_inputs}
use Rattle.machine_effects.proofs.Interface.{world_after-append, each_store-append, none_taken_through}
use Rattle.undo_effects.specs.Entries.{logged_from}
use Rattle.undo_effects.specs.Stages.{word_logged, words_logged, undo_opening, undo_start}
use Rattle.crash_rules.specs.Model.{HoldsThroughout}
use Rattle.crash_rules.proofs.Interface.{world_fram, holds-append}
use Rattle.stands_for.specs.Layout.{ProgramPlaces, StateView, IsSharedWord, HaveRoom}
use Rattle.stands_for.specs.Program.{IsStartStore}
use Rattle.stands_for.proofs.Interface.{each_weaker}
use Rattle.undo_states.specs.States.{list_length, UndoneAt, SettledAt, LoggingAt, AreLogged, entry_at}
use Rattle.undo_states.specs.Program.{IsLoggingStore, LoggingContract}
use Rattle.undo_states.proofs.Steps.{at_end}
use Rattle.undo_states.proofs.Undecided.{logs, logs_beside, logs_leave}
use Rattle.undo_states.proofs.Opening.{settled_stands, none_logged, opening_takes, opening_stores, opens}

-- words that are logged take nothing of what is ready
logged_takes : (l : ProgramPlaces) (privates : List ℕ) (f : ℕ → ℕ) → inputs_taken (words_logged l.map privates f) ≡ no_inputs
logged_takes l [] f = refl
logged_takes l (a ∷ rest) f =
    let es = word_logged l.map a f in
    none_taken_through es (words_logged l.map rest (fram_after es f)) refl (logged_takes l rest (fram_after es f))

module _ {St : Type 0} (l : ProgramPlaces) (apart : AreApart l.map) (room : HaveRoom l) (v : StateView St) (s : St) where
  -- a shared word that the task doesn't write in place
  abbrev IsPrivate : ℕ → Type 0
  IsPrivate a = IsSharedWord l a × (l.written_in_place (v.task s) a ≡ false)

  -- one word more is logged
  one_more : (done : List ℕ) (a : ℕ) (y : World) → length done < l.list_capacity (v.task s) → IsPrivate a → LoggingAt l v s done y
      → LoggingAt l v s (done ++ a ∷ []) (world_after (word_logged l.map a y.fram) y)
  one_more done a y few is d =
      let m = l.map in
      let sh = is.0 in
      let fixed = is.1 in
      let count = d.count in
      let free : list_length l y < l.list_capacity (v.task s) = omega (arith, count, few) in
      let k = logs l apart v s room y a d.undecided sh free in
      let word : y.fram a ≡ v.word s a = ⊎_elim {C = y.fram a ≡ v.word s a} (λ i. absurd (cc (i, fixed))) (λ e. e) (d.stands.shared a sh) in
      let stays = logs_leave l apart v s room y a d.undecided sh free in
      let lengths = length-append done (a ∷ []) in
      let more = k.count in
      record {
        undecided = at_end (UndoneAt l v s) (UndoneAt l v s) (λ y k. k) (word_logged m a y.fram) y k.through;
        stands = logs_beside l apart v s room y a d.undecided sh free d.stands;
        entries = k.entries ∙ ap (λ es. es ++ record { address = a; word = y.fram a } ∷ []) d.entries
            ∙ ap (λ w. map (entry_at v s) done ++ record { address = a; word = w } ∷ []) word ∙ sym (map-append (entry_at v s) done (a ∷ []));
        count = omega (arith, more, count, lengths);
        emit_count = stays (word_place m EmitCount) (λ q. omega (arith, q)) (inl (omega (arith, apart))) ∙ d.emit_count;
        versions = λ i h. let below = d.versions i h in
            let e = stays (m.versions.address + 2 * i) (λ q. omega (arith, apart, q)) (inr (omega (arith, apart))) in
            let ver = stays (word_place m Version) (λ q. omega (arith, q)) (inl (omega (arith, apart))) in
            omega (arith, below, e, ver);
      }

  -- a store of a word that is logged
  log_stores : (y : World) (a : ℕ) → list_length l y < l.map.entries → EachStore (IsLoggingStore l) (word_logged l.map a y.fram)
  log_stores y a few = (
    record { from = omega (arith, apart); below = inl (omega (arith, apart, few)); answer = λ q. omega (arith, apart, few, q) },
    (
      record { from = omega (arith, apart); below = inl (omega (arith, apart, few)); answer = λ q. omega (arith, apart, few, q) },
      (record { from = omega arith; below = inl (omega (arith, apart)); answer = λ q. omega (arith, apart, q) }, tt),
    ),
  )

  -- words that are logged, one after another
  record Goes (done rest : List ℕ) (y : World) : Type 0 where
    through : HoldsThroughout (UndoneAt l v s) (words_logged l.map rest y.fram) y
    stores : EachStore (IsLoggingStore l) (words_logged l.map rest y.fram)
    logging : LoggingAt l v s (done ++ rest) (world_after (words_logged l.map rest y.fram) y)

  goes : (done rest : List ℕ) (y : World) → length done + length rest ≤ l.list_capacity (v.task s) → All IsPrivate rest → LoggingAt l v s done y
      → Goes done rest y
  goes done [] y few ok d = record {
    through = d.undecided;
    stores = tt;
    logging = subst (λ ws. LoggingAt l v s ws y) (sym (append-nil done)) d;
  }
  goes done (a ∷ rest) y few ok d =
      let es = word_logged l.map a y.fram in
      let z = world_after es y in
      let is = All-head IsPrivate a rest ok in
      let count = d.count in
      let free : list_length l y < l.list_capacity (v.task s) = omega (arith, count, few) in
      let capacity = room.list (v.task s) d.undecided.behind.is_open.is_task in
      let lengths = length-append done (a ∷ []) in
      let next = goes (done ++ a ∷ []) rest z (omega (arith, few, lengths)) (All-tail IsPrivate a rest ok) (one_more done a y (omega (arith, few)) is d) in
      let more = words_logged l.map rest z.fram in
      record {
        through = holds-append (UndoneAt l v s) es more y (logs l apart v s room y a d.undecided is.0 free).through next.through;
        stores = each_store-append (IsLoggingStore l) es more (log_stores y a (omega (arith, free, capacity))) next.stores;
        logging = subst (λ w. LoggingAt l v s (done ++ a ∷ rest) w) (sym (world_after-append es more y))
            (subst (λ ws. LoggingAt l v s ws (world_after more z)) (append_assoc done (a ∷ []) rest) next.logging);
      }

  -- the start, with these words of private scalars
  module _ (privates : List ℕ) (laid : AreLogged l (v.task s) privates) where
    abbrev start_with : (ℕ → ℕ) → List Effect
    start_with f = undo_opening l.map f ++ words_logged l.map privates (fram_after (undo_opening l.map f) f)

    pub record Starts (x : World) : Type 0 where
      pub through : HoldsThroughout (UndoneAt l v s) (start_with x.fram) x
      pub stores : EachStore (IsLoggingStore l) (start_with x.fram)
      pub started : LoggingAt l v s privates (world_after (start_with x.fram) x)

    pub starts : (x : World) → SettledAt l v s x → Starts x
    starts x u =
        let op = undo_opening l.map x.fram in
        let o = opens l v apart s x u in
        let y = world_after op x in
        let there : y.fram ≡ fram_after op x.fram = world_fram op x in
        let d : LoggingAt l v s [] y = record {
          undecided = none_logged l v s y o.opened.undecided o.opened.list_length;
          stands = o.opened.undecided;
          entries = ap (λ n. logged_from n l.map.list.address y.fram) o.opened.list_length;
          count = o.opened.list_length;
          emit_count = o.opened.emit_count;
          versions = o.opened.versions;
        } in
        let few = laid.few in
        let g = goes [] privates y (omega (arith, few)) laid.each d in
        let more = words_logged l.map privates (fram_after op x.fram) in
        let same : words_logged l.map privates y.fram ≡ more = ap (words_logged l.map privates) there in
        record {
          through = holds-append (UndoneAt l v s) op more x o.through (subst (λ es. HoldsThroughout (UndoneAt l v s) es y) same g.through);
          stores = each_store-append (IsLoggingStore l) op more
              (each_weaker (IsStartStore l) (IsLoggingStore l) (λ a w k. record { from = k.from; below = k.below; answer = k.answer }) op
              (opening_stores l v apart x.fram))
              (subst (EachStore (IsLoggingStore l)) same g.stores);
          started = subst (LoggingAt l v s privates) (ap (λ es. world_after es y) same ∙ sym (world_after-append op more x)) g.logging;
        }

module _ {St : Type 0} (l : ProgramPlaces) (apart : AreApart l.map) (room : HaveRoom l) (v : StateView St) (privates : ℕ → List ℕ)
    (laid : (t : ℕ) → AreLogged l t (privates t)) where
  -- the start of the state's task is the one that CUR names
  there : (s : St) (x : World) → SettledAt l v s x → privates (x.fram (word_place l.map CurrentTask)) ≡ privates (v.task s)
  there s x u = ap privates (settled_stands l v s x u).is_open.current_task

  pub logging_start : LoggingContract l v privates (undo_start l.map privates)
  logging_start = record {
    takes_none = λ f. none_taken_through (undo_opening l.map f) (words_logged l.map (privates (f (word_place l.map CurrentTask))) _)
        (opening_takes l v apart f) (logged_takes l (privates (f (word_place l.map CurrentTask))) _);
    stores = λ s x u. let so = starts l apart room v s (privates (v.task s)) (laid (v.task s)) x u in
        subst (λ ps. EachStore (IsLoggingStore l) (undo_opening l.map x.fram ++ words_logged l.map ps (fram_after (undo_opening l.map x.fram) x.fram)))
        (sym (there s x u)) so.stores;
    undecided = λ s x u. let so = starts l apart room v s (privates (v.task s)) (laid (v.task s)) x u in
        subst (λ ps. HoldsThroughout (UndoneAt l v s)
        (undo_opening l.map x.fram ++ words_logged l.map ps (fram_after (undo_opening l.map x.fram) x.fram)) x) (sym (there s x u)) so.through;
    started = λ s x u. let so = starts l apart room v s (privates (v.task s)) (laid (v.task s)) x u in
        subst (λ ps. LoggingAt l v s (privates (v.task s))
        (world_after (undo_opening l.map x.fram ++ words_logged l.map ps (fram_after (undo_opening l.map x.fram) x.fram)) x)) (sym (there s x u)) so.started;
  }
