-- A transition of a task, under each runtime: its effects, what FRAM is behind its last store, the state that the source comes to, and what the commit
-- sends and closes.
use Rattle.task_attempts.proofs.Names.{◌≡◌, ℕ, ◌+◌, ◌*◌, ◌%◌, ◌<◌, ◌≤◌, List, [], ◌∷◌, ◌++◌, length, get_or, Some, None, true, refl, sym, ap, ◌∙◌}
use Rattle.task_attempts.proofs.Names.{subst, ⊎_elim, inl, arith, append_assoc, append-nil, slice_get, get_or_past, cases_lt, cases_Bool, slice_get_cases}
use Rattle.task_attempts.proofs.Names.{slice_get_within, Effect, Store, World, world_after_one, world_after, fram_after, fram_after-append, world_after-append}
use Rattle.task_attempts.proofs.Names.{each_store-front, put_same, put_other, world_fram, SharedDeclaration, Shared, emits_of, stores_of, is_written}
use Rattle.task_attempts.proofs.Names.{list_of, word_at, Attempt, State, initial_words, WordState, some_path_writes, takes_append, few_entries, runs_are_few}
use Rattle.task_attempts.proofs.Names.{scalar_seen, array_seen, array_read, runs_of, SendsAndCloses, put_words, TakesAndStores, transition_effects, Bounds}
use Rattle.task_attempts.proofs.Names.{Left}
use Rattle.task_attempts.proofs.Names.{place_length, listed_of, are_rows, privates_few, StoresWords, CurrentTask, NextTask, Gate, ListLength, EmitCount, Base}
use Rattle.task_attempts.proofs.Names.{SentBase, Version, VariablePlace, Scalar, Array, word_place, scalar_address, IsScalarWord, Element, IsElement}
use Rattle.task_attempts.proofs.Names.{Spot, IsSpot, scalar, spot_address, element_address, IsWordOf, event_index, program_end, Redo, Undo, Logging, map_seen}
use Rattle.lower.specs.Agreement as agreement
use Rattle.stands_for.specs.StandsFor.{IsOpen, HoldsWords}
use Rattle.war_analysis.proofs.Interface.{element as item_at}
use Rattle.task_attempts.proofs.Rows.{rows_are, rows_count, declared_length}
use Rattle.task_attempts.proofs.Names.{Take, Outside, Looked, Offered, put, IsTaskStore}
use Rattle.task_attempts.proofs.Quiet.{stays_within}
use Rattle.task_attempts.proofs.Entries.{IsTransitionStore, transition_stores, closing, closed, closed_sent, closed_next, closed_left, IsLeft, Closing}
use Rattle.task_attempts.proofs.Tasks.{body_is}
use Rattle.task_attempts.proofs.Started.{Attempting, scene}
use Rattle.task_attempts.proofs.Tame.{Tame, emits_fit, task_tame, transition_tame}
use Rattle.task_attempts.proofs.Words.{own_small, scalar_there, element_there, element_word}
use Rattle.cost_bound.specs.Summaries.{summaries}

-- words that are stored where words are
words_after : (es : List Effect) (f : ℕ → ℕ) → StoresWords es → HoldsWords f → HoldsWords (fram_after es f)
words_after [] f h k = k
words_after (Store a w ∷ es) f h k = words_after es (put f a w) h.1 (put_words f a w k h.0)
words_after (Take r ∷ es) f h k = words_after es f h.1 k
words_after (Outside o ∷ es) f h k = words_after es f h.1 k

-- what takes and stores so stores as another kind
as_kind : (P Q : ℕ → ℕ → Type 0) → ((a w : ℕ) → P a w → Q a w) → (es : List Effect) → TakesAndStores P es → TakesAndStores Q es
as_kind P Q f [] h = tt
as_kind P Q f (Store a w ∷ es) h = (f a w h.0, as_kind P Q f es h.1)
as_kind P Q f (Take r ∷ es) h = as_kind P Q f es h
as_kind P Q f (Outside (Looked seen) ∷ es) h = as_kind P Q f es h
as_kind P Q f (Outside (Offered n w) ∷ es) h = absurd h

module _ (run : Attempting) where
  open run use {program as p, map as l, given, state as s, task as i, own, facts, world as x, inputs, undecided}
  open (scene run) use {here, code, space, sites, view, ver}

  -- what its statements store
  abbrev pub StoresOf : ℕ → ℕ → Type 0
  StoresOf = IsTaskStore here (some_path_writes p.functions code) space ver

  -- what its statements stand in
  abbrev pub setting : agreement.Scene
  setting = record {
    shared = p.shared;
    p = here;
    own = here.first;
    fs = agreement.functions_of here p.functions;
    written = some_path_writes p.functions code;
    room = space;
    stores = λ v. stores_of (summaries p) v code;
    first = run.first;
    ver = x.fram (word_place here.map Version);
    own_low = facts.own_low;
    apart = facts.apart;
    even = facts.even;
    has_room = run.has_room;
    declared = facts.declared;
    copied = facts.copied;
  }

  -- the bounds of the task's statements
  abbrev pub bounds : Bounds
  bounds = agreement.bounds setting x.fram (λ v. listed_of v [] + stores_of (summaries p) v code)

  -- statements that came to a transition: their effects, where they jump and with which state, the task that they name, and the attempt behind them
  pub record Transition : Type 0 where
    pub es : List Effect
    pub to : ℕ
    pub end : WordState
    pub task : ℕ
    pub m : Attempt
    pub left : Left here bounds [] es to end task m
    pub stored : StoresWords es
    pub next_task : task < length p.tasks
    pub rows : length m.variables.shared ≡ length s.shared

  module _ (t : Transition) where
    open t use {es, task, m, left, stored, next_task, rows}

    -- the entries in front of the transition's
    abbrev pub count : ℕ
    count = left.there.fram (word_place l ListLength)

    abbrev pub base : ℕ
    base = left.there.fram (word_place l Base)

    abbrev pub index : ℕ
    index = event_index left.there.fram

    abbrev pub transition : List Effect
    transition = transition_effects here task count base index

    abbrev pub leaving : Closing
    leaving = record { places = here; room = space; apart = facts.apart; task = task; base = base; index = index; fram = left.there.fram }

    -- the effects but the last
    abbrev pub before : List Effect
    before = left.body ++ transition

    pub effects_are : es ≡ before ++ Store (word_place l Gate) 1 ∷ []
    effects_are = left.effects ∙ sym (append_assoc left.body transition (Store (word_place l Gate) 1 ∷ []))

    -- the list has room for what the transition lists
    pub few : count + length (runs_of own.privates) ≤ list_of (summaries p) p.shared code
    few = by here.map.runtime.logging refl
      where
        by : (logging : Logging) → here.map.runtime.logging ≡ logging → count + length (runs_of own.privates) ≤ list_of (summaries p) p.shared code
        by Redo redo =
            let words = run.has_room left.listed left.stands.list.are_listed (λ v. let k = left.few v in omega (arith, k)) in
            let entries = few_entries here run.first left.listed left.there.fram redo left.stands.list in
            let runs = runs_are_few own.privates in
            let scalars = privates_few own.privates in
            omega (arith, words, entries, runs, scalars)
        by Undo undo =
            let words = run.has_room left.listed left.stands.list.are_listed (λ v. let k = left.few v in omega (arith, k)) in
            let entries = left.stands.list.count undo in
            let runs = runs_are_few own.privates in
            let scalars = privates_few own.privates in
            omega (arith, words, entries, runs, scalars)

    pub words_before : StoresWords before
    words_before = each_store-front (λ a w. w < 0x10000) before (Store (word_place l Gate) 1 ∷ []) (subst StoresWords effects_are stored)

    pub tame_before : TakesAndStores (Tame run) before
    tame_before =
        takes_append (Tame run) left.body transition
        (as_kind (StoresOf) (Tame run) (task_tame run) left.body left.did.stores)
        (as_kind (IsTransitionStore here space) (Tame run) (transition_tame run) transition (transition_stores here space task count base index few))

    -- the world before the last store, and behind it
    abbrev pub y : World
    y = world_after before x

    abbrev pub z : World
    z = world_after_one (Store (word_place l Gate) 1) y

    abbrev pub g : ℕ → ℕ
    g = closed leaving

    pub z_is : z.fram ≡ g
    z_is =
        ap (λ w. w.fram) (sym (world_after-append before (Store (word_place l Gate) 1 ∷ []) x))
        ∙ world_fram (before ++ Store (word_place l Gate) 1 ∷ []) x
        ∙ ap (λ e. fram_after e x.fram) (append_assoc left.body transition (Store (word_place l Gate) 1 ∷ []))
        ∙ fram_after-append left.body (closing leaving) x.fram
        ∙ ap (fram_after (closing leaving)) (sym left.arrived)

    -- what all effects leave
    pub z_behind : z.fram ≡ fram_after es x.fram
    z_behind =
        ap (λ w. w.fram) (sym (world_after-append before (Store (word_place l Gate) 1 ∷ []) x))
        ∙ world_fram (before ++ Store (word_place l Gate) 1 ∷ []) x
        ∙ ap (λ e. fram_after e x.fram) (sym effects_are)

    pub z_before : (a : ℕ) → (a ≡ word_place l Gate → ⊥) → z.fram a ≡ y.fram a
    z_before a ne = put_other y.fram (word_place l Gate) 1 a ne

    abbrev pub Stays : ℕ → Type 0
    Stays a = IsLeft leaving a

    pub z_there : (a : ℕ) → Stays a → z.fram a ≡ left.there.fram a
    z_there a h = ap (λ f. f a) z_is ∙ closed_left leaving a h

    pub high_stays : (a : ℕ) → l.emits.address ≤ a → a < program_end → Stays a
    high_stays a h below =
        let apart = facts.apart in
        let most = few in
        record {
          next_task = λ e. omega (arith, apart, e, h);
          gate = λ e. omega (arith, apart, e, h);
          list_length = λ e. omega (arith, apart, e, h);
          sent_base = λ e. omega (arith, apart, e, h);
          sent_tail = λ e. omega (arith, e, below);
          entries = λ lo hi. omega (arith, apart, hi, h, most);
        }

    -- the words that the task works on stay
    pub spot_stays : (q : Spot) → IsSpot here q → z.fram (spot_address here q) ≡ left.there.fram (spot_address here q)
    spot_stays q h =
        let low = facts.apart.spots q h in
        let below = facts.apart.below q h in
        z_there (spot_address here q) (high_stays (spot_address here q) (omega (arith, low)) (omega (arith, below)))

    -- the state that the source comes to
    abbrev pub next : State
    next = record { shared = m.variables.shared; task = task; emitted = s.emitted ++ m.emitted }

    pub next_word : (v n a : ℕ) → IsWordOf l v n a → view.word next a ≡ word_at m.variables (Shared v) n
    next_word v n a h = given.words.is_word m.variables.shared v n a h

    pub scalar_next : (v n : ℕ) → IsScalarWord here v n → z.fram (scalar_address here v n) ≡ word_at m.variables (Shared v) n
    scalar_next v n h = spot_stays (scalar v n) h ∙ left.stands.variables.words v n h

    pub word_of_element : (e : Element) → IsElement here e
        → view.word next (element_address here e) ≡ word_at m.variables (Shared e.array) e.index
    word_of_element e h =
        next_word e.array e.index (element_address here e)
        (element_word p.functions l code own e h)

    -- ---- the next state

    past_small : (row : List ℕ) (n : ℕ) → length row ≤ n → get_or row n 0 < 0x10000
    past_small row n h = let e = get_or_past row n 0 h in omega (arith, e)

    -- the words of the rows are words, as FRAM's are
    there_words : HoldsWords left.there.fram
    there_words =
        subst HoldsWords (sym left.arrived)
        (words_after left.body x.fram (each_store-front (λ a w. w < 0x10000) left.body transition words_before) undecided.is_open.words)

    row_of : (v n : ℕ) (place : VariablePlace) → slice_get l.variables v ≡ Some place → n < place_length place → get_or
        (get_or m.variables.shared v []) n 0 < 0x10000
    row_of v n (Scalar home copied width) e h =
        let there = scalar_there p.functions l code own v home copied width n e h in
        subst (λ w. w < 0x10000) (left.stands.variables.words v n there) (there_words (scalar_address here v n))
    row_of v n (Array elements len copies) e h =
        let x : Element = record { array = v; index = n } in
        let is : IsElement here x = (element_there p.functions l code own v n elements len copies e h).0 in
        subst (λ w. w < 0x10000) (left.stands.variables.elements x is)
        (own_small here left.there.fram (slice_get (map_seen p.functions code l).variables v) n there_words)

    -- the lengths of the rows
    row_fits : (v : ℕ) (place : VariablePlace) → slice_get l.variables v ≡ Some place → length (get_or m.variables.shared v []) ≡ place_length place
    row_fits v (Scalar home copied width) e =
        left.stands.variables.lengths v (Scalar home copied width) (scalar_seen (some_path_writes p.functions code) l.variables v home copied width e)
    row_fits v (Array elements len copies) e =
        ⊎_elim {C = length (get_or m.variables.shared v []) ≡ len}
        (λ w. left.stands.variables.lengths v (Array elements len copies)
        (array_seen (some_path_writes p.functions code) l.variables v elements len copies e w))
        (λ w. left.stands.variables.lengths v (Array elements len None) (array_read (some_path_writes p.functions code) l.variables v elements len copies e w))
        (cases_Bool (some_path_writes p.functions code v))

    same_count : length m.variables.shared ≡ length l.variables
    same_count = rows ∙ rows_count p.shared s.shared undecided.is_open.is_state ∙ sym given.variables.count

    row_small : (v n : ℕ) → get_or (get_or m.variables.shared v []) n 0 < 0x10000
    row_small v n =
        ⊎_elim {C = get_or (get_or m.variables.shared v []) n 0 < 0x10000}
        (λ c.
        let at : slice_get l.variables v ≡ Some c.0 = c.2 in
        let len = row_fits v c.0 at in
        ⊎_elim {C = get_or (get_or m.variables.shared v []) n 0 < 0x10000}
        (λ below. row_of v n c.0 at below)
        (λ above. past_small (get_or m.variables.shared v []) n (omega (arith, len, above)))
        (cases_lt n (place_length c.0)))
        (λ c.
        let past = c.0 in
        let none : get_or m.variables.shared v [] ≡ [] = get_or_past m.variables.shared v [] (let e = same_count in omega (arith, e, past)) in
        subst (λ row. get_or row n 0 < 0x10000) (sym none) (omega arith))
        (slice_get_cases l.variables v).1

    row_length : (v : ℕ) (d : SharedDeclaration) → slice_get p.shared v ≡ Some d → length (get_or m.variables.shared v []) ≡ length (initial_words d.extent)
    row_length v d e =
        let below = slice_get_within p.shared v d e in
        let count = given.variables.count in
        let place = item_at l.variables v (omega (arith, below, count)) in
        row_fits v place.0 place.1 ∙ declared_length (is_written (summaries p) p.tasks v) d.extent place.0 (given.variables.each v d place.0 e place.1)

    next_is_state : are_rows p.shared m.variables.shared ≡ true
    next_is_state = rows_are p.shared m.variables.shared (same_count ∙ given.variables.count) row_length row_small

    -- ---- what is sent and closed

    pub base_kept : z.fram (word_place l Base) ≡ base
    base_kept =
        let apart = facts.apart in
        z_there (word_place l Base) (record {
          next_task = λ e. omega (arith, apart, e);
          gate = λ e. omega (arith, apart, e);
          list_length = λ e. omega (arith, apart, e);
          sent_base = λ e. omega (arith, apart, e);
          sent_tail = λ e. omega (arith, apart, e);
          entries = λ lo hi. omega (arith, apart, lo);
        })

    base_is : IsOpen sites view s y → z.fram (word_place l Base) ≡ length s.emitted % 0x10000
    base_is o = let apart = given.apart in z_before (word_place l Base) (λ e. omega (arith, apart, e)) ∙ o.base

    sent_is : z.fram (word_place l SentBase) ≡ base
    sent_is = ap (λ f. f (word_place l SentBase)) z_is ∙ closed_sent leaving

    next_is : z.fram (word_place l NextTask) ≡ task % 65536
    next_is = ap (λ f. f (word_place l NextTask)) z_is ∙ closed_next leaving

    emit_count_is : z.fram (word_place l EmitCount) ≡ length m.emitted
    emit_count_is =
        let apart = facts.apart in
        z_there (word_place l EmitCount) (record {
          next_task = λ e. omega (arith, apart, e);
          gate = λ e. omega (arith, apart, e);
          list_length = λ e. omega (arith, apart, e);
          sent_base = λ e. omega (arith, apart, e);
          sent_tail = λ e. omega (arith, apart, e);
          entries = λ lo hi. omega (arith, apart, lo);
        }) ∙ left.stands.emitted.emit_count

    few_emits : length m.emitted ≤ emits_of (summaries p) code
    few_emits =
        let apart = given.apart in
        let none = run.emit_count in
        let most =
        stays_within (Tame run) (word_place l EmitCount) (emits_of (summaries p) code) (λ w q. q.emit_count refl) before x.fram tame_before
        (omega (arith, none)) in
        let there = ap (λ f. f (word_place l EmitCount)) (world_fram before x) in
        let here = z_before (word_place l EmitCount) (λ e. omega (arith, apart, e)) in
        let counted = emit_count_is in
        omega (arith, most, there, here, counted)

    buffer_is : (n : ℕ) → n < length m.emitted → z.fram (l.emits.address + 2 * n) ≡ get_or m.emitted n 0
    buffer_is n h =
        let same : l.emits.address + 2 * n ≡ 2 * n + l.emits.address = omega arith in
        let most = few_emits in
        let fits = emits_fit run in
        let apart = given.apart in
        z_there (l.emits.address + 2 * n) (high_stays (l.emits.address + 2 * n) (omega arith) (omega (arith, h, most, fits, apart)))
        ∙ ap left.there.fram same ∙ left.stands.emitted.emits n h

    -- from a world that is open there
    pub sends_and_closes : IsOpen sites view s y → SendsAndCloses sites view s next m.emitted 0 z
    sends_and_closes o =
        let apart = given.apart in
        let few_tasks = given.runnable.few_tasks in
        record {
          is_state = o.is_state;
          next_is_state = next_is_state;
          is_task = o.is_task;
          next_is_task = next_task;
          words = put_words y.fram (word_place l Gate) 1 o.words (omega arith);
          gate = put_same y.fram (word_place l Gate) 1;
          next_task = let e = next_is in omega (arith, e, next_task, few_tasks);
          current_task = inl (z_before (word_place l CurrentTask) (λ e. omega (arith, apart, e)) ∙ o.current_task);
          emitted = refl;
          emit_count = emit_count_is;
          within_emits = subst (λ b. length m.emitted ≤ emits_of (summaries p) b) (sym (body_is p l s.task i)) few_emits;
          buffer = buffer_is;
          sent_base = sent_is ∙ sym base_kept ∙ base_is o;
          base = inl (base_kept ∙ sym sent_is);
          accepted = record { count = 0; at_least = omega arith; at_most = omega arith; is = o.accepted ∙ sym (append-nil s.emitted) };
          versions = λ n h.
              let most = o.versions n h in
              let a = z_before (l.versions.address + 2 * n) (λ e. omega (arith, apart, e)) in
              let b = z_before (word_place l Version) (λ e. omega (arith, apart, e)) in
              omega (arith, most, a, b);
        }
