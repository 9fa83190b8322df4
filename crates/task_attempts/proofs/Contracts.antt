-- The program of a task decides, or is short exactly where the task is, and stores before the code.
use Rattle.task_attempts.proofs.Names.{◌≡◌, ℕ, ◌≤◌, List, [], ◌∷◌, ◌++◌, length, true, false, refl, sym, ap, ◌∙◌, subst, arith, append-nil, append_cancel_right}
use Rattle.task_attempts.proofs.Names.{get_or_from_slice_get, Effect, Store, readings_taken, EachStore, InputsAreWords}
use Rattle.task_attempts.proofs.Names.{looks_taken, looks_taken-append, answer_place, answers_in, given_by, nothing_given}
use Rattle.task_attempts.proofs.Names.{readings_taken-append, each_store-append, emits_of, Attempt, Outcome, to_task, short, run_block, block_emits, State}
use Rattle.task_attempts.proofs.Names.{Completion, completion_of, attempt_of, fresh_attempt, EndsWell, TransitionComes, readings_left_over_lem}
use Rattle.task_attempts.proofs.Names.{answered_by, answers_told, StoresBelow, ⊎_elim, inr}
use Rattle.task_attempts.proofs.Names.{WordState, End}
use Rattle.task_attempts.proofs.Names.{GoesOn, Jumps, Broken, behaviour, started, behaves_by_effects, whole_ends_soundly, StoresWords, stores_words, Ends}
use Rattle.task_attempts.proofs.Names.{program_effects, IsElsewhere, Model, AttemptContract, Comes, Lacks, Decides, RunsShort, TakesAndStores, EndsAs}
use Rattle.task_attempts.proofs.Names.{BlocksAgree}
use Rattle.task_attempts.proofs.Names.{task_program, outcome_of, whole_task, has_jumped, effects_of, program_parts, LeavesFor}
use Rattle.task_attempts.proofs.Names.{inl, IsBelowCode, Gate, word_place}
use Rattle.array_versions.specs.Program.{Program}
use Rattle.array_versions.specs.Behaviour.{Short as Starves}
use Rattle.machine_effects.specs.World.{fram_after}
use Rattle.array_versions.specs.Laws.{EndsByEffects, IsSound}
use Rattle.source_meaning.proofs.Interface.{emits_same, counts_same}
use Rattle.task_attempts.proofs.Names.{◌%◌, ◌+◌, ◌<◌, NextTask, SentBase, Base, ListLength, sent_place, event_index, where_events, entry_effects, runs_of}
use Rattle.task_attempts.proofs.Names.{transition_effects, each_store-front, at_variable, at_copy, at_element, at_version, in_list, at_list_length}
use Rattle.task_attempts.proofs.Names.{at_emit_count}
use Rattle.task_attempts.proofs.Names.{in_buffer}
use Rattle.task_attempts.proofs.Names.{at_answer, scalar, copy, list_of}
use Rattle.memory_map.specs.Spots.{version}
use Rattle.memory_map.specs.event_places.Places.{tail_place}
use Rattle.lower.specs.declared.runs.Run.{Run}
use Rattle.std.proofs.Common.{◌≢◌}
use Rattle.event_rules.specs.Taking.{Taking, Before, Open, Advances, FollowsSeeing, IsOffRing, next_index}
use Rattle.task_attempts.proofs.Asks.{Asks, AsksFrom}
use Rattle.task_attempts.proofs.Answered.{program_asks}
use Rattle.task_attempts.proofs.InOrder.{IsNoClosing, statements_advance, closing, task_advances}
use Rattle.task_attempts.proofs.Rows.{HasRows, block_rows, functions_keep_rows}
use Rattle.crash_rules.specs.Model.{HoldsThroughout}
use Rattle.memory_map.specs.declared.runtime.Logging.{Logging}
use Rattle.memory_map.specs.declared.runtime.Role.{Role}
use Rattle.memory_map.specs.Spots.{element}
use Rattle.lower.specs.Agreement.{DidWithin}
use Rattle.task_attempts.proofs.Names.{model_by, StandsFor, IsElement, Some}
use Rattle.task_attempts.proofs.Quiet.{stores_each, stores_as, answers_seen}
use Rattle.task_attempts.proofs.Tasks.{body_is, own_program, program_is}
use Rattle.task_attempts.proofs.Tame.{Tame, task_tame, emits_fit}
use Rattle.task_attempts.proofs.Starts.{held_attempt, held_runs, readings_and}
use Rattle.task_attempts.proofs.Started.{Attempting, scene}
use Rattle.task_attempts.proofs.Leaving.{StoresOf, setting, bounds, Transition, before, effects_are, tame_before, next, few, z, z_behind}
use Rattle.cost_bound.specs.Summaries.{summaries}
use Rattle.source_values.specs.Statements.{meanings, emit_counts, returns}
use Rattle.lower.specs.Agreement.{AreFunctions}
use Rattle.array_versions.specs.Behaviour.{Gives}

-- what a runtime's model asks beside, of a started attempt: the state stands for the source's attempt; what statements do keeps the world undecided
-- throughout, also up to a transition; and behind its last store the world is decided
pub record Keeps (logging : Logging) (role : Role) (run : Attempting) : Type 0 where
  pub stands : StandsFor (scene run).here run.first (held_attempt run) [] (started run.world.fram run.inputs)
  pub throughout : (es : List Effect) → DidWithin (scene run).here (bounds run) es → StoresWords es
      → HoldsThroughout ((model_by logging role run.program run.map).Undecided run.state) es run.world
  pub until : (t : Transition run) → HoldsThroughout ((model_by logging role run.program run.map).Undecided run.state) (before run t) run.world
  pub decided : (t : Transition run) → (model_by logging role run.program run.map).Decided run.state (next run t) (z run t)

module _ (logging : Logging) (role : Role) (run : Attempting) (keeps_to : Keeps logging role run) where
  open run use {program as p, map as l, given, state as s, task as i, own, facts, world as x, inputs, undecided}
  open (scene run) use {here, code, space, sites, view, ver}

  abbrev model : Model State
  model = model_by logging role p l

  -- what is known of a behaviour's effects and end, and of the source's outcome
  record Meets (es : List Effect) (e : End) (o : Outcome) : Type 0 where
    agrees : EndsAs here (bounds run) [] [] es e o
    by_effects : EndsByEffects (started x.fram inputs) es e
    sound : IsSound e
    of_words : StoresWords es
    well : EndsWell (length p.tasks) o
    rows : HasRows (length s.shared) o
    source : completion_of (attempt_of p s.task s.shared (readings_and run (answers_told es))) ≡ completion_of o

  -- where no events are taken no store is to ANS
  off_answer : (es : List Effect) → TakesAndStores (Tame run) es → l.runtime.events ≡ false → EachStore (IsElsewhere answer_place) es
  off_answer es h off =
      let apart = given.apart in
      stores_each (Tame run) (IsElsewhere answer_place)
      (λ a w q e. ⊎_elim (λ low. omega (arith, apart, low, e)) (λ counter. let on = counter.events in cc (on, off)) q.below) es h

  off_gate : (es : List Effect) → TakesAndStores (Tame run) es → EachStore (IsElsewhere (word_place l Gate)) es
  off_gate es h = stores_each (Tame run) (IsElsewhere (word_place l Gate)) (λ a w q e. q.gate e) es h

  below_code : (es : List Effect) → TakesAndStores (Tame run) es → EachStore (IsBelowCode l) es
  below_code es h =
      let c = given.code in
      let fits = emits_fit run in
      stores_each (Tame run) (IsBelowCode l) (λ a w q. record {
        from = q.from;
        below = ⊎_elim {C = StoresBelow l l.boot.address a w} (λ b. inl (omega (arith, b, c))) (λ counter. inr counter) q.below;
        list = q.list_length;
        emits = λ e. let few = q.emit_count e in omega (arith, few, fits);
      }) es h

  -- ---- short

  module _ (es : List Effect) (h : Meets es Starves short) where
    safe_short : TakesAndStores (Tame run) es
    safe_short = stores_as (StoresOf run) (Tame run) (λ a w k small. task_tame run a w k) es h.agrees.stores h.of_words

    answers_so_far : answers_in model.marks es ≡ answers_told es
    answers_so_far = answers_seen l es (off_answer es safe_short)

    runs_short : RunsShort model s inputs x (program_effects es false)
    runs_short = record {
      is = refl;
      elsewhere = off_gate es safe_short;
      undecided = keeps_to.throughout es h.agrees h.of_words;
      short = ap (λ answers. whole_task p s (record { readings = inputs.readings; answers = answers })) answers_so_far ∙ ap (outcome_of s) h.source;
    }

  -- ---- a transition

  module _ (es : List Effect) (to : ℕ) (end : WordState) (task : ℕ) (m : Attempt) (h : Meets es (Jumps to end) (to_task task m)) where
    abbrev t : Transition run
    t = record { es = es; to = to; end = end; task = task; m = m; left = h.agrees; stored = h.of_words; next_task = h.well; rows = h.rows }

    abbrev front : List Effect
    front = before run t

    -- the effects take what the source takes
    taken : readings_taken es ≡ readings_taken front
    taken =
        ap readings_taken (effects_are run t) ∙ readings_taken-append front (Store (word_place l Gate) 1 ∷ []) ∙ append-nil (readings_taken front)

    reads : readings_taken front ++ m.left ≡ inputs.readings
    reads = ap (λ r. r ++ m.left) (sym taken) ∙ ap (λ r. readings_taken es ++ r) (sym h.agrees.readings) ∙ h.by_effects.1.readings

    abbrev completion : Completion
    completion = record { next = task; shared = m.variables.shared; emitted = m.emitted; left = m.left; answers = m.answers }

    -- and see what these see
    looks : looks_taken front ++ end.inputs.looks ≡ inputs.looks
    looks =
        ap (λ l. l ++ end.inputs.looks) (sym (append-nil (looks_taken front)) ∙ sym (looks_taken-append front (Store (word_place l Gate) 1 ∷ []))
        ∙ sym (ap looks_taken (effects_are run t)))
        ∙ h.by_effects.1.looks

    -- the effects with the last store
    abbrev whole : List Effect
    whole = front ++ Store (word_place l Gate) 1 ∷ []

    answers_are : answers_in model.marks whole ≡ answers_told es
    answers_are =
        let apart = given.apart in
        answers_seen l whole (λ off. each_store-append (IsElsewhere answer_place) front (Store (word_place l Gate) 1 ∷ [])
        (off_answer front (tame_before run t) off) ((λ e. omega (arith, apart, e)), tt))
        ∙ sym (ap answers_told (effects_are run t))

    exact : whole_task p s (given_by model.marks whole) ≡ Ends (next run t) nothing_given
    exact =
        let r = readings_left_over_lem p s.task s.shared (readings_and run (answers_told es)) completion h.source in
        let used : r.0 ≡ readings_taken front = append_cancel_right r.0 (readings_taken front) m.left (sym r.1 ∙ sym reads) in
        let read : readings_taken whole ≡ r.0 ++ [] = sym (ap readings_taken (effects_are run t)) ∙ taken ∙ sym used ∙ sym (append-nil r.0) in
        (λ j. whole_task p s (record { readings = read j; answers = answers_are j })) ∙ ap (outcome_of s) (r.2 [])
        ∙ ap (λ answers. Ends (next run t) (record { readings = []; answers = answers })) h.agrees.answers

    decides : Decides model s (next run t) inputs x (program_effects es true)
    decides = record {
      before = front;
      left = record { readings = m.left; looks = end.inputs.looks };
      is = ap (λ e. program_effects e true) (effects_are run t);
      elsewhere = off_gate front (tame_before run t);
      reads = record { readings = reads; looks = looks };
      undecided = keeps_to.until t;
      decided = keeps_to.decided t;
      exact = exact;
    }

    stores_low : EachStore (IsBelowCode l) es
    stores_low =
        let apart = given.apart in
        let c = given.code in
        subst (EachStore (IsBelowCode l)) (sym (effects_are run t))
        (each_store-append (IsBelowCode l) front (Store (word_place l Gate) 1 ∷ [])
        (below_code front (tame_before run t)) (
          record {
            from = omega (arith, apart);
            below = inl (omega (arith, apart, c));
            list = λ e. absurd (omega (arith, apart, e));
            emits = λ e. absurd (omega (arith, apart, e));
          },
          tt,
        ))

  -- ---- each end

  keeps : (es : List Effect) (e : End) (o : Outcome) → Meets es e o → AttemptContract model s inputs x (program_effects es (has_jumped e))
  keeps es (GoesOn t) o h = absurd h.sound
  keeps es Broken o h = absurd h.sound
  keeps es (Jumps to end) (to_task task m) h = Comes (next run (t es to end task m h)) (decides es to end task m h)
  keeps es Starves short h = Lacks (runs_short es h)
  keeps es (Gives w t) (returns v m) h = absurd h.well
  keeps es _ _ h = absurd h.agrees

  stores_before_code : (es : List Effect) (e : End) (o : Outcome) → Meets es e o → EachStore (IsBelowCode l) es
  stores_before_code es (GoesOn t) o h = absurd h.sound
  stores_before_code es Broken o h = absurd h.sound
  stores_before_code es (Jumps to t) (to_task task m) h = stores_low es to t task m h
  stores_before_code es Starves short h = below_code es (safe_short es h)
  stores_before_code es (Gives w t) (returns v m) h = absurd h.well
  stores_before_code es _ _ h = absurd h.agrees

  leaves : (es : List Effect) (e : End) (o : Outcome) → Meets es e o → LeavesFor l.commit.address e
  leaves es (GoesOn t) o h = absurd h.sound
  leaves es Broken o h = absurd h.sound
  leaves es (Jumps to t) (to_task task m) h = h.agrees.commits
  leaves es Starves o h = tt
  leaves es (Gives w t) (returns v m) h = absurd h.well
  leaves es _ _ h = absurd h.agrees

  -- where a task leaves, what holds of FRAM behind each transition
  ends_with : (P : (ℕ → ℕ) → End → Type 0) → ((t : Transition run) → P (z run t).fram (Jumps t.to t.end))
      → ((es : List Effect) → P (fram_after es x.fram) Starves) → (es : List Effect) (e : End) (o : Outcome) → Meets es e o → P (fram_after es x.fram) e
  ends_with P left none es (GoesOn t) o h = absurd h.sound
  ends_with P left none es Broken o h = absurd h.sound
  ends_with P left none es (Jumps to end) (to_task task m) h =
      let leaves = t es to end task m h in subst (λ f. P f (Jumps to end)) (z_behind run leaves) (left leaves)
  ends_with P left none es Starves o h = none es
  ends_with P left none es (Gives w t) (returns v m) h = absurd h.well
  ends_with P left none es _ _ h = absurd h.agrees

  -- ---- the program

  abbrev program : Program
  program = own_program p l i.task own

  -- the answers that it tells
  abbrev told : List ℕ
  told = answers_told (behaviour program (started x.fram inputs)).effects

  abbrev attempt : Attempt
  attempt = fresh_attempt s.shared (readings_and run told)

  few_emits : block_emits (emit_counts p) code ≤ emits_of (summaries p) code
  few_emits =
      let same = emits_same (summaries p) code in
      let counts = ap (λ counts. block_emits counts code) (counts_same p) in
      omega (arith, same, counts)

  ends_well : EndsWell (length p.tasks) (run_block (meanings p) code attempt)
  ends_well =
      subst (TransitionComes p) (get_or_from_slice_get p.tasks s.task i.task i.task i.task_is)
      (given.runnable.transition_comes s.task i.task undecided.is_open.is_task) attempt

  -- the functions that it calls
  functions : AreFunctions (setting run) p.functions
  functions = record { are = refl; fits = facts.bodies; admits = facts.admitted; low = facts.low }

  meets : BlocksAgree → InputsAreWords inputs → Meets (behaviour program (started x.fram inputs)).effects (behaviour program (started x.fram inputs)).end
      (run_block (meanings p) code attempt)
  meets agree small =
      let w = started x.fram inputs in
      let b = behaviour program w in
      record {
        -- the program agrees with the attempt from what FRAM has, which comes to what the source's attempt comes to
        agrees = subst (EndsAs here (bounds run) [] [] b.effects b.end)
            (ap (λ l. run_block (meanings p) code (answered_by l (held_attempt run))) (append-nil told) ∙ held_runs run told)
            (agree (setting run) p.functions code (held_attempt run) [] w functions refl facts.formed facts.admits (λ v h. h) keeps_to.stands
            (let f = few_emits in omega (arith, f)) (λ v. omega arith) []);
        by_effects = behaves_by_effects program w;
        sound = whole_ends_soundly program x.fram inputs facts.whole;
        of_words = stores_words program w facts.of_words
            (record { stack = tt; locals = λ n v e. cc e; fram = undecided.is_open.words; inputs = small });
        well = ends_well;
        rows = block_rows (meanings p) (functions_keep_rows p.functions) code attempt (length s.shared) refl;
        source = ap (λ b. completion_of (run_block (meanings p) b attempt)) (body_is p l s.task i);
      }

  pub program_keeps : BlocksAgree → InputsAreWords inputs
      → AttemptContract model s inputs x ((program_parts p l).body s.task x.fram inputs)
  program_keeps agree small =
      let b = behaviour program (started x.fram inputs) in
      subst (λ q. AttemptContract model s inputs x (effects_of (behaviour q (started x.fram inputs)))) (sym (program_is p l s.task i own run.own_is))
      (keeps b.effects b.end (run_block (meanings p) code attempt) (meets agree small))

  pub program_stores : BlocksAgree → InputsAreWords inputs → EachStore (IsBelowCode l) ((program_parts p l).body s.task x.fram inputs).effects
  program_stores agree small =
      let b = behaviour program (started x.fram inputs) in
      subst (λ q. EachStore (IsBelowCode l) (behaviour q (started x.fram inputs)).effects) (sym (program_is p l s.task i own run.own_is))
      (stores_before_code b.effects b.end (run_block (meanings p) code attempt) (meets agree small))

  pub program_leaves : BlocksAgree → InputsAreWords inputs → LeavesFor l.commit.address (behaviour (task_program p l s.task) (started x.fram inputs)).end
  program_leaves agree small =
      let b = behaviour program (started x.fram inputs) in
      subst (λ q. LeavesFor l.commit.address (behaviour q (started x.fram inputs)).end) (sym (program_is p l s.task i own run.own_is))
      (leaves b.effects b.end (run_block (meanings p) code attempt) (meets agree small))

  pub program_ends : (P : (ℕ → ℕ) → End → Type 0) → ((t : Transition run) → P (z run t).fram (Jumps t.to t.end))
      → ((es : List Effect) → P (fram_after es x.fram) Starves) → BlocksAgree → InputsAreWords inputs
      → let b = behaviour (task_program p l s.task) (started x.fram inputs) in P (fram_after b.effects x.fram) b.end
  program_ends P left none agree small =
      let b = behaviour program (started x.fram inputs) in
      subst (λ q. let done = behaviour q (started x.fram inputs) in P (fram_after done.effects x.fram) done.end)
      (sym (program_is p l s.task i own run.own_is)) (ends_with P left none b.effects b.end (run_block (meanings p) code attempt) (meets agree small))

  -- ---- words of the ring

  -- no store of a statement is to SE
  off_sent : (a w : ℕ) → StoresOf run a w → a ≢ sent_place
  off_sent a w (at_variable v n h e is) same = let low = facts.apart.below (scalar v n) h in omega (arith, is, same, low)
  off_sent a w (at_copy y h is) same = let low = facts.apart.below (copy y) h in omega (arith, is, same, low)
  off_sent a w (at_element undo y h is) same =
      let e : IsElement here y = record { elements = h.elements; length = h.length; copies = Some h.copies; is_array = h.is_array; below = h.below } in
      let low = facts.apart.below (element y) e in omega (arith, is, same, low)
  off_sent a w (at_version y h is e) same = let low = facts.apart.below (version y) h in omega (arith, is, same, low)
  off_sent a w (in_list lo hi) same = let apart = facts.apart in omega (arith, lo, hi, same, apart)
  off_sent a w (at_list_length is h) same = let apart = facts.apart in omega (arith, is, same, apart)
  off_sent a w (at_emit_count is h) same = let apart = facts.apart in omega (arith, is, same, apart)
  off_sent a w (in_buffer j h is) same = let apart = facts.apart in omega (arith, h, is, same, apart)
  off_sent a w (at_answer k) same = ⊎_elim {C = ⊥} (λ e. omega (arith, e, same)) (λ e. omega (arith, e, same)) k.1

  abbrev gate : ℕ
  gate = word_place l Gate

  -- statements neither freeze nor decide
  no_closing : (es : List Effect) → TakesAndStores (StoresOf run) es → StoresWords es → EachStore (IsNoClosing gate) es
  no_closing es h words =
      stores_each (λ a w. StoresOf run a w × (w < 0x10000)) (IsNoClosing gate)
      (λ a w q. ((λ e. (task_tame run a w q.0).gate e), off_sent a w q.0)) es (stores_as (StoresOf run) (λ a w. StoresOf run a w × (w < 0x10000))
      (λ a w q small. (q, small)) es h words)

  -- of an undecided world GATE isn't 1
  gate_open : x.fram gate ≢ 1
  gate_open e = let zero = undecided.is_open.gate in omega (arith, zero, e)

  -- a task's effects, as a program of words of the ring
  abbrev InOrder : List Effect → Taking → Type 0
  InOrder es u = FollowsSeeing (Advances gate) x.fram inputs.looks Open es u

  -- the stores of a transition but the last two
  abbrev ordinary_part : ℕ → ℕ → ℕ → List Effect
  ordinary_part task count base =
      Store (word_place l NextTask) (task % 65536) ∷ (entry_effects (word_place l ListLength) l.list.address count (runs_of own.privates)
      ++ Store (word_place l SentBase) base ∷ [])

  -- with SE and GATE behind them
  closing_is : (task count base index : ℕ) → l.runtime.events ≡ true
      → transition_effects here task count base index ++ Store gate 1 ∷ [] ≡ ordinary_part task count base ++ (Store sent_place index ∷ Store gate 1 ∷ [])
  closing_is task count base index on =
      let first = Store (word_place l NextTask) (task % 65536) in
      let entries = entry_effects (word_place l ListLength) l.list.address count (runs_of own.privates) in
      let sent = Store (word_place l SentBase) base in
      ap (λ b. (first ∷ (entries ++ sent ∷ where_events b (Store sent_place index ∷ []))) ++ Store gate 1 ∷ []) on
      ∙ ap (λ es. first ∷ es) (together entries sent (Store sent_place index) (Store gate 1))
    where
      together : (es : List Effect) (e f g : Effect) → (es ++ e ∷ f ∷ []) ++ g ∷ [] ≡ (es ++ e ∷ []) ++ (f ∷ g ∷ [])
      together [] e f g = refl
      together (y ∷ es) e f g = ap (λ fs. y ∷ fs) (together es e f g)

  -- each of them is none to a word that counts events
  ordinary : (task count base : ℕ) → count + length (runs_of own.privates) ≤ list_of (summaries p) p.shared code
      → EachStore (IsOffRing gate) (ordinary_part task count base)
  ordinary task count base few =
      let apart = facts.apart in
      let entries = entry_effects (word_place l ListLength) l.list.address count (runs_of own.privates) in (
        (omega (arith, apart), λ e. omega (arith, e)),
        each_store-append (IsOffRing gate) entries (Store (word_place l SentBase) base ∷ []) (entries_off (runs_of own.privates) count few)
            ((omega (arith, apart), λ e. omega (arith, e)), tt),
      )
    where
      entries_off : (rs : List Run) (k : ℕ) → k + length rs ≤ list_of (summaries p) p.shared code
          → EachStore (IsOffRing gate) (entry_effects (word_place l ListLength) l.list.address k rs)
      entries_off [] k few = tt
      entries_off (r ∷ rs) k few =
          let apart = facts.apart in (
            (omega (arith, apart, few), λ e. omega (arith, apart, e)),
            (
              (omega (arith, apart, few), λ e. omega (arith, apart, e)),
              (
                (omega (arith, apart, few), λ e. omega (arith, apart, e)),
                ((omega (arith, apart), λ e. omega (arith, e)), entries_off rs (k + 1) (omega (arith, few))),
              ),
            ),
          )

  entries_see_none : (rs : List Run) (c list k : ℕ) (es : List Effect) → looks_taken (entry_effects c list k rs ++ es) ≡ looks_taken es
  entries_see_none [] c list k es = refl
  entries_see_none (r ∷ rs) c list k es = entries_see_none rs c list (k + 1) es

  task_in_order : (es : List Effect) (e : End) (o : Outcome) → Meets es e o → l.runtime.events ≡ true → AsksFrom (started x.fram inputs) es
      → (u : Taking) × InOrder es u × (has_jumped e ≡ true → u ≡ Before)
  task_in_order es (GoesOn t) o h on k = absurd h.sound
  task_in_order es Broken o h on k = absurd h.sound
  task_in_order es Starves short h on k =
      (Open, statements_advance gate k (no_closing es h.agrees.stores h.of_words), λ e. absurd (cc e))
  task_in_order es (Jumps to end) (to_task task m) h on k =
      let left = h.agrees in
      let there = left.there.fram in
      let count = there (word_place l ListLength) in
      let base = there (word_place l Base) in
      let index = event_index there in
      let apart = facts.apart in
      let next = word_place l NextTask in
      let front = ordinary_part task count base in
      let is_ordinary = ordinary task count base (few run (t es to end task m h)) in
      let none : looks_taken front ≡ [] =
      entries_see_none (runs_of own.privates) (word_place l ListLength) l.list.address count (Store (word_place l SentBase) base ∷ []) in
      let below : gate < tail_place = omega (arith, apart) in
      let ends = closing gate below front is_ordinary none index in
      let whole : es ≡ left.body ++ ends = left.effects ∙ ap (λ fs. left.body ++ fs) (closing_is task count base index on) in
      let words = each_store-front (λ a w. w < 0x10000) left.body ends (subst StoresWords whole h.of_words) in
      let low : next < tail_place = omega (arith, apart) in
      let made = task_advances gate below front is_ordinary none index x.fram inputs.looks left.body next (task % 65536) _ refl low
      (subst (λ l. FollowsSeeing Asks x.fram inputs.looks Open l Open) whole k) (no_closing left.body left.did.stores words)
      (ap next_index left.arrived) gate_open in
      (Before, subst (λ l. InOrder l Before) (sym whole) made, λ e. refl)
  task_in_order es (Gives w t) (returns v m) h on k = absurd h.well
  task_in_order es _ _ h on k = absurd h.agrees

  -- its effects take words of the ring in order, and freeze their count where it comes to a transition
  pub program_in_order : BlocksAgree → InputsAreWords inputs → l.runtime.events ≡ true → let q = (program_parts p l).body s.task x.fram inputs in
      (u : Taking) × InOrder q.effects u × (q.ends ≡ true → u ≡ Before)
  program_in_order agree small on =
      let w = started x.fram inputs in
      let b = behaviour program w in
      subst (λ q. let r = effects_of (behaviour q w) in (u : Taking) × InOrder r.effects u × (r.ends ≡ true → u ≡ Before))
      (sym (program_is p l s.task i own run.own_is))
      (task_in_order b.effects b.end (run_block (meanings p) code attempt) (meets agree small) on (program_asks program w))
