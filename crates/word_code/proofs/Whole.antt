-- The code of a word program does what the program does, within the cycles of the way that it takes.
use Rattle.word_code.proofs.Names.{top_of, instruction_of, Condition, Runs, ◌≤◌, R4, form_small, ◌≡◌, ℕ, ◌+◌, ◌-◌, ◌*◌, ◌<◌, Bool, true, false, not}
use Rattle.word_code.proofs.Names.{nat_lt, if◌then◌else◌, List, [], ◌∷◌, ◌++◌, length, Some, ◌≢◌, None, refl, sym, ap, subst, arith}
use Rattle.word_code.proofs.Names.{Effect, Core, Form, form_bytes, Move, Branch, Fram, ToFram, Stands, forms_bytes, stands_front, stands_back, forms_behind}
use Rattle.word_code.proofs.Names.{forms_bytes-append, Comparison, is_true, compare_words, Step, Test, Program, number, load, keep, update, local, set_local}
use Rattle.word_code.proofs.Names.{update_local, unary, binary, shift, long, element, emit_word, list_entry, versioned_read, versioned_write, versioned_update}
use Rattle.word_code.proofs.Names.{logged_write, logged_update}
use Rattle.word_code.proofs.Names.{next_event, freeze_events, sense, truth, choose, repeat, store_number, move_word, jump, holds, compares, both, either}
use Rattle.word_code.proofs.Names.{fails, nothing, step, WordState}
use Rattle.word_code.proofs.Names.{started, End, GoesOn, Jumps, Short, Strays, Broken, Behaviour, with_stack, with_local, with_top, with_two, is_place}
use Rattle.word_code.proofs.Names.{local_pushed, local_updated, number_pushed, way_by_top, way_by_two, step_behaviour, then_on, tested, behaviour, Place, start}
use Rattle.word_code.proofs.Names.{assigning, Moves, EachTurn, EachStepWay, EachTestWay, EachWay, StepSpares, TestSpares}
use Rattle.word_code.proofs.Names.{Spares, StepEachLocal, TestEachLocal, EachLocal, StepIsFormed, TestIsFormed, IsFormed, StepOfWords, TestOfWords, OfWords}
use Rattle.word_code.proofs.Names.{top_spent, spent_by_top}
use Rattle.word_code.proofs.Names.{spent_by_two, step_spent, spent_on, test_spent, spent, Matches, GoesWell, matches_local, start_matches, step_well, well}
use Rattle.word_code.proofs.Names.{whole_ends_soundly, local_words, words_step, words, Leaves, leaves, Bound, Waiting, number_source, flushed, below_top, kept}
use Rattle.word_code.proofs.Names.{top_to_four, entry_code, compare_form, holding, failing, size, pass_over, decision, holds_code, compares_code, truth_code}
use Rattle.word_code.proofs.Names.{number_code, turns_code, waiting_behind, waiting_after, bound_of, step_code, test_code, steps_code, block_code}
use Rattle.word_code.proofs.Names.{ComesTo, CodeDoesAsProgram, locals_of, stack_base, stack_set, stack_cycles, code_of, code_spent}
use Rattle.word_code.proofs.Names.{IsWhole, IsEntry, get_or, StepRoutinesStand, TestRoutinesStand, RoutinesStand, call, give, Gives, called}
use Rattle.word_code.proofs.Names.{called_behind, entry_place, routine_code, light_call, framed_call, length-append}
use Rattle.word_code.proofs.Names.{Code, anywhere, IsKept, rules_of, KeepsWithin, CodeKeepsToTheStack, IsInStack, stack_top}
use Rattle.array_versions.specs.Laws.{IsStateOfWords, EndsInWords, IsSound}
use Rattle.array_versions.specs.msp_step.msp_isa.declared.instructions.Condition.TheVariants as condition
use Rattle.array_versions.specs.msp_step.msp_isa.declared.operands.Konst.TheVariants as konst
use Rattle.word_code.specs.declared.waiting.Waiting.TheVariants as waiting
use Rattle.word_code.proofs.Registers.{Has, Holds, jump_to}
use Rattle.word_code.proofs.Jumps.{Decided, whole_size, stands_low, pass_part}
use Rattle.word_code.proofs.Memory.{AreWords, Owns, OutsideFrame, local_words as register_words, place_is, assigned_same}
use Rattle.word_code.proofs.Results.{gathered, Does, number_part, load_part, local_by, keep_reaches, update_reaches, set_reaches, update_local_reaches}
use Rattle.word_code.proofs.Results.{unary_part, binary_part, shift_reaches, element_reaches, emit_reaches, read_reaches, write_reaches, sense_part, alone_part}
use Rattle.word_code.proofs.Operands.{owed, owed_kept, load_owed, Describes, dressed, flush_part, top_to_four_part}
use Rattle.word_code.proofs.Sides.{Aiming, compare_sides_part, compare_stays, reading_cycles, side_owed}
use Rattle.word_code.specs.Code.{is_turned, compare_sides, compare_source}
use Rattle.word_code.proofs.Stretches.{Setting, bounds_of, runs_on, nothing_run, dearer}
use Rattle.word_code.proofs.Locals.{at_base, uncalled, uncalled_owns, HasStack, stack_part}
use Rattle.word_code.proofs.Calls.{Popped, popped, front_words, enters, enters_words, callee, light_reaches, give_part}
use Rattle.word_code.proofs.Frames.{framed_reaches}
use Rattle.word_code.proofs.Follows.{StandsFor, Follows, FollowsEnd, OnGoesOn, more_cycles, then_hop, ends_at, guarded, reach_more, reach_way, reaches}
use Rattle.word_code.proofs.Follows.{then_end, then_follows, reach_guarded}
use Rattle.word_code.proofs.Parts.{constant_part, store_part, move_part, jump_part}
use Rattle.word_code.proofs.Choices.{Fork, fork_at, fork_turned, fork_both, fork_either, Forked, forked_behind, decided_follows, zero_test, holds_part}
use Rattle.word_code.proofs.Choices.{compares_part}
use Rattle.word_code.proofs.Loops.{loop_by}
use Rattle.word_code.proofs.Access.{entry_part}
use Rattle.word_code.proofs.LoopBounds.{Bounded, Spared, spared_so, bounded_with, bounded_on, step_bounded}
use Rattle.word_code.proofs.VersionUpdates.{in_place_reaches}
use Rattle.word_code.proofs.Logged.{logged_write_reaches, logged_update_reaches}
use Rattle.word_code.proofs.Events.{look_small, event_part, freeze_part}
use Rattle.word_code.proofs.LongResults.{long_reaches}

-- a state from which what follows is fit, which holds words, and in which the local of each loop around is below its number
pub record Ready (bs : List Bound) (next : Place → Type 0) (w : WordState) : Type 0 where
  pub place : Place
  pub fit : next place
  pub matches : Matches place w
  pub words_in : IsStateOfWords w
  pub bounded : Bounded bs w.locals

pub ready_on : (gives : Bool) (bs : List Bound) (next : Place → Type 0) (e : End) → GoesWell gives next e → EndsInWords e
    → OnGoesOn (λ v. Bounded bs v.locals) e
    → OnGoesOn (Ready bs next) e
ready_on gives bs next (GoesOn w) g h b = record { place = g.0; fit = g.1; matches = g.2; words_in = h; bounded = b }
ready_on gives bs next _ g h b = tt

-- the same with the word of a local
pub ready_with : (gives : Bool) (bs : List Bound) (next : Place → Type 0) (n k : ℕ) (e : End) → GoesWell gives next e → EndsInWords e
    → OnGoesOn (λ v. Bounded bs v.locals) e
    → Leaves n (Some k) e → OnGoesOn (λ v. Ready bs next v × (v.locals n ≡ Some k)) e
ready_with gives bs next n k (GoesOn w) g h b l = (record { place = g.0; fit = g.1; matches = g.2; words_in = h; bounded = b }, l)
ready_with gives bs next n k _ g h b l = tt

-- what is left where so many words are taken
pub ready_popped : (bs : List Bound) (next : Place → Type 0) (q : Place) (n : ℕ) (w : WordState) (us : List ℕ) → next (record q { depth = q.depth - n + 0 })
    → Matches q w → IsStateOfWords w → Bounded bs w.locals → length us + n ≡ length w.stack → AreWords us → Ready bs next (with_stack us w)
ready_popped bs next q n w us f m h b e l =
    record {
      place = record q { depth = q.depth - n + 0 };
      fit = f;
      matches = record { depth = omega (arith, e, m.depth); assigned = m.assigned };
      words_in = record { stack = l; locals = h.locals; fram = h.fram; inputs = h.inputs };
      bounded = b;
    }

-- a turn of a loop begins: its local has this word, which is below its number
pub turn_ready : (bs : List Bound) (next : Place → Type 0) (n k below : ℕ) (w : WordState) → Ready bs (λ q. next (assigning n q)) w → Spared bs (λ m. n ≢ m)
    → k < 0x10000 → k < below → Ready (bound_of n below ∷ bs) next (with_local n k w)
turn_ready bs next n k below w r spared small less =
    record {
      place = assigning n r.place;
      fit = r.fit;
      matches = matches_local r.place w n k r.matches;
      words_in = local_words w n k r.words_in small;
      bounded = (record { word = k; has = assigned_same w.locals n k; less = less }, bounded_with bs w.locals n k spared r.bounded);
    }

-- one way on from a test: where it leads to, the places that it fits, what is spent there and what is done
record Way : Type 1 where
  at : ℕ
  fits : Place → Type 0
  cost : WordState → ℕ
  does : WordState → Behaviour

-- what is known beforehand of a part of a program: its numbers are words, its locals are its own, its loops count and what it calls may be called, the code of
-- that stands, and it spares the numbers of the loops around
pub record Known (words locals forms code spared : Type 0) : Type 0 where
  pub of_words : words
  pub owned : locals
  pub formed : forms
  pub routines : code
  pub spares : spared

-- of one part, and of the other, where it is known of both
pub known_first : {A B C D E F G H : Type 0} (S T : ℕ → Type 0) (bs : List Bound)
    → Known (A × B) (C × D) (E × F) (G × H) (Spared bs (λ n. S n × T n)) → Known A C E G (Spared bs S)
known_first S T bs k =
    record {
      of_words = k.of_words.0;
      owned = k.owned.0;
      formed = k.formed.0;
      routines = k.routines.0;
      spares = spared_so bs (λ n. S n × T n) S (λ n q. q.0) k.spares;
    }

pub known_second : {A B C D E F G H : Type 0} (S T : ℕ → Type 0) (bs : List Bound)
    → Known (A × B) (C × D) (E × F) (G × H) (Spared bs (λ n. S n × T n)) → Known B D F H (Spared bs T)
known_second S T bs k =
    record {
      of_words = k.of_words.1;
      owned = k.owned.1;
      formed = k.formed.1;
      routines = k.routines.1;
      spares = spared_so bs (λ n. S n × T n) T (λ n q. q.1) k.spares;
    }

module _ (z : Setting) where
  -- 1 is pushed, and the jump leads past the other number
  pub one_pushed : (pc : ℕ) (w : WordState) (u : Core) → Stands z.code pc truth_code → length w.stack < z.room → StandsFor z pc w u
      → Follows z (pc + 6) 5 u (number_pushed 1 w)
  one_pushed pc w u h l i =
      let high = (z.tidy (pc + 2) _ h.1.0).high in
      runs_on z (constant_part z konst.One pc w u l (h.0, tt) i) (λ t j. jump_to z condition.Always 1 (pc + 2) (pc + 6) true _ t h.1.0 refl (omega arith) j)

  -- 0 is pushed
  pub zero_pushed : (pc : ℕ) (w : WordState) (u : Core) → Stands z.code pc truth_code → length w.stack < z.room → StandsFor z (pc + 4) w u
      → Follows z (pc + 6) 3 u (number_pushed 0 w)
  zero_pushed pc w u h l i =
      ends_at z (pc + 4 + 2) (pc + 6) 3 u (number_pushed 0 w) (omega arith)
      (constant_part z konst.Zero (pc + 4) w u l (forms_behind z.code pc 2 truth_code h) i)

  -- from states that it fits, code follows a way
  abbrev Continues : List Bound → ℕ → Way → Type 0
  Continues bs end way = (v : WordState) (x : Core) → Ready bs way.fits v → StandsFor z way.at v x → Follows z end (way.cost v) x (way.does v)

  -- both ways on from a test, to one end
  record Ways (bs : List Bound) : Type 1 where
    end : ℕ
    held : Way
    failed : Way
    if_held : Continues bs end held
    if_failed : Continues bs end failed

  -- an instruction that asks words in registers, and the flags of its answer
  record Asking : Type 0 where
    form : Form
    answer : Bool
    reads : ℕ
    met : Condition
    opposite : Condition

  -- behind a program whose word or words decide
  module _ (bs : List Bound) (when : Bool) (d : ℕ) (ways : Ways bs) where
    -- words in registers, an instruction that asks them, and the jump by its answer
    module _ (front : List Form) (k : Asking) (pc : ℕ)
        (s : Forked z when d pc (front ++ (k.form ∷ decision when d k.met k.opposite)) ways.held.at ways.failed.at) where
      by_form : {l : ℕ} (P : ℕ → Core → Type 0) (most : ℕ) (t : WordState) (u : Core)
          → l + k.reads + 5 + (if k.answer then ways.held.cost t else ways.failed.cost t) ≤ most → Ready bs ways.held.fits t → Ready bs ways.failed.fits t
          → (let mid = pc + forms_bytes front in (Stands z.code pc front → Runs z.kept [] l u (P mid))
          → ((q : Core) → z.code.at mid ≡ Some (instruction_of k.form) → P mid q
          → Runs z.kept [] k.reads q (Decided z (mid + form_bytes k.form) t k.answer k.met k.opposite))
          → Follows z ways.end most u (if k.answer then ways.held.does t else ways.failed.does t))
      by_form {l} P most t u le on off come asks =
          let last = decision when d k.met k.opposite in
          let mid = pc + forms_bytes front in
          let b : Behaviour = if k.answer then ways.held.does t else ways.failed.does t in
          let back = forked_behind z when d pc front (k.form ∷ last) ways.held.at ways.failed.at s in
          let high = (z.tidy mid _ back.stands.0).high in
          let behind : mid + forms_bytes (k.form ∷ last) ≡ mid + form_bytes k.form + forms_bytes last = omega arith in
          let low : mid + form_bytes k.form < 0x10000 = omega (arith, form_small k.form, high) in
          let jump : Forked z when d (mid + form_bytes k.form) last ways.held.at ways.failed.at =
          record { stands = back.stands.1; fork = subst (Fork when d ways.held.at ways.failed.at) behind back.fork } in
          more_cycles z ways.end (l + k.reads + 5 + (if k.answer then ways.held.cost t else ways.failed.cost t)) most u b.effects b.end le
          (decided_follows z jump low k.answer (l + k.reads) ways.end (ways.held.cost t) (ways.failed.cost t) t u (ways.held.does t) (ways.failed.does t)
          (runs_on z (come (stands_front z.code pc front (k.form ∷ last) s.stands)) (λ q j. asks q back.stands.0 j))
          (λ x j. ways.if_held t x on j) (λ x j. ways.if_failed t x off j))

    by_top : (os : List Waiting) (pc : ℕ) (w : WordState) (u : Core) (vs : List ℕ)
        → Forked z when d pc (holds_code os when d) ways.held.at ways.failed.at → Ready bs (Moves z.room 1 0 (λ r. ways.held.fits r × ways.failed.fits r)) w
        → w.stack ≡ vs
        → Describes z os pc w u → Follows z ways.end
        (owed os + (8 + top_spent vs (λ v us. if is_true v then ways.held.cost (with_stack us w) else ways.failed.cost (with_stack us w)))) u
        (with_top vs (λ v us. if is_true v then ways.held.does (with_stack us w) else ways.failed.does (with_stack us w)))
    by_top os pc w u [] k r e i = tt
    by_top os pc w u (v ∷ us) k r e i =
        let t = with_stack us w in
        let words = subst (AreWords) e r.words_in.stack in
        let left : length us + 1 ≡ length w.stack = omega (arith, ap (length {A = ℕ}) e) in
        let popped : (next : Place → Type 0) → next (record r.place { depth = r.place.depth - 1 + 0 }) → Ready bs next t =
        λ next f. ready_popped bs next r.place 1 w us f r.matches r.words_in r.bounded left words.1 in
        let ks = kept (below_top os) in
        let front = top_to_four os ++ flushed ks in
        let mid = pc + forms_bytes front in
        let most = owed os + (8 + (if is_true v then ways.held.cost t else ways.failed.cost t)) in
        let ask : Asking = record { form = zero_test z; answer = is_true v; reads = 1; met = condition.NotEqual; opposite = condition.Equal } in
        by_form front ask pc k (λ p. Has z R4 p t v) most t u (omega (arith, owed_kept (below_top os), load_owed os)) (popped ways.held.fits r.fit.2.0)
        (popped ways.failed.fits r.fit.2.1) (λ s. gathered z (top_to_four os) ks pc s (λ s. top_to_four_part z os pc w v us u e s i))
        (λ q s j. holds_part z mid v t q words.0 s j)

    by_two : (os : List Waiting) (c : Comparison) (pc : ℕ) (w : WordState) (u : Core) (vs : List ℕ)
        → Forked z when d pc (compares_code os c when d) ways.held.at ways.failed.at
        → Ready bs (Moves z.room 2 0 (λ r. ways.held.fits r × ways.failed.fits r)) w → w.stack ≡ vs
        → Describes z os pc w u → Follows z ways.end (owed os + (10 + top_spent vs
        (λ y xs. top_spent xs (λ x us. if compare_words c x y then ways.held.cost (with_stack us w) else ways.failed.cost (with_stack us w))))) u
        (with_two vs (λ x y us. if compare_words c x y then ways.held.does (with_stack us w) else ways.failed.does (with_stack us w)))
    by_two os c pc w u [] k r e i = tt
    by_two os c pc w u (y ∷ []) k r e i = tt
    by_two os c pc w u (y ∷ (x ∷ us)) k r e i =
        let t = with_stack us w in
        let words = subst (AreWords) e r.words_in.stack in
        let left : length us + 2 ≡ length w.stack = omega (arith, ap (length {A = ℕ}) e) in
        let popped : (next : Place → Type 0) → next (record r.place { depth = r.place.depth - 2 + 0 }) → Ready bs next t =
        λ next f. ready_popped bs next r.place 2 w us f r.matches r.words_in r.bounded left words.1.1 in
        let under = below_top os in
        let ks = kept (below_top under) in
        let stay = compare_stays (is_turned c) (top_of os) in
        let from = compare_source c (top_of os) in
        let front = compare_sides c os ++ flushed ks in
        let mid = pc + forms_bytes front in
        let most = owed os + (10 + (if compare_words c x y then ways.held.cost t else ways.failed.cost t)) in
        let ask : Asking = record {
          form = compare_form c from;
          answer = compare_words c x y;
          reads = reading_cycles stay;
          met = holding c;
          opposite = failing c;
        } in
        by_form front ask pc k (λ p. Holds z (Aiming true from x y w.fram) p t) most t u
        (omega (arith, owed_kept (below_top under), side_owed stay os, load_owed under)) (popped ways.held.fits r.fit.2.0) (popped ways.failed.fits r.fit.2.1)
        (λ s. gathered z (compare_sides c os) ks pc s (λ s. compare_sides_part z c os pc w x y us u e s i))
        (λ q s j. compares_part z c (top_of os) mid x y t q words.1.0 words.0 s j)

  -- behind steps with no word waiting in front of them, code that takes those that wait behind them
  leaf_follows : (bs : List Bound) (p : Program) (next : Place → Type 0) (pc end : ℕ) (cost : WordState → ℕ) (go : WordState → Behaviour) (w : WordState)
      (u : Core) → (let os = waiting_after [] p in let at = pc + forms_bytes (steps_code bs [] p) in let b = behaviour p w in Does z os at (spent p w + 0) u b
      → OnGoesOn (Ready bs next) b.end → ((x : Core) (v : WordState) → Ready bs next v → Describes z os at v x → Follows z end (owed os + cost v) x (go v))
      → Follows z end (spent p w + spent_on b.end cost) u (then_on b go))
  leaf_follows bs p next pc end cost go w u a r f =
      let os = waiting_after [] p in
      let at = pc + forms_bytes (steps_code bs [] p) in
      let b = behaviour p w in
      let all = then_on b go in
      let most = spent p w + 0 + spent_on b.end cost in
      more_cycles z end most (spent p w + spent_on b.end cost) u all.effects all.end (omega arith)
      (then_follows z 0 end most (StandsFor z end) u all.effects all.end (reach_way z (owed os) 0 (Describes z os at) (StandsFor z end) (spent p w + 0) cost u
      (Ready bs next) b.effects b.end go a r (λ x v q d. reaches z (StandsFor z end) end (owed os + cost v) x (go v).effects (go v).end (λ s t i. i)
      (f x v q d))) (λ t s i. nothing_run z i))

  -- steps with no word waiting in front of them, and then those that wait behind them are pushed
  block_follows : (bs : List Bound) (p : Program) (pc : ℕ) (w : WordState) (u : Core) → Stands z.code pc (block_code bs p)
      → (Stands z.code pc (steps_code bs [] p) → Does z (waiting_after [] p) (pc + forms_bytes (steps_code bs [] p)) (spent p w + 0) u (behaviour p w))
      → Follows z (pc + forms_bytes (block_code bs p)) (spent p w) u (behaviour p w)
  block_follows bs p pc w u h f =
      let a = steps_code bs [] p in
      let os = waiting_after [] p in
      let mid = pc + forms_bytes a in
      let b = behaviour p w in
      ends_at z (mid + forms_bytes (flushed os)) (pc + forms_bytes (block_code bs p)) (spent p w) u b (omega (arith, forms_bytes-append a (flushed os)))
      (then_follows z (owed os) (mid + forms_bytes (flushed os)) (spent p w) (Describes z os mid) u b.effects b.end
      (reach_more z (owed os) (Describes z os mid) (spent p w + 0) (spent p w) u b.effects b.end (omega arith)
      (f (stands_front z.code pc a (flushed os) h)))
      (λ t v d. flush_part z os mid v t d (stands_back z.code pc a (flushed os) h)))

  abbrev pub KnownStep : List Bound → Step → Type 0
  KnownStep bs first =
      Known (StepOfWords first) (StepEachLocal (Owns z) first) (StepIsFormed (bounds_of z) z.gives first) (StepRoutinesStand z.code first)
      (Spared bs (λ n. StepSpares n first))

  abbrev pub KnownTest : List Bound → Test → Type 0
  KnownTest bs t =
      Known (TestOfWords t) (TestEachLocal (Owns z) t) (TestIsFormed (bounds_of z) z.gives t) (TestRoutinesStand z.code t) (Spared bs (λ n. TestSpares n t))

  abbrev pub KnownProgram : List Bound → Program → Type 0
  KnownProgram bs p =
      Known (OfWords p) (EachLocal (Owns z) p) (IsFormed (bounds_of z) z.gives p) (RoutinesStand z.code p) (Spared bs (λ n. Spares n p))

-- the word that is given has room
pub call_room : (z : Setting) (q : Place) (count : ℕ) (w : WordState) (p : Popped count w.stack)
    → (length w.stack ≡ q.depth) × (q.depth - count + 1 ≤ z.room) → length p.rest < z.room
call_room z q count w p h = omega (arith, h.0, h.1, ap (length {A = ℕ}) p.is, length-append p.words p.rest, p.count)

-- the body of a function that is called begins with its parameters
pub call_ready : (first count room : ℕ) (body : Program) (w : WordState) (p : Popped count w.stack) → EachWay room body (λ q. ⊥) (entry_place first count)
    → IsStateOfWords w → Ready [] (EachWay room body (λ q. ⊥)) (called first p.words w)
call_ready first count room body w p ways words_in =
    record {
      place = entry_place first count;
      fit = ways;
      matches = subst (λ n. Matches (entry_place first n) (called first p.words w)) p.count (enters first p.words w);
      words_in = enters_words first p.words w (front_words p.words p.rest (subst AreWords p.is words_in.stack)) words_in;
      bounded = tt;
    }

-- a function that is called runs in a setting of its own
mutual
  pub step_follows : (z : Setting) (bs : List Bound) (first : Step) (next : Place → Type 0) (os : List Waiting) (pc : ℕ) (w : WordState) (u : Core)
      → Ready bs (EachStepWay z.room first next) w → KnownStep z bs first → Stands z.code pc (step_code bs os first) → Describes z os pc w u
      → Does z (waiting_behind os first) (pc + forms_bytes (step_code bs os first)) (step_spent first w + owed os) u (step_behaviour first w)
  step_follows z bs (number v) next os pc w u r known h d = number_part z v os pc w u (omega (arith, r.fit.1, r.matches.depth)) d
  step_follows z bs (load a) next os pc w u r known h d =
      let after = waiting.Fram a ∷ os in
      reach_guarded z (is_place a) (owed after) (Describes z after (pc + 0)) (5 + owed os) u _
      (λ e. load_part z a os pc w u (omega (arith, r.fit.1, r.matches.depth)) (place_is a e) d)
  step_follows z bs (keep a) next os pc w u r known h d = keep_reaches z a os pc w w.stack u refl h d
  step_follows z bs (update op a) next os pc w u r known h d = update_reaches z op a os pc w w.stack u (r.words_in.fram a) refl r.words_in.stack h d
  step_follows z bs (local n) next os pc w u r known h d =
      let x = r.matches.assigned n r.fit.0 in
      let f = r.fit.1 in
      let after = waiting_behind os (local n) in
      let end = pc + forms_bytes (step_code bs os (local n)) in
      subst (λ v. Does z after end (5 + owed os) u (local_pushed v w)) (sym x.is)
      (local_by z (nat_lt n 8) n x.word os pc w u refl (omega (arith, f.1, r.matches.depth)) known.owned x.is h d)
  step_follows z bs (set_local n) next os pc w u r known h d = set_reaches z n os pc w w.stack u known.owned refl h d
  step_follows z bs (update_local op n) next os pc w u r known h d =
      let x = r.matches.assigned n r.fit.0 in
      let end = pc + forms_bytes (step_code bs os (update_local op n)) in
      subst (λ v. Does z [] end (10 + owed os) u (with_top w.stack (λ y us. local_updated op n y v (with_stack us w)))) (sym x.is)
      (update_local_reaches z op n x.word os pc w w.stack u known.owned x.is (r.words_in.locals n x.word x.is) (refl, r.words_in.stack) h d)
  step_follows z bs (unary op) next os pc w u r known h d = unary_part z op os pc w w.stack u refl r.words_in.stack h d
  step_follows z bs (binary op) next os pc w u r known h d = binary_part z op os pc w w.stack u refl r.words_in.stack h d
  step_follows z bs (shift op k) next os pc w u r known h d = shift_reaches z op k os pc w w.stack u refl r.words_in.stack h d
  step_follows z bs (long op) next os pc w u r known h d =
      long_reaches z op os pc w w.stack u refl r.words_in.stack (omega (arith, r.fit.1, r.matches.depth)) h d
  step_follows z bs (element base size) next os pc w u r known h d =
      element_reaches z bs base size os pc w w.stack u known.of_words.1 r.bounded refl r.words_in.stack h d
  step_follows z bs (emit_word count buffer) next os pc w u r known h d = emit_reaches z count buffer os pc w w.stack u refl h d
  step_follows z bs (list_entry count list home copy n) next os pc w u r known h d =
      alone_part z os (entry_code count list home copy n) 26 pc w u (step_behaviour (list_entry count list home copy n) w) h d
      (λ t s i. entry_part z count list home copy n (pc + forms_bytes (flushed os)) w t s i)
  step_follows z bs (versioned_read place list) next os pc w u r known h d =
      read_reaches z bs place list os pc w w.stack u known.of_words.0.3 r.words_in.fram r.bounded (refl, r.words_in.stack) h d
  step_follows z bs (versioned_write place list) next os pc w u r known h d =
      write_reaches z bs place list os pc w w.stack u known.of_words.0.3 r.words_in.fram r.bounded (refl, r.words_in.stack) h d
  step_follows z bs (versioned_update op place list) next os pc w u r known h d =
      in_place_reaches z op place list known.of_words.0.3 bs os pc w w.stack u r.words_in.fram r.bounded refl r.words_in.stack h d
  step_follows z bs (logged_write place list) next os pc w u r known h d =
      logged_write_reaches z bs place list known.of_words.0.2 os pc w u r.words_in.fram r.bounded w.stack (refl, r.words_in.stack) h d
  step_follows z bs (logged_update op place list) next os pc w u r known h d =
      logged_update_reaches z bs place list known.of_words.0.2 os pc w u r.words_in.fram r.bounded op w.stack (refl, r.words_in.stack) h d
  step_follows z bs sense next os pc w u r known h d = sense_part z os pc w w.inputs.readings u (omega (arith, r.fit.1, r.matches.depth)) refl h d
  step_follows z bs next_event next os pc w u r known h d =
      event_part z os pc w u (omega (arith, r.fit.1, r.matches.depth)) (look_small w.inputs.looks r.words_in.inputs.looks) h d
  step_follows z bs freeze_events next os pc w u r known h d = freeze_part z os pc w u h d
  step_follows z bs (truth t) next os pc w u r known h d =
      let a = test_code bs t false 2 in
      let at = pc + forms_bytes (flushed os) in
      let inside = at + forms_bytes a in
      let pushes = Moves z.room 0 1 next in
      alone_part z os (a ++ truth_code) (step_spent (truth t) w) pc w u (step_behaviour (truth t) w) h d (λ x s i.
      let ha = stands_back z.code at a truth_code s in
      let high = (z.tidy (inside + 2) _ ha.1.0).high in
      let ways : Ways z bs = record {
        end = inside + 6;
        held = record { at = inside; fits = pushes; cost = λ v. 5; does = number_pushed 1 };
        failed = record { at = inside + 4; fits = pushes; cost = λ v. 3; does = number_pushed 0 };
        if_held = λ v y q j. one_pushed z inside v y ha (omega (arith, q.fit.1, q.matches.depth)) j;
        if_failed = λ v y q j. zero_pushed z inside v y ha (omega (arith, q.fit.1, q.matches.depth)) j;
      } in
      let fork : Fork false 2 inside (inside + 4) inside = record { holds = refl; fails = refl; room = λ low. omega arith } in
      ends_at z (inside + 6) (at + forms_bytes (a ++ truth_code)) (step_spent (truth t) w) x (step_behaviour (truth t) w)
      (omega (arith, forms_bytes-append a truth_code))
      (test_follows z bs t false 2 at ways w x r known (record { stands = stands_front z.code at a truth_code s; fork = fork }) i))
  step_follows z bs (choose t taken otherwise) next os pc w u r known h d =
      let taken_spares = spared_so bs (λ m. StepSpares m (choose t taken otherwise)) (λ m. Spares m taken) (λ m k. k.1) known.spares in
      let taken_known : KnownProgram z bs taken =
      record { of_words = known.of_words.1; owned = known.owned.1; formed = known.formed.1; routines = known.routines.1; spares = taken_spares } in
      let other_spares = spared_so bs (λ m. StepSpares m (choose t taken otherwise)) (λ m. Spares m otherwise) (λ m k. k.2) known.spares in
      let other_known : KnownProgram z bs otherwise =
      record { of_words = known.of_words.2; owned = known.owned.2; formed = known.formed.2; routines = known.routines.2; spares = other_spares } in
      let b = block_code bs taken in
      let other = block_code bs otherwise in
      let over = pass_over (size other) in
      let first = b ++ over in
      let a = test_code bs t false (size first) in
      let at = pc + forms_bytes (flushed os) in
      let inside = at + forms_bytes a in
      let middle = inside + forms_bytes first in
      let end = middle + forms_bytes other in
      alone_part z os (a ++ (first ++ other)) (step_spent (choose t taken otherwise) w) pc w u (step_behaviour (choose t taken otherwise) w) h d (λ x s i.
      let hb = stands_back z.code at a (first ++ other) s in
      let hf = stands_front z.code inside first other hb in
      let ho = stands_back z.code inside first other hb in
      let fork : Fork false (size first) inside middle inside = record {
        holds = refl;
        fails = omega (arith, whole_size first);
        room = λ low. omega (arith, stands_low z inside first hf low, whole_size first);
      } in
      let ways : Ways z bs = record {
        end = end;
        held = record { at = inside; fits = EachWay z.room taken next; cost = λ v. spent taken v + 3; does = behaviour taken };
        failed = record { at = middle; fits = EachWay z.room otherwise next; cost = spent otherwise; does = behaviour otherwise };
        if_held = λ v y q j. then_hop z (inside + forms_bytes b) end (spent taken v) 3 y (behaviour taken v).effects (behaviour taken v).end
            (block_follows z bs taken inside v y (stands_front z.code inside b over hf)
            (λ hs. steps_follow z bs taken next [] inside v y q taken_known hs (dressed z inside v y j)))
            (λ s' y' k. pass_part z (inside + forms_bytes b) (size other) end y' s' (stands_back z.code inside b over hf)
            (omega (arith, whole_size other, forms_bytes-append b over))
            (λ low. stands_low z middle other ho (omega (arith, low, forms_bytes-append b over))) k);
        if_failed = λ v y q j. block_follows z bs otherwise middle v y ho
            (λ hs. steps_follow z bs otherwise next [] middle v y q other_known hs (dressed z middle v y j));
      } in
      let test_spares = spared_so bs (λ m. StepSpares m (choose t taken otherwise)) (λ m. TestSpares m t) (λ m q. q.0) known.spares in
      let test_known : KnownTest z bs t =
      record { of_words = known.of_words.0; owned = known.owned.0; formed = known.formed.0; routines = known.routines.0; spares = test_spares } in
      ends_at z end (at + forms_bytes (a ++ (first ++ other))) (step_spent (choose t taken otherwise) w) x
      (step_behaviour (choose t taken otherwise) w) (omega (arith, forms_bytes-append a (first ++ other), forms_bytes-append first other))
      (test_follows z bs t false (size first) at ways w x r test_known (record { stands = stands_front z.code at a (first ++ other) s; fork = fork }) i))
  step_follows z bs (repeat n from below body) next os pc w u r known h d =
      let inner = bound_of n below ∷ bs in
      let start = number_code n from in
      let made = block_code inner body in
      let at = pc + forms_bytes (flushed os) in
      let top = at + forms_bytes start in
      let turn : ℕ → Place → Type 0 = λ m. EachTurn m n (EachWay z.room body) next in
      let rest : List Form = if nat_lt from below then turns_code n below made else [] in
      let others = spared_so bs (λ m. StepSpares m (repeat n from below body)) (λ m. n ≢ m) (λ m q. q.0) known.spares in
      let around = spared_so bs (λ m. StepSpares m (repeat n from below body)) (λ m. Spares m body) (λ m q. q.1) known.spares in
      alone_part z os (start ++ rest) (step_spent (repeat n from below body) w) pc w u (step_behaviour (repeat n from below body) w) h d (λ x hs i.
      loop_by z made at n from below (spent body) (behaviour body) (λ m s. Ready bs (turn m) s) (nat_lt from below) w x refl known.owned.0 known.of_words.2
      hs i r
      (λ stands m k s t p less j. block_follows z inner body top (with_local n k s) t stands (λ hb.
      steps_follow z inner body (turn m) [] top (with_local n k s) t
      (turn_ready bs (EachWay z.room body (turn m)) n k below s p others (let x = known.of_words.2 in omega arith) less)
      (record { of_words = known.of_words.3; owned = known.owned.1; formed = known.formed.1; routines = known.routines; spares = (known.formed.0, around) }) hb
      (dressed z top (with_local n k s) t j)))
      (λ m k s p less. ready_with z.gives bs (turn m) n k (behaviour body (with_local n k s)).end
      (well (bounds_of z) z.gives z.room body known.formed.1 (turn m) (assigning n p.place) (with_local n k s) p.fit (matches_local p.place s n k p.matches))
      (words body (with_local n k s) known.of_words.3 (local_words s n k p.words_in (let x = known.of_words.2 in omega arith)))
      (bounded_on bs body (with_local n k s) around (bounded_with bs s.locals n k others p.bounded))
      (leaves n (Some k) body (with_local n k s) known.formed.0 (assigned_same s.locals n k))))
  step_follows z bs (store_number a v) next os pc w u r known h d =
      alone_part z os (Move (number_source v) (ToFram a) ∷ []) 5 pc w u (step_behaviour (store_number a v) w) h d
      (λ t s i. store_part z a v (pc + forms_bytes (flushed os)) w t s i)
  step_follows z bs (move_word from to) next os pc w u r known h d =
      let at = pc + forms_bytes (flushed os) in
      alone_part z os (Move (Fram from) (ToFram to) ∷ []) 6 pc w u (step_behaviour (move_word from to) w) h d
      (λ t s i. guarded z (is_place from) (at + 6) 6 t _ (λ e. move_part z from to at w t (place_is from e) s i))
  step_follows z bs (jump to) next os pc w u r known h d =
      alone_part z os (Branch to ∷ []) 3 pc w u (step_behaviour (jump to) w) h d
      (λ t s i. jump_part z to (pc + forms_bytes (flushed os)) w t r.fit s i)
  step_follows z bs (call entry None first count body) next os pc w u r known h d =
      let x = known.formed in
      let p = popped count w.stack (omega (arith, r.fit.0, r.matches.depth)) in
      let s = called first p.words w in
      let b = behaviour body s in
      let last = entry + forms_bytes (routine_code body) in
      let end = pc + forms_bytes (light_call entry first count os) in
      subst (λ c. Does z (waiting.R4 ∷ []) end c u (step_behaviour (call entry None first count body) w))
      (ap (λ c. 8 + 2 * count + c + owed os) (sym (p.spends (λ words. spent body (called first words w)))))
      (subst (λ a. Does z (waiting.R4 ∷ []) end (8 + 2 * count + spent body s + owed os) u a)
      (sym (p.does (λ words vs. called_behind (with_stack vs w) (behaviour body (called first words w)))))
      (light_reaches z first count body x entry last (spent body s) pc os w b u p known.routines.0 (call_room z r.place count w p (r.matches.depth, r.fit.1))
      (λ top t e i. let y = callee z None first count body x top t e in
      block_follows y [] body entry s t known.routines.1 (λ hs. steps_follow y [] body (λ q. ⊥) [] entry s t
      (call_ready first count x.room body w p x.ways r.words_in)
      (record { of_words = known.of_words.4; owned = x.locals; formed = x.deeper; routines = known.routines.2; spares = tt }) hs
      (dressed y entry s t i))) h d))
  step_follows z bs (call entry (Some f) first count body) next os pc w u r known h d =
      let x = known.formed in
      let p = popped count w.stack (omega (arith, r.fit.0, r.matches.depth)) in
      let s = called first p.words w in
      let b = behaviour body s in
      let last = entry + forms_bytes (routine_code body) in
      let end = pc + forms_bytes (framed_call entry f first count os) in
      subst (λ c. Does z (waiting.R4 ∷ []) end c u (step_behaviour (call entry (Some f) first count body) w))
      (ap (λ c. 16 + 5 * count + c + owed os) (sym (p.spends (λ words. spent body (called first words w)))))
      (subst (λ a. Does z (waiting.R4 ∷ []) end (16 + 5 * count + spent body s + owed os) u a)
      (sym (p.does (λ words vs. called_behind (with_stack vs w) (behaviour body (called first words w)))))
      (framed_reaches z f first count body x entry last (spent body s) pc os w b u p known.routines.0 (call_room z r.place count w p (r.matches.depth, r.fit.1))
      (λ top t e i. let y = callee z (Some f) first count body x top t e in
      block_follows y [] body entry s t known.routines.1 (λ hs. steps_follow y [] body (λ q. ⊥) [] entry s t
      (call_ready first count x.room body w p x.ways r.words_in)
      (record { of_words = known.of_words.4; owned = x.locals; formed = x.deeper; routines = known.routines.2; spares = tt }) hs
      (dressed y entry s t i))) h d))
  step_follows z bs give next os pc w u r known h d =
      give_part z os pc w w.stack u known.formed refl (omega (arith, r.fit, r.matches.depth)) h d

  test_follows : (z : Setting) (bs : List Bound) (t : Test) (when : Bool) (d pc : ℕ) (ways : Ways z bs) (w : WordState) (u : Core)
      → Ready bs (EachTestWay z.room t ways.held.fits ways.failed.fits) w
      → KnownTest z bs t → Forked z when d pc (test_code bs t when d) ways.held.at ways.failed.at → StandsFor z pc w u
      → Follows z ways.end (test_spent t ways.held.cost ways.failed.cost w) u (tested t ways.held.does ways.failed.does w)
  test_follows z bs (holds p) when d pc ways w u r known k i =
      let a = steps_code bs [] p in
      let os = waiting_after [] p in
      let last = holds_code os when d in
      let next = Moves z.room 1 0 (λ s. ways.held.fits s × ways.failed.fits s) in
      leaf_follows z bs p next pc ways.end (λ v. 8 + spent_by_top ways.held.cost ways.failed.cost v) (way_by_top ways.held.does ways.failed.does) w u
      (steps_follow z bs p next [] pc w u r known (stands_front z.code pc a last k.stands) (dressed z pc w u i))
      (ready_on z.gives bs next (behaviour p w).end (well (bounds_of z) z.gives z.room p known.formed next r.place w r.fit r.matches)
      (words p w known.of_words r.words_in)
      (bounded_on bs p w known.spares r.bounded))
      (λ x v q j. by_top z bs when d ways os (pc + forms_bytes a) v x v.stack (forked_behind z when d pc a last ways.held.at ways.failed.at k) q refl j)
  test_follows z bs (compares e p) when d pc ways w u r known k i =
      let a = steps_code bs [] p in
      let os = waiting_after [] p in
      let last = compares_code os e when d in
      let next = Moves z.room 2 0 (λ s. ways.held.fits s × ways.failed.fits s) in
      leaf_follows z bs p next pc ways.end (λ v. 10 + spent_by_two e ways.held.cost ways.failed.cost v) (way_by_two e ways.held.does ways.failed.does) w u
      (steps_follow z bs p next [] pc w u r known (stands_front z.code pc a last k.stands) (dressed z pc w u i))
      (ready_on z.gives bs next (behaviour p w).end (well (bounds_of z) z.gives z.room p known.formed next r.place w r.fit r.matches)
      (words p w known.of_words r.words_in)
      (bounded_on bs p w known.spares r.bounded))
      (λ x v q j. by_two z bs when d ways os e (pc + forms_bytes a) v x v.stack (forked_behind z when d pc a last ways.held.at ways.failed.at k) q refl j)
  test_follows z bs (both t e) when d pc ways w u r known k i =
      let second = test_code bs e when d in
      let first = test_code bs t false (size second + (if not when then d else 0)) in
      let middle = pc + forms_bytes first in
      let back = forked_behind z when d pc first second ways.held.at ways.failed.at k in
      let counted = fork_at when d ways.held.at ways.failed.at (middle + forms_bytes second) (middle + 2 * size second) (omega (arith, whole_size second))
      back.fork in
      let low : middle < 0x10000 → middle + 2 * size second < 0x10000 =
      λ less. omega (arith, stands_low z middle second back.stands less, whole_size second) in
      let cost = test_spent e ways.held.cost ways.failed.cost in
      let inner : Way = record {
        at = middle;
        fits = EachTestWay z.room e ways.held.fits ways.failed.fits;
        cost = cost;
        does = tested e ways.held.does ways.failed.does;
      } in
      let inner_known : KnownTest z bs e = known_second (λ n. TestSpares n t) (λ n. TestSpares n e) bs known in
      let first_known : KnownTest z bs t = known_first (λ n. TestSpares n t) (λ n. TestSpares n e) bs known in
      test_follows z bs t false (size second + (if not when then d else 0)) pc (record {
        end = ways.end;
        held = inner;
        failed = ways.failed;
        if_held = λ v x q j. test_follows z bs e when d middle ways v x q inner_known back j;
        if_failed = ways.if_failed;
      }) w u r first_known
      (record {
        stands = stands_front z.code pc first second k.stands;
        fork = fork_both when d (size second) ways.held.at ways.failed.at middle low counted;
      }) i
  test_follows z bs (either t e) when d pc ways w u r known k i =
      let second = test_code bs e when d in
      let first = test_code bs t true (size second + (if when then d else 0)) in
      let middle = pc + forms_bytes first in
      let back = forked_behind z when d pc first second ways.held.at ways.failed.at k in
      let counted = fork_at when d ways.held.at ways.failed.at (middle + forms_bytes second) (middle + 2 * size second) (omega (arith, whole_size second))
      back.fork in
      let low : middle < 0x10000 → middle + 2 * size second < 0x10000 =
      λ less. omega (arith, stands_low z middle second back.stands less, whole_size second) in
      let cost = test_spent e ways.held.cost ways.failed.cost in
      let inner : Way = record {
        at = middle;
        fits = EachTestWay z.room e ways.held.fits ways.failed.fits;
        cost = cost;
        does = tested e ways.held.does ways.failed.does;
      } in
      let inner_known : KnownTest z bs e = known_second (λ n. TestSpares n t) (λ n. TestSpares n e) bs known in
      let first_known : KnownTest z bs t = known_first (λ n. TestSpares n t) (λ n. TestSpares n e) bs known in
      test_follows z bs t true (size second + (if when then d else 0)) pc (record {
        end = ways.end;
        held = ways.held;
        failed = inner;
        if_held = ways.if_held;
        if_failed = λ v x q j. test_follows z bs e when d middle ways v x q inner_known back j;
      }) w u r first_known
      (record {
        stands = stands_front z.code pc first second k.stands;
        fork = fork_either when d (size second) ways.held.at ways.failed.at middle low counted;
      }) i
  test_follows z bs (fails t) when d pc ways w u r known k i =
      test_follows z bs t (not when) d pc
      (record { end = ways.end; held = ways.failed; failed = ways.held; if_held = ways.if_failed; if_failed = ways.if_held }) w u r known
      (record { stands = k.stands; fork = fork_turned when d ways.held.at ways.failed.at _ k.fork }) i

  steps_follow : (z : Setting) (bs : List Bound) (p : Program) (next : Place → Type 0) (os : List Waiting) (pc : ℕ) (w : WordState) (u : Core)
      → Ready bs (EachWay z.room p next) w → KnownProgram z bs p → Stands z.code pc (steps_code bs os p) → Describes z os pc w u
      → Does z (waiting_after os p) (pc + forms_bytes (steps_code bs os p)) (spent p w + owed os) u (behaviour p w)
  steps_follow z bs nothing next os pc w u r known h d =
      let e : pc ≡ pc + 0 = omega arith in
      record { spent = 0; within = omega arith; runs = nothing_run z (subst (λ n. Describes z os n w u) e d) }
  steps_follow z bs (step first more) next os pc w u r known h d =
      let a = step_code bs os first in
      let mid = waiting_behind os first in
      let rest = steps_code bs mid more in
      let b = step_behaviour first w in
      let pc' = pc + forms_bytes a in
      let end = pc' + forms_bytes rest in
      let after = waiting_after mid more in
      let all = behaviour (step first more) w in
      let first_known : KnownStep z bs first = known_first (λ n. StepSpares n first) (λ n. Spares n more) bs known in
      let more_known : KnownProgram z bs more = known_second (λ n. StepSpares n first) (λ n. Spares n more) bs known in
      let there : end ≡ pc + forms_bytes (a ++ rest) = omega (arith, forms_bytes-append a rest) in
      subst (λ p. Does z after p (spent (step first more) w + owed os) u all) there
      (reach_more z (owed after) (Describes z after end) (step_spent first w + owed os + spent_on b.end (spent more)) (spent (step first more) w + owed os) u
      all.effects all.end (omega arith)
      (reach_way z (owed mid) (owed after) (Describes z mid pc') (Describes z after end) (step_spent first w + owed os) (spent more) u
      (Ready bs (EachWay z.room more next)) b.effects b.end (behaviour more)
      (step_follows z bs first (EachWay z.room more next) os pc w u r first_known (stands_front z.code pc a rest h) d)
      (ready_on z.gives bs (EachWay z.room more next) b.end
      (step_well (bounds_of z) z.gives z.room first first_known.formed (EachWay z.room more next) r.place w r.fit r.matches)
      (words_step first w first_known.of_words r.words_in) (step_bounded bs first w first_known.spares r.bounded))
      (λ t v q j. reach_more z (owed after) (Describes z after end) (spent more v + owed mid) (owed mid + spent more v) t (behaviour more v).effects
      (behaviour more v).end (omega arith)
      (steps_follow z bs more next mid pc' v t q more_known
      (stands_back z.code pc a rest h) j))))

-- a whole program with its place in code, and where its stack begins
module _ (z : Setting) (p : Program) (whole : IsWhole p) (of_words : OfWords p) (owned : EachLocal (Owns z) p) (room : whole.room ≡ z.room)
    (formed : IsFormed (bounds_of z) z.gives p × RoutinesStand z.code p)
    (entry_outside : (a : ℕ) → z.top ≤ a → OutsideFrame z a → z.entered.sp ≤ a) where
  by_end : (pc most : ℕ) (u : Core) (es : List Effect) (e : End) → FollowsEnd z pc most u es e → IsSound e → ComesTo z.kept most u es e
  by_end pc most u es (GoesOn w) a g = g
  by_end pc most u es (Jumps to w) a g = a
  by_end pc most u es (Gives v w) a g = g
  by_end pc most u es Short a g = a
  by_end pc most u es Strays a g = tt
  by_end pc most u es Broken a g = g

  -- the machine whose stack is there stands for the state at the start
  pub begun : (mid : ℕ) (t : Core) → (let u = z.entered in HasStack mid z.top u t → StandsFor z mid (started u.fram u.inputs) t)
  begun mid t k =
      record {
        at = k.at;
        memory =
            record {
              depth = omega (arith, k.sp);
              fits = omega arith;
              stack = tt;
              vars = λ n v own q. absurd (let q' = q in (cc));
              keeps =
                  record {
                    ram_words = λ a from out. k.ram a (entry_outside a from out);
                    registers = λ n from few. ap (λ (f : ℕ → ℕ). get_or (register_words f) n 0) k.work;
                  };
            };
        fram = k.fram;
        inputs = k.inputs;
      }

  -- behind what sets its stack the code does what the program does
  steps_do : (at mid : ℕ) → Stands z.code mid (block_code [] p) → (let u = z.entered in IsEntry at u
      → Runs z.kept [] stack_cycles u (HasStack mid z.top u)
      → let s = started u.fram u.inputs in let b = behaviour p s in ComesTo z.kept (code_spent p s) u b.effects b.end)
  steps_do at mid h entry set =
      let u = z.entered in
      let s = started u.fram u.inputs in
      let b = behaviour p s in
      let end = mid + forms_bytes (block_code [] p) in
      let r : Ready [] (EachWay z.room p (λ q. ⊥)) s = record {
        place = start;
        fit = subst (λ n. EachWay n p (λ q. ⊥) start) room whole.ways;
        matches = start_matches u.fram u.inputs;
        words_in = record { stack = tt; locals = λ n v q. absurd (let q' = q in (cc)); fram = entry.fram; inputs = entry.inputs };
        bounded = tt;
      } in
      by_end end (code_spent p s) u b.effects b.end
      (then_end z end (spent p s) b.effects b.end set (λ t k. block_follows z [] p mid s t h
      (λ hs. steps_follow z [] p (λ q. ⊥) [] mid s t r
      (record { of_words = of_words; owned = owned; formed = formed.0; routines = formed.1; spares = tt }) hs (dressed z mid s t (begun mid t k)))))
      (whole_ends_soundly p u.fram u.inputs whole)

-- the code does what the program does, behind what sets its stack where a local stands in RAM
pub code_keeps_to_the_stack : CodeKeepsToTheStack
code_keeps_to_the_stack code at p u tidy h routines whole keeps o entry =
    let b = at_base p whole in
    let z = uncalled code tidy u p whole keeps b in
    let locals = locals_of p in
    let top = stack_base locals in
    let front = stack_set locals in
    let mid = at + forms_bytes front in
    let sp = entry.sp in let roomy = b.roomy.fits in let deep = b.deep in
    let inside : IsInStack top = record { low = omega arith; high = omega arith } in
    let stays : IsKept (rules_of code) top =
    (let floor = whole.floor in let low = keeps.low in let high = keeps.high in (omega arith, omega arith)) in
    let set : Runs code [] stack_cycles u (HasStack mid top u) =
    subst (λ n. Runs code [] stack_cycles u (HasStack (n + forms_bytes front) top u)) entry.pc
    (stack_part z locals u inside stays sp (subst (λ n. Stands code.code n front) (sym entry.pc) (stands_front code.code at front (block_code [] p) h))) in
    steps_do z p whole o (uncalled_owns code tidy u p whole keeps b) refl (whole.formed, routines)
    (λ a from out. (let up : stack_top ≤ a = out from in omega (arith, sp, up))) at mid
    (stands_back code.code at front (block_code [] p) h) entry set

-- wherever it is to keep its stack
pub keeps_anywhere : (code : Code) (p : Program) (whole : IsWhole p) → KeepsWithin (anywhere code) p whole
keeps_anywhere code p whole = record { low = omega arith; high = omega arith }

pub code_does_as_program : CodeDoesAsProgram
code_does_as_program code at p u tidy h routines whole o entry =
    code_keeps_to_the_stack (anywhere code) at p u tidy h routines whole (keeps_anywhere code p whole) o entry
