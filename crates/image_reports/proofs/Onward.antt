-- At each front of a run of an accepted text's image, from any world that belongs to the image.
use Rattle.image_reports.proofs.Names.{◌≡◌, ◌≢◌, ℕ, zero, suc, ◌+◌, ◌%◌, ◌<◌, ◌≤◌, true, false, refl, sym, ap, ◌∙◌, subst, arith, List, [], ◌∷◌, ◌++◌, length}
use Rattle.std.proofs.lemmas.Option.{same_Some}
use Rattle.image_reports.proofs.Names.{Some, append_assoc, encoding, MachineBoard, placed_at, IsPoweredFrom, Shows, StandsAs, outside_with, steady_low}
use Rattle.image_reports.proofs.Names.{NoneServes}
use Rattle.image_reports.proofs.Names.{Serves, program_steps, world_with, EventsHold, HasRoom, StepsOn, BoardValue, PowerState, powered, started, filled}
use Rattle.image_reports.proofs.Names.{BoardCharge, PowerUp, Moment}
use Rattle.image_reports.proofs.Names.{RunOutcome, World, fram_after, going, continued, fram_of, last_board, words_of, CheckedProgram, State, IsAcceptedText}
use Rattle.image_reports.proofs.Names.{map_of, Gate, Version, MemoryMap, word_place, IsElsewhere, Model, ModelLaws, History, first_history, Program}
use Rattle.image_reports.proofs.Names.{Origin, Phase, UndecidedPhase, DecidedPhase, CommittingPhase, Begins, world_fram, never_lost}
use Rattle.image_reports.proofs.Names.{sent_once, pending_sends, stops_short, stores_only, outside_of, IsMomentFrom, PowersUp, Instructs, AreMoments}
use Rattle.image_reports.proofs.Names.{AreInstructionMoments, IsRunOfWords, BearsModel, stood, AtFront, at_front, powers_up, starts_hold}
use Rattle.image_reports.proofs.Names.{Bool, IsFirstWithin, task_costs, cost_of, cost_due, charges_pay}
use Rattle.image_reports.proofs.Names.{fronts_are_lawful, HoldsWords, IsSound, SoundAtRest, SoundPending, each_weaker, program_places}
use Rattle.image_reports.proofs.Names.{redo_model, compiled_model, start_under, is_redo, under_map, KeepsCapacities, KeepsVersions}
use Rattle.image_reports.proofs.Names.{phase_keeps_versions, capacities_are_kept, source_code, placed_code, compiled_program, code_is_placed}
use Rattle.image_reports.proofs.Names.{power_ups_raise_version, scripts_store_below, at_first, EachChargePays, runtime_marks, VersionsBelow, KeepsCode}
use Rattle.image_reports.proofs.Names.{IsRaisedSoon, RaisesVersion, known_from, HoldsFrom, ImageValue, StandsFor}
use Rattle.std.proofs.lemmas.Bool.{and_parts}
use Rattle.event_places.specs.Places.{answer_place, handler_place, is_ring}
use Rattle.std.specs.Prelude.{if◌then◌else◌, None}
use Rattle.stands_for.specs.Program.{answer_word}
use Rattle.msp_isa.specs.declared.instructions.Instr.{Instr}
use Rattle.msp_step.specs.Registers.{registers_of}
use Rattle.msp_step.specs.Step.{is_interruptible, off_bit}
use Rattle.fram_board.specs.Events.{is_full}
use Rattle.fram_board.specs.Board.{is_accepting, IsNextInstruction}
use Rattle.fram_board.specs.Saved.{TakesNextBehind}
use Rattle.fram_board.specs.Steps.{IsPowerState}
use Rattle.fram_board.proofs.Interface.{fill_is_a_power_state}
use Rattle.std.proofs.Common.{⊎_elim}
use Rattle.runtime_effects.specs.Needs.{IsEventWord}
use Rattle.compiled_model.specs.Needs.{StoresBelow}
use Rattle.crash_rules.specs.Laws.{Pending, FollowsScript, AcceptedWords}
use Rattle.crash_rules.specs.Model.{IsBetween}
use Rattle.fram_board.specs.Run.{accepted_words}
use Rattle.machine_effects.specs.World.{readings_taken}
use Rattle.machine_effects.specs.View.{IsWhole}
use Rattle.boot_runtime.specs.Entries.{task_entries}
use Rattle.boot_runtime.specs.Listing.{privates_in}
use Rattle.machine_effects.specs.Machine.{is_prepared}
use Rattle.memory_map.specs.MemoryMap.{with_events}
use Rattle.event_handler.specs.Handler.{Stage}
use Rattle.event_handler.specs.Boundaries.{IsInterrupted, IsInHandler}
use Rattle.event_handler.proofs.Interface.{handler_goes_on}
use Rattle.program_view.specs.Stands.{AtCode}
use Rattle.program_view.specs.Stands as stance
use Rattle.program_view.proofs.Interface.{stands_fram, handler_is_high}
use Rattle.run_charges.specs.Laws.{IsProgramRun}
use Rattle.run_charges.specs.View.{looks_in}
use Rattle.run_charges.specs.Moments.{BeginWithPower}
use Rattle.run_charges.proofs.Interface.{follows_keeps, are_behind, front_moments, run_front, PlacedProgram, Machine, nothing_seen, is_powered, is_powered_from}
use Rattle.run_charges.proofs.Interface.{no_instruction, last-append, sees, reach, leads, reached_on, powered_there, Counts, moments_count}
use Rattle.board_run.specs.Events.{NeverReads, hand_after, head_of, no_hand}
use Rattle.model_runs.specs.EventLaws.{StartsWith}
use Rattle.model_runs.proofs.Interface.{moments_wait, never_reads, runs_so, runs_alone}
use Rattle.memory_map.specs.declared.runtime.Logging.TheVariants.{Redo, Undo}
use Rattle.memory_map.specs.declared.runtime.Logging.{Logging}
use Rattle.memory_map.specs.declared.runtime.Role.{Role}
use Rattle.compiled_model.specs.Parts.{start_of as start_due}
use Rattle.image_reports.specs.ImageLaw.{InCode, AtAcceptance, InHandler}
use Rattle.charge_limits.specs.Laws.{readings_from, words_offered, words_from}
use Rattle.image_reports.proofs.Begins.{holds_as, Beginning, first_world, first_board, begins, bears}
use Rattle.image_reports.proofs.HandlerWords.{stage_holds}
use Rattle.image_reports.proofs.Accounted.{moments_account}
use Rattle.image_reports.proofs.Cuts.{CutAtPower, Uncut, Cut, cut_at_power, none_serves, own_part, ring_stays}
use Rattle.image_reports.proofs.Cuts.{encoding_has_words, prepared_bounds, handler_is_closed, two_less}
use Rattle.image_reports.proofs.Stacks.{may_stand, goes_by_code, steps_made, stack_is_kept, before_code_end}
use Rattle.image_reports.proofs.Opens.{opens as machine_opens}
use Rattle.linked_code.specs.Watch.{keeps_stacks}
use Rattle.compiled_runs.specs.Program.{stack_lows}
use Rattle.image_reports.specs.ImageLaw.{StackIsKept, StaysOpen, RingsHold, AnswersHold}
use Rattle.image_reports.proofs.Names.{append-nil, laid_out, MapValue, Marks}
use Rattle.std.specs.Prelude.{map}
use Rattle.crash_rules.specs.History.{Done}
use Rattle.run_charges.specs.Charges.{observed}
use Rattle.source_runs.specs.Tells.{CommittedAttempt, attempts_of, no_answers}
use Rattle.source_runs.specs.Transitions.{committed_by}
use Rattle.source_runs.specs.Sources.{IsOfSource}
use Rattle.source_runs.proofs.Interface.{read_off}
use Rattle.task_attempts.proofs.Interface.{scripts_in_order}
use Rattle.event_rules.specs.Rings.{KeepsRing}
use Rattle.event_rules.specs.Taking.{Before, ScriptsTakeInOrder, EachFollows}
use Rattle.event_rules.proofs.Interface.{runs_take_in_order, ring_holds_accepted}
use Rattle.event_orders.specs.Answers.{AnswersInOrder}
use Rattle.event_orders.specs.Waiting.{words_behind, TakesInOrder}
use Rattle.event_orders.specs.Laws.{TakesEvents}
use Rattle.event_orders.proofs.Interface.{rings_keep_order}
use Rattle.charge_limits.proofs.Interface.{readings_are_few, words_are_few}
use Rattle.image_reports.proofs.Capacities.{attempts_fit}
use Rattle.image_reports.proofs.CompiledTold.{models_are_of_sources}
use Rattle.image_reports.proofs.Told.{source}
use Rattle.compiled_runs.proofs.Interface.{by_redo, by_undo}
use Rattle.image_reports.specs.ImageLaw.{due_in_place}
use Rattle.image_reports.proofs.ImageStart.{versions_below}
use Rattle.image_reports.proofs.InPlace.{below_in_place}
use Rattle.image_reports.proofs.Untouched.{NeverThere, untouched}
use Rattle.image_reports.proofs.ImageCode.{GoesOn, StopsAtReadings, StandsOn, stands_on, stops_next, IsWithin, placed_within, same_words, words_fetched}

-- a word that isn't 65535 is below it
below_end : (n : ℕ) → n < 0x10000 → n ≢ 0xFFFF → n < 0xFFFF
below_end n l h = omega (arith, l, h)

-- the first ones of instructions are instructions
front_are : (ms rest : List Moment) → AreInstructionMoments (ms ++ rest) → AreInstructionMoments ms
front_are [] rest are = tt
front_are (m ∷ ms) rest are = (are.0, front_are ms rest are.1)

-- what a run stands for is sound
pub phase_sound : (p : CheckedProgram) (l : MemoryMap) → l.runtime.logging ≡ Redo → ModelLaws (compiled_model p l) → (readings : List ℕ)
    (origin : Origin State) (s : State) (h : History) → Phase (compiled_model p l) readings origin s h → IsSound (program_places p l) h.world
phase_sound p l logs laws readings origin s h phase =
    let P : Model State → Type 0 = λ m. ModelLaws m → Phase m readings origin s h → IsSound (program_places p l) h.world in
    subst P (sym (is_redo p l logs)) under_redo laws phase
  where
    under_redo : ModelLaws (redo_model p l) → Phase (redo_model p l) readings origin s h → IsSound (program_places p l) h.world
    under_redo own (UndecidedPhase d settled w) =
        let o = w.is_open in
        let cur = o.current_task in let task = o.is_task in
        SoundAtRest (record {
          words = o.words;
          current_task = omega (arith, cur, task);
          gate = o.gate;
          base = o.base ∙ ap (λ (ws : List ℕ). length ws % 0x10000) (sym o.accepted);
          versions = o.versions;
        })
    under_redo own (DecidedPhase next d t w) = SoundPending (own.decided_committing s next h.world w).pending
    under_redo own (CommittingPhase d k n w) = SoundPending w.pending

-- the answers of dones are those of their attempts
answers_of_dones : (ds : List Done) → map (λ (d : Done). d.answers) ds ≡ map (λ (a : CommittedAttempt). a.answers) (committed_by ds)
answers_of_dones [] = refl
answers_of_dones (d ∷ ds) = ap (λ (rest : List (List ℕ)). d.answers ∷ rest) (answers_of_dones ds)

-- What holds at each boundary between two steps of a run that goes on so, for either runtime; some of it where the runtime works in copies alone.
pub record Front (p : CheckedProgram) (l : MemoryMap) (image : ImageValue) (x : World) (origin : Origin State) (readings : List ℕ) (b : BoardValue)
    (ms : List Moment) (h : History) : Type 0 where
  pub whole : IsWhole b
  pub fram : h.world.fram ≡ (outside_of b).fram
  pub words : h.world.accepted ≡ x.accepted ++ accepted_words ms
  pub number : TakesNextBehind h.world.accepted b.receiver
  pub taken : h.taken ≡ b.taken
  pub effects : FollowsScript (compiled_model p l) readings h
  pub stands : StandsFor (compiled_model p l) readings origin h
  pub never_lost : h.decided ≡ true → ((outside_of b).fram (word_place l Gate) ≡ 1)
      × ((s : State) → (compiled_model p l).Undecided s h.world → ⊥)
  pub accepted : AcceptedWords (compiled_model p l) readings origin h stands.state h.decided
  pub takes_few : length (readings_taken h.effects) ≤ readings_from p l h.start.fram
  pub offers_few : length (words_offered h.effects) ≤ words_from p l origin h.completed stands.state
  pub sent : (to : State) → origin ≡ Pending to → h.completed ≡ [] → IsBetween x.accepted to.emitted h.world.accepted
  pub versions : l.runtime.logging ≡ Redo → h.effects ≡ start_due l h.start.fram → VersionsBelow l (outside_of b).fram
  pub versions_in_place : l.runtime.logging ≡ Undo → h.start.fram (word_place l Gate) ≡ 0 → h.effects ≡ due_in_place p l h.booted h.start.fram
      → VersionsBelow l (outside_of b).fram
  pub code : KeepsCode p l image h.world.fram
  pub capacities : KeepsCapacities l h.world.fram
  pub stack : StackIsKept p l b
  pub sound : l.runtime.logging ≡ Redo → IsSound (program_places p l) h.world
  pub kept : (a : ℕ) → l.boot.address ≤ a → (IsEventWord l a → ⊥) → (outside_of b).fram a ≡ x.fram a
  pub fetches : StepsOn p l image b
  pub events : EventsHold l b (hand_after (head_of image.map) ms no_hand)
  pub room : l.runtime.events ≡ true → HasRoom b

-- where it does, all that is said of a saved state's
pub holds_from : (p : CheckedProgram) (l : MemoryMap) (image : ImageValue) (x : World) (origin : Origin State) (readings : List ℕ) (b : BoardValue)
    (ms : List Moment) (h : History) → l.runtime.logging ≡ Redo → Front p l image x origin readings b ms h
    → HoldsFrom p l image x origin readings b ms h
holds_from p l image x origin readings b ms h redo k = record {
  whole = k.whole;
  fram = k.fram;
  words = k.words;
  number = k.number;
  taken = k.taken;
  effects = k.effects;
  stands = k.stands;
  never_lost = k.never_lost;
  accepted = k.accepted;
  takes_few = k.takes_few;
  offers_few = k.offers_few;
  sent = k.sent;
  versions = k.versions redo;
  belongs = record { code = k.code; capacities = k.capacities; sound = k.sound redo };
  stack = k.stack;
  kept = k.kept;
  fetches = k.fetches;
  events = k.events;
  room = k.room;
}

-- a run of an image from a world that has its code, and keeps to its capacities
pub record Onward : Type 0 where
  pub start : Beginning
  pub accepted : IsAcceptedText start.text start.program start.allow
  pub capacities : KeepsCapacities start.compiled.layout (world_with start.fram start.before).fram
  pub charges : List BoardCharge
  pub outcome : RunOutcome
  pub run : IsRunOfWords charges (started start.fram start.number start.readings start.events) outcome

module _ (onward : Onward) where
  open onward use {start as beginning, accepted as ok, capacities, charges as cs, outcome as r, run}
  open (onward.start) use {text, program as p, allow, image, logging, compiled as c, ready, new, fram, number, before, counted, code, origin, readings}

  abbrev l : MemoryMap
  l = c.layout

  abbrev model : Model State
  model = compiled_model p l

  abbrev program : Program
  program = compiled_program p l

  abbrev x : World
  x = first_world beginning

  abbrev b : BoardValue
  b = first_board beginning

  abbrev bearing : BearsModel model program readings origin x b
  bearing = bears beginning

  pub starts_with : StartsWith b x
  starts_with = record { fram = refl; accepted = omega (arith, counted); taken = refl; heard = refl }

  abbrev first : History
  first = first_history (runtime_marks l) x

  -- it is one of the program and its handler
  own : IsProgramRun cs b r
  own = runs_so model program readings origin x b bearing cs r run

  -- where the source takes no events the handler never runs, and nothing is read of EVENT
  no_answer : l.runtime.events ≡ false → answer_word l ≡ None
  no_answer off = ap (λ e. if e then Some answer_place else None) off

  alone : l.runtime.events ≡ false → NoneServes r.moments
  alone off = runs_alone model program readings origin x b bearing (no_answer off) cs r run

  pub unheard : l.runtime.events ≡ false → NeverReads r
  unheard off = never_reads model program readings origin x b bearing (no_answer off) cs r run refl

  -- a charge stops for want of a reading alone, wherever charges lead
  stops_at_readings : StopsAtReadings program (runtime_marks l) (outside_of b) first
  stops_at_readings es t k charged q up from n price e halted =
      let behind = powers_up model program readings origin x b bearing es t k charged q up from in
      (stops_short model program ready.model bearing.program readings origin q behind n price e halted).0

  -- no step stores on the code or behind it, but on the words that count events
  never_there : (a : ℕ) → l.boot.address ≤ a → (IsEventWord l a → ⊥) → NeverThere a program bearing.program.changes (runtime_marks l) (outside_of b) first
  never_there a from no_counter es t k charged q up there n =
      let P : ℕ → ℕ → Type 0 = StoresBelow l l.boot.address in
      let scripts = scripts_store_below p l ready.code.apart ready.stores in
      each_weaker P (IsElsewhere a)
      (λ d w h e. ⊎_elim {C = ⊥} (λ low. omega (arith, low, from, e)) (λ counter. no_counter (subst (IsEventWord l) e counter)) h) _
      (stores_only model program P ready.model bearing.program scripts readings origin q
      (powers_up model program readings origin x b bearing es t k charged q up there) n)

  abbrev on : PlacedProgram
  on = stood model program readings origin x b bearing

  abbrev IsReached : BoardValue → History → Type 0
  IsReached = AtFront model program readings origin x b bearing

  reached : (ms rest : List Moment) → r.moments ≡ ms ++ rest → IsReached (last_board b ms) (known_from l x ms)
  reached ms rest e = at_front model program readings origin x b bearing ms (run_front cs b r ms rest own e)

  -- how a board stands to the program's machine, which goes on there
  record Standing (t : BoardValue) : Type 0 where
    pub u : MachineBoard
    pub stands : StandsAs t u
    pub quiet : l.runtime.events ≡ false → is_interruptible u.registers ≡ false
    pub prepared : l.runtime.events ≡ true → is_interruptible u.registers ≡ true → is_prepared u ≡ true
    pub goes : GoesOn program u

  -- the first board is one that a power-up left
  begins_on : GoesOn program (outside_of b)
  begins_on es price e stops =
      let at = reached [] r.moments refl in
      let zero_fill = fill_is_a_power_state 0 (omega arith) in
      let up = is_powered on b (first_history (runtime_marks l) x) at.ready (filled 0) zero_fill [] nothing_seen in
      let from : IsPoweredFrom (outside_of b) (outside_of b) = record { fram = refl; readings = refl; looks = nothing_seen } in
      stops_at_readings [] (outside_of b) (first_history (runtime_marks l) x) (refl, refl) (outside_of b) up from 1 price e
      (ap (λ o. (continued o (going program.step zero)).status) stops)

  standing_first : Standing b
  standing_first = record {
    u = outside_of b;
    stands = AtCode (record { registers = refl; fram = refl; ram = λ a w l even e. same_Some _ w e; readings = refl; outnum = refl });
    quiet = λ off. refl;
    prepared = λ events accepts. absurd (cc accepts);
    goes = begins_on;
  }

  -- behind the steps of a charge
  module _ (t : BoardValue) (h : History) (at : IsReached t h) (power : PowerState) (powers : IsPowerState power) (steps : List Moment)
      (are : AreInstructionMoments steps) (moments : AreMoments (powered t power) steps) where
    abbrev machine : Machine on (last_board (powered t power) steps) []
    machine = (reach on t h at.ready power powers steps are moments).end

    goes_there : GoesOn program machine.u
    goes_there es price e stops =
        let looks = looks_in steps in
        let see = sees on t h at.ready power powers steps are moments in
        let begun = outside_with looks (powered t power) in
        let made = leads on t h at.ready power powers steps are moments in
        stops_at_readings at.charges at.end h at.charged begun (is_powered on t h at.ready power powers looks see)
        (powered_there on b first t h at begun (is_powered_from on t h at.ready power powers looks see)) (suc (program_steps steps)) price e
        (stops_next program.step (program_steps steps) begun machine.u es price e made stops)

    standing_in : Standing (last_board (powered t power) steps)
    standing_in =
        record { u = machine.u; stands = machine.stands; quiet = machine.quiet; prepared = machine.prepared; goes = goes_there }

  standing_behind : (t : BoardValue) (h : History) → IsReached t h → (boot : Moment) → boot.action ≡ PowerUp → IsMomentFrom t boot
      → (steps : List Moment) → AreInstructionMoments steps → AreMoments boot.after steps → Standing (last_board boot.after steps)
  standing_behind t h at boot up (Instructs i done current answer same is) steps are moments =
      absurd (let other = sym up ∙ ap (λ y. y.action) is in cc (other))
  standing_behind t h at boot up (Serves n done next answer served is) steps are moments =
      absurd (let other = sym up ∙ ap (λ y. y.action) is in cc (other))
  standing_behind t h at boot up (PowersUp power powers is) steps are moments =
      let P : Moment → Type 0 = λ y. AreMoments y.after steps → Standing (last_board y.after steps) in
      subst P (sym is) (standing_in t h at power powers steps are) moments

  -- before the first power-up
  none_yet : (ns : List Moment) → BeginWithPower ns → AreInstructionMoments ns → Standing (last_board b ns)
  none_yet [] by_power are = standing_first
  none_yet (m ∷ ns) by_power are = absurd (no_instruction m.action by_power are.0)

  standing_cut : (ms rest : List Moment) → r.moments ≡ ms ++ rest → CutAtPower ms → Standing (last_board b ms)
  standing_cut ms rest e (Uncut instructions) = none_yet ms (run_front cs b r ms rest own e).begins instructions
  standing_cut ms rest e (Cut before boot steps is up are) =
      let behind : r.moments ≡ before ++ (boot ∷ (steps ++ rest)) = e ∙ ap (λ q. q ++ rest) is ∙ append_assoc before (boot ∷ steps) rest in
      let moments = are_behind b before (boot ∷ steps) (subst (AreMoments b) is (front_moments b r ms rest own.moments e)) in
      let t = last_board b before in
      let h = known_from l x before in
      let at = reached_on on b first t boot.before h moments.0 (reached before (boot ∷ (steps ++ rest)) behind) in
      subst (λ q. Standing (last_board b q)) (sym is)
      (subst Standing (sym (last-append b before (boot ∷ steps))) (standing_behind boot.before h at boot up moments.1 steps are moments.2))

  standing : (ms rest : List Moment) → r.moments ≡ ms ++ rest → Standing (last_board b ms)
  standing ms rest e = standing_cut ms rest e (cut_at_power ms)

  -- a board in front of whose next step the program's machine stands as it shows
  module _ (t : BoardValue) (h : History) (at : IsReached t h) (st : Standing t) where
    -- the machine stands at the code
    stands : StandsOn (placed_code p l) st.u
    stands = stands_on (placed_code p l) st.u (goes_by_code (keeps_stacks l (stack_lows p l)) (placed_code p l) st.u st.goes)

    -- with SP in the stack of the task in whose code it is
    on_stack : keeps_stacks l (stack_lows p l) st.u.registers ≡ true
    on_stack = may_stand (keeps_stacks l (stack_lows p l)) (placed_code p l) st.u st.goes

    -- where the board shows it, its instruction is the board's
    module _ (shows : Shows t st.u) where
      abbrev pc : ℕ
      pc = registers_of t.cpu 0

      abbrev i : Instr
      i = stands.instruction

      there : placed_at l.boot.address (source_code p l) pc ≡ Some i
      there = subst (λ g. placed_at l.boot.address (source_code p l) (g 0) ≡ Some i) shows.registers stands.there

      here : IsWithin (outside_of t).fram l.boot.address (length (words_of (source_code p l))) pc i
      here =
          let placed = code_is_placed p l new.fits in
          placed_within (outside_of t).fram (source_code p l) l.boot.address pc i placed.instructions placed.even at.ready.holds there

      next_is : IsNextInstruction t i
      next_is =
          let placed = code_is_placed p l new.fits in
          let low = placed.low in
          let high = placed.high in
          let from = here.from in
          let to = here.to in
          record {
            on = subst (λ g. off_bit g ≡ 0) shows.registers stands.on;
            is = here.is;
            fetched = words_fetched t pc (encoding i) here.even (omega (arith, low, from)) (omega (arith, high, to))
                (holds_as (fram_of t.fram) (outside_of t).fram (encoding i) pc here.even
                (λ a even begin end. sym (steady_low (fram_of t.fram) a (omega (arith, high, to, end)))) here.holds);
          }

      code_next : is_accepting t ≡ false → StepsOn p l image t
      code_next none =
          let placed = code_is_placed p l new.fits in
          let image_has = placed_within (fram_of image.words) (source_code p l) l.boot.address pc i placed.instructions placed.even new.code there in
          InCode (record { instruction = i; next = (none, next_is); from = here.from; to = here.to; same = image_has.holds })

      -- an acceptance is due only where the source takes events
      takes_events : is_interruptible (registers_of t.cpu) ≡ true → (events : Bool) → l.runtime.events ≡ events → l.runtime.events ≡ true
      takes_events accepts true on = on
      takes_events accepts false off =
          let quiet : is_interruptible (registers_of t.cpu) ≡ false = subst (λ g. is_interruptible g ≡ false) shows.registers (st.quiet off) in
          absurd (cc (accepts, quiet))

      by_code : (accepts : Bool) → is_accepting t ≡ accepts → StepsOn p l image t
      by_code false none = code_next none
      by_code true due =
          let accepts = (and_parts (is_full t.line.port) (is_interruptible (registers_of t.cpu)) due).1 in
          let to = here.to in
          let some = encoding_has_words i in
          AtAcceptance (record { events = takes_events accepts l.runtime.events refl; next = due; from = here.from; to = omega (arith, to, some) })

      room_at_code : l.runtime.events ≡ true → HasRoom t
      room_at_code events accepts =
          let prepared = st.prepared events (subst (λ g. is_interruptible g ≡ true) (sym shows.registers) accepts) in
          subst (λ g. (0x1C20 ≤ g 1) × (g 1 ≤ 0x2400)) shows.registers (prepared_bounds st.u prepared)

    -- in the handler
    in_handler : (from : BoardValue) (stage : Stage) → IsInterrupted from → IsInHandler from stage t → (events : Bool) → l.runtime.events ≡ events
        → Shows from st.u → StepsOn p l image t
    in_handler from stage interrupted inside true events shows =
        let step = handler_goes_on from t stage interrupted inside in
        InHandler (record {
          events = events;
          at = stage;
          next = (step.none, step.next);
          there = inside.pc;
          same = stage_holds (fram_of image.words) (new.handler events) stage;
        })
    in_handler from stage interrupted inside false off shows =
        let accepts = (and_parts (is_full from.line.port) (is_interruptible (registers_of from.cpu)) interrupted.accepting).1 in
        let quiet : is_interruptible (registers_of from.cpu) ≡ false = subst (λ g. is_interruptible g ≡ false) shows.registers (st.quiet off) in
        absurd (cc (accepts, quiet))

    next_by : StandsAs t st.u → StepsOn p l image t
    next_by (AtCode shows) = by_code shows (is_accepting t) refl
    next_by (stance.InHandler from stage shows interrupted inside) = in_handler from stage interrupted inside l.runtime.events refl shows

    fetches : StepsOn p l image t
    fetches = next_by st.stands

    room_by : l.runtime.events ≡ true → StandsAs t st.u → HasRoom t
    room_by events (AtCode shows) = room_at_code shows events
    room_by events (stance.InHandler from stage shows interrupted inside) = λ accepts. absurd (handler_is_closed from t stage inside accepts)

    room : l.runtime.events ≡ true → HasRoom t
    room events = room_by events st.stands

    -- the handler is no code of a task
    kept_by : StandsAs t st.u → StackIsKept p l t
    kept_by (AtCode shows) k task place is_task is_place inside =
        stack_is_kept p l new.fits.rules (registers_of t.cpu) k task place is_task is_place inside
        (subst (λ g. keeps_stacks l (stack_lows p l) g ≡ true) shows.registers on_stack)
    kept_by (stance.InHandler from stage shows interrupted handles) k task place is_task is_place inside =
        let high = handler_is_high from stage t handles in
        let low = before_code_end p l new.fits.rules (registers_of t.cpu) k task place is_task is_place inside in
        let end = ready.code.apart.high in
        absurd (omega (arith, high, low, end))

    kept_stack : StackIsKept p l t
    kept_stack = kept_by st.stands

  -- at each front
  keeps_versions : (ms rest : List Moment) → r.moments ≡ ms ++ rest → KeepsVersions p l (known_from l x ms).world.fram
  keeps_versions ms rest e =
      let stands = (fronts_are_lawful model program readings origin x cs b r run bearing ms rest e).0.stands in
      phase_keeps_versions p l ready.code.apart readings origin stands.state (known_from l x ms) stands.phase

  -- and so at the last boot or done
  began : (ms rest : List Moment) → r.moments ≡ ms ++ rest → KeepsVersions p l (known_from l x ms).start.fram
  began ms rest e =
      starts_hold (λ w. KeepsVersions p l w.fram) (runtime_marks l) b (first_history (runtime_marks l) x) ms run.whole run.words
      (front_moments b r ms rest own.moments e) (keeps_versions [] r.moments refl)
      (λ ns more d. keeps_versions ns (more ++ rest) (e ∙ ap (λ q. q ++ rest) d ∙ append_assoc ns more rest))

  module _ (ms rest : List Moment) (e : r.moments ≡ ms ++ rest) where
    abbrev t : BoardValue
    t = last_board b ms

    abbrev h : History
    h = known_from l x ms

    at : IsReached t h
    at = reached ms rest e

    keeps_code : KeepsCode p l image (outside_of t).fram
    keeps_code = record {
      code = λ a even from to. same_words (outside_of t).fram (fram_of image.words) (words_of (source_code p l)) l.boot.address a at.ready.holds new.code
          (code_is_placed p l new.fits).even even from to;
      vector = at.ready.vector ∙ code.vector;
      handler = at.ready.handler;
    }

    -- each event that arose is accounted for
    events_hold : EventsHold l t (hand_after (head_of image.map) ms no_hand)
    events_hold =
        let moments = front_moments b r ms rest own.moments e in
        let counted = (moments_account (head_of image.map) b ms no_hand moments (record { unheard = refl; counted = refl })).counted in
        record {
          counted = omega (arith, counted);
          none = λ off. moments_wait b ms refl moments (none_serves ms rest (subst NoneServes e (alone off)));
        }

    keeps_capacities : KeepsCapacities l (outside_of t).fram
    keeps_capacities =
        capacities_are_kept program p l ready.code.apart (attempts_fit text p allow image ok c) readings origin x cs b r run bearing capacities
        ms rest e

    kept : (a : ℕ) → l.boot.address ≤ a → (IsEventWord l a → ⊥) → (outside_of t).fram a ≡ x.fram a
    kept a from no_counter =
        ap (λ f. f a) (sym at.fram)
        ∙ untouched a program bearing.program.changes (runtime_marks l) at.charges (outside_of b) at.end (first_history (runtime_marks l) x) h
        (never_there a from no_counter) at.charged

    pub front : Front p l image x origin readings t ms h
    front =
        let known = fronts_are_lawful model program readings origin x cs b r run bearing ms rest e in
        let lawful = known.0 in
        let same = known.1.fram in
        let first : Counts b (first_history (runtime_marks l) x) before =
        record { whole = run.whole; words = run.words; accepted = refl; count = starts_with.accepted; taken = refl } in
        let counts = moments_count (runtime_marks l) b (first_history (runtime_marks l) x) before ms first
        (front_moments b r ms rest own.moments e) in
        let Code : (ℕ → ℕ) → Type 0 = λ f. KeepsCode p l image f in
        let Capacities : (ℕ → ℕ) → Type 0 = λ f. KeepsCapacities l f in
        record {
          whole = at.ready.whole;
          fram = sym same;
          words = counts.accepted;
          number = subst (λ ws. TakesNextBehind ws t.receiver) (sym counts.accepted) counts.count;
          taken = counts.taken;
          effects = lawful.follows;
          stands = lawful.stands;
          never_lost = λ decided. let kept = never_lost model ready.model readings origin h lawful decided in
              (ap (λ f. f (word_place l Gate)) same ∙ kept.0, kept.1);
          accepted = sent_once model ready.model readings origin h lawful.stands;
          takes_few = readings_are_few p l readings h lawful.follows
              (λ undo. record { apart = ready.code.apart; laws = ready.model; origin = origin; stands = lawful.stands });
          offers_few = words_are_few p l (λ undo. ready.code.room) ready.model readings origin h lawful.follows lawful.stands;
          sent = λ to is none.
              let P : Origin State → Type 0 = λ o. Begins model readings o x (outside_of b) in
              pending_sends model program ready.model bearing.program readings to at.end h
              (record { world = x; start = outside_of b; begins = subst P is (begins beginning); charges = at.charges; leads = at.charged }) none;
          versions = λ redo made.
              let P : (ℕ → ℕ) → Type 0 = λ f. VersionsBelow l f in
              let Raised : Logging → Role → Type 0 = λ logging role. VersionsBelow l (fram_after (start_under logging l h.start.fram) h.start.fram) in
              let f : (outside_of t).fram ≡ fram_after (start_due l h.start.fram) h.start.fram =
              same ∙ ap (λ w. w.fram) lawful.world ∙ world_fram h.effects h.start ∙ ap (λ es. fram_after es h.start.fram) made in
              let kept = began ms rest e in
              subst P (sym f) (under_map l Raised redo (versions_below (program_places p l) ready.code.apart (privates_in (task_entries l))
              (by_redo p l redo ready.code).privates h.start.fram kept.versions (kept.words (word_place l Version))));
          versions_in_place = λ undo gate made.
              let P : (ℕ → ℕ) → Type 0 = λ f. VersionsBelow l f in
              let f : (outside_of t).fram ≡ fram_after (due_in_place p l h.booted h.start.fram) h.start.fram =
              same ∙ ap (λ w. w.fram) lawful.world ∙ world_fram h.effects h.start ∙ ap (λ es. fram_after es h.start.fram) made in
              subst P (sym f) (below_in_place p l undo ready.code.apart ready.code.room (by_undo p l undo ready.code).privates ready.model origin h.booted
              h.completed lawful.stands.state h.start lawful.stands.starts gate);
          code = subst Code same keeps_code;
          capacities = subst Capacities same keeps_capacities;
          stack = kept_stack t h at (standing ms rest e);
          sound = λ redo. phase_sound p l redo ready.model readings origin lawful.stands.state h lawful.stands.phase;
          kept = kept;
          fetches = fetches t h at (standing ms rest e);
          events = events_hold;
          room = room t h at (standing ms rest e);
        }

  -- VER is raised by the fifth instruction of a charge, the seventh where the source takes events; so where the runtime works in copies
  abbrev soon : ℕ
  soon = with_events l.runtime.events 2 + 5

  module _ (redo : l.runtime.logging ≡ Redo) (t : BoardValue) (h : History) (at : IsReached t h) (power : PowerState) (powers : IsPowerState power) where
    abbrev start : BoardValue
    start = powered t power

    raised_soon : (steps : List Moment) → AreMoments start steps → AreInstructionMoments steps → program_steps steps ≡ soon
        → (outside_of start).fram (word_place l Gate) ≡ 0 → (outside_of start).fram (word_place l Version) < 0xFFFF
        → (outside_of (last_board start steps)).fram (word_place l Version) ≡ (outside_of start).fram (word_place l Version) + 1
    raised_soon steps own_steps is many gate low =
        let looks = looks_in steps in
        let see = sees on t h at.ready power powers steps is own_steps in
        let begun = outside_with looks start in
        let made = leads on t h at.ready power powers steps is own_steps in
        let last = (reach on t h at.ready power powers steps is own_steps).end in
        ap (λ f. f (word_place l Version)) (sym (stands_fram (last_board start steps) last.u last.stands))
        ∙ power_ups_raise_version p l redo ready.code begun (is_powered on t h at.ready power powers looks see) gate low last.u
        (ap (λ n. (going program.step n begun).status) (sym many) ∙ made)

  -- what a charge that begins so owes
  abbrev RaisesFrom : List Moment → Moment → Type 0
  RaisesFrom steps boot = (outside_of boot.after).fram (word_place l Gate) ≡ 0 → (outside_of boot.after).fram (word_place l Version) ≢ 0xFFFF
      → IsRaisedSoon l boot.after steps

  -- a board on which a charge begins
  record BeginsCharge (t : BoardValue) : Type 0 where
    pub history : History
    pub at : IsReached t history
    pub fram_words : HoldsWords (outside_of t).fram

  few_steps : (events : Bool) → with_events events 2 + 5 ≤ 40
  few_steps true = omega arith
  few_steps false = omega arith

  raises_from : l.runtime.logging ≡ Redo → (t : BoardValue) → BeginsCharge t → (steps begun more : List Moment) → steps ≡ begun ++ more
      → program_steps begun ≡ soon → AreInstructionMoments begun → (boot : Moment) → boot.action ≡ PowerUp → IsMomentFrom t boot → AreMoments boot.after begun
      → RaisesFrom steps boot
  raises_from redo t from steps begun more cut many are boot up (Instructs i done current answer same is) moments =
      absurd (let other = sym up ∙ ap (λ y. y.action) is in cc (other))
  raises_from redo t from steps begun more cut many are boot up (Serves n done next answer served is) moments =
      absurd (let other = sym up ∙ ap (λ y. y.action) is in cc (other))
  raises_from redo t from steps begun more cut many are boot up (PowersUp power powers is) moments =
      let P : Moment → Type 0 = λ y. AreMoments y.after begun → RaisesFrom steps y in
      let few = few_steps l.runtime.events in
      subst P (sym is)
      (λ own_steps gate end. record {
        first = begun;
        rest = more;
        are = cut;
        soon = omega (arith, many, few);
        raised = raised_soon redo t from.history from.at power powers begun own_steps are many gate (below_end _ (from.fram_words (word_place l Version)) end);
      }) moments

  pub raises : l.runtime.logging ≡ Redo → RaisesVersion l r.moments
  raises redo ms steps rest boot e up are many =
      let few = few_steps l.runtime.events in
      let part = own_part soon steps (omega (arith, many, few)) in
      let begun = part.first in
      let more = part.rest in
      let behind : r.moments ≡ ms ++ (boot ∷ (begun ++ (more ++ rest))) =
      e ∙ ap (λ q. ms ++ (boot ∷ (q ++ rest))) part.are ∙ ap (λ q. ms ++ (boot ∷ q)) (append_assoc begun more rest) in
      let front : r.moments ≡ (ms ++ (boot ∷ begun)) ++ (more ++ rest) = behind ∙ sym (append_assoc ms (boot ∷ begun) (more ++ rest)) in
      let moments = are_behind b ms (boot ∷ begun) (front_moments b r (ms ++ (boot ∷ begun)) (more ++ rest) own.moments front) in
      let h = known_from l x ms in
      let t = last_board b ms in
      let tail = boot ∷ (steps ++ rest) in
      let at = reached_on on b (first_history (runtime_marks l) x) t boot.before h moments.0 (reached ms tail e) in
      let known = (fronts_are_lawful model program readings origin x cs b r run bearing ms tail e).1.fram in
      let same : (outside_of boot.before).fram ≡ h.world.fram = ap (λ s. s.fram) (follows_keeps t boot.before moments.0).outside ∙ known in
      let from : BeginsCharge boot.before =
      record { history = h; at = at; fram_words = subst HoldsWords (sym same) (keeps_versions ms tail e).words } in
      raises_from redo boot.before from steps begun more part.are part.many (front_are begun more (subst AreInstructionMoments part.are are)) boot up moments.1
      moments.2

  -- behind the first instructions of a charge the CPU accepts interrupts, outside the handler
  abbrev Opened : BoardValue → Type 0
  Opened t = registers_of t.cpu 0 < handler_place → is_interruptible (registers_of t.cpu) ≡ true

  open_by : (t : BoardValue) (u : MachineBoard) → StandsAs t u → is_interruptible u.registers ≡ true → Opened t
  open_by t u (AtCode shows) accepts low = subst (λ g. is_interruptible g ≡ true) shows.registers accepts
  open_by t u (stance.InHandler from stage shows interrupted inside) accepts low =
      let high = handler_is_high from stage t inside in absurd (omega (arith, low, high))

  module _ (events : l.runtime.events ≡ true) where
    opened_in : (t : BoardValue) (h : History) (at : IsReached t h) (power : PowerState) (powers : IsPowerState power) (steps : List Moment)
        (are : AreInstructionMoments steps) (moments : AreMoments (powered t power) steps) → 4 ≤ program_steps steps
        → Opened (last_board (powered t power) steps)
    opened_in t h at power powers steps are moments many =
        let looks = looks_in steps in
        let see = sees on t h at.ready power powers steps are moments in
        let begun = outside_with looks (powered t power) in
        let made = leads on t h at.ready power powers steps are moments in
        let last = (reach on t h at.ready power powers steps are moments).end in
        let more = two_less (program_steps steps) (omega (arith, many)) in
        open_by (last_board (powered t power) steps) last.u last.stands
        (machine_opens p l new.fits events more.0 begun last.u (is_powered on t h at.ready power powers looks see)
        (steps_made (keeps_stacks l (stack_lows p l)) (placed_code p l) (suc (suc more.0)) begun last.u
        (ap (λ n. (going program.step n begun).status) (sym more.1) ∙ made)))

    opened_from : (t : BoardValue) (h : History) → IsReached t h → (boot : Moment) → boot.action ≡ PowerUp → IsMomentFrom t boot
        → (steps : List Moment) → AreInstructionMoments steps → AreMoments boot.after steps → 4 ≤ program_steps steps → Opened (last_board boot.after steps)
    opened_from t h at boot up (Instructs i done current answer same is) steps are moments many =
        absurd (let other = sym up ∙ ap (λ y. y.action) is in cc (other))
    opened_from t h at boot up (Serves n done next answer served is) steps are moments many =
        absurd (let other = sym up ∙ ap (λ y. y.action) is in cc (other))
    opened_from t h at boot up (PowersUp power powers is) steps are moments many =
        let P : Moment → Type 0 = λ y. AreMoments y.after steps → Opened (last_board y.after steps) in
        subst P (sym is) (λ own_steps. opened_in t h at power powers steps are own_steps many) moments

    pub opens : StaysOpen r.moments
    opens ms steps rest boot e up are many =
        let front : r.moments ≡ (ms ++ (boot ∷ steps)) ++ rest = e ∙ sym (append_assoc ms (boot ∷ steps) rest) in
        let moments = are_behind b ms (boot ∷ steps) (front_moments b r (ms ++ (boot ∷ steps)) rest own.moments front) in
        let h = known_from l x ms in
        let t = last_board b ms in
        let at = reached_on on b (first_history (runtime_marks l) x) t boot.before h moments.0 (reached ms (boot ∷ (steps ++ rest)) e) in
        opened_from boot.before h at boot up moments.1 steps are moments.2 many

  -- where the source takes no events no step stores where HEAD and the ring would be
  pub ringless : l.runtime.events ≡ false → (ms rest : List Moment) → r.moments ≡ ms ++ rest → (a : ℕ) → is_ring a ≡ true
      → fram_of (last_board b ms).fram a ≡ fram_of b.fram a
  ringless off ms rest e a of =
      ring_stays b ms (front_moments b r ms rest own.moments e) (none_serves ms rest (subst NoneServes e (alone off))) a of

  -- where it does, each moment takes words of the ring in order
  in_order : l.runtime.events ≡ true → ScriptsTakeInOrder model
  in_order events = scripts_in_order text p allow c.plans l (laid_out text p allow image ok c) (source text p allow image ok c).runnable events

  abbrev gate : ℕ
  gate = word_place l Gate

  pub follows : l.runtime.events ≡ true → EachFollows gate Before r.moments
  follows events =
      runs_take_in_order model program ready.model bearing.program (in_order events) readings origin x cs b r r.moments [] run
      (sym (append-nil r.moments)) bearing.stands bearing.begins

  -- as a run of a program that takes events, where the ring keeps its rule at first
  taking : l.runtime.events ≡ true → KeepsRing gate (fram_of b.fram) → TakesEvents program (runtime_marks l) x cs b r
  taking events keeps = record {
    run = run;
    stands = bearing.stands;
    fram = refl;
    answer = ap (λ e. if e then Some answer_place else None) events;
    gate = (in_order events).gate;
    follows = follows events;
    ring = keeps;
  }

  -- so the ring holds the accepted words
  pub rings : l.runtime.events ≡ true → KeepsRing gate (fram_of b.fram) → RingsHold l b r
  rings events keeps ms rest e = record {
    keeps = ((rings_keep_order program (runtime_marks l) x cs b r (taking events keeps)).fronts ms rest e).ring;
    last = ring_holds_accepted program cs b r ms rest run e (runtime_marks l) first bearing.stands;
  }

  -- and the program takes them in order
  abbrev m : MapValue
  m = map_of text p l allow

  is : IsOfSource text p m model
  is = models_are_of_sources text p l m (source text p allow image ok c)

  pub takes : l.runtime.events ≡ true → KeepsRing gate (fram_of b.fram) → TakesInOrder gate b r.moments
  takes events keeps = (rings_keep_order program (runtime_marks l) x cs b r (taking events keeps)).takes

  -- the answers of the attempts are those of the dones
  answers_read : map (λ (d : Done). d.answers) (observed (runtime_marks l) r.moments first).completed
      ≡ map (λ (a : CommittedAttempt). a.answers) (attempts_of m (at_first m b) no_answers r.moments)
  answers_read =
      let read = (read_off m x cs b r is.is_map is.front starts_with own).attempts in
      let P : Marks → Type 0 = λ marks. committed_by (observed marks r.moments (first_history marks x)).completed
      ≡ attempts_of m (at_first m b) no_answers r.moments in
      answers_of_dones (observed (runtime_marks l) r.moments first).completed
      ∙ ap (λ (attempts : List CommittedAttempt). map (λ (a : CommittedAttempt). a.answers) attempts) (subst P (sym is.marks) read)

  pub answered : l.runtime.events ≡ true → KeepsRing gate (fram_of b.fram) → AnswersHold l m b r
  answered events keeps =
      let order = (rings_keep_order program (runtime_marks l) x cs b r (taking events keeps)).fronts r.moments [] (sym (append-nil r.moments)) in
      subst (λ (answers : List (List ℕ)). AnswersInOrder answers (words_behind gate b r.moments)) answers_read order.answers

  -- each charge that is spent pays for its transitions, where the first one costs no more than its world says
  pub pays : (pending : Bool) → IsFirstWithin model origin (task_costs (map_of text p l allow) (cost_of p) pending x).first
      → let m = map_of text p l allow in EachChargePays m (cost_due m (cost_of p) pending) cs b (at_first m b) r
  pays pending first =
      let m = map_of text p l allow in
      charges_pay text p m model program x cs b r (models_are_of_sources text p l m (source text p allow image ok c)) origin bearing starts_with run pending
      first
