-- Each run of an image of an accepted text keeps the laws.
use Rattle.image_reports.proofs.Names.{◌<◌, length, runs_may_begin}
use Rattle.image_reports.proofs.Names.{ℕ, subst, arith, List, ImageValue, BoardValue, fresh, Moment, last_board, CheckedProgram, State, first_state}
use Rattle.image_reports.proofs.Names.{MemoryMap, Model, History, Resting, trace_inputs, traces_are_few, stops_where_short, SoundAtRest, compiled_model}
use Rattle.image_reports.proofs.Names.{is_redo, logs_so, false, map_of, word_place, CurrentTask, Allow, IsCompiledFor, IsAcceptedText, IsTaskWithin, cost_of}
use Rattle.image_reports.proofs.Names.{state_within}
use Rattle.memory_map.specs.declared.runtime.Logging.{Logging}
use Rattle.image_reports.proofs.Names.{KeepsCapacities, compiled_program, sources_are_ready, [], world_with, laid_out, images_are_fresh, known_behind}
use Rattle.image_reports.proofs.Names.{KeepsCode}
use Rattle.image_reports.specs.ImageLaw.{IsLawful}
use Rattle.image_reports.proofs.Names.{HoldsAt, ImagesAreTold, ImagesKeepCapacities, ImagesBelong}
use Rattle.image_reports.specs.Laws.{ImagesKeepTheirStacks, ImagesKeepToNeeds}
use Rattle.image_reports.proofs.Names.{◌≡◌, ◌≤◌, ◌⊎◌, ◌∙◌, ◌++◌, true, refl, sym, ap, inl, inr, fram_of, Gate, Bool, Option, Some, None, MapValue}
use Rattle.image_reports.proofs.Names.{RunOutcome, Run, if◌then◌else◌, ImagesAnswerInOrder, IsLawfulRun}
use Rattle.std.specs.Prelude.{map}
use Rattle.energy_trace.specs.TraceValue.{TraceValue}
use Rattle.board_run.specs.Events.{accepted_events, hand_after, no_hand}
use Rattle.source_maps.specs.Maps.{event_ring, map_ring}
use Rattle.source_runs.specs.Traces.{IsTraceOfWords}
use Rattle.source_runs.specs.Tells.{CommittedAttempt, attempts_of, no_answers, at_first as at_start}
use Rattle.event_orders.specs.Answers.{AnswersInOrder}
use Rattle.event_orders.specs.Waiting.{waiting_in, words_behind}
use Rattle.image_reports.proofs.Answered.{none_waits, head_named, none_answered, none_in_order}
use Rattle.address_space.specs.Limits.{program_end}
use Rattle.event_places.specs.Places.{handler_place, head_place, tail_place, sent_place, is_ring}
use Rattle.machine_effects.specs.Machine.{IsFram}
use Rattle.event_rules.specs.Rings.{KeepsRing}
use Rattle.board_run.specs.Charges.{charges_of}
use Rattle.task_needs.specs.Needs.{need_of}
use Rattle.task_needs.specs.Lists.{with_needs}
use Rattle.image_reports.proofs.Begins.{at_first, bears, fram_is, own_code, rests, undecided, run_of_words}
use Rattle.image_reports.proofs.Capacities.{fresh_capacities}
use Rattle.image_reports.proofs.CompiledTold.{models_are_of_sources}
use Rattle.image_reports.proofs.Told.{source, runs_are_told}
use Rattle.image_reports.proofs.Onward.{Onward, Front, front, unheard, opens, raises, pays, rings, takes, answered}
use Rattle.image_reports.proofs.Needs.{needs_model_laws, need_within, needs_pay}

-- the fresh image keeps to its capacities
kept_at_first : {logging : Logging} (text : List ℕ) (p : CheckedProgram) (allow : Allow) (image : ImageValue) (ok : IsAcceptedText text p allow)
    → (c : IsCompiledFor logging text p allow image) → KeepsCapacities c.layout (world_with image.words []).fram
kept_at_first text p allow image ok c =
    let ready = sources_are_ready text p allow c.plans c.layout (laid_out text p allow image ok c) in
    let new = images_are_fresh text p allow image ok c in
    subst (λ f. KeepsCapacities c.layout f) (fram_is text p allow image c ready new) (fresh_capacities text p allow image ok c)

-- and belongs to itself
pub images_belong : ImagesBelong
images_belong text p allow image ok c =
    let ready = sources_are_ready text p allow c.plans c.layout (laid_out text p allow image ok c) in
    let new = images_are_fresh text p allow image ok c in
    let P : Model State → Type 0 = λ m. m.Rests (first_state p) (world_with image.words []) in
    let o = (subst P (is_redo p c.layout (logs_so text p allow image c)) (rests text p allow image c ready new)).is_open in
    let cur = o.current_task in let task = o.is_task in
    record {
      code = own_code text p allow image c ready new;
      capacities = kept_at_first text p allow image ok c;
      sound = SoundAtRest (record { words = o.words; current_task = omega (arith, cur, task); gate = o.gate; base = o.base; versions = o.versions });
    }

-- what holds at a board of a run that began with the fresh one
held_at : (p : CheckedProgram) (l : MemoryMap) (image : ImageValue) (readings : List ℕ) (b : BoardValue) (ms : List Moment) (h : History)
    → Front p l image (world_with image.words []) (Resting (first_state p)) readings b ms h → HoldsAt p l image readings b ms h
held_at p l image readings b ms h k =
    let Code : (ℕ → ℕ) → Type 0 = λ f. KeepsCode p l image f in
    let Capacities : (ℕ → ℕ) → Type 0 = λ f. KeepsCapacities l f in
    record {
      tells = record { fram = k.fram; accepted = k.words; taken = k.taken };
      effects = k.effects;
      stands = k.stands;
      never_lost = k.never_lost;
      accepted = k.accepted;
      takes_few = k.takes_few;
      offers_few = k.offers_few;
      capacities = subst Capacities k.fram k.capacities;
      stack = k.stack;
      versions = k.versions;
      versions_in_place = k.versions_in_place;
      code = subst Code k.fram k.code;
      fetches = k.fetches;
      events = k.events;
      room = k.room;
    }

-- the first task costs what the fresh world says, whose CUR names it
first_within : {logging : Logging} (text : List ℕ) (p : CheckedProgram) (allow : Allow) (image : ImageValue) (ok : IsAcceptedText text p allow)
    → (c : IsCompiledFor logging text p allow image)
    → IsTaskWithin (compiled_model p c.layout) (first_state p) (cost_of p ((world_with image.words []).fram (word_place c.layout CurrentTask)))
first_within text p allow image ok c =
    let l = c.layout in
    let m = map_of text p l allow in
    let is = models_are_of_sources text p l m (source text p allow image ok c) in
    let x = world_with image.words [] in
    let ready = sources_are_ready text p allow c.plans l (laid_out text p allow image ok c) in
    state_within text p m (compiled_model p l) is (first_state p) x
    (is.rests (first_state p) x (rests text p allow image c ready (images_are_fresh text p allow image ok c)))

-- a source has a task: the first one
some_task : {logging : Logging} (text : List ℕ) (p : CheckedProgram) (allow : Allow) (image : ImageValue) (ok : IsAcceptedText text p allow)
    → (c : IsCompiledFor logging text p allow image) → 0 < length p.tasks
some_task text p allow image ok c =
    let s = first_state p in
    let x = world_with image.words [] in
    let ready = sources_are_ready text p allow c.plans c.layout (laid_out text p allow image ok c) in
    let below = ready.model.undecided_task s x (undecided text p allow image c ready (images_are_fresh text p allow image ok c)) in
    omega (arith, below)

-- the first task needs what the fresh world says
first_need : {logging : Logging} (text : List ℕ) (p : CheckedProgram) (allow : Allow) (image : ImageValue) (ok : IsAcceptedText text p allow)
    → (c : IsCompiledFor logging text p allow image)
    → IsTaskWithin (with_needs p c.layout (compiled_model p c.layout)) (first_state p)
    (need_of p c.layout ((world_with image.words []).fram (word_place c.layout CurrentTask)))
first_need text p allow image ok c =
    let l = c.layout in
    let m = map_of text p l allow in
    let is = models_are_of_sources text p l m (source text p allow image ok c) in
    let s = first_state p in
    let x = world_with image.words [] in
    let ready = sources_are_ready text p allow c.plans l (laid_out text p allow image ok c) in
    let new = images_are_fresh text p allow image ok c in
    need_within p l m s x (ready.model.undecided_task s x (undecided text p allow image c ready new)) (is.rests s x (rests text p allow image c ready new))

-- the words that count its events, and HEAD, are 0
record HasEmptyRing (f : ℕ → ℕ) : Type 0 where
  head : f head_place ≡ 0
  tail : f tail_place ≡ 0
  sent : f sent_place ≡ 0

fresh_ring : {logging : Logging} (text : List ℕ) (p : CheckedProgram) (allow : Allow) (image : ImageValue) → IsAcceptedText text p allow
    → (c : IsCompiledFor logging text p allow image) → HasEmptyRing (fram_of image.words)
fresh_ring text p allow image ok c =
    let new = images_are_fresh text p allow image ok c in
    let zero : (a : ℕ) → IsFram a → program_end ≤ a → (a < handler_place) ⊎ (is_ring a ≡ true) → fram_of image.words a ≡ 0 = new.ring in
    record {
      head = zero head_place (record { even = refl; low = omega arith; high = omega arith }) (omega arith) (inr refl);
      tail = zero tail_place (record { even = refl; low = omega arith; high = omega arith }) (omega arith) (inl (omega arith));
      sent = zero sent_place (record { even = refl; low = omega arith; high = omega arith }) (omega arith) (inl (omega arith));
    }

-- its ring keeps its rule: nothing waits
fresh_keeps_ring : {logging : Logging} (text : List ℕ) (p : CheckedProgram) (allow : Allow) (image : ImageValue) → IsAcceptedText text p allow
    → (c : IsCompiledFor logging text p allow image) → KeepsRing (word_place c.layout Gate) (fram_of image.words)
fresh_keeps_ring text p allow image ok c =
    let ring = fresh_ring text p allow image ok c in
    let head = ring.head in
    let tail = ring.tail in
    let sent = ring.sent in
    record { head = omega (arith, head, tail); sent = λ pending. omega (arith, head, tail, sent) }

pub images_keep_the_laws : {logging : Logging} (text : List ℕ) (p : CheckedProgram) (allow : Allow) (image : ImageValue) → IsAcceptedText text p allow
    → (c : IsCompiledFor logging text p allow image)
    → IsLawful text p allow c.layout image
images_keep_the_laws text p allow image ok c cs starts readings events inputs r go =
    let l = c.layout in
    let on : Onward = record {
      start = at_first text p allow image c readings events inputs (sources_are_ready text p allow c.plans l (laid_out text p allow image ok c))
          (images_are_fresh text p allow image ok c);
      accepted = ok;
      capacities = kept_at_first text p allow image ok c;
      charges = cs;
      outcome = r;
      run = run_of_words image.words c.words.count c.words.are_words 0 cs starts readings events inputs r go;
    } in
    record {
      rests = on.start.new.rests;
      apart = on.start.ready.code.apart;
      commits = on.start.ready.model.decided_commits;
      fronts = λ ms rest e. held_at p l image readings (last_board (fresh image.words readings events) ms) ms (known_behind l image ms)
          (front on ms rest e);
      stops = stops_where_short (compiled_model p l) (compiled_program p l) readings (Resting (first_state p)) (world_with image.words []) cs
          (fresh image.words readings events) r on.run (bears on.start);
      unheard = unheard on;
      opens = opens on;
      rings = λ events. rings on events (fresh_keeps_ring text p allow image ok c);
      takes = λ events. takes on events (fresh_keeps_ring text p allow image ok c);
      answered = λ events. answered on events (fresh_keeps_ring text p allow image ok c);
      raises = raises on;
      progress = pays on false (first_within text p allow image ok c);
      needs = needs_pay on
          ((runs_may_begin (with_needs p l (compiled_model p l)) (needs_model_laws p l on.start.ready) readings).resting (first_state p)
          (world_with image.words []) (undecided text p allow image c on.start.ready on.start.new)) (some_task text p allow image ok c) false
          (first_need text p allow image ok c);
      told = runs_are_told text p allow image ok c cs readings events inputs r on.run;
    }

-- ---- on a trace

pub images_are_told : ImagesAreTold
images_are_told logging text p allow image ok c trace t r run =
    let few = traces_are_few trace t in
    (images_keep_the_laws text p allow image ok c (charges_of trace.charges) few.0 trace.readings trace.events (trace_inputs trace t) r run).told few.1

-- where the source takes events its answers are in order by the law, else it has none
module _ {logging : Logging} (text : List ℕ) (p : CheckedProgram) (allow : Allow) (image : ImageValue) (ok : IsAcceptedText text p allow)
    (c : IsCompiledFor logging text p allow image) (trace : TraceValue) (t : IsTraceOfWords trace) (r : RunOutcome)
    (run : Run (charges_of trace.charges) (fresh image.words trace.readings trace.events) r) where
  abbrev l : MemoryMap
  l = c.layout

  abbrev m : MapValue
  m = map_of text p l allow

  abbrev b : BoardValue
  b = fresh image.words trace.readings trace.events

  abbrev answers : List (List ℕ)
  answers = map (λ (a : CommittedAttempt). a.answers) (attempts_of m (at_start m b) no_answers r.moments)

  lawful : IsLawfulRun text p allow l image (charges_of trace.charges) trace.readings trace.events r
  lawful =
      let few = traces_are_few trace t in
      images_keep_the_laws text p allow image ok c (charges_of trace.charges) few.0 trace.readings trace.events (trace_inputs trace t) r run

  in_order : AnswersInOrder answers (accepted_events (Some m) r.moments)
  in_order = by l.runtime.events refl
    where
      by : (events : Bool) → l.runtime.events ≡ events → AnswersInOrder answers (accepted_events (Some m) r.moments)
      by true on =
          let ring = fresh_ring text p allow image ok c in
          let none : waiting_in (word_place l Gate) (fram_of image.words) ≡ [] =
          none_waits (word_place l Gate) (fram_of image.words) ring.head ring.tail ring.sent in
          let named = head_named l.runtime.events (map_ring l) on refl m refl in
          let words : words_behind (word_place l Gate) b r.moments ≡ accepted_events (Some m) r.moments =
          ap (λ (ws : List ℕ). ws ++ (hand_after (Some head_place) r.moments no_hand).accepted) none
          ∙ ap (λ (o : Option ℕ). (hand_after o r.moments no_hand).accepted) (sym named) in
          subst (λ (ws : List ℕ). AnswersInOrder answers ws) words (lawful.answered on)
      by false off =
          let none : m.ring ≡ None = ap (λ (events : Bool). if events then Some event_ring else None) off in
          none_in_order answers (accepted_events (Some m) r.moments) (none_answered m none (at_start m b) no_answers r.moments refl refl)

pub images_answer_in_order : ImagesAnswerInOrder
images_answer_in_order logging text p allow image ok c trace t r run = in_order text p allow image ok c trace t r run

pub images_keep_capacities : ImagesKeepCapacities
images_keep_capacities logging text p allow image ok c trace t r run ms rest e =
    let few = traces_are_few trace t in
    ((images_keep_the_laws text p allow image ok c (charges_of trace.charges) few.0 trace.readings trace.events (trace_inputs trace t) r run).fronts ms
    rest e).capacities

pub images_keep_their_stacks : ImagesKeepTheirStacks
images_keep_their_stacks logging text p allow image ok c trace t r run ms rest e =
    let few = traces_are_few trace t in
    ((images_keep_the_laws text p allow image ok c (charges_of trace.charges) few.0 trace.readings trace.events (trace_inputs trace t) r run).fronts ms
    rest e).stack

pub images_keep_to_needs : ImagesKeepToNeeds
images_keep_to_needs logging text p allow image ok c trace t r run =
    let few = traces_are_few trace t in
    (images_keep_the_laws text p allow image ok c (charges_of trace.charges) few.0 trace.readings trace.events (trace_inputs trace t) r run).needs
