-- States that belong to the image of an accepted source are its worlds, and go on as it says.
use Rattle.compiled_states.proofs.Names.{◌≡◌, ◌⊎◌, inl, inr, ℕ, ◌%◌, ◌<◌, ◌≤◌, false, List, [], ◌++◌, length, Option, Some, refl, sym, ap, ◌∙◌, subst, arith}
use Rattle.compiled_states.proofs.Names.{◌+◌, ◌*◌, Bool, true, apart_of, is_ring, steady_low, steady_off, append-nil, replicate, length-map}
use Rattle.compiled_states.proofs.Names.{length-replicate, cases_lt, State, is_named, MemoryMap, MapValue, ImageValue}
use Rattle.compiled_states.proofs.Names.{BoardValue, BoardCharge, Moment, RunOutcome, Run, saved, World, IsFram, fram_of, last_board}
use Rattle.compiled_states.proofs.Names.{Allow, CheckedProgram, map_of, IsCompiled, IsImageOf, IsFreshImage, laid_out, logs_so, images_are_fresh}
use Rattle.compiled_states.proofs.Names.{BelongsTo, known_from, IsToldOnward, IsResumedRun, made, images_belong, images_resume, world_of}
use Rattle.compiled_states.proofs.Names.{steady, is_in_ring, map_ring, is_ring_at, is_pending, runtime_of, KeepsRing, IfSome}
use Rattle.compiled_states.proofs.Names.{MayHaveAccepted, HasFramWords, HasCodeWords, board_of, LeavesItsStates, StatesAreWorlds, WorldsAreStates}
use Rattle.compiled_states.proofs.Names.{FreshStatesBelong, StatesGoOn, StatesAreTold, StatesStay}
use Rattle.fram_state.specs.Sound as state
use Rattle.source_meaning.specs.Acceptance.{IsAcceptedText}
use Rattle.fram_state.specs.OtherImage.{SameBut}
use Rattle.fram_state.specs.Belongs.{Belongs}
use Rattle.whole_programs.proofs.Interface.{privates_are_few}
use Rattle.war_analysis.proofs.Interface.{each_returns}
use Rattle.board_run.specs.Charges.{charges_of}
use Rattle.board_run.specs.History.{start_of}
use Rattle.board_run.specs.Report.{report_of}
use Rattle.run_charges.specs.Charges.{ArePowerStates}
use Rattle.energy_trace.specs.TraceValue.{Event}
use Rattle.source_runs.specs.Traces.{AreInputs}
use Rattle.source_runs.proofs.Interface.{traces_are_few, trace_inputs}
use Rattle.source_maps.specs.Laws.{IsSourceMap}
use Rattle.image_laws.specs.Words.{code_words as words_of_code}
use Rattle.image_laws.proofs.Interface.{code_end}
use Rattle.source_meaning.proofs.Interface.{accepted_texts_run}
use Rattle.image_reports.specs.ImageLaw.{KeepsCode}
use Rattle.compiled_states.proofs.Words.{fram_at}
use Rattle.compiled_states.proofs.Named.{Mapped, its_map, named, of_ring, unnamed}
use Rattle.compiled_states.proofs.Ring.{low_off, vector_off, interrupts_off, event_off, ring_off, handler_off, between_off, handler_stands}
use Rattle.compiled_states.proofs.Ring.{fresh_keeps_ring, rule_of_ring, ring_of_rule}
use Rattle.compiled_states.proofs.Sound.{Saved, list_within, emits_within, versions_within, is_sound, keeps_rules, rules_of}
use Rattle.compiled_states.proofs.Words.{fram_small}
use Rattle.compiled_states.proofs.Names.{◌==◌, if◌then◌else◌, None, word_in, word_place, words_stand, Gate, IsSound, SoundAtRest, SoundPending, program_places}
use Rattle.memory_map.specs.declared.runtime.Logging.TheVariants.{Redo}
use Rattle.event_places.specs.Places.{tail_place}
use Rattle.source_maps.specs.Maps.{event_ring}
use Rattle.compiled_states.proofs.Ends.{run_saved}

module _ (text : List ℕ) (image : ImageValue) (of : IsImageOf text image) where
  open of use {program as p, allow, accepted as ok, compiled as c}

  abbrev l : MemoryMap
  l = c.layout

  pub source_map : IsSourceMap text p allow l
  source_map = made text p allow image ok c

  pub same_tasks : length (map_of text p l allow).tasks ≡ length p.tasks
  same_tasks = sym (length-map (map_of text p l allow).tasks (λ t. t.name)) ∙ ap length source_map.of_source.tasks ∙ length-map p.tasks _

  abbrev pub mapped : Mapped
  mapped = record {
    text = text;
    program = p;
    allow = allow;
    plans = c.plans;
    layout = l;
    laid = record {
      allowed = ok.allowed;
      plan = c.is_plan;
      logging = Redo;
      layout = c.is_layout;
      few = privates_are_few text p allow c.plans l (laid_out text p allow image ok c);
      returning = (let k = ok.checks.checks in each_returns p k.named.placed k.paths.returns);
    };
    redo = logs_so text p allow image c;
    kinds = source_map.places;
    tasks = same_tasks;
  }

  abbrev m : MapValue
  m = its_map mapped

  new : IsFreshImage text p allow l image
  new = images_are_fresh text p allow image ok c

  -- a map that the image has is the source's
  pub one_map : (n : MapValue) → image.map ≡ Some n → n ≡ m
  one_map n has = let both : Some n ≡ Some m = sym has ∙ c.map in cc

  -- from the code on a state that belongs has the image's words
  code_words : (s : State) (n : MapValue) → image.map ≡ Some n → SameBut n image.words s.image.words → HasCodeWords l image s
  code_words s n has same a is from off =
      let free : is_named n a ≡ false = ap (λ k. is_named k a) (one_map n has) ∙ unnamed mapped a from off in
      fram_at s.image.words a is ∙ same.each a (record { low = is.low; high = is.high; even = is.even }) free ∙ sym (fram_at image.words a is)

  -- where the code begins, and that it ends in front of the words that count events
  code_begins : 0x4400 ≤ l.boot.address
  code_begins = let k = apart_of l c.is_layout.rules in omega (arith, k)

  code_ends : l.boot.address + 2 * length (words_of_code p l) ≤ 0xFF18
  code_ends =
      let k = apart_of l c.is_layout.rules in
      let end = code_end text p allow image ok (accepted_texts_run text p allow ok) c in omega (arith, k, end)

  -- so it keeps the code
  pub keeps_code : (s : State) → HasCodeWords l image s → KeepsCode p l image (steady (fram_of s.image.words))
  keeps_code s code =
      let low = code_begins in let end = code_ends in
      record {
        code = λ a even from to.
            steady_low (fram_of s.image.words) a (omega (arith, end, to))
            ∙ code a (record { even = even; low = omega (arith, low, from); high = omega (arith, end, to) }) from (low_off l a (omega (arith, end, to)));
        vector = code 0xFFFE (record { even = refl; low = omega arith; high = omega arith }) (omega (arith, end)) (vector_off l);
        handler = λ on. handler_stands (steady (fram_of s.image.words)) (fram_of image.words) (λ a even from to.
            steady_off (fram_of s.image.words) a (handler_off a to)
            ∙ code a (record { even = even; low = omega (arith, from); high = omega (arith, to) }) (omega (arith, end, from)) (between_off l a from to))
            (steady_off (fram_of s.image.words) 0xFFF0 refl
            ∙ code 0xFFF0 (record { even = refl; low = omega arith; high = omega arith }) (omega (arith, end)) (interrupts_off l)) (new.handler on);
      }

  -- a state with the words that were accepted before
  abbrev saved_of : (s : State) (accepted : List ℕ) → MayHaveAccepted s accepted → length s.image.words ≡ 24064 → Saved
  saved_of s accepted counted whole = record { words = s.image.words; whole = whole; number = s.receiver; accepted = accepted; counted = counted }

  -- a state that belongs is a world
  pub as_world : (s : State) (accepted : List ℕ) → MayHaveAccepted s accepted → HasFramWords s → Belongs image s → BelongsTo p l image (world_of s accepted)
  as_world s accepted counted whole b =
      let saved = saved_of s accepted counted whole.count in
      let small = whole.are_words in
      let sound : state.IsSound m s.image.words s.receiver =
      subst (λ k. state.IsSound k s.image.words s.receiver) (one_map b.map b.have.of_image) b.sound in
      record {
        code = keeps_code s (code_words s b.map b.have.of_image b.others);
        capacities = record {
          list = list_within mapped saved small sound;
          emits = emits_within mapped saved small sound;
          versions = versions_within mapped saved small sound;
        };
        sound = is_sound mapped saved small sound;
      }

  -- what its ring keeps, by the source's map
  ring_of_map : (s : State) → s.image.map ≡ Some m → KeepsRing s → is_ring_at m.ring s.image.words (is_pending (runtime_of m.words s.image.words)) ≡ true
  ring_of_map s has ring =
      let P : Option MapValue → Type 0 = λ o. IfSome o (λ n. is_ring_at n.ring s.image.words (is_pending (runtime_of n.words s.image.words)) ≡ true) in
      subst P has ring

  -- a world of the image is a state that belongs, if its ring keeps its rule
  pub as_state : (s : State) (accepted : List ℕ) → MayHaveAccepted s accepted → length s.image.words ≡ 24064 → s.image.map ≡ image.map
      → HasCodeWords l image s → KeepsRing s → BelongsTo p l image (world_of s accepted) → Belongs image s
  as_state s accepted counted whole same_map code ring w = record {
    map = m;
    have = record { of_image = c.map; of_state = same_map ∙ c.map };
    others = record {
      each = λ a word free.
          let is : IsFram a = record { even = word.even; low = word.low; high = word.high } in
          sym (fram_at s.image.words a is) ∙ code a is (behind a is free (cases_lt a l.boot.address)) (no_ring a free (is_in_ring (map_ring l) a) refl)
          ∙ fram_at image.words a is;
    };
    sound = keeps_rules mapped (saved_of s accepted counted whole) w.capacities.list w.capacities.emits w.capacities.versions
        (ring_of_map s (same_map ∙ c.map) ring) w.sound;
  }
    where
      behind : (a : ℕ) → IsFram a → is_named m a ≡ false → (a < l.boot.address) ⊎ (l.boot.address ≤ a) → l.boot.address ≤ a
      behind a is free (inl lt) = let name = named mapped a is lt in absurd (cc (name, free))
      behind a is free (inr ge) = ge

      no_ring : (a : ℕ) → is_named m a ≡ false → (b : Bool) → is_in_ring (map_ring l) a ≡ b → b ≡ false
      no_ring a free false e = refl
      no_ring a free true e = let name = of_ring mapped a e in absurd (cc (name, free))

-- an image with the source that it is of
abbrev pub image_of : (text : List ℕ) (p : CheckedProgram) (allow : Allow) (image : ImageValue) → IsAcceptedText text p allow → IsCompiled text p allow image
    → IsImageOf text image
image_of text p allow image ok c = record { program = p; allow = allow; accepted = ok; compiled = c }

pub states_are_worlds : StatesAreWorlds
states_are_worlds text p allow image ok c s accepted whole number b = as_world text image (image_of text p allow image ok c) s accepted number whole b

pub worlds_are_states : WorldsAreStates
worlds_are_states text p allow image ok c s accepted count number same_map code ring w =
    as_state text image (image_of text p allow image ok c) s accepted number count same_map code ring w

pub fresh_states_belong : FreshStatesBelong
fresh_states_belong text image of =
    as_state text image of (record { image = image; receiver = 0 }) [] refl of.compiled.words.count refl (λ a is from off. refl)
    (fresh_keeps_ring text image of) (images_belong text of.program of.allow image of.accepted of.compiled)

-- ---- runs

-- a sound world holds words
sound_words : (p : CheckedProgram) (map : MemoryMap) (x : World) → IsSound (program_places p map) x → (a : ℕ) → x.fram a < 0x10000
sound_words p map x (SoundAtRest q) = q.words
sound_words p map x (SoundPending q) = q.words

-- a run from a state that belongs to an image
record StateRun : Type 0 where
  pub text : List ℕ
  pub image : ImageValue
  pub of : IsImageOf text image
  pub state : State
  pub accepted : List ℕ
  pub whole : HasFramWords state
  pub counted : MayHaveAccepted state accepted
  pub belongs : Belongs image state
  pub charges : List BoardCharge
  pub starts : ArePowerStates charges
  pub readings : List ℕ
  pub events : List Event
  pub inputs : AreInputs readings events
  pub outcome : RunOutcome
  pub run : Run charges (board_of state readings events) outcome

module _ (on : StateRun) where
  open on use {text, image, of, state as s, accepted, whole, counted, belongs as b, charges as cs, starts, readings, events, inputs, outcome as r, run}
  open (on.of) use {program as p, allow, accepted as ok, compiled as c}

  abbrev first : BoardValue
  first = board_of s readings events

  abbrev x : World
  x = world_of s accepted

  lawful : IsResumedRun text p allow c.layout image x cs first r
  lawful =
      images_resume text p allow image ok c s.image.words whole.count whole.are_words s.receiver accepted counted
      (as_world text image of s accepted counted whole b) cs starts readings events inputs r run

  -- off the ring each word from the code on is as at first
  kept_by : (ms rest : List Moment) → r.moments ≡ ms ++ rest → (a : ℕ) → c.layout.boot.address ≤ a → is_in_ring (map_ring c.layout) a ≡ false
      → (d : Bool) → is_ring a ≡ d → fram_of (last_board first ms).fram a ≡ fram_of s.image.words a
  kept_by ms rest e a from off true d = lawful.ringless (ring_off c.layout a off d) ms rest e a d
  kept_by ms rest e a from off false d =
      sym (steady_off (fram_of (last_board first ms).fram) a d) ∙ (lawful.fronts ms rest e).kept a from (event_off c.layout a off)
      ∙ steady_off (fram_of s.image.words) a d

  abbrev gate : ℕ
  gate = word_place c.layout Gate

  is_gate : IsFram gate
  is_gate =
      let is = (words_stand c.layout Gate c.is_layout.rules).is_fram in
      let low = is.low in let high = is.high in record { even = is.even; low = omega (arith, low); high = omega (arith, high) }

  -- the ring of these words keeps its rule, where the source takes events
  abbrev IsKept : List ℕ → Type 0
  IsKept words = is_ring_at (map_ring c.layout) words (word_in words gate == 1) ≡ true

  abbrev IsKeptBy : Bool → List ℕ → Type 0
  IsKeptBy events words = is_ring_at (if events then Some event_ring else None) words (word_in words gate == 1) ≡ true

  -- so does the state's
  keeps_at_first : IsKept s.image.words
  keeps_at_first =
      let P : MapValue → Type 0 = λ k. state.IsSound k s.image.words s.receiver in
      let sound = subst P (one_map text image of b.map b.have.of_image) b.sound in
      (rules_of (its_map (mapped text image of)) s.image.words s.receiver sound).ring

  -- and that of each board
  board_keeps : (ms rest : List Moment) → r.moments ≡ ms ++ rest → IsKept (last_board first ms).fram
  board_keeps ms rest e = by c.layout.runtime.events refl
    where
      words : List ℕ
      words = (last_board first ms).fram

      small : (fram : List ℕ) → fram_of fram tail_place < 0x10000 → word_in fram tail_place < 0x10000
      small fram below =
          let same = fram_at fram tail_place (record { even = refl; low = omega arith; high = omega arith }) in omega (arith, below, same)

      last_small : fram_of words tail_place < 0x10000
      last_small =
          let k = lawful.fronts ms rest e in
          let P : (ℕ → ℕ) → Type 0 = λ f. f tail_place < 0x10000 in
          subst P k.fram (sound_words p c.layout (known_from c.layout x ms).world k.belongs.sound tail_place)

      by : (events : Bool) → c.layout.runtime.events ≡ events → IsKept words
      by false off = ap (λ o. is_ring_at (if o then Some event_ring else None) words (word_in words gate == 1)) off
      by true on =
          let at_first : IsKeptBy true s.image.words = subst (λ o. IsKeptBy o s.image.words) on keeps_at_first in
          let first_keeps = ring_of_rule s.image.words gate is_gate (small s.image.words (fram_small s.image.words whole.are_words tail_place)) at_first in
          let keeps = (lawful.rings on first_keeps ms rest e).keeps in
          subst (λ o. IsKeptBy o words) (sym on) (rule_of_ring words gate is_gate (small words last_small) keeps)

  board_belongs : (ms rest : List Moment) → r.moments ≡ ms ++ rest → Belongs image (saved (last_board first ms) s.image.map)
  board_belongs ms rest e =
      let k = lawful.fronts ms rest e in
      let t = last_board first ms in
      let heard = (known_from c.layout x ms).world.accepted in
      let code = code_words text image of s b.map b.have.of_image b.others in
      let Kept : (ℕ → ℕ) → Type 0 = λ f. BelongsTo p c.layout image (record { fram = f; accepted = heard }) in
      let Ringed : Option MapValue → Type 0 = λ o. IfSome o (λ m. is_ring_at m.ring t.fram (is_pending (runtime_of m.words t.fram)) ≡ true) in
      let same = b.have.of_state ∙ sym b.have.of_image in
      let ring : KeepsRing (saved t s.image.map) = subst Ringed (sym (same ∙ c.map)) (board_keeps ms rest e) in
      as_state text image of (saved t s.image.map) heard k.number k.whole.board.fram same
      (λ a is from off. kept_by ms rest e a from off (is_ring a) refl ∙ code a is from off) ring (subst Kept k.fram k.belongs)

  leaves : LeavesItsStates image s first r
  leaves = record {
    boards = board_belongs;
    end = subst (λ y. Belongs image y) (sym (run_saved s.image.map cs first r run)) (board_belongs r.moments [] (sym (append-nil r.moments)));
  }

pub states_go_on : StatesGoOn
states_go_on text p allow image ok c s accepted whole number b cs starts readings events inputs r run =
    let on : StateRun = record {
      text = text;
      image = image;
      of = image_of text p allow image ok c;
      state = s;
      accepted = accepted;
      whole = whole;
      counted = number;
      belongs = b;
      charges = cs;
      starts = starts;
      readings = readings;
      events = events;
      inputs = inputs;
      outcome = r;
      run = run;
    } in
    (lawful on, leaves on)

pub states_are_told : StatesAreTold
states_are_told image s whole b trace t r run text p allow ok c accepted number =
    let few = traces_are_few trace t in
    let l = c.layout in
    let P : Option MapValue → Type 0 = λ o. IsToldOnward text p (map_of text p l allow) l (world_of s accepted) (charges_of trace.charges)
    (board_of s trace.readings trace.events) r (report_of (start_of (record { words = s.image.words; map = o })) trace.events r) in
    subst P (b.have.of_image ∙ sym b.have.of_state)
    ((states_go_on text p allow image ok c s accepted whole number b (charges_of trace.charges) few.0 trace.readings trace.events
    (trace_inputs trace t) r run).0.told few.1)

-- so many words that a receiver takes next the one of a number
abbrev pub some_words : ℕ → List ℕ
some_words n = replicate n 0

pub words_before : (n : ℕ) → n < 0x10000 → length (some_words n) % 0x10000 ≡ n
words_before n small = let below : n % 0x10000 ≡ n = omega (arith, small) in ap (λ k. k % 0x10000) (length-replicate n 0) ∙ below

pub states_stay : StatesStay
states_stay text image of s whole b trace t r run =
    let few = traces_are_few trace t in
    (states_go_on text of.program of.allow image of.accepted of.compiled s (some_words s.receiver) whole (words_before s.receiver whole.receiver) b
    (charges_of trace.charges) few.0 trace.readings trace.events (trace_inputs trace t) r run).1
