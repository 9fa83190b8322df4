-- The boot and the start of an attempt.
use Rattle.std.proofs.Common.{◌≡◌, ◌≢◌, ℕ, ◌+◌, ◌*◌, ◌%◌, ◌<◌, ◌==◌, Bool, not, if◌then◌else◌, List, [], ◌∷◌, ◌++◌, length, map}
use Rattle.std.proofs.Common.{refl, sym, ap, ◌∙◌, subst, arith, true, false, append_assoc}
use Rattle.std.proofs.lemmas.Bool.Decides.{nat_tests}
use Rattle.std.proofs.lemmas.List.{length-map}
use Rattle.std.proofs.lemmas.List.Elements.{All-get_or}
use Rattle.runtime_code.specs.msp_isa.declared.operands.Konst.TheVariants.{One}
use Rattle.runtime_code.specs.machine_effects.World.{fram_after}
use Rattle.runtime_code.specs.machine_effects.Inputs.{Inputs}
use Rattle.runtime_code.specs.machine_effects.Machine.{Code}
use Rattle.memory_map.specs.address_space.Limits.{event_vector}
use Rattle.memory_map.specs.event_places.Places.{handler_place}
use Rattle.runtime_code.proofs.machine_effects.Interface.{fram_after-append}
use Rattle.runtime_code.specs.code_forms.Forms.{Core, Form, Branch}
use Rattle.runtime_code.specs.code_forms.Code.{Stands, IsTidy, forms_bytes, anywhere}
use Rattle.runtime_code.proofs.code_forms.Interface.{stands_front, stands_back, forms_at, forms_behind}
use Rattle.runtime_code.specs.runtime_effects.Stages.{opening_effects, copied_in}
use Rattle.runtime_code.specs.Addresses.{gate_address, stack_top}
use Rattle.runtime_code.specs.Comes.{Comes, IsAt}
use Rattle.runtime_code.specs.Counted.{if_any}
use Rattle.runtime_code.specs.Ladder.{ladder, all_stubs}
use Rattle.runtime_code.proofs.Interface.{last_flag, comes_on, form_comes, so_ends, recounted, moved_to, compares, rung_in, HasLadder, ladder_bytes, to_task}
use Rattle.runtime_code.proofs.Interface.{nothing, core_at, from_there, ends, straight, behind_where, with_events_sum, with_events_even}
use Rattle.boot_runtime.specs.Listing.{TaskEntry, entry_at, rung_for, stubs_address, interrupts_set, interrupts_enabled, event_count_set, events_counted}
use Rattle.boot_runtime.specs.Listing.{opening, dispatch, gated_forms}
use Rattle.boot_runtime.specs.Laws.{IsEntered, IsBoot, NamesHandler, PendingCommitIsFound, AttemptIsFound, StartIsMade, VersionIsRaised}
use Rattle.boot_runtime.proofs.Stores.{task_stays}
use Rattle.boot_runtime.proofs.Opening.{looks_at_version, raises, opens}
use Rattle.boot_runtime.proofs.Entering.{copies_count, are_rungs, rung_is, copying, copies_done}
use Rattle.memory_map.specs.declared.words.RuntimeWord.TheVariants.{CurrentTask, Gate, Version}
use Rattle.memory_map.specs.MemoryMap.{MemoryMap, word_place, where_events, with_events}

-- GATE isn't 1
pub gate_is_not_one : (n : ℕ) → n < 0x10000 → n ≢ 1 → ((n + 65534 + 1) % 65536 == 0) ≡ false
gate_is_not_one n l h = grind (arith, nat_tests, l, h)

-- SP is set, and the CPU accepts interrupts, where there are events
pub enables : (code : Code) → IsTidy code → (events : Bool) (p : ℕ) (f : ℕ → ℕ) (l : Inputs) (u : Core) → code.events ≡ events
    → (events ≡ true → f event_vector ≡ handler_place) → Stands code p (where_events events interrupts_set) → IsAt p f l u
    → Comes code [] (with_events events 2) (with_events events 3) u (IsAt (gate_address events p) f l)
enables code tidy true p f l u taken named h at =
    from_there u at (ends (straight code tidy interrupts_set (core_at p f l u) (tt, (tt, tt)) h
    ((refl, λ e. record { low = omega arith; high = omega arith }, (omega arith, omega arith)), ((taken, record { vector = named refl; low = omega arith; high = omega arith }), tt)) refl)
    (record { pc = omega arith; fram = refl; inputs = refl }))
enables code tidy false p f l u taken named h at =
    let e : p ≡ p + 0 = omega arith in nothing (anywhere code) u (IsAt (p + 0) f l) (subst (λ n. IsAt n f l u) e at)

-- a number below the end isn't the end
not_at_end : (n : ℕ) → n < 0xFFFF → (n == 0xFFFF) ≡ false
not_at_end n l = grind (arith, nat_tests, l)

module _ (code : Code) (m : MemoryMap) (commit : ℕ) (tasks : List TaskEntry) (at : ℕ) (boot : IsBoot code m commit tasks at) (u : Core) where
  abbrev fram : ℕ → ℕ
  fram = u.fram

  abbrev inputs : Inputs
  inputs = u.inputs

  abbrev events : Bool
  events = m.runtime.events

  abbrev ladder_and_stubs : List Form
  ladder_and_stubs = ladder (stubs_address m tasks at) (map rung_for tasks) ++ all_stubs (map rung_for tasks)

  -- from the look at GATE on
  abbrev gate_at : ℕ
  gate_at = gate_address events at

  abbrev from_gate : List Form
  from_gate = gated_forms m commit ++ ladder_and_stubs

  gated : Stands code gate_at from_gate
  gated =
      behind_where code events interrupts_set at from_gate
      (subst (Stands code at) (append_assoc (interrupts_enabled m) (gated_forms m commit) ladder_and_stubs) boot.stands)

  -- there is room for all of it
  gate_room : gate_at + 68 < 0x10000
  gate_room = let room = boot.room in let sum = with_events_sum events 6 4 in omega (arith, room, sum)

  -- the look at GATE
  looked : {b : Bool} (v : Core) → ((fram (word_place m Gate) + 65534 + 1) % 65536 == 0) ≡ b → IsAt gate_at fram inputs v
      → Comes code [] 2 6 v (IsAt (if not b then gate_at + 10 else gate_at + 6) fram inputs)
  looked {b} v flag here =
      let room = gate_room in
      compares code boot.tidy One (word_place m Gate) gate_at (Branch commit ∷ []) (boot.places.words Gate) (gated.0, (gated.1.0, tt))
      (omega (arith, room)) b fram inputs v flag here

  -- where there are events interrupts are enabled in front of it
  enabled : u.pc ≡ at → NamesHandler m fram → Comes code [] (with_events events 2) (with_events events 3) u (IsAt gate_at fram inputs)
  enabled e named =
      enables code boot.tidy events at fram inputs u boot.events named
      (stands_front code at (interrupts_enabled m) from_gate
      (subst (Stands code at) (append_assoc (interrupts_enabled m) (gated_forms m commit) ladder_and_stubs) boot.stands))
      (record { pc = e; fram = refl; inputs = refl })

  -- from the boot on to the commit, or past it
  commits : u.pc ≡ at → NamesHandler m fram → ((fram (word_place m Gate) + 65534 + 1) % 65536 == 0) ≡ true
      → Comes code [] (with_events events 2 + 3) (with_events events 3 + 9) u (IsAt commit fram inputs)
  commits e named one =
      comes_on (enabled e named) (λ w j. comes_on (looked w one j)
      (λ v k. form_comes (anywhere code) boot.tidy (Branch commit) v (record v { pc = commit }) [] 3 (IsAt commit fram inputs)
      (ap code.at (k.pc ∙ omega arith) ∙ gated.1.1.0) boot.even_commit refl (record { pc = refl; fram = k.fram; inputs = k.inputs })))

  attempts : u.pc ≡ at → NamesHandler m fram → fram (word_place m Gate) < 0x10000 → fram (word_place m Gate) ≢ 1
      → Comes code [] (with_events events 2 + 2) (with_events events 3 + 6) u (IsAt (gate_at + 10) fram inputs)
  attempts e named word gate =
      comes_on (enabled e named) (λ w j. looked w (gate_is_not_one (fram (word_place m Gate)) word gate) j)

  -- the dispatch, behind the opening
  abbrev dispatch_at : ℕ
  dispatch_at = gate_at + 54 + with_events events 4

  -- the opening stands there, and the dispatch with the ladder and the stubs behind it
  opening_there : Stands code (gate_at + 10) (opening m)
  opening_there =
      stands_front code (gate_at + 10) (opening m) (dispatch m)
      (stands_front code (gate_at + 10) (opening m ++ dispatch m) ladder_and_stubs (forms_behind code gate_at 3 from_gate gated))

  dispatch_there : Stands code dispatch_at (dispatch m ++ ladder_and_stubs)
  dispatch_there =
      behind_where code events event_count_set (gate_at + 54) (dispatch m ++ ladder_and_stubs)
      (subst (Stands code (gate_at + 54)) (append_assoc (events_counted m) (dispatch m) ladder_and_stubs) (forms_behind code gate_at 17 from_gate gated))

  -- the dispatch has its ladder and the stubs
  laddered : HasLadder code m dispatch_at (stubs_address m tasks at) (map rung_for tasks)
  laddered =
      let ss = map rung_for tasks in
      let q = stubs_address m tasks at in
      let room = boot.room in let even = boot.even in
      let count = length-map tasks rung_for in
      let both = forms_behind code dispatch_at 5 (dispatch m ++ (ladder q ss ++ all_stubs ss)) dispatch_there in
      let bytes = ladder_bytes q ss in
      let sum = with_events_sum events 6 4 in
      let first : dispatch_at + 14 + forms_bytes (ladder q ss) ≡ q = omega (arith, bytes, count, sum) in
      let sixes = with_events_even events 6 refl in
      let fours = with_events_even events 4 refl in
      record {
        dispatches = stands_front code dispatch_at (dispatch m) (ladder q ss ++ all_stubs ss) dispatch_there;
        rungs = stands_front code (dispatch_at + 14) (ladder q ss) (all_stubs ss) both;
        stubs = subst (λ x. Stands code x (all_stubs ss)) first (stands_back code (dispatch_at + 14) (ladder q ss) (all_stubs ss) both);
        room = omega (arith, room, count, sum);
        even = omega (arith, even, sixes, fours, sum);
        each = are_rungs tasks boot.entered;
        current = boot.places.words CurrentTask;
        events = boot.events;
      }

pub pending_commit_is_found : PendingCommitIsFound
pending_commit_is_found code m commit tasks at u boot e named gate = commits code m commit tasks at boot u e named (last_flag (u.fram (word_place m Gate)) gate)

pub attempt_is_found : AttemptIsFound
attempt_is_found code m commit tasks at u boot e named word gate = attempts code m commit tasks at boot u e named word gate

-- the opening, the dispatch and the stub
pub start_is_made : StartIsMade
start_is_made code m commit tasks at u boot e named word =
    let f = u.fram in
    let k = f (word_place m CurrentTask) in
    let t = entry_at tasks k in
    let os = opening_effects m f in
    let g = fram_after os f in
    let cs = copied_in t.privates g in
    let room = gate_room code m commit tasks at boot u in
    let from = gate_at code m commit tasks at boot u in
    let count = length-map tasks rung_for in
    let stays = task_stays m f boot.task in
    let entered = All-get_or IsEntered tasks k (record { privates = []; code = 0 }) named boot.entered in
    let is = ap (λ i. rung_in (map rung_for tasks) i) stays ∙ rung_is tasks k in
    let copies = copies_count t.privates in
    let once = ap (λ n. if_any n 1) copies in let dear = ap (λ n. if_any n 3) copies in
    recounted (omega (arith, once)) (omega (arith, dear)) (so_ends (comes_on
    (moved_to (omega arith) (opens code boot.tidy m boot.places (from + 10) f u.inputs u (omega (arith, room)) word
    (opening_there code m commit tasks at boot u) (record { pc = e; fram = refl; inputs = refl })))
    (λ v j. to_task code boot.tidy m (dispatch_at code m commit tasks at boot u) (stubs_address m tasks at) (map rung_for tasks)
    (rung_for t) (copying t.privates g u.inputs) v
    (laddered code m commit tasks at boot u) j
    (omega (arith, named, stays, count)) is (copies_done code boot.tidy stack_top t.privates g u.inputs entered.privates)))
    (λ v h. record { pc = h.pc; sp = h.sp; fram = h.fram ∙ sym (fram_after-append os cs f); inputs = h.inputs }))

-- GATE, VER against its end, and the store to VER
pub version_is_raised : VersionIsRaised
version_is_raised code m commit tasks at u boot e named small gate below =
    let f = u.fram in
    let room = gate_room code m commit tasks at boot u in
    let from = gate_at code m commit tasks at boot u in
    let all = from_gate code m commit tasks at boot u in
    let stands = gated code m commit tasks at boot u in
    recounted (omega arith) (omega arith) (comes_on (attempts code m commit tasks at boot u e named small gate)
    (λ v j. comes_on (moved_to (omega arith) (looks_at_version code boot.tidy m boot.places (from + 10) false f u.inputs v (omega (arith, room))
    (forms_at code from 3 2 all stands) (omega (arith, below)) (not_at_end (f (word_place m Version)) below) j))
    (λ w i. moved_to (omega arith) (raises code boot.tidy m boot.places (from + 42) f u.inputs w (forms_at code from 14 3 all stands) below i))))
