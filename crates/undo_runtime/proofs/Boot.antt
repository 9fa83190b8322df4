-- The boot, its recovery, and the start of an attempt.
use Rattle.std.proofs.Common.{◌≡◌, ◌≢◌, ℕ, ◌+◌, ◌*◌, ◌%◌, ◌<◌, ◌==◌, Bool, not, if◌then◌else◌, List, [], ◌∷◌, ◌++◌}
use Rattle.std.proofs.Common.{refl, sym, ap, ◌∙◌, subst, arith, true, append_assoc}
use Rattle.std.proofs.lemmas.List.{length-map}
use Rattle.std.proofs.lemmas.List.Elements.{All-get_or}
use Rattle.runtime_code.specs.msp_isa.declared.operands.Konst.TheVariants.{One}
use Rattle.runtime_code.specs.machine_effects.World.{fram_after}
use Rattle.runtime_code.specs.machine_effects.Inputs.{Inputs}
use Rattle.runtime_code.specs.machine_effects.Machine.{Code}
use Rattle.runtime_code.proofs.machine_effects.Interface.{fram_after-append, fram_untouched}
use Rattle.runtime_code.specs.code_forms.Forms.{Core, Form, Branch}
use Rattle.runtime_code.specs.code_forms.Code.{Stands, forms_bytes, anywhere}
use Rattle.runtime_code.proofs.code_forms.Interface.{stands_front, stands_back, forms_behind}
use Rattle.runtime_code.specs.runtime_effects.Needs.{IsOutOf}
use Rattle.runtime_code.specs.Addresses.{gate_address, stack_top}
use Rattle.runtime_code.specs.Comes.{Comes, IsAt}
use Rattle.runtime_code.specs.Ladder.{dispatch, ladder, all_stubs}
use Rattle.runtime_code.proofs.Interface.{last_flag, comes_on, form_comes, so_ends, recounted, moved_to, compares, rung_in, HasLadder, ladder_bytes, to_task}
use Rattle.runtime_code.proofs.Interface.{behind_where, with_events_sum, with_events_even}
use Rattle.boot_runtime.specs.Listing.{interrupts_set, interrupts_enabled, event_count_set, events_counted}
use Rattle.boot_runtime.specs.Laws.{NamesHandler}
use Rattle.boot_runtime.proofs.Interface.{gate_is_not_one, enables}
use Rattle.memory_map.specs.declared.words.RuntimeWord.TheVariants.{CurrentTask, Gate, ListLength, EmitCount, Version}
use Rattle.memory_map.specs.MemoryMap.{MemoryMap, word_place, with_events}
use Rattle.memory_map.specs.event_places.Places.{count_place}
use Rattle.undo_effects.specs.Stages.{words_logged, undo_opening}
use Rattle.undo_effects.proofs.Interface.{out_of, opening_stores}
use Rattle.undo_runtime.specs.Listing.{LoggedTask, task_at, rung_for, rungs, stubs_place, recovering, opening, gated_forms, ladder_forms}
use Rattle.undo_runtime.specs.Laws.{IsReached, IsUndoBoot, UndoCommitIsFound, RecoveryIsMade, UndoStartIsMade}
use Rattle.undo_runtime.proofs.Recovery.{recovers}
use Rattle.undo_runtime.proofs.Opening.{opens}
use Rattle.undo_runtime.proofs.Entering.{once_logged, are_rungs, rung_is, logging, logs_done}

-- the opening leaves a word that is no version word, nor VER, EN or EC
opening_leaves : (m : MemoryMap) (a : ℕ) (f : ℕ → ℕ) → IsOutOf m.versions.address (2 * m.versions.words) a → word_place m Version ≢ a
    → word_place m EmitCount ≢ a → count_place ≢ a → fram_after (undo_opening m f) f a ≡ f a
opening_leaves m a f versions version count events =
    fram_untouched (undo_opening m f) a f
    (opening_stores (λ b. b ≢ a) m f
    (λ i l. out_of m.versions.address (2 * m.versions.words) a (m.versions.address + 2 * i) versions (omega arith) (omega (arith, l)))
    version count events)

module _ (code : Code) (m : MemoryMap) (commit : ℕ) (tasks : List LoggedTask) (at : ℕ) (boot : IsUndoBoot code m commit tasks at) (u : Core) where
  abbrev fram : ℕ → ℕ
  fram = u.fram

  abbrev inputs : Inputs
  inputs = u.inputs

  abbrev events : Bool
  events = m.runtime.events

  abbrev ladder_and_stubs : List Form
  ladder_and_stubs = ladder_forms m tasks at

  -- from the look at GATE on
  abbrev gate_at : ℕ
  gate_at = gate_address events at

  abbrev from_gate : List Form
  from_gate = gated_forms m commit ++ ladder_and_stubs

  gated : Stands code gate_at from_gate
  gated = behind_where code events interrupts_set at from_gate boot.stands

  -- there is room for all of it
  gate_room : gate_at + 100 < 0x10000
  gate_room = let room = boot.room in let sum = with_events_sum events 6 4 in omega (arith, room, sum)

  -- the look at GATE
  looked : {b : Bool} (v : Core) → ((fram (word_place m Gate) + 65534 + 1) % 65536 == 0) ≡ b → IsAt gate_at fram inputs v
      → Comes code [] 2 6 v (IsAt (if not b then gate_at + 10 else gate_at + 6) fram inputs)
  looked {b} v flag here =
      let room = gate_room in
      compares code boot.tidy One (word_place m Gate) gate_at (Branch commit ∷ []) (boot.places.words Gate) (gated.0, (gated.1.0, tt))
      (omega (arith, room)) b fram inputs v flag here

  -- where there are events interrupts are enabled in front of it
  enabled : u.pc ≡ at → NamesHandler m fram → Comes code [] (with_events events 2) (with_events events 3) u (IsAt gate_at fram inputs)
  enabled e named =
      enables code boot.tidy events at fram inputs u boot.events named (stands_front code at (interrupts_enabled m) from_gate boot.stands)
      (record { pc = e; fram = refl; inputs = refl })

  -- from the boot on to the commit, or past it
  commits : u.pc ≡ at → NamesHandler m fram → ((fram (word_place m Gate) + 65534 + 1) % 65536 == 0) ≡ true
      → Comes code [] (with_events events 2 + 3) (with_events events 3 + 9) u (IsAt commit fram inputs)
  commits e named one =
      comes_on (enabled e named) (λ w j. comes_on (looked w one j)
      (λ v k. form_comes (anywhere code) boot.tidy (Branch commit) v (record v { pc = commit }) [] 3 (IsAt commit fram inputs)
      (ap code.at (k.pc ∙ omega arith) ∙ gated.1.1.0) boot.even_commit refl (record { pc = refl; fram = k.fram; inputs = k.inputs })))

  passes : u.pc ≡ at → NamesHandler m fram → fram (word_place m Gate) < 0x10000 → fram (word_place m Gate) ≢ 1
      → Comes code [] (with_events events 2 + 2) (with_events events 3 + 6) u (IsAt (gate_at + 10) fram inputs)
  passes e named word gate =
      comes_on (enabled e named) (λ w j. looked w (gate_is_not_one (fram (word_place m Gate)) word gate) j)

  -- what stands behind the look at GATE
  behind_gate : Stands code (gate_at + 10) (recovering m ++ (opening m ++ dispatch m))
  behind_gate =
      stands_front code (gate_at + 10) (recovering m ++ (opening m ++ dispatch m)) ladder_and_stubs (forms_behind code gate_at 3 from_gate gated)

  recovery_there : Stands code (gate_at + 10) (recovering m)
  recovery_there = stands_front code (gate_at + 10) (recovering m) (opening m ++ dispatch m) behind_gate

  opening_there : Stands code (gate_at + 46) (opening m)
  opening_there =
      stands_front code (gate_at + 46) (opening m) (dispatch m)
      (subst (λ n. Stands code n (opening m ++ dispatch m)) (omega arith)
      (stands_back code (gate_at + 10) (recovering m) (opening m ++ dispatch m) behind_gate))

  -- the dispatch, behind the opening
  abbrev dispatch_at : ℕ
  dispatch_at = gate_at + 86 + with_events events 4

  dispatch_there : Stands code dispatch_at (dispatch m ++ ladder_and_stubs)
  dispatch_there =
      behind_where code events event_count_set (gate_at + 86) (dispatch m ++ ladder_and_stubs)
      (subst (Stands code (gate_at + 86)) (append_assoc (events_counted m) (dispatch m) ladder_and_stubs)
      (forms_behind code gate_at 28 from_gate gated))

  -- the dispatch has its ladder and the stubs
  laddered : HasLadder code m dispatch_at (stubs_place m tasks at) (rungs m tasks)
  laddered =
      let ss = rungs m tasks in
      let q = stubs_place m tasks at in
      let room = boot.room in let even = boot.even in
      let count = length-map tasks (rung_for m) in
      let both = forms_behind code dispatch_at 5 (dispatch m ++ (ladder q ss ++ all_stubs ss)) dispatch_there in
      let bytes = ladder_bytes q ss in
      let sum = with_events_sum events 6 4 in
      let first : dispatch_at + 14 + forms_bytes (ladder q ss) ≡ q = omega (arith, bytes, count, sum) in
      let sixes = with_events_even events 6 refl in
      let fours = with_events_even events 4 refl in
      record {
        dispatches = stands_front code dispatch_at (dispatch m) (ladder q ss ++ all_stubs ss) dispatch_there;
        rungs = stands_front code (dispatch_at + 14) (ladder q ss) (all_stubs ss) both;
        stubs = subst (λ x. Stands code x (all_stubs ss)) first (stands_back code (dispatch_at + 14) (ladder q ss) (all_stubs ss) both);
        room = omega (arith, room, count, sum);
        even = omega (arith, even, sixes, fours, sum);
        each = are_rungs m tasks boot.reached;
        current = boot.places.words CurrentTask;
        events = boot.events;
      }

pub undo_commit_is_found : UndoCommitIsFound
undo_commit_is_found code m commit tasks at u boot e named gate =
    commits code m commit tasks at boot u e named (last_flag (u.fram (word_place m Gate)) gate)

pub recovery_is_made : RecoveryIsMade
recovery_is_made code m commit tasks at u boot e named word gate can =
    let room = gate_room code m commit tasks at boot u in
    let from = gate_at code m commit tasks at boot u in
    comes_on (passes code m commit tasks at boot u e named word gate)
    (λ v j. moved_to (omega arith) (recovers code boot.tidy m boot.places (from + 10) u.fram u.inputs v (omega (arith, room))
    (recovery_there code m commit tasks at boot u) can j))

-- the opening, the dispatch and the stub
pub undo_start_is_made : UndoStartIsMade
undo_start_is_made code m commit tasks at u boot e named word none =
    let f = u.fram in
    let k = f (word_place m CurrentTask) in
    let t = task_at tasks k in
    let os = undo_opening m f in
    let g = fram_after os f in
    let ls = words_logged m t.privates g in
    let room = gate_room code m commit tasks at boot u in
    let from = gate_at code m commit tasks at boot u in
    let count = length-map tasks (rung_for m) in
    let stays = opening_leaves m (word_place m CurrentTask) f boot.task.versions (λ q. omega (arith, q)) (λ q. omega (arith, q)) boot.task.event_count in
    let empty = opening_leaves m (word_place m ListLength) f boot.list.versions (λ q. omega (arith, q)) (λ q. omega (arith, q)) boot.list.event_count ∙ none in
    let reached = All-get_or (IsReached m) tasks k (record { privates = []; code = 0 }) named boot.reached in
    let is = ap (λ i. rung_in (rungs m tasks) i) stays ∙ rung_is m tasks k in
    let once = once_logged m 0 t.privates 1 in let dear = once_logged m 0 t.privates 3 in
    let few = reached.few in
    let does = logs_done code boot.tidy m boot.places boot.list stack_top 0 t.privates g u.inputs empty (omega (arith, few))
    reached.privates in
    recounted (omega (arith, once)) (omega (arith, dear)) (so_ends (comes_on
    (moved_to (omega arith) (opens code boot.tidy m boot.places (from + 46) f u.inputs u (omega (arith, room)) word
    (opening_there code m commit tasks at boot u) (record { pc = e; fram = refl; inputs = refl })))
    (λ v j. to_task code boot.tidy m (dispatch_at code m commit tasks at boot u) (stubs_place m tasks at) (rungs m tasks)
    (rung_for m t) (logging m t.privates g u.inputs) v (laddered code m commit tasks at boot u) j
    (omega (arith, named, stays, count)) is does))
    (λ v h. record { pc = h.pc; sp = h.sp; fram = h.fram ∙ sym (fram_after-append os ls f); inputs = h.inputs }))
