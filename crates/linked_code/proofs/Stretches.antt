-- The stretches of linked code: where a task is entered; and under redo from the boot to the start of an attempt and to the commit, from there to a task,
-- and the commit, all in the part of the code that is of no task, which does the same under watch.
use Rattle.std.proofs.Common.{◌≡◌, ◌<◌, ◌≤◌, ◌+◌, ◌*◌, ℕ, zero, suc, Bool, true, false, not, List, [], ◌∷◌, length, map, refl, sym, ap, ◌∙◌, subst, arith}
use Rattle.std.proofs.Common.{Some, slice_get}
use Rattle.boot_runtime.specs.fram_board.Effects.{Effect, Store}
use Rattle.boot_runtime.specs.machine_effects.World.{put, fram_after}
use Rattle.boot_runtime.specs.machine_effects.Inputs.{Inputs, InputsAreWords}
use Rattle.boot_runtime.specs.machine_effects.Machine.{Code}
use Rattle.boot_runtime.specs.code_forms.Forms.{Core, board_of}
use Rattle.boot_runtime.specs.code_forms.Code.{Stands, IsTidy, anywhere}
use Rattle.boot_runtime.proofs.code_forms.Interface.{only_is_part, only_is_tidy, fronts_may, leads_watched}
use Rattle.word_code.specs.array_versions.TaskPrograms.{TaskPrograms}
use Rattle.word_code.specs.Laws.{IsEntry}
use Rattle.boot_runtime.specs.runtime_effects.Places.{listed}
use Rattle.boot_runtime.specs.runtime_effects.Stages.{is_at_end, start_effects, commit_effects}
use Rattle.boot_runtime.specs.runtime_effects.Needs.{CanCommit}
use Rattle.boot_runtime.specs.runtime_code.Addresses.{stack_top}
use Rattle.boot_runtime.specs.runtime_code.Comes.{Comes, IsAt, Enters}
use Rattle.boot_runtime.proofs.runtime_code.Interface.{with_events_even, comes_on, core_at, from_there, places_are_in_fram, opening_keeps_task}
use Rattle.boot_runtime.specs.Entries.{entry_of, task_entries}
use Rattle.boot_runtime.specs.Listing.{TaskEntry, entry_at, privates_in, start_steps, start_cycles}
use Rattle.boot_runtime.specs.Laws.{IsBoot, NamesHandler}
use Rattle.boot_runtime.proofs.Interface.{pending_commit_is_found, attempt_is_found, start_is_made, version_is_raised, tasks_are_entered}
use Rattle.commit_runtime.specs.Listing.{commit_steps, commit_cycles}
use Rattle.commit_runtime.proofs.Interface.{commit_is_made}
use Rattle.linked_code.specs.Linked.{boot_code, bytes_of_boot, start_by, attempt_start, commit_code, bytes_of_commit}
use Rattle.linked_code.specs.Linked.{linked_code, TaskFits, ProgramsFit, CodeFits, ProgramsAreWhole}
use Rattle.linked_code.specs.Linked.{boot_part, commit_part}
use Rattle.linked_code.specs.Laws.{IsLinkedCode, PartStands, PartsStand}
use Rattle.linked_code.specs.Watch.{is_in_some, keeps_stacks, runtime_only, StackedComes}
use Rattle.linked_code.proofs.Linked.{linked_is_code, linked_stands}
use Rattle.linked_code.proofs.Watched.{boot_only, commit_only, runtime_may}
use Rattle.boot_runtime.specs.memory_map.declared.runtime.Logging.TheVariants.{Redo}
use Rattle.boot_runtime.specs.memory_map.declared.words.RuntimeWord.TheVariants.{CurrentTask, Gate, ListLength, EmitCount, SentBase, Version}
use Rattle.boot_runtime.specs.memory_map.MemoryMap.{MemoryMap, TaskPlace, word_place, with_events}
use Rattle.boot_runtime.proofs.memory_map.Interface.{apart_of, even_of}

-- where a task is entered its code stands
entered_at : (ts : List TaskPlace) (k : ℕ) (t : TaskPlace) → slice_get ts k ≡ Some t → (entry_at (map entry_of ts) k).code ≡ t.code.address
entered_at [] k t a = absurd (cc (a))
entered_at (u ∷ ts) zero t a = let d : u ≡ t = cc a in ap (λ x. x.code.address) d
entered_at (u ∷ ts) (suc k) t a = entered_at ts k t a

entries_count : (ts : List TaskPlace) → length (map entry_of ts) ≡ length ts
entries_count [] = refl
entries_count (t ∷ ts) = let e = entries_count ts in omega (arith, e)

-- there are as many programs as tasks with places
pub programs_count : (ts : List TaskPlace) (ps : List TaskPrograms) → ProgramsFit ts ps → length ps ≡ length ts
programs_count [] [] f = refl
programs_count [] (p ∷ ps) f = absurd f
programs_count (t ∷ ts) [] f = absurd f
programs_count (t ∷ ts) (p ∷ ps) f = let e = programs_count ts ps f.1 in omega (arith, e)

-- what fits of a task where its place and its program are known
pub task_fits : (ts : List TaskPlace) (ps : List TaskPrograms) (k : ℕ) (t : TaskPlace) (p : TaskPrograms) → ProgramsFit ts ps → slice_get ts k ≡ Some t
    → slice_get ps k ≡ Some p → TaskFits t p
task_fits [] ps k t p f a b = absurd (cc (a))
task_fits (u ∷ ts) [] k t p f a b = absurd (cc (b))
task_fits (u ∷ ts) (q ∷ ps) zero t p f a b = let d : u ≡ t = cc a in let e : q ≡ p = cc b in
    subst (λ x. TaskFits x p) d (subst (λ y. TaskFits u y) e f.0)
task_fits (u ∷ ts) (q ∷ ps) (suc k) t p f a b = task_fits ts ps k t p f.1 a b

module _ (l : MemoryMap) (programs : List TaskPrograms) (fits : CodeFits l programs) (whole : ProgramsAreWhole programs) where
  abbrev pub code : Code
  code = linked_code l programs

  abbrev pub tasks : List TaskEntry
  tasks = task_entries l

  pub is_linked : IsLinkedCode l programs
  is_linked = linked_is_code l programs fits

  pub parts : PartsStand l programs code
  parts = linked_stands l programs fits

  -- where a task is entered on words, its program's code begins
  pub entry_there : (v : Core) (k : ℕ) (t : TaskPlace) → slice_get l.tasks k ≡ Some t → (g : ℕ → ℕ) (inputs : Inputs)
      → Enters (entry_at tasks k).code stack_top g inputs v → ((a : ℕ) → g a < 0x10000) → InputsAreWords inputs
      → IsEntry t.code.address v
  entry_there v k t at g inputs h words ready = record {
    pc = h.pc ∙ entered_at l.tasks k t at;
    sp = h.sp;
    fram = subst (λ f. (a : ℕ) → f a < 0x10000) (sym h.fram) words;
    inputs = subst InputsAreWords (sym h.inputs) ready;
  }

  -- boot and commit by themselves
  abbrev pub around : Code
  around = runtime_only l code

  pub around_is_tidy : IsTidy around
  around_is_tidy = only_is_tidy (λ a. not (is_in_some a l.tasks)) code is_linked.tidy

  pub boot_around : PartStands around (boot_part l)
  boot_around = boot_only l programs fits code parts.boot

  pub commit_around : PartStands around (commit_part l)
  commit_around = commit_only l programs fits code parts.commit

  -- what they do by themselves they do under watch
  pub under_watch : (lows : List ℕ) {es : List Effect} {n c : ℕ} {u : Core} {P : Core → Type 0} → Comes around es n c u P
      → StackedComes l programs lows es n c u P
  under_watch lows {es} {n} {c} {u} a = record {
    end = a.end;
    leads =
        leads_watched (keeps_stacks l lows) code (anywhere around) (only_is_part (λ x. not (is_in_some x l.tasks)) code) n c es (board_of u) (board_of a.end)
        (fronts_may (keeps_stacks l lows) (anywhere around) u n a.forms (runtime_may l programs fits code lows (anywhere around) refl)) a.leads;
    holds = a.holds;
  }

  -- ---- under redo

  module _ (logs : l.runtime.logging ≡ Redo) where
    abbrev start_at : ℕ
    start_at = start_by Redo l

    -- this is where attempts start by the map
    at_start : (es : List Effect) (n c : ℕ) (u : Core) (f : ℕ → ℕ) (inputs : Inputs) → Comes around es n c u (IsAt start_at f inputs)
        → Comes around es n c u (IsAt (attempt_start l) f inputs)
    at_start es n c u f inputs k = subst (λ g. Comes around es n c u (IsAt (start_by g l) f inputs)) (sym logs) k

    boot_stands : Stands around l.boot.address (boot_code Redo l)
    boot_stands = subst (λ g. Stands around l.boot.address (boot_code g l)) logs boot_around

    commit_stands : Stands around l.commit.address (commit_code Redo l)
    commit_stands = subst (λ g. Stands around l.commit.address (commit_code g l)) logs commit_around

    boot_fits : bytes_of_boot Redo l ≤ 2 * l.boot.words
    boot_fits = subst (λ g. bytes_of_boot g l ≤ 2 * l.boot.words) logs fits.boot

    commit_fits : bytes_of_commit Redo l.runtime.events ≤ 2 * l.commit.words
    commit_fits = subst (λ g. bytes_of_commit g l.runtime.events ≤ 2 * l.commit.words) logs fits.commit

    is_boot : IsBoot around l l.commit.address tasks l.boot.address
    is_boot =
        let f = boot_fits in let c = (apart_of l fits.rules).commit in let d = (apart_of l fits.rules).code in let k = (apart_of l fits.rules).high in
        record {
          tidy = around_is_tidy;
          events = refl;
          places = places_are_in_fram l fits.rules;
          task = opening_keeps_task l fits.rules;
          even_commit = (even_of l fits.rules).commit;
          entered = tasks_are_entered l fits.rules;
          even = (even_of l fits.rules).boot;
          room = omega (arith, f, c, d, k);
          stands = boot_stands;
        }

    -- from the boot to the start of an attempt
    pub to_start : (u : Core) → u.pc ≡ l.boot.address → NamesHandler l u.fram → u.fram (word_place l Gate) ≡ 0
        → let events = l.runtime.events in Comes around [] (with_events events 2 + 2) (with_events events 3 + 6) u (IsAt (attempt_start l) u.fram u.inputs)
    to_start u e named z =
        at_start [] (with_events l.runtime.events 2 + 2) (with_events l.runtime.events 3 + 6) u u.fram u.inputs
        (attempt_is_found around l l.commit.address tasks l.boot.address u is_boot e named (omega (arith, z)) (λ q. omega (arith, z, q)))

    -- from the boot to the store to VER, where it isn't at its end
    pub to_raised : (u : Core) → u.pc ≡ l.boot.address → NamesHandler l u.fram → u.fram (word_place l Gate) ≡ 0 → u.fram (word_place l Version) < 0xFFFF
        → let raised = u.fram (word_place l Version) + 1 in
        let events = l.runtime.events in
        Comes around (Store (word_place l Version) raised ∷ []) (with_events events 2 + 5) (with_events events 3 + 16) u
        (IsAt (start_at + 36) (put u.fram (word_place l Version) raised) u.inputs)
    to_raised u e named z below =
        version_is_raised around l l.commit.address tasks l.boot.address u is_boot e named (omega (arith, z)) (λ q. omega (arith, z, q)) below

    -- from the start of an attempt on FRAM and inputs to the code of a task
    abbrev pub FromStart : Core → (ℕ → ℕ) → Inputs → Type 0
    FromStart v f inputs =
        let t = entry_at tasks (f (word_place l CurrentTask)) in
        let events = l.runtime.events in let clears = is_at_end l f in
        let es = start_effects l (privates_in tasks) f in
        Comes around es (start_steps events clears l.versions.words (length t.privates)) (start_cycles events clears l.versions.words (length t.privates)) v
        (Enters t.code stack_top (fram_after es f) inputs)

    -- to the task that CUR names
    pub start_there : (v : Core) (f : ℕ → ℕ) (inputs : Inputs) → IsAt (attempt_start l) f inputs v → f (word_place l CurrentTask) < length programs
        → f (word_place l Version) < 0x10000 → FromStart v f inputs
    start_there v f inputs h named word =
        let count = programs_count l.tasks programs fits.tasks in
        let e = entries_count l.tasks in
        from_there v (subst (λ g. IsAt (start_by g l) f inputs v) logs h)
        (start_is_made around l l.commit.address tasks l.boot.address (core_at start_at f inputs v) is_boot refl (omega (arith, named, count, e)) word)

    -- the commit on FRAM
    abbrev pub DoesCommit : Core → (ℕ → ℕ) → Inputs → Type 0
    DoesCommit v f inputs =
        let es = commit_effects l f in
        let n = f (word_place l ListLength) in let ws = length (listed l f) in let k = f (word_place l EmitCount) in
        let events = l.runtime.events in
        Comes around es (commit_steps events n ws k) (commit_cycles events n ws k) v
        (IsAt (attempt_start l) (fram_after es f) inputs)

    -- where the commit is entered and can be made, its code makes it
    pub commit_there : (v : Core) (f : ℕ → ℕ) (inputs : Inputs) → IsAt l.commit.address f inputs v → CanCommit l f
        → f (word_place l SentBase) < 0x10000 → DoesCommit v f inputs
    commit_there v f inputs h can word =
        let c = commit_fits in let d = (apart_of l fits.rules).code in let k = (apart_of l fits.rules).high in
        let even = (even_of l fits.rules).boot in
        let enabling = with_events_even l.runtime.events 6 refl in
        let n = f (word_place l ListLength) in let ws = length (listed l f) in let o = f (word_place l EmitCount) in
        let es = commit_effects l f in
        at_start es (commit_steps l.runtime.events n ws o) (commit_cycles l.runtime.events n ws o) v (fram_after es f) inputs
        (from_there v h (commit_is_made around l l.commit.address start_at (core_at l.commit.address f inputs v) around_is_tidy is_boot.places
        (omega (arith, c, d, k)) (omega (arith, even, enabling)) commit_stands refl can word))

    -- from the boot to the commit, where GATE is 1
    pub to_commit : (u : Core) → u.pc ≡ l.boot.address → NamesHandler l u.fram → u.fram (word_place l Gate) ≡ 1 → CanCommit l u.fram
        → u.fram (word_place l SentBase) < 0x10000
        → let es = commit_effects l u.fram in
        let n = u.fram (word_place l ListLength) in let ws = length (listed l u.fram) in let k = u.fram (word_place l EmitCount) in
        let events = l.runtime.events in
        Comes around es (with_events events 2 + 3 + commit_steps events n ws k) (with_events events 3 + 9 + commit_cycles events n ws k) u
        (IsAt (attempt_start l) (fram_after es u.fram) u.inputs)
    to_commit u e named one can word =
        comes_on (pending_commit_is_found around l l.commit.address tasks l.boot.address u is_boot e named one)
        (λ v h. commit_there v u.fram u.inputs h can word)
