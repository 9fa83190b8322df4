-- The stretches of linked code under undo: from the boot through the recovery to the start of an attempt, and to the commit; from the start to a task's
-- code; the commit. They are in the part of the code that is of no task.
use Rattle.std.proofs.Common.{◌≡◌, ◌<◌, ◌≤◌, ◌+◌, ◌*◌, ℕ, zero, suc, List, [], ◌∷◌, length, map, refl, sym, subst, arith}
use Rattle.std.specs.Prelude.{All}
use Rattle.boot_runtime.specs.fram_board.Effects.{Effect}
use Rattle.boot_runtime.specs.machine_effects.World.{fram_after}
use Rattle.boot_runtime.specs.machine_effects.Inputs.{Inputs}
use Rattle.boot_runtime.specs.code_forms.Forms.{Core}
use Rattle.boot_runtime.specs.code_forms.Code.{Stands}
use Rattle.word_code.specs.array_versions.TaskPrograms.{TaskPrograms}
use Rattle.boot_runtime.specs.memory_map.declared.runtime.Logging.TheVariants.{Undo}
use Rattle.boot_runtime.specs.memory_map.declared.words.RuntimeWord.TheVariants.{CurrentTask, Gate, ListLength, EmitCount, Version}
use Rattle.boot_runtime.specs.memory_map.MemoryMap.{MemoryMap, TaskPlace, word_place, with_events}
use Rattle.boot_runtime.proofs.memory_map.Interface.{apart_of, even_of}
use Rattle.boot_runtime.specs.runtime_effects.Stages.{is_at_end}
use Rattle.boot_runtime.specs.runtime_code.Addresses.{stack_top}
use Rattle.boot_runtime.specs.runtime_code.Comes.{Comes, IsAt, Enters}
use Rattle.boot_runtime.proofs.runtime_code.Interface.{with_events_even, comes_on, core_at, from_there, places_are_in_fram, opening_keeps_task}
use Rattle.boot_runtime.specs.Entries.{entry_of, task_entries}
use Rattle.boot_runtime.specs.Listing.{entry_at}
use Rattle.boot_runtime.specs.Laws.{NamesHandler}
use Rattle.undo_runtime.specs.undo_effects.Stages.{recovery, undo_start, undo_commit}
use Rattle.undo_runtime.specs.Entries.{task_of, logged_tasks, FitsList}
use Rattle.undo_runtime.specs.Listing.{LoggedTask, task_at, privates_in, recovery_steps, recovery_cycles, start_steps, start_cycles}
use Rattle.undo_runtime.specs.Listing.{commit_steps, commit_cycles}
use Rattle.undo_runtime.specs.Needs.{CanRecover, CanClose}
use Rattle.undo_runtime.specs.Laws.{IsUndoBoot}
use Rattle.undo_runtime.proofs.Interface.{undo_commit_is_found, recovery_is_made, undo_start_is_made, undo_commit_is_made}
use Rattle.linked_code.specs.Linked.{boot_code, bytes_of_boot, start_by, attempt_start, commit_code, bytes_of_commit, StartsFit}
use Rattle.linked_code.specs.Linked.{CodeFits, ProgramsAreWhole}
use Rattle.linked_code.proofs.Stretches.{programs_count, around, around_is_tidy, boot_around, commit_around}
use Rattle.linked_code.proofs.Reached.{list_stands, tasks_are_reached}

-- a task's code is where either runtime comes to it
same_code : (ts : List TaskPlace) (k : ℕ) → (task_at (map task_of ts) k).code ≡ (entry_at (map entry_of ts) k).code
same_code [] k = refl
same_code (t ∷ ts) zero = refl
same_code (t ∷ ts) (suc k) = same_code ts k

tasks_count : (ts : List TaskPlace) → length (map task_of ts) ≡ length ts
tasks_count [] = refl
tasks_count (t ∷ ts) = let e = tasks_count ts in omega (arith, e)

module _ (l : MemoryMap) (programs : List TaskPrograms) (fits : CodeFits l programs) (whole : ProgramsAreWhole programs)
    (logs : l.runtime.logging ≡ Undo) where
  abbrev tasks : List LoggedTask
  tasks = logged_tasks l

  abbrev start_at : ℕ
  start_at = start_by Undo l

  -- this is where attempts start by the map
  at_start : (es : List Effect) (n c : ℕ) (u : Core) (f : ℕ → ℕ) (inputs : Inputs) → Comes (around l programs fits whole) es n c u (IsAt start_at f inputs)
      → Comes (around l programs fits whole) es n c u (IsAt (attempt_start l) f inputs)
  at_start es n c u f inputs k = subst (λ g. Comes (around l programs fits whole) es n c u (IsAt (start_by g l) f inputs)) (sym logs) k

  boot_stands : Stands (around l programs fits whole) l.boot.address (boot_code Undo l)
  boot_stands = subst (λ g. Stands (around l programs fits whole) l.boot.address (boot_code g l)) logs (boot_around l programs fits whole)

  commit_stands : Stands (around l programs fits whole) l.commit.address (commit_code Undo l)
  commit_stands = subst (λ g. Stands (around l programs fits whole) l.commit.address (commit_code g l)) logs (commit_around l programs fits whole)

  boot_fits : bytes_of_boot Undo l ≤ 2 * l.boot.words
  boot_fits = subst (λ g. bytes_of_boot g l ≤ 2 * l.boot.words) logs fits.boot

  commit_fits : bytes_of_commit Undo l.runtime.events ≤ 2 * l.commit.words
  commit_fits = subst (λ g. bytes_of_commit g l.runtime.events ≤ 2 * l.commit.words) logs fits.commit

  lists_fit : All (FitsList l) l.tasks
  lists_fit = subst (λ g. StartsFit g l) logs fits.starts

  is_boot : IsUndoBoot (around l programs fits whole) l l.commit.address tasks l.boot.address
  is_boot =
      let f = boot_fits in let c = (apart_of l fits.rules).commit in let d = (apart_of l fits.rules).code in let k = (apart_of l fits.rules).high in
      record {
        tidy = around_is_tidy l programs fits whole;
        events = refl;
        places = places_are_in_fram l fits.rules;
        task = opening_keeps_task l fits.rules;
        list = list_stands l fits.rules;
        even_commit = (even_of l fits.rules).commit;
        reached = tasks_are_reached l fits.rules lists_fit;
        even = (even_of l fits.rules).boot;
        room = omega (arith, f, c, d, k);
        stands = boot_stands;
      }

  -- from the boot through the recovery to the start of an attempt
  pub to_recovered : (u : Core) → u.pc ≡ l.boot.address → NamesHandler l u.fram → u.fram (word_place l Gate) ≡ 0 → CanRecover l u.fram
      → let events = l.runtime.events in
      let n = u.fram (word_place l ListLength) in
      let es = recovery l u.fram in
      Comes (around l programs fits whole) es (with_events events 2 + 2 + recovery_steps n) (with_events events 3 + 6 + recovery_cycles n) u
      (IsAt (attempt_start l) (fram_after es u.fram) u.inputs)
  to_recovered u e named z can =
      let events = l.runtime.events in
      let n = u.fram (word_place l ListLength) in
      let es = recovery l u.fram in
      at_start es (with_events events 2 + 2 + recovery_steps n) (with_events events 3 + 6 + recovery_cycles n) u (fram_after es u.fram) u.inputs
      (recovery_is_made (around l programs fits whole) l l.commit.address tasks l.boot.address u is_boot e named (omega (arith, z)) (λ q. omega (arith, z, q))
      can)

  -- from the start of an attempt, where nothing is listed, to the code of the task that CUR names
  abbrev pub FromStart : Core → (ℕ → ℕ) → Inputs → Type 0
  FromStart v f inputs =
      let k = f (word_place l CurrentTask) in
      let t = task_at tasks k in
      let events = l.runtime.events in let clears = is_at_end l f in
      let es = undo_start l (privates_in tasks) f in
      Comes (around l programs fits whole) es (start_steps events clears l.versions.words (length t.privates))
      (start_cycles events clears l.versions.words (length t.privates)) v
      (Enters (entry_at (task_entries l) k).code stack_top (fram_after es f) inputs)

  pub logged_start_there : (v : Core) (f : ℕ → ℕ) (inputs : Inputs) → IsAt (attempt_start l) f inputs v → f (word_place l CurrentTask) < length programs
      → f (word_place l Version) < 0x10000 → f (word_place l ListLength) ≡ 0 → FromStart v f inputs
  logged_start_there v f inputs h named word none =
      let count = programs_count l.tasks programs fits.tasks in
      let e = tasks_count l.tasks in
      let k = f (word_place l CurrentTask) in
      let t = task_at tasks k in
      let events = l.runtime.events in let clears = is_at_end l f in
      let es = undo_start l (privates_in tasks) f in
      let P : ℕ → Type 0 = λ address. Comes (around l programs fits whole) es (start_steps events clears l.versions.words (length t.privates))
      (start_cycles events clears l.versions.words (length t.privates)) v (Enters address stack_top (fram_after es f) inputs) in
      subst P (same_code l.tasks k)
      (from_there v (subst (λ g. IsAt (start_by g l) f inputs v) logs h)
      (undo_start_is_made (around l programs fits whole) l l.commit.address tasks l.boot.address (core_at start_at f inputs v) is_boot refl
      (omega (arith, named, count, e)) word none))

  -- the commit on FRAM
  abbrev pub DoesCommit : Core → (ℕ → ℕ) → Inputs → Type 0
  DoesCommit v f inputs =
      let es = undo_commit l f in
      let k = f (word_place l EmitCount) in
      let events = l.runtime.events in
      Comes (around l programs fits whole) es (commit_steps events k) (commit_cycles events k) v (IsAt (attempt_start l) (fram_after es f) inputs)

  -- where the commit is entered and can be made, its code makes it
  pub logged_commit_there : (v : Core) (f : ℕ → ℕ) (inputs : Inputs) → IsAt l.commit.address f inputs v → CanClose l f → DoesCommit v f inputs
  logged_commit_there v f inputs h can =
      let c = commit_fits in let d = (apart_of l fits.rules).code in let k = (apart_of l fits.rules).high in
      let even = (even_of l fits.rules).boot in
      let enabling = with_events_even l.runtime.events 6 refl in
      let es = undo_commit l f in
      let o = f (word_place l EmitCount) in
      at_start es (commit_steps l.runtime.events o) (commit_cycles l.runtime.events o) v (fram_after es f) inputs
      (from_there v h (undo_commit_is_made (around l programs fits whole) l l.commit.address start_at (core_at l.commit.address f inputs v)
      (around_is_tidy l programs fits whole) is_boot.places (omega (arith, c, d, k)) (omega (arith, even, enabling)) commit_stands refl can))

  -- from the boot to the commit, where GATE is 1, and through it
  pub to_logged_commit : (u : Core) → u.pc ≡ l.boot.address → NamesHandler l u.fram → u.fram (word_place l Gate) ≡ 1 → CanClose l u.fram
      → let es = undo_commit l u.fram in
      let k = u.fram (word_place l EmitCount) in
      let events = l.runtime.events in
      Comes (around l programs fits whole) es (with_events events 2 + 3 + commit_steps events k) (with_events events 3 + 9 + commit_cycles events k) u
      (IsAt (attempt_start l) (fram_after es u.fram) u.inputs)
  to_logged_commit u e named one can =
      comes_on (undo_commit_is_found (around l programs fits whole) l l.commit.address tasks l.boot.address u is_boot e named one)
      (λ v h. logged_commit_there v u.fram u.inputs h can)
