-- A need has the cycles of all that is done for its task.
use Rattle.std.proofs.Common.{◌≡◌, ◌+◌, ◌<◌, ◌≤◌, ⊎_elim, ℕ, true, suc, length, refl, sym, ap, cond, lt-ltb, le-ltb, arith, Bool}
use Rattle.std.proofs.lemmas.Bool.{cases_lt}
use Rattle.source_values.specs.Runs.{CheckedProgram, State}
use Rattle.memory_map.specs.declared.runtime.Logging.{Logging}
use Rattle.memory_map.specs.declared.runtime.Logging.TheVariants.{Redo, Undo}
use Rattle.memory_map.specs.MemoryMap.{MemoryMap}
use Rattle.boot_runtime.specs.Listing.{start_cycles}
use Rattle.undo_runtime.specs.Listing.{start_cycles as logged_start}
use Rattle.crash_rules.specs.Model.{Model, greatest}
use Rattle.compiled_model.specs.Parts.{compiled_model}
use Rattle.compiled_model.specs.Needs.{boot_cycles}
use Rattle.task_needs.specs.Needs.{need_of}
use Rattle.task_needs.specs.Lists.{pending_under, pending_need, with_needs}
use Rattle.task_needs.specs.Laws.{full_cycles, AttemptsAreCounted, OwnCommitsAreCounted, PendingCommitsAreCounted}
use Rattle.task_needs.proofs.Privates.{privates_count, listed_count}

-- a start copies, or lists, what the need has the cycles for
pub attempts_are_counted : AttemptsAreCounted
attempts_are_counted Redo p l t spent few =
    let start = ap (λ c. start_cycles l.runtime.events true l.versions.words c) (privates_count l t) in omega (arith, few, start)
attempts_are_counted Undo p l t spent few =
    let start = ap (λ c. logged_start l.runtime.events true l.versions.words c) (listed_count l t) in omega (arith, few, start)

-- an attempt's start takes more than a boot does that finds a commit
pub own_commits_are_counted : OwnCommitsAreCounted
own_commits_are_counted Redo p l t = omega arith
own_commits_are_counted Undo p l t = omega arith

-- a commit of a full list and a full buffer is that of the cost
full_is : (logging : Logging) (l : MemoryMap) → boot_cycles l + full_cycles logging l ≡ pending_under logging l
full_is Redo l = refl
full_is Undo l = refl

-- the last cost is within the greatest
last_within : (cost : ℕ → ℕ) (k : ℕ) → cost k ≤ greatest cost (suc k)
last_within cost k =
    ⊎_elim {C = cost k ≤ greatest cost (suc k)} (λ lt. rw (lt-ltb (greatest cost k) (cost k) lt) (omega arith))
    (λ ge. rw (le-ltb (greatest cost k) (cost k) ge) (omega (arith, ge))) (cases_lt (greatest cost k) (cost k))

-- of a task it is its need
pub own_cost : (p : CheckedProgram) (l : MemoryMap) (m : Model State) (t : ℕ) → t < length p.tasks → need_of p l t ≡ (with_needs p l m).task_cost t
own_cost p l m t below = sym (ap (λ c. cond c (need_of p l t) (pending_need l)) (lt-ltb t (length p.tasks) below))

-- and of what comes behind the tasks that of a pending commit
pub pending_cost : (p : CheckedProgram) (l : MemoryMap) (m : Model State) (t : ℕ) → length p.tasks ≤ t → pending_need l ≡ (with_needs p l m).task_cost t
pending_cost p l m t none = sym (ap (λ c. cond c (need_of p l t) (pending_need l)) (le-ltb t (length p.tasks) none))

pub pending_commits_are_counted : PendingCommitsAreCounted
pending_commits_are_counted p l =
    let m = compiled_model p l in
    let last = last_within (with_needs p l m).task_cost (length p.tasks) in
    let is = pending_cost p l m (length p.tasks) (omega arith) in
    let full = full_is l.runtime.logging l in
    omega (arith, last, is, full)
