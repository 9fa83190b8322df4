-- The layout of a source leaves no word unused in front of its code.
use Rattle.compiled_states.proofs.Names.{◌≡◌, ℕ, ◌+◌, ◌*◌, ◌≤◌, Bool, true, false, List, [], ◌∷◌, ◌∙◌, arith, Extent, SharedDeclaration, Allow, CheckedProgram}
use Rattle.compiled_states.proofs.Names.{CheckedTask, IsAllowed, shared_sum_from, place_part, version_part, is_written, total, greatest, task_words, list_of}
use Rattle.compiled_states.proofs.Names.{versions_of, TaskPlanValue, MemoryMap, end_of, AreApart, apart_of}
use Rattle.memory_map.specs.declared.runtime.Logging.{Logging}
use Rattle.privatise.specs.Layouts.{IsLayoutFor}
use Rattle.task_ast.specs.declared.Extent.TheVariants.{Scalar, Long, Array}
use Rattle.cost_bound.specs.Summary.{Summary}
use Rattle.cost_bound.specs.Summaries.{summaries}
use Rattle.cost_bound.specs.Counts.{CheckedBlock, emits_of, routine_words}
use Rattle.cost_bound.specs.Allowance.{own_words, plain_words_of, scalars_of}
use Rattle.privatise.specs.Sizes.{home_part, home_words, copy_part, copy_words, body_words, entry_words}

-- each part in front of the code begins where the one before ends
pub record IsFull (l : MemoryMap) : Type 0 where
  pub row : l.row ≡ 17408
  pub list : l.list.address ≡ l.row + 16
  pub emits : l.emits.address ≡ l.list.address + 6 * l.entries
  pub versions : l.versions.address ≡ end_of l.emits
  pub homes : l.homes.address ≡ end_of l.versions
  pub copies : l.copies.address ≡ end_of l.homes
  pub boot : l.boot.address ≡ end_of l.copies

-- the words of a variable are those of its homes, copies and versions
part_within : (written : Bool) (e : Extent) → place_part written e ≤ home_part e + copy_part written e + version_part written e
part_within written (Scalar w) = omega arith
part_within written (Long n) = omega arith
part_within true (Array n) = omega arith
part_within false (Array n) = omega arith

places_within : (written : ℕ → Bool) (i : ℕ) (ds : List SharedDeclaration) → shared_sum_from (λ k e. place_part (written k) e) i ds
    ≤ shared_sum_from (λ k e. home_part e) i ds + shared_sum_from (λ k e. copy_part (written k) e) i ds
    + shared_sum_from (λ k e. version_part (written k) e) i ds
places_within written i [] = omega arith
places_within written i (d ∷ ds) =
    let here : place_part (written i) d.extent ≤ home_part d.extent + copy_part (written i) d.extent + version_part (written i) d.extent =
    part_within (written i) d.extent in
    let rest : shared_sum_from (λ k e. place_part (written k) e) (i + 1) ds
    ≤ shared_sum_from (λ k e. home_part e) (i + 1) ds + shared_sum_from (λ k e. copy_part (written k) e) (i + 1) ds
    + shared_sum_from (λ k e. version_part (written k) e) (i + 1) ds = places_within written (i + 1) ds in
    omega (arith, here, rest)

-- the words of the tasks are those of their starts and of their code
total_within : (f g h : CheckedBlock → ℕ) (ts : List CheckedTask) → ((c : CheckedBlock) → f c ≤ g c + h c) → total f ts ≤ total g ts + total h ts
total_within f g h [] e = omega arith
total_within f g h (t ∷ ts) e =
    let here : f t.body ≤ g t.body + h t.body = e t.body in
    let rest : total f ts ≤ total g ts + total h ts = total_within f g h ts e in
    omega (arith, here, rest)

regrouped : (a s o r : ℕ) → a + s + o + r ≤ (a + s) + (o + r)
regrouped a s o r = omega arith

task_within : (known : List Summary) (shared : List SharedDeclaration) (c : CheckedBlock)
    → task_words known shared c ≤ entry_words known shared c + body_words known shared c
task_within known shared c = regrouped 200 (16 * scalars_of known shared c) (own_words known shared c) (routine_words known c)

-- nothing is left between the parts, where the boot begins no later than they need
no_room : (l : MemoryMap) → AreApart l → l.boot.address ≤ 17424 + 2 * (3 * l.entries + l.emits.words + l.versions.words + l.homes.words + l.copies.words)
    → IsFull l
no_room l a room = record {
  row = omega (arith, a, room);
  list = omega (arith, a, room);
  emits = omega (arith, a, room);
  versions = omega (arith, a, room);
  homes = omega (arith, a, room);
  copies = omega (arith, a, room);
  boot = omega (arith, a, room);
}

pub layout_is_full : {logging : Logging} (p : CheckedProgram) (allow : Allow) (plans : List TaskPlanValue) (l : MemoryMap) → IsAllowed p allow
    → IsLayoutFor logging p allow plans l
    → IsFull l
layout_is_full p allow plans l h laid =
    let a = apart_of l laid.rules in
    let starts = total (entry_words (summaries p) p.shared) p.tasks in
    let bodies = total (body_words (summaries p) p.shared) p.tasks in
    let homes = home_words p.shared in
    let copies = copy_words p in
    let versions = versions_of p in
    let list = greatest (list_of (summaries p) p.shared) p.tasks in
    let emits = greatest (emits_of (summaries p)) p.tasks in
    let code : total (task_words (summaries p) p.shared) p.tasks ≤ starts + bodies =
    total_within (task_words (summaries p) p.shared) (entry_words (summaries p) p.shared) (body_words (summaries p) p.shared) p.tasks
    (task_within (summaries p) p.shared) in
    let places = places_within (is_written (summaries p) p.tasks) 0 p.shared in
    let all : plain_words_of p ≤ 600 + (starts + bodies) + (homes + copies + versions) + 3 * list + emits = omega (arith, code, places) in
    let commit = a.commit in let begin = a.code in let size = laid.size in
    let boot_has = laid.boot in let commit_has = laid.commit in let code_has = laid.code in
    let front : l.boot.address ≤ 17424 + 2 * (3 * list + emits + versions + homes + copies) =
    omega (arith, commit, begin, size, boot_has, commit_has, code_has, all) in
    let entries : l.entries ≡ list = laid.list ∙ h.list in
    let sends : l.emits.words ≡ emits = laid.emits ∙ h.emits in
    let marks : l.versions.words ≡ versions = laid.versions ∙ h.versions in
    let own : l.homes.words ≡ homes = laid.homes in
    let others : l.copies.words ≡ copies = laid.copies in
    no_room l a (omega (arith, front, entries, sends, marks, own, others))
