-- The code of a compiled source, from what its layout gives.
use Rattle.std.proofs.Common.{◌≡◌, ℕ, zero, suc, ◌+◌, ◌*◌, ◌≤◌, Bool, List, [], ◌∷◌, ◌++◌, length, map, Some, slice_get, arith, subst}
use Rattle.std.specs.List.{flat_map}
use Rattle.boot_runtime.specs.machine_effects.Machine.{Code}
use Rattle.boot_runtime.specs.code_forms.Placed.{words_of, instructions, AreInstructions}
use Rattle.boot_runtime.proofs.code_forms.Interface.{forms_stand, placed_is_tidy}
use Rattle.boot_runtime.proofs.runtime_code.Interface.{code_bytes}
use Rattle.word_code.specs.array_versions.Program.{Program}
use Rattle.word_code.specs.array_versions.TaskPrograms.{TaskPrograms}
use Rattle.word_code.proofs.Interface.{code_short, code_are, routine_short, routine_are}
use Rattle.boot_runtime.specs.Entries.{task_entries}
use Rattle.boot_runtime.proofs.Interface.{boot_is_short, boot_is_code}
use Rattle.commit_runtime.proofs.Interface.{commit_is_short, commit_is_code}
use Rattle.undo_runtime.specs.Entries.{logged_tasks}
use Rattle.undo_runtime.proofs.Interface.{undo_boot_is_short, undo_boot_is_code, undo_commit_is_short, undo_commit_is_code}
use Rattle.linked_code.specs.Parts.{CodePart, part_end, PartsInOrder}
use Rattle.linked_code.specs.Linked.{boot_code, bytes_of_boot, start_by, commit_code, bytes_of_commit}
use Rattle.linked_code.specs.Linked.{boot_part, commit_part, task_part, routine_part, routine_parts, task_parts, code_parts, linked_forms, linked, linked_code}
use Rattle.linked_code.specs.Linked.{RoutinesFit, ProgramsFit, CodeFits}
use Rattle.linked_code.specs.Laws.{LinkedIsCode, LinkedStands, PartStands, TaskStands}
use Rattle.linked_code.proofs.Parts.{chained_end, AllStand, chained_stands, AllAre, chained_are, from_before}
use Rattle.boot_runtime.specs.memory_map.declared.runtime.Logging.{Logging}
use Rattle.boot_runtime.specs.memory_map.declared.runtime.Logging.TheVariants.{Redo, Undo}
use Rattle.boot_runtime.specs.memory_map.MemoryMap.{MemoryMap, TaskPlace}
use Rattle.boot_runtime.specs.memory_map.declared.place.Region.{Region}
use Rattle.boot_runtime.specs.memory_map.declared.place.RoutinePlace.{RoutinePlace}
use Rattle.boot_runtime.specs.memory_map.Places.{end_of, AreInOrder, code_regions}
use Rattle.boot_runtime.proofs.memory_map.Interface.{apart_of, even_of}

-- the code of functions that have their rooms stands in order, from the end of what is in front of them on, and so does what is behind it
routines_in_order : (from at : ℕ) (rs : List RoutinePlace) (ps : List Program) (others : List Region) (parts : List CodePart) (end : ℕ) → at ≤ from
    → AreInOrder from (map (λ r. r.code) rs ++ others) end → RoutinesFit rs ps
    → ((mid : ℕ) → AreInOrder mid others end → PartsInOrder mid parts end) → PartsInOrder at (routine_parts rs ps ++ parts) end
routines_in_order from at [] [] others parts end l o f behind = from_before from at parts end l (behind from o)
routines_in_order from at [] (p ∷ ps) others parts end l o f behind = absurd f
routines_in_order from at (r ∷ rs) [] others parts end l o f behind = absurd f
routines_in_order from at (r ∷ rs) (p ∷ ps) others parts end l o f behind =
    let e = routine_short p in
    let w = f.0 in
    let start = o.0.from in (
      record { from = omega (arith, start, l); even = o.0.even },
      routines_in_order (end_of r.code) (part_end (routine_part r p)) rs ps others parts end (omega (arith, e, w)) o.1 f.1 behind,
    )

tasks_in_order : (from : ℕ) (ts : List TaskPlace) (ps : List TaskPrograms) (end : ℕ) → AreInOrder from (flat_map code_regions ts) end
    → ProgramsFit ts ps → PartsInOrder from (task_parts ts ps) end
tasks_in_order from [] ps end o f = o
tasks_in_order from (t ∷ ts) [] end o f = absurd f
tasks_in_order from (t ∷ ts) (p ∷ ps) end o f =
    let e = code_short p.own in
    let w = f.0.own in (
      record { from = o.0.from; even = o.0.even },
      routines_in_order (end_of t.code) (part_end (task_part t p.own)) t.routines p.routines (flat_map code_regions ts) (task_parts ts ps) end
          (omega (arith, e, w)) o.1 f.0.routines (λ mid order. tasks_in_order mid ts ps end order f.1),
    )

-- of either runtime boot and commit are so long, and instructions
boot_short : (logging : Logging) (l : MemoryMap) → 2 * length (words_of (instructions (boot_code logging l))) ≡ bytes_of_boot logging l
boot_short Redo l = boot_is_short l l.commit.address (task_entries l) l.boot.address
boot_short Undo l = undo_boot_is_short l l.commit.address (logged_tasks l) l.boot.address

commit_short : (logging : Logging) (l : MemoryMap) → 2 * length (words_of (instructions (commit_code logging l))) ≡ bytes_of_commit logging l.runtime.events
commit_short Redo l = commit_is_short l (start_by Redo l)
commit_short Undo l = undo_commit_is_short l (start_by Undo l)

boot_are : (logging : Logging) (l : MemoryMap) → AreInstructions (instructions (boot_code logging l))
boot_are Redo l = boot_is_code l l.commit.address (task_entries l) l.boot.address
boot_are Undo l = undo_boot_is_code l l.commit.address (logged_tasks l) l.boot.address

commit_are : (logging : Logging) (l : MemoryMap) → AreInstructions (instructions (commit_code logging l))
commit_are Redo l = commit_is_code l (start_by Redo l)
commit_are Undo l = undo_commit_is_code l (start_by Undo l)

pub boot_length : (l : MemoryMap) (programs : List TaskPrograms) → CodeFits l programs → part_end (boot_part l) ≤ l.commit.address
boot_length l programs f =
    let a = boot_short l.runtime.logging l in
    let b = code_bytes (boot_part l).forms in
    let c = f.boot in let d = (apart_of l f.rules).commit in
    omega (arith, a, b, c, d)

pub commit_length : (l : MemoryMap) (programs : List TaskPrograms) → CodeFits l programs → part_end (commit_part l) ≤ l.code.address
commit_length l programs f =
    let a = commit_short l.runtime.logging l in
    let b = code_bytes (commit_part l).forms in
    let c = f.commit in let d = (apart_of l f.rules).code in
    omega (arith, a, b, c, d)

-- the parts of linked code stand one behind another
pub in_order : (l : MemoryMap) (programs : List TaskPrograms) → CodeFits l programs → PartsInOrder l.boot.address (code_parts l programs) (end_of l.code)
in_order l programs f = (
  record { from = omega arith; even = (even_of l f.rules).boot },
  (
    record { from = boot_length l programs f; even = (even_of l f.rules).commit },
    from_before l.code.address (part_end (commit_part l)) (task_parts l.tasks programs) (end_of l.code) (commit_length l programs f)
        (tasks_in_order l.code.address l.tasks programs (end_of l.code) f.rules.code f.tasks),
  ),
)

routines_are : (rs : List RoutinePlace) (ps : List Program) (parts : List CodePart) → AllAre parts → AllAre (routine_parts rs ps ++ parts)
routines_are [] ps parts h = h
routines_are (r ∷ rs) [] parts h = h
routines_are (r ∷ rs) (p ∷ ps) parts h = (routine_are p, routines_are rs ps parts h)

tasks_are : (ts : List TaskPlace) (ps : List TaskPrograms) → AllAre (task_parts ts ps)
tasks_are [] ps = tt
tasks_are (t ∷ ts) [] = tt
tasks_are (t ∷ ts) (p ∷ ps) =
    (code_are p.own, routines_are t.routines p.routines (task_parts ts ps) (tasks_are ts ps))

ends : (l : MemoryMap) (programs : List TaskPrograms) → CodeFits l programs → l.boot.address + 2 * length (words_of (linked l programs)) ≤ end_of l.code
ends l programs f =
    let a = code_bytes (linked_forms l programs) in
    let b = chained_end l.boot.address (code_parts l programs) (end_of l.code) (even_of l f.rules).boot (in_order l programs f) in
    omega (arith, a, b)

pub linked_is_code : LinkedIsCode
linked_is_code l programs f =
    let e = ends l programs f in
    let h = f.high in
    record {
      instructions = chained_are l.boot.address (code_parts l programs) (
        boot_are l.runtime.logging l,
        (commit_are l.runtime.logging l, tasks_are l.tasks programs),
      );
      end = e;
      tidy = placed_is_tidy l.runtime.events (linked l programs) l.boot.address (even_of l f.rules).boot (omega (arith, e, h));
    }

-- those in front of others
front_stands : (code : Code) (parts others : List CodePart) → AllStand code (parts ++ others) → AllStand code parts × AllStand code others
front_stands code [] others h = (tt, h)
front_stands code (part ∷ parts) others h = let rest = front_stands code parts others h.1 in ((h.0, rest.0), rest.1)

routine_stands : (code : Code) (rs : List RoutinePlace) (ps : List Program) → AllStand code (routine_parts rs ps) → (k : ℕ) (r : RoutinePlace) (q : Program)
    → slice_get rs k ≡ Some r → slice_get ps k ≡ Some q → PartStands code (routine_part r q)
routine_stands code [] ps h k r q a b = absurd (cc (a))
routine_stands code (s ∷ rs) [] h k r q a b = absurd (cc (b))
routine_stands code (s ∷ rs) (p ∷ ps) h zero r q a b =
    let d : s ≡ r = cc a in let e : p ≡ q = cc b in
    subst (λ x. PartStands code (routine_part x q)) d (subst (λ y. PartStands code (routine_part s y)) e h.0)
routine_stands code (s ∷ rs) (p ∷ ps) h (suc k) r q a b = routine_stands code rs ps h.1 k r q a b

task_stands : (code : Code) (ts : List TaskPlace) (ps : List TaskPrograms) → AllStand code (task_parts ts ps)
    → (k : ℕ) (t : TaskPlace) (p : TaskPrograms) → slice_get ts k ≡ Some t → slice_get ps k ≡ Some p → TaskStands code t p
task_stands code [] ps h k t p a b = absurd (cc (a))
task_stands code (u ∷ ts) [] h k t p a b = absurd (cc (b))
task_stands code (u ∷ ts) (q ∷ ps) h zero t p a b =
    let d : u ≡ t = cc a in let e : q ≡ p = cc b in
    let there = (front_stands code (routine_parts u.routines q.routines) (task_parts ts ps) h.1).0 in
    subst (λ v. TaskStands code v p) d
    (subst (λ r. TaskStands code u r) e (record { own = h.0; routines = routine_stands code u.routines q.routines there }))
task_stands code (u ∷ ts) (q ∷ ps) h (suc k) t p a b =
    task_stands code ts ps (front_stands code (routine_parts u.routines q.routines) (task_parts ts ps) h.1).1 k t p a b

pub linked_stands : LinkedStands
linked_stands l programs f =
    let code = linked_code l programs in
    let s = chained_stands code l.boot.address (code_parts l programs) (end_of l.code) (even_of l f.rules).boot (in_order l programs f)
    (forms_stand l.runtime.events (linked_forms l programs) l.boot.address) in
    record {
      boot = s.0;
      commit = s.1.0;
      tasks = λ k t p a b. task_stands code l.tasks programs s.1.1 k t p a b;
    }
