-- Each function that a task calls stands where the call says.
use Rattle.std.proofs.Common.{◌≡◌, ◌%◌, ℕ, zero, suc, List, [], ◌∷◌, ◌++◌, map, Some, slice_get, subst, sym, ap, ◌∙◌}
use Rattle.std.specs.List.{flat_map}
use Rattle.boot_runtime.specs.machine_effects.Machine.{Code}
use Rattle.boot_runtime.specs.code_forms.Code.{Stands}
use Rattle.boot_runtime.specs.memory_map.declared.place.Region.{Region}
use Rattle.boot_runtime.specs.memory_map.declared.place.RoutinePlace.{RoutinePlace}
use Rattle.boot_runtime.specs.memory_map.MemoryMap.{MemoryMap, TaskPlace}
use Rattle.boot_runtime.specs.memory_map.Places.{end_of, AreInOrder, code_regions, IsLaidOut}
use Rattle.boot_runtime.proofs.memory_map.Interface.{in_order_split}
use Rattle.word_code.specs.array_versions.Program.{Step, Test, Program}
use Rattle.word_code.specs.array_versions.Program as w
use Rattle.word_code.specs.array_versions.TaskPrograms.{TaskPrograms}
use Rattle.word_code.specs.Code.{routine_code}
use Rattle.word_code.specs.Laws.{StepRoutinesStand, TestRoutinesStand, RoutinesStand}
use Rattle.linked_code.specs.Linked.{IsRoutineAt, StepCallsAmong, TestCallsAmong, CallsAmong, routine_part}
use Rattle.linked_code.specs.Laws.{PartStands}

-- ---- at even addresses

routine_in : (from : ℕ) (rs : List RoutinePlace) (others : List Region) (end : ℕ) → AreInOrder from (map (λ r. r.code) rs ++ others) end
    → (k : ℕ) (r : RoutinePlace) → slice_get rs k ≡ Some r → r.code.address % 2 ≡ 0
routine_in from [] others end o k r a = absurd (cc (a))
routine_in from (s ∷ rs) others end o zero r a = let d : s ≡ r = cc a in subst (λ x. x.code.address % 2 ≡ 0) d o.0.even
routine_in from (s ∷ rs) others end o (suc k) r a = routine_in (end_of s.code) rs others end o.1 k r a

task_in : (from : ℕ) (ts : List TaskPlace) (end : ℕ) → AreInOrder from (flat_map code_regions ts) end → (k : ℕ) (t : TaskPlace) → slice_get ts k ≡ Some t
    → (j : ℕ) (r : RoutinePlace) → slice_get t.routines j ≡ Some r → r.code.address % 2 ≡ 0
task_in from [] end o k t a j r b = absurd (cc (a))
task_in from (u ∷ ts) end o zero t a j r b =
    let d : u ≡ t = cc a in
    routine_in (end_of u.code) u.routines (flat_map code_regions ts) end o.1 j r (ap (λ x. slice_get x.routines j) d ∙ b)
task_in from (u ∷ ts) end o (suc k) t a j r b =
    let s = in_order_split (end_of u.code) (map (λ x. x.code) u.routines) (flat_map code_regions ts) end o.1 in task_in s.0 ts end s.2 k t a j r b

pub routine_even : (l : MemoryMap) → IsLaidOut l → (k : ℕ) (t : TaskPlace) → slice_get l.tasks k ≡ Some t → (j : ℕ) (r : RoutinePlace)
    → slice_get t.routines j ≡ Some r → r.code.address % 2 ≡ 0
routine_even l rules k t a j r b = task_in l.code.address l.tasks (end_of l.code) rules.code k t a j r b

-- ---- with the code of its program

module _ (code : Code) (t : TaskPlace) (p : TaskPrograms)
    (even : (k : ℕ) (r : RoutinePlace) → slice_get t.routines k ≡ Some r → r.code.address % 2 ≡ 0)
    (there : (k : ℕ) (r : RoutinePlace) (q : Program) → slice_get t.routines k ≡ Some r → slice_get p.routines k ≡ Some q
    → PartStands code (routine_part r q)) where
  called_stands : (entry : ℕ) (body : Program) → IsRoutineAt t.routines p.routines entry body → (entry % 2 ≡ 0) × Stands code entry (routine_code body)
  called_stands entry body h = (
    subst (λ a. a % 2 ≡ 0) (sym h.address_is) (even h.number h.place h.at),
    subst (λ a. Stands code a (routine_code body)) (sym h.address_is) (there h.number h.place body h.at h.is),
  )

  mutual
    step_stands : (s : Step) → StepCallsAmong t.routines p.routines s → StepRoutinesStand code s
    step_stands (w.truth c) h = test_stands c h
    step_stands (w.choose c taken otherwise) h = (test_stands c h.0, all_stand taken h.1, all_stand otherwise h.2)
    step_stands (w.repeat n from below body) h = all_stand body h
    step_stands (w.call entry frame first count body) h = let s = called_stands entry body h.0 in (s.0, s.1, all_stand body h.1)
    -- of each other step alike: the first clause makes it a proof by cases
    step_stands (w.number n) h = tt
    step_stands _ h = tt

    test_stands : (c : Test) → TestCallsAmong t.routines p.routines c → TestRoutinesStand code c
    test_stands (w.holds q) h = all_stand q h
    test_stands (w.compares o q) h = all_stand q h
    test_stands (w.both c d) h = (test_stands c h.0, test_stands d h.1)
    test_stands (w.either c d) h = (test_stands c h.0, test_stands d h.1)
    test_stands (w.fails c) h = test_stands c h

    all_stand : (q : Program) → CallsAmong t.routines p.routines q → RoutinesStand code q
    all_stand w.nothing h = tt
    all_stand (w.step first more) h = (step_stands first h.0, all_stand more h.1)

  pub routines_stand : CallsAmong t.routines p.routines p.own → RoutinesStand code p.own
  routines_stand h = all_stand p.own h
