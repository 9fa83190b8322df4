-- The code of a compiled source under watch: boot and commit stand outside the code of tasks, and the code of a task keeps SP in its stack.
use Rattle.std.proofs.Common.{◌≡◌, ◌<◌, ◌≤◌, ◌+◌, ◌*◌, ◌&&◌, ◌||◌, ℕ, zero, suc, Bool, true, false, not, nat_le, nat_lt, List, [], ◌∷◌, ◌++◌, length, map}
use Rattle.std.proofs.Common.{Some, None, slice_get, refl, sym, ap, ◌∙◌, subst, arith, leb-true, ltb-true}
use Rattle.std.proofs.lemmas.Bool.{and_parts, or_left, or_right}
use Rattle.std.proofs.lemmas.Bool.Decides.{nat_tests}
use Rattle.std.specs.List.{flat_map, list_any}
use Rattle.boot_runtime.specs.machine_effects.Machine.{Code, MachineBoard}
use Rattle.boot_runtime.specs.code_forms.Forms.{instruction_of, IsKept}
use Rattle.boot_runtime.specs.code_forms.Code.{Stands, forms_bytes, IsTidy, KeptCode, rules_of, IsAtKept}
use Rattle.boot_runtime.specs.code_forms.Watch.{only_at}
use Rattle.boot_runtime.proofs.code_forms.Interface.{stands_only, only_there}
use Rattle.word_code.specs.array_versions.Program.{Program}
use Rattle.word_code.specs.array_versions.Cost.{words_of}
use Rattle.word_code.specs.array_versions.TaskPrograms.{TaskPrograms}
use Rattle.word_code.proofs.Interface.{code_short, routine_short}
use Rattle.boot_runtime.specs.memory_map.declared.place.Region.{Region}
use Rattle.boot_runtime.specs.memory_map.declared.place.RoutinePlace.{RoutinePlace}
use Rattle.boot_runtime.specs.memory_map.MemoryMap.{MemoryMap, TaskPlace}
use Rattle.boot_runtime.specs.memory_map.Places.{end_of, AreInOrder, code_regions}
use Rattle.boot_runtime.proofs.memory_map.Interface.{in_order_end, in_order_split}
use Rattle.boot_runtime.specs.runtime_code.Addresses.{stack_top}
use Rattle.linked_code.specs.Linked.{boot_part, commit_part, task_part, routine_part, RoutinesFit, TaskFits, CodeFits, linked_code}
use Rattle.linked_code.specs.Laws.{PartStands}
use Rattle.linked_code.specs.Watch.{is_in_region, is_in_task, is_in_some, is_on_some, keeps_stacks, runtime_only, task_only}
use Rattle.linked_code.proofs.Linked.{boot_length, commit_length}

-- ---- addresses in regions

inside : (a : ℕ) (r : Region) → r.address ≤ a → a < end_of r → is_in_region a r ≡ true
inside a r low high = grind (arith, nat_tests)

before : (a from : ℕ) (r : Region) → a < from → from ≤ r.address → is_in_region a r ≡ false
before a from r low high = grind (arith, nat_tests)

neither : (a b : Bool) → a ≡ false → b ≡ false → (a || b) ≡ false
neither a b e f = ap (λ x. x || b) e ∙ f

-- in front of regions is none of their addresses
in_front : (a from : ℕ) (rs : List Region) (end : ℕ) → a < from → AreInOrder from rs end → list_any (is_in_region a) rs ≡ false
in_front a from [] end low o = refl
in_front a from (r ∷ rs) end low o =
    let start = o.0.from in
    neither (is_in_region a r) (list_any (is_in_region a) rs) (before a from r low start) (in_front a (end_of r) rs end (omega (arith, low, start)) o.1)

tasks_in_front : (a from : ℕ) (ts : List TaskPlace) (end : ℕ) → a < from → AreInOrder from (flat_map code_regions ts) end → is_in_some a ts ≡ false
tasks_in_front a from [] end low o = refl
tasks_in_front a from (t ∷ ts) end low o =
    let s = in_order_split from (code_regions t) (flat_map code_regions ts) end o in
    let up = in_order_end from (code_regions t) s.0 s.1 in
    neither (is_in_task a t) (is_in_some a ts) (in_front a from (code_regions t) s.0 low s.1) (tasks_in_front a s.0 ts end (omega (arith, low, up)) s.2)

-- ---- boot and commit

module _ (l : MemoryMap) (programs : List TaskPrograms) (fits : CodeFits l programs) (code : Code) where
  outside : (a : ℕ) → a < l.code.address → not (is_in_some a l.tasks) ≡ true
  outside a low = ap not (tasks_in_front a l.code.address l.tasks (end_of l.code) low fits.rules.code)

  pub boot_only : PartStands code (boot_part l) → PartStands (runtime_only l code) (boot_part l)
  boot_only h =
      let short = boot_length l programs fits in let next = commit_length l programs fits in
      stands_only (λ a. not (is_in_some a l.tasks)) code l.boot.address (boot_part l).forms (λ a low high. outside a (omega (arith, high, short, next))) h

  pub commit_only : PartStands code (commit_part l) → PartStands (runtime_only l code) (commit_part l)
  commit_only h =
      let short = commit_length l programs fits in
      stands_only (λ a. not (is_in_some a l.tasks)) code l.commit.address (commit_part l).forms (λ a low high. outside a (omega (arith, high, short))) h

  -- there SP may stand anywhere
  pub runtime_may : (lows : List ℕ) (part : KeptCode) → part.code ≡ runtime_only l code → (s : MachineBoard) → IsAtKept part s
      → keeps_stacks l lows s.registers ≡ true
  runtime_may lows part is s k =
      let at : s.registers 0 ≡ k.core.pc = ap (λ x. x.registers 0) k.is in
      let stands : (runtime_only l code).at (s.registers 0) ≡ Some (instruction_of k.form) = ap (λ c. c.at (s.registers 0)) (sym is)
      ∙ ap part.code.at at ∙ k.stands in
      or_left (not (is_in_some (s.registers 0) l.tasks)) _ (only_there (λ a. not (is_in_some a l.tasks)) code (s.registers 0) (instruction_of k.form) stands)

-- ---- a task

some_region : (a : ℕ) (r : Region) (rs : List Region) → is_in_region a r ≡ true → list_any (is_in_region a) (r ∷ rs) ≡ true
some_region a r rs e = or_left (is_in_region a r) (list_any (is_in_region a) rs) e

routine_region : (a : ℕ) (rs : List RoutinePlace) (k : ℕ) (r : RoutinePlace) → slice_get rs k ≡ Some r → is_in_region a r.code ≡ true
    → list_any (is_in_region a) (map (λ x. x.code) rs) ≡ true
routine_region a [] k r at e = absurd (cc (at))
routine_region a (s ∷ rs) zero r at e =
    let same : s ≡ r = cc at in or_left (is_in_region a s.code) _ (subst (λ x. is_in_region a x.code ≡ true) (sym same) e)
routine_region a (s ∷ rs) (suc k) r at e = or_right (is_in_region a s.code) _ (routine_region a rs k r at e)

routine_fits : (rs : List RoutinePlace) (ps : List Program) (k : ℕ) (r : RoutinePlace) (q : Program) → RoutinesFit rs ps → slice_get rs k ≡ Some r
    → slice_get ps k ≡ Some q → words_of q ≤ r.code.words
routine_fits [] ps k r q f a b = absurd (cc (a))
routine_fits (s ∷ rs) [] k r q f a b = absurd (cc (b))
routine_fits (s ∷ rs) (p ∷ ps) zero r q f a b =
    let d : s ≡ r = cc a in let e : p ≡ q = cc b in
    subst (λ x. words_of q ≤ x.code.words) d (subst (λ y. words_of y ≤ s.code.words) e f.0)
routine_fits (s ∷ rs) (p ∷ ps) (suc k) r q f a b = routine_fits rs ps k r q f.1 a b

module _ (code : Code) (t : TaskPlace) (p : TaskPrograms) (fits : TaskFits t p) where
  abbrev there : ℕ → Bool
  there a = is_in_task a t

  pub own_only : PartStands code (task_part t p.own) → PartStands (only_at there code) (task_part t p.own)
  own_only h =
      let short = code_short p.own in let room = fits.own in
      stands_only there code t.code.address (task_part t p.own).forms
      (λ a low high. some_region a t.code (map (λ r. r.code) t.routines) (inside a t.code low (omega (arith, high, short, room)))) h

  pub routine_only : (k : ℕ) (r : RoutinePlace) (q : Program) → slice_get t.routines k ≡ Some r → slice_get p.routines k ≡ Some q
      → PartStands code (routine_part r q) → PartStands (only_at there code) (routine_part r q)
  routine_only k r q a b h =
      let short = routine_short q in let room = routine_fits t.routines p.routines k r q fits.routines a b in
      stands_only there code r.code.address (routine_part r q).forms
      (λ x low high. or_right (is_in_region x t.code) _
      (routine_region x t.routines k r a (inside x r.code low (omega (arith, high, short, room))))) h

within : (low top sp : ℕ) → low ≤ sp → sp ≤ top → (nat_le low sp && nat_le sp top) ≡ true
within low top sp from upto = grind (arith, nat_tests)

both : (a b : Bool) → a ≡ true → b ≡ true → (a && b) ≡ true
both a b e f = ap (λ x. x && b) e ∙ f

on_some : (top pc sp : ℕ) (ts : List TaskPlace) (lows : List ℕ) (k : ℕ) (t : TaskPlace) (low : ℕ) → slice_get ts k ≡ Some t → slice_get lows k ≡ Some low
    → is_in_task pc t ≡ true → (nat_le low sp && nat_le sp top) ≡ true → is_on_some top pc sp ts lows ≡ true
on_some top pc sp [] lows k t low a b e f = absurd (cc (a))
on_some top pc sp (u ∷ ts) [] k t low a b e f = absurd (cc (b))
on_some top pc sp (u ∷ ts) (n ∷ lows) zero t low a b e f =
    let d : u ≡ t = cc a in let g : n ≡ low = cc b in
    or_left (is_in_task pc u && (nat_le n sp && nat_le sp top)) _
    (subst (λ x. (is_in_task pc x && (nat_le n sp && nat_le sp top)) ≡ true) (sym d)
    (subst (λ m. (is_in_task pc t && (nat_le m sp && nat_le sp top)) ≡ true) (sym g) (both (is_in_task pc t) (nat_le low sp && nat_le sp top) e f)))
on_some top pc sp (u ∷ ts) (n ∷ lows) (suc k) t low a b e f =
    or_right (is_in_task pc u && (nat_le n sp && nat_le sp top)) _ (on_some top pc sp ts lows k t low a b e f)

-- in the code of a task SP may stand in its stack
pub task_may : (l : MemoryMap) (lows : List ℕ) (code : Code) (k : ℕ) (t : TaskPlace) (low : ℕ) → slice_get l.tasks k ≡ Some t → slice_get lows k ≡ Some low
    → (s : MachineBoard) → IsAtKept (task_only l t low code) s → IsKept (rules_of (task_only l t low code)) (s.registers 1)
    → keeps_stacks l lows s.registers ≡ true
task_may l lows code k t low a b s h kept =
    let at : s.registers 0 ≡ h.core.pc = ap (λ x. x.registers 0) h.is in
    let stands : (only_at (λ x. is_in_task x t) code).at (s.registers 0) ≡ Some (instruction_of h.form) =
    ap (only_at (λ x. is_in_task x t) code).at at ∙ h.stands in
    or_right (not (is_in_some (s.registers 0) l.tasks)) _
    (on_some stack_top (s.registers 0) (s.registers 1) l.tasks lows k t low a b
    (only_there (λ x. is_in_task x t) code (s.registers 0) (instruction_of h.form) stands)
    (within low stack_top (s.registers 1) kept.0 kept.1))
