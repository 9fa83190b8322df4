-- Wherever a machine under watch goes on SP is in the stack of the task in whose code it stands.
use Rattle.image_reports.proofs.Names.{◌≡◌, ◌<◌, ◌≤◌, ℕ, zero, suc, Bool, true, false, if◌then◌else◌, refl, sym, ap, ◌∙◌, subst, arith, List, [], ◌∷◌, Some}
use Rattle.image_reports.proofs.Names.{MemoryMap, CheckedProgram, MachineBoard, Code, Effect, Goes, Stops, At, continued, going, exec}
use Rattle.std.proofs.Common.{slice_get, not, ◌&&◌, ◌||◌, nat_le, leb-true, ltb-true}
use Rattle.std.specs.List.{flat_map, list_any}
use Rattle.std.specs.Option.{option_map}
use Rattle.std.proofs.lemmas.Bool.{and_parts, or_left, or_right}
use Rattle.std.proofs.lemmas.Option.{slice_get-map}
use Rattle.msp_step.specs.Registers.{Registers}
use Rattle.msp_step.specs.declared.machine.Stop.{Stop}
use Rattle.msp_step.specs.declared.machine.Stop.TheVariants as stop
use Rattle.machine_effects.specs.Machine.{MachineOutcome, astray}
use Rattle.code_forms.specs.Watch.{watched}
use Rattle.cost_bound.specs.Allowance.{CheckedTask}
use Rattle.cost_bound.specs.Summaries.{summaries}
use Rattle.memory_map.specs.declared.place.Region.{Region}
use Rattle.memory_map.specs.MemoryMap.{TaskPlace}
use Rattle.memory_map.specs.Places.{end_of, AreInOrder, code_regions, IsLaidOut}
use Rattle.memory_map.proofs.Interface.{in_order_end, in_order_split}
use Rattle.runtime_code.specs.Addresses.{stack_top}
use Rattle.linked_code.specs.Watch.{is_in_region, is_in_task, is_in_some, is_on_some, keeps_stacks}
use Rattle.compiled_runs.specs.Program.{stack_low, stack_lows}
use Rattle.image_reports.specs.ImageLaw.{IsOnStack}

-- ---- machines under watch

-- what holds of the steps of a machine that stops for want of a reading alone
abbrev pub StopsShort : MachineOutcome → Type 0
StopsShort o = (es : List Effect) (price : ℕ) (e : Stop) → o ≡ Stops es price e → e ≡ stop.NoReading

module _ (may : Registers → Bool) (code : Code) where
  abbrev step_by : MachineBoard → Bool → MachineOutcome
  step_by s b = if b then exec code s else Stops [] 0 (astray s)

  -- one that goes on stands where it may
  pub may_stand : (s : MachineBoard) → StopsShort (watched may (exec code) s) → may s.registers ≡ true
  may_stand s goes = by (may s.registers) refl
    where
      by : (b : Bool) → may s.registers ≡ b → b ≡ true
      by true e = refl
      by false e = absurd (let no : astray s ≡ stop.NoReading = goes [] 0 (astray s) (ap (step_by s) e) in cc (no))

  -- and goes on by its code
  pub goes_by_code : (s : MachineBoard) → StopsShort (watched may (exec code) s) → StopsShort (exec code s)
  goes_by_code s goes es price x e = goes es price x (ap (step_by s) (may_stand s goes) ∙ e)

  -- a step that is made is one of the code
  step_made : (s t : MachineBoard) (es : List Effect) (c : ℕ) (b : Bool) → step_by s b ≡ Goes es c t → exec code s ≡ Goes es c t
  step_made s t es c true e = e
  step_made s t es c false e = absurd (cc (e))

  -- and so are steps
  pub steps_made : (n : ℕ) (s t : MachineBoard) → (going (watched may (exec code)) n s).status ≡ At t → (going (exec code) n s).status ≡ At t
  steps_made zero s t h = h
  steps_made (suc n) s t h =
      (elim (watched may (exec code) s) as (λ o. watched may (exec code) s ≡ o → (continued o (going (watched may (exec code)) n)).status ≡ At t
      → (going (exec code) (suc n) s).status ≡ At t) [
        | Goes es c u ↦ λ e q. ap (λ o. (continued o (going (exec code) n)).status) (step_made s u es c (may s.registers) e) ∙ steps_made n u t q
        | Stops es price x ↦ λ e q. absurd cc
      ]) refl h

-- ---- addresses in code that stands in order

either_true : {C : Type 0} (a b : Bool) → (a || b) ≡ true → (a ≡ true → C) → (b ≡ true → C) → C
either_true true b e f g = f refl
either_true false b e f g = g e

-- an address in one of regions in order is between their ends
in_regions : (a from : ℕ) (rs : List Region) (end : ℕ) → AreInOrder from rs end → list_any (is_in_region a) rs ≡ true → (from ≤ a) × (a < end)
in_regions a from [] end o e = absurd (cc (e))
in_regions a from (r ∷ rs) end o e =
    let start = o.0.from in
    let up = in_order_end (end_of r) rs end o.1 in
    either_true (is_in_region a r) (list_any (is_in_region a) rs) e
    (λ here.
    let sides = and_parts (nat_le r.address a) _ here in
    let low = leb-true r.address a sides.0 in
    let high = ltb-true a (end_of r) sides.1 in
    (omega (arith, low, start), omega (arith, high, up)))
    (λ behind. let k = in_regions a (end_of r) rs end o.1 behind in let low = k.0 in (omega (arith, low, start), k.1))

-- and so is one in the code of tasks
in_tasks : (a from : ℕ) (ts : List TaskPlace) (end : ℕ) → AreInOrder from (flat_map code_regions ts) end → is_in_some a ts ≡ true → (from ≤ a) × (a < end)
in_tasks a from [] end o e = absurd (cc (e))
in_tasks a from (t ∷ ts) end o e =
    let s = in_order_split from (code_regions t) (flat_map code_regions ts) end o in
    let middle = in_order_end from (code_regions t) s.0 s.1 in
    let up = in_order_end s.0 (flat_map code_regions ts) end s.2 in
    either_true (is_in_task a t) (is_in_some a ts) e
    (λ here. let k = in_regions a from (code_regions t) s.0 s.1 here in let high = k.1 in (k.0, omega (arith, high, up)))
    (λ behind. let k = in_tasks a s.0 ts end s.2 behind in let low = k.0 in (omega (arith, low, middle), k.1))

-- the code of one of tasks is the code of tasks
some_task : (a : ℕ) (ts : List TaskPlace) (k : ℕ) (t : TaskPlace) → slice_get ts k ≡ Some t → is_in_task a t ≡ true → is_in_some a ts ≡ true
some_task a [] k t at is = absurd (cc (at))
some_task a (u ∷ ts) zero t at is =
    let same : u ≡ t = cc at in or_left (is_in_task a u) (is_in_some a ts) (subst (λ x. is_in_task a x ≡ true) (sym same) is)
some_task a (u ∷ ts) (suc k) t at is = or_right (is_in_task a u) (is_in_some a ts) (some_task a ts k t at is)

-- ---- the stack of a task

-- on the stack of a task is in its code
on_some_task : (top pc sp : ℕ) (ts : List TaskPlace) (lows : List ℕ) → is_on_some top pc sp ts lows ≡ true → is_in_some pc ts ≡ true
on_some_task top pc sp [] lows e = absurd (cc (e))
on_some_task top pc sp (t ∷ ts) [] e = absurd (cc (e))
on_some_task top pc sp (t ∷ ts) (low ∷ lows) e =
    either_true (is_in_task pc t && (nat_le low sp && nat_le sp top)) (is_on_some top pc sp ts lows) e
    (λ here. or_left (is_in_task pc t) (is_in_some pc ts) (and_parts (is_in_task pc t) _ here).0)
    (λ behind. or_right (is_in_task pc t) (is_in_some pc ts) (on_some_task top pc sp ts lows behind))

-- the code of no two tasks has an address in common
no_other : (pc from : ℕ) (u : TaskPlace) (ts : List TaskPlace) (end : ℕ) → AreInOrder from (flat_map code_regions (u ∷ ts)) end → is_in_task pc u ≡ true
    → is_in_some pc ts ≡ true → ⊥
no_other pc from u ts end o here behind =
    let s = in_order_split from (code_regions u) (flat_map code_regions ts) end o in
    let high = (in_regions pc from (code_regions u) s.0 s.1 here).1 in
    let low = (in_tasks pc s.0 ts end s.2 behind).0 in
    omega (arith, low, high)

-- so where PC is in the code of a task it is this one's stack
module _ (top pc sp : ℕ) where
  own_stack : (from : ℕ) (ts : List TaskPlace) (end : ℕ) → AreInOrder from (flat_map code_regions ts) end → (lows : List ℕ) (k : ℕ) (t : TaskPlace)
      (low : ℕ) → slice_get ts k ≡ Some t → slice_get lows k ≡ Some low → is_in_task pc t ≡ true → is_on_some top pc sp ts lows ≡ true
      → (low ≤ sp) × (sp ≤ top)
  own_stack from [] end o lows k t low a b is e = absurd (cc (a))
  own_stack from (u ∷ ts) end o [] k t low a b is e = absurd (cc (b))
  own_stack from (u ∷ ts) end o (n ∷ lows) zero t low a b is e =
      let same : u ≡ t = cc a in
      let lowest : n ≡ low = cc b in
      either_true (is_in_task pc u && (nat_le n sp && nat_le sp top)) (is_on_some top pc sp ts lows) e
      (λ here.
      let sides = and_parts (nat_le n sp) (nat_le sp top) (and_parts (is_in_task pc u) _ here).1 in
      subst (λ m. (m ≤ sp) × (sp ≤ top)) lowest (leb-true n sp sides.0, leb-true sp top sides.1))
      (λ behind.
      absurd (no_other pc from u ts end o (subst (λ x. is_in_task pc x ≡ true) (sym same) is) (on_some_task top pc sp ts lows behind)))
  own_stack from (u ∷ ts) end o (n ∷ lows) (suc k) t low a b is e =
      either_true (is_in_task pc u && (nat_le n sp && nat_le sp top)) (is_on_some top pc sp ts lows) e
      (λ here. absurd (no_other pc from u ts end o (and_parts (is_in_task pc u) _ here).0 (some_task pc ts k t a is)))
      (λ behind.
      let s = in_order_split from (code_regions u) (flat_map code_regions ts) end o in
      own_stack s.0 ts end s.2 lows k t low a b is behind)

-- where the registers are as they may be
module _ (p : CheckedProgram) (l : MemoryMap) (rules : IsLaidOut l) (r : Registers) (k : ℕ) (task : CheckedTask) (place : TaskPlace)
    (at : slice_get p.tasks k ≡ Some task) (there : slice_get l.tasks k ≡ Some place) (is : is_in_task (r 0) place ≡ true) where
  in_some : is_in_some (r 0) l.tasks ≡ true
  in_some = some_task (r 0) l.tasks k place there is

  lowest : slice_get (stack_lows p l) k ≡ Some (stack_low (summaries p) task)
  lowest = slice_get-map (stack_low (summaries p)) p.tasks k ∙ ap (option_map (stack_low (summaries p))) at

  pub stack_is_kept : keeps_stacks l (stack_lows p l) r ≡ true → IsOnStack p l task (r 1)
  stack_is_kept keeps =
      let top = stack_top in
      let some : is_on_some top (r 0) (r 1) l.tasks (stack_lows p l) ≡ true =
      ap (λ b. not b || is_on_some top (r 0) (r 1) l.tasks (stack_lows p l)) (sym in_some) ∙ keeps in
      let own = own_stack top (r 0) (r 1) l.code.address l.tasks (end_of l.code) rules.code (stack_lows p l) k place
      (stack_low (summaries p) task) there lowest is some in
      record { from = own.0; to = own.1 }

  -- the code of tasks ends where all code does
  pub before_code_end : r 0 < end_of l.code
  before_code_end = (in_tasks (r 0) l.code.address l.tasks (end_of l.code) rules.code in_some).1
