-- A compiled source that takes events enables interrupts by the second instruction of a charge, and leaves them enabled.
use Rattle.image_reports.proofs.Names.{◌≡◌, ◌+◌, ℕ, zero, suc, Bool, true, false, refl, sym, ap, ◌∙◌, subst, arith, List, [], ◌∷◌, ◌++◌}
use Rattle.image_reports.proofs.Names.{CheckedProgram}
use Rattle.image_reports.proofs.Names.{MemoryMap, MachineBoard, Code, Goes, Stops, At, continued, going, exec, placed_code}
use Rattle.std.specs.Prelude.{◌-◌, ◌/◌, if◌then◌else◌}
use Rattle.address_space.specs.Limits.{stack_top}
use Rattle.msp_step.specs.Step.{is_interruptible}
use Rattle.machine_effects.specs.alp_words.declared.Flags.{Flags}
use Rattle.machine_effects.specs.Machine.{forgotten}
use Rattle.code_forms.specs.Forms.{Form, SetStack, EnableInterrupts, Core, board_of, register_file}
use Rattle.code_forms.specs.Code.{Stands, anywhere}
use Rattle.code_forms.specs.Placed.{instructions, placed}
use Rattle.code_forms.proofs.Interface.{stands_front, does, forms_stand, code_stays_open}
use Rattle.memory_map.specs.declared.runtime.Logging.{Logging}
use Rattle.memory_map.specs.declared.runtime.Logging.TheVariants.{Redo, Undo}
use Rattle.memory_map.specs.MemoryMap.{where_events}
use Rattle.lower.specs.Lowered.{lowered}
use Rattle.boot_runtime.specs.Listing.{fixed_forms, interrupts_enabled, interrupts_set}
use Rattle.linked_code.specs.Linked.{CodeFits, linked_forms, boot_code, boot_part, commit_part, task_parts}
use Rattle.linked_code.specs.Parts.{CodePart, chained, filler, part_end}
use Rattle.linked_code.proofs.Interface.{linked_is_code}
use Rattle.compiled_runs.specs.Program.{IsBooting}
use Rattle.word_code.specs.Code.{repeated}

-- the parts behind the boot
abbrev rest_of_parts : MemoryMap → CheckedProgram → List CodePart
rest_of_parts l p = commit_part l ∷ task_parts l.tasks (lowered l p)

-- with GIE set the CPU accepts interrupts, whatever the flags
flags_by : (p q : ℕ) (w : ℕ → ℕ) (c z n v : Bool) → is_interruptible (register_file p q true (record { c = c; z = z; n = n; v = v }) w) ≡ true
flags_by p q w true true true true = refl
flags_by p q w true true true false = refl
flags_by p q w true true false true = refl
flags_by p q w true true false false = refl
flags_by p q w true false true true = refl
flags_by p q w true false true false = refl
flags_by p q w true false false true = refl
flags_by p q w true false false false = refl
flags_by p q w false true true true = refl
flags_by p q w false true true false = refl
flags_by p q w false true false true = refl
flags_by p q w false true false false = refl
flags_by p q w false false true true = refl
flags_by p q w false false true false = refl
flags_by p q w false false false true = refl
flags_by p q w false false false false = refl

accepts : (p q : ℕ) (f : Flags) (w : ℕ → ℕ) → is_interruptible (register_file p q true f w) ≡ true
accepts p q f w = flags_by p q w f.c f.z f.n f.v

module _ (code : Code) (events : code.events ≡ true) where
  -- steps leave them enabled
  open_behind : (n : ℕ) (s t : MachineBoard) → (going (exec code) n s).status ≡ At t → is_interruptible s.registers ≡ true
      → is_interruptible t.registers ≡ true
  open_behind zero s t h on = let same : s ≡ t = cc h in subst (λ (u : MachineBoard). is_interruptible u.registers ≡ true) same on
  open_behind (suc n) s t h on =
      (elim (exec code s) as (λ o. exec code s ≡ o → (continued o (going (exec code) n)).status ≡ At t → is_interruptible t.registers ≡ true) [
        | Goes es c u ↦ λ e q. open_behind n u t q (code_stays_open code s u es c events e on)
        | Stops es price x ↦ λ e q. absurd cc
      ]) refl h

module _ (p : CheckedProgram) (l : MemoryMap) (fits : CodeFits l (lowered l p)) (on : l.runtime.events ≡ true) where
  abbrev code : Code
  code = placed_code p l

  abbrev at : ℕ
  at = l.boot.address

  -- the boot stands first
  first_part : linked_forms l (lowered l p) ≡ (boot_part l).forms ++ chained (part_end (boot_part l)) (rest_of_parts l p)
  first_part =
      let none : (at - at) / 2 ≡ 0 = omega arith in
      ap (λ n. repeated n filler ++ ((boot_part l).forms ++ chained (part_end (boot_part l)) (rest_of_parts l p))) none

  -- under each runtime it begins so
  front_stands : (logging : Logging) → Stands code at (boot_code logging l) → Stands code at (interrupts_enabled l)
  front_stands Redo boot = stands_front code at (interrupts_enabled l) _ (stands_front code at (fixed_forms l l.commit.address) _ boot)
  front_stands Undo boot = stands_front code at (interrupts_enabled l) _ boot

  boot_stands : Stands code at (interrupts_set)
  boot_stands =
      let P : List Form → Type 0 = λ ms. Stands (placed l.runtime.events at (instructions ms)) at ms in
      let Q : List Form → Type 0 = λ ms. Stands code at ms in
      let all : Stands code at (linked_forms l (lowered l p)) = forms_stand l.runtime.events (linked_forms l (lowered l p)) at in
      let parted : Stands code at ((boot_part l).forms ++ chained (part_end (boot_part l)) (rest_of_parts l p)) = subst Q first_part all in
      let boot = stands_front code at (boot_part l).forms (chained (part_end (boot_part l)) (rest_of_parts l p)) parted in
      subst (λ (e : Bool). Stands code at (where_events e interrupts_set)) on (front_stands l.runtime.logging boot)

  -- behind the first two instructions of a charge they are enabled
  pub opens : (n : ℕ) (s t : MachineBoard) → IsBooting l s → (going (exec code) (suc (suc n)) s).status ≡ At t → is_interruptible t.registers ≡ true
  opens n s t boots h =
      let tidy = (linked_is_code l (lowered l p) fits).tidy in
      let u = boots.core in
      let u1 : Core = record u { pc = u.pc + 4; sp = stack_top; ram = if u.enabled then forgotten stack_top u.sp u.ram else u.ram } in
      let u2 : Core = record u1 { pc = u1.pc + 2; enabled = true } in
      let one : exec code (board_of u) ≡ Goes [] 2 (board_of u1) =
      does (anywhere code) tidy (SetStack stack_top) u (ap code.at boots.pc ∙ boot_stands.0) (refl, λ e. record { low = omega arith; high = omega arith }, (omega arith, omega arith)) in
      let two : exec code (board_of u1) ≡ Goes [] 1 (board_of u2) =
      does (anywhere code) tidy EnableInterrupts u1 (ap (λ a. code.at (a + 4)) boots.pc ∙ boot_stands.1.0)
      (on, record { vector = boots.named on; low = omega arith; high = omega arith }) in
      let from : (going (exec code) (suc (suc n)) (board_of u)).status ≡ At t = ap (λ v. (going (exec code) (suc (suc n)) v).status) (sym boots.is) ∙ h in
      let behind_one : (going (exec code) (suc n) (board_of u1)).status ≡ At t =
      sym (ap (λ o. (continued o (going (exec code) (suc n))).status) one) ∙ from in
      let behind_two : (going (exec code) n (board_of u2)).status ≡ At t =
      sym (ap (λ o. (continued o (going (exec code) n)).status) two) ∙ behind_one in
      open_behind code on n (board_of u2) t behind_two (accepts u2.pc u2.sp u2.flags u2.work)
