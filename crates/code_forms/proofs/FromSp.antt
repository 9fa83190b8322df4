-- No form that has what it needs reads a word of RAM below SP.
use Rattle.std.proofs.Common.{◌≡◌, ℕ, ◌≤◌, Some, arith, subst}
use Rattle.std.proofs.lemmas.Option.{same_Some}
use Rattle.machine_effects.specs.msp_step.declared.machine.Stop.{Stop}
use Rattle.machine_effects.specs.Going.{Status, At, Halted}
use Rattle.machine_effects.specs.Machine.{MachineBoard}
use Rattle.code_forms.specs.Forms.{Core, Source, Register, Number, Constant, Fram, Ram, Pointed, PointedNext, Indexed, Popped, StackNext, Head, Slot}
use Rattle.code_forms.specs.Forms.{CodeRules, SourceNeeds, source_ram, work_number}
use Rattle.code_forms.specs.Forms.{Form, Move, Calculate, Compare, Update, Push, Modify, SetStack, Sense, Jump, Skip, Branch, BranchIndexed, SkipBy, FormNeeds}
use Rattle.code_forms.specs.Forms.{EnableInterrupts, Call, Return, KeepStack, RestoreStack, ram_read}
use Rattle.code_forms.specs.Code.{KeptCode, rules_of, IsAtKept, OfState}
use Rattle.code_forms.specs.Laws.{ReadsFromSp, FormsReadFromSp}

source_from_sp : (rules : CodeRules) (x : Source) (u : Core) (a : ℕ) → SourceNeeds rules x u → source_ram x u ≡ Some a → u.sp ≤ a
source_from_sp rules (Ram b) u a h e = subst (λ n. u.sp ≤ n) (same_Some b a e) h.1
source_from_sp rules Popped u a h e = let same = same_Some u.sp a e in omega (arith, same)
source_from_sp rules (StackNext b) u a h e = subst (λ n. u.sp ≤ n) (same_Some (u.work (work_number b)) a e) h.1
source_from_sp rules (Register b) u a h e = absurd (cc)
source_from_sp rules (Number n) u a h e = absurd (cc)
source_from_sp rules (Constant k) u a h e = absurd (cc)
source_from_sp rules (Fram b) u a h e = absurd (cc)
source_from_sp rules (Pointed b) u a h e = absurd (cc)
source_from_sp rules (PointedNext b) u a h e = absurd (cc)
source_from_sp rules (Indexed b x) u a h e = absurd (cc)
source_from_sp rules Head u a h e = absurd (cc)
source_from_sp rules (Slot b) u a h e = absurd (cc)

form_from_sp : (rules : CodeRules) (m : Form) (u : Core) (a : ℕ) → FormNeeds rules m u → ram_read m u ≡ Some a → u.sp ≤ a
form_from_sp rules (Move x y) u a h e = source_from_sp rules x u a h.0 e
form_from_sp rules (Calculate op x b) u a h e = source_from_sp rules x u a h.1 e
form_from_sp rules (Compare x b) u a h e = source_from_sp rules x u a h.0 e
form_from_sp rules (Update op x b) u a h e = source_from_sp rules x u a h.2 e
form_from_sp rules (Push x) u a h e = source_from_sp rules x u a h.0 e
form_from_sp rules (Modify m b) u a h e = absurd (cc)
form_from_sp rules (SetStack n) u a h e = absurd (cc)
form_from_sp rules EnableInterrupts u a h e = absurd (cc)
form_from_sp rules (Sense b) u a h e = absurd (cc)
form_from_sp rules (Jump c o) u a h e = absurd (cc)
form_from_sp rules (Skip n) u a h e = absurd (cc)
form_from_sp rules (Branch b) u a h e = absurd (cc)
form_from_sp rules (BranchIndexed b x) u a h e = absurd (cc)
form_from_sp rules (SkipBy b) u a h e = absurd (cc)
form_from_sp rules (Call b) u a h e = absurd (cc)
form_from_sp rules Return u a h e = let same = same_Some u.sp a e in omega (arith, same)
form_from_sp rules (KeepStack b) u a h e = absurd (cc)
form_from_sp rules RestoreStack u a h e = let same = same_Some u.sp a e in omega (arith, same)

reads_at : (kept : KeptCode) (x : Status MachineBoard Stop) → OfState x (IsAtKept kept) → OfState x (ReadsFromSp kept)
reads_at kept (At s) h = record { at = h; from = λ a e. form_from_sp (rules_of kept) h.form h.core a h.needs e }
reads_at kept (Halted price x) h = tt

pub forms_read_from_sp : FormsReadFromSp
forms_read_from_sp kept steps u h n l = reads_at kept _ (h n l)
