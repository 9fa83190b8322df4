-- Forms by their instructions: what each costs, and where it leads.
use Rattle.std.proofs.Common.{◌≡◌, ℕ, ◌+◌, ◌-◌, ◌*◌, ◌/◌, ◌%◌, ◌<◌, Bool, true, false, nat_lt, if◌then◌else◌, List, [], ◌∷◌, refl, ap, ◌∙◌, arith, eq-eqb}
use Rattle.std.proofs.lemmas.Bool.Decides.{nat_tests}
use Rattle.code_forms.specs.msp_isa.declared.instructions.Instr.{Instr}
use Rattle.code_forms.specs.msp_isa.declared.instructions.Instr.TheVariants as instr
use Rattle.code_forms.specs.msp_isa.declared.instructions.OneOp.TheVariants as one
use Rattle.code_forms.specs.msp_isa.declared.instructions.Condition.{Condition}
use Rattle.code_forms.specs.msp_isa.declared.operands.Dst.TheVariants as dst
use Rattle.code_forms.specs.msp_isa.declared.registers.Reg.TheVariants as reg
use Rattle.instruction_forms.specs.declared.kinds.Modification.TheVariants as change
use Rattle.machine_effects.specs.msp_step.Effect.{distance}
use Rattle.machine_effects.specs.Going.{Goes, Stops}
use Rattle.code_forms.specs.Forms.{Core, CoreOutcome, Form, Move, Calculate, Compare, Update, Push, Modify, SetStack, Sense, Jump, Skip, Branch, BranchIndexed}
use Rattle.code_forms.specs.Forms.{SkipBy, EnableInterrupts, Call, Return, KeepStack, RestoreStack, WorkRegister, Target, ToRegister, ToFram, ToRam}
use Rattle.code_forms.specs.Forms.{ToIndexed, ToPointed, ToOutnum, ToOutdata}
use Rattle.code_forms.specs.Forms.{source_read}
use Rattle.machine_effects.specs.fram_board.Effects.{Effect}
use Rattle.code_forms.specs.Forms.{behind_source, source_effects, target_written, sensed, form_step, instruction_of, form_bytes}
use Rattle.code_forms.specs.Code.{IsStraight, OfNext}
use Rattle.code_paths.specs.Paths.{form_cycles}

-- what an outcome costs, where it goes on and where it stops
abbrev pub CostsSo : CoreOutcome → ℕ → Type 0
CostsSo (Goes es c t) cost = c ≡ cost
CostsSo (Stops es price x) cost = price ≡ cost

written_costs : (y : Target) (c v : ℕ) (u : Core) → CostsSo (target_written y c v u) c
written_costs (ToRegister b) c v u = refl
written_costs (ToFram a) c v u = refl
written_costs (ToRam a) c v u = refl
written_costs (ToIndexed b x) c v u = refl
written_costs (ToPointed b) c v u = refl
written_costs ToOutnum c v u = refl
written_costs ToOutdata c v u = refl

sensed_costs : (ws : List ℕ) (b : WorkRegister) (u : Core) → CostsSo (sensed ws b u) 3
sensed_costs [] b u = refl
sensed_costs (w ∷ ws) b u = refl

behind_costs : (es : List Effect) (o : CoreOutcome) (cost : ℕ) → CostsSo o cost → CostsSo (behind_source es o) cost
behind_costs es (Goes [] c u) cost h = h
behind_costs es (Goes (f ∷ fs) c u) cost h = h
behind_costs es (Stops fs price e) cost h = h

-- a form costs its cycles, also where it stops
pub costs_so : (m : Form) (u : Core) → CostsSo (form_step m u) (form_cycles m)
costs_so (Move x y) u =
    behind_costs (source_effects x u) (target_written y _ _ (record (source_read x u) { pc = u.pc + form_bytes (Move x y) })) _
    (written_costs y _ _ (record (source_read x u) { pc = u.pc + form_bytes (Move x y) }))
costs_so (Calculate op x b) u = refl
costs_so (Compare x a) u = refl
costs_so (Update op x a) u = refl
costs_so (Push x) u = refl
costs_so (Modify change.Rrc b) u = refl
costs_so (Modify change.Rra b) u = refl
costs_so (Modify change.Swpb b) u = refl
costs_so (Modify change.Sxt b) u = refl
costs_so (SetStack n) u = refl
costs_so (Sense b) u = sensed_costs u.inputs.readings b u
costs_so (Jump c o) u = refl
costs_so (Skip n) u = refl
costs_so (Branch a) u = refl
costs_so (BranchIndexed b x) u = refl
costs_so (SkipBy b) u = refl
costs_so EnableInterrupts u = refl
costs_so (Call a) u = refl
costs_so Return u = refl
costs_so (KeepStack b) u = refl
costs_so RestoreStack u = refl

written_at : (y : Target) (c v : ℕ) (u : Core) → OfNext (target_written y c v u) (λ t. t.pc ≡ u.pc)
written_at (ToRegister b) c v u = refl
written_at (ToFram a) c v u = refl
written_at (ToRam a) c v u = refl
written_at (ToIndexed b x) c v u = refl
written_at (ToPointed b) c v u = refl
written_at ToOutnum c v u = refl
written_at ToOutdata c v u = refl

sensed_at : (ws : List ℕ) (b : WorkRegister) (u : Core) → OfNext (sensed ws b u) (λ t. t.pc ≡ u.pc + 4)
sensed_at [] b u = tt
sensed_at (w ∷ ws) b u = refl

at_behind : (es : List Effect) (o : CoreOutcome) (p : ℕ) → OfNext o (λ t. t.pc ≡ p) → OfNext (behind_source es o) (λ t. t.pc ≡ p)
at_behind es (Goes [] c u) p h = h
at_behind es (Goes (f ∷ fs) c u) p h = h
at_behind es (Stops fs price e) p h = h

-- a straight form leads behind it
pub goes_behind : (m : Form) (u : Core) → IsStraight m → OfNext (form_step m u) (λ t. t.pc ≡ u.pc + form_bytes m)
goes_behind (Move x y) u h =
    at_behind (source_effects x u) (target_written y _ _ (record (source_read x u) { pc = u.pc + form_bytes (Move x y) })) _
    (written_at y _ _ (record (source_read x u) { pc = u.pc + form_bytes (Move x y) }))
goes_behind (Calculate op x b) u h = refl
goes_behind (Compare x a) u h = refl
goes_behind (Push x) u h = refl
goes_behind (Update op x a) u h = refl
goes_behind (SetStack n) u h = refl
goes_behind (Modify t b) u h = refl
goes_behind (Sense b) u h = sensed_at u.inputs.readings b u
goes_behind (Jump c o) u h = elim h [ ]
goes_behind (Skip n) u h = elim h [ ]
goes_behind (Branch a) u h = elim h [ ]
goes_behind (BranchIndexed b x) u h = elim h [ ]
goes_behind (SkipBy b) u h = elim h [ ]
goes_behind EnableInterrupts u h = refl
goes_behind (Call a) u h = elim h [ ]
goes_behind Return u h = elim h [ ]
goes_behind (KeepStack b) u h = refl
goes_behind RestoreStack u h = refl

-- an instruction that writes PC
abbrev pub writes_pc : Instr → Bool
writes_pc (instr.Two op w s (dst.Reg reg.Pc)) = true
writes_pc (instr.Two op w s (dst.Reg reg.Sr)) = false
writes_pc (instr.Two op w s (dst.Reg reg.R3)) = false
writes_pc (instr.Two op w s (dst.Reg (reg.Index r))) = false
writes_pc (instr.Two op w s (dst.Indexed r x)) = false
writes_pc (instr.Two op w s (dst.Symbolic x)) = false
writes_pc (instr.Two op w s (dst.Absolute a)) = false
writes_pc (instr.One (one.Call x)) = true
writes_pc (instr.One (one.Push w x)) = false
writes_pc (instr.One (one.Rrc w x)) = false
writes_pc (instr.One (one.Rra w x)) = false
writes_pc (instr.One (one.Swpb x)) = false
writes_pc (instr.One (one.Sxt x)) = false
writes_pc (instr.Jump c o) = true
writes_pc instr.Reti = true

-- a straight form has none
pub straight_leaves_pc : (m : Form) → IsStraight m → writes_pc (instruction_of m) ≡ false
straight_leaves_pc (Move x (ToRegister b)) h = refl
straight_leaves_pc (Move x (ToFram a)) h = refl
straight_leaves_pc (Move x (ToRam a)) h = refl
straight_leaves_pc (Move x (ToIndexed b y)) h = refl
straight_leaves_pc (Move x (ToPointed b)) h = refl
straight_leaves_pc (Move x ToOutnum) h = refl
straight_leaves_pc (Move x ToOutdata) h = refl
straight_leaves_pc (Calculate op x b) h = refl
straight_leaves_pc (Compare x a) h = refl
straight_leaves_pc (Update op x a) h = refl
straight_leaves_pc (Push x) h = refl
straight_leaves_pc (Modify change.Rrc b) h = refl
straight_leaves_pc (Modify change.Rra b) h = refl
straight_leaves_pc (Modify change.Swpb b) h = refl
straight_leaves_pc (Modify change.Sxt b) h = refl
straight_leaves_pc (SetStack n) h = refl
straight_leaves_pc (Sense b) h = refl
straight_leaves_pc (Jump c o) h = elim h [ ]
straight_leaves_pc (Skip n) h = elim h [ ]
straight_leaves_pc (Branch a) h = elim h [ ]
straight_leaves_pc (BranchIndexed b x) h = elim h [ ]
straight_leaves_pc (SkipBy b) h = elim h [ ]
straight_leaves_pc EnableInterrupts h = refl
straight_leaves_pc (Call a) h = elim h [ ]
straight_leaves_pc Return h = elim h [ ]
straight_leaves_pc (KeepStack b) h = refl
straight_leaves_pc RestoreStack h = refl

-- the other way round
pub straight_by_pc : (m : Form) → writes_pc (instruction_of m) ≡ false → IsStraight m
straight_by_pc (Move x y) e = tt
straight_by_pc (Calculate op x b) e = tt
straight_by_pc (Compare x a) e = tt
straight_by_pc (Update op x a) e = tt
straight_by_pc (Push x) e = tt
straight_by_pc (Modify m b) e = tt
straight_by_pc (SetStack n) e = tt
straight_by_pc (Sense b) e = tt
straight_by_pc (Jump c o) e = absurd (cc e)
straight_by_pc (Skip n) e = absurd (cc e)
straight_by_pc (Branch a) e = absurd (cc e)
straight_by_pc (BranchIndexed b x) e = absurd (cc e)
straight_by_pc (SkipBy b) e = absurd (cc e)
straight_by_pc EnableInterrupts e = tt
straight_by_pc (Call a) e = absurd (cc e)
straight_by_pc Return e = absurd (cc e)
straight_by_pc (KeepStack b) e = tt
straight_by_pc RestoreStack e = tt

-- a form with the instruction of a jump is that jump
pub jump_by_instruction : (m : Form) (c : Condition) (o : ℕ) → instruction_of m ≡ instr.Jump c o → m ≡ Jump c o
jump_by_instruction (Jump d p) c o e = let same : d ≡ c = cc e in let far : p ≡ o = cc e in rw (same, far) refl
jump_by_instruction (Move x y) c o e = absurd (cc e)
jump_by_instruction (Calculate op x b) c o e = absurd (cc e)
jump_by_instruction (Compare x a) c o e = absurd (cc e)
jump_by_instruction (Update op x a) c o e = absurd (cc e)
jump_by_instruction (Push x) c o e = absurd (cc e)
jump_by_instruction (Modify m b) c o e = absurd (cc e)
jump_by_instruction (SetStack n) c o e = absurd (cc e)
jump_by_instruction (Sense b) c o e = absurd (cc e)
jump_by_instruction (Skip n) c o e = absurd (cc e)
jump_by_instruction (Branch a) c o e = absurd (cc e)
jump_by_instruction (BranchIndexed b x) c o e = absurd (cc e)
jump_by_instruction (SkipBy b) c o e = absurd (cc e)
jump_by_instruction EnableInterrupts c o e = absurd (cc e)
jump_by_instruction (Call a) c o e = absurd (cc e)
jump_by_instruction Return c o e = absurd (cc e)
jump_by_instruction (KeepStack b) c o e = absurd (cc e)
jump_by_instruction RestoreStack c o e = absurd (cc e)

-- a jump by fewer than 512 words goes forward
pub forward_distance : (o : ℕ) → nat_lt o 512 ≡ true → distance o ≡ 2 * o
forward_distance o e =
    let few : o < 512 = grind (arith, nat_tests) in
    ap (λ b. (2 * o + (if b then 0 else 0x10000 - 0x800)) % 0x10000) (eq-eqb (o / 0x200) 0 (omega (arith, few))) ∙ omega (arith, few)
