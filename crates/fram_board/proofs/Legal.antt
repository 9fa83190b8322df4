-- Each word begins an instruction, or none: the instructions are tried one form after another.
use Rattle.std.proofs.Common.{◌≡◌, ◌≤◌, ◌<◌, ◌+◌, ◌-◌, ◌*◌, arith, ℕ, ◌⊎◌, inl, inr, List, [], ◌∷◌, refl, slice_get, subst, sym, zero, suc, Some}
use Rattle.std.proofs.lemmas.Bool.{cases_eq, cases_lt}
use Rattle.std.proofs.lemmas.Option.{same_Some}
use Rattle.alp_words.specs.declared.Width.{Width}
use Rattle.alp_words.specs.declared.Width.TheVariants.{Word, Byte}
use Rattle.msp_isa.specs.declared.registers.IndexRegister.{IndexRegister}
use Rattle.msp_isa.specs.declared.registers.IndexRegister.TheVariants.{Sp, R4, R5, R6, R7, R8, R9, R10, R11, R12, R13, R14, R15}
use Rattle.msp_isa.specs.declared.registers.SourceRegister.{SourceRegister}
use Rattle.msp_isa.specs.declared.registers.SourceRegister.TheVariants as readable
use Rattle.msp_isa.specs.declared.registers.IndirectRegister.{IndirectRegister}
use Rattle.msp_isa.specs.declared.registers.IndirectRegister.TheVariants as pointer
use Rattle.msp_isa.specs.declared.registers.Reg.{Reg}
use Rattle.msp_isa.specs.declared.registers.Reg.TheVariants as reg
use Rattle.msp_isa.specs.declared.operands.Konst.{Konst}
use Rattle.msp_isa.specs.declared.operands.Konst.TheVariants as konst
use Rattle.msp_isa.specs.declared.operands.Operand.{Operand}
use Rattle.msp_isa.specs.declared.operands.Operand.TheVariants as operand
use Rattle.msp_isa.specs.declared.operands.Src.{Src}
use Rattle.msp_isa.specs.declared.operands.Src.TheVariants as src
use Rattle.msp_isa.specs.declared.operands.Dst.{Dst}
use Rattle.msp_isa.specs.declared.operands.Dst.TheVariants as dst
use Rattle.msp_isa.specs.declared.instructions.TwoOp.{TwoOp}
use Rattle.msp_isa.specs.declared.instructions.TwoOp.TheVariants.{Mov, Add, Addc, Subc, Sub, Cmp, Dadd, Bit, Bic, Bis, Xor, And}
use Rattle.msp_isa.specs.declared.instructions.OneOp.{OneOp}
use Rattle.msp_isa.specs.declared.instructions.OneOp.TheVariants.{Rrc, Swpb, Rra, Sxt, Push, Call}
use Rattle.msp_isa.specs.declared.instructions.Condition.{Condition}
use Rattle.msp_isa.specs.declared.instructions.Condition.TheVariants as condition
use Rattle.msp_isa.specs.declared.instructions.Instr.{Instr}
use Rattle.msp_isa.specs.declared.instructions.Instr.TheVariants as instr
use Rattle.msp_isa.specs.Encoding.{Row, index_number, source_number, indirect_number, register_number, operand_row, source_row, destination_row, opcode}
use Rattle.msp_isa.specs.Encoding.{condition_number, byte_bit, first_word, IsInstruction, IsIllegal}

-- it holds or not
abbrev Decision : Type 0 → Type 0
Decision P = P ⊎ (P → ⊥)

-- one of them has it or none
abbrev Found : (A : Type 0) → (A → Type 0) → Type 0
Found A P = ((a : A) × P a) ⊎ ((a : A) → P a → ⊥)

decided : {A : Type 0} (P : A → Type 0) → Found A P → Decision ((a : A) × P a)
decided P (inl f) = inl f
decided P (inr none) = inr (λ f. none f.0 f.1)

abbrev NoneOf : {A : Type 0} → (A → Type 0) → List A → Type 0
NoneOf P [] = Unit {0}
NoneOf P (x ∷ xs) = (P x → ⊥) × NoneOf P xs

one_of : {A : Type 0} (P : A → Type 0) (x : A) (xs : List A) → Decision (P x) → ((a : A) × P a) ⊎ NoneOf P xs → ((a : A) × P a) ⊎ NoneOf P (x ∷ xs)
one_of P x xs (inl h) rest = inl (x, h)
one_of P x xs (inr not_it) (inl f) = inl f
one_of P x xs (inr not_it) (inr none) = inr (not_it, none)

find_in : {A : Type 0} (P : A → Type 0) → ((a : A) → Decision (P a)) → (xs : List A) → ((a : A) × P a) ⊎ NoneOf P xs
find_in P dec [] = inr tt
find_in P dec (x ∷ xs) = one_of P x xs (dec x) (find_in P dec xs)

covered : {A : Type 0} (P : A → Type 0) (xs : List A) → (NoneOf P xs → (a : A) → P a → ⊥) → ((a : A) × P a) ⊎ NoneOf P xs → Found A P
covered P xs all (inl f) = inl f
covered P xs all (inr none) = inr (all none)

-- of none of them: not of the one at a place
none_at : {A : Type 0} (P : A → Type 0) (k : ℕ) (xs : List A) (x : A) → slice_get xs k ≡ Some x → NoneOf P xs → P x → ⊥
none_at P k [] x e n p = cc
none_at P zero (y ∷ ys) x e n p = n.0 (subst P (sym (same_Some y x e)) p)
none_at P (suc k) (y ∷ ys) x e n p = none_at P k ys x e n.1 p

-- a register by its number
abbrev indexes : List IndexRegister
indexes = Sp ∷ R4 ∷ R5 ∷ R6 ∷ R7 ∷ R8 ∷ R9 ∷ R10 ∷ R11 ∷ R12 ∷ R13 ∷ R14 ∷ R15 ∷ []

no_index : (P : IndexRegister → Type 0) → NoneOf P indexes → (r : IndexRegister) → P r → ⊥
no_index P n Sp = none_at P 0 indexes Sp refl n
no_index P n R4 = none_at P 1 indexes R4 refl n
no_index P n R5 = none_at P 2 indexes R5 refl n
no_index P n R6 = none_at P 3 indexes R6 refl n
no_index P n R7 = none_at P 4 indexes R7 refl n
no_index P n R8 = none_at P 5 indexes R8 refl n
no_index P n R9 = none_at P 6 indexes R9 refl n
no_index P n R10 = none_at P 7 indexes R10 refl n
no_index P n R11 = none_at P 8 indexes R11 refl n
no_index P n R12 = none_at P 9 indexes R12 refl n
no_index P n R13 = none_at P 10 indexes R13 refl n
no_index P n R14 = none_at P 11 indexes R14 refl n
no_index P n R15 = none_at P 12 indexes R15 refl n

find_index : (Q : ℕ → Type 0) → ((n : ℕ) → Decision (Q n)) → Found IndexRegister (λ r. Q (index_number r))
find_index Q dec =
    let P : IndexRegister → Type 0 = λ r. Q (index_number r) in
    covered P indexes (no_index P) (find_in P (λ r. dec (index_number r)) indexes)

-- a register that is read
no_source_register : (Q : ℕ → Type 0) → (Q 0 → ⊥) → (Q 2 → ⊥) → ((r : IndexRegister) → Q (index_number r) → ⊥) → (r : SourceRegister) → Q (source_number r) → ⊥
no_source_register Q a b c readable.Pc = a
no_source_register Q a b c readable.Sr = b
no_source_register Q a b c (readable.Index r) = c r

pick_source_register : (Q : ℕ → Type 0) → Decision (Q 0) → Decision (Q 2) → Found IndexRegister (λ r. Q (index_number r))
    → Found SourceRegister (λ r. Q (source_number r))
pick_source_register Q (inl h) b c = inl (readable.Pc, h)
pick_source_register Q (inr a) (inl h) c = inl (readable.Sr, h)
pick_source_register Q (inr a) (inr b) (inl f) = inl (readable.Index f.0, f.1)
pick_source_register Q (inr a) (inr b) (inr c) = inr (no_source_register Q a b c)

-- a register that points
no_indirect : (Q : ℕ → Type 0) → (Q 0 → ⊥) → ((r : IndexRegister) → Q (index_number r) → ⊥) → (r : IndirectRegister) → Q (indirect_number r) → ⊥
no_indirect Q a c pointer.Pc = a
no_indirect Q a c (pointer.Index r) = c r

pick_indirect : (Q : ℕ → Type 0) → Decision (Q 0) → Found IndexRegister (λ r. Q (index_number r)) → Found IndirectRegister (λ r. Q (indirect_number r))
pick_indirect Q (inl h) c = inl (pointer.Pc, h)
pick_indirect Q (inr a) (inl f) = inl (pointer.Index f.0, f.1)
pick_indirect Q (inr a) (inr c) = inr (no_indirect Q a c)

-- any register
no_register : (Q : ℕ → Type 0) → (Q 0 → ⊥) → (Q 2 → ⊥) → (Q 3 → ⊥) → ((r : IndexRegister) → Q (index_number r) → ⊥) → (r : Reg) → Q (register_number r) → ⊥
no_register Q a b c d reg.Pc = a
no_register Q a b c d reg.Sr = b
no_register Q a b c d reg.R3 = c
no_register Q a b c d (reg.Index r) = d r

pick_register : (Q : ℕ → Type 0) → Decision (Q 0) → Decision (Q 2) → Decision (Q 3) → Found IndexRegister (λ r. Q (index_number r))
    → Found Reg (λ r. Q (register_number r))
pick_register Q (inl h) b c d = inl (reg.Pc, h)
pick_register Q (inr a) (inl h) c d = inl (reg.Sr, h)
pick_register Q (inr a) (inr b) (inl h) d = inl (reg.R3, h)
pick_register Q (inr a) (inr b) (inr c) (inl f) = inl (reg.Index f.0, f.1)
pick_register Q (inr a) (inr b) (inr c) (inr d) = inr (no_register Q a b c d)

-- an operand by its mode and register; its extension word doesn't matter
abbrev HasRow : (ℕ → ℕ → Type 0) → Row → Type 0
HasRow Q r = Q r.mode r.register

no_operand : (Q : ℕ → ℕ → Type 0) → ((r : SourceRegister) → Q 0 (source_number r) → ⊥) → ((r : IndexRegister) → Q 1 (index_number r) → ⊥) → (Q 1 0 → ⊥)
    → (Q 1 2 → ⊥)
    → ((r : IndirectRegister) → Q 2 (indirect_number r) → ⊥) → ((r : IndexRegister) → Q 3 (index_number r) → ⊥) → (p : Operand) → HasRow Q (operand_row p) → ⊥
no_operand Q a b c d e f (operand.Reg r) = a r
no_operand Q a b c d e f (operand.Indexed r x) = b r
no_operand Q a b c d e f (operand.Symbolic x) = c
no_operand Q a b c d e f (operand.Absolute x) = d
no_operand Q a b c d e f (operand.Indirect r) = e r
no_operand Q a b c d e f (operand.Increment r) = f r

pick_operand : (Q : ℕ → ℕ → Type 0) → Found SourceRegister (λ r. Q 0 (source_number r)) → Found IndexRegister (λ r. Q 1 (index_number r)) → Decision (Q 1 0)
    → Decision (Q 1 2)
    → Found IndirectRegister (λ r. Q 2 (indirect_number r)) → Found IndexRegister (λ r. Q 3 (index_number r)) → Found Operand (λ p. HasRow Q (operand_row p))
pick_operand Q (inl h) b c d e f = inl (operand.Reg h.0, h.1)
pick_operand Q (inr a) (inl h) c d e f = inl (operand.Indexed h.0 0, h.1)
pick_operand Q (inr a) (inr b) (inl h) d e f = inl (operand.Symbolic 0, h)
pick_operand Q (inr a) (inr b) (inr c) (inl h) e f = inl (operand.Absolute 0, h)
pick_operand Q (inr a) (inr b) (inr c) (inr d) (inl h) f = inl (operand.Indirect h.0, h.1)
pick_operand Q (inr a) (inr b) (inr c) (inr d) (inr e) (inl h) = inl (operand.Increment h.0, h.1)
pick_operand Q (inr a) (inr b) (inr c) (inr d) (inr e) (inr f) = inr (no_operand Q a b c d e f)

find_operand : (Q : ℕ → ℕ → Type 0) → ((m r : ℕ) → Decision (Q m r)) → Found Operand (λ p. HasRow Q (operand_row p))
find_operand Q dec =
    pick_operand Q (pick_source_register (Q 0) (dec 0 0) (dec 0 2) (find_index (Q 0) (dec 0))) (find_index (Q 1) (dec 1)) (dec 1 0) (dec 1 2)
    (pick_indirect (Q 2) (dec 2 0) (find_index (Q 2) (dec 2))) (find_index (Q 3) (dec 3))

-- a source operand
abbrev constants : List Konst
constants = konst.Zero ∷ konst.One ∷ konst.Two ∷ konst.MinusOne ∷ konst.Four ∷ konst.Eight ∷ []

no_constant : (P : Konst → Type 0) → NoneOf P constants → (k : Konst) → P k → ⊥
no_constant P n konst.Zero = none_at P 0 constants konst.Zero refl n
no_constant P n konst.One = none_at P 1 constants konst.One refl n
no_constant P n konst.Two = none_at P 2 constants konst.Two refl n
no_constant P n konst.MinusOne = none_at P 3 constants konst.MinusOne refl n
no_constant P n konst.Four = none_at P 4 constants konst.Four refl n
no_constant P n konst.Eight = none_at P 5 constants konst.Eight refl n

no_source : (Q : ℕ → ℕ → Type 0) → ((p : Operand) → HasRow Q (operand_row p) → ⊥) → (Q 3 0 → ⊥) → ((k : Konst) → HasRow Q (source_row (src.Constant k)) → ⊥)
    → (s : Src) → HasRow Q (source_row s) → ⊥
no_source Q a b c (src.Operand p) = a p
no_source Q a b c (src.Immediate x) = b
no_source Q a b c (src.Constant k) = c k

pick_source : (Q : ℕ → ℕ → Type 0) → Found Operand (λ p. HasRow Q (operand_row p)) → Decision (Q 3 0)
    → Found Konst (λ k. HasRow Q (source_row (src.Constant k))) → Found Src (λ s. HasRow Q (source_row s))
pick_source Q (inl h) b c = inl (src.Operand h.0, h.1)
pick_source Q (inr a) (inl h) c = inl (src.Immediate 0, h)
pick_source Q (inr a) (inr b) (inl h) = inl (src.Constant h.0, h.1)
pick_source Q (inr a) (inr b) (inr c) = inr (no_source Q a b c)

find_source : (Q : ℕ → ℕ → Type 0) → ((m r : ℕ) → Decision (Q m r)) → Found Src (λ s. HasRow Q (source_row s))
find_source Q dec =
    let P : Konst → Type 0 = λ k. HasRow Q (source_row (src.Constant k)) in
    pick_source Q (find_operand Q dec) (dec 3 0)
    (covered P constants (no_constant P) (find_in P (λ k. dec (source_row (src.Constant k)).mode (source_row (src.Constant k)).register) constants))

-- a destination operand
no_destination : (Q : ℕ → ℕ → Type 0) → ((r : Reg) → Q 0 (register_number r) → ⊥) → ((r : IndexRegister) → Q 1 (index_number r) → ⊥) → (Q 1 0 → ⊥) → (Q 1 2 → ⊥)
    → (d : Dst) → HasRow Q (destination_row d) → ⊥
no_destination Q a b c d (dst.Reg r) = a r
no_destination Q a b c d (dst.Indexed r x) = b r
no_destination Q a b c d (dst.Symbolic x) = c
no_destination Q a b c d (dst.Absolute x) = d

pick_destination : (Q : ℕ → ℕ → Type 0) → Found Reg (λ r. Q 0 (register_number r)) → Found IndexRegister (λ r. Q 1 (index_number r)) → Decision (Q 1 0)
    → Decision (Q 1 2) → Found Dst (λ d. HasRow Q (destination_row d))
pick_destination Q (inl h) b c d = inl (dst.Reg h.0, h.1)
pick_destination Q (inr a) (inl h) c d = inl (dst.Indexed h.0 0, h.1)
pick_destination Q (inr a) (inr b) (inl h) d = inl (dst.Symbolic 0, h)
pick_destination Q (inr a) (inr b) (inr c) (inl h) = inl (dst.Absolute 0, h)
pick_destination Q (inr a) (inr b) (inr c) (inr d) = inr (no_destination Q a b c d)

find_destination : (Q : ℕ → ℕ → Type 0) → ((m r : ℕ) → Decision (Q m r)) → Found Dst (λ d. HasRow Q (destination_row d))
find_destination Q dec =
    pick_destination Q (pick_register (Q 0) (dec 0 0) (dec 0 2) (dec 0 3) (find_index (Q 0) (dec 0))) (find_index (Q 1) (dec 1)) (dec 1 0) (dec 1 2)

-- a width
no_width : (P : Width → Type 0) → (P Word → ⊥) → (P Byte → ⊥) → (w : Width) → P w → ⊥
no_width P a b Word = a
no_width P a b Byte = b

find_width : (P : Width → Type 0) → Decision (P Word) → Decision (P Byte) → Found Width P
find_width P (inl h) b = inl (Word, h)
find_width P (inr a) (inl h) = inl (Byte, h)
find_width P (inr a) (inr b) = inr (no_width P a b)

-- an operation of two operands
abbrev operations : List TwoOp
operations = Mov ∷ Add ∷ Addc ∷ Subc ∷ Sub ∷ Cmp ∷ Dadd ∷ Bit ∷ Bic ∷ Bis ∷ Xor ∷ And ∷ []

no_operation : (P : TwoOp → Type 0) → NoneOf P operations → (o : TwoOp) → P o → ⊥
no_operation P n Mov = none_at P 0 operations Mov refl n
no_operation P n Add = none_at P 1 operations Add refl n
no_operation P n Addc = none_at P 2 operations Addc refl n
no_operation P n Subc = none_at P 3 operations Subc refl n
no_operation P n Sub = none_at P 4 operations Sub refl n
no_operation P n Cmp = none_at P 5 operations Cmp refl n
no_operation P n Dadd = none_at P 6 operations Dadd refl n
no_operation P n Bit = none_at P 7 operations Bit refl n
no_operation P n Bic = none_at P 8 operations Bic refl n
no_operation P n Bis = none_at P 9 operations Bis refl n
no_operation P n Xor = none_at P 10 operations Xor refl n
no_operation P n And = none_at P 11 operations And refl n

-- an instruction of two operands that begins with a word
abbrev TwoBegins : ℕ → TwoOp → Width → Src → Dst → Type 0
TwoBegins v o w s d = first_word (instr.Two o w s d) ≡ v

abbrev TwoAt : ℕ → TwoOp → Width → ℕ → ℕ → ℕ → ℕ → Type 0
TwoAt v o w sm sr dm dr = opcode o * 0x1000 + sr * 0x100 + dm * 0x80 + byte_bit w * 0x40 + sm * 0x10 + dr ≡ v

find_two_source : (v : ℕ) (o : TwoOp) (w : Width) → Found Src (λ s. (d : Dst) × TwoBegins v o w s d)
find_two_source v o w =
    find_source (λ sm sr. (d : Dst) × TwoAt v o w sm sr (destination_row d).mode (destination_row d).register)
    (λ sm sr. decided (λ d. TwoAt v o w sm sr (destination_row d).mode (destination_row d).register)
    (find_destination (TwoAt v o w sm sr) (λ dm dr. cases_eq _ v)))

flat : (v : ℕ) (o : TwoOp) (w : Width) → Found Src (λ s. (d : Dst) × TwoBegins v o w s d) → Decision ((s : Src) × (d : Dst) × TwoBegins v o w s d)
flat v o w (inl f) = inl (f.0, f.1.0, f.1.1)
flat v o w (inr none) = inr (λ f. none f.0 (f.1, f.2))

find_two_width : (v : ℕ) (o : TwoOp) → Found Width (λ w. (s : Src) × (d : Dst) × TwoBegins v o w s d)
find_two_width v o =
    find_width (λ w. (s : Src) × (d : Dst) × TwoBegins v o w s d) (flat v o Word (find_two_source v o Word)) (flat v o Byte (find_two_source v o Byte))

flat_width : (v : ℕ) (o : TwoOp) → Found Width (λ w. (s : Src) × (d : Dst) × TwoBegins v o w s d)
    → Decision ((w : Width) × (s : Src) × (d : Dst) × TwoBegins v o w s d)
flat_width v o (inl f) = inl (f.0, f.1.0, f.1.1, f.1.2)
flat_width v o (inr none) = inr (λ f. none f.0 (f.1, f.2, f.3))

find_two : (v : ℕ) → Found TwoOp (λ o. (w : Width) × (s : Src) × (d : Dst) × TwoBegins v o w s d)
find_two v =
    let P : TwoOp → Type 0 = λ o. (w : Width) × (s : Src) × (d : Dst) × TwoBegins v o w s d in
    covered P operations (no_operation P) (find_in P (λ o. flat_width v o (find_two_width v o)) operations)

-- an instruction of one operand
abbrev OneAt : ℕ → ℕ → Width → ℕ → ℕ → Type 0
OneAt v f w m r = f + byte_bit w * 0x40 + m * 0x10 + r ≡ v

abbrev OperandAt : ℕ → ℕ → Width → Operand → Type 0
OperandAt v f w p = HasRow (OneAt v f w) (operand_row p)

abbrev SourceAt : ℕ → ℕ → Width → Src → Type 0
SourceAt v f w s = HasRow (OneAt v f w) (source_row s)

find_one_operand : (v f : ℕ) (w : Width) → Decision ((p : Operand) × OperandAt v f w p)
find_one_operand v f w = decided (OperandAt v f w) (find_operand (OneAt v f w) (λ m r. cases_eq _ v))

find_one_source : (v f : ℕ) (w : Width) → Decision ((s : Src) × SourceAt v f w s)
find_one_source v f w = decided (SourceAt v f w) (find_source (OneAt v f w) (λ m r. cases_eq _ v))

find_wide_operand : (v f : ℕ) → Found Width (λ w. (p : Operand) × OperandAt v f w p)
find_wide_operand v f = find_width (λ w. (p : Operand) × OperandAt v f w p) (find_one_operand v f Word) (find_one_operand v f Byte)

find_wide_source : (v f : ℕ) → Found Width (λ w. (s : Src) × SourceAt v f w s)
find_wide_source v f = find_width (λ w. (s : Src) × SourceAt v f w s) (find_one_source v f Word) (find_one_source v f Byte)

no_one : (v : ℕ) → ((w : Width) → ((p : Operand) × OperandAt v 0x1000 w p) → ⊥) → (((p : Operand) × OperandAt v 0x1080 Word p) → ⊥)
    → ((w : Width) → ((p : Operand) × OperandAt v 0x1100 w p) → ⊥) → (((p : Operand) × OperandAt v 0x1180 Word p) → ⊥)
    → ((w : Width) → ((s : Src) × SourceAt v 0x1200 w s) → ⊥) → (((s : Src) × SourceAt v 0x1280 Word s) → ⊥)
    → (o : OneOp) → first_word (instr.One o) ≡ v → ⊥
no_one v a b c d e f (Rrc w p) h = a w (p, h)
no_one v a b c d e f (Swpb p) h = b (p, h)
no_one v a b c d e f (Rra w p) h = c w (p, h)
no_one v a b c d e f (Sxt p) h = d (p, h)
no_one v a b c d e f (Push w s) h = e w (s, h)
no_one v a b c d e f (Call s) h = f (s, h)

pick_one : (v : ℕ) → Found Width (λ w. (p : Operand) × OperandAt v 0x1000 w p) → Decision ((p : Operand) × OperandAt v 0x1080 Word p)
    → Found Width (λ w. (p : Operand) × OperandAt v 0x1100 w p) → Decision ((p : Operand) × OperandAt v 0x1180 Word p)
    → Found Width (λ w. (s : Src) × SourceAt v 0x1200 w s) → Decision ((s : Src) × SourceAt v 0x1280 Word s)
    → Found OneOp (λ o. first_word (instr.One o) ≡ v)
pick_one v (inl h) b c d e f = inl (Rrc h.0 h.1.0, h.1.1)
pick_one v (inr a) (inl h) c d e f = inl (Swpb h.0, h.1)
pick_one v (inr a) (inr b) (inl h) d e f = inl (Rra h.0 h.1.0, h.1.1)
pick_one v (inr a) (inr b) (inr c) (inl h) e f = inl (Sxt h.0, h.1)
pick_one v (inr a) (inr b) (inr c) (inr d) (inl h) f = inl (Push h.0 h.1.0, h.1.1)
pick_one v (inr a) (inr b) (inr c) (inr d) (inr e) (inl h) = inl (Call h.0, h.1)
pick_one v (inr a) (inr b) (inr c) (inr d) (inr e) (inr f) = inr (no_one v a b c d e f)

find_one : (v : ℕ) → Found OneOp (λ o. first_word (instr.One o) ≡ v)
find_one v =
    pick_one v (find_wide_operand v 0x1000) (find_one_operand v 0x1080 Word) (find_wide_operand v 0x1100) (find_one_operand v 0x1180 Word)
    (find_wide_source v 0x1200) (find_one_source v 0x1280 Word)

-- a jump
abbrev JumpAt : ℕ → ℕ → Type 0
JumpAt v c = (offset : ℕ) × (offset < 0x400) × (0x2000 + c * 0x400 + offset ≡ v)

jump_range : (v c : ℕ) → (v < 0x2000 + c * 0x400) ⊎ (((0x2000 + c * 0x400 ≤ v) × (v < 0x2400 + c * 0x400)) ⊎ (0x2400 + c * 0x400 ≤ v)) → Decision (JumpAt v c)
jump_range v c (inl low) = inr (λ j. let a = j.1 in let e = j.2 in omega arith)
jump_range v c (inr (inl at)) = let a = at.0 in let b = at.1 in inl (v - (0x2000 + c * 0x400), omega arith, omega arith)
jump_range v c (inr (inr high)) = inr (λ j. let a = j.1 in let e = j.2 in omega arith)

third_range : (v a b : ℕ) → (a ≤ v) → (v < b) ⊎ (b ≤ v) → (v < a) ⊎ (((a ≤ v) × (v < b)) ⊎ (b ≤ v))
third_range v a b h (inl g) = inr (inl (h, g))
third_range v a b h (inr g) = inr (inr g)

later_ranges : (v a b : ℕ) → (v < a) ⊎ (a ≤ v) → (v < a) ⊎ (((a ≤ v) × (v < b)) ⊎ (b ≤ v))
later_ranges v a b (inl h) = inl h
later_ranges v a b (inr h) = third_range v a b h (cases_lt v b)

three_ranges : (v a b : ℕ) → (v < a) ⊎ (((a ≤ v) × (v < b)) ⊎ (b ≤ v))
three_ranges v a b = later_ranges v a b (cases_lt v a)

decide_jump : (v c : ℕ) → Decision (JumpAt v c)
decide_jump v c = jump_range v c (three_ranges v (0x2000 + c * 0x400) (0x2400 + c * 0x400))

abbrev conditions : List Condition
conditions =
    condition.NotEqual ∷ condition.Equal ∷ condition.NoCarry ∷ condition.Carry ∷ condition.Negative ∷ condition.GreaterOrEqual ∷ condition.Less
    ∷ condition.Always ∷ []

no_condition : (P : Condition → Type 0) → NoneOf P conditions → (c : Condition) → P c → ⊥
no_condition P n condition.NotEqual = none_at P 0 conditions condition.NotEqual refl n
no_condition P n condition.Equal = none_at P 1 conditions condition.Equal refl n
no_condition P n condition.NoCarry = none_at P 2 conditions condition.NoCarry refl n
no_condition P n condition.Carry = none_at P 3 conditions condition.Carry refl n
no_condition P n condition.Negative = none_at P 4 conditions condition.Negative refl n
no_condition P n condition.GreaterOrEqual = none_at P 5 conditions condition.GreaterOrEqual refl n
no_condition P n condition.Less = none_at P 6 conditions condition.Less refl n
no_condition P n condition.Always = none_at P 7 conditions condition.Always refl n

find_jump : (v : ℕ) → Found Condition (λ c. JumpAt v (condition_number c))
find_jump v =
    let P : Condition → Type 0 = λ c. JumpAt v (condition_number c) in
    covered P conditions (no_condition P) (find_in P (λ c. decide_jump v (condition_number c)) conditions)

-- an instruction that begins with a word
pub record BeginsAt (v : ℕ) (i : Instr) : Type 0 where
  pub is : IsInstruction i
  pub begins : first_word i ≡ v

none_begins : (v : ℕ) → ((o : TwoOp) → ((w : Width) × (s : Src) × (d : Dst) × TwoBegins v o w s d) → ⊥) → ((o : OneOp) → first_word (instr.One o) ≡ v → ⊥)
    → ((c : Condition) → JumpAt v (condition_number c) → ⊥) → (0x1300 ≡ v → ⊥) → IsIllegal v
none_begins v a b c d (instr.Two o w s t) is h = a o (w, s, t, h)
none_begins v a b c d (instr.One o) is h = b o h
none_begins v a b c d (instr.Jump k offset) is h = c k (offset, is, h)
none_begins v a b c d instr.Reti is h = d h

pick_instruction : (v : ℕ) → Found TwoOp (λ o. (w : Width) × (s : Src) × (d : Dst) × TwoBegins v o w s d) → Found OneOp (λ o. first_word (instr.One o) ≡ v)
    → Found Condition (λ c. JumpAt v (condition_number c)) → Decision (0x1300 ≡ v) → ((i : Instr) × BeginsAt v i) ⊎ IsIllegal v
pick_instruction v (inl h) b c d = inl (instr.Two h.0 h.1.0 h.1.1 h.1.2, record { is = tt; begins = h.1.3 })
pick_instruction v (inr a) (inl h) c d = inl (instr.One h.0, record { is = tt; begins = h.1 })
pick_instruction v (inr a) (inr b) (inl h) d = inl (instr.Jump h.0 h.1.0, record { is = h.1.1; begins = h.1.2 })
pick_instruction v (inr a) (inr b) (inr c) (inl h) = inl (instr.Reti, record { is = tt; begins = h })
pick_instruction v (inr a) (inr b) (inr c) (inr d) = inr (none_begins v a b c d)

pub legal_or_not : (v : ℕ) → ((i : Instr) × BeginsAt v i) ⊎ IsIllegal v
legal_or_not v = pick_instruction v (find_two v) (find_one v) (find_jump v) (cases_eq 0x1300 v)
