-- Words begin at most one instruction.
use Rattle.std.proofs.Common.{◌≡◌, ◌⊎◌, inl, inr, length, subst, slice_index, ℕ, ◌+◌, ◌*◌, ◌/◌, ◌%◌, ◌<◌, ◌≤◌, List, [], ◌∷◌, ◌++◌, refl, sym, ◌∙◌, ap, arith}
use Rattle.msp_isa.specs.declared.registers.IndexRegister.{IndexRegister}
use Rattle.msp_isa.specs.declared.instructions.TwoOp.{TwoOp}
use Rattle.msp_isa.specs.declared.instructions.Condition.{Condition}
use Rattle.msp_isa.specs.declared.operands.Operand.{Operand}
use Rattle.msp_isa.specs.declared.operands.Operand.TheVariants as operand
use Rattle.msp_isa.specs.declared.operands.Src.{Src}
use Rattle.msp_isa.specs.declared.operands.Src.TheVariants as src
use Rattle.msp_isa.specs.declared.operands.Dst.{Dst}
use Rattle.msp_isa.specs.declared.operands.Dst.TheVariants as dst
use Rattle.msp_isa.specs.declared.instructions.Instr.{Instr}
use Rattle.msp_decode.proofs.Fields.{IsOneOperand, IsTwoOperand, same_width, prefix_first, length_below, one_fields, two_fields, two_words, jump_fields}
use Rattle.std.proofs.lemmas.Bool.{cases_lt}
use Rattle.msp_isa.specs.Encoding.{encoding, index_number, operand_row, source_row, destination_row, opcode, condition_number, IsPrefix, IsInstruction}
use Rattle.msp_isa.specs.Encoding.{first_word, HasFields}

pub same_index : (a b : IndexRegister) → index_number a ≡ index_number b → a ≡ b
same_index a b e = grind arith

pub same_opcode : (a b : TwoOp) → opcode a ≡ opcode b → a ≡ b
same_opcode a b e = grind arith

pub same_condition : (a b : Condition) → condition_number a ≡ condition_number b → a ≡ b
same_condition a b e = grind arith

pub same_operand : (p q : Operand) (w : ℕ) → (operand_row p).mode ≡ (operand_row q).mode → (operand_row p).register ≡ (operand_row q).register
    → IsPrefix (operand_row p).extension (w ∷ []) → IsPrefix (operand_row q).extension (w ∷ []) → p ≡ q
same_operand p q w m r h k = grind (arith, same_index)

pub same_destination : (p q : Dst) (w : ℕ) → (destination_row p).mode ≡ (destination_row q).mode
    → (destination_row p).register ≡ (destination_row q).register → IsPrefix (destination_row p).extension (w ∷ [])
    → IsPrefix (destination_row q).extension (w ∷ []) → p ≡ q
same_destination p q w m r h k = grind (arith, same_index)

pub same_source : (p q : Src) (w : ℕ) → (source_row p).mode ≡ (source_row q).mode → (source_row p).register ≡ (source_row q).register
    → IsPrefix (source_row p).extension (w ∷ []) → IsPrefix (source_row q).extension (w ∷ []) → p ≡ q
same_source p q w m r h k = grind (arith, same_index, same_operand)

-- the same with two words behind
pub operand_front : (p q : Operand) (v w : ℕ) → (operand_row p).mode ≡ (operand_row q).mode → (operand_row p).register ≡ (operand_row q).register
    → IsPrefix (operand_row p).extension (v ∷ w ∷ []) → IsPrefix (operand_row q).extension (v ∷ w ∷ []) → p ≡ q
operand_front p q v w m r h k = grind (arith, same_index)

pub source_front : (p q : Src) (v w : ℕ) → (source_row p).mode ≡ (source_row q).mode → (source_row p).register ≡ (source_row q).register
    → IsPrefix (source_row p).extension (v ∷ w ∷ []) → IsPrefix (source_row q).extension (v ∷ w ∷ []) → p ≡ q
source_front p q v w m r h k = grind (arith, same_index, operand_front)

one_pair : (i j : Instr) (v w1 w2 : ℕ) → IsOneOperand i v → IsOneOperand j v → IsPrefix (encoding i) (v ∷ w1 ∷ w2 ∷ [])
    → IsPrefix (encoding j) (v ∷ w1 ∷ w2 ∷ []) → i ≡ j
one_pair i j v w1 w2 f g h k = grind (arith, same_width, operand_front, source_front)

jump_pair : (i j : Instr) (v : ℕ) → IsInstruction i → IsInstruction j → first_word i ≡ v → first_word j ≡ v → 0x2000 ≤ v → v < 0x4000 → i ≡ j
jump_pair i j v f g a b low high =
    let s = jump_fields i v f a low high in
    let t = jump_fields j v g b low high in
    let c = same_condition s.condition t.condition (s.condition_is ∙ sym t.condition_is) in
    let p = s.is in let q = t.is in let m = s.offset_is in let n = t.offset_is in
    cc

two_pair : (i j : Instr) (v w1 w2 : ℕ) → IsTwoOperand i v → IsTwoOperand j v → IsPrefix (encoding i) (v ∷ w1 ∷ w2 ∷ [])
    → IsPrefix (encoding j) (v ∷ w1 ∷ w2 ∷ []) → i ≡ j
two_pair i j v w1 w2 s t h k =
    let hs = two_words i v w1 w2 s h in
    let ht = two_words j v w1 w2 t k in
    let o = same_opcode s.op t.op (s.op_is ∙ sym t.op_is) in
    let w = same_width s.width t.width (s.width_is ∙ sym t.width_is) in
    let x = same_source s.src t.src w1 (s.src_is.0 ∙ sym t.src_is.0) (s.src_is.1 ∙ sym t.src_is.1) hs.0 ht.0 in
    let P : Src → Type 0 = λ y. IsPrefix (destination_row t.dst).extension (slice_index (w1 ∷ w2 ∷ []) (length (source_row y).extension) ∷ []) in
    let d = same_destination s.dst t.dst (slice_index (w1 ∷ w2 ∷ []) (length (source_row s.src).extension)) (s.dst_is.0 ∙ sym t.dst_is.0)
    (s.dst_is.1 ∙ sym t.dst_is.1) hs.1 (subst P (sym x) ht.1) in
    let p = s.is in let q = t.is in
    cc

-- whichever of the three ranges the first word is in
pub same_instruction : (i j : Instr) (v w1 w2 : ℕ) → IsInstruction i → IsInstruction j → IsPrefix (encoding i) (v ∷ w1 ∷ w2 ∷ [])
    → IsPrefix (encoding j) (v ∷ w1 ∷ w2 ∷ []) → i ≡ j
same_instruction i j v w1 w2 f g h k =
    let a = prefix_first i v (w1 ∷ w2 ∷ []) h in
    let b = prefix_first j v (w1 ∷ w2 ∷ []) k in
    elim (cases_lt v 0x2000) [
      | inl low ↦ one_pair i j v w1 w2 (one_fields i v low f a) (one_fields j v low g b) h k
      | inr high ↦ elim (cases_lt v 0x4000) [
        | inl below ↦ jump_pair i j v f g a b high below
        | inr two ↦ two_pair i j v w1 w2 (two_fields v two i f a) (two_fields v two j g b) h k
      ]
    ]

-- a short list at the front of ws, at the front of the first three of ws
three_front : (xs ws : List ℕ) → length xs < 4 → IsPrefix xs ws → IsPrefix xs (slice_index ws 0 ∷ slice_index ws 1 ∷ slice_index ws 2 ∷ [])
three_front [] ws l h = tt
three_front (x ∷ xs) [] l h = absurd h
three_front (x ∷ []) (w ∷ ws) l h = (h.0, tt)
three_front (x ∷ y ∷ xs) (w ∷ []) l h = absurd h.1
three_front (x ∷ y ∷ []) (w ∷ v ∷ ws) l h = (h.0, (h.1.0, tt))
three_front (x ∷ y ∷ z ∷ xs) (w ∷ v ∷ []) l h = absurd h.1.1
three_front (x ∷ y ∷ z ∷ []) (w ∷ v ∷ u ∷ ws) l h = (h.0, (h.1.0, (h.1.1.0, tt)))
three_front (x ∷ y ∷ z ∷ a ∷ xs) (w ∷ v ∷ u ∷ ws) l h = absurd (omega arith)

-- words begin with one instruction at most
pub is_unique : (i j : Instr) (ws : List ℕ) → IsInstruction i → IsInstruction j → IsPrefix (encoding i) ws → IsPrefix (encoding j) ws → i ≡ j
is_unique i j ws f g h k = same_instruction i j (slice_index ws 0) (slice_index ws 1) (slice_index ws 2) f g (three_front _ _ (length_below i) h)
    (three_front _ _ (length_below j) k)
