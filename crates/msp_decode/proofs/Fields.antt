-- What a first word says of the fields of its instruction.
use Rattle.std.proofs.Common.{◌≡◌, length-append, ◌⊎◌, inl, inr, ℕ, length, subst, slice_index, ◌+◌, ◌*◌, ◌/◌, ◌%◌, ◌<◌, ◌≤◌, List, [], ◌∷◌, ◌++◌, refl, sym}
use Rattle.std.proofs.Common.{◌∙◌, ap, arith}
use Rattle.msp_isa.specs.alp_words.declared.Width.{Width}
use Rattle.msp_isa.specs.alp_words.declared.Width.TheVariants.{Word, Byte}
use Rattle.msp_isa.specs.declared.instructions.Instr.{Instr}
use Rattle.msp_isa.specs.declared.instructions.Instr.TheVariants.{Two, One, Jump, Reti}
use Rattle.msp_isa.specs.declared.instructions.OneOp.TheVariants as one
use Rattle.msp_isa.specs.declared.instructions.TwoOp.{TwoOp}
use Rattle.msp_isa.specs.declared.instructions.Condition.{Condition}
use Rattle.msp_isa.specs.declared.operands.Konst.TheVariants as konst
use Rattle.msp_isa.specs.declared.operands.Operand.{Operand}
use Rattle.msp_isa.specs.declared.operands.Operand.TheVariants as operand
use Rattle.msp_isa.specs.declared.operands.Src.TheVariants as src
use Rattle.msp_isa.specs.declared.operands.Dst.TheVariants as dst
use Rattle.msp_isa.specs.declared.operands.Src.{Src}
use Rattle.msp_isa.specs.declared.operands.Dst.{Dst}
use Rattle.msp_isa.specs.Encoding.{Row, one_encoding, two_encoding, operand_row, source_row, destination_row, opcode, condition_number, byte_bit, encoding}
use Rattle.msp_isa.specs.Encoding.{HasFields, IsPrefix, IsInstruction, first_word}
use Rattle.msp_isa.proofs.Interface.{index_below}

operand_below : (p : Operand) → ((operand_row p).mode < 4) × ((operand_row p).register < 16)
operand_below p = grind (arith, index_below)

source_below : (s : Src) → ((source_row s).mode < 4) × ((source_row s).register < 16)
source_below s = grind (arith, operand_below)

destination_below : (d : Dst) → ((destination_row d).mode < 2) × ((destination_row d).register < 16)
destination_below d = grind (arith, index_below)

byte_below : (w : Width) → byte_bit w < 2
byte_below w = grind arith

condition_below : (c : Condition) → condition_number c < 8
condition_below c = grind arith

-- each field of a first word of two operands
fields : (op r a b m d : ℕ) → r < 16 → a < 2 → b < 2 → m < 4 → d < 16 → (w : ℕ) → op * 0x1000 + r * 0x100 + a * 0x80 + b * 0x40 + m * 0x10 + d ≡ w
    → (op ≡ w / 0x1000) × (r ≡ w / 0x100 % 16) × (a ≡ w / 0x80 % 2) × (b ≡ w / 0x40 % 2) × (m ≡ w / 0x10 % 4) × (d ≡ w % 16)
fields op r a b m d hr ha hb hm hd w e = (omega arith, omega arith, omega arith, omega arith, omega arith, omega arith)

-- an instruction of two operands with the fields of this first word
pub record IsTwoOperand (i : Instr) (w0 : ℕ) : Type 0 where
  pub op : TwoOp
  pub width : Width
  pub src : Src
  pub dst : Dst
  pub is : i ≡ Two op width src dst
  pub op_is : opcode op ≡ w0 / 0x1000
  pub width_is : byte_bit width ≡ w0 / 0x40 % 2
  pub src_is : HasFields (source_row src) (w0 / 0x10 % 4) (w0 / 0x100 % 16)
  pub dst_is : HasFields (destination_row dst) (w0 / 0x80 % 2) (w0 % 16)

pub two_fields : (w0 : ℕ) → 0x4000 ≤ w0 → (i : Instr) → IsInstruction i → first_word i ≡ w0 → IsTwoOperand i w0
two_fields w0 h (Two op w s d) fits e =
    let sb = source_below s in
    let db = destination_below d in
    let f = fields (opcode op) (source_row s).register (destination_row d).mode (byte_bit w) (source_row s).mode (destination_row d).register sb.1 db.0
    (byte_below w) sb.0 db.1 w0 e in
    record { op = op; width = w; src = s; dst = d; is = refl; op_is = f.0; width_is = f.3; src_is = (f.4, f.1); dst_is = (f.2, f.5) }
two_fields w0 h (One (one.Rrc w p)) fits e = let b = operand_below p in let l = byte_below w in absurd (omega arith)
two_fields w0 h (One (one.Swpb p)) fits e = let b = operand_below p in absurd (omega arith)
two_fields w0 h (One (one.Rra w p)) fits e = let b = operand_below p in let l = byte_below w in absurd (omega arith)
two_fields w0 h (One (one.Sxt p)) fits e = let b = operand_below p in absurd (omega arith)
two_fields w0 h (One (one.Push w s)) fits e = let b = source_below s in let l = byte_below w in absurd (omega arith)
two_fields w0 h (One (one.Call s)) fits e = let b = source_below s in absurd (omega arith)
two_fields w0 h (Jump c o) fits e = let b = condition_below c in absurd (omega arith)
two_fields w0 h Reti fits e = absurd (omega arith)

pub prefix_first : (i : Instr) (w : ℕ) (ws : List ℕ) → IsPrefix (encoding i) (w ∷ ws) → first_word i ≡ w
prefix_first (Two op w s d) v ws h = h.0
prefix_first (One (one.Rrc w p)) v ws h = h.0
prefix_first (One (one.Swpb p)) v ws h = h.0
prefix_first (One (one.Rra w p)) v ws h = h.0
prefix_first (One (one.Sxt p)) v ws h = h.0
prefix_first (One (one.Push w s)) v ws h = h.0
prefix_first (One (one.Call s)) v ws h = h.0
prefix_first (Jump c o) v ws h = h.0
prefix_first Reti v ws h = h.0

-- a short list at the front of two words and another behind it
short_front : (ys : List ℕ) (v w : ℕ) → length ys < 2 → IsPrefix ys (v ∷ w ∷ []) → IsPrefix ys (v ∷ [])
short_front [] v w l h = tt
short_front (y ∷ []) v w l h = h
short_front (y ∷ z ∷ ys) v w l h = absurd (omega arith)

pub parted : (xs ys : List ℕ) (v w : ℕ) → length xs < 2 → length ys < 2 → IsPrefix (xs ++ ys) (v ∷ w ∷ [])
    → IsPrefix xs (v ∷ []) × IsPrefix ys (slice_index (v ∷ w ∷ []) (length xs) ∷ [])
parted [] ys v w l m h = (tt, short_front ys v w m h)
parted (x ∷ []) ys v w l m h = ((h.0, tt), h.1)
parted (x ∷ z ∷ xs) ys v w l m h = absurd (omega arith)

operand_short : (p : Operand) → length (operand_row p).extension < 2
operand_short p = grind arith

source_short : (s : Src) → length (source_row s).extension < 2
source_short s = grind (arith, operand_short)

destination_short : (d : Dst) → length (destination_row d).extension < 2
destination_short d = grind arith

-- the words after the first one, of an instruction of two operands
pub two_words : (i : Instr) (w0 w1 w2 : ℕ) (t : IsTwoOperand i w0) → IsPrefix (encoding i) (w0 ∷ w1 ∷ w2 ∷ [])
    → IsPrefix (source_row t.src).extension (w1 ∷ [])
    × IsPrefix (destination_row t.dst).extension (slice_index (w1 ∷ w2 ∷ []) (length (source_row t.src).extension) ∷ [])
two_words i w0 w1 w2 t h =
    let P : Instr → Type 0 = λ j. IsPrefix (encoding j) (w0 ∷ w1 ∷ w2 ∷ []) in
    let all = subst P t.is h in
    parted (source_row t.src).extension (destination_row t.dst).extension w1 w2 (source_short t.src) (destination_short t.dst) all.1

pub same_width : (v w : Width) → byte_bit v ≡ byte_bit w → v ≡ w
same_width v w e = grind arith

-- the fields of a first word of one operand
one_parts : (f b m r w : ℕ) → b < 2 → m < 4 → r < 16 → f * 0x80 + b * 0x40 + m * 0x10 + r ≡ w
    → (w / 0x80 ≡ f) × (b ≡ w / 0x40 % 2) × (m ≡ w / 0x10 % 4) × (r ≡ w % 16)
one_parts f b m r w hb hm hr e = (omega arith, omega arith, omega arith, omega arith)

abbrev pub IsOneOperand : Instr → ℕ → Type 0
IsOneOperand (One (one.Rrc w p)) v = (v / 0x80 ≡ 0x20) × (byte_bit w ≡ v / 0x40 % 2) × HasFields (operand_row p) (v / 0x10 % 4) (v % 16)
IsOneOperand (One (one.Swpb p)) v = (v / 0x80 ≡ 0x21) × (0 ≡ v / 0x40 % 2) × HasFields (operand_row p) (v / 0x10 % 4) (v % 16)
IsOneOperand (One (one.Rra w p)) v = (v / 0x80 ≡ 0x22) × (byte_bit w ≡ v / 0x40 % 2) × HasFields (operand_row p) (v / 0x10 % 4) (v % 16)
IsOneOperand (One (one.Sxt p)) v = (v / 0x80 ≡ 0x23) × (0 ≡ v / 0x40 % 2) × HasFields (operand_row p) (v / 0x10 % 4) (v % 16)
IsOneOperand (One (one.Push w s)) v = (v / 0x80 ≡ 0x24) × (byte_bit w ≡ v / 0x40 % 2) × HasFields (source_row s) (v / 0x10 % 4) (v % 16)
IsOneOperand (One (one.Call s)) v = (v / 0x80 ≡ 0x25) × (0 ≡ v / 0x40 % 2) × HasFields (source_row s) (v / 0x10 % 4) (v % 16)
IsOneOperand Reti v = v ≡ 0x1300
IsOneOperand (Jump c o) v = ⊥
IsOneOperand (Two op w s d) v = ⊥

two_high : (op : TwoOp) → 4 ≤ opcode op
two_high op = grind arith

pub one_fields : (i : Instr) (w0 : ℕ) → w0 < 0x2000 → IsInstruction i → first_word i ≡ w0 → IsOneOperand i w0
one_fields (Two op w s d) v h fits e = let b = two_high op in absurd (omega arith)
one_fields (One (one.Rrc w p)) v h fits e = let b = operand_below p in
    let f = one_parts 0x20 (byte_bit w) (operand_row p).mode (operand_row p).register v (byte_below w) b.0 b.1 e in (f.0, f.1, (f.2, f.3))
one_fields (One (one.Swpb p)) v h fits e = let b = operand_below p in
    let f = one_parts 0x21 0 (operand_row p).mode (operand_row p).register v (omega arith) b.0 b.1 (omega arith) in (f.0, f.1, (f.2, f.3))
one_fields (One (one.Rra w p)) v h fits e = let b = operand_below p in
    let f = one_parts 0x22 (byte_bit w) (operand_row p).mode (operand_row p).register v (byte_below w) b.0 b.1 e in (f.0, f.1, (f.2, f.3))
one_fields (One (one.Sxt p)) v h fits e = let b = operand_below p in
    let f = one_parts 0x23 0 (operand_row p).mode (operand_row p).register v (omega arith) b.0 b.1 (omega arith) in (f.0, f.1, (f.2, f.3))
one_fields (One (one.Push w s)) v h fits e = let b = source_below s in
    let f = one_parts 0x24 (byte_bit w) (source_row s).mode (source_row s).register v (byte_below w) b.0 b.1 e in (f.0, f.1, (f.2, f.3))
one_fields (One (one.Call s)) v h fits e = let b = source_below s in
    let f = one_parts 0x25 0 (source_row s).mode (source_row s).register v (omega arith) b.0 b.1 (omega arith) in (f.0, f.1, (f.2, f.3))
one_fields (Jump c o) v h fits e = absurd (omega arith)
one_fields Reti v h fits e = sym e

pub jump_range : (i : Instr) (w : ℕ) → IsInstruction i → first_word i ≡ w → 0x2000 ≤ w → w < 0x4000 → encoding i ≡ w ∷ []
jump_range (Two op w s d) v fits e l h = let b = two_high op in absurd (omega arith)
jump_range (One (one.Rrc w p)) v fits e l h = let b = operand_below p in let c = byte_below w in absurd (omega arith)
jump_range (One (one.Swpb p)) v fits e l h = let b = operand_below p in absurd (omega arith)
jump_range (One (one.Rra w p)) v fits e l h = let b = operand_below p in let c = byte_below w in absurd (omega arith)
jump_range (One (one.Sxt p)) v fits e l h = let b = operand_below p in absurd (omega arith)
jump_range (One (one.Push w s)) v fits e l h = let b = source_below s in let c = byte_below w in absurd (omega arith)
jump_range (One (one.Call s)) v fits e l h = let b = source_below s in absurd (omega arith)
jump_range (Jump c o) v fits e l h = ap (λ x. x ∷ []) e
jump_range Reti v fits e l h = absurd (omega arith)

-- no instruction begins below 0x1000
pub first_low : (i : Instr) → IsInstruction i → 0x1000 ≤ first_word i
first_low (Two op w s d) fits = let b = two_high op in omega arith
first_low (One (one.Rrc w p)) fits = omega arith
first_low (One (one.Swpb p)) fits = omega arith
first_low (One (one.Rra w p)) fits = omega arith
first_low (One (one.Sxt p)) fits = omega arith
first_low (One (one.Push w s)) fits = omega arith
first_low (One (one.Call s)) fits = omega arith
first_low (Jump c o) fits = omega arith
first_low Reti fits = omega arith

-- the same instruction with zeros for the words that follow
blank_operand : Operand → Operand
blank_operand (operand.Reg r) = operand.Reg r
blank_operand (operand.Indexed b x) = operand.Indexed b 0
blank_operand (operand.Symbolic x) = operand.Symbolic 0
blank_operand (operand.Absolute x) = operand.Absolute 0
blank_operand (operand.Indirect p) = operand.Indirect p
blank_operand (operand.Increment b) = operand.Increment b

blank_source : Src → Src
blank_source (src.Operand p) = src.Operand (blank_operand p)
blank_source (src.Immediate n) = src.Immediate 0
blank_source (src.Constant k) = src.Constant k

blank_destination : Dst → Dst
blank_destination (dst.Reg r) = dst.Reg r
blank_destination (dst.Indexed b x) = dst.Indexed b 0
blank_destination (dst.Symbolic x) = dst.Symbolic 0
blank_destination (dst.Absolute x) = dst.Absolute 0

blank : Instr → Instr
blank (Two op w s d) = Two op w (blank_source s) (blank_destination d)
blank (One (one.Rrc w p)) = One (one.Rrc w (blank_operand p))
blank (One (one.Swpb p)) = One (one.Swpb (blank_operand p))
blank (One (one.Rra w p)) = One (one.Rra w (blank_operand p))
blank (One (one.Sxt p)) = One (one.Sxt (blank_operand p))
blank (One (one.Push w s)) = One (one.Push w (blank_source s))
blank (One (one.Call s)) = One (one.Call (blank_source s))
blank (Jump c o) = Jump c o
blank Reti = Reti

-- two rows that differ in the word alone, which is 0 in the second
pub record IsBlanked (r b : Row) : Type 0 where
  pub mode : r.mode ≡ b.mode
  pub register : r.register ≡ b.register
  pub len : length r.extension ≡ length b.extension
  pub zero_after : (b.extension ≡ []) ⊎ (b.extension ≡ 0 ∷ [])

blanked_operand : (p : Operand) → IsBlanked (operand_row p) (operand_row (blank_operand p))
unfolding blank_operand
blanked_operand (operand.Reg r) = record { mode = refl; register = refl; len = refl; zero_after = inl refl }
blanked_operand (operand.Indexed b x) = record { mode = refl; register = refl; len = refl; zero_after = inr refl }
blanked_operand (operand.Symbolic x) = record { mode = refl; register = refl; len = refl; zero_after = inr refl }
blanked_operand (operand.Absolute x) = record { mode = refl; register = refl; len = refl; zero_after = inr refl }
blanked_operand (operand.Indirect p) = record { mode = refl; register = refl; len = refl; zero_after = inl refl }
blanked_operand (operand.Increment b) = record { mode = refl; register = refl; len = refl; zero_after = inl refl }

blanked_source : (s : Src) → IsBlanked (source_row s) (source_row (blank_source s))
unfolding blank_source
blanked_source (src.Operand p) = blanked_operand p
blanked_source (src.Immediate n) = record { mode = refl; register = refl; len = refl; zero_after = inr refl }
blanked_source (src.Constant konst.Zero) = record { mode = refl; register = refl; len = refl; zero_after = inl refl }
blanked_source (src.Constant konst.One) = record { mode = refl; register = refl; len = refl; zero_after = inl refl }
blanked_source (src.Constant konst.Two) = record { mode = refl; register = refl; len = refl; zero_after = inl refl }
blanked_source (src.Constant konst.Four) = record { mode = refl; register = refl; len = refl; zero_after = inl refl }
blanked_source (src.Constant konst.Eight) = record { mode = refl; register = refl; len = refl; zero_after = inl refl }
blanked_source (src.Constant konst.MinusOne) = record { mode = refl; register = refl; len = refl; zero_after = inl refl }

blanked_destination : (d : Dst) → IsBlanked (destination_row d) (destination_row (blank_destination d))
unfolding blank_destination
blanked_destination (dst.Reg r) = record { mode = refl; register = refl; len = refl; zero_after = inl refl }
blanked_destination (dst.Indexed b x) = record { mode = refl; register = refl; len = refl; zero_after = inr refl }
blanked_destination (dst.Symbolic x) = record { mode = refl; register = refl; len = refl; zero_after = inr refl }
blanked_destination (dst.Absolute x) = record { mode = refl; register = refl; len = refl; zero_after = inr refl }

-- j has the words of i, with zeros behind the first
pub record IsBlankOf (i j : Instr) : Type 0 where
  pub fits : IsInstruction j
  pub front : IsPrefix (encoding j) (first_word i ∷ 0 ∷ 0 ∷ [])
  pub len : length (encoding j) ≡ length (encoding i)

zeros_front : (xs : List ℕ) → (xs ≡ []) ⊎ (xs ≡ 0 ∷ []) → IsPrefix xs (0 ∷ 0 ∷ [])
zeros_front [] h = tt
zeros_front (x ∷ xs) h = elim h [ inl e ↦ cc | inr e ↦ let P : List ℕ → Type 0 = λ l. IsPrefix l (0 ∷ 0 ∷ []) in subst P (sym e) (refl, tt) ]

two_zeros : (xs ys : List ℕ) → (xs ≡ []) ⊎ (xs ≡ 0 ∷ []) → (ys ≡ []) ⊎ (ys ≡ 0 ∷ []) → IsPrefix (xs ++ ys) (0 ∷ 0 ∷ [])
two_zeros xs ys h g = elim h [
  | inl e ↦ rw e (zeros_front ys g)
  | inr e ↦ rw e (refl, elim g [ inl f ↦ rw f tt | inr f ↦ rw f (refl, tt) ])
]

one_blank : (f : ℕ) (w : Width) (r b : Row) → IsBlanked r b
    → IsPrefix (one_encoding f w b) (slice_index (one_encoding f w r) 0 ∷ 0 ∷ 0 ∷ []) × (length (one_encoding f w b) ≡ length (one_encoding f w r))
one_blank f w r b h = let m = h.mode in let n = h.register in let l = h.len in ((cc, zeros_front b.extension h.zero_after), cc)

two_blank : (op : ℕ) (w : Width) (r b s d : Row) → IsBlanked r b → IsBlanked s d
    → IsPrefix (two_encoding op w b d) (slice_index (two_encoding op w r s) 0 ∷ 0 ∷ 0 ∷ []) × (length (two_encoding op w b d) ≡ length (two_encoding op w r s))
two_blank op w r b s d h g =
    let m = h.mode in let n = h.register in let l = h.len in
    let p = g.mode in let q = g.register in let k = g.len in (
      (cc, two_zeros b.extension d.extension h.zero_after g.zero_after),
      omega (arith, length-append b.extension d.extension, length-append r.extension s.extension),
    )

blank_is : (i : Instr) → IsInstruction i → IsBlankOf i (blank i)
unfolding blank
blank_is (Two op w s d) fits = let t = two_blank (opcode op) w _ _ _ _ (blanked_source s) (blanked_destination d) in
    record { fits = tt; front = t.0; len = t.1 }
blank_is (One (one.Rrc w p)) fits = let t = one_blank 0x1000 w _ _ (blanked_operand p) in record { fits = tt; front = t.0; len = t.1 }
blank_is (One (one.Swpb p)) fits = let t = one_blank 0x1080 Word _ _ (blanked_operand p) in record { fits = tt; front = t.0; len = t.1 }
blank_is (One (one.Rra w p)) fits = let t = one_blank 0x1100 w _ _ (blanked_operand p) in record { fits = tt; front = t.0; len = t.1 }
blank_is (One (one.Sxt p)) fits = let t = one_blank 0x1180 Word _ _ (blanked_operand p) in record { fits = tt; front = t.0; len = t.1 }
blank_is (One (one.Push w s)) fits = let t = one_blank 0x1200 w _ _ (blanked_source s) in record { fits = tt; front = t.0; len = t.1 }
blank_is (One (one.Call s)) fits = let t = one_blank 0x1280 Word _ _ (blanked_source s) in record { fits = tt; front = t.0; len = t.1 }
blank_is (Jump c o) fits = record { fits = fits; front = (refl, tt); len = refl }
blank_is Reti fits = record { fits = tt; front = (refl, tt); len = refl }

-- each instruction is one of a blank form with its fields filled in
pub blank_of : (i : Instr) → IsInstruction i → (j : Instr) × IsBlankOf i j
blank_of i fits = (blank i, blank_is i fits)

-- a jump with the fields of this first word
pub record IsJump (i : Instr) (w0 : ℕ) : Type 0 where
  pub condition : Condition
  pub offset : ℕ
  pub is : i ≡ Jump condition offset
  pub condition_is : condition_number condition ≡ w0 / 0x400 % 8
  pub offset_is : offset ≡ w0 % 0x400

pub jump_fields : (i : Instr) (v : ℕ) → IsInstruction i → first_word i ≡ v → 0x2000 ≤ v → v < 0x4000 → IsJump i v
jump_fields (Two op w s d) v fits e l h = let b = two_high op in absurd (omega arith)
jump_fields (One (one.Rrc w p)) v fits e l h = let b = operand_below p in let c = byte_below w in absurd (omega arith)
jump_fields (One (one.Swpb p)) v fits e l h = let b = operand_below p in absurd (omega arith)
jump_fields (One (one.Rra w p)) v fits e l h = let b = operand_below p in let c = byte_below w in absurd (omega arith)
jump_fields (One (one.Sxt p)) v fits e l h = let b = operand_below p in absurd (omega arith)
jump_fields (One (one.Push w s)) v fits e l h = let b = source_below s in let c = byte_below w in absurd (omega arith)
jump_fields (One (one.Call s)) v fits e l h = let b = source_below s in absurd (omega arith)
jump_fields (Jump c o) v fits e l h = let b = condition_below c in
    record { condition = c; offset = o; is = refl; condition_is = omega arith; offset_is = omega arith }
jump_fields Reti v fits e l h = absurd (omega arith)

-- an instruction has at most three words
pub length_below : (i : Instr) → length (encoding i) < 4
length_below (Two op w s d) = let a = source_short s in let b = destination_short d in
    omega (arith, length-append (source_row s).extension (destination_row d).extension)
length_below (One (one.Rrc w p)) = let a = operand_short p in omega arith
length_below (One (one.Swpb p)) = let a = operand_short p in omega arith
length_below (One (one.Rra w p)) = let a = operand_short p in omega arith
length_below (One (one.Sxt p)) = let a = operand_short p in omega arith
length_below (One (one.Push w s)) = let a = source_short s in omega arith
length_below (One (one.Call s)) = let a = source_short s in omega arith
length_below (Jump c o) = omega arith
length_below Reti = omega arith
