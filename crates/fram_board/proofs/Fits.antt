-- From a state of any bus there is an instruction at an address, or a reason why there is none.
use Rattle.std.proofs.Common.{◌≡◌, ◌≤◌, ◌<◌, arith, ℕ, refl, sym, ◌∙◌, ap, subst, ◌⊎◌, inl, inr, List, [], ◌∷◌, ◌++◌, length, length-append, Option, Some}
use Rattle.std.proofs.Common.{None, slice_index}
use Rattle.std.proofs.lemmas.Bool.{cases_lt}
use Rattle.alp_words.specs.declared.Width.{Width}
use Rattle.alp_words.specs.declared.Width.TheVariants.{Word}
use Rattle.msp_isa.specs.declared.operands.Operand.{Operand}
use Rattle.msp_isa.specs.declared.operands.Operand.TheVariants as operand
use Rattle.msp_isa.specs.declared.operands.Src.{Src}
use Rattle.msp_isa.specs.declared.operands.Src.TheVariants as src
use Rattle.msp_isa.specs.declared.operands.Konst.TheVariants as konst
use Rattle.msp_isa.specs.declared.operands.Dst.{Dst}
use Rattle.msp_isa.specs.declared.operands.Dst.TheVariants as dst
use Rattle.msp_isa.specs.declared.instructions.TwoOp.{TwoOp}
use Rattle.msp_isa.specs.declared.instructions.OneOp.{OneOp}
use Rattle.msp_isa.specs.declared.instructions.OneOp.TheVariants.{Rrc, Swpb, Rra, Sxt, Push, Call}
use Rattle.msp_isa.specs.declared.instructions.Instr.{Instr}
use Rattle.msp_isa.specs.declared.instructions.Instr.TheVariants as instr
use Rattle.msp_isa.specs.Encoding.{Row, operand_row, source_row, destination_row, opcode, two_encoding, one_encoding, encoding, first_word, IsInstruction}
use Rattle.msp_isa.specs.Encoding.{IsIllegal, IsPrefix}
use Rattle.msp_step.proofs.msp_decode.Interface.{blank_of, same_instruction}
use Rattle.msp_step.specs.declared.machine.Stop.{Stop}
use Rattle.msp_step.specs.declared.machine.Stop.TheVariants as stop
use Rattle.msp_step.specs.Access.{BusModel}
use Rattle.msp_step.specs.Effect.{word_sum}
use Rattle.msp_step.specs.Step.{FetchedAt, IsNoInstruction, IsLongerThan, First, Second, Third}
use Rattle.msp_step.proofs.Interface.{fetched_at}
use Rattle.fram_board.proofs.Legal.{BeginsAt, legal_or_not}

-- a row with the same fields, whose extension, if any, is this word
pub record IsRefit (r q : Row) (x : ℕ) : Type 0 where
  pub mode : q.mode ≡ r.mode
  pub register : q.register ≡ r.register
  pub len : length q.extension ≡ length r.extension
  pub word : (q.extension ≡ []) ⊎ (q.extension ≡ x ∷ [])

refit_operand : (p : Operand) (x : ℕ) → (q : Operand) × IsRefit (operand_row p) (operand_row q) x
refit_operand (operand.Reg r) x = (operand.Reg r, record { mode = refl; register = refl; len = refl; word = inl refl })
refit_operand (operand.Indexed b y) x = (operand.Indexed b x, record { mode = refl; register = refl; len = refl; word = inr refl })
refit_operand (operand.Symbolic y) x = (operand.Symbolic x, record { mode = refl; register = refl; len = refl; word = inr refl })
refit_operand (operand.Absolute y) x = (operand.Absolute x, record { mode = refl; register = refl; len = refl; word = inr refl })
refit_operand (operand.Indirect p) x = (operand.Indirect p, record { mode = refl; register = refl; len = refl; word = inl refl })
refit_operand (operand.Increment b) x = (operand.Increment b, record { mode = refl; register = refl; len = refl; word = inl refl })

refit_source : (s : Src) (x : ℕ) → (q : Src) × IsRefit (source_row s) (source_row q) x
refit_source (src.Operand p) x = let q = refit_operand p x in (src.Operand q.0, q.1)
refit_source (src.Immediate y) x = (src.Immediate x, record { mode = refl; register = refl; len = refl; word = inr refl })
refit_source (src.Constant konst.Zero) x = (src.Constant konst.Zero, record { mode = refl; register = refl; len = refl; word = inl refl })
refit_source (src.Constant konst.One) x = (src.Constant konst.One, record { mode = refl; register = refl; len = refl; word = inl refl })
refit_source (src.Constant konst.Two) x = (src.Constant konst.Two, record { mode = refl; register = refl; len = refl; word = inl refl })
refit_source (src.Constant konst.Four) x = (src.Constant konst.Four, record { mode = refl; register = refl; len = refl; word = inl refl })
refit_source (src.Constant konst.Eight) x = (src.Constant konst.Eight, record { mode = refl; register = refl; len = refl; word = inl refl })
refit_source (src.Constant konst.MinusOne) x = (src.Constant konst.MinusOne, record { mode = refl; register = refl; len = refl; word = inl refl })

refit_destination : (d : Dst) (x : ℕ) → (q : Dst) × IsRefit (destination_row d) (destination_row q) x
refit_destination (dst.Reg r) x = (dst.Reg r, record { mode = refl; register = refl; len = refl; word = inl refl })
refit_destination (dst.Indexed b y) x = (dst.Indexed b x, record { mode = refl; register = refl; len = refl; word = inr refl })
refit_destination (dst.Symbolic y) x = (dst.Symbolic x, record { mode = refl; register = refl; len = refl; word = inr refl })
refit_destination (dst.Absolute y) x = (dst.Absolute x, record { mode = refl; register = refl; len = refl; word = inr refl })

-- i is j with the words u and v behind its first
pub record IsRefitOf (i j : Instr) (u v : ℕ) : Type 0 where
  pub is : IsInstruction i
  pub front : IsPrefix (encoding i) (first_word j ∷ u ∷ v ∷ [])
  pub len : length (encoding i) ≡ length (encoding j)

short_front : (xs : List ℕ) (u v : ℕ) → (xs ≡ []) ⊎ (xs ≡ u ∷ []) → IsPrefix xs (u ∷ v ∷ [])
short_front xs u v (inl e) = let P : List ℕ → Type 0 = λ l. IsPrefix l (u ∷ v ∷ []) in subst P (sym e) tt
short_front xs u v (inr e) = let P : List ℕ → Type 0 = λ l. IsPrefix l (u ∷ v ∷ []) in subst P (sym e) (refl, tt)

one_refit : (f : ℕ) (w : Width) (r q : Row) (u v : ℕ) → IsRefit r q u → IsPrefix (one_encoding f w q) (slice_index (one_encoding f w r) 0 ∷ u ∷ v ∷ [])
    × (length (one_encoding f w q) ≡ length (one_encoding f w r))
one_refit f w r q u v h = let m = h.mode in let n = h.register in let l = h.len in ((cc, short_front q.extension u v h.word), cc)

-- the destination's word stands behind the source's, if there is one
abbrev second_word : List ℕ → ℕ → ℕ → ℕ
second_word [] u v = u
second_word (x ∷ xs) u v = v

last_front : (xs : List ℕ) (u : ℕ) → (xs ≡ []) ⊎ (xs ≡ u ∷ []) → IsPrefix xs (u ∷ [])
last_front xs u (inl e) = let P : List ℕ → Type 0 = λ l. IsPrefix l (u ∷ []) in subst P (sym e) tt
last_front xs u (inr e) = let P : List ℕ → Type 0 = λ l. IsPrefix l (u ∷ []) in subst P (sym e) (refl, tt)

both_front : (xs ys : List ℕ) (u v : ℕ) → (xs ≡ []) ⊎ (xs ≡ u ∷ []) → (ys ≡ []) ⊎ (ys ≡ second_word xs u v ∷ []) → IsPrefix (xs ++ ys) (u ∷ v ∷ [])
both_front [] ys u v h g = short_front ys u v g
both_front (x ∷ xs) ys u v (inl e) g = cc
both_front (x ∷ xs) ys u v (inr e) g = let P : List ℕ → Type 0 = λ l. IsPrefix (l ++ ys) (u ∷ v ∷ []) in subst P (sym e) (refl, last_front ys v g)

two_refit : (op : ℕ) (w : Width) (r q s t : Row) (u v : ℕ) → IsRefit r q u → IsRefit s t (second_word q.extension u v)
    → IsPrefix (two_encoding op w q t) (slice_index (two_encoding op w r s) 0 ∷ u ∷ v ∷ []) × (length (two_encoding op w q t) ≡ length (two_encoding op w r s))
two_refit op w r q s t u v h g =
    let m = h.mode in let n = h.register in let l = h.len in
    let o = g.mode in let p = g.register in let k = g.len in
    ((cc, both_front q.extension t.extension u v h.word g.word), omega (arith, length-append q.extension t.extension, length-append r.extension s.extension))

fit_two : (op : TwoOp) (w : Width) (s : Src) (d : Dst) (u v : ℕ) → (i : Instr) × IsRefitOf i (instr.Two op w s d) u v
fit_two op w s d u v =
    let q = refit_source s u in
    let e = refit_destination d (second_word (source_row q.0).extension u v) in
    let t = two_refit (opcode op) w _ _ _ _ u v q.1 e.1 in
    (instr.Two op w q.0 e.0, record { is = tt; front = t.0; len = t.1 })

fit_one : (o : OneOp) (u v : ℕ) → (i : Instr) × IsRefitOf i (instr.One o) u v
fit_one (Rrc w p) u v = let q = refit_operand p u in let t = one_refit 0x1000 w _ _ u v q.1 in
    (instr.One (Rrc w q.0), record { is = tt; front = t.0; len = t.1 })
fit_one (Swpb p) u v = let q = refit_operand p u in let t = one_refit 0x1080 Word _ _ u v q.1 in
    (instr.One (Swpb q.0), record { is = tt; front = t.0; len = t.1 })
fit_one (Rra w p) u v = let q = refit_operand p u in let t = one_refit 0x1100 w _ _ u v q.1 in
    (instr.One (Rra w q.0), record { is = tt; front = t.0; len = t.1 })
fit_one (Sxt p) u v = let q = refit_operand p u in let t = one_refit 0x1180 Word _ _ u v q.1 in
    (instr.One (Sxt q.0), record { is = tt; front = t.0; len = t.1 })
fit_one (Push w s) u v = let q = refit_source s u in let t = one_refit 0x1200 w _ _ u v q.1 in
    (instr.One (Push w q.0), record { is = tt; front = t.0; len = t.1 })
fit_one (Call s) u v = let q = refit_source s u in let t = one_refit 0x1280 Word _ _ u v q.1 in
    (instr.One (Call q.0), record { is = tt; front = t.0; len = t.1 })

-- an instruction that begins like j, with these words behind
fit : (j : Instr) (u v : ℕ) → IsInstruction j → (i : Instr) × IsRefitOf i j u v
fit (instr.Two op w s d) u v is = fit_two op w s d u v
fit (instr.One o) u v is = fit_one o u v
fit (instr.Jump c o) u v is = (instr.Jump c o, record { is = is; front = (refl, tt); len = refl })
fit instr.Reti u v is = (instr.Reti, record { is = tt; front = (refl, tt); len = refl })

-- instructions that begin with one word are equally long
same_length : (i j : Instr) → IsInstruction i → IsInstruction j → first_word i ≡ first_word j → length (encoding i) ≡ length (encoding j)
same_length i j a b e =
    let x = blank_of i a in
    let y = blank_of j b in
    let P : ℕ → Type 0 = λ v. IsPrefix (encoding y.0) (v ∷ 0 ∷ 0 ∷ []) in
    let same : x.0 ≡ y.0 = same_instruction x.0 y.0 (first_word i) 0 0 x.1.fits y.1.fits x.1.front (subst P (sym e) y.1.front) in
    sym x.1.len ∙ ap (λ k. length (encoding k)) same ∙ y.1.len

longer : (n v : ℕ) (j : Instr) → BeginsAt v j → n < length (encoding j) → IsLongerThan n v
longer n v j h long = record {
  one = j;
  is = h.is;
  begins = h.begins;
  all = λ i is begins. let same = same_length i j is h.is (begins ∙ sym h.begins) in omega arith;
}

-- the instruction at an address, or why there is none
abbrev pub InstructionOrStop : {S : Type 0} → BusModel S → S → ℕ → Type 0
InstructionOrStop bus s pc = ((i : Instr) × IsInstruction i × FetchedAt bus s pc (encoding i)) ⊎ ((e : Stop) × IsNoInstruction bus s pc e)

fitted : {S : Type 0} (bus : BusModel S) (s : S) (pc v u w : ℕ) (j : Instr) → BeginsAt v j → bus.fetches s pc ≡ Some v
    → (1 < length (encoding j) → bus.fetches s (word_sum pc 2) ≡ Some u) → (2 < length (encoding j) → bus.fetches s (word_sum (word_sum pc 2) 2) ≡ Some w)
    → InstructionOrStop bus s pc
fitted bus s pc v u w j h first second third =
    let i = fit j u w h.is in
    let P : ℕ → Type 0 = λ x. IsPrefix (encoding i.0) (x ∷ u ∷ w ∷ []) in
    let len = i.1.len in
    inl (i.0, i.1.is, fetched_at bus s pc (encoding i.0) v u w (subst P h.begins i.1.front) first (λ l. second (omega arith)) (λ l. third (omega arith)))

at_third : {S : Type 0} (bus : BusModel S) (s : S) (pc v u : ℕ) (j : Instr) → BeginsAt v j → bus.fetches s pc ≡ Some v → bus.fetches s (word_sum pc 2) ≡ Some u
    → 2 < length (encoding j) → (o : Option ℕ) → bus.fetches s (word_sum (word_sum pc 2) 2) ≡ o → InstructionOrStop bus s pc
at_third bus s pc v u j h first second long None e = inr (stop.Bus pc (word_sum (word_sum pc 2) 2), (refl, Third v u first (longer 2 v j h long) second e))
at_third bus s pc v u j h first second long (Some w) e = fitted bus s pc v u w j h first (λ l. second) (λ l. e)

has_third : {S : Type 0} (bus : BusModel S) (s : S) (pc v u : ℕ) (j : Instr) → BeginsAt v j → bus.fetches s pc ≡ Some v → bus.fetches s (word_sum pc 2) ≡ Some u
    → (2 < length (encoding j)) ⊎ (length (encoding j) ≤ 2) → InstructionOrStop bus s pc
has_third bus s pc v u j h first second (inl long) = at_third bus s pc v u j h first second long (bus.fetches s (word_sum (word_sum pc 2) 2)) refl
has_third bus s pc v u j h first second (inr short) = fitted bus s pc v u 0 j h first (λ l. second) (λ l. absurd (omega arith))

at_second : {S : Type 0} (bus : BusModel S) (s : S) (pc v : ℕ) (j : Instr) → BeginsAt v j → bus.fetches s pc ≡ Some v
    → 1 < length (encoding j) → (o : Option ℕ) → bus.fetches s (word_sum pc 2) ≡ o → InstructionOrStop bus s pc
at_second bus s pc v j h first long None e = inr (stop.Bus pc (word_sum pc 2), (refl, Second v first (longer 1 v j h long) e))
at_second bus s pc v j h first long (Some u) e = has_third bus s pc v u j h first e (cases_lt 2 (length (encoding j)))

has_second : {S : Type 0} (bus : BusModel S) (s : S) (pc v : ℕ) (j : Instr) → BeginsAt v j → bus.fetches s pc ≡ Some v
    → (1 < length (encoding j)) ⊎ (length (encoding j) ≤ 1) → InstructionOrStop bus s pc
has_second bus s pc v j h first (inl long) = at_second bus s pc v j h first long (bus.fetches s (word_sum pc 2)) refl
has_second bus s pc v j h first (inr short) = fitted bus s pc v 0 0 j h first (λ l. absurd (omega arith)) (λ l. absurd (omega arith))

begins_or_not : {S : Type 0} (bus : BusModel S) (s : S) (pc v : ℕ) → bus.fetches s pc ≡ Some v → ((j : Instr) × BeginsAt v j) ⊎ IsIllegal v
    → InstructionOrStop bus s pc
begins_or_not bus s pc v first (inl j) = has_second bus s pc v j.0 j.1 first (cases_lt 1 (length (encoding j.0)))
begins_or_not bus s pc v first (inr bad) = inr (stop.Illegal pc v, (refl, first, bad))

at_first : {S : Type 0} (bus : BusModel S) (s : S) (pc : ℕ) → (o : Option ℕ) → bus.fetches s pc ≡ o → InstructionOrStop bus s pc
at_first bus s pc None e = inr (stop.Bus pc pc, (refl, First e))
at_first bus s pc (Some v) e = begins_or_not bus s pc v e (legal_or_not v)

pub instruction_or_stop : {S : Type 0} (bus : BusModel S) (s : S) (pc : ℕ) → InstructionOrStop bus s pc
instruction_or_stop bus s pc = at_first bus s pc (bus.fetches s pc) refl
