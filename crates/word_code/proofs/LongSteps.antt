-- What instructions make of longs in registers.
use Rattle.word_code.proofs.Names.{◌≡◌, ℕ, ◌+◌, ◌-◌, ◌%◌, ◌<◌, ◌≤◌, Bool, true, false, not, nat_le, nat_lt, [], ◌∷◌, ◌++◌, Some, refl, ap, ap₂, ◌∙◌, subst}
use Rattle.word_code.proofs.Names.{arith, not-not, bit, Flags, Core, Calculate, Constant, R4, R6, TwoOp, IsNotMov, Word, Runs, Source, source_operand}
use Rattle.word_code.proofs.Names.{source_cycles, source_bytes, to_register, flags_after, operated, writes_destination, instruction_of, Stands, forms_bytes}
use Rattle.word_code.proofs.Names.{PlainOperation, Add, Subtract, plain_instruction, WordState, rules_of}
use Rattle.std.specs.Prelude.{bit_xor}
use Rattle.array_versions.specs.msp_step.msp_isa.declared.instructions.TwoOp.TheVariants as op
use Rattle.array_versions.specs.msp_step.msp_isa.declared.operands.Konst.TheVariants as konst
use Rattle.array_versions.specs.Operations.{plain_long, all_bits, sign_word}
use Rattle.word_code.specs.Code.{high_instruction, long_calculation, borrow_mask, turn_bits, below_code, above_code, widen_code}
use Rattle.word_code.proofs.Stretches.{Setting, runs_on, so_runs, two_parts}
use Rattle.word_code.proofs.Registers.{Has, Holds, Flagged, IsCarry, line}
use Rattle.word_code.proofs.Follows.{stands_elsewhere}
use Rattle.word_code.proofs.Middles.{calculate, plain_needs}
use Rattle.word_code.proofs.LongWords.{Pair, pair, worth, pair_of, AreSmall, are_made, below_carry, above_carry, mask_value, turned_value, no_carry, sign_value}
use Rattle.word_code.proofs.LongSides.{HasPair, HasLongs}

-- an instruction that reads its destination and writes it
abbrev pub Writes : TwoOp → Type 0
Writes o = IsNotMov o × (writes_destination o ≡ true)

-- of each operation alike: the first clause makes it a proof by cases
high_needs : (o : PlainOperation) → Writes (high_instruction o)
high_needs Add = (tt, refl)
high_needs _ = (tt, refl)

-- the flags are these
abbrev pub AreFlags : Flags → Flags → Type 0
AreFlags f g = g ≡ f

module _ (z : Setting) where
  -- the one right behind the other
  abbrev pub Paired : TwoOp → TwoOp → Pair → Pair → Flags → ℕ → WordState → Core → Type 0
  Paired o p a b f pc w =
      let first = operated o Word a.low b.low f in
      let second = operated p Word a.high b.high (flags_after first.flags f) in
      Flagged z (HasPair (pair first.value second.value)) (AreFlags (flags_after second.flags (flags_after first.flags f))) pc w

  -- by the carry R6 becomes 65535 or 0
  mask_step : (c : Bool) (pc : ℕ) (a : Pair) (w : WordState) (t : Core) → a.high < 0x10000 → Stands z.code pc (borrow_mask ∷ [])
      → Flagged z (HasPair a) (IsCarry c) pc w t → Runs z.kept [] 1 t (Has z R6 (pc + 2) w (all_bits (not c)))
  mask_step c pc a w t l h i =
      line z (borrow_mask ∷ []) 1 (pc + 2) _ i.all.is (tt, tt) h ((tt, tt), tt) refl refl (omega (arith, i.all.is.at))
      (λ s. record { is = s; held = ap₂ (λ x f. (x + (0xFFFF - x) + bit f) % 0x10000) i.all.held.six i.flag ∙ mask_value c a.high l })

  -- the same with its bits turned
  turned_step : (c : Bool) (pc : ℕ) (a : Pair) (w : WordState) (t : Core) → a.high < 0x10000 → Stands z.code pc (borrow_mask ∷ turn_bits ∷ [])
      → Flagged z (HasPair a) (IsCarry c) pc w t → Runs z.kept [] 2 t (Has z R6 (pc + 4) w (all_bits c))
  turned_step c pc a w t l h i =
      line z (borrow_mask ∷ turn_bits ∷ []) 2 (pc + 4) _ i.all.is (tt, (tt, tt)) h ((tt, tt), ((tt, tt), tt)) refl refl (omega (arith, i.all.is.at))
      (λ s. record { is = s; held = ap₂ (λ x f. bit_xor ((x + (0xFFFF - x) + bit f) % 0x10000) 0xFFFF) i.all.held.six i.flag ∙ turned_value c a.high l })

  -- ---- an int becomes long

  pub widen_part : (pc y : ℕ) (w : WordState) (t : Core) → y < 0x10000 → Stands z.code pc widen_code → Has z R4 pc w y t
      → Runs z.kept [] 4 t (Holds z (HasPair (pair y (sign_word y))) (pc + forms_bytes widen_code) w)
  widen_part pc y w t l h i =
      let made : ℕ → ℕ = λ v. let x = (v + v + 0) % 0x10000 in
      bit_xor ((x + (0xFFFF - x) + bit (nat_le 0x10000 (v + v + 0))) % 0x10000) 0xFFFF in
      line z widen_code 4 (pc + 8) _ i.is (tt, (tt, (tt, (tt, tt)))) h ((tt, tt), ((tt, tt), ((tt, tt), ((tt, tt), tt)))) refl refl (omega (arith, i.is.at))
      (λ s. record { is = s; held = record { four = i.held; six = ap made i.held ∙ sign_value y l } })

  -- ---- two longs

  -- two sources that give the words of a long, within so many cycles each
  module _ (x y : Source) (c d : ℕ) (low : source_cycles to_register (source_operand x) ≤ c) (high : source_cycles to_register (source_operand y) ≤ d)
      (b : Pair) (w : WordState) where
    -- an operation on the low word
    low_step : (o : TwoOp) (pc : ℕ) (a : Pair) (t : Core) → Writes o → z.code.at pc ≡ Some (instruction_of (Calculate o x R4))
        → Holds z (HasLongs x y a b w.fram) pc w t
        → (let made = operated o Word a.low b.low t.flags in
        Runs z.kept [] c t
        (Flagged z (HasLongs x y (pair made.value a.high) b w.fram) (AreFlags (flags_after made.flags t.flags)) (pc + (2 + source_bytes x)) w))
    low_step o pc a t writes h i =
        let k = i.held in
        calculate z o x R4 c t true _ writes.0 writes.1 low (ap z.code.at i.is.at ∙ h)
        (record { needs = k.low.needs (rules_of z.kept) t; quiet = k.low.quiet t; still = k.low.still t; left = k.four; right = k.low.word t i.is.fram refl })
        (record {
          all = record {
            is = stands_elsewhere z pc (pc + (2 + source_bytes x)) w t _ i.is (omega (arith, i.is.at)) refl refl refl refl refl;
            held = record { four = refl; six = k.six; low = k.low; high = k.high };
          };
          flag = refl;
        })

    -- and one on the high word
    high_step : (o : TwoOp) (pc : ℕ) (a : Pair) (t : Core) → Writes o → z.code.at pc ≡ Some (instruction_of (Calculate o y R6))
        → Holds z (HasLongs x y a b w.fram) pc w t
        → (let made = operated o Word a.high b.high t.flags in
        Runs z.kept [] d t (Flagged z (HasPair (pair a.low made.value)) (AreFlags (flags_after made.flags t.flags)) (pc + (2 + source_bytes y)) w))
    high_step o pc a t writes h i =
        let k = i.held in
        calculate z o y R6 d t true _ writes.0 writes.1 high (ap z.code.at i.is.at ∙ h)
        (record {
          needs = k.high.needs (rules_of z.kept) t;
          quiet = k.high.quiet t;
          still = k.high.still t;
          left = k.six;
          right = k.high.word t i.is.fram
              refl;
        })
        (record {
          all = record {
            is = stands_elsewhere z pc (pc + (2 + source_bytes y)) w t _ i.is (omega (arith, i.is.at)) refl refl refl refl refl;
            held = record { four = k.four; six = refl };
          };
          flag = refl;
        })

    pair_step : (o p : TwoOp) (pc : ℕ) (a : Pair) (t : Core) → Writes o → Writes p
        → (let ms = Calculate o x R4 ∷ Calculate p y R6 ∷ [] in Stands z.code pc ms → Holds z (HasLongs x y a b w.fram) pc w t
        → Runs z.kept [] (c + d) t (Paired o p a b t.flags (pc + forms_bytes ms) w))
    pair_step o p pc a t wo wp h i =
        let ms = Calculate o x R4 ∷ Calculate p y R6 ∷ [] in
        let made = operated o Word a.low b.low t.flags in
        let mid = pc + (2 + source_bytes x) in
        let end : mid + (2 + source_bytes y) ≡ pc + forms_bytes ms = omega arith in
        let P : Core → Flags → Type 0 = λ s f. let second = operated p Word a.high b.high f in
        Runs z.kept [] d s (Flagged z (HasPair (pair made.value second.value)) (AreFlags (flags_after second.flags f)) (mid + (2 + source_bytes y)) w) in
        subst (λ n. Runs z.kept [] (c + d) t (Paired o p a b t.flags n w)) end
        (runs_on z (low_step o pc a t wo h.0 i) (λ s k.
        subst (P s) k.flag (high_step p mid (pair made.value a.high) s wp h.1.0 k.all)))

    -- an operation on two longs
    pub calculation_part : (o : PlainOperation) (pc : ℕ) (a : Pair) (t : Core) → AreSmall a → AreSmall b → Stands z.code pc (long_calculation o x y)
        → Holds z (HasLongs x y a b w.fram) pc w t
        → Runs z.kept [] (c + d) t (Holds z (HasPair (pair_of (plain_long o (worth a) (worth b)))) (pc + forms_bytes (long_calculation o x y)) w)
    calculation_part o pc a t la lb h i =
        let made = are_made o a b t.flags la lb in
        so_runs (pair_step (plain_instruction o) (high_instruction o) pc a t (plain_needs o) (high_needs o) h i)
        (λ s k. record { is = k.all.is; held = record { four = k.all.held.four ∙ made.low; six = k.all.held.six ∙ made.high } })

    -- ---- comparisons

    pub below_part : (pc : ℕ) (a : Pair) (t : Core) → AreSmall a → AreSmall b → Stands z.code pc (below_code x y)
        → Holds z (HasLongs x y a b w.fram) pc w t
        → Runs z.kept [] (c + d + 1) t (Has z R6 (pc + forms_bytes (below_code x y)) w (all_bits (nat_lt (worth a) (worth b))))
    below_part pc a t la lb h i =
        let first = long_calculation Subtract x y in
        let mid = pc + forms_bytes first in
        let less = nat_lt (worth a) (worth b) in
        let carry = nat_le 0x10000 (a.high + (0xFFFF - b.high) + bit (nat_le 0x10000 (a.low + (0xFFFF - b.low) + 1))) in
        let same : not carry ≡ less = ap not (below_carry a b la lb) ∙ not-not less in
        two_parts z first (borrow_mask ∷ []) pc (λ n. Has z R6 n w (all_bits less)) h
        (λ q. pair_step op.Sub op.Subc pc a t (tt, refl) (tt, refl) q i) (λ s q k.
        subst (λ l. Runs z.kept [] 1 s (Has z R6 (mid + 2) w (all_bits l))) same
        (mask_step carry mid _ w s (omega arith) q (record { all = k.all; flag = ap (λ (f : Flags). f.c) k.flag })))

    -- no carry
    clear_step : (pc : ℕ) (a : Pair) (t : Core) → (let ms = Calculate op.Bit (Constant konst.Zero) R4 ∷ [] in
        Stands z.code pc ms → Holds z (HasLongs x y a b w.fram) pc w t
        → Runs z.kept [] 1 t (Flagged z (HasLongs x y a b w.fram) (IsCarry false) (pc + forms_bytes ms) w))
    clear_step pc a t h i =
        line z (Calculate op.Bit (Constant konst.Zero) R4 ∷ []) 1 (pc + 2) _ i.is (tt, tt) h ((tt, tt), tt) refl refl (omega (arith, i.is.at))
        (λ s. record { all = record { is = s; held = i.held }; flag = no_carry (t.work 4) })

    pub above_part : (pc : ℕ) (a : Pair) (t : Core) → AreSmall a → AreSmall b → Stands z.code pc (above_code x y)
        → Holds z (HasLongs x y a b w.fram) pc w t
        → Runs z.kept [] (1 + (c + d + 2)) t (Has z R6 (pc + forms_bytes (above_code x y)) w (all_bits (nat_lt (worth b) (worth a))))
    above_part pc a t la lb h i =
        let less = nat_lt (worth b) (worth a) in
        let last = borrow_mask ∷ turn_bits ∷ [] in
        let both = Calculate op.Subc x R4 ∷ Calculate op.Subc y R6 ∷ [] in
        let clear = Calculate op.Bit (Constant konst.Zero) R4 ∷ [] in
        let pc' = pc + forms_bytes clear in
        let mid = pc' + forms_bytes both in
        two_parts z clear (both ++ last) pc (λ n. Has z R6 n w (all_bits less)) h (λ q. clear_step pc a t q i) (λ r q j.
        two_parts z both last pc' (λ n. Has z R6 n w (all_bits less)) q
        (λ q. pair_step op.Subc op.Subc pc' a r (tt, refl) (tt, refl) q j.all) (λ s q k.
        let carry : Bool → Bool = λ f. nat_le 0x10000 (a.high + (0xFFFF - b.high) + bit (nat_le 0x10000 (a.low + (0xFFFF - b.low) + bit f))) in
        let same : carry r.flags.c ≡ less = ap carry j.flag ∙ above_carry a b la lb in
        subst (λ l. Runs z.kept [] 2 s (Has z R6 (mid + 4) w (all_bits l))) same
        (turned_step (carry r.flags.c) mid _ w s (omega arith) q (record { all = k.all; flag = ap (λ (f : Flags). f.c) k.flag }))))
