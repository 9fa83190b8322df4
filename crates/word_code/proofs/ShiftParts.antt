-- Shifts by a count.
use Rattle.word_code.proofs.Names.{◌≡◌, ℕ, zero, suc, ◌+◌, ◌-◌, ◌*◌, ◌/◌, ◌%◌, ◌^◌, ◌<◌, ◌≤◌, ◌==◌, not, List, [], ◌∷◌, ◌++◌, Some, refl, sym, ap, ◌∙◌, subst}
use Rattle.word_code.proofs.Names.{arith, Bool, true, false, nat_lt, nat_le, ltb-true, if◌then◌else◌, bit_and, bit_xor, eqb-true, nat_tests, and_mask}
use Rattle.word_code.proofs.Names.{mul-mod_first, pow-add, bit, arithmetic_shift, R4, Core, Register, Number, Constant, ToRegister, Form, Move, Calculate}
use Rattle.word_code.proofs.Names.{Modify, instruction_of, form_bytes, Stands, forms_bytes, Runs, stands_front, stands_back, ShiftOperation, Left, Right}
use Rattle.word_code.proofs.Names.{SignedRight, shifted_word, shift_word, WordState, repeated, right_code, shift_by, last_bit, shift_code, shift_middle}
use Rattle.std.proofs.Math.Nat.{div-div-eq-div-mul}
use Rattle.std.proofs.lemmas.Grind.{and_high_numeral}
use Rattle.array_versions.specs.alp_words.Words.{swapped as swap}
use Rattle.array_versions.specs.msp_step.msp_isa.declared.instructions.TwoOp.TheVariants as op
use Rattle.array_versions.specs.msp_step.msp_isa.declared.operands.Konst.TheVariants as konst
use Rattle.code_forms.specs.instruction_forms.declared.kinds.Modification.TheVariants as change
use Rattle.word_code.proofs.Registers.{Has, line}
use Rattle.word_code.proofs.Products.{no_bits}
use Rattle.word_code.proofs.Stretches.{Setting, runs_on, dearer, nothing_run}

-- a shift, its count first
abbrev shift_of : ShiftOperation → ℕ → ℕ → ℕ
shift_of d k v = shifted_word d v k

-- one place to the right, with the sign
abbrev half_signed : ℕ → ℕ
half_signed y = y / 2 + 0x8000 * bit (nat_le 0x8000 y)

abbrev double : ℕ → ℕ
double y = (y + y) % 0x10000

abbrev times : ℕ → (ℕ → ℕ) → ℕ → ℕ
times zero g y = y
times (suc k) g y = times k g (g y)

power : (k : ℕ) → 2 ^ suc k ≡ 2 * 2 ^ k
power k = grind arith

doubled : (k y : ℕ) → y < 0x10000 → times k double y ≡ (y * 2 ^ k) % 0x10000
doubled zero y h = omega arith
doubled (suc k) y h =
    let p = 2 ^ k in
    let e : (y + y) * p ≡ y * (2 * p) = omega arith in
    doubled k (double y) (omega arith) ∙ mul-mod_first (y + y) p 0x10000 ∙ ap (λ n. n % 0x10000) (e ∙ ap (λ n. y * n) (sym (power k)))

le_false : (y : ℕ) → y < 0x8000 → nat_le 0x8000 y ≡ false
le_false y h = grind (arith, nat_tests)

le_true : (y : ℕ) → 0x8000 ≤ y → nat_le 0x8000 y ≡ true
le_true y h = grind (arith, nat_tests)

half_plain : (y : ℕ) → y < 0x8000 → half_signed y ≡ y / 2
half_plain y h = ap (λ b. y / 2 + 0x8000 * bit b) (le_false y h) ∙ omega arith

half_negative : (c : ℕ) → c < 0x8000 → half_signed (0xFFFF - c) ≡ 0xFFFF - c / 2
half_negative c h = ap (λ b. (0xFFFF - c) / 2 + 0x8000 * bit b) (le_true (0xFFFF - c) (omega arith)) ∙ omega arith

halved_twice : (k y : ℕ) → y / 2 / 2 ^ k ≡ y / 2 ^ suc k
halved_twice k y = div-div-eq-div-mul y 2 (2 ^ k) ∙ ap (λ n. y / n) (sym (power k))

halved_plain : (k y : ℕ) → y < 0x8000 → times k half_signed y ≡ y / 2 ^ k
halved_plain zero y h = omega arith
halved_plain (suc k) y h = ap (times k half_signed) (half_plain y h) ∙ halved_plain k (y / 2) (omega arith) ∙ halved_twice k y

halved_negative : (k c : ℕ) → c < 0x8000 → times k half_signed (0xFFFF - c) ≡ 0xFFFF - c / 2 ^ k
halved_negative zero c h = omega arith
halved_negative (suc k) c h = ap (times k half_signed) (half_negative c h) ∙ halved_negative k (c / 2) (omega arith) ∙ ap (λ n. 0xFFFF - n) (halved_twice k c)

signed_by : (b : Bool) (k y : ℕ) → y < 0x10000 → nat_le 0x8000 y ≡ b → times k half_signed y ≡ (if b then 0xFFFF - (0xFFFF - y) / 2 ^ k else y / 2 ^ k)
signed_by true k y h e =
    let l : 0x8000 ≤ y = grind (arith, nat_tests) in
    let q : 0xFFFF - (0xFFFF - y) ≡ y = omega arith in
    ap (times k half_signed) (sym q) ∙ halved_negative k (0xFFFF - y) (omega arith)
signed_by false k y h e = let l : y < 0x8000 = grind (arith, nat_tests) in halved_plain k y l

halved_signed : (k y : ℕ) → y < 0x10000 → times k half_signed y ≡ arithmetic_shift y k
halved_signed k y h = signed_by (nat_le 0x8000 y) k y h refl

power_add : (j : ℕ) → 2 ^ (8 + j) ≡ 256 * 2 ^ j
power_add j = pow-add 2 8 j

pub high_byte : (v : ℕ) → v < 0x10000 → bit_and (swap v) 0xFF00 ≡ (v * 256) % 0x10000
high_byte v h =
    let e = and_high_numeral (swap v) 0xFEFF refl (omega arith) in
    omega (arith, e)

pub low_byte : (v : ℕ) → v < 0x10000 → bit_and (swap v) 0xFF ≡ v / 256
low_byte v h = and_mask (swap v) 8 ∙ omega arith

raised_big : (j v : ℕ) → v < 0x10000 → times j double ((v * 256) % 0x10000) ≡ (v * 2 ^ (8 + j)) % 0x10000
raised_big j v h =
    let p = 2 ^ j in
    let e : v * 256 * p ≡ v * (256 * p) = omega arith in
    doubled j ((v * 256) % 0x10000) (omega arith) ∙ mul-mod_first (v * 256) p 0x10000 ∙ ap (λ n. n % 0x10000) (e ∙ ap (λ n. v * n) (sym (power_add j)))

lowered_big : (j v : ℕ) → v < 0x10000 → times j half_signed (v / 256) ≡ v / 2 ^ (8 + j)
lowered_big j v h = halved_plain j (v / 256) (omega arith) ∙ div-div-eq-div-mul v 256 (2 ^ j) ∙ ap (λ n. v / n) (sym (power_add j))

-- the sign extended into the high byte
abbrev sign : ℕ → ℕ
sign d = d % 0x100 + (if nat_le 0x80 (d % 0x100) then 0xFF00 else 0)

sign_by : (b : Bool) (j v : ℕ) → v < 0x10000 → nat_le 0x8000 v ≡ b → times j half_signed (sign (swap v))
    ≡ (if b then 0xFFFF - (0xFFFF - v) / 2 ^ (8 + j) else v / 2 ^ (8 + j))
sign_by true j v h e =
    let l : 0x8000 ≤ v = grind (arith, nat_tests) in
    let t : nat_le 0x80 (swap v % 0x100) ≡ true = grind (arith, nat_tests) in
    let q : swap v % 0x100 + 0xFF00 ≡ 0xFFFF - (0xFFFF - v) / 256 = omega arith in
    ap (λ b. times j half_signed (swap v % 0x100 + (if b then 0xFF00 else 0))) t ∙ ap (times j half_signed) q
    ∙ halved_negative j ((0xFFFF - v) / 256) (omega arith)
    ∙ ap (λ n. 0xFFFF - n) (div-div-eq-div-mul (0xFFFF - v) 256 (2 ^ j) ∙ ap (λ n. (0xFFFF - v) / n) (sym (power_add j)))
sign_by false j v h e =
    let l : v < 0x8000 = grind (arith, nat_tests) in
    let t : nat_le 0x80 (swap v % 0x100) ≡ false = grind (arith, nat_tests) in
    let q : swap v % 0x100 + 0 ≡ v / 256 = omega arith in
    ap (λ b. times j half_signed (swap v % 0x100 + (if b then 0xFF00 else 0))) t ∙ ap (times j half_signed) q ∙ lowered_big j v h

signed_big : (j v : ℕ) → v < 0x10000 → times j half_signed (sign (swap v)) ≡ arithmetic_shift v (8 + j)
signed_big j v h = sign_by (nat_le 0x8000 v) j v h refl

-- the lowest bit alone, at the top
low_bit : (y : ℕ) → 0 / 2 + 0x8000 * bit ((y % 2) == 1) ≡ (y * 2 ^ 15) % 0x10000
low_bit y = by ((y % 2) == 1) refl
  where
    by : (b : Bool) → ((y % 2) == 1) ≡ b → 0 / 2 + 0x8000 * bit b ≡ (y * 2 ^ 15) % 0x10000
    by true e = let q : y % 2 ≡ 1 = eqb-true (y % 2) 1 e in omega arith
    by false e = let q : y % 2 ≡ 0 = grind (arith, nat_tests) in omega arith

-- the top bit alone, at the bottom
top_bit : (y : ℕ) → y < 0x10000 → bit (nat_le 0x10000 (y + y)) ≡ y / 2 ^ 15
top_bit y h = by (nat_le 0x10000 (y + y)) refl
  where
    by : (b : Bool) → nat_le 0x10000 (y + y) ≡ b → bit b ≡ y / 2 ^ 15
    by true e = let q : 0x10000 ≤ y + y = grind (arith, nat_tests) in omega arith
    by false e = let q : y + y < 0x10000 = grind (arith, nat_tests) in omega arith

top_alone : (y : ℕ) → y < 0x10000 → (0 + 0 + bit (nat_le 0x10000 (y + y + 0))) % 0x10000 ≡ y / 2 ^ 15
top_alone y h =
    let none : y + y + 0 ≡ y + y = omega arith in
    let small : y / 2 ^ 15 < 0x10000 = omega arith in
    ap (λ n. (0 + 0 + bit (nat_le 0x10000 n)) % 0x10000) none ∙ ap (λ n. (0 + 0 + n) % 0x10000) (top_bit y h) ∙ omega (arith, small)

-- as many of it as a word has
abbrev turned_bits : ℕ → ℕ → Bool → ℕ
turned_bits d s carry = bit_xor ((d + (0xFFFF - s) + bit carry) % 0x10000) 0xFFFF

sign_bits : (y : ℕ) → y < 0x10000 → bit_xor ((0xFFFF + bit (nat_le 0x10000 (y + y))) % 0x10000) 0xFFFF ≡ arithmetic_shift y 15
sign_bits y h = by (nat_le 0x10000 (y + y)) refl
  where
    by : (b : Bool) → nat_le 0x10000 (y + y) ≡ b → bit_xor ((0xFFFF + bit b) % 0x10000) 0xFFFF ≡ arithmetic_shift y 15
    by true e =
        let q : 0x10000 ≤ y + y = grind (arith, nat_tests) in
        sym (ap (λ b. if b then 0xFFFF - (0xFFFF - y) / 2 ^ 15 else y / 2 ^ 15) (le_true y (omega arith)) ∙ omega arith)
    by false e =
        let q : y + y < 0x10000 = grind (arith, nat_tests) in
        sym (ap (λ b. if b then 0xFFFF - (0xFFFF - y) / 2 ^ 15 else y / 2 ^ 15) (le_false y (omega arith)) ∙ omega arith)

signed_last : (y : ℕ) → y < 0x10000 → (let d = (y + y + 0) % 0x10000 in turned_bits d d (nat_le 0x10000 (y + y + 0)) ≡ arithmetic_shift y 15)
signed_last y h =
    let d = (y + y + 0) % 0x10000 in
    let c = nat_le 0x10000 (y + y + 0) in
    let same : d + (0xFFFF - d) + bit c ≡ 0xFFFF + bit c = omega arith in
    let none : y + y + 0 ≡ y + y = omega arith in
    ap (λ n. bit_xor (n % 0x10000) 0xFFFF) same ∙ ap (λ n. bit_xor ((0xFFFF + bit (nat_le 0x10000 n)) % 0x10000) 0xFFFF) none ∙ sign_bits y h

module _ (z : Setting) where
  abbrev pub Turns : List Form → ℕ → (ℕ → ℕ) → Type 0
  Turns ms c f = (pc y : ℕ) (w : WordState) (t : Core) → y < 0x10000 → Stands z.code pc ms → Has z R4 pc w y t
      → Runs z.kept [] c t (Has z R4 (pc + forms_bytes ms) w (f y))

  repeat_part : (m : Form) (g : ℕ → ℕ) → form_bytes m ≡ 2 → ((pc y : ℕ) (w : WordState) (t : Core) → z.code.at pc ≡ Some (instruction_of m) → Has z R4 pc w y t
      → Runs z.kept [] 1 t (Has z R4 (pc + 2) w (g y))) → (k pc y : ℕ) (w : WordState) (t : Core) → Stands z.code pc (repeated k m) → Has z R4 pc w y t
      → Runs z.kept [] k t (Has z R4 (pc + forms_bytes (repeated k m)) w (times k g y))
  repeat_part m g s one zero pc y w t h i = let e : pc ≡ pc + 0 = omega arith in nothing_run z (subst (λ n. Has z R4 n w y t) e i)
  repeat_part m g s one (suc k) pc y w t h i =
      let e : pc + 2 + forms_bytes (repeated k m) ≡ pc + (form_bytes m + forms_bytes (repeated k m)) = omega (arith, s) in
      let q : 1 + k ≤ suc k = omega arith in
      let h' : Stands z.code (pc + 2) (repeated k m) = subst (λ n. Stands z.code (pc + n) (repeated k m)) s h.1 in
      dearer z q (subst (λ n. Runs z.kept [] (1 + k) t (Has z R4 n w (times k g (g y)))) e
      (runs_on z (one pc y w t h.0 i) (λ v j. repeat_part m g s one k (pc + 2) (g y) w v h' j)))

  double_step : (pc y : ℕ) (w : WordState) (t : Core) → z.code.at pc ≡ Some (instruction_of (Calculate op.Add (Register R4) R4)) → Has z R4 pc w y t
      → Runs z.kept [] 1 t (Has z R4 (pc + 2) w (double y))
  double_step pc y w t h i =
      let ms = Calculate op.Add (Register R4) R4 ∷ [] in
      line z ms 1 (pc + 2) _ i.is (tt, tt) (h, tt) ((tt, tt), tt) refl refl (omega (arith, i.is.at))
      (λ s. record { is = s; held = ap (λ v. (v + v + 0) % 0x10000) i.held ∙ omega arith })

  halve_step : (pc y : ℕ) (w : WordState) (t : Core) → z.code.at pc ≡ Some (instruction_of (Modify change.Rra R4)) → Has z R4 pc w y t
      → Runs z.kept [] 1 t (Has z R4 (pc + 2) w (half_signed y))
  halve_step pc y w t h i =
      let ms = Modify change.Rra R4 ∷ [] in
      line z ms 1 (pc + 2) _ i.is (tt, tt) (h, tt) (tt, tt) refl refl (omega (arith, i.is.at)) (λ s. record { is = s; held = ap half_signed i.held })

  doubles : (k pc y : ℕ) (w : WordState) (t : Core) → Stands z.code pc (repeated k (Calculate op.Add (Register R4) R4)) → Has z R4 pc w y t
      → Runs z.kept [] k t (Has z R4 (pc + forms_bytes (repeated k (Calculate op.Add (Register R4) R4))) w (times k double y))
  doubles = repeat_part (Calculate op.Add (Register R4) R4) double refl double_step

  halves : (k pc y : ℕ) (w : WordState) (t : Core) → Stands z.code pc (repeated k (Modify change.Rra R4)) → Has z R4 pc w y t
      → Runs z.kept [] k t (Has z R4 (pc + forms_bytes (repeated k (Modify change.Rra R4))) w (times k half_signed y))
  halves = repeat_part (Modify change.Rra R4) half_signed refl halve_step

  -- two instructions, of so many bytes, and then as many turns as are left
  big : (ms more : List Form) (c k : ℕ) (g f : ℕ → ℕ) → c + k ≤ 10 → Turns ms c g
      → ((pc y : ℕ) (w : WordState) (t : Core) → Stands z.code pc more → Has z R4 pc w y t → Runs z.kept [] k t (Has z R4 (pc + forms_bytes more) w (f y)))
      → (all : List Form) → all ≡ ms ++ more → forms_bytes ms + forms_bytes more ≡ forms_bytes all → Turns all 10 (λ y. f (g y))
  big ms more c k g f l a b all e q pc y w t s h i =
      let h' = subst (Stands z.code pc) e h in
      let p : pc + forms_bytes ms + forms_bytes more ≡ pc + forms_bytes all = omega (arith, q) in
      dearer z l (subst (λ n. Runs z.kept [] (c + k) t (Has z R4 n w (f (g y)))) p (runs_on z (a pc y w t s (stands_front z.code pc ms more h') i)
      (λ v j. b (pc + forms_bytes ms) (g y) w v (stands_back z.code pc ms more h') j)))

  abbrev up_head : List Form
  up_head = Modify change.Swpb R4 ∷ Calculate op.And (Number 0xFF00) R4 ∷ []

  abbrev down_head : List Form
  down_head = Modify change.Swpb R4 ∷ Calculate op.And (Number 0xFF) R4 ∷ []

  abbrev sign_head : List Form
  sign_head = Modify change.Swpb R4 ∷ Modify change.Sxt R4 ∷ []

  abbrev one_down : List Form
  one_down = Calculate op.Bit (Constant konst.Zero) R4 ∷ Modify change.Rrc R4 ∷ []

  up_first : Turns up_head 3 (λ v. (v * 256) % 0x10000)
  up_first pc y w t s h i =
      line z up_head 3 (pc + 6) _ i.is (tt, (tt, tt)) h (tt, ((tt, tt), tt)) refl refl (omega (arith, i.is.at))
      (λ u. record { is = u; held = ap (λ v. bit_and (swap v) 0xFF00) i.held ∙ high_byte y s })

  down_first : Turns down_head 3 (λ v. v / 256)
  down_first pc y w t s h i =
      line z down_head 3 (pc + 6) _ i.is (tt, (tt, tt)) h (tt, ((tt, tt), tt)) refl refl (omega (arith, i.is.at))
      (λ u. record { is = u; held = ap (λ v. bit_and (swap v) 0xFF) i.held ∙ low_byte y s })

  sign_first : Turns sign_head 2 (λ v. sign (swap v))
  sign_first pc y w t s h i =
      line z sign_head 2 (pc + 4) _ i.is (tt, (tt, tt)) h (tt, (tt, tt)) refl refl (omega (arith, i.is.at))
      (λ u. record { is = u; held = ap (λ v. sign (swap v)) i.held })

  one_first : Turns one_down 2 (λ v. v / 2)
  one_first pc y w t s h i =
      line z one_down 2 (pc + 4) _ i.is (tt, (tt, tt)) h ((tt, tt), (tt, tt)) refl refl (omega (arith, i.is.at))
      (λ u. record { is = u; held = ap (λ v. v / 2 + 0x8000 * bit (not (bit_and v 0 == 0))) i.held ∙ no_bits y })

  as_value : (ms : List Form) (f g : ℕ → ℕ) → ((y : ℕ) → y < 0x10000 → f y ≡ g y) → Turns ms 10 f → Turns ms 10 g
  as_value ms f g e a pc y w t s h i = subst (λ v. Runs z.kept [] 10 t (Has z R4 (pc + forms_bytes ms) w v)) (e y s) (a pc y w t s h i)

  by_eight : (b : Bool) (k : ℕ) → nat_lt k 8 ≡ b → k < 16 → (small big : List Form) (f : ℕ → ℕ) → (k < 8 → Turns small 10 f)
      → ((j : ℕ) → k ≡ 8 + j → j < 8 → Turns big 10 f) → Turns (if b then small else big) 10 f
  by_eight true k e l sm bg f a b = a (ltb-true k 8 e)
  by_eight false k e l sm bg f a b = let m : 8 ≤ k = grind (arith, nat_tests) in b (k - 8) (omega arith) (omega arith)

  down_smalls : (k : ℕ) → k < 8 → Turns (right_code k) 10 (λ v. v / 2 ^ k)
  down_smalls zero l = as_value [] (λ v. v) (λ v. v / 2 ^ zero) (λ y h. omega arith) (λ pc y w t s h i. let e : pc ≡ pc + 0 = omega arith in
      dearer z (omega arith) (nothing_run z (subst (λ n. Has z R4 n w y t) e i)))
  down_smalls (suc k) l =
      as_value (right_code (suc k)) (λ v. times k half_signed (v / 2)) (λ v. v / 2 ^ suc k) (λ y h. halved_plain k (y / 2) (omega arith) ∙ halved_twice k y)
      (big one_down (repeated k (Modify change.Rra R4)) 2 k (λ v. v / 2) (times k half_signed) (omega arith) one_first (halves k) _ refl (omega arith))

  shift_turns : (d : ShiftOperation) (k : ℕ) → k < 16 → Turns (shift_by d k) 10 (shift_of d k)
  shift_turns Left k l = by_eight (nat_lt k 8) k refl l _ _ (shift_of Left k)
      (λ s pc y w t a h i. dearer z (omega arith)
      (subst (λ v. Runs z.kept [] k t (Has z R4 (pc + forms_bytes (repeated k (Calculate op.Add (Register R4) R4))) w v)) (doubled k y a)
      (doubles k pc y w t h i)))
      (λ j e s. as_value (up_head ++ repeated (k - 8) (Calculate op.Add (Register R4) R4)) _ _
      (λ y h. let q : k - 8 ≡ j = omega arith in ap (λ n. times n double ((y * 256) % 0x10000)) q ∙ raised_big j y h
      ∙ ap (λ n. (y * 2 ^ n) % 0x10000) (sym e))
      (big up_head (repeated (k - 8) (Calculate op.Add (Register R4) R4)) 3 (k - 8) (λ v. (v * 256) % 0x10000) (times (k - 8) double) (omega arith) up_first
      (doubles (k - 8)) _ refl (omega arith)))
  shift_turns Right k l = by_eight (nat_lt k 8) k refl l _ _ (shift_of Right k) (λ s. down_smalls k s)
      (λ j e s. as_value (down_head ++ repeated (k - 8) (Modify change.Rra R4)) _ _ (λ y h. let q : k - 8 ≡ j = omega arith in
      ap (λ n. times n half_signed (y / 256)) q ∙ lowered_big j y h ∙ ap (λ n. y / 2 ^ n) (sym e))
      (big down_head (repeated (k - 8) (Modify change.Rra R4)) 3 (k - 8) (λ v. v / 256) (times (k - 8) half_signed) (omega arith) down_first (halves (k - 8))
      _ refl (omega arith)))
  shift_turns SignedRight k l = by_eight (nat_lt k 8) k refl l _ _ (shift_of SignedRight k)
      (λ s pc y w t a h i. dearer z (omega arith)
      (subst (λ v. Runs z.kept [] k t (Has z R4 (pc + forms_bytes (repeated k (Modify change.Rra R4))) w v)) (halved_signed k y a) (halves k pc y w t h i)))
      (λ j e s. as_value (sign_head ++ repeated (k - 8) (Modify change.Rra R4)) _ _ (λ y h. let q : k - 8 ≡ j = omega arith in
      ap (λ n. times n half_signed (sign (swap y))) q ∙ signed_big j y h ∙ ap (λ n. arithmetic_shift y n) (sym e))
      (big sign_head (repeated (k - 8) (Modify change.Rra R4)) 2 (k - 8) (λ v. sign (swap v)) (times (k - 8) half_signed) (omega arith) sign_first
      (halves (k - 8)) _ refl (omega arith)))

  -- by 15 bits
  last_turns : (d : ShiftOperation) → Turns (last_bit d) 10 (shift_of d 15)
  last_turns Left pc y w t s h i =
      dearer z (omega arith)
      (line z (last_bit Left) 3 (pc + 6) _ i.is (tt, (tt, (tt, tt))) h (tt, ((tt, tt), (tt, tt))) refl refl (omega (arith, i.is.at))
      (λ u. record { is = u; held = ap (λ v. 0 / 2 + 0x8000 * bit (v % 2 == 1)) i.held ∙ low_bit y }))
  last_turns Right pc y w t s h i =
      dearer z (omega arith)
      (line z (last_bit Right) 3 (pc + 6) _ i.is (tt, (tt, (tt, tt))) h ((tt, tt), ((tt, tt), ((tt, tt), tt))) refl refl (omega (arith, i.is.at))
      (λ u. record { is = u; held = ap (λ v. (0 + 0 + bit (nat_le 0x10000 (v + v + 0))) % 0x10000) i.held ∙ top_alone y s }))
  last_turns SignedRight pc y w t s h i =
      dearer z (omega arith)
      (line z (last_bit SignedRight) 3 (pc + 6) _ i.is (tt, (tt, (tt, tt))) h ((tt, tt), ((tt, tt), ((tt, tt), tt))) refl refl (omega (arith, i.is.at))
      (λ u. record { is = u; held = ap (λ v. let d = (v + v + 0) % 0x10000 in turned_bits d d (nat_le 0x10000 (v + v + 0))) i.held ∙ signed_last y s }))

  shift_code_turns : (b : Bool) (d : ShiftOperation) (k : ℕ) → (k == 15) ≡ b → k < 16 → Turns (if b then last_bit d else (shift_by d k)) 10 (shift_of d k)
  shift_code_turns true d k e l = subst (λ n. Turns (last_bit d) 10 (shift_of d n)) (sym (eqb-true k 15 e)) (last_turns d)
  shift_code_turns false d k e l = shift_turns d k l

  -- a shift by any count
  middle_turns : (b : Bool) (d : ShiftOperation) (k : ℕ) → nat_le k 15 ≡ b
      → Turns (if b then shift_code d k else (Move (Constant konst.Zero) (ToRegister R4) ∷ [])) 10 (λ v. if b then shifted_word d v k else 0)
  middle_turns true d k e pc y w t s h i = let l : k < 16 = grind (arith, nat_tests) in shift_code_turns (k == 15) d k refl l pc y w t s h i
  middle_turns false d k e pc y w t s h i =
      let ms = Move (Constant konst.Zero) (ToRegister R4) ∷ [] in
      dearer z (omega arith)
      (line z ms 1 (pc + 2) (Has z R4 (pc + 2) w 0) i.is (tt, tt) h ((tt, tt), tt) refl refl (omega (arith, i.is.at)) (λ u. record { is = u; held = refl }))

  pub shift_part : (d : ShiftOperation) (k : ℕ) → Turns (shift_middle d k) 10 (λ v. shift_word d v k)
  shift_part d k = middle_turns (nat_le k 15) d k refl
