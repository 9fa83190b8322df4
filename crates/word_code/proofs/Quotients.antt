-- Division: sixteen turns, each with one bit of the left side.
use Rattle.word_code.proofs.Names.{◌≡◌, ℕ, zero, suc, ◌+◌, ◌-◌, ◌*◌, ◌/◌, ◌%◌, ◌^◌, ◌<◌, ◌≤◌, ◌==◌, ◌⊎◌, inl, inr, ⊎_elim, not, List, [], ◌∷◌, refl, sym, ap}
use Rattle.word_code.proofs.Names.{ap₂, ◌∙◌, subst, arith, Bool, true, false, nat_le, eq-eqb, if◌then◌else◌, nat_tests, div-mul-add, mod-mul-add, cases_eq}
use Rattle.word_code.proofs.Names.{bit, quotient, remainder, R4, R6, Core, Number, Constant, ToRegister, R7, Form, Move, Stands, Runs, forms_behind, Divide}
use Rattle.word_code.proofs.Names.{Remainder, binary_word, WordState, binary_middle, divide_middle, divide_turn}
use Rattle.array_versions.proofs.machine_effects.fram_board.alp_words.Interface.{bit_below}
use Rattle.array_versions.specs.msp_step.msp_isa.declared.operands.Konst.TheVariants as konst
use Rattle.word_code.proofs.Registers.{Holds, HasTwo, Flagged, IsZero, line, no_borrow}
use Rattle.word_code.proofs.Stretches.{so_runs, Setting, runs_on, dearer}
use Rattle.word_code.proofs.Middles.{BinaryMiddle}
use Rattle.word_code.proofs.Routes.{on, jump, free, Work, route, starts as begins}

-- what is left of a by d: with P = 2 ^ turns left and p * P = 10000, x = X * p + q, X of the bits still to come and q those of the quotient
pub record Dividing (a d x r p P : ℕ) : Type 0 where
  pub X : ℕ
  pub q : ℕ
  pub split : x ≡ X * p + q
  pub few : X < P
  pub low : q < p
  pub whole : p * P ≡ 0x10000
  pub total : a ≡ q * d * P + r * P + X
  pub good : (r < d) ⊎ ((d ≡ 0) × (q + 1 ≡ p))

abbrev top : ℕ → ℕ
top x = bit (nat_le 0x10000 (x + x + 0))

abbrev shifted : ℕ → ℕ
shifted x = (x + x + 0) % 0x10000

abbrev longer : ℕ → ℕ → ℕ
longer x r = r + r + top x

-- the bits still to come, without the first
record Bits (x X q p P : ℕ) : Type 0 where
  Y : ℕ
  head : X ≡ top x * P + Y
  few : Y < P
  split : shifted x ≡ Y * (2 * p) + 2 * q

bound' : (Y p q k : ℕ) → q < p → Y * (2 * p) + 2 * q < 2 * p * (Y + 1 + k)
bound' Y p q k h = omega arith

bound : (Y p q P : ℕ) → Y < P → q < p → Y * (2 * p) + 2 * q < 2 * p * P
bound Y p q P l h = let e : Y + 1 + (P - 1 - Y) ≡ P = omega arith in subst (λ n. Y * (2 * p) + 2 * q < 2 * p * n) e (bound' Y p q (P - 1 - Y) h)

twice_high : (Y p q P : ℕ) → ((P + Y) * p + q) + ((P + Y) * p + q) ≡ 2 * p * P + (Y * (2 * p) + 2 * q)
twice_high Y p q P = omega arith

twice_low : (Y p q : ℕ) → (Y * p + q) + (Y * p + q) ≡ Y * (2 * p) + 2 * q
twice_low Y p q = omega arith

top_high : (x R : ℕ) → x + x ≡ 0x10000 + R → R < 0x10000 → (top x ≡ 1) × (shifted x ≡ R)
top_high x R e l = let t : nat_le 0x10000 (x + x + 0) ≡ true = grind (arith, nat_tests) in (ap bit t, omega arith)

top_low : (x R : ℕ) → x + x ≡ R → R < 0x10000 → (top x ≡ 0) × (shifted x ≡ R)
top_low x R e l = let t : nat_le 0x10000 (x + x + 0) ≡ false = grind (arith, nat_tests) in (ap bit t, omega arith)

bits_by : (b : Bool) (x X q p P : ℕ) → nat_le P X ≡ b → 2 * p * P ≡ 0x10000 → x ≡ X * p + q → q < p → X < 2 * P → Bits x X q p P
bits_by true x X q p P e w s l k =
    let m : P ≤ X = grind (arith, nat_tests) in
    let Z = X - P in
    let y : X ≡ P + Z = omega arith in
    let R = Z * (2 * p) + 2 * q in
    let d : x + x ≡ 0x10000 + R = ap₂ (λ a b. a + b) (s ∙ ap (λ n. n * p + q) y) (s ∙ ap (λ n. n * p + q) y) ∙ twice_high Z p q P ∙ ap (λ n. n + R) w in
    let t = top_high x R d (subst (λ n. R < n) w (bound Z p q P (omega arith) l)) in
    record { Y = Z; head = y ∙ (let o : P + Z ≡ 1 * P + Z = omega arith in o) ∙ ap (λ n. n * P + Z) (sym t.0); few = omega arith; split = t.1 }
bits_by false x X q p P e w s l k =
    let m : X < P = grind (arith, nat_tests) in
    let R = X * (2 * p) + 2 * q in
    let d : x + x ≡ R = ap₂ (λ a b. a + b) s s ∙ twice_low X p q in
    let t = top_low x R d (subst (λ n. R < n) w (bound X p q P m l)) in
    record { Y = X; head = sym (ap (λ n. n * P + X) t.0 ∙ omega arith); few = m; split = t.1 }

bits : (x X q p P : ℕ) → p * (2 * P) ≡ 0x10000 → x ≡ X * p + q → q < p → X < 2 * P → Bits x X q p P
bits x X q p P w s l k = let w' : 2 * p * P ≡ 0x10000 = omega arith in bits_by (nat_le P X) x X q p P refl w' s l k

abbrev over : ℕ → ℕ → ℕ → Bool
over x r d = nat_le d (longer x r)

total_over : (a q d P r t Y k : ℕ) → a ≡ q * d * (2 * P) + r * (2 * P) + (t * P + Y) → r + r + t ≡ d + k → a ≡ (2 * q + 1) * d * P + k * P + Y
total_over a q d P r t Y k e f = let g : (r + r + t) * P ≡ (d + k) * P = ap (λ n. n * P) f in omega (arith, e, g)

total_under : (a q d P r t Y : ℕ) → a ≡ q * d * (2 * P) + r * (2 * P) + (t * P + Y) → a ≡ 2 * q * d * P + (r + r + t) * P + Y
total_under a q d P r t Y e = omega (arith, e)

-- one turn
step_by : (b : Bool) (a d x r p P : ℕ) → over x r d ≡ b → Dividing a d x r p (2 * P)
    → Dividing a d (if b then shifted x + 1 else shifted x) (if b then longer x r - d else longer x r) (2 * p) P
step_by true a d x r p P e g =
    let B = bits x g.X g.q p P g.whole g.split g.low g.few in
    let t = top x in
    let t1 : top x ≤ 1 = bit_below (nat_le 0x10000 (x + x + 0)) in
    let m : d ≤ longer x r = grind (arith, nat_tests) in
    let k = longer x r - d in
    let f : r + r + top x ≡ d + (longer x r - d) = omega arith in
    let low = g.low in let sp = B.split in let wh = g.whole in
    record {
      X = B.Y;
      q = 2 * g.q + 1;
      split = omega (arith, sp);
      few = B.few;
      low = omega arith;
      whole = omega (arith, wh);
      total = total_over a g.q d P r (top x) B.Y (longer x r - d) (g.total ∙ ap (λ n. g.q * d * (2 * P) + r * (2 * P) + n) B.head) f;
      good = ⊎_elim (λ l. inl (less d r (top x) (longer x r - d) l t1 f)) (λ is_zero. inr (is_zero.0, omega (arith, is_zero.1))) g.good;
    }
  where
    less : (d r t k : ℕ) → r < d → t ≤ 1 → r + r + t ≡ d + k → k < d
    less d r t k l m f = omega arith
step_by false a d x r p P e g =
    let B = bits x g.X g.q p P g.whole g.split g.low g.few in
    let m : longer x r < d = grind (arith, nat_tests) in
    let low = g.low in let sp = B.split in let wh = g.whole in
    record {
      X = B.Y;
      q = 2 * g.q;
      split = sp;
      few = B.few;
      low = omega arith;
      whole = omega (arith, wh);
      total = total_under a g.q d P r (top x) B.Y (g.total ∙ ap (λ n. g.q * d * (2 * P) + r * (2 * P) + n) B.head);
      good = inl m;
    }

-- the remainder stays a word
rest_suc : (a d x r p P : ℕ) → Dividing a d x r p (suc P) → r ≤ a
rest_suc a d x r p P g = let t = g.total in let Q = g.q * d * suc P in let e : r * suc P ≡ r * P + r = omega arith in omega (arith, t, e)

rest_small : (a d x r p P : ℕ) → 0 < P → Dividing a d x r p P → r ≤ a
rest_small a d x r p P h g = let e : P ≡ suc (P - 1) = omega arith in rest_suc a d x r p (P - 1) (subst (λ n. Dividing a d x r p n) e g)

power : (k : ℕ) → 2 ^ suc k ≡ 2 * 2 ^ k
power k = grind arith

suc_not : (j : ℕ) → not (suc j == 0) ≡ true
suc_not j = let e : (suc j == 0) ≡ false = grind (arith, nat_tests) in ap not e

positive : (k : ℕ) → 0 < 2 ^ k
positive zero = omega arith
positive (suc k) = omega (arith, power k, positive k)

not_none : (d : ℕ) → 0 < d → (d == 0) ≡ false
not_none d h = grind (arith, nat_tests)

-- at the end
ends : (a d x r : ℕ) → Dividing a d x r 0x10000 1 → (x ≡ quotient a d) × (r ≡ remainder a d)
ends a d x r g =
    let few = g.few in let sp = g.split in let to = g.total in
    let is_zero : g.X ≡ 0 = omega arith in
    let x' : x ≡ g.q = omega (arith, sp, is_zero) in
    let a' : a ≡ g.q * d + r = omega (arith, to, is_zero) in
    ⊎_elim
    (λ l. let f : (d == 0) ≡ false = not_none d (omega arith) in (
      x' ∙ sym (div-mul-add g.q d r l) ∙ ap (λ n. n / d) (sym a') ∙ sym (ap (λ b. if b then 0xFFFF else a / d) f),
      sym (mod-mul-add g.q d r l) ∙ ap (λ n. n % d) (sym a') ∙ sym (ap (λ b. if b then a else a % d) f),
    ))
    (λ w. let f : (d == 0) ≡ true = eq-eqb d 0 w.0 in
    let q' : x ≡ 0xFFFF = omega (arith, x', w.1) in
    let r' : r ≡ a = sym (a' ∙ ap (λ n. g.q * n + r) w.0 ∙ omega arith) in
    (q' ∙ sym (ap (λ b. if b then 0xFFFF else a / d) f), r' ∙ sym (ap (λ b. if b then a else a % d) f)))
    g.good

starts : (x d : ℕ) → x < 0x10000 → Dividing x d x 0 1 0x10000
starts x d h =
    record {
      X = x;
      q = 0;
      split = omega arith;
      few = h;
      low = omega arith;
      whole = refl;
      total = omega arith;
      good = ⊎_elim (λ e. inr (e, refl)) (λ n. inl (positive d n)) (cases_eq d 0);
    }
  where
    positive : (d : ℕ) → (d ≡ 0 → ⊥) → 0 < d
    positive d n = grind arith

-- what SUB leaves
less_high : (s d : ℕ) → s < 0x20000 → d < 0x10000 → d ≤ s → s - d < 0x10000 → (s % 0x10000 + (0xFFFF - d) + 1) % 0x10000 ≡ s - d
less_high s d h k l m = omega arith

small_long : (x r : ℕ) → r < 0x10000 → longer x r < 0x20000
small_long x r l = let b = bit_below (nat_le 0x10000 (x + x + 0)) in omega arith

goes_in : (x d r : ℕ) → over x r d ≡ true → d ≤ longer x r
goes_in x d r f = grind (arith, nat_tests)

under : (x r : ℕ) → nat_le 0x10000 (longer x r) ≡ false → longer x r < 0x10000
under x r e = grind (arith, nat_tests)

impossible : (x d r : ℕ) → nat_le 0x10000 (longer x r) ≡ true → over x r d ≡ false → d < 0x10000 → ⊥
impossible x d r e f l = grind (arith, nat_tests)

-- what a turn leaves, by whether the divisor goes in
abbrev out_x : Bool → ℕ → ℕ
out_x b x = if b then shifted x + 1 else shifted x

abbrev out_r : Bool → ℕ → ℕ → ℕ → ℕ
out_r b x d r = if b then longer x r - d else longer x r

-- what the instructions leave where it does
one_more : (x : ℕ) → (shifted x + 1 + 0) % 0x10000 ≡ shifted x + 1
one_more x = omega arith

rest_is : (x d r : ℕ) → r < 0x10000 → d < 0x10000 → over x r d ≡ true → longer x r - d < 0x10000
    → (longer x r % 0x10000 + (0xFFFF - d) + 1) % 0x10000 ≡ longer x r - d
rest_is x d r lr ld f s = less_high (longer x r) d (small_long x r lr) ld (goes_in x d r f) s

counted : (j : ℕ) → j < 16 → (suc j + 65534 + 1) % 0x10000 ≡ j
counted j l = omega arith

same_word : (n : ℕ) → n < 0x10000 → n % 0x10000 ≡ n
same_word n l = omega arith

-- whether it goes in, as the comparison says, where the rest didn't overflow
compared : (n d : ℕ) (b : Bool) → n < 0x10000 → d < 0x10000 → nat_le d n ≡ b → nat_le 0x10000 (n % 0x10000 + (0xFFFF - d) + 1) ≡ b
compared n d b l k e = no_borrow (n % 0x10000) d (omega arith) k ∙ ap (nat_le d) (same_word n l) ∙ e

module _ (z : Setting) where
  -- a word divided by another
  module _ (p : ℕ) (h : Stands z.code p divide_turn) (a d : ℕ) (la : a < 0x10000) (ld : d < 0x10000) (w : WordState) where
    -- R4 holds what is left of the dividend with the bits of the quotient, R5 the divisor, R6 the rest and R7 the turns that are left
    abbrev InHand : ℕ → ℕ → ℕ → ℕ → Core → Type 0
    InHand k x r n = Holds z (Work x d r n) (p + k) w

    -- behind a turn, in front of the jump back, by whether the divisor went in
    abbrev Turned : Bool → ℕ → ℕ → ℕ → Core → Type 0
    Turned b x r j = Flagged z (Work (out_x b x) d (out_r b x d r) j) (IsZero (j == 0)) (p + 16) w

    -- a turn, by whether there is a carry, and whether the divisor goes in
    turn_by : (c k : Bool) (x r j : ℕ) (t : Core) → nat_le 0x10000 (longer x r) ≡ c → over x r d ≡ k → r < 0x10000 → j < 16
        → (k ≡ true → longer x r - d < 0x10000) → InHand 0 x r (suc j) t → Runs z.kept [] 10 t (Turned k x r j)
    turn_by true true x r j t e f lr lj fits i =
        let count = counted j lj in
        let rest = rest_is x d r lr ld f (fits refl) in
        dearer z (omega arith) (route z p divide_turn h 0 i.is i.held (on 2 ∷ jump true ∷ on 3 ∷ []) 7 _
        (_, free 2, (refl, (refl, e, refl, (_, free 3, (refl, tt))))) refl refl
        (λ s. record { all = record { is = s; held = (one_more x, refl, rest, count) }; flag = ap (λ v. v == 0) count }))
    turn_by true false x r j t e f lr lj fits i = elim (impossible x d r e f ld) [ ]
    turn_by false true x r j t e f lr lj fits i =
        let count = counted j lj in
        let rest = rest_is x d r lr ld f (fits refl) in
        let goes = ap not (compared (longer x r) d true (under x r e) ld f) in
        route z p divide_turn h 0 i.is i.held (on 2 ∷ jump false ∷ on 1 ∷ jump false ∷ on 3 ∷ []) 10 _
        (_, free 2, (refl, (refl, e, refl, (_, free 1, (refl, (refl, goes, refl, (_, free 3, (refl, tt)))))))) refl refl
        (λ s. record { all = record { is = s; held = (one_more x, refl, rest, count) }; flag = ap (λ v. v == 0) count })
    turn_by false false x r j t e f lr lj fits i =
        let count = counted j lj in
        let goes = ap not (compared (longer x r) d false (under x r e) ld f) in
        dearer z (omega arith) (route z p divide_turn h 0 i.is i.held (on 2 ∷ jump false ∷ on 1 ∷ jump true ∷ on 1 ∷ []) 8 _
        (_, free 2, (refl, (refl, e, refl, (_, free 1, (refl, (refl, goes, refl, (_, free 1, (refl, tt)))))))) refl refl
        (λ s. record { all = record { is = s; held = (refl, refl, same_word (longer x r) (under x r e), count) }; flag = ap (λ v. v == 0) count }))

    -- a turn, with what it keeps
    turn : (j x r q P : ℕ) (t : Core) → 0 < P → j < 16 → Dividing a d x r q (2 * P) → InHand 0 x r (suc j) t
        → Runs z.kept [] 10 t (Turned (over x r d) x r j)
    turn j x r q P t po lj g i =
        let lr = rest_small a d x r q (2 * P) (omega arith) g in
        turn_by (nat_le 0x10000 (longer x r)) (over x r d) x r j t refl refl (omega (arith, lr)) lj
        (λ k. let n = step_by true a d x r q P k g in let l = rest_small a d (shifted x + 1) (longer x r - d) (2 * q) P po n in omega arith) i

    -- so many turns
    loop : (j x r q : ℕ) (t : Core) → j < 16 → Dividing a d x r q (2 * 2 ^ j) → InHand 0 x r (suc j) t
        → Runs z.kept [] (suc j * 12) t (InHand 18 (quotient a d) (remainder a d) 0)
    loop zero x r q t lj g i =
        let b = over x r d in
        let n = step_by b a d x r q 1 refl g in
        let wh = n.whole in
        let e : 2 * q ≡ 0x10000 = omega arith in
        let done = ends a d (out_x b x) (out_r b x d r) (subst (λ m. Dividing a d (out_x b x) (out_r b x d r) m 1) e n) in
        runs_on z (turn zero x r q 1 t (omega arith) lj g i) (λ u k.
        route z p divide_turn h 8 k.all.is k.all.held (jump false ∷ []) 2 _ (refl, ap not k.flag, refl, tt) refl refl
        (λ s. record { is = s; held = (done.0, refl, done.1, refl) }))
    loop (suc j) x r q t lj g i =
        let b = over x r d in
        let n = step_by b a d x r q (2 ^ suc j) refl g in
        let next : Dividing a d (out_x b x) (out_r b x d r) (2 * q) (2 * 2 ^ j) =
        subst (λ m. Dividing a d (out_x b x) (out_r b x d r) (2 * q) m) (power j) n in
        let l : 12 + suc j * 12 ≤ suc (suc j) * 12 = omega arith in
        dearer z l (runs_on z (runs_on z (turn (suc j) x r q (2 ^ suc j) t (positive (suc j)) lj g i) (λ u k.
        route z p divide_turn h 8 k.all.is k.all.held (jump true ∷ []) 2 (InHand 0 (out_x b x) (out_r b x d r) (suc j))
        (refl, ap not k.flag ∙ suc_not j, refl, tt) refl refl (λ s. record { is = s; held = (refl, refl, refl, refl) })))
        (λ u k. loop j (out_x b x) (out_r b x d r) (2 * q) u (omega arith) next k))

  all_turns : (pc x y : ℕ) (w : WordState) (t : Core) → x < 0x10000 → y < 0x10000 → Stands z.code pc divide_middle → HasTwo z pc w x y t
      → Runs z.kept [] 195 t (Holds z (Work (quotient x y) y (remainder x y) 0) (pc + 24) w)
  all_turns pc x y w t a b h i =
      let heads : List Form = Move (Constant konst.Zero) (ToRegister R6) ∷ Move (Number 16) (ToRegister R7) ∷ [] in
      let end : pc + 6 + 18 ≡ pc + 24 = omega arith in
      let turns = forms_behind z.code pc 2 divide_middle h in
      subst (λ n. Runs z.kept [] 195 t (Holds z (Work (quotient x y) y (remainder x y) 0) n w)) end
      (runs_on z (line z heads 3 (pc + 6) (Holds z (Work x y 0 16) (pc + 6) w) i.is (tt, (tt, tt)) (h.0, (h.1.0, tt)) ((tt, tt), ((tt, tt), tt)) refl refl
      (omega (arith, i.is.at)) (λ s. record { is = s; held = (i.held.four, i.held.five, refl, refl) }))
      (λ u k. loop (pc + 6) turns x y a b w 15 x 0 1 u (omega arith) (starts x y a) (record { is = begins z k.is; held = k.held })))

  pub divide_part : BinaryMiddle z (binary_middle Divide) R4 195 (binary_word Divide)
  divide_part pc x y w t a b h i =
      so_runs (all_turns pc x y w t a b h i) (λ u k. record { is = k.is; held = k.held.0 })

  pub remainder_part : BinaryMiddle z (binary_middle Remainder) R6 195 (binary_word Remainder)
  remainder_part pc x y w t a b h i =
      so_runs (all_turns pc x y w t a b h i) (λ u k. record { is = k.is; held = k.held.2 })
