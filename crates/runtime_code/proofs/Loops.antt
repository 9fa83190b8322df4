-- Loops that count down.
use Rattle.std.proofs.Common.{◌≡◌, ℕ, zero, suc, ◌+◌, ◌%◌, ◌<◌, ◌≤◌, ◌==◌, [], ◌∷◌, ◌++◌, List, refl, sym, ap, ◌∙◌, subst, arith, Bool, true, false}
use Rattle.std.proofs.Common.{if◌then◌else◌, not}
use Rattle.std.proofs.lemmas.Bool.Decides.{nat_tests}
use mathlib.Core.Path.{fun_ext}
use Rattle.code_forms.specs.msp_isa.declared.instructions.TwoOp.TheVariants.{Sub, Cmp}
use Rattle.code_forms.specs.msp_isa.declared.operands.Konst.TheVariants.{Zero, One}
use Rattle.code_forms.specs.msp_isa.declared.instructions.Condition.TheVariants.{Equal, NotEqual}
use Rattle.runtime_effects.specs.msp_step.Effect.{word_sum, distance}
use Rattle.runtime_effects.specs.fram_board.Effects.{Effect}
use Rattle.runtime_effects.specs.machine_effects.World.{put}
use Rattle.runtime_effects.specs.machine_effects.Inputs.{Inputs}
use Rattle.runtime_effects.specs.machine_effects.Going.{Goes}
use Rattle.runtime_effects.specs.machine_effects.Machine.{Code}
use Rattle.runtime_effects.proofs.machine_effects.Interface.{zero_flag, put_other}
use Rattle.code_forms.specs.Forms.{Core, Form, Move, Calculate, Constant, Number, ToRegister, R4, R5}
use Rattle.code_forms.specs.Code.{Stands, IsTidy, forms_bytes, anywhere}
use Rattle.code_forms.proofs.Interface.{stands_front, stands_back, form_comes, comes_on}
use Rattle.runtime_code.specs.Comes.{Comes, IsAt}
use Rattle.runtime_code.specs.Counted.{counted, loop_end, over_loop, back_to_turn, if_any}
use Rattle.runtime_code.proofs.Chains.{behind, then_on, so_ends, recounted, straight, jumps}

-- what is spent once is spent at most once, and again where there is more
pub if_any_most : (n once : ℕ) → if_any n once ≤ once
if_any_most zero once = omega arith
if_any_most (suc n) once = omega arith

pub if_any_grows : (n m once : ℕ) → n ≤ m → if_any n once ≤ if_any m once
if_any_grows zero m once l = omega arith
if_any_grows (suc n) zero once l = absurd (omega (arith, l))
if_any_grows (suc n) (suc m) once l = omega arith

-- the flag of a count by one, or of a comparison with 1: it came to 0, or not
pub last_flag : (n : ℕ) → n ≡ 1 → ((n + 65534 + 1) % 65536 == 0) ≡ true
last_flag n e = ap (λ x. (x + 65534 + 1) % 65536 == 0) e

more_flag : (n k : ℕ) → n < 0x10000 → n ≡ suc (suc k) → ((n + 65534 + 1) % 65536 == 0) ≡ false
more_flag n k l e = grind (arith, nat_tests, l, e)

-- a loop that counts R4 down while it goes over what stands from an address on
pub record Loop (code : Code) : Type 0 where
  pub at : ℕ
  pub address : ℕ
  pub turn : List Form
  pub stands : Stands code at (counted address turn)
  pub passed : word_sum (at + 2 + 2) (distance (over_loop turn)) ≡ at + (12 + forms_bytes turn)
  pub again : word_sum (at + (8 + forms_bytes turn) + 2 + 2) (distance (back_to_turn turn)) ≡ at + 8

-- where its turn begins, where its count stands behind that, and where it ends
abbrev pub turn_at : {code : Code} → Loop code → ℕ
turn_at loop = loop.at + 8

abbrev pub count_at : {code : Code} → Loop code → ℕ
count_at loop = loop.at + (8 + forms_bytes loop.turn)

abbrev pub loop_ends : {code : Code} → Loop code → ℕ
loop_ends loop = loop.at + (12 + forms_bytes loop.turn)

-- what is told of a loop by values of X, each a point in front of a turn or behind the last one: the word that is next, FRAM and inputs; what else
-- holds of the registers above R5, with so many turns left; what the loop then makes, in how many steps and cycles, and what holds behind it
pub record Turning (X : Type 0) : Type 1 where
  pub next : X → ℕ
  pub memory : X → ℕ → ℕ
  pub inputs : X → Inputs
  pub Ready : ℕ → X → (ℕ → ℕ) → Type 0
  pub stays : (n : ℕ) (x : X) (w v : ℕ → ℕ) → ((b : ℕ) → 6 ≤ b → v b ≡ w b) → Ready n x w → Ready n x v
  pub made : ℕ → X → List Effect
  pub steps : ℕ → X → ℕ
  pub cycles : ℕ → X → ℕ
  pub Done : ℕ → X → Core → Type 0

-- a point of a loop that stores: the place that is next, and FRAM
pub record Point : Type 0 where
  pub place : ℕ
  pub memory : ℕ → ℕ

-- what is left is made
abbrev pub Makes : Code → {X : Type 0} → Turning X → ℕ → X → Core → Type 0
Makes code t n x u = Comes code (t.made n x) (t.steps n x) (t.cycles n x) u (t.Done n x)

-- behind a turn, which leaves R4
pub record IsBehind {X : Type 0} (t : Turning X) (address n : ℕ) (x : X) (u : Core) : Type 0 where
  pub at : IsAt address (t.memory x) (t.inputs x) u
  pub left : u.work 4 ≡ suc n
  pub next : u.work 5 ≡ t.next x
  pub ready : t.Ready n x u.work

-- the state in front of a turn, whatever its other registers
abbrev pub in_front : {code : Code} → Loop code → {X : Type 0} → Turning X → ℕ → X → Core → Core
in_front loop t n x u =
    record u { pc = turn_at loop; fram = t.memory x; inputs = t.inputs x; work = put (put u.work 4 n) 5 (t.next x) }

-- a turn with n more behind it: to which point, with what effects, in how many steps and cycles; and that these add up
pub record Turn (code : Code) (loop : Loop code) {X : Type 0} (t : Turning X) (n : ℕ) (x : X) (u : Core) : Type 0 where
  pub to : X
  pub effects : List Effect
  pub steps : ℕ
  pub cycles : ℕ
  pub comes : Comes code effects steps cycles u (IsBehind t (count_at loop) n to)
  pub made : effects ++ t.made n to ≡ t.made (suc n) x
  pub all_steps : steps + (2 + t.steps n to) ≡ t.steps (suc n) x
  pub all_cycles : cycles + (3 + t.cycles n to) ≡ t.cycles (suc n) x
  pub done : (v : Core) → t.Done n to v → t.Done (suc n) x v

-- registers with R4 and R5 put to what they hold
put_both : (w : ℕ → ℕ) (a b : ℕ) → w 4 ≡ a → w 5 ≡ b → put (put w 4 a) 5 b ≡ w
put_both w a b e d = fun_ext (λ r. grind (arith, nat_tests, e, d))

module _ (code : Code) (tidy : IsTidy code) (loop : Loop code) where
  open loop use {at as p, address, turn, stands, passed, again}

  abbrev bytes : ℕ
  bytes = forms_bytes turn

  turn_stands : Stands code (p + 8) (turn ++ loop_end (back_to_turn turn))
  turn_stands = subst (λ x. Stands code x (turn ++ loop_end (back_to_turn turn))) (omega arith) stands.1.1.1

  pub turn_there : Stands code (p + 8) turn
  turn_there = stands_front code (p + 8) turn (loop_end (back_to_turn turn)) turn_stands

  count_there : Stands code (p + (8 + bytes)) (loop_end (back_to_turn turn))
  count_there =
      subst (λ x. Stands code x (loop_end (back_to_turn turn))) (omega arith) (stands_back code (p + 8) turn (loop_end (back_to_turn turn)) turn_stands)

  -- the state behind the comparison of R4 with 0
  abbrev tested : Core → Core
  tested u = behind (Calculate Cmp (Constant Zero) R4 ∷ []) u

  test : (b : Bool) (u : Core) → u.pc ≡ p → ((u.work 4 + 65535 + 1) % 65536 == 0) ≡ b
      → Comes code [] 2 3 u (λ v. v ≡ record (tested u) { pc = if b then p + (12 + bytes) else p + 2 + 2 })
  test b u e z =
      then_on (straight code tidy (Calculate Cmp (Constant Zero) R4 ∷ []) u (tt, tt) (ap code.at e ∙ stands.0, tt) ((tt, tt), tt) refl)
      (jumps code tidy Equal (over_loop turn) (p + (12 + bytes)) (p + 2 + 2) b (tested u) (ap (λ x. code.at (x + 2)) e ∙ stands.1.0)
      (ap (λ x. word_sum (x + 2 + 2) (distance (over_loop turn))) e ∙ passed) (ap (λ x. x + 2 + 2) e) z)

  -- the state at the first turn
  abbrev begun : Core → Core
  begun u = record (tested u) { pc = p + 8; work = put u.work 5 address }

  begins : (u : Core) → u.pc ≡ p → u.work 4 < 0x10000 → 0 < u.work 4 → Comes code [] 3 5 u (λ v. v ≡ begun u)
  begins u e l some =
      let s : Core = record (tested u) { pc = p + 2 + 2 } in
      let there : p + 2 + 2 + 4 ≡ p + 8 = omega arith in
      then_on (test false u e (zero_flag (u.work 4) l some))
      (form_comes (anywhere code) tidy (Move (Number address) (ToRegister R5)) s (begun u) [] 2 (λ v. v ≡ begun u) stands.1.1.0 (tt, tt)
      (ap (λ x. Goes [] 2 (record s { pc = x; work = put u.work 5 address })) there) refl)

  -- the state behind a count
  abbrev one_less : Core → Core
  one_less u = behind (Calculate Sub (Constant One) R4 ∷ []) u

  -- where it goes on with so many turns left
  abbrev goes_on : ℕ → ℕ
  goes_on zero = p + (12 + bytes)
  goes_on (suc n) = p + 8

  count : (n : ℕ) (b : Bool) (u : Core) → u.pc ≡ p + (8 + bytes) → u.work 4 ≡ suc n → suc n < 0x10000 → ((u.work 4 + 65534 + 1) % 65536 == 0) ≡ b
      → Comes code [] 2 3 u (λ v. v ≡ record (one_less u) { pc = if not b then p + 8 else p + (12 + bytes); work = put u.work 4 n })
  count n b u e c l z =
      let to : ℕ = if not b then p + 8 else p + (12 + bytes) in
      let less : (u.work 4 + 65534 + 1) % 65536 ≡ n = omega (arith, c, l) in
      so_ends (then_on (straight code tidy (Calculate Sub (Constant One) R4 ∷ []) u (tt, tt) (ap code.at e ∙ count_there.0, tt) ((tt, tt), tt) refl)
      (jumps code tidy NotEqual (back_to_turn turn) (p + 8) (p + (12 + bytes)) (not b) (one_less u) (ap (λ x. code.at (x + 2)) e ∙ count_there.1.0)
      (ap (λ x. word_sum (x + 2 + 2) (distance (back_to_turn turn))) e ∙ again) (ap (λ x. x + 2 + 2) e ∙ omega arith) (ap not z)))
      (λ v is. is ∙ ap (λ k. record (one_less u) { pc = to; work = put u.work 4 k }) less)

  counts : (n : ℕ) (u : Core) → u.pc ≡ p + (8 + bytes) → u.work 4 ≡ suc n → suc n < 0x10000
      → Comes code [] 2 3 u (λ v. v ≡ record (one_less u) { pc = goes_on n; work = put u.work 4 n })
  counts zero u e c l = count 0 true u e c l (last_flag (u.work 4) c)
  counts (suc n) u e c l = count (suc n) false u e c l (more_flag (u.work 4) n (omega (arith, c, l)) c)

  module _ {X : Type 0} (t : Turning X) (turns : (n : ℕ) (x : X) (u : Core) → t.Ready (suc n) x u.work → Turn code loop t n x (in_front loop t (suc n) x u))
      (out : (x : X) (u : Core) → IsAt (loop_ends loop) (t.memory x) (t.inputs x) u → t.Ready 0 x u.work → Makes code t 0 x u) where
    -- from in front of a turn on, or behind the last one
    rest : (n : ℕ) (x : X) (u : Core) → n < 0x10000 → IsAt (goes_on n) (t.memory x) (t.inputs x) u → u.work 4 ≡ n → u.work 5 ≡ t.next x
        → t.Ready n x u.work → Makes code t n x u
    rest zero x u l at c q r = out x u at r
    rest (suc n) x u l at c q r =
        let k = turns n x u r in
        let e = sym at.pc in let f = sym at.fram in let j = sym at.inputs in let w = put_both u.work (suc n) (t.next x) c q in
        let here : in_front loop t (suc n) x u ≡ u = λ i. record u { pc = e i; fram = f i; inputs = j i; work = w i } in
        let back : (v : Core) → IsBehind t (count_at loop) n k.to v
        → Comes code (t.made n k.to) (2 + t.steps n k.to) (3 + t.cycles n k.to) v (t.Done n k.to) = λ v h.
        then_on (counts n v h.at.pc h.left l)
        (rest n k.to (record (one_less v) { pc = goes_on n; work = put v.work 4 n }) (omega (arith, l))
        (record { pc = refl; fram = h.at.fram; inputs = h.at.inputs }) refl h.next
        (t.stays n k.to v.work (put v.work 4 n) (λ b high. put_other v.work 4 n b (λ i. omega (arith, high, i))) h.ready)) in
        subst (λ v. Makes code t (suc n) x v) here
        (subst (λ es. Comes code es (t.steps (suc n) x) (t.cycles (suc n) x) (in_front loop t (suc n) x u) (t.Done (suc n) x)) k.made
        (recounted k.all_steps k.all_cycles (so_ends (comes_on k.comes back) k.done)))

    -- a loop of n turns
    pub loops : (n : ℕ) (x : X) (u : Core) → n < 0x10000 → IsAt p (t.memory x) (t.inputs x) u → u.work 4 ≡ n → t.next x ≡ address → t.Ready n x u.work
        → Comes code (t.made n x) (2 + if_any n 1 + t.steps n x) (3 + if_any n 2 + t.cycles n x) u (t.Done n x)
    loops zero x u l at c q r =
        then_on (test true u at.pc (ap (λ n. (n + 65535 + 1) % 65536 == 0) c))
        (out x (record (tested u) { pc = p + (12 + bytes) }) (record { pc = refl; fram = at.fram; inputs = at.inputs }) r)
    loops (suc n) x u l at c q r =
        then_on (begins u at.pc (omega (arith, c, l)) (omega (arith, c)))
        (rest (suc n) x (begun u) l (record { pc = refl; fram = at.fram; inputs = at.inputs }) c (sym q)
        (t.stays (suc n) x u.work (put u.work 5 address) (λ b high. put_other u.work 5 address b (λ i. omega (arith, high, i))) r))
