-- The registers told apart.
use Rattle.std.proofs.Common.{◌≡◌, ◌/◌, ◌==◌, ◌*◌, ◌%◌, ◌≤◌, ◌<◌, ◌&&◌, ℕ, zero, suc, refl, sym, ap, Bool, true, false, arith}
use Rattle.std.specs.Prelude.{bit_or}
use mathlib.Core.Path.{fun_ext}
use Rattle.std.proofs.lemmas.Bool.Decides.{nat_tests}
use Rattle.machine_effects.specs.alp_words.declared.Flags.{Flags}
use Rattle.machine_effects.specs.alp_words.Words.{bit}
use Rattle.machine_effects.specs.msp_isa.Encoding.{index_number}
use Rattle.machine_effects.specs.msp_step.Registers.{Registers, with_register, kept}
use Rattle.machine_effects.specs.msp_step.Effect.{status_with, flags_of}
use Rattle.machine_effects.specs.msp_step.Step.{off_bit, enabled_bit, is_interruptible}
use Rattle.machine_effects.specs.fram_board.Bus.{is_word}
use Rattle.machine_effects.specs.World.{put}
use Rattle.machine_effects.specs.Machine.{MachineBoard, machine_powered}
use Rattle.machine_effects.proofs.Interface.{bit_low}
use Rattle.code_forms.specs.Laws.{PoweredHasACore}
use Rattle.code_forms.specs.Forms.{WorkRegister, R4, R5, R6, R7, R8, R9, R10, R11, R12, R13, R14, R15, work_number, index_of, register_file, board_of}
use Rattle.code_forms.specs.Forms.{control, clear_flags, core_of}

-- pointwise, and registers above 3 are those for work
pub set_pc : (p q v n : ℕ) (g : Bool) (f : Flags) (w : ℕ → ℕ) → v / 2 * 2 ≡ n → with_register (register_file p q g f w) 0 v ≡ register_file n q g f w
set_pc p q v n g f w e = fun_ext (λ m. grind (arith, nat_tests, e))

pub set_sp : (p q v n : ℕ) (g : Bool) (f : Flags) (w : ℕ → ℕ) → v / 2 * 2 ≡ n → with_register (register_file p q g f w) 1 v ≡ register_file p n g f w
set_sp p q v n g f w e = fun_ext (λ m. grind (arith, nat_tests, e))

pub set_work : (p q k v : ℕ) (g : Bool) (f : Flags) (w : ℕ → ℕ) → 4 ≤ k
    → with_register (register_file p q g f w) k v ≡ register_file p q g f (put w k v)
set_work p q k v g f w h = fun_ext (λ m. grind (arith, nat_tests, h))

pub get_work : (p q k : ℕ) (g : Bool) (f : Flags) (w : ℕ → ℕ) → 4 ≤ k → register_file p q g f w k ≡ w k
get_work p q k g f w h = grind (arith, nat_tests, h)

pub high : (b : WorkRegister) → 4 ≤ work_number b
high b = grind arith

pub number : (b : WorkRegister) → index_number (index_of b) ≡ work_number b
number R4 = refl
number R5 = refl
number R6 = refl
number R7 = refl
number R8 = refl
number R9 = refl
number R10 = refl
number R11 = refl
number R12 = refl
number R13 = refl
number R14 = refl
number R15 = refl

bit_test : (b : Bool) (n : ℕ) → n ≡ bit b → (n == 1) ≡ b
bit_test true n e = rw e refl
bit_test false n e = rw e refl

status_flags : (s : Bool) (f g : Flags) → kept 2 (status_with (status_with (control s) f) g) ≡ status_with (control s) g
status_flags true f g =
    let a = bit_low f.c in let b = bit_low f.z in let c = bit_low f.n in let d = bit_low f.v in
    let h = bit_low g.c in let i = bit_low g.z in let j = bit_low g.n in let k = bit_low g.v in
    omega arith
status_flags false f g =
    let a = bit_low f.c in let b = bit_low f.z in let c = bit_low f.n in let d = bit_low f.v in
    let h = bit_low g.c in let i = bit_low g.z in let j = bit_low g.n in let k = bit_low g.v in
    omega arith

pub set_flags : (p q : ℕ) (s : Bool) (f g : Flags) (w : ℕ → ℕ)
    → with_register (register_file p q s f w) 2 (status_with (status_with (control s) f) g) ≡ register_file p q s g w
set_flags p q s f g w = fun_ext (λ m. let e = status_flags s f g in grind (arith, nat_tests, e))

-- GIE is bit 3 of SR
set_bit : (s n z c v : Bool) → let f : Flags = record { n = n; z = z; c = c; v = v } in kept 2 (bit_or (status_with (control s) f) 8) ≡ status_with 8 f
set_bit true true true true true = refl
set_bit true true true true false = refl
set_bit true true true false true = refl
set_bit true true true false false = refl
set_bit true true false true true = refl
set_bit true true false true false = refl
set_bit true true false false true = refl
set_bit true true false false false = refl
set_bit true false true true true = refl
set_bit true false true true false = refl
set_bit true false true false true = refl
set_bit true false true false false = refl
set_bit true false false true true = refl
set_bit true false false true false = refl
set_bit true false false false true = refl
set_bit true false false false false = refl
set_bit false true true true true = refl
set_bit false true true true false = refl
set_bit false true true false true = refl
set_bit false true true false false = refl
set_bit false true false true true = refl
set_bit false true false true false = refl
set_bit false true false false true = refl
set_bit false true false false false = refl
set_bit false false true true true = refl
set_bit false false true true false = refl
set_bit false false true false true = refl
set_bit false false true false false = refl
set_bit false false false true true = refl
set_bit false false false true false = refl
set_bit false false false false true = refl
set_bit false false false false false = refl

pub enable : (p q : ℕ) (s : Bool) (f : Flags) (w : ℕ → ℕ)
    → with_register (register_file p q s f w) 2 (bit_or (status_with (control s) f) 8) ≡ register_file p q true f w
enable p q s f w = fun_ext (λ m. let e = set_bit s f.n f.z f.c f.v in grind (arith, nat_tests, e))

-- the flags of a status word, by its bits
flags_by : (r : ℕ) (f : Flags) → r / 4 % 2 ≡ bit f.n → r / 2 % 2 ≡ bit f.z → r % 2 ≡ bit f.c → r / 0x100 % 2 ≡ bit f.v → flags_of r ≡ f
flags_by r f n z c v =
    λ i. record {
      n = bit_test f.n (r / 4 % 2) n i;
      z = bit_test f.z (r / 2 % 2) z i;
      c = bit_test f.c (r % 2) c i;
      v = bit_test f.v (r / 0x100 % 2) v i;
    }

pub flags_back : (s : Bool) (f : Flags) → flags_of (status_with (control s) f) ≡ f
flags_back true f =
    let a = bit_low f.c in let b = bit_low f.z in let c = bit_low f.n in let d = bit_low f.v in
    flags_by (status_with 8 f) f (omega arith) (omega arith) (omega arith) (omega arith)
flags_back false f =
    let a = bit_low f.c in let b = bit_low f.z in let c = bit_low f.n in let d = bit_low f.v in
    flags_by (status_with 0 f) f (omega arith) (omega arith) (omega arith) (omega arith)

not_one : (n : ℕ) → n ≡ 0 → (n == 1) ≡ false
not_one n e = rw e refl

-- CPUOFF is clear
is_off_none : (p q : ℕ) (s : Bool) (f : Flags) (w : ℕ → ℕ) → off_bit (register_file p q s f w) ≡ 0
is_off_none p q true f w =
    let a = bit_low f.c in let b = bit_low f.z in let c = bit_low f.n in let d = bit_low f.v in omega arith
is_off_none p q false f w =
    let a = bit_low f.c in let b = bit_low f.z in let c = bit_low f.n in let d = bit_low f.v in omega arith

pub is_on : (p q : ℕ) (s : Bool) (f : Flags) (w : ℕ → ℕ) → (off_bit (register_file p q s f w) == 1) ≡ false
is_on p q s f w = not_one (off_bit (register_file p q s f w)) (is_off_none p q s f w)

-- GIE as a bit
enabled_is : (p q : ℕ) (s : Bool) (f : Flags) (w : ℕ → ℕ) → enabled_bit (register_file p q s f w) ≡ bit s
enabled_is p q true f w =
    let a = bit_low f.c in let b = bit_low f.z in let c = bit_low f.n in let d = bit_low f.v in omega arith
enabled_is p q false f w =
    let a = bit_low f.c in let b = bit_low f.z in let c = bit_low f.n in let d = bit_low f.v in omega arith

both_tests : (s : Bool) (m n : ℕ) → m ≡ 0 → n ≡ bit s → ((m == 0) && (n == 1)) ≡ s
both_tests true m n a b = rw (a, b) refl
both_tests false m n a b = rw (a, b) refl

-- so the CPU accepts interrupts where it is set
pub interruptible_is : (p q : ℕ) (s : Bool) (f : Flags) (w : ℕ → ℕ) → is_interruptible (register_file p q s f w) ≡ s
interruptible_is p q s f w =
    let r = register_file p q s f w in both_tests s (off_bit r) (enabled_bit r) (is_off_none p q s f w) (enabled_is p q s f w)

-- a word's address is no port
pub no_port : (a n : ℕ) → is_word a ≡ true → n < 0x1C00 → (a == n) ≡ false
no_port a n h l = grind (arith, nat_tests)

-- a machine as power-up leaves it has its registers told apart
at_register : (r : Registers) (n : ℕ) → r 2 ≡ 0 → r 3 ≡ 0 → r n ≡ register_file (r 0) (r 1) false clear_flags r n
at_register r zero sr r3 = refl
at_register r (suc zero) sr r3 = refl
at_register r (suc (suc zero)) sr r3 = sr
at_register r (suc (suc (suc zero))) sr r3 = r3
at_register r (suc (suc (suc (suc n)))) sr r3 = sym (get_work (r 0) (r 1) (suc (suc (suc (suc n)))) false clear_flags r (omega arith))

pub told_apart : (s : MachineBoard) → s.registers 2 ≡ 0 → s.registers 3 ≡ 0 → s ≡ board_of (core_of s)
told_apart s sr r3 = let e = fun_ext (λ n. at_register s.registers n sr r3) in ap (λ r. record s { registers = r }) e

-- a machine that was powered up has its registers told apart
pub powered_has_a_core : PoweredHasACore
powered_has_a_core s p = told_apart (machine_powered s p) refl refl
