-- What the code of tasks is made of, and how much it takes: its bytes, with those of the pushes that are owed for words that wait. One walk shows both.
use Rattle.word_code.proofs.Names.{◌≡◌, ℕ, zero, suc, ◌+◌, ◌-◌, ◌*◌, ◌<◌, ◌≤◌, List, [], ◌∷◌, ◌++◌, refl, arith, Bool, true, false, nat_le, nat_lt, max}
use Rattle.word_code.proofs.Names.{eqb-true, ◌==◌, if◌then◌else◌, nat_tests, source_bytes, Source, Register, WorkRegister, R5, ToRegister, Form, Move, Push}
use Rattle.word_code.proofs.Names.{Jump, form_bytes, forms_bytes, forms_bytes-append, ShiftOperation, Left, Right, SignedRight, right_words, shift_words}
use Rattle.word_code.proofs.Names.{Waiting, waiting_source, Option, Some, None, flushed, top_of, source_from, below_top, any_held, cleared, kept, number_source}
use Rattle.word_code.proofs.Names.{four_from, five_from, top_to_four, top_to_five, two_to_registers, repeated, double, halve, right_code, shift_by, last_bit}
use Rattle.word_code.proofs.Names.{shift_code, shift_middle, stack_base}
use Rattle.word_code.specs.TaskForms.{EachForm, IsTaskSource, IsTaskForm}
use Rattle.word_code.specs.declared.waiting.Waiting.TheVariants as waiting
use Rattle.word_code.proofs.Operands.{number_cases}

-- a source that the code of a task reads, whose locals are below a number
abbrev pub IsRead : ℕ → Source → Type 0
IsRead k x = IsTaskSource (stack_base k) x

-- a form of that code: its jumps reach no further than ten bits say
abbrev pub IsCoded : ℕ → Form → Type 0
IsCoded k (Jump c offset) = offset < 0x400
IsCoded k m = IsTaskForm (stack_base k) m

pub each-append : (F : Form → Type 0) (a b : List Form) → EachForm F a → EachForm F b → EachForm F (a ++ b)
each-append F [] b h i = i
each-append F (m ∷ a) b h i = (h.0, each-append F a b h.1 i)

-- code of such forms, which with so many bytes left takes at most so many
pub record Takes (k : ℕ) (ms : List Form) (left most : ℕ) : Type 0 where
  pub each : EachForm (IsCoded k) ms
  pub bytes : forms_bytes ms + left ≤ most

module _ {k : ℕ} where
  -- the same by other numbers
  pub so_takes : {ms : List Form} {i j m n : ℕ} → Takes k ms i m → j + m ≤ n + i → Takes k ms j n
  so_takes x l = record { each = x.each; bytes = omega (arith, x.bytes, l) }

  -- two parts, one behind the other
  pub behind : {a b : List Form} {i j m n : ℕ} → Takes k a i m → Takes k b j n → Takes k (a ++ b) (i + j) (m + n)
  behind {a} {b} x y = record { each = each-append (IsCoded k) a b x.each y.each; bytes = omega (arith, forms_bytes-append a b, x.bytes, y.bytes) }

  -- the same by other numbers
  pub joined : {a b : List Form} {i j m n left most : ℕ} → Takes k a i m → Takes k b j n → left + (m + n) ≤ most + (i + j) → Takes k (a ++ b) left most
  joined x y l = so_takes (behind x y) l

  pub either_takes : (b : Bool) {x y : List Form} {left : ℕ} (n : Bool → ℕ) → Takes k x left (n true) → Takes k y left (n false)
      → Takes k (if b then x else y) left (n b)
  either_takes true n h i = h
  either_takes false n h i = i

  pub nothing_takes : (left most : ℕ) → left ≤ most → Takes k [] left most
  nothing_takes left most l = record { each = tt; bytes = omega arith }

  -- forms that stand there
  pub made_of : (ms : List Form) (most : ℕ) → EachForm (IsCoded k) ms → forms_bytes ms ≤ most → Takes k ms 0 most
  made_of ms most h l = record { each = h; bytes = omega (arith, l) }

-- ---- sources

pub number_bytes : (n : ℕ) → source_bytes (number_source n) ≤ 2
number_bytes n = number_cases (λ s. source_bytes s ≤ 2) n (omega arith) (λ c e. omega arith)

pub number_is : (k n : ℕ) → IsRead k (number_source n)
number_is k n = number_cases (IsRead k) n tt (λ c e. tt)

waiting_is : (k : ℕ) (o : Waiting) → IsRead k (waiting_source o)
waiting_is k (waiting.Number n) = number_is k n
waiting_is k _ = tt

pub source_is : (k : ℕ) (o : Option Waiting) → IsRead k (source_from o)
source_is k None = tt
source_is k (Some o) = waiting_is k o

-- so is a word that stays or comes to a register
pub side_is : (k : ℕ) (stays : Bool) (o : Option Waiting) (b : WorkRegister) → IsRead k (if stays then source_from o else (Register b))
side_is k true o b = source_is k o
side_is k false o b = tt

-- ---- what pushes take

-- the bytes of a push that waits, at most
abbrev pub kept_bytes_of : Waiting → ℕ
kept_bytes_of (waiting.Number n) = 4
kept_bytes_of (waiting.Fram a) = 4
kept_bytes_of (waiting.Local n) = 4
kept_bytes_of waiting.R4 = 2
kept_bytes_of waiting.R6 = 2

abbrev pub kept_bytes : List Waiting → ℕ
kept_bytes [] = 0
kept_bytes (o ∷ os) = kept_bytes os + kept_bytes_of o

push_short : (o : Waiting) → form_bytes (Push (waiting_source o)) ≤ kept_bytes_of o
push_short (waiting.Number n) = omega (arith, number_bytes n)
push_short _ = omega arith

-- the top as a source takes no more than its push, also where two instructions read it
pub source_short : (os : List Waiting) → 2 * source_bytes (source_from (top_of os)) + kept_bytes (below_top os) ≤ kept_bytes os
source_short (waiting.Number n ∷ os) = omega (arith, number_bytes n)
source_short _ = omega arith

-- ---- the place of the stack

-- the bytes of what sets it, for locals below a number
abbrev pub set_bytes : ℕ → ℕ
set_bytes locals = if nat_lt 8 locals then 4 else 0

pub set_small : (n : ℕ) → set_bytes n ≤ 4
set_small n = grind (arith, nat_tests)

-- of the greater of two numbers they are those of one of them
pub set_most : (a b : ℕ) → set_bytes (max a b) ≤ set_bytes a + set_bytes b
set_most a b = grind (arith, nat_tests)

-- ---- shifts

-- a shift has few words
pub shift_most : (m n : ℕ) → n ≤ m + 1 → (if nat_le m 15 then (if nat_lt m 8 then n else (3 + (m - 8))) else 1) ≤ 10
shift_most m n l = grind (arith, nat_tests)

module _ {k : ℕ} where
  pub repeated_takes : (m : Form) (n : ℕ) → IsCoded k m → form_bytes m ≡ 2 → Takes k (repeated n m) 0 (2 * n)
  repeated_takes m zero h e = nothing_takes 0 0 (omega arith)
  repeated_takes m (suc n) h e = let r = repeated_takes m n h e in record { each = (h, r.each); bytes = omega (arith, e, r.bytes) }

  -- two instructions in front of the last part of a shift
  two_more : {a b : Form} {ms : List Form} (m n : ℕ) → IsCoded k a → IsCoded k b → form_bytes a + form_bytes b ≡ 2 * m → Takes k ms 0 (2 * n)
      → Takes k (a ∷ (b ∷ ms)) 0 (2 * (m + n))
  two_more m n h i e x = record { each = (h, (i, x.each)); bytes = omega (arith, e, x.bytes) }

  right_takes : (n : ℕ) → Takes k (right_code n) 0 (2 * right_words n)
  right_takes zero = nothing_takes 0 0 (omega arith)
  right_takes (suc n) = two_more 2 n tt tt refl (repeated_takes halve n tt refl)

  shift_by_takes : (o : ShiftOperation) (n : ℕ) → Takes k (shift_by o n) 0 (2 * shift_words o n)
  shift_by_takes Left n =
      either_takes (nat_lt n 8) (λ b. 2 * (if b then n else 3 + (n - 8))) (repeated_takes double n tt refl)
      (two_more 3 (n - 8) tt tt refl (repeated_takes double (n - 8) tt refl))
  shift_by_takes Right n =
      either_takes (nat_lt n 8) (λ b. 2 * (if b then right_words n else 3 + (n - 8))) (right_takes n)
      (two_more 3 (n - 8) tt tt refl (repeated_takes halve (n - 8) tt refl))
  shift_by_takes SignedRight n =
      either_takes (nat_lt n 8) (λ b. 2 * (if b then n else 2 + (n - 8))) (repeated_takes halve n tt refl)
      (two_more 2 (n - 8) tt tt refl (repeated_takes halve (n - 8) tt refl))

  -- a shift by 15 has fewer words
  shift_code_takes : (o : ShiftOperation) (n : ℕ) → Takes k (shift_code o n) 0 (2 * shift_words o n)
  shift_code_takes o n = by (n == 15) o refl
    where
      by : (b : Bool) (o : ShiftOperation) → (n == 15) ≡ b → Takes k (if b then last_bit o else (shift_by o n)) 0 (2 * shift_words o n)
      by false o e = shift_by_takes o n
      by true Left e = record { each = search arith; bytes = rw (eqb-true n 15 e) omega arith }
      by true _ e = record { each = search arith; bytes = rw (eqb-true n 15 e) omega arith }

  pub shift_takes : (o : ShiftOperation) (n : ℕ) → Takes k (shift_middle o n) 0 (2 * (if nat_le n 15 then shift_words o n else 1))
  shift_takes o n =
      either_takes (nat_le n 15) (λ b. 2 * (if b then shift_words o n else 1)) (shift_code_takes o n) (record { each = ((tt, tt), tt); bytes = omega arith })

  -- ---- words that wait

  pub flushed_takes : (os : List Waiting) → Takes k (flushed os) 0 (kept_bytes os)
  flushed_takes [] = nothing_takes 0 0 (omega arith)
  flushed_takes (o ∷ os) =
      joined (flushed_takes os) (made_of (Push (waiting_source o) ∷ []) (kept_bytes_of o) (waiting_is k o, tt) (omega (arith, push_short o))) (omega arith)

  -- where all are pushed or all go on waiting
  pub cleared_by : (b : Bool) (os : List Waiting) → Takes k (if b then flushed os else []) (kept_bytes (if b then [] else os)) (kept_bytes os)
  cleared_by true os = flushed_takes os
  cleared_by false os = nothing_takes (kept_bytes os) (kept_bytes os) (omega arith)

  pub cleared_takes : (os : List Waiting) → Takes k (cleared os) (kept_bytes (kept os)) (kept_bytes os)
  cleared_takes os = cleared_by (any_held os) os

  -- a word that is read where it stays, or in the register to which it comes, with the extension words of two instructions that read it
  pub side_takes : (stays : Bool) (b : WorkRegister) (os : List Waiting)
      → Takes k (if stays then [] else (Move (source_from (top_of os)) (ToRegister b) ∷ []))
      (2 * source_bytes (if stays then source_from (top_of os) else (Register b)) + kept_bytes (below_top os)) (2 + kept_bytes os)
  side_takes true b os = record { each = tt; bytes = omega (arith, source_short os) }
  side_takes false b os = record { each = ((source_is k (top_of os), tt), tt); bytes = omega (arith, source_short os) }

  pub five_takes : (os : List Waiting) → Takes k (five_from (top_of os)) (kept_bytes (below_top os)) (2 + kept_bytes os)
  five_takes os = so_takes (side_takes false R5 os) (omega arith)

  pub four_takes : (os : List Waiting) → Takes k (four_from (top_of os)) (kept_bytes (below_top os)) (2 + kept_bytes os)
  four_takes (waiting.Number n ∷ os) = record { each = ((number_is k n, tt), tt); bytes = omega (arith, number_bytes n) }
  four_takes (waiting.R4 ∷ os) = nothing_takes (kept_bytes os) (2 + (kept_bytes os + 2)) (omega arith)
  four_takes os = record { each = ((tt, tt), tt); bytes = omega arith }

  pub top_to_four_takes : (os : List Waiting) → Takes k (top_to_four os) (kept_bytes (kept (below_top os))) (2 + kept_bytes os)
  top_to_four_takes os = joined (cleared_takes (below_top os)) (four_takes os) (omega arith)

  pub top_to_five_takes : (os : List Waiting) → Takes k (top_to_five os) (kept_bytes (kept (below_top os))) (2 + kept_bytes os)
  top_to_five_takes os = joined (cleared_takes (below_top os)) (five_takes os) (omega arith)

  pub two_takes : (os : List Waiting) → Takes k (two_to_registers os) (kept_bytes (kept (below_top (below_top os)))) (4 + kept_bytes os)
  two_takes os = let under = below_top os in joined (cleared_takes (below_top under)) (behind (five_takes os) (four_takes under)) (omega arith)
