-- From words an operation makes words, and states of words stay so.
use Rattle.std.proofs.Common.{◌≡◌, ℕ, zero, suc, ◌+◌, ◌-◌, ◌*◌, ◌/◌, ◌%◌, ◌^◌, ◌==◌, ◌<◌, List, [], ◌∷◌, Option, Some, Bool, true, false}
use Rattle.std.proofs.Common.{nat_eq, nat_lt, nat_le, subst, arith, if◌then◌else◌, ◌++◌, ◌≤◌, All, length}
use Rattle.std.specs.Prelude.{slice_index}
use Rattle.std.proofs.lemmas.Bool.Decides.{nat_tests}
use Rattle.std.proofs.lemmas.Nat.{and_le_l, or_lt, xor_lt}
use Rattle.std.proofs.lemmas.Option.{same_Some}
use Rattle.machine_effects.specs.alp_words.Words.{AreWords, is_negative}
use Rattle.machine_effects.specs.alp_words.declared.Width.TheVariants.{Word}
use Rattle.machine_effects.specs.fram_board.Effects.{Effect}
use Rattle.machine_effects.specs.World.{put}
use Rattle.machine_effects.specs.Inputs.{Look, Inputs, first_look, other_looks, TakesExactly}
use Rattle.machine_effects.proofs.Interface.{left_are_words, first_small, others_small}
use Rattle.array_versions.specs.declared.operations.UnaryOperation.{UnaryOperation}
use Rattle.array_versions.specs.declared.operations.UnaryOperation.TheVariants.{Negate, Complement}
use Rattle.array_versions.specs.declared.operations.BinaryOperation.{BinaryOperation}
use Rattle.array_versions.specs.declared.operations.BinaryOperation.TheVariants.{Multiply, Divide, Remainder, Plain}
use Rattle.array_versions.specs.declared.operations.PlainOperation.{PlainOperation}
use Rattle.array_versions.specs.declared.operations.PlainOperation.TheVariants.{Add, Subtract, And, Xor, Or}
use Rattle.array_versions.specs.declared.operations.ShiftOperation.{ShiftOperation}
use Rattle.array_versions.specs.declared.operations.ShiftOperation.TheVariants.{Left, Right, SignedRight}
use Rattle.array_versions.specs.declared.operations.LongOperation.{LongOperation}
use Rattle.array_versions.specs.declared.operations.LongOperation.TheVariants as with_longs
use Rattle.array_versions.specs.Operations.{unary_word, plain_word, binary_word, shifted_word, shift_word, stacked, long_at}
use Rattle.array_versions.specs.Operations.{plain_long, long_to_left, long_to_right, all_bits, long_result}
use Rattle.array_versions.specs.Behaviour.{WordState, is_place, with_stack, stored, with_local, parameter_words, called}
use Rattle.array_versions.specs.Laws.{IsStateOfWords}

pub unary_small : (op : UnaryOperation) (v : ℕ) → v < 0x10000 → unary_word op v < 0x10000
unary_small Negate v h = omega arith
unary_small Complement v h = omega arith

quotient_small : (b : Bool) (a d : ℕ) → a < 0x10000 → (if b then 0xFFFF else a / d) < 0x10000
quotient_small true a d h = omega arith
quotient_small false a d h = grind arith

rest_small : (b : Bool) (a d : ℕ) → a < 0x10000 → (if b then a else a % d) < 0x10000
rest_small true a d h = h
rest_small false a d h = grind arith

pub plain_small : (op : PlainOperation) (x y : ℕ) → x < 0x10000 → y < 0x10000 → plain_word op x y < 0x10000
plain_small Add x y h k = omega arith
plain_small Subtract x y h k = omega arith
plain_small And x y h k = let l = and_le_l x y in omega arith
plain_small Xor x y h k = xor_lt 16 x y h k
plain_small Or x y h k = or_lt 16 x y h k

pub binary_small : (op : BinaryOperation) (x y : ℕ) → x < 0x10000 → y < 0x10000 → binary_word op x y < 0x10000
binary_small Multiply x y h k = let p = x * y in omega arith
binary_small Divide x y h k = quotient_small (y == 0) x y h
binary_small Remainder x y h k = rest_small (y == 0) x y h
binary_small (Plain op) x y h k = plain_small op x y h k

small_by : (b : Bool) (y p : ℕ) → y < 0x10000 → (if b then 0xFFFF - (0xFFFF - y) / p else y / p) < 0x10000
small_by true y p h = omega arith
small_by false y p h = grind arith

shifted_small : (op : ShiftOperation) (y k : ℕ) → y < 0x10000 → shifted_word op y k < 0x10000
shifted_small Left y k h = let p = y * 2 ^ k in omega arith
shifted_small Right y k h = small_by false y (2 ^ k) h
shifted_small SignedRight y k h = small_by (is_negative Word y) y (2 ^ k) h

-- a word or 0 is a word
pub zero_unless : (b : Bool) (v : ℕ) → v < 0x10000 → (if b then v else 0) < 0x10000
zero_unless true v h = h
zero_unless false v h = omega arith

pub shift_small : (op : ShiftOperation) (y k : ℕ) → y < 0x10000 → shift_word op y k < 0x10000
shift_small op y k h = zero_unless (nat_le k 15) (shifted_word op y k) (shifted_small op y k h)

-- ---- operations with longs

-- one of words, and 0 past them, is a word
word_small : (ws : List ℕ) (i : ℕ) → AreWords ws → slice_index ws i < 0x10000
word_small [] i h = omega arith
word_small (w ∷ ws) zero h = h.0
word_small (w ∷ ws) (suc i) h = word_small ws i h.1

-- two words are a number below 2^32
long_small : (ws : List ℕ) (i : ℕ) → AreWords ws → long_at ws i < 0x100000000
long_small ws i h = omega (arith, word_small ws i h, word_small ws (i + 1) h)

-- and such a number is two words
pub stacked_words : (n : ℕ) → n < 0x100000000 → AreWords (stacked n)
stacked_words n h = (omega arith, (omega arith, tt))

pub plain_long_small : (op : PlainOperation) (a b : ℕ) → a < 0x100000000 → b < 0x100000000 → plain_long op a b < 0x100000000
plain_long_small Add a b h k = omega arith
plain_long_small Subtract a b h k = omega arith
plain_long_small And a b h k = let l = and_le_l a b in omega arith
plain_long_small Xor a b h k = xor_lt 32 a b h k
plain_long_small Or a b h k = or_lt 32 a b h k

-- a number below 2^32 or 0
long_or_zero : (b : Bool) (n : ℕ) → n < 0x100000000 → (if b then n else 0) < 0x100000000
long_or_zero true n h = h
long_or_zero false n h = omega arith

pub left_small : (a k : ℕ) → long_to_left a k < 0x100000000
left_small a k = let p = a * 2 ^ k in long_or_zero (nat_le k 31) (p % 0x100000000) (omega arith)

quotient_at_most : (a d : ℕ) → a / d ≤ a
quotient_at_most a d = grind arith

pub right_small : (a k : ℕ) → a < 0x100000000 → long_to_right a k < 0x100000000
right_small a k h = long_or_zero (nat_le k 31) (a / 2 ^ k) (omega (arith, quotient_at_most a (2 ^ k)))

sign_small : (b : Bool) → (if b then 0 else 65535) < 0x10000
sign_small true = omega arith
sign_small false = omega arith

mask_small : (b : Bool) → all_bits b < 0x10000
mask_small true = omega arith
mask_small false = omega arith

-- an operation with longs gives words
pub long_words : (op : LongOperation) (ws : List ℕ) → AreWords ws → AreWords (long_result op ws)
long_words (with_longs.Calculate op) ws h =
    stacked_words _ (plain_long_small op (long_at ws 2) (long_at ws 0) (long_small ws 2 h) (long_small ws 0 h))
long_words with_longs.Below ws h = (mask_small (nat_lt (long_at ws 2) (long_at ws 0)), tt)
long_words with_longs.Above ws h = (mask_small (nat_lt (long_at ws 0) (long_at ws 2)), tt)
long_words (with_longs.ShiftLeft k) ws h = stacked_words _ (left_small (long_at ws 0) k)
long_words (with_longs.ShiftRight k) ws h = stacked_words _ (right_small (long_at ws 0) k (long_small ws 0 h))
long_words with_longs.Complement ws h = stacked_words _ (omega arith)
long_words with_longs.Widen ws h =
    let sign = sign_small (nat_lt (slice_index ws 0) 32768) in
    stacked_words _ (omega (arith, word_small ws 0 h, sign))
long_words with_longs.Join ws h = stacked_words _ (long_small ws 0 h)
long_words with_longs.LowWord ws h = (word_small ws 1 h, tt)
long_words with_longs.HighWord ws h = (word_small ws 0 h, tt)

-- words on words
pub on_words : (vs us : List ℕ) → AreWords vs → AreWords us → AreWords (vs ++ us)
on_words [] us h k = k
on_words (v ∷ vs) us h k = (h.0, on_words vs us h.1 k)

put_by : (b : Bool) (v u : ℕ) → v < 0x10000 → u < 0x10000 → (if b then v else u) < 0x10000
put_by true v u h k = h
put_by false v u h k = k

-- FRAM with a word more holds words
pub put_words : (f : ℕ → ℕ) (a v : ℕ) → ((x : ℕ) → f x < 0x10000) → v < 0x10000 → (x : ℕ) → put f a v x < 0x10000
put_words f a v h l x = put_by (x == a) v (f x) l (h x)

assigned_by : (b : Bool) (o : Option ℕ) (v z : ℕ) → v < 0x10000 → ((y : ℕ) → o ≡ Some y → y < 0x10000) → (if b then Some v else o) ≡ Some z → z < 0x10000
assigned_by true o v z l h q = subst (λ n. n < 0x10000) (same_Some v z q) l
assigned_by false o v z l h q = h z q

-- a state with another stack of words
pub stack_words : (s : WordState) (vs : List ℕ) → IsStateOfWords s → AreWords vs → IsStateOfWords (with_stack vs s)
stack_words s vs w h = record { stack = h; locals = w.locals; fram = w.fram; inputs = w.inputs }

pub stored_words : (s : WordState) (a v : ℕ) → IsStateOfWords s → v < 0x10000 → IsStateOfWords (stored a v s)
stored_words s a v w h = record { stack = w.stack; locals = w.locals; fram = put_words s.fram a v w.fram h; inputs = w.inputs }

-- a local that is set to a word
pub local_words : (s : WordState) (n v : ℕ) → IsStateOfWords s → v < 0x10000 → IsStateOfWords (with_local n v s)
local_words s n v w h =
    record { stack = w.stack; locals = λ m z q. assigned_by (nat_eq m n) (s.locals m) v z h (w.locals m) q; fram = w.fram; inputs = w.inputs }

-- a function that is called with words
pub called_words : (s : WordState) (first : ℕ) (ws : List ℕ) → IsStateOfWords s → AreWords ws → IsStateOfWords (called first ws s)
called_words s first ws w h = record { stack = tt; locals = parameters ws h; fram = w.fram; inputs = w.inputs }
  where
    parameters : (ws : List ℕ) → AreWords ws → (n v : ℕ) → parameter_words first ws n ≡ Some v → v < 0x10000
    parameters [] h n v e = absurd (cc)
    parameters (x ∷ ws) h n v e =
        assigned_by (nat_eq n (first + length ws)) (parameter_words first ws n) x v h.0 (λ y. parameters ws h.1 n y) e

-- what effects leave of the inputs
pub input_words : (s : WordState) (es : List Effect) (left : Inputs) → TakesExactly es s.inputs left → IsStateOfWords s
    → IsStateOfWords (record s { inputs = left })
input_words s es left e w = record { stack = w.stack; locals = w.locals; fram = w.fram; inputs = left_are_words es s.inputs left e w.inputs }

-- what is seen second
pub second_look_words : (s : WordState) (looks : List Look) → s.inputs.looks ≡ looks → IsStateOfWords s → (a : ℕ)
    → first_look (other_looks looks) a < 0x10000
second_look_words s looks e w =
    first_small (other_looks looks) (others_small looks (subst (λ (l : List Look). All (λ look. (a : ℕ) → look a < 0x10000) l) e w.inputs.looks))

-- a place is an address
pub place_high : (a : ℕ) → is_place a ≡ true → a < 0x10000
place_high a e = grind (arith, nat_tests)
