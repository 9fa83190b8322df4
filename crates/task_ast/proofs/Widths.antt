-- Types of one word.
use Rattle.std.proofs.Common.{◌≡◌, ◌≤◌, ℕ, Bool, true, false, refl, if◌then◌else◌}
use Rattle.std.specs.Prelude.{nat_le}
use Rattle.task_ast.specs.declared.WordType.{WordType}
use Rattle.task_ast.specs.declared.WordType.TheVariants.{Unsigned, Int, Long}
use Rattle.task_ast.specs.declared.UnaryOperator.{UnaryOperator}
use Rattle.task_ast.specs.declared.UnaryOperator.TheVariants.{Negate, Complement, Not}
use Rattle.task_ast.specs.declared.BinaryOperator.{BinaryOperator}
use Rattle.task_ast.specs.declared.BinaryOperator.TheVariants.{Multiply, Divide, Remainder, Add, Subtract, And, Xor, Or}
use Rattle.task_ast.specs.Types.{IsOneWord, by_width, joined_type, quotient_type, binary_type, unary_type, literal_type}

-- of a type of one word it is the first of two
pub by_one_word : {A : Type 0} (t : WordType) (one two : A) → IsOneWord t → by_width t one two ≡ one
by_one_word Long one two h = absurd h
by_one_word Int one two h = refl
by_one_word Unsigned one two h = refl

-- no less than the lesser of the two
pub width_least : (t : WordType) (least one two : ℕ) → least ≤ one → least ≤ two → least ≤ by_width t one two
width_least Long least one two h k = k
width_least Int least one two h k = h
width_least Unsigned least one two h k = h

pub joined_word : (s t : WordType) → IsOneWord s → IsOneWord t → IsOneWord (joined_type s t)
joined_word Long t h k = h
joined_word Int t h k = k
joined_word Unsigned Long h k = k
joined_word Unsigned Int h k = tt
joined_word Unsigned Unsigned h k = tt

quotient_word : (t : WordType) → IsOneWord t → IsOneWord (quotient_type t)
quotient_word Long h = h
quotient_word Int h = tt
quotient_word Unsigned h = tt

pub binary_word : (op : BinaryOperator) (s t : WordType) → IsOneWord s → IsOneWord t → IsOneWord (binary_type op s t)
binary_word Multiply s t h k = joined_word s t h k
binary_word Divide s t h k = quotient_word (joined_type s t) (joined_word s t h k)
binary_word Remainder s t h k = quotient_word (joined_type s t) (joined_word s t h k)
binary_word Add s t h k = joined_word s t h k
binary_word Subtract s t h k = joined_word s t h k
binary_word And s t h k = joined_word s t h k
binary_word Xor s t h k = joined_word s t h k
binary_word Or s t h k = joined_word s t h k
binary_word _ s t h k = tt

pub unary_word : (op : UnaryOperator) (t : WordType) → IsOneWord t → IsOneWord (unary_type op t)
unary_word Negate t h = h
unary_word Complement t h = h
unary_word Not t h = tt

pub literal_word : (n : ℕ) → IsOneWord (literal_type n)
literal_word n = by (nat_le n 32767)
  where
    by : (b : Bool) → IsOneWord (if b then Int else Unsigned)
    by true = tt
    by false = tt
