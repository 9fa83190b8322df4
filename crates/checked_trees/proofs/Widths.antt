-- Which types are long where others are.
use Rattle.std.proofs.Common.{◌≡◌, true, false, List, Option, Some, None, refl}
use Rattle.std.specs.Prelude.{slice_get, IsSomeAnd}
use Rattle.task_ast.specs.declared.Extent.{Extent}
use Rattle.task_ast.specs.declared.Extent.TheVariants as extent
use Rattle.task_ast.specs.declared.SharedDeclaration.{SharedDeclaration}
use Rattle.task_ast.specs.declared.names.Variable.{Variable}
use Rattle.task_ast.specs.declared.names.Variable.TheVariants.{Shared, Local}
use Rattle.task_ast.specs.declared.WordType.{WordType}
use Rattle.task_ast.specs.declared.WordType.TheVariants.{Unsigned, Int, Long}
use Rattle.task_ast.specs.declared.UnaryOperator.{UnaryOperator}
use Rattle.task_ast.specs.declared.UnaryOperator.TheVariants as unary
use Rattle.task_ast.specs.declared.BinaryOperator.{BinaryOperator}
use Rattle.task_ast.specs.declared.BinaryOperator.TheVariants.{Multiply, Divide, Remainder, Add, Subtract, And, Xor, Or}
use Rattle.task_ast.specs.Types.{is_long, IsOneWord, joined_type, quotient_type, binary_type, unary_type}
use Rattle.task_check.specs.Occurrences.{is_refused}
use Rattle.source_values.specs.Runs.{is_long_extent}
use Rattle.war_analysis.specs.Plans.{is_scalar}
use Rattle.checked_trees.specs.WellFormed.{IsOfType, IsLocal, IsArrayName}

-- where the first type is long, the second is
abbrev pub IsAsWide : WordType → WordType → Type 0
IsAsWide s t = is_long s ≡ true → is_long t ≡ true

-- so is a type of one word
pub word_is_as_wide : (s t : WordType) → IsOneWord s → IsAsWide s t
word_is_as_wide Long t h = absurd h
word_is_as_wide Int t h = λ e. let never : false ≡ true = e in absurd (cc)
word_is_as_wide Unsigned t h = λ e. let never : false ≡ true = e in absurd (cc)

not_long : (s t : WordType) → IsAsWide s t → is_long t ≡ false → is_long s ≡ false
not_long Long t h e = let long : is_long t ≡ true = h refl in let never : true ≡ false = cc in absurd (cc)
not_long Int t h e = refl
not_long Unsigned t h e = refl

-- where the second has one word, so has the first
pub one_word_of : (s t : WordType) → IsAsWide s t → is_long t ≡ false → IsOneWord s
one_word_of Long t h e = let never : true ≡ false = not_long Long t h e in absurd (cc)
one_word_of Int t h e = tt
one_word_of Unsigned t h e = tt

long_left : (s t : WordType) → is_long s ≡ true → is_long (joined_type s t) ≡ true
long_left Long t h = refl
long_left Int t h = let never : false ≡ true = h in absurd (cc)
long_left Unsigned t h = let never : false ≡ true = h in absurd (cc)

long_right : (s t : WordType) → is_long t ≡ true → is_long (joined_type s t) ≡ true
long_right Long t h = refl
long_right Int t h = h
long_right Unsigned Long h = refl
long_right Unsigned Int h = h
long_right Unsigned Unsigned h = h

pub joined_as_wide : (s t u v : WordType) → IsAsWide s u → IsAsWide t v → IsAsWide (joined_type s t) (joined_type u v)
joined_as_wide Long t u v h k = λ e. long_left u v (h refl)
joined_as_wide Int t u v h k = λ e. long_right u v (k e)
joined_as_wide Unsigned Long u v h k = λ e. long_right u v (k refl)
joined_as_wide Unsigned Int u v h k = λ e. let never : false ≡ true = e in absurd (cc)
joined_as_wide Unsigned Unsigned u v h k = λ e. let never : false ≡ true = e in absurd (cc)

quotient_as_wide : (s t : WordType) → IsAsWide s t → IsAsWide (quotient_type s) (quotient_type t)
quotient_as_wide Long Long h = λ e. refl
quotient_as_wide Long Int h = h
quotient_as_wide Long Unsigned h = h
quotient_as_wide Int t h = λ e. let never : false ≡ true = e in absurd (cc)
quotient_as_wide Unsigned t h = λ e. let never : false ≡ true = e in absurd (cc)

pub unary_as_wide : (op : UnaryOperator) (s t : WordType) → IsAsWide s t → IsAsWide (unary_type op s) (unary_type op t)
unary_as_wide unary.Negate s t h = h
unary_as_wide unary.Complement s t h = h
unary_as_wide unary.Not s t h = λ e. e

pub binary_as_wide : (op : BinaryOperator) (s t u v : WordType) → IsAsWide s u → IsAsWide t v → IsAsWide (binary_type op s t) (binary_type op u v)
binary_as_wide Multiply s t u v h k = joined_as_wide s t u v h k
binary_as_wide Divide s t u v h k = quotient_as_wide (joined_type s t) (joined_type u v) (joined_as_wide s t u v h k)
binary_as_wide Remainder s t u v h k = quotient_as_wide (joined_type s t) (joined_type u v) (joined_as_wide s t u v h k)
binary_as_wide Add s t u v h k = joined_as_wide s t u v h k
binary_as_wide Subtract s t u v h k = joined_as_wide s t u v h k
binary_as_wide And s t u v h k = joined_as_wide s t u v h k
binary_as_wide Xor s t u v h k = joined_as_wide s t u v h k
binary_as_wide Or s t u v h k = joined_as_wide s t u v h k
binary_as_wide _ s t u v h k = λ e. e

-- an operator that wider operands aren't refused isn't refused these
pub not_refused : (op : BinaryOperator) (s t : WordType) → IsAsWide s t → is_refused op t ≡ false → is_refused op s ≡ false
not_refused Multiply s t h e = not_long s t h e
not_refused Divide s t h e = not_long s t h e
not_refused Remainder s t h e = not_long s t h e
not_refused _ s t h e = refl

-- ---- names of a type

-- an array isn't long
pub array_word : (shared : List SharedDeclaration) (of : WordType) (x : Variable) → IsArrayName shared x → IsOfType shared of x → IsOneWord of
array_word shared Int x h t = tt
array_word shared Unsigned x h t = tt
array_word shared Long (Local n) h t = absurd h
array_word shared Long (Shared v) h t = by (slice_get shared v) h t
  where
    no_array : (e : Extent) → is_scalar e ≡ false → is_long_extent e ≡ true → ⊥
    no_array (extent.Scalar w) h t = let never : true ≡ false = h in cc
    no_array (extent.Long n) h t = let never : true ≡ false = h in cc
    no_array (extent.Array n) h t = let never : false ≡ true = t in cc

    by : (o : Option SharedDeclaration) → IsSomeAnd o (λ d. is_scalar d.extent ≡ false) → IsSomeAnd o (λ d. is_long_extent d.extent ≡ true) → ⊥
    by None h t = h
    by (Some d) h t = no_array d.extent h t

-- nor is a local
pub local_word : (shared : List SharedDeclaration) (of : WordType) (x : Variable) → IsLocal x → IsOfType shared of x → IsOneWord of
local_word shared of (Shared v) h t = absurd h
local_word shared of (Local n) h t = t
