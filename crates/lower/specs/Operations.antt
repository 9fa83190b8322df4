-- What the operators of a source stand for.
use Rattle.std.specs.Prelude.{ℕ, if◌then◌else◌, Option, Some, None}
use Rattle.task_check.specs.Occurrences.{is_refused}
use Rattle.task_ast.specs.declared.WordType.{WordType}
use Rattle.task_ast.specs.declared.WordType.TheVariants.{Unsigned, Int, Long}
use Rattle.task_ast.specs.declared.BinaryOperator.{BinaryOperator}
use Rattle.task_ast.specs.declared.BinaryOperator.TheVariants as operator
use Rattle.task_ast.specs.declared.ShiftOperator.{ShiftOperator}
use Rattle.task_ast.specs.declared.ShiftOperator.TheVariants as shift_operator
use Rattle.array_versions.specs.declared.operations.PlainOperation.{PlainOperation}
use Rattle.array_versions.specs.declared.operations.PlainOperation.TheVariants as plain
use Rattle.array_versions.specs.declared.operations.BinaryOperation.TheVariants as operation
use Rattle.array_versions.specs.declared.operations.Comparison.{Comparison}
use Rattle.array_versions.specs.declared.operations.Comparison.TheVariants.{Equal, Below, Above, SignedBelow, SignedAbove}
use Rattle.array_versions.specs.declared.operations.ShiftOperation.{ShiftOperation}
use Rattle.array_versions.specs.declared.operations.ShiftOperation.TheVariants.{Left, Right, SignedRight}
use Rattle.array_versions.specs.declared.operations.LongOperation.{LongOperation}
use Rattle.array_versions.specs.declared.operations.LongOperation.TheVariants.{ShiftLeft, ShiftRight}
use Rattle.lower.specs.declared.operations.BinaryMeaning.{BinaryMeaning}
use Rattle.lower.specs.declared.operations.BinaryMeaning.TheVariants.{Calculates, CommonBits, Holds, Fails}
use Rattle.lower.specs.declared.operations.LongQuestion.TheVariants as question
use Rattle.lower.specs.declared.operations.LongMeaning.{LongMeaning}
use Rattle.lower.specs.declared.operations.LongMeaning.TheVariants as meaning

-- whether one word is below another, by their joined type: as signed words where both are ints
abbrev pub below : WordType → Comparison
below Int = SignedBelow
below Unsigned = Below
below Long = Below

-- the same of above
abbrev pub above : WordType → Comparison
above Int = SignedAbove
above Unsigned = Above
above Long = Above

-- what an operator gives of two words of this joined type
abbrev pub binary_meaning : BinaryOperator → WordType → BinaryMeaning
binary_meaning operator.Multiply t = Calculates operation.Multiply
binary_meaning operator.Divide t = Calculates operation.Divide
binary_meaning operator.Remainder t = Calculates operation.Remainder
binary_meaning operator.Add t = Calculates (operation.Plain plain.Add)
binary_meaning operator.Subtract t = Calculates (operation.Plain plain.Subtract)
binary_meaning operator.Less t = Holds (below t)
binary_meaning operator.LessEqual t = Fails (above t)
binary_meaning operator.Greater t = Holds (above t)
binary_meaning operator.GreaterEqual t = Fails (below t)
binary_meaning operator.Equal t = Holds Equal
binary_meaning operator.NotEqual t = Fails Equal
binary_meaning operator.And t = CommonBits
binary_meaning operator.Xor t = Calculates (operation.Plain plain.Xor)
binary_meaning operator.Or t = Calculates (operation.Plain plain.Or)

-- the operation that is one instruction, of an operator that has one
abbrev pub plain_operation : BinaryOperator → Option PlainOperation
plain_operation operator.Add = Some plain.Add
plain_operation operator.Subtract = Some plain.Subtract
plain_operation operator.And = Some plain.And
plain_operation operator.Xor = Some plain.Xor
plain_operation operator.Or = Some plain.Or
plain_operation _ = None

-- the shift of a word of this type: to the right it copies the sign of an int
abbrev pub shift_operation : ShiftOperator → WordType → ShiftOperation
shift_operation shift_operator.Left t = Left
shift_operation shift_operator.Right Unsigned = Right
shift_operation shift_operator.Right Long = Right
shift_operation shift_operator.Right Int = SignedRight

-- ---- the same of longs

-- the type of the two operands that an operator takes, by their joined type: low words, where the checks refuse longs
abbrev pub operand_type : BinaryOperator → WordType → WordType
operand_type op of = if is_refused op of then Unsigned else of

-- what an operator gives of two longs. `*`, `/` and `%` take none, and a sum stands for them here
abbrev pub long_meaning : BinaryOperator → LongMeaning
long_meaning operator.Subtract = meaning.Calculates plain.Subtract
long_meaning operator.And = meaning.Calculates plain.And
long_meaning operator.Xor = meaning.Calculates plain.Xor
long_meaning operator.Or = meaning.Calculates plain.Or
long_meaning operator.Less = meaning.Holds question.Below
long_meaning operator.LessEqual = meaning.Fails question.Above
long_meaning operator.Greater = meaning.Holds question.Above
long_meaning operator.GreaterEqual = meaning.Fails question.Below
long_meaning operator.Equal = meaning.Fails question.Differ
long_meaning operator.NotEqual = meaning.Holds question.Differ
long_meaning _ = meaning.Calculates plain.Add

-- the shift of a long by a count of bits
abbrev pub long_shift : ShiftOperator → ℕ → LongOperation
long_shift shift_operator.Left k = ShiftLeft k
long_shift shift_operator.Right k = ShiftRight k
