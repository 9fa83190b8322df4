-- The types and values of the numbers that the code works with.
use Rattle.std.specs.Prelude.{ℕ}
use Rattle.task_ast.specs.declared.WordType.{WordType}
use Rattle.task_ast.specs.declared.WordType.TheVariants as word_type
use Rattle.source_values.specs.declared.numbers.Number.{Number}
use Rattle.source_values.specs.declared.numbers.Number.TheVariants.{Unsigned, Int, Long}

abbrev pub number_type : Number → WordType
number_type (Unsigned w) = word_type.Unsigned
number_type (Int w) = word_type.Int
number_type (Long n) = word_type.Long

abbrev pub number_value : Number → ℕ
number_value (Unsigned w) = w
number_value (Int w) = w
number_value (Long n) = n
