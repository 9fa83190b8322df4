-- What the Rust values stand for.
use Rattle.array_versions.specs.View.{program_of, test_of}
pub use Rattle.variable_places.specs.View.{places_in}
use Rattle.lower.specs.declared.expressions.ExpressionProgram.{ExpressionProgram}
use Rattle.lower.specs.declared.expressions.ExpressionProgram.TheVariants.{Word, Test, Bits, Long}
use Rattle.lower.specs.Lowered.{Lowering, as_word, as_test, as_bits, as_long}

-- what an expression comes to
abbrev pub lowering_of : ExpressionProgram → Lowering
lowering_of (Word p) = as_word (program_of p)
lowering_of (Test c) = as_test (test_of c)
lowering_of (Bits p) = as_bits (program_of p)
lowering_of (Long p) = as_long (program_of p)
