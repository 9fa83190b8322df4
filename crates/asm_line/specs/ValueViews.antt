-- A value without where its name lies in memory.
use Rattle.asm_line.specs.declared.values.Value.{Value}
use Rattle.asm_line.specs.declared.values.Value.TheVariants as value
use Rattle.asm_line.specs.Values.{ValueMeaning, number, out_of_range, label, here}
use Rattle.asm_line.specs.Views.{located}

-- what a value means
abbrev pub meaning_of : Value → ValueMeaning
meaning_of (value.Number n) = number n
meaning_of (value.OutOfRange n) = out_of_range n
meaning_of (value.Label p) = label (located p)
meaning_of value.Here = here
