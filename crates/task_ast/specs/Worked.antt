-- Parts of worked examples: where they stand in a text means nothing there.
use Rattle.alp_text.specs.declared.lines.Span.{Span}
use Rattle.task_ast.specs.declared.BinaryOperator.{BinaryOperator}
use Rattle.task_ast.specs.declared.PlacedOperator.{PlacedOperator}

abbrev pub nowhere : Span
nowhere = record { from = 0; to = 0 }

abbrev pub here : BinaryOperator → PlacedOperator
here op = record { operator = op; span = nowhere }
