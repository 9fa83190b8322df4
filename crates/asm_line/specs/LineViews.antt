-- A line without where its names lie in memory.
use Rattle.std.specs.Prelude.{option_map}
use Rattle.asm_line.specs.declared.statements.Template.{Template}
use Rattle.asm_line.specs.declared.statements.Statement.{Statement}
use Rattle.asm_line.specs.declared.statements.Statement.TheVariants as statement
use Rattle.asm_line.specs.declared.statements.Line.{Line}
use Rattle.asm_line.specs.Views.{located}
use Rattle.asm_line.specs.ValueViews.{meaning_of}
use Rattle.asm_line.specs.Pieces.{parts}
use Rattle.asm_line.specs.Lines.{TemplateMeaning, StatementMeaning, nothing, org, words, jump, instruction, LineMeaning, values_of}

-- what an instruction with open values means
abbrev pub template_meaning : Template → TemplateMeaning
template_meaning t = record { instr = t.instr; source = option_map meaning_of t.source; destination = option_map meaning_of t.destination }

-- what a statement means
abbrev pub statement_meaning : Statement → StatementMeaning
statement_meaning statement.Nothing = nothing
statement_meaning (statement.Org v) = org (meaning_of v)
statement_meaning (statement.Words w) = words (values_of (parts 44 (located w.list)))
statement_meaning (statement.Jump c v) = jump c (meaning_of v)
statement_meaning (statement.Instruction t) = instruction (template_meaning t)

-- what a line means
abbrev pub line_meaning : Line → LineMeaning
line_meaning l = record { label = option_map located l.label; statement = statement_meaning l.statement }
