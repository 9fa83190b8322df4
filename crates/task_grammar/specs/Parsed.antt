-- The trees that the parser makes: those of a source whose names of variables, functions and tasks are
-- places in its text.
use Rattle.alp_text.specs.declared.lines.Span.{Span}
use Rattle.task_ast.specs.declared.Parameter as declared
use Rattle.task_ast.specs.Tree as tree

-- an expression
abbrev pub Expression : Type 0
Expression = tree.Expression Span Span

-- the values of a call
abbrev pub Values : Type 0
Values = tree.Values Span Span

-- a statement
abbrev pub Statement : Type 0
Statement = tree.Statement Span Span Span

-- statements in braces
abbrev pub Block : Type 0
Block = tree.Block Span Span Span

-- a condition and its block
abbrev pub Tested : Type 0
Tested = tree.Tested Span Span Span

-- a parameter of a function
abbrev pub Parameter : Type 0
Parameter = declared.Parameter Span

-- a function
abbrev pub Function : Type 0
Function = tree.Function Span Span Span

-- a task
abbrev pub Task : Type 0
Task = tree.Task Span Span Span

-- a whole source
abbrev pub Program : Type 0
Program = tree.Program Span Span Span
