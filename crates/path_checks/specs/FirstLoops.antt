-- The first bad loop, as it is found.
use Rattle.std.specs.Prelude.{Option, None, Some, if◌then◌else◌}
use Rattle.alp_text.specs.declared.lines.Span.{Span}
use Rattle.task_ast.specs.declared.names.VariableName.{VariableName}
use Rattle.task_ast.specs.Tree as t
use Rattle.task_ast.specs.Paths.{CheckedStatement, CheckedChoice, CheckedBlock}
use Rattle.path_checks.specs.Firsts.{first_of}
use Rattle.path_checks.specs.Loops.{is_good_loop}

-- the place of a loop with these names and this body, where it is bad
abbrev pub bad_head : VariableName → VariableName → VariableName → CheckedBlock → Option Span
bad_head a b c body = if is_good_loop a b c body then None else Some a.span

abbrev mutual
  pub bad_in_statement : CheckedStatement → Option Span
  bad_in_statement (t.declare _ _ _) = None
  bad_in_statement (t.assign _ _) = None
  bad_in_statement (t.store _ _ _) = None
  bad_in_statement (t.choose c) = bad_in_choice c
  bad_in_statement (t.loop a _ b _ c body) = first_of (bad_head a b c body) (bad_in_block body)
  bad_in_statement (t.emit _) = None
  bad_in_statement (t.give _ _) = None
  bad_in_statement (t.transition _ _) = None

  pub bad_in_choice : CheckedChoice → Option Span
  bad_in_choice t.nothing = None
  bad_in_choice (t.otherwise b) = bad_in_block b
  bad_in_choice (t.test _ b more) = first_of (bad_in_block b) (bad_in_choice more)

  pub bad_in_block : CheckedBlock → Option Span
  bad_in_block t.end = None
  bad_in_block (t.step statement more) = first_of (bad_in_statement statement) (bad_in_block more)
