-- Whether some path of a block goes on behind it.
use Rattle.std.specs.Prelude.{◌-◌, ◌==◌, Bool, true, false, ◌&&◌, ◌||◌, List, map}
use Rattle.task_ast.specs.Tree as t
use Rattle.task_ast.specs.Worked.{nowhere}
use Rattle.task_ast.specs.Paths.{CheckedStatement, CheckedChoice, CheckedBlock, CheckedFunction, Access, goes_on, BlockPath}

-- a function taken as one that returns at once: what it does is nobody else's
abbrev pub at_once : CheckedFunction → CheckedFunction
at_once f = record f { body = t.step (t.give nowhere (t.number 0)) t.end }

-- some path of the block makes no transition and doesn't return, where the calls of these functions come back
abbrev pub ReachesEnd : List CheckedFunction → CheckedBlock → Type 0
ReachesEnd fs b = (xs : List Access) × BlockPath (map at_once fs) b xs goes_on

abbrev mutual
  -- whether some path goes on, as it is found: a loop of no turns always does
  pub statement_falls_through : CheckedStatement → Bool
  statement_falls_through (t.declare _ _ _) = true
  statement_falls_through (t.assign _ _) = true
  statement_falls_through (t.store _ _ _) = true
  statement_falls_through (t.choose c) = choice_falls_through c
  statement_falls_through (t.loop _ from _ below _ body) = below - from == 0 || block_falls_through body
  statement_falls_through (t.emit _) = true
  statement_falls_through (t.give _ _) = false
  statement_falls_through (t.transition _ _) = false

  pub choice_falls_through : CheckedChoice → Bool
  choice_falls_through t.nothing = true
  choice_falls_through (t.otherwise b) = block_falls_through b
  choice_falls_through (t.test _ b more) = block_falls_through b || choice_falls_through more

  pub block_falls_through : CheckedBlock → Bool
  block_falls_through t.end = true
  block_falls_through (t.step s more) = statement_falls_through s && block_falls_through more
