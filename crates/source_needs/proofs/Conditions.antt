-- The program of a task has at least the choices of the task's conditions.
use Rattle.std.proofs.Common.{◌≡◌, ◌+◌, ◌≤◌, List, arith}
use Rattle.task_ast.specs.Tree as t
use Rattle.task_ast.specs.Paths.{CheckedStatement, CheckedChoice, CheckedBlock}
use Rattle.array_versions.specs.Program.{Program, nothing, step, joined}
use Rattle.memory_map.specs.Spots.{Places}
use Rattle.lower.specs.Lowered.{lowered_statement, lowered_choice, lowered_block}
use Rattle.dearest_ways.specs.Ways.{program_choices}
use Rattle.condition_lines.specs.Conditions.{statement_conditions, choice_conditions, block_conditions}

choices_joined : (p q : Program) → program_choices (joined p q) ≡ program_choices p + program_choices q
choices_joined nothing q = omega arith
choices_joined (step s p) q = let rest = choices_joined p q in omega (arith, rest)

mutual
  statement_few : (p : Places) (rs : List Program) (s : CheckedStatement) → statement_conditions s ≤ program_choices (lowered_statement p rs s)
  statement_few p rs (t.choose choice) = choice_few p rs choice
  statement_few p rs (t.loop x from tested below stepped body) = let h = block_few p rs body in omega (arith, h)
  statement_few p rs (t.declare of x e) = omega arith
  statement_few p rs (t.assign x e) = omega arith
  statement_few p rs (t.store x index e) = omega arith
  statement_few p rs (t.emit e) = omega arith
  statement_few p rs (t.give at e) = omega arith
  statement_few p rs (t.transition at task) = omega arith

  choice_few : (p : Places) (rs : List Program) (c : CheckedChoice) → choice_conditions c ≤ program_choices (lowered_choice p rs c)
  choice_few p rs t.nothing = omega arith
  choice_few p rs (t.otherwise block) = block_few p rs block
  choice_few p rs (t.test e block more) = let h = block_few p rs block in let k = choice_few p rs more in omega (arith, h, k)

  pub block_few : (p : Places) (rs : List Program) (b : CheckedBlock) → block_conditions b ≤ program_choices (lowered_block p rs b)
  block_few p rs t.end = omega arith
  block_few p rs (t.step s more) =
      let h = statement_few p rs s in
      let k = block_few p rs more in
      let sum = choices_joined (lowered_statement p rs s) (lowered_block p rs more) in
      omega (arith, h, k, sum)
