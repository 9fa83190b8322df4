use Rattle.std.proofs.Common.{◌≡◌, [], drop, map, Option}
use Rattle.task_ast.specs.Tree.{choice_of}
use Rattle.task_ast.specs.Paths.{CheckedBlock}
use Rattle.task_ast.specs.View.{tested_of, block_view}
use Rattle.array_versions.specs.Program.{joined}
use Rattle.array_versions.specs.View.{program_of}
use Rattle.lower.specs.View.{places_in}
use Rattle.lower.specs.Lowered.{lowered_choice, lowered_block}
use Rattle.lower.proofs.statements.+lower.Given as goal

abbrev pub invariant-lower_block-loop-statement : goal.invariant-lower_block-loop-statement
invariant-lower_block-loop-statement l = joined (program_of l.program) (lowered_block (places_in l.places) [] (block_view (drop l.statement-index l.body)))
    ≡ joined (program_of l.fn.program) (lowered_block (places_in l.places) [] (block_view l.body))

abbrev pub invariant-lower_arms-loop-i : goal.invariant-lower_arms-loop-i
invariant-lower_arms-loop-i l = (b : Option CheckedBlock) → program_of l.fn.last ≡ lowered_choice (places_in l.places) [] (choice_of [] b)
    → program_of l.chain ≡ lowered_choice (places_in l.places) [] (choice_of (map tested_of (drop l.i l.arms)) b)
