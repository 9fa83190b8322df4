use Rattle.std.proofs.Common.{◌≡◌, ◌⊎◌, true, Some, arith}
use Rattle.task_ast.specs.View.{program_of}
use Rattle.task_check.specs.Answers.{IsRefusedOnPaths, IsCleanOnPaths}
use Rattle.task_check.specs.Placed.{all_stand}
use Rattle.task_check.proofs.Standing.{is_placed}
use Rattle.task_check.proofs.Finish.{placed_refusal}
use Rattle.task_check.proofs.passes.check_placed.Goals as goal

pub returns-clause-refused : goal.returns-clause-refused
returns-clause-refused c =
    let program = program_of c.args.checked in
    let stands : all_stand program ≡ true = grind (arith, c.if-not-all_stand.false, c.if-not-all_stand.ensures, c.all_stand.ensures) in
    placed_refusal c.check_paths.result program
    (λ e. IsRefusedOnPaths c.args.source.now program e ⊎ (IsCleanOnPaths program × (c.args.too_many ≡ Some e))) (is_placed program stands)
    c.check_paths.ensures.refused
