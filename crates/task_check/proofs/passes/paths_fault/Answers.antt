use Rattle.std.proofs.Common.{subst}
use Rattle.path_checks.specs.Firsts.{IsFirst}
use Rattle.path_checks.specs.Unassigned.{UnassignedAt}
use Rattle.task_ast.specs.View.{program_of}
use Rattle.task_check.proofs.Standing.{calls_known}
use Rattle.task_check.proofs.passes.paths_fault.Goals as goal

pub returns-in-Some-2 : goal.returns-in-Some-2
returns-in-Some-2 c =
    let program = program_of c.args.checked.now in
    let known = calls_known program c.requires.placed in
    let unassigned = subst (λ o. IsFirst o (UnassignedAt program)) c.in-Some-2.is (c.in_ok-name.ensures known) in
    (c.in_default.ensures, unassigned, c.line_from-line-in-Some-2.ensures)

pub returns-in-Some-first_open_function : goal.returns-in-Some-first_open_function
returns-in-Some-first_open_function c =
    let program = program_of c.args.checked.now in
    let known = calls_known program c.requires.placed in
    let assigned = subst (λ o. IsFirst o (UnassignedAt program)) c.in_default-2.is (c.in_ok-name.ensures known) in (
      c.in_default.ensures,
      assigned,
      c.in-Some-first_open_function.ensures known,
      c.line_from-line-in-Some-first_open_function.ensures,
    )

pub returns-in-Some-first_open_task : goal.returns-in-Some-first_open_task
returns-in-Some-first_open_task c =
    let program = program_of c.args.checked.now in
    let known = calls_known program c.requires.placed in
    let assigned = subst (λ o. IsFirst o (UnassignedAt program)) c.in_default-2.is (c.in_ok-name.ensures known) in (
      c.in_default.ensures,
      assigned,
      c.in_default-first_open_function.ensures known,
      c.in-Some-first_open_task.ensures known,
      c.line_from-line-in-Some-first_open_task.ensures,
    )

pub returns : goal.returns
returns c =
    let program = program_of c.args.checked.now in
    let known = calls_known program c.requires.placed in
    record {
      loops = c.in_default.ensures;
      assigned = subst (λ o. IsFirst o (UnassignedAt program)) c.in_default-2.is (c.in_ok-name.ensures known);
      returns = c.in_default-first_open_function.ensures known;
      transitions = c.in_default-first_open_task.ensures known;
    }
