use Rattle.std.proofs.Common.{arith, ap, sym, ◌∙◌}
use Rattle.task_ast.specs.View.{function_of}
use Rattle.path_checks.specs.Loops.{BadLoopIn}
use Rattle.path_checks.proofs.FirstPlaces.{first_back, first_whole}
use Rattle.path_checks.proofs.BadLoops.{found_is}
use Rattle.path_checks.proofs.loops.bad_in_functions.Goals as goal

pub loop-i-preserved : goal.loop-i-preserved
loop-i-preserved c =
    first_back function_of (λ f. BadLoopIn f.body) c.args.functions.now c.loop-i.i c.index-functions-i.result _ _ _ c.loop-i-test.true (omega arith)
    c.index-functions-i.is
    c.first_of-first.ensures (found_is _ _ _ c.bad_in_block.ensures
    (c.deref.ensures.value ∙ ap (λ x. x.body.items) (sym c.index-functions-i.is))) c.loop-i.invariant

pub returns : goal.returns
returns c = first_whole function_of (λ f. BadLoopIn f.body) c.args.functions.now c.loop-i.i _ (omega arith) c.loop-i.invariant
