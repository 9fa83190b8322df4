use Rattle.std.proofs.Common.{arith, length, map}
use Rattle.task_ast.specs.View.{block_view, function_of, program_of}
use Rattle.task_ast.specs.Calls.{BlockCallsBelow}
use Rattle.path_checks.specs.Firsts.{IsFirst}
use Rattle.path_checks.specs.Ends.{OpenAt}
use Rattle.path_checks.proofs.FirstPlaces.{first_back, first_whole, one_of_all, of_same}
use Rattle.path_checks.proofs.Below.{functions_known}
use Rattle.path_checks.proofs.ends.first_open_function.Goals as goal

pub loop-i-preserved : goal.loop-i-preserved
loop-i-preserved c = λ calls.
    let all = map function_of c.args.source.now.functions.items in
    let known = one_of_all function_of (λ f. BlockCallsBelow (length all) f.body) c.args.source.now.functions.items c.loop-i.i c.index-function.result.now
    c.loop-i-test.true (omega arith) c.index-function.ensures (functions_known (program_of c.args.source.now) calls) in
    first_back function_of (λ f. OpenAt all f.name f.body) c.args.source.now.functions.items c.loop-i.i c.index-function.result.now _ _ _ c.loop-i-test.true
    (omega arith) c.index-function.ensures c.first_of-first.ensures (of_same (λ xs. BlockCallsBelow (length all) (block_view xs))
    (λ xs. IsFirst c.open_name.result (OpenAt all c.index-function.result.now.name (block_view xs))) _ _ c.deref.ensures.value known (c.open_name.ensures all))
    (c.loop-i.invariant calls)

pub returns : goal.returns
returns c = λ calls. first_whole function_of (λ f. OpenAt (map function_of c.args.source.now.functions.items) f.name f.body)
    c.args.source.now.functions.items c.loop-i.i _ (omega arith)
    (c.loop-i.invariant calls)
