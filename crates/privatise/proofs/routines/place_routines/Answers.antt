use Rattle.std.proofs.Common.{◌≡◌, arith, false, slice_index_or}
use Rattle.std.proofs.lemmas.Result.{IfOk-weaker}
use Rattle.task_ast.specs.View.{block_view}
use Rattle.cost_bound.specs.Machine.{known_of}
use Rattle.privatise.specs.Routines.{routines_from, task_routines}
use Rattle.privatise.specs.View.{functions_in}
use Rattle.privatise.proofs.RoutinesPlaced.{marked_words, routines_are}
use Rattle.privatise.proofs.routines.place_routines.Goals as goal

pub place_marked-requires-clause-small : goal.place_marked-requires-clause-small
place_marked-requires-clause-small c =
    let words = marked_words c.args.functions.summaries.now c.args.functions.locals.now (block_view c.args.body.now) c.reached_functions-marks.result
    c.requires.few c.reached_functions-marks.ensures in
    omega (arith, words, c.requires.small)

pub place_marked-requires-clause-room : goal.place_marked-requires-clause-room
place_marked-requires-clause-room c =
    let words = marked_words c.args.functions.summaries.now c.args.functions.locals.now (block_view c.args.body.now) c.reached_functions-marks.result
    c.requires.few c.reached_functions-marks.ensures in
    omega (arith, words, c.requires.room)

pub returns : goal.returns
returns c =
    let fs = c.args.functions.summaries.now in
    let ls = c.args.functions.locals.now in
    let body = block_view c.args.body.now in
    let marks = c.reached_functions-marks.result in
    IfOk-weaker c.place_marked.result
    (λ v. v.items ≡ routines_from c.stack-words.result (λ k. slice_index_or marks k false) 0 c.args.address (known_of fs) ls)
    (λ v. v.items ≡ task_routines (functions_in c.args.functions) body c.args.address)
    (λ v e. routines_are fs ls body marks c.requires.few c.reached_functions-marks.ensures c.stack-words.result c.args.address v.items c.stack-words.ensures
    c.requires.low e)
    c.place_marked.ensures
