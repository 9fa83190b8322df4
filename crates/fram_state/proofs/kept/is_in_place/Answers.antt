use Rattle.std.proofs.Common.{◌↔◌, IsTrue, length, map, subst, sym}
use Rattle.task_ast.specs.Calls.{BlockCallsBelow}
use Rattle.task_ast.specs.declared.names.Variable.TheVariants.{Shared}
use Rattle.task_ast.specs.View.{block_view, function_of, program_of}
use Rattle.war_analysis.specs.path_sums.Access.{writes, SomePath, IsPrivate}
use Rattle.source_report.specs.source_values.Runs.{task_body}
use Rattle.fram_state.proofs.InPlace.{body_at, body_calls, where_written, where_not_written}
use Rattle.fram_state.proofs.kept.is_in_place.Goals as goal

pub touches_of-requires-clause-calls : goal.touches_of-requires-clause-calls
touches_of-requires-clause-calls c =
    subst (λ fs. BlockCallsBelow (length (map function_of fs)) (block_view c.deref-2.result.now)) (sym c.deref.ensures.value)
    (body_calls c.args.source.now c.args.task c.index.result.now c.requires.task c.index.ensures c.requires.calls c.deref-2.result.now
    c.deref-2.ensures.value)

pub returns-then-touched : goal.returns-then-touched
returns-then-touched c =
    let body = block_view c.deref-2.result.now in
    let writes_it = subst (λ fs. IsTrue c.in_ok-touched.touched.written ↔ SomePath (map function_of fs) body (writes (Shared c.args.number)))
    c.deref.ensures.value c.in_ok-touched.ensures.written in
    let is_private = subst (λ fs. IsTrue c.in_ok-touched.touched.private ↔ IsPrivate (map function_of fs) body (Shared c.args.number))
    c.deref.ensures.value c.in_ok-touched.ensures.private in
    where_written (program_of c.args.source.now).functions (task_body (program_of c.args.source.now) c.args.task) body c.args.number
    c.in_ok-touched.touched.written c.in_ok-touched.touched.private
    (body_at c.args.source.now c.args.task c.index.result.now c.requires.task c.index.ensures c.deref-2.result.now c.deref-2.ensures.value)
    writes_it is_private c.if-touched.true

pub returns-else-touched : goal.returns-else-touched
returns-else-touched c =
    let body = block_view c.deref-2.result.now in
    let writes_it = subst (λ fs. IsTrue c.in_ok-touched.touched.written ↔ SomePath (map function_of fs) body (writes (Shared c.args.number)))
    c.deref.ensures.value c.in_ok-touched.ensures.written in
    let is_private = subst (λ fs. IsTrue c.in_ok-touched.touched.private ↔ IsPrivate (map function_of fs) body (Shared c.args.number))
    c.deref.ensures.value c.in_ok-touched.ensures.private in
    where_not_written (program_of c.args.source.now).functions (task_body (program_of c.args.source.now) c.args.task) body c.args.number
    c.in_ok-touched.touched.written c.in_ok-touched.touched.private
    (body_at c.args.source.now c.args.task c.index.result.now c.requires.task c.index.ensures c.deref-2.result.now c.deref-2.ensures.value)
    writes_it is_private c.if-touched.false
