use Rattle.std.proofs.Common.{◌≡◌, ◌∙◌, ◌≤◌, length, map, get_or, sym, ap, subst, arith}
use Rattle.std.specs.Prelude.{All}
use Rattle.std.proofs.lemmas.List.{length-map}
use Rattle.std.proofs.lemmas.Result.{IfOk-weaker}
use Rattle.std.proofs.lemmas.Option.{get_or_from_slice_get}
use Rattle.task_ast.specs.View.{program_of}
use Rattle.array_versions.specs.Form.{LocalsBelow}
use Rattle.array_versions.specs.Cost.{words_of}
use Rattle.array_versions.specs.Program.{Program}
use Rattle.array_versions.specs.TaskPrograms.{TaskPrograms}
use Rattle.array_versions.specs.View.{program_of as program_value}
use Rattle.memory_map.specs.MemoryMap.{TaskPlace}
use Rattle.code_paths.specs.Paths.{capped}
use Rattle.code_costs.specs.Dearest.{most_spent}
use Rattle.compiled_model.specs.Parts.{task_program}
use Rattle.dearest_ways.specs.Calls.{CallsCost}
use Rattle.dearest_ways.specs.Ways.{bare, IsDearestWay}
use Rattle.source_needs.specs.Bodies.{AreBodies, IsShort, made_programs, own_routines, routine_costs, routines_of, task_calls, task_programs}
use Rattle.source_needs.proofs.Rows.{task_holds}
use Rattle.source_needs.proofs.Tasks.{task_bodies}
use Rattle.source_needs.proofs.needs.way_of.Goals as goal

pub call_costs-requires-clause-count : goal.call_costs-requires-clause-count
call_costs-requires-clause-count c =
    let text = c.args.accepted.now.text.items in
    let p = program_of c.args.accepted.now.checked.source in
    let l = c.args.layout.now in
    let k = c.args.number in
    let allow = c.args.accepted.now.allow in
    let h = task_holds text p allow c.requires.laid_out.0 l c.requires.laid_out.1 k c.requires.task in
    let b = task_bodies text p allow c.requires.laid_out.0 l c.requires.laid_out.1 k c.requires.task in
    let routines : c.routines-routines.result.now ≡ own_routines l k =
    c.routines-routines.ensures
    ∙ ap (λ (t : TaskPlace). t.routines)
    (c.index-tasks-number.is ∙ ap (λ ts. get_or ts k c.index-tasks-number.result) c.tasks.ensures
    ∙ get_or_from_slice_get l.tasks k h.place c.index-tasks-number.result h.placed)
    ∙ ap routines_of (sym h.placed) in
    let made : map program_value c.deref.result.now ≡ (made_programs p l k).routines =
    ap (map program_value) c.deref.ensures.value ∙ ap (λ (q : TaskPrograms). q.routines) c.requires.programs in
    let many = length-map c.deref.result.now program_value in
    omega (arith, many, ap length made, b.count, ap length routines)

pub call_costs-requires-clause-short : goal.call_costs-requires-clause-short
call_costs-requires-clause-short c =
    let text = c.args.accepted.now.text.items in
    let p = program_of c.args.accepted.now.checked.source in
    let l = c.args.layout.now in
    let k = c.args.number in
    let allow = c.args.accepted.now.allow in
    let b = task_bodies text p allow c.requires.laid_out.0 l c.requires.laid_out.1 k c.requires.task in
    let made : map program_value c.deref.result.now ≡ (made_programs p l k).routines =
    ap (map program_value) c.deref.ensures.value ∙ ap (λ (q : TaskPrograms). q.routines) c.requires.programs in
    subst (All IsShort) (sym made) b.shorts

pub dearest_way-requires-clause-room : goal.dearest_way-requires-clause-room
dearest_way-requires-clause-room c =
    let text = c.args.accepted.now.text.items in
    let p = program_of c.args.accepted.now.checked.source in
    let l = c.args.layout.now in
    let k = c.args.number in
    let allow = c.args.accepted.now.allow in
    let b = task_bodies text p allow c.requires.laid_out.0 l c.requires.laid_out.1 k c.requires.task in
    let own : program_value c.args.programs.now.own ≡ (made_programs p l k).own = ap (λ (q : TaskPrograms). q.own) c.requires.programs in
    subst (λ (q : Program). words_of q ≤ 0x7FFF) (sym own) b.own_short.0

pub dearest_way-requires-clause-locals : goal.dearest_way-requires-clause-locals
dearest_way-requires-clause-locals c =
    let text = c.args.accepted.now.text.items in
    let p = program_of c.args.accepted.now.checked.source in
    let l = c.args.layout.now in
    let k = c.args.number in
    let allow = c.args.accepted.now.allow in
    let b = task_bodies text p allow c.requires.laid_out.0 l c.requires.laid_out.1 k c.requires.task in
    let own : program_value c.args.programs.now.own ≡ (made_programs p l k).own = ap (λ (q : TaskPrograms). q.own) c.requires.programs in
    subst (LocalsBelow 1016) (sym own) b.own_short.1

pub returns-clause-way : goal.returns-clause-way
returns-clause-way c =
    let text = c.args.accepted.now.text.items in
    let p = program_of c.args.accepted.now.checked.source in
    let l = c.args.layout.now in
    let k = c.args.number in
    let allow = c.args.accepted.now.allow in
    let h = task_holds text p allow c.requires.laid_out.0 l c.requires.laid_out.1 k c.requires.task in
    let b = task_bodies text p allow c.requires.laid_out.0 l c.requires.laid_out.1 k c.requires.task in
    let routines : c.routines-routines.result.now ≡ own_routines l k =
    c.routines-routines.ensures
    ∙ ap (λ (t : TaskPlace). t.routines)
    (c.index-tasks-number.is ∙ ap (λ ts. get_or ts k c.index-tasks-number.result) c.tasks.ensures
    ∙ get_or_from_slice_get l.tasks k h.place c.index-tasks-number.result h.placed)
    ∙ ap routines_of (sym h.placed) in
    let made : map program_value c.deref.result.now ≡ (made_programs p l k).routines =
    ap (map program_value) c.deref.ensures.value ∙ ap (λ (q : TaskPrograms). q.routines) c.requires.programs in
    let own : program_value c.args.programs.now.own ≡ (made_programs p l k).own = ap (λ (q : TaskPrograms). q.own) c.requires.programs in
    let whole = (task_programs p l k).routines in
    let are : AreBodies c.routines-routines.result.now (map program_value c.deref.result.now) whole =
    subst (λ rs. AreBodies rs (map program_value c.deref.result.now) whole) (sym routines)
    (subst (λ ms. AreBodies (own_routines l k) ms whole) (sym made) b.are) in
    let costs : c.deref-2.result.now ≡ task_calls p l k =
    c.deref-2.ensures.value ∙ c.in_ok-calls.ensures whole are ∙ ap (λ rs. routine_costs rs whole) routines in
    let program = task_program p l k in
    let given = program_value c.args.programs.now.own in
    let calls = c.deref-2.result.now in
    IfOk-weaker c.dearest_way.result (λ w. (q : Program) → bare q ≡ given → IsDearestWay w calls q)
    (λ w. IsDearestWay w (task_calls p l k) program)
    (λ w is. subst (λ cs. IsDearestWay w cs program) costs (is program (b.own_bare ∙ sym own)))
    c.dearest_way.ensures.way

pub returns-clause-cycles : goal.returns-clause-cycles
returns-clause-cycles c =
    let text = c.args.accepted.now.text.items in
    let p = program_of c.args.accepted.now.checked.source in
    let l = c.args.layout.now in
    let k = c.args.number in
    let allow = c.args.accepted.now.allow in
    let h = task_holds text p allow c.requires.laid_out.0 l c.requires.laid_out.1 k c.requires.task in
    let b = task_bodies text p allow c.requires.laid_out.0 l c.requires.laid_out.1 k c.requires.task in
    let routines : c.routines-routines.result.now ≡ own_routines l k =
    c.routines-routines.ensures
    ∙ ap (λ (t : TaskPlace). t.routines)
    (c.index-tasks-number.is ∙ ap (λ ts. get_or ts k c.index-tasks-number.result) c.tasks.ensures
    ∙ get_or_from_slice_get l.tasks k h.place c.index-tasks-number.result h.placed)
    ∙ ap routines_of (sym h.placed) in
    let made : map program_value c.deref.result.now ≡ (made_programs p l k).routines =
    ap (map program_value) c.deref.ensures.value ∙ ap (λ (q : TaskPrograms). q.routines) c.requires.programs in
    let own : program_value c.args.programs.now.own ≡ (made_programs p l k).own = ap (λ (q : TaskPrograms). q.own) c.requires.programs in
    let whole = (task_programs p l k).routines in
    let are : AreBodies c.routines-routines.result.now (map program_value c.deref.result.now) whole =
    subst (λ rs. AreBodies rs (map program_value c.deref.result.now) whole) (sym routines)
    (subst (λ ms. AreBodies (own_routines l k) ms whole) (sym made) b.are) in
    let costs : c.deref-2.result.now ≡ task_calls p l k =
    c.deref-2.ensures.value ∙ c.in_ok-calls.ensures whole are ∙ ap (λ rs. routine_costs rs whole) routines in
    let program = task_program p l k in
    let given = program_value c.args.programs.now.own in
    let calls = c.deref-2.result.now in
    IfOk-weaker c.dearest_way.result (λ w. (q : Program) → bare q ≡ given → CallsCost calls q → w.cycles ≡ capped (most_spent q))
    (λ w. w.cycles ≡ capped (most_spent program))
    (λ w is. is program (b.own_bare ∙ sym own) (subst (λ cs. CallsCost cs program) (sym costs) b.costs))
    c.dearest_way.ensures.cycles
