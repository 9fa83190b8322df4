use Rattle.std.proofs.Common.{◌≤◌, ◌∙◌, Bool, ap, arith, length, map, refl, subst, sym}
use Rattle.std.proofs.lemmas.List.{length-map}
use Rattle.task_ast.specs.View.{task_of, program_of}
use Rattle.cost_bound.specs.Machine.{known_of}
use Rattle.cost_bound.specs.Summaries.{summaries}
use Rattle.cost_bound.specs.Frames.{stack_of}
use Rattle.cost_bound.specs.Allowance.{is_written}
use Rattle.cost_bound.proofs.Interface.{known_length, written_same}
use Rattle.memory_map.specs.MemoryMap.{MemoryMap, lone_redo}
use Rattle.memory_map.specs.View.{map_with}
use Rattle.privatise.specs.Layouts.{IsLayout}
use Rattle.privatise.proofs.Sums.{plain_small}
use Rattle.privatise.proofs.Known.{greatest_all, locals_count, moved_tasks, stacks_low, total_room, total_small}
use Rattle.privatise.proofs.Whole.{AreWritten, even_starts, sizes_fit, room, code_small, code_room, scalars_placed, laid_out, whole}
use Rattle.privatise.proofs.placing.layout_with.Goals as goal

pub sizes_of-requires-clause-written : goal.sizes_of-requires-clause-written
sizes_of-requires-clause-written c = λ i l.
    let p = program_of c.args.source.now in
    let count = known_length c.args.functions.summaries.now in
    c.written_variables-written.ensures i l
    ∙ ap (λ ts. is_written (known_of c.args.functions.summaries.now) (map task_of ts) i) c.as_slice-tasks.ensures.value
    ∙ written_same (known_of c.args.functions.summaries.now) (summaries p) (omega (arith, count, c.requires.few_functions)) c.requires.same p.tasks i l

pub sizes_of-requires-clause-small : goal.sizes_of-requires-clause-small
sizes_of-requires-clause-small c = plain_small (program_of c.args.source.now) c.requires.allowed.within_size

pub regions_of-regions-requires : goal.regions_of-regions-requires
regions_of-regions-requires c = sizes_fit (program_of c.args.source.now) c.args.allow.now c.sizes_of.result c.requires.allowed c.sizes_of.ensures

pub place_variables-requires-clause-few : goal.place_variables-requires-clause-few
place_variables-requires-clause-few c = rw c.as_slice-shared.ensures.value c.requires.few

pub place_variables-requires-clause-room : goal.place_variables-requires-clause-room
place_variables-requires-clause-room c =
    let p = program_of c.args.source.now in
    let known = known_of c.args.functions.summaries.now in
    let count = known_length c.args.functions.summaries.now in
    let marks : AreWritten p c.written_variables-written.result =
    λ i l. c.written_variables-written.ensures i l ∙ ap (λ ts. is_written known (map task_of ts) i) c.as_slice-tasks.ensures.value
    ∙ written_same known (summaries p) (omega (arith, count, c.requires.few_functions)) c.requires.same p.tasks i l in
    rw c.as_slice-shared.ensures.value (room p c.args.allow.now c.sizes_of.result c.regions_of-regions.result
    c.written_variables-written.result c.requires.few marks c.requires.allowed c.sizes_of.ensures c.regions_of-regions.ensures)

pub place_tasks-requires-clause-few : goal.place_tasks-requires-clause-few
place_tasks-requires-clause-few c = rw c.as_slice-shared.ensures.value c.requires.few

pub place_tasks-requires-clause-same : goal.place_tasks-requires-clause-same
place_tasks-requires-clause-same c = locals_count (program_of c.args.source.now) c.args.functions c.requires.same c.requires.locals

pub place_tasks-requires-clause-stacks : goal.place_tasks-requires-clause-stacks
place_tasks-requires-clause-stacks c =
    let p = program_of c.args.source.now in
    let known = known_of c.args.functions.summaries.now in
    let count = known_length c.args.functions.summaries.now in
    rw c.as_slice-tasks.ensures.value
    (stacks_low known (summaries p) c.args.functions.locals.now (omega (arith, count, c.requires.few_functions)) c.requires.same p.shared c.requires.few p.tasks
    (greatest_all (stack_of (summaries p)) 1000 p.tasks c.requires.allowed.within_stack))

pub place_tasks-requires-clause-small : goal.place_tasks-requires-clause-small
place_tasks-requires-clause-small c =
    let p = program_of c.args.source.now in
    let known = known_of c.args.functions.summaries.now in
    let count = known_length c.args.functions.summaries.now in
    rw (c.as_slice-shared.ensures.value, c.as_slice-tasks.ensures.value)
    (total_small known (summaries p) c.args.functions.locals.now (omega (arith, count, c.requires.few_functions)) c.requires.same p.shared c.requires.few
    p.tasks
    (code_small p c.args.allow.now c.sizes_of.result c.requires.allowed c.sizes_of.ensures))

pub place_tasks-requires-clause-room : goal.place_tasks-requires-clause-room
place_tasks-requires-clause-room c =
    let p = program_of c.args.source.now in
    let known = known_of c.args.functions.summaries.now in
    let count = known_length c.args.functions.summaries.now in
    rw (c.as_slice-shared.ensures.value, c.as_slice-tasks.ensures.value)
    (total_room known (summaries p) c.args.functions.locals.now (omega (arith, count, c.requires.few_functions)) c.requires.same p.shared c.requires.few p.tasks
    c.regions_of-regions.result.code.address
    (code_small p c.args.allow.now c.sizes_of.result c.requires.allowed c.sizes_of.ensures)
    (code_room p c.args.allow.now c.sizes_of.result c.regions_of-regions.result c.requires.allowed c.sizes_of.ensures c.regions_of-regions.ensures))

pub place_tasks-requires-clause-even : goal.place_tasks-requires-clause-even
place_tasks-requires-clause-even c = (even_starts c.args.allow.now c.sizes_of.result c.regions_of-regions.result c.regions_of-regions.ensures).code

pub place_tasks-requires-clause-count : goal.place_tasks-requires-clause-count
place_tasks-requires-clause-count c =
    rw (c.tasks.ensures, c.as_slice-tasks.ensures.value) (c.requires.planned.count ∙ length-map c.args.source.now.tasks.items task_of)

pub place_tasks-requires-clause-scalars : goal.place_tasks-requires-clause-scalars
place_tasks-requires-clause-scalars c = λ k plan at.
    rw c.as_slice.ensures.value
    (scalars_placed (program_of c.args.source.now) c.args.plan.now c.written_variables-written.result _ c.in_ok-variables.variables.items c.requires.planned
    (rw c.as_slice-shared.ensures.value at c.in_ok-variables.ensures) k plan (rw c.tasks.ensures at at))

pub new-requires : goal.new-requires
new-requires c =
    let p = program_of c.args.source.now in
    let known = known_of c.args.functions.summaries.now in
    let count = known_length c.args.functions.summaries.now in
    let few : length known ≤ 64 = omega (arith, count, c.requires.few_functions) in
    let marks : AreWritten p c.written_variables-written.result =
    λ i l. c.written_variables-written.ensures i l ∙ ap (λ ts. is_written known (map task_of ts) i) c.as_slice-tasks.ensures.value
    ∙ written_same known (summaries p) few c.requires.same p.tasks i l in
    let small = code_small p c.args.allow.now c.sizes_of.result c.requires.allowed c.sizes_of.ensures in
    laid_out _ p c.args.allow.now c.args.plan.now c.sizes_of.result c.regions_of-regions.result c.written_variables-written.result
    c.in_ok-variables.variables.items c.in_ok-layouts.layouts.items
    (record {
      placed = c.requires.placed;
      few = c.requires.few;
      written_so = marks;
      allowed = c.requires.allowed;
      sizes = c.sizes_of.ensures;
      regions = c.regions_of-regions.ensures;
      variables = rw c.as_slice-shared.ensures.value at c.in_ok-variables.ensures;
      tasks = moved_tasks c.args.functions p few c.requires.same c.requires.locals c.requires.few small c.requires.allowed.within_stack _ _ _ _ (λ j. record {
        shared = c.as_slice-shared.ensures.value j;
        places = c.as_slice.ensures.value j;
        tasks = c.as_slice-tasks.ensures.value j;
        plans = c.tasks.ensures j;
      }) refl refl c.in_ok-layouts.ensures;
    })

pub returns : goal.returns
returns c =
    let p = program_of c.args.source.now in
    let known = known_of c.args.functions.summaries.now in
    let count = known_length c.args.functions.summaries.now in
    let few : length known ≤ 64 = omega (arith, count, c.requires.few_functions) in
    let marks : AreWritten p c.written_variables-written.result =
    λ i l. c.written_variables-written.ensures i l ∙ ap (λ ts. is_written known (map task_of ts) i) c.as_slice-tasks.ensures.value
    ∙ written_same known (summaries p) few c.requires.same p.tasks i l in
    let small = code_small p c.args.allow.now c.sizes_of.result c.requires.allowed c.sizes_of.ensures in
    let is = whole p c.args.allow.now c.args.plan.now c.sizes_of.result c.regions_of-regions.result
    c.written_variables-written.result
    c.in_ok-variables.variables.items c.in_ok-layouts.layouts.items
    (record {
      placed = c.requires.placed;
      few = c.requires.few;
      written_so = marks;
      allowed = c.requires.allowed;
      sizes = c.sizes_of.ensures;
      regions = c.regions_of-regions.ensures;
      variables = rw c.as_slice-shared.ensures.value at c.in_ok-variables.ensures;
      tasks = moved_tasks c.args.functions p few c.requires.same c.requires.locals c.requires.few small c.requires.allowed.within_stack _ _ _ _ (λ j. record {
        shared = c.as_slice-shared.ensures.value j;
        places = c.as_slice.ensures.value j;
        tasks = c.as_slice-tasks.ensures.value j;
        plans = c.tasks.ensures j;
      }) refl refl c.in_ok-layouts.ensures;
    }) in
    let events = c.uses_events.ensures in
    let made : Bool → MemoryMap = λ used. map_with (record lone_redo { events = used }) c.regions_of-regions.result c.in_ok-variables.variables.items
    c.in_ok-layouts.layouts.items in
    subst (IsLayout (program_of c.args.source.now) c.args.allow.now c.args.plan.now) (sym (c.new.ensures ∙ ap made events)) is
