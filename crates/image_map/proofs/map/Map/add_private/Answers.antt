use Rattle.std.proofs.Common.{arith, ◌∙◌, ap}
use Rattle.image_map.specs.MapValue.{MapValue, onto_last}
use Rattle.image_map.specs.MapView.{map_of}
use Rattle.image_map.proofs.Last.{some_task, tasks_set, private_set}
use Rattle.image_map.proofs.map.Map.add_private.Goals as goal

pub overflow_sub-last : goal.overflow_sub-last
overflow_sub-last c = let some = some_task (map_of c.self.inside) c.args.self.now c.args.name c.self.view_is c.requires in
    omega (arith, c.len-last.ensures, c.self.inside.tasks.ok.0)

pub index_mut-task-requires : goal.index_mut-task-requires
index_mut-task-requires c = let some = some_task (map_of c.self.inside) c.args.self.now c.args.name c.self.view_is c.requires in
    omega (arith, c.len-last.ensures, c.self.inside.tasks.ok.0)

pub invariant_of-self-2 : goal.invariant_of-self-2
invariant_of-self-2 c =
    let some = some_task (map_of c.self.inside) c.args.self.now c.args.name c.self.view_is c.requires in
    private_set (map_of c.self.inside) c.args.self.now _ c.args.name
    (tasks_set c.self.inside.tasks.items c.index_mut-task.result.now c.add_private.new.self c.args.name c.len-last.result
    (omega (arith, c.len-last.ensures, c.self.inside.tasks.ok.0)) some c.index_mut-task.ensures.value c.in_ok-add_private.ensures.ok)
    c.self.view_is c.requires c.self.invariant

pub returns-clause-ok : goal.returns-clause-ok
returns-clause-ok c =
    let some = some_task (map_of c.self.inside) c.args.self.now c.args.name c.self.view_is c.requires in
    ap (λ ts. record (map_of c.self.inside) { tasks = ts })
    (tasks_set c.self.inside.tasks.items c.index_mut-task.result.now c.add_private.new.self c.args.name c.len-last.result
    (omega (arith, c.len-last.ensures, c.self.inside.tasks.ok.0)) some c.index_mut-task.ensures.value c.in_ok-add_private.ensures.ok)
    ∙ ap (λ (m : MapValue). record m { tasks = onto_last c.args.name m.tasks }) c.self.view_is
