use Rattle.std.proofs.Common.{◌≡◌, drop, map}
use Rattle.task_ast.specs.View.{task_of}
use Rattle.source_maps.specs.Maps.{tasks_of}
use Rattle.source_maps.specs.Adding.{with_tasks, TakesTasks}
use Rattle.source_maps.proofs.map.add_tasks.Given as goal

abbrev pub invariant-loop-k : goal.invariant-loop-k
invariant-loop-k l =
    let left = tasks_of l.text l.shared (map task_of (drop l.k l.tasks)) (drop l.k l.layouts) in
    record {
      made : with_tasks l.added left ≡ with_tasks l.fn.added (tasks_of l.fn.text l.fn.shared (map task_of l.fn.tasks) l.fn.layouts);
      takes : TakesTasks l.added left;
    }
