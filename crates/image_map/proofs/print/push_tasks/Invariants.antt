use Rattle.std.proofs.Common.{◌≡◌, ◌<◌, ◌++◌, ℕ, drop, get_or}
use Rattle.text_parts.specs.Printed.{printed}
use Rattle.image_map.specs.MapValue.{TaskValue}
use Rattle.image_map.specs.Named.{AreTaskNames}
use Rattle.image_map.specs.Text.{tasks_fields}
use Rattle.image_map.proofs.print.push_tasks.Given as goal

abbrev pub invariant-loop-task : goal.invariant-loop-task
invariant-loop-task l = record {
  text : l.out.items ++ printed (tasks_fields (drop l.task-index l.tasks)) ≡ l.fn.out.items ++ printed (tasks_fields l.tasks);
  names : (k : ℕ) (d : TaskValue) → k < l.task-index → AreTaskNames (get_or l.tasks k d);
}
