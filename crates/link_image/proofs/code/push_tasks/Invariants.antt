use Rattle.link_image.proofs.Names.{◌≡◌, ◌++◌, ◌+◌, ◌*◌, drop, map, length, reset_vector, instructions, words_of, chained}
use Rattle.link_image.proofs.Names.{PartsInOrder, task_parts}
use Rattle.array_versions.specs.View.{programs_of}
use Rattle.link_image.specs.Needs.{TasksAreEmitted}
use Rattle.link_image.proofs.code.push_tasks.Given as goal

abbrev pub invariant-loop-k : goal.invariant-loop-k
invariant-loop-k l =
    let left = task_parts (drop l.k l.tasks) (map programs_of (drop l.k l.programs)) in
    let at = l.start + 2 * length l.words.items in
    record {
      made : l.words.items ++ words_of (instructions (chained at left))
          ≡ l.fn.words.items ++ words_of (instructions
          (chained (l.fn.start + 2 * length l.fn.words.items) (task_parts l.fn.tasks (map programs_of l.fn.programs))));
      order : PartsInOrder at left reset_vector;
      emitted : TasksAreEmitted (drop l.k l.tasks) (map programs_of (drop l.k l.programs));
    }
