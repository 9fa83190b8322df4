use Rattle.std.proofs.Common.{◌≡◌, drop, map, List, [], Option}
use Rattle.alp_text.specs.declared.lines.Span.{Span}
use Rattle.task_ast.specs.Tree.{Block, choice_of}
use Rattle.task_ast.specs.View.{tested_of, block_view}
use Rattle.task_check.specs.declared.occurrence.Occurrence.{Occurrence}
use Rattle.task_check.specs.Typed.{types_of}
use Rattle.task_check.specs.Occurrences.{choice_names, names_up_to}
use Rattle.task_check.proofs.collect.+names.Given as goal

abbrev pub invariant-arms_names-loop-i : goal.invariant-arms_names-loop-i
invariant-arms_names-loop-i l = (last : Option (Block Span Span Span)) (behind : List Occurrence)
    → l.initial.names.items ≡ choice_names (types_of l.types) l.in_task (choice_of [] last) behind
    → l.names.items ≡ choice_names (types_of l.types) l.in_task (choice_of (map tested_of (drop l.i l.arms)) last) behind

abbrev pub invariant-block_names-loop-i : goal.invariant-block_names-loop-i
invariant-block_names-loop-i l = l.names.items ≡ names_up_to (types_of l.types) l.in_task l.end (block_view (drop l.i l.body)) l.initial.names.items
