-- The code of a task keeps to its dearest way, and SP to its stack.
use Rattle.array_versions.specs.TaskPrograms.{program_at}
use Rattle.code_costs.specs.Dearest.{most_spent}
use Rattle.code_costs.proofs.Interface.{code_keeps_to_its_ways}
use Rattle.linked_code.proofs.Interface.{part, body_by}
use Rattle.task_needs.specs.Laws.{TasksKeepToTheirWays}

pub tasks_keep_to_their_ways : TasksKeepToTheirWays
tasks_keep_to_their_ways l programs fits whole lows k named stack v g inputs enters words ready =
    body_by l programs fits whole lows k named stack (λ fram given. most_spent (program_at programs k))
    (λ u is. code_keeps_to_its_ways (part l programs fits whole lows k named stack) stack.place.code.address (program_at programs k) u is.tidy is.stands
    is.routines (whole.whole k named) is.keeps (whole.of_words k named) is.entry)
    v g inputs enters words ready
