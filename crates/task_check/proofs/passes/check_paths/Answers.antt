use Rattle.task_check.proofs.Ranges.{few_tasks_of, few_functions_of, few_shared_of, numbered_of}
use Rattle.task_check.proofs.passes.check_paths.Goals as goal

pub invariant_of-result-clause-few_tasks : goal.invariant_of-result-clause-few_tasks
invariant_of-result-clause-few_tasks c = few_tasks_of c.args.source.now c.args.checked c.requires.looked_up c.args.too_many c.requires.limits
    c.in_default-too_many.is

pub invariant_of-result-clause-few_functions : goal.invariant_of-result-clause-few_functions
invariant_of-result-clause-few_functions c = few_functions_of c.args.source.now c.args.checked c.requires.looked_up c.args.too_many c.requires.limits
    c.in_default-too_many.is

pub invariant_of-result-clause-few_shared : goal.invariant_of-result-clause-few_shared
invariant_of-result-clause-few_shared c = few_shared_of c.args.source.now c.args.checked c.requires.looked_up c.args.too_many c.requires.limits
    c.in_default-too_many.is

pub invariant_of-result-clause-numbered : goal.invariant_of-result-clause-numbered
invariant_of-result-clause-numbered c = numbered_of c.args.source.now c.args.checked c.requires.looked_up c.args.too_many c.requires.limits
    c.in_default-too_many.is
