use Rattle.std.proofs.Common.{◌≡◌, ◌++◌, ◌-◌}
use Rattle.source_generator.specs.Source.{task_texts}
use Rattle.source_generator.proofs.source.push_tasks.Given as goal

abbrev pub invariant-loop-number : goal.invariant-loop-number
invariant-loop-number l = l.out.items ++ task_texts (16 - l.number) l.number l.generator.state ≡ l.fn.out.items ++ task_texts 16 0 l.fn.generator.state
