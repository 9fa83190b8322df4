use Rattle.task_attempts.proofs.laws.tasks_list_few_words.Goals as goal
use Rattle.task_attempts.proofs.Theorems.{tasks_list_few}

pub returns : goal.returns
returns c = tasks_list_few
