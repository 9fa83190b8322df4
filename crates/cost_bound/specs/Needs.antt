-- What tasks need, as the code adds it up.
use Rattle.std.specs.Prelude.{◌≡◌, ℕ, Bool, List}
use Rattle.task_ast.specs.declared.SharedDeclaration.{SharedDeclaration}
use Rattle.cost_bound.specs.Summary.{Summary}
use Rattle.cost_bound.specs.Table.{capped}
use Rattle.cost_bound.specs.Counts.{emits_of}
use Rattle.cost_bound.specs.Frames.{stack_of}
use Rattle.cost_bound.specs.Allowance.{CheckedTask, task_bound, task_words, list_of, greatest, total}
use Rattle.cost_bound.specs.declared.allowance.Needs.{Needs}

pub record AreNeeds (known : List Summary) (events : Bool) (versions : ℕ) (shared : List SharedDeclaration) (ts : List CheckedTask)
    (needs : Needs) : Type 0 where
  pub bound : needs.bound ≡ capped (greatest (task_bound known events versions shared) ts)
  pub words : needs.words ≡ capped (total (task_words known shared) ts)
  pub list : needs.list ≡ capped (greatest (list_of known shared) ts)
  pub emits : needs.emits ≡ capped (greatest (emits_of known) ts)
  pub stack : needs.stack ≡ capped (greatest (stack_of known) ts)
