use Rattle.std.proofs.Common.{◌≡◌, ◌+◌, ◌*◌, ◌≤◌, ℕ, length, drop, map}
use Rattle.task_ast.specs.View.{task_of}
use Rattle.cost_bound.specs.Machine.{known_of}
use Rattle.cost_bound.specs.Allowance.{total}
use Rattle.privatise.specs.Sizes.{entry_words, own_boot_words}
use Rattle.privatise.proofs.sizes.boot_words.Given as goal

pub record Summed (n i all sum : ℕ) : Type 0 where
  pub is : n ≡ own_boot_words + sum
  pub low : n + 8392 * i ≤ own_boot_words + 8392 * all

abbrev pub invariant-loop-i : goal.invariant-loop-i
invariant-loop-i l = Summed l.n l.i (length l.tasks) (total (entry_words (known_of l.functions) l.shared) (map task_of (drop l.i l.tasks)))
