use Rattle.std.proofs.Common.{◌≡◌, drop}
use Rattle.std.specs.List.{position_from}
use Rattle.std.specs.Str.{bytes_eq}
use Rattle.fram_state.specs.Kept.{number_of}
use Rattle.fram_state.proofs.Numbers.{names_of}
use Rattle.fram_state.proofs.kept.task_named.Given as goal

abbrev pub invariant-loop-i : goal.invariant-loop-i
invariant-loop-i l = position_from (λ n. bytes_eq n l.name) l.i (drop l.i (names_of l.text l.tasks)) ≡ number_of (names_of l.text l.tasks) l.name
