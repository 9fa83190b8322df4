use Rattle.std.proofs.Common.{◌≡◌, ℕ, List, drop}
use Rattle.std.specs.Ordering.{nat_cmp}
use Rattle.std.specs.Cmp.Lexicographic.{slice_cmp}
use Rattle.std.specs.BTreeMap.{get_by}
use Rattle.std.specs.List.{position_from}
use Rattle.std.specs.Str.{bytes_eq}
use Rattle.fram_state.specs.Kept.{shared_names}
use Rattle.fram_state.proofs.kept.numbers_of.Given as goal

abbrev pub invariant-loop-i : goal.invariant-loop-i
invariant-loop-i l = (q : List ℕ) → get_by (λ k. slice_cmp nat_cmp q k.now) l.numbers
    ≡ position_from (λ n. bytes_eq n q) l.i (drop l.i (shared_names l.text l.shared))
