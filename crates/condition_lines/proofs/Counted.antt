-- Lines as they are counted.
use Rattle.std.proofs.Common.{◌≡◌, ℕ, ◌+◌, ◌==◌, ◌<◌, ◌≤◌, List, length, take, get_or, true, false, ap, arith}
use Rattle.std.proofs.lemmas.List.{length-take}
use Rattle.std.proofs.lemmas.List.Sums.{count_by-le-length, count_by_more_no, count_by_more_yes}
use Rattle.task_lex.specs.Faults.{line_of}

pub line_stays : (source : List ℕ) (i d : ℕ) → i < length source → (get_or source i d == 10) ≡ false → line_of source (i + 1) ≡ line_of source i
line_stays source i d h e = ap (λ n. 1 + n) (count_by_more_no (λ b. b == 10) source i d h e)

pub line_ends : (source : List ℕ) (i d : ℕ) → i < length source → (get_or source i d == 10) ≡ true → line_of source (i + 1) ≡ line_of source i + 1
line_ends source i d h e = let more = count_by_more_yes (λ b. b == 10) source i d h e in omega (arith, more)

pub line_low : (source : List ℕ) (i : ℕ) → i ≤ length source → line_of source i ≤ 1 + i
line_low source i h =
    let few = count_by-le-length (λ b. b == 10) (take i source) in
    let long = length-take i source in
    omega (arith, few, long, h)
