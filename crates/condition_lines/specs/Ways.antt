-- Which ways a task goes at its `if`s, by how often its conditions hold and fail.
use Rattle.std.specs.Prelude.{ℕ, zero, suc, List, [], ◌∷◌, ◌++◌, slice_index}
use Rattle.need_lines.specs.declared.needs.IfWay.{IfWay}

-- a way that is gone so often, if it ever is
abbrev pub way_if : ℕ → ℕ → ℕ → List IfWay
way_if line way zero = []
way_if line way (suc n) = record { line = line; way = way; times = suc n } ∷ []

-- at an `if` on a line the ways by its conditions, the first of which has this number as a way, by how often the condition of each number holds
abbrev pub held_ways : ℕ → List ℕ → ℕ → List ℕ → List IfWay
held_ways line held way [] = []
held_ways line held way (n ∷ more) = way_if line way (slice_index held n) ++ held_ways line held (suc way) more

-- and the way where none holds, by how often the last one fails
abbrev pub failed_way : ℕ → List ℕ → List ℕ → List IfWay
failed_way line failed [] = []
failed_way line failed (n ∷ []) = way_if line 0 (slice_index failed n)
failed_way line failed (n ∷ m ∷ more) = failed_way line failed (m ∷ more)

-- those of a task at each `if`, by the lines of its `if`s and the numbers of their conditions; of one without a line nothing is told
abbrev pub task_ways : List ℕ → List ℕ → List ℕ → List (List ℕ) → List IfWay
task_ways held failed (line ∷ lines) (numbers ∷ ifs) =
    (held_ways line held 1 numbers ++ failed_way line failed numbers) ++ task_ways held failed lines ifs
task_ways held failed _ _ = []
