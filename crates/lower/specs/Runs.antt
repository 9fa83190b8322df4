-- Private scalars whose words and copies are neighbours, joined.
use Rattle.std.specs.Prelude.{◌+◌, ◌*◌, ◌==◌, ◌&&◌, Bool, if◌then◌else◌, List, [], ◌∷◌}
use Rattle.memory_map.specs.declared.place.PrivateScalar.{PrivateScalar}
use Rattle.memory_map.specs.Places.{scalar_words}
use Rattle.lower.specs.declared.runs.Run.{Run}

-- a scalar alone
abbrev pub run_at : PrivateScalar → Run
run_at s = record { home = s.home; copy = s.copy; words = scalar_words s.width }

-- whether the words and the copy of a scalar stand right behind a run
abbrev pub is_followed_by : Run → PrivateScalar → Bool
is_followed_by r s = (r.home + 2 * r.words == s.home) && (r.copy + 2 * r.words == s.copy)

-- a run with the words of a scalar more
abbrev pub longer : Run → PrivateScalar → Run
longer r s = record r { words = r.words + scalar_words s.width }

-- a run and the scalars behind it: those that follow it right away belong to it
abbrev pub runs_from : Run → List PrivateScalar → List Run
runs_from r [] = r ∷ []
runs_from r (s ∷ more) = if is_followed_by r s then runs_from (longer r s) more else r ∷ runs_from (run_at s) more

-- scalars in order, neighbours joined
abbrev pub runs_of : List PrivateScalar → List Run
runs_of [] = []
runs_of (s ∷ more) = runs_from (run_at s) more
