-- The dearest ways through stretches of code: what they cost, which choices they take, and how they are joined.
use Rattle.std.specs.Prelude.{◌≡◌, ℕ, zero, suc, ◌+◌, ◌*◌, max, nat_lt, if◌then◌else◌, Bool, List, [], ◌∷◌, ◌++◌, map, Option, Some, None}
use Rattle.std.specs.Option.{option_map}
use Rattle.code_paths.specs.Paths.{capped}
use Rattle.code_ways.specs.declared.ways.Way.{Way}
use Rattle.code_ways.specs.declared.ways.Ways.{Ways}
use Rattle.code_ways.specs.declared.ways.Forks.{Forks}
use Rattle.code_ways.specs.Choices.{Taken, taken_of, turned}

-- a way: its cycles, and the choices that it takes, in their order
pub record WayValue : Type 0 where
  pub cycles : ℕ
  pub taken : List Taken

-- of a stretch of code the dearest way that goes on behind it, and the dearest that leaves by a jump
pub record WaysValue : Type 0 where
  pub goes : Option WayValue
  pub leaves : Option WayValue

-- of a test's code the dearest way that goes on where it holds, the dearest that goes on where it fails, and the dearest that leaves
pub record ForksValue : Type 0 where
  pub held : Option WayValue
  pub failed : Option WayValue
  pub leaves : Option WayValue

abbrev pub way_of : Way → WayValue
way_of w = record { cycles = w.cycles; taken = taken_of w.taken }

abbrev pub ways_of : Ways → WaysValue
ways_of w = record { goes = option_map way_of w.goes; leaves = option_map way_of w.leaves }

abbrev pub forks_of : Forks → ForksValue
forks_of t = record { held = option_map way_of t.held; failed = option_map way_of t.failed; leaves = option_map way_of t.leaves }

-- ---- how they are joined

-- one way behind another
abbrev pub way_behind : WayValue → WayValue → WayValue
way_behind v w = record { cycles = capped (v.cycles + w.cycles); taken = v.taken ++ w.taken }

-- where there are both
abbrev pub both_ways : Option WayValue → Option WayValue → Option WayValue
both_ways None w = None
both_ways (Some v) None = None
both_ways (Some v) (Some w) = Some (way_behind v w)

-- the dearer of two ways; of two that cost the same, the first
abbrev pub dearer_way : WayValue → WayValue → WayValue
dearer_way v w = if nat_lt v.cycles w.cycles then w else v

abbrev pub dearer_of : Option WayValue → Option WayValue → Option WayValue
dearer_of None w = w
dearer_of (Some v) None = Some v
dearer_of (Some v) (Some w) = Some (dearer_way v w)

-- code all of whose ways go on, without a choice, in so many cycles at most
abbrev pub straight_ways : ℕ → WaysValue
straight_ways cycles = record { goes = Some (record { cycles = cycles; taken = [] }); leaves = None }

-- a choice, in no time
abbrev pub choice_ways : ℕ → Bool → WaysValue
choice_ways number holds = record { goes = Some (record { cycles = 0; taken = record { number = number; holds = holds; times = 1 } ∷ [] }); leaves = None }

-- a jump out of the code, in so many cycles
abbrev pub leaving_ways : ℕ → WaysValue
leaving_ways cycles = record { goes = None; leaves = Some (record { cycles = cycles; taken = [] }) }

-- one stretch behind another
abbrev pub ways_behind : WaysValue → WaysValue → WaysValue
ways_behind v w = record { goes = both_ways v.goes w.goes; leaves = dearer_of v.leaves (both_ways v.goes w.leaves) }

-- one of two
abbrev pub either_ways : WaysValue → WaysValue → WaysValue
either_ways v w = record { goes = dearer_of v.goes w.goes; leaves = dearer_of v.leaves w.leaves }

-- so many turns of one way
abbrev pub way_turned : ℕ → WayValue → WayValue
way_turned turns w = record { cycles = capped (turns * w.cycles); taken = map (turned turns) w.taken }

-- so many turns, where one of them goes on
abbrev pub turned_ways : ℕ → WaysValue → Option WayValue → WaysValue
turned_ways zero w goes = straight_ways 0
turned_ways (suc m) w None = w
turned_ways (suc m) w (Some v) = record { goes = Some (way_turned (suc m) v); leaves = both_ways (Some (way_turned m v)) w.leaves }

-- so many turns, one behind the other
abbrev pub all_turns : ℕ → WaysValue → WaysValue
all_turns turns w = turned_ways turns w w.goes

-- a test whose code's ways go on where it holds and where it fails
abbrev pub forked_ways : WaysValue → ForksValue
forked_ways w = record { held = w.goes; failed = w.goes; leaves = w.leaves }

-- two tests of which both have to hold: the second is asked where the first holds
abbrev pub both_forks : ForksValue → ForksValue → ForksValue
both_forks t u = record {
  held = both_ways t.held u.held;
  failed = dearer_of t.failed (both_ways t.held u.failed);
  leaves = dearer_of t.leaves (both_ways t.held u.leaves);
}

-- two tests of which one has to hold: the second is asked where the first fails
abbrev pub one_of_forks : ForksValue → ForksValue → ForksValue
one_of_forks t u = record {
  held = dearer_of t.held (both_ways t.failed u.held);
  failed = both_ways t.failed u.failed;
  leaves = dearer_of t.leaves (both_ways t.failed u.leaves);
}

-- a test that holds where another fails
abbrev pub turned_forks : ForksValue → ForksValue
turned_forks t = record { held = t.failed; failed = t.held; leaves = t.leaves }

-- what is done where a test holds, and where it fails
abbrev pub chosen_ways : ForksValue → WaysValue → WaysValue → WaysValue
chosen_ways t v w =
    either_ways (ways_behind (record { goes = t.held; leaves = t.leaves }) v) (ways_behind (record { goes = t.failed; leaves = None }) w)

-- a way where there is none has no cycles
abbrev pub some_way : Option WayValue → WayValue
some_way None = record { cycles = 0; taken = [] }
some_way (Some v) = v

-- the dearest of all
abbrev pub most_of : WaysValue → WayValue
most_of w = some_way (dearer_of w.goes w.leaves)

-- ---- what they cost

-- what a way costs with what follows it, where there is one
abbrev pub way_cost : Option WayValue → ℕ → ℕ
way_cost None next = 0
way_cost (Some w) next = w.cycles + next

-- what ways cost, with what follows where they go on
abbrev pub ways_cost : WaysValue → ℕ → ℕ
ways_cost w next = max (way_cost w.goes next) (way_cost w.leaves 0)

-- and those of a test, with what follows where it holds and where it fails
abbrev pub forks_cost : ForksValue → ℕ → ℕ → ℕ
forks_cost t held failed = max (max (way_cost t.held held) (way_cost t.failed failed)) (way_cost t.leaves 0)

-- there is a way
abbrev pub IsThere : Option WayValue → Type 0
IsThere None = ⊥
IsThere (Some w) = Unit {0}

-- they are the ways of code that costs so much with what follows it
pub record AreWaysOf (f : ℕ → ℕ) (w : WaysValue) : Type 0 where
  pub some : IsThere (dearer_of w.goes w.leaves)
  pub cost : (next : ℕ) → capped (f next) ≡ capped (ways_cost w next)

pub record AreForksOf (f : ℕ → ℕ → ℕ) (t : ForksValue) : Type 0 where
  pub some : IsThere (dearer_of (dearer_of t.held t.failed) t.leaves)
  pub cost : (held failed : ℕ) → capped (f held failed) ≡ capped (forks_cost t held failed)
