-- What is known of the ways through a choice.
use Rattle.std.specs.Prelude.{◌≡◌, ◌==◌, ℕ, Bool, false, ◌||◌, not, List, [], ◌∷◌, length, if◌then◌else◌, Option, Some, None, is_some, Vec}
use Rattle.std.specs.Global.{Global}
use Rattle.alp_text.specs.declared.lines.Span.{Span}
use Rattle.path_checks.specs.Assignments.{assignment_seq}
use Rattle.path_checks.specs.Walks.{Family, is_assigned, is_left, at_mark, Tells, IsBehind, IsTurnedBack}
use Rattle.path_checks.specs.declared.walk.Walk.{Walk}
use Rattle.path_checks.specs.declared.ways.Ended.{Ended}

-- whether the local is assigned behind the ways, where it is or isn't at their start
abbrev pub ended : List Ended → ℕ → Bool → Bool
ended [] x before = before
ended (e ∷ more) x before = if e.local == x then e.assigned else ended more x before

-- what a local is here
abbrev pub ended_at : (ℕ → Bool) → ℕ → Ended
ended_at assigned x = record { local = x; assigned = assigned x }

abbrev pub ended_unassigned : ℕ → Ended
ended_unassigned x = record { local = x; assigned = false }

-- whether it is so behind one more way too
abbrev pub is_kept : (ℕ → Bool) → Ended → Bool
is_kept assigned e = not e.assigned || assigned e.local

abbrev pub Ends : Type 0
Ends = Option (Vec Ended Global)

-- whether some way so far falls through with the local unassigned
abbrev pub ends_left : Ends → ℕ → Bool → Bool
ends_left None x before = false
ends_left (Some ends) x before = not (ended ends.items x before)

-- these are the ends of ways of which some fall through or none, and some leave a local unassigned or none
pub record HasEnds (ends : Ends) (falls_through : Bool) (left before : ℕ → Bool) : Type 0 where
  pub some : is_some ends ≡ falls_through
  pub unassigned : (x : ℕ) → ends_left ends x (before x) ≡ left x

-- one more way has ended, and the walk is at the start of the choice again
pub record IsWayEnd (mark : ℕ) (comes : Bool) (ends both : Ends) (w back : Walk) : Type 0 where
  pub returned : IsTurnedBack w back mark comes
  pub all : HasEnds both (is_some ends || w.falls_through) (λ x. ends_left ends x (at_mark w mark x) || is_left w x) (at_mark w mark)

-- the last way has ended, and the walk is behind the choice
pub record IsJoined (mark : ℕ) (ends : Ends) (w joined : Walk) : Type 0 where
  pub falls_through : joined.falls_through ≡ (is_some ends || w.falls_through)
  pub unassigned : (x : ℕ) → is_left joined x ≡ (ends_left ends x (at_mark w mark x) || is_left w x)
  pub fault : joined.fault ≡ w.fault
  pub behind : (before : Walk) → IsBehind before w → mark ≡ length before.turned.items → IsBehind before joined

-- What the paths f do that then go through a choice: they have taken one of the ways so far, or passed them, and have the rest of the choice before them.
pub record WaysTell (now : Walk) (ends : Ends) (f whole rest : Family) : Type 0 where
  pub passed : Family
  pub told : Tells now passed
  pub falls_through : (x : ℕ) (p : Span) →
      (is_some ends || (assignment_seq (passed x p) (rest x p)).falls_through) ≡ (assignment_seq (f x p) (whole x p)).falls_through
  pub unassigned : (x : ℕ) (p : Span) →
      (ends_left ends x (is_assigned now x) || (assignment_seq (passed x p) (rest x p)).unassigned) ≡ (assignment_seq (f x p) (whole x p)).unassigned
  pub fault : (x : ℕ) (p : Span) → (assignment_seq (passed x p) (rest x p)).fault ≡ (assignment_seq (f x p) (whole x p)).fault

-- some ways through a choice have ended, and the walk is at its start again
pub record SoFar (before now : Walk) (ends : Ends) (whole rest : Family) : Type 0 where
  pub falls_through : now.falls_through ≡ before.falls_through
  pub turned : now.turned.items ≡ before.turned.items
  pub assigned : (x : ℕ) → is_assigned now x ≡ is_assigned before x
  pub tells : (f : Family) → Tells before f → WaysTell now ends f whole rest
