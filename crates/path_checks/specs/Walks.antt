-- What a walk along a block knows at a place, and how that stands to what the paths up to there do.
use Rattle.std.specs.Prelude.{◌≡◌, ◌==◌, ℕ, Bool, true, false, ◌&&◌, not, List, [], ◌∷◌, ◌++◌, take, drop, if◌then◌else◌, slice_index_or}
use Rattle.alp_text.specs.declared.lines.Span.{Span}
use Rattle.path_checks.specs.Firsts.{IsFirst}
use Rattle.path_checks.specs.Assignments.{Assignment, assignment_seq}
use Rattle.path_checks.specs.declared.walk.Walk.{Walk}

-- an assignment for each local and each place
abbrev pub Family : Type 0
Family = ℕ → Span → Assignment

-- whether the local is assigned on every path that comes here
abbrev pub is_assigned : Walk → ℕ → Bool
is_assigned w x = slice_index_or w.assigned.items x false

-- whether some path comes here on which the local is unassigned
abbrev pub is_left : Walk → ℕ → Bool
is_left w x = w.falls_through && not (is_assigned w x)

-- it is so of some local at the place
abbrev pub SomeLocal : (ℕ → Span → Bool) → Span → Type 0
SomeLocal has p = (x : ℕ) × (has x p ≡ true)

-- what is known is what the paths do
pub record Tells (w : Walk) (f : Family) : Type 0 where
  pub falls_through : (x : ℕ) (p : Span) → w.falls_through ≡ (f x p).falls_through
  pub unassigned : (x : ℕ) (p : Span) → is_left w x ≡ (f x p).unassigned
  pub fault : IsFirst w.fault (SomeLocal (λ x p. (f x p).fault))

-- whether the local was assigned before these were turned, where it is or isn't now
abbrev pub turned_back : List ℕ → ℕ → Bool → Bool
turned_back [] x now = now
turned_back (y ∷ more) x now = if y == x then not (turned_back more x now) else turned_back more x now

-- the same, since so many were turned
abbrev pub at_mark : Walk → ℕ → ℕ → Bool
at_mark w mark x = turned_back (drop mark w.turned.items) x (is_assigned w x)

-- turning back what was turned since gives what was before
pub record IsBehind (before after : Walk) : Type 0 where
  pub more : List ℕ
  pub turned : after.turned.items ≡ before.turned.items ++ more
  pub back : (x : ℕ) → is_assigned before x ≡ turned_back more x (is_assigned after x)

-- one walk is where the other was when so many were turned, and has read what that has
pub record IsTurnedBack (w back : Walk) (mark : ℕ) (falls_through : Bool) : Type 0 where
  pub falls : back.falls_through ≡ falls_through
  pub fault : back.fault ≡ w.fault
  pub turned : back.turned.items ≡ take mark w.turned.items
  pub assigned : (x : ℕ) → is_assigned back x ≡ at_mark w mark x

-- whatever the paths did before, behind this they have done that too
pub record Does (before after : Walk) (s : Family) : Type 0 where
  pub tells : (f : Family) → Tells before f → Tells after (λ x p. assignment_seq (f x p) (s x p))
  pub behind : IsBehind before after
