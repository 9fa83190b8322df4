-- What paths do with one local.
use Rattle.std.specs.Prelude.{◌==◌, ℕ, Bool, true, false, not, nat_lt, ◌&&◌, ◌||◌, if◌then◌else◌}
use Rattle.alp_text.specs.declared.lines.Span.{Span}
use Rattle.task_ast.specs.Paths.{Access, read, write, unset}
use Rattle.path_sums.specs.Sums.{Algebra}
use Rattle.path_checks.specs.Loops.{is_local}

-- whether the places are the same
abbrev pub is_at : Span → Span → Bool
is_at p s = s.from == p.from && s.to == p.to

-- what paths do with one local, and whether they read it, unassigned or as it was, at one place
pub record Assignment : Type 0 where
  pub falls_through : Bool
  pub untouched : Bool
  pub unassigned : Bool
  pub exposed : Bool
  pub fault : Bool

abbrev pub assignment_unit : Assignment
assignment_unit = record { falls_through = true; untouched = true; unassigned = false; exposed = false; fault = false }

abbrev pub assignment_gone : Assignment
assignment_gone = record { falls_through = false; untouched = false; unassigned = false; exposed = false; fault = false }

abbrev pub assignment_read : Bool → Assignment
assignment_read hit = record { falls_through = true; untouched = true; unassigned = false; exposed = hit; fault = false }

abbrev pub assignment_write : Assignment
assignment_write = record { falls_through = true; untouched = false; unassigned = false; exposed = false; fault = false }

abbrev pub assignment_unset : Assignment
assignment_unset = record { falls_through = true; untouched = false; unassigned = true; exposed = false; fault = false }

abbrev pub assignment_one : ℕ → Span → Access → Assignment
assignment_one x p (read n) = assignment_read (is_local x n.variable && is_at p n.span)
assignment_one x p (write n) = if is_local x n.variable then assignment_write else assignment_unit
assignment_one x p (unset n) = if is_local x n.variable then assignment_unset else assignment_unit

abbrev pub turned : Bool → Bool → Bool → Bool → Bool
turned on u u' keeps' = (on && u') || (u && keeps')

abbrev pub faulty : Bool → Bool → Bool → Bool → Bool → Bool
faulty f on f' u e' = f || ((on && f') || (u && e'))

abbrev pub assignment_seq : Assignment → Assignment → Assignment
assignment_seq s t = record {
  falls_through = s.falls_through && t.falls_through;
  untouched = s.untouched && t.untouched;
  unassigned = turned s.falls_through s.unassigned t.unassigned t.untouched;
  exposed = s.exposed || (s.untouched && t.exposed);
  fault = faulty s.fault s.falls_through t.fault s.unassigned t.exposed;
}

abbrev pub assignment_join : Assignment → Assignment → Assignment
assignment_join s t =
    record {
      falls_through = s.falls_through || t.falls_through;
      untouched = s.untouched || t.untouched;
      unassigned = s.unassigned || t.unassigned;
      exposed = s.exposed || t.exposed;
      fault = s.fault || t.fault;
    }

-- a call does nothing to its caller's locals
abbrev pub assignment : ℕ → Span → Algebra Assignment
assignment x p = record {
  unit = assignment_unit;
  gone = assignment_gone;
  one = assignment_one x p;
  seq = assignment_seq;
  join = assignment_join;
  called = λ _. assignment_unit;
}

-- before any access: so many locals have values that are given, and the others are unassigned
abbrev pub begun : ℕ → ℕ → Assignment
begun given x = record { falls_through = true; untouched = true; unassigned = not (nat_lt x given); exposed = false; fault = false }
