-- The laws of the sums over one variable's accesses.
use Rattle.std.proofs.Common.{◌≡◌, ℕ, Bool, true, false, refl, ap, sym, ◌∙◌, if◌then◌else◌}
use Rattle.std.proofs.Math.Bool.{or_assoc, and-true, or_self, and_assoc, or_comm}
use Rattle.path_sums.specs.Access.{is_same, summary, summary_unit, summary_read, summary_write, summary_one, summary_seq, summary_join, summary_called}
use Rattle.task_ast.specs.declared.names.Variable.{Variable}
use Rattle.task_ast.specs.declared.names.Variable.TheVariants.{Shared, Local}
use Rattle.task_ast.specs.declared.names.VariableName.{VariableName}
use Rattle.task_ast.specs.Paths.{Access, read, write, unset, is_seen_outside, is_of_shared}
use Rattle.path_sums.specs.declared.access.AccessSummary.{AccessSummary}
use Rattle.path_sums.proofs.Joins.{Lawful}
use Rattle.path_sums.proofs.Tests.{late_none, late_assoc, and_or, late_or, or_and, or_late, and_cube, late_cube}

summary_eq : (s t : AccessSummary) → s.falls_through ≡ t.falls_through → s.untouched ≡ t.untouched → s.transitions_untouched ≡ t.transitions_untouched
    → s.exposed ≡ t.exposed → s.writes ≡ t.writes → s ≡ t
summary_eq s t a b c d e = λ i. record { falls_through = a i; untouched = b i; transitions_untouched = c i; exposed = d i; writes = e i }

-- ---- calls

-- a local isn't seen outside, and another variable than a shared one
seen_is_other : (v : ℕ) (x : Variable) → is_of_shared x ≡ true → is_same (Local v) x ≡ false
seen_is_other v (Shared w) h = refl
seen_is_other v (Local w) h = cc

unseen_is_other : (v : ℕ) (x : Variable) → is_of_shared x ≡ false → is_same (Shared v) x ≡ false
unseen_is_other v (Shared w) h = cc
unseen_is_other v (Local w) h = refl

unit_first : (s : AccessSummary) → summary_seq summary_unit s ≡ s
unit_first s = summary_eq _ _ refl refl refl refl refl

read_called : (v : ℕ) (b : Bool) (s : AccessSummary) → summary_called (Shared v) (summary_seq (if b then summary_read else summary_unit) s)
    ≡ summary_seq (if b then summary_read else summary_unit) (summary_called (Shared v) s)
read_called v true s = summary_eq _ _ refl refl refl refl refl
read_called v false s = summary_eq _ _ refl refl refl refl refl

write_called : (v : ℕ) (b : Bool) (s : AccessSummary) → summary_called (Shared v) (summary_seq (if b then summary_write else summary_unit) s)
    ≡ summary_seq (if b then summary_write else summary_unit) (summary_called (Shared v) s)
write_called v true s = summary_eq _ _ refl refl refl refl refl
write_called v false s = summary_eq _ _ refl refl refl refl refl

-- an access of another variable is none
other_read : (x : Variable) (n : VariableName) → is_same x n.variable ≡ false → summary_one x (read n) ≡ summary_unit
other_read x n e = ap (λ b. if b then summary_read else summary_unit) e

other_write : (x : Variable) (n : VariableName) → is_same x n.variable ≡ false → summary_one x (write n) ≡ summary_unit
other_write x n e = ap (λ b. if b then summary_write else summary_unit) e

called_seen : (x : Variable) (a : Access) (s : AccessSummary) → is_seen_outside a ≡ true
    → summary_called x (summary_seq (summary_one x a) s) ≡ summary_seq (summary_one x a) (summary_called x s)
called_seen (Shared v) (read n) s h = read_called v (is_same (Shared v) n.variable) s
called_seen (Shared v) (write n) s h = write_called v (is_same (Shared v) n.variable) s
called_seen (Shared v) (unset n) s h = summary_eq _ _ refl refl refl refl refl
called_seen (Local v) (read n) s h =
    sym (ap (λ u. summary_seq u summary_unit) (other_read (Local v) n (seen_is_other v n.variable h)) ∙ unit_first summary_unit)
called_seen (Local v) (write n) s h =
    sym (ap (λ u. summary_seq u summary_unit) (other_write (Local v) n (seen_is_other v n.variable h)) ∙ unit_first summary_unit)
called_seen (Local v) (unset n) s h = sym (unit_first summary_unit)

called_unseen : (x : Variable) (a : Access) (s : AccessSummary) → is_seen_outside a ≡ false
    → summary_called x (summary_seq (summary_one x a) s) ≡ summary_called x s
called_unseen (Shared v) (read n) s h =
    ap (λ u. summary_called (Shared v) (summary_seq u s)) (other_read (Shared v) n (unseen_is_other v n.variable h))
    ∙ ap (summary_called (Shared v)) (unit_first s)
called_unseen (Shared v) (write n) s h =
    ap (λ u. summary_called (Shared v) (summary_seq u s)) (other_write (Shared v) n (unseen_is_other v n.variable h))
    ∙ ap (summary_called (Shared v)) (unit_first s)
called_unseen (Shared v) (unset n) s h = ap (summary_called (Shared v)) (unit_first s)
called_unseen (Local v) a s h = refl

called_gone : (x : Variable) → (summary x).called (summary x).gone ≡ (summary x).unit
unfolding summary
called_gone (Shared v) = refl
called_gone (Local v) = refl

called_join : (x : Variable) (r s : AccessSummary) → summary_called x (summary_join r s) ≡ summary_join (summary_called x r) (summary_called x s)
called_join (Shared v) r s = summary_eq _ _ refl refl refl refl refl
called_join (Local v) r s = summary_eq _ _ refl refl refl refl refl

pub summary_law : (x : Variable) → Lawful (summary x)
unfolding summary
summary_law x = record {
  unit_l = λ s. summary_eq _ _ refl refl refl refl refl;
  unit_r =
      λ s. summary_eq _ _ (and-true s.falls_through) (and-true s.untouched) (late_none s.transitions_untouched s.untouched) (late_none s.exposed s.untouched)
      (late_none s.writes s.falls_through);
  gone_l = λ s. refl;
  assoc = λ r s t. summary_eq _ _ (and_assoc r.falls_through s.falls_through t.falls_through) (and_assoc r.untouched s.untouched t.untouched)
      (late_assoc r.transitions_untouched r.untouched s.transitions_untouched s.untouched t.transitions_untouched)
      (late_assoc r.exposed r.untouched s.exposed s.untouched t.exposed)
      (late_assoc r.writes r.falls_through s.writes s.falls_through t.writes);
  distr_l =
      λ r s t. summary_eq _ _ (and_or r.falls_through s.falls_through t.falls_through) (and_or r.untouched s.untouched t.untouched)
      (late_or r.transitions_untouched r.untouched s.transitions_untouched t.transitions_untouched) (late_or r.exposed r.untouched s.exposed t.exposed)
      (late_or r.writes r.falls_through s.writes t.writes);
  distr_r =
      λ r s t. summary_eq _ _ (or_and r.falls_through s.falls_through t.falls_through) (or_and r.untouched s.untouched t.untouched)
      (or_late r.transitions_untouched r.untouched s.transitions_untouched s.untouched t.transitions_untouched)
      (or_late r.exposed r.untouched s.exposed s.untouched t.exposed) (or_late r.writes r.falls_through s.writes s.falls_through t.writes);
  idem = λ s. summary_eq _ _ (or_self s.falls_through) (or_self s.untouched) (or_self s.transitions_untouched) (or_self s.exposed) (or_self s.writes);
  join_assoc =
      λ r s t. summary_eq _ _ (or_assoc r.falls_through s.falls_through t.falls_through) (or_assoc r.untouched s.untouched t.untouched)
      (or_assoc r.transitions_untouched s.transitions_untouched t.transitions_untouched) (or_assoc r.exposed s.exposed t.exposed)
      (or_assoc r.writes s.writes t.writes);
  join_comm =
      λ r s. summary_eq _ _ (or_comm r.falls_through s.falls_through) (or_comm r.untouched s.untouched)
      (or_comm r.transitions_untouched s.transitions_untouched) (or_comm r.exposed s.exposed) (or_comm r.writes s.writes);
  cube = λ s. summary_eq _ _ (and_cube s.falls_through) (and_cube s.untouched) (late_cube s.transitions_untouched s.untouched) (late_cube s.exposed s.untouched)
      (late_cube s.writes s.falls_through);
  called_gone = called_gone x;
  called_seen = called_seen x;
  called_unseen = called_unseen x;
  called_join = called_join x;
}
