-- When a second turn tells no more than the first.
use Rattle.std.proofs.Common.{[], ◌≡◌, ℕ, Bool, true, false, ◌&&◌, ◌||◌, refl, ap, ap₂, sym, ◌∙◌, if◌then◌else◌}
use Rattle.std.proofs.lemmas.Bool.{and_parts}
use Rattle.alp_text.specs.declared.lines.Span.{Span}
use Rattle.task_ast.specs.Paths.{CheckedBlock, Access, read, write, unset}
use Rattle.path_sums.specs.Sums.{block_sum}
use Rattle.path_sums.proofs.Interface.{agree, Kept, every_block}
use Rattle.path_checks.specs.Loops.{is_local}
use Rattle.path_checks.specs.Assignments.{Assignment, assignment, assignment_unit, assignment_write, assignment_unset, assignment_one, assignment_seq}
use Rattle.path_checks.proofs.Assignments.{assignment_eq}

-- a path on which the local is untouched or unassigned at the end goes on there
pub record IsWell (s : Assignment) : Type 0 where
  pub unassigned : (s.falls_through && s.unassigned) ≡ s.unassigned
  pub untouched : (s.falls_through && s.untouched) ≡ s.untouched

seq_unassigned : (a u b v k : Bool) → (a && u) ≡ u → (b && v) ≡ v → (b && k) ≡ k → ((a && b) && ((a && v) || (u && k))) ≡ ((a && v) || (u && k))
seq_unassigned a u b v k h i j =
    let e : ((a && (b && v)) || ((a && u) && (b && k))) ≡ ((a && v) || (u && k)) = ap₂ (λ x y. (a && x) || y) i (ap₂ (λ x y. x && y) h j) in
    ap (λ z. (a && b) && z) (sym e)
    ∙ agree 5 (λ a u b v k. (a && b) && ((a && (b && v)) || ((a && u) && (b && k)))) (λ a u b v k. (a && (b && v)) || ((a && u) && (b && k))) refl a u b v k ∙ e

seq_untouched : (a j b k : Bool) → (a && j) ≡ j → (b && k) ≡ k → ((a && b) && (j && k)) ≡ (j && k)
seq_untouched a j b k h i =
    let e : ((a && j) && (b && k)) ≡ (j && k) = ap₂ (λ x y. x && y) h i in
    ap (λ z. (a && b) && z) (sym e) ∙ agree 4 (λ a j b k. (a && b) && ((a && j) && (b && k))) (λ a j b k. (a && j) && (b && k)) refl a j b k ∙ e

join_either : (a u b v : Bool) → (a && u) ≡ u → (b && v) ≡ v → ((a || b) && (u || v)) ≡ (u || v)
join_either a u b v h i =
    let e : ((a && u) || (b && v)) ≡ (u || v) = ap₂ (λ x y. x || y) h i in
    ap (λ z. (a || b) && z) (sym e) ∙ agree 4 (λ a u b v. (a || b) && ((a && u) || (b && v))) (λ a u b v. (a && u) || (b && v)) refl a u b v ∙ e

well_one : (x : ℕ) (p : Span) (a : Access) → IsWell (assignment_one x p a)
well_one x p (read n) = record { unassigned = refl; untouched = refl }
well_one x p (write n) = by_test (is_local x n.variable)
  where
    by_test : (b : Bool) → IsWell (if b then assignment_write else assignment_unit)
    by_test true = record { unassigned = refl; untouched = refl }
    by_test false = record { unassigned = refl; untouched = refl }
well_one x p (unset n) = by_test (is_local x n.variable)
  where
    by_test : (b : Bool) → IsWell (if b then assignment_unset else assignment_unit)
    by_test true = record { unassigned = refl; untouched = refl }
    by_test false = record { unassigned = refl; untouched = refl }

well_kept : (x : ℕ) (p : Span) → Kept (assignment x p) IsWell
well_kept x p = record {
  unit = record { unassigned = refl; untouched = refl };
  gone = record { unassigned = refl; untouched = refl };
  one = well_one x p;
  seq = λ s t h k. record {
    unassigned = seq_unassigned s.falls_through s.unassigned t.falls_through t.unassigned t.untouched h.unassigned k.unassigned k.untouched;
    untouched = seq_untouched s.falls_through s.untouched t.falls_through t.untouched h.untouched k.untouched;
  };
  join = λ s t h k. record {
    unassigned = join_either s.falls_through s.unassigned t.falls_through t.unassigned h.unassigned k.unassigned;
    untouched = join_either s.falls_through s.untouched t.falls_through t.untouched h.untouched k.untouched;
  };
}

-- what a turn does is well: the body, then the write of the variable
pub well_turn : (x : ℕ) (p : Span) (b : CheckedBlock) (a : Access) → IsWell (assignment_seq (block_sum [] (assignment x p) b) (assignment_one x p a))
well_turn x p b a = (well_kept x p).seq _ _ (every_block [] (assignment x p) IsWell (well_kept x p) (λ k. (well_kept x p).unit) b) (well_one x p a)

absorbed : (f x w : Bool) → (x ≡ true → f ≡ true) → (w ≡ true → f ≡ true) → (f || (x || w)) ≡ f
absorbed true x w h k = refl
absorbed false true w h k = let e : false ≡ true = h refl in cc
absorbed false false true h k = let e : false ≡ true = k refl in cc
absorbed false false false h k = refl

second_unassigned : (a b u v k : Bool) → (b && v) ≡ v → (((a && b) && v) || (((a && v) || (u && k)) && k)) ≡ ((a && v) || (u && k))
second_unassigned a b u v k h =
    ap (λ v. ((a && b) && v) || (((a && v) || (u && k)) && k)) (sym h)
    ∙ agree 5 (λ a b u v k. ((a && b) && (b && v)) || (((a && (b && v)) || (u && k)) && k)) (λ a b u v k. (a && (b && v)) || (u && k)) refl a b u v k
    ∙ ap (λ v. (a && v) || (u && k)) h

from_falls : (f a b g w : Bool) → ((a && b) && g) ≡ true → (f || ((a && g) || w)) ≡ true
from_falls true a b g w h = refl
from_falls false true b true w h = refl
from_falls false true true false w h = cc
from_falls false true false false w h = cc
from_falls false false b g w h = cc

from_unassigned : (f x u e : Bool) → u ≡ true → e ≡ true → (f || (x || (u && e))) ≡ true
from_unassigned true x u e h k = refl
from_unassigned false true u e h k = refl
from_unassigned false false true e h k = k
from_unassigned false false false e h k = h

pub second_turn : (s t : Assignment) → IsWell t → (((assignment_seq s t).unassigned && t.exposed) ≡ true → s.unassigned ≡ true)
    → assignment_seq s t ≡ assignment_seq (assignment_seq s t) t
second_turn s t well settled = sym (assignment_eq _ _
    (agree 2 (λ a b. (a && b) && b) (λ a b. a && b) refl s.falls_through t.falls_through)
    (agree 2 (λ a b. (a && b) && b) (λ a b. a && b) refl s.untouched t.untouched)
    (second_unassigned s.falls_through t.falls_through s.unassigned t.unassigned t.untouched well.unassigned)
    (agree 4 (λ e k j d. (e || (k && d)) || ((k && j) && d)) (λ e k j d. e || (k && d)) refl s.exposed s.untouched t.untouched t.exposed)
    (absorbed (assignment_seq s t).fault _ _ (from_falls s.fault s.falls_through t.falls_through t.fault (s.unassigned && t.exposed))
    (λ w. from_unassigned s.fault (s.falls_through && t.fault) s.unassigned t.exposed (settled w) (and_parts (assignment_seq s t).unassigned t.exposed w).1)))
