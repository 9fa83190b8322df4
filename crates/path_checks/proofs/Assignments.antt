-- What paths do with one local: the sums, their laws, and what they say of one path.
use Rattle.std.proofs.Common.{◌≡◌, ℕ, Bool, true, false, ◌&&◌, ◌||◌, List, [], ◌∷◌, refl, ap, sym, ◌∙◌, if◌then◌else◌}
use Rattle.std.proofs.Math.Bool.{or_assoc, and-true, or_self, and_assoc, or_comm}
use Rattle.alp_text.specs.declared.lines.Span.{Span}
use Rattle.task_ast.specs.declared.names.Variable.{Variable}
use Rattle.task_ast.specs.declared.names.Variable.TheVariants.{Shared, Local}
use Rattle.task_ast.specs.Paths.{Access, read, write, unset, End, goes_on, goes_to, returns, is_of_shared, is_seen_outside}
use Rattle.path_sums.proofs.Interface.{path_sum, Lawful, agree, late, late_none, late_assoc, and_or, late_or, or_and, or_late, and_cube, late_cube}
use Rattle.path_checks.specs.Loops.{is_local}
use Rattle.path_checks.specs.Assignments.{is_at, Assignment, assignment_unit, assignment_read, assignment_write, assignment_unset, turned, faulty}
use Rattle.path_checks.specs.Assignments.{assignment_one, assignment_seq, assignment}

-- whether a path reads the local at the place while it is unassigned, from a state on
abbrev pub reads_unassigned : Bool → ℕ → Span → List Access → Bool
reads_unassigned u x p [] = false
reads_unassigned u x p (read n ∷ more) = (u && (is_local x n.variable && is_at p n.span)) || reads_unassigned u x p more
reads_unassigned u x p (write n ∷ more) = reads_unassigned (if is_local x n.variable then false else u) x p more
reads_unassigned u x p (unset n ∷ more) = reads_unassigned (if is_local x n.variable then true else u) x p more

pub assignment_eq : (s t : Assignment) → s.falls_through ≡ t.falls_through → s.untouched ≡ t.untouched → s.unassigned ≡ t.unassigned → s.exposed ≡ t.exposed
    → s.fault ≡ t.fault → s ≡ t
assignment_eq s t a b c d e = λ i. record { falls_through = a i; untouched = b i; unassigned = c i; exposed = d i; fault = e i }

-- an access of a shared variable does nothing to a local
shared_alone : (x : ℕ) (p : Span) (a : Access) → is_seen_outside a ≡ true → assignment_one x p a ≡ assignment_unit
shared_alone x p (read n) h = by n.variable h
  where
    by : (v : Variable) → is_of_shared v ≡ true → assignment_read (is_local x v && is_at p n.span) ≡ assignment_unit
    by (Shared y) h = refl
    by (Local y) h = cc
shared_alone x p (write n) h = by n.variable h
  where
    by : (v : Variable) → is_of_shared v ≡ true → (if is_local x v then assignment_write else assignment_unit) ≡ assignment_unit
    by (Shared y) h = refl
    by (Local y) h = cc
shared_alone x p (unset n) h = by n.variable h
  where
    by : (v : Variable) → is_of_shared v ≡ true → (if is_local x v then assignment_unset else assignment_unit) ≡ assignment_unit
    by (Shared y) h = refl
    by (Local y) h = cc

pub assignment_law : (x : ℕ) (p : Span) → Lawful (assignment x p)
assignment_law x p = record {
  unit_l = λ s. assignment_eq _ _ refl refl (or_false s.unassigned) refl (or_false s.fault);
  unit_r =
      λ s. assignment_eq _ _ (and-true s.falls_through) (and-true s.untouched) (turned_unit s.falls_through s.unassigned) (late_none s.exposed s.untouched)
      (faulty_none s.fault s.falls_through s.unassigned);
  gone_l = λ s. refl;
  assoc = λ r s t. assignment_eq _ _ (and_assoc r.falls_through s.falls_through t.falls_through) (and_assoc r.untouched s.untouched t.untouched)
      (turned_assoc r.falls_through r.unassigned s.falls_through s.unassigned s.untouched t.unassigned t.untouched)
      (late_assoc r.exposed r.untouched s.exposed s.untouched t.exposed)
      (faulty_assoc r.fault r.falls_through r.unassigned s.fault s.falls_through s.unassigned s.exposed s.untouched t.fault t.exposed);
  distr_l =
      λ r s t. assignment_eq _ _ (and_or r.falls_through s.falls_through t.falls_through) (and_or r.untouched s.untouched t.untouched)
      (turned_or r.falls_through r.unassigned s.unassigned s.untouched t.unassigned t.untouched) (late_or r.exposed r.untouched s.exposed t.exposed)
      (faulty_or r.fault r.falls_through r.unassigned s.fault s.exposed t.fault t.exposed);
  distr_r =
      λ r s t. assignment_eq _ _ (or_and r.falls_through s.falls_through t.falls_through) (or_and r.untouched s.untouched t.untouched)
      (or_turned r.falls_through r.unassigned s.falls_through s.unassigned t.unassigned t.untouched)
      (or_late r.exposed r.untouched s.exposed s.untouched t.exposed)
      (or_faulty r.fault r.falls_through r.unassigned s.fault s.falls_through s.unassigned t.fault t.exposed);
  idem = λ s. assignment_eq _ _ (or_self s.falls_through) (or_self s.untouched) (or_self s.unassigned) (or_self s.exposed) (or_self s.fault);
  join_assoc =
      λ r s t. assignment_eq _ _ (or_assoc r.falls_through s.falls_through t.falls_through) (or_assoc r.untouched s.untouched t.untouched)
      (or_assoc r.unassigned s.unassigned t.unassigned) (or_assoc r.exposed s.exposed t.exposed) (or_assoc r.fault s.fault t.fault);
  join_comm =
      λ r s. assignment_eq _ _ (or_comm r.falls_through s.falls_through) (or_comm r.untouched s.untouched) (or_comm r.unassigned s.unassigned)
      (or_comm r.exposed s.exposed) (or_comm r.fault s.fault);
  cube = λ s. assignment_eq _ _ (and_cube s.falls_through) (and_cube s.untouched) (turned_cube s.falls_through s.unassigned s.untouched)
      (late_cube s.exposed s.untouched) (faulty_cube s.fault s.falls_through s.unassigned s.exposed s.untouched);
  called_gone = refl;
  called_seen = λ a s h. ap (λ one. assignment_seq one assignment_unit) (sym (shared_alone x p a h));
  called_unseen = λ a s h. refl;
  called_join = λ r s. refl;
}
  where
    or_false : (a : Bool) → (a || false) ≡ a
    or_false = agree 1 (λ a. a || false) (λ a. a) refl

    turned_unit : (o u : Bool) → turned o u false true ≡ u
    turned_unit = agree 2 (λ o u. turned o u false true) (λ o u. u) refl

    faulty_none : (f o u : Bool) → faulty f o false u false ≡ f
    faulty_none = agree 3 (λ f o u. faulty f o false u false) (λ f o u. f) refl

    turned_assoc : (o u o' u' k' u'' k'' : Bool) → turned (o && o') (turned o u u' k') u'' k'' ≡ turned o u (turned o' u' u'' k'') (k' && k'')
    turned_assoc =
        agree 7 (λ o u o' u' k' u'' k''. turned (o && o') (turned o u u' k') u'' k'')
        (λ o u o' u' k' u'' k''. turned o u (turned o' u' u'' k'') (k' && k'')) refl

    faulty_assoc : (f o u f' o' u' e' k' f'' e'' : Bool)
        → faulty (faulty f o f' u e') (o && o') f'' (turned o u u' k') e'' ≡ faulty f o (faulty f' o' f'' u' e'') u (late e' k' e'')
    faulty_assoc =
        agree 10 (λ f o u f' o' u' e' k' f'' e''. faulty (faulty f o f' u e') (o && o') f'' (turned o u u' k') e'')
        (λ f o u f' o' u' e' k' f'' e''. faulty f o (faulty f' o' f'' u' e'') u (late e' k' e'')) refl

    turned_or : (o u u' k' u'' k'' : Bool) → turned o u (u' || u'') (k' || k'') ≡ (turned o u u' k' || turned o u u'' k'')
    turned_or = agree 6 (λ o u u' k' u'' k''. turned o u (u' || u'') (k' || k'')) (λ o u u' k' u'' k''. turned o u u' k' || turned o u u'' k'') refl

    faulty_or : (f o u f' e' f'' e'' : Bool) → faulty f o (f' || f'') u (e' || e'') ≡ (faulty f o f' u e' || faulty f o f'' u e'')
    faulty_or = agree 7 (λ f o u f' e' f'' e''. faulty f o (f' || f'') u (e' || e'')) (λ f o u f' e' f'' e''. faulty f o f' u e' || faulty f o f'' u e'') refl

    or_turned : (o u o' u' u'' k'' : Bool) → turned (o || o') (u || u') u'' k'' ≡ (turned o u u'' k'' || turned o' u' u'' k'')
    or_turned = agree 6 (λ o u o' u' u'' k''. turned (o || o') (u || u') u'' k'') (λ o u o' u' u'' k''. turned o u u'' k'' || turned o' u' u'' k'') refl

    or_faulty : (f o u f' o' u' f'' e'' : Bool) → faulty (f || f') (o || o') f'' (u || u') e'' ≡ (faulty f o f'' u e'' || faulty f' o' f'' u' e'')
    or_faulty =
        agree 8 (λ f o u f' o' u' f'' e''. faulty (f || f') (o || o') f'' (u || u') e'')
        (λ f o u f' o' u' f'' e''. faulty f o f'' u e'' || faulty f' o' f'' u' e'') refl

    turned_cube : (o u k : Bool) → turned o u (turned o u u k) (k && k) ≡ turned o u u k
    turned_cube = agree 3 (λ o u k. turned o u (turned o u u k) (k && k)) (λ o u k. turned o u u k) refl

    faulty_cube : (f o u e k : Bool) → faulty f o (faulty f o f u e) u (late e k e) ≡ faulty f o f u e
    faulty_cube = agree 5 (λ f o u e k. faulty f o (faulty f o f u e) u (late e k e)) (λ f o u e k. faulty f o f u e) refl

-- ---- one path

abbrev pub from_state : Bool → Assignment → Bool
from_state u s = s.fault || (u && s.exposed)

read_step : (u hit : Bool) (s : Assignment) → ((u && hit) || from_state u s) ≡ from_state u (assignment_seq (assignment_read hit) s)
read_step u hit s =
    agree 4 (λ u hit f e. (u && hit) || (f || (u && e))) (λ u hit f e. (false || (f || false)) || (u && (hit || e))) refl u hit s.fault s.exposed

write_step : (u b : Bool) (s : Assignment)
    → from_state (if b then false else u) s ≡ from_state u (assignment_seq (if b then assignment_write else assignment_unit) s)
write_step u true s = agree 3 (λ u f e. f || (false && e)) (λ u f e. (f || false) || (u && false)) refl u s.fault s.exposed
write_step u false s = agree 3 (λ u f e. f || (u && e)) (λ u f e. (f || false) || (u && e)) refl u s.fault s.exposed

unset_step : (u b : Bool) (s : Assignment)
    → from_state (if b then true else u) s ≡ from_state u (assignment_seq (if b then assignment_unset else assignment_unit) s)
unset_step u true s = agree 3 (λ u f e. f || e) (λ u f e. (f || e) || (u && false)) refl u s.fault s.exposed
unset_step u false s = agree 3 (λ u f e. f || (u && e)) (λ u f e. (f || false) || (u && e)) refl u s.fault s.exposed

none_step : (u : Bool) → false ≡ (u && false)
none_step = agree 1 (λ u. false) (λ u. u && false) refl

pub reads_is : (x : ℕ) (p : Span) (xs : List Access) (end : End) (u : Bool) → reads_unassigned u x p xs ≡ from_state u (path_sum (assignment x p) xs end)
reads_is x p [] goes_on u = none_step u
reads_is x p [] (goes_to _) u = none_step u
reads_is x p [] returns u = none_step u
reads_is x p (read n ∷ xs) end u = ap (λ b. (u && (is_local x n.variable && is_at p n.span)) || b) (reads_is x p xs end u)
    ∙ read_step u (is_local x n.variable && is_at p n.span) (path_sum (assignment x p) xs end)
reads_is x p (write n ∷ xs) end u = reads_is x p xs end (if is_local x n.variable then false else u)
    ∙ write_step u (is_local x n.variable) (path_sum (assignment x p) xs end)
reads_is x p (unset n ∷ xs) end u = reads_is x p xs end (if is_local x n.variable then true else u)
    ∙ unset_step u (is_local x n.variable) (path_sum (assignment x p) xs end)
