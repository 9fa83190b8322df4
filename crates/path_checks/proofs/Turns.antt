-- Turns of a loop.
use Rattle.std.proofs.Common.{◌≡◌, ◌==◌, ℕ, Bool, true, false, ◌&&◌, not, List, [], ◌∷◌, drop, length, refl, ap, sym, ◌∙◌, if◌then◌else◌, arith}
use Rattle.std.proofs.Common.{Result, Ok, Err, IfOk}
use Rattle.std.specs.declared.alloc.AllocError.{AllocError}
use Rattle.std.proofs.lemmas.Bool.Decides.{nat_tests}
use Rattle.std.proofs.lemmas.Bool.{and_parts, and_from}
use Rattle.std.specs.List.{list_all}
use Rattle.alp_text.specs.declared.lines.Span.{Span}
use Rattle.task_ast.specs.Paths.{CheckedBlock, write}
use Rattle.task_ast.specs.declared.names.VariableName.{VariableName}
use Rattle.path_sums.specs.Sums.{turns_sum, block_sum}
use Rattle.path_checks.specs.Assignments.{assignment, assignment_unit, assignment_one, assignment_seq}
use Rattle.path_checks.specs.declared.walk.Walk.{Walk}
use Rattle.path_checks.specs.Walks.{Family, is_assigned, Tells, turned_back, Does}
use Rattle.path_checks.proofs.TwoTurns.{IsWell, well_turn, second_turn}
use Rattle.path_checks.proofs.Assignments.{assignment_law}
use Rattle.path_checks.proofs.Walks.{tells_as, does_as, does_nothing, does_both, at_before}

-- how many turns there are
by_count : (w v : Walk) (a b : Bool) (T : Family) → (a ≡ true → Does w v (λ x p. assignment_unit)) → (b ≡ true → Does w v T)
    → (a ≡ false → b ≡ false → Does w v (λ x p. assignment_seq (T x p) (T x p)))
    → Does w v (λ x p. if a then assignment_unit else (if b then T x p else assignment_seq (T x p) (T x p)))
by_count w v true b T none one more = none refl
by_count w v false true T none one more = one refl
by_count w v false false T none one more = more refl refl

zero_so : (n : ℕ) → (n == 0) ≡ true → n ≡ 0
zero_so n h = grind (arith, nat_tests)

one_so : (n : ℕ) → (n == 1) ≡ true → n ≡ 1
one_so n h = grind (arith, nat_tests)

pub no_turn : (w : Walk) (n : ℕ) (T : Family) → n ≡ 0 → Does w w (λ x p. turns_sum (assignment x p) n (T x p))
no_turn w n T h = does_as w w (λ x p. assignment_unit) _ (λ x p. sym (ap (λ n. turns_sum (assignment x p) n (T x p)) h)) (does_nothing w)

pub one_turn : (w v : Walk) (n : ℕ) (T : Family) → n ≡ 1 → Does w v T → Does w v (λ x p. turns_sum (assignment x p) n (T x p))
one_turn w v n T h d = does_as w v T _ (λ x p. sym (ap (λ n. turns_sum (assignment x p) n (T x p)) h)) d

pub two_turns : (r : Result (Unit {0}) AllocError) (w v u : Walk) (n : ℕ) (T : Family) → (n ≡ 0 → ⊥) → (n ≡ 1 → ⊥) → Does w v T → IfOk r (λ _. Does v u T)
    → IfOk r (λ _. Does w u (λ x p. turns_sum (assignment x p) n (T x p)))
two_turns (Ok _) w v u n T some more d e =
    by_count w u (n == 0) (n == 1) T (λ h. absurd (some (zero_so n h))) (λ h. absurd (more (one_so n h))) (λ h k. does_both d e)
two_turns (Err _) w v u n T some more d e = tt

-- ---- where one turn tells what more do

-- a local of which none of these is unassigned, and that is, isn't among them
not_turned : (a : ℕ → Bool) (ts : List ℕ) (x : ℕ) (now : Bool) → list_all a ts ≡ true → a x ≡ false → turned_back ts x now ≡ now
not_turned a [] x now h k = refl
not_turned a (y ∷ ts) x now h k =
    let parts = and_parts (a y) (list_all a ts) h in
    ap (λ t. if t then not (turned_back ts x now) else turned_back ts x now) (differ (y == x) refl parts.0) ∙ not_turned a ts x now parts.1 k
  where
    same : (y == x) ≡ true → y ≡ x
    same h = grind (arith, nat_tests)

    differ : (t : Bool) → (y == x) ≡ t → a y ≡ true → (y == x) ≡ false
    differ true e l = let no : true ≡ false = sym l ∙ ap a (same e) ∙ k in cc
    differ false e l = e

module _ (w v : Walk) (T : Family) (d : Does w v T) (mark : ℕ) (m : mark ≡ length w.turned.items)
    (all : list_all (is_assigned v) (drop mark v.turned.items) ≡ true) where
  -- what is unassigned behind the turn was so in front of it
  was_left : (x : ℕ) → is_assigned v x ≡ false → is_assigned w x ≡ false
  was_left x h = sym ((at_before w v mark d.behind m).1 x) ∙ not_turned (is_assigned v) (drop mark v.turned.items) x (is_assigned v x) all h ∙ h

  not_so : (b : Bool) → not b ≡ true → b ≡ false
  not_so true h = cc
  not_so false h = refl

  again : ((x : ℕ) (p : Span) → IsWell (T x p)) → Does w v (λ x p. assignment_seq (T x p) (T x p))
  again well = record { tells = tells; behind = d.behind }
    where
      tells : (f : Family) → Tells w f → Tells v (λ x p. assignment_seq (f x p) (assignment_seq (T x p) (T x p)))
      tells f h = tells_as v _ _ (λ x p. second_turn (f x p) (T x p) (well x p) (left x p)
          ∙ (assignment_law x p).assoc (f x p) (T x p) (T x p)) one
        where
          one : Tells v (λ x p. assignment_seq (f x p) (T x p))
          one = d.tells f h

          left : (x : ℕ) (p : Span) → ((assignment_seq (f x p) (T x p)).unassigned && (T x p).exposed) ≡ true → (f x p).unassigned ≡ true
          left x p k =
              let here = and_parts v.falls_through (not (is_assigned v x)) (one.unassigned x p ∙ (and_parts _ (T x p).exposed k).0) in
              let came : (f x p).falls_through ≡ true = (and_parts _ (T x p).falls_through (sym (one.falls_through x p) ∙ here.0)).0 in
              sym (h.unassigned x p) ∙ and_from _ _ (h.falls_through x p ∙ came) (ap not (was_left x (not_so _ here.1)))

pub settled_turn : (w v : Walk) (n mark : ℕ) (b : CheckedBlock) (name : VariableName) (all : Bool) → (n ≡ 0 → ⊥)
    → Does w v (λ x p. assignment_seq (block_sum [] (assignment x p) b) (assignment_one x p (write name))) → mark ≡ length w.turned.items
    → all ≡ list_all (is_assigned v) (drop mark v.turned.items) → all ≡ true
    → Does w v (λ x p. turns_sum (assignment x p) n (assignment_seq (block_sum [] (assignment x p) b) (assignment_one x p (write name))))
settled_turn w v n mark b name all some d m e so =
    by_count w v (n == 0) (n == 1) (λ x p. assignment_seq (block_sum [] (assignment x p) b) (assignment_one x p (write name)))
    (λ h. absurd (some (zero_so n h))) (λ h. d) (λ h k. again w v _ d mark m (sym e ∙ so) (λ x p. well_turn x p b (write name)))
