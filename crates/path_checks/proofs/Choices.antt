-- Ways through a choice.
use Rattle.std.proofs.Common.{◌≡◌, ℕ, ◌+◌, ◌<◌, true, false, ◌&&◌, ◌||◌, not, List, [], ◌∷◌, drop, drop-cons, map, length, get_or, refl, ap, ap₂, sym, ◌∙◌}
use Rattle.std.proofs.Common.{subst, Option, Some, None, is_some, add-one, rules, Vec, Result, Ok, Err, IfOk, ◌≤◌}
use Rattle.std.proofs.Math.Bool.{or_assoc}
use Rattle.std.specs.Global.{Global}
use Rattle.std.specs.declared.alloc.AllocError.{AllocError}
use Rattle.std.proofs.lemmas.List.{drop_all}
use Rattle.alp_text.specs.declared.lines.Span.{Span}
use Rattle.task_ast.specs.declared.names.FunctionName.{FunctionName}
use Rattle.task_ast.specs.declared.names.VariableName.{VariableName}
use Rattle.task_ast.specs.declared.names.TaskName.{TaskName}
use Rattle.task_ast.specs.declared.Stmt.{the_lemmas}
use Rattle.task_ast.specs.declared.Arm.{Arm, out-Arm}
use Rattle.task_ast.specs.Tree.{choice_of}
use Rattle.task_ast.specs.View.{expression_of, tested_of, block_view}
use Rattle.task_ast.specs.Paths.{CheckedBlock}
use Rattle.path_sums.specs.Sums.{expression_sum, choice_sum, block_sum}
use Rattle.path_sums.proofs.Interface.{agree}
use Rattle.path_checks.specs.Firsts.{IsFirst}
use Rattle.path_checks.specs.Assignments.{Assignment, assignment, assignment_seq, assignment_join}
use Rattle.path_checks.specs.declared.walk.Walk.{Walk}
use Rattle.path_checks.specs.declared.ways.Ended.{Ended}
use Rattle.path_checks.specs.declared.ways.Start.{Start}
use Rattle.path_checks.specs.Walks.{Family, is_assigned, is_left, at_mark, SomeLocal, Tells, IsBehind, IsTurnedBack, Does}
use Rattle.path_checks.specs.Ways.{ended, ended_at, Ends, ends_left, HasEnds, IsWayEnd, IsJoined, WaysTell, SoFar}
use Rattle.path_checks.proofs.Assignments.{assignment_law}
use Rattle.path_checks.proofs.Ended.{first_ended}
use Rattle.path_checks.proofs.Walks.{fault_same, behind_self, behind_both, at_before}

-- ---- the last way

does_choice : (before w last v : Walk) (ends : Ends) (mark : ℕ) (whole rest : Family) → SoFar before w ends whole rest → Does w last rest
    → mark ≡ length before.turned.items → IsJoined mark ends last v → Does before v whole
does_choice before w last v ends mark whole rest s d m j = record { tells = tells; behind = j.behind before behind m }
  where
    behind : IsBehind before last
    behind = behind_both before w last (behind_self before w s.turned s.assigned) d.behind

    start : (x : ℕ) → at_mark last mark x ≡ is_assigned w x
    start x = (at_before before last mark behind m).1 x ∙ sym (s.assigned x)

    tells : (f : Family) → Tells before f → Tells v (λ x p. assignment_seq (f x p) (whole x p))
    tells f h =
        let k = s.tells f h in
        let l = d.tells k.passed k.told in
        record {
          falls_through = λ x p. j.falls_through ∙ ap (λ b. is_some ends || b) (l.falls_through x p) ∙ k.falls_through x p;
          unassigned = λ x p. j.unassigned x ∙ ap₂ (λ b c. ends_left ends x b || c) (start x) (l.unassigned x p) ∙ k.unassigned x p;
          fault = subst (λ o. IsFirst o (SomeLocal (λ x p. (assignment_seq (f x p) (whole x p)).fault))) (sym j.fault)
              (fault_same last.fault _ _ k.fault l.fault);
        }

pub choice_ok : (r : Result (Unit {0}) AllocError) (before w last v : Walk) (ends : Ends) (mark : ℕ) (whole rest : Family)
    → SoFar before w ends whole rest × Does w last rest → mark ≡ length before.turned.items → IfOk r (λ _. IsJoined mark ends last v)
    → IfOk r (λ _. Does before v whole)
choice_ok (Ok _) before w last v ends mark whole rest h m j = does_choice before w last v ends mark whole rest h.0 h.1 m j
choice_ok (Err _) before w last v ends mark whole rest h m j = tt

-- the first way that falls through
pub first_way : (ends : Ends) (v : Vec Ended Global) (w : Walk) (mark : ℕ) → ends ≡ None → w.falls_through ≡ true
    → v.items ≡ map (ended_at (is_assigned w)) (drop mark w.turned.items)
    → HasEnds (Some v) (is_some ends || w.falls_through) (λ x. ends_left ends x (at_mark w mark x) || is_left w x) (at_mark w mark)
first_way ends v w mark n o e = record {
  some = sym (ap₂ (λ e o. is_some e || o) n o);
  unassigned = λ x. ap not (ap (λ es. ended es x (at_mark w mark x)) e ∙ first_ended (drop mark w.turned.items) (is_assigned w) x)
      ∙ sym (ap₂ (λ e o. ends_left e x (at_mark w mark x) || (o && not (is_assigned w x))) n o);
}

pub joined_none : (mark : ℕ) (w : Walk) → IsJoined mark None w w
joined_none mark w = record { falls_through = refl; unassigned = λ x. refl; fault = refl; behind = λ before h m. h }

pub joined_some : (mark : ℕ) (ends both : Vec Ended Global) (w start v : Walk)
    → ((x : ℕ) → not (ended both.items x (at_mark w mark x)) ≡ (not (ended ends.items x (at_mark w mark x)) || is_left w x))
    → IsTurnedBack w start mark true → ((x : ℕ) → is_assigned v x ≡ ended both.items x (is_assigned start x)) → IsBehind start v
    → v.falls_through ≡ start.falls_through → v.fault ≡ start.fault → IsJoined mark (Some ends) w v
joined_some mark ends both w start v e r a b o g = record {
  falls_through = o ∙ r.falls;
  unassigned = λ x. ap₂ (λ o a. o && not a) (o ∙ r.falls) (a x ∙ ap (ended both.items x) (r.assigned x)) ∙ e x;
  fault = g ∙ r.fault;
  behind = λ before h m.
      let at = at_before before w mark h m in
      behind_both before start v (behind_self before start (r.turned ∙ at.0) (λ x. r.assigned x ∙ at.1 x)) b;
}

-- ---- one more way

-- its end is known by these ends, and the start again by the same assignment as before, but that its reads have been
back : Assignment → Assignment → Assignment
back start end =
    record { falls_through = start.falls_through; untouched = true; unassigned = start.unassigned; exposed = false; fault = end.fault }

opened : (x : ℕ) (p : Span) (h e b r : Assignment) → assignment_seq h (assignment_seq e (assignment_join b r))
    ≡ assignment_join (assignment_seq (assignment_seq h e) b) (assignment_seq (assignment_seq h e) r)
opened x p h e b r = sym ((assignment_law x p).assoc h e (assignment_join b r)) ∙ (assignment_law x p).distr_l (assignment_seq h e) b r

faults : (h b r : Assignment) → (assignment_seq (back h (assignment_seq h b)) r).fault ≡ (assignment_join (assignment_seq h b) (assignment_seq h r)).fault
unfolding back
faults h b r = agree 3 (λ f y z. (f || y) || z) (λ f y z. (f || y) || (f || z)) refl h.fault
    ((h.falls_through && b.fault) || (h.unassigned && b.exposed)) ((h.falls_through && r.fault) || (h.unassigned && r.exposed))

-- a choice starts there
pub record IsStart (before : Walk) (start : Start) : Type 0 where
  pub mark : start.mark ≡ length before.turned.items
  pub comes : start.comes ≡ before.falls_through

-- an arm's condition is read, its block is walked, and the way ends
pub record Way (before : Walk) (start : Start) (ends both : Ends) (w v : Walk) (a : Arm VariableName TaskName FunctionName) : Type 0 where
  pub at : IsStart before start
  pub passed : Walk
  pub walked : Walk
  pub read : Does w passed (λ x p. expression_sum [] (assignment x p) (expression_of (out-Arm VariableName TaskName FunctionName a).condition))
  pub falls : passed.falls_through ≡ w.falls_through
  pub assigned : passed.assigned ≡ w.assigned
  pub turned : passed.turned ≡ w.turned
  pub block : Does passed walked (λ x p. block_sum [] (assignment x p) (block_view (out-Arm VariableName TaskName FunctionName a).block.items))
  pub end : IsWayEnd start.mark start.comes ends both walked v

module _ (before w v : Walk) (ends both : Ends) (start : Start) (whole R : Family) (a : Arm VariableName TaskName FunctionName)
    (s : SoFar before w ends whole (λ x p. assignment_seq
    (expression_sum [] (assignment x p) (expression_of (out-Arm VariableName TaskName FunctionName a).condition))
    (assignment_join (block_sum [] (assignment x p) (block_view (out-Arm VariableName TaskName FunctionName a).block.items)) (R x p))))
    (way : Way before start ends both w v a) where
  E : Family
  E x p = expression_sum [] (assignment x p) (expression_of (out-Arm VariableName TaskName FunctionName a).condition)

  B : Family
  B x p = block_sum [] (assignment x p) (block_view (out-Arm VariableName TaskName FunctionName a).block.items)

  behind : IsBehind before way.walked
  behind = behind_both before way.passed way.walked (behind_self before way.passed (ap (λ v. v.items) way.turned ∙ s.turned)
      (λ x. ap (λ v. get_or v.items x false) way.assigned ∙ s.assigned x)) way.block.behind

  falls : v.falls_through ≡ before.falls_through
  falls = way.end.returned.falls ∙ way.at.comes

  at_start : (x : ℕ) → at_mark way.walked start.mark x ≡ is_assigned before x
  at_start x = (at_before before way.walked start.mark behind way.at.mark).1 x

  assigned : (x : ℕ) → is_assigned v x ≡ is_assigned before x
  assigned x = way.end.returned.assigned x ∙ at_start x

  as_passed : (x : ℕ) → is_left v x ≡ is_left way.passed x
  as_passed x = ap₂ (λ o a. o && not a) (falls ∙ sym s.falls_through ∙ sym way.falls)
      (assigned x ∙ sym (s.assigned x) ∙ sym (ap (λ v. get_or v.items x false) way.assigned))

  ends_are : (x : ℕ) → ends_left both x (is_assigned v x) ≡ (ends_left ends x (is_assigned w x) || is_left way.walked x)
  ends_are x = ap (ends_left both x) (way.end.returned.assigned x) ∙ way.end.all.unassigned x
      ∙ ap (λ a. ends_left ends x a || is_left way.walked x) (at_start x ∙ sym (s.assigned x))

  tells : (f : Family) → Tells before f → WaysTell v both f whole R
  unfolding back E B
  tells f h =
      let k = s.tells f h in
      let passed = way.read.tells k.passed k.told in
      let taken = way.block.tells _ passed in
      let H : Family = λ x p. assignment_seq (k.passed x p) (E x p) in
      let open_at = λ (x : ℕ) (p : Span). opened x p (k.passed x p) (E x p) (B x p) (R x p) in
      record {
        passed = λ x p. back (H x p) (assignment_seq (H x p) (B x p));
        told = record {
          falls_through = λ x p. falls ∙ sym s.falls_through ∙ sym way.falls ∙ passed.falls_through x p;
          unassigned = λ x p. as_passed x ∙ passed.unassigned x p;
          fault = subst (λ q. IsFirst q (SomeLocal (λ x p. (assignment_seq (H x p) (B x p)).fault))) (sym way.end.returned.fault) taken.fault;
        };
        falls_through = λ x p. ap (λ n. n || ((H x p).falls_through && (R x p).falls_through))
            (way.end.all.some ∙ ap (λ n. is_some ends || n) (taken.falls_through x p))
            ∙ or_assoc (is_some ends) _ _ ∙ ap (λ q. is_some ends || q.falls_through) (sym (open_at x p)) ∙ k.falls_through x p;
        unassigned = λ x p. ap (λ n. n || (assignment_seq (H x p) (R x p)).unassigned)
            (ends_are x ∙ ap (λ n. ends_left ends x (is_assigned w x) || n) (taken.unassigned x p))
            ∙ or_assoc (ends_left ends x (is_assigned w x)) _ _ ∙ ap (λ q. ends_left ends x (is_assigned w x) || q.unassigned) (sym (open_at x p))
            ∙ k.unassigned x p;
        fault = λ x p. faults (H x p) (B x p) (R x p) ∙ ap (λ q. q.fault) (sym (open_at x p)) ∙ k.fault x p;
      }

  way_ended : SoFar before v both whole R
  way_ended = record {
    falls_through = falls;
    turned = way.end.returned.turned ∙ (at_before before way.walked start.mark behind way.at.mark).0;
    assigned = assigned;
    tells = tells;
  }

-- before any way
pub no_way : (w : Walk) (whole : Family) → SoFar w w None whole whole
no_way w whole = record {
  falls_through = refl;
  turned = refl;
  assigned = λ x. refl;
  tells = λ f h. record { passed = f; told = h; falls_through = λ x p. refl; unassigned = λ x p. refl; fault = λ x p. refl };
}

-- ---- the arms of a tree

tested_is : (a : Arm VariableName TaskName FunctionName) → tested_of a ≡ record {
  condition = expression_of (out-Arm VariableName TaskName FunctionName a).condition;
  block = block_view (out-Arm VariableName TaskName FunctionName a).block.items;
}
tested_is a = search (rules, the_lemmas)

-- what is to come, with the next arm at its front
arm_front : (arms : List (Arm VariableName TaskName FunctionName)) (i : ℕ) (a : Arm VariableName TaskName FunctionName) (last : Option CheckedBlock) (x : ℕ)
    (p : Span)
    → i < length arms → a ≡ get_or arms i a → choice_sum [] (assignment x p) (choice_of (map tested_of (drop i arms)) last)
    ≡ assignment_seq (expression_sum [] (assignment x p) (expression_of (out-Arm VariableName TaskName FunctionName a).condition))
    (assignment_join (block_sum [] (assignment x p) (block_view (out-Arm VariableName TaskName FunctionName a).block.items))
    (choice_sum [] (assignment x p) (choice_of (map tested_of (drop (i + 1) arms)) last)))
arm_front arms i a last x p h e =
    let rest = choice_of (map tested_of (drop (i + 1) arms)) last in
    let front : drop i arms ≡ a ∷ drop (i + 1) arms = rw (add-one) (drop-cons arms i a h) ∙ ap (λ x. x ∷ drop (i + 1) arms) (sym e) in
    ap (λ xs. choice_sum [] (assignment x p) (choice_of (map tested_of xs) last)) front
    ∙ ap (λ d. assignment_seq (expression_sum [] (assignment x p) d.condition)
    (assignment_join (block_sum [] (assignment x p) d.block) (choice_sum [] (assignment x p) rest))) (tested_is a)

rest_as : (before w : Walk) (ends : Ends) (whole rest rest' : Family) → ((x : ℕ) (p : Span) → rest x p ≡ rest' x p) → SoFar before w ends whole rest
    → SoFar before w ends whole rest'
rest_as before w ends whole rest rest' e h = let q : rest ≡ rest' = λ i x p. e x p i in subst (SoFar before w ends whole) q h

-- what is to come from the i-th arm on
abbrev pub to_come : List (Arm VariableName TaskName FunctionName) → Option CheckedBlock → ℕ → Family
to_come arms last i x p = choice_sum [] (assignment x p) (choice_of (map tested_of (drop i arms)) last)

-- the arms up to the i-th have been walked
abbrev pub Passed : Walk → Walk → Ends → List (Arm VariableName TaskName FunctionName) → ℕ → Type 0
Passed before w ends arms i = (last : Option CheckedBlock) → SoFar before w ends (to_come arms last 0) (to_come arms last i)

pub one_way : (before w v : Walk) (ends both : Ends) (start : Start) (arms : List (Arm VariableName TaskName FunctionName)) (i : ℕ)
    (a : Arm VariableName TaskName FunctionName)
    → (i < length arms) × (a ≡ get_or arms i a) → Way before start ends both w v a → Passed before w ends arms i → Passed before v both arms (i + 1)
one_way before w v ends both start arms i a next way s = λ last.
    way_ended before w v ends both start (to_come arms last 0) (to_come arms last (i + 1)) a
    (rest_as before w ends (to_come arms last 0) (to_come arms last i) _ (λ x p. arm_front arms i a last x p next.0 next.1) (s last)) way

-- all arms have been walked
pub all_ways : (before w : Walk) (ends : Ends) (arms : List (Arm VariableName TaskName FunctionName)) (i : ℕ) → length arms ≤ i → Passed before w ends arms i
    → (last : Option CheckedBlock) → SoFar before w ends (to_come arms last 0) (λ x p. choice_sum [] (assignment x p) (choice_of [] last))
all_ways before w ends arms i h s last = rest_as before w ends (to_come arms last 0) (to_come arms last i) _
    (λ x p. ap (λ xs. choice_sum [] (assignment x p) (choice_of (map tested_of xs) last)) (drop_all i arms h)) (s last)
