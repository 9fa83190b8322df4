-- Steps of a walk.
use Rattle.std.proofs.Common.{◌≡◌, ◌==◌, ℕ, Bool, true, false, ◌&&◌, ◌||◌, not, List, [], ◌∷◌, ◌++◌, take, drop, length, refl, ap, ap₂, sym, ◌∙◌, subst}
use Rattle.std.proofs.Common.{if◌then◌else◌, Option, None, Some, Result, Ok, Err, IfOk, append-nil, append_assoc, ◌⊎◌, inl, inr, get_or, nat_lt, replicate}
use Rattle.std.proofs.Common.{arith}
use Rattle.std.proofs.lemmas.Bool.{and_parts, and_from, or_cases, or_left, or_right, ltb-true, ltb-false}
use Rattle.std.proofs.lemmas.List.{get_or-replicate, get_or_past, length-replicate}
use Rattle.std.specs.declared.alloc.AllocError.{AllocError}
use Rattle.alp_text.specs.declared.lines.Span.{Span}
use Rattle.task_ast.specs.declared.names.Variable.{Variable}
use Rattle.task_ast.specs.declared.names.Variable.TheVariants.{Local}
use Rattle.task_ast.specs.declared.names.VariableName.{VariableName}
use Rattle.task_ast.specs.declared.names.FunctionName.{FunctionName}
use Rattle.task_ast.specs.declared.WordType.{WordType}
use Rattle.task_ast.specs.Tree as t
use Rattle.task_ast.specs.Paths.{CheckedExpression, CheckedValues, CheckedStatement, read, write, unset}
use Rattle.path_sums.specs.Sums.{expression_sum, values_sum, statement_sum}
use Rattle.path_sums.proofs.Interface.{agree}
use Rattle.path_checks.specs.Firsts.{IsFirst, first_of}
use Rattle.path_checks.specs.Loops.{is_local}
use Rattle.path_checks.specs.Assignments.{Assignment, assignment, assignment_unit, assignment_gone, assignment_one}
use Rattle.path_checks.specs.Assignments.{assignment_seq, assignment_join, begun}
use Rattle.path_checks.specs.declared.walk.Walk.{Walk}
use Rattle.path_checks.specs.Walks.{Family, is_assigned, SomeLocal, Tells, turned_back, at_mark, IsBehind, Does}
use Rattle.path_checks.proofs.FirstPlaces.{first_same, first_either}
use Rattle.path_checks.proofs.Assignments.{assignment_law}

-- ---- what holds of equal things

pub tells_as : (w : Walk) (f g : Family) → ((x : ℕ) (p : Span) → f x p ≡ g x p) → Tells w f → Tells w g
tells_as w f g e h = let q : f ≡ g = λ i x p. e x p i in subst (Tells w) q h

pub does_as : (a b : Walk) (s t : Family) → ((x : ℕ) (p : Span) → s x p ≡ t x p) → Does a b s → Does a b t
does_as a b s t e h = let q : s ≡ t = λ i x p. e x p i in subst (Does a b) q h

-- the same reads at fault
pub fault_same : (o : Option Span) (f g : ℕ → Span → Bool) → ((x : ℕ) (p : Span) → f x p ≡ g x p) → IsFirst o (SomeLocal f) → IsFirst o (SomeLocal g)
fault_same o f g e h = let q : f ≡ g = λ i x p. e x p i in subst (λ g. IsFirst o (SomeLocal g)) q h

-- ---- turning back

turned_back_append : (a b : List ℕ) (x : ℕ) (now : Bool) → turned_back (a ++ b) x now ≡ turned_back a x (turned_back b x now)
turned_back_append [] b x now = refl
turned_back_append (y ∷ a) b x now = ap (λ t. if y == x then not t else t) (turned_back_append a b x now)

pub behind_self : (w v : Walk) → v.turned.items ≡ w.turned.items → ((x : ℕ) → is_assigned v x ≡ is_assigned w x) → IsBehind w v
behind_self w v t a = record { more = []; turned = t ∙ sym (append-nil w.turned.items); back = λ x. sym (a x) }

pub behind_both : (a b c : Walk) → IsBehind a b → IsBehind b c → IsBehind a c
behind_both a b c h k = record {
  more = h.more ++ k.more;
  turned = k.turned ∙ ap (λ xs. xs ++ k.more) h.turned ∙ append_assoc a.turned.items h.more k.more;
  back = λ x. h.back x ∙ ap (turned_back h.more x) (k.back x) ∙ sym (turned_back_append h.more k.more x (is_assigned c x));
}

drop_front : (xs ys : List ℕ) → drop (length xs) (xs ++ ys) ≡ ys
drop_front [] ys = refl
drop_front (x ∷ xs) ys = drop_front xs ys

take_front : (xs ys : List ℕ) → take (length xs) (xs ++ ys) ≡ xs
take_front [] ys = refl
take_front (x ∷ xs) ys = ap (λ zs. x ∷ zs) (take_front xs ys)

-- at the mark of an earlier place stands what was known there
pub at_before : (before w : Walk) (mark : ℕ) → IsBehind before w → mark ≡ length before.turned.items
    → (take mark w.turned.items ≡ before.turned.items) × ((x : ℕ) → at_mark w mark x ≡ is_assigned before x)
at_before before w mark h m = (
  ap₂ take m h.turned ∙ take_front before.turned.items h.more,
  λ x. ap (λ xs. turned_back xs x (is_assigned w x)) (ap₂ drop m h.turned ∙ drop_front before.turned.items h.more) ∙ sym (h.back x),
)

-- ---- one part after another

pub does_nothing : (w : Walk) → Does w w (λ x p. assignment_unit)
does_nothing w = record {
  tells = λ f h. tells_as w f _ (λ x p. sym ((assignment_law x p).unit_r (f x p))) h;
  behind = behind_self w w refl (λ x. refl);
}

pub does_both : {a b c : Walk} {s t : Family} → Does a b s → Does b c t → Does a c (λ x p. assignment_seq (s x p) (t x p))
does_both {a} {b} {c} {s} {t} h k = record {
  tells = λ f g. tells_as c _ _ (λ x p. (assignment_law x p).assoc (f x p) (s x p) (t x p)) (k.tells _ (h.tells f g));
  behind = behind_both a b c h.behind k.behind;
}

-- the same of what a call answers
pub then_ok : (r : Result (Unit {0}) AllocError) (a b c : Walk) (s t : Family) → Does a b s → IfOk r (λ _. Does b c t)
    → IfOk r (λ _. Does a c (λ x p. assignment_seq (s x p) (t x p)))
then_ok (Ok _) a b c s t h k = does_both h k
then_ok (Err _) a b c s t h k = tt

-- the same statement
pub statement_as : (a b : Walk) (s s' : CheckedStatement) → s ≡ s' → Does a b (λ x p. statement_sum [] (assignment x p) s')
    → Does a b (λ x p. statement_sum [] (assignment x p) s)
statement_as a b s s' e h = subst (λ s. Does a b (λ x p. statement_sum [] (assignment x p) s)) (sym e) h

pub statement_ok : (r : Result (Unit {0}) AllocError) (a b : Walk) (s s' : CheckedStatement) → s ≡ s'
    → IfOk r (λ _. Does a b (λ x p. statement_sum [] (assignment x p) s')) → IfOk r (λ _. Does a b (λ x p. statement_sum [] (assignment x p) s))
statement_ok (Ok _) a b s s' e h = statement_as a b s s' e h
statement_ok (Err _) a b s s' e h = tt

-- a declaration
pub declared_none : (r : Result (Unit {0}) AllocError) (a b : Walk) (n : VariableName) (v : Option CheckedExpression) → v ≡ None
    → IfOk r (λ _. Does a b (λ x p. assignment_one x p (unset n)))
    → IfOk r (λ _. (of : WordType) → Does a b (λ x p. statement_sum [] (assignment x p) (t.declare of n v)))
declared_none (Ok _) a b n v e h = λ of. subst (λ v. Does a b (λ x p. statement_sum [] (assignment x p) (t.declare of n v))) (sym e) h
declared_none (Err _) a b n v e h = tt

pub declared_some : (r : Result (Unit {0}) AllocError) (a b : Walk) (n : VariableName) (v : Option CheckedExpression) (value : CheckedExpression)
    → v ≡ Some value → IfOk r (λ _. Does a b (λ x p. assignment_seq (expression_sum [] (assignment x p) value) (assignment_one x p (write n))))
    → IfOk r (λ _. (of : WordType) → Does a b (λ x p. statement_sum [] (assignment x p) (t.declare of n v)))
declared_some (Ok _) a b n v value e h = λ of. subst (λ v. Does a b (λ x p. statement_sum [] (assignment x p) (t.declare of n v))) (sym e) h
declared_some (Err _) a b n v value e h = tt

pub declared_ok : (r : Result (Unit {0}) AllocError) (a b : Walk) (s : CheckedStatement) (of : WordType) (n : VariableName)
    (v : Option CheckedExpression) → s ≡ t.declare of n v
    → IfOk r (λ _. (of : WordType) → Does a b (λ x p. statement_sum [] (assignment x p) (t.declare of n v)))
    → IfOk r (λ _. Does a b (λ x p. statement_sum [] (assignment x p) s))
declared_ok (Ok _) a b s of n v e h = statement_as a b s _ e (h of)
declared_ok (Err _) a b s of n v e h = tt

-- ---- where no path comes

none_on : (a b c d : Bool) → a ≡ false → b ≡ false → ((a && c) || (b && d)) ≡ false
none_on a b c d h k = ap₂ (λ a b. (a && c) || (b && d)) h k

no_more : (f a : Bool) → a ≡ false → f ≡ (f || a)
no_more f a h = agree 1 (λ f. f) (λ f. f || false) refl f ∙ ap (λ a. f || a) (sym h)

pub does_where_none : (w : Walk) (s : Family) → w.falls_through ≡ false → Does w w s
does_where_none w s e = record {
  tells = λ f h.
      let off : (x : ℕ) (p : Span) → (f x p).falls_through ≡ false = λ x p. sym (h.falls_through x p) ∙ e in
      let left : (x : ℕ) (p : Span) → (f x p).unassigned ≡ false = λ x p. sym (h.unassigned x p) ∙ ap (λ b. b && not (is_assigned w x)) e in
      record {
        falls_through = λ x p. e ∙ sym (ap (λ a. a && (s x p).falls_through) (off x p));
        unassigned = λ x p. ap (λ b. b && not (is_assigned w x)) e ∙ sym (none_on _ _ (s x p).unassigned (s x p).untouched (off x p) (left x p));
        fault = fault_same w.fault _ _ (λ x p. no_more (f x p).fault _ (none_on _ _ (s x p).fault (s x p).exposed (off x p) (left x p))) h.fault;
      };
  behind = behind_self w w refl (λ x. refl);
}

pub does_gone : (w v : Walk) → v.falls_through ≡ false → v.fault ≡ w.fault → v.turned ≡ w.turned → v.assigned ≡ w.assigned
    → Does w v (λ x p. assignment_gone)
does_gone w v e g t a = record {
  tells = λ f h. record {
    falls_through = λ x p. e ∙ agree 1 (λ a. false) (λ a. a && false) refl (f x p).falls_through;
    unassigned = λ x p. ap (λ b. b && not (is_assigned v x)) e
        ∙ agree 2 (λ o u. false) (λ o u. (o && false) || (u && false)) refl (f x p).falls_through (f x p).unassigned;
    fault = subst (λ o. IsFirst o (SomeLocal (λ x p. (assignment_seq (f x p) assignment_gone).fault))) (sym g)
        (fault_same w.fault _ _ (λ x p. nothing_at_fault (f x p).fault (f x p).falls_through (f x p).unassigned) h.fault);
  };
  behind = behind_self w v (ap (λ v. v.items) t) (λ x. ap (λ v. get_or v.items x false) a);
}
  where
    nothing_at_fault : (f o u : Bool) → f ≡ (f || ((o && false) || (u && false)))
    nothing_at_fault = agree 3 (λ f o u. f) (λ f o u. f || ((o && false) || (u && false))) refl

-- ---- a write, and a declaration without a value

and_same : (a : Bool) → a ≡ (a && true)
and_same = agree 1 (λ a. a) (λ a. a && true) refl

falls_after : (b : Bool) (s u v : Assignment) → u.falls_through ≡ true → v.falls_through ≡ true
    → s.falls_through ≡ (assignment_seq s (if b then u else v)).falls_through
falls_after true s u v h k = and_same s.falls_through ∙ ap (λ a. s.falls_through && a) (sym h)
falls_after false s u v h k = and_same s.falls_through ∙ ap (λ a. s.falls_through && a) (sym k)

-- what paths do that make a local assigned or unassigned
turned_one : Bool → Assignment
turned_one value = record { falls_through = true; untouched = false; unassigned = not value; exposed = false; fault = false }

turned_left : (b value on a : Bool) (s : Assignment) → on ≡ s.falls_through → (on && not a) ≡ s.unassigned
    → (on && not (if b then value else a)) ≡ (assignment_seq s (if b then turned_one value else assignment_unit)).unassigned
unfolding turned_one
turned_left true value on a s h k = ap (λ o. o && not value) h
    ∙ agree 3 (λ o u v. o && not v) (λ o u v. (o && not v) || (u && false)) refl s.falls_through s.unassigned value
turned_left false value on a s h k = k ∙ agree 2 (λ o u. u) (λ o u. (o && false) || (u && true)) refl s.falls_through s.unassigned

turned_fault : (b value : Bool) (s : Assignment) → s.fault ≡ (assignment_seq s (if b then turned_one value else assignment_unit)).fault
unfolding turned_one
turned_fault true value s = agree 3 (λ f o u. f) (λ f o u. f || ((o && false) || (u && false))) refl s.fault s.falls_through s.unassigned
turned_fault false value s = agree 3 (λ f o u. f) (λ f o u. f || ((o && false) || (u && false))) refl s.fault s.falls_through s.unassigned

does_turn : (w v : Walk) (y : ℕ) (value : Bool) (local : Variable) → local ≡ Local y
    → ((x : ℕ) → is_assigned v x ≡ (if y == x then value else is_assigned w x)) → IsBehind w v → v.falls_through ≡ w.falls_through
    → v.fault ≡ w.fault → Does w v (λ x p. if is_local x local then turned_one value else assignment_unit)
unfolding turned_one
does_turn w v y value local l a b o g =
    subst (λ local. Does w v (λ x p. if is_local x local then turned_one value else assignment_unit)) (sym l) (record {
      tells = λ f h. record {
        falls_through = λ x p. o ∙ h.falls_through x p ∙ falls_after (y == x) (f x p) (turned_one value) assignment_unit refl refl;
        unassigned = λ x p. ap₂ (λ o a. o && not a) o (a x) ∙ turned_left (y == x) value w.falls_through (is_assigned w x) (f x p) (h.falls_through x p)
            (h.unassigned x p);
        fault = subst (λ o. IsFirst o (SomeLocal (λ x p. (assignment_seq (f x p) (if y == x then turned_one value else assignment_unit)).fault))) (sym g)
            (fault_same w.fault _ _ (λ x p. turned_fault (y == x) value (f x p)) h.fault);
      };
      behind = b;
    })

pub does_set : (r : Result (Unit {0}) AllocError) (w v : Walk) (n : VariableName) (y : ℕ) → n.variable ≡ Local y
    → IfOk r (λ _. (x : ℕ) → is_assigned v x ≡ (if y == x then true else is_assigned w x)) → IfOk r (λ _. IsBehind w v)
    → v.falls_through ≡ w.falls_through → v.fault ≡ w.fault → IfOk r (λ _. Does w v (λ x p. assignment_one x p (write n)))
unfolding turned_one
does_set (Ok _) w v n y l a b o g = does_turn w v y true n.variable l a b o g
does_set (Err _) w v n y l a b o g = tt

pub does_unset : (r : Result (Unit {0}) AllocError) (w v : Walk) (n : VariableName) (y : ℕ) → n.variable ≡ Local y
    → IfOk r (λ _. (x : ℕ) → is_assigned v x ≡ (if y == x then false else is_assigned w x)) → IfOk r (λ _. IsBehind w v)
    → v.falls_through ≡ w.falls_through → v.fault ≡ w.fault → IfOk r (λ _. Does w v (λ x p. assignment_one x p (unset n)))
unfolding turned_one
does_unset (Ok _) w v n y l a b o g = does_turn w v y false n.variable l a b o g
does_unset (Err _) w v n y l a b o g = tt

-- ---- reads

-- what an expression's reads do: they go on, and change nothing
pub record IsRead (s : Assignment) : Type 0 where
  pub falls_through : s.falls_through ≡ true
  pub untouched : s.untouched ≡ true
  pub unassigned : s.unassigned ≡ false
  pub fault : s.fault ≡ false

read_one : (x : ℕ) (p : Span) (n : VariableName) → IsRead (assignment_one x p (read n))
read_one x p n = record { falls_through = refl; untouched = refl; unassigned = refl; fault = refl }

read_unit : IsRead assignment_unit
read_unit = record { falls_through = refl; untouched = refl; unassigned = refl; fault = refl }

read_both : (s t : Assignment) → IsRead s → IsRead t → IsRead (assignment_seq s t)
read_both s t h k = record {
  falls_through = ap₂ (λ a b. a && b) h.falls_through k.falls_through;
  untouched = ap₂ (λ a b. a && b) h.untouched k.untouched;
  unassigned = ap₂ (λ a u. (a && t.unassigned) || (u && t.untouched)) h.falls_through h.unassigned ∙ ap (λ u. u || false) k.unassigned;
  fault = ap₂ (λ f a. f || ((a && t.fault) || (s.unassigned && t.exposed))) h.fault h.falls_through
      ∙ ap₂ (λ f u. f || (u && t.exposed)) k.fault h.unassigned;
}

read_either : (s t : Assignment) → IsRead s → IsRead t → IsRead (assignment_join s t)
read_either s t h k = record {
  falls_through = ap (λ a. a || t.falls_through) h.falls_through;
  untouched = ap (λ a. a || t.untouched) h.untouched;
  unassigned = ap₂ (λ a b. a || b) h.unassigned k.unassigned;
  fault = ap₂ (λ a b. a || b) h.fault k.fault;
}

mutual
  pub is_read : (x : ℕ) (p : Span) (e : CheckedExpression) → IsRead (expression_sum [] (assignment x p) e)
  is_read x p (t.number _) = read_unit
  is_read x p (t.long_number _) = read_unit
  is_read x p (t.name n) = read_one x p n
  is_read x p (t.element n index) = read_both _ _ (is_read x p index) (read_one x p n)
  is_read x p t.sense = read_unit
  is_read x p t.next_event = read_unit
  is_read x p (t.call _ values) = read_both _ _ (are_read x p values) read_unit
  is_read x p (t.unary _ a) = is_read x p a
  is_read x p (t.binary _ a b) = read_both _ _ (is_read x p a) (is_read x p b)
  is_read x p (t.shift _ a _) = is_read x p a
  is_read x p (t.short_circuit _ a b) = read_either _ _ (is_read x p a) (read_both _ _ (is_read x p a) (is_read x p b))

  are_read : (x : ℕ) (p : Span) (values : CheckedValues) → IsRead (values_sum [] (assignment x p) values)
  are_read x p t.no_value = read_unit
  are_read x p (t.value e more) = read_both _ _ (is_read x p e) (are_read x p more)

-- nothing is read
pub first_none : (a : ℕ → Bool) → IsFirst None (SomeLocal (λ x p. not (a x) && false))
first_none a = λ p y. no (a y.0) y.1
  where
    no : (b : Bool) → (not b && false) ≡ true → ⊥
    no true h = cc
    no false h = cc

-- the first of two parts
first_two : (a : ℕ → Bool) (f g h : ℕ → Span → Bool) (q r : Option Span) → ((x : ℕ) (p : Span) → h x p ≡ (f x p || g x p))
    → IsFirst q (SomeLocal (λ x p. not (a x) && f x p)) → IsFirst r (SomeLocal (λ x p. not (a x) && g x p))
    → IsFirst (first_of q r) (SomeLocal (λ x p. not (a x) && h x p))
first_two a f g h q r e k l = first_same (first_of q r)
    (λ p. SomeLocal (λ x p. not (a x) && f x p) p ⊎ SomeLocal (λ x p. not (a x) && g x p) p)
    (SomeLocal (λ x p. not (a x) && h x p))
    (λ p z. elim z [
      | inl y ↦ (y.0, and_from _ _ (and_parts (not (a y.0)) (f y.0 p) y.1).0 (e y.0 p ∙ or_left _ _ (and_parts (not (a y.0)) (f y.0 p) y.1).1))
      | inr y ↦ (y.0, and_from _ _ (and_parts (not (a y.0)) (g y.0 p) y.1).0 (e y.0 p ∙ or_right _ _ (and_parts (not (a y.0)) (g y.0 p) y.1).1))
    ])
    (λ p z. elim (or_cases (f z.0 p) (g z.0 p) (sym (e z.0 p) ∙ (and_parts (not (a z.0)) (h z.0 p) z.1).1)) [
      | inl y ↦ inl (z.0, and_from _ _ (and_parts (not (a z.0)) (h z.0 p) z.1).0 y)
      | inr y ↦ inr (z.0, and_from _ _ (and_parts (not (a z.0)) (h z.0 p) z.1).0 y)
    ])
    (first_either q r _ _ k l)

exposed_both : (s t : Assignment) → IsRead s → (assignment_seq s t).exposed ≡ (s.exposed || t.exposed)
exposed_both s t h = ap (λ u. s.exposed || (u && t.exposed)) h.untouched

pub first_both : (w : Walk) (a b : CheckedExpression) (q r : Option Span)
    → IsFirst q (SomeLocal (λ x p. not (is_assigned w x) && (expression_sum [] (assignment x p) a).exposed))
    → IsFirst r (SomeLocal (λ x p. not (is_assigned w x) && (expression_sum [] (assignment x p) b).exposed))
    → IsFirst (first_of q r) (SomeLocal (λ x p. not (is_assigned w x)
    && (assignment_seq (expression_sum [] (assignment x p) a) (expression_sum [] (assignment x p) b)).exposed))
first_both w a b q r = first_two (is_assigned w) (λ x p. (expression_sum [] (assignment x p) a).exposed) (λ x p. (expression_sum [] (assignment x p) b).exposed)
    (λ x p. (assignment_seq (expression_sum [] (assignment x p) a) (expression_sum [] (assignment x p) b)).exposed) q r
    (λ x p. exposed_both (expression_sum [] (assignment x p) a) (expression_sum [] (assignment x p) b) (is_read x p a))

pub first_short : (w : Walk) (a b : CheckedExpression) (q r : Option Span)
    → IsFirst q (SomeLocal (λ x p. not (is_assigned w x) && (expression_sum [] (assignment x p) a).exposed))
    → IsFirst r (SomeLocal (λ x p. not (is_assigned w x) && (expression_sum [] (assignment x p) b).exposed))
    → IsFirst (first_of q r) (SomeLocal (λ x p. not (is_assigned w x) && (assignment_join (expression_sum [] (assignment x p) a)
    (assignment_seq (expression_sum [] (assignment x p) a) (expression_sum [] (assignment x p) b))).exposed))
first_short w a b q r = first_two (is_assigned w) (λ x p. (expression_sum [] (assignment x p) a).exposed)
    (λ x p. (expression_sum [] (assignment x p) b).exposed)
    (λ x p. (assignment_join (expression_sum [] (assignment x p) a) (assignment_seq (expression_sum [] (assignment x p) a)
    (expression_sum [] (assignment x p) b))).exposed) q r
    (λ x p. ap (λ c. (expression_sum [] (assignment x p) a).exposed || c)
    (exposed_both (expression_sum [] (assignment x p) a) (expression_sum [] (assignment x p) b) (is_read x p a))
    ∙ agree 2 (λ c d. c || (c || d)) (λ c d. c || d) refl (expression_sum [] (assignment x p) a).exposed (expression_sum [] (assignment x p) b).exposed)

-- the values of a call
pub first_call : (w : Walk) (o : Option Span) (e : CheckedExpression) (f : FunctionName) (values : CheckedValues) → e ≡ t.call f values
    → IsFirst o (SomeLocal (λ x p. not (is_assigned w x) && (values_sum [] (assignment x p) values).exposed))
    → IsFirst o (SomeLocal (λ x p. not (is_assigned w x) && (expression_sum [] (assignment x p) e).exposed))
first_call w o e f values same h =
    subst (λ e. IsFirst o (SomeLocal (λ x p. not (is_assigned w x) && (expression_sum [] (assignment x p) e).exposed))) (sym same)
    (fault_same o _ _ (λ x p. ap (λ b. not (is_assigned w x) && b) (alone (values_sum [] (assignment x p) values))) h)
  where
    alone : (s : Assignment) → s.exposed ≡ (assignment_seq s assignment_unit).exposed
    alone s = agree 2 (λ e u. e) (λ e u. e || (u && false)) refl s.exposed s.untouched

-- one value in front of others
pub first_value : (w : Walk) (o q r : Option Span) (all : CheckedValues) (e : CheckedExpression) (more : CheckedValues) → o ≡ first_of q r
    → all ≡ t.value e more
    → IsFirst q (SomeLocal (λ x p. not (is_assigned w x) && (expression_sum [] (assignment x p) e).exposed))
    → IsFirst r (SomeLocal (λ x p. not (is_assigned w x) && (values_sum [] (assignment x p) more).exposed))
    → IsFirst o (SomeLocal (λ x p. not (is_assigned w x) && (values_sum [] (assignment x p) all).exposed))
first_value w o q r all e more first same h k =
    subst (λ all. IsFirst o (SomeLocal (λ x p. not (is_assigned w x) && (values_sum [] (assignment x p) all).exposed))) (sym same)
    (subst (λ o. IsFirst o (SomeLocal (λ x p. not (is_assigned w x) && (values_sum [] (assignment x p) (t.value e more)).exposed))) (sym first)
    (first_two (is_assigned w) (λ x p. (expression_sum [] (assignment x p) e).exposed) (λ x p. (values_sum [] (assignment x p) more).exposed)
    (λ x p. (values_sum [] (assignment x p) (t.value e more)).exposed) q r
    (λ x p. exposed_both (expression_sum [] (assignment x p) e) (values_sum [] (assignment x p) more) (is_read x p e)) h k))

-- the same expression
pub first_as : (w : Walk) (o o' : Option Span) (e e' : CheckedExpression) → o ≡ o' → e ≡ e'
    → IsFirst o' (SomeLocal (λ x p. not (is_assigned w x) && (expression_sum [] (assignment x p) e').exposed))
    → IsFirst o (SomeLocal (λ x p. not (is_assigned w x) && (expression_sum [] (assignment x p) e).exposed))
first_as w o o' e e' q same h =
    subst (λ e. IsFirst o (SomeLocal (λ x p. not (is_assigned w x) && (expression_sum [] (assignment x p) e).exposed))) (sym same)
    (subst (λ o. IsFirst o (SomeLocal (λ x p. not (is_assigned w x) && (expression_sum [] (assignment x p) e').exposed))) (sym q) h)

-- reads where some path comes
pub does_read : (w v : Walk) (e : CheckedExpression) (o : Option Span) → w.falls_through ≡ true
    → IsFirst o (SomeLocal (λ x p. not (is_assigned w x) && (expression_sum [] (assignment x p) e).exposed))
    → v.falls_through ≡ w.falls_through → v.assigned ≡ w.assigned → v.turned ≡ w.turned → v.fault ≡ first_of w.fault o
    → Does w v (λ x p. expression_sum [] (assignment x p) e)
does_read w v e o on first falls assigned turned fault = record {
  tells = λ f h. record {
    falls_through = λ x p. falls ∙ h.falls_through x p ∙ and_same (f x p).falls_through
        ∙ ap (λ a. (f x p).falls_through && a) (sym (is_read x p e).falls_through);
    unassigned = λ x p. ap₂ (λ o a. o && not a) falls (same x) ∙ h.unassigned x p
        ∙ agree 2 (λ o u. u) (λ o u. (o && false) || (u && true)) refl (f x p).falls_through (f x p).unassigned
        ∙ ap₂ (λ a b. ((f x p).falls_through && a) || ((f x p).unassigned && b)) (sym (is_read x p e).unassigned) (sym (is_read x p e).untouched);
    fault = subst (λ q. IsFirst q (SomeLocal (λ x p. (assignment_seq (f x p) (expression_sum [] (assignment x p) e)).fault))) (sym fault) (faults f h);
  };
  behind = behind_self w v (ap (λ v. v.items) turned) same;
}
  where
    same : (x : ℕ) → is_assigned v x ≡ is_assigned w x
    same x = ap (λ v. get_or v.items x false) assigned

    faults : (f : Family) → Tells w f → IsFirst (first_of w.fault o) (SomeLocal (λ x p. (assignment_seq (f x p) (expression_sum [] (assignment x p) e)).fault))
    faults f h = fault_same (first_of w.fault o) _ _ (λ x p. sym (split x p)) both
      where
        split : (x : ℕ) (p : Span) → (assignment_seq (f x p) (expression_sum [] (assignment x p) e)).fault
            ≡ ((f x p).fault || (not (is_assigned w x) && (expression_sum [] (assignment x p) e).exposed))
        split x p = let left : (f x p).unassigned ≡ not (is_assigned w x) = sym (h.unassigned x p) ∙ ap (λ o. o && not (is_assigned w x)) on in
            ap₂ (λ g u. (f x p).fault || (((f x p).falls_through && g) || (u && (expression_sum [] (assignment x p) e).exposed))) (is_read x p e).fault left
            ∙ agree 3 (λ g o c. g || ((o && false) || c)) (λ g o c. g || c) refl (f x p).fault (f x p).falls_through
            (not (is_assigned w x) && (expression_sum [] (assignment x p) e).exposed)

        both : IsFirst (first_of w.fault o)
            (SomeLocal (λ x p. (f x p).fault || (not (is_assigned w x) && (expression_sum [] (assignment x p) e).exposed)))
        both = first_same _ (λ p. SomeLocal (λ x p. (f x p).fault) p
            ⊎ SomeLocal (λ x p. not (is_assigned w x) && (expression_sum [] (assignment x p) e).exposed) p) _
            (λ p z. elim z [ inl y ↦ (y.0, or_left _ _ y.1) | inr y ↦ (y.0, or_right (f y.0 p).fault _ y.1) ])
            (λ p z. elim (or_cases (f z.0 p).fault _ z.1) [ inl y ↦ inl (z.0, y) | inr y ↦ inr (z.0, y) ])
            (first_either w.fault o _ _ h.fault first)

-- ---- before any access

-- the first locals have values
given_first : (n x : ℕ) → get_or (replicate n true) x false ≡ nat_lt x n
given_first n x = by (nat_lt x n) refl
  where
    by : (b : Bool) → nat_lt x n ≡ b → get_or (replicate n true) x false ≡ b
    by true h = get_or-replicate n x true false (ltb-true x n h)
    by false h = get_or_past (replicate n true) x false (omega (arith, length-replicate n true, ltb-false x n h))

pub tells_begun : (w : Walk) (given : ℕ) → w.falls_through ≡ true → w.assigned.items ≡ replicate given true → w.fault ≡ None
    → Tells w (λ x p. begun given x)
tells_begun w given on values none = record {
  falls_through = λ x p. on;
  unassigned = λ x p. ap₂ (λ o a. o && not a) on (ap (λ xs. get_or xs x false) values ∙ given_first given x);
  fault = subst (λ o. IsFirst o (SomeLocal (λ x p. false))) (sym none) (λ p y. let no : false ≡ true = y.1 in cc);
}
