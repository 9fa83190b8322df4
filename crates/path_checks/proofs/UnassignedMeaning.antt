-- The fault of a walk is the first place at which some path reads an unassigned local.
use Rattle.std.proofs.Common.{◌≡◌, ◌==◌, ℕ, Bool, true, false, not, nat_lt, ◌&&◌, ◌||◌, List, [], ◌∷◌, ◌++◌, map, length, refl, ap, sym, ◌∙◌, subst}
use Rattle.std.proofs.Common.{if◌then◌else◌, arith, inl, inr}
use Rattle.std.proofs.lemmas.Bool.Decides.{nat_tests}
use Rattle.std.proofs.lemmas.Bool.{and_parts, and_from, or_cases, or_right}
use Rattle.std.proofs.lemmas.List.{length-map}
use Rattle.alp_text.specs.declared.lines.Span.{Span}
use Rattle.task_ast.specs.declared.names.Variable.{Variable}
use Rattle.task_ast.specs.declared.names.Variable.TheVariants.{Shared, Local}
use Rattle.task_ast.specs.declared.names.VariableName.{VariableName}
use Rattle.task_ast.specs.Paths.{CheckedBlock, CheckedFunction, Access, read, write, unset, End, BlockPath}
use Rattle.path_sums.specs.Sums.{block_sum}
use Rattle.task_ast.specs.Calls.{BlockCallsBelow}
use Rattle.path_sums.specs.Reaches.{at_once}
use Rattle.path_sums.proofs.Interface.{agree, joins_block, at_once_known, found, holds}
use Rattle.path_checks.specs.Firsts.{IsFirst}
use Rattle.path_checks.specs.Loops.{is_local}
use Rattle.path_checks.specs.Unassigned.{is_unassigned, ReadsUnassigned}
use Rattle.path_checks.specs.Assignments.{is_at, Assignment, assignment, assignment_join, assignment_seq, begun}
use Rattle.path_checks.specs.Walks.{SomeLocal, Tells}
use Rattle.path_checks.specs.declared.walk.Walk.{Walk}
use Rattle.path_checks.proofs.FirstPlaces.{first_same}
use Rattle.path_checks.proofs.Assignments.{reads_unassigned, reads_is, from_state, assignment_law}

-- ---- a read of an unassigned local, by a test and by its place on the path

eqb_true : (a b : ℕ) → (a == b) ≡ true → a ≡ b
eqb_true a b h = grind (arith, nat_tests)

eq_true : (a b : ℕ) → a ≡ b → (a == b) ≡ true
eq_true a b h = grind (arith, nat_tests)

local_true : (x : ℕ) (v : Variable) → is_local x v ≡ true → v ≡ Local x
local_true x (Shared y) h = cc
local_true x (Local y) h = ap Local (eqb_true y x h)

is_local_self : (x : ℕ) (v : Variable) → v ≡ Local x → is_local x v ≡ true
is_local_self x v e = subst (λ v. is_local x v ≡ true) (sym e) (eq_true x x refl)

at_true : (p s : Span) → is_at p s ≡ true → s ≡ p
at_true p s h = let a = eqb_true s.from p.from (and_parts _ _ h).0 in let b = eqb_true s.to p.to (and_parts (s.from == p.from) _ h).1 in
    λ i. record { from = a i; to = b i }

at_self : (p s : Span) → s ≡ p → is_at p s ≡ true
at_self p s e = and_from _ _ (eq_true s.from p.from (ap (λ s. s.from) e)) (eq_true s.to p.to (ap (λ s. s.to) e))

-- the read on the path
record Read (u : Bool) (x : ℕ) (p : Span) (xs : List Access) : Type 0 where
  name : VariableName
  before : List Access
  after : List Access
  whole : xs ≡ before ++ read name ∷ after
  is_x : is_local x name.variable ≡ true
  place : is_at p name.span ≡ true
  unassigned : is_unassigned u x before ≡ true

behind : (u : Bool) (x : ℕ) (p : Span) (a : Access) (v : Bool) (xs : List Access) → ((ys : List Access) → is_unassigned u x (a ∷ ys) ≡ is_unassigned v x ys)
    → Read v x p xs → Read u x p (a ∷ xs)
behind u x p a v xs same r =
    record {
      name = r.name;
      before = a ∷ r.before;
      after = r.after;
      whole = ap (λ ys. a ∷ ys) r.whole;
      is_x = r.is_x;
      place = r.place;
      unassigned = same r.before ∙ r.unassigned;
    }

read_found : (u : Bool) (x : ℕ) (p : Span) (xs : List Access) → reads_unassigned u x p xs ≡ true → Read u x p xs
read_found u x p [] h = cc
read_found u x p (read n ∷ xs) h = elim (or_cases (u && (is_local x n.variable && is_at p n.span)) (reads_unassigned u x p xs) h) [
  | inl l ↦ record {
    name = n;
    before = [];
    after = xs;
    whole = refl;
    is_x = (and_parts _ _ (and_parts u (is_local x n.variable && is_at p n.span) l).1).0;
    place = (and_parts (is_local x n.variable) _ (and_parts u (is_local x n.variable && is_at p n.span) l).1).1;
    unassigned = (and_parts _ _ l).0;
  }
  | inr r ↦ behind u x p (read n) u xs (λ ys. refl) (read_found u x p xs r)
]
read_found u x p (write n ∷ xs) h = behind u x p (write n) _ xs (λ ys. refl) (read_found (if is_local x n.variable then false else u) x p xs h)
read_found u x p (unset n ∷ xs) h = behind u x p (unset n) _ xs (λ ys. refl) (read_found (if is_local x n.variable then true else u) x p xs h)

read_holds : (u : Bool) (x : ℕ) (p : Span) (before : List Access) (n : VariableName) (after : List Access) → is_local x n.variable ≡ true
    → is_at p n.span ≡ true → is_unassigned u x before ≡ true
    → reads_unassigned u x p (before ++ read n ∷ after) ≡ true
read_holds u x p [] n after l t h = ap (λ a. a || reads_unassigned u x p after) (and_from _ _ h (and_from _ _ l t))
read_holds u x p (read m ∷ before) n after l t h = or_right _ _ (read_holds u x p before n after l t h)
read_holds u x p (write m ∷ before) n after l t h = read_holds (if is_local x m.variable then false else u) x p before n after l t h
read_holds u x p (unset m ∷ before) n after l t h = read_holds (if is_local x m.variable then true else u) x p before n after l t h

-- whether a local is unassigned at the begin
abbrev at_begin : ℕ → ℕ → Bool
at_begin given x = not (nat_lt x given)

-- some path reads this local at the place while it is unassigned
pub ReadsLocal : List CheckedFunction → ℕ → CheckedBlock → ℕ → Span → Type 0
ReadsLocal fs given b x p = (xs : List Access) × (end : End) × BlockPath (map at_once fs) b xs end × (reads_unassigned (at_begin given x) x p xs ≡ true)

local_read : (fs : List CheckedFunction) (given : ℕ) (b : CheckedBlock) (x : ℕ) (p : Span) → ReadsLocal fs given b x p → ReadsUnassigned fs given b p
unfolding ReadsLocal
local_read fs given b x p h =
    let r = read_found (at_begin given x) x p h.0 h.3 in
    record {
      x = x;
      name = r.name;
      is_x = local_true x r.name.variable r.is_x;
      place = at_true p r.name.span r.place;
      before = r.before;
      after = r.after;
      end = h.1;
      path = subst (λ xs. BlockPath (map at_once fs) b xs h.1) r.whole h.2;
      unassigned = r.unassigned;
    }

read_local : (fs : List CheckedFunction) (given : ℕ) (b : CheckedBlock) (p : Span) (r : ReadsUnassigned fs given b p) → ReadsLocal fs given b r.x p
unfolding ReadsLocal
read_local fs given b p r = (
  r.before ++ read r.name ∷ r.after,
  r.end,
  r.path,
  read_holds (at_begin given r.x) r.x p r.before r.name r.after (is_local_self r.x r.name.variable r.is_x)
      (at_self p r.name.span r.place) r.unassigned,
)

-- ---- the sum over the paths

state_join : (u : Bool) (s t : Assignment) → from_state u (assignment_join s t) ≡ (from_state u s || from_state u t)
state_join u s t = agree 5 (λ u a b c d. (a || b) || (u && (c || d))) (λ u a b c d. (a || (u && c)) || (b || (u && d))) refl u s.fault t.fault
    s.exposed t.exposed

module _ (fs : List CheckedFunction) (given : ℕ) (b : CheckedBlock) (calls : BlockCallsBelow (length fs) b) where
  in_all : BlockCallsBelow (length (map at_once fs)) b
  in_all = subst (λ n. BlockCallsBelow n b) (sym (length-map fs at_once)) calls

  sum_reads : (x : ℕ) (p : Span) → from_state (at_begin given x) (block_sum [] (assignment x p) b) ≡ true → ReadsLocal fs given b x p
  unfolding ReadsLocal
  sum_reads x p h =
      let f = found (assignment x p) (from_state (at_begin given x)) (state_join (at_begin given x)) (BlockPath (map at_once fs) b) _
      (joins_block (assignment x p) (assignment_law x p) (map at_once fs) []
      (at_once_known (assignment x p) (assignment_law x p) (λ s. refl) fs) b in_all) h in
      (f.0, f.1, f.2, reads_is x p f.0 f.1 (at_begin given x) ∙ f.3)

  reads_sum : (x : ℕ) (p : Span) → ReadsLocal fs given b x p → from_state (at_begin given x) (block_sum [] (assignment x p) b) ≡ true
  unfolding ReadsLocal
  reads_sum x p h =
      holds (assignment x p) (from_state (at_begin given x)) (state_join (at_begin given x)) (BlockPath (map at_once fs) b) _
      (joins_block (assignment x p) (assignment_law x p) (map at_once fs) []
      (at_once_known (assignment x p) (assignment_law x p) (λ s. refl) fs) b in_all) h.0 h.1 h.2
      (sym (reads_is x p h.0 h.1 (at_begin given x)) ∙ h.3)

  -- ---- the walk

  -- what a walk of the whole body has found
  pub walk_reads : (w : Walk) → Tells w (λ x p. assignment_seq (begun given x) (block_sum [] (assignment x p) b))
      → IsFirst w.fault (ReadsUnassigned fs given b)
  walk_reads w told =
      first_same w.fault (SomeLocal (λ x p. (assignment_seq (begun given x) (block_sum [] (assignment x p) b)).fault)) (ReadsUnassigned fs given b)
      (λ p y. local_read fs given b y.0 p (sum_reads y.0 p y.1)) (λ p r. (r.x, reads_sum r.x p (read_local fs given b p r))) told.fault
