-- A task has a place for each function that it reaches, and the frames of these are within its stack.
use Rattle.std.proofs.Common.{◌≡◌, ℕ, zero, suc, ◌+◌, ◌-◌, ◌*◌, ◌≤◌, ◌==◌, Bool, true, false, if◌then◌else◌, List, [], ◌∷◌, Some, None, refl, sym, ap}
use Rattle.std.proofs.Common.{◌∙◌, subst, arith, eq-eqb}
use Rattle.std.proofs.lemmas.Bool.{ne_eqb}
use Rattle.std.specs.Prelude.{slice_get}
use Rattle.std.proofs.lemmas.Bool.Decides.{nat_tests}
use Rattle.std.proofs.lemmas.Option.{same_Some}
use Rattle.cost_bound.specs.Summary.{Summary}
use Rattle.cost_bound.specs.Summaries.{summaries}
use Rattle.cost_bound.specs.Counts.{CheckedBlock, reaches_of}
use Rattle.cost_bound.specs.Frames.{frame_of, deepest, stack_of}
use Rattle.cost_bound.specs.Allowance.{CheckedProgram}
use Rattle.function_locals.specs.declared.locals.FunctionLocals.{FunctionLocals}
use Rattle.function_locals.specs.Locals.{all_locals}
use Rattle.function_locals.proofs.Interface.{depths_stand, functions_at}
use Rattle.memory_map.specs.declared.place.RoutinePlace.{RoutinePlace}
use Rattle.memory_map.specs.Spots.{routine_among}
use Rattle.privatise.specs.Routines.{routine_room, routine_at, routines_from, task_routines, known_functions}
use Rattle.privatise.specs.Routines.{Known, IsFunction, IsRoutineOf, frame_words}
use Rattle.privatise.specs.Laws.{IsPlacedIn, AllRoutinesStand, AllFramesStand}
use Rattle.privatise.proofs.RoutinesPlaced.{if_marked}

module _ (stack : ℕ) (marks : ℕ → Bool) where
  -- a place among those of functions from a number on
  record IsAmong (k : ℕ) (ss : List Summary) (ls : List FunctionLocals) (r : RoutinePlace) : Type 0 where
    pub index : ℕ
    pub at : ℕ
    pub summary : Summary
    pub locals : FunctionLocals
    pub summary_is : slice_get ss index ≡ Some summary
    pub locals_is : slice_get ls index ≡ Some locals
    pub marked : marks (k + index) ≡ true
    pub is : r ≡ routine_at stack (k + index) at summary locals

  behind_first : (k : ℕ) (s : Summary) (l : FunctionLocals) (ss : List Summary) (ls : List FunctionLocals) (r : RoutinePlace) → IsAmong (k + 1) ss ls r
      → IsAmong k (s ∷ ss) (l ∷ ls) r
  behind_first k s l ss ls r h =
      let same : (k + 1) + h.index ≡ k + suc h.index = omega arith in
      record {
        index = suc h.index;
        at = h.at;
        summary = h.summary;
        locals = h.locals;
        summary_is = h.summary_is;
        locals_is = h.locals_is;
        marked = ap marks (sym same) ∙ h.marked;
        is = h.is ∙ ap (λ n. routine_at stack n h.at h.summary h.locals) same;
      }

  among : (k at : ℕ) (ss : List Summary) (ls : List FunctionLocals) (j : ℕ) (r : RoutinePlace) → slice_get (routines_from stack marks k at ss ls) j ≡ Some r
      → IsAmong k ss ls r
  among k at [] ls j r e = let no : None ≡ Some r = e in cc
  among k at (s ∷ ss) [] j r e = let no : None ≡ Some r = e in cc
  among k at (s ∷ ss) (l ∷ ls) j r e = by (λ later n e. among (k + 1) later ss ls n r e) (marks k) refl j e
    where
      first : marks k ≡ true → routine_at stack k at s l ≡ r → IsAmong k (s ∷ ss) (l ∷ ls) r
      first m is =
          let same : k + 0 ≡ k = omega arith in
          record {
            index = 0;
            at = at;
            summary = s;
            locals = l;
            summary_is = refl;
            locals_is = refl;
            marked = ap marks same ∙ m;
            is = sym is ∙ ap (λ n. routine_at stack n at s l) (sym same);
          }

      by : ((later n : ℕ) → slice_get (routines_from stack marks (k + 1) later ss ls) n ≡ Some r → IsAmong (k + 1) ss ls r) → (b : Bool) → marks k ≡ b
          → (j : ℕ) → slice_get (if_marked b stack marks k at s l ss ls) j ≡ Some r → IsAmong k (s ∷ ss) (l ∷ ls) r
      by rest true m zero e = first m (same_Some (routine_at stack k at s l) r e)
      by rest true m (suc j) e = behind_first k s l ss ls r (rest (at + 2 * routine_room s) j e)
      by rest false m j e = behind_first k s l ss ls r (rest at j e)

  -- it is the first of its function's
  own_place : (k at : ℕ) (ss : List Summary) (ls : List FunctionLocals) (j : ℕ) (r : RoutinePlace) → slice_get (routines_from stack marks k at ss ls) j ≡ Some r
      → routine_among (routines_from stack marks k at ss ls) r.function ≡ Some r
  own_place k at [] ls j r e = let no : None ≡ Some r = e in cc
  own_place k at (s ∷ ss) [] j r e = let no : None ≡ Some r = e in cc
  own_place k at (s ∷ ss) (l ∷ ls) j r e = by (λ later n e. own_place (k + 1) later ss ls n r e) (marks k) j e
    where
      by : ((later n : ℕ) → slice_get (routines_from stack marks (k + 1) later ss ls) n ≡ Some r
          → routine_among (routines_from stack marks (k + 1) later ss ls) r.function ≡ Some r) → (b : Bool) (j : ℕ)
          → slice_get (if_marked b stack marks k at s l ss ls) j ≡ Some r → routine_among (if_marked b stack marks k at s l ss ls) r.function ≡ Some r
      by own true zero e =
          let first = routine_at stack k at s l in
          let same : first ≡ r = same_Some first r e in
          ap (λ b. if b then Some first else routine_among (routines_from stack marks (k + 1) (at + 2 * routine_room s) ss ls) r.function)
          (eq-eqb k r.function (ap (λ x. x.function) same)) ∙ ap (λ x. Some x) same
      by own true (suc j) e =
          let rest = routines_from stack marks (k + 1) (at + 2 * routine_room s) ss ls in
          let h = among (k + 1) (at + 2 * routine_room s) ss ls j r e in
          let is : r.function ≡ (k + 1) + h.index = ap (λ x. x.function) h.is in
          let other : (k == r.function) ≡ false = ne_eqb k r.function (λ same. let none : ⊥ = omega (arith, is, same) in none) in
          ap (λ b. if b then Some (routine_at stack k at s l) else routine_among rest r.function) other
          ∙ own (at + 2 * routine_room s) j e
      by own false j e = own at j e

  later : (r : RoutinePlace) (rs : List RoutinePlace) (number : ℕ) → (r.function == number) ≡ false → IsPlacedIn rs number → IsPlacedIn (r ∷ rs) number
  later r rs number other h = record {
    place = h.place;
    index = suc h.index;
    at = h.at;
    found = ap (λ b. if b then Some r else routine_among rs number) other ∙ h.found;
    is = h.is;
  }

  placed : (k at : ℕ) (ss : List Summary) (ls : List FunctionLocals) (n : ℕ) (s : Summary) (l : FunctionLocals) → slice_get ss n ≡ Some s
      → slice_get ls n ≡ Some l → marks (k + n) ≡ true → IsPlacedIn (routines_from stack marks k at ss ls) (k + n)
  placed k at [] ls n s l e f m = let no : None ≡ Some s = e in cc
  placed k at (t ∷ ss) [] n s l e f m = let no : None ≡ Some l = f in cc
  placed k at (t ∷ ss) (i ∷ ls) zero s l e f m = by (marks k) (ap marks (let same : k ≡ k + 0 = omega arith in same) ∙ m)
    where
      by : (b : Bool) → b ≡ true → IsPlacedIn (if_marked b stack marks k at t i ss ls) (k + 0)
      by true is =
          let same : k ≡ k + 0 = omega arith in
          record {
            place = routine_at stack k at t i;
            index = 0;
            at = refl;
            found = ap (λ b. if b then Some (routine_at stack k at t i) else routine_among (routines_from stack marks (k + 1) (at + 2 * routine_room t) ss ls)
                (k + 0)) (eq-eqb k (k + 0) same);
            is = same;
          }
      by false is = let clash : false ≡ true = is in cc
  placed k at (t ∷ ss) (i ∷ ls) (suc n) s l e f m = by (λ at there. placed (k + 1) at ss ls n s l e f there) (marks k)
    where
      next : (k + 1) + n ≡ k + suc n
      next = omega arith

      there : marks ((k + 1) + n) ≡ true
      there = ap marks next ∙ m

      by : ((at : ℕ) → marks ((k + 1) + n) ≡ true → IsPlacedIn (routines_from stack marks (k + 1) at ss ls) ((k + 1) + n)) → (b : Bool)
          → IsPlacedIn (if_marked b stack marks k at t i ss ls) (k + suc n)
      by rest true =
          later (routine_at stack k at t i) (routines_from stack marks (k + 1) (at + 2 * routine_room t) ss ls) (k + suc n)
          (let other : (k == k + suc n) ≡ false = grind (arith, nat_tests) in other)
          (subst (IsPlacedIn (routines_from stack marks (k + 1) (at + 2 * routine_room t) ss ls)) next (rest (at + 2 * routine_room t) there))
      by rest false = subst (IsPlacedIn (routines_from stack marks (k + 1) at ss ls)) next (rest at there)

module _ (p : CheckedProgram) (body : CheckedBlock) (at : ℕ) where
  abbrev stack : ℕ
  stack = stack_of (summaries p) body

  abbrev marks : ℕ → Bool
  marks k = reaches_of (summaries p) k body

  of_each : (j : ℕ) (r : RoutinePlace) → slice_get (task_routines (known_functions p) body at) j ≡ Some r → IsRoutineOf p body r
  of_each j r e =
      let h = among stack marks 0 at (summaries p) (all_locals p.functions) j r e in
      let f = functions_at p.functions h.index h.locals h.locals_is in
      let counted : r.function ≡ 0 + h.index = ap (λ x. x.function) h.is in
      let number : r.function ≡ h.index = omega (arith, counted) in
      record {
        known = record { function = f.0; summary = h.summary; locals = h.locals };
        is = record {
          function = ap (slice_get p.functions) number ∙ f.1;
          summary = ap (slice_get (summaries p)) number ∙ h.summary_is;
          locals = ap (slice_get (all_locals p.functions)) number ∙ h.locals_is;
        };
        reached = ap marks counted ∙ h.marked;
        words = ap (λ x. x.code.words) h.is;
        first = ap (λ x. x.first) h.is;
        frame = ap (λ x. x.frame) h.is;
      }

  of_all : (k : ℕ) (f : Known) → IsFunction p k f → marks k ≡ true → IsPlacedIn (task_routines (known_functions p) body at) k
  of_all k f is reached =
      let same : 0 + k ≡ k = omega arith in
      subst (IsPlacedIn (task_routines (known_functions p) body at)) same
      (placed stack marks 0 at (summaries p) (all_locals p.functions) k f.summary f.locals is.summary is.locals (ap marks same ∙ reached))

pub routines_stand : AllRoutinesStand
routines_stand p body at = record {
  each = of_each p body at;
  own = λ j r e.
      own_place (stack_of (summaries p) body) (λ k. reaches_of (summaries p) k body) 0 at (summaries p) (all_locals p.functions) j r e;
  all = of_all p body at;
}

-- ---- frames

below_called : (stack frame deep depth : ℕ) → stack ≡ frame + deep + 16 → depth ≤ deep → frame ≤ stack - 16 - depth
below_called stack frame deep depth e h = omega (arith, e, h)

below_function : (stack frame deep depth called most : ℕ) → stack ≡ most + deep + 16 → depth ≤ deep → frame + called ≤ depth
    → (stack - 16 - depth) + frame ≤ stack - 16 - called
below_function stack frame deep depth called most e h k = omega (arith, e, h, k)

within_stack : (stack frame deep depth most : ℕ) → stack ≡ most + deep + 16 → depth ≤ deep → frame ≤ depth → (stack - 16 - depth) + frame ≤ stack - 16
within_stack stack frame deep depth most e h k = omega (arith, e, h, k)

pub frames_stand : AllFramesStand
frames_stand p body functions calls =
    let known : List Summary = summaries p in
    let stack = stack_of known body in
    let most = frame_of 0 body in
    let deep = deepest known body in
    let depths = depths_stand p.functions functions in
    record {
      callees_of_task = λ k f is called. below_called stack most deep f.summary.depth refl (depths.called body k f.summary is.summary called);
      callees = λ j k f g is it reached called. below_function stack (frame_words f) deep f.summary.depth g.summary.depth most refl
          (depths.reached body k f.summary calls is.summary reached)
          (depths.callees j k f.function f.summary g.summary is.function is.summary it.summary called);
      task_within = omega arith;
      within = λ k f is reached. within_stack stack (frame_words f) deep f.summary.depth most refl
          (depths.reached body k f.summary calls is.summary reached) (depths.frame k f.function f.summary is.function is.summary);
    }
