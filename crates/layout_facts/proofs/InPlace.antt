-- The scalars that a task writes in place, by their addresses.
use Rattle.layout_facts.proofs.Names.{◌≡◌, ℕ, zero, suc, ◌+◌, ◌*◌, ◌<◌, ◌==◌, Bool, true, false, ◌&&◌, not, List, [], ◌∷◌, Some, None, refl, sym, ap, ◌∙◌}
use Rattle.layout_facts.proofs.Names.{subst, ⊎_elim, ◌⊎◌, arith, eq-eqb, slice_get, or_cases, or_left, or_right, and_parts, and_from, eqb-true, not-true}
use Rattle.layout_facts.proofs.Names.{cases_Bool, some_writes, writes_some, private_is, is_private_of, Shared, CheckedBlock, task_body, some_path_writes}
use Rattle.layout_facts.proofs.Names.{scalar_home, InPlaceByPaths, is_private_in, stays_in_place, has_word_at, some_scalar_at, program_places, ScalarWidth}
use Rattle.layout_facts.proofs.Names.{OneWord, TwoWords, MemoryMap, scalar_words, IsWordOf, VariablePlace, Scalar, Array}
use Rattle.layout_facts.proofs.Names.{AreCallable, All, All-head, All-tail, length, CheckedFunction, body_of, Allow, CheckedProgram, CheckedTask}
use Rattle.layout_facts.proofs.Names.{TaskPlanValue, HasLayout}
use Rattle.task_ast.specs.Calls.{BlockCallsBelow}
use Rattle.path_sums.specs.Access.{writes, SomePath, IsPrivate}
use Rattle.layout_facts.proofs.Homes.{each_is_one_word}

-- a scalar has so a word at an address
record HasWordAt (home : ℕ) (width : ScalarWidth) (a : ℕ) : Type 0 where
  pub index : ℕ
  pub below : index < scalar_words width
  pub address : a ≡ 2 * index + home

word_found : (home : ℕ) (width : ScalarWidth) (a : ℕ) → has_word_at home width a ≡ true → HasWordAt home width a
word_found home OneWord a h = let e = eqb-true home a h in record { index = 0; below = omega arith; address = omega (arith, e) }
word_found home TwoWords a h = ⊎_elim low high (or_cases (home == a) (home + 2 == a) h)
  where
    low : (home == a) ≡ true → HasWordAt home TwoWords a
    low h = let e = eqb-true home a h in record { index = 0; below = omega arith; address = omega (arith, e) }

    high : (home + 2 == a) ≡ true → HasWordAt home TwoWords a
    high h = let e = eqb-true (home + 2) a h in record { index = 1; below = omega arith; address = omega (arith, e) }

word_is : (home : ℕ) (width : ScalarWidth) (i : ℕ) → i < scalar_words width → has_word_at home width (2 * i + home) ≡ true
word_is home OneWord i l = eq-eqb home (2 * i + home) (omega (arith, l))
word_is home TwoWords zero l = or_left (home == 2 * 0 + home) (home + 2 == 2 * 0 + home) (eq-eqb home (2 * 0 + home) (omega arith))
word_is home TwoWords (suc i) l =
    or_right (home == 2 * suc i + home) (home + 2 == 2 * suc i + home) (eq-eqb (home + 2) (2 * suc i + home) (omega (arith, l)))

-- a scalar that is so, with a word at an address
pub record ScalarAt (holds : ℕ → Bool) (k : ℕ) (places : List VariablePlace) (a : ℕ) : Type 0 where
  pub behind : ℕ
  pub home : ℕ
  pub copy : ℕ
  pub width : ScalarWidth
  pub index : ℕ
  pub place : slice_get places behind ≡ Some (Scalar home copy width)
  pub below : index < scalar_words width
  pub address : a ≡ 2 * index + home
  pub is_so : holds (k + behind) ≡ true

one_further : (holds : ℕ → Bool) (k : ℕ) (x : VariablePlace) (places : List VariablePlace) (a : ℕ) → ScalarAt holds (k + 1) places a
    → ScalarAt holds k (x ∷ places) a
one_further holds k x places a s =
    let same : k + 1 + s.behind ≡ k + suc s.behind = omega arith in
    record {
      behind = suc s.behind;
      home = s.home;
      copy = s.copy;
      width = s.width;
      index = s.index;
      place = s.place;
      below = s.below;
      address = s.address;
      is_so = sym (ap holds same) ∙ s.is_so;
    }

pub scalar_found : (holds : ℕ → Bool) (k : ℕ) (places : List VariablePlace) (a : ℕ) → some_scalar_at holds k places a ≡ true → ScalarAt holds k places a
scalar_found holds k [] a h = absurd (let none : false ≡ true = h in cc)
scalar_found holds k (Scalar home copy width ∷ places) a h =
    by (or_cases (has_word_at home width a && holds k) (some_scalar_at holds (k + 1) places a) h) (scalar_found holds (k + 1) places a)
  where
    here : (has_word_at home width a && holds k) ≡ true → ScalarAt holds k (Scalar home copy width ∷ places) a
    here e =
        let parts = and_parts (has_word_at home width a) (holds k) e in
        let word = word_found home width a parts.0 in
        let same : k ≡ k + 0 = omega arith in
        record {
          behind = 0;
          home = home;
          copy = copy;
          width = width;
          index = word.index;
          place = refl;
          below = word.below;
          address = word.address;
          is_so = sym (ap holds same) ∙ parts.1;
        }

    by : ((has_word_at home width a && holds k) ≡ true) ⊎ (some_scalar_at holds (k + 1) places a ≡ true)
        → (some_scalar_at holds (k + 1) places a ≡ true → ScalarAt holds (k + 1) places a) → ScalarAt holds k (Scalar home copy width ∷ places) a
    by c more = ⊎_elim here (λ e. one_further holds k (Scalar home copy width) places a (more e)) c
scalar_found holds k (Array elements n copies ∷ places) a h =
    one_further holds k (Array elements n copies) places a (scalar_found holds (k + 1) places a h)

-- it is a word of that scalar
pub found_word : (holds : ℕ → Bool) (k : ℕ) (l : MemoryMap) (a : ℕ) → (at : ScalarAt holds k l.variables a) → IsWordOf l at.behind at.index a
found_word holds k l a at = record { place = Scalar at.home at.copy at.width; at = at.place; below = at.below; address = at.address }

pub scalar_is : (holds : ℕ → Bool) (k : ℕ) (places : List VariablePlace) (v home copy : ℕ) (width : ScalarWidth) (i : ℕ)
    → slice_get places v ≡ Some (Scalar home copy width) → i < scalar_words width
    → holds (k + v) ≡ true → some_scalar_at holds k places (2 * i + home) ≡ true
scalar_is holds k [] v home copy width i e l h = absurd (let none : None ≡ Some (Scalar home copy width) = e in cc)
scalar_is holds k (Scalar a c w ∷ places) zero home copy width i e l h =
    let at : a ≡ home = cc in
    let wide : w ≡ width = cc in
    let same : k + 0 ≡ k = omega arith in
    let word : has_word_at a w (2 * i + home) ≡ true =
    subst (λ x. has_word_at x w (2 * i + home) ≡ true) (sym at)
    (subst (λ x. has_word_at home x (2 * i + home) ≡ true) (sym wide) (word_is home width i l)) in
    or_left (has_word_at a w (2 * i + home) && holds k) (some_scalar_at holds (k + 1) places (2 * i + home))
    (and_from (has_word_at a w (2 * i + home)) (holds k) word (sym (ap holds same) ∙ h))
scalar_is holds k (Array a n c ∷ places) zero home copy width i e l h =
    absurd (let other : Some (Array a n c) ≡ Some (Scalar home copy width) = e in cc)
scalar_is holds k (Scalar a c w ∷ places) (suc v) home copy width i e l h =
    let same : k + suc v ≡ k + 1 + v = omega arith in
    or_right (has_word_at a w (2 * i + home) && holds k) (some_scalar_at holds (k + 1) places (2 * i + home))
    (scalar_is holds (k + 1) places v home copy width i e l (sym (ap holds same) ∙ h))
scalar_is holds k (Array a n c ∷ places) (suc v) home copy width i e l h =
    let same : k + suc v ≡ k + 1 + v = omega arith in
    scalar_is holds (k + 1) places v home copy width i e l (sym (ap holds same) ∙ h)

-- ---- what stays in place, by the paths of a task

tasks_call : (n : ℕ) (tasks : List CheckedTask) (t : ℕ) → All (λ (x : CheckedTask). BlockCallsBelow n x.body) tasks
    → BlockCallsBelow n (body_of (slice_get tasks t))
tasks_call n [] t h = tt
tasks_call n (x ∷ tasks) zero h = All-head (λ (x : CheckedTask). BlockCallsBelow n x.body) x tasks h
tasks_call n (x ∷ tasks) (suc t) h = tasks_call n tasks t (All-tail (λ (x : CheckedTask). BlockCallsBelow n x.body) x tasks h)

-- each task of a source with a layout calls functions of the source
pub calls_known : (p : CheckedProgram) (allow : Allow) (plans : List TaskPlanValue) (l : MemoryMap) → HasLayout p allow plans l → (t : ℕ)
    → BlockCallsBelow (length p.functions) (task_body p t)
calls_known p allow plans l h t = tasks_call (length p.functions) p.tasks t h.layout.placed.calls.tasks

-- and its functions call those in front of them, and come to a return
pub callable : (p : CheckedProgram) (allow : Allow) (plans : List TaskPlanValue) (l : MemoryMap) → HasLayout p allow plans l → AreCallable p.functions
callable p allow plans l h = record { calls = h.layout.placed.calls.functions; returning = h.returning }

module _ (fs : List CheckedFunction) (may : AreCallable fs) (body : CheckedBlock) (v : ℕ) (calls : BlockCallsBelow (length fs) body) where
  pub in_place_written : stays_in_place fs body v ≡ true → SomePath fs body (writes (Shared v))
  in_place_written h = some_writes (Shared v) fs may body calls (and_parts (some_path_writes fs body v) (not (is_private_in fs body v)) h).0

  pub stays_by_paths : SomePath fs body (writes (Shared v)) → (IsPrivate fs body (Shared v) → ⊥) → stays_in_place fs body v ≡ true
  stays_by_paths w none =
      and_from (some_path_writes fs body v) (not (is_private_in fs body v)) (writes_some (Shared v) fs may body calls w)
      (⊎_elim (λ e. absurd (none (private_is (Shared v) fs may body calls e))) (λ e. ap not e) (cases_Bool (is_private_in fs body v)))

pub in_place_not_private : (fs : List CheckedFunction) (body : CheckedBlock) (v : ℕ) → stays_in_place fs body v ≡ true → is_private_in fs body v ≡ false
in_place_not_private fs body v h = not-true (is_private_in fs body v) (and_parts (some_path_writes fs body v) (not (is_private_in fs body v)) h).1

pub in_place_by_paths : InPlaceByPaths
in_place_by_paths p allow plans l h t v home copy width i e below = (to, from)
  where
    a : ℕ
    a = 2 * i + home

    calls : BlockCallsBelow (length p.functions) (task_body p t)
    calls = calls_known p allow plans l h t

    may : AreCallable p.functions
    may = callable p allow plans l h

    to : (program_places p l).written_in_place t a ≡ true
        → SomePath p.functions (task_body p t) (writes (Shared v)) × (IsPrivate p.functions (task_body p t) (Shared v) → ⊥)
    to w =
        let at = scalar_found (stays_in_place p.functions (task_body p t)) 0 l.variables a w in
        let word = found_word (stays_in_place p.functions (task_body p t)) 0 l a at in
        let same = each_is_one_word p allow plans l h at.behind v at.index i a word (scalar_home l v home copy width i e below) in
        let number : 0 + at.behind ≡ v = let e = same.0 in omega (arith, e) in
        let stays : stays_in_place p.functions (task_body p t) v ≡ true = sym (ap (stays_in_place p.functions (task_body p t)) number) ∙ at.is_so in (
          in_place_written p.functions may (task_body p t) v calls stays,
          λ private.
              let clash : true ≡ false = sym (is_private_of (Shared v) p.functions may (task_body p t) calls private)
              ∙ in_place_not_private p.functions (task_body p t) v stays in
              absurd (cc),
        )

    from : SomePath p.functions (task_body p t) (writes (Shared v)) × (IsPrivate p.functions (task_body p t) (Shared v) → ⊥)
        → (program_places p l).written_in_place t a ≡ true
    from w =
        let same : v ≡ 0 + v = omega arith in
        scalar_is (stays_in_place p.functions (task_body p t)) 0 l.variables v home copy width i e below
        (sym (ap (stays_in_place p.functions (task_body p t)) same) ∙ stays_by_paths p.functions may (task_body p t) v calls w.0 w.1)
