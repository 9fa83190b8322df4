-- The frames of all that a function calls are within its depth.
use Rattle.std.proofs.Common.{◌≡◌, ℕ, zero, suc, ◌+◌, ◌<◌, ◌≤◌, ◌||◌, ◌==◌, Bool, true, false, List, [], ◌∷◌, length, take, refl, sym, ap}
use Rattle.std.proofs.Common.{◌∙◌}
use Rattle.std.proofs.Common.{subst, arith, if◌then◌else◌, Some, None, eqb-true}
use Rattle.std.specs.Prelude.{slice_get}
use Rattle.std.proofs.lemmas.Option.{same_Some, slice_get_within}
use Rattle.task_ast.specs.Tree as t
use Rattle.task_ast.specs.Paths.{CheckedExpression, CheckedValues, CheckedStatement, CheckedChoice, CheckedBlock, CheckedFunction}
use Rattle.task_ast.specs.Calls.{CallsAreBelow, ValuesCallBelow, StatementCallsBelow, ChoiceCallsBelow, BlockCallsBelow, FunctionsCallBelow}
use Rattle.cost_bound.specs.Summary.{Summary}
use Rattle.cost_bound.specs.Summaries.{function_summary, function_summaries}
use Rattle.cost_bound.specs.Counts.{expression_calls, values_call, statement_calls, choice_calls, block_calls, some_called_from, most_called_from, reaches_of}
use Rattle.cost_bound.specs.Frames.{frame_of, deepest}
use Rattle.task_ast.proofs.Interface.{answer_of, answers_length, answers_take}
use Rattle.function_locals.specs.Laws.{AllDepthsStand, ReachesGoOn}

-- ---- what a text calls is in front of it

or_either : (a b : Bool) {A : Type 0} → (a || b) ≡ true → (a ≡ true → A) → (b ≡ true → A) → A
or_either true b h f g = f refl
or_either false b h f g = g h

never : {A : Type 0} → false ≡ true → A
never e = absurd (let clash : ⊥ = cc in clash)

mutual
  called_below : (n j : ℕ) (e : CheckedExpression) → CallsAreBelow n e → expression_calls j e ≡ true → j < n
  called_below n j (t.number w) h c = never c
  called_below n j (t.long_number w) h c = never c
  called_below n j (t.name x) h c = never c
  called_below n j (t.element x index) h c = called_below n j index h c
  called_below n j t.sense h c = never c
  called_below n j t.next_event h c = never c
  called_below n j (t.call f values) h c =
      or_either (f.function == j) (values_call j values) c (λ is. subst (λ k. k < n) (eqb-true f.function j is) h.0)
      (λ v. values_below n j values h.1 v)
  called_below n j (t.unary op e) h c = called_below n j e h c
  called_below n j (t.binary op a b) h c =
      or_either (expression_calls j a) (expression_calls j b) c (λ x. called_below n j a h.0 x) (λ y. called_below n j b h.1 y)
  called_below n j (t.shift op e count) h c = called_below n j e h c
  called_below n j (t.short_circuit op a b) h c =
      or_either (expression_calls j a) (expression_calls j b) c (λ x. called_below n j a h.0 x) (λ y. called_below n j b h.1 y)

  values_below : (n j : ℕ) (vs : CheckedValues) → ValuesCallBelow n vs → values_call j vs ≡ true → j < n
  values_below n j t.no_value h c = never c
  values_below n j (t.value e more) h c =
      or_either (expression_calls j e) (values_call j more) c (λ x. called_below n j e h.0 x) (λ y. values_below n j more h.1 y)

mutual
  statement_below : (n j : ℕ) (s : CheckedStatement) → StatementCallsBelow n s → statement_calls j s ≡ true → j < n
  statement_below n j (t.declare of x None) h c = never c
  statement_below n j (t.declare of x (Some e)) h c = called_below n j e h c
  statement_below n j (t.assign x e) h c = called_below n j e h c
  statement_below n j (t.store x i e) h c =
      or_either (expression_calls j i) (expression_calls j e) c (λ a. called_below n j i h.0 a) (λ b. called_below n j e h.1 b)
  statement_below n j (t.choose choice) h c = choice_below n j choice h c
  statement_below n j (t.loop variable from tested below stepped body) h c = block_below n j body h c
  statement_below n j (t.emit e) h c = called_below n j e h c
  statement_below n j (t.give at e) h c = called_below n j e h c
  statement_below n j (t.transition at task) h c = never c

  choice_below : (n j : ℕ) (choice : CheckedChoice) → ChoiceCallsBelow n choice → choice_calls j choice ≡ true → j < n
  choice_below n j t.nothing h c = never c
  choice_below n j (t.otherwise block) h c = block_below n j block h c
  choice_below n j (t.test e block more) h c =
      or_either (expression_calls j e) (block_calls j block || choice_calls j more) c (λ x. called_below n j e h.0 x)
      (λ y. or_either (block_calls j block) (choice_calls j more) y (λ b. block_below n j block h.1.0 b) (λ m. choice_below n j more h.1.1 m))

  pub block_below : (n j : ℕ) (b : CheckedBlock) → BlockCallsBelow n b → block_calls j b ≡ true → j < n
  block_below n j t.end h c = never c
  block_below n j (t.step s more) h c =
      or_either (statement_calls j s) (block_calls j more) c (λ x. statement_below n j s h.0 x) (λ y. block_below n j more h.1 y)

-- each function calls functions in front of it
below_at : (n : ℕ) (fs : List CheckedFunction) (k : ℕ) (f : CheckedFunction) → FunctionsCallBelow n fs → slice_get fs k ≡ Some f
    → BlockCallsBelow (n + k) f.body
below_at n [] k f h at = let no : None ≡ Some f = at in cc
below_at n (g ∷ fs) zero f h at =
    let same : n ≡ n + 0 = omega arith in
    subst (λ m. BlockCallsBelow m f.body) same (subst (λ x. BlockCallsBelow n x.body) (same_Some g f at) h.0)
below_at n (g ∷ fs) (suc k) f h at =
    let same : (n + 1) + k ≡ n + suc k = omega arith in subst (λ m. BlockCallsBelow m f.body) same (below_at (n + 1) fs k f h.1 at)

-- a list has an element below its length
element : {A : Type 0} (xs : List A) (k : ℕ) → k < length xs → (x : A) × (slice_get xs k ≡ Some x)
element [] k l = absurd (let none : ⊥ = omega arith in none)
element (x ∷ xs) zero l = (x, refl)
element (x ∷ xs) (suc k) l = element xs k (omega arith)

take_short : {A : Type 0} (xs : List A) (k : ℕ) → length (take k xs) ≤ k
take_short xs zero = omega arith
take_short [] (suc k) = omega arith
take_short (x ∷ xs) (suc k) = let rest = take_short xs k in omega (arith, rest)

-- ---- depths among summaries

deepest_among : (calls : ℕ → Bool) (k : ℕ) (known : List Summary) (j : ℕ) (z : Summary) → slice_get known j ≡ Some z → calls (k + j) ≡ true
    → z.depth ≤ most_called_from calls (λ s. s.depth) k known
deepest_among calls k [] j z at is = let no : None ≡ Some z = at in cc
deepest_among calls k (s ∷ known) zero z at is =
    let same : s ≡ z = same_Some s z at in
    let here : calls k ≡ true = ap calls (let e : k ≡ k + 0 = omega arith in e) ∙ is in
    let first : (if calls k then s.depth else 0) ≡ z.depth = ap (λ b. if b then s.depth else 0) here ∙ ap (λ x. x.depth) same in
    omega (arith, first)
deepest_among calls k (s ∷ known) (suc j) z at is =
    let there : calls ((k + 1) + j) ≡ true = ap calls (let e : (k + 1) + j ≡ k + suc j = omega arith in e) ∙ is in
    let rest = deepest_among calls (k + 1) known j z at there in
    omega (arith, rest)

-- the first function has the number 0
deepest_at : (calls : ℕ → Bool) (known : List Summary) (j : ℕ) (z : Summary) → slice_get known j ≡ Some z → calls j ≡ true
    → z.depth ≤ most_called_from calls (λ s. s.depth) 0 known
deepest_at calls known j z at is = deepest_among calls 0 known j z at (ap calls (let e : 0 + j ≡ j = omega arith in e) ∙ is)

-- one of the called functions of which something is so
pub record Found (calls : ℕ → Bool) (is : Summary → Bool) (k : ℕ) (known : List Summary) : Type 0 where
  pub number : ℕ
  pub summary : Summary
  pub at : slice_get known number ≡ Some summary
  pub called : calls (k + number) ≡ true
  pub holds : is summary ≡ true

if_both : (b c : Bool) → (if b then c else false) ≡ true → (b ≡ true) × (c ≡ true)
if_both true c h = (refl, h)
if_both false c h = never h

found : (calls : ℕ → Bool) (is : Summary → Bool) (k : ℕ) (known : List Summary) → some_called_from calls is k known ≡ true → Found calls is k known
found calls is k [] h = never h
found calls is k (s ∷ known) h = or_either (if calls k then is s else false) (some_called_from calls is (k + 1) known) h first
    (λ e. behind (found calls is (k + 1) known e))
  where
    first : (if calls k then is s else false) ≡ true → Found calls is k (s ∷ known)
    first e =
        let both = if_both (calls k) (is s) e in
        record { number = 0; summary = s; at = refl; called = ap calls (let e : k + 0 ≡ k = omega arith in e) ∙ both.0; holds = both.1 }

    behind : Found calls is (k + 1) known → Found calls is k (s ∷ known)
    behind x = record {
      number = suc x.number;
      summary = x.summary;
      at = x.at;
      called = ap calls (let e : k + suc x.number ≡ (k + 1) + x.number = omega arith in e) ∙ x.called;
      holds = x.holds;
    }

found_at : (calls : ℕ → Bool) (is : Summary → Bool) (known : List Summary) → some_called_from calls is 0 known ≡ true
    → (n : ℕ) × (s : Summary) × (slice_get known n ≡ Some s) × (calls n ≡ true) × (is s ≡ true)
found_at calls is known h =
    let x = found calls is 0 known h in
    (x.number, x.summary, x.at, ap calls (let e : x.number ≡ 0 + x.number = omega arith in e) ∙ x.called, x.holds)

-- the other way round
is_some : (calls : ℕ → Bool) (is : Summary → Bool) (k : ℕ) (known : List Summary) (j : ℕ) (s : Summary) → slice_get known j ≡ Some s → calls (k + j) ≡ true
    → is s ≡ true → some_called_from calls is k known ≡ true
is_some calls is k [] j s at c h = let no : None ≡ Some s = at in cc
is_some calls is k (x ∷ known) zero s at c h =
    let here : calls k ≡ true = ap calls (let e : k ≡ k + 0 = omega arith in e) ∙ c in
    let so : is x ≡ true = ap is (same_Some x s at) ∙ h in
    ap (λ b. (if b then is x else false) || some_called_from calls is (k + 1) known) here
    ∙ ap (λ b. b || some_called_from calls is (k + 1) known) so
is_some calls is k (x ∷ known) (suc j) s at c h =
    let rest = is_some calls is (k + 1) known j s at (ap calls (let e : (k + 1) + j ≡ k + suc j = omega arith in e) ∙ c) h in
    ap (λ b. (if calls k then is x else false) || b) rest ∙ or_true (if calls k then is x else false)
  where
    or_true : (b : Bool) → (b || true) ≡ true
    or_true true = refl
    or_true false = refl

some_at : (calls : ℕ → Bool) (is : Summary → Bool) (known : List Summary) (j : ℕ) (s : Summary) → slice_get known j ≡ Some s → calls j ≡ true
    → is s ≡ true → some_called_from calls is 0 known ≡ true
some_at calls is known j s at c h = is_some calls is 0 known j s at (ap calls (let e : 0 + j ≡ j = omega arith in e) ∙ c) h

module _ (fs : List CheckedFunction) (below : FunctionsCallBelow 0 fs) where
  abbrev known : List Summary
  known = function_summaries fs

  made : (k : ℕ) (f : CheckedFunction) (s : Summary) → slice_get fs k ≡ Some f → slice_get known k ≡ Some s
      → s ≡ function_summary (function_summaries (take k fs)) f
  made k f s is at = same_Some s (function_summary (function_summaries (take k fs)) f) (sym at ∙ answer_of function_summary fs k f is)

  get_taken : (xs : List Summary) (j k : ℕ) → j < k → slice_get (take k xs) j ≡ slice_get xs j
  get_taken xs j zero l = absurd (let none : ⊥ = omega arith in none)
  get_taken [] j (suc k) l = refl
  get_taken (x ∷ xs) zero (suc k) l = refl
  get_taken (x ∷ xs) (suc j) (suc k) l = get_taken xs j k (omega arith)

  front : (j k : ℕ) → j < k → slice_get (function_summaries (take k fs)) j ≡ slice_get known j
  front j k l = ap (λ xs. slice_get xs j) (sym (answers_take function_summary fs k)) ∙ get_taken known j k l

  abbrev frame : CheckedFunction → ℕ
  frame f = frame_of (length f.parameters) f.body

  callees : (j k : ℕ) (f : CheckedFunction) (s z : Summary) → slice_get fs k ≡ Some f → slice_get known k ≡ Some s → slice_get known j ≡ Some z
      → block_calls j f.body ≡ true → frame f + z.depth ≤ s.depth
  callees j k f s z is at there calls =
      let lt : j < 0 + k = block_below (0 + k) j f.body (below_at 0 fs k f below is) calls in
      let low = deepest_at (λ n. block_calls n f.body) (function_summaries (take k fs)) j z (front j k (omega (arith, lt)) ∙ there) calls in
      let depth : s.depth ≡ frame f + deepest (function_summaries (take k fs)) f.body = ap (λ x. x.depth) (made k f s is at) in
      omega (arith, low, depth)

  -- the function of a number is no deeper than another
  abbrev IsWithin : Summary → ℕ → Type 0
  IsWithin s j = (z : Summary) × (slice_get known j ≡ Some z) × (z.depth ≤ s.depth)

  -- what a function reaches is in front of it, and within its depth
  within : (fuel k : ℕ) (f : CheckedFunction) (s : Summary) (j : ℕ) → k < fuel → slice_get fs k ≡ Some f → slice_get known k ≡ Some s
      → s.reaches j ≡ true → IsWithin s j
  within zero k f s j l is at r = absurd (let none : ⊥ = omega arith in none)
  within (suc fuel) k f s j l is at r =
      or_either (some_called_from (λ n. block_calls n f.body) (λ x. x.reaches j) 0 (function_summaries (take k fs))) (block_calls j f.body) reaches
      (far (λ n g x l is at r. within fuel n g x j l is at r)) near
    where
      reaches : reaches_of (function_summaries (take k fs)) j f.body ≡ true
      reaches = sym (ap (λ x. x.reaches j) (made k f s is at)) ∙ r

      there : (n : ℕ) → n < k → (z : Summary) × (slice_get known n ≡ Some z)
      there n lt =
          let g = element fs n (let m = slice_get_within fs k f is in omega (arith, m, lt)) in
          (function_summary (function_summaries (take n fs)) g.0, answer_of function_summary fs n g.0 g.1)

      near : block_calls j f.body ≡ true → IsWithin s j
      near calls =
          let lt : j < 0 + k = block_below (0 + k) j f.body (below_at 0 fs k f below is) calls in
          let z = there j (omega (arith, lt)) in
          let c = callees j k f s z.0 is at z.1 calls in
          (z.0, z.1, omega (arith, c))

      far : ((n : ℕ) (g : CheckedFunction) (x : Summary) → n < fuel → slice_get fs n ≡ Some g → slice_get known n ≡ Some x → x.reaches j ≡ true
          → IsWithin x j)
          → some_called_from (λ n. block_calls n f.body) (λ x. x.reaches j) 0 (function_summaries (take k fs)) ≡ true → IsWithin s j
      far deeper some =
          let (n, x, there, called, holds) = found_at (λ n. block_calls n f.body) (λ y. y.reaches j) (function_summaries (take k fs)) some in
          let count = answers_length function_summary [] (take k fs) in
          let short = take_short fs k in
          let inside = slice_get_within (function_summaries (take k fs)) n x there in
          let lt : n < k = omega (arith, count, short, inside) in
          let at_x : slice_get known n ≡ Some x = sym (front n k lt) ∙ there in
          let g = element fs n (let m = slice_get_within fs k f is in omega (arith, m, lt)) in
          let deep = deeper n g.0 x (omega (arith, l, lt)) g.1 at_x holds in
          let c = callees n k f s x is at at_x called in
          let d = deep.2 in
          (deep.0, deep.1, omega (arith, c, d))

  reached : (b : CheckedBlock) (j : ℕ) (z : Summary) → BlockCallsBelow (length fs) b → slice_get known j ≡ Some z → reaches_of known j b ≡ true
      → z.depth ≤ deepest known b
  reached b j z calls at r =
      or_either (some_called_from (λ n. block_calls n b) (λ x. x.reaches j) 0 known) (block_calls j b) r far
      (λ c. deepest_at (λ n. block_calls n b) known j z at c)
    where
      far : some_called_from (λ n. block_calls n b) (λ x. x.reaches j) 0 known ≡ true → z.depth ≤ deepest known b
      far some =
          let (n, x, there, called, holds) = found_at (λ n. block_calls n b) (λ y. y.reaches j) known some in
          let count = answers_length function_summary [] fs in
          let inside = slice_get_within known n x there in
          let g = element fs n (omega (arith, count, inside)) in
          let deep = within (suc n) n g.0 x j (omega arith) g.1 there holds in
          let same : deep.0 ≡ z = same_Some deep.0 z (sym deep.1 ∙ at) in
          let low = deepest_at (λ n. block_calls n b) known n x there called in
          let d = deep.2 in
          let e = ap (λ y. y.depth) same in
          omega (arith, low, d, e)

  frames : (k : ℕ) (f : CheckedFunction) (s : Summary) → slice_get fs k ≡ Some f → slice_get known k ≡ Some s → frame f ≤ s.depth
  frames k f s is at =
      let depth : s.depth ≡ frame f + deepest (function_summaries (take k fs)) f.body = ap (λ x. x.depth) (made k f s is at) in omega (arith, depth)

pub depths_stand : AllDepthsStand
depths_stand fs below = record {
  callees = callees fs below;
  frame = frames fs below;
  called = λ b j z at calls. deepest_at (λ n. block_calls n b) (function_summaries fs) j z at calls;
  reached = reached fs below;
}

-- ---- what is reached

module _ (fs : List CheckedFunction) (below : FunctionsCallBelow 0 fs) (j k : ℕ) (f : CheckedFunction) (is : slice_get fs k ≡ Some f)
    (calls : block_calls j f.body ≡ true) where
  abbrev all : List Summary
  all = function_summaries fs

  abbrev callee : Summary
  callee = function_summary (function_summaries (take k fs)) f

  callee_at : slice_get all k ≡ Some callee
  callee_at = answer_of function_summary fs k f is

  or_holds : (b : Bool) → (b || true) ≡ true
  or_holds true = refl
  or_holds false = refl

  callee_reaches : callee.reaches j ≡ true
  callee_reaches =
      ap (λ c. some_called_from (λ n. block_calls n f.body) (λ x. x.reaches j) 0 (function_summaries (take k fs)) || c) calls
      ∙ or_holds (some_called_from (λ n. block_calls n f.body) (λ x. x.reaches j) 0 (function_summaries (take k fs)))

  -- a text that calls one that reaches it, reaches it
  through : (among : List Summary) (b : CheckedBlock) (n : ℕ) (x : Summary) → slice_get among n ≡ Some x → block_calls n b ≡ true → x.reaches j ≡ true
      → reaches_of among j b ≡ true
  through among b n x at called holds =
      ap (λ c. c || block_calls j b) (some_at (λ n. block_calls n b) (λ y. y.reaches j) among n x at called holds)

  on : (fuel n : ℕ) (g : CheckedFunction) (x : Summary) → n < fuel → slice_get fs n ≡ Some g → slice_get all n ≡ Some x → x.reaches k ≡ true
      → x.reaches j ≡ true
  on zero n g x l at there r = absurd (let none : ⊥ = omega arith in none)
  on (suc fuel) n g x l at there r =
      ap (λ y. y.reaches j) (made fs below n g x at there)
      ∙ or_either (some_called_from (λ m. block_calls m g.body) (λ y. y.reaches k) 0 (function_summaries (take n fs))) (block_calls k g.body)
      (sym (ap (λ y. y.reaches k) (made fs below n g x at there)) ∙ r)
      (far (λ m h y l at there r. on fuel m h y l at there r)) near
    where
      near : block_calls k g.body ≡ true → reaches_of (function_summaries (take n fs)) j g.body ≡ true
      near c =
          let lt : k < 0 + n = block_below (0 + n) k g.body (below_at 0 fs n g below at) c in
          through (function_summaries (take n fs)) g.body k callee (front fs below k n (omega (arith, lt)) ∙ callee_at) c callee_reaches

      far : ((m : ℕ) (h : CheckedFunction) (y : Summary) → m < fuel → slice_get fs m ≡ Some h → slice_get all m ≡ Some y → y.reaches k ≡ true
          → y.reaches j ≡ true)
          → some_called_from (λ m. block_calls m g.body) (λ y. y.reaches k) 0 (function_summaries (take n fs)) ≡ true
          → reaches_of (function_summaries (take n fs)) j g.body ≡ true
      far goes some =
          let (m, y, it, called, holds) = found_at (λ m. block_calls m g.body) (λ z. z.reaches k) (function_summaries (take n fs)) some in
          let count = answers_length function_summary [] (take n fs) in
          let short = take_short fs n in
          let inside = slice_get_within (function_summaries (take n fs)) m y it in
          let lt : m < n = omega (arith, count, short, inside) in
          let h = element fs m (let i = slice_get_within fs n g at in omega (arith, i, lt)) in
          through (function_summaries (take n fs)) g.body m y it called
          (goes m h.0 y (omega (arith, l, lt)) h.1 (sym (front fs below m n lt) ∙ it) holds)

  pub reached_on : (b : CheckedBlock) → reaches_of all k b ≡ true → reaches_of all j b ≡ true
  reached_on b r =
      or_either (some_called_from (λ m. block_calls m b) (λ y. y.reaches k) 0 all) (block_calls k b) r far
      (λ c. through all b k callee callee_at c callee_reaches)
    where
      far : some_called_from (λ m. block_calls m b) (λ y. y.reaches k) 0 all ≡ true → reaches_of all j b ≡ true
      far some =
          let (m, y, it, called, holds) = found_at (λ m. block_calls m b) (λ z. z.reaches k) all some in
          let count = answers_length function_summary [] fs in
          let inside = slice_get_within all m y it in
          let h = element fs m (omega (arith, count, inside)) in
          through all b m y it called (on (suc m) m h.0 y (omega arith) h.1 it holds)

pub reaches_go_on : ReachesGoOn
reaches_go_on fs b j k f below is r calls = reached_on fs below j k f is calls b r
