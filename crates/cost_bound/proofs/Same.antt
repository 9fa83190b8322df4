-- What 64 bits keep of a source depends on what they keep of its functions.
use Rattle.std.proofs.Common.{◌≡◌, ℕ, zero, suc, ◌+◌, ◌-◌, ◌*◌, ◌<◌, ◌≤◌, ◌||◌, Bool, true, false, List, [], ◌∷◌, length, map, max, refl, ap, sym}
use Rattle.std.proofs.Common.{◌∙◌}
use Rattle.std.proofs.Common.{if◌then◌else◌, arith, Some, None, slice_index, get_or, take}
use Rattle.std.specs.Prelude.{All}
use Rattle.task_ast.specs.Tree.{number, long_number, name, element, sense, next_event, call, unary, binary, shift, short_circuit, no_value, value}
use Rattle.task_ast.specs.Tree.{declare, assign, store, choose, loop, emit, give, transition, nothing, otherwise, test, end, step}
use Rattle.task_ast.specs.Paths.{CheckedExpression, CheckedValues, CheckedStatement, CheckedChoice, CheckedBlock, CheckedFunction, CheckedTask}
use Rattle.task_ast.specs.declared.SharedDeclaration.{SharedDeclaration}
use Rattle.cost_bound.specs.Summary.{Summary}
use Rattle.cost_bound.specs.Table.{capped, body_price, expression_price, values_price, statement_price, conditions_price, blocks_price, block_price}
use Rattle.cost_bound.specs.Table.{cycles_column, words_column, blocks_together, turns_together}
use Rattle.cost_bound.specs.Counts.{expression_count, values_count, statement_count, conditions_count, choice_count, block_count, called_emits, called_stores}
use Rattle.cost_bound.specs.Counts.{is_emit, is_store_to, emits_of, stores_of, block_calls, block_assigns, assigns_of, reaches_of, routine_words}
use Rattle.cost_bound.specs.Counts.{some_called_from, most_called_from, all_called_from}
use Rattle.cost_bound.specs.Frames.{deepest, stack_of}
use Rattle.cost_bound.specs.Summaries.{function_summary}
use Rattle.cost_bound.specs.Machine.{IsSame, AreSame}
use Rattle.cost_bound.specs.Needs.{AreNeeds}
use Rattle.cost_bound.specs.declared.allowance.Needs.{Needs}
use Rattle.cost_bound.specs.Allowance.{FewEmits, IsFirstOver}
use Rattle.cost_bound.specs.Allowance.{scalar_part, scalars_of, list_part, list_of, is_written, task_bound, own_words, task_words, greatest, total}
use Rattle.cost_bound.specs.declared.prices.Column.{Column}
use Rattle.cost_bound.specs.declared.prices.Body.{Body}
use Rattle.cost_bound.specs.declared.prices.Body.TheVariants.{Cycles, Emits, Nothing}
use Rattle.cost_bound.proofs.Caps.{capped_times}
use Rattle.cost_bound.proofs.Sums.{same_from, capped_from, capped_list_part}

-- the same in front, and behind
pub first_same : (a b : Summary) (as' bs : List Summary) → AreSame (a ∷ as') (b ∷ bs) → IsSame a b
first_same a b as' bs h = h.each zero a b refl refl

pub rest_same : (a b : Summary) (as' bs : List Summary) → AreSame (a ∷ as') (b ∷ bs) → AreSame as' bs
rest_same a b as' bs h = record { count = let c = h.count in omega (arith, c); each = λ k s t x y. h.each (suc k) s t x y }

-- the number of a function of a number
number_same : (of : Summary → ℕ) → ((s t : Summary) → IsSame s t → capped (of s) ≡ capped (of t)) → (as' bs : List Summary) → AreSame as' bs → (k : ℕ)
    → capped (slice_index (map of as') k) ≡ capped (slice_index (map of bs) k)
number_same of each [] [] h k = refl
number_same of each [] (b ∷ bs) h k = absurd (let c = h.count in omega (arith, c))
number_same of each (a ∷ as') [] h k = absurd (let c = h.count in omega (arith, c))
number_same of each (a ∷ as') (b ∷ bs) h zero = each a b (first_same a b as' bs h)
number_same of each (a ∷ as') (b ∷ bs) h (suc k) = number_same of each as' bs (rest_same a b as' bs h) k

body_same : (body : Body) (s t : Summary) → IsSame s t → capped (body_price body s) ≡ capped (body_price body t)
body_same Cycles s t h = h.cycles
body_same Emits s t h = h.emits
body_same Nothing s t h = refl

times_same : (n a b : ℕ) → capped a ≡ capped b → capped (n * a) ≡ capped (n * b)
times_same n a b e = sym (capped_times n a) ∙ ap (λ c. capped (n * c)) e ∙ capped_times n b

blocks_same : (c : Column) (a b a' b' : ℕ) → capped a ≡ capped a' → capped b ≡ capped b' → capped (blocks_together c a b) ≡ capped (blocks_together c a' b')
blocks_same c a b a' b' x y = by c.all_blocks
  where
    by : (all : Bool) → capped (if all then a + b else max a b) ≡ capped (if all then a' + b' else max a' b')
    by true = omega (arith, x, y)
    by false = omega (arith, x, y)

turns_same : (c : Column) (n a b : ℕ) → capped a ≡ capped b → capped (turns_together c n a) ≡ capped (turns_together c n b)
turns_same c n a b e = by c.each_turn
  where
    by : (each : Bool) → capped (if each then n * a else a) ≡ capped (if each then n * b else b)
    by true = times_same n a b e
    by false = e

-- ---- prices

module _ (as' bs : List Summary) (same : AreSame as' bs) (c : Column) where
  mutual
    expression_same : (e : CheckedExpression) → capped (expression_price as' c e) ≡ capped (expression_price bs c e)
    expression_same (number _) = refl
    expression_same (long_number _) = refl
    expression_same (name _) = refl
    expression_same sense = refl
    expression_same next_event = refl
    expression_same (call f values) =
        let given = values_same values in
        let body = number_same (body_price c.body) (body_same c.body) as' bs same f.function in omega arith
    expression_same (unary _ e) = let x = expression_same e in omega arith
    expression_same (binary _ a b) = let x = expression_same a in let y = expression_same b in omega arith
    expression_same (short_circuit _ a b) = let x = expression_same a in let y = expression_same b in omega arith
    expression_same (shift _ e _) = let x = expression_same e in omega arith
    expression_same (element _ e) = let x = expression_same e in omega arith

    values_same : (values : CheckedValues) → capped (values_price as' c values) ≡ capped (values_price bs c values)
    values_same no_value = refl
    values_same (value e more) = let x = expression_same e in let y = values_same more in omega arith

  mutual
    statement_same : (s : CheckedStatement) → capped (statement_price as' c s) ≡ capped (statement_price bs c s)
    statement_same (declare _ _ None) = refl
    statement_same (declare _ _ (Some e)) = let x = expression_same e in omega arith
    statement_same (assign _ e) = let x = expression_same e in omega arith
    statement_same (store _ i e) = let x = expression_same i in let y = expression_same e in omega arith
    statement_same (emit e) = let x = expression_same e in omega arith
    statement_same (give _ e) = let x = expression_same e in omega arith
    statement_same (transition _ _) = refl
    statement_same (choose choice) = let x = conditions_same choice in let y = choice_same choice in omega arith
    statement_same (loop _ from _ below _ body) =
        let x : capped (block_price as' c body) ≡ capped (block_price bs c body) = price_same body in
        let y = turns_same c (below - from) (c.turn + block_price as' c body) (c.turn + block_price bs c body) (omega (arith, x)) in omega (arith, y)

    conditions_same : (choice : CheckedChoice) → capped (conditions_price as' c choice) ≡ capped (conditions_price bs c choice)
    conditions_same nothing = refl
    conditions_same (otherwise _) = refl
    conditions_same (test e _ more) = let x = expression_same e in let y = conditions_same more in omega arith

    choice_same : (choice : CheckedChoice) → capped (blocks_price as' c choice) ≡ capped (blocks_price bs c choice)
    choice_same nothing = refl
    choice_same (otherwise b) = price_same b
    choice_same (test _ b more) = blocks_same c _ _ _ _ (price_same b) (choice_same more)

    pub price_same : (b : CheckedBlock) → capped (block_price as' c b) ≡ capped (block_price bs c b)
    price_same end = refl
    price_same (step s more) = let x = statement_same s in let y = price_same more in omega arith

-- ---- counts

module _ (ns ms : List ℕ) (same : (k : ℕ) → capped (slice_index ns k) ≡ capped (slice_index ms k)) where
  mutual
    expression_counted : (e : CheckedExpression) → capped (expression_count ns e) ≡ capped (expression_count ms e)
    expression_counted (number _) = refl
    expression_counted (long_number _) = refl
    expression_counted (name _) = refl
    expression_counted sense = refl
    expression_counted next_event = refl
    expression_counted (call f values) = let x = values_counted values in let y = same f.function in omega arith
    expression_counted (unary _ e) = expression_counted e
    expression_counted (binary _ a b) = let x = expression_counted a in let y = expression_counted b in omega arith
    expression_counted (short_circuit _ a b) = let x = expression_counted a in let y = expression_counted b in omega arith
    expression_counted (shift _ e _) = expression_counted e
    expression_counted (element _ e) = expression_counted e

    values_counted : (values : CheckedValues) → capped (values_count ns values) ≡ capped (values_count ms values)
    values_counted no_value = refl
    values_counted (value e more) = let x = expression_counted e in let y = values_counted more in omega arith

  module _ (is : CheckedStatement → Bool) where
    mutual
      statement_counted : (s : CheckedStatement) → capped (statement_count ns is s) ≡ capped (statement_count ms is s)
      statement_counted (declare _ _ None) = refl
      statement_counted (declare _ _ (Some e)) = let x = expression_counted e in omega arith
      statement_counted (assign _ e) = let x = expression_counted e in omega arith
      statement_counted (store _ i e) = let x = expression_counted i in let y = expression_counted e in omega arith
      statement_counted (emit e) = let x = expression_counted e in omega arith
      statement_counted (give _ e) = let x = expression_counted e in omega arith
      statement_counted (transition _ _) = refl
      statement_counted (choose choice) = let x = conditions_counted choice in let y = choice_counted choice in omega arith
      statement_counted (loop _ from _ below _ body) = times_same (below - from) (block_count ns is body) (block_count ms is body) (block_counted body)

      conditions_counted : (choice : CheckedChoice) → capped (conditions_count ns choice) ≡ capped (conditions_count ms choice)
      conditions_counted nothing = refl
      conditions_counted (otherwise _) = refl
      conditions_counted (test e _ more) = let x = expression_counted e in let y = conditions_counted more in omega arith

      choice_counted : (choice : CheckedChoice) → capped (choice_count ns is choice) ≡ capped (choice_count ms is choice)
      choice_counted nothing = refl
      choice_counted (otherwise b) = block_counted b
      choice_counted (test _ b more) = let x = block_counted b in let y = choice_counted more in omega arith

      block_counted : (b : CheckedBlock) → capped (block_count ns is b) ≡ capped (block_count ms is b)
      block_counted end = refl
      block_counted (step s more) = let x = statement_counted s in let y = block_counted more in omega arith

-- ---- what is called

some_is_same : (calls : ℕ → Bool) (is : Summary → Bool) → ((s t : Summary) → IsSame s t → is s ≡ is t) → (k : ℕ) (as' bs : List Summary) → AreSame as' bs
    → some_called_from calls is k as' ≡ some_called_from calls is k bs
some_is_same calls is each k [] [] h = refl
some_is_same calls is each k [] (b ∷ bs) h = absurd (let c = h.count in omega (arith, c))
some_is_same calls is each k (a ∷ as') [] h = absurd (let c = h.count in omega (arith, c))
some_is_same calls is each k (a ∷ as') (b ∷ bs) h =
    ap (λ x. (if calls k then x else false) || some_called_from calls is (k + 1) as') (each a b (first_same a b as' bs h))
    ∙ ap (λ x. (if calls k then is b else false) || x) (some_is_same calls is each (k + 1) as' bs (rest_same a b as' bs h))

counts_if : (c : Bool) (a b : ℕ) → capped a ≡ capped b → capped (if c then a else 0) ≡ capped (if c then b else 0)
counts_if true a b e = e
counts_if false a b e = refl

most_is_same : (calls : ℕ → Bool) (of : Summary → ℕ) → ((s t : Summary) → IsSame s t → capped (of s) ≡ capped (of t)) → (k : ℕ) (as' bs : List Summary)
    → AreSame as' bs → capped (most_called_from calls of k as') ≡ capped (most_called_from calls of k bs)
most_is_same calls of each k [] [] h = refl
most_is_same calls of each k [] (b ∷ bs) h = absurd (let c = h.count in omega (arith, c))
most_is_same calls of each k (a ∷ as') [] h = absurd (let c = h.count in omega (arith, c))
most_is_same calls of each k (a ∷ as') (b ∷ bs) h =
    let here = counts_if (calls k) (of a) (of b) (each a b (first_same a b as' bs h)) in
    let more = most_is_same calls of each (k + 1) as' bs (rest_same a b as' bs h) in omega (arith, here, more)

all_is_same : (marks more : ℕ → Bool) (of : Summary → ℕ) → ((s t : Summary) → IsSame s t → capped (of s) ≡ capped (of t)) → (k : ℕ) (as' bs : List Summary)
    → k + length as' ≤ 256 → ((j : ℕ) → j < 256 → marks j ≡ more j) → AreSame as' bs
    → capped (all_called_from marks of k as') ≡ capped (all_called_from more of k bs)
all_is_same marks more of each k [] [] few are h = refl
all_is_same marks more of each k [] (b ∷ bs) few are h = absurd (let c = h.count in omega (arith, c))
all_is_same marks more of each k (a ∷ as') [] few are h = absurd (let c = h.count in omega (arith, c))
all_is_same marks more of each k (a ∷ as') (b ∷ bs) few are h =
    let here = counts_if (marks k) (of a) (of b) (each a b (first_same a b as' bs h)) in
    let marked = ap (λ c. capped (if c then of b else 0)) (are k (omega (arith, few))) in
    let rest = all_is_same marks more of each (k + 1) as' bs (omega (arith, few)) are (rest_same a b as' bs h) in omega (arith, here, marked, rest)

words_plus : (s t : Summary) → IsSame s t → capped (40 + s.words) ≡ capped (40 + t.words)
words_plus s t h = let e = h.words in omega (arith, e)

-- ---- a task, and a function

module _ (as' bs : List Summary) (few : length as' ≤ 64) (same : AreSame as' bs) where
  pub emits_same : (b : CheckedBlock) → capped (emits_of as' b) ≡ capped (emits_of bs b)
  unfolding emits_of
  emits_same b = block_counted (called_emits as') (called_emits bs) (number_same (λ s. s.emits) (λ s t h. h.emits) as' bs same) is_emit b

  pub stores_same : (i : ℕ) → i < 256 → (b : CheckedBlock) → capped (stores_of as' i b) ≡ capped (stores_of bs i b)
  unfolding stores_of
  stores_same i l b = block_counted (called_stores as' i) (called_stores bs i) (number_same (λ s. s.stores i) (λ s t h. h.stores i l) as' bs same)
      (is_store_to i) b

  pub assigns_same : (i : ℕ) → i < 256 → (b : CheckedBlock) → assigns_of as' i b ≡ assigns_of bs i b
  assigns_same i l b = ap (λ x. x || block_assigns i b) (some_is_same (λ k. block_calls k b) (λ s. s.assigns i) (λ s t h. h.assigns i l) 0 as' bs same)

  pub reaches_same : (j : ℕ) → j < 256 → (b : CheckedBlock) → reaches_of as' j b ≡ reaches_of bs j b
  reaches_same j l b = ap (λ x. x || block_calls j b) (some_is_same (λ k. block_calls k b) (λ s. s.reaches j) (λ s t h. h.reaches j l) 0 as' bs same)

  deepest_same : (b : CheckedBlock) → capped (deepest as' b) ≡ capped (deepest bs b)
  deepest_same b = most_is_same (λ k. block_calls k b) (λ s. s.depth) (λ s t h. h.depth) 0 as' bs same

  pub routines_same : (b : CheckedBlock) → capped (routine_words as' b) ≡ capped (routine_words bs b)
  routines_same b = all_is_same (λ k. reaches_of as' k b) (λ k. reaches_of bs k b) (λ s. 40 + s.words) words_plus 0 as' bs (omega (arith, few))
      (λ j l. reaches_same j l b) same

  pub stack_same : (b : CheckedBlock) → capped (stack_of as' b) ≡ capped (stack_of bs b)
  stack_same b = let e = deepest_same b in omega (arith, e)

  pub function_same : (f : CheckedFunction) → IsSame (function_summary as' f) (function_summary bs f)
  function_same f = record {
    cycles = price_same as' bs same cycles_column f.body;
    words = price_same as' bs same (words_column 0) f.body;
    emits = emits_same f.body;
    stores = λ i l. stores_same i l f.body;
    assigns = λ i l. assigns_same i l f.body;
    reaches = λ k l. reaches_same k l f.body;
    depth = let e = deepest_same f.body in omega (arith, e);
  }

  pub written_same : (ts : List CheckedTask) (i : ℕ) → i < 256 → is_written as' ts i ≡ is_written bs ts i
  written_same [] i l = refl
  written_same (t ∷ ts) i l = ap (λ x. x || is_written as' ts i) (assigns_same i l t.body) ∙ ap (λ x. assigns_of bs i t.body || x) (written_same ts i l)

  module _ (shared : List SharedDeclaration) (low : length shared ≤ 256) where
    pub scalars_same : (b : CheckedBlock) → scalars_of as' shared b ≡ scalars_of bs shared b
    scalars_same b = same_from (λ i e. scalar_part (assigns_of as' i b) e) (λ i e. scalar_part (assigns_of bs i b) e) 0 shared (omega (arith, low))
        (λ k e l. ap (λ x. scalar_part x e) (assigns_same k l b))

    pub list_same : (b : CheckedBlock) → capped (list_of as' shared b) ≡ capped (list_of bs shared b)
    list_same b =
        let x = scalars_same b in
        let y = capped_from (λ i e. list_part (stores_of as' i b) e) (λ i e. list_part (stores_of bs i b) e) 0 shared (omega (arith, low))
        (λ k e l. capped_list_part (stores_of as' k b) (stores_of bs k b) e (stores_same k l b)) in omega (arith, x, y)

    pub bound_same : (events : Bool) (versions : ℕ) (b : CheckedBlock)
        → capped (task_bound as' events versions shared b) ≡ capped (task_bound bs events versions shared b)
    bound_same events versions b =
        let s = scalars_same b in let c = price_same as' bs same cycles_column b in let l = list_same b in let e = emits_same b in omega (arith, s, c, l, e)

    pub own_same : (b : CheckedBlock) → capped (own_words as' shared b) ≡ capped (own_words bs shared b)
    own_same b = ap (λ n. capped (block_price as' (words_column n) b)) (scalars_same b) ∙ price_same as' bs same (words_column (scalars_of bs shared b)) b

    pub words_same : (b : CheckedBlock) → capped (task_words as' shared b) ≡ capped (task_words bs shared b)
    words_same b = let s = scalars_same b in let o = own_same b in let r = routines_same b in omega (arith, s, o, r)

-- ---- all tasks

pub greatest_same : (f g : CheckedBlock → ℕ) → ((b : CheckedBlock) → capped (f b) ≡ capped (g b)) → (ts : List CheckedTask)
    → capped (greatest f ts) ≡ capped (greatest g ts)
greatest_same f g each [] = refl
greatest_same f g each (t ∷ ts) = let x = each t.body in let y = greatest_same f g each ts in omega (arith, x, y)

pub total_same : (f g : CheckedBlock → ℕ) → ((b : CheckedBlock) → capped (f b) ≡ capped (g b)) → (ts : List CheckedTask)
    → capped (total f ts) ≡ capped (total g ts)
total_same f g each [] = refl
total_same f g each (t ∷ ts) = let x = each t.body in let y = total_same f g each ts in omega (arith, x, y)

module _ (as' bs : List Summary) (few : length as' ≤ 64) (same : AreSame as' bs) where
  few_one : (t : CheckedTask) → FewEmits as' t → FewEmits bs t
  few_one t h = let e = emits_same as' bs few same t.body in omega (arith, e, h)

  -- no task counts too many emits by the one or by the other
  pub few_same : (ts : List CheckedTask) → All (FewEmits as') ts → All (FewEmits bs) ts
  few_same ts all = λ k d l. few_one (get_or ts k d) (all k d l)

  pub over_same : (ts : List CheckedTask) (n : ℕ) → IsFirstOver as' ts n → IsFirstOver bs ts n
  over_same ts n h = record {
    task = h.task;
    at = h.at;
    over = (let e = emits_same as' bs few same h.task.body in let over = h.over in omega (arith, e, over));
    first = few_same (take n ts) h.first;
  }

  -- what all tasks need
  pub needs_same : (events : Bool) (versions : ℕ) (shared : List SharedDeclaration) → length shared ≤ 256 → (ts : List CheckedTask) (needs : Needs)
      → AreNeeds as' events versions shared ts needs → AreNeeds bs events versions shared ts needs
  needs_same events versions shared low ts needs h = record {
    bound = h.bound ∙ greatest_same (task_bound as' events versions shared) (task_bound bs events versions shared)
        (bound_same as' bs few same shared low events versions) ts;
    words = h.words ∙ total_same (task_words as' shared) (task_words bs shared) (words_same as' bs few same shared low) ts;
    list = h.list ∙ greatest_same (list_of as' shared) (list_of bs shared) (list_same as' bs few same shared low) ts;
    emits = h.emits ∙ greatest_same (emits_of as') (emits_of bs) (emits_same as' bs few same) ts;
    stack = h.stack ∙ greatest_same (stack_of as') (stack_of bs) (stack_same as' bs few same) ts;
  }
