-- What is kept of a function, where it is called.
use Rattle.std.proofs.Common.{◌≡◌, ℕ, zero, suc, ◌+◌, ◌-◌, ◌*◌, ◌<◌, ◌≤◌, ◌||◌, Bool, true, false, List, [], ◌∷◌, length, get_or, drop, map, max, refl, ap}
use Rattle.std.proofs.Common.{sym, ◌∙◌, subst}
use Rattle.std.proofs.Common.{if◌then◌else◌, arith, slice_index, slice_index_or}
use Rattle.task_ast.proofs.Interface.{drop_back}
use Rattle.cost_bound.specs.Summary.{Summary}
use Rattle.cost_bound.specs.Table.{capped}
use Rattle.cost_bound.specs.Counts.{CheckedBlock, block_calls, reaches_of, routine_words, some_called_from, most_called_from, all_called_from}
use Rattle.cost_bound.specs.Frames.{frame_of, deepest}
use Rattle.cost_bound.specs.Rooms.{AreMarked, HaveGrown}
use Rattle.cost_bound.specs.Machine.{summary_of, known_of}
use Rattle.cost_bound.specs.declared.function_summaries.FunctionSummary.{FunctionSummary}

-- what is read of a list, whatever stands for nothing
pub read_again : {A : Type 0} (xs : List A) (i : ℕ) (d : A) → i < length xs → get_or xs i d ≡ get_or xs i (get_or xs i d)
read_again [] i d l = absurd (let none : ⊥ = omega arith in none)
read_again (x ∷ xs) zero d l = refl
read_again (x ∷ xs) (suc i) d l = read_again xs i d (omega arith)

-- the number of a function that is there
pub called_there : (of : Summary → ℕ) (kept : List FunctionSummary) (k : ℕ) (d : FunctionSummary) → k < length kept
    → slice_index (map of (known_of kept)) k ≡ of (summary_of (get_or kept k d))
called_there of [] k d l = absurd (let none : ⊥ = omega arith in none)
called_there of (g ∷ kept) zero d l = refl
called_there of (g ∷ kept) (suc k) d l = called_there of kept k d (omega arith)

-- nothing of one that isn't
pub called_past : (of : Summary → ℕ) (kept : List FunctionSummary) (k : ℕ) → length kept ≤ k → slice_index (map of (known_of kept)) k ≡ 0
called_past of [] k l = refl
called_past of (g ∷ kept) zero l = absurd (let none : ⊥ = omega arith in none)
called_past of (g ∷ kept) (suc k) l = called_past of kept k (omega arith)

-- what the counts grow by
pub call_counted : (kept : List FunctionSummary) (k : ℕ) (d : FunctionSummary) (old new : List ℕ) → k < length kept
    → HaveGrown old new (λ i. 1 * slice_index (get_or kept k d).stores i) → HaveGrown old new (λ i. slice_index (map (λ s. s.stores i) (known_of kept)) k)
call_counted kept k d old new l h = λ i below.
    let is : slice_index (map (λ s. s.stores i) (known_of kept)) k ≡ slice_index (get_or kept k d).stores i = called_there (λ s. s.stores i) kept k d l in
    let grown : capped (slice_index new i) ≡ capped (slice_index old i + 1 * slice_index (get_or kept k d).stores i) = h i below in omega (arith, is, grown)

pub no_call_counted : (kept : List FunctionSummary) (k : ℕ) (old : List ℕ) → length kept ≤ k
    → HaveGrown old old (λ i. slice_index (map (λ s. s.stores i) (known_of kept)) k)
no_call_counted kept k old l = λ i below.
    let is : slice_index (map (λ s. s.stores i) (known_of kept)) k ≡ 0 = called_past (λ s. s.stores i) kept k l in omega (arith, is)

-- ---- loops over the functions, from the last

or_swap : (s r h : Bool) → ((s || r) || h) ≡ (s || (h || r))
or_swap true r h = refl
or_swap false true true = refl
or_swap false true false = refl
or_swap false false true = refl
or_swap false false false = refl

-- marks of what the called functions have
module _ (has : ℕ → Summary → Bool) (calls : ℕ → Bool) (kept : List FunctionSummary) (k : ℕ) (d : FunctionSummary) (old before after : List Bool)
    (pos : 0 < k) (h : k ≤ length kept)
    (rest : AreMarked old before (λ i. some_called_from calls (has i) k (known_of (drop k kept))))
    (step : AreMarked before after (λ i. if calls (k - 1) then has i (summary_of (get_or kept (k - 1) d)) else false)) where
  abbrev f : FunctionSummary
  f = get_or kept (k - 1) d

  abbrev here : ℕ → Bool
  here i = if calls (k - 1) then has i (summary_of f) else false

  marked : AreMarked old after (λ i. some_called_from calls (has i) (k - 1) (known_of (f ∷ drop k kept)))
  marked i below =
      let same : k - 1 + 1 ≡ k = omega (arith, pos) in
      step i below ∙ ap (λ b. b || here i) (rest i below)
      ∙ or_swap (slice_index_or old i false) (some_called_from calls (has i) k (known_of (drop k kept))) (here i)
      ∙ ap (λ n. slice_index_or old i false || (here i || some_called_from calls (has i) n (known_of (drop k kept)))) (sym same)

  pub called_marked : AreMarked old after (λ i. some_called_from calls (has i) (k - 1) (known_of (drop (k - 1) kept)))
  called_marked = subst (λ fs. AreMarked old after (λ i. some_called_from calls (has i) (k - 1) (known_of fs)))
      (sym (drop_back kept k f pos h (read_again kept (k - 1) _ (omega (arith, pos, h))))) marked

-- numbers of the called functions
module _ (calls : ℕ → Bool) (of : Summary → ℕ) (kept : List FunctionSummary) (k : ℕ) (e : FunctionSummary) (pos : 0 < k) (h : k ≤ length kept) where
  abbrev element : FunctionSummary
  element = get_or kept (k - 1) e

  pub most_more : (n d m : ℕ) → n ≡ most_called_from calls of k (known_of (drop k kept)) → d ≡ (if calls (k - 1) then of (summary_of element) else 0)
      → m ≡ max d n → m ≡ most_called_from calls of (k - 1) (known_of (drop (k - 1) kept))
  most_more n d m x y z =
      let same : k - 1 + 1 ≡ k = omega (arith, pos) in
      z ∙ ap (λ d. max d n) y ∙ ap (λ n. max (if calls (k - 1) then of (summary_of element) else 0) n) x
      ∙ ap (λ j. max (if calls (k - 1) then of (summary_of element) else 0) (most_called_from calls of j (known_of (drop k kept)))) (sym same)
      ∙ ap (λ fs. most_called_from calls of (k - 1) (known_of fs)) (sym (drop_back kept k element pos h (read_again kept (k - 1) _ (omega (arith, pos, h)))))

  pub all_more : (n d m : ℕ) → n ≡ capped (all_called_from calls of k (known_of (drop k kept)))
      → d ≡ capped (if calls (k - 1) then of (summary_of element) else 0) → m ≡ capped (d + n)
      → m ≡ capped (all_called_from calls of (k - 1) (known_of (drop (k - 1) kept)))
  all_more n d m x y z =
      let same : k - 1 + 1 ≡ k = omega (arith, pos) in
      let first : m ≡ capped ((if calls (k - 1) then of (summary_of element) else 0) + all_called_from calls of k (known_of (drop k kept))) =
      omega (arith, x, y, z) in
      first
      ∙ ap (λ j. capped ((if calls (k - 1) then of (summary_of element) else 0) + all_called_from calls of j (known_of (drop k kept)))) (sym same)
      ∙ ap (λ fs. capped (all_called_from calls of (k - 1) (known_of fs)))
      (sym (drop_back kept k element pos h (read_again kept (k - 1) _ (omega (arith, pos, h)))))

-- ---- the same marks

some_same : (calls marks : ℕ → Bool) (is : Summary → Bool) (k : ℕ) (known : List Summary) → k + length known ≤ 256
    → ((j : ℕ) → j < 256 → calls j ≡ marks j) → some_called_from calls is k known ≡ some_called_from marks is k known
some_same calls marks is k [] few same = refl
some_same calls marks is k (s ∷ known) few same =
    ap (λ c. (if c then is s else false) || some_called_from calls is (k + 1) known) (same k (omega arith))
    ∙ ap (λ b. (if marks k then is s else false) || b) (some_same calls marks is (k + 1) known (omega arith) same)

most_same : (calls marks : ℕ → Bool) (of : Summary → ℕ) (k : ℕ) (known : List Summary) → k + length known ≤ 256
    → ((j : ℕ) → j < 256 → calls j ≡ marks j) → most_called_from calls of k known ≡ most_called_from marks of k known
most_same calls marks of k [] few same = refl
most_same calls marks of k (s ∷ known) few same =
    ap (λ c. max (if c then of s else 0) (most_called_from calls of (k + 1) known)) (same k (omega arith))
    ∙ ap (λ n. max (if marks k then of s else 0) n) (most_same calls marks of (k + 1) known (omega arith) same)

pub all_same : (calls marks : ℕ → Bool) (of : Summary → ℕ) (k : ℕ) (known : List Summary) → k + length known ≤ 256
    → ((j : ℕ) → j < 256 → calls j ≡ marks j) → all_called_from calls of k known ≡ all_called_from marks of k known
all_same calls marks of k [] few same = refl
all_same calls marks of k (s ∷ known) few same =
    ap (λ c. (if c then of s else 0) + all_called_from calls of (k + 1) known) (same k (omega arith))
    ∙ ap (λ n. (if marks k then of s else 0) + n) (all_same calls marks of (k + 1) known (omega arith) same)

pub known_length : (kept : List FunctionSummary) → length (known_of kept) ≡ length kept
known_length [] = refl
known_length (f ∷ kept) = ap suc (known_length kept)

pub few_known : (kept : List FunctionSummary) → length kept ≤ 64 → length (known_of kept) ≤ 64
few_known kept few = let n = known_length kept in omega (arith, n, few)

module _ (kept : List FunctionSummary) (few : length kept ≤ 64) (b : CheckedBlock) (calls : List Bool)
    (are : (k : ℕ) → k < 256 → slice_index_or calls k false ≡ block_calls k b) where
  room : 0 + length (known_of kept) ≤ 256
  room = let n = known_length kept in omega (arith, n, few)

  pub assigned_is : (own marks : List Bool) (of : ℕ → Bool) → ((i : ℕ) → i < 256 → slice_index_or own i false ≡ of i)
      → AreMarked own marks (λ i. some_called_from (λ k. slice_index_or calls k false) (λ s. s.assigns i) 0 (known_of kept))
      → (i : ℕ) → i < 256 → slice_index_or marks i false ≡ (some_called_from (λ k. block_calls k b) (λ s. s.assigns i) 0 (known_of kept) || of i)
  assigned_is own marks of start h i l =
      h i l ∙ ap (λ m. m || some_called_from (λ k. slice_index_or calls k false) (λ s. s.assigns i) 0 (known_of kept)) (start i l)
      ∙ ap (λ m. of i || m) (some_same (λ k. slice_index_or calls k false) (λ k. block_calls k b) (λ s. s.assigns i) 0 (known_of kept) room are)
      ∙ or_swap false (of i) (some_called_from (λ k. block_calls k b) (λ s. s.assigns i) 0 (known_of kept))

  pub reached_is : (marks : List Bool)
      → AreMarked calls marks (λ i. some_called_from (λ k. slice_index_or calls k false) (λ s. s.reaches i) 0 (known_of kept))
      → (i : ℕ) → i < 256 → slice_index_or marks i false ≡ reaches_of (known_of kept) i b
  reached_is marks h i l =
      h i l ∙ ap (λ m. m || some_called_from (λ k. slice_index_or calls k false) (λ s. s.reaches i) 0 (known_of kept)) (are i l)
      ∙ ap (λ m. block_calls i b || m) (some_same (λ k. slice_index_or calls k false) (λ k. block_calls k b) (λ s. s.reaches i) 0 (known_of kept) room are)
      ∙ or_swap false (block_calls i b) (some_called_from (λ k. block_calls k b) (λ s. s.reaches i) 0 (known_of kept))

  pub deepest_is : (n : ℕ) → n ≡ most_called_from (λ k. slice_index_or calls k false) (λ s. s.depth) 0 (known_of kept) → n ≡ deepest (known_of kept) b
  deepest_is n e = e ∙ most_same (λ k. slice_index_or calls k false) (λ k. block_calls k b) (λ s. s.depth) 0 (known_of kept) room are

-- the words of the functions that are reached
pub routines_are : (kept : List FunctionSummary) (b : CheckedBlock) (marks : List Bool) (n : ℕ) → length kept ≤ 64
    → ((k : ℕ) → k < 256 → slice_index_or marks k false ≡ reaches_of (known_of kept) k b)
    → n ≡ capped (all_called_from (λ k. slice_index_or marks k false) (λ s. 40 + s.words) 0 (known_of kept)) → n ≡ capped (routine_words (known_of kept) b)
routines_are kept b marks n few are e =
    e ∙ ap capped (all_same (λ k. slice_index_or marks k false) (λ k. reaches_of (known_of kept) k b) (λ s. 40 + s.words) 0 (known_of kept)
    (let m = known_length kept in omega (arith, m, few)) are)

-- ---- what is kept of a function

pub kept_price : (price : CheckedBlock → ℕ) (n : ℕ) (a b : CheckedBlock) → a ≡ b → n ≡ capped (price a) → capped n ≡ capped (price b)
kept_price price n a b e is = let same : capped n ≡ capped (price a) = omega (arith, is) in same ∙ ap (λ c. capped (price c)) e

module _ {P : Type 0} (known : List Summary) (parameters slice : List P) (a b : CheckedBlock) (count frame deep n : ℕ) where
  pub kept_depth : slice ≡ parameters → a ≡ b → count ≡ length slice → frame ≡ capped (frame_of count a) → deep ≡ deepest known a → n ≡ capped (frame + deep)
      → capped n ≡ capped (frame_of (length parameters) b + deepest known b)
  kept_depth e f x y z is =
      let same : capped n ≡ capped (frame_of count a + deepest known a) = omega (arith, y, z, is) in
      same ∙ ap (λ m. capped (frame_of m a + deepest known a)) (x ∙ ap length e) ∙ ap (λ c. capped (frame_of (length parameters) c + deepest known c)) f
