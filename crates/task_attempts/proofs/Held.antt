-- The variables that an attempt starts from, as FRAM has them: a scalar that the task writes in place may hold any words there. The task
-- comes to the same from these variables as from the state's, since each of its paths writes such a scalar before it reads it and before
-- its transition. So an attempt is compared with the source's attempt from what FRAM holds, and that one with the source's own.
use Rattle.task_attempts.proofs.Names.{◌≡◌, ℕ, zero, suc, ◌==◌, ◌<◌, ◌≤◌, List, [], length, get_or, slice_set, Bool, true, false, Option, Some, None, refl, sym}
use Rattle.task_attempts.proofs.Names.{ap, ◌∙◌, subst, ⊎_elim, arith, slice_get, IsSomeAnd, cases_eq, cases_Bool, eqb-true, get_or-set_other, length-set}
use Rattle.task_attempts.proofs.Names.{CheckedStatement, CheckedChoice, CheckedBlock, SharedDeclaration, Extent, Variable, Shared, Local, WordType, Unsigned}
use Rattle.task_attempts.proofs.Names.{Int, Long, Variables, word_at, with_word, by_width, word_same, word_other, row_length, Attempt, Outcome, run_block}
use Rattle.task_attempts.proofs.Names.{is_long_extent, IsArrayName, IsLocal, IsOfType, WellFormedStatement, WellFormedChoice, WellFormedBlock}
use Rattle.task_attempts.proofs.Names.{IsScalarInStatement, IsScalarInChoice, IsScalarIn}
use Rattle.task_ast.specs.Tree as t
use Rattle.task_ast.specs.declared.Extent.TheVariants as extent
use Rattle.task_ast.specs.Types.{is_long}
use Rattle.task_ast.specs.Calls.{BlockCallsBelow}
use Rattle.path_sums.specs.Access.{is_same, writes, SomePath, IsPrivate}
use Rattle.war_analysis.specs.Plans.{is_scalar, IsScalarAt, IsArrayAt}
use Rattle.privatise.specs.Sizes.{home_part}
use Rattle.path_runs.proofs.Interface.{first_writes_forget}
use Rattle.path_runs.specs.Laws.{HaveScalar}
use Rattle.lower.proofs.Interface.{AreCallable}
use Rattle.task_ast.specs.Answers.{answers}
use Rattle.task_ast.specs.Paths.{CheckedFunction}
use Rattle.source_values.specs.Statements.{meaning_of}
use Rattle.std.specs.Prelude.{All}

-- ---- no element of a scalar is stored to, and each of its words is given

not_both : (shared : List SharedDeclaration) (v : ℕ) → IsScalarAt shared v → IsArrayAt shared v → ⊥
not_both shared v = by (slice_get shared v)
  where
    by : (o : Option SharedDeclaration) → IsSomeAnd o (λ d. is_scalar d.extent ≡ true) → IsSomeAnd o (λ d. is_scalar d.extent ≡ false) → ⊥
    by None h k = h
    by (Some d) h k = let clash : true ≡ false = sym h ∙ k in cc

some_word : (of : WordType) → 1 ≤ by_width of 1 2
some_word Long = omega arith
some_word Int = omega arith
some_word Unsigned = omega arith

-- a name of a type as wide as the variable gives it all its words
all_words : (of : WordType) (e : Extent) → is_scalar e ≡ true → is_long_extent e ≡ is_long of → home_part e ≤ by_width of 1 2
all_words of (extent.Scalar w) s h = some_word of
all_words Long (extent.Long w) s h = omega arith
all_words Int (extent.Long w) s h = let never : true ≡ false = h in absurd (cc)
all_words Unsigned (extent.Long w) s h = let never : true ≡ false = h in absurd (cc)
all_words of (extent.Array w) s h = let never : false ≡ true = s in absurd (cc)

module _ (shared : List SharedDeclaration) (v : ℕ) (scalar : IsScalarAt shared v) (d : SharedDeclaration) (at : slice_get shared v ≡ Some d)
    (is : is_scalar d.extent ≡ true) (n : ℕ) (wide : n ≡ home_part d.extent) where
  other_array : (x : Variable) → IsArrayName shared x → is_same (Shared v) x ≡ false
  other_array (Local n) h = refl
  other_array (Shared u) h =
      ⊎_elim (λ e. absurd (not_both shared v scalar (subst (IsArrayAt shared) (eqb-true u v e) h))) (λ e. e) (cases_Bool (u == v))

  gives_all : (of : WordType) (x : Variable) → IsOfType shared of x → is_same (Shared v) x ≡ true → n ≤ by_width of 1 2
  gives_all of (Local m) t h = let never : false ≡ true = h in absurd (cc)
  gives_all of (Shared u) t h =
      let here = subst (λ w. IsOfType shared of (Shared w)) (eqb-true u v h) t in
      let width = subst (λ o. IsSomeAnd o (λ d. is_long_extent d.extent ≡ is_long of)) at here in
      subst (λ m. m ≤ by_width of 1 2) (sym wide) (all_words of d.extent is width)

  -- a local is no shared variable
  no_local : (x : Variable) → IsLocal x → is_same (Shared v) x ≡ true → ⊥
  no_local (Local m) h e = let never : false ≡ true = e in cc
  no_local (Shared u) h e = h

  mutual
    scalar_statement : (s : CheckedStatement) → WellFormedStatement shared s → IsScalarInStatement v n s
    scalar_statement (t.declare of x None) u = tt
    scalar_statement (t.declare of x (Some e)) u = λ h. absurd (no_local x.variable u.0 h)
    scalar_statement (t.assign x e) u = gives_all x.word_type x.variable u.2
    scalar_statement (t.store x index e) u = other_array x.variable u.0
    scalar_statement (t.choose choice) u = scalar_choice choice u
    scalar_statement (t.loop x from tested below stepped body) u = (λ h. absurd (no_local x.variable u.0 h), scalar_block body u.1)
    scalar_statement (t.emit e) u = tt
    scalar_statement (t.give at e) u = tt
    scalar_statement (t.transition at task) u = tt

    scalar_choice : (c : CheckedChoice) → WellFormedChoice shared c → IsScalarInChoice v n c
    scalar_choice t.nothing u = tt
    scalar_choice (t.otherwise block) u = scalar_block block u
    scalar_choice (t.test e block more) u = (scalar_block block u.1, scalar_choice more u.2)

    -- a scalar is one in a well-formed block
    pub scalar_block : (b : CheckedBlock) → WellFormedBlock shared b → IsScalarIn v n b
    scalar_block t.end u = tt
    scalar_block (t.step s more) u = (scalar_statement s u.0, scalar_block more u.1)

-- ---- variables with other words in some scalars

-- which scalars are so, how many words each has, and the words
module _ (holds : ℕ → Bool) (words : ℕ → ℕ) (word : ℕ → ℕ → ℕ) where
  -- with the first j of these words in scalar n
  abbrev with_words : Variables → ℕ → ℕ → Variables
  with_words m n zero = m
  with_words m n (suc j) = with_word (with_words m n j) (Shared n) j (word n j)

  abbrev one : Bool → Variables → ℕ → Variables
  one true m n = with_words m n (words n)
  one false m n = m

  -- with these words in the first n variables that are so
  abbrev pub refreshed : ℕ → Variables → Variables
  refreshed zero m = m
  refreshed (suc n) m = one (holds n) (refreshed n m) n

  words_count : (j : ℕ) (m : Variables) (n : ℕ) → length (with_words m n j).shared ≡ length m.shared
  words_count zero m n = refl
  words_count (suc j) m n =
      let u = with_words m n j in length-set u.shared n (slice_set (get_or u.shared n []) j (word n j)) ∙ words_count j m n

  one_count : (b : Bool) (m : Variables) (n : ℕ) → length (one b m n).shared ≡ length m.shared
  one_count true m n = words_count (words n) m n
  one_count false m n = refl

  pub refreshed_count : (n : ℕ) (m : Variables) → length (refreshed n m).shared ≡ length m.shared
  refreshed_count zero m = refl
  refreshed_count (suc n) m = one_count (holds n) (refreshed n m) n ∙ refreshed_count n m

  words_local : (j : ℕ) (m : Variables) (n : ℕ) → (with_words m n j).locals ≡ m.locals
  words_local zero m n = refl
  words_local (suc j) m n = words_local j m n

  one_local : (b : Bool) (m : Variables) (n : ℕ) → (one b m n).locals ≡ m.locals
  one_local true m n = words_local (words n) m n
  one_local false m n = refl

  pub refreshed_locals : (n : ℕ) (m : Variables) → (refreshed n m).locals ≡ m.locals
  refreshed_locals zero m = refl
  refreshed_locals (suc n) m = one_local (holds n) (refreshed n m) n ∙ refreshed_locals n m

  words_row : (j : ℕ) (m : Variables) (n v : ℕ) → n < length m.shared
      → length (get_or (with_words m n j).shared v []) ≡ length (get_or m.shared v [])
  words_row zero m n v h = refl
  words_row (suc j) m n v h =
      let count = words_count j m n in
      row_length (with_words m n j) n j (word n j) v (omega (arith, count, h)) ∙ words_row j m n v h

  one_row : (b : Bool) (m : Variables) (n v : ℕ) → n < length m.shared → length (get_or (one b m n).shared v []) ≡ length (get_or m.shared v [])
  one_row true m n v h = words_row (words n) m n v h
  one_row false m n v h = refl

  pub refreshed_rows : (n : ℕ) (m : Variables) (v : ℕ) → n ≤ length m.shared → length (get_or (refreshed n m).shared v []) ≡ length (get_or m.shared v [])
  refreshed_rows zero m v h = refl
  refreshed_rows (suc n) m v h =
      let count = refreshed_count n m in
      one_row (holds n) (refreshed n m) n v (omega (arith, count, h)) ∙ refreshed_rows n m v (omega (arith, h))

  words_elsewhere : (j : ℕ) (m : Variables) (n v i : ℕ) → (v ≡ n → ⊥) → word_at (with_words m n j) (Shared v) i ≡ word_at m (Shared v) i
  words_elsewhere zero m n v i d = refl
  words_elsewhere (suc j) m n v i d =
      let u = with_words m n j in
      ap (λ r. get_or r i 0) (get_or-set_other u.shared n v (slice_set (get_or u.shared n []) j (word n j)) [] d) ∙ words_elsewhere j m n v i d

  one_other : (b : Bool) (m : Variables) (n v i : ℕ) → (v ≡ n → ⊥) → word_at (one b m n) (Shared v) i ≡ word_at m (Shared v) i
  one_other true m n v i d = words_elsewhere (words n) m n v i d
  one_other false m n v i d = refl

  words_there : (j : ℕ) (m : Variables) (n i : ℕ) → n < length m.shared → j ≤ length (get_or m.shared n []) → i < j
      → word_at (with_words m n j) (Shared n) i ≡ word n i
  words_there zero m n i h k l = absurd (omega (arith, l))
  words_there (suc j) m n i h k l =
      let u = with_words m n j in
      let count = words_count j m n in
      let row = words_row j m n n h in
      let inside : n < length u.shared = omega (arith, count, h) in
      ⊎_elim {C = word_at (with_words m n (suc j)) (Shared n) i ≡ word n i}
      (λ e. subst (λ z. word_at (with_words m n (suc j)) (Shared n) z ≡ word n z) (sym e) (word_same u n j (word n j) inside (omega (arith, row, k))))
      (λ d. word_other u n j (word n j) n i inside (λ a b. d b) ∙ words_there j m n i h (omega (arith, k)) (omega (arith, l, d)))
      (cases_eq i j)

  -- where it isn't so, the words stay
  pub refreshed_other : (n : ℕ) (m : Variables) (v i : ℕ) → holds v ≡ false → word_at (refreshed n m) (Shared v) i ≡ word_at m (Shared v) i
  refreshed_other zero m v i h = refl
  refreshed_other (suc n) m v i h =
      ⊎_elim {C = word_at (one (holds n) (refreshed n m) n) (Shared v) i ≡ word_at (refreshed n m) (Shared v) i}
      (λ e. ap (λ b. word_at (one b (refreshed n m) n) (Shared v) i) (sym (ap holds e) ∙ h))
      (λ d. one_other (holds n) (refreshed n m) n v i d) (cases_eq v n)
      ∙ refreshed_other n m v i h

  -- where it is so, each word is the other one
  pub refreshed_held : (n : ℕ) (m : Variables) (v i : ℕ) → holds v ≡ true → v < n → n ≤ length m.shared → words v ≤ length (get_or m.shared v [])
      → i < words v → word_at (refreshed n m) (Shared v) i ≡ word v i
  refreshed_held zero m v i h l few some inside = absurd (omega (arith, l))
  refreshed_held (suc n) m v i h l few some inside =
      let count = refreshed_count n m in
      let row = refreshed_rows n m v (omega (arith, few)) in
      ⊎_elim {C = word_at (one (holds n) (refreshed n m) n) (Shared v) i ≡ word v i}
      (λ e.
      let last : v < length (refreshed n m).shared = omega (arith, count, few, e) in
      let here : word_at (one true (refreshed n m) v) (Shared v) i ≡ word v i =
      words_there (words v) (refreshed n m) v i last (omega (arith, row, some)) inside in
      ap (λ b. word_at (one b (refreshed n m) n) (Shared v) i) (sym (ap holds e) ∙ h)
      ∙ ap (λ z. word_at (one true (refreshed n m) z) (Shared v) i) (sym e) ∙ here)
      (λ d. one_other (holds n) (refreshed n m) n v i d ∙ refreshed_held n m v i h (omega (arith, l, d)) (omega (arith, few)) some inside)
      (cases_eq v n)

  -- a block that writes it first comes to the same
  module _ (fs : List CheckedFunction) (may : AreCallable fs) (b : CheckedBlock) (calls : BlockCallsBelow (length fs) b) where
    abbrev Runs : Attempt → Outcome
    Runs a = run_block (answers meaning_of fs) b a

    -- a scalar that is written first, in the block and in the functions
    abbrev IsWrittenFirst : ℕ → Type 0
    IsWrittenFirst v = IsScalarIn v (words v) b × All (λ (f : CheckedFunction). IsScalarIn v (words v) f.body) fs × SomePath fs b (writes (Shared v))
        × (IsPrivate fs b (Shared v) → ⊥)

    words_run : (n : ℕ) → IsWrittenFirst n → (j : ℕ) → j ≤ words n → (a : Attempt) → Runs (record a { variables = with_words a.variables n j }) ≡ Runs a
    words_run n k zero h a = refl
    words_run n k (suc j) h a =
        let scalar : HaveScalar n (words n) fs = record { calls = may.calls; returning = may.returning; scalars = k.1 } in
        first_writes_forget fs b calls n (words n) j (word n j) (record a { variables = with_words a.variables n j }) scalar k.0 (omega (arith, h)) k.2 k.3
        ∙ words_run n k j (omega (arith, h)) a

    -- and so one that writes each of them first
    pub refreshed_runs : ((v : ℕ) → holds v ≡ true → IsWrittenFirst v) → (n : ℕ) (a : Attempt)
        → Runs (record a { variables = refreshed n a.variables }) ≡ Runs a
    refreshed_runs f zero a = refl
    refreshed_runs f (suc n) a = by (holds n) refl ∙ refreshed_runs f n a
      where
        by : (c : Bool) → holds n ≡ c
            → Runs (record a { variables = one c (refreshed n a.variables) n }) ≡ Runs (record a { variables = refreshed n a.variables })
        by true e = words_run n (f n e) (words n) (omega arith) (record a { variables = refreshed n a.variables })
        by false e = refl
