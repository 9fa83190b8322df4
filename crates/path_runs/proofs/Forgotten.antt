-- Where each path of a block writes a scalar before it reads it and before the transition, it makes no difference which words the scalar
-- held: two runs from attempts that differ in one of them alone read none of it while they differ, and don't end before they are one. What is
-- kept by statements is kept by expressions too, whose calls write.
use Rattle.std.proofs.Common.{◌≡◌, ℕ, zero, suc, ◌+◌, ◌-◌, ◌==◌, ◌<◌, ◌≤◌, ◌/◌, ◌%◌, List, [], ◌∷◌, ◌++◌, length, drop, get_or, slice_set}
use Rattle.std.proofs.Common.{Bool, true, false, ◌&&◌, ◌||◌, ap₂}
use Rattle.std.proofs.Common.{Option, Some, None, refl, sym, ap, ◌∙◌, subst, ⊎_elim, eq-eqb, arith, if◌then◌else◌}
use Rattle.std.specs.Prelude.{All}
use Rattle.std.proofs.lemmas.Bool.{cases_Bool, cases_lt, eqb-true}
use Rattle.std.proofs.lemmas.List.{set-set, get_or-set_same, get_or-set_other}
use Rattle.std.proofs.lemmas.List.Elements.{All-nil, All-head, All-tail}
use Rattle.source_values.specs.task_ast.Tree as t
use Rattle.source_values.specs.task_ast.Answers.{answers_from, answers}
use Rattle.source_values.specs.task_ast.declared.WordType.{WordType}
use Rattle.source_values.specs.task_ast.declared.WordType.TheVariants.{Unsigned, Int, Long}
use Rattle.source_values.specs.task_ast.declared.names.VariableName.{VariableName}
use Rattle.source_values.specs.task_ast.declared.names.Variable.{Variable}
use Rattle.source_values.specs.task_ast.declared.names.Variable.TheVariants.{Shared, Local}
use Rattle.source_values.specs.task_ast.Calls.{BlockCallsBelow}
use Rattle.source_values.specs.task_ast.Paths.{CheckedExpression, CheckedValues, CheckedStatement, CheckedChoice, CheckedBlock, CheckedFunction}
use Rattle.path_sums.specs.Sums.{call_sum, expression_sum, values_sum, statement_sum, choice_sum, block_sum, function_sum, call_sums}
use Rattle.path_sums.specs.Known.{AreCallSums}
use Rattle.path_sums.specs.Access.{is_same, writes, SomePath, IsPrivate, summary, summary_unit, summary_gone, summary_read, summary_write, summary_seq}
use Rattle.path_sums.specs.Access.{summary_join, private_of}
use Rattle.path_sums.specs.declared.access.AccessSummary.{AccessSummary}
use Rattle.path_sums.proofs.Interface.{writes_some, private_is}
use Rattle.source_values.specs.Values.{Variables, Attempt, Evaluated, EvaluatedWords, Meaning, word_at, with_word, two_words, scalar_value, by_width, converted}
use Rattle.source_values.specs.Values.{value_of, holds, meaning_in, words_of, word_before}
use Rattle.source_values.specs.Values.{evaluated, gives, made_of, reading_of, truth_word, is_settled, unary_result, binary_result, shift_result, type_of}
use Rattle.source_values.specs.Values.{◌>>?◌}
use Rattle.source_values.specs.Statements.{Outcome, goes_on, to_task, returns, and_then, if_value, with_value, assigned, assigned_to, assigned_value}
use Rattle.source_values.specs.Statements.{word_of, turns, run_statement, run_choice, run_block, entered, left_with, meaning_of}
use Rattle.path_runs.specs.Laws.{HasWords, IsScalarInStatement, IsScalarInChoice, IsScalarIn, HaveScalar, FirstWritesForget}

-- ---- tests

or_none : (a b : Bool) → (a || b) ≡ false → (a ≡ false) × (b ≡ false)
or_none true b h = absurd (let no : true ≡ false = h in cc)
or_none false b h = (refl, h)

-- of two, whichever holds
from_either : (a b c : Bool) → (a ≡ true → c ≡ true) → (b ≡ true → c ≡ true) → (a || b) ≡ true → c ≡ true
from_either true b c f g h = f refl
from_either false b c f g h = g h

second_none : (a b : Bool) → (a && b) ≡ false → a ≡ true → b ≡ false
second_none true b h e = h
second_none false b h e = absurd (let no : false ≡ true = e in cc)

both_hold : (a b : Bool) → a ≡ true → b ≡ true → (a && b) ≡ true
both_hold true b e f = f
both_hold false b e f = e

first_holds : (a b : Bool) → (a && b) ≡ true → a ≡ true
first_holds true b h = refl
first_holds false b h = h

second_holds : (a b : Bool) → (a && b) ≡ true → b ≡ true
second_holds true b h = h
second_holds false b h = absurd (let no : false ≡ true = h in cc)

left_holds : (a b : Bool) → a ≡ true → (a || b) ≡ true
left_holds true b h = refl
left_holds false b h = absurd (let no : false ≡ true = h in cc)

right_holds : (a b : Bool) → b ≡ true → (a || b) ≡ true
right_holds true b h = refl
right_holds false b h = h

differs : (b : Bool) → b ≡ true → b ≡ false → ⊥
differs true h k = let no : true ≡ false = k in cc
differs false h k = let no : false ≡ true = h in cc

-- ---- rows

set_past : {A : Type 0} (xs : List A) (i : ℕ) (a : A) → length xs ≤ i → slice_set xs i a ≡ xs
set_past [] i a h = refl
set_past (x ∷ xs) zero a h = absurd (omega arith)
set_past (x ∷ xs) (suc i) a h = ap (λ ys. x ∷ ys) (set_past xs i a (omega arith))

set_swap : {A : Type 0} (xs : List A) (i j : ℕ) (a b : A) → (i ≡ j → ⊥) → slice_set (slice_set xs i a) j b ≡ slice_set (slice_set xs j b) i a
set_swap [] i j a b h = refl
set_swap (x ∷ xs) zero zero a b h = absurd (h refl)
set_swap (x ∷ xs) zero (suc j) a b h = refl
set_swap (x ∷ xs) (suc i) zero a b h = refl
set_swap (x ∷ xs) (suc i) (suc j) a b h = ap (λ ys. x ∷ ys) (set_swap xs i j a b (λ e. h (ap suc e)))

-- ---- what sums say

-- nothing is read before it is written
abbrev IsUnread : AccessSummary → Type 0
IsUnread s = s.exposed ≡ false

unread_first : (s u : AccessSummary) → IsUnread (summary_seq s u) → IsUnread s
unread_first s u h = (or_none s.exposed (s.untouched && u.exposed) h).0

unread_second : (s u : AccessSummary) → IsUnread (summary_seq s u) → s.untouched ≡ true → IsUnread u
unread_second s u h e = second_none s.untouched u.exposed (or_none s.exposed (s.untouched && u.exposed) h).1 e

unread_left : (s u : AccessSummary) → IsUnread (summary_join s u) → IsUnread s
unread_left s u h = (or_none s.exposed u.exposed h).0

unread_right : (s u : AccessSummary) → IsUnread (summary_join s u) → IsUnread u
unread_right s u h = (or_none s.exposed u.exposed h).1

-- so many turns
abbrev turns_of : Bool → Bool → AccessSummary → AccessSummary
turns_of none one s = if none then summary_unit else (if one then s else summary_seq s s)

unread_turn : (none one : Bool) (s : AccessSummary) → (none ≡ true → ⊥) → IsUnread (turns_of none one s) → IsUnread s
unread_turn true one s some h = absurd (some refl)
unread_turn false true s some h = h
unread_turn false false s some h = unread_first s s h

turns_untouched : (none one : Bool) (s : AccessSummary) → s.untouched ≡ true → (turns_of none one s).untouched ≡ true
turns_untouched true one s h = refl
turns_untouched false true s h = h
turns_untouched false false s h = both_hold s.untouched s.untouched h h

-- what leaves untouched leaves so in the first turn or a later one
turns_leave : (none one : Bool) (s : AccessSummary) → (none ≡ true → ⊥) → s.transitions_untouched ≡ true
    → (turns_of none one s).transitions_untouched ≡ true
turns_leave true one s some h = absurd (some refl)
turns_leave false true s some h = h
turns_leave false false s some h = left_holds s.transitions_untouched _ h

turn_leaves : (none one : Bool) (s : AccessSummary) → (turns_of none one s).transitions_untouched ≡ true → s.transitions_untouched ≡ true
turn_leaves true one s h = absurd (let no : false ≡ true = h in cc)
turn_leaves false true s h = h
turn_leaves false false s h =
    from_either s.transitions_untouched (s.untouched && s.transitions_untouched) s.transitions_untouched (λ e. e) (second_holds s.untouched _) h

write_stays : (b : Bool) → (if b then summary_write else summary_unit).transitions_untouched ≡ false
write_stays true = refl
write_stays false = refl

-- what is untouched behind one, and leaves so behind it, is untouched and leaves so behind another that comes to no less
record IsWithin (s u : AccessSummary) : Type 0 where
  untouched : s.untouched ≡ true → u.untouched ≡ true
  leaves : s.transitions_untouched ≡ true → u.transitions_untouched ≡ true

within_first : (s : AccessSummary) → s.untouched ≡ true → (u : AccessSummary) → IsWithin u (summary_seq s u)
within_first s e u = record {
  untouched = λ h. both_hold s.untouched u.untouched e h;
  leaves = λ h. right_holds s.transitions_untouched _ (both_hold s.untouched u.transitions_untouched e h);
}

within_left : (s u : AccessSummary) → IsWithin s (summary_join s u)
within_left s u = record { untouched = left_holds s.untouched u.untouched; leaves = left_holds s.transitions_untouched u.transitions_untouched }

within_right : (s u : AccessSummary) → IsWithin u (summary_join s u)
within_right s u = record { untouched = right_holds s.untouched u.untouched; leaves = right_holds s.transitions_untouched u.transitions_untouched }

-- nothing behind it
within_unit : (s : AccessSummary) → IsWithin (summary_seq s summary_unit) s
within_unit s = record {
  untouched = first_holds s.untouched true;
  leaves = from_either s.transitions_untouched (s.untouched && false) s.transitions_untouched (λ e. e)
      (λ e. absurd (let no : false ≡ true = second_holds s.untouched false e in cc));
}

module _ (v n at word : ℕ) (inside : at < n) where
  abbrev of_write : Variable → AccessSummary
  of_write x = if is_same (Shared v) x then summary_write else summary_unit

  -- with the other word at this index
  abbrev other : Variables → Variables
  other m = with_word m (Shared v) at word

  abbrev other_in : Attempt → Attempt
  other_in s = assigned s (Shared v) at word

  -- ---- another variable's words

  is_apart : (u : ℕ) → is_same (Shared v) (Shared u) ≡ false → u ≡ v → ⊥
  is_apart u h e = differs (u == v) (eq-eqb u v e) h

  word_same : (m : Variables) (x : Variable) (i : ℕ) → is_same (Shared v) x ≡ false → word_at (other m) x i ≡ word_at m x i
  word_same m (Shared u) i h = ap (λ r. get_or r i 0) (get_or-set_other m.shared v u (slice_set (get_or m.shared v []) at word) [] (is_apart u h))
  word_same m (Local n) i h = refl

  set_later : (m : Variables) (x : Variable) (i w : ℕ) → is_same (Shared v) x ≡ false → with_word (other m) x i w ≡ other (with_word m x i w)
  set_later m (Local n) i w h = refl
  set_later m (Shared u) i w h =
      let apart = is_apart u h in
      let mine = slice_set (get_or m.shared v []) at word in
      let its = slice_set (get_or m.shared u []) i w in
      let read_its : get_or (slice_set m.shared v mine) u [] ≡ get_or m.shared u [] = get_or-set_other m.shared v u mine [] apart in
      let read_mine : get_or (slice_set m.shared u its) v [] ≡ get_or m.shared v [] = get_or-set_other m.shared u v its [] (λ e. apart (sym e)) in
      ap (λ xs. record m { shared = xs })
      (ap (λ r. slice_set (slice_set m.shared v mine) u (slice_set r i w)) read_its
      ∙ set_swap m.shared v u mine its (λ e. apart (sym e))
      ∙ sym (ap (λ r. slice_set (slice_set m.shared u its) v (slice_set r at word)) read_mine))

  -- ---- the scalar's own words

  -- a change of its row behind the other word is one of the row with that word
  row_again : (rows : List (List ℕ)) (row : List ℕ) (f : List ℕ → List ℕ) → get_or rows v [] ≡ row
      → slice_set (slice_set rows v (slice_set row at word)) v (f (get_or (slice_set rows v (slice_set row at word)) v []))
      ≡ slice_set rows v (f (slice_set row at word))
  row_again rows row f is = ⊎_elim within past (cases_lt v (length rows))
    where
      put : List (List ℕ)
      put = slice_set rows v (slice_set row at word)

      within : v < length rows → slice_set put v (f (get_or put v [])) ≡ slice_set rows v (f (slice_set row at word))
      within l =
          set-set rows v (slice_set row at word) (f (get_or put v []))
          ∙ ap (λ r. slice_set rows v (f r)) (get_or-set_same rows v (slice_set row at word) [] l)

      past : length rows ≤ v → slice_set put v (f (get_or put v [])) ≡ slice_set rows v (f (slice_set row at word))
      past l =
          set-set rows v (slice_set row at word) (f (get_or put v [])) ∙ set_past rows v (f (get_or put v [])) l
          ∙ sym (set_past rows v (f (slice_set row at word)) l)

  own_again : (m : Variables) (w : ℕ) → with_word (other m) (Shared v) at w ≡ with_word m (Shared v) at w
  own_again m w =
      let row = get_or m.shared v [] in
      ap (λ xs. record m { shared = xs })
      (row_again m.shared row (λ r. slice_set r at w) refl ∙ ap (λ r. slice_set m.shared v r) (set-set row at word w))

  -- set again, it is as it was
  set_again : (m : Variables) (x : Variable) (w : ℕ) → is_same (Shared v) x ≡ true → with_word (other m) x at w ≡ with_word m x at w
  set_again m (Shared u) w h = subst (λ z. with_word (other m) (Shared z) at w ≡ with_word m (Shared z) at w) (sym (eqb-true u v h)) (own_again m w)
  set_again m (Local n) w h = absurd (let no : false ≡ true = h in cc)

  own_beside : (m : Variables) (j w : ℕ) → (at ≡ j → ⊥) → with_word (other m) (Shared v) j w ≡ other (with_word m (Shared v) j w)
  own_beside m j w ne =
      let row = get_or m.shared v [] in
      let mine : List (List ℕ) = slice_set m.shared v (slice_set row j w) in
      ap (λ xs. record m { shared = xs })
      (row_again m.shared row (λ r. slice_set r j w) refl ∙ ap (λ r. slice_set m.shared v r) (set_swap row at j word w ne)
      ∙ sym (beside m.shared row j w refl))
    where
      beside : (rows : List (List ℕ)) (row : List ℕ) (j w : ℕ) → get_or rows v [] ≡ row
          → slice_set (slice_set rows v (slice_set row j w)) v (slice_set (get_or (slice_set rows v (slice_set row j w)) v []) at word)
          ≡ slice_set rows v (slice_set (slice_set row j w) at word)
      beside rows row j w is = ⊎_elim within past (cases_lt v (length rows))
        where
          put : List (List ℕ)
          put = slice_set rows v (slice_set row j w)

          within : v < length rows → slice_set put v (slice_set (get_or put v []) at word) ≡ slice_set rows v (slice_set (slice_set row j w) at word)
          within l =
              set-set rows v (slice_set row j w) (slice_set (get_or put v []) at word)
              ∙ ap (λ r. slice_set rows v (slice_set r at word)) (get_or-set_same rows v (slice_set row j w) [] l)

          past : length rows ≤ v → slice_set put v (slice_set (get_or put v []) at word) ≡ slice_set rows v (slice_set (slice_set row j w) at word)
          past l =
              set-set rows v (slice_set row j w) (slice_set (get_or put v []) at word) ∙ set_past rows v (slice_set (get_or put v []) at word) l
              ∙ sym (set_past rows v (slice_set (slice_set row j w) at word) l)

  -- the scalar's word beside it
  set_beside : (m : Variables) (x : Variable) (j w : ℕ) → is_same (Shared v) x ≡ true → (at ≡ j → ⊥)
      → with_word (other m) x j w ≡ other (with_word m x j w)
  set_beside m (Shared u) j w h ne =
      subst (λ z. with_word (other m) (Shared z) j w ≡ other (with_word m (Shared z) j w)) (sym (eqb-true u v h)) (own_beside m j w ne)
  set_beside m (Local n) j w h ne = absurd (let no : false ≡ true = h in cc)

  -- ---- values

  read_untouched : (b : Bool) → (if b then summary_read else summary_unit).exposed ≡ false → (if b then summary_read else summary_unit).untouched ≡ true
  read_untouched true h = absurd (let no : true ≡ false = h in cc)
  read_untouched false h = refl

  unread : (b : Bool) → (if b then summary_read else summary_unit).exposed ≡ false → b ≡ false
  unread true h = h
  unread false h = refl

  scalar_same : (m : Variables) (n : VariableName) → is_same (Shared v) n.variable ≡ false → scalar_value (other m) n ≡ scalar_value m n
  scalar_same m n h = ap₂ (λ low high. by_width n.word_type low (two_words low high)) (word_same m n.variable 0 h) (word_same m n.variable 1 h)

  -- the same, or both are there, and differ in the scalar's word alone, which none of the two has touched
  data Either {A : Type 0} (changed : A → A) (untouched : Bool) (o q : Option A) : Type 0 where
    equal : o ≡ q → Either changed untouched o q
    differing : (x : A) → untouched ≡ true → o ≡ Some x → q ≡ Some (changed x) → Either changed untouched o q

  either_if : {A : Type 0} (changed : A → A) (b c : Bool) (o q : Option A) → (b ≡ true → c ≡ true) → Either changed b o q → Either changed c o q
  either_if changed b c o q f (equal e) = equal e
  either_if changed b c o q f (differing x e g h) = differing x (f e) g h

  either_is : {A : Type 0} (changed : A → A) (b : Bool) (o p q r : Option A) → o ≡ p → q ≡ r → Either changed b p r → Either changed b o q
  either_is changed b o p q r f g (equal e) = equal (f ∙ e ∙ sym g)
  either_is changed b o p q r f g (differing x e h k) = differing x e (f ∙ h) (g ∙ k)

  -- one behind another
  either_then : {A B : Type 0} (of_first : A → A) (of_second : B → B) (b c : Bool) (o q : Option A) (f : A → Option B) → Either of_first b o q
      → ((x : A) → b ≡ true → Either of_second c (f x) (f (of_first x))) → Either of_second (b && c) (o >>? f) (q >>? f)
  either_then of_first of_second b c o q f (equal e) k = equal (ap (λ z. z >>? f) e)
  either_then of_first of_second b c o q f (differing x e g h) k =
      either_is of_second (b && c) (o >>? f) (f x) (q >>? f) (f (of_first x)) (ap (λ z. z >>? f) g) (ap (λ z. z >>? f) h)
      (either_if of_second c (b && c) (f x) (f (of_first x)) (both_hold b c e) (k x e))

  -- the attempt behind a value, and behind several words, with the other word
  abbrev other_behind : Evaluated → Evaluated
  other_behind x = evaluated x.value (other_in x.behind)

  abbrev other_behind_words : EvaluatedWords → EvaluatedWords
  other_behind_words x = record { words = x.words; behind = other_in x.behind }

  abbrev ValueAlike : Bool → Option Evaluated → Option Evaluated → Type 0
  ValueAlike untouched o q = Either other_behind untouched o q

  made_alike : (f : ℕ → ℕ) (b : Bool) (o q : Option Evaluated) → ValueAlike b o q → ValueAlike b (made_of f o) (made_of f q)
  made_alike f b o q (equal e) = equal (ap (made_of f) e)
  made_alike f b o q (differing x e g h) = differing (evaluated (f x.value) x.behind) e (ap (made_of f) g) (ap (made_of f) h)

  -- a function with such a sum of its calls: where they don't read the scalar first, they give the same
  abbrev IsAlike : AccessSummary → Meaning → Type 0
  IsAlike s m = (words : List ℕ) (a : Attempt) → IsUnread s → ValueAlike s.untouched (m words a) (m words (other_in a))

  -- so are all functions, by the sums of their calls
  abbrev AreAlike : List AccessSummary → List Meaning → Type 0
  AreAlike [] [] = Unit {0}
  AreAlike [] (m ∷ ms) = ⊥
  AreAlike (s ∷ known) [] = ⊥
  AreAlike (s ∷ known) (m ∷ ms) = IsAlike s m × AreAlike known ms

  call_alike : (known : List AccessSummary) (ms : List Meaning) → AreAlike known ms → (k : ℕ) (words : List ℕ) (a : Attempt)
      → IsUnread (call_sum known (summary (Shared v)) k)
      → ValueAlike (call_sum known (summary (Shared v)) k).untouched (meaning_in ms k words a) (meaning_in ms k words (other_in a))
  unfolding summary
  call_alike [] [] h k words a clean = equal refl
  call_alike [] (m ∷ ms) h k words a clean = absurd h
  call_alike (s ∷ known) [] h k words a clean = absurd h
  call_alike (s ∷ known) (m ∷ ms) h zero words a clean = h.0 words a clean
  call_alike (s ∷ known) (m ∷ ms) h (suc k) words a clean = call_alike known ms h.1 k words a clean

  one_more_alike : (known : List AccessSummary) (ms : List Meaning) (s : AccessSummary) (m : Meaning) → AreAlike known ms → IsAlike s m
      → AreAlike (known ++ s ∷ []) (ms ++ m ∷ [])
  one_more_alike [] [] s m h k = (k, tt)
  one_more_alike [] (q ∷ ms) s m h k = absurd h
  one_more_alike (r ∷ known) [] s m h k = absurd h
  one_more_alike (r ∷ known) (q ∷ ms) s m h k = (h.0, one_more_alike known ms s m h.1 k)

  -- ---- outcomes

  -- the same outcome, or both go on, or leave alike, and differ in the scalar's word alone, which none of the two has touched
  data Alike (s : AccessSummary) (o q : Outcome) : Type 0 where
    same : o ≡ q → Alike s o q
    apart : (a : Attempt) → s.untouched ≡ true → o ≡ goes_on a → q ≡ goes_on (other_in a) → Alike s o q
    gone : (k : ℕ) (a : Attempt) → s.transitions_untouched ≡ true → o ≡ to_task k a → q ≡ to_task k (other_in a) → Alike s o q
    given : (w : ℕ) (a : Attempt) → s.transitions_untouched ≡ true → o ≡ returns w a → q ≡ returns w (other_in a) → Alike s o q

  alike_within : (s u : AccessSummary) (o q : Outcome) → IsWithin s u → Alike s o q → Alike u o q
  alike_within s u o q f (same e) = same e
  alike_within s u o q f (apart a e g h) = apart a (f.untouched e) g h
  alike_within s u o q f (gone k a e g h) = gone k a (f.leaves e) g h
  alike_within s u o q f (given w a e g h) = given w a (f.leaves e) g h

  alike_is : (s : AccessSummary) (o p q r : Outcome) → o ≡ p → q ≡ r → Alike s p r → Alike s o q
  alike_is s o p q r f g (same e) = same (f ∙ e ∙ sym g)
  alike_is s o p q r f g (apart a e h k) = apart a e (f ∙ h) (g ∙ k)
  alike_is s o p q r f g (gone i a e h k) = gone i a e (f ∙ h) (g ∙ k)
  alike_is s o p q r f g (given w a e h k) = given w a e (f ∙ h) (g ∙ k)

  then_alike : (s u : AccessSummary) (o q : Outcome) (next : Attempt → Outcome) → Alike s o q
      → ((a : Attempt) → s.untouched ≡ true → Alike u (next a) (next (other_in a))) → Alike (summary_seq s u) (and_then o next) (and_then q next)
  then_alike s u o q next (same e) k = same (ap (λ z. and_then z next) e)
  then_alike s u o q next (apart a e f g) k =
      alike_is (summary_seq s u) (and_then o next) (next a) (and_then q next) (next (other_in a)) (ap (λ z. and_then z next) f) (ap (λ z. and_then z next) g)
      (alike_within u (summary_seq s u) (next a) (next (other_in a)) (within_first s e u) (k a e))
  then_alike s u o q next (gone i a e f g) k =
      gone i a (left_holds s.transitions_untouched _ e) (ap (λ z. and_then z next) f) (ap (λ z. and_then z next) g)
  then_alike s u o q next (given w a e f g) k =
      given w a (left_holds s.transitions_untouched _ e) (ap (λ z. and_then z next) f) (ap (λ z. and_then z next) g)

  behind_alike : (s u : AccessSummary) (o q : Option Evaluated) (next : ℕ → Attempt → Outcome) → ValueAlike s.untouched o q
      → ((w : ℕ) (a : Attempt) → s.untouched ≡ true → Alike u (next w a) (next w (other_in a)))
      → Alike (summary_seq s u) (if_value o next) (if_value q next)
  behind_alike s u o q next (equal e) k = same (ap (λ z. if_value z next) e)
  behind_alike s u o q next (differing x e f g) k =
      alike_is (summary_seq s u) (if_value o next) (next x.value x.behind) (if_value q next) (next x.value (other_in x.behind)) (ap (λ z. if_value z next) f)
      (ap (λ z. if_value z next) g)
      (alike_within u (summary_seq s u) (next x.value x.behind) (next x.value (other_in x.behind)) (within_first s e u) (k x.value x.behind e))

  -- a call of what ends so: behind it are the caller's locals again
  called_alike : (s : AccessSummary) (locals : List ℕ) (o q : Outcome) → Alike s o q
      → ValueAlike s.transitions_untouched (left_with locals o) (left_with locals q)
  called_alike s locals o q (same e) = equal (ap (left_with locals) e)
  called_alike s locals o q (apart a e f g) = equal (ap (left_with locals) f ∙ sym (ap (left_with locals) g))
  called_alike s locals o q (gone k a e f g) = equal (ap (left_with locals) f ∙ sym (ap (left_with locals) g))
  called_alike s locals o q (given w a e f g) =
      differing (evaluated w (record a { variables = record a.variables { locals = locals } })) e (ap (left_with locals) f) (ap (left_with locals) g)

  -- one word is written
  write_alike : (x : Variable) (w : ℕ) (s : Attempt) → (is_same (Shared v) x ≡ true → n ≤ 1)
      → Alike (of_write x) (goes_on (assigned s x 0 w)) (goes_on (assigned (other_in s) x 0 w))
  write_alike x w s its = by (is_same (Shared v) x) refl
    where
      again : (j : ℕ) → at ≡ j → is_same (Shared v) x ≡ true → with_word (other s.variables) x j w ≡ with_word s.variables x j w
      again j e h = subst (λ k. with_word (other s.variables) x k w ≡ with_word s.variables x k w) e (set_again s.variables x w h)

      by : (b : Bool) → is_same (Shared v) x ≡ b
          → Alike (if b then summary_write else summary_unit) (goes_on (assigned s x 0 w)) (goes_on (assigned (other_in s) x 0 w))
      by true e =
          let one = its e in
          let first : at ≡ 0 = omega (arith, one, inside) in
          same (ap (λ m. goes_on (record s { variables = m })) (sym (again 0 first e)))
      by false e = apart (assigned s x 0 w) refl refl (ap (λ m. goes_on (record s { variables = m })) (set_later s.variables x 0 w e))

  -- two words written hide either of them
  two_again : (m : Variables) (x : Variable) (low high k : ℕ) → is_same (Shared v) x ≡ true → at ≡ k → k < 2
      → with_word (with_word (other m) x 0 low) x 1 high ≡ with_word (with_word m x 0 low) x 1 high
  two_again m x low high zero e first l =
      let at_zero : at ≡ 0 = first in
      ap (λ z. with_word z x 1 high) (subst (λ k. with_word (other m) x k low ≡ with_word m x k low) at_zero (set_again m x low e))
  two_again m x low high (suc zero) e second l =
      let beside : at ≡ 0 → ⊥ = λ z. omega (arith, z, second) in
      let at_one : at ≡ 1 = second in
      ap (λ z. with_word z x 1 high) (set_beside m x 0 low e beside)
      ∙ subst (λ k. with_word (other (with_word m x 0 low)) x k high ≡ with_word (with_word m x 0 low) x k high) at_one
      (set_again (with_word m x 0 low) x high e)
  two_again m x low high (suc (suc k)) e first l = absurd (omega (arith, l))

  write_two_alike : (x : Variable) (low high : ℕ) (s : Attempt) → (is_same (Shared v) x ≡ true → n ≤ 2)
      → Alike (of_write x) (goes_on (assigned (assigned s x 0 low) x 1 high))
      (goes_on (assigned (assigned (other_in s) x 0 low) x 1 high))
  write_two_alike x low high s its = by (is_same (Shared v) x) refl
    where
      by : (b : Bool) → is_same (Shared v) x ≡ b
          → Alike (if b then summary_write else summary_unit) (goes_on (assigned (assigned s x 0 low) x 1 high))
          (goes_on (assigned (assigned (other_in s) x 0 low) x 1 high))
      by true e =
          let two = its e in
          same (ap (λ m. goes_on (record s { variables = m })) (sym (two_again s.variables x low high at e refl (omega (arith, two, inside)))))
      by false e = apart (assigned (assigned s x 0 low) x 1 high) refl refl
          (ap (λ m. goes_on (record s { variables = with_word m x 1 high })) (set_later s.variables x 0 low e)
          ∙ ap (λ m. goes_on (record s { variables = m })) (set_later (with_word s.variables x 0 low) x 1 high e))

  assigned_alike : (x : VariableName) (w : ℕ) (s : Attempt) → HasWords v n x
      → Alike (of_write x.variable) (goes_on (assigned_to s x w)) (goes_on (assigned_to (other_in s) x w))
  assigned_alike x w s its = by x.word_type its
    where
      by : (of : WordType) → (is_same (Shared v) x.variable ≡ true → n ≤ by_width of 1 2) → Alike (of_write x.variable)
          (goes_on (by_width of (assigned s x.variable 0 w) (assigned (assigned s x.variable 0 (w % 65536)) x.variable 1 (w / 65536))))
          (goes_on (by_width of (assigned (other_in s) x.variable 0 w)
          (assigned (assigned (other_in s) x.variable 0 (w % 65536)) x.variable 1 (w / 65536))))
      by Long two = write_two_alike x.variable (w % 65536) (w / 65536) s two
      by Int one = write_alike x.variable w s one
      by Unsigned one = write_alike x.variable w s one

  -- ---- turns

  module _ (x : Variable) (its : is_same (Shared v) x ≡ true → n ≤ 1) (body : Attempt → Outcome) (b : AccessSummary)
      (k : IsUnread b → (s : Attempt) → Alike b (body s) (body (other_in s))) where
    abbrev counted : AccessSummary
    counted = of_write x

    abbrev turn : AccessSummary
    turn = summary_seq b counted

    abbrev all_turns : ℕ → AccessSummary
    all_turns n = turns_of (n == 0) (n == 1) turn

    -- a turn, the variable behind it, and the turns behind that
    abbrev first_turn : ℕ → AccessSummary
    first_turn n = summary_seq b (summary_seq counted (all_turns n))

    counted_stays : (c : Bool) → counted.transitions_untouched ≡ true → c ≡ true
    counted_stays c h = absurd (differs counted.transitions_untouched h (write_stays (is_same (Shared v) x)))

    -- what leaves in one of the turns leaves in some turn
    turns_go : (n : ℕ) → (first_turn n).transitions_untouched ≡ true → turn.transitions_untouched ≡ true
    turns_go n h =
        let rest = (summary_seq counted (all_turns n)).transitions_untouched in
        from_either b.transitions_untouched (b.untouched && rest) turn.transitions_untouched (left_holds b.transitions_untouched _)
        (λ e. from_either counted.transitions_untouched (counted.untouched && (all_turns n).transitions_untouched) turn.transitions_untouched
        (counted_stays turn.transitions_untouched)
        (λ g. turn_leaves (n == 0) (n == 1) turn (second_holds counted.untouched (all_turns n).transitions_untouched g)) (second_holds b.untouched rest e)) h

    turns_stay : (n : ℕ) → (first_turn n).untouched ≡ true → turn.untouched ≡ true
    turns_stay n h =
        both_hold b.untouched counted.untouched (first_holds b.untouched _ h)
        (first_holds counted.untouched (all_turns n).untouched (second_holds b.untouched _ h))

    -- one turn more
    within_turns : (n : ℕ) → IsWithin (summary_seq counted (first_turn n)) (summary_seq counted (all_turns (suc n)))
    within_turns n = record {
      untouched = λ h. both_hold counted.untouched (all_turns (suc n)).untouched (first_holds counted.untouched (first_turn n).untouched h)
          (turns_untouched (suc n == 0) (suc n == 1) turn (turns_stay n (second_holds counted.untouched (first_turn n).untouched h)));
      leaves = from_either counted.transitions_untouched (counted.untouched && (first_turn n).transitions_untouched)
          (summary_seq counted (all_turns (suc n))).transitions_untouched (left_holds counted.transitions_untouched _)
          (λ h. right_holds counted.transitions_untouched _ (both_hold counted.untouched (all_turns (suc n)).transitions_untouched
          (first_holds counted.untouched (first_turn n).transitions_untouched h)
          (turns_leave (suc n == 0) (suc n == 1) turn (λ none. let zero_turns = eqb-true (suc n) 0 none in omega (arith, zero_turns))
          (turns_go n (second_holds counted.untouched (first_turn n).transitions_untouched h)))));
    }

    -- a turn and those behind it
    abbrev from_turn : ℕ → ℕ → Attempt → Outcome
    from_turn n i u = and_then (body u) (turns n (i + 1) x body)

    abbrev begun : ℕ → Attempt → Outcome
    begun i s = goes_on (assigned s x 0 i)

    turns_alike : (n i : ℕ) (s : Attempt) → (counted.untouched ≡ true → (j : ℕ) → n ≡ suc j → IsUnread turn)
        → Alike (summary_seq counted (all_turns n)) (turns n i x body s) (turns n i x body (other_in s))
    turns_alike zero i s clean =
        then_alike counted summary_unit (begun i s) (begun i (other_in s)) (λ a. goes_on a) (write_alike x i s its) (λ a e. apart a refl refl refl)
    turns_alike (suc n) i s clean =
        alike_within (summary_seq counted (first_turn n)) (summary_seq counted (all_turns (suc n))) (turns (suc n) i x body s)
        (turns (suc n) i x body (other_in s)) (within_turns n)
        (then_alike counted (first_turn n) (begun i s) (begun i (other_in s)) (from_turn n i) (write_alike x i s its)
        (λ a e. then_alike b (summary_seq counted (all_turns n)) (body a) (body (other_in a)) (turns n (i + 1) x body)
        (k (unread_first b counted (clean e n refl)) a) (λ u f. turns_alike n (i + 1) u (λ g j h. clean g n refl))))

  -- ---- texts, by the sums of the calls of the functions and what these are

  module _ (known : List AccessSummary) (ms : List Meaning) (functions : AreAlike known ms) where
    abbrev of_expression : CheckedExpression → AccessSummary
    of_expression e = expression_sum known (summary (Shared v)) e

    abbrev of_values : CheckedValues → AccessSummary
    of_values values = values_sum known (summary (Shared v)) values

    abbrev of_statement : CheckedStatement → AccessSummary
    of_statement s = statement_sum known (summary (Shared v)) s

    abbrev of_choice : CheckedChoice → AccessSummary
    of_choice c = choice_sum known (summary (Shared v)) c

    abbrev of_block : CheckedBlock → AccessSummary
    of_block b = block_sum known (summary (Shared v)) b

    mutual
      unfolding summary

      expression_alike : (e : CheckedExpression) (s : Attempt) → IsUnread (of_expression e)
          → ValueAlike (of_expression e).untouched (value_of ms e s) (value_of ms e (other_in s))
      expression_alike (t.number w) s h = differing (evaluated w s) refl refl refl
      expression_alike (t.long_number w) s h = differing (evaluated w s) refl refl refl
      expression_alike (t.name n) s h =
          let b = is_same (Shared v) n.variable in
          differing (evaluated (scalar_value s.variables n) s) (read_untouched b h) refl
          (ap (λ w. gives w (other_in s)) (scalar_same s.variables n (unread b h)))
      expression_alike (t.element n index) s h =
          let i = of_expression index in
          let b = is_same (Shared v) n.variable in
          let r : AccessSummary = if b then summary_read else summary_unit in
          let read : Evaluated → Option Evaluated = λ i. gives (word_at i.behind.variables n.variable i.value) i.behind in
          either_then other_behind other_behind i.untouched r.untouched (value_of ms index s) (value_of ms index (other_in s)) read
          (expression_alike index s (unread_first i r h))
          (λ x e. let later = unread_second i r h e in
          differing (evaluated (word_at x.behind.variables n.variable x.value) x.behind) (read_untouched b later) refl
          (ap (λ w. gives w (other_in x.behind)) (word_same x.behind.variables n.variable x.value (unread b later))))
      expression_alike t.sense s h = by s.left
        where
          by : (rs : List ℕ) → ValueAlike true (reading_of rs s) (reading_of rs (other_in s))
          by [] = equal refl
          by (r ∷ rs) = differing (evaluated r (record s { left = rs })) refl refl refl
      expression_alike t.next_event s h =
          differing (evaluated (get_or s.answers 0 0) (record s { answers = drop 1 s.answers })) refl refl refl
      expression_alike (t.call f values) s h =
          let given = of_values values in
          let body = call_sum known (summary (Shared v)) f.function in
          either_then other_behind_words other_behind given.untouched body.untouched (words_of ms values s) (words_of ms values (other_in s))
          (λ x. meaning_in ms f.function x.words x.behind) (values_alike values s (unread_first given body h))
          (λ x e. call_alike known ms functions f.function x.words x.behind (unread_second given body h e))
      expression_alike (t.unary op a) s h =
          made_alike (unary_result op (type_of a)) (of_expression a).untouched (value_of ms a s) (value_of ms a (other_in s)) (expression_alike a s h)
      expression_alike (t.binary op a b) s h =
          let i = of_expression a in
          let j = of_expression b in
          let f = binary_result op.operator (type_of a) (type_of b) in
          either_then other_behind other_behind i.untouched j.untouched (value_of ms a s) (value_of ms a (other_in s))
          (λ x. made_of (f x.value) (value_of ms b x.behind)) (expression_alike a s (unread_first i j h))
          (λ x e. made_alike (f x.value) j.untouched (value_of ms b x.behind) (value_of ms b (other_in x.behind))
          (expression_alike b x.behind (unread_second i j h e)))
      expression_alike (t.shift op a count) s h =
          made_alike (λ w. shift_result op (type_of a) w count.value) (of_expression a).untouched (value_of ms a s) (value_of ms a (other_in s))
          (expression_alike a s h)
      expression_alike (t.short_circuit op a b) s h =
          let i = of_expression a in
          let j = of_expression b in
          let both = summary_seq i j in
          let more : Evaluated → Option Evaluated =
          λ x. if is_settled op x.value then gives (truth_word x.value) x.behind else made_of truth_word (value_of ms b x.behind) in
          either_if other_behind (i.untouched && true) (summary_join i both).untouched (value_of ms a s >>? more) (value_of ms a (other_in s) >>? more)
          (λ e. left_holds i.untouched both.untouched (first_holds i.untouched true e))
          (either_then other_behind other_behind i.untouched true (value_of ms a s) (value_of ms a (other_in s)) more
          (expression_alike a s (unread_left i both h))
          (λ x e. by (is_settled op x.value) x (expression_alike b x.behind (unread_second i j (unread_right i both h) e))))
        where
          by : (settled : Bool) (x : Evaluated) → ValueAlike (of_expression b).untouched (value_of ms b x.behind) (value_of ms b (other_in x.behind))
              → ValueAlike true (if settled then gives (truth_word x.value) x.behind else made_of truth_word (value_of ms b x.behind))
              (if settled then gives (truth_word x.value) (other_in x.behind) else made_of truth_word (value_of ms b (other_in x.behind)))
          by true x k = differing (evaluated (truth_word x.value) x.behind) refl refl refl
          by false x k =
              made_alike truth_word true (value_of ms b x.behind) (value_of ms b (other_in x.behind))
              (either_if other_behind (of_expression b).untouched true (value_of ms b x.behind) (value_of ms b (other_in x.behind)) (λ e. refl) k)

      values_alike : (values : CheckedValues) (s : Attempt) → IsUnread (of_values values)
          → Either other_behind_words (of_values values).untouched (words_of ms values s) (words_of ms values (other_in s))
      values_alike t.no_value s h = differing (record { words = []; behind = s }) refl refl refl
      values_alike (t.value e more) s h =
          let i = of_expression e in
          let j = of_values more in
          either_then other_behind other_behind_words i.untouched j.untouched (value_of ms e s) (value_of ms e (other_in s))
          (λ x. words_of ms more x.behind >>? λ ws. Some (word_before (word_of e x.value) ws)) (expression_alike e s (unread_first i j h))
          (λ x c. by (word_of e x.value) (words_of ms more x.behind) (words_of ms more (other_in x.behind))
          (values_alike more x.behind (unread_second i j h c)))
        where
          by : (w : ℕ) (o q : Option EvaluatedWords) → Either other_behind_words (of_values more).untouched o q
              → Either other_behind_words (of_values more).untouched (o >>? λ ws. Some (word_before w ws)) (q >>? λ ws. Some (word_before w ws))
          by w o q (equal e) = equal (ap (λ z. z >>? λ ws. Some (word_before w ws)) e)
          by w o q (differing x e f g) =
              differing (word_before w x) e (ap (λ z. z >>? λ ws. Some (word_before w ws)) f) (ap (λ z. z >>? λ ws. Some (word_before w ws)) g)

    -- ---- statements

    value_alike : (u : AccessSummary) (e : CheckedExpression) (s : Attempt) (next : ℕ → Attempt → Outcome) → IsUnread (of_expression e)
        → ((w : ℕ) (a : Attempt) → (of_expression e).untouched ≡ true → Alike u (next w a) (next w (other_in a)))
        → Alike (summary_seq (of_expression e) u) (with_value ms e s next) (with_value ms e (other_in s) next)
    value_alike u e s next h k =
        behind_alike (of_expression e) u (value_of ms e s) (value_of ms e (other_in s)) next (expression_alike e s h) k

    set_alike : (x : VariableName) (e : CheckedExpression) → HasWords v n x → IsUnread (summary_seq (of_expression e) (of_write x.variable)) → (a : Attempt)
        → Alike (summary_seq (of_expression e) (of_write x.variable))
        (with_value ms e a (λ w s. goes_on (assigned_value s x e w))) (with_value ms e (other_in a) (λ w s. goes_on (assigned_value s x e w)))
    set_alike x e its clean a =
        value_alike (of_write x.variable) e a (λ w s. goes_on (assigned_value s x e w)) (unread_first (of_expression e) (of_write x.variable) clean)
        (λ w s c. assigned_alike x (converted (type_of e) x.word_type w) s its)

    either_alike : (c d : AccessSummary) (o p q r : Outcome) (test : Bool) → Alike c o p → Alike d q r
        → Alike (summary_join c d) (if test then o else q) (if test then p else r)
    either_alike c d o p q r true k l = alike_within c (summary_join c d) o p (within_left c d) k
    either_alike c d o p q r false k l = alike_within d (summary_join c d) q r (within_right c d) l

    mutual
      unfolding summary

      statement_alike : (s : CheckedStatement) → IsScalarInStatement v n s → IsUnread (of_statement s) → (a : Attempt)
          → Alike (of_statement s) (run_statement ms s a) (run_statement ms s (other_in a))
      statement_alike (t.declare of x None) plain clean a = apart a refl refl refl
      statement_alike (t.declare of x (Some e)) plain clean a = set_alike x e plain clean a
      statement_alike (t.assign x e) plain clean a = set_alike x e plain clean a
      statement_alike (t.store x index e) plain clean a =
          let i = of_expression index in
          let j = of_expression e in
          let behind = summary_seq j (of_write x.variable) in
          let unwritten : (of_write x.variable).untouched ≡ true = ap (λ b. (if b then summary_write else summary_unit).untouched) plain in
          value_alike behind index a (λ i s. with_value ms e s (λ w s. goes_on (assigned s x.variable i (word_of e w)))) (unread_first i behind clean)
          (λ i s c. value_alike (of_write x.variable) e s (λ w s. goes_on (assigned s x.variable i (word_of e w)))
          (unread_first j (of_write x.variable) (unread_second (of_expression index) behind clean c))
          (λ w s d. apart (assigned s x.variable i (word_of e w)) unwritten refl
          (ap (λ m. goes_on (record s { variables = m })) (set_later s.variables x.variable i (word_of e w) plain))))
      statement_alike (t.choose c) plain clean a = choice_alike c plain clean a
      statement_alike (t.loop x from tested below stepped body) plain clean a =
          let count = below - from in
          let counted = of_write x.variable in
          let turn = summary_seq (of_block body) counted in
          turns_alike x.variable plain.0 (run_block ms body) (of_block body) (λ h s. block_alike body plain.1 h s) count from a
          (λ wrote j e. unread_turn (count == 0) (count == 1) turn
          (λ none. let zero_turns = eqb-true count 0 none in omega (arith, zero_turns, e))
          (unread_second counted (turns_of (count == 0) (count == 1) turn) clean wrote))
      statement_alike (t.emit e) plain clean a =
          let next : ℕ → Attempt → Outcome = λ w s. goes_on (record s { emitted = s.emitted ++ word_of e w ∷ [] }) in
          alike_within (summary_seq (of_expression e) summary_unit) (of_expression e) (with_value ms e a next) (with_value ms e (other_in a) next)
          (within_unit (of_expression e))
          (value_alike summary_unit e a next clean (λ w s c. apart (record s { emitted = s.emitted ++ word_of e w ∷ [] }) refl refl refl))
      statement_alike (t.give at e) plain clean a =
          value_alike summary_gone e a (λ w s. returns (word_of e w) s) (unread_first (of_expression e) summary_gone clean)
          (λ w s c. given (word_of e w) s refl refl refl)
      statement_alike (t.transition at n) plain clean a = gone n.task a refl refl refl

      choice_alike : (c : CheckedChoice) → IsScalarInChoice v n c → IsUnread (of_choice c) → (a : Attempt)
          → Alike (of_choice c) (run_choice ms c a) (run_choice ms c (other_in a))
      choice_alike t.nothing plain clean a = apart a refl refl refl
      choice_alike (t.otherwise b) plain clean a = block_alike b plain clean a
      choice_alike (t.test e b more) plain clean a =
          let i = of_expression e in
          let blocks = summary_join (of_block b) (of_choice more) in
          value_alike blocks e a (λ w s. if holds w then run_block ms b s else run_choice ms more s) (unread_first i blocks clean)
          (λ w s c. let behind = unread_second i blocks clean c in
          either_alike (of_block b) (of_choice more) (run_block ms b s) (run_block ms b (other_in s)) (run_choice ms more s) (run_choice ms more (other_in s))
          (holds w) (block_alike b plain.0 (unread_left (of_block b) (of_choice more) behind) s)
          (choice_alike more plain.1 (unread_right (of_block b) (of_choice more) behind) s))

      block_alike : (b : CheckedBlock) → IsScalarIn v n b → IsUnread (of_block b) → (a : Attempt)
          → Alike (of_block b) (run_block ms b a) (run_block ms b (other_in a))
      block_alike t.end plain clean a = apart a refl refl refl
      block_alike (t.step s more) plain clean a =
          then_alike (of_statement s) (of_block more) (run_statement ms s a) (run_statement ms s (other_in a)) (run_block ms more)
          (statement_alike s plain.0 (unread_first (of_statement s) (of_block more) clean) a)
          (λ u e. block_alike more plain.1 (unread_second (of_statement s) (of_block more) clean e) u)

  -- ---- functions

  -- one that calls those in front of it
  function_alike : (known : List AccessSummary) (ms : List Meaning) → AreAlike known ms → (f : CheckedFunction) → IsScalarIn v n f.body
      → IsAlike (function_sum (summary (Shared v)) known f) (meaning_of ms f)
  unfolding summary
  function_alike known ms h f plain words a clean =
      called_alike (block_sum known (summary (Shared v)) f.body) a.variables.locals (run_block ms f.body (entered words a))
      (run_block ms f.body (other_in (entered words a))) (block_alike known ms h f.body plain clean (entered words a))

  functions_alike : (known : List AccessSummary) (ms : List Meaning) → AreAlike known ms → (fs : List CheckedFunction)
      → All (λ f. IsScalarIn v n f.body) fs → AreAlike (answers_from (function_sum (summary (Shared v))) known fs) (answers_from meaning_of ms fs)
  functions_alike known ms h [] plain = h
  functions_alike known ms h (f ∷ fs) plain =
      let sum = function_sum (summary (Shared v)) known f in
      let meaning = meaning_of ms f in
      let here = function_alike known ms h f (All-head (λ f. IsScalarIn v n f.body) f fs plain) in
      functions_alike (known ++ sum ∷ []) (ms ++ meaning ∷ []) (one_more_alike known ms sum meaning h here) fs
      (All-tail (λ f. IsScalarIn v n f.body) f fs plain)

-- where the scalar isn't private and some path writes it, no run reads it first, and none ends before it is written
module _ (fs : List CheckedFunction) (b : CheckedBlock) (calls : BlockCallsBelow (length fs) b) (v n : ℕ) (scalar : HaveScalar v n fs)
    (written : SomePath fs b (writes (Shared v))) (in_place : IsPrivate fs b (Shared v) → ⊥) where
  abbrev known : List AccessSummary
  known = call_sums (summary (Shared v)) fs

  are_sums : AreCallSums (summary (Shared v)) fs known
  are_sums = record { sums = refl; calls = scalar.calls; returning = scalar.returning }

  abbrev sum : AccessSummary
  sum = block_sum known (summary (Shared v)) b

  not_private : private_of sum ≡ false
  not_private = ⊎_elim (λ e. absurd (in_place (private_is (Shared v) fs known are_sums b calls e))) (λ e. e) (cases_Bool (private_of sum))

  none_amiss : (sum.exposed || (sum.transitions_untouched || sum.untouched)) ≡ false
  none_amiss = second_none sum.writes _ not_private (writes_some (Shared v) fs known are_sums b calls written)

  unread_first_of_all : IsUnread sum
  unread_first_of_all = (or_none sum.exposed (sum.transitions_untouched || sum.untouched) none_amiss).0

  touched : (sum.transitions_untouched ≡ false) × (sum.untouched ≡ false)
  touched = or_none sum.transitions_untouched sum.untouched (or_none sum.exposed (sum.transitions_untouched || sum.untouched) none_amiss).1

  forgotten : (i w : ℕ) (s : Attempt) → IsScalarIn v n b → i < n
      → run_block (answers meaning_of fs) b (assigned s (Shared v) i w) ≡ run_block (answers meaning_of fs) b s
  forgotten i w s plain l =
      by (block_alike v n i w l known ms (functions_alike v n i w l [] [] tt fs scalar.scalars) b plain unread_first_of_all s)
    where
      ms : List Meaning
      ms = answers meaning_of fs

      by : Alike v n i w l sum (run_block ms b s) (run_block ms b (assigned s (Shared v) i w))
          → run_block ms b (assigned s (Shared v) i w) ≡ run_block ms b s
      by (same e) = sym e
      by (apart a e f g) = absurd (differs sum.untouched e touched.1)
      by (gone k a e f g) = absurd (differs sum.transitions_untouched e touched.0)
      by (given k a e f g) = absurd (differs sum.transitions_untouched e touched.0)

pub first_writes_forget : FirstWritesForget
first_writes_forget fs b calls v n i w s scalar plain l written in_place = forgotten fs b calls v n scalar written in_place i w s plain l

-- of no functions
pub no_functions : (v n : ℕ) → HaveScalar v n []
no_functions v n = record {
  calls = tt;
  returning = λ k f at. let no : None ≡ Some f = at in cc;
  scalars = All-nil (λ f. IsScalarIn v n f.body);
}
