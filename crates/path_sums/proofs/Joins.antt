-- A sum from the bottom up is the join of the sums of the paths, each by itself.
use Rattle.std.proofs.Common.{◌≡◌, ◌-◌, Some, None, ℕ, zero, suc, List, [], ◌∷◌, ◌++◌, ◌⊎◌, inl, inr, refl, ap, sym, ◌∙◌, subst, append_assoc, arith}
use Rattle.std.proofs.Common.{if◌then◌else◌, ◌==◌, ◌<◌, Bool, true, false, length, take}
use Rattle.std.specs.Prelude.{slice_get, cond}
use Rattle.std.proofs.lemmas.List.{append-nil}
use Rattle.std.proofs.lemmas.Bool.Decides.{nat_tests}
use Rattle.task_ast.specs.Tree as t
use Rattle.task_ast.specs.declared.names.VariableName.{VariableName}
use Rattle.task_ast.specs.Calls.{CallsAreBelow, ValuesCallBelow, StatementCallsBelow, ChoiceCallsBelow, BlockCallsBelow}
use Rattle.task_ast.specs.Paths.{CheckedExpression, CheckedValues, CheckedStatement, CheckedChoice, CheckedBlock, CheckedFunction}
use Rattle.task_ast.specs.Paths.{Access, read, write, unset, End, goes_on, goes_to, returns, Leaves, is_seen_outside, outside}
use Rattle.task_ast.specs.Paths.{ExpressionPath, ValuesPath, StatementPath, ChoicePath, TurnsPath, BlockPath}
use Rattle.task_ast.specs.Paths as p
use Rattle.path_sums.specs.Sums.{Algebra, expression_sum, values_sum, call_sum, turns_sum, statement_sum, choice_sum, block_sum}

pub record Lawful {S : Type 0} (A : Algebra S) : Type 0 where
  pub unit_l : (s : S) → A.seq A.unit s ≡ s
  pub unit_r : (s : S) → A.seq s A.unit ≡ s
  pub gone_l : (s : S) → A.seq A.gone s ≡ A.gone
  pub assoc : (r s t : S) → A.seq (A.seq r s) t ≡ A.seq r (A.seq s t)
  pub distr_l : (r s t : S) → A.seq r (A.join s t) ≡ A.join (A.seq r s) (A.seq r t)
  pub distr_r : (r s t : S) → A.seq (A.join r s) t ≡ A.join (A.seq r t) (A.seq s t)
  pub idem : (s : S) → A.join s s ≡ s
  pub join_assoc : (r s t : S) → A.join (A.join r s) t ≡ A.join r (A.join s t)
  pub join_comm : (r s : S) → A.join r s ≡ A.join s r
  -- two turns do what three do
  pub cube : (s : S) → A.seq s (A.seq s s) ≡ A.seq s s
  -- a call that does nothing, what one does that its caller sees and doesn't see, and two ways through a function
  pub called_gone : A.called A.gone ≡ A.unit
  pub called_seen : (x : Access) (s : S) → is_seen_outside x ≡ true → A.called (A.seq (A.one x) s) ≡ A.seq (A.one x) (A.called s)
  pub called_unseen : (x : Access) (s : S) → is_seen_outside x ≡ false → A.called (A.seq (A.one x) s) ≡ A.called s
  pub called_join : (r s : S) → A.called (A.join r s) ≡ A.join (A.called r) (A.called s)

-- the sum of one path
abbrev pub path_sum : {S : Type 0} → Algebra S → List Access → End → S
path_sum A [] goes_on = A.unit
path_sum A [] (goes_to _) = A.gone
path_sum A [] returns = A.gone
path_sum A (x ∷ xs) end = A.seq (A.one x) (path_sum A xs end)

abbrev pub Paths : Type 1
Paths = List Access → End → Type 0

-- a join of sums of some of the paths
pub data Made {S : Type 0} (A : Algebra S) (P : List Access → End → Type 0) : S → Type 0 where
  one : (xs : List Access) (end : End) → P xs end → Made A P (path_sum A xs end)
  joined : (s t : S) → Made A P s → Made A P t → Made A P (A.join s t)

pub record Joins {S : Type 0} (A : Algebra S) (P : List Access → End → Type 0) (s : S) : Type 0 where
  pub above : (xs : List Access) (end : End) → P xs end → A.join (path_sum A xs end) s ≡ s
  pub made : Made A P s

-- ---- kinds of paths

pub data Then (P Q : List Access → End → Type 0) : List Access → End → Type 0 where
  both : (xs ys : List Access) (end : End) → P xs goes_on → Q ys end → Then P Q (xs ++ ys) end
  cut : (xs : List Access) (end : End) → Leaves end → P xs end → Then P Q xs end

pub data Only (xs : List Access) : List Access → End → Type 0 where
  only : Only xs xs goes_on

-- a `return` at once
pub data Gives : List Access → End → Type 0 where
  gives : Gives [] returns

pub data Going (P : List Access → Type 0) : List Access → End → Type 0 where
  going : (xs : List Access) → P xs → Going P xs goes_on

abbrev pub Turns : ℕ → (List Access → End → Type 0) → List Access → End → Type 0
Turns zero P = Only []
Turns (suc n) P = Then P (Turns n P)

pub Turned : List CheckedFunction → VariableName → CheckedBlock → List Access → End → Type 0
Turned fs x body = Then (BlockPath fs body) (Only (write x ∷ []))

abbrev pub Or : List CheckedFunction → CheckedBlock → CheckedChoice → List Access → End → Type 0
Or fs b more zs end = BlockPath fs b zs end ⊎ ChoicePath fs more zs end

-- what a caller sees of a path of one of the functions
abbrev pub CallPath : List CheckedFunction → ℕ → List Access → Type 0
CallPath fs k zs = (f : CheckedFunction) × (ys : List Access) × (slice_get fs k ≡ Some f) × (zs ≡ outside ys) × BlockPath (take k fs) f.body ys returns

-- the sums of the calls of the functions, by what their paths do
abbrev pub Known : {S : Type 0} → Algebra S → List CheckedFunction → List S → Type 0
Known A fs known = (k : ℕ) → k < length fs → Joins A (Going (CallPath fs k)) (call_sum known A k)

turns_many : {S : Type 0} (n : ℕ) (r s t : S) → 1 < n → (if n == 0 then r else (if n == 1 then s else t)) ≡ t
turns_many n r s t h = grind (arith, nat_tests)

module _ {S : Type 0} (A : Algebra S) (law : Lawful A) where
  path_sum-append : (xs ys : List Access) (end : End) → path_sum A (xs ++ ys) end ≡ A.seq (path_sum A xs goes_on) (path_sum A ys end)
  path_sum-append [] ys end = sym (law.unit_l (path_sum A ys end))
  path_sum-append (x ∷ xs) ys end = ap (λ s. A.seq (A.one x) s) (path_sum-append xs ys end)
      ∙ sym (law.assoc (A.one x) (path_sum A xs goes_on) (path_sum A ys end))

  path_sum-left : (xs : List Access) (end : End) (t : S) → Leaves end → A.seq (path_sum A xs end) t ≡ path_sum A xs end
  path_sum-left [] goes_on t l = absurd l
  path_sum-left [] (goes_to n) t l = law.gone_l t
  path_sum-left [] returns t l = law.gone_l t
  path_sum-left (x ∷ xs) end t l = law.assoc (A.one x) (path_sum A xs end) t ∙ ap (λ s. A.seq (A.one x) s) (path_sum-left xs end t l)

  -- ---- the order

  below_join : (r s t : S) → A.join r s ≡ s → A.join r (A.join s t) ≡ A.join s t
  below_join r s t h = sym (law.join_assoc r s t) ∙ ap (λ x. A.join x t) h

  below_join_r : (r s t : S) → A.join r t ≡ t → A.join r (A.join s t) ≡ A.join s t
  below_join_r r s t h = ap (λ x. A.join r x) (law.join_comm s t) ∙ below_join r t s h ∙ law.join_comm t s

  seq_below : (r s u v : S) → A.join r s ≡ s → A.join u v ≡ v → A.join (A.seq r u) (A.seq s v) ≡ A.seq s v
  seq_below r s u v h k =
      let wider : A.join (A.seq r u) (A.seq s u) ≡ A.seq s u = sym (law.distr_r r s u) ∙ ap (λ x. A.seq x u) h in
      let longer : A.seq s v ≡ A.join (A.seq s u) (A.seq s v) = ap (λ x. A.seq s x) (sym k) ∙ law.distr_l s u v in
      ap (λ x. A.join (A.seq r u) x) longer ∙ below_join (A.seq r u) (A.seq s u) (A.seq s v) wider ∙ sym longer

  -- ---- each way to make paths

  pub joins_same : (P Q : List Access → End → Type 0) (s : S) → ((xs : List Access) (end : End) → P xs end → Q xs end)
      → ((xs : List Access) (end : End) → Q xs end → P xs end) → Joins A P s → Joins A Q s
  joins_same P Q s to from j = record { above = λ xs end q. j.above xs end (from xs end q); made = made_to s j.made }
    where
      made_to : (s : S) → Made A P s → Made A Q s
      made_to _ (one xs end q) = one xs end (to xs end q)
      made_to _ (joined s t a b) = joined s t (made_to s a) (made_to t b)

  made_after : (P Q : List Access → End → Type 0) (xs : List Access) → P xs goes_on → (t : S) → Made A Q t → Made A (Then P Q) (A.seq (path_sum A xs goes_on) t)
  made_after P Q xs h _ (one ys end q) = subst (Made A (Then P Q)) (path_sum-append xs ys end) (one (xs ++ ys) end (both xs ys end h q))
  made_after P Q xs h _ (joined s t a b) = subst (Made A (Then P Q)) (sym (law.distr_l (path_sum A xs goes_on) s t))
      (joined _ _ (made_after P Q xs h s a) (made_after P Q xs h t b))

  made_cut : (P Q : List Access → End → Type 0) (xs : List Access) (end : End) (t : S) → Leaves end → P xs end
      → Made A (Then P Q) (A.seq (path_sum A xs end) t)
  made_cut P Q xs end t l h = subst (Made A (Then P Q)) (sym (path_sum-left xs end t l)) (one xs end (cut xs end l h))

  made_then : (P Q : List Access → End → Type 0) (s t : S) → Made A P s → Made A Q t → Made A (Then P Q) (A.seq s t)
  made_then P Q _ t (one xs goes_on h) b = made_after P Q xs h t b
  made_then P Q _ t (one xs (goes_to n) h) b = made_cut P Q xs (goes_to n) t tt h
  made_then P Q _ t (one xs returns h) b = made_cut P Q xs returns t tt h
  made_then P Q _ t (joined r s a b) c = subst (Made A (Then P Q)) (sym (law.distr_r r s t)) (joined _ _ (made_then P Q r t a c) (made_then P Q s t b c))

  above_then : (P Q : List Access → End → Type 0) (s t : S) → Joins A P s → Joins A Q t → (xs : List Access) (end : End) → Then P Q xs end
      → A.join (path_sum A xs end) (A.seq s t) ≡ A.seq s t
  above_then P Q s t j k _ _ (both xs ys end h q) = ap (λ x. A.join x (A.seq s t)) (path_sum-append xs ys end)
      ∙ seq_below _ s _ t (j.above xs goes_on h) (k.above ys end q)
  above_then P Q s t j k _ _ (cut xs end l h) = ap (λ x. A.join x (A.seq s t)) (sym (path_sum-left xs end t l))
      ∙ seq_below _ s t t (j.above xs end h) (law.idem t)

  pub joins_then : (P Q : List Access → End → Type 0) (s t : S) → Joins A P s → Joins A Q t → Joins A (Then P Q) (A.seq s t)
  joins_then P Q s t j k = record { above = above_then P Q s t j k; made = made_then P Q s t j.made k.made }

  pub joins_either : (P Q R : List Access → End → Type 0) (s t : S) → ((xs : List Access) (end : End) → P xs end → R xs end)
      → ((xs : List Access) (end : End) → Q xs end → R xs end)
      → ((xs : List Access) (end : End) → R xs end → P xs end ⊎ Q xs end) → Joins A P s → Joins A Q t → Joins A R (A.join s t)
  joins_either P Q R s t left right split j k = record {
    above = λ xs end r. above_either xs end (split xs end r);
    made = joined s t (made_as P left s j.made) (made_as Q right t k.made);
  }
    where
      made_as : (P : List Access → End → Type 0) → ((xs : List Access) (end : End) → P xs end → R xs end) → (s : S) → Made A P s → Made A R s
      made_as P to _ (one xs end q) = one xs end (to xs end q)
      made_as P to _ (joined s t a b) = joined s t (made_as P to s a) (made_as P to t b)

      above_either : (xs : List Access) (end : End) → P xs end ⊎ Q xs end → A.join (path_sum A xs end) (A.join s t) ≡ A.join s t
      above_either xs end (inl h) = below_join (path_sum A xs end) s t (j.above xs end h)
      above_either xs end (inr h) = below_join_r (path_sum A xs end) s t (k.above xs end h)

  above_only : (xs ys : List Access) (end : End) → Only xs ys end → A.join (path_sum A ys end) (path_sum A xs goes_on) ≡ path_sum A xs goes_on
  above_only xs _ _ only = law.idem (path_sum A xs goes_on)

  pub joins_only : (xs : List Access) → Joins A (Only xs) (path_sum A xs goes_on)
  joins_only xs = record { above = above_only xs; made = one xs goes_on only }

  one_sum : (x : Access) → path_sum A (x ∷ []) goes_on ≡ A.one x
  one_sum x = law.unit_r (A.one x)

  pub joins_one : (x : Access) → Joins A (Only (x ∷ [])) (A.one x)
  joins_one x = subst (Joins A (Only (x ∷ []))) (one_sum x) (joins_only (x ∷ []))

  -- ---- turns

  abbrev power : ℕ → S → S
  power zero s = A.unit
  power (suc n) s = A.seq s (power n s)

  joins_power : (n : ℕ) (P : List Access → End → Type 0) (s : S) → Joins A P s → Joins A (Turns n P) (power n s)
  joins_power zero P s j = joins_only []
  joins_power (suc n) P s j = joins_then P (Turns n P) s (power n s) j (joins_power n P s j)

  power_many : (n : ℕ) (s : S) → power (suc (suc n)) s ≡ A.seq s s
  power_many zero s = ap (λ x. A.seq s x) (law.unit_r s)
  power_many (suc n) s = ap (λ x. A.seq s x) (power_many n s) ∙ law.cube s

  power_is : (n : ℕ) (s : S) → power n s ≡ turns_sum A n s
  power_is zero s = refl
  power_is (suc zero) s = law.unit_r s
  power_is (suc (suc n)) s = power_many n s ∙ sym (turns_many (suc (suc n)) A.unit s (A.seq s s) (omega arith))

  pub joins_turns : (n : ℕ) (P : List Access → End → Type 0) (s : S) → Joins A P s → Joins A (Turns n P) (turns_sum A n s)
  joins_turns n P s j = subst (Joins A (Turns n P)) (power_is n s) (joins_power n P s j)

  pub joins_gives : Joins A Gives A.gone
  joins_gives = record { above = above_gives; made = one [] returns gives }
    where
      above_gives : (xs : List Access) (end : End) → Gives xs end → A.join (path_sum A xs end) A.gone ≡ A.gone
      above_gives _ _ gives = law.idem A.gone

  -- ---- calls

  called_step : (x : Access) (seen : Bool) (s : S) (ys : List Access) → is_seen_outside x ≡ seen → A.called s ≡ path_sum A ys goes_on
      → A.called (A.seq (A.one x) s) ≡ path_sum A (cond seen (x ∷ ys) ys) goes_on
  called_step x true s ys e h = law.called_seen x s e ∙ ap (λ u. A.seq (A.one x) u) h
  called_step x false s ys e h = law.called_unseen x s e ∙ h

  -- the caller's sum of a path that returns
  pub called_path : (ys : List Access) → A.called (path_sum A ys returns) ≡ path_sum A (outside ys) goes_on
  called_path [] = law.called_gone
  called_path (y ∷ ys) = called_step y (is_seen_outside y) (path_sum A ys returns) (outside ys) refl (called_path ys)

  -- of a body of which each path returns
  module _ (P : List Access → End → Type 0) (each : (xs : List Access) (end : End) → P xs end → end ≡ returns) where
    abbrev Seen : List Access → Type 0
    Seen zs = (ys : List Access) × (zs ≡ outside ys) × P ys returns

    made_called : (s : S) → Made A P s → Made A (Going Seen) (A.called s)
    made_called _ (one xs end h) = by end (each xs end h) h
      where
        by : (end : End) → end ≡ returns → P xs end → Made A (Going Seen) (A.called (path_sum A xs end))
        by goes_on e k = cc
        by (goes_to n) e k = cc
        by returns e k = subst (Made A (Going Seen)) (sym (called_path xs)) (one (outside xs) goes_on (going (outside xs) (xs, refl, k)))
    made_called _ (joined s u a b) = subst (Made A (Going Seen)) (sym (law.called_join s u)) (joined _ _ (made_called s a) (made_called u b))

    pub joins_called : (s : S) → Joins A P s → Joins A (Going Seen) (A.called s)
    joins_called s j = record { above = above_called; made = made_called s j.made }
      where
        above_seen : (zs ys : List Access) → zs ≡ outside ys → P ys returns → A.join (path_sum A zs goes_on) (A.called s) ≡ A.called s
        above_seen zs ys e h =
            ap (λ z. A.join (path_sum A z goes_on) (A.called s)) e ∙ ap (λ u. A.join u (A.called s)) (sym (called_path ys))
            ∙ sym (law.called_join (path_sum A ys returns) s) ∙ ap A.called (j.above ys returns h)

        above_called : (zs : List Access) (end : End) → Going Seen zs end → A.join (path_sum A zs end) (A.called s) ≡ A.called s
        above_called _ _ (going zs h) = above_seen zs h.0 h.1 h.2

  -- ---- expressions

  exp_then : (P Q R : List Access → Type 0) (s t : S) → ((xs ys : List Access) → P xs → Q ys → R (xs ++ ys))
      → ((zs : List Access) → R zs → (xs : List Access) × (ys : List Access) × (zs ≡ xs ++ ys) × P xs × Q ys)
      → Joins A (Going P) s → Joins A (Going Q) t → Joins A (Going R) (A.seq s t)
  exp_then P Q R s t to from j k = joins_same (Then (Going P) (Going Q)) (Going R) (A.seq s t) there back (joins_then (Going P) (Going Q) s t j k)
    where
      there : (zs : List Access) (end : End) → Then (Going P) (Going Q) zs end → Going R zs end
      there _ _ (both _ _ _ (going xs h) (going ys q)) = going (xs ++ ys) (to xs ys h q)
      there _ _ (cut _ _ l (going _ _)) = absurd l

      back : (zs : List Access) (end : End) → Going R zs end → Then (Going P) (Going Q) zs end
      back _ _ (going zs r) = let f = from zs r in subst (λ x. Then (Going P) (Going Q) x goes_on) (sym f.2)
          (both f.0 f.1 goes_on (going f.0 f.3) (going f.1 f.4))

  module _ (fs : List CheckedFunction) (known : List S) (is : Known A fs known) where
    mutual
      pub joins_expression : (e : CheckedExpression) → CallsAreBelow (length fs) e → Joins A (Going (ExpressionPath fs e)) (expression_sum known A e)
      joins_expression (t.number n) calls = joins_same (Only []) (Going (ExpressionPath fs (t.number n))) A.unit there back (joins_only [])
        where
          there : (zs : List Access) (end : End) → Only [] zs end → Going (ExpressionPath fs (t.number n)) zs end
          there _ _ only = going [] (p.number n)

          back : (zs : List Access) (end : End) → Going (ExpressionPath fs (t.number n)) zs end → Only [] zs end
          back _ _ (going _ (p.number _)) = only
      joins_expression (t.long_number n) calls = joins_same (Only []) (Going (ExpressionPath fs (t.long_number n))) A.unit there back (joins_only [])
        where
          there : (zs : List Access) (end : End) → Only [] zs end → Going (ExpressionPath fs (t.long_number n)) zs end
          there _ _ only = going [] (p.long_number n)

          back : (zs : List Access) (end : End) → Going (ExpressionPath fs (t.long_number n)) zs end → Only [] zs end
          back _ _ (going _ (p.long_number _)) = only
      joins_expression t.sense calls = joins_same (Only []) (Going (ExpressionPath fs t.sense)) A.unit there back (joins_only [])
        where
          there : (zs : List Access) (end : End) → Only [] zs end → Going (ExpressionPath fs t.sense) zs end
          there _ _ only = going [] p.sense

          back : (zs : List Access) (end : End) → Going (ExpressionPath fs t.sense) zs end → Only [] zs end
          back _ _ (going _ p.sense) = only
      joins_expression t.next_event calls = joins_same (Only []) (Going (ExpressionPath fs t.next_event)) A.unit there back (joins_only [])
        where
          there : (zs : List Access) (end : End) → Only [] zs end → Going (ExpressionPath fs t.next_event) zs end
          there _ _ only = going [] p.next_event

          back : (zs : List Access) (end : End) → Going (ExpressionPath fs t.next_event) zs end → Only [] zs end
          back _ _ (going _ p.next_event) = only
      joins_expression (t.unary op a) calls = joins_same (Going (ExpressionPath fs a)) (Going (ExpressionPath fs (t.unary op a))) _ there back
          (joins_expression a calls)
        where
          there : (zs : List Access) (end : End) → Going (ExpressionPath fs a) zs end → Going (ExpressionPath fs (t.unary op a)) zs end
          there _ _ (going xs h) = going xs (p.unary op a xs h)

          back : (zs : List Access) (end : End) → Going (ExpressionPath fs (t.unary op a)) zs end → Going (ExpressionPath fs a) zs end
          back _ _ (going _ (p.unary _ _ xs h)) = going xs h
      joins_expression (t.shift op a count) calls =
          joins_same (Going (ExpressionPath fs a)) (Going (ExpressionPath fs (t.shift op a count))) _ there back (joins_expression a calls)
        where
          there : (zs : List Access) (end : End) → Going (ExpressionPath fs a) zs end → Going (ExpressionPath fs (t.shift op a count)) zs end
          there _ _ (going xs h) = going xs (p.shift op a count xs h)

          back : (zs : List Access) (end : End) → Going (ExpressionPath fs (t.shift op a count)) zs end → Going (ExpressionPath fs a) zs end
          back _ _ (going _ (p.shift _ _ _ xs h)) = going xs h
      joins_expression (t.name n) calls = joins_same (Only (read n ∷ [])) (Going (ExpressionPath fs (t.name n))) (A.one (read n)) there back
          (joins_one (read n))
        where
          there : (zs : List Access) (end : End) → Only (read n ∷ []) zs end → Going (ExpressionPath fs (t.name n)) zs end
          there _ _ only = going (read n ∷ []) (p.name n)

          back : (zs : List Access) (end : End) → Going (ExpressionPath fs (t.name n)) zs end → Only (read n ∷ []) zs end
          back _ _ (going _ (p.name _)) = only
      joins_expression (t.element n e) calls = joins_same (Then (Going (ExpressionPath fs e)) (Only (read n ∷ [])))
          (Going (ExpressionPath fs (t.element n e))) _ there back
          (joins_then _ _ _ _ (joins_expression e calls) (joins_one (read n)))
        where
          there : (zs : List Access) (end : End) → Then (Going (ExpressionPath fs e)) (Only (read n ∷ [])) zs end
              → Going (ExpressionPath fs (t.element n e)) zs end
          there _ _ (both _ _ _ (going xs h) only) = going (xs ++ read n ∷ []) (p.element n e xs h)
          there _ _ (cut _ _ l (going _ _)) = absurd l

          back : (zs : List Access) (end : End) → Going (ExpressionPath fs (t.element n e)) zs end
              → Then (Going (ExpressionPath fs e)) (Only (read n ∷ [])) zs end
          back _ _ (going _ (p.element _ _ xs h)) = both xs (read n ∷ []) goes_on (going xs h) only
      joins_expression (t.binary op a b) calls = exp_then (ExpressionPath fs a) (ExpressionPath fs b) (ExpressionPath fs (t.binary op a b))
          (expression_sum known A a)
          (expression_sum known A b) (λ xs ys h k. p.binary op a b xs ys h k) back (joins_expression a calls.0) (joins_expression b calls.1)
        where
          back : (zs : List Access) → ExpressionPath fs (t.binary op a b) zs → (xs : List Access) × (ys : List Access) × (zs ≡ xs ++ ys)
              × ExpressionPath fs a xs
              × ExpressionPath fs b ys
          back _ (p.binary _ _ _ xs ys h k) = (xs, ys, refl, h, k)
      joins_expression (t.short_circuit op a b) calls =
          joins_either (Going (ExpressionPath fs a)) (Then (Going (ExpressionPath fs a)) (Going (ExpressionPath fs b)))
          (Going (ExpressionPath fs (t.short_circuit op a b))) _ _ alone with_right split (joins_expression a calls.0)
          (joins_then _ _ _ _ (joins_expression a calls.0) (joins_expression b calls.1))
        where
          alone : (zs : List Access) (end : End) → Going (ExpressionPath fs a) zs end → Going (ExpressionPath fs (t.short_circuit op a b)) zs end
          alone _ _ (going xs h) = going xs (p.left_alone op a b xs h)

          with_right : (zs : List Access) (end : End) → Then (Going (ExpressionPath fs a)) (Going (ExpressionPath fs b)) zs end
              → Going (ExpressionPath fs (t.short_circuit op a b)) zs end
          with_right _ _ (both _ _ _ (going xs h) (going ys k)) = going (xs ++ ys) (p.both_sides op a b xs ys h k)
          with_right _ _ (cut _ _ l (going _ _)) = absurd l

          split : (zs : List Access) (end : End) → Going (ExpressionPath fs (t.short_circuit op a b)) zs end → Going (ExpressionPath fs a) zs end
              ⊎ Then (Going (ExpressionPath fs a)) (Going (ExpressionPath fs b)) zs end
          split _ _ (going _ (p.left_alone _ _ _ xs h)) = inl (going xs h)
          split _ _ (going _ (p.both_sides _ _ _ xs ys h k)) = inr (both xs ys goes_on (going xs h) (going ys k))
      joins_expression (t.call f values) calls = exp_then (ValuesPath fs values) (CallPath fs f.function) (ExpressionPath fs (t.call f values))
          (values_sum known A values) (call_sum known A f.function) to back (joins_values values calls.1) (is f.function calls.0)
        where
          to : (xs zs : List Access) → ValuesPath fs values xs → CallPath fs f.function zs → ExpressionPath fs (t.call f values) (xs ++ zs)
          to xs zs h (g, ys, at, e, body) = subst (λ u. ExpressionPath fs (t.call f values) (xs ++ u)) (sym e) (p.call f g values xs ys at h body)

          back : (zs : List Access) → ExpressionPath fs (t.call f values) zs → (xs : List Access) × (ys : List Access) × (zs ≡ xs ++ ys)
              × ValuesPath fs values xs × CallPath fs f.function ys
          back _ (p.call _ g _ xs ys at h body) = (xs, outside ys, refl, h, (g, ys, at, refl, body))

      pub joins_values : (values : CheckedValues) → ValuesCallBelow (length fs) values → Joins A (Going (ValuesPath fs values)) (values_sum known A values)
      joins_values t.no_value calls = joins_same (Only []) (Going (ValuesPath fs t.no_value)) A.unit there back (joins_only [])
        where
          there : (zs : List Access) (end : End) → Only [] zs end → Going (ValuesPath fs t.no_value) zs end
          there _ _ only = going [] p.no_value

          back : (zs : List Access) (end : End) → Going (ValuesPath fs t.no_value) zs end → Only [] zs end
          back _ _ (going _ p.no_value) = only
      joins_values (t.value e more) calls = exp_then (ExpressionPath fs e) (ValuesPath fs more) (ValuesPath fs (t.value e more)) (expression_sum known A e)
          (values_sum known A more) (λ xs ys h k. p.value e more xs ys h k) back (joins_expression e calls.0) (joins_values more calls.1)
        where
          back : (zs : List Access) → ValuesPath fs (t.value e more) zs → (xs : List Access) × (ys : List Access) × (zs ≡ xs ++ ys) × ExpressionPath fs e xs
              × ValuesPath fs more ys
          back _ (p.value _ _ xs ys h k) = (xs, ys, refl, h, k)

    -- ---- statements

    turned : (x : VariableName) (body : CheckedBlock) → Joins A (BlockPath fs body) (block_sum known A body)
        → Joins A (Turned fs x body) (A.seq (block_sum known A body) (A.one (write x)))
    unfolding Turned
    turned x body j = joins_then (BlockPath fs body) (Only (write x ∷ [])) _ _ j (joins_one (write x))

    turns_there : (x : VariableName) (n : ℕ) (body : CheckedBlock) (zs : List Access) (end : End) → Turns n (Turned fs x body) zs end
        → TurnsPath fs x n body zs end
    unfolding Turned
    turns_there x zero body _ _ only = p.over x body
    turns_there x (suc n) body _ _ (both _ ys end (both xs _ _ h only) k) =
        subst (λ zs. TurnsPath fs x (suc n) body zs end) (sym (append_assoc xs (write x ∷ []) ys)) (p.turn x n body xs ys end h (turns_there x n body ys end k))
    turns_there x (suc n) body _ _ (both _ _ _ (cut _ _ l _) _) = absurd l
    turns_there x (suc n) body _ _ (cut _ _ l (cut xs end m h)) = p.cut x n body xs end m h
    turns_there x (suc n) body _ _ (cut _ _ l (both _ _ _ _ only)) = absurd l

    turns_back : (x : VariableName) (n : ℕ) (body : CheckedBlock) (zs : List Access) (end : End) → TurnsPath fs x n body zs end
        → Turns n (Turned fs x body) zs end
    unfolding Turned
    turns_back x _ body _ _ (p.over _ _) = only
    turns_back x _ body _ _ (p.turn _ n _ xs ys end h k) =
        subst (λ zs. Turns (suc n) (Turned fs x body) zs end) (append_assoc xs (write x ∷ []) ys)
        (both (xs ++ write x ∷ []) ys end (both xs (write x ∷ []) goes_on h only) (turns_back x n body ys end k))
    turns_back x _ body _ _ (p.cut _ n _ xs end m h) = cut xs end m (cut xs end m h)

    mutual
      pub joins_statement : (a : CheckedStatement) → StatementCallsBelow (length fs) a → Joins A (StatementPath fs a) (statement_sum known A a)
      joins_statement (t.declare of x None) calls = joins_same (Only (unset x ∷ [])) (StatementPath fs (t.declare of x None)) _ there back (joins_one (unset x))
        where
          there : (zs : List Access) (end : End) → Only (unset x ∷ []) zs end → StatementPath fs (t.declare of x None) zs end
          there _ _ only = p.declare_unset of x

          back : (zs : List Access) (end : End) → StatementPath fs (t.declare of x None) zs end → Only (unset x ∷ []) zs end
          back _ _ (p.declare_unset _ _) = only
      joins_statement (t.declare of x (Some e)) calls =
          joins_same (Then (Going (ExpressionPath fs e)) (Only (write x ∷ []))) (StatementPath fs (t.declare of x (Some e)))
          _ there back (joins_then _ _ _ _ (joins_expression e calls) (joins_one (write x)))
        where
          there : (zs : List Access) (end : End) → Then (Going (ExpressionPath fs e)) (Only (write x ∷ [])) zs end
              → StatementPath fs (t.declare of x (Some e)) zs end
          there _ _ (both _ _ _ (going xs h) only) = p.declare_set of x e xs h
          there _ _ (cut _ _ l (going _ _)) = absurd l

          back : (zs : List Access) (end : End) → StatementPath fs (t.declare of x (Some e)) zs end
              → Then (Going (ExpressionPath fs e)) (Only (write x ∷ [])) zs end
          back _ _ (p.declare_set _ _ _ xs h) = both xs (write x ∷ []) goes_on (going xs h) only
      joins_statement (t.assign x e) calls = joins_same (Then (Going (ExpressionPath fs e)) (Only (write x ∷ []))) (StatementPath fs (t.assign x e)) _ there
          back
          (joins_then _ _ _ _ (joins_expression e calls) (joins_one (write x)))
        where
          there : (zs : List Access) (end : End) → Then (Going (ExpressionPath fs e)) (Only (write x ∷ [])) zs end → StatementPath fs (t.assign x e) zs end
          there _ _ (both _ _ _ (going xs h) only) = p.assign x e xs h
          there _ _ (cut _ _ l (going _ _)) = absurd l

          back : (zs : List Access) (end : End) → StatementPath fs (t.assign x e) zs end → Then (Going (ExpressionPath fs e)) (Only (write x ∷ [])) zs end
          back _ _ (p.assign _ _ xs h) = both xs (write x ∷ []) goes_on (going xs h) only
      joins_statement (t.store a i e) calls =
          joins_same (Then (Going (ExpressionPath fs i)) (Then (Going (ExpressionPath fs e)) (Only (write a ∷ [])))) (StatementPath fs (t.store a i e)) _
          there back
          (joins_then _ _ _ _ (joins_expression i calls.0) (joins_then _ _ _ _ (joins_expression e calls.1) (joins_one (write a))))
        where
          there : (zs : List Access) (end : End) → Then (Going (ExpressionPath fs i)) (Then (Going (ExpressionPath fs e)) (Only (write a ∷ []))) zs end
              → StatementPath fs (t.store a i e) zs end
          there _ _ (both _ _ _ (going xs h) (both _ _ _ (going ys k) only)) = p.store a i e xs ys h k
          there _ _ (both _ _ _ _ (cut _ _ l (going _ _))) = absurd l
          there _ _ (cut _ _ l (going _ _)) = absurd l

          back : (zs : List Access) (end : End) → StatementPath fs (t.store a i e) zs end
              → Then (Going (ExpressionPath fs i)) (Then (Going (ExpressionPath fs e)) (Only (write a ∷ []))) zs end
          back _ _ (p.store _ _ _ xs ys h k) = both xs (ys ++ write a ∷ []) goes_on (going xs h) (both ys (write a ∷ []) goes_on (going ys k) only)
      joins_statement (t.choose c) calls = joins_same (ChoicePath fs c) (StatementPath fs (t.choose c)) _ (λ zs end h. p.choose c zs end h) back
          (joins_choice c calls)
        where
          back : (zs : List Access) (end : End) → StatementPath fs (t.choose c) zs end → ChoicePath fs c zs end
          back _ _ (p.choose _ _ _ h) = h
      joins_statement (t.loop x from tested below stepped body) calls =
          joins_same (Then (Only (write x ∷ [])) (Turns (below - from) (Turned fs x body))) (StatementPath fs (t.loop x from tested below stepped body)) _
          there back
          (joins_then _ _ _ _ (joins_one (write x)) (joins_turns (below - from) (Turned fs x body) _ (turned x body (joins_block body calls))))
        where
          there : (zs : List Access) (end : End) → Then (Only (write x ∷ [])) (Turns (below - from) (Turned fs x body)) zs end
              → StatementPath fs (t.loop x from tested below stepped body) zs end
          there _ _ (both _ ys end only h) = p.loop x from tested below stepped body ys end (turns_there x (below - from) body ys end h)
          there _ _ (cut _ _ l only) = absurd l

          back : (zs : List Access) (end : End) → StatementPath fs (t.loop x from tested below stepped body) zs end
              → Then (Only (write x ∷ [])) (Turns (below - from) (Turned fs x body)) zs end
          back _ _ (p.loop _ _ _ _ _ _ ys end h) = both (write x ∷ []) ys end only (turns_back x (below - from) body ys end h)
      joins_statement (t.emit e) calls = joins_same (Going (ExpressionPath fs e)) (StatementPath fs (t.emit e)) _ there back (joins_expression e calls)
        where
          there : (zs : List Access) (end : End) → Going (ExpressionPath fs e) zs end → StatementPath fs (t.emit e) zs end
          there _ _ (going xs h) = p.emit e xs h

          back : (zs : List Access) (end : End) → StatementPath fs (t.emit e) zs end → Going (ExpressionPath fs e) zs end
          back _ _ (p.emit _ xs h) = going xs h
      joins_statement (t.give at e) calls = joins_same (Then (Going (ExpressionPath fs e)) Gives) (StatementPath fs (t.give at e)) _ there back
          (joins_then _ _ _ _ (joins_expression e calls) joins_gives)
        where
          there : (zs : List Access) (end : End) → Then (Going (ExpressionPath fs e)) Gives zs end → StatementPath fs (t.give at e) zs end
          there _ _ (both _ _ _ (going xs h) gives) = subst (λ zs. StatementPath fs (t.give at e) zs returns) (sym (append-nil xs)) (p.give at e xs h)
          there _ _ (cut _ _ l (going _ _)) = absurd l

          back : (zs : List Access) (end : End) → StatementPath fs (t.give at e) zs end → Then (Going (ExpressionPath fs e)) Gives zs end
          back _ _ (p.give _ _ xs h) = subst (λ zs. Then (Going (ExpressionPath fs e)) Gives zs returns) (append-nil xs)
              (both xs [] returns (going xs h) gives)
      joins_statement (t.transition at n) calls = record { above = above_transition; made = one [] (goes_to n) (p.transition at n) }
        where
          above_transition : (zs : List Access) (end : End) → StatementPath fs (t.transition at n) zs end → A.join (path_sum A zs end) A.gone ≡ A.gone
          above_transition _ _ (p.transition _ _) = law.idem A.gone

      pub joins_choice : (c : CheckedChoice) → ChoiceCallsBelow (length fs) c → Joins A (ChoicePath fs c) (choice_sum known A c)
      joins_choice t.nothing calls = joins_same (Only []) (ChoicePath fs t.nothing) _ there back (joins_only [])
        where
          there : (zs : List Access) (end : End) → Only [] zs end → ChoicePath fs t.nothing zs end
          there _ _ only = p.nothing

          back : (zs : List Access) (end : End) → ChoicePath fs t.nothing zs end → Only [] zs end
          back _ _ p.nothing = only
      joins_choice (t.otherwise b) calls = joins_same (BlockPath fs b) (ChoicePath fs (t.otherwise b)) _ (λ zs end h. p.otherwise b zs end h) back
          (joins_block b calls)
        where
          back : (zs : List Access) (end : End) → ChoicePath fs (t.otherwise b) zs end → BlockPath fs b zs end
          back _ _ (p.otherwise _ _ _ h) = h
      joins_choice (t.test e b more) calls = joins_same (Then (Going (ExpressionPath fs e)) (Or fs b more)) (ChoicePath fs (t.test e b more)) _ there back
          (joins_then _ _ _ _ (joins_expression e calls.0)
          (joins_either (BlockPath fs b) (ChoicePath fs more) (Or fs b more) _ _ (λ zs end h. inl h) (λ zs end h. inr h)
          (λ zs end h. h) (joins_block b calls.1.0) (joins_choice more calls.1.1)))
        where
          there : (zs : List Access) (end : End) → Then (Going (ExpressionPath fs e)) (Or fs b more) zs end → ChoicePath fs (t.test e b more) zs end
          there _ _ (both _ ys end (going xs h) (inl k)) = p.taken e b more xs ys end h k
          there _ _ (both _ ys end (going xs h) (inr k)) = p.passed e b more xs ys end h k
          there _ _ (cut _ _ l (going _ _)) = absurd l

          back : (zs : List Access) (end : End) → ChoicePath fs (t.test e b more) zs end → Then (Going (ExpressionPath fs e)) (Or fs b more) zs end
          back _ _ (p.taken _ _ _ xs ys end h k) = both xs ys end (going xs h) (inl k)
          back _ _ (p.passed _ _ _ xs ys end h k) = both xs ys end (going xs h) (inr k)

      -- a block's sum joins the sums of its paths
      pub joins_block : (b : CheckedBlock) → BlockCallsBelow (length fs) b → Joins A (BlockPath fs b) (block_sum known A b)
      joins_block t.end calls = joins_same (Only []) (BlockPath fs t.end) _ there back (joins_only [])
        where
          there : (zs : List Access) (end : End) → Only [] zs end → BlockPath fs t.end zs end
          there _ _ only = p.finished

          back : (zs : List Access) (end : End) → BlockPath fs t.end zs end → Only [] zs end
          back _ _ p.finished = only
      joins_block (t.step a more) calls = joins_same (Then (StatementPath fs a) (BlockPath fs more)) (BlockPath fs (t.step a more)) _ there back
          (joins_then _ _ _ _ (joins_statement a calls.0) (joins_block more calls.1))
        where
          there : (zs : List Access) (end : End) → Then (StatementPath fs a) (BlockPath fs more) zs end → BlockPath fs (t.step a more) zs end
          there _ _ (both xs ys end h k) = p.step a more xs ys end h k
          there _ _ (cut xs end l h) = p.stopped a more xs end l h

          back : (zs : List Access) (end : End) → BlockPath fs (t.step a more) zs end → Then (StatementPath fs a) (BlockPath fs more) zs end
          back _ _ (p.step _ _ xs ys end h k) = both xs ys end h k
          back _ _ (p.stopped _ _ xs end l h) = cut xs end l h
