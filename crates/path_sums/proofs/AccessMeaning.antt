-- What the sum over one variable's summary says of the paths.
use Rattle.std.proofs.Common.{◌≡◌, Bool, true, false, ◌||◌, List, [], ◌∷◌, refl, ap, sym, ◌∙◌, if◌then◌else◌, ◌↔◌, length, None, Some}
use Rattle.std.specs.Prelude.{IsTrue}
use Rattle.std.proofs.lemmas.Bool.{and_parts, and_from, not-false, not_from_true}
use Rattle.task_ast.specs.declared.names.Variable.{Variable}
use Rattle.task_ast.specs.Calls.{BlockCallsBelow}
use Rattle.task_ast.specs.Paths.{CheckedBlock, CheckedFunction, Access, read, write, unset, End, goes_on, goes_to, returns, BlockPath}
use Rattle.path_sums.specs.Sums.{block_sum}
use Rattle.path_sums.specs.Known.{AreCallSums}
use Rattle.path_sums.specs.Access.{is_same, writes, writes_first, SomePath, SomePathNot, IsPrivate, summary, summary_seq, summary_join, summary_unit}
use Rattle.path_sums.specs.Access.{summary_read, summary_write, private_of}
use Rattle.path_sums.specs.declared.access.AccessSummary.{AccessSummary}
use Rattle.path_sums.proofs.Joins.{path_sum, Joins, joins_block}
use Rattle.path_sums.proofs.Calls.{known_sums}
use Rattle.path_sums.proofs.Bits.{found, holds}
use Rattle.path_sums.proofs.AccessLaws.{summary_law}
use Rattle.path_sums.proofs.Taut.{agree}

abbrev amiss : AccessSummary → Bool
amiss s = s.exposed || (s.transitions_untouched || s.untouched)

abbrev not : Bool → Bool
not true = false
not false = true

writes_read : (b : Bool) (s : AccessSummary) → (summary_seq (if b then summary_read else summary_unit) s).writes ≡ s.writes
writes_read true s = refl
writes_read false s = refl

writes_write : (b : Bool) (s : AccessSummary) → (summary_seq (if b then summary_write else summary_unit) s).writes ≡ (if b then true else s.writes)
writes_write true s = refl
writes_write false s = refl

writes_is : (x : Variable) (xs : List Access) (end : End) → (path_sum (summary x) xs end).writes ≡ writes x xs
unfolding summary
writes_is x [] goes_on = refl
writes_is x [] (goes_to _) = refl
writes_is x [] returns = refl
writes_is x (read n ∷ xs) end = writes_read (is_same x n.variable) (path_sum (summary x) xs end) ∙ writes_is x xs end
writes_is x (write n ∷ xs) end = writes_write (is_same x n.variable) (path_sum (summary x) xs end)
    ∙ ap (λ b. if is_same x n.variable then true else b) (writes_is x xs end)
writes_is x (unset n ∷ xs) end = writes_is x xs end

amiss_read : (b : Bool) (s : AccessSummary) → not (amiss (summary_seq (if b then summary_read else summary_unit) s)) ≡ (if b then false else not (amiss s))
amiss_read true s = refl
amiss_read false s = refl

amiss_write : (b : Bool) (s : AccessSummary) → not (amiss (summary_seq (if b then summary_write else summary_unit) s)) ≡ (if b then true else not (amiss s))
amiss_write true s = refl
amiss_write false s = refl

amiss_is : (x : Variable) (xs : List Access) (end : End) → not (amiss (path_sum (summary x) xs end)) ≡ writes_first x xs
unfolding summary
amiss_is x [] goes_on = refl
amiss_is x [] (goes_to _) = refl
amiss_is x [] returns = refl
amiss_is x (read n ∷ xs) end = amiss_read (is_same x n.variable) (path_sum (summary x) xs end)
    ∙ ap (λ b. if is_same x n.variable then false else b) (amiss_is x xs end)
amiss_is x (write n ∷ xs) end = amiss_write (is_same x n.variable) (path_sum (summary x) xs end)
    ∙ ap (λ b. if is_same x n.variable then true else b) (amiss_is x xs end)
amiss_is x (unset n ∷ xs) end = amiss_is x xs end

amiss_join : (s t : AccessSummary) → amiss (summary_join s t) ≡ (amiss s || amiss t)
amiss_join s t =
    agree 6 (λ a b c d e f. (a || b) || ((c || d) || (e || f)))
    (λ a b c d e f. (a || (c || e)) || (b || (d || f))) refl s.exposed t.exposed s.transitions_untouched t.transitions_untouched s.untouched t.untouched

-- a text without calls
pub no_calls : (x : Variable) → AreCallSums (summary x) [] []
no_calls x = record { sums = refl; calls = tt; returning = λ k f at. let no : None ≡ Some f = at in cc }

module _ (x : Variable) (fs : List CheckedFunction) (known : List AccessSummary) (is : AreCallSums (summary x) fs known) (b : CheckedBlock)
    (calls : BlockCallsBelow (length fs) b) where
  sum : Joins (summary x) (BlockPath fs b) (block_sum known (summary x) b)
  sum = joins_block (summary x) (summary_law x) fs known (known_sums (summary x) (summary_law x) fs known is) b calls

  pub some_writes : (block_sum known (summary x) b).writes ≡ true → SomePath fs b (writes x)
  unfolding summary
  some_writes h = let f = found (summary x) (λ s. s.writes) (λ s t. refl) (BlockPath fs b) _ sum h in (f.0, f.1, f.2, sym (writes_is x f.0 f.1) ∙ f.3)

  pub writes_some : SomePath fs b (writes x) → (block_sum known (summary x) b).writes ≡ true
  unfolding summary
  writes_some f = holds (summary x) (λ s. s.writes) (λ s t. refl) (BlockPath fs b) _ sum f.0 f.1 f.2 (writes_is x f.0 f.1 ∙ f.3)

  some_amiss : amiss (block_sum known (summary x) b) ≡ true → SomePathNot fs b (writes_first x)
  unfolding summary
  some_amiss h = let f = found (summary x) amiss amiss_join (BlockPath fs b) _ sum h in (f.0, f.1, f.2, sym (amiss_is x f.0 f.1) ∙ not_from_true _ f.3)

  amiss_some : SomePathNot fs b (writes_first x) → amiss (block_sum known (summary x) b) ≡ true
  unfolding summary
  amiss_some f = holds (summary x) amiss amiss_join (BlockPath fs b) _ sum f.0 f.1 f.2 (not-false _ (amiss_is x f.0 f.1 ∙ f.3))

  pub private_is : private_of (block_sum known (summary x) b) ≡ true → IsPrivate fs b x
  private_is h = (some_writes (and_parts _ _ h).0, some_amiss (and_parts _ _ h).1)

  pub is_private_of : IsPrivate fs b x → private_of (block_sum known (summary x) b) ≡ true
  is_private_of h = and_from _ _ (writes_some h.0) (amiss_some h.1)

bit_is : (P : Type 0) (a b : Bool) → a ≡ b → (b ≡ true → P) → (P → b ≡ true) → IsTrue a ↔ P
bit_is P a b e to from = (λ h. to (sym e ∙ h), λ h. e ∙ from h)

module _ (x : Variable) (known : List AccessSummary) (b : CheckedBlock) (s : AccessSummary) (e : s ≡ block_sum known (summary x) b)
    (fs : List CheckedFunction) (is : AreCallSums (summary x) fs known) (calls : BlockCallsBelow (length fs) b) where
  pub writes_exact : IsTrue s.writes ↔ SomePath fs b (writes x)
  writes_exact = bit_is (SomePath fs b (writes x)) _ _ (ap (λ s. s.writes) e) (some_writes x fs known is b calls) (writes_some x fs known is b calls)

  pub private_exact : (r : Bool) → r ≡ private_of s → IsTrue r ↔ IsPrivate fs b x
  private_exact r h = bit_is (IsPrivate fs b x) _ _ (h ∙ ap private_of e) (private_is x fs known is b calls) (is_private_of x fs known is b calls)
