-- The summaries that a loop over the functions has made.
use Rattle.std.proofs.Common.{◌≡◌, ℕ, zero, suc, ◌+◌, ◌<◌, ◌≤◌, List, [], ◌∷◌, ◌++◌, length, take, map, get_or, Some, None, refl, ap, sym, ◌∙◌, subst, arith}
use Rattle.std.specs.Prelude.{slice_get, All}
use Rattle.std.proofs.lemmas.List.{map-append, take_more, take_all, length_push, length-map}
use Rattle.std.proofs.lemmas.Option.{same_Some}
use Rattle.task_ast.specs.declared.FunctionDeclaration.{FunctionDeclaration}
use Rattle.task_ast.specs.declared.TaskDeclaration.{TaskDeclaration}
use Rattle.task_ast.specs.declared.names.VariableName.{VariableName}
use Rattle.task_ast.specs.declared.names.TaskName.{TaskName}
use Rattle.task_ast.specs.declared.names.FunctionName.{FunctionName}
use Rattle.task_ast.specs.View.{function_of, task_of}
use Rattle.task_ast.proofs.Interface.{answers_append, answers_length}
use Rattle.cost_bound.specs.Summary.{Summary}
use Rattle.cost_bound.specs.Summaries.{function_summary, function_summaries}
use Rattle.cost_bound.specs.Machine.{summary_of, known_of, IsSame, AreSame}
use Rattle.cost_bound.specs.declared.function_summaries.FunctionSummary.{FunctionSummary}
use Rattle.cost_bound.proofs.Called.{known_length}
use Rattle.cost_bound.specs.Allowance.{FewEmits}
use Rattle.cost_bound.proofs.Same.{function_same, few_same}

abbrev Declared : Type 0
Declared = FunctionDeclaration VariableName TaskName FunctionName

pub none_same : AreSame [] []
none_same = record { count = refl; each = λ k s t x y. let no : None ≡ Some s = x in cc }

push_same : (as' bs : List Summary) (a b : Summary) → AreSame as' bs → IsSame a b → AreSame (as' ++ a ∷ []) (bs ++ b ∷ [])
push_same as' bs a b h is = record {
  count = let c = h.count in let x = length_push as' a in let y = length_push bs b in omega (arith, c, x, y);
  each = by as' bs h.count h.each;
}
  where
    by : (as' bs : List Summary) → length as' ≡ length bs → ((k : ℕ) (s t : Summary) → slice_get as' k ≡ Some s → slice_get bs k ≡ Some t → IsSame s t)
        → (k : ℕ) (s t : Summary) → slice_get (as' ++ a ∷ []) k ≡ Some s → slice_get (bs ++ b ∷ []) k ≡ Some t → IsSame s t
    by [] [] count each zero s t x y = subst (λ u. IsSame u t) (same_Some a s x) (subst (λ u. IsSame a u) (same_Some b t y) is)
    by [] [] count each (suc k) s t x y = let no : None ≡ Some s = x in cc
    by [] (d ∷ bs) count each k s t x y = absurd (omega (arith, count))
    by (c ∷ as') [] count each k s t x y = absurd (omega (arith, count))
    by (c ∷ as') (d ∷ bs) count each zero s t x y = each zero s t x y
    by (c ∷ as') (d ∷ bs) count each (suc k) s t x y = by as' bs (omega (arith, count)) (λ k s t x y. each (suc k) s t x y) k s t x y

same_then : (r s t : Summary) → IsSame r s → IsSame s t → IsSame r t
same_then r s t h k = record {
  cycles = h.cycles ∙ k.cycles;
  words = h.words ∙ k.words;
  emits = h.emits ∙ k.emits;
  stores = λ i l. h.stores i l ∙ k.stores i l;
  assigns = λ i l. h.assigns i l ∙ k.assigns i l;
  reaches = λ i l. h.reaches i l ∙ k.reaches i l;
  depth = h.depth ∙ k.depth;
}

-- one more function
pub one_known : (fs : List Declared) (i : ℕ) (f : Declared) (kept more : List FunctionSummary) (next : FunctionSummary) → i < length fs → f ≡ get_or fs i f
    → length kept ≤ 64 → AreSame (known_of kept) (function_summaries (map function_of (take i fs)))
    → IsSame (summary_of next) (function_summary (known_of kept) (function_of f)) → more ≡ kept ++ next ∷ []
    → AreSame (known_of more) (function_summaries (map function_of (take (i + 1) fs)))
one_known fs i f kept more next lt at few h is e =
    subst (λ x. AreSame x (function_summaries (map function_of (take (i + 1) fs)))) (sym (ap known_of e ∙ map-append summary_of kept (next ∷ [])))
    (subst (AreSame (known_of kept ++ summary_of next ∷ [])) (sym all)
    (push_same (known_of kept) (function_summaries (map function_of (take i fs))) (summary_of next) _ h
    (same_then _ _ _ is (function_same (known_of kept) (function_summaries (map function_of (take i fs))) (let n = known_length kept in omega (arith, n, few)) h
    (function_of f)))))
  where
    all : function_summaries (map function_of (take (i + 1) fs))
        ≡ function_summaries (map function_of (take i fs)) ++ function_summary (function_summaries (map function_of (take i fs))) (function_of f) ∷ []
    all = ap (λ gs. function_summaries (map function_of gs)) (take_more fs i f lt)
        ∙ ap function_summaries (map-append function_of (take i fs) (get_or fs i f ∷ []))
        ∙ answers_append function_summary [] (map function_of (take i fs)) (function_of (get_or fs i f) ∷ [])
        ∙ ap (λ g. function_summaries (map function_of (take i fs)) ++ function_summary (function_summaries (map function_of (take i fs))) (function_of g) ∷ [])
        (sym at)

pub all_known : (fs : List Declared) (i : ℕ) (kept : List FunctionSummary) → length fs ≤ i
    → AreSame (known_of kept) (function_summaries (map function_of (take i fs))) → AreSame (known_of kept) (function_summaries (map function_of fs))
all_known fs i kept past h = subst (λ gs. AreSame (known_of kept) (function_summaries (map function_of gs))) (take_all i fs past) h

abbrev DeclaredTask : Type 0
DeclaredTask = TaskDeclaration VariableName TaskName FunctionName

module _ (fs given : List Declared) (ts slice : List DeclaredTask) (kept items : List FunctionSummary) where
  -- no task counts too many emits, as the summaries that were made tell
  pub few_emits_known : length fs ≤ 64 → given ≡ fs → slice ≡ ts → items ≡ kept → AreSame (known_of kept) (function_summaries (map function_of given))
      → All (FewEmits (known_of items)) (map task_of slice) → All (FewEmits (function_summaries (map function_of fs))) (map task_of ts)
  few_emits_known few e f g same all =
      let here : AreSame (known_of kept) (function_summaries (map function_of fs)) =
      subst (λ gs. AreSame (known_of kept) (function_summaries (map function_of gs))) e same in
      let count : length (function_summaries (map function_of fs)) ≡ length fs =
      answers_length function_summary [] (map function_of fs) ∙ (let n = length-map fs function_of in omega (arith, n)) in
      few_same (known_of kept) (function_summaries (map function_of fs)) (let c = here.count in omega (arith, c, count, few)) here (map task_of ts)
      (subst (λ us. All (FewEmits (known_of kept)) (map task_of us)) f (subst (λ is. All (FewEmits (known_of is)) (map task_of slice)) g all))
