-- The sums of the calls of functions join what a caller sees of their paths.
use Rattle.std.proofs.Common.{◌≡◌, ℕ, zero, suc, ◌+◌, ◌<◌, ◌≤◌, List, [], ◌∷◌, Some, None, Option, length, take, map, refl, ap, sym, ◌∙◌, subst, arith}
use Rattle.std.specs.Prelude.{slice_get, slice_index_or}
use Rattle.std.specs.Option.{option_map}
use Rattle.std.proofs.lemmas.List.{length-map, length-take}
use Rattle.std.proofs.lemmas.Option.{slice_get-map, same_Some, get_or_from_slice_get}
use Rattle.task_ast.specs.Tree as t
use Rattle.task_ast.specs.Worked.{nowhere}
use Rattle.task_ast.specs.Answers.{answers}
use Rattle.task_ast.specs.Calls.{BlockCallsBelow, FunctionsCallBelow}
use Rattle.task_ast.specs.Paths.{CheckedFunction, Access, End, goes_on, returns, outside, BlockPath}
use Rattle.task_ast.specs.Paths as p
use Rattle.task_ast.proofs.Interface.{answer_of}
use Rattle.path_sums.specs.Sums.{Algebra, call_sum, block_sum, function_sum, call_sums}
use Rattle.path_sums.specs.Known.{AreCallSums, EachReturns}
use Rattle.path_sums.specs.Reaches.{at_once}
use Rattle.path_sums.proofs.Joins.{Lawful, path_sum, Joins, Made, one, Going, going, CallPath, Known, joins_block, joins_called, joins_same, called_path}

calls_at : (n k : ℕ) (fs : List CheckedFunction) (f : CheckedFunction) → FunctionsCallBelow n fs → slice_get fs k ≡ Some f → BlockCallsBelow (n + k) f.body
calls_at n k [] f calls at = let no : None ≡ Some f = at in cc
calls_at n zero (g ∷ fs) f calls at = let same : g ≡ f = same_Some g f at in
    subst (λ m. BlockCallsBelow m f.body) (let e : n ≡ n + 0 = omega arith in e) (subst (λ h. BlockCallsBelow n h.body) same calls.0)
calls_at n (suc k) (g ∷ fs) f calls at =
    subst (λ m. BlockCallsBelow m f.body) (let e : n + 1 + k ≡ n + suc k = omega arith in e) (calls_at (n + 1) k fs f calls.1 at)

calls_front : (n k : ℕ) (fs : List CheckedFunction) → FunctionsCallBelow n fs → FunctionsCallBelow n (take k fs)
calls_front n zero fs calls = tt
calls_front n (suc k) [] calls = tt
calls_front n (suc k) (f ∷ fs) calls = (calls.0, calls_front (n + 1) k fs calls.1)

-- an element in front of a place is the same in the list up to there
in_front : {F : Type 0} (k j : ℕ) (fs : List F) (f : F) → slice_get (take k fs) j ≡ Some f → (slice_get fs j ≡ Some f) × (take j (take k fs) ≡ take j fs)
in_front zero j fs f at = let no : None ≡ Some f = at in cc
in_front (suc k) j [] f at = let no : None ≡ Some f = at in cc
in_front (suc k) zero (g ∷ fs) f at = (at, refl)
in_front (suc k) (suc j) (g ∷ fs) f at = let more = in_front k j fs f at in (more.0, ap (λ xs. g ∷ xs) more.1)

returning_front : (k : ℕ) (fs : List CheckedFunction) → EachReturns fs → EachReturns (take k fs)
returning_front k fs each j f at xs end path =
    let front = in_front k j fs f at in
    each j f front.0 xs end (subst (λ gs. BlockPath gs f.body xs end) front.1 path)

element : {F : Type 0} (fs : List F) (k : ℕ) → k < length fs → (f : F) × (slice_get fs k ≡ Some f)
element [] k l = absurd (omega arith)
element (f ∷ fs) zero l = (f, refl)
element (f ∷ fs) (suc k) l = element fs k (omega arith)

module _ {S : Type 0} (A : Algebra S) (law : Lawful A) where
  module _ (fs : List CheckedFunction) (calls : FunctionsCallBelow 0 fs) (each : EachReturns fs) (k : ℕ) (l : k < length fs) where
    count : length (take k fs) ≡ k
    count = omega (arith, l, length-take k fs)

    in_its_body : (f : CheckedFunction) → slice_get fs k ≡ Some f → BlockCallsBelow (length (take k fs)) f.body
    in_its_body f at = subst (λ m. BlockCallsBelow m f.body) (let e : 0 + k ≡ length (take k fs) = omega (arith, count) in e) (calls_at 0 k fs f calls at)

    Seen : CheckedFunction → List Access → Type 0
    Seen f zs = (ys : List Access) × (zs ≡ outside ys) × BlockPath (take k fs) f.body ys returns

    there : (f : CheckedFunction) → slice_get fs k ≡ Some f → (zs : List Access) (end : End) → Going (Seen f) zs end → Going (CallPath fs k) zs end
    unfolding Seen
    there f at _ _ (going zs (ys, e, h)) = going zs (f, ys, at, e, h)

    back : (f : CheckedFunction) → slice_get fs k ≡ Some f → (zs : List Access) (end : End) → Going (CallPath fs k) zs end → Going (Seen f) zs end
    unfolding Seen
    back f at _ _ (going zs (g, ys, found, e, h)) =
        going zs (ys, e, subst (λ g. BlockPath (take k fs) g.body ys returns) (same_Some g f (sym found ∙ at)) h)

    -- the calls of a function, from those of the functions in front of it
    call_known : Known A (take k fs) (call_sums A (take k fs)) → (f : CheckedFunction) → slice_get fs k ≡ Some f
        → Joins A (Going (CallPath fs k)) (call_sum (call_sums A fs) A k)
    unfolding Seen
    call_known known f at =
        let body = joins_block A law (take k fs) (call_sums A (take k fs)) known f.body (in_its_body f at) in
        let called = joins_called A law (BlockPath (take k fs) f.body) (each k f at) _ body in
        let is : call_sum (call_sums A fs) A k ≡ function_sum A (call_sums A (take k fs)) f =
        get_or_from_slice_get (call_sums A fs) k (function_sum A (call_sums A (take k fs)) f) A.unit (answer_of (function_sum A) fs k f at) in
        subst (Joins A (Going (CallPath fs k))) (sym is) (joins_same A law (Going (Seen f)) (Going (CallPath fs k)) _ (there f at) (back f at) called)

  known_below : (n : ℕ) (fs : List CheckedFunction) → length fs ≤ n → FunctionsCallBelow 0 fs → EachReturns fs → Known A fs (call_sums A fs)
  known_below zero fs few calls each = λ k l. absurd (omega arith)
  known_below (suc n) fs few calls each = λ k l.
      let front = known_below n (take k fs) (omega (arith, few, l, length-take k fs)) (calls_front 0 k fs calls) (returning_front k fs each) in
      let here = element fs k l in
      call_known fs calls each k l front here.0 here.1

  -- the sums of the calls join what their callers see
  pub known_sums : (fs : List CheckedFunction) (known : List S) → AreCallSums A fs known → Known A fs known
  known_sums fs known h = subst (Known A fs) (sym h.sums) (known_below (length fs) fs (omega arith) h.calls h.returning)

  -- Where a call does nothing, whatever its function's body does, that is what the paths through functions do that return at once.
  pub at_once_known : ((s : S) → A.called s ≡ A.unit) → (fs : List CheckedFunction) → Known A (map at_once fs) []
  at_once_known none fs k l = record { above = above_none; made = made_of (element (map at_once fs) k l).0 (element (map at_once fs) k l).1 }
    where
      seen : (zs ys : List Access) → zs ≡ outside ys → A.join (path_sum A zs goes_on) A.unit ≡ A.unit
      seen zs ys e = ap (λ z. A.join (path_sum A z goes_on) A.unit) e
          ∙ ap (λ u. A.join u A.unit) (sym (called_path A law ys) ∙ none (path_sum A ys returns)) ∙ law.idem A.unit

      above_none : (zs : List Access) (end : End) → Going (CallPath (map at_once fs) k) zs end → A.join (path_sum A zs end) A.unit ≡ A.unit
      above_none _ _ (going zs h) = seen zs h.1 h.3

      path : (g : CheckedFunction) → BlockPath (take k (map at_once fs)) (at_once g).body [] returns
      path g = p.stopped (t.give nowhere (t.number 0)) t.end [] returns tt (p.give nowhere (t.number 0) [] (p.number 0))

      made_of : (f : CheckedFunction) → slice_get (map at_once fs) k ≡ Some f → Made A (Going (CallPath (map at_once fs) k)) A.unit
      made_of f at = one [] goes_on (going [] (f, [], at, refl, body (slice_get fs k) refl))
        where
          body : (o : Option CheckedFunction) → slice_get fs k ≡ o → BlockPath (take k (map at_once fs)) f.body [] returns
          body None e = let no : None ≡ Some f = sym (slice_get-map at_once fs k ∙ ap (option_map at_once) e) ∙ at in cc
          body (Some g) e =
              let same : at_once g ≡ f = same_Some (at_once g) f (sym (slice_get-map at_once fs k ∙ ap (option_map at_once) e) ∙ at) in
              subst (λ h. BlockPath (take k (map at_once fs)) h.body [] returns) same (path g)
