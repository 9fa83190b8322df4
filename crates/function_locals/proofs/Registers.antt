-- Each function has its locals behind those of all that it calls.
use Rattle.std.proofs.Common.{◌≡◌, ℕ, zero, suc, ◌+◌, ◌<◌, ◌≤◌, Bool, true, false, List, [], ◌∷◌, ◌++◌, take, refl, sym, ap, ◌∙◌}
use Rattle.std.proofs.Common.{subst, arith, if◌then◌else◌, Some, None}
use Rattle.std.specs.Prelude.{slice_get, All}
use Rattle.std.proofs.lemmas.Bool.Decides.{nat_tests}
use Rattle.std.proofs.lemmas.List.Elements.{All-nil, All-push, All-head, All-tail}
use Rattle.std.proofs.lemmas.Option.{same_Some}
use Rattle.task_ast.specs.Paths.{CheckedFunction}
use Rattle.cost_bound.specs.Counts.{block_calls}
use Rattle.task_ast.proofs.Interface.{answer_of, answers_take, along_answers}
use Rattle.function_locals.specs.declared.locals.FunctionLocals.{FunctionLocals}
use Rattle.function_locals.specs.Locals.{is_light, register_end, greatest_end, function_locals, all_locals}
use Rattle.function_locals.specs.Laws.{RegistersAreFew, AllLocalsStand}

-- ---- the greatest end

end_among : (calls : ℕ → Bool) (k : ℕ) (known : List FunctionLocals) (j : ℕ) (m : FunctionLocals) → slice_get known j ≡ Some m → calls (k + j) ≡ true
    → register_end m ≤ greatest_end calls k known
end_among calls k [] j m at is = let no : None ≡ Some m = at in cc
end_among calls k (l ∷ known) zero m at is =
    let same : l ≡ m = same_Some l m at in
    let here : calls k ≡ true = ap calls (let e : k ≡ k + 0 = omega arith in e) ∙ is in
    let first : (if calls k then register_end l else 0) ≡ register_end m = ap (λ b. if b then register_end l else 0) here ∙ ap register_end same in
    omega (arith, first)
end_among calls k (l ∷ known) (suc j) m at is =
    let there : calls ((k + 1) + j) ≡ true = ap calls (let e : (k + 1) + j ≡ k + suc j = omega arith in e) ∙ is in
    let rest = end_among calls (k + 1) known j m at there in
    omega (arith, rest)

-- the first function has the number 0
end_at : (calls : ℕ → Bool) (known : List FunctionLocals) (j : ℕ) (m : FunctionLocals) → slice_get known j ≡ Some m → calls j ≡ true
    → register_end m ≤ greatest_end calls 0 known
end_at calls known j m at is = end_among calls 0 known j m at (ap calls (let e : 0 + j ≡ j = omega arith in e) ∙ is)

if_low : (b : Bool) (n : ℕ) → n ≤ 8 → (if b then n else 0) ≤ 8
if_low true n h = h
if_low false n h = omega arith

end_low : (calls : ℕ → Bool) (k : ℕ) (known : List FunctionLocals) → All RegistersAreFew known → greatest_end calls k known ≤ 8
end_low calls k [] h = omega arith
end_low calls k (l ∷ known) h =
    let here = if_low (calls k) (register_end l) (All-head RegistersAreFew l known h).end in
    let rest = end_low calls (k + 1) known (All-tail RegistersAreFew l known h) in
    omega (arith, here, rest)

-- ---- each function

few_with : (l : FunctionLocals) → l.base ≤ 8 → RegistersAreFew l
few_with l low = record { base = low; end = by (is_light l) refl }
  where
    by : (b : Bool) → is_light l ≡ b → (if b then l.base + l.own else l.base) ≤ 8
    by true light = grind (arith, nat_tests, light)
    by false light = low

all_few : (fs : List CheckedFunction) → All RegistersAreFew (all_locals fs)
all_few fs = along_answers function_locals (λ front known. All RegistersAreFew known) (All-nil RegistersAreFew) step fs
  where
    step : (front : List CheckedFunction) (known : List FunctionLocals) (f : CheckedFunction) → All RegistersAreFew known
        → All RegistersAreFew (known ++ function_locals known f ∷ [])
    step front known f h =
        All-push RegistersAreFew known (function_locals known f) h
        (few_with (function_locals known f) (end_low (λ k. block_calls k f.body) 0 known h))

few_at : (known : List FunctionLocals) (k : ℕ) (l : FunctionLocals) → All RegistersAreFew known → slice_get known k ≡ Some l → RegistersAreFew l
few_at [] k l h at = let no : None ≡ Some l = at in cc
few_at (m ∷ known) zero l h at = subst RegistersAreFew (same_Some m l at) (All-head RegistersAreFew m known h)
few_at (m ∷ known) (suc k) l h at = few_at known k l (All-tail RegistersAreFew m known h) at

get_taken : (known : List FunctionLocals) (j k : ℕ) → j < k → slice_get (take k known) j ≡ slice_get known j
get_taken known j zero l = absurd (let none : ⊥ = omega arith in none)
get_taken [] j (suc k) l = refl
get_taken (m ∷ known) zero (suc k) l = refl
get_taken (m ∷ known) (suc j) (suc k) l = get_taken known j k (omega arith)

pub locals_stand : AllLocalsStand
locals_stand fs = record {
  few = λ k l at. few_at (all_locals fs) k l (all_few fs) at;
  own = λ k f l is at. ap (λ x. x.own) (made k f l is at);
  callees = λ j k f l m lt is at there calls.
      let taken : slice_get (all_locals (take k fs)) j ≡ Some m =
      ap (λ ls. slice_get ls j) (sym (answers_take function_locals fs k)) ∙ get_taken (all_locals fs) j k lt ∙ there in
      subst (λ n. register_end m ≤ n) (sym (ap (λ x. x.base) (made k f l is at)))
      (end_at (λ n. block_calls n f.body) (all_locals (take k fs)) j m taken calls);
  few_of_task = λ b. end_low (λ k. block_calls k b) 0 (all_locals fs) (all_few fs);
  callees_of_task = λ b j m at calls. end_at (λ k. block_calls k b) (all_locals fs) j m at calls;
}
  where
    made : (k : ℕ) (f : CheckedFunction) (l : FunctionLocals) → slice_get fs k ≡ Some f → slice_get (all_locals fs) k ≡ Some l
        → l ≡ function_locals (all_locals (take k fs)) f
    made k f l is at = same_Some l (function_locals (all_locals (take k fs)) f) (sym at ∙ answer_of function_locals fs k f is)
