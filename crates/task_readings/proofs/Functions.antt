-- The functions of a source take no more readings than their texts have.
use Rattle.std.proofs.Common.{◌≡◌, ℕ, zero, suc, ◌+◌, ◌<◌, ◌≤◌, List, [], ◌∷◌, ◌++◌, length, take, get_or, arith, sym, subst}
use Rattle.std.proofs.lemmas.List.{length-take-le}
use Rattle.std.proofs.Math.Seq.{take-length}
use Rattle.std.proofs.lemmas.Option.{slice_get-get_or}
use Rattle.task_ast.specs.Tree.{end}
use Rattle.task_ast.specs.Worked.{nowhere}
use Rattle.task_ast.specs.declared.WordType.TheVariants.{Unsigned}
use Rattle.task_ast.specs.Answers.{answers}
use Rattle.task_ast.specs.Calls.{BlockCallsBelow, FunctionsCallBelow}
use Rattle.task_ast.specs.Paths.{CheckedFunction}
use Rattle.task_ast.proofs.Interface.{answers_length, answers_more, answers_take}
use Rattle.source_values.specs.Values.{Meaning}
use Rattle.source_values.specs.Statements.{Attempt, meaning_of, meanings, run_block}
use Rattle.source_values.specs.Runs.{CheckedProgram, EndsReturning}
use Rattle.source_values.proofs.Interface.{pushed}
use Rattle.task_readings.specs.Readings.{function_readings, reading_counts}
use Rattle.task_readings.specs.Laws.{FunctionsReturn}
use Rattle.task_readings.proofs.Attempts.{KnownTake, FunctionTakes, function_takes}

-- a function that stands for none
no_function : CheckedFunction
no_function = record { word_type = Unsigned; name = nowhere; parameters = []; body = end }

calls_at : (n k : ℕ) (fs : List CheckedFunction) → FunctionsCallBelow n fs → k < length fs → BlockCallsBelow (n + k) (get_or fs k no_function).body
calls_at n k [] h l = absurd (omega (arith, l))
calls_at n zero (f ∷ fs) h l =
    let same : n ≡ n + 0 = omega arith in
    subst (λ j. BlockCallsBelow j f.body) same h.0
calls_at n (suc k) (f ∷ fs) h l =
    let same : n + 1 + k ≡ n + suc k = omega arith in
    subst (λ j. BlockCallsBelow j (get_or fs k no_function).body) same (calls_at (n + 1) k fs h.1 (omega (arith, l)))

module _ (p : CheckedProgram) (h : FunctionsReturn p) where
  abbrev known_to : ℕ → List Meaning
  known_to k = answers meaning_of (take k p.functions)

  abbrev counts_to : ℕ → List ℕ
  counts_to k = answers function_readings (take k p.functions)

  -- the function behind those of the first k
  next_takes : (k : ℕ) → k < length p.functions → KnownTake (known_to k) (counts_to k)
      → FunctionTakes (meaning_of (known_to k) (get_or p.functions k no_function)) (function_readings (counts_to k) (get_or p.functions k no_function))
  next_takes k l before =
      let f : CheckedFunction = get_or p.functions k no_function in
      let answered = answers_length meaning_of [] (take k p.functions) in
      let front = length-take-le k p.functions (omega (arith, l)) in
      let count : length (known_to k) ≡ k = omega (arith, answered, front) in
      let calls : BlockCallsBelow (length (known_to k)) f.body =
      let same : 0 + k ≡ length (known_to k) = omega (arith, count) in
      subst (λ j. BlockCallsBelow j f.body) same (calls_at 0 k p.functions h.calls.functions l) in
      let come : (s : Attempt) → EndsReturning (run_block (known_to k) f.body s) =
      λ s. subst (λ known. EndsReturning (run_block known f.body s)) (answers_take meaning_of p.functions k)
      (h.come k f (slice_get-get_or p.functions k no_function l) s) in
      function_takes (known_to k) (counts_to k) before f calls come

  functions_take : (k : ℕ) → k ≤ length p.functions → KnownTake (known_to k) (counts_to k)
  functions_take zero l = tt
  functions_take (suc k) l =
      let inside : k < length p.functions = omega (arith, l) in
      let before = functions_take k (omega (arith, l)) in
      let f : CheckedFunction = get_or p.functions k no_function in
      let next : k + 1 ≡ suc k = omega arith in
      let m = meaning_of (known_to k) f in
      let n = function_readings (counts_to k) f in
      let more : KnownTake (known_to k ++ m ∷ []) (counts_to k ++ n ∷ []) =
      pushed FunctionTakes (known_to k) (counts_to k) m n before (next_takes k inside before) in
      let known_more = answers_more meaning_of p.functions k no_function inside in
      let counts_more = answers_more function_readings p.functions k no_function inside in
      subst (λ j. KnownTake (known_to j) (counts_to j)) next (subst (KnownTake (known_to (k + 1))) (sym counts_more)
      (subst (λ known. KnownTake known (counts_to k ++ function_readings (counts_to k) f ∷ [])) (sym known_more) more))

  pub meanings_take : KnownTake (meanings p) (reading_counts p)
  meanings_take =
      subst (λ fs. KnownTake (answers meaning_of fs) (answers function_readings fs)) (take-length p.functions)
      (functions_take (length p.functions) (omega arith))

  -- so many functions are known
  pub all_known : length (meanings p) ≡ length p.functions
  all_known = let answered = answers_length meaning_of [] p.functions in omega (arith, answered)
