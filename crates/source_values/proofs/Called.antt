-- What the steps of a call come to.
use Rattle.std.proofs.Common.{◌≡◌, ◌≤◌, ◌<◌, ℕ, List, [], ◌∷◌, ◌++◌, map, length, take, get_or, refl, ap, ◌∙◌, sym, subst, arith, Option, Some, None, zero}
use Rattle.std.proofs.Common.{suc, slice_get}
use Rattle.std.proofs.Common.{slice_index}
use Rattle.std.specs.Option.{option_map}
use Rattle.std.proofs.lemmas.List.{length-map}
use Rattle.std.proofs.lemmas.Option.{slice_get_past, slice_get-map, slice_get-get_or, get_or_from_slice_get}
use Rattle.task_ast.specs.Answers.{answers}
use Rattle.task_ast.specs.View.{function_of, block_view}
use Rattle.task_ast.specs.declared.FunctionDeclaration.{FunctionDeclaration}
use Rattle.task_ast.specs.declared.Stmt.{Stmt}
use Rattle.task_ast.specs.declared.names.VariableName.{VariableName}
use Rattle.task_ast.specs.declared.names.TaskName.{TaskName}
use Rattle.task_ast.specs.declared.names.FunctionName.{FunctionName}
use Rattle.task_ast.proofs.Interface.{answers_length, answer_of}
use Rattle.source_values.specs.Values.{◌>>?◌, Attempt, Evaluated, EvaluatedWords, Meaning, evaluated, meaning_in, new_locals}
use Rattle.source_values.specs.Statements.{Outcome, run_block, entered, left_with, meaning_of, function_emits, block_emits}
use Rattle.source_values.specs.View.{FunctionsInFront, meanings_of, counts_of, placed, placed_words, attempt_in, ended, word_of_end}
use Rattle.source_values.specs.declared.scratch.Scratch.{Scratch}
use Rattle.source_values.specs.declared.statements.End.{End}
use Rattle.source_values.specs.declared.statements.End.TheVariants.{GoesOn, ToTask, Returns}
use Rattle.source_values.proofs.Placed.{placed_is}

-- a function that isn't among the known ones
pub unknown_call : (fs : FunctionsInFront) (k : ℕ) (o : Option EvaluatedWords) → length fs ≤ k
    → None ≡ (o >>? λ x. meaning_in (meanings_of fs) k x.words x.behind)
unknown_call fs k None h = refl
unknown_call fs k (Some x) h =
    let answered = answers_length meaning_of [] (map function_of fs) in
    let count = length-map fs function_of in
    ap (λ m. m >>? λ m. m x.words x.behind) (sym (slice_get_past (meanings_of fs) k (omega (arith, answered, count, h))))

abbrev IsPair : List ℕ → Attempt → Option (List ℕ × Attempt) → Type 0
IsPair first u None = ⊥
IsPair first u (Some p) = (first ≡ p.0) × (u ≡ p.1)

same_pair : (first words : List ℕ) (u v : Attempt) → (let p : List ℕ × Attempt = (first, u) in Some p) ≡ Some (words, v) → (first ≡ words) × (u ≡ v)
same_pair first words u v e = subst (IsPair first u) e (refl, refl)

-- a function that is called with the words whose locals wait
pub call_behind : (o : Option EvaluatedWords) (first : List ℕ) (u : Attempt) (r : Option Evaluated) (m : Meaning)
    → Some (first, u) ≡ option_map (placed_words 0) o → ((words : List ℕ) → first ≡ take 256 (words ++ new_locals) → r ≡ m words u)
    → r ≡ (o >>? λ x. m x.words x.behind)
call_behind None first u r m e f = absurd (cc)
call_behind (Some x) first u r m e f =
    let pair = same_pair first (placed 0 x.words) u x.behind e in
    let same : first ≡ placed 0 x.words = pair.0 in
    let behind : u ≡ x.behind = pair.1 in
    f x.words (same ∙ placed_is x.words) ∙ ap (m x.words) behind

-- ---- the function of a number

take_map : (fs : FunctionsInFront) (k : ℕ) → take k (map function_of fs) ≡ map function_of (take k fs)
take_map fs zero = refl
take_map [] (suc k) = refl
take_map (f ∷ fs) (suc k) = ap (λ more. function_of f ∷ more) (take_map fs k)

found : (fs : FunctionsInFront) (k : ℕ) (d : FunctionDeclaration VariableName TaskName FunctionName) → k < length fs
    → slice_get (map function_of fs) k ≡ Some (function_of (get_or fs k d))
found fs k d h = slice_get-map function_of fs k ∙ ap (option_map function_of) (slice_get-get_or fs k d h)

-- the function of a number that is known, whose body ended so
pub known_at : (fs : FunctionsInFront) (k : ℕ) (d : FunctionDeclaration VariableName TaskName FunctionName)
    (body : List (Stmt VariableName TaskName FunctionName)) (words : List ℕ) (s : Attempt) (o : Outcome)
    → k < length fs → body ≡ (get_or fs k d).body.items → run_block (meanings_of (take k fs)) (block_view body) (entered words s) ≡ o
    → meaning_in (meanings_of fs) k words s ≡ left_with s.variables.locals o
known_at fs k d body words s o h is e =
    ap (λ m. m >>? λ m. m words s) (answer_of meaning_of (map function_of fs) k (function_of (get_or fs k d)) (found fs k d h))
    ∙ ap (λ front. left_with s.variables.locals (run_block (answers meaning_of front) (block_view (get_or fs k d).body.items) (entered words s)))
    (take_map fs k)
    ∙ ap (λ b. left_with s.variables.locals (run_block (meanings_of (take k fs)) (block_view b) (entered words s))) (sym is)
    ∙ ap (left_with s.variables.locals) e

pub count_at : (fs : FunctionsInFront) (k : ℕ) (d : FunctionDeclaration VariableName TaskName FunctionName)
    (body : List (Stmt VariableName TaskName FunctionName)) → k < length fs → body ≡ (get_or fs k d).body.items
    → slice_index (counts_of fs) k ≡ block_emits (counts_of (take k fs)) (block_view body)
count_at fs k d body h is =
    get_or_from_slice_get (counts_of fs) k
    (block_emits (answers function_emits (take k (map function_of fs))) (block_view (get_or fs k d).body.items)) 0
    (answer_of function_emits (map function_of fs) k (function_of (get_or fs k d)) (found fs k d h))
    ∙ ap (λ front. block_emits (answers function_emits front) (block_view (get_or fs k d).body.items)) (take_map fs k)
    ∙ ap (λ b. block_emits (counts_of (take k fs)) (block_view b)) (sym is)

-- the attempt in a function whose locals were the first frame
pub entered_is : (s : Scratch) (locals own : List ℕ) (frames rest : List (List ℕ)) (words left : List ℕ) → locals ≡ own → frames ≡ own ∷ rest
    → get_or frames 0 [] ≡ take 256 (words ++ new_locals)
    → entered words (attempt_in s left) ≡ attempt_in (record s { locals = locals }) left
entered_is s locals own frames rest words left swapped split h =
    ap (λ l. attempt_in (record s { locals = l }) left) (sym h ∙ ap (λ fr. get_or fr 0 []) split ∙ sym swapped)

-- what a function gives whose body ended so, where the caller's locals are back
pub given_is : (s : Scratch) (locals back left : List ℕ) (end : End) → back ≡ locals
    → left_with locals (ended end (attempt_in s left)) ≡ option_map (λ w. evaluated w (attempt_in (record s { locals = back }) left)) (word_of_end end)
given_is s locals back left GoesOn h = refl
given_is s locals back left (ToTask t) h = refl
given_is s locals back left (Returns w) h = ap (λ l. Some (evaluated w (attempt_in (record s { locals = l }) left))) (sym h)
