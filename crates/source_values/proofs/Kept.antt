-- Where no functions are known, evaluating changes no variable and emits nothing.
use Rattle.std.proofs.Common.{◌≡◌, ℕ, List, [], ◌∷◌, Bool, true, false, refl, ap, ◌∙◌, subst, Option, Some, None, drop, if◌then◌else◌}
use Rattle.task_ast.specs.Tree.{number, long_number, name, element, sense, next_event, call, unary, binary, shift, short_circuit}
use Rattle.source_values.specs.Values.{◌>>?◌, CheckedExpression, Attempt, Evaluated, EvaluatedWords, meaning_in, word_at}
use Rattle.source_values.specs.Values.{type_of, unary_result, binary_result, shift_result, gives, made_of, reading_of, truth_word, is_settled}
use Rattle.source_values.specs.Values.{value_of, words_of}
use Rattle.source_values.specs.Statements.{Outcome, short, with_value}
use Rattle.source_values.proofs.Takes.{for_value}

-- an attempt that has the variables and the emitted words of another one, and of no answers none left
pub record IsBehind (s u : Attempt) : Type 0 where
  pub variables : u.variables ≡ s.variables
  pub emitted : u.emitted ≡ s.emitted
  pub no_answers : s.answers ≡ [] → u.answers ≡ []

-- so a value leaves an attempt, if there is one
abbrev Keeps : Attempt → Option Evaluated → Type 0
Keeps s None = Unit {0}
Keeps s (Some x) = IsBehind s x.behind

same : (s : Attempt) → IsBehind s s
same s = record { variables = refl; emitted = refl; no_answers = λ none. none }

behind_both : (s u v : Attempt) → IsBehind s u → IsBehind u v → IsBehind s v
behind_both s u v h k = record {
  variables = k.variables ∙ h.variables;
  emitted = k.emitted ∙ h.emitted;
  no_answers = λ none. k.no_answers (h.no_answers none);
}

keeps_then : (s : Attempt) (o : Option Evaluated) (next : Evaluated → Option Evaluated) → Keeps s o
    → ((x : Evaluated) → Keeps x.behind (next x)) → Keeps s (o >>? next)
keeps_then s None next h f = tt
keeps_then s (Some x) next h f = go (next x) (f x)
  where
    go : (o : Option Evaluated) → Keeps x.behind o → Keeps s o
    go None k = tt
    go (Some y) k = behind_both s x.behind y.behind h k

keeps_made : (s : Attempt) (f : ℕ → ℕ) (o : Option Evaluated) → Keeps s o → Keeps s (made_of f o)
keeps_made s f None h = tt
keeps_made s f (Some x) h = h

keeps_if : (s : Attempt) (b : Bool) (o p : Option Evaluated) → Keeps s o → Keeps s p → Keeps s (if b then o else p)
keeps_if s true o p h k = h
keeps_if s false o p h k = k

keeps_reading : (readings : List ℕ) (s : Attempt) → Keeps s (reading_of readings s)
keeps_reading [] s = tt
keeps_reading (r ∷ rs) s = record { variables = refl; emitted = refl; no_answers = λ none. none }

-- no function is known that a call could run
no_call : (s : Attempt) (k : ℕ) (o : Option EvaluatedWords) → Keeps s (o >>? λ x. meaning_in [] k x.words x.behind)
no_call s k None = tt
no_call s k (Some x) = tt

keeps : (e : CheckedExpression) (s : Attempt) → Keeps s (value_of [] e s)
keeps (number n) s = same s
keeps (long_number n) s = same s
keeps (name x) s = same s
keeps (element x index) s = keeps_then s (value_of [] index s) (λ i. gives (word_at i.behind.variables x.variable i.value) i.behind) (keeps index s)
    (λ i. same i.behind)
keeps sense s = keeps_reading s.left s
keeps next_event s = record { variables = refl; emitted = refl; no_answers = ap (drop 1) }
keeps (call f values) s = no_call s f.function (words_of [] values s)
keeps (unary op e) s = keeps_made s (λ w. unary_result op (type_of e) w) (value_of [] e s) (keeps e s)
keeps (binary op a b) s = keeps_then s (value_of [] a s)
    (λ x. made_of (λ w. binary_result op.operator (type_of a) (type_of b) x.value w) (value_of [] b x.behind)) (keeps a s)
    (λ x. keeps_made x.behind (λ w. binary_result op.operator (type_of a) (type_of b) x.value w) (value_of [] b x.behind) (keeps b x.behind))
keeps (shift op e count) s = keeps_made s (λ w. shift_result op (type_of e) w count.value) (value_of [] e s) (keeps e s)
keeps (short_circuit op a b) s = keeps_then s (value_of [] a s)
    (λ x. if is_settled op x.value then gives (truth_word x.value) x.behind else made_of truth_word (value_of [] b x.behind)) (keeps a s)
    (λ x. keeps_if x.behind (is_settled op x.value) (gives (truth_word x.value) x.behind) (made_of truth_word (value_of [] b x.behind)) (same x.behind)
    (keeps_made x.behind truth_word (value_of [] b x.behind) (keeps b x.behind)))

pub value_keeps : (e : CheckedExpression) (s : Attempt) (x : Evaluated) → value_of [] e s ≡ Some x → IsBehind s x.behind
value_keeps e s x is = subst (Keeps s) is (keeps e s)

-- the same of what is made of its value
pub made_behind : (f : ℕ → ℕ) (e : CheckedExpression) (s : Attempt) (x : Evaluated) → made_of f (value_of [] e s) ≡ Some x → IsBehind s x.behind
made_behind f e s x is = subst (Keeps s) is (keeps_made s f (value_of [] e s) (keeps e s))

-- what holds where there is no value, and of what goes on with one, whichever it is, holds of the outcome
pub for_kept_value : (P : Outcome → Type 0) (e : CheckedExpression) (s : Attempt) (next : ℕ → Attempt → Outcome) → P short
    → ((w : ℕ) (u : Attempt) → IsBehind s u → P (next w u)) → P (with_value [] e s next)
for_kept_value P e s next none some = for_value P [] e s next none (λ w u is. some w u (value_keeps e s (record { value = w; behind = u }) is))
