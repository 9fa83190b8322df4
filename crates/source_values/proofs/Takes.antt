-- The value of an expression depends on the readings and the answers that it takes, and on no others, where the functions do that it calls.
-- Where none are known, all else stays as it was.
use Rattle.std.proofs.Common.{◌≡◌, ℕ, List, [], ◌∷◌, ◌++◌, Bool, true, false, refl, ap, sym, ◌∙◌, subst, Option, Some, None, append_assoc, drop}
use Rattle.std.proofs.Common.{slice_index, length, zero, suc}
use Rattle.std.proofs.Common.{if◌then◌else◌, ◌<◌, arith, length-append}
use Rattle.task_ast.specs.Tree.{number, long_number, name, element, sense, next_event, call, unary, binary, shift, short_circuit}
use Rattle.task_ast.specs.Tree as t
use Rattle.source_values.specs.Values.{◌>>?◌, CheckedExpression, CheckedValues, Variables, Attempt, Evaluated, EvaluatedWords, Meaning, meaning_in, word_before}
use Rattle.source_values.specs.Values.{word_at, scalar_value, type_of, unary_result, binary_result, shift_result, word_of}
use Rattle.source_values.specs.Values.{gives, made_of, reading_of, next_reading, next_answer, AreTaken, truth_word, is_settled, value_of, words_of}
use Rattle.source_values.specs.Statements.{Outcome, short, if_value, with_value}
use Rattle.source_values.proofs.Functions.{Every}

pub bind_some : {A B : Type 0} (o : Option A) (f : A → Option B) (y : B) → (o >>? f) ≡ Some y → (x : A) × (o ≡ Some x) × (f x ≡ Some y)
bind_some None f y e = cc
bind_some (Some x) f y e = (x, refl, e)

-- answers taken one list behind the other
pub taken_then : (given first between second left : List ℕ) → AreTaken given first between → AreTaken between second left
    → AreTaken given (first ++ second) left
taken_then given [] between second left a b = subst (λ g. AreTaken g second left) a b
taken_then given (x ∷ more) between second left a b = (a.0, taken_then (drop 1 given) more between second left a.1 b)

-- where some answers are left, those taken stand in front of them
pub taken_in_front : (given taken left : List ℕ) → AreTaken given taken left → 0 < length left → given ≡ taken ++ left
taken_in_front given [] left a some = sym a
taken_in_front [] (x ∷ taken) left a some =
    let none = ap (length {A = ℕ}) (taken_in_front [] taken left a.1 some) in
    let both = length-append taken left in
    absurd (omega (arith, none, both, some))
taken_in_front (g ∷ given) (x ∷ taken) left a some = ap (λ v. v ∷ given) (sym a.0) ∙ ap (λ l. x ∷ l) (taken_in_front given taken left a.1 some)

-- the readings and the answers that were taken, and that any others may stand behind either
pub record Takes (read : Attempt → Option Evaluated) (s : Attempt) (x : Evaluated) : Type 0 where
  pub used : List ℕ
  pub front : s.left ≡ used ++ x.behind.left
  pub same : (more : List ℕ) → read (record s { left = used ++ more }) ≡ gives x.value (record x.behind { left = more })
  pub answered : List ℕ
  pub answers : AreTaken s.answers answered x.behind.answers
  pub same_answered : (more : List ℕ) → read (record s { answers = answered ++ more }) ≡ gives x.value (record x.behind { answers = more })
  pub no_answers : s.answers ≡ [] → x.behind.answers ≡ []

abbrev pub TakesItsOwn : (Attempt → Option Evaluated) → Type 0
TakesItsOwn read = (s : Attempt) (x : Evaluated) → read s ≡ Some x → Takes read s x

-- what holds of a value that is given
abbrev pub OfValue : (Evaluated → Type 0) → Option Evaluated → Type 0
OfValue P None = ⊥
OfValue P (Some x) = P x

takes_none : (value : Variables → ℕ) → TakesItsOwn (λ s. gives (value s.variables) s)
takes_none value s x e =
    let read : Attempt → Option Evaluated = λ s. gives (value s.variables) s in
    subst (OfValue (Takes read s)) e
    (record {
      used = [];
      front = refl;
      same = λ more. refl;
      answered = [];
      answers = refl;
      same_answered = λ more. refl;
      no_answers = λ none. none;
    })

takes_one : TakesItsOwn next_reading
takes_one s x e = go s.left refl e
  where
    go : (rs : List ℕ) → s.left ≡ rs → reading_of rs s ≡ Some x → Takes next_reading s x
    go [] is e = cc
    go (r ∷ rs) is e = subst (OfValue (Takes next_reading s)) e
        (record {
          used = r ∷ [];
          front = is;
          same = λ more. refl;
          answered = [];
          answers = refl;
          same_answered = λ more. ap (λ l. reading_of l (record s { answers = more })) is;
          no_answers = λ none. none;
        })

-- an answer takes no reading
takes_answer : TakesItsOwn next_answer
takes_answer s x e = subst (OfValue (Takes next_answer s)) e (record {
  used = [];
  front = refl;
  same = λ more. refl;
  answered = slice_index s.answers 0 ∷ [];
  answers = (refl, refl);
  same_answered = λ more. refl;
  no_answers = ap (drop 1);
})

-- where no answers are left, the next one is 0, and none are left behind it
pub no_answer : (s : Attempt) → s.answers ≡ [] → next_answer s ≡ gives 0 s
no_answer s e =
    ap (λ answers. gives (slice_index answers 0) (record s { answers = drop 1 answers })) e
    ∙ ap (λ answers. gives 0 (record s { answers = answers })) (sym e)

-- one behind the other
takes_then : (first : Attempt → Option Evaluated) (next : ℕ → Attempt → Option Evaluated) → TakesItsOwn first → ((w : ℕ) → TakesItsOwn (next w))
    → TakesItsOwn (λ s. first s >>? λ x. next x.value x.behind)
takes_then first next p q s x e =
    let y = bind_some (first s) (λ x. next x.value x.behind) x e in
    let one = p s y.0 y.1 in
    let two = q y.0.value y.0.behind x y.2 in
    record {
      used = one.used ++ two.used;
      front = one.front ∙ ap (λ t. one.used ++ t) two.front ∙ sym (append_assoc one.used two.used x.behind.left);
      same = λ more. ap (λ t. first (record s { left = t }) >>? λ x. next x.value x.behind) (append_assoc one.used two.used more)
          ∙ ap (λ o. o >>? λ x. next x.value x.behind) (one.same (two.used ++ more)) ∙ two.same more;
      answered = one.answered ++ two.answered;
      answers = taken_then s.answers one.answered y.0.behind.answers two.answered x.behind.answers one.answers two.answers;
      same_answered = λ more.
          ap (λ t. first (record s { answers = t }) >>? λ x. next x.value x.behind) (append_assoc one.answered two.answered more)
          ∙ ap (λ o. o >>? λ x. next x.value x.behind) (one.same_answered (two.answered ++ more)) ∙ two.same_answered more;
      no_answers = λ none. two.no_answers (one.no_answers none);
    }

takes_if : (b : Bool) (first second : Attempt → Option Evaluated) → TakesItsOwn first → TakesItsOwn second
    → TakesItsOwn (λ s. if b then first s else second s)
takes_if true first second p q = p
takes_if false first second p q = q

-- what is made of a value
takes_made : (f : ℕ → ℕ) (first : Attempt → Option Evaluated) → TakesItsOwn first → TakesItsOwn (λ s. made_of f (first s))
takes_made f first p = takes_then first (λ w s. gives (f w) s) p (λ w. takes_none (λ m. f w))

-- two that give the same take the same
takes_as : (f g : Attempt → Option Evaluated) → ((s : Attempt) → f s ≡ g s) → TakesItsOwn f → TakesItsOwn g
takes_as f g same p s x e =
    let as_f = p s x (same s ∙ e) in
    record {
      used = as_f.used;
      front = as_f.front;
      same = λ more. sym (same (record s { left = as_f.used ++ more })) ∙ as_f.same more;
      answered = as_f.answered;
      answers = as_f.answers;
      same_answered = λ more. sym (same (record s { answers = as_f.answered ++ more })) ∙ as_f.same_answered more;
      no_answers = as_f.no_answers;
    }

-- a function depends on what it takes alone
abbrev pub FunctionTakes : Meaning → Type 0
FunctionTakes m = (words : List ℕ) → TakesItsOwn (m words)

-- each of these functions does
abbrev pub KnownTake : List Meaning → Type 0
KnownTake = Every FunctionTakes

known_takes : (known : List Meaning) → KnownTake known → (k : ℕ) (words : List ℕ) → TakesItsOwn (meaning_in known k words)
known_takes [] h k words s x e = absurd (cc e)
known_takes (m ∷ known) h zero words s x e = h.0 words s x e
known_takes (m ∷ known) h (suc k) words s x e = known_takes known h.1 k words s x e

-- what is done with the words behind one
with_words : (w : ℕ) (o : Option EvaluatedWords) (next : List ℕ → Attempt → Option Evaluated)
    → (o >>? λ x. next (w ∷ x.words) x.behind) ≡ ((o >>? λ x. Some (word_before w x)) >>? λ x. next x.words x.behind)
with_words w None next = refl
with_words w (Some x) next = refl

one_more : (known : List Meaning) (e : CheckedExpression) (more : CheckedValues) (next : List ℕ → Attempt → Option Evaluated) (o : Option Evaluated)
    → (o >>? λ x. words_of known more x.behind >>? λ ws. next (word_of e x.value ∷ ws.words) ws.behind)
    ≡ ((o >>? λ x. words_of known more x.behind >>? λ ws. Some (word_before (word_of e x.value) ws)) >>? λ ws. next ws.words ws.behind)
one_more known e more next None = refl
one_more known e more next (Some x) = with_words (word_of e x.value) (words_of known more x.behind) next

mutual
  pub value_takes : (known : List Meaning) → KnownTake known → (e : CheckedExpression) → TakesItsOwn (value_of known e)
  value_takes known h (number n) = takes_none (λ m. n)
  value_takes known h (long_number n) = takes_none (λ m. n)
  value_takes known h (name x) = takes_none (λ m. scalar_value m x)
  value_takes known h (element x index) = takes_then (value_of known index) (λ i s. gives (word_at s.variables x.variable i) s)
      (value_takes known h index) (λ i. takes_none (λ m. word_at m x.variable i))
  value_takes known h sense = takes_one
  value_takes known h next_event = takes_answer
  value_takes known h (call f values) = words_take known h values (meaning_in known f.function) (known_takes known h f.function)
  value_takes known h (unary op e) = takes_made (unary_result op (type_of e)) (value_of known e) (value_takes known h e)
  value_takes known h (binary op a b) =
      let value : ℕ → ℕ → ℕ = binary_result op.operator (type_of a) (type_of b) in
      takes_then (value_of known a) (λ x s. made_of (value x) (value_of known b s)) (value_takes known h a)
      (λ x. takes_made (value x) (value_of known b) (value_takes known h b))
  value_takes known h (shift op e count) = takes_made (λ w. shift_result op (type_of e) w count.value) (value_of known e) (value_takes known h e)
  value_takes known h (short_circuit op a b) =
      takes_then (value_of known a) (λ x s. if is_settled op x then gives (truth_word x) s else made_of truth_word (value_of known b s))
      (value_takes known h a)
      (λ x. takes_if (is_settled op x) (gives (truth_word x)) (λ s. made_of truth_word (value_of known b s)) (takes_none (λ m. truth_word x))
      (takes_made truth_word (value_of known b) (value_takes known h b)))

  -- the values of a call, and what is done with their words
  words_take : (known : List Meaning) → KnownTake known → (values : CheckedValues) (next : List ℕ → Attempt → Option Evaluated)
      → ((ws : List ℕ) → TakesItsOwn (next ws)) → TakesItsOwn (λ s. words_of known values s >>? λ x. next x.words x.behind)
  words_take known h t.no_value next p = p []
  words_take known h (t.value e more) next p =
      takes_as (λ s. value_of known e s >>? λ x. words_of known more x.behind >>? λ ws. next (word_of e x.value ∷ ws.words) ws.behind)
      (λ s. words_of known (t.value e more) s >>? λ x. next x.words x.behind) (λ s. one_more known e more next (value_of known e s))
      (takes_then (value_of known e) (λ w s. words_of known more s >>? λ ws. next (word_of e w ∷ ws.words) ws.behind) (value_takes known h e)
      (λ w. words_take known h more (λ ws. next (word_of e w ∷ ws)) (λ ws. p (word_of e w ∷ ws))))

-- what holds where there is no value, and of what goes on with one, whichever it is, holds of the outcome
pub for_value : (P : Outcome → Type 0) (known : List Meaning) (e : CheckedExpression) (s : Attempt) (next : ℕ → Attempt → Outcome) → P short
    → ((w : ℕ) (u : Attempt) → value_of known e s ≡ gives w u → P (next w u)) → P (with_value known e s next)
for_value P known e s next none some = go (value_of known e s) refl
  where
    go : (o : Option Evaluated) → value_of known e s ≡ o → P (if_value o next)
    go None h = none
    go (Some x) h = some x.value x.behind h
