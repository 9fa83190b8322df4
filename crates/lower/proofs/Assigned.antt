-- What statements do with a value: they take it as one word, or a long takes both of its words.
use Rattle.lower.proofs.Names.{◌≡◌, ℕ, zero, suc, ◌/◌, ◌%◌, List, [], ◌∷◌, Option, Some, None, refl, sym, ap, ◌∙◌, slice_set, CheckedExpression, WordType}
use Rattle.lower.proofs.Names.{Unsigned, Int, Long, Variable, Shared, IsOneWord, Variables, Evaluated, with_word, converted, value_of, Outcome, if_value}
use Rattle.lower.proofs.Names.{converted_to}
use Rattle.std.proofs.Common.{get_or}
use Rattle.task_ast.specs.Types.{type_of, by_width}
use Rattle.source_values.specs.Values.{Attempt, Meaning}
use Rattle.source_values.specs.Statements.{assigned}

-- the value of an expression as one word
abbrev pub word_value : List Meaning → CheckedExpression → Attempt → Option Evaluated
word_value fs e m = converted_to (type_of e) Unsigned (value_of fs e m)

-- as an expression of one word has it
same_word : (of : WordType) → IsOneWord of → (o : Option Evaluated) → converted_to of Unsigned o ≡ o
same_word Long k o = absurd k
same_word of k None = refl
same_word Int k (Some x) = refl
same_word Unsigned k (Some x) = refl

pub word_as_value : (fs : List Meaning) (e : CheckedExpression) (m : Attempt) → IsOneWord (type_of e) → word_value fs e m ≡ value_of fs e m
word_as_value fs e m k = same_word (type_of e) k (value_of fs e m)

-- ---- what goes on with a value

-- alike with each value
pub if_same : (o : Option Evaluated) (f g : ℕ → Attempt → Outcome) → ((v : ℕ) (s : Attempt) → f v s ≡ g v s) → if_value o f ≡ if_value o g
if_same None f g h = refl
if_same (Some x) f g h = h x.value x.behind

-- with a value that is converted
pub if_converted : (from to : WordType) (o : Option Evaluated) (f : ℕ → Attempt → Outcome)
    → if_value (converted_to from to o) f ≡ if_value o (λ v s. f (converted from to v) s)
if_converted from to None f = refl
if_converted from to (Some x) f = refl

-- ---- assignments

-- the attempt with both words of a long
abbrev pub both_assigned : Attempt → Variable → ℕ → Attempt
both_assigned s x w = assigned (assigned s x 0 (w % 65536)) x 1 (w / 65536)

-- the attempt with a value of one type in a scalar of another
abbrev pub assigned_as : WordType → Attempt → Variable → WordType → ℕ → Attempt
assigned_as of s x from w = by_width of (assigned s x 0 (converted from of w)) (both_assigned s x (converted from of w))

-- each type of one word takes the same word
pub same_conversion : (from to : WordType) (w : ℕ) → IsOneWord to → converted from Unsigned w ≡ converted from to w
same_conversion from Long w k = absurd k
same_conversion Long to w k = refl
same_conversion Int to w k = refl
same_conversion Unsigned to w k = refl

-- what changes a row twice
rows_changed : (rows : List (List ℕ)) (v : ℕ) (f g : List ℕ → List ℕ)
    → (let once = slice_set rows v (f (get_or rows v [])) in
    slice_set once v (g (get_or once v [])) ≡ slice_set rows v (g (f (get_or rows v []))))
rows_changed [] v f g = refl
rows_changed (r ∷ rows) zero f g = refl
rows_changed (r ∷ rows) (suc v) f g = ap (λ rs. r ∷ rs) (rows_changed rows v f g)

-- the words of a row are set in either order
row_commutes : (r : List ℕ) (high low : ℕ) → slice_set (slice_set r 1 high) 0 low ≡ slice_set (slice_set r 0 low) 1 high
row_commutes [] high low = refl
row_commutes (a ∷ []) high low = refl
row_commutes (a ∷ (b ∷ r)) high low = refl

pub words_commute : (m : Variables) (v high low : ℕ)
    → with_word (with_word m (Shared v) 1 high) (Shared v) 0 low ≡ with_word (with_word m (Shared v) 0 low) (Shared v) 1 high
words_commute m v high low =
    let row = get_or m.shared v [] in
    let rows : List (List ℕ) → Variables = λ rows. record m { shared = rows } in
    ap rows (rows_changed m.shared v (λ r. slice_set r 1 high) (λ r. slice_set r 0 low) ∙ ap (slice_set m.shared v) (row_commutes row high low)
    ∙ sym (rows_changed m.shared v (λ r. slice_set r 0 low) (λ r. slice_set r 1 high)))
