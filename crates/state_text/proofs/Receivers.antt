-- The line of the receiver, and lines that aren't one.
use Rattle.std.proofs.Common.{◌≡◌, ◌<◌, ◌^◌, ℕ, List, [], ◌∷◌, refl, ap, ◌∙◌, if◌then◌else◌, Bool, true, false, Some, None, Ok, codes, arith}
use Rattle.std.specs.Fmt.{decimal}
use Rattle.std.specs.Str.{bytes_eq}
use Rattle.text_parts.specs.Fields.{fields, no_fields}
use Rattle.text_parts.specs.Lines.{lines, pieces}
use Rattle.text_parts.specs.Printed.{spaced, printed}
use Rattle.text_parts.proofs.Interface.{AreWords, decimal_word, lines_printed}
use Rattle.image_map.specs.Line.{single_from, line_fields, number_behind, next_length, alone, ◌>>?◌}
use Rattle.image_map.proofs.Interface.{line_back, decimal_back}
use Rattle.state_text.specs.Reading.{receiver_of, names_receiver, number_of, behind_blanks, says_no_map}
use Rattle.state_text.specs.Text.{receiver_fields}

word_by : (t : Bool) (fs : List (List ℕ)) (k : ℕ) → ((if t then Some fs else None) >>? λ fs. next_length fs >>? λ n. alone n.1 n.0) ≡ Some k → t ≡ true
word_by true fs k h = refl
word_by false fs k h = cc

names_by : (t : Bool) (fs : List (List ℕ)) (k : ℕ) → number_behind (codes "receiver") (if t then fs else []) ≡ Some k → names_receiver fs ≡ true
names_by false fs k h = cc
names_by true [] k h = cc
names_by true (f ∷ fs) k h = word_by (bytes_eq f (codes "receiver")) fs k h

-- the line of the receiver begins with its word
pub names : (l : List ℕ) (k : ℕ) → receiver_of l ≡ Some k → names_receiver (fields l) ≡ true
unfolding line_fields
names l k h = names_by (single_from true l) (fields l) k h

named_by : (fs : List (List ℕ)) → names_receiver fs ≡ true → no_fields fs ≡ false
named_by [] h = cc
named_by (f ∷ fs) h = refl

-- so it isn't blank
pub not_blank : (l : List ℕ) (k : ℕ) → receiver_of l ≡ Some k → no_fields (fields l) ≡ false
not_blank l k h = named_by (fields l) (names l k h)

-- what stands behind the text of an image in that of a state: nothing, or the receiver's line. It says the number, wherever it stands
pub record EndsState (more : List (List ℕ)) (k : ℕ) : Type 0 where
  pub number : (n : ℕ) → number_of n more ≡ Ok k
  pub no_map : says_no_map more ≡ true
  pub not_blank : (n : ℕ) → behind_blanks n more ≡ record { rest = more; line = n }

pub receiver_ends : (l : List ℕ) (k : ℕ) → receiver_of l ≡ Some k → EndsState (l ∷ []) k
receiver_ends l k h = record { number = λ n. rw h refl; no_map = names l k h; not_blank = λ n. rw (not_blank l k h) refl }

words : (n : ℕ) → n < 2 ^ 16 → AreWords (codes "receiver" ∷ decimal n ∷ [])
words n h = (omega arith, omega arith, decimal_word n [] (omega arith) tt)

-- a printed line reads back
pub receiver_back : (n : ℕ) → n < 2 ^ 16 → receiver_of (spaced (codes "receiver" ∷ decimal n ∷ [])) ≡ Some n
receiver_back n h = rw (line_back (codes "receiver") (decimal n ∷ []) (words n h), decimal_back (2 ^ 16) n h (omega arith)) refl

no_lines : lines (printed []) ≡ []
unfolding printed pieces
no_lines = refl

-- it is one line
pub receiver_lines : (n : ℕ) → n < 2 ^ 16 → lines (printed (receiver_fields n)) ≡ spaced (codes "receiver" ∷ decimal n ∷ []) ∷ []
receiver_lines n h = lines_printed (codes "receiver" ∷ decimal n ∷ []) [] (words n h) ∙ ap (λ r. spaced (codes "receiver" ∷ decimal n ∷ []) ∷ r) no_lines
