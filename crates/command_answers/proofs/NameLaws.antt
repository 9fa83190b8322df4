-- Names as lines tell them, and lines around them.
use Rattle.std.proofs.Common.{◌≡◌, ◌<◌, ◌≤◌, ℕ, ◌+◌, ◌-◌, ◌/◌, ◌%◌, List, [], ◌∷◌, ◌++◌, take, drop, get_or, length, refl, ap, sym, subst, ◌∙◌, arith}
use Rattle.std.proofs.Common.{Bool, true, false, not, if◌then◌else◌, Option, Result, IsErr, length-drop, append_assoc}
use Rattle.std.proofs.lemmas.Bool.{and_parts, and_from, not-true, not_from_false}
use Rattle.std.proofs.lemmas.Bool.Decides.{nat_tests}
use Rattle.std.proofs.lemmas.List.{drop_more, drop-drop, take-append-drop, take_all, take_rest, get_or-drop}
use Rattle.std.proofs.lemmas.List.Concat.{flat_map-append}
use Rattle.std.proofs.lemmas.List.Folds.{list_all-append, list_all_more}
use Rattle.std.specs.Char.{is_ascii_control, digit_char}
use Rattle.std.specs.Io.KnownBytes.{Appends}
use Rattle.alp_io.specs.Sink.{AppendsProperPrefix, Writes}
use Rattle.alp_io.proofs.Interface.{part_of_first, part_of_second, writes_err, writes_then}
use Rattle.alp_text.specs.Numbers.{hex4}
use Rattle.command_answers.specs.FileNames.{escaped, told_byte, told_name, is_plain}

-- ---- no control character

same_byte : (b : ℕ) → is_ascii_control b ≡ false → told_byte b ≡ b ∷ []
same_byte b h = rw h refl

pub same_name : (name : List ℕ) → is_plain name ≡ true → told_name name ≡ name
same_name [] h = refl
same_name (b ∷ bs) h =
    let parts = and_parts (not (is_ascii_control b)) (is_plain bs) h in
    ap (λ t. t ++ told_name bs) (same_byte b (not-true (is_ascii_control b) parts.0)) ∙ ap (λ t. b ∷ t) (same_name bs parts.1)

-- ---- what is told has none

plain_digit : (d : ℕ) → d < 16 → not (is_ascii_control (digit_char d)) ≡ true
plain_digit d h = grind (arith, nat_tests)

plain_escape : (b : ℕ) → is_plain (escaped b) ≡ true
unfolding escaped hex4
plain_escape b = rw (plain_digit (b / 16 % 16) (omega arith), plain_digit (b % 16) (omega arith)) refl

plain_either : (b : ℕ) (c : Bool) → is_ascii_control b ≡ c → is_plain (if c then escaped b else b ∷ []) ≡ true
plain_either b true h = plain_escape b
plain_either b false h = rw h refl

pub plain_name : (name : List ℕ) → is_plain (told_name name) ≡ true
plain_name [] = refl
plain_name (b ∷ bs) =
    list_all-append (λ c. not (is_ascii_control c)) (told_byte b) (told_name bs)
    ∙ and_from (is_plain (told_byte b)) (is_plain (told_name bs)) (plain_either b (is_ascii_control b) refl) (plain_name bs)

-- ---- a name that is written run by run

pub four_digits : (w : ℕ) → length (hex4 w) ≡ 4
unfolding hex4
four_digits w = refl

-- the run from one place up to a control character, and what is behind it
pub run_of_name : (name : List ℕ) (from at d : ℕ) → from ≤ at → at < length name → is_plain (take (at - from) (drop from name)) ≡ true
    → is_ascii_control (get_or name at d) ≡ true
    → told_name (drop from name) ≡ (take (at - from) (drop from name) ++ escaped (get_or name at d)) ++ told_name (drop (at + 1) name)
run_of_name name from at d inside within plain control =
    let b : ℕ = get_or name at d in
    let run : List ℕ = take (at - from) (drop from name) in
    let behind : List ℕ = drop (at - from) (drop from name) in
    let more : List ℕ = told_name (drop (at + 1) name) in
    let place : from + (at - from) ≡ at = omega arith in
    let first : behind ≡ b ∷ drop (at + 1) name = drop-drop (at - from) from name ∙ ap (λ i. drop i name) place ∙ drop_more name at d within in
    let byte : told_byte b ≡ escaped b = rw control refl in
    let tail : told_name behind ≡ escaped b ++ more = ap told_name first ∙ ap (λ t. t ++ more) byte in
    ap told_name (sym (take-append-drop (at - from) (drop from name))) ∙ flat_map-append told_byte run behind
    ∙ ap (λ t. t ++ told_name behind) (same_name run plain) ∙ ap (λ t. run ++ t) tail ∙ sym (append_assoc run (escaped b) more)

-- no byte since the last control character
pub no_run : (xs : List ℕ) (i : ℕ) → is_plain (take (i - i) xs) ≡ true
no_run xs i = let none : i - i ≡ 0 = omega arith in rw none refl

-- one byte more that is none
pub run_more : (name : List ℕ) (from at d : ℕ) → from ≤ at → at < length name → is_plain (take (at - from) (drop from name)) ≡ true
    → is_ascii_control (get_or name at d) ≡ false → is_plain (take (at + 1 - from) (drop from name)) ≡ true
run_more name from at d inside within plain other =
    let rest : List ℕ = drop from name in
    let next : at + 1 - from ≡ at - from + 1 = omega arith in
    let there : get_or rest (at - from) d ≡ get_or name at d =
    get_or-drop from name (at - from) d ∙ ap (λ i. get_or name i d) (let place : from + (at - from) ≡ at = omega arith in place) in
    let byte : not (is_ascii_control (get_or rest (at - from) d)) ≡ true = not_from_false _ (ap is_ascii_control there ∙ other) in
    ap (λ n. is_plain (take n rest)) next
    ∙ list_all_more (λ b. not (is_ascii_control b)) rest (at - from) d (omega (arith, length-drop from name))
    ∙ and_from (is_plain (take (at - from) rest)) (not (is_ascii_control (get_or rest (at - from) d))) plain byte

-- the bytes behind the last control character
pub last_run : (name : List ℕ) (from at : ℕ) → length name ≤ at → is_plain (take (at - from) (drop from name)) ≡ true
    → told_name (drop from name) ≡ take (length name - from) (drop from name)
last_run name from at end plain =
    let rest : List ℕ = drop from name in
    let whole : take (at - from) rest ≡ rest = take_all (at - from) rest (omega (arith, length-drop from name)) in
    same_name rest (subst (λ t. is_plain t ≡ true) whole plain) ∙ sym (take_rest name from)

-- ---- a line of a front, a name and a back

-- a cut in the second of three parts
pub cut_between : {T E : Type 0} (old mid new : Option (List ℕ)) (result : Result T E) (a b c : List ℕ) → IsErr result → Appends old mid a
    → AppendsProperPrefix mid new b → Writes old new result (a ++ (b ++ c))
cut_between old mid new result a b c e first cut =
    writes_err old new result (a ++ (b ++ c)) e (part_of_second old mid new a (b ++ c) first (part_of_first mid new b c cut))

-- the last of three parts, whole or cut
pub last_of_three : {T E : Type 0} (old one two new : Option (List ℕ)) (result : Result T E) (a b c : List ℕ) → Appends old one a → Appends one two b
    → Writes two new result c → Writes old new result (a ++ (b ++ c))
last_of_three old one two new result a b c first second third =
    writes_then old one new result a (b ++ c) first (writes_then one two new result b c second third)
