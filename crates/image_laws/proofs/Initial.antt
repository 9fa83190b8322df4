-- The words that shared variables start with are words.
use Rattle.image_laws.proofs.Names.{◌≡◌, ℕ, zero, suc, ◌^◌, ◌/◌, ◌%◌, ◌<◌, ◌&&◌, ◌==◌, nat_lt, refl, sym, ap, ap₂, subst, arith, true, List, [], ◌∷◌, ◌++◌}
use Rattle.image_laws.proofs.Names.{length, map, replicate, All, nat_tests, SharedDeclaration, Extent, CheckedProgram, initial_words, initial_rows, Checks}
use Rattle.image_laws.proofs.Names.{are_words, are_rows}
use Rattle.task_ast.specs.declared.Extent.TheVariants as extent
use Rattle.task_parse.specs.Grammar as grammar
use Rattle.std.proofs.lemmas.List.Elements.{All-nil, All-cons, All-head, All-tail}
use Rattle.alp_words.specs.Words.{IsWord}
use Rattle.task_lex.specs.declared.token.Token.{Token}
use Rattle.task_lex.specs.Lex.{width_after}
use Rattle.task_parse.specs.Grammar.{Row, IsExtent, IsWorth, IsLongExtent, IsShared, IsProgram, negated}
use Rattle.task_parse.specs.Parsed.{Program}
use Rattle.checked_trees.proofs.Interface.{OfWords, AreSound, are_sound}

-- tokens with words for numbers
abbrev HaveWords : List Token → Type 0
HaveWords [] = Unit {0}
HaveWords (t ∷ ts) = OfWords t × HaveWords ts

sound_words : (d : ℕ) (ts : List Token) → AreSound d ts → HaveWords ts
sound_words d [] h = tt
sound_words d (t ∷ ts) h = (h.1, sound_words (width_after t.kind d) ts h.2)

front_words : (xs ys : List Token) → HaveWords (xs ++ ys) → HaveWords xs
front_words [] ys h = tt
front_words (x ∷ xs) ys h = (h.0, front_words xs ys h.1)

back_words : (xs ys : List Token) → HaveWords (xs ++ ys) → HaveWords ys
back_words [] ys h = h
back_words (x ∷ xs) ys h = back_words xs ys h.1

-- a scalar starts with a word, a long with two
abbrev pub StartsWithWord : Extent → Type 0
StartsWithWord (extent.Scalar w) = IsWord w
StartsWithWord (extent.Long n) = n < 2 ^ 32
StartsWithWord (extent.Array n) = Unit {0}

negated_word : (n : ℕ) → IsWord (negated n)
negated_word n = omega arith

extent_word : (ts : List Token) (e : Extent) → IsExtent ts e → HaveWords ts → StartsWithWord e
extent_word ts e grammar.nothing_written h = omega arith
extent_word ts e (grammar.array o n c is_o is_n is_c) h = tt
extent_word ts e (grammar.value q n is_q is_n) h = h.1.0.0
extent_word ts e (grammar.negative q m n is_q is_m is_n) h = negated_word n.value

worth_words : (t : Token) (w : ℕ) → IsWorth t w → OfWords t → w < 2 ^ 32
worth_words t w (grammar.number n is) h = let low = h.0 in omega (arith, low)
worth_words t w (grammar.long_number n is) h = let low = h.0 in let high = h.1 in omega (arith, low, high)

long_extent_words : (ts : List Token) (e : Extent) → IsLongExtent ts e → HaveWords ts → StartsWithWord e
long_extent_words ts e grammar.no_value h = omega arith
long_extent_words ts e (grammar.long_value q n w is_q is_n) h = worth_words n w is_n h.1.0
long_extent_words ts e (grammar.long_negative q m n w is_q is_m is_n) h = omega arith

abbrev pub StartsSo : SharedDeclaration → Type 0
StartsSo d = StartsWithWord d.extent

shared_word_starts : (ts : List Token) (d : SharedDeclaration) → IsShared ts d → HaveWords ts → StartsSo d
shared_word_starts ts d (grammar.shared h t n z of more found is_h is_t is_n is_found is_z) w =
    extent_word more found is_found (front_words more (z ∷ []) w.1.1.1)
shared_word_starts ts d (grammar.long h t l n z more found is_h is_t is_l is_n is_found is_z) w =
    long_extent_words more found is_found (front_words more (z ∷ []) w.1.1.1.1)

rows_start : (ts : List Token) (ds : List SharedDeclaration) → Row IsShared ts ds → HaveWords ts → All StartsSo ds
rows_start ts [] r h = All-nil StartsSo
rows_start ts (d ∷ ds) r h =
    let xs = r.0 in
    let ys = r.1 in
    let k = subst HaveWords r.2 h in
    All-cons StartsSo d ds (shared_word_starts xs d r.3 (front_words xs ys k)) (rows_start ys ds r.4 (back_words xs ys k))

program_starts : (ts : List Token) (p : Program) → IsProgram ts p → HaveWords ts → All StartsSo p.shared
program_starts ts p (grammar.program xs fs ys zs h n z shareds functions first others is_shareds is_functions is_first is_others is_h is_n is_z) w =
    rows_start xs shareds is_shareds (front_words xs (fs ++ (ys ++ (zs ++ (h ∷ n ∷ z ∷ [])))) w)

pub scalars_start_with_words : (text : List ℕ) (p : CheckedProgram) → Checks text p → All StartsSo p.shared
scalars_start_with_words text p checks =
    let words = checks.parses.words in
    let same : p.shared ≡ checks.tree.shared = ap (λ q. q.shared) checks.checks.named.looked_up.places in
    subst (λ ds. All StartsSo ds) (sym same)
    (program_starts words checks.tree checks.parses.grammar (sound_words 0 words (are_sound text words checks.parses.lexes)))

zeros_are_words : (n : ℕ) → are_words (replicate n 0) ≡ true
zeros_are_words zero = refl
zeros_are_words (suc n) = zeros_are_words n

initial_are_words : (e : Extent) → StartsWithWord e → are_words (initial_words e) ≡ true
initial_are_words (extent.Scalar w) h = let t : nat_lt w 0x10000 ≡ true = grind (arith, nat_tests) in ap (λ b. b && true) t
initial_are_words (extent.Long n) h =
    let low : nat_lt (n % 65536) 0x10000 ≡ true = grind (arith, nat_tests) in
    let high : nat_lt (n / 65536) 0x10000 ≡ true = grind (arith, nat_tests, h) in
    ap₂ (λ a b. a && (b && true)) low high
initial_are_words (extent.Array n) h = zeros_are_words n

same_length : (n : ℕ) → (n == n) ≡ true
same_length n = grind (arith, nat_tests)

rows_are : (ds : List SharedDeclaration) → All StartsSo ds → are_rows ds (map (λ d. initial_words d.extent) ds) ≡ true
rows_are [] h = refl
rows_are (d ∷ ds) h =
    let one = same_length (length (initial_words d.extent)) in
    let two = initial_are_words d.extent (All-head StartsSo d ds h) in
    let more = rows_are ds (All-tail StartsSo d ds h) in
    ap₂ (λ a b. a && b) one (ap₂ (λ a b. a && b) two more)

-- the initial rows are those of a state
pub initial_rows_are : (text : List ℕ) (p : CheckedProgram) → Checks text p → are_rows p.shared (initial_rows p) ≡ true
initial_rows_are text p checks = rows_are p.shared (scalars_start_with_words text p checks)
