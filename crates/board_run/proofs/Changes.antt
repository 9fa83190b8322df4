-- Lines of accepted words and of shared numbers that have changed, one after another.
use Rattle.std.proofs.Common.{◌≡◌, ◌≤◌, ◌<◌, ℕ, zero, suc, ◌+◌, List, [], ◌∷◌, ◌++◌, length, drop, drop-cons, get_or, flat_map, arith, refl, ap, sym}
use Rattle.std.proofs.Common.{subst, ◌∙◌, ◌*◌, ◌-◌, ◌%◌, ◌==◌, true, false, if◌then◌else◌, Option, Some, None, append_assoc, All, slice_index, append-nil}
use Rattle.std.proofs.Common.{nat_lt, nat_le, Ok}
use Rattle.std.proofs.lemmas.Bool.Decides.{nat_tests}
use Rattle.alp_io.specs.Report.{accepted_line, value_line}
use Rattle.std.specs.Io.KnownBytes.{Appends}
use Rattle.std.proofs.lemmas.Bool.{and_parts}
use Rattle.alp_io.specs.Sink.{Writes}
use Rattle.alp_io.proofs.Interface.{Progress}
use Rattle.image_text.specs.address_space.Limits.{place_of}
use Rattle.image_text.specs.image_map.declared.parts.ValueType.{ValueType}
use Rattle.image_text.specs.image_map.declared.parts.Variable.{Variable}
use Rattle.image_text.specs.image_map.MapValue.{IsVariable}
use Rattle.board_run.specs.History.{SharedNumber, array_words, variable_numbers, changed_line, word_in, number_of, shared_numbers}
use Rattle.board_run.specs.Shadow.{ShadowValue, IsMarked, Covers}
use Rattle.board_run.specs.State.{numbers_from, numbers_left, HasIndex, told_lines}
use Rattle.board_run.proofs.Placed.{begins, array_next, fits_so}

pub words_next : (ws : List ℕ) (i : ℕ) → i < length ws
    → flat_map accepted_line (drop i ws) ≡ accepted_line (get_or ws i 0) ++ flat_map accepted_line (drop (i + 1) ws)
words_next ws i h = ap (flat_map accepted_line) (drop-cons ws i 0 h)
    ∙ ap (λ j. accepted_line (get_or ws i 0) ++ flat_map accepted_line (drop j ws)) (let e : suc i ≡ i + 1 = omega arith in e)

-- all shared numbers are left at first
pub all_left : (vs : List Variable) → numbers_left vs 0 ≡ shared_numbers vs
all_left [] = refl
all_left (v ∷ vs) = ap (λ x. x ++ shared_numbers vs) (by_length v.name v.address v.value_type v.length)
  where
    by_length : (name : List ℕ) (a : ℕ) (t : ValueType) (o : Option ℕ) → numbers_from name a t o 0 ≡ variable_numbers name a t o
    by_length name a t None = refl
    by_length name a t (Some n) = ap (λ b. array_words name b 0 (n - 0)) (let e : a + 2 * 0 ≡ a = omega arith in e)
        ∙ ap (array_words name a 0) (let e : n - 0 ≡ n = omega arith in e)

-- lines that are written up to a number
pub next_lines : (old new : Option (List ℕ)) (rest rest' whole : List ℕ) → rest ≡ rest' → Progress old new rest whole → Progress old new rest' whole
next_lines old new rest rest' whole e p = let P : List ℕ → Type 0 = λ x. Progress old new x whole in subst P e p

pub start_variables : (vs us : List Variable) → us ≡ vs → All IsVariable vs → All IsVariable us × HasIndex us 0
start_variables vs us e h = let P : List Variable → Type 0 = λ x. All IsVariable x × HasIndex x 0 in subst P (sym e) (h, begins vs h)

-- the lines of some numbers, and then of others
told_both : (before fram : List ℕ) (ps qs : List SharedNumber) → told_lines before fram (ps ++ qs) ≡ told_lines before fram ps ++ told_lines before fram qs
told_both before fram [] qs = refl
told_both before fram (p ∷ ps) qs =
    let line = changed_line p (number_of (word_in before) p) (number_of (word_in fram) p) in
    ap (λ x. line ++ x) (told_both before fram ps qs) ∙ sym (append_assoc line (told_lines before fram ps) (told_lines before fram qs))

-- the lines of the next variable, and those of the others
pub variable_next : (before fram : List ℕ) (vs : List Variable) (d : Variable) (i : ℕ) → i < length vs
    → told_lines before fram (shared_numbers (drop i vs))
    ≡ told_lines before fram (variable_numbers (get_or vs i d).name (get_or vs i d).address (get_or vs i d).value_type (get_or vs i d).length)
    ++ told_lines before fram (shared_numbers (drop (i + 1) vs))
variable_next before fram vs d i h =
    let v = get_or vs i d in
    let e : suc i ≡ i + 1 = omega arith in
    ap (λ x. told_lines before fram (shared_numbers x)) (drop-cons vs i d h)
    ∙ told_both before fram (variable_numbers v.name v.address v.value_type v.length) (shared_numbers (drop (suc i) vs))
    ∙ ap (λ j. told_lines before fram (variable_numbers v.name v.address v.value_type v.length) ++ told_lines before fram (shared_numbers (drop j vs))) e

-- the same of a variable that is looked at
pub variable_of : (before fram : List ℕ) (vs us : List Variable) (v : Variable) (i : ℕ) → us ≡ vs → v ≡ get_or us i v → i < length us
    → told_lines before fram (shared_numbers (drop i vs))
    ≡ told_lines before fram (variable_numbers v.name v.address v.value_type v.length) ++ told_lines before fram (shared_numbers (drop (i + 1) vs))
variable_of before fram vs us v i e is h =
    let P : List Variable → Type 0 = λ x. i < length x in
    let at : v ≡ get_or vs i v = is ∙ ap (λ x. get_or x i v) e in
    variable_next before fram vs v i (subst P e h)
    ∙ ap (λ (u : Variable). told_lines before fram (variable_numbers u.name u.address u.value_type u.length)
    ++ told_lines before fram (shared_numbers (drop (i + 1) vs))) (sym at)

-- the words of an array from an index on
abbrev pub words_left : List ℕ → ℕ → ℕ → ℕ → List SharedNumber
words_left name a n i = array_words name (a + 2 * i) i (n - i)

pub all_words_left : (name : List ℕ) (a n : ℕ) → words_left name a n 0 ≡ array_words name a 0 n
all_words_left name a n = ap (λ b. array_words name b 0 (n - 0)) (let e : a + 2 * 0 ≡ a = omega arith in e)
    ∙ ap (array_words name a 0) (let e : n - 0 ≡ n = omega arith in e)

pub no_words_left : (name : List ℕ) (a n i : ℕ) → n ≤ i → words_left name a n i ≡ []
no_words_left name a n i h = ap (array_words name (a + 2 * i) i) (let e : n - i ≡ 0 = omega arith in e)

-- the word of an array at an index
abbrev pub word_of : List ℕ → ℕ → ℕ → SharedNumber
word_of name a i = record { name = name; index = Some i; address = a + 2 * i; is_long = false }

pub word_next : (before fram name : List ℕ) (a n i : ℕ) → i < n
    → told_lines before fram (words_left name a n i)
    ≡ changed_line (word_of name a i) (number_of (word_in before) (word_of name a i)) (number_of (word_in fram) (word_of name a i))
    ++ told_lines before fram (words_left name a n (i + 1))
word_next before fram name a n i h = ap (told_lines before fram) (array_next name a i n h)

-- the same, where the word is told by another name of its variable
pub word_named : (before fram name other : List ℕ) (a n i : ℕ) → other ≡ name → i < n
    → told_lines before fram (words_left name a n i)
    ≡ changed_line (word_of other a i) (word_in before (a + 2 * i)) (word_in fram (a + 2 * i)) ++ told_lines before fram (words_left name a n (i + 1))
word_named before fram name other a n i e h = word_next before fram name a n i h
    ∙ ap (λ x. changed_line (word_of x a i) (word_in before (a + 2 * i)) (word_in fram (a + 2 * i)) ++ told_lines before fram (words_left name a n (i + 1)))
    (sym e)

same_word : (x y : ℕ) → x ≡ y → (y == x) ≡ true
same_word x y e = grind (arith, nat_tests, e)

no_line : (p : SharedNumber) (was now : ℕ) → was ≡ now → changed_line p was now ≡ []
no_line p was now e = ap (λ t. if t then [] else value_line p.name p.index now) (same_word was now e)

-- words that are as they were have no lines
skip : (before fram name : List ℕ) (a n d i : ℕ) → i + d ≤ n → ((k : ℕ) → i ≤ k → k < i + d → word_in before (a + 2 * k) ≡ word_in fram (a + 2 * k))
    → told_lines before fram (words_left name a n i) ≡ told_lines before fram (words_left name a n (i + d))
skip before fram name a n zero i h same = ap (λ j. told_lines before fram (words_left name a n j)) (let e : i ≡ i + 0 = omega arith in e)
skip before fram name a n (suc d) i h same =
    word_next before fram name a n i (omega arith)
    ∙ ap (λ x. x ++ told_lines before fram (words_left name a n (i + 1)))
    (no_line (word_of name a i) (word_in before (a + 2 * i)) (word_in fram (a + 2 * i)) (same i (omega arith) (omega arith)))
    ∙ skip before fram name a n d (i + 1) (omega arith) (λ k low high. same k (omega arith) (omega arith))
    ∙ ap (λ j. told_lines before fram (words_left name a n j)) (let e : i + 1 + d ≡ i + suc d = omega arith in e)

pub skip_to : (before fram name : List ℕ) (a n i k : ℕ) → i ≤ k → k ≤ n → ((j : ℕ) → i ≤ j → j < k → word_in before (a + 2 * j) ≡ word_in fram (a + 2 * j))
    → told_lines before fram (words_left name a n i) ≡ told_lines before fram (words_left name a n k)
skip_to before fram name a n i k low high same =
    let e : i + (k - i) ≡ k = omega arith in
    skip before fram name a n (k - i) i (omega arith) (λ j from to. same j from (omega arith))
    ∙ ap (λ j. told_lines before fram (words_left name a n j)) e

-- an array that fits stands in the FRAM
pub record StandsAt (a n : ℕ) : Type 0 where
  pub even : a % 2 ≡ 0
  pub low : 0x4400 ≤ a
  pub high : a + 2 * n ≤ 0x10000

-- words that aren't marked are passed over
pub skip_unmarked : (s : ShadowValue) (fram name : List ℕ) (a n i k : ℕ) → StandsAt a n → Covers s fram → i ≤ k → k ≤ n
    → ((j : ℕ) → i ≤ j → j < k → IsMarked s (place_of a + j) → ⊥)
    → told_lines s.words fram (words_left name a n i) ≡ told_lines s.words fram (words_left name a n k)
skip_unmarked s fram name a n i k at covers low high none = skip_to s.words fram name a n i k low high (λ j from to.
    let even = at.even in
    let first = at.low in
    let end = at.high in
    let e : place_of (a + 2 * j) ≡ place_of a + j = omega arith in
    ap (slice_index s.words) e ∙ covers (place_of a + j) (omega arith) (none j from to) ∙ ap (slice_index fram) (sym e))

pub stands_at : (v : Variable) (n : ℕ) → IsVariable v → v.length ≡ Some n → StandsAt v.address n
stands_at v n h len =
    let p = and_parts (nat_lt 0 n) (nat_le (v.address + 2 * n) 65536) (fits_so v n len h) in
    let q : nat_le (v.address + 2 * n) 65536 ≡ true = p.1 in
    let top : v.address + 2 * n ≤ 65536 = grind (arith, nat_tests, q) in
    record { even = h.address.even; low = h.address.low; high = top }

-- nothing is left to be written
pub lines_end : {T E : Type 0} (x : T) (old new : Option (List ℕ)) (rest whole : List ℕ) → rest ≡ [] → Progress old new rest whole
    → Writes {T = T} {E = E} old new (Ok x) whole
lines_end x old new rest whole e p =
    let P : List ℕ → Type 0 = λ t. Appends old new t in
    record {
      whole = subst P (sym (append-nil p.done) ∙ ap (λ t. p.done ++ t) (sym e) ∙ p.joined) p.written;
      part = tt;
    }

pub nothing_more : (n : ℕ) → 0 + n ≡ n
nothing_more n = omega arith
