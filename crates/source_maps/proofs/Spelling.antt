-- The token of a name spells a name.
use Rattle.std.proofs.Common.{◌≡◌, ℕ, zero, suc, ◌+◌, ◌-◌, ◌/◌, ◌%◌, ◌≤◌, ◌<◌, Bool, true, false, cond, ◌&&◌, ◌||◌, ◌==◌, not, nat_lt, nat_le, List, [], ◌∷◌}
use Rattle.std.proofs.Common.{◌++◌}
use Rattle.std.proofs.Common.{length, drop, take, slice_index, refl, sym, ap, ◌∙◌, subst, arith, Option, Some, None}
use Rattle.std.specs.List.{prefix_len, list_all}
use Rattle.std.specs.Char.{is_ascii_digit}
use Rattle.std.specs.Str.{bytes_eq}
use Rattle.std.proofs.lemmas.Bool.Decides.{nat_tests}
use Rattle.std.proofs.lemmas.Slice.Eq.{bytes_eq-Decides}
use Rattle.std.proofs.lemmas.Bool.{and_from}
use Rattle.alp_text.specs.declared.lines.Span.{Span}
use Rattle.cost_bound.specs.task_lex.declared.token.Token.{Token}
use Rattle.cost_bound.specs.task_lex.declared.token.Kind.{Kind}
use Rattle.cost_bound.specs.task_lex.declared.piece.Piece.{Piece}
use Rattle.cost_bound.specs.task_lex.declared.piece.Numeral.{Numeral}
use Rattle.cost_bound.specs.task_lex.declared.step.Place.{Place}
use Rattle.cost_bound.specs.task_lex.declared.step.Step.{Step}
use Rattle.cost_bound.specs.task_lex.declared.step.Step.TheVariants.{Skip, Take, Fails}
use Rattle.cost_bound.specs.task_lex.Pieces.{is_blank, is_letter, is_word, is_in_line, spelling, singles, pairs, spelled as spelled_kind, single_piece}
use Rattle.cost_bound.specs.task_lex.Pieces.{marked, mark}
use Rattle.cost_bound.specs.task_lex.Pieces.{word_kind, has_suffix, number_to, word_numeral, long_numeral, numeral, piece_of}
use Rattle.cost_bound.specs.task_lex.Lex.{Lexed, tokens, fault, with_front, after, step, step_by, counted, numbered, is_opening, is_end, depth_after}
use Rattle.cost_bound.specs.task_lex.Lex.{width_after}
use Rattle.cost_bound.specs.task_lex.Lex.{lex_within, lex_from, lexed}
use Rattle.task_ast.specs.declared.SharedDeclaration.{SharedDeclaration}
use Rattle.task_ast.specs.Tree.{Task, Program}
use Rattle.cost_bound.specs.task_lex.declared.token.Kind.TheVariants as k
use Rattle.cost_bound.specs.task_lex.declared.piece.Piece.TheVariants as piece
use Rattle.cost_bound.specs.task_lex.declared.fault.Flaw.TheVariants as flaw
use Rattle.source_meaning.specs.task_parse.Grammar.{IsShared, shared, long, IsTask, task, IsProgram, program, Row}
use Rattle.std.specs.Prelude.{All}
use Rattle.std.proofs.lemmas.List.Elements.{All-nil, All-cons}
use Rattle.image_map.specs.Names.{is_name, is_name_byte}
use Rattle.source_report.specs.SourceReport.{spelled}

-- ---- a word

-- a letter is no digit, and the bytes of a word are those of a name
no_digit : (b : ℕ) → is_letter b ≡ true → not (is_ascii_digit b) ≡ true
no_digit b h = grind (arith, nat_tests, h)

name_byte : (b : ℕ) → is_word b ≡ true → is_name_byte b ≡ true
name_byte b h = grind (arith, nat_tests, h)

take_more : (x : ℕ) (xs : List ℕ) (n : ℕ) → take (1 + n) (x ∷ xs) ≡ x ∷ take n xs
take_more x xs n = let e : 1 + n ≡ suc n = omega arith in ap (λ m. take m (x ∷ xs)) e

all_name_bytes : (xs : List ℕ) → list_all is_name_byte (take (prefix_len is_word xs) xs) ≡ true
all_name_bytes [] = refl
all_name_bytes (x ∷ xs) = go (is_word x) refl (all_name_bytes xs)
  where
    go : (b : Bool) → is_word x ≡ b → list_all is_name_byte (take (prefix_len is_word xs) xs) ≡ true
        → list_all is_name_byte (take (cond b (1 + prefix_len is_word xs) 0) (x ∷ xs)) ≡ true
    go true e more = ap (list_all is_name_byte) (take_more x xs (prefix_len is_word xs)) ∙ and_from (is_name_byte x) _ (name_byte x e) more
    go false e more = refl

word_is_name : (xs : List ℕ) → is_letter (slice_index xs 0) ≡ true → prefix_len is_word xs ≤ 31 → is_name (take (prefix_len is_word xs) xs) ≡ true
word_is_name [] h l = absurd (cc)
word_is_name (x ∷ xs) h l =
    let word : is_word x ≡ true = ap (λ b. b || is_ascii_digit x) h in
    let n = prefix_len is_word xs in
    let count : prefix_len is_word (x ∷ xs) ≡ 1 + n = ap (λ b. cond b (1 + n) 0) word in
    let front : take (prefix_len is_word (x ∷ xs)) (x ∷ xs) ≡ x ∷ take n xs = ap (λ m. take m (x ∷ xs)) count ∙ take_more x xs n in
    let few : n + 1 ≤ 31 = omega (arith, count, l) in
    let most : length (take n xs) ≤ n = at_most n xs in
    let fits : nat_le (length (x ∷ take n xs)) 31 ≡ true = grind (arith, nat_tests, few, most) in
    ap is_name front ∙ and_from _ _ fits (and_from _ _ (no_digit x h) (ap (list_all is_name_byte) (sym front) ∙ all_name_bytes (x ∷ xs)))
  where
    at_most : (n : ℕ) (ys : List ℕ) → length (take n ys) ≤ n
    at_most zero ys = omega arith
    at_most (suc n) [] = omega arith
    at_most (suc n) (y ∷ ys) = let r = at_most n ys in omega (arith, r)

-- ---- a step

no_spelling : spelling k.Name ≡ []
unfolding spelling
no_spelling = refl

-- the kinds that are spelled in these lists are no names
no_name : (kinds : List Kind) (w : List ℕ) (kind : Kind) → 0 < length w → spelled_kind kinds w ≡ Some kind → kind ≡ k.Name → ⊥
unfolding spelled_kind
no_name [] w kind some h is = cc
no_name (x ∷ more) w kind some h is = go (bytes_eq w (spelling x)) refl h (λ e. no_name more w kind some e is)
  where
    go : (b : Bool) → bytes_eq w (spelling x) ≡ b → cond b (Some x) (spelled_kind more w) ≡ Some kind → (spelled_kind more w ≡ Some kind → ⊥) → ⊥
    go true e h later =
        let same : x ≡ kind = cc in
        let none : w ≡ [] = (bytes_eq-Decides w (spelling x)).0 e ∙ ap spelling (same ∙ is) ∙ no_spelling in
        let zero_long : length w ≡ 0 = ap length none in
        omega (arith, some, zero_long)
    go false e h later = later h

-- what is found at the front of a text: a word is a name where it is short; a mark is none
abbrev FoundNamed : List ℕ → Piece × ℕ → Type 0
FoundNamed text (piece.Word, n) = n ≤ 31 → is_name (take n text) ≡ true
FoundNamed text (piece.Mark kind, n) = kind ≡ k.Name → ⊥
FoundNamed text (piece.Blank, n) = Unit {0}
FoundNamed text (piece.Numeral, n) = Unit {0}
FoundNamed text (piece.Bad, n) = Unit {0}

single_found : (text : List ℕ) (b n : ℕ) → FoundNamed text (single_piece (spelled_kind singles (b ∷ [])), n)
single_found text b n = go (spelled_kind singles (b ∷ [])) refl
  where
    go : (o : Option Kind) → spelled_kind singles (b ∷ []) ≡ o → FoundNamed text (single_piece o, n)
    go None e = tt
    go (Some kind) e = λ is. no_name singles (b ∷ []) kind (omega arith) e is

mark_found : (text : List ℕ) (b c : ℕ) → FoundNamed text (mark b c)
unfolding mark
mark_found text b c = go (spelled_kind pairs (b ∷ c ∷ [])) refl
  where
    go : (o : Option Kind) → spelled_kind pairs (b ∷ c ∷ []) ≡ o → FoundNamed text (marked o b)
    go None e = single_found text b 1
    go (Some kind) e = λ is. no_name pairs (b ∷ c ∷ []) kind (omega arith) e is

piece_found : (text : List ℕ) → FoundNamed text (piece_of text)
unfolding piece_of
piece_found text = go (is_blank b) (b == 47 && c == 47) (is_letter b) (is_ascii_digit b) refl
  where
    b : ℕ
    b = slice_index text 0

    c : ℕ
    c = slice_index text 1

    go : (blank comment letter digit : Bool) → is_letter b ≡ letter
        → FoundNamed text (cond blank (piece.Blank, prefix_len is_blank text) (cond comment (piece.Blank, prefix_len is_in_line text)
        (cond letter (piece.Word, prefix_len is_word text) (cond digit (piece.Numeral, prefix_len is_word text) (mark b c)))))
    go true comment letter digit e = tt
    go false true letter digit e = tt
    go false false true digit e = λ short. word_is_name text e short
    go false false false true e = tt
    go false false false false e = mark_found text b c

-- ---- a numeral is no name

word_no_name : (o : Option ℕ) (x : Numeral) → word_numeral o ≡ Some x → x.kind ≡ k.Name → ⊥
word_no_name None x h is = cc
word_no_name (Some n) x h is =
    let one : Numeral = record { kind = k.Number; value = n; high = 0 } in
    let same : one ≡ x = cc in
    let both : k.Number ≡ k.Name = ap (λ (y : Numeral). y.kind) same ∙ is in
    cc

long_no_name : (o : Option ℕ) (x : Numeral) → long_numeral o ≡ Some x → x.kind ≡ k.Name → ⊥
long_no_name None x h is = cc
long_no_name (Some n) x h is =
    let one : Numeral = record { kind = k.LongNumber; value = n % 65536; high = n / 65536 } in
    let same : one ≡ x = cc in
    let both : k.LongNumber ≡ k.Name = ap (λ (y : Numeral). y.kind) same ∙ is in
    cc

numeral_no_name : (w : List ℕ) (x : Numeral) → numeral w ≡ Some x → x.kind ≡ k.Name → ⊥
unfolding numeral
numeral_no_name w x h is = go (has_suffix w) h
  where
    go : (b : Bool) → cond b (long_numeral (number_to 4294967295 (take (length w - 2) w))) (word_numeral (number_to 65535 w)) ≡ Some x → ⊥
    go true e = long_no_name (number_to 4294967295 (take (length w - 2) w)) x e is
    go false e = word_no_name (number_to 65535 w) x e is

-- ---- a step

module _ (source : List ℕ) where
  -- where a token is that of a name, its slice is a name
  abbrev pub IsNamed : Token → Type 0
  IsNamed t = t.kind ≡ k.Name → is_name (spelled source t.span) ≡ true

  abbrev Takes : Step → Type 0
  Takes (Take t q) = IsNamed t
  Takes (Skip q) = Unit {0}
  Takes (Fails f) = Unit {0}

  counted_takes : (p : Place) (n : ℕ) (kind : Kind) (value high : ℕ) → (kind ≡ k.Name → is_name (take n (drop p.at source)) ≡ true)
      → Takes (counted p n kind value high)
  unfolding counted
  counted_takes p n kind value high named = go (is_opening kind && p.depth == 64) (not (is_end kind) && p.width == 256)
    where
      go : (a b : Bool) → Takes (cond a (Fails flaw.TooDeep)
          (cond b (Fails flaw.TooWide) (Take (record { kind = kind; span = record { from = p.at; to = p.at + n }; value = value; high = high })
          (record { at = p.at + n; depth = depth_after kind (p.depth); width = width_after kind (p.width) }))))
      go true b = tt
      go false true = tt
      go false false = let size : p.at + n - p.at ≡ n = omega arith in λ is. ap (λ m. is_name (take m (drop p.at source))) size ∙ named is

  takes_by : (p : Place) (found : Piece) (n : ℕ) → FoundNamed (drop p.at source) (found, n) → Takes (step_by (drop p.at source) p found n)
  takes_by p piece.Blank n h = tt
  takes_by p piece.Word n h = go (nat_lt 31 n) refl
    where
      go : (b : Bool) → nat_lt 31 n ≡ b → Takes (cond b (Fails flaw.BadName) (counted p n (word_kind (take n (drop p.at source))) 0 0))
      go true e = tt
      go false e = let short : n ≤ 31 = grind (arith, nat_tests, e) in counted_takes p n _ 0 0 (λ is. h short)
  takes_by p piece.Numeral n h = go (numeral (take n (drop p.at source))) refl
    where
      go : (o : Option Numeral) → numeral (take n (drop p.at source)) ≡ o → Takes (numbered p n o)
      go None e = tt
      go (Some x) e = counted_takes p n x.kind x.value x.high (λ is. absurd (numeral_no_name (take n (drop p.at source)) x e is))
  takes_by p (piece.Mark kind) n h = counted_takes p n kind 0 0 (λ is. absurd (h is))
  takes_by p piece.Bad n h = tt

  takes : (p : Place) → Takes (step source p)
  unfolding step
  takes p = let text = drop p.at source in let found = piece_of text in takes_by p found.0 found.1 (piece_found text)

  -- ---- the whole text

  abbrev pub AllNamed : List Token → Type 0
  AllNamed [] = Unit {0}
  AllNamed (t ∷ ts) = IsNamed t × AllNamed ts

  abbrev Named : Lexed → Type 0
  Named (tokens ts) = AllNamed ts
  Named (fault f at) = Unit {0}

  named_front : (t : Token) (rest : Lexed) → IsNamed t → Named rest → Named (with_front (t ∷ []) rest)
  named_front t (tokens ts) is all = (is, all)
  named_front t (fault f at) is all = tt

  named_after : (go : Place → Lexed) (at : ℕ) (s : Step) → Takes s → ((q : Place) → Named (go q)) → Named (after go at s)
  named_after go at (Skip q) is next = next q
  named_after go at (Take t q) is next = named_front t (go q) is (next q)
  named_after go at (Fails f) is next = tt

  named_if : (b : Bool) (x : Lexed) → Named x → Named (cond b x (tokens []))
  named_if true x h = h
  named_if false x h = tt

  named_within : (n : ℕ) (p : Place) → Named (lex_within source n p)
  unfolding lex_within
  named_within zero p = tt
  named_within (suc n) p = named_if (nat_lt (p.at) (length source)) _ (named_after (lex_within source n) (p.at) (step source p) (takes p) (named_within n))

  pub are_named : (ts : List Token) → lexed source ≡ tokens ts → AllNamed ts
  unfolding lex_from
  are_named ts h = subst Named h (named_within (suc (length source - 0)) (record { at = 0; depth = 0; width = 0 }))

  -- ---- the grammar

  front_named : (xs ys : List Token) → AllNamed (xs ++ ys) → AllNamed xs
  front_named [] ys h = tt
  front_named (x ∷ xs) ys h = (h.0, front_named xs ys h.1)

  back_named : (xs ys : List Token) → AllNamed (xs ++ ys) → AllNamed ys
  back_named [] ys h = h
  back_named (x ∷ xs) ys h = back_named xs ys h.1

  abbrev pub HasName : Span → Type 0
  HasName s = is_name (spelled source s) ≡ true

  shared_named : (ts : List Token) (d : SharedDeclaration) → IsShared ts d → AllNamed ts → HasName d.name
  shared_named _ _ (shared h t n z of ts found a b is c e) all = all.1.1.0 is
  shared_named _ _ (long h t l n z ts found a b c is e f) all = all.1.1.1.0 is

  task_named : (ts : List Token) (k : Task Span Span Span) → IsTask ts k → AllNamed ts → HasName k.name
  task_named _ _ (task h n ts body a is b) all = all.1.0 is

  row_named : {A : Type 0} (R : List Token → A → Type 0) (P : A → Type 0) → ((ts : List Token) (x : A) → R ts x → AllNamed ts → P x)
      → (ts : List Token) (xs : List A) → Row R ts xs → AllNamed ts → All P xs
  row_named R P one ts [] row all = All-nil P
  row_named R P one ts (x ∷ xs) (front, back, is, first, more) all =
      let both = subst AllNamed is all in
      All-cons P x xs (one front x first (front_named front back both)) (row_named R P one back xs more (back_named front back both))

  pub record ProgramNamed (p : Program Span Span Span) : Type 0 where
    pub shared_variables : All (λ d. HasName d.name) p.shared
    pub all_tasks : All (λ k. HasName k.name) p.tasks

  pub program_named : (ts : List Token) (p : Program Span Span Span) → IsProgram ts p → AllNamed ts → ProgramNamed p
  program_named _ _ (program xs fs ys zs h n z shareds functions first others rows calls one more a b c) all =
      let behind = back_named xs (fs ++ (ys ++ (zs ++ (h ∷ n ∷ z ∷ [])))) all in
      let rest = back_named fs (ys ++ (zs ++ (h ∷ n ∷ z ∷ []))) behind in
      let later = back_named ys (zs ++ (h ∷ n ∷ z ∷ [])) rest in
      record {
        shared_variables = row_named IsShared (λ d. HasName d.name) shared_named xs shareds rows (front_named xs (fs ++ (ys ++ (zs ++ (h ∷ n ∷ z ∷ [])))) all);
        all_tasks = All-cons (λ k. HasName k.name) first others (task_named ys first one (front_named ys (zs ++ (h ∷ n ∷ z ∷ [])) rest))
            (row_named IsTask (λ k. HasName k.name) task_named zs others more (front_named zs (h ∷ n ∷ z ∷ []) later));
      }
