-- What is told of lines that were written with a letter and a blank in front.
use Rattle.std.proofs.Common.{◌≡◌, ◌==◌, ◌&&◌, ◌≤◌, ◌<◌, ◌-◌, not, if◌then◌else◌, arith, ℕ, refl, sym, ◌∙◌, ap, ap₂, subst, Bool, true, false}
use Rattle.std.proofs.Common.{List, [], ◌∷◌, ◌++◌, length, length-append, length-drop, append_assoc, append-nil, take, drop, Option, Some, None}
use Rattle.std.proofs.Common.{Result, Ok, Err}
use Rattle.std.proofs.lemmas.List.{take-append-drop}
use Rattle.std.proofs.Math.Seq.{drop-append_seam, take-append_seam}
use Rattle.std.proofs.lemmas.Bool.{and_parts}
use Rattle.std.proofs.lemmas.Slice.Eq.{bytes_eq-Decides}
use Rattle.std.specs.Str.{bytes_eq}
use Rattle.std.specs.Io.KnownBytes.{Appends, Keeps}
use Rattle.alp_io.specs.Sink.{AppendsProperPrefix, Writes}
use Rattle.prefixed_lines.specs.Prefixes.{front_of, prefixed_from, prefixed, is_within, without_fronts, is_same, told_if, text_behind, Prefixes}

-- ---- a text and its fronts

abbrev skipped : Bool → ℕ
skipped true = 0
skipped false = 2

skipped_next : (ends : Bool) → (if ends then 2 else 0) ≡ skipped (not ends)
skipped_next true = refl
skipped_next false = refl

-- without its fronts it is the text
no_fronts : (letter : ℕ) (within : Bool) (text : List ℕ) → without_fronts (skipped within) (prefixed_from letter within text) ≡ text
no_fronts letter true [] = refl
no_fronts letter false [] = refl
no_fronts letter true (b ∷ bs) =
    ap (λ n. b ∷ without_fronts n (prefixed_from letter (not (b == 10)) bs)) (skipped_next (b == 10))
    ∙ ap (λ t. b ∷ t) (no_fronts letter (not (b == 10)) bs)
no_fronts letter false (b ∷ bs) =
    ap (λ n. b ∷ without_fronts n (prefixed_from letter (not (b == 10)) bs)) (skipped_next (b == 10))
    ∙ ap (λ t. b ∷ t) (no_fronts letter (not (b == 10)) bs)

prefixed_append : (letter : ℕ) (within : Bool) (xs ys : List ℕ)
    → prefixed_from letter within (xs ++ ys) ≡ prefixed_from letter within xs ++ prefixed_from letter (is_within within xs) ys
prefixed_append letter within [] ys = refl
prefixed_append letter within (b ∷ bs) ys =
    ap (λ t. front_of letter within ++ (b ∷ t)) (prefixed_append letter (not (b == 10)) bs ys)
    ∙ sym (append_assoc (front_of letter within) (b ∷ prefixed_from letter (not (b == 10)) bs) (prefixed_from letter (is_within (not (b == 10)) bs) ys))

within_append : (within : Bool) (xs ys : List ℕ) → is_within within (xs ++ ys) ≡ is_within (is_within within xs) ys
within_append within [] ys = refl
within_append within (b ∷ bs) ys = within_append (not (b == 10)) bs ys

-- ---- what is told

same_itself : (b : Bool) → is_same b b ≡ true
same_itself true = refl
same_itself false = refl

same_is : (a b : Bool) → is_same a b ≡ true → a ≡ b
same_is true true e = refl
same_is true false e = absurd cc
same_is false true e = absurd cc
same_is false false e = refl

-- bytes that stand behind the first ones as a text with its fronts
record Stands (first all : List ℕ) (letter : ℕ) (within : Bool) (text : List ℕ) : Type 0 where
  pub bytes : all ≡ first ++ prefixed letter text
  pub end : is_within false text ≡ within

told_is : (c : Bool) (t text : List ℕ) → told_if c t ≡ Some text → (c ≡ true) × (t ≡ text)
told_is true t text e = (refl, cc)
told_is false t text e = absurd cc

stands_told : (first all : List ℕ) (letter : ℕ) (within : Bool) (text : List ℕ) → text_behind (Some first) (Some all) letter within ≡ Some text
    → Stands first all letter within text
stands_told first all letter within text e =
    let found = without_fronts 2 (drop (length first) all) in
    let told = told_is (bytes_eq all (first ++ prefixed letter found) && is_same (is_within false found) within) found text e in
    let tests = and_parts (bytes_eq all (first ++ prefixed letter found)) (is_same (is_within false found) within) told.0 in
    record {
      bytes = (bytes_eq-Decides all (first ++ prefixed letter found)).0 tests.0 ∙ ap (λ t. first ++ prefixed letter t) told.1;
      end = sym (ap (is_within false) told.1) ∙ same_is _ within tests.1;
    }

told_by : (first all : List ℕ) (letter : ℕ) (within : Bool) (found text : List ℕ) → found ≡ text → Stands first all letter within text
    → told_if (bytes_eq all (first ++ prefixed letter found) && is_same (is_within false found) within) found ≡ Some text
told_by first all letter within found text e h =
    let bytes = (bytes_eq-Decides all (first ++ prefixed letter found)).1
    (h.bytes ∙ ap (λ t. first ++ prefixed letter t) (sym e)) in
    let end : is_same (is_within false found) within ≡ true =
    ap (λ t. is_same (is_within false t) within) e ∙ ap (λ w. is_same w within) h.end ∙ same_itself within in
    ap₂ (λ b c. told_if (b && c) found) bytes end ∙ ap Some e

told_standing : (first all : List ℕ) (letter : ℕ) (within : Bool) (text : List ℕ) → Stands first all letter within text
    → text_behind (Some first) (Some all) letter within ≡ Some text
told_standing first all letter within text h =
    told_by first all letter within (without_fronts 2 (drop (length first) all)) text
    (ap (λ xs. without_fronts 2 (drop (length first) xs)) h.bytes
    ∙ ap (without_fronts 2) (drop-append_seam first (prefixed letter text))
    ∙ no_fronts letter false text) h

nothing_stands : (first : List ℕ) (letter : ℕ) → Stands first first letter false []
nothing_stands first letter = record { bytes = sym (append-nil first); end = refl }

-- at first nothing was written
pub told_at_first : (first : List ℕ) (letter : ℕ) → text_behind (Some first) (Some first) letter false ≡ Some []
told_at_first first letter = told_standing first first letter false [] (nothing_stands first letter)

-- ---- one byte more

one_stands : (first all : List ℕ) (letter : ℕ) (within : Bool) (text : List ℕ) (byte : ℕ) → Stands first all letter within text
    → Stands first (all ++ (front_of letter within ++ byte ∷ [])) letter (not (byte == 10)) (text ++ byte ∷ [])
one_stands first all letter within text byte h = record {
  bytes = ap (λ xs. xs ++ (front_of letter within ++ byte ∷ [])) h.bytes
      ∙ append_assoc first (prefixed letter text) (front_of letter within ++ byte ∷ [])
      ∙ ap (λ w. first ++ (prefixed letter text ++ (front_of letter w ++ byte ∷ []))) (sym h.end)
      ∙ ap (λ xs. first ++ xs) (sym (prefixed_append letter false text (byte ∷ [])));
  end = within_append false text (byte ∷ []);
}

byte_by : (first all : List ℕ) (letter : ℕ) (within : Bool) (byte : ℕ) (o : Option (List ℕ)) → text_behind (Some first) (Some all) letter within ≡ o
    → Appends o (text_behind (Some first) (Some (all ++ (front_of letter within ++ byte ∷ []))) letter (not (byte == 10))) (byte ∷ [])
byte_by first all letter within byte None e = tt
byte_by first all letter within byte (Some text) e =
    let P : Option (List ℕ) → Type 0 = λ n. Appends (Some text) n (byte ∷ []) in
    subst P (sym (told_standing first _ letter (not (byte == 10)) (text ++ byte ∷ []) (one_stands first all letter within text byte
    (stands_told first all letter within text e)))) refl

-- a byte is written with what stands in front of it
pub byte_written : (first old new : Option (List ℕ)) (letter : ℕ) (within : Bool) (byte : ℕ) (held : List ℕ) → held ≡ front_of letter within ++ byte ∷ []
    → Appends old new held → Appends (text_behind first old letter within) (text_behind first new letter (not (byte == 10))) (byte ∷ [])
byte_written None old new letter within byte held is h = tt
byte_written (Some first) None new letter within byte held is h = tt
byte_written (Some first) (Some all) None letter within byte held is h = absurd h
byte_written (Some first) (Some all) (Some more) letter within byte held is h =
    let P : List ℕ → Type 0 = λ xs. Appends (text_behind (Some first) (Some all) letter within) (text_behind (Some first) (Some xs) letter (not (byte == 10)))
    (byte ∷ []) in
    subst P (ap (λ xs. all ++ xs) (sym is) ∙ sym h) (byte_by first all letter within byte _ refl)

keeps_told : (o : Option (List ℕ)) → Keeps o o
keeps_told None = tt
keeps_told (Some t) = refl

-- nothing is written
pub nothing_written : (first old new : Option (List ℕ)) (letter : ℕ) (within : Bool) → Keeps old new
    → Keeps (text_behind first old letter within) (text_behind first new letter within)
nothing_written None old new letter within h = tt
nothing_written (Some first) None new letter within h = tt
nothing_written (Some first) (Some all) None letter within h = absurd h
nothing_written (Some first) (Some all) (Some same) letter within h =
    subst (λ xs. Keeps (text_behind (Some first) (Some all) letter within) (text_behind (Some first) (Some xs) letter within)) (sym h)
    (keeps_told (text_behind (Some first) (Some all) letter within))

-- ---- a text that was written

appends_by : (first all : List ℕ) (letter : ℕ) (within : Bool) (text : List ℕ) (o : Option (List ℕ)) → text_behind (Some first) (Some all) letter within ≡ o
    → Appends (Some []) o text → all ≡ first ++ prefixed letter text
appends_by first all letter within text None e h = absurd h
appends_by first all letter within text (Some told) e h =
    (stands_told first all letter within told e).bytes ∙ ap (λ t. first ++ prefixed letter t) h

appends_so : (first : List ℕ) (all : Option (List ℕ)) (letter : ℕ) (within : Bool) (text : List ℕ)
    → Appends (Some []) (text_behind (Some first) all letter within) text → Appends (Some first) all (prefixed letter text)
appends_so first None letter within text h = absurd h
appends_so first (Some all) letter within text h = appends_by first all letter within text _ refl h

fronts_add : (letter : ℕ) (within : Bool) (xs : List ℕ) → length xs ≤ length (prefixed_from letter within xs)
fronts_add letter within [] = omega arith
fronts_add letter true (b ∷ bs) = let h = fronts_add letter (not (b == 10)) bs in omega arith
fronts_add letter false (b ∷ bs) = let h = fronts_add letter (not (b == 10)) bs in omega arith

partly_so : (first : List ℕ) (all : Option (List ℕ)) (letter : ℕ) (within : Bool) (text : List ℕ)
    → AppendsProperPrefix (Some []) (text_behind (Some first) all letter within) text → AppendsProperPrefix (Some first) all (prefixed letter text)
partly_so first all letter within text p =
    let taken = take p.count text in
    let left = drop p.count text in
    let ends = is_within false taken in
    let split : prefixed letter text ≡ prefixed letter taken ++ prefixed_from letter ends left =
    ap (prefixed letter) (sym (take-append-drop p.count text)) ∙ prefixed_append letter false taken left in
    let lengths = ap length split in
    let grown = fronts_add letter ends left in
    let some : length left ≡ length text - p.count = length-drop p.count text in
    record {
      count = length (prefixed letter taken);
      proper = omega (arith, lengths, grown, some, p.proper, length-append (prefixed letter taken) (prefixed_from letter ends left));
      held = subst (Appends (Some first) all)
          (sym (take-append_seam (prefixed letter taken) (prefixed_from letter ends left)) ∙ ap (take (length (prefixed letter taken))) (sym split))
          (appends_so first all letter within taken p.held);
    }

-- nothing is known of where it was written
unknown_part : (all : Option (List ℕ)) (letter : ℕ) (text : List ℕ) (told : Option (List ℕ)) → AppendsProperPrefix None told text
    → AppendsProperPrefix None all (prefixed letter text)
unknown_part all letter text told p =
    let grown = fronts_add letter false text in
    let more = p.proper in
    record { count = 0; proper = omega arith; held = tt }

written_so : {T E : Type 0} (first all : Option (List ℕ)) (letter : ℕ) (within : Bool) (text : List ℕ) (result : Result T E)
    → Writes (text_behind first first letter false) (text_behind first all letter within) result text → Writes first all result (prefixed letter text)
written_so None all letter within text (Ok x) w = record { whole = tt; part = tt }
written_so None all letter within text (Err e) w = record { whole = tt; part = unknown_part all letter text _ w.part }
written_so (Some first) all letter within text (Ok x) w =
    record {
      whole = appends_so first all letter within text
          (subst (λ o. Appends o (text_behind (Some first) all letter within) text) (told_at_first first letter) w.whole);
      part = tt;
    }
written_so (Some first) all letter within text (Err e) w =
    record {
      whole = tt;
      part = partly_so first all letter within text
          (subst (λ o. AppendsProperPrefix o (text_behind (Some first) all letter within) text) (told_at_first first letter) w.part);
    }

-- the lines that were written stand with their fronts
pub prefixes : {T E : Type 0} (letter : ℕ) (first all : Option (List ℕ)) (within : Bool) (result : Result T E)
    → Prefixes letter first (text_behind first all letter within) all result
prefixes letter first all within result text w = written_so first all letter within text result w
