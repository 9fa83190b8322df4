-- A text that is told by a property and written piece by piece.
use Rattle.std.proofs.Common.{◌≡◌, ◌≤◌, ◌<◌, ℕ, suc, zero, ◌+◌, ◌-◌, ◌*◌, List, [], ◌∷◌, ◌++◌, length, drop, arith, refl, ap, sym, ◌∙◌, subst, Option, inl, inr}
use Rattle.std.proofs.Common.{append_assoc, length-drop, Result, Ok, Err, OnErr, OnOk, append-nil}
use Rattle.std.proofs.lemmas.List.{take_rest}
use Rattle.std.specs.Io.KnownBytes.{Appends}
use Rattle.std.proofs.KnownBytes.{Appends-trans, Appends-nil}
use Rattle.text_parts.proofs.Interface.{behind}
use Rattle.alp_io.specs.Sink.{AppendsProperPrefix}
use Rattle.alp_io.proofs.Interface.{part_of_first, part_of_second}
use Rattle.msp_isa.specs.Encoding.{encoding}
use Rattle.msp_decode.proofs.Interface.{is_unique}
use Rattle.msp_asm.specs.Disassembly.{IsNext, AreLinesOf, IsSectionOf, AreSectionsOf, instr_line, org_line, IsTextOf}
use Rattle.image_text.specs.Text.{Section, sections}
use Rattle.msp_asm.specs.Writing.{IsWritten, IsCut}

-- what is done, and that behind it stands what is left, and nothing else
pub record Listed (Whole Left : List ℕ → Type 0) (old now : Option (List ℕ)) : Type 0 where
  pub done : List ℕ
  pub written : Appends old now done
  pub forward : (text : List ℕ) → Left text → Whole (done ++ text)
  pub back : (text : List ℕ) → Whole text → (rest : List ℕ) × (text ≡ done ++ rest) × Left rest

-- a piece in front of what is left
pub record Fronts (Left Behind : List ℕ → Type 0) (piece : List ℕ) : Type 0 where
  pub forward : (text : List ℕ) → Behind text → Left (piece ++ text)
  pub back : (text : List ℕ) → Left text → (rest : List ℕ) × (text ≡ piece ++ rest) × Behind rest

pub listed_start : (Whole : List ℕ → Type 0) (old : Option (List ℕ)) → Listed Whole Whole old old
listed_start Whole old = record { done = []; written = Appends-nil old; forward = λ t h. h; back = λ t h. (t, refl, h) }

pub listed_step : (Whole Left Behind : List ℕ → Type 0) (old mid new : Option (List ℕ)) (piece : List ℕ) → Listed Whole Left old mid → Fronts Left Behind piece
    → Appends mid new piece → Listed Whole Behind old new
listed_step Whole Left Behind old mid new piece l f w = record {
  done = l.done ++ piece;
  written = Appends-trans old mid new l.done piece l.written w;
  forward = λ t h. subst Whole (sym (append_assoc l.done piece t)) (l.forward (piece ++ t) (f.forward t h));
  back = λ t h. later t (l.back t h);
}
  where
    latest : (t rest : List ℕ) → t ≡ l.done ++ rest → ((u : List ℕ) × (rest ≡ piece ++ u) × Behind u) → (u : List ℕ) × (t ≡ (l.done ++ piece) ++ u) × Behind u
    latest t rest e (u, g, b) = (u, e ∙ ap (λ r. l.done ++ r) g ∙ sym (append_assoc l.done piece u), b)

    later : (t : List ℕ) → ((rest : List ℕ) × (t ≡ l.done ++ rest) × Left rest) → (u : List ℕ) × (t ≡ (l.done ++ piece) ++ u) × Behind u
    later t (rest, e, h) = latest t rest e (f.back rest h)

pub listed_end : (Whole Left : List ℕ → Type 0) (old now : Option (List ℕ)) → Listed Whole Left old now → Left [] → IsWritten Whole old now
listed_end Whole Left old now l h = (l.done, subst Whole (append-nil l.done) (l.forward [] h), l.written)

-- a failure in the next piece
pub listed_cut : (Whole Left Behind : List ℕ → Type 0) (old mid new : Option (List ℕ)) (piece : List ℕ) → Listed Whole Left old mid → Fronts Left Behind piece
    → AppendsProperPrefix mid new piece → IsCut Whole old new
listed_cut Whole Left Behind old mid new piece l f p = λ t h. later t (l.back t h)
  where
    latest : (t rest : List ℕ) → t ≡ l.done ++ rest → ((u : List ℕ) × (rest ≡ piece ++ u) × Behind u) → AppendsProperPrefix old new t
    latest t rest e (u, g, b) = let P : List ℕ → Type 0 = λ t. AppendsProperPrefix old new t in
        subst P (sym (e ∙ ap (λ r. l.done ++ r) g)) (part_of_second old mid new l.done (piece ++ u) l.written (part_of_first mid new piece u p))

    later : (t : List ℕ) → ((rest : List ℕ) × (t ≡ l.done ++ rest) × Left rest) → AppendsProperPrefix old new t
    later t (rest, e, h) = latest t rest e (f.back rest h)

-- words that the line before took
skip_on : (a k : ℕ) (ws text : List ℕ) → k ≤ length ws → AreLinesOf (a + 2 * k) 0 (drop k ws) text → AreLinesOf a k ws text
skip_on a zero ws text h l = let P : ℕ → Type 0 = λ a. AreLinesOf a 0 ws text in subst P (let e : a + 2 * 0 ≡ a = omega arith in e) l
skip_on a (suc k) [] text h l = absurd (omega arith)
skip_on a (suc k) (w ∷ ws) text h l =
    skip_on (a + 2) k ws text (omega arith) (let P : ℕ → Type 0 = λ a. AreLinesOf a 0 (drop k ws) text in
    subst P (let e : a + 2 * suc k ≡ a + 2 + 2 * k = omega arith in e) l)

skip_off : (a k : ℕ) (ws text : List ℕ) → k ≤ length ws → AreLinesOf a k ws text → AreLinesOf (a + 2 * k) 0 (drop k ws) text
skip_off a zero ws text h l = let P : ℕ → Type 0 = λ a. AreLinesOf a 0 ws text in subst P (let e : a ≡ a + 2 * 0 = omega arith in e) l
skip_off a (suc k) [] text h l = absurd (omega arith)
skip_off a (suc k) (w ∷ ws) text h l = let P : ℕ → Type 0 = λ a. AreLinesOf a 0 (drop k ws) text in
    subst P (let e : a + 2 + 2 * k ≡ a + 2 * suc k = omega arith in e) (skip_off (a + 2) k ws text (omega arith) l)

-- behind the first line
pub behind_first : (a n w : ℕ) (ws text : List ℕ) → 1 ≤ n → n ≤ length (w ∷ ws) → AreLinesOf (a + 2) (n - 1) ws text
    → AreLinesOf (a + 2 * n) 0 (drop n (w ∷ ws)) text
behind_first a zero w ws text low high l = absurd (omega arith)
behind_first a (suc k) w ws text low high l =
    let P : ℕ → Type 0 = λ j. AreLinesOf (a + 2) j ws text in
    let Q : ℕ → Type 0 = λ b. AreLinesOf b 0 (drop k ws) text in
    subst Q (let e : a + 2 + 2 * k ≡ a + 2 * suc k = omega arith in
    e) (skip_off (a + 2) k ws text (omega arith) (subst P (let e : suc k - 1 ≡ k = omega arith in e) l))

-- what comes next is one line
pub next_unique : (a : ℕ) (ws l m : List ℕ) (n k : ℕ) → IsNext a ws l n → IsNext a ws m k → (l ≡ m) × (n ≡ k)
next_unique a ws l m n k (inl (i, s, e, f)) (inl (j, t, g, h)) =
    let same : i ≡ j = is_unique i j ws s.legal t.legal s.whole t.whole in
    (e ∙ ap (instr_line a) same ∙ sym g, f ∙ ap (λ i. length (encoding i)) same ∙ sym h)
next_unique a ws l m n k (inl (i, s, e, f)) (inr (none, g, h)) = absurd (none i s)
next_unique a ws l m n k (inr (none, e, f)) (inl (j, t, g, h)) = absurd (none j t)
next_unique a ws l m n k (inr (one, e, f)) (inr (none, g, h)) = (e ∙ sym g, f ∙ sym h)

-- a line in front of the lines behind it
pub line_fronts : (a n : ℕ) (ws line : List ℕ) → 0 < length ws → IsNext a ws line n → 1 ≤ n → n ≤ length ws
    → Fronts (AreLinesOf a 0 ws) (AreLinesOf (a + 2 * n) 0 (drop n ws)) line
line_fronts a n [] line some next low high = absurd (omega arith)
line_fronts a zero (w ∷ ws) line some next low high = absurd (omega arith)
line_fronts a (suc k) (w ∷ ws) line some next low high = record { forward = λ t h. (line, suc k, t, next, refl, skip_in t h); back = λ t h. split t h }
  where
    back_one : suc k - 1 ≡ k
    back_one = omega arith

    address : a + 2 * suc k ≡ a + 2 + 2 * k
    address = omega arith

    skip_in : (t : List ℕ) → AreLinesOf (a + 2 * suc k) 0 (drop k ws) t → AreLinesOf (a + 2) (suc k - 1) ws t
    skip_in t h = let P : ℕ → Type 0 = λ j. AreLinesOf (a + 2) j ws t in let Q : ℕ → Type 0 = λ b. AreLinesOf b 0 (drop k ws) t in
        subst P (sym back_one) (skip_on (a + 2) k ws t (omega arith) (subst Q address h))

    skip_out : (t : List ℕ) (j : ℕ) → suc k ≡ j → AreLinesOf (a + 2) (j - 1) ws t → AreLinesOf (a + 2 * suc k) 0 (drop k ws) t
    skip_out t j e h = let P : ℕ → Type 0 = λ j. AreLinesOf (a + 2) j ws t in let Q : ℕ → Type 0 = λ b. AreLinesOf b 0 (drop k ws) t in
        subst Q (sym address) (skip_off (a + 2) k ws t (omega arith) (subst P (ap (λ j. j - 1) (sym e) ∙ back_one) h))

    split : (t : List ℕ) → ((l : List ℕ) × (n : ℕ) × (rest : List ℕ) × IsNext a (w ∷ ws) l n × (t ≡ l ++ rest) × AreLinesOf (a + 2) (n - 1) ws rest)
        → (rest : List ℕ) × (t ≡ line ++ rest) × AreLinesOf (a + 2 * suc k) 0 (drop k ws) rest
    split t (l, n, rest, is, e, h) = let same = next_unique a (w ∷ ws) line l (suc k) n next is in
        (rest, e ∙ ap (λ l. l ++ rest) (sym same.0), skip_out rest n same.1 h)

behind_len : (n : ℕ) (ws : List ℕ) → n ≤ length ws → n + length (behind n ws) ≡ length ws
behind_len n ws h = rw (take_rest ws n) (omega (arith, length-drop n ws))

-- room for the words behind a line
pub room_behind : (a n : ℕ) (ws : List ℕ) → n ≤ length ws → a + 2 * length ws ≤ 65536 → a + 2 * n + 2 * length (behind n ws) ≤ 65536
room_behind a n ws h room = let len : n + length (behind n ws) ≡ length ws = behind_len n ws h in omega arith

-- the same for a piece that is that line, and the words behind it as a slice
pub piece_fronts : (a n : ℕ) (ws line piece : List ℕ) → piece ≡ line → 0 < length ws → IsNext a ws line n → 1 ≤ n → n ≤ length ws
    → Fronts (AreLinesOf a 0 ws) (AreLinesOf (a + 2 * n) 0 (behind n ws)) piece
piece_fronts a n ws line piece e some next low high =
    let P : List ℕ → Type 0 = λ p. Fronts (AreLinesOf a 0 ws) (AreLinesOf (a + 2 * n) 0 (behind n ws)) p in
    let Q : List ℕ → Type 0 = λ r. Fronts (AreLinesOf a 0 ws) (AreLinesOf (a + 2 * n) 0 r) line in
    subst P (sym e) (subst Q (sym (take_rest ws n)) (line_fronts a n ws line some next low high))

pub no_lines : (a : ℕ) (ws : List ℕ) → length ws ≤ 0 → AreLinesOf a 0 ws []
no_lines a [] h = refl
no_lines a (w ∷ ws) h = absurd (omega arith)

pub on_err : {T E : Type 0} (P : Type 0) (r : Result T E) → P → OnErr r P
on_err P (Ok x) p = tt
on_err P (Err e) p = p

-- a section's `.org` in front of its lines
pub org_fronts : (place : ℕ) (ws org : List ℕ) → org ≡ org_line (0x4400 + 2 * place) → Fronts (IsSectionOf place ws) (AreLinesOf (0x4400 + 2 * place) 0 ws) org
org_fronts place ws org e = record {
  forward = λ t h. (t, h, ap (λ o. o ++ t) e);
  back = λ t h. (h.0, h.2 ∙ ap (λ o. o ++ h.0) (sym e), h.1);
}

-- two texts of the same words
pub lines_unique : (a k : ℕ) (ws t u : List ℕ) → AreLinesOf a k ws t → AreLinesOf a k ws u → t ≡ u
lines_unique a k [] t u h g = h ∙ sym g
lines_unique a (suc k) (w ∷ ws) t u h g = lines_unique (a + 2) k ws t u h g
lines_unique a zero (w ∷ ws) t u (l, n, rest, is, e, h) (m, k, other, was, f, g) =
    let same : (l ≡ m) × (n ≡ k) = next_unique a (w ∷ ws) l m n k is was in
    let P : ℕ → Type 0 = λ n. AreLinesOf (a + 2) (n - 1) ws rest in
    e ∙ ap (λ l. l ++ rest) same.0 ∙ ap (λ r. m ++ r) (lines_unique (a + 2) (k - 1) ws rest other (subst P same.1 h) g) ∙ sym f

pub section_unique : (place : ℕ) (ws t u : List ℕ) → IsSectionOf place ws t → IsSectionOf place ws u → t ≡ u
section_unique place ws t u (l, h, e) (m, g, f) = e ∙ ap (λ l. org_line (0x4400 + 2 * place) ++ l) (lines_unique (0x4400 + 2 * place) 0 ws l m h g) ∙ sym f

-- a section in front of those behind it
pub section_fronts : (s : Section) (ss all : List Section) (text : List ℕ) → all ≡ s ∷ ss → IsSectionOf s.place s.words text
    → Fronts (AreSectionsOf all) (AreSectionsOf ss) text
section_fronts s ss all text e is =
    let P : List Section → Type 0 = λ all. Fronts (AreSectionsOf all) (AreSectionsOf ss) text in
    subst P (sym e) (record { forward = λ t h. (text, t, is, refl, h); back = λ t h. split t h })
  where
    split : (t : List ℕ) → ((section : List ℕ) × (rest : List ℕ) × IsSectionOf s.place s.words section × (t ≡ section ++ rest) × AreSectionsOf ss rest)
        → (rest : List ℕ) × (t ≡ text ++ rest) × AreSectionsOf ss rest
    split t (section, rest, was, f, h) = (rest, f ∙ ap (λ x. x ++ rest) (section_unique s.place s.words section text was is), h)

-- a failure within a section
pub section_cut : (Whole : List ℕ → Type 0) (s : Section) (ss all : List Section) (old mid new : Option (List ℕ)) → Listed Whole (AreSectionsOf all) old mid
    → all ≡ s ∷ ss
    → IsCut (IsSectionOf s.place s.words) mid new → IsCut Whole old new
section_cut Whole s ss all old mid new l e cut = λ t h. later t (l.back t h)
  where
    latest : (t rest : List ℕ) → t ≡ l.done ++ rest
        → ((section : List ℕ) × (u : List ℕ) × IsSectionOf s.place s.words section × (rest ≡ section ++ u) × AreSectionsOf ss u) → AppendsProperPrefix old new t
    latest t rest f (section, u, is, g, h) = let Q : List ℕ → Type 0 = λ t. AppendsProperPrefix old new t in
        subst Q (sym (f ∙ ap (λ r. l.done ++ r) g))
        (part_of_second old mid new l.done (section ++ u) l.written (part_of_first mid new section u (cut section is)))

    later : (t : List ℕ) → ((rest : List ℕ) × (t ≡ l.done ++ rest) × AreSectionsOf all rest) → AppendsProperPrefix old new t
    later t (rest, f, h) = let R : List Section → Type 0 = λ all. AreSectionsOf all rest in latest t rest f (subst R e h)

-- the lines of a section that failed
pub lines_cut : (Whole Left : List ℕ → Type 0) (old mid new : Option (List ℕ)) → Listed Whole Left old mid → IsCut Left mid new → IsCut Whole old new
lines_cut Whole Left old mid new l cut = λ t h. later t (l.back t h)
  where
    later : (t : List ℕ) → ((rest : List ℕ) × (t ≡ l.done ++ rest) × Left rest) → AppendsProperPrefix old new t
    later t (rest, f, h) = let Q : List ℕ → Type 0 = λ t. AppendsProperPrefix old new t in
        subst Q (sym f) (part_of_second old mid new l.done rest l.written (cut rest h))

pub lines_written : (Whole Left : List ℕ → Type 0) (old mid new : Option (List ℕ)) → Listed Whole Left old mid → IsWritten Left mid new
    → IsWritten Whole old new
lines_written Whole Left old mid new l (t, h, w) = (l.done ++ t, l.forward t h, Appends-trans old mid new l.done t l.written w)

pub no_sections : (ss : List Section) → ss ≡ [] → AreSectionsOf ss []
no_sections ss e = let P : List Section → Type 0 = λ ss. AreSectionsOf ss [] in subst P (sym e) refl

pub on_ok_later : {T E : Type 0} (P Q : Type 0) (r : Result T E) → OnOk r P → (P → Q) → OnOk r Q
on_ok_later P Q (Ok x) p f = f p
on_ok_later P Q (Err e) p f = tt

pub on_err_later : {T E : Type 0} (P Q : Type 0) (r : Result T E) → OnErr r P → (P → Q) → OnErr r Q
on_err_later P Q (Ok x) p f = tt
on_err_later P Q (Err e) p f = f p

-- behind a section's `.org`
pub org_written : (place : ℕ) (ws org : List ℕ) (old mid : Option (List ℕ)) → org ≡ org_line (0x4400 + 2 * place) → Appends old mid org
    → Listed (IsSectionOf place ws) (AreLinesOf (0x4400 + 2 * place) 0 ws) old mid
org_written place ws org old mid e w = listed_step (IsSectionOf place ws) (IsSectionOf place ws) (AreLinesOf (0x4400 + 2 * place) 0 ws) old old mid org
    (listed_start (IsSectionOf place ws) old) (org_fronts place ws org e) w

sections_unique : (ss : List Section) (t u : List ℕ) → AreSectionsOf ss t → AreSectionsOf ss u → t ≡ u
sections_unique [] t u h g = h ∙ sym g
sections_unique (s ∷ ss) t u (section, rest, is, e, h) (other, more, was, f, g) =
    e ∙ ap (λ x. x ++ rest) (section_unique s.place s.words section other is was) ∙ ap (λ r. other ++ r) (sections_unique ss rest more h g) ∙ sym f

-- the words of an image have one text
pub one_text : (words t u : List ℕ) → IsTextOf words t → IsTextOf words u → t ≡ u
one_text words t u h g = sections_unique (sections 0 words) t u h g
