-- The text of an image assembles to the image's words.
use Rattle.std.proofs.Common.{◌≡◌, ◌≤◌, ◌<◌, ℕ, ◌+◌, ◌-◌, ◌*◌, ◌/◌, ◌%◌, ◌^◌, ◌==◌, ◌||◌, not, List, [], ◌∷◌, ◌++◌, length, map, arith, refl, ap, sym, subst}
use Rattle.std.proofs.Common.{◌∙◌, if◌then◌else◌, nat_lt, Bool, true, false, Option, Some, None, Ok, append_assoc, length-append, All}
use Rattle.std.specs.Prelude.{unwrap_or, codes}
use Rattle.std.proofs.lemmas.Bool.Decides.{nat_tests}
use Rattle.image_text.specs.Reading.{empty}
use Rattle.image_text.specs.Text.{Section, sections, is_shown, AreShown}
use Rattle.image_text.specs.Sections.{AreSections}
use Rattle.image_text.proofs.Interface.{nones, put_none, sections_made, nones_append, length_nones, empty_is, words16, AreWords16}
use Rattle.asm_line.specs.Pieces.{Located, split}
use Rattle.asm_line.specs.Values.{number}
use Rattle.asm_line.specs.Lines.{nothing, org, LineMeaning, line_of, statement_of}
use Rattle.asm_line.specs.Pieces.{before_mark, behind_mark, without_blanks}
use Rattle.msp_asm.specs.Labels.{Table}
use Rattle.msp_asm.specs.Program.{line_fault, line_words}
use Rattle.msp_asm.specs.Placing.{line_into, place, put_or}
use Rattle.msp_asm.specs.Assembled.{labels_of, placed, no_labels, lines_in, all_words, assembled, ◌>>=◌}
use Rattle.msp_asm.specs.Written.{number_text}
use Rattle.msp_asm.specs.Disassembly.{AreLinesOf, AreSectionsOf, IsTextOf, org_line}
use Rattle.msp_asm.proofs.Plain.{org_plain}
use Rattle.msp_asm.proofs.GivesLines.{lines_at, section_reads, ReadsOn, org_says, line_then, labels_past, placed_past, map_len}

-- what is placed of words of which the first stands at a place
abbrev spread : ℕ → List ℕ → List (Option ℕ)
spread j [] = []
spread j (w ∷ ws) = (if is_shown j w then Some w else None) ∷ spread (j + 1) ws

spread_append : (j k : ℕ) (xs ys : List ℕ) → k ≡ j + length xs → spread j (xs ++ ys) ≡ spread j xs ++ spread k ys
spread_append j k [] ys e = ap (λ i. spread i ys) (let z : j ≡ k = omega arith in z)
spread_append j k (x ∷ xs) ys e = ap (λ r. (if is_shown j x then Some x else None) ∷ r) (spread_append (j + 1) k xs ys (omega arith))

spread_hidden : (j : ℕ) (ws : List ℕ) → AreShown false j ws → spread j ws ≡ nones (length ws)
spread_hidden j [] h = refl
spread_hidden j (w ∷ ws) h = ap (λ t. (if t then Some w else None) ∷ spread (j + 1) ws) h.0 ∙ ap (λ r. None ∷ r) (spread_hidden (j + 1) ws h.1)

spread_shown : (j : ℕ) (ws : List ℕ) → AreShown true j ws → spread j ws ≡ map Some ws
spread_shown j [] h = refl
spread_shown j (w ∷ ws) h = ap (λ t. (if t then Some w else None) ∷ spread (j + 1) ws) h.0 ∙ ap (λ r. Some w ∷ r) (spread_shown (j + 1) ws h.1)

word_by : (t : Bool) (w : ℕ) → (t ≡ false → w ≡ 0) → unwrap_or (if t then Some w else None) 0 ≡ w
word_by true w h = refl
word_by false w h = sym (h refl)

zero_hidden : (j w : ℕ) → is_shown j w ≡ false → w ≡ 0
zero_hidden j w h = zero_by (w == 0) (j == 24063) w refl h
  where
    zero_by : (t u : Bool) (w : ℕ) → (w == 0) ≡ t → (not t || u) ≡ false → w ≡ 0
    zero_by true u w e h = grind (arith, nat_tests, e)
    zero_by false u w e h = cc

words_spread : (j : ℕ) (ws : List ℕ) → all_words (spread j ws) ≡ ws
words_spread j [] = refl
words_spread j (w ∷ ws) = ap (λ v. v ∷ all_words (spread (j + 1) ws)) (word_by (is_shown j w) w (zero_hidden j w)) ∙ ap (λ r. w ∷ r) (words_spread (j + 1) ws)

-- an `.org` to a word of the FRAM places nothing, and goes on there
org_fine : (f : Table) (n a A : ℕ) (m : List (Option ℕ)) → 17408 ≤ A → A % 2 ≡ 0
    → line_into f n a (record { label = None; statement = org (number A) }) m ≡ Ok m
unfolding line_into line_fault line_words
org_fine f n a A m low even =
    let t : nat_lt A 17408 ≡ false = grind (arith, nat_tests) in
    let u : (A % 2 == 1) ≡ false = grind (arith, nat_tests) in
    rw (t, u) (ap (put_or n) (put_none ((a - 17408) / 2) m))

-- both passes over the lines from an address on: no label is noted, and the words come to their places
record Done (f : Table) (n a : ℕ) (m : List (Option ℕ)) (ls : List Located) (final : List (Option ℕ)) : Type 0 where
  labels : labels_of f n a ls ≡ Ok f
  places : placed f n a m ls ≡ Ok final

blank_line : (at : ℕ) → line_of (record { at = at; text = [] }) ≡ Some (record { label = None; statement = nothing })
unfolding line_of before_mark behind_mark without_blanks statement_of
blank_line at = refl

last_line : (at : ℕ) → lines_at at [] ≡ record { at = at; text = [] } ∷ []
unfolding split
last_line at = refl

labels_none : (f : Table) (n a : ℕ) → labels_of f n a [] ≡ Ok f
unfolding labels_of
labels_none f n a = refl

placed_none : (f : Table) (n a : ℕ) (m : List (Option ℕ)) → placed f n a m [] ≡ Ok m
unfolding placed
placed_none f n a m = refl

blank_fine : (f : Table) (n a : ℕ) (m : List (Option ℕ)) → line_into f n a (record { label = None; statement = nothing }) m ≡ Ok m
unfolding line_into line_fault line_words
blank_fine f n a m = ap (put_or n) (put_none ((a - 17408) / 2) m)

labels_end : (f : Table) (n a at : ℕ) → labels_of f n a (lines_at at []) ≡ Ok f
labels_end f n a at = ap (labels_of f n a) (last_line at)
    ∙ labels_past f n a a (record { at = at; text = [] }) [] (record { label = None; statement = nothing }) (blank_line at) refl refl ∙ labels_none f (n + 1) a

placed_end : (f : Table) (n a at : ℕ) (m : List (Option ℕ)) → placed f n a m (lines_at at []) ≡ Ok m
placed_end f n a at m = ap (placed f n a m) (last_line at)
    ∙ placed_past f n a a m m (record { at = at; text = [] }) [] (record { label = None; statement = nothing }) (blank_line at) (blank_fine f n a m) refl
    ∙ placed_none f (n + 1) a m

org_first : (at A : ℕ) (rest : List ℕ) → lines_at at (org_line A ++ rest) ≡ record { at = at; text = codes ".org " ++ number_text A } ∷ lines_at
    (at + length (codes ".org " ++ number_text A) + 1) rest
unfolding org_line
org_first at A rest = line_then at (codes ".org " ++ number_text A) rest (org_plain A)

short_parts : (xs ys : List ℕ) → AreWords16 (xs ++ ys) → AreWords16 xs × AreWords16 ys
short_parts [] ys h = (tt, h)
short_parts (x ∷ xs) ys h = let p = short_parts xs ys h.1 in ((h.0, p.0), p.1)

-- the sections of the words from a place on, behind what is placed
abbrev Placing : List Section → Type 0
Placing ss = (f : Table) (n a at j : ℕ) (done : List (Option ℕ)) (ws text : List ℕ) → AreSections j ws ss → AreSectionsOf ss text → AreWords16 ws
    → length done ≡ j → j + length ws ≡ 24064
    → (labels_of f n a (lines_at at text) ≡ Ok f) × (placed f n a (done ++ nones (length ws)) (lines_at at text) ≡ Ok (done ++ spread j ws))

no_more : Placing []
no_more f n a at j done ws text hidden is short len room =
    let P : List ℕ → Type 0 =
    λ t. (labels_of f n a (lines_at at t) ≡ Ok f) × (placed f n a (done ++ nones (length ws)) (lines_at at t) ≡ Ok (done ++ spread j ws)) in
    subst P (sym is) (labels_end f n a at, placed_end f n a at (done ++ nones (length ws)) ∙ ap (λ r. Ok (done ++ r)) (sym (spread_hidden j ws hidden)))

-- behind a section's `.org`: its words, and what stands behind it
section_done : (s : Section) (ss : List Section) (gap rest lines more : List ℕ) (f : Table) (n at : ℕ) (done : List (Option ℕ)) → Placing ss
    → s.place ≡ length done + length gap → AreSections (s.place + length s.words) rest ss → AreSectionsOf ss more
    → AreLinesOf (17408 + 2 * s.place) 0 s.words lines
    → AreWords16 s.words → AreWords16 rest → s.place + length s.words + length rest ≡ 24064 → AreShown false (length done) gap → AreShown true s.place s.words
    → (labels_of f n (17408 + 2 * s.place) (lines_at at (lines ++ more)) ≡ Ok f)
    × (placed f n (17408 + 2 * s.place) (done ++ nones (length gap + (length s.words + length rest))) (lines_at at (lines ++ more)) ≡ Ok
    (done ++ spread (length done) (gap ++ s.words ++ rest)))
section_done s ss gap rest lines more f n at done ih place sections texts is short left room hidden shown =
    let on : ReadsOn (17408 + 2 * s.place) at s.words (lines ++ more) more =
    section_reads (length s.words) (17408 + 2 * s.place) at s.words lines more (omega arith) is short (omega arith) in
    let before : List (Option ℕ) = done ++ nones (length gap) in
    let now : List (Option ℕ) = before ++ map Some s.words in
    let here : length before ≡ s.place = omega (arith, length-append done (nones (length gap)), length_nones (length gap)) in
    let len : length now ≡ s.place + length s.words = omega (arith, length-append before (map Some s.words), map_len s.words) in
    let labels = on.reads.labels f n in
    let places = on.reads.places f n before (length rest) (λ some. (let h = here in omega arith)) in
    let later = ih f labels.0 on.b on.on (s.place + length s.words) now rest more sections texts left len room in
    let ends = ih f places.0 on.b on.on (s.place + length s.words) now rest more sections texts left len room in
    let memory : done ++ nones (length gap + (length s.words + length rest)) ≡ before ++ nones (length s.words + length rest)
    = ap (λ r. done ++ r) (nones_append (length gap) (length s.words + length rest))
    ∙ sym (append_assoc done (nones (length gap)) (nones (length s.words + length rest))) in
    let final : now ++ spread (s.place + length s.words) rest ≡ done ++ spread (length done) (gap ++ s.words ++ rest)
    = append_assoc before (map Some s.words) (spread (s.place + length s.words) rest)
    ∙ append_assoc done (nones (length gap)) (map Some s.words ++ spread (s.place + length s.words) rest)
    ∙ ap (λ r. done ++ r) (sym (all_spread (length done) s.place gap s.words rest place hidden shown)) in
    (labels.1 ∙ later.0, ap (λ m. placed f n (17408 + 2 * s.place) m (lines_at at (lines ++ more))) memory ∙ places.1 ∙ ends.1 ∙ ap Ok final)
  where
    all_spread : (j k : ℕ) (gap ws rest : List ℕ) → k ≡ j + length gap → AreShown false j gap → AreShown true k ws
        → spread j (gap ++ ws ++ rest) ≡ nones (length gap) ++ (map Some ws ++ spread (k + length ws) rest)
    all_spread j k gap ws rest e hidden shown = ap (spread j) (append_assoc gap ws rest)
        ∙ spread_append j k gap (ws ++ rest) e
        ∙ ap (λ r. r ++ spread k (ws ++ rest)) (spread_hidden j gap hidden)
        ∙ ap (λ r. nones (length gap) ++ r) (spread_append k (k + length ws) ws rest refl
        ∙ ap (λ r. r ++ spread (k + length ws) rest) (spread_shown k ws shown))

one_more : (s : Section) (ss : List Section) → Placing ss → Placing (s ∷ ss)
one_more s ss ih f n a at j done ws text (rest, b, sections) (section, more, (lines, is, e), g, texts) short len room =
    let A : ℕ = 17408 + 2 * s.place in
    let parts : length ws ≡ length b.gap + (length s.words + length rest) = ap length b.made
    ∙ omega (arith, length-append (b.gap ++ s.words) rest, length-append b.gap s.words) in
    let place : s.place ≡ length done + length b.gap = omega (arith, b.place) in
    let some : 0 < length s.words = b.some in
    let words16 : AreWords16 (b.gap ++ s.words ++ rest) = subst AreWords16 b.made short in
    let outer = short_parts (b.gap ++ s.words) rest words16 in
    let inner = short_parts b.gap s.words outer.0 in
    let whole : text ≡ org_line A ++ (lines ++ more) = g ∙ ap (λ t. t ++ more) e ∙ append_assoc (org_line A) lines more in
    let from : ℕ = at + length (codes ".org " ++ number_text A) + 1 in
    let hidden : AreShown false (length done) b.gap = (let P : ℕ → Type 0 = λ j. AreShown false j b.gap in subst P (sym len) b.hidden) in
    let rest_done = section_done s ss b.gap rest lines more f (n + 1) from done ih place sections texts is inner.1 outer.1 (omega arith) hidden b.shown in
    let line : Located = record { at = at; text = codes ".org " ++ number_text A } in
    let m : LineMeaning = record { label = None; statement = org (number A) } in
    let ls : lines_at at text ≡ line ∷ lines_at from (lines ++ more) = ap (lines_at at) whole ∙ org_first at A (lines ++ more) in
    let memory : done ++ nones (length ws) ≡ done ++ nones (length b.gap + (length s.words + length rest)) = ap (λ k. done ++ nones k) parts in
    let end : done ++ spread (length done) (b.gap ++ s.words ++ rest) ≡ done ++ spread j ws = ap (λ j. done ++ spread j (b.gap ++ s.words ++ rest)) len
    ∙ ap (λ ws. done ++ spread j ws) (sym b.made) in
    let small : A < 65536 = omega arith in (
      ap (labels_of f n a) ls ∙ labels_past f n a A line (lines_at from (lines ++ more)) m (org_says at A small) refl refl ∙ rest_done.0,
      ap (placed f n a (done ++ nones (length ws))) ls
          ∙ ap (λ s. placed f n a s (line ∷ lines_at from (lines ++ more))) memory
          ∙ placed_past f n a A _ _ line (lines_at from (lines ++ more)) m (org_says at A small)
          (org_fine f n a A (done ++ nones (length b.gap + (length s.words + length rest))) (omega arith) (omega arith)) refl
          ∙ rest_done.1 ∙ ap Ok end,
    )

all_placed : (ss : List Section) → Placing ss
all_placed [] = no_more
all_placed (s ∷ ss) = one_more s ss (all_placed ss)

both_passes : (k : ℕ) (ws text : List ℕ) → k ≡ length ws → length ws ≡ 24064 → AreWords16 ws → IsTextOf ws text
    → (labels_of no_labels 1 17408 (lines_in text) ≡ Ok no_labels) × (placed no_labels 1 17408 (empty k) (lines_in text) ≡ Ok (spread 0 ws))
both_passes k ws text e len short is =
    let p = all_placed (sections 0 ws) no_labels 1 17408 0 0 [] ws text (sections_made 0 ws) is short refl (omega arith) in
    (p.0, ap (λ m. placed no_labels 1 17408 m (lines_in text)) (empty_is k ∙ ap nones e) ∙ p.1)

assembles : (ws text : List ℕ) → length ws ≡ 24064 → AreWords16 ws → IsTextOf ws text → assembled text ≡ Ok ws
unfolding assembled
assembles ws text len short is =
    let p = both_passes 24064 ws text (sym len) len short is in
    ap (λ r. r >>= λ f. placed f 1 17408 (empty 24064) (lines_in text) >>= λ m. Ok (all_words m)) p.0
    ∙ ap (λ r. r >>= λ m. Ok (all_words m)) p.1 ∙ ap Ok (words_spread 0 ws)

-- the text of an image assembles to the image's words, where these are known by another list
pub text_assembles : (ws rest text : List ℕ) → rest ≡ ws → length rest ≡ 24064 → All (λ (w : ℕ). w < 2 ^ 16) rest → IsTextOf ws text → assembled text ≡ Ok ws
text_assembles ws rest text e len ranges is = assembles ws text (ap length (sym e) ∙ len) (subst AreWords16 e (words16 rest ranges)) is
