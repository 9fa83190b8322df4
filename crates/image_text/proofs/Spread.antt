-- The sections of words place these words, so an image that is printed reads back.
use Rattle.std.proofs.Common.{◌≡◌, ◌<◌, ℕ, suc, zero, ◌+◌, ◌*◌, ◌/◌, ◌%◌, ◌==◌, ◌||◌, List, [], ◌∷◌, ◌++◌, length, map, get_or, arith, refl, ap, sym, subst}
use Rattle.std.proofs.Common.{◌∙◌, if◌then◌else◌, not, Bool, true, false, Option, Some, None, Ok, append_assoc, length-append, All, ◌^◌, codes, append-nil}
use Rattle.std.proofs.lemmas.Bool.Decides.{nat_tests}
use Rattle.std.specs.Prelude.{is_some, unwrap_or}
use Rattle.image_text.specs.Reading.{◌>>=◌, read, finish, words_of, empty, image_of, image_behind, are_blank, map_behind}
use Rattle.image_text.specs.Text.{is_shown, begins_shown, onto_section, sections, bytes_in, Section, lines_of_sections, text_of, map_part}
use Rattle.image_text.specs.Sections.{IsReadBack}
use Rattle.text_parts.specs.Lines.{lines, pieces}
use Rattle.text_parts.specs.Fields.{fields, no_fields}
use Rattle.text_parts.specs.Printed.{printed}
use Rattle.text_parts.proofs.Interface.{AreWords, fields_spaced, lines_printed, printed_append}
use Rattle.image_map.specs.MapValue.{MapValue}
use Rattle.image_map.specs.Text.{map_fields, map_text}
use Rattle.image_text.proofs.Places.{nones}
use Rattle.image_text.proofs.Back.{AreWords16, one_word, more_words}
use Rattle.image_text.proofs.Sections.{Holds, read_runs}

-- the two places of a word, given or not
abbrev pub places : Bool → ℕ → List (Option ℕ)
places true w = Some (w % 256) ∷ Some (w / 256) ∷ []
places false w = None ∷ None ∷ []

-- the memory that the words from a place on make
abbrev pub spread : ℕ → List ℕ → List (Option ℕ)
spread j [] = []
spread j (w ∷ ws) = places (is_shown j w) w ++ spread (j + 1) ws

-- two places more that are not given
shift : (done : List (Option ℕ)) (rs : List Section) (k : ℕ) (final : List (Option ℕ)) → Holds (done ++ None ∷ None ∷ []) rs k final
    → Holds done rs (2 + k) final
shift done [] k final h = h ∙ append_assoc done (None ∷ None ∷ []) (nones k) ∙ ap (λ r. done ++ r) (two_more k)
  where
    two_more : (k : ℕ) → None ∷ None ∷ nones k ≡ nones (2 + k)
    two_more k = ap (λ n. nones n) (let e : suc (suc k) ≡ 2 + k = omega arith in e)
shift done (r ∷ rs) k final (gap, left, s, h) =
    let room : k ≡ gap + (length (bytes_in r.words) + left) = s.room in
    let here : 2 * r.place ≡ length (done ++ None ∷ None ∷ []) + gap = s.here in
    let len : length (done ++ None ∷ None ∷ []) ≡ length done + 2 = length-append done (None ∷ None ∷ []) in
    let joins : (done ++ None ∷ None ∷ []) ++ nones gap ≡ done ++ nones (2 + gap) = append_assoc done (None ∷ None ∷ []) (nones gap)
    ∙ ap (λ n. done ++ nones n) (let e : suc (suc gap) ≡ 2 + gap = omega arith in e) in
    let P : List (Option ℕ) → Type 0 = λ d. Holds (d ++ map Some (bytes_in r.words)) rs left final in
    (2 + gap, left, record { room = omega arith; here = omega arith; are_words = s.are_words; some = s.some }, subst P joins h)

-- a word alone in its run
alone : (done : List (Option ℕ)) (j w : ℕ) (rs : List Section) (k : ℕ) (final : List (Option ℕ)) → w < 65536 → length done ≡ 2 * j
    → Holds (done ++ Some (w % 256) ∷ Some (w / 256) ∷ []) rs k final → Holds done (record { place = j; words = w ∷ [] } ∷ rs) (2 + k) final
alone done j w rs k final h e l =
    let b : bytes_in (w ∷ []) ≡ w % 256 ∷ w / 256 ∷ [] = one_word w in
    let len : length (bytes_in (w ∷ [])) ≡ 2 = ap length b in
    let Q : List (Option ℕ) → Type 0 = λ d. Holds d rs k final in
    let joins : done ++ Some (w % 256) ∷ Some (w / 256) ∷ [] ≡ (done ++ []) ++ map Some (bytes_in (w ∷ [])) =
    ap (λ d. d ++ Some (w % 256) ∷ Some (w / 256) ∷ []) (sym (append-nil done)) ∙ ap (λ bs. (done ++ []) ++ map Some bs) (sym b) in
    (0, k, record { room = omega arith; here = omega arith; are_words = (h, tt); some = omega arith }, subst Q joins l)

-- a word before the first of a run
joined_on : (done : List (Option ℕ)) (j w : ℕ) (r : Section) (rs : List Section) (k : ℕ) (final : List (Option ℕ)) → w < 65536 → length done ≡ 2 * j
    → r.place ≡ j + 1
    → Holds (done ++ Some (w % 256) ∷ Some (w / 256) ∷ []) (r ∷ rs) k final → Holds done (record { place = j; words = w ∷ r.words } ∷ rs) (2 + k) final
joined_on done j w r rs k final h e at (gap, left, s, l) =
    let pair : List (Option ℕ) = Some (w % 256) ∷ Some (w / 256) ∷ [] in
    let len2 : length (done ++ pair) ≡ length done + 2 = length-append done pair in
    let here : 2 * r.place ≡ length (done ++ pair) + gap = s.here in
    let room : k ≡ gap + (length (bytes_in r.words) + left) = s.room in
    let none : gap ≡ 0 = omega arith in
    let b : bytes_in (w ∷ r.words) ≡ w % 256 ∷ w / 256 ∷ bytes_in r.words = more_words w r.words in
    let len : length (bytes_in (w ∷ r.words)) ≡ 2 + length (bytes_in r.words) = ap length b ∙ omega arith in
    let Q : List (Option ℕ) → Type 0 = λ d. Holds d rs left final in
    let joins : ((done ++ pair) ++ nones gap) ++ map Some (bytes_in r.words) ≡ (done ++ []) ++ map Some (bytes_in (w ∷ r.words)) =
    ap (λ g. ((done ++ pair) ++ nones g) ++ map Some (bytes_in r.words)) none
    ∙ ap (λ d. d ++ map Some (bytes_in r.words)) (append-nil (done ++ pair))
    ∙ append_assoc done pair (map Some (bytes_in r.words))
    ∙ ap (λ d. d ++ (pair ++ map Some (bytes_in r.words))) (sym (append-nil done))
    ∙ ap (λ bs. (done ++ []) ++ map Some bs) (sym b) in
    (0, left, record { room = omega arith; here = omega arith; are_words = (h, s.are_words); some = omega arith }, subst Q joins l)

-- where a word that is shown begins, its run does
abbrev BeginsAt : ℕ → List Section → Type 0
BeginsAt j [] = ⊥
BeginsAt j (r ∷ rs) = r.place ≡ j

begins_by : (t u : Bool) (j w : ℕ) (rs rest : List Section) → t ≡ true → BeginsAt j (if t then onto_section j w u rs else rest)
begins_by true true j w [] rest e = refl
begins_by true true j w (r ∷ rs) rest e = refl
begins_by true false j w rs rest e = refl
begins_by false u j w rs rest e = absurd (differ e)
  where
    differ : false ≡ true → ⊥
    differ e = cc

begins : (j : ℕ) (ws : List ℕ) → begins_shown j ws ≡ true → BeginsAt j (sections j ws)
unfolding sections
begins j [] e = cc
begins j (w ∷ ws) e = begins_by (is_shown j w) (begins_shown (j + 1) ws) j w (sections (j + 1) ws) (sections (j + 1) ws) e

onto_holds : (u : Bool) (done : List (Option ℕ)) (j w : ℕ) (rs : List Section) (k : ℕ) (final : List (Option ℕ)) → w < 65536 → length done ≡ 2 * j
    → (u ≡ true → BeginsAt (j + 1) rs)
    → Holds (done ++ Some (w % 256) ∷ Some (w / 256) ∷ []) rs k final → Holds done (onto_section j w u rs) (2 + k) final
onto_holds true done j w [] k final h e b l = absurd (b refl)
onto_holds true done j w (r ∷ rs) k final h e b l = joined_on done j w r rs k final h e (b refl) l
onto_holds false done j w rs k final h e b l = alone done j w rs k final h e l

word_holds : (t u : Bool) (done : List (Option ℕ)) (j w : ℕ) (rs : List Section) (k : ℕ) (final : List (Option ℕ)) → w < 65536 → length done ≡ 2 * j
    → (u ≡ true → BeginsAt (j + 1) rs)
    → Holds (done ++ places t w) rs k final → Holds done (if t then onto_section j w u rs else rs) (2 + k) final
word_holds true u done j w rs k final h e b l = onto_holds u done j w rs k final h e b l
word_holds false u done j w rs k final h e b l = shift done rs k final l

length_places : (t : Bool) (w : ℕ) → length (places t w) ≡ 2
length_places true w = refl
length_places false w = refl

-- the sections of words make the memory of these words
pub runs_hold : (done : List (Option ℕ)) (j : ℕ) (ws : List ℕ) → AreWords16 ws → length done ≡ 2 * j
    → Holds done (sections j ws) (2 * length ws) (done ++ spread j ws)
unfolding sections
runs_hold done j [] h e = refl
runs_hold done j (w ∷ ws) h e =
    let pair : List (Option ℕ) = places (is_shown j w) w in
    let next : List (Option ℕ) = done ++ pair in
    let len : length next ≡ 2 * (j + 1) = omega (arith, length-append done pair, length_places (is_shown j w) w) in
    let more = runs_hold next (j + 1) ws h.1 len in
    let P : List (Option ℕ) → Type 0 = λ f. Holds next (sections (j + 1) ws) (2 * length ws) f in
    let Q : ℕ → Type 0 =
    λ k. Holds done (if is_shown j w then onto_section j w (begins_shown (j + 1) ws) (sections (j + 1) ws) else sections (j + 1) ws) k
    (done ++ (pair ++ spread (j + 1) ws)) in
    subst Q (let k : 2 + 2 * length ws ≡ 2 * suc (length ws) = omega arith in k)
    (word_holds (is_shown j w) (begins_shown (j + 1) ws) done j w (sections (j + 1) ws) (2 * length ws) (done ++ (pair ++ spread (j + 1) ws)) h.0 e
    (begins (j + 1) ws)
    (subst P (append_assoc done pair (spread (j + 1) ws)) more))

-- a word that isn't shown is 0
hidden : (t : Bool) (j w : ℕ) → is_shown j w ≡ t → t ≡ false → w ≡ 0
hidden t j w e f = let h : is_shown j w ≡ false = e ∙ f in grind (arith, nat_tests, h)

words_pair : (a b : Option ℕ) (m : List (Option ℕ)) → words_of (a ∷ b ∷ m) ≡ (unwrap_or a 0 + 256 * unwrap_or b 0) ∷ words_of m
unfolding words_of
words_pair a b m = refl

word_by : (t : Bool) (j w : ℕ) (m : List (Option ℕ)) → is_shown j w ≡ t → words_of (places t w ++ m) ≡ w ∷ words_of m
word_by true j w m e = words_pair (Some (w % 256)) (Some (w / 256)) m ∙ ap (λ v. v ∷ words_of m) (omega arith)
word_by false j w m e = words_pair None None m ∙ ap (λ v. v ∷ words_of m) (let z : w ≡ 0 = hidden false j w e refl in omega arith)

no_words : words_of [] ≡ []
unfolding words_of
no_words = refl

-- the words of the memory that words make are these words
pub words_back : (j : ℕ) (ws : List ℕ) → words_of (spread j ws) ≡ ws
words_back j [] = no_words
words_back j (w ∷ ws) = word_by (is_shown j w) j w (spread (j + 1) ws) refl ∙ ap (λ r. w ∷ r) (words_back (j + 1) ws)

get_by : (t : Bool) (w : ℕ) (m : List (Option ℕ)) (i : ℕ) → (is_some (get_or m (2 * i) None) ≡ true) × (is_some (get_or m (2 * i + 1) None) ≡ true)
    → (is_some (get_or (places t w ++ m) (2 * suc i) None) ≡ true) × (is_some (get_or (places t w ++ m) (2 * suc i + 1) None) ≡ true)
get_by true w m i h = (rw (two_suc i) h.0, rw (two_suc' i) h.1)
  where
    two_suc : (i : ℕ) → 2 * suc i ≡ suc (suc (2 * i))
    two_suc i = omega arith

    two_suc' : (i : ℕ) → 2 * suc i + 1 ≡ suc (suc (2 * i + 1))
    two_suc' i = omega arith
get_by false w m i h = (rw (two_suc i) h.0, rw (two_suc' i) h.1)
  where
    two_suc : (i : ℕ) → 2 * suc i ≡ suc (suc (2 * i))
    two_suc i = omega arith

    two_suc' : (i : ℕ) → 2 * suc i + 1 ≡ suc (suc (2 * i + 1))
    two_suc' i = omega arith

first_by : (t : Bool) (w : ℕ) (m : List (Option ℕ)) → t ≡ true
    → (is_some (get_or (places t w ++ m) 0 None) ≡ true) × (is_some (get_or (places t w ++ m) 1 None) ≡ true)
first_by true w m e = (refl, refl)
first_by false w m e = cc

-- the bytes of a word that is shown are given
pub shown_given : (j i : ℕ) (ws : List ℕ) → i < length ws → is_shown (j + i) (get_or ws i 0) ≡ true
    → (is_some (get_or (spread j ws) (2 * i) None) ≡ true) × (is_some (get_or (spread j ws) (2 * i + 1) None) ≡ true)
shown_given j i [] h e = absurd (omega arith)
shown_given j zero (w ∷ ws) h e = first_by (is_shown j w) w (spread (j + 1) ws) (ap (λ k. is_shown k w) (let z : j ≡ j + 0 = omega arith in z) ∙ e)
shown_given j (suc i) (w ∷ ws) h e = get_by (is_shown j w) w (spread (j + 1) ws) i
    (shown_given (j + 1) i ws (omega arith) (ap (λ k. is_shown k (get_or ws i 0)) (let z : j + 1 + i ≡ j + suc i = omega arith in z) ∙ e))

-- the memory at first has nothing in it
pub empty_is : (n : ℕ) → empty n ≡ nones n
unfolding empty
empty_is zero = refl
empty_is (suc n) = ap (λ r. None ∷ r) (empty_is n)

no_lines : lines (printed []) ≡ []
unfolding printed pieces
no_lines = refl

none_blank : are_blank [] ≡ true
unfolding are_blank
none_blank = refl

not_blank : (ls rest : List (List ℕ)) (l : List ℕ) → ls ≡ l ∷ rest → no_fields (fields l) ≡ false → are_blank ls ≡ false
unfolding are_blank
not_blank ls rest l e h = rw (e, h) refl

-- the lines of a map aren't blank
map_lines_there : (m : MapValue) → are_blank (lines (map_text m)) ≡ false
unfolding map_fields
map_lines_there m =
    let words : AreWords (codes "map" ∷ []) = (omega arith, omega arith, tt) in
    not_blank _ _ _ (lines_printed (codes "map" ∷ []) _ words) (ap no_fields (fields_spaced (codes "map" ∷ []) words))

-- what stands behind an image is read as its map
behind_back : (o : Option MapValue) (n : ℕ) → IsReadBack o → map_behind n (lines (printed (map_part o))) ≡ Ok o
behind_back None n h = rw (no_lines, none_blank) refl
behind_back (Some m) n h = rw (map_lines_there m, (h n).1) refl

finished : (m : ℕ) (ws : List ℕ) (rest : List (List ℕ)) → length ws ≡ 24064
    → finish m (spread 0 ws) rest ≡ Ok (record { words = ws; rest = rest; line = m })
finished m ws rest e =
    let last : is_shown (0 + 24063) (get_or ws 24063 0) ≡ true = last_shown (get_or ws 24063 0) in
    let given = shown_given 0 24063 ws (omega arith) last in
    rw (given.0, given.1) (ap (λ ws. Ok (record { words = ws; rest = rest; line = m })) (words_back 0 ws))
  where
    last_by : (t : Bool) → (t || true) ≡ true
    last_by true = refl
    last_by false = refl

    last_shown : (w : ℕ) → is_shown (0 + 24063) w ≡ true
    last_shown w = last_by (not (w == 0))

-- what is printed of words reads back up to `q`
front_back : (k : ℕ) (ws : List ℕ) (more : List (List (List ℕ))) → AreWords16 ws → length ws ≡ 24064 → k ≡ 2 * length ws
    → (m : ℕ) × (read 1 (record { next = None; memory = empty k }) (lines (text_of ws ++ printed more))
    ≡ Ok (record { words = ws; rest = lines (printed more); line = m }))
unfolding text_of
front_back k ws more h e f =
    let P : ℕ → Type 0 = λ k. Holds [] (sections 0 ws) k (spread 0 ws) in
    let run = read_runs 1 None [] (sections 0 ws) k (spread 0 ws) more (subst P (sym f) (runs_hold [] 0 ws h refl)) (omega arith) in (
      run.0,
      ap (λ t. read 1 (record { next = None; memory = empty k }) (lines t)) (sym (printed_append (lines_of_sections (sections 0 ws)) more))
          ∙ ap (λ m. read 1 (record { next = None; memory = m }) (lines (printed (lines_of_sections (sections 0 ws) ++ more)))) (empty_is k) ∙ run.1
          ∙ finished run.0 ws (lines (printed more)) e,
    )

-- what is printed of an image is read as that image
pub image_back : (ws : List ℕ) (o : Option MapValue) → AreWords16 ws → length ws ≡ 24064 → IsReadBack o
    → image_of (text_of ws ++ printed (map_part o)) ≡ Ok (record { words = ws; map = o })
image_back ws o h e b =
    let k : 48128 ≡ 2 * length ws = omega arith in
    let front = front_back 48128 ws (map_part o) h e k in
    ap (λ r. r >>= λ f. image_behind f.line f.words f.rest) front.1
    ∙ ap (λ r. r >>= λ o. Ok (record { words = ws; map = o })) (behind_back o front.0 b)

-- words below 2^16, one after another
pub words16 : (ws : List ℕ) → All (λ w. w < 2 ^ 16) ws → AreWords16 ws
words16 [] h = tt
words16 (w ∷ ws) h = (h 0 w (omega arith), words16 ws (λ i d l. h (suc i) d (omega arith)))

-- the same, where the words are known by another list
pub printed_back : (ws rest text : List ℕ) (o : Option MapValue) → rest ≡ ws → length rest ≡ 24064 → All (λ (w : ℕ). w < 2 ^ 16) rest → IsReadBack o
    → text ≡ text_of ws ++ printed (map_part o)
    → image_of text ≡ Ok (record { words = ws; map = o })
printed_back ws rest text o e len ranges b is =
    let P : List ℕ → Type 0 = λ ws. image_of (text_of ws ++ printed (map_part o)) ≡ Ok (record { words = ws; map = o }) in
    ap image_of is ∙ subst P e (image_back rest o (words16 rest ranges) len b)
