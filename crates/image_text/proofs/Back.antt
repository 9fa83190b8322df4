-- Lines that are printed read back as what they say.
use Rattle.std.proofs.Common.{◌≡◌, ◌≤◌, ◌<◌, ℕ, suc, ◌+◌, ◌-◌, ◌/◌, ◌%◌, ◌==◌, List, [], ◌∷◌, ◌++◌, length, map, arith, refl, ap, sym, subst, ◌∙◌}
use Rattle.std.proofs.Common.{if◌then◌else◌, nat_lt, Bool, true, false, Option, Some, Ok, append_assoc, length-append, append-nil}
use Rattle.std.proofs.lemmas.Bool.Decides.{nat_tests}
use Rattle.std.specs.List.{concat}
use Rattle.text_parts.specs.Lines.{lines}
use Rattle.text_parts.specs.Fields.{fields, begins_blank}
use Rattle.text_parts.specs.Groups.{groups, groups_from, onto_group}
use Rattle.text_parts.specs.Hex.{upper_digit, upper_hex}
use Rattle.text_parts.specs.Printed.{spaced, printed}
use Rattle.text_parts.proofs.Interface.{AreWords, fields_spaced, lines_printed, not_blank, upper_inked, digit_upper}
use Rattle.image_text.specs.Line.{address, bytes, quit, line_says, front_says, fields_say, byte_of, bytes_of, address_of, bytes_said, ◌>>?◌}
use Rattle.image_text.specs.Memory.{Placed, step}
use Rattle.image_text.specs.Reading.{read}
use Rattle.image_text.specs.Text.{upper_hex4, bytes_in}
use Rattle.image_text.proofs.Lines.{read_next}
use Rattle.image_text.proofs.Places.{nones, put_seam}

upper_other : (d : ℕ) → d < 16 → ((upper_digit d == 64) ≡ false) × ((upper_digit d == 113) ≡ false) × ((upper_digit d == 81) ≡ false)
upper_other d h = (grind (arith, nat_tests), grind (arith, nat_tests), grind (arith, nat_tests))

byte_back : (b : ℕ) → b < 256 → byte_of (upper_hex b) ≡ Some b
unfolding upper_hex
byte_back b h =
    rw (digit_upper (b / 16) (omega arith), digit_upper (b % 16) (omega arith)) (ap Some (omega arith))

-- bytes below 256
abbrev pub AreBytes : List ℕ → Type 0
AreBytes [] = Unit {0}
AreBytes (b ∷ bs) = (b < 256) × AreBytes bs

pub bytes_back : (bs : List ℕ) → AreBytes bs → bytes_of (map upper_hex bs) ≡ Some bs
bytes_back [] h = refl
bytes_back (b ∷ bs) h = rw (byte_back b h.0, bytes_back bs h.1) refl

upper_hex_words : (b : ℕ) (ws : List (List ℕ)) → b < 256 → AreWords ws → AreWords (upper_hex b ∷ ws)
unfolding upper_hex
upper_hex_words b ws h k = (upper_inked (b / 16) (omega arith), (upper_inked (b % 16) (omega arith), tt), k)

bytes_words : (bs : List ℕ) → AreBytes bs → AreWords (map upper_hex bs)
bytes_words [] h = tt
bytes_words (b ∷ bs) h = upper_hex_words b (map upper_hex bs) h.0 (bytes_words bs h.1)

one_byte : (b : ℕ) → b < 256 → fields_say (upper_hex b ∷ []) ≡ bytes_said (upper_hex b ∷ [])
unfolding upper_hex
one_byte b h = let o = upper_other (b / 16) (omega arith) in rw (o.0, o.1, o.2) refl

bytes_say : (b : ℕ) (bs : List ℕ) → AreBytes (b ∷ bs) → fields_say (map upper_hex (b ∷ bs)) ≡ Some (bytes (b ∷ bs))
unfolding upper_hex
bytes_say b [] h = one_byte b h.0 ∙ ap (λ o. o >>? λ bs. Some (bytes bs)) (bytes_back (b ∷ []) h)
bytes_say b (c ∷ bs) h = ap (λ o. o >>? λ bs. Some (bytes bs)) (bytes_back (b ∷ c ∷ bs) h)

-- a printed line begins with no blank
begins_inked : (w : List ℕ) (ws : List (List ℕ)) → AreWords (w ∷ ws) → begins_blank (spaced (w ∷ ws)) ≡ false
begins_inked [] ws h = absurd h
begins_inked (b ∷ bs) [] h = not_blank b h.0
begins_inked (b ∷ bs) (v ∷ vs) h = not_blank b h.0

line_back : (w : List ℕ) (ws : List (List ℕ)) → AreWords (w ∷ ws) → line_says (spaced (w ∷ ws)) ≡ fields_say (w ∷ ws)
unfolding line_says
line_back w ws h = ap (λ b. front_says b (fields (spaced (w ∷ ws)))) (begins_inked w ws h) ∙ ap fields_say (fields_spaced (w ∷ ws) h)

pub line_bytes : (b : ℕ) (bs : List ℕ) → AreBytes (b ∷ bs) → line_says (spaced (map upper_hex (b ∷ bs))) ≡ Some (bytes (b ∷ bs))
line_bytes b bs h = line_back (upper_hex b) (map upper_hex bs) (bytes_words (b ∷ bs) h) ∙ bytes_say b bs h

pub upper_hex4_words : (a : ℕ) → a < 65536 → AreWords ((64 ∷ upper_hex4 a) ∷ [])
unfolding upper_hex upper_hex4
upper_hex4_words a h = (
  omega arith,
  (
    upper_inked (a / 256 / 16) (omega arith),
    (upper_inked (a / 256 % 16) (omega arith), (upper_inked (a % 256 / 16) (omega arith), (upper_inked (a % 256 % 16) (omega arith), tt))),
  ),
  tt,
)

is_four : (a : ℕ) → a < 65536 → address_of (upper_hex4 a) ≡ Some a
unfolding upper_hex upper_hex4
is_four a h =
    rw (
      digit_upper (a / 256 / 16) (omega arith),
      digit_upper (a / 256 % 16) (omega arith),
      digit_upper (a % 256 / 16) (omega arith),
      digit_upper (a % 256 % 16) (omega arith),
    ) (ap Some (omega arith))

pub line_at : (a : ℕ) → a < 65536 → line_says (spaced ((64 ∷ upper_hex4 a) ∷ [])) ≡ Some (address a)
line_at a h = line_back (64 ∷ upper_hex4 a) [] (upper_hex4_words a h) ∙ ap (λ o. o >>? λ a. Some (address a)) (is_four a h)

pub line_quit : line_says (113 ∷ []) ≡ Some quit
line_quit = line_back (113 ∷ []) [] (omega arith, tt, tt)

-- groups of bytes, none empty
abbrev pub AreGroups : List (List ℕ) → Type 0
AreGroups [] = Unit {0}
AreGroups ([] ∷ gs) = ⊥
AreGroups ((b ∷ bs) ∷ gs) = AreBytes (b ∷ bs) × AreGroups gs

-- the reader where the next byte stands right behind what is placed, and so many places are left
abbrev pub seam : List (Option ℕ) → ℕ → Placed
seam done k = record { next = Some (17408 + length done); memory = done ++ nones k }

pub length_some : (bs : List ℕ) → length (map Some bs) ≡ length bs
length_some [] = refl
length_some (b ∷ bs) = ap suc (length_some bs)

step_bytes : (n : ℕ) (done : List (Option ℕ)) (bs : List ℕ) (k : ℕ) → 17408 + length done + length bs ≤ 65536
    → step n (seam done (length bs + k)) (Some (bytes bs)) ≡ Ok (true, seam (done ++ map Some bs) k)
step_bytes n done bs k h =
    let low : nat_lt (17408 + length done) 17408 ≡ false = grind (arith, nat_tests) in
    let high : nat_lt 65536 (17408 + length done + length bs) ≡ false = grind (arith, nat_tests) in
    let index : 17408 + length done - 17408 ≡ length done = omega arith in
    let len : 17408 + length done + length bs ≡ 17408 + length (done ++ map Some bs) = omega (arith, length-append done (map Some bs), length_some bs) in
    rw (low, high) (rw index (rw (put_seam done bs (length done) k refl)
    (ap (λ a. Ok (true, record { next = Some a; memory = (done ++ map Some bs) ++ nones k })) len)))

-- words below 65536
abbrev pub AreWords16 : List ℕ → Type 0
AreWords16 [] = Unit {0}
AreWords16 (w ∷ ws) = (w < 65536) × AreWords16 ws

pub more_words : (w : ℕ) (ws : List ℕ) → bytes_in (w ∷ ws) ≡ w % 256 ∷ w / 256 ∷ bytes_in ws
unfolding bytes_in
more_words w ws = refl

no_words : bytes_in [] ≡ []
unfolding bytes_in
no_words = refl

pub one_word : (w : ℕ) → bytes_in (w ∷ []) ≡ w % 256 ∷ w / 256 ∷ []
one_word w = more_words w [] ∙ ap (λ r. w % 256 ∷ w / 256 ∷ r) no_words

-- a word more at the front of bytes
joined_by : (t : Bool) (w : ℕ) (ws : List ℕ) (x y : List (List ℕ)) → concat (map bytes_in x) ≡ bytes_in ws → concat (map bytes_in y) ≡ bytes_in ws
    → concat (map bytes_in (if t then (w ∷ []) ∷ x else onto_group w y)) ≡ bytes_in (w ∷ ws)
joined_by true w ws x y e f = ap (λ b. b ++ concat (map bytes_in x)) (one_word w) ∙ ap (λ r. w % 256 ∷ w / 256 ∷ r) e ∙ sym (more_words w ws)
joined_by false w ws x [] e f = ap (λ b. b ++ []) (one_word w) ∙ ap (λ r. w % 256 ∷ w / 256 ∷ r) f ∙ sym (more_words w ws)
joined_by false w ws x (g ∷ gs) e f = ap (λ b. b ++ concat (map bytes_in gs)) (more_words w g) ∙ ap (λ r. w % 256 ∷ w / 256 ∷ r) f ∙ sym (more_words w ws)

joined_from : (k : ℕ) (ws : List ℕ) → concat (map bytes_in (groups_from 8 k ws)) ≡ bytes_in ws
unfolding groups_from
joined_from k [] = sym no_words
joined_from k (w ∷ ws) = joined_by (k == 1) w ws (groups 8 ws) (groups_from 8 (k - 1) ws) (joined_from 8 ws) (joined_from (k - 1) ws)

-- the bytes of the groups are the bytes of the words
pub joined_groups : (ws : List ℕ) → concat (map bytes_in (groups 8 ws)) ≡ bytes_in ws
joined_groups ws = joined_from 8 ws

groups_by : (t : Bool) (w : ℕ) (x y : List (List ℕ)) → w < 65536 → AreGroups (map bytes_in x) → AreGroups (map bytes_in y)
    → AreGroups (map bytes_in (if t then (w ∷ []) ∷ x else onto_group w y))
groups_by true w x y h e f = rw (one_word w) ((omega arith, (omega arith, tt)), e)
groups_by false w x [] h e f = rw (one_word w) ((omega arith, (omega arith, tt)), tt)
groups_by false w x ([] ∷ gs) h e f = let P : List ℕ → Type 0 = λ g. AreGroups (g ∷ map bytes_in gs) in absurd (subst P no_words f)
groups_by false w x ((v ∷ vs) ∷ gs) h e f =
    let P : List ℕ → Type 0 = λ g. AreGroups (g ∷ map bytes_in gs) in
    let k = subst P (more_words v vs) f in
    subst P (sym (more_words w (v ∷ vs) ∙ ap (λ r. w % 256 ∷ w / 256 ∷ r) (more_words v vs))) ((omega arith, (omega arith, k.0)), k.1)

groups_are : (k : ℕ) (ws : List ℕ) → AreWords16 ws → AreGroups (map bytes_in (groups_from 8 k ws))
unfolding groups_from
groups_are k [] h = tt
groups_are k (w ∷ ws) h = groups_by (k == 1) w (groups 8 ws) (groups_from 8 (k - 1) ws) h.0 (groups_are 8 ws h.1) (groups_are (k - 1) ws h.1)

-- no group is empty, and each holds bytes
pub are_groups : (ws : List ℕ) → AreWords16 ws → AreGroups (map bytes_in (groups 8 ws))
are_groups ws h = groups_are 8 ws h

pub read_groups : (n : ℕ) (done : List (Option ℕ)) (gs : List (List ℕ)) (k : ℕ) (rest : List (List (List ℕ))) → AreGroups gs
    → 17408 + length done + length (concat gs) ≤ 65536
    → read n (seam done (length (concat gs) + k)) (lines (printed (map (map upper_hex) gs ++ rest)))
    ≡ read (n + length gs) (seam (done ++ map Some (concat gs)) k) (lines (printed rest))
read_groups n done [] k rest h l = ap (λ m. read m (seam done (0 + k)) (lines (printed rest))) (let e : n ≡ n + 0 = omega arith in e)
    ∙ ap (λ j. read (n + 0) (record { next = Some (17408 + length done); memory = done ++ nones j }) (lines (printed rest))) (let e : 0 + k ≡ k = omega arith in
    e)
    ∙ ap (λ d. read (n + 0) (seam d k) (lines (printed rest))) (sym (append-nil done))
read_groups n done ([] ∷ gs) k rest h l = absurd h
read_groups n done ((b ∷ bs) ∷ gs) k rest h l =
    let g : List ℕ = b ∷ bs in
    let len : length (g ++ concat gs) ≡ length g + length (concat gs) = length-append g (concat gs) in
    let room : 17408 + length done + length g ≤ 65536 = omega arith in
    let next : List (Option ℕ) = done ++ map Some g in
    let grown : length next ≡ length done + length g = omega (arith, length-append done (map Some g), length_some g) in
    let split : length (g ++ concat gs) + k ≡ length g + (length (concat gs) + k) = omega arith in
    let one = read_next n (seam done (length g + (length (concat gs) + k))) (seam next (length (concat gs) + k)) _ _ _ true
    (lines_printed (map upper_hex g) (map (map upper_hex) gs ++ rest) (bytes_words g h.0))
    (ap (step n (seam done (length g + (length (concat gs) + k)))) (line_bytes b bs h.0) ∙ step_bytes n done g (length (concat gs) + k) room) refl in
    ap (λ j. read n (seam done j) (lines (printed (map (map upper_hex) (g ∷ gs) ++ rest)))) split
    ∙ sym one
    ∙ read_groups (n + 1) next gs k rest h.1 (omega arith)
    ∙ ap (λ m. read m (seam (next ++ map Some (concat gs)) k) (lines (printed rest))) (let e : n + 1 + length gs ≡ n + suc (length gs) = omega arith in e)
    ∙ ap (λ d. read (n + suc (length gs)) (seam d k) (lines (printed rest)))
    (append_assoc done (map Some g) (map Some (concat gs)) ∙ ap (λ r. done ++ r) (sym (map_append g (concat gs))))
  where
    map_append : (xs ys : List ℕ) → map Some (xs ++ ys) ≡ map Some xs ++ map Some ys
    map_append [] ys = refl
    map_append (x ∷ xs) ys = ap (λ r. Some x ∷ r) (map_append xs ys)
