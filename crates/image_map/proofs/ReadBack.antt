-- What is printed of a map reads back as that map.
use Rattle.std.proofs.Common.{◌≡◌, ◌≤◌, ◌<◌, ◌^◌, ℕ, suc, ◌+◌, ◌*◌, ◌/◌, ◌%◌, ◌&&◌, List, [], ◌∷◌, ◌++◌, length, map, arith, refl, ap, sym, subst}
use Rattle.std.proofs.Common.{not, ◌∙◌, if◌then◌else◌, nat_lt, nat_le, Bool, true, false, Option, Some, None, Result, Ok, Err, append_assoc, All}
use Rattle.std.proofs.Common.{codes, append-nil}
use Rattle.std.specs.Fmt.{decimal}
use Rattle.std.specs.Prelude.{IfSome}
use Rattle.std.specs.Char.{is_ascii_digit}
use Rattle.std.specs.List.{list_all}
use Rattle.std.specs.Str.{bytes_eq}
use Rattle.std.proofs.lemmas.Bool.Decides.{nat_tests}
use Rattle.std.proofs.lemmas.Bool.{and_parts}
use Rattle.alp_text.specs.Numbers.{number_of, limited}
use Rattle.alp_text.proofs.Interface.{decimal_spells, number_back, no_x}
use Rattle.text_parts.specs.Lines.{lines, pieces}
use Rattle.text_parts.specs.Fields.{is_blank}
use Rattle.text_parts.specs.Hex.{upper_digit, upper_hex}
use Rattle.text_parts.specs.Printed.{spaced, printed}
use Rattle.text_parts.proofs.Interface.{Inked, AreWords, fields_spaced, lines_printed, not_blank, upper_inked, decimal_word}
use Rattle.image_map.specs.declared.fault.MapFault.{MapFault}
use Rattle.image_map.specs.declared.fault.MapFault.TheVariants.{BadMap}
use Rattle.image_map.specs.declared.parts.RuntimeWords.{RuntimeWords}
use Rattle.image_map.specs.declared.parts.Place.{Place}
use Rattle.image_map.specs.declared.parts.RingPlaces.{RingPlaces}
use Rattle.image_map.specs.declared.parts.ValueType.{ValueType}
use Rattle.image_map.specs.declared.parts.ValueType.TheVariants as value_type
use Rattle.image_map.specs.declared.parts.Variable.{Variable}
use Rattle.image_map.specs.Names.{is_name, is_name_byte, name_of}
use Rattle.image_map.specs.MapValue.{MapValue, TaskValue, IsFramWord, AreFramWords, IsPlace, IsRing, IsVariable, fits, ring_words, word_count}
use Rattle.image_map.specs.Kept.{IsMap}
use Rattle.image_map.specs.MapValue.{are_scalars, takes_variable, takes_task, takes_private, with_private}
use Rattle.image_map.specs.Line.{single_from, line_fields, address_digit, address_of, fram_word, decimal_below, type_of, bound_of, words_of, place_of, start_of}
use Rattle.image_map.specs.Line.{ring_of}
use Rattle.image_map.specs.Reading.{◌>>=◌, take_line, take_optional, take_copies, with_copies, take_ring, with_ring, rest_lines, ring_lines}
use Rattle.image_map.specs.Reading.{head, step, body, map_lines, put_variable, put_task, put_private}
use Rattle.image_map.specs.Named.{AreTaskNames}
use Rattle.image_map.specs.ReadsBack.{ReadsBack}
use Rattle.image_map.specs.Text.{address_text, runtime_fields, place_fields, type_text, sized_fields, variable_fields, private_fields, tasks_fields}
use Rattle.image_map.specs.Text.{copies_fields, ring_line, ring_fields, head_fields, map_fields}
use Rattle.image_map.proofs.Bodies.{body_next, body_done}
use Rattle.image_map.proofs.Taking.{fram_test, variables_alone, tasks_alone, task_with, middle, takes_next_variable, takes_next_task, takes_next_private}
use Rattle.image_map.proofs.Taking.{onto_of}

-- fields as words of a line

address_word : (a : ℕ) (ws : List (List ℕ)) → a < 65536 → AreWords ws → AreWords (address_text a ∷ ws)
unfolding address_text upper_hex
address_word a ws h l = (
  upper_inked (a / 256 / 16) (omega arith),
  (upper_inked (a / 256 % 16) (omega arith), (upper_inked (a % 256 / 16) (omega arith), (upper_inked (a % 256 % 16) (omega arith), tt))),
  l,
)

name_byte_inked : (b : ℕ) → is_name_byte b ≡ true → 36 < b
name_byte_inked b h = grind (arith, nat_tests, h)

name_inked : (bs : List ℕ) → list_all is_name_byte bs ≡ true → Inked bs
name_inked [] h = tt
name_inked (b ∷ bs) h = let p = and_parts (is_name_byte b) (list_all is_name_byte bs) h in (name_byte_inked b p.0, name_inked bs p.1)

name_word : (n : List ℕ) (ws : List (List ℕ)) → is_name n ≡ true → AreWords ws → AreWords (n ∷ ws)
name_word [] ws h l = cc
name_word (b ∷ bs) ws h l =
    let p = and_parts (nat_le (length (b ∷ bs)) 31) (not (is_ascii_digit b) && list_all is_name_byte (b ∷ bs)) h in
    let q = and_parts (not (is_ascii_digit b)) (list_all is_name_byte (b ∷ bs)) p.1 in
    let i = name_inked (b ∷ bs) q.1 in
    (i.0, i.1, l)

type_word : (t : ValueType) (ws : List (List ℕ)) → AreWords ws → AreWords (type_text t ∷ ws)
type_word value_type.Unsigned ws l = (omega arith, omega arith, l)
type_word value_type.Int ws l = (omega arith, omega arith, l)
type_word value_type.Long ws l = (omega arith, omega arith, l)

-- a printed line has single spaces

single_word : (apart : Bool) (b : ℕ) (bs rest : List ℕ) → 36 < b → Inked bs → single_from apart (b ∷ (bs ++ rest)) ≡ single_from false rest
single_word apart b [] rest h i = rw (not_blank b h) refl
single_word apart b (c ∷ bs) rest h i = rw (not_blank b h) (single_word false c bs rest i.0 i.1)

single_space : (rest : List ℕ) → single_from false (32 ∷ rest) ≡ single_from true rest
unfolding is_blank
single_space rest = refl

single_spaced : (w : List ℕ) (ws : List (List ℕ)) → AreWords (w ∷ ws) → single_from true (spaced (w ∷ ws)) ≡ true
single_spaced [] ws h = absurd h
single_spaced (b ∷ bs) [] h = ap (λ r. single_from true (b ∷ r)) (sym (append-nil bs)) ∙ single_word true b bs [] h.0 h.1
single_spaced (b ∷ bs) (v ∷ vs) h = single_word true b bs (32 ∷ spaced (v ∷ vs)) h.0 h.1 ∙ single_space (spaced (v ∷ vs)) ∙ single_spaced v vs h.2

pub line_back : (w : List ℕ) (ws : List (List ℕ)) → AreWords (w ∷ ws) → line_fields (spaced (w ∷ ws)) ≡ w ∷ ws
unfolding line_fields
line_back w ws h = rw (single_spaced w ws h) (fields_spaced (w ∷ ws) h)

-- fields read back

digit_back : (d : ℕ) → d < 16 → address_digit (upper_digit d) ≡ Some d
unfolding address_digit
digit_back d h = grind (arith, nat_tests)

fram_back : (a b : ℕ) → a ≡ b → IsFramWord a → fram_word b ≡ Some a
fram_back a b e h = ap fram_word (sym e) ∙ ap (λ t. if t then Some a else None) (fram_test a h)

address_back : (a : ℕ) → IsFramWord a → address_of (address_text a) ≡ Some a
unfolding address_text upper_hex
address_back a h =
    let high = h.high in
    rw (
      digit_back (a / 256 / 16) (omega arith),
      digit_back (a / 256 % 16) (omega arith),
      digit_back (a % 256 / 16) (omega arith),
      digit_back (a % 256 % 16) (omega arith),
    )
    (fram_back a (4096 * (a / 256 / 16) + 256 * (a / 256 % 16) + 16 * (a % 256 / 16) + a % 256 % 16) (omega arith) h)

pub decimal_back : (limit n : ℕ) → n < limit → limit ≤ 2 ^ 64 → decimal_below limit (decimal n) ≡ Some n
decimal_back limit n h k =
    let small : nat_lt n limit ≡ true = grind (arith, nat_tests) in
    let s = decimal_spells n (omega arith) in
    ap (λ t. if t then None else limited limit (number_of (decimal n))) (no_x (decimal n) s.digits)
    ∙ ap (limited limit) (number_back n (omega arith)) ∙ ap (λ t. if t then Some n else None) small

type_back : (t : ValueType) → type_of (type_text t) ≡ Some t
type_back value_type.Unsigned = refl
type_back value_type.Int = refl
type_back value_type.Long = refl

name_back : (n : List ℕ) → is_name n ≡ true → name_of n ≡ Some n
name_back n h = ap (λ t. if t then Some n else None) h

-- the six lines before the variables

word_map : AreWords ((codes "map") ∷ [])
word_map = (omega arith, omega arith, tt)

-- one line taken
taken : {A : Type 0} (says : List (List ℕ) → Option A) (n : ℕ) (w : List ℕ) (ws : List (List ℕ)) (more : List (List (List ℕ))) (x : A) → AreWords (w ∷ ws)
    → says (w ∷ ws) ≡ Some x
    → take_line says n (lines (printed ((w ∷ ws) ∷ more))) ≡ Ok (x, lines (printed more))
taken says n w ws more x h e =
    rw (lines_printed (w ∷ ws) more h, line_back w ws h, e) refl

bound_back : (b : ℕ) → b < 2 ^ 32 → bound_of (codes "bound" ∷ decimal b ∷ []) ≡ Some b
bound_back b h = rw (decimal_back (2 ^ 32) b h (omega arith)) refl

words_back : (w : RuntimeWords) → AreFramWords w → words_of (runtime_fields w) ≡ Some w
words_back w h = rw (
  address_back w.current_task h.current_task,
  address_back w.next_task h.next_task,
  address_back w.gate h.gate,
  address_back w.list_length h.list_length,
  address_back w.emit_count h.emit_count,
  address_back w.base h.base,
  address_back w.sent_base h.sent_base,
  address_back w.version h.version,
) refl

runtime_words : (w : RuntimeWords) → AreFramWords w → AreWords (runtime_fields w)
runtime_words w h = (
  omega arith,
  omega arith,
  address_word w.current_task _ h.current_task.high
      (address_word w.next_task _ h.next_task.high (address_word w.gate _ h.gate.high (address_word w.list_length _ h.list_length.high
      (address_word w.emit_count _ h.emit_count.high
      (address_word w.base _ h.base.high (address_word w.sent_base _ h.sent_base.high (address_word w.version [] h.version.high tt))))))),
)

place_words : (p : Place) → IsPlace p → AreWords (address_text p.address ∷ decimal p.capacity ∷ [])
place_words p h = let c = h.capacity in address_word p.address _ h.address.high (decimal_word p.capacity [] (omega arith) tt)

list_back : (p : Place) → IsPlace p → place_of (codes "list") (place_fields (codes "list") p) ≡ Some p
list_back p h = rw (address_back p.address h.address, decimal_back (2 ^ 32) p.capacity h.capacity (omega arith)) refl

emits_back : (p : Place) → IsPlace p → place_of (codes "emits") (place_fields (codes "emits") p) ≡ Some p
emits_back p h = rw (address_back p.address h.address, decimal_back (2 ^ 32) p.capacity h.capacity (omega arith)) refl

versions_back : (p : Place) → IsPlace p → place_of (codes "versions") (place_fields (codes "versions") p) ≡ Some p
versions_back p h = rw (address_back p.address h.address, decimal_back (2 ^ 32) p.capacity h.capacity (omega arith)) refl

copies_back : (p : Place) → IsPlace p → place_of (codes "copies") (place_fields (codes "copies") p) ≡ Some p
copies_back p h = rw (address_back p.address h.address, decimal_back (2 ^ 32) p.capacity h.capacity (omega arith)) refl

ring_back : (r : RingPlaces) → IsRing r → ring_of (ring_line r) ≡ Some r
ring_back r h = rw (
  address_back r.head h.head,
  address_back r.tail h.tail,
  address_back r.event_count h.event_count,
  address_back r.sent_tail h.sent_tail,
  address_back r.answer h.answer,
  address_back r.slots h.slots,
  decimal_back (2 ^ 16) ring_words (omega arith) (omega arith),
) (ap (λ t. if t then Some r else None) h.fits)

ring_line_words : (r : RingPlaces) → IsRing r → AreWords (ring_line r)
ring_line_words r h = (
  omega arith,
  omega arith,
  address_word r.head _ h.head.high
      (address_word r.tail _ h.tail.high (address_word r.event_count _ h.event_count.high (address_word r.sent_tail _ h.sent_tail.high
      (address_word r.answer _ h.answer.high (address_word r.slots _ h.slots.high (decimal_word ring_words [] (omega arith) tt)))))),
)

-- a map without its copies, its ring, its variables and tasks
abbrev bare : MapValue → MapValue
bare m = record m { copies = None; ring = None; variables = []; tasks = [] }

head_back : (m : MapValue) (n : ℕ) (more : List (List (List ℕ))) → IsMap m
    → head n (lines (printed (head_fields m ++ more))) ≡ Ok (bare m, lines (printed more))
head_back m n more h =
    let b = h.bound in
    let versions : List (List (List ℕ)) = place_fields (codes "versions") m.versions ∷ more in
    let emits : List (List (List ℕ)) = place_fields (codes "emits") m.emits ∷ versions in
    let list : List (List (List ℕ)) = place_fields (codes "list") m.list ∷ emits in
    let words : List (List (List ℕ)) = runtime_fields m.words ∷ list in
    let bound : List (List (List ℕ)) = (codes "bound" ∷ decimal m.bound ∷ []) ∷ words in
    rw (
      taken start_of n (codes "map") [] bound true word_map refl,
      taken bound_of (n + 1) (codes "bound") (decimal m.bound ∷ []) words m.bound (omega arith, omega arith, decimal_word m.bound [] (omega arith) tt)
          (bound_back m.bound h.bound),
      taken words_of (n + 2) (codes "words") _ list m.words (runtime_words m.words h.words) (words_back m.words h.words),
      taken (place_of (codes "list")) (n + 3) (codes "list") _ emits m.list (omega arith, omega arith, place_words m.list h.list) (list_back m.list h.list),
      taken (place_of (codes "emits")) (n + 4) (codes "emits") _ versions m.emits (omega arith, omega arith, place_words m.emits h.emits)
          (emits_back m.emits h.emits),
      taken (place_of (codes "versions")) (n + 5) (codes "versions") _ more m.versions (omega arith, omega arith, place_words m.versions h.versions)
          (versions_back m.versions h.versions),
    ) refl

-- the lines that may be left out

-- lines whose first begins with another word than this
abbrev BeginsOtherwise : List ℕ → List (List (List ℕ)) → Type 0
BeginsOtherwise word [] = ⊥
BeginsOtherwise word ([] ∷ more) = ⊥
BeginsOtherwise word ((w ∷ ws) ∷ more) = AreWords (w ∷ ws) × (bytes_eq w word ≡ false)

-- a line that says it
present : {A : Type 0} (says : List (List ℕ) → Option A) (k : ℕ) (w : List ℕ) (ws : List (List ℕ)) (more : List (List (List ℕ))) (x : A) → AreWords (w ∷ ws)
    → says (w ∷ ws) ≡ Some x
    → take_optional says k (lines (printed ((w ∷ ws) ∷ more))) ≡ record { value = Some x; rest = lines (printed more); line = k + 1 }
present says k w ws more x h e = rw (lines_printed (w ∷ ws) more h, line_back w ws h, e) refl

-- a line that doesn't
absent : {A : Type 0} (says : List (List ℕ) → Option A) (k : ℕ) (w : List ℕ) (ws : List (List ℕ)) (more : List (List (List ℕ))) → AreWords (w ∷ ws)
    → says (w ∷ ws) ≡ None
    → take_optional says k (lines (printed ((w ∷ ws) ∷ more))) ≡ record { value = None; rest = lines (printed ((w ∷ ws) ∷ more)); line = k }
absent says k w ws more h e = rw (lines_printed (w ∷ ws) more h, line_back w ws h, e) refl

no_copies : (k : ℕ) (more : List (List (List ℕ))) → BeginsOtherwise (codes "copies") more
    → take_copies k (lines (printed more)) ≡ record { value = None; rest = lines (printed more); line = k }
no_copies k [] h = absurd h
no_copies k ([] ∷ more) h = absurd h
no_copies k ((w ∷ ws) ∷ more) h = absent (place_of (codes "copies")) k w ws more h.0 (rw h.1 refl)

no_ring : (k : ℕ) (more : List (List (List ℕ))) → BeginsOtherwise (codes "ring") more
    → take_ring k (lines (printed more)) ≡ record { value = None; rest = lines (printed more); line = k }
no_ring k [] h = absurd h
no_ring k ([] ∷ more) h = absurd h
no_ring k ((w ∷ ws) ∷ more) h = absent ring_of k w ws more h.0 (rw h.1 refl)

-- the place of the copies reads back, where other lines stand behind
copies_read : (m : MapValue) (o : Option Place) (k : ℕ) (more : List (List (List ℕ))) → IfSome o IsPlace → BeginsOtherwise (codes "copies") more
    → (j : ℕ) × (with_copies m (take_copies k (lines (printed (copies_fields o ++ more))))
    ≡ record { value = record m { copies = o }; rest = lines (printed more); line = j })
copies_read m None k more h e = (k, ap (with_copies m) (no_copies k more e))
copies_read m (Some p) k more h e = (
  k + 1,
  ap (with_copies m) (present (place_of (codes "copies")) k (codes "copies") _ more p (omega arith, omega arith, place_words p h) (copies_back p h)),
)

-- the ring reads back, where other lines stand behind
ring_read : (m : MapValue) (o : Option RingPlaces) (k : ℕ) (more : List (List (List ℕ))) → IfSome o IsRing → BeginsOtherwise (codes "ring") more
    → (j : ℕ) × (with_ring m (take_ring k (lines (printed (ring_fields o ++ more))))
    ≡ record { value = record m { ring = o }; rest = lines (printed more); line = j })
ring_read m None k more h e = (k, ap (with_ring m) (no_ring k more e))
ring_read m (Some r) k more h e = (k + 1, ap (with_ring m) (present ring_of k (codes "ring") _ more r (ring_line_words r h) (ring_back r h)))

-- the lines of variables and tasks

small_length : (a n : ℕ) → fits a n ≡ true → n < 2 ^ 16
small_length a n h = let p = and_parts (nat_lt 0 n) (nat_le (a + 2 * n) 65536) h in let k : nat_le (a + 2 * n) 65536 ≡ true = p.1 in grind (arith, nat_tests, k)

sized_words : (o : Option ℕ) (name : List ℕ) (t : ValueType) (a : ℕ) → IsFramWord a → is_name name ≡ true → fits a (word_count t o) ≡ true
    → AreWords (sized_fields o name t a)
sized_words None name t a h k f = (omega arith, omega arith, name_word name _ k (type_word t _ (address_word a [] h.high tt)))
sized_words (Some n) name t a h k f = let l = small_length a n f in
    (omega arith, omega arith, name_word name _ k (type_word t _ (address_word a _ h.high (decimal_word n [] (omega arith) tt))))

variable_step : (o : Option ℕ) (i : ℕ) (m : MapValue) (name : List ℕ) (t : ValueType) (a : ℕ) → IsFramWord a → is_name name ≡ true
    → fits a (word_count t o) ≡ true
    → step i m (sized_fields o name t a) ≡ put_variable i m (Some (record { name = name; value_type = t; address = a; length = o }))
variable_step None i m name t a h k f = rw (name_back name k, type_back t, address_back a h) refl
variable_step (Some n) i m name t a h k f =
    rw (name_back name k, type_back t, address_back a h, decimal_back (2 ^ 16) n (small_length a n f) (omega arith)) refl

-- what is put where the rules allow it
abbrev put_if : Bool → ℕ → MapValue → Result (Bool × MapValue) MapFault
put_if t i m = if t then Ok (true, m) else Err (BadMap i)

put_by : (i : ℕ) (t : Bool) (m : MapValue) → t ≡ true → put_if t i m ≡ Ok (true, m)
put_by i true m h = refl
put_by i false m h = cc

read_variables : (m : MapValue) → IsMap m → All (λ v. is_name v.name ≡ true) m.variables → (i : ℕ) (done rest : List Variable) (more : List (List (List ℕ)))
    → m.variables ≡ done ++ rest
    → (k : ℕ) × (body i (variables_alone m done) (lines (printed (map variable_fields rest ++ more))) ≡ body k (variables_alone m m.variables)
    (lines (printed more)))
read_variables m h names i done [] more e = (i, ap (λ vs. body i (variables_alone m vs) (lines (printed more))) (sym (append-nil done) ∙ sym e))
read_variables m h names i done (v ∷ rest) more e =
    let P : List Variable → Type 0 = λ vs. All IsVariable vs in
    let Q : List Variable → Type 0 = λ vs. All (λ v. is_name v.name ≡ true) vs in
    let is = middle IsVariable done rest v (subst P e h.variables) in
    let named = middle (λ v. is_name v.name ≡ true) done rest v (subst Q e names) in
    let ls : List (List (List ℕ)) = map variable_fields rest ++ more in
    let words : AreWords (variable_fields v) = sized_words v.length v.name v.value_type v.address is.address named is.fits in
    let one = body_next i (variables_alone m done) (variables_alone m (done ++ v ∷ [])) _ _ _ true (lines_printed (variable_fields v) ls words)
    (line_step i (variables_alone m done) (variable_fields v) words (some_first v.length v.name v.value_type v.address)
    ∙ variable_step v.length i (variables_alone m done) v.name v.value_type v.address is.address named is.fits
    ∙ put_by i (takes_variable (variables_alone m done) v) (variables_alone m (done ++ v ∷ [])) (takes_next_variable m done rest v e h)) refl in
    let later = read_variables m h names (i + 1) (done ++ v ∷ []) rest more (e ∙ sym (append_assoc done (v ∷ []) rest)) in
    (later.0, sym one ∙ later.1)
  where
    some_first : (o : Option ℕ) (name : List ℕ) (t : ValueType) (a : ℕ) → 0 < length (sized_fields o name t a)
    some_first None name t a = omega arith
    some_first (Some n) name t a = omega arith

    line_step : (i : ℕ) (m : MapValue) (ws : List (List ℕ)) → AreWords ws → 0 < length ws → step i m (line_fields (spaced ws)) ≡ step i m ws
    line_step i m [] h l = absurd (omega arith)
    line_step i m (w ∷ ws) h l = ap (step i m) (line_back w ws h)

read_privates : (m : MapValue) (done : List TaskValue) (name : List ℕ) (i : ℕ) (ns rest : List (List ℕ)) (more : List (List (List ℕ)))
    → are_scalars (ns ++ rest) m.variables ≡ true
    → All (λ n. is_name n ≡ true) rest
    → (k : ℕ) × (body i (tasks_alone m (done ++ task_with name ns ∷ [])) (lines (printed (map private_fields rest ++ more)))
    ≡ body k (tasks_alone m (done ++ task_with name (ns ++ rest) ∷ [])) (lines (printed more)))
read_privates m done name i ns [] more h names =
    (i, ap (λ ns. body i (tasks_alone m (done ++ task_with name ns ∷ [])) (lines (printed more))) (sym (append-nil ns)))
read_privates m done name i ns (n ∷ rest) more h names =
    let named : is_name n ≡ true = names 0 n (omega arith) in
    let now : MapValue = tasks_alone m (done ++ task_with name ns ∷ []) in
    let next : MapValue = tasks_alone m (done ++ task_with name (ns ++ n ∷ []) ∷ []) in
    let words : AreWords (private_fields n) = (omega arith, omega arith, name_word n [] named tt) in
    let said : step i now (private_fields n) ≡ put_private i now (Some n) = rw (name_back n named) refl in
    let one = body_next i now next _ _ _ true (lines_printed (private_fields n) (map private_fields rest ++ more) words)
    (ap (step i now) (line_back (codes "private") (n ∷ []) words) ∙ said
    ∙ put_by i (takes_private now n) (with_private now n) (takes_next_private m done name ns rest n h)
    ∙ ap (λ ts. Ok (true, tasks_alone m ts)) (onto_of done (task_with name ns) n)) refl in
    let later =
    read_privates m done name (i + 1) (ns ++ n ∷ []) rest more (ap (λ ns. are_scalars ns m.variables) (append_assoc ns (n ∷ []) rest) ∙ h)
    (λ j d l. names (suc j) d (omega arith)) in (
      later.0,
      sym one ∙ later.1 ∙ ap (λ ns. body later.0 (tasks_alone m (done ++ task_with name ns ∷ [])) (lines (printed more)))
          (append_assoc ns (n ∷ []) rest),
    )

read_tasks : (m : MapValue) → IsMap m → All AreTaskNames m.tasks → (i : ℕ) (done rest : List TaskValue) (more : List (List (List ℕ))) → m.tasks ≡ done ++ rest
    → (k : ℕ) × (body i (tasks_alone m done) (lines (printed (tasks_fields rest ++ more))) ≡ body k m (lines (printed more)))
read_tasks m h names i done [] more e = (i, ap (λ ts. body i (tasks_alone m ts) (lines (printed more))) (sym (append-nil done) ∙ sym e))
read_tasks m h names i done (t ∷ rest) more e =
    let P : List TaskValue → Type 0 = λ ts. All AreTaskNames ts in
    let Q : List TaskValue → Type 0 = λ ts. All (λ t. are_scalars t.privates m.variables ≡ true) ts in
    let named = middle AreTaskNames done rest t (subst P e names) in
    let scalars = middle (λ t. are_scalars t.privates m.variables ≡ true) done rest t (subst Q e h.privates) in
    let now : MapValue = tasks_alone m done in
    let next : MapValue = tasks_alone m (done ++ task_with t.name [] ∷ []) in
    let privates : List (List (List ℕ)) = map private_fields t.privates in
    let ls : List (List (List ℕ)) = privates ++ (tasks_fields rest ++ more) in
    let line : List (List ℕ) = codes "task" ∷ t.name ∷ [] in
    let words : AreWords line = (omega arith, omega arith, name_word t.name [] named.name tt) in
    let said : step i now line ≡ put_task i now (Some t.name) = rw (name_back t.name named.name) refl in
    let one = body_next i now next _ _ _ true (lines_printed line ls words)
    (ap (step i now) (line_back (codes "task") (t.name ∷ []) words) ∙ said ∙ put_by i (takes_task now t.name) next (takes_next_task m done rest t e h)) refl in
    let own = read_privates m done t.name (i + 1) [] t.privates (tasks_fields rest ++ more) scalars named.privates in
    let later = read_tasks m h names own.0 (done ++ t ∷ []) rest more (e ∙ sym (append_assoc done (t ∷ []) rest)) in
    (later.0, ap (λ r. body i now (lines (printed (line ∷ r)))) (append_assoc privates (tasks_fields rest) more) ∙ sym one ∙ own.1 ∙ later.1)

read_end : (m : MapValue) (i : ℕ) → 0 < length m.tasks
    → body i m (lines (printed ((codes "end" ∷ []) ∷ []))) ≡ Ok (record { value = m; rest = lines (printed []); line = i + 1 })
read_end m i h =
    let words : AreWords (codes "end" ∷ []) = (omega arith, omega arith, tt) in
    let some : nat_lt 0 (length m.tasks) ≡ true = grind (arith, nat_tests) in
    let said : step i m (codes "end" ∷ []) ≡ Ok (false, m) = rw some refl in
    body_done i m m _ _ _ false (lines_printed (codes "end" ∷ []) [] words) (ap (step i m) (line_back (codes "end") [] words) ∙ said) refl

-- variables, tasks and the end begin otherwise than with the copies or the ring

abbrev BeginsAsBody : List (List (List ℕ)) → Type 0
BeginsAsBody ls = BeginsOtherwise (codes "copies") ls × BeginsOtherwise (codes "ring") ls

variable_otherwise : (o : Option ℕ) (name : List ℕ) (t : ValueType) (a : ℕ) (more : List (List (List ℕ))) → IsFramWord a → is_name name ≡ true
    → fits a (word_count t o) ≡ true → BeginsAsBody (sized_fields o name t a ∷ more)
variable_otherwise None name t a more h n f = let words = sized_words None name t a h n f in ((words, refl), (words, refl))
variable_otherwise (Some l) name t a more h n f = let words = sized_words (Some l) name t a h n f in ((words, refl), (words, refl))

body_otherwise : (vs : List Variable) (ts : List TaskValue) → All IsVariable vs → All (λ v. is_name v.name ≡ true) vs → All AreTaskNames ts
    → BeginsAsBody (map variable_fields vs ++ (tasks_fields ts ++ (codes "end" ∷ []) ∷ []))
body_otherwise [] [] are names tasks =
    let words : AreWords (codes "end" ∷ []) = (omega arith, omega arith, tt) in
    ((words, refl), (words, refl))
body_otherwise [] (t ∷ ts) are names tasks =
    let words : AreWords (codes "task" ∷ t.name ∷ []) = (omega arith, omega arith, name_word t.name [] (tasks 0 t (omega arith)).name tt) in
    ((words, refl), (words, refl))
body_otherwise (v ∷ vs) ts are names tasks =
    let is : IsVariable v = are 0 v (omega arith) in
    variable_otherwise v.length v.name v.value_type v.address _ is.address (names 0 v (omega arith)) is.fits

-- and the ring otherwise than with the copies
ring_otherwise : (o : Option RingPlaces) (more : List (List (List ℕ))) → IfSome o IsRing → BeginsOtherwise (codes "copies") more
    → BeginsOtherwise (codes "copies") (ring_fields o ++ more)
ring_otherwise None more h e = e
ring_otherwise (Some r) more h e = (ring_line_words r h, refl)

no_lines : lines (printed []) ≡ []
unfolding printed pieces
no_lines = refl

-- the lines of a map read back
pub reads_back : (m : MapValue) → IsMap m → All (λ v. is_name v.name ≡ true) m.variables → All AreTaskNames m.tasks → 0 < length m.tasks → ReadsBack m
unfolding map_fields
reads_back m h names tasks some n =
    let end : List (List (List ℕ)) = (codes "end" ∷ []) ∷ [] in
    let behind : List (List (List ℕ)) = map variable_fields m.variables ++ (tasks_fields m.tasks ++ end) in
    let others = body_otherwise m.variables m.tasks h.variables names tasks in
    let ring : List (List (List ℕ)) = ring_fields m.ring ++ behind in
    let first = head_back m n (copies_fields m.copies ++ ring) h in
    let second = copies_read (bare m) m.copies (n + 6) ring h.copies (ring_otherwise m.ring behind h.ring others.0) in
    let third = ring_read (record (bare m) { copies = m.copies }) m.ring second.0 behind h.ring others.1 in
    let fourth = read_variables m h names third.0 [] m.variables (tasks_fields m.tasks ++ end) refl in
    let fifth = read_tasks m h tasks fourth.0 [] m.tasks end refl in
    let last = read_end m fifth.0 some in (
      fifth.0 + 1,
      ap (λ ls. map_lines n (lines (printed (head_fields m ++ ls)))) (append_assoc (copies_fields m.copies) (ring_fields m.ring) behind)
          ∙ ap (λ r. r >>= λ h. ring_lines (with_copies h.0 (take_copies (n + 6) h.1))) first ∙ ap ring_lines second.1 ∙ ap rest_lines third.1
          ∙ fourth.1 ∙ fifth.1 ∙ last ∙ ap (λ r. Ok (record { value = m; rest = r; line = fifth.0 + 1 })) no_lines,
    )
