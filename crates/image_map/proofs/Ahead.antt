-- A map is read off the lines up to its `end` alone: with any lines behind them it is the same, and these are left.
use Rattle.std.proofs.Common.{◌≡◌, ℕ, ◌+◌, List, [], ◌∷◌, ◌++◌, refl, ap, sym, ◌∙◌, Bool, true, false, Option, Some, None, Result, Ok, Err, codes, append_assoc}
use Rattle.image_map.specs.declared.fault.MapFault.{MapFault}
use Rattle.image_map.specs.declared.fault.MapFault.TheVariants.{BadMap}
use Rattle.image_map.specs.declared.parts.Place.{Place}
use Rattle.image_map.specs.declared.parts.RuntimeWords.{RuntimeWords}
use Rattle.image_map.specs.MapValue.{MapValue}
use Rattle.image_map.specs.Line.{line_fields, start_of, bound_of, words_of, place_of, ring_of}
use Rattle.image_map.specs.Reading.{◌>>=◌, said, take_line, said_by, take_optional, take_copies, with_copies, take_ring, with_ring, rest_lines, ring_lines}
use Rattle.image_map.specs.Reading.{head, step, body, goes_on, MapLines, map_lines}

-- A reader of lines, and what it makes of some. Where it takes them they are a front and the rest that it leaves, and of this front with any
-- lines behind it reads the same and leaves these: `rest_of` is what is left, `leaving` the value with another rest
abbrev pub ReadsAhead : {L X E : Type 0} → (X → List L) → (List L → X → X) → (List L → Result X E) → List L → Result X E → Type 0
ReadsAhead {L} rest_of leaving reads ls (Ok x) =
    (front : List L) × (ls ≡ front ++ rest_of x) × ((rest : List L) → reads (front ++ rest) ≡ Ok (leaving rest x))
ReadsAhead rest_of leaving reads ls (Err e) = Unit {0}

abbrev Lines : Type 0
Lines = List (List ℕ)

-- the same of a reader that gives a value beside the rest
abbrev TakesAhead : {A : Type 0} → (Lines → Result (A × Lines) MapFault) → Lines → Result (A × Lines) MapFault → Type 0
TakesAhead {A} reads = ReadsAhead {L = List ℕ} {X = A × Lines} {E = MapFault} (λ p. p.1) (λ rest p. (p.0, rest)) reads

take_ahead : {A : Type 0} (says : Lines → Option A) (n : ℕ) (ls : Lines) → TakesAhead (take_line says n) ls (take_line says n ls)
take_ahead says n [] = tt
take_ahead {A} says n (l ∷ ls) = by_said (says (line_fields l)) refl
  where
    by_said : (o : Option A) → says (line_fields l) ≡ o → TakesAhead (take_line says n) (l ∷ ls) (said n o ls)
    by_said None e = tt
    by_said (Some x) e = (l ∷ [], refl, λ rest. ap (λ o. said n o rest) e)

-- a value is given, and nothing read
give_ahead : {A : Type 0} (x : A) (ls : Lines) → TakesAhead (λ ls. Ok (x, ls)) ls (Ok (x, ls))
give_ahead x ls = ([], refl, λ rest. refl)

-- one reader behind another
then_ahead : {A B : Type 0} (first : Lines → Result (A × Lines) MapFault) (next : A → Lines → Result (B × Lines) MapFault)
    → ((ls : Lines) → TakesAhead first ls (first ls)) → ((x : A) (ls : Lines) → TakesAhead (next x) ls (next x ls))
    → (ls : Lines) → TakesAhead (λ ls. first ls >>= λ p. next p.0 p.1) ls (first ls >>= λ p. next p.0 p.1)
then_ahead {A} {B} first next h k ls = by_first (first ls) (h ls)
  where
    both : Lines → Result (B × Lines) MapFault
    both ls = first ls >>= λ p. next p.0 p.1

    by_next : (x : A) (rest front : Lines) → ls ≡ front ++ rest → ((t : Lines) → first (front ++ t) ≡ Ok (x, t))
        → (r : Result (B × Lines) MapFault) → TakesAhead (next x) rest r → TakesAhead both ls r
    by_next x rest front e f (Err g) c = tt
    by_next x rest front e f (Ok q) (more, made, reads) = (
      front ++ more,
      e ∙ ap (λ t. front ++ t) made ∙ sym (append_assoc front more q.1),
      λ t. ap both (append_assoc front more t) ∙ ap (λ r. r >>= λ p. next p.0 p.1) (f (more ++ t)) ∙ reads t,
    )

    by_first : (r : Result (A × Lines) MapFault) → TakesAhead first ls r → TakesAhead both ls (r >>= λ p. next p.0 p.1)
    by_first (Err e) c = tt
    by_first (Ok p) (front, made, reads) = by_next p.0 p.1 front made reads (next p.0 p.1) (k p.0 p.1)

-- the first six lines
module _ (n : ℕ) where
  abbrev versions : ℕ → RuntimeWords → Place → Place → Lines → Result (MapValue × Lines) MapFault
  versions b w l e ls = take_line (place_of (codes "versions")) (n + 5) ls
      >>= λ v. Ok (record { bound = b; words = w; list = l; emits = e; versions = v.0; copies = None; ring = None; variables = []; tasks = [] }, v.1)

  abbrev emits : ℕ → RuntimeWords → Place → Lines → Result (MapValue × Lines) MapFault
  emits b w l ls = take_line (place_of (codes "emits")) (n + 4) ls >>= λ e. versions b w l e.0 e.1

  abbrev list : ℕ → RuntimeWords → Lines → Result (MapValue × Lines) MapFault
  list b w ls = take_line (place_of (codes "list")) (n + 3) ls >>= λ l. emits b w l.0 l.1

  abbrev words : ℕ → Lines → Result (MapValue × Lines) MapFault
  words b ls = take_line words_of (n + 2) ls >>= λ w. list b w.0 w.1

  abbrev bound : Lines → Result (MapValue × Lines) MapFault
  bound ls = take_line bound_of (n + 1) ls >>= λ b. words b.0 b.1

  versions_ahead : (b : ℕ) (w : RuntimeWords) (l e : Place) (ls : Lines) → TakesAhead (versions b w l e) ls (versions b w l e ls)
  versions_ahead b w l e = then_ahead (take_line (place_of (codes "versions")) (n + 5))
      (λ v ls. Ok (record { bound = b; words = w; list = l; emits = e; versions = v; copies = None; ring = None; variables = []; tasks = [] }, ls))
      (take_ahead (place_of (codes "versions")) (n + 5))
      (λ v. give_ahead (record { bound = b; words = w; list = l; emits = e; versions = v; copies = None; ring = None; variables = []; tasks = [] }))

  emits_ahead : (b : ℕ) (w : RuntimeWords) (l : Place) (ls : Lines) → TakesAhead (emits b w l) ls (emits b w l ls)
  emits_ahead b w l = then_ahead (take_line (place_of (codes "emits")) (n + 4)) (versions b w l) (take_ahead (place_of (codes "emits")) (n + 4))
      (versions_ahead b w l)

  list_ahead : (b : ℕ) (w : RuntimeWords) (ls : Lines) → TakesAhead (list b w) ls (list b w ls)
  list_ahead b w = then_ahead (take_line (place_of (codes "list")) (n + 3)) (emits b w) (take_ahead (place_of (codes "list")) (n + 3)) (emits_ahead b w)

  words_ahead : (b : ℕ) (ls : Lines) → TakesAhead (words b) ls (words b ls)
  words_ahead b = then_ahead (take_line words_of (n + 2)) (list b) (take_ahead words_of (n + 2)) (list_ahead b)

  bound_ahead : (ls : Lines) → TakesAhead bound ls (bound ls)
  bound_ahead = then_ahead (take_line bound_of (n + 1)) words (take_ahead bound_of (n + 1)) words_ahead

  head_ahead : (ls : Lines) → TakesAhead (head n) ls (head n ls)
  head_ahead = then_ahead (take_line start_of n) (λ start. bound) (take_ahead start_of n) (λ start. bound_ahead)

-- a map with another rest behind it
abbrev pub leaving : Lines → MapLines → MapLines
leaving rest t = record t { rest = rest }

-- readers of maps
abbrev MapAhead : (Lines → Result MapLines MapFault) → Lines → Result MapLines MapFault → Type 0
MapAhead reads = ReadsAhead {L = List ℕ} {X = MapLines} {E = MapFault} (λ t. t.rest) leaving reads

-- the lines of variables and tasks behind their first
abbrev BodyAhead : ℕ → MapValue → List ℕ → Lines → Type 0
BodyAhead n m l ls = MapAhead (λ ls. body n m (l ∷ ls)) ls (body n m (l ∷ ls))

-- what a line of the map leaves to the lines behind it
abbrev Later : ℕ → MapValue → List ℕ → Lines → Type 0
Later n m l ls = (m' : MapValue) → step n m (line_fields l) ≡ Ok (true, m') → MapAhead (λ ls. body n m (l ∷ ls)) ls (body (n + 1) m' ls)

step_ahead : (n : ℕ) (m : MapValue) (l : List ℕ) (ls : Lines) → Later n m l ls → BodyAhead n m l ls
unfolding body
step_ahead n m l ls later = by_step (step n m (line_fields l)) refl
  where
    by_step : (r : Result (Bool × MapValue) MapFault) → step n m (line_fields l) ≡ r
        → MapAhead (λ ls. body n m (l ∷ ls)) ls (r >>= λ o. goes_on o.0 (body (n + 1) o.1 ls) (Ok (record { value = o.1; rest = ls; line = n + 1 })))
    by_step (Err f) e = tt
    by_step (Ok (true, m')) e = later m' e
    by_step (Ok (false, m')) e = ([], refl, λ rest. rw e refl)

none_later : (n : ℕ) (m : MapValue) (l : List ℕ) → Later n m l []
unfolding body
none_later n m l m' e = tt

body_on : (n : ℕ) (m m' : MapValue) (l : List ℕ) (ls : Lines) → step n m (line_fields l) ≡ Ok (true, m') → body n m (l ∷ ls) ≡ body (n + 1) m' ls
unfolding body
body_on n m m' l ls e = rw e refl

more_later : (n : ℕ) (m : MapValue) (l k : List ℕ) (ks : Lines) → ((m' : MapValue) → BodyAhead (n + 1) m' k ks) → Later n m l (k ∷ ks)
more_later n m l k ks later m' e = by_body (body (n + 1) m' (k ∷ ks)) (later m')
  where
    by_body : (r : Result MapLines MapFault) → MapAhead (λ ks. body (n + 1) m' (k ∷ ks)) ks r → MapAhead (λ ls. body n m (l ∷ ls)) (k ∷ ks) r
    by_body (Err f) c = tt
    by_body (Ok t) (front, made, reads) = (k ∷ front, ap (λ ks. k ∷ ks) made, λ rest. body_on n m m' l (k ∷ (front ++ rest)) e ∙ reads rest)

body_ahead : (n : ℕ) (m : MapValue) (l : List ℕ) (ls : Lines) → BodyAhead n m l ls
body_ahead n m l [] = step_ahead n m l [] (none_later n m l)
body_ahead n m l (k ∷ ks) = step_ahead n m l (k ∷ ks) (more_later n m l k ks (λ m'. body_ahead (n + 1) m' k ks))

-- a reader of maps that takes a line at the least
record TakesLines (reads : Lines → Result MapLines MapFault) : Type 0 where
  fault : MapFault
  none : reads [] ≡ Err fault
  more : (l : List ℕ) (ls : Lines) → MapAhead (λ ls. reads (l ∷ ls)) ls (reads (l ∷ ls))

body_end : (n : ℕ) (m : MapValue) → body n m [] ≡ Err (BadMap n)
unfolding body
body_end n m = refl

body_takes : (n : ℕ) (m : MapValue) → TakesLines (body n m)
body_takes n m = record { fault = BadMap n; none = body_end n m; more = body_ahead n m }

-- a line that may be left out, and what is read behind it
module _ {A : Type 0} (says : Lines → Option A) (n : ℕ) (later : ℕ → Option A → Lines → Result MapLines MapFault)
    (takes : (j : ℕ) (o : Option A) → TakesLines (later j o)) where
  abbrev both : Lines → Result MapLines MapFault
  both ls = let o = take_optional says n ls in later o.line o.value o.rest

  optional_none : (l : List ℕ) (ls : Lines) → says (line_fields l) ≡ None → MapAhead (λ ls. both (l ∷ ls)) ls (later n None (l ∷ ls))
  optional_none l ls e = by_later (later n None (l ∷ ls)) ((takes n None).more l ls)
    where
      by_later : (r : Result MapLines MapFault) → MapAhead (λ ls. later n None (l ∷ ls)) ls r → MapAhead (λ ls. both (l ∷ ls)) ls r
      by_later (Err f) c = tt
      by_later (Ok t) (front, made, on) = (front, made, λ rest. rw e (on rest))

  optional_some : (x : A) (l k : List ℕ) (ks : Lines) → says (line_fields l) ≡ Some x
      → MapAhead (λ ls. both (l ∷ ls)) (k ∷ ks) (later (n + 1) (Some x) (k ∷ ks))
  optional_some x l k ks e = by_later (later (n + 1) (Some x) (k ∷ ks)) ((takes (n + 1) (Some x)).more k ks)
    where
      by_later : (r : Result MapLines MapFault) → MapAhead (λ ks. later (n + 1) (Some x) (k ∷ ks)) ks r → MapAhead (λ ls. both (l ∷ ls)) (k ∷ ks) r
      by_later (Err f) c = tt
      by_later (Ok t) (front, made, on) = (k ∷ front, ap (λ ks. k ∷ ks) made, λ rest. rw e (on rest))

  optional_last : (x : A) (l : List ℕ) → MapAhead (λ ls. both (l ∷ ls)) [] (later (n + 1) (Some x) [])
  optional_last x l = rw (takes (n + 1) (Some x)).none tt

  optional_takes : TakesLines both
  optional_takes = record { fault = (takes n None).fault; none = (takes n None).none; more = λ l ls. by_said l (says (line_fields l)) ls refl }
    where
      by_said : (l : List ℕ) (o : Option A) (ls : Lines) → says (line_fields l) ≡ o
          → MapAhead (λ ls. both (l ∷ ls)) ls (let s = said_by n l ls o in later s.line s.value s.rest)
      by_said l None ls e = optional_none l ls e
      by_said l (Some x) [] e = optional_last x l
      by_said l (Some x) (k ∷ ks) e = optional_some x l k ks e

-- the lines behind the first six
abbrev Behind : MapValue → ℕ → Lines → Result MapLines MapFault
Behind m n ls = ring_lines (with_copies m (take_copies n ls))

ring_takes : (m : MapValue) (n : ℕ) → TakesLines (λ ls. rest_lines (with_ring m (take_ring n ls)))
ring_takes m n = optional_takes ring_of n (λ j o. body j (record m { ring = o })) (λ j o. body_takes j (record m { ring = o }))

copies_take : (m : MapValue) (n : ℕ) → TakesLines (Behind m n)
copies_take m n = optional_takes (place_of (codes "copies")) n (λ j o ls. rest_lines (with_ring (record m { copies = o }) (take_ring j ls)))
    (λ j o. ring_takes (record m { copies = o }) j)

behind_ahead : (m : MapValue) (n : ℕ) (ls : Lines) → MapAhead (Behind m n) ls (Behind m n ls)
behind_ahead m n [] = rw (copies_take m n).none tt
behind_ahead m n (l ∷ ls) = by_more (Behind m n (l ∷ ls)) ((copies_take m n).more l ls)
  where
    by_more : (r : Result MapLines MapFault) → MapAhead (λ ls. Behind m n (l ∷ ls)) ls r → MapAhead (Behind m n) (l ∷ ls) r
    by_more (Err f) c = tt
    by_more (Ok t) (front, made, on) = (l ∷ front, ap (λ ls. l ∷ ls) made, on)

-- a map is read off the lines up to its end
pub map_ahead : (n : ℕ) (ls : Lines) → MapAhead (map_lines n) ls (map_lines n ls)
map_ahead n ls = by_head (head n ls) (head_ahead n ls)
  where
    behind : MapValue → Lines → Result MapLines MapFault
    behind m ls = Behind m (n + 6) ls

    by_behind : (m : MapValue) (rest six : Lines) → ls ≡ six ++ rest → ((t : Lines) → head n (six ++ t) ≡ Ok (m, t))
        → (r : Result MapLines MapFault) → MapAhead (behind m) rest r → MapAhead (map_lines n) ls r
    by_behind m rest six e f (Err g) c = tt
    by_behind m rest six e f (Ok t) (front, made, on) = (
      six ++ front,
      e ∙ ap (λ t. six ++ t) made ∙ sym (append_assoc six front t.rest),
      λ rest. ap (map_lines n) (append_assoc six front rest) ∙ ap (λ r. r >>= λ h. behind h.0 h.1) (f (front ++ rest)) ∙ on rest,
    )

    by_head : (r : Result (MapValue × Lines) MapFault) → TakesAhead (head n) ls r → MapAhead (map_lines n) ls (r >>= λ h. behind h.0 h.1)
    by_head (Err e) c = tt
    by_head (Ok p) (six, made, on) = by_behind p.0 p.1 six made on (behind p.0 p.1) (behind_ahead p.0 (n + 6) p.1)
