-- What reading gives is the meaning of the lines.
use Rattle.std.proofs.Common.{◌≡◌, ◌≤◌, ◌<◌, ℕ, suc, zero, ◌+◌, ◌-◌, ◌*◌, ◌&&◌, ◌||◌, List, [], ◌∷◌, ◌++◌, length, map, get_or, refl, ap, sym, ◌∙◌, arith}
use Rattle.std.proofs.Common.{subst, nat_lt, nat_le, if◌then◌else◌, Bool, true, false, Option, Some, None, Result, Ok, Err, ◌⊎◌, inl, inr, append_assoc}
use Rattle.std.proofs.Common.{length-append, append-nil}
use Rattle.std.proofs.lemmas.Bool.Decides.{nat_tests}
use Rattle.std.specs.Prelude.{is_some, unwrap_or, slice_get}
use Rattle.std.proofs.lemmas.List.{map-append}
use Rattle.std.specs.Option.{option_or}
use Rattle.text_parts.specs.Fields.{fields, no_fields}
use Rattle.image_map.specs.declared.fault.MapFault.TheVariants as map_fault
use Rattle.image_text.specs.declared.fault.ImageFault.{ImageFault}
use Rattle.image_map.specs.declared.fault.MapFault.{MapFault}
use Rattle.image_map.specs.MapValue.{MapValue}
use Rattle.image_map.specs.Reading.{MapLines, map_lines, goes_on}
use Rattle.image_text.specs.ImageValue.{ImageValue}
use Rattle.image_text.specs.Line.{LineMeaning, nothing, address, bytes, quit, line_says}
use Rattle.image_text.specs.Memory.{Placed, put_once, put_at, place, step}
use Rattle.image_text.specs.Reading.{Front, read, finish, front_of, image_lines, are_blank, whole_map, image_behind, empty, words_of, Gives, ◌>>=◌}
use Rattle.image_text.specs.declared.parse.ImageFront.{ImageFront}
use Rattle.image_text.specs.Read.{read_front, IsFrontRead}
use Rattle.image_text.specs.Meaning.{moved, next_address, byte_from, byte_at, given, Fits, GoesOn, AllGoOn, AreLines, IsBadLine, IsOutside, IsTwice, FaultAt}
use Rattle.image_text.specs.Meaning.{EndsAt, IsImageOf, AreBlank, NotBlank, IsFrontOf, IsMeaningOf}
use Rattle.image_text.proofs.Placing.{or_none, not_given, Puts, puts, Taken, taken}
use Rattle.image_text.specs.declared.fault.ImageFault.TheVariants as fault

next_append : (a : Option ℕ) (ms ns : List LineMeaning) → next_address a (ms ++ ns) ≡ next_address (next_address a ms) ns
next_append a [] ns = refl
next_append a (nothing ∷ ms) ns = next_append a ms ns
next_append a (address b ∷ ms) ns = next_append (Some b) ms ns
next_append a (bytes bs ∷ ms) ns = next_append (moved (length bs) a) ms ns
next_append a (quit ∷ ms) ns = next_append a ms ns

-- the first of three that is there
pub or_assoc : {A : Type 0} (o p q : Option A) → option_or o (option_or p q) ≡ option_or (option_or o p) q
or_assoc None p q = refl
or_assoc (Some b) p q = refl

byte_append : (a : Option ℕ) (ms ns : List LineMeaning) (x : ℕ) → byte_at a (ms ++ ns) x ≡ option_or (byte_at a ms x) (byte_at (next_address a ms) ns x)
byte_append a [] ns x = refl
byte_append a (nothing ∷ ms) ns x = byte_append a ms ns x
byte_append a (address b ∷ ms) ns x = byte_append (Some b) ms ns x
byte_append a (bytes bs ∷ ms) ns x = ap (option_or (byte_from a bs x)) (byte_append (moved (length bs) a) ms ns x)
    ∙ or_assoc (byte_from a bs x) (byte_at (moved (length bs) a) ms x) (byte_at (next_address (moved (length bs) a) ms) ns x)
byte_append a (quit ∷ ms) ns x = byte_append a ms ns x

-- what the reader has placed is what the lines give
record State (ms : List LineMeaning) (p : Placed) : Type 0 where
  pub len : length p.memory ≡ 48128
  pub next : p.next ≡ next_address None ms
  pub each : (k : ℕ) → get_or p.memory k None ≡ given ms (17408 + k) ⊎ 48128 ≤ k

all_more : (before ms : List LineMeaning) (m : LineMeaning) → AllGoOn before ms → GoesOn (before ++ ms) m → AllGoOn before (ms ++ m ∷ [])
all_more before [] m h g = let P : List LineMeaning → Type 0 = λ ns. GoesOn ns m in (subst P (append-nil before) g, tt)
all_more before (k ∷ ms) m h g = let P : List LineMeaning → Type 0 = λ ns. GoesOn ns m in
    (h.0, all_more (before ++ k ∷ []) ms m h.1 (subst P (sym (append_assoc before (k ∷ []) ms)) g))

more_lines : (done : List (List ℕ)) (l : List ℕ) (ms : List LineMeaning) (m : LineMeaning) → AreLines done ms → line_says l ≡ Some m → GoesOn ms m
    → AreLines (done ++ l ∷ []) (ms ++ m ∷ [])
more_lines done l ms m h e g = record {
  says = map-append line_says done (l ∷ []) ∙ ap (λ r. r ++ line_says l ∷ []) h.says ∙ ap (λ o. map Some ms ++ o ∷ []) e ∙ sym (map-append Some ms (m ∷ []));
  go_on = all_more [] ms m h.go_on g;
}

-- whatever lines come behind those that are read
abbrev ImageContinues : List (List ℕ) → Type 0
ImageContinues ls = (done : List (List ℕ)) (ms : List LineMeaning) (p : Placed) → AreLines done ms → State ms p
    → IsFrontOf (done ++ ls) (read (length done + 1) p ls)

later : (done ls : List (List ℕ)) (l : List ℕ) (ms : List LineMeaning) (m : LineMeaning) (q : Placed) → ImageContinues ls → AreLines done ms
    → line_says l ≡ Some m → GoesOn ms m
    → State (ms ++ m ∷ []) q → IsFrontOf (done ++ l ∷ ls) (read (length done + 1 + 1) q ls)
later done ls l ms m q next h e g s =
    let rest = next (done ++ l ∷ []) (ms ++ m ∷ []) q (more_lines done l ms m h e g) s in
    let len : length (done ++ l ∷ []) + 1 ≡ length done + 1 + 1 = ap (λ k. k + 1) (length-append done (l ∷ [])) in
    let P : List (List ℕ) → Type 0 = λ ls'. IsFrontOf ls' (read (length (done ++ l ∷ []) + 1) q ls) in
    let Q : ℕ → Type 0 = λ k. IsFrontOf (done ++ l ∷ ls) (read k q ls) in
    subst Q len (subst P (append_assoc done (l ∷ []) ls) rest)

fault_at : (done ls : List (List ℕ)) (l : List ℕ) (ms : List LineMeaning) (IsFault : List LineMeaning → Option LineMeaning → Type 0) → AreLines done ms
    → IsFault ms (line_says l)
    → FaultAt (done ++ l ∷ ls) (length done + 1) IsFault
fault_at done ls l ms IsFault h f = record { before = done; line = l; behind = ls; made = refl; number = refl; meanings = ms; lines = h; fault = f }

-- a line that gives no byte
quiet : (ms : List LineMeaning) (m : LineMeaning) (p : Placed) (next : Option ℕ) → ((a : Option ℕ) (x : ℕ) → byte_at a (m ∷ []) x ≡ None)
    → next ≡ next_address (next_address None ms) (m ∷ [])
    → State ms p → State (ms ++ m ∷ []) (record { next = next; memory = p.memory })
quiet ms m p next none e s = record {
  len = s.len;
  next = e ∙ sym (next_append None ms (m ∷ []));
  each = λ k. stays k (s.each k);
}
  where
    stays : (k : ℕ) → get_or p.memory k None ≡ given ms (17408 + k) ⊎ 48128 ≤ k → get_or p.memory k None ≡ given (ms ++ m ∷ []) (17408 + k) ⊎ 48128 ≤ k
    stays k (inr h) = inr h
    stays k (inl h) =
        inl (h ∙ sym (byte_append None ms (m ∷ []) (17408 + k) ∙ ap (option_or (given ms (17408 + k))) (none (next_address None ms) (17408 + k))
        ∙ or_none (given ms (17408 + k))))

-- bytes from an address on, counted from the start of the FRAM
from_place : (a k : ℕ) (bs : List ℕ) → 17408 ≤ a → byte_from (Some (a - 17408)) bs k ≡ byte_from (Some a) bs (17408 + k)
from_place a k bs h = same_by (nat_le (a - 17408) k) (nat_le a (17408 + k)) (k - (a - 17408)) (17408 + k - a) bs (grind (arith, nat_tests)) (omega arith)
  where
    same_by : (t u : Bool) (i j : ℕ) (bs : List ℕ) → t ≡ u → i ≡ j → (if t then slice_get bs i else None) ≡ (if u then slice_get bs j else None)
    same_by t u i j bs e f = ap (λ t. if t then slice_get bs i else None) e ∙ ap (λ i. if u then slice_get bs i else None) f

-- bytes that are put are what the line gives
loud : (ms : List LineMeaning) (bs : List ℕ) (p : Placed) (a : ℕ) (n : List (Option ℕ)) → 17408 ≤ a → next_address None ms ≡ Some a
    → Puts (a - 17408) bs p.memory n
    → State ms p → State (ms ++ bytes bs ∷ []) (record { next = Some (a + length bs); memory = n })
loud ms bs p a n low e put s = record {
  len = put.len ∙ s.len;
  next = ap (moved (length bs)) (sym e) ∙ sym (next_append None ms (bytes bs ∷ []));
  each = λ k. puts_at k (s.each k);
}
  where
    puts_at : (k : ℕ) → get_or p.memory k None ≡ given ms (17408 + k) ⊎ 48128 ≤ k → get_or n k None ≡ given (ms ++ bytes bs ∷ []) (17408 + k) ⊎ 48128 ≤ k
    puts_at k (inr h) = inr h
    puts_at k (inl h) = inl (put.each k ∙ ap (λ o. option_or o (byte_from (Some (a - 17408)) bs k)) h
        ∙ ap (option_or (given ms (17408 + k))) (from_place a k bs low ∙ ap (λ o. byte_from o bs (17408 + k)) (sym e)
        ∙ sym (or_none (byte_from (next_address None ms) bs (17408 + k))))
        ∙ sym (byte_append None ms (bytes bs ∷ []) (17408 + k)))

-- the byte at a place of the FRAM
at_place : (ms : List LineMeaning) (p : Placed) (k : ℕ) → State ms p → k < 48128 → get_or p.memory k None ≡ given ms (17408 + k)
at_place ms p k s h = pick (s.each k)
  where
    pick : get_or p.memory k None ≡ given ms (17408 + k) ⊎ 48128 ≤ k → get_or p.memory k None ≡ given ms (17408 + k)
    pick (inl e) = e
    pick (inr l) = absurd (omega arith)

fitting : (ms : List LineMeaning) (bs : List ℕ) (p : Placed) (a : ℕ) (n : List (Option ℕ)) → 17408 ≤ a → a + length bs ≤ 65536 → next_address None ms ≡ Some a
    → Puts (a - 17408) bs p.memory n → State ms p → Fits ms bs
fitting ms bs p a n low high e put s = record {
  place = a;
  here = e;
  low = low;
  high = high;
  free = λ x l r. ap (given ms) (let z : x ≡ 17408 + (x - 17408) = omega arith in z) ∙ sym (at_place ms p (x - 17408) s (omega arith))
      ∙ put.free (x - 17408) (omega arith) (omega arith);
}

-- what comes behind a line whose bytes were put, or are given twice
put_meaning : (o : Option (List (Option ℕ))) (done ls : List (List ℕ)) (l : List ℕ) (ms : List LineMeaning) (bs : List ℕ) (p : Placed) (a : ℕ)
    → ImageContinues ls → AreLines done ms → State ms p
    → line_says l ≡ Some (bytes bs) → next_address None ms ≡ Some a → 17408 ≤ a → a + length bs ≤ 65536 → put_once (a - 17408) bs p.memory ≡ o
    → IsFrontOf (done ++ l ∷ ls) (put_at (length done + 1) a (length bs) o >>= λ o. goes_on o.0 (read (length done + 1 + 1) o.1 ls)
    (finish (length done + 1 + 1) o.1.memory ls))
put_meaning (Some n) done ls l ms bs p a next h s e f low high put =
    let len : length p.memory ≡ 48128 = s.len in
    let ok = puts (a - 17408) bs p.memory n (omega arith) put in
    later done ls l ms (bytes bs) (record { next = Some (a + length bs); memory = n }) next h e (fitting ms bs p a n low high f ok s)
    (loud ms bs p a n low f ok s)
put_meaning None done ls l ms bs p a next h s e f low high put = twice (taken (a - 17408) bs p.memory put)
  where
    twice : Taken (a - 17408) bs p.memory → FaultAt (done ++ l ∷ ls) (length done + 1) IsTwice
    twice (k, i, j, g) =
        fault_at done ls l ms IsTwice h (bs, a, 17408 + k, e, f, low, high, omega arith, omega arith, ap is_some (sym (at_place ms p k s (omega arith))) ∙ g)

bytes_by : (t u : Bool) (done ls : List (List ℕ)) (l : List ℕ) (ms : List LineMeaning) (bs : List ℕ) (p : Placed) (a : ℕ) → ImageContinues ls → AreLines done ms
    → State ms p
    → line_says l ≡ Some (bytes bs) → next_address None ms ≡ Some a → nat_lt a 17408 ≡ t → nat_lt 65536 (a + length bs) ≡ u
    → IsFrontOf (done ++ l ∷ ls) ((if t || u then Err (fault.OutsideFram (length done + 1)) else put_at (length done + 1) a (length bs)
    (put_once (a - 17408) bs p.memory))
    >>= λ o. goes_on o.0 (read (length done + 1 + 1) o.1 ls) (finish (length done + 1 + 1) o.1.memory ls))
bytes_by true u done ls l ms bs p a next h s e f t k = fault_at done ls l ms IsOutside h (bs, a, e, f, inl (grind (arith, nat_tests, t)))
bytes_by false true done ls l ms bs p a next h s e f t k = fault_at done ls l ms IsOutside h (bs, a, e, f, inr (grind (arith, nat_tests, k)))
bytes_by false false done ls l ms bs p a next h s e f t k =
    put_meaning (put_once (a - 17408) bs p.memory) done ls l ms bs p a next h s e f (grind (arith, nat_tests, t)) (grind (arith, nat_tests, k)) refl

bytes_meaning : (o : Option ℕ) (done ls : List (List ℕ)) (l : List ℕ) (ms : List LineMeaning) (bs : List ℕ) (p : Placed) → ImageContinues ls → AreLines done ms
    → State ms p
    → line_says l ≡ Some (bytes bs) → p.next ≡ o
    → IsFrontOf (done ++ l ∷ ls) (place (length done + 1) p bs o >>= λ o. goes_on o.0 (read (length done + 1 + 1) o.1 ls)
    (finish (length done + 1 + 1) o.1.memory ls))
bytes_meaning None done ls l ms bs p next h s e f = inl (fault_at done ls l ms IsBadLine h (inr (bs, e, sym s.next ∙ f)))
bytes_meaning (Some a) done ls l ms bs p next h s e f =
    bytes_by (nat_lt a 17408) (nat_lt 65536 (a + length bs)) done ls l ms bs p a next h s e (sym s.next ∙ f) refl refl

-- the lines behind the end
blank_by : (t : Bool) (ls : List (List ℕ)) (l : List ℕ) → no_fields (fields l) ≡ t → (are_blank ls ≡ true → AreBlank ls) → (t && are_blank ls) ≡ true
    → AreBlank (l ∷ ls)
blank_by true ls l e ih h = (e, ih h)
blank_by false ls l e ih h = cc

all_blank : (ls : List (List ℕ)) → are_blank ls ≡ true → AreBlank ls
unfolding are_blank
all_blank [] h = tt
all_blank (l ∷ ls) h = blank_by (no_fields (fields l)) ls l refl (all_blank ls) h

blank_test : (ls : List (List ℕ)) → AreBlank ls → are_blank ls ≡ true
unfolding are_blank
blank_test [] h = refl
blank_test (l ∷ ls) h = rw h.0 (blank_test ls h.1)

not_blank : (ls : List (List ℕ)) → are_blank ls ≡ false → NotBlank ls
not_blank ls e h = differ (sym (blank_test ls h) ∙ e)
  where
    differ : true ≡ false → ⊥
    differ e = cc

words_len : (n : ℕ) (m : List (Option ℕ)) → length m ≡ 2 * n → length (words_of m) ≡ n
unfolding words_of
words_len zero [] e = refl
words_len (suc n) [] e = absurd (omega arith)
words_len zero (l ∷ []) e = absurd (omega arith)
words_len (suc n) (l ∷ []) e = absurd (omega arith)
words_len zero (l ∷ h ∷ m) e = absurd (omega arith)
words_len (suc n) (l ∷ h ∷ m) e = ap suc (words_len n m (omega arith))

word_each : (k : ℕ) (m : List (Option ℕ)) → 2 * k + 1 < length m
    → get_or (words_of m) k 0 ≡ unwrap_or (get_or m (2 * k) None) 0 + 256 * unwrap_or (get_or m (2 * k + 1) None) 0
unfolding words_of
word_each k [] e = absurd (omega arith)
word_each k (l ∷ []) e = absurd (omega arith)
word_each zero (l ∷ h ∷ m) e = refl
word_each (suc k) (l ∷ h ∷ m) e = word_each k m (omega arith)
    ∙ ap (λ j. unwrap_or (get_or (l ∷ h ∷ m) j None) 0 + 256 * unwrap_or (get_or m (2 * k + 1) None) 0) (let z : suc (suc (2 * k)) ≡ 2 * suc k = omega arith in
    z)
    ∙ ap (λ j. unwrap_or (get_or (l ∷ h ∷ m) (2 * suc k) None) 0 + 256 * unwrap_or (get_or (l ∷ h ∷ m) j None) 0)
    (let z : suc (suc (2 * k + 1)) ≡ 2 * suc k + 1 = omega arith in z)

is_image : (ms : List LineMeaning) (p : Placed) → State ms p → IsImageOf ms (words_of p.memory)
is_image ms p s =
    let len : length p.memory ≡ 48128 = s.len in
    record {
      len = words_len 24064 p.memory len;
      each = λ k h. word_each k p.memory (omega arith)
          ∙ ap (λ o. unwrap_or o 0 + 256 * unwrap_or (get_or p.memory (2 * k + 1) None) 0) (at_place ms p (2 * k) s (omega arith))
          ∙ ap (λ o. unwrap_or (given ms (17408 + 2 * k)) 0 + 256 * unwrap_or o 0)
          (at_place ms p (2 * k + 1) s (omega arith) ∙ ap (given ms) (let z : 17408 + (2 * k + 1) ≡ 17408 + 2 * k + 1 = omega arith in z));
    }

end_by : (t u : Bool) (ls rest : List (List ℕ)) (ms : List LineMeaning) (n : ℕ) (p : Placed) → State ms p → EndsAt ls ms rest n
    → is_some (given ms 65534) ≡ t → is_some (given ms 65535) ≡ u
    → IsFrontOf ls (if t && u then Ok (record { words = words_of p.memory; rest = rest; line = n }) else Err fault.NoReset)
end_by true true ls rest ms n p s end e f = (ms, end, (e, f), is_image ms p s)
end_by true false ls rest ms n p s end e f = (ms, rest, n, end, inr (not_given (given ms 65535) f))
end_by false u ls rest ms n p s end e f = (ms, rest, n, end, inl (not_given (given ms 65534) e))

end_meaning : (ls rest : List (List ℕ)) (ms : List LineMeaning) (n : ℕ) (p : Placed) → State ms p → EndsAt ls ms rest n
    → IsFrontOf ls (finish n p.memory rest)
end_meaning ls rest ms n p s end =
    let low : get_or p.memory 48126 None ≡ given ms 65534 = at_place ms p 48126 s (omega arith) in
    let high : get_or p.memory 48127 None ≡ given ms 65535 = at_place ms p 48127 s (omega arith) in
    end_by (is_some (get_or p.memory 48126 None)) (is_some (get_or p.memory 48127 None)) ls rest ms n p s end (ap is_some (sym low)) (ap is_some (sym high))

no_byte : (a : Option ℕ) (x : ℕ) → byte_at a (nothing ∷ []) x ≡ None
no_byte a x = refl

no_byte_at : (b : ℕ) (a : Option ℕ) (x : ℕ) → byte_at a (address b ∷ []) x ≡ None
no_byte_at b a x = refl

says_by : (said : Option LineMeaning) (done ls : List (List ℕ)) (l : List ℕ) (ms : List LineMeaning) (p : Placed) → ImageContinues ls → AreLines done ms
    → State ms p → line_says l ≡ said
    → IsFrontOf (done ++ l ∷ ls) (step (length done + 1) p said >>= λ o. goes_on o.0 (read (length done + 1 + 1) o.1 ls)
    (finish (length done + 1 + 1) o.1.memory ls))
says_by None done ls l ms p next h s e = inl (fault_at done ls l ms IsBadLine h (inl e))
says_by (Some nothing) done ls l ms p next h s e = later done ls l ms nothing p next h e tt (quiet ms nothing p p.next no_byte s.next s)
says_by (Some (address a)) done ls l ms p next h s e =
    later done ls l ms (address a) (record { next = Some a; memory = p.memory }) next h e tt (quiet ms (address a) p (Some a) (no_byte_at a) refl s)
says_by (Some (bytes bs)) done ls l ms p next h s e = bytes_meaning p.next done ls l ms bs p next h s e refl
says_by (Some quit) done ls l ms p next h s e = end_meaning (done ++ l ∷ ls) ls ms (length done + 1 + 1) p s
    (record { before = done; line = l; made = refl; number = omega arith; lines = h; quit = e })

-- reading goes on to the meaning of all lines
continues : (ls : List (List ℕ)) → ImageContinues ls
unfolding read
continues [] done ms p h s =
    inr (ms, (let P : List (List ℕ) → Type 0 = λ ls. AreLines ls ms in subst P (sym (append-nil done)) h), ap (λ ls. length ls + 1) (sym (append-nil done)))
continues (l ∷ ls) done ms p h s = says_by (line_says l) done ls l ms p (continues ls) h s refl

length_empty : (n : ℕ) → length (empty n) ≡ n
unfolding empty
length_empty zero = refl
length_empty (suc n) = ap suc (length_empty n)

empty_each : (n k : ℕ) → get_or (empty n) k None ≡ None
unfolding empty
empty_each zero k = refl
empty_each (suc n) zero = refl
empty_each (suc n) (suc k) = empty_each n k

start : (n : ℕ) → n ≡ 48128 → State [] (record { next = None; memory = empty n })
start n e = record { len = length_empty n ∙ e; next = refl; each = λ k. inl (empty_each n k) }

no_lines : AreLines [] []
no_lines = record { says = refl; go_on = tt }

-- up to `q` lines come to what reading gives
pub front_meaning : (ls : List (List ℕ)) → IsFrontOf ls (front_of ls)
front_meaning ls = continues ls [] [] (record { next = None; memory = empty 48128 }) no_lines (start 48128 refl)

-- so does what a call gives
pub front_is : (r : Result ImageFront ImageFault) (ls : List (List ℕ)) → Gives read_front r (front_of ls) → IsFrontRead ls r
front_is (Ok f) ls h = let P : Result Front ImageFault → Type 0 = λ r. IsFrontOf ls r in subst P h (front_meaning ls)
front_is (Err (fault.BadLine n)) ls h = let P : Result Front ImageFault → Type 0 = λ r. IsFrontOf ls r in subst P h (front_meaning ls)
front_is (Err (fault.OutsideFram n)) ls h = let P : Result Front ImageFault → Type 0 = λ r. IsFrontOf ls r in subst P h (front_meaning ls)
front_is (Err (fault.Twice n)) ls h = let P : Result Front ImageFault → Type 0 = λ r. IsFrontOf ls r in subst P h (front_meaning ls)
front_is (Err (fault.BadMap n)) ls h = let P : Result Front ImageFault → Type 0 = λ r. IsFrontOf ls r in subst P h (front_meaning ls)
front_is (Err fault.NoReset) ls h = let P : Result Front ImageFault → Type 0 = λ r. IsFrontOf ls r in subst P h (front_meaning ls)
front_is (Err fault.Memory) ls h = tt

-- the lines behind `q`
rest_by : (v : MapValue) (more : List (List ℕ)) (k : ℕ) (ls : List (List ℕ)) (f : Front) → IsFrontOf ls (Ok f) → NotBlank f.rest
    → map_lines f.line f.rest ≡ Ok (record { value = v; rest = more; line = k })
    → IsMeaningOf ls ((whole_map (Ok (record { value = v; rest = more; line = k })) >>= λ m. Ok (Some m)) >>= λ o. Ok (record { words = f.words; map = o }))
rest_by v [] k ls f (ms, end, reset, image) b e = (ms, f.rest, f.line, end, reset, (k, e), image)
rest_by v (l ∷ more) k ls f (ms, end, reset, image) b e = (ms, f.rest, f.line, end, reset, (b, inr (v, l, more, e)))

whole_by : (r : Result MapLines MapFault) (ls : List (List ℕ)) (f : Front) → IsFrontOf ls (Ok f) → NotBlank f.rest → map_lines f.line f.rest ≡ r
    → IsMeaningOf ls ((whole_map r >>= λ m. Ok (Some m)) >>= λ o. Ok (record { words = f.words; map = o }))
whole_by (Ok t) ls f h b e = rest_by t.value t.rest t.line ls f h b e
whole_by (Err (map_fault.BadMap m)) ls f (ms, end, reset, image) b e = (ms, f.rest, f.line, end, reset, (b, inl e))
whole_by (Err map_fault.Memory) ls f h b e = tt

map_by : (t : Bool) (ls : List (List ℕ)) (f : Front) → IsFrontOf ls (Ok f) → are_blank f.rest ≡ t
    → IsMeaningOf ls ((if t then Ok None else whole_map (map_lines f.line f.rest) >>= λ m. Ok (Some m)) >>= λ o. Ok (record { words = f.words; map = o }))
map_by true ls f (ms, end, reset, image) e = (ms, f.rest, f.line, end, reset, all_blank f.rest e, image)
map_by false ls f h e = whole_by (map_lines f.line f.rest) ls f h (not_blank f.rest e) refl

-- lines come to what reading gives
image_meaning : (ls : List (List ℕ)) → IsMeaningOf ls (image_lines ls)
image_meaning ls = by_front (front_of ls) (front_meaning ls)
  where
    by_front : (r : Result Front ImageFault) → IsFrontOf ls r → IsMeaningOf ls (r >>= λ f. image_behind f.line f.words f.rest)
    by_front (Ok f) h = map_by (are_blank f.rest) ls f h refl
    by_front (Err (fault.BadLine n)) h = h
    by_front (Err (fault.OutsideFram n)) h = h
    by_front (Err (fault.Twice n)) h = h
    by_front (Err (fault.BadMap n)) h = absurd h
    by_front (Err fault.NoReset) h = h
    by_front (Err fault.Memory) h = tt

-- what a call gives is the meaning of the lines
pub meaning_is : (r : Result ImageValue ImageFault) (ls : List (List ℕ)) → Gives (λ v. v) r (image_lines ls) → IsMeaningOf ls r
meaning_is r ls h = by_result r h (image_meaning ls)
  where
    by_result : (r : Result ImageValue ImageFault) → Gives (λ v. v) r (image_lines ls) → IsMeaningOf ls (image_lines ls) → IsMeaningOf ls r
    by_result (Ok v) h m = let P : Result ImageValue ImageFault → Type 0 = λ r. IsMeaningOf ls r in subst P h m
    by_result (Err (fault.BadLine n)) h m = let P : Result ImageValue ImageFault → Type 0 = λ r. IsMeaningOf ls r in subst P h m
    by_result (Err (fault.OutsideFram n)) h m = let P : Result ImageValue ImageFault → Type 0 = λ r. IsMeaningOf ls r in subst P h m
    by_result (Err (fault.Twice n)) h m = let P : Result ImageValue ImageFault → Type 0 = λ r. IsMeaningOf ls r in subst P h m
    by_result (Err (fault.BadMap n)) h m = let P : Result ImageValue ImageFault → Type 0 = λ r. IsMeaningOf ls r in subst P h m
    by_result (Err fault.NoReset) h m = let P : Result ImageValue ImageFault → Type 0 = λ r. IsMeaningOf ls r in subst P h m
    by_result (Err fault.Memory) h m = tt
