-- What a sink has of a text that a buffer before it took.
use Rattle.std.proofs.Common.{◌≡◌, ◌≤◌, ◌<◌, ℕ, ◌+◌, ◌-◌, List, ◌++◌, length, take, arith, Option, Some, None, ◌∙◌, ap, sym, length-append, length-take}
use Rattle.std.proofs.Common.{Result, Ok, Err, IsOk, IsErr}
use Rattle.std.proofs.lemmas.List.{take-take, length-take-le}
use Rattle.std.proofs.Math.Seq.{take-append-add}
use Rattle.std.proofs.lemmas.Grind.{common_steps}
use Rattle.std.specs.Io.KnownBytes.{Appends, Keeps, append_known}
use Rattle.std.proofs.KnownBytes.{Appends-kept}
use Rattle.alp_io.specs.Sink.{AppendsProperPrefix}
use Rattle.buffered_sink.specs.Front.{front_of, Settles}

-- ---- bytes that begin with those at first

-- they are no fewer
front_fits : (a xs : List ℕ) → take (length a) xs ≡ a → length a ≤ length xs
front_fits a xs begun =
    let lengths : length (take (length a) xs) ≡ length a = ap length begun in
    omega (arith, lengths, length-take (length a) xs)

some_is : (xs ys : List ℕ) → Some xs ≡ Some ys → xs ≡ ys
some_is xs ys same = cc

-- with what waits they are those at first and a text: so they end in the text, but for what waits
text_front : (a xs waiting text : List ℕ) → take (length a) xs ≡ a → xs ++ waiting ≡ a ++ text → xs ≡ a ++ take (length xs - length a) text
text_front a xs waiting text begun joined =
    let fits : length a ≤ length xs = front_fits a xs begun in
    let whole : take (length xs) (xs ++ waiting) ≡ xs = grind (arith, common_steps) in
    let split : length a + (length xs - length a) ≡ length xs = omega arith in
    sym whole ∙ ap (take (length xs)) joined ∙ ap (λ n. take n (a ++ text)) (sym split) ∙ take-append-add a text (length xs - length a)

-- ---- what the sink has of a text

-- the whole text was taken, and some of it waits
waiting_part : (first held : Option (List ℕ)) (waiting text : List ℕ) → front_of first held ≡ first → 0 < length waiting → 0 < length text
    → Appends first (append_known held waiting) text → AppendsProperPrefix first held text
waiting_part None held waiting text begun some more taken = record { count = 0; proper = more; held = tt }
waiting_part (Some a) None waiting text begun some more taken = absurd taken
waiting_part (Some a) (Some xs) waiting text begun some more taken =
    let starts : take (length a) xs ≡ a = some_is _ _ begun in
    let fits : length a ≤ length xs = front_fits a xs starts in
    let lengths : length (xs ++ waiting) ≡ length (a ++ text) = ap length taken in
    record {
      count = length xs - length a;
      proper = omega (arith, lengths, length-append xs waiting, length-append a text);
      held = text_front a xs waiting text starts taken;
    }

-- a proper prefix was taken, and some of it may wait
broken_part : (first held : Option (List ℕ)) (waiting text : List ℕ) → front_of first held ≡ first
    → AppendsProperPrefix first (append_known held waiting) text → AppendsProperPrefix first held text
broken_part None held waiting text begun p = record { count = p.count; proper = p.proper; held = tt }
broken_part (Some a) None waiting text begun p = absurd p.held
broken_part (Some a) (Some xs) waiting text begun p =
    let starts : take (length a) xs ≡ a = some_is _ _ begun in
    let fits : length a ≤ length xs = front_fits a xs starts in
    let lengths : length (xs ++ waiting) ≡ length (a ++ take p.count text) = ap length p.held in
    let inside : length (take p.count text) ≡ p.count = length-take-le p.count text (omega arith) in
    let short : length xs - length a ≤ p.count = omega (arith, lengths, inside, length-append xs waiting, length-append a (take p.count text)) in
    let front : xs ≡ a ++ take (length xs - length a) (take p.count text) = text_front a xs waiting (take p.count text) starts p.held in
    record {
      count = length xs - length a;
      proper = omega arith;
      held = front ∙ ap (λ t. a ++ t) (take-take (length xs - length a) p.count text short);
    }

-- ---- the same by answers

-- the text was not taken whole, and nothing more is handed on
pub settles_broken : {T E : Type 0} (first held : Option (List ℕ)) (waiting : List ℕ) (written result : Result T E) → front_of first held ≡ first
    → IsErr written → IsErr result → Settles first (append_known held waiting) held written result
settles_broken first held waiting (Ok x) result begun failed fails text more w = absurd (cc)
settles_broken first held waiting (Err x) (Ok y) begun failed fails text more w = absurd (cc)
settles_broken first held waiting (Err x) (Err y) begun failed fails text more w =
    record { whole = tt; part = broken_part first held waiting text begun w.part }

-- the text was taken whole, and not all that waited could be handed on
pub settles_part : {T E : Type 0} (first mid held : Option (List ℕ)) (before waiting : List ℕ) (written result : Result T E) → front_of first held ≡ first
    → IsOk written → IsErr result → 0 < length waiting → Keeps (append_known mid before) (append_known held waiting)
    → Settles first (append_known mid before) held written result
settles_part first mid held before waiting (Err x) result begun whole fails some kept text more w = absurd (cc)
settles_part first mid held before waiting (Ok x) (Ok y) begun whole fails some kept text more w = absurd (cc)
settles_part first mid held before waiting (Ok x) (Err y) begun whole fails some kept text more w =
    let taken = Appends-kept first (append_known mid before) (append_known held waiting) text w.whole kept in
    record { whole = tt; part = waiting_part first held waiting text begun some more taken }
