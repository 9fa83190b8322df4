-- Appends, one behind another.
use Rattle.std.proofs.Common.{◌≡◌, ◌≤◌, ◌<◌, ℕ, ◌+◌, ◌-◌, List, [], ◌++◌, length, take, drop, arith, Option, ◌∙◌, ap, sym, length-append, length-drop, get_or}
use Rattle.std.proofs.Common.{flat_map, Bor, Result, Ok, Err, IsErr, OnOk, subst, append-nil}
use Rattle.std.proofs.lemmas.List.{take-append-le, take_rest, take-append-drop}
use Rattle.std.proofs.lemmas.Grind.{common_steps, flat_map-append}
use Rattle.std.proofs.Math.Seq.{take-append-add, take-add}
use Rattle.std.specs.Io.KnownBytes.{Appends}
use Rattle.std.proofs.KnownBytes.{Appends-trans}
use Rattle.alp_io.specs.Sink.{AppendsProperPrefix, Writes}

-- a front of the first part is a front of both
pub part_of_first : (old new : Option (List ℕ)) (a b : List ℕ) → AppendsProperPrefix old new a → AppendsProperPrefix old new (a ++ b)
part_of_first old new a b p =
    let inside : p.count ≤ length a = omega arith in
    let front : take p.count (a ++ b) ≡ take p.count a = take-append-le p.count a b inside in
    record {
      count = p.count;
      proper = omega (arith, length-append a b);
      held = rw front p.held;
    }

-- the first part, and then a front of the second
pub part_of_second : (old mid new : Option (List ℕ)) (a b : List ℕ) → Appends old mid a → AppendsProperPrefix mid new b → AppendsProperPrefix old new (a ++ b)
part_of_second old mid new a b p q = record {
  count = length a + q.count;
  proper = omega (arith, length-append a b);
  held = rw (take-append-add a b q.count) (Appends-trans old mid new a (take q.count b) p q.held);
}

-- the next bytes of a piece, behind those that a loop has written
pub appends_next : (old mid new : Option (List ℕ)) (piece : List ℕ) (at n : ℕ) → at ≤ length piece → n ≤ length (take (length piece - at) (drop at piece))
    → Appends old mid (take at piece) → Appends mid new (take n (take (length piece - at) (drop at piece)))
    → (at + n ≤ length piece) × Appends old new (take (at + n) piece)
appends_next old mid new piece at n inside fits p q =
    let whole : take (length piece - at) (drop at piece) ≡ drop at piece = take_rest piece at in
    let more : Appends mid new (take n (drop at piece)) = rw whole at q in
    let fits2 : n ≤ length (drop at piece) = rw whole at fits in
    (omega (arith, length-drop at piece), rw (take-add at n piece) (Appends-trans old mid new (take at piece) (take n (drop at piece)) p more))

-- pieces one behind the other, and those up to the next one
pub pieces_next : (pieces : List (Bor (List ℕ))) (i : ℕ) (d : Bor (List ℕ)) → i < length pieces
    → flat_map (λ p. p.now) (take (i + 1) pieces) ≡ flat_map (λ p. p.now) (take i pieces) ++ (get_or pieces i d).now
pieces_next pieces i d inside = grind (arith, common_steps)

-- a failure within one of the pieces
pub pieces_part : (old new : Option (List ℕ)) (pieces : List (Bor (List ℕ))) (i : ℕ) (d : Bor (List ℕ)) → i < length pieces
    → AppendsProperPrefix old new (flat_map (λ p. p.now) (take i pieces) ++ (get_or pieces i d).now)
    → AppendsProperPrefix old new (flat_map (λ p. p.now) pieces)
pieces_part old new pieces i d inside q =
    let f : Bor (List ℕ) → List ℕ = λ p. p.now in
    let front : AppendsProperPrefix old new (flat_map f (take (i + 1) pieces)) = rw (pieces_next pieces i d inside) q in
    let whole : flat_map f pieces ≡ flat_map f (take (i + 1) pieces) ++ flat_map f (drop (i + 1) pieces) =
    ap (flat_map f) (sym (take-append-drop (i + 1) pieces)) ∙ flat_map-append f (take (i + 1) pieces) (drop (i + 1) pieces) in
    let P : List ℕ → Type 0 = λ t. AppendsProperPrefix old new t in
    subst P (sym whole) (part_of_first old new _ _ front)

-- what a failed call says where its error is handed on
pub writes_err : {T E : Type 0} (old new : Option (List ℕ)) (result : Result T E) (text : List ℕ) → IsErr result → AppendsProperPrefix old new text
    → Writes old new result text
writes_err old new (Ok x) text e p = absurd (cc)
writes_err old new (Err x) text e p = record { whole = tt; part = p }

-- one text behind another, the second whole or in part
pub writes_then : {T E : Type 0} (old mid new : Option (List ℕ)) (result : Result T E) (a b : List ℕ) → Appends old mid a → Writes mid new result b
    → Writes old new result (a ++ b)
writes_then old mid new (Ok x) a b p q = record { whole = Appends-trans old mid new a b p q.whole; part = tt }
writes_then old mid new (Err x) a b p q = record { whole = tt; part = part_of_second old mid new a b p q.part }

-- two texts of which all but a rest was written
pub writes_all_but : {T E : Type 0} (old mid new : Option (List ℕ)) (result : Result T E) (a b rest : List ℕ) → rest ≡ [] → Appends old mid a
    → Writes mid new result b
    → OnOk result ((done : List ℕ) × Appends old new done × (done ++ rest ≡ a ++ b))
writes_all_but old mid new (Ok x) a b rest none p q = (a ++ b, Appends-trans old mid new a b p q.whole, rw none (append-nil (a ++ b)))
writes_all_but old mid new (Err x) a b rest none p q = tt
