-- The lines of a pair's moments, one stretch behind the other.
use Rattle.std.proofs.Common.{◌≡◌, ◌<◌, ◌+◌, ℕ, arith, refl, sym, ◌∙◌, ap, subst, List, [], ◌∷◌, ◌++◌, append_assoc, length}
use Rattle.std.proofs.Common.{length-append, take, Option}
use Rattle.std.proofs.lemmas.List.{take-append-le}
use Rattle.std.proofs.Math.Seq.{take-append-add}
use Rattle.std.specs.Io.KnownBytes.{Appends}
use Rattle.std.proofs.KnownBytes.{Appends-trans}
use Rattle.alp_io.specs.Sink.{AppendsProperPrefix}
use Rattle.board_run.specs.Events.{head_of}
use Rattle.board_run.proofs.Interface.{after_map}
use Rattle.pair_run.specs.Pair.{PairMoment, OfA, OfB}
use Rattle.pair_run.specs.Lines.{PairKnown, known_behind, lines_of, pair_lines_from, known_after}

pub lines_behind : (k : PairKnown) (ms ns : List PairMoment)
    → pair_lines_from k (ms ++ ns) ≡ pair_lines_from k ms ++ pair_lines_from (known_after k ms) ns
lines_behind k [] ns = refl
lines_behind k (m ∷ ms) ns =
    ap (λ t. lines_of k m ++ t) (lines_behind (known_behind k m) ms ns)
    ∙ sym (append_assoc (lines_of k m) (pair_lines_from (known_behind k m) ms) (pair_lines_from (known_after (known_behind k m) ms) ns))

pub known_both : (k : PairKnown) (ms ns : List PairMoment) → known_after k (ms ++ ns) ≡ known_after (known_after k ms) ns
known_both k [] ns = refl
known_both k (m ∷ ms) ns = known_both (known_behind k m) ms ns

one_head : (k : PairKnown) (m : PairMoment) → head_of (known_behind k m).b.map ≡ head_of k.b.map
one_head k (OfA m) = refl
one_head k (OfB m) = ap head_of (after_map k.b (m ∷ []))

-- the ring stays where it is
pub same_head : (k : PairKnown) (ms : List PairMoment) → head_of (known_after k ms).b.map ≡ head_of k.b.map
same_head k [] = refl
same_head k (m ∷ ms) = same_head (known_behind k m) ms ∙ one_head k m

-- a proper prefix of a text is one of a longer text
pub prefix_of_longer : (old new : Option (List ℕ)) (text more : List ℕ) → AppendsProperPrefix old new text → AppendsProperPrefix old new (text ++ more)
prefix_of_longer old new text more p =
    let low = p.proper in
    let inside : p.count < length (text ++ more) = omega (arith, low, length-append text more) in
    record {
      count = p.count;
      proper = inside;
      held = subst (Appends old new) (sym (take-append-le p.count text more (omega (arith, low)))) p.held;
    }

-- behind a text that was written whole
pub prefix_behind : (old mid new : Option (List ℕ)) (text more : List ℕ) → Appends old mid text → AppendsProperPrefix mid new more
    → AppendsProperPrefix old new (text ++ more)
prefix_behind old mid new text more whole p =
    let low = p.proper in
    record {
      count = length text + p.count;
      proper = omega (arith, low, length-append text more);
      held = subst (Appends old new) (sym (take-append-add text more p.count)) (Appends-trans old mid new text (take p.count more) whole p.held);
    }
