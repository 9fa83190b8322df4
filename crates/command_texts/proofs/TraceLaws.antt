-- The numbers of a trace that is read are as their types say.
use Rattle.std.proofs.Common.{◌≡◌, ◌<◌, ◌^◌, ℕ, List, [], ◌∷◌, map, Bool, true, false, if◌then◌else◌, nat_lt, Option, Some, None, IfSome, Result, Ok}
use Rattle.std.proofs.Common.{Err, codes, All, arith, refl, sym, subst}
use Rattle.std.specs.Str.{bytes_eq}
use Rattle.std.proofs.lemmas.Bool.Decides.{nat_tests}
use Rattle.std.proofs.lemmas.List.Elements.{All-nil, All-cons, All-append}
use Rattle.command_answers.specs.alp_text.Numbers.{number_of, limited}
use Rattle.command_answers.specs.alp_text.declared.numbers.NumberFault.{NumberFault}
use Rattle.energy_trace.specs.declared.charge.Charge.{Charge}
use Rattle.energy_trace.specs.declared.charge.ChargeKind.{ChargeKind}
use Rattle.energy_trace.specs.Line.{LineMeaning, nothing, charge, readings, event, number_below, positive, times_of, charge_of, readings_of, event_of}
use Rattle.energy_trace.specs.Line.{line_says, ◌>>?◌}
use Rattle.energy_trace.specs.Ranges.{IsCharge, IsEvent}
use Rattle.energy_trace.specs.Meaning.{all_charges, all_readings, all_events, AreLinesOf}
use Rattle.energy_trace.specs.TraceValue.{TraceValue, Event}
use Rattle.energy_trace.proofs.Interface.{line_by}
use Rattle.source_runs.specs.Traces.{IsTraceOfWords}

-- what a line says is of words
abbrev IsOfWords : LineMeaning → Type 0
IsOfWords nothing = Unit {0}
IsOfWords (charge c) = IsCharge c
IsOfWords (readings ws) = All (λ w. w < 0x10000) ws
IsOfWords (event e) = IsEvent e

-- ---- one line

below_by : (limit n : ℕ) (x : Bool) → nat_lt n limit ≡ x → IfSome (if x then Some n else None) (λ k. k < limit)
below_by limit n true e = grind (arith, nat_tests, e)
below_by limit n false e = tt

below : (limit : ℕ) (r : Result ℕ NumberFault) → IfSome (limited limit r) (λ k. k < limit)
below limit (Ok n) = below_by limit n (nat_lt n limit) refl
below limit (Err e) = tt

positive_below : (limit k : ℕ) (x : Bool) → k < limit → IfSome (if x then Some k else None) (λ n. n < limit)
positive_below limit k true low = low
positive_below limit k false low = tt

positives : (limit : ℕ) (o : Option ℕ) → IfSome o (λ k. k < limit) → IfSome (o >>? positive) (λ k. k < limit)
positives limit None low = tt
positives limit (Some k) low = positive_below limit k (nat_lt 0 k) low

chosen : (x : Bool) (o : Option ℕ) (P : ℕ → Type 0) → IfSome o P → IfSome (if x then o else None) P
chosen true o P p = p
chosen false o P p = tt

times_below : (fs : List (List ℕ)) → IfSome (times_of fs) (λ k. k < 2 ^ 32)
times_below [] = omega arith
times_below (star ∷ []) = tt
times_below (star ∷ count ∷ []) =
    chosen (bytes_eq star (codes "*")) (number_below (2 ^ 32) count >>? positive) (λ k. k < 2 ^ 32)
    (positives (2 ^ 32) (number_below (2 ^ 32) count) (below (2 ^ 32) (number_of count)))
times_below (star ∷ count ∷ f ∷ fs) = tt

charge_by : (k : ChargeKind) (n fill times : Option ℕ) (c : Charge) → IfSome n (λ x. x < 2 ^ 32) → IfSome fill (λ x. x < 2 ^ 16)
    → IfSome times (λ x. x < 2 ^ 32)
    → (n >>? λ n. fill >>? λ fill. times >>? λ times. Some (record { kind = k; n = n; fill = fill; times = times })) ≡ Some c → IsCharge c
charge_by k None fill times c n_low fill_low times_low e = cc
charge_by k (Some n) None times c n_low fill_low times_low e = cc
charge_by k (Some n) (Some fill) None c n_low fill_low times_low e = cc
charge_by k (Some n) (Some fill) (Some times) c n_low fill_low times_low e =
    let made : Charge = record { kind = k; n = n; fill = fill; times = times } in
    let same : made ≡ c = cc in
    subst IsCharge same (record { n = n_low; fill = fill_low; times = times_low })

charge_words : (k : ChargeKind) (fs : List (List ℕ)) (c : Charge) → charge_of k fs ≡ Some c → IsCharge c
charge_words k [] c e = cc
charge_words k (n ∷ []) c e = cc
charge_words k (n ∷ fill ∷ rest) c e =
    charge_by k (limited (2 ^ 32) (number_of n)) (limited (2 ^ 16) (number_of fill)) (times_of rest) c
    (below (2 ^ 32) (number_of n)) (below (2 ^ 16) (number_of fill)) (times_below rest) e

reading_by : (w : Option ℕ) (ws : Option (List ℕ)) → IfSome w (λ x. x < 2 ^ 16) → IfSome ws (All (λ x. x < 0x10000))
    → IfSome (w >>? λ w. ws >>? λ ws. Some (w ∷ ws)) (All (λ x. x < 0x10000))
reading_by None ws low all = tt
reading_by (Some w) None low all = tt
reading_by (Some w) (Some ws) low all = All-cons (λ x. x < 0x10000) w ws low all

reading_words : (fs : List (List ℕ)) → IfSome (readings_of fs) (All (λ x. x < 0x10000))
reading_words [] = All-nil (λ x. x < 0x10000)
reading_words (f ∷ fs) = reading_by (limited (2 ^ 16) (number_of f)) (readings_of fs) (below (2 ^ 16) (number_of f)) (reading_words fs)

are_words : (fs : List (List ℕ)) (ws : List ℕ) → readings_of fs ≡ Some ws → All (λ x. x < 0x10000) ws
are_words fs ws e = let P : Option (List ℕ) → Type 0 = λ o. IfSome o (All (λ x. x < 0x10000)) in subst P e (reading_words fs)

event_by : (n w : Option ℕ) (e : Event) → IfSome n (λ x. x < 2 ^ 32) → IfSome w (λ x. x < 2 ^ 16) → (n >>? λ n. w >>? λ w. Some (n, w)) ≡ Some e → IsEvent e
event_by None w e n_low w_low h = cc
event_by (Some n) None e n_low w_low h = cc
event_by (Some n) (Some w) e n_low w_low h = let same : (n, w) ≡ e = cc in subst IsEvent same (record { step = n_low; word = w_low })

event_words : (fs : List (List ℕ)) (e : Event) → event_of fs ≡ Some e → IsEvent e
event_words [] e h = cc
event_words (n ∷ []) e h = cc
event_words (n ∷ w ∷ []) e h =
    let word : Option ℕ = limited (2 ^ 16) (number_of w) in
    event_by (limited (2 ^ 32) (number_of n)) (word >>? positive) e (below (2 ^ 32) (number_of n))
    (positives (2 ^ 16) word (below (2 ^ 16) (number_of w))) h
event_words (n ∷ w ∷ f ∷ fs) e h = cc

line_of_words : (l : List ℕ) (m : LineMeaning) → line_says l ≡ Some m → IsOfWords m
line_of_words l m e = line_by IsOfWords l m tt charge_words are_words event_words e

-- ---- all lines

abbrev AreOfWords : List LineMeaning → Type 0
AreOfWords [] = Unit {0}
AreOfWords (m ∷ ms) = IsOfWords m × AreOfWords ms

lines_of_words : (ls : List (List ℕ)) (ms : List LineMeaning) → map line_says ls ≡ map Some ms → AreOfWords ms
lines_of_words [] [] e = tt
lines_of_words [] (m ∷ ms) e = cc
lines_of_words (l ∷ ls) [] e = tt
lines_of_words (l ∷ ls) (m ∷ ms) e =
    let head : line_says l ≡ Some m = cc in
    let tail : map line_says ls ≡ map Some ms = cc in
    (line_of_words l m head, lines_of_words ls ms tail)

charges_of_words : (ms : List LineMeaning) → AreOfWords ms → All IsCharge (all_charges ms)
charges_of_words [] words = All-nil IsCharge
charges_of_words (nothing ∷ ms) words = charges_of_words ms words.1
charges_of_words (charge c ∷ ms) words = All-cons IsCharge c (all_charges ms) words.0 (charges_of_words ms words.1)
charges_of_words (readings ws ∷ ms) words = charges_of_words ms words.1
charges_of_words (event e ∷ ms) words = charges_of_words ms words.1

readings_of_words : (ms : List LineMeaning) → AreOfWords ms → All (λ w. w < 0x10000) (all_readings ms)
readings_of_words [] words = All-nil (λ w. w < 0x10000)
readings_of_words (nothing ∷ ms) words = readings_of_words ms words.1
readings_of_words (charge c ∷ ms) words = readings_of_words ms words.1
readings_of_words (readings ws ∷ ms) words = All-append (λ w. w < 0x10000) ws (all_readings ms) words.0 (readings_of_words ms words.1)
readings_of_words (event e ∷ ms) words = readings_of_words ms words.1

events_of_words : (ms : List LineMeaning) → AreOfWords ms → All IsEvent (all_events ms)
events_of_words [] words = All-nil IsEvent
events_of_words (nothing ∷ ms) words = events_of_words ms words.1
events_of_words (charge c ∷ ms) words = events_of_words ms words.1
events_of_words (readings ws ∷ ms) words = events_of_words ms words.1
events_of_words (event e ∷ ms) words = All-cons IsEvent e (all_events ms) words.0 (events_of_words ms words.1)

pub trace_of_words : (ls : List (List ℕ)) (t : TraceValue) → AreLinesOf ls t → IsTraceOfWords t
trace_of_words ls t are =
    let words = lines_of_words ls are.meanings are.lines in
    record {
      trace = are.limits;
      charges = subst (All IsCharge) (sym are.charges) (charges_of_words are.meanings words);
      readings = subst (All (λ w. w < 0x10000)) (sym are.readings) (readings_of_words are.meanings words);
      events = subst (All IsEvent) (sym are.events) (events_of_words are.meanings words);
    }
