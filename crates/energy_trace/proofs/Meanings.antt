-- What reading gives is the meaning of the lines.
use Rattle.std.proofs.Common.{◌≡◌, ◌<◌, ◌≤◌, ℕ, ◌+◌, ◌&&◌, ◌⊎◌, List, [], ◌∷◌, ◌++◌, length, map, refl, ap, sym, ◌∙◌, arith, subst, nat_le}
use Rattle.std.proofs.Common.{if◌then◌else◌, Bool, true, false, Option, Some, None, Result, Ok, Err, inl, inr, append_assoc, length-append, append-nil}
use Rattle.std.proofs.lemmas.List.Elements.{All-nil, All-push}
use Rattle.std.proofs.lemmas.List.Sorted.{IsNonDecreasingBy-short}
use Rattle.std.proofs.lemmas.Bool.{and_cases}
use Rattle.std.proofs.lemmas.Bool.Decides.{nat_tests}
use Rattle.std.proofs.lemmas.List.{map-append}
use Rattle.energy_trace.specs.declared.charge.Charge.{Charge}
use Rattle.energy_trace.specs.declared.fault.TraceFault.{TraceFault}
use Rattle.energy_trace.specs.declared.fault.TraceFault.TheVariants.{BadLine, TooMany, Memory}
use Rattle.energy_trace.specs.TraceValue.{TraceValue, Event, charge_count, IsTrace}
use Rattle.energy_trace.specs.Line.{LineMeaning, nothing, charge, readings, event, line_says}
use Rattle.energy_trace.specs.Reading.{no_trace, with_line, is_in_order, is_within, checked, step, read, Gives, ◌>>=◌}
use Rattle.energy_trace.specs.Meaning.{all_charges, all_readings, all_events, AreLinesOf, FaultAt, IsBadLine, IsTooMany, IsMeaningOf}
use Rattle.energy_trace.proofs.Lines.{line_by}
use Rattle.energy_trace.proofs.Steps.{charge_repeats, event_has_word, order_more}

-- a charge that comes, an event whose word isn't 0
abbrev IsFit : LineMeaning → Type 0
IsFit nothing = Unit {0}
IsFit (charge c) = 0 < c.times
IsFit (readings ws) = Unit {0}
IsFit (event e) = 0 < e.1

line_fits : (l : List ℕ) (m : LineMeaning) → line_says l ≡ Some m → IsFit m
line_fits l m h = line_by IsFit l m tt charge_repeats (λ fs ws k. tt) event_has_word h

two_past : (r e : ℕ) → (nat_le r 262144 ≡ false) ⊎ (nat_le e 65536 ≡ false) → (262144 < r) ⊎ (65536 < e)
two_past r e (inl h) = inl (grind (arith, nat_tests, h))
two_past r e (inr h) = inr (grind (arith, nat_tests, h))

past : (c r e : ℕ) → (nat_le c 1000000 ≡ false) ⊎ ((nat_le r 262144 && nat_le e 65536) ≡ false) → (1000000 < c) ⊎ ((262144 < r) ⊎ (65536 < e))
past c r e (inl h) = inl (grind (arith, nat_tests, h))
past c r e (inr h) = inr (two_past r e (and_cases (nat_le r 262144) (nat_le e 65536) h))

-- too many charges, readings or events
too_many : (t : TraceValue) → is_within t ≡ false
    → (1000000 < charge_count t.charges) ⊎ ((262144 < length t.readings) ⊎ (65536 < length t.events))
too_many t h =
    past (charge_count t.charges) (length t.readings) (length t.events)
    (and_cases (nat_le (charge_count t.charges) 1000000) (nat_le (length t.readings) 262144 && nat_le (length t.events) 65536) h)

-- what else a trace is held to, with one line more
limits_by : (m : LineMeaning) (t : TraceValue) → IsFit m → is_in_order t m ≡ true → IsTrace t → charge_count (with_line t m).charges ≤ 1000000
    → length (with_line t m).readings ≤ 262144 → length (with_line t m).events ≤ 65536 → IsTrace (with_line t m)
limits_by nothing t f o h a b c = h
limits_by (charge x) t f o h a b c = record {
  charges = a;
  readings = b;
  repeats = All-push (λ c. 0 < c.times) t.charges x h.repeats f;
  events = c;
  words = h.words;
  order = h.order;
}
limits_by (readings ws) t f o h a b c = record { charges = a; readings = b; repeats = h.repeats; events = c; words = h.words; order = h.order }
limits_by (event e) t f o h a b c = record {
  charges = a;
  readings = b;
  repeats = h.repeats;
  events = c;
  words = All-push (λ e. 0 < e.1) t.events e h.words f;
  order = order_more t.events e h.order (grind (arith, nat_tests, o));
}

-- one line more within the limits
limits_more : (m : LineMeaning) (t : TraceValue) → IsFit m → is_in_order t m ≡ true → IsTrace t → is_within (with_line t m) ≡ true → IsTrace (with_line t m)
limits_more m t f o h all = limits_by m t f o h (grind (arith, nat_tests, all)) (grind (arith, nat_tests, all)) (grind (arith, nat_tests, all))

charges_append : (ms ns : List LineMeaning) → all_charges (ms ++ ns) ≡ all_charges ms ++ all_charges ns
charges_append [] ns = refl
charges_append (nothing ∷ ms) ns = charges_append ms ns
charges_append (charge c ∷ ms) ns = ap (λ r. c ∷ r) (charges_append ms ns)
charges_append (readings ws ∷ ms) ns = charges_append ms ns
charges_append (event e ∷ ms) ns = charges_append ms ns

readings_append : (ms ns : List LineMeaning) → all_readings (ms ++ ns) ≡ all_readings ms ++ all_readings ns
readings_append [] ns = refl
readings_append (nothing ∷ ms) ns = readings_append ms ns
readings_append (charge c ∷ ms) ns = readings_append ms ns
readings_append (readings ws ∷ ms) ns = ap (λ r. ws ++ r) (readings_append ms ns) ∙ sym (append_assoc ws (all_readings ms) (all_readings ns))
readings_append (event e ∷ ms) ns = readings_append ms ns

events_append : (ms ns : List LineMeaning) → all_events (ms ++ ns) ≡ all_events ms ++ all_events ns
events_append [] ns = refl
events_append (nothing ∷ ms) ns = events_append ms ns
events_append (charge c ∷ ms) ns = events_append ms ns
events_append (readings ws ∷ ms) ns = events_append ms ns
events_append (event e ∷ ms) ns = ap (λ r. e ∷ r) (events_append ms ns)

charges_more : (t : TraceValue) (ms : List LineMeaning) (m : LineMeaning) → t.charges ≡ all_charges ms → (with_line t m).charges ≡ all_charges (ms ++ m ∷ [])
charges_more t ms nothing e = e ∙ sym (charges_append ms (nothing ∷ []) ∙ append-nil (all_charges ms))
charges_more t ms (charge c) e = ap (λ r. r ++ c ∷ []) e ∙ sym (charges_append ms (charge c ∷ []))
charges_more t ms (readings ws) e = e ∙ sym (charges_append ms (readings ws ∷ []) ∙ append-nil (all_charges ms))
charges_more t ms (event v) e = e ∙ sym (charges_append ms (event v ∷ []) ∙ append-nil (all_charges ms))

readings_more : (t : TraceValue) (ms : List LineMeaning) (m : LineMeaning) → t.readings ≡ all_readings ms
    → (with_line t m).readings ≡ all_readings (ms ++ m ∷ [])
readings_more t ms nothing e = e ∙ sym (readings_append ms (nothing ∷ []) ∙ append-nil (all_readings ms))
readings_more t ms (charge c) e = e ∙ sym (readings_append ms (charge c ∷ []) ∙ append-nil (all_readings ms))
readings_more t ms (readings ws) e = ap (λ r. r ++ ws) e ∙ sym (readings_append ms (readings ws ∷ []) ∙ ap (λ r. all_readings ms ++ r) (append-nil ws))
readings_more t ms (event v) e = e ∙ sym (readings_append ms (event v ∷ []) ∙ append-nil (all_readings ms))

events_more : (t : TraceValue) (ms : List LineMeaning) (m : LineMeaning) → t.events ≡ all_events ms → (with_line t m).events ≡ all_events (ms ++ m ∷ [])
events_more t ms nothing e = e ∙ sym (events_append ms (nothing ∷ []) ∙ append-nil (all_events ms))
events_more t ms (charge c) e = e ∙ sym (events_append ms (charge c ∷ []) ∙ append-nil (all_events ms))
events_more t ms (readings ws) e = e ∙ sym (events_append ms (readings ws ∷ []) ∙ append-nil (all_events ms))
events_more t ms (event v) e = ap (λ r. r ++ v ∷ []) e ∙ sym (events_append ms (event v ∷ []))

-- one line more
more_lines : (done : List (List ℕ)) (l : List ℕ) (t : TraceValue) (m : LineMeaning) → AreLinesOf done t → line_says l ≡ Some m → IsTrace (with_line t m)
    → AreLinesOf (done ++ l ∷ []) (with_line t m)
more_lines done l t m h e k = record {
  meanings = h.meanings ++ m ∷ [];
  lines = map-append line_says done (l ∷ []) ∙ ap (λ r. r ++ line_says l ∷ []) h.lines ∙ ap (λ o. map Some h.meanings ++ o ∷ []) e
      ∙ sym (map-append Some h.meanings (m ∷ []));
  charges = charges_more t h.meanings m h.charges;
  readings = readings_more t h.meanings m h.readings;
  events = events_more t h.meanings m h.events;
  limits = k;
}

-- whatever lines come behind those that are read
abbrev TraceContinues : List (List ℕ) → Type 0
TraceContinues ls = (done : List (List ℕ)) (t : TraceValue) → AreLinesOf done t → IsMeaningOf (done ++ ls) (read (length done + 1) t ls)

fault_at : (done ls : List (List ℕ)) (l : List ℕ) (t : TraceValue) (IsFault : TraceValue → Option LineMeaning → Type 0) → AreLinesOf done t
    → IsFault t (line_says l)
    → FaultAt (done ++ l ∷ ls) (length done + 1) IsFault
fault_at done ls l t IsFault h f = record { before = done; line = l; behind = ls; made = refl; number = refl; trace = t; read = h; fault = f }

test_by : (fits : Bool) (done ls : List (List ℕ)) (l : List ℕ) (t : TraceValue) (m : LineMeaning) → TraceContinues ls → AreLinesOf done t
    → line_says l ≡ Some m → is_in_order t m ≡ true → is_within (with_line t m) ≡ fits
    → IsMeaningOf (done ++ l ∷ ls) ((if fits then Ok (with_line t m) else Err (TooMany (length done + 1))) >>= λ t. read (length done + 1 + 1) t ls)
test_by true done ls l t m next h e o f =
    let limits : IsTrace (with_line t m) = limits_more m t (line_fits l m e) o h.limits f in
    let rest = next (done ++ l ∷ []) (with_line t m) (more_lines done l t m h e limits) in
    let len : length (done ++ l ∷ []) + 1 ≡ length done + 1 + 1 = ap (λ k. k + 1) (length-append done (l ∷ [])) in
    let P : List (List ℕ) → Type 0 = λ ls'. IsMeaningOf ls' (read (length (done ++ l ∷ []) + 1) (with_line t m) ls) in
    let Q : ℕ → Type 0 = λ k. IsMeaningOf (done ++ l ∷ ls) (read k (with_line t m) ls) in
    subst Q len (subst P (append_assoc done (l ∷ []) ls) rest)
test_by false done ls l t m next h e o f = fault_at done ls l t IsTooMany h (m, e, o, too_many (with_line t m) f)

order_by : (o : Bool) (done ls : List (List ℕ)) (l : List ℕ) (t : TraceValue) (m : LineMeaning) → TraceContinues ls → AreLinesOf done t
    → line_says l ≡ Some m → is_in_order t m ≡ o
    → IsMeaningOf (done ++ l ∷ ls)
    ((if o then checked (length done + 1) (with_line t m) else Err (BadLine (length done + 1))) >>= λ t. read (length done + 1 + 1) t ls)
order_by true done ls l t m next h e o = test_by (is_within (with_line t m)) done ls l t m next h e o refl
order_by false done ls l t m next h e o = fault_at done ls l t IsBadLine h (inr (m, e, o))

says_by : (said : Option LineMeaning) (done ls : List (List ℕ)) (l : List ℕ) (t : TraceValue) → TraceContinues ls → AreLinesOf done t → line_says l ≡ said
    → IsMeaningOf (done ++ l ∷ ls) (step (length done + 1) t said >>= λ t. read (length done + 1 + 1) t ls)
says_by None done ls l t next h e = fault_at done ls l t IsBadLine h (inl e)
says_by (Some m) done ls l t next h e = order_by (is_in_order t m) done ls l t m next h e refl

-- reading goes on to the meaning of all lines
pub goes_on : (ls : List (List ℕ)) → TraceContinues ls
unfolding read
goes_on [] done t h = let P : List (List ℕ) → Type 0 = λ ls. AreLinesOf ls t in subst P (sym (append-nil done)) h
goes_on (l ∷ ls) done t h = says_by (line_says l) done ls l t (goes_on ls) h refl

start : AreLinesOf [] no_trace
start = record {
  meanings = [];
  lines = refl;
  charges = refl;
  readings = refl;
  events = refl;
  limits = record {
    charges = omega arith;
    readings = omega arith;
    repeats = All-nil (λ (c : Charge). 0 < c.times);
    events = omega arith;
    words = All-nil (λ (e : Event). 0 < e.1);
    order = IsNonDecreasingBy-short (λ (e : Event). e.0) [] (omega arith);
  };
}

-- what a call gives is the meaning of the lines
pub meaning_is : (r : Result TraceValue TraceFault) (ls : List (List ℕ)) → Gives (λ t. t) r (read 1 no_trace ls) → IsMeaningOf ls r
meaning_is (Ok t) ls h = let P : Result TraceValue TraceFault → Type 0 = λ r. IsMeaningOf ls r in subst P h (goes_on ls [] no_trace start)
meaning_is (Err (BadLine n)) ls h = let P : Result TraceValue TraceFault → Type 0 = λ r. IsMeaningOf ls r in subst P h (goes_on ls [] no_trace start)
meaning_is (Err (TooMany n)) ls h = let P : Result TraceValue TraceFault → Type 0 = λ r. IsMeaningOf ls r in subst P h (goes_on ls [] no_trace start)
meaning_is (Err Memory) ls h = tt
