-- The charges of a trace are few, and power-ups leave words.
use Rattle.std.proofs.Common.{◌≡◌, ℕ, zero, suc, ◌+◌, ◌*◌, ◌^◌, ◌<◌, ◌≤◌, arith, List, [], ◌∷◌, ◌++◌, replicate, All}
use Rattle.std.proofs.lemmas.List.Sums.{sum_by-cons}
use Rattle.std.proofs.lemmas.List.Elements.{All-nil, All-append, All-replicate, All-head, All-tail}
use Rattle.energy_trace.specs.declared.charge.Charge.{Charge}
use Rattle.energy_trace.specs.Ranges.{IsCharge}
use Rattle.energy_trace.specs.TraceValue.{TraceValue, charge_count}
use Rattle.fram_board.specs.Steps.{IsPowerState}
use Rattle.fram_board.specs.Run.{BoardCharge}
use Rattle.fram_board.proofs.Interface.{fill_is_a_power_state}
use Rattle.board_run.specs.Charges.{charge_of, charges_of}
use Rattle.run_charges.specs.Charges.{ArePowerStates}
use Rattle.model_runs.specs.Runs.{all_amounts}
use Rattle.source_runs.specs.Traces.{AreInputs, IsTraceOfWords}
use Rattle.source_runs.specs.Laws.{TracesAreFew}

amounts_both : (cs ds : List BoardCharge) → all_amounts (cs ++ ds) ≡ all_amounts cs + all_amounts ds
amounts_both [] ds = omega arith
amounts_both (c ∷ cs) ds = let h = amounts_both cs ds in omega (arith, h)

-- so many equal charges
amounts_equal : (n : ℕ) (c : BoardCharge) → c.amount < 0x100000000 → all_amounts (replicate n c) ≤ n * 0x100000000
amounts_equal zero c h = omega arith
amounts_equal (suc n) c h = let ih = amounts_equal n c h in omega (arith, ih, h)

amounts_few : (cs : List Charge) → All IsCharge cs → all_amounts (charges_of cs) ≤ charge_count cs * 0x100000000
amounts_few [] all = omega arith
amounts_few (c ∷ cs) all =
    let one = (All-head IsCharge c cs all).n in
    let a = amounts_equal c.times (charge_of c) one in
    let b = amounts_few cs (All-tail IsCharge c cs all) in
    let both = amounts_both (replicate c.times (charge_of c)) (charges_of cs) in
    let count = sum_by-cons (λ d. d.times) c cs in
    omega (arith, a, b, both, count)

starts : (cs : List Charge) → All IsCharge cs → ArePowerStates (charges_of cs)
starts [] all = All-nil (λ c. IsPowerState c.start)
starts (c ∷ cs) all =
    All-append (λ d. IsPowerState d.start) (replicate c.times (charge_of c)) (charges_of cs)
    (All-replicate (λ d. IsPowerState d.start) c.times (charge_of c) (fill_is_a_power_state c.fill (All-head IsCharge c cs all).fill))
    (starts cs (All-tail IsCharge c cs all))

few_times : (n amounts : ℕ) → n ≤ 1000000 → amounts ≤ n * 0x100000000 → amounts < 2 ^ 64
few_times n amounts few h = omega (arith, few, h)

pub traces_are_few : TracesAreFew
traces_are_few t is = (
  starts t.charges is.charges,
  few_times (charge_count t.charges) (all_amounts (charges_of t.charges)) is.trace.charges (amounts_few t.charges is.charges),
)

-- a board may hold its readings and its events
pub trace_inputs : (t : TraceValue) → IsTraceOfWords t → AreInputs t.readings t.events
trace_inputs t is = record {
  readings_are_words = is.readings;
  few_readings = is.trace.readings;
  events_are_words = λ i e at. let word = (is.events i e at).word in omega (arith, word);
  few_events = is.trace.events;
}
