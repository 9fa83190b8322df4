-- The receiver of a run accepted the words that its transitions emitted, and has heard no more than its charges pay for.
use Rattle.std.proofs.Common.{◌≡◌, ◌≤◌, ℕ, ◌+◌, ◌-◌, refl, sym, ap, subst, arith, Bool, true, false, if◌then◌else◌, List, [], ◌∷◌, ◌++◌, length}
use Rattle.std.proofs.Common.{length-append, Option, Some, None, Result, Ok, Err, ◌∙◌}
use Rattle.std.proofs.lemmas.List.Sums.{sum_by-cons}
use Rattle.msp_step.specs.declared.machine.Stop.{Stop}
use Rattle.msp_step.specs.declared.machine.Stepped as cpu
use Rattle.msp_step.specs.Registers.{registers_of}
use Rattle.msp_step.specs.Step.{execution}
use Rattle.image_map.specs.MapValue.{MapValue}
use Rattle.image_map.specs.Kept.{IsMap}
use Rattle.fram_board.specs.declared.board.NextStep.{NextStep}
use Rattle.fram_board.specs.declared.board.NextStep.TheVariants as next_step
use Rattle.fram_board.specs.declared.receiver.Receiver.{Receiver}
use Rattle.fram_board.specs.declared.board.Stepped.{Stepped}
use Rattle.fram_board.specs.Bus.{BusState, board_bus}
use Rattle.fram_board.specs.Board.{BoardValue, opened, answer_of, performed, acceptance_on, at_boundary, powered, is_accepted, accepted_word, receiver_after}
use Rattle.fram_board.specs.Run.{Measure, Moment, Charges, Stopped, RunOutcome, run_outcome, BoardCharge, price, ChargeRun, Spent, NoInstruction}
use Rattle.fram_board.specs.Run.{TooDear, Refused, Executed, Run, Over, Next, Last, word_list, accepted_by, accepted_words}
use Rattle.fram_board.proofs.Interface.{price_low, counted}
use Rattle.source_report.specs.SourceReport.{words_in}
use Rattle.source_values.specs.Runs.{State, Transition, state_after}
use Rattle.machine_effects.specs.World.{World}
use Rattle.machine_effects.specs.Runs.{last_board}
use Rattle.crash_rules.specs.History.{Done, first_history}
use Rattle.run_charges.specs.Charges.{observed}
use Rattle.run_charges.specs.Laws.{IsProgramRun}
use Rattle.run_charges.specs.Moments.{IsMomentFrom, PowersUp, Instructs, Serves, AreMoments}
use Rattle.run_charges.proofs.Interface.{follows_keeps, charge_last, Counts, moments_count}
use Rattle.model_runs.specs.Events.{marks_of, IsInFront, last_world}
use Rattle.model_runs.specs.EventLaws.{StartsWith}
use Rattle.model_runs.proofs.Interface.{Together, moments_lead, first_histories_are_the_same}
use Rattle.board_run.specs.History.{start_with}
use Rattle.source_runs.specs.Transitions.{HasWordsOf, StandForTransitions}
use Rattle.model_runs.specs.Runs.{all_amounts}

-- the words accepted at the last done are those of the transitions up to it
words_at_last : (m : MapValue) (x : World) (s : State) (ds : List Done) (ts : List Transition) → HasWordsOf m x s → StandForTransitions m s ds ts
    → length (last_world x ds).accepted ≡ length s.emitted + words_in ts
words_at_last m x s [] [] here h = let words = ap length here.accepted in omega (arith, words)
words_at_last m x s [] (t ∷ ts) here h = absurd h
words_at_last m x s (d ∷ ds) [] here h = absurd h
words_at_last m x s (d ∷ ds) (t ∷ ts) here h =
    let more = words_at_last m d.world (state_after s t) ds ts h.0.behind h.1 in
    let both = length-append s.emitted t.emitted in
    let sum = sum_by-cons (λ t. length t.emitted) t ts in
    omega (arith, more, both, sum)

-- a receiver forgets no word that it accepted
one_kept : (b : Bool) (r : Receiver)
    → r.accepted ≤ (if b then record r { accepted = r.accepted + 1 } else record r { repeats = r.repeats + 1 }).accepted
one_kept true r = omega arith
one_kept false r = omega arith

kept : (number : ℕ) (o : Option ℕ) (r : Receiver) → r.accepted ≤ (receiver_after number o r).accepted
kept number None r = omega arith
kept number (Some w) r = one_kept (is_accepted number r) r

performed_keeps : (b : BoardValue) (n : NextStep) → b.receiver.accepted ≤ (performed b n).board.receiver.accepted
performed_keeps b next_step.Acceptance = let o = acceptance_on (registers_of b.cpu) (opened b) in kept o.bus.outnum o.bus.offered b.receiver
performed_keeps b (next_step.Instruction i) =
    let o = execution board_bus i (registers_of b.cpu) (opened b) in kept o.bus.outnum o.bus.offered b.receiver

charge_keeps : (m : Measure) (left : ℕ) (b : BoardValue) (r : RunOutcome) → ChargeRun m left b r
    → (last_board b r.moments).receiver.accepted ≤ r.board.receiver.accepted
charge_keeps m left b r (Spent _ _ none) = omega arith
charge_keeps m left b r (NoInstruction _ _ e pos h) = omega arith
charge_keeps m left b r (TooDear _ _ i pos c dear) = omega arith
charge_keeps m left b r (Refused _ _ i e pos c paid a) = performed_keeps b i
charge_keeps m left b r (Executed _ _ i done rest pos c paid a h) = charge_keeps m (left - price m i) (at_boundary (performed b i).board) rest h

-- what holds behind moments and others, holds behind all of them
behind_both : (b : BoardValue) (ms ns : List Moment) (n : ℕ) → (last_board (last_board b ms) ns).receiver.accepted ≤ n
    → (last_board b (ms ++ ns)).receiver.accepted ≤ n
behind_both b [] ns n h = h
behind_both b (m ∷ ms) ns n h = behind_both m.after ms ns n h

run_keeps : (cs : List BoardCharge) (b : BoardValue) (r : RunOutcome) → Run cs b r → (last_board b r.moments).receiver.accepted ≤ r.board.receiver.accepted
run_keeps cs b r (Over _) = omega arith
run_keeps cs b r (Next c ds _ ms end rest one more) =
    let there : last_board (powered b c.start) ms ≡ end = charge_last c.measure c.amount (powered b c.start) (run_outcome ms Charges end) one refl in
    let P : BoardValue → Type 0 = λ y. (last_board y rest.moments).receiver.accepted ≤ rest.board.receiver.accepted in
    behind_both (powered b c.start) ms rest.moments rest.board.receiver.accepted (subst P (sym there) (run_keeps ds end rest more))
run_keeps cs b r (Last c ds _ ms stop end one) = charge_keeps c.measure c.amount (powered b c.start) (run_outcome ms (Stopped stop) end) one

-- the receiver counts the words that moments tell
told_counted : (b : BoardValue) (s : BusState) (a : Result cpu.Stepped Stop) (done : Stepped) → answer_of b s a ≡ Ok done
    → (receiver_after s.outnum s.offered b.receiver).accepted ≡ b.receiver.accepted + length (word_list done.accepted)
told_counted b s (Ok d) done e =
    let same : done.accepted ≡ accepted_word s.outnum s.offered b.receiver = cc in
    counted s.outnum s.offered b.receiver ∙ ap (λ o. b.receiver.accepted + length (word_list o)) (sym same)
told_counted b s (Err x) done e = cc

moment_counted : (b : BoardValue) (m : Moment) → IsMomentFrom b m → m.after.receiver.accepted ≡ b.receiver.accepted + length (accepted_by m.action)
moment_counted b m (PowersUp p ok e) =
    let P : Moment → Type 0 = λ y. y.after.receiver.accepted ≡ b.receiver.accepted + length (accepted_by y.action) in subst P (sym e) (omega arith)
moment_counted b m (Instructs i done c a own e) =
    let P : Moment → Type 0 = λ y. y.after.receiver.accepted ≡ b.receiver.accepted + length (accepted_by y.action) in
    let o = execution board_bus i (registers_of b.cpu) (opened b) in
    subst P (sym e) (told_counted b o.bus o.answer done a)
moment_counted b m (Serves n done next a served e) =
    let P : Moment → Type 0 = λ y. y.after.receiver.accepted ≡ b.receiver.accepted + length (accepted_by y.action) in
    let same = ap (λ (r : Receiver). r.accepted) served.rest.receiver in
    let none = ap length served.accepts_none in
    subst P (sym e) (omega (arith, same, none))

words_counted : (b : BoardValue) (ms : List Moment) → AreMoments b ms
    → (last_board b ms).receiver.accepted ≡ b.receiver.accepted + length (accepted_words ms)
words_counted b [] all = omega arith
words_counted b (m ∷ ms) all =
    let same = (follows_keeps b m.before all.0).heard in
    let one = moment_counted m.before m all.1 in
    let more = words_counted m.after ms all.2 in
    let both = length-append (accepted_by m.action) (accepted_words ms) in
    omega (arith, same, one, more, both)

-- so it accepted what the transitions emitted
pub words_are_received : (m : MapValue) (x : World) (cs : List BoardCharge) (b : BoardValue) (r : RunOutcome) (s : State) (ts : List Transition)
    → IsMap m → IsInFront m → StartsWith b x → IsProgramRun cs b r → HasWordsOf m x s
    → StandForTransitions m s (observed (marks_of m) r.moments (first_history (marks_of m) x)).completed ts → words_in ts ≤ r.board.receiver.accepted
words_are_received m x cs b r s ts ok front starts run here stand =
    let begun = first_histories_are_the_same b m x ok front starts in
    let k = first_history (marks_of m) x in
    let all_words = run.of_words in
    let t : Together m x b (start_with b.fram (Some m)) k =
    record { whole = all_words.whole; words = all_words.words; same = begun.0; tells = begun.1 } in
    let end = (moments_lead m x ok front b (start_with b.fram (Some m)) k r.moments t run.moments).together in
    let done = (observed (marks_of m) r.moments k).completed in
    let words = words_at_last m x s done ts here stand in
    let all = ap length end.same.alike.words_are in
    let both = length-append (last_world x done).accepted end.same.alike.words in
    let first : Counts b k x.accepted =
    record { whole = all_words.whole; words = all_words.words; accepted = refl; count = starts.accepted; taken = sym starts.taken } in
    let heard = ap length (moments_count (marks_of m) b k x.accepted r.moments first run.moments).accepted in
    let begin = ap length here.accepted in
    let told = length-append x.accepted (accepted_words r.moments) in
    let count = words_counted b r.moments run.moments in
    let last = run_keeps cs b r all_words.run in
    omega (arith, words, all, both, heard, begin, told, count, last)

-- what a receiver has heard
abbrev heard : Receiver → ℕ
heard r = r.accepted + r.repeats

one_heard : (b : Bool) (r : Receiver) → heard (if b then record r { accepted = r.accepted + 1 } else record r { repeats = r.repeats + 1 }) ≤ heard r + 1
one_heard true r = omega arith
one_heard false r = omega arith

after_one : (number : ℕ) (o : Option ℕ) (r : Receiver) → heard (receiver_after number o r) ≤ heard r + 1
after_one number None r = omega arith
after_one number (Some w) r = one_heard (is_accepted number r) r

performed_hears : (b : BoardValue) (n : NextStep) → heard (performed b n).board.receiver ≤ heard b.receiver + 1
performed_hears b next_step.Acceptance =
    let o = acceptance_on (registers_of b.cpu) (opened b) in after_one o.bus.outnum o.bus.offered b.receiver
performed_hears b (next_step.Instruction i) =
    let o = execution board_bus i (registers_of b.cpu) (opened b) in after_one o.bus.outnum o.bus.offered b.receiver

charge_hears : (m : Measure) (left : ℕ) (b : BoardValue) (r : RunOutcome) → ChargeRun m left b r → heard r.board.receiver ≤ heard b.receiver + left
charge_hears m left b r (Spent _ _ none) = omega arith
charge_hears m left b r (NoInstruction _ _ e pos h) = omega arith
charge_hears m left b r (TooDear _ _ i pos c dear) = omega arith
charge_hears m left b r (Refused _ _ i e pos c paid a) = let one = performed_hears b i in omega (arith, one, pos)
charge_hears m left b r (Executed _ _ i done rest pos c paid a h) =
    let one = performed_hears b i in
    let more = charge_hears m (left - price m i) (at_boundary (performed b i).board) rest h in
    let low = price_low m i in
    omega (arith, one, more, low, paid)

-- no more than its charges pay for
pub run_hears : (cs : List BoardCharge) (b : BoardValue) (r : RunOutcome) → Run cs b r
    → r.board.receiver.accepted + r.board.receiver.repeats ≤ b.receiver.accepted + b.receiver.repeats + all_amounts cs
run_hears cs b r (Over _) = omega arith
run_hears cs b r (Next c ds _ ms end rest one more) =
    let own = charge_hears c.measure c.amount (powered b c.start) (run_outcome ms Charges end) one in
    let others = run_hears ds end rest more in
    omega (arith, own, others)
run_hears cs b r (Last c ds _ ms stop end one) =
    let own = charge_hears c.measure c.amount (powered b c.start) (run_outcome ms (Stopped stop) end) one in
    omega (arith, own)
