-- Each event that arose in a run was accepted, was lost, or waits.
use Rattle.std.proofs.Common.{◌≡◌, ℕ, ◌+◌, ◌-◌, ◌==◌, Bool, true, false, if◌then◌else◌, List, [], ◌∷◌, ◌++◌, Option, Some, None, Ok}
use Rattle.std.proofs.Common.{arith, refl, sym, ap, subst}
use Rattle.fram_board.specs.declared.board.NextStep.{NextStep}
use Rattle.fram_board.specs.declared.board.Stepped.{Stepped}
use Rattle.fram_board.specs.declared.events.Heard.{Heard}
use Rattle.fram_board.specs.declared.events.Heard.TheVariants as heard
use Rattle.msp_step.specs.declared.machine.Stop.{Stop}
use Rattle.fram_board.specs.Events.{words_heard}
use Rattle.fram_board.specs.Board.{BoardValue, PowerState, started, powered, performed, at_boundary}
use Rattle.fram_board.specs.Run.{Measure, BoardCharge, Moment, StepKind, Execute, End, Charges, Stopped, RunOutcome, run_outcome, kind_of, moment_of}
use Rattle.fram_board.specs.Run.{power_up_of}
use Rattle.fram_board.specs.Run.{ChargeRun, Spent, NoInstruction, TooDear, Refused, Executed, Run, Over, Next, Last}
use Rattle.fram_board.proofs.Interface.{AreCounted, IsCountedLine, stop_counts, step_counts, boundary_counts, power_up_counts}
use Rattle.board_run.specs.History.{word_in}
use Rattle.board_run.specs.Events.{HandEnd, ChangesHead, PowersUp, Hand, no_hand, reads_of, head_of, head_ends, is_return, return_ends, action_ends}
use Rattle.board_run.specs.Events.{hand_behind, hand_after, hand_at, taken_by, words_taken, words_known, EventsAreAccounted}
use Rattle.board_run.proofs.Hands.{all_words_are_known}

-- the reads of a step take the words that it heard
reads_taken : (h : Heard) → words_taken (reads_of h) ≡ words_heard h
reads_taken heard.Nothing = refl
reads_taken (heard.Once None) = refl
reads_taken (heard.Once (Some w)) = refl
reads_taken (heard.Again None) = refl
reads_taken (heard.Again (Some w)) = refl

-- and nothing else does
returns_taken : (returned : Bool) → words_taken (return_ends returned) ≡ 0
returns_taken true = refl
returns_taken false = refl

head_taken : (head : Option ℕ) (before after : List ℕ) → words_taken (head_ends head before after) ≡ 0
head_taken None before after = refl
head_taken (Some head) before after = by_test (word_in after head == word_in before head)
  where
    by_test : (t : Bool) → words_taken (if t then [] else ChangesHead ∷ []) ≡ 0
    by_test true = refl
    by_test false = refl

taken-append : (es fs : List HandEnd) → words_taken (es ++ fs) ≡ words_taken es + words_taken fs
taken-append [] fs = omega arith
taken-append (e ∷ es) fs = let rest = taken-append es fs in omega (arith, rest)

step_taken : (head : Option ℕ) (kind : StepKind) (done : Stepped) (offered : Option ℕ) (before after : List ℕ)
    → words_taken (action_ends head (Execute kind done offered) before after) ≡ words_heard done.heard
step_taken head kind done offered before after =
    let returns = return_ends (is_return kind) in
    let all = taken-append (reads_of done.heard) (head_ends head before after ++ returns) in
    let rest = taken-append (head_ends head before after) returns in
    let reads = reads_taken done.heard in
    let changes = head_taken head before after in
    let none = returns_taken (is_return kind) in
    omega (arith, all, rest, reads, changes, none)

-- so many words are known behind a step
pub step_known : (head : Option ℕ) (b : BoardValue) (n : NextStep) (done : Stepped) (h : Hand)
    → words_known (hand_behind head (moment_of b n done) h) ≡ words_heard done.heard + words_known h
unfolding hand_behind
step_known head b n done h =
    let after = (moment_of b n done).after.fram in
    let known = all_words_are_known (action_ends head (moment_of b n done).action b.fram after) h in
    let taken = step_taken head (kind_of n) done (performed b n).offered b.fram after in
    omega (arith, known, taken)

pub power_up_known : (head : Option ℕ) (b : BoardValue) (p : PowerState) (h : Hand) → words_known (hand_behind head (power_up_of b p) h) ≡ words_known h
unfolding hand_behind
power_up_known head b p h = let known = all_words_are_known (PowersUp ∷ []) h in omega (arith, known)

-- where a board stopped
stop_known : (b : BoardValue) (stop : Stop) (h : Hand) → AreCounted b.line (words_heard b.line.heard + words_known h)
    → AreCounted b.line (words_known (hand_at (Stopped stop) b h))
stop_known b stop h counted =
    let known = all_words_are_known (reads_of b.line.heard) h in
    let taken = reads_taken b.line.heard in
    omega (arith, counted, known, taken)

-- what was read since the last boundary counts too, where that is nothing
none_heard : (b : BoardValue) (taken : ℕ) → IsCountedLine b.line taken → AreCounted b.line (words_heard b.line.heard + taken)
none_heard b taken is =
    let same = ap words_heard is.unheard in
    let counted = is.counted in
    omega (arith, same, counted)

charge_accounts : (head : Option ℕ) (m : Measure) (left : ℕ) (b : BoardValue) (r : RunOutcome) (h : Hand) → ChargeRun m left b r
    → IsCountedLine b.line (words_known h) → AreCounted r.board.line (words_known (hand_at r.ending r.board (hand_after head r.moments h)))
charge_accounts head m left b r h (Spent _ _ none) is = is.counted
charge_accounts head m left b r h (NoInstruction _ _ stop pos none) is = stop_known b stop h (none_heard b (words_known h) is)
charge_accounts head m left b r h (TooDear _ _ n pos next dear) is = is.counted
charge_accounts head m left b r h (Refused _ _ n stop pos next paid answer) is =
    stop_known (performed b n).board stop h (stop_counts b n (words_known h) is.unheard is.counted)
charge_accounts head m left b r h (Executed _ _ n done rest pos next paid answer run) is =
    let line = (performed b n).board.line in
    let behind = hand_behind head (moment_of b n done) h in
    let counted : AreCounted line (words_known behind) = subst (AreCounted line) (sym (step_known head b n done h))
    (step_counts b n done (words_known h) answer is.unheard is.counted) in
    charge_accounts head m _ (at_boundary (performed b n).board) rest behind run (boundary_counts line (words_known behind) counted)

hand-append : (head : Option ℕ) (ms ns : List Moment) (h : Hand) → hand_after head (ms ++ ns) h ≡ hand_after head ns (hand_after head ms h)
hand-append head [] ns h = refl
hand-append head (m ∷ ms) ns h = hand-append head ms ns (hand_behind head m h)

-- a charge from its power-up on
power_up_accounts : (head : Option ℕ) (c : BoardCharge) (b : BoardValue) (r : RunOutcome) (h : Hand) → ChargeRun c.measure c.amount (powered b c.start) r
    → AreCounted b.line (words_known h)
    → AreCounted r.board.line (words_known (hand_at r.ending r.board (hand_after head r.moments (hand_behind head (power_up_of b c.start) h))))
power_up_accounts head c b r h run counted =
    let behind = hand_behind head (power_up_of b c.start) h in
    let same : AreCounted b.line (words_known behind) = subst (AreCounted b.line) (sym (power_up_known head b c.start h)) counted in
    charge_accounts head c.measure c.amount (powered b c.start) r behind run (power_up_counts b.line (words_known behind) same)

run_accounts : (head : Option ℕ) (cs : List BoardCharge) (b : BoardValue) (r : RunOutcome) (h : Hand) → Run cs b r → AreCounted b.line (words_known h)
    → AreCounted r.board.line (words_known (hand_at r.ending r.board (hand_after head r.moments h)))
run_accounts head cs b r h (Over _) counted = counted
run_accounts head cs b r h (Next c ds _ ms end rest run more) counted =
    let behind = hand_behind head (power_up_of b c.start) h in
    let first = power_up_accounts head c b (run_outcome ms Charges end) h run counted in
    let P : Hand → Type 0 = λ k. AreCounted rest.board.line (words_known (hand_at rest.ending rest.board k)) in
    subst P (sym (hand-append head ms rest.moments behind)) (run_accounts head ds end rest (hand_after head ms behind) more first)
run_accounts head cs b r h (Last c ds _ ms stop end run) counted = power_up_accounts head c b (run_outcome ms (Stopped stop) end) h run counted

pub events_are_accounted : EventsAreAccounted
events_are_accounted cs fram number readings events m r run =
    let all = run_accounts (head_of m) cs (started fram number readings events) r no_hand run (omega arith) in
    omega (arith, all)
