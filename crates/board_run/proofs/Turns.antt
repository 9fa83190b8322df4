-- One turn of a charge.
use Rattle.std.proofs.Common.{◌≡◌, ◌≤◌, ◌<◌, ℕ, ◌+◌, ◌-◌, List, [], arith, refl, ap, sym, subst, ◌∙◌, Bool, true, false, if◌then◌else◌, Option, Some, None}
use Rattle.std.proofs.Common.{Result, Ok, Err, IsErr}
use Rattle.std.specs.Io.KnownBytes.{Appends}
use Rattle.std.proofs.KnownBytes.{Appends-nil}
use Rattle.alp_io.specs.Sink.{AppendsProperPrefix}
use Rattle.alp_io.specs.declared.sink.Failed.{Failed}
use Rattle.msp_step.specs.declared.machine.Stop.{Stop}
use Rattle.fram_board.specs.declared.board.Stepped.{Stepped}
use Rattle.fram_board.specs.declared.receiver.Receiver.{Receiver}
use Rattle.fram_board.specs.declared.board.NextStep.{NextStep}
use Rattle.fram_board.specs.declared.board.NextStep.TheVariants as next_step
use Rattle.fram_board.specs.Board.{BoardValue, performed, IsNextStep, HasNoStep, at_boundary, receiver_after, is_accepted}
use Rattle.fram_board.specs.Steps.{KeepsAllButTaken}
use Rattle.fram_board.specs.Run.{Measure, price, word_list, Charges, Stopped, run_outcome, ChargeRun, Spent, NoInstruction, TooDear, Refused}
use Rattle.fram_board.specs.Run.{Executed, moment_of}
use Rattle.fram_board.proofs.Interface.{price_low}
use Rattle.board_run.specs.declared.spend.Turn.{Turn}
use Rattle.board_run.specs.History.{History, moment_lines, noted, instruction_lines, behind_instruction}
use Rattle.board_run.specs.Tally.{tally_behind, words_of}
use Rattle.board_run.specs.Parts.{Known, known_head, FewMore, IsMade, IsStepMade, ComesFirst, Turned, TurnedPartly, IsTurn}

no_more : (b : BoardValue) → FewMore b b 0
no_more b = record { accepted = omega arith; repeats = omega arith }

record FewHeard (r after : Receiver) : Type 0 where
  accepted : after.accepted ≤ r.accepted + 1
  repeats : after.repeats ≤ r.repeats + 1

heard_by : (t : Bool) (r : Receiver) → FewHeard r (if t then record r { accepted = r.accepted + 1 } else record r { repeats = r.repeats + 1 })
heard_by true r = record { accepted = omega arith; repeats = omega arith }
heard_by false r = record { accepted = omega arith; repeats = omega arith }

heard : (number : ℕ) (o : Option ℕ) (r : Receiver) → FewHeard r (receiver_after number o r)
heard number None r = record { accepted = omega arith; repeats = omega arith }
heard number (Some w) r = heard_by (is_accepted number r) r

step_heard : (b : BoardValue) (n : NextStep) → FewHeard b.receiver (performed b n).board.receiver
step_heard b next_step.Acceptance = heard _ _ b.receiver
step_heard b (next_step.Instruction i) = heard _ _ b.receiver

one_more : (b after : BoardValue) (n : NextStep) → after ≡ at_boundary (performed b n).board → FewMore b after 1
one_more b after n e =
    let P : BoardValue → Type 0 = λ x. FewMore b x 1 in
    let h = step_heard b n in
    subst P (sym e) (record { accepted = h.accepted; repeats = h.repeats })

-- a charge that can't be begun, or is too dear
pub spent_now : (m : Measure) (left : ℕ) (b : BoardValue) (h : Known) (old : Option (List ℕ)) → left ≡ 0
    → ChargeRun m left b (run_outcome [] Charges b) × FewMore b b 0 × Appends old old [] × (h ≡ h)
spent_now m left b h old e = (Spent left b e, no_more b, Appends-nil old, refl)

pub too_dear : (m : Measure) (left : ℕ) (b : BoardValue) (n : NextStep) (h : Known) (old : Option (List ℕ)) → 0 < left → IsNextStep b n → left < price m n
    → ChargeRun m left b (run_outcome [] Charges b) × FewMore b b 0 × Appends old old [] × (h ≡ h)
too_dear m left b n h old pos next dear = (TooDear left b n pos next dear, no_more b, Appends-nil old, refl)

pub stopped_now : (m : Measure) (left : ℕ) (b : BoardValue) (stop : Stop) (h : Known) (old : Option (List ℕ)) → 0 < left → HasNoStep b stop
    → ChargeRun m left b (run_outcome [] (Stopped stop) b) × FewMore b b 0 × Appends old old [] × (h ≡ h)
stopped_now m left b stop h old pos is = (NoInstruction left b stop pos is, no_more b, Appends-nil old, refl)

pub refused : (m : Measure) (left : ℕ) (b after : BoardValue) (n : NextStep) (stop : Stop) (h : Known) (old : Option (List ℕ)) → 0 < left → IsNextStep b n
    → price m n ≤ left
    → (performed b n).answer ≡ Err stop → after ≡ (performed b n).board → KeepsAllButTaken b after
    → ChargeRun m left b (run_outcome [] (Stopped stop) after) × FewMore b after 0 × Appends old old [] × (h ≡ h)
refused m left b after n stop h old pos next paid answer is kept =
    let P : BoardValue → Type 0 = λ a. ChargeRun m left b (run_outcome [] (Stopped stop) a) in
    let same : after.receiver ≡ b.receiver = ap (λ (x : BoardValue). x.receiver) kept.same in
    let accepted : after.receiver.accepted ≡ b.receiver.accepted = ap (λ (r : Receiver). r.accepted) same in
    let repeats : after.receiver.repeats ≡ b.receiver.repeats = ap (λ (r : Receiver). r.repeats) same in
    (subst P (sym is) (Refused left b n stop pos next paid answer), record { accepted = omega arith; repeats = omega arith }, Appends-nil old, refl)

comes_first : (m : Measure) (left rest : ℕ) (b after : BoardValue) (n : NextStep) (done : Stepped) → IsMade m left b after n done → rest ≡ left - price m n
    → ComesFirst m left b (moment_of b n done) rest after
comes_first m left rest b after n done made e = record {
  run = λ r h. Executed left b n done r made.some made.next made.paid made.answer
      (subst (λ a. ChargeRun m (left - price m n) a r) made.board (subst (λ k. ChargeRun m k after r) e h));
  board = sym made.board;
  few = one_more b after n made.board;
}

step_made : (m : Measure) (left rest : ℕ) (b after : BoardValue) (n : NextStep) (done : Stepped) → IsMade m left b after n done → rest ≡ left - price m n
    → IsStepMade m left b (moment_of b n done) rest done after
step_made m left rest b after n done made e = record { step = n; is = refl; made = made; rest_is = e }

-- the lines of the moment are those of the step
lines_of_it : (h : History) (b after : BoardValue) (n : NextStep) (done : Stepped) → after ≡ at_boundary (performed b n).board
    → instruction_lines h.map h (word_list done.accepted) after ≡ moment_lines h (moment_of b n done)
unfolding moment_lines
lines_of_it h b after n done is = ap (λ a. instruction_lines h.map h (word_list done.accepted) a) is

noted_it : (h : History) (b after : BoardValue) (n : NextStep) (done : Stepped) → after ≡ at_boundary (performed b n).board
    → behind_instruction h.map h (word_list done.accepted) after ≡ noted h (moment_of b n done)
unfolding noted
noted_it h b after n done is = ap (λ a. behind_instruction h.map h (word_list done.accepted) a) is

-- what is known behind it
pub record IsNoted (h now : Known) (b after : BoardValue) (n : NextStep) (done : Stepped) : Type 0 where
  pub history : now.history ≡ behind_instruction h.history.map h.history (word_list done.accepted) after
  pub tally : now.tally ≡ tally_behind (known_head h) (moment_of b n done) h.tally
  pub words : words_of now.tally ≤ words_of h.tally + 1

pub turned : (h now : Known) (m : Measure) (left rest : ℕ) (b after : BoardValue) (n : NextStep) (done : Stepped) (old new : Option (List ℕ))
    → IsMade m left b after n done → rest ≡ left - price m n
    → Appends old new (instruction_lines h.history.map h.history (word_list done.accepted) after) → IsNoted h now b after n done
    → Turned h m left b old new rest done after now
turned h now m left rest b after n done old new made e bytes noted =
    let low = price_low m n in
    let some = made.some in
    let P : List ℕ → Type 0 = λ t. Appends old new t in
    record {
      moment = moment_of b n done;
      step = step_made m left rest b after n done made e;
      first = comes_first m left rest b after n done made e;
      less = omega arith;
      written = subst P (lines_of_it h.history b after n done made.board) bytes;
      history = noted.history ∙ noted_it h.history b after n done made.board;
      tally = noted.tally;
      words = noted.words;
    }

turn_err : (h now : Known) (m : Measure) (left : ℕ) (b after : BoardValue) (old new : Option (List ℕ)) (result : Result Turn Failed) → IsErr result
    → TurnedPartly h m left b old new after
    → IsTurn h m left b old new result after now
turn_err h now m left b after old new (Ok t) e p = cc
turn_err h now m left b after old new (Err f) e p = p

pub turned_partly : (h now : Known) (m : Measure) (left : ℕ) (b after : BoardValue) (n : NextStep) (done : Stepped) (old new : Option (List ℕ))
    (result : Result Turn Failed) → IsMade m left b after n done
    → AppendsProperPrefix old new (instruction_lines h.history.map h.history (word_list done.accepted) after) → IsErr result
    → IsTurn h m left b old new result after now
turned_partly h now m left b after n done old new result made bytes err =
    let P : List ℕ → Type 0 = λ t. AppendsProperPrefix old new t in
    turn_err h now m left b after old new result err (record {
      moment = moment_of b n done;
      rest = left - price m n;
      done = done;
      step = step_made m left (left - price m n) b after n done made refl;
      first = comes_first m left (left - price m n) b after n done made refl;
      written = subst P (lines_of_it h.history b after n done made.board) bytes;
    })
