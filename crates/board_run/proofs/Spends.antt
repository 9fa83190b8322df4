-- A charge that is spent turn by turn.
use Rattle.std.proofs.Common.{◌≡◌, ◌≤◌, ◌<◌, ℕ, ◌+◌, List, [], ◌∷◌, ◌++◌, arith, refl, ap, sym, subst, ◌∙◌, Option, Some, None, Result, Ok, Err, IsErr}
use Rattle.std.proofs.Common.{append_assoc, take, append-nil}
use Rattle.std.specs.Io.KnownBytes.{Appends}
use Rattle.std.proofs.KnownBytes.{Appends-trans, Appends-nil}
use Rattle.alp_io.specs.Sink.{AppendsProperPrefix}
use Rattle.alp_io.specs.declared.sink.Failed.{Failed}
use Rattle.msp_step.specs.declared.machine.Stop.{Stop}
use Rattle.fram_board.specs.declared.board.Stepped.{Stepped}
use Rattle.fram_board.specs.Board.{BoardValue}
use Rattle.fram_board.specs.Run.{Measure, Moment, RunOutcome, run_outcome, after_moments, ChargeRun}
use Rattle.fram_board.proofs.Interface.{charge_run}
use Rattle.board_run.specs.declared.spend.Turn.{Turn}
use Rattle.board_run.specs.declared.spend.Turn.TheVariants as turn
use Rattle.board_run.specs.History.{History, moment_lines, noted}
use Rattle.board_run.specs.Report.{lines_from, after_all, BreaksOff, IsCutInMoment}
use Rattle.board_run.specs.Events.{head_of}
use Rattle.board_run.specs.Tally.{tally_behind, tally_after, words_of}
use Rattle.board_run.specs.Parts.{Known, known_head, FewMore, Turned, TurnedPartly, IsTurn, Wrote, ended, SpentCharge, IsSpent}
use Rattle.board_run.proofs.Tallies.{after_map, tally_append}

-- some moments of a charge are behind, and their lines are written
pub record SpendsOn (h : Known) (m : Measure) (amount : ℕ) (b : BoardValue) (old : Option (List ℕ)) (left : ℕ) (now : BoardValue) (new : Option (List ℕ))
    (watch : Known) : Type 0 where
  pub moments : List Moment
  pub run : (r : RunOutcome) → ChargeRun m left now r → ChargeRun m amount b (after_moments moments r)
  pub wrote : Wrote h moments old new watch
  pub accepted : now.receiver.accepted + left ≤ b.receiver.accepted + amount
  pub repeats : now.receiver.repeats + left ≤ b.receiver.repeats + amount
  pub words : words_of watch.tally + left ≤ words_of h.tally + amount

pub lines_append : (h : History) (ms ns : List Moment) → lines_from h (ms ++ ns) ≡ lines_from h ms ++ lines_from (after_all h ms) ns
lines_append h [] ns = refl
lines_append h (m ∷ ms) ns = ap (λ r. moment_lines h m ++ r) (lines_append (noted h m) ms ns)
    ∙ sym (append_assoc (moment_lines h m) (lines_from (noted h m) ms) (lines_from (after_all (noted h m) ms) ns))

pub after_append : (h : History) (ms ns : List Moment) → after_all h (ms ++ ns) ≡ after_all (after_all h ms) ns
after_append h [] ns = refl
after_append h (m ∷ ms) ns = after_append (noted h m) ms ns

pub spends_first : (h : Known) (m : Measure) (amount : ℕ) (b : BoardValue) (old : Option (List ℕ)) → SpendsOn h m amount b old amount b old h
spends_first h m amount b old = record {
  moments = [];
  run = λ r c. c;
  wrote = record { written = Appends-nil old; history = refl; tally = refl };
  accepted = omega arith;
  repeats = omega arith;
  words = omega arith;
}

-- moments behind moments
pub wrote_more : (h mid now : Known) (ms ns : List Moment) (old between new : Option (List ℕ)) → Wrote h ms old between mid → Wrote mid ns between new now
    → Wrote h (ms ++ ns) old new now
wrote_more h mid now ms ns old between new p q =
    let P : List ℕ → Type 0 = λ t. Appends old new t in
    let head : known_head mid ≡ known_head h = ap (λ k. head_of k.map) p.history ∙ ap head_of (after_map h.history ms) in
    record {
      written =
          subst P (ap (λ x. lines_from h.history ms ++ lines_from x ns) p.history ∙ sym (lines_append h.history ms ns))
          (Appends-trans old between new (lines_from h.history ms) (lines_from mid.history ns) p.written q.written);
      history = q.history ∙ ap (λ x. after_all x ns) p.history ∙ sym (after_append h.history ms ns);
      tally = q.tally ∙ ap (λ a. tally_after a ns mid.tally) head ∙ ap (tally_after (known_head h) ns) p.tally
          ∙ sym (tally_append (known_head h) ms ns h.tally);
    }

wrote_one : (h now : Known) (moment : Moment) (old new : Option (List ℕ)) → Appends old new (moment_lines h.history moment)
    → now.history ≡ noted h.history moment → now.tally ≡ tally_behind (known_head h) moment h.tally
    → Wrote h (moment ∷ []) old new now
wrote_one h now moment old new a e f = let P : List ℕ → Type 0 = λ t. Appends old new t in
    record { written = subst P (sym (append-nil (moment_lines h.history moment))) a; history = e; tally = f }

pub wrote_none : (h now : Known) (old new : Option (List ℕ)) → Appends old new [] → now ≡ h → Wrote h [] old new now
wrote_none h now old new a e = record { written = a; history = ap (λ (k : Known). k.history) e; tally = ap (λ (k : Known). k.tally) e }

pub outcome_append : (ms ns : List Moment) (r : RunOutcome) → after_moments (ms ++ ns) r ≡ after_moments ms (after_moments ns r)
outcome_append ms ns r = ap (λ x. run_outcome x r.ending r.board) (append_assoc ms ns r.moments)

pub spends_more : (h : Known) (m : Measure) (amount : ℕ) (b : BoardValue) (old : Option (List ℕ)) (left rest : ℕ) (now next : BoardValue)
    (between new : Option (List ℕ)) (mid watch : Known) {done : Stepped}
    → SpendsOn h m amount b old left now between mid → Turned mid m left now between new rest done next watch → SpendsOn h m amount b old rest next new watch
spends_more h m amount b old left rest now next between new mid watch s t =
    let few = t.first.few in
    let a = s.accepted in
    let r = s.repeats in
    let fa = few.accepted in
    let fr = few.repeats in
    let less = t.less in
    let words = s.words in
    let more = t.words in
    record {
      moments = s.moments ++ t.moment ∷ [];
      run = λ r c. let P : RunOutcome → Type 0 = λ x. ChargeRun m amount b x in
          subst P (sym (outcome_append s.moments (t.moment ∷ []) r)) (s.run _ (t.first.run r c));
      wrote = wrote_more h mid watch s.moments (t.moment ∷ []) old between new s.wrote (wrote_one mid watch t.moment between new t.written t.history t.tally);
      accepted = omega arith;
      repeats = omega arith;
      words = omega arith;
    }

ends_so : (h : Known) (m : Measure) (amount : ℕ) (b : BoardValue) (old : Option (List ℕ)) (left : ℕ) (now after : BoardValue) (between new : Option (List ℕ))
    (mid watch : Known) (stop : Option Stop)
    → SpendsOn h m amount b old left now between mid → ChargeRun m left now (run_outcome [] (ended stop) after) → FewMore now after 0 → Appends between new []
    → watch ≡ mid
    → SpentCharge h m amount b old new stop after watch
ends_so h m amount b old left now after between new mid watch stop s c few bytes same =
    let P : RunOutcome → Type 0 = λ x. ChargeRun m amount b x in
    let Q : List Moment → Type 0 = λ ms. Wrote h ms old new watch in
    let a = s.accepted in
    let r = s.repeats in
    let fa = few.accepted in
    let fr = few.repeats in
    let words = s.words in
    let kept = ap (λ (k : Known). words_of k.tally) same in
    record {
      moments = s.moments;
      run = subst P (ap (λ ms. run_outcome ms (ended stop) after) (append-nil s.moments)) (s.run (run_outcome [] (ended stop) after) c);
      wrote = subst Q (append-nil s.moments) (wrote_more h mid watch s.moments [] old between new s.wrote (wrote_none mid watch between new bytes same));
      few = record { accepted = omega arith; repeats = omega arith };
      words = omega arith;
    }

pub spends_end : (h : Known) (m : Measure) (amount : ℕ) (b : BoardValue) (old : Option (List ℕ)) (left : ℕ) (now after : BoardValue)
    (between new : Option (List ℕ)) (mid watch : Known)
    → SpendsOn h m amount b old left now between mid → IsTurn mid m left now between new (Ok turn.Spent) after watch
    → SpentCharge h m amount b old new None after watch
spends_end h m amount b old left now after between new mid watch s (c, few, bytes, same) =
    ends_so h m amount b old left now after between new mid watch None s c few bytes same

pub spends_stop : (h : Known) (m : Measure) (amount : ℕ) (b : BoardValue) (old : Option (List ℕ)) (left : ℕ) (now after : BoardValue)
    (between new : Option (List ℕ)) (mid watch : Known) (stop : Stop)
    → SpendsOn h m amount b old left now between mid → IsTurn mid m left now between new (Ok (turn.Stopped stop)) after watch
    → SpentCharge h m amount b old new (Some stop) after watch
spends_stop h m amount b old left now after between new mid watch stop s (c, few, bytes, same) =
    ends_so h m amount b old left now after between new mid watch (Some stop) s c few bytes same

-- a text is written, and then a front of the next
pub breaks_behind : (old mid new : Option (List ℕ)) (a b next : List ℕ) → Appends old mid a → BreaksOff mid new b next → BreaksOff old new (a ++ b) next
breaks_behind old mid new a b next p q =
    let P : List ℕ → Type 0 = λ t. Appends old new t in
    record {
      count = q.count;
      proper = q.proper;
      held = subst P (sym (append_assoc a b (take q.count next))) (Appends-trans old mid new a (b ++ take q.count next) p q.held);
    }

pub breaks_first : (old new : Option (List ℕ)) (next : List ℕ) → AppendsProperPrefix old new next → BreaksOff old new [] next
breaks_first old new next p = record { count = p.count; proper = p.proper; held = p.held }

-- behind moments whose lines are written, those of one more are written in part
pub in_lines : (h mid : Known) (ms : List Moment) (moment : Moment) (old between new : Option (List ℕ)) → Wrote h ms old between mid
    → AppendsProperPrefix between new (moment_lines mid.history moment)
    → BreaksOff old new (lines_from h.history ms) (moment_lines (after_all h.history ms) moment)
in_lines h mid ms moment old between new w p =
    let lines = lines_from h.history ms in
    let last = moment_lines (after_all h.history ms) moment in
    let P : List ℕ → Type 0 = λ t. BreaksOff old new t last in
    let Q : History → Type 0 = λ x. AppendsProperPrefix between new (moment_lines x moment) in
    subst P (append-nil lines) (breaks_behind old between new lines [] last w.written (breaks_first between new _ (subst Q w.history p)))

pub spends_err : (h : Known) (m : Measure) (amount : ℕ) (b : BoardValue) (old : Option (List ℕ)) (left : ℕ) (now after : BoardValue)
    (between new : Option (List ℕ)) (mid : Known)
    → SpendsOn h m amount b old left now between mid → TurnedPartly mid m left now between new after
    → (r : RunOutcome) × ChargeRun m amount b r × IsCutInMoment h.history [] r.moments old new after
spends_err h m amount b old left now after between new mid s t =
    let later = charge_run m t.rest after in (
      after_moments s.moments (after_moments (t.moment ∷ []) later.0),
      s.run _ (t.first.run later.0 later.1),
      record {
        before = s.moments;
        moment = t.moment;
        later = later.0.moments;
        split = refl;
        board = sym t.first.board;
        written = in_lines h mid s.moments t.moment old between new s.wrote t.written;
      },
    )

spent_err : (h watch : Known) (m : Measure) (amount : ℕ) (b after : BoardValue) (old new : Option (List ℕ)) (result : Result (Option Stop) Failed)
    → IsErr result
    → (r : RunOutcome) × ChargeRun m amount b r × IsCutInMoment h.history [] r.moments old new after → IsSpent h m amount b old new result after watch
spent_err h watch m amount b after old new (Ok o) e p = cc
spent_err h watch m amount b after old new (Err f) e p = p

pub spends_stop_writing : (h watch : Known) (m : Measure) (amount : ℕ) (b : BoardValue) (old : Option (List ℕ)) (left : ℕ) (now after : BoardValue)
    (between new : Option (List ℕ)) (mid : Known) (result : Result (Option Stop) Failed) → IsErr result
    → SpendsOn h m amount b old left now between mid → TurnedPartly mid m left now between new after → IsSpent h m amount b old new result after watch
spends_stop_writing h watch m amount b old left now after between new mid result e s t =
    spent_err h watch m amount b after old new result e (spends_err h m amount b old left now after between new mid s t)

-- what a turn came to, known by its answer
pub turn_left : (h : Known) (m : Measure) (amount : ℕ) (b : BoardValue) (old : Option (List ℕ)) (left rest : ℕ) (now next : BoardValue)
    (between new : Option (List ℕ)) (mid watch : Known) (t : Turn) {done : Stepped} → t ≡ turn.Left rest done
    → SpendsOn h m amount b old left now between mid → IsTurn mid m left now between new (Ok t) next watch → SpendsOn h m amount b old rest next new watch
turn_left h m amount b old left rest now next between new mid watch t e s is =
    let P : Turn → Type 0 = λ t. IsTurn mid m left now between new (Ok t) next watch in
    spends_more h m amount b old left rest now next between new mid watch s (subst P e is)

pub turn_spent : (h : Known) (m : Measure) (amount : ℕ) (b : BoardValue) (old : Option (List ℕ)) (left : ℕ) (now after : BoardValue)
    (between new : Option (List ℕ)) (mid watch : Known) (t : Turn) → t ≡ turn.Spent
    → SpendsOn h m amount b old left now between mid → IsTurn mid m left now between new (Ok t) after watch → SpentCharge h m amount b old new None after watch
turn_spent h m amount b old left now after between new mid watch t e s is =
    let P : Turn → Type 0 = λ t. IsTurn mid m left now between new (Ok t) after watch in
    spends_end h m amount b old left now after between new mid watch s (subst P e is)

pub turn_stopped : (h : Known) (m : Measure) (amount : ℕ) (b : BoardValue) (old : Option (List ℕ)) (left : ℕ) (now after : BoardValue)
    (between new : Option (List ℕ)) (mid watch : Known) (stop : Stop) (t : Turn) → t ≡ turn.Stopped stop
    → SpendsOn h m amount b old left now between mid → IsTurn mid m left now between new (Ok t) after watch
    → SpentCharge h m amount b old new (Some stop) after watch
turn_stopped h m amount b old left now after between new mid watch stop t e s is =
    let P : Turn → Type 0 = λ t. IsTurn mid m left now between new (Ok t) after watch in
    spends_stop h m amount b old left now after between new mid watch stop s (subst P e is)

pub turn_less : (h : Known) (m : Measure) (left rest : ℕ) (now next : BoardValue) (between new : Option (List ℕ)) (watch : Known) (t : Turn)
    {done : Stepped} → t ≡ turn.Left rest done → IsTurn h m left now between new (Ok t) next watch → rest < left
turn_less h m left rest now next between new watch t e is =
    let P : Turn → Type 0 = λ t. IsTurn h m left now between new (Ok t) next watch in
    (subst P e is).less
