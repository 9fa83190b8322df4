-- Charges that are spent one after another.
use Rattle.std.proofs.Common.{◌≡◌, ◌≤◌, ◌<◌, ℕ, ◌+◌, ◌-◌, List, [], ◌∷◌, ◌++◌, arith, refl, ap, sym, subst, ◌∙◌, Option, Some, None, Result, Ok, Err, IsErr}
use Rattle.std.proofs.Common.{append_assoc, true, false, is_some, zero, suc, replicate, drop, drop-cons, get_or, length, length-append, take, append-nil}
use Rattle.std.proofs.Math.ListN.{drop_of_length-le}
use Rattle.std.proofs.Math.Seq.{take-append-add}
use Rattle.std.proofs.lemmas.List.{take-append-le}
use Rattle.std.proofs.KnownBytes.{Appends-trans, Appends-nil}
use Rattle.energy_trace.specs.declared.charge.Charge.{Charge}
use Rattle.energy_trace.specs.TraceValue.{charge_count}
use Rattle.energy_trace.specs.declared.charge.ChargeKind.TheVariants as kind
use Rattle.energy_trace.proofs.Interface.{count_cons}
use Rattle.board_run.specs.declared.trace_run.RunEnd.{RunEnd}
use Rattle.board_run.specs.declared.trace_run.RunFault.{RunFault}
use Rattle.board_run.specs.Charges.{charge_of, charges_of}
use Rattle.std.specs.Io.KnownBytes.{Appends}
use Rattle.alp_io.specs.Sink.{AppendsProperPrefix}
use Rattle.alp_io.specs.declared.sink.Failed.{Failed}
use Rattle.alp_io.proofs.Interface.{part_of_first, part_of_second}
use Rattle.msp_step.specs.declared.machine.Stop.{Stop}
use Rattle.fram_board.specs.declared.receiver.Receiver.{Receiver}
use Rattle.fram_board.specs.Board.{BoardValue, PowerState, powered}
use Rattle.fram_board.specs.Run.{Moment, Charges, Stopped, End, RunOutcome, run_outcome, after_moments, power_up_of, BoardCharge, ChargeRun, Run, Over, Next}
use Rattle.fram_board.specs.Run.{Last}
use Rattle.fram_board.proofs.Interface.{has_run}
use Rattle.board_run.specs.History.{History, bound_lines, moment_lines, noted, behind_power_up}
use Rattle.board_run.specs.Report.{lines_from, after_all, last_line, last_lines, events_lines, rest_of, BreaksOff, IsCutInMoment, IsCutAt, InText, InMoment}
use Rattle.board_run.specs.Report.{InLastLines, IsCut, IsRestOf, IsRunOf, IsEndOf}
use Rattle.energy_trace.specs.TraceValue.{Event}
use Rattle.board_run.specs.Events.{PowersUp, head_of, event_counts}
use Rattle.board_run.specs.Tally.{no_tally, tallied, tally_behind, tally_after, words_of}
use Rattle.board_run.specs.Parts.{Known, known_head, known_lines, FewMore, Wrote, ended, IsSpent, WentThrough, Went, SpentCharges, AreSpent}
use Rattle.board_run.proofs.Tallies.{counts_are, power_map}
use Rattle.board_run.proofs.Spends.{lines_append, after_append, wrote_more, wrote_none, outcome_append, breaks_behind, breaks_first}
use Rattle.board_run.specs.declared.trace_run.RunFault.TheVariants as fault

-- what is known behind a power-up
pub record IsPowered (h mid : Known) (b : BoardValue) : Type 0 where
  pub history : mid.history ≡ behind_power_up h.history.map h.history b
  pub tally : mid.tally ≡ tallied PowersUp h.tally

-- the power-up of a charge writes nothing
power_up_wrote : (h mid now : Known) (b : BoardValue) (p : PowerState) (ms : List Moment) (old new : Option (List ℕ))
    → IsPowered h mid (powered b p) → Wrote mid ms old new now
    → Wrote h (power_up_of b p ∷ ms) old new now
unfolding moment_lines noted tally_behind
power_up_wrote h mid now b p ms old new e w =
    let P : History → Type 0 = λ x. Appends old new (lines_from x ms) in
    let head : known_head mid ≡ known_head h = ap (λ k. head_of k.map) e.history ∙ ap head_of (power_map h.history.map h.history (powered b p)) in
    record {
      written = subst P e.history w.written;
      history = w.history ∙ ap (λ x. after_all x ms) e.history;
      tally = w.tally ∙ ap (λ a. tally_after a ms mid.tally) head ∙ ap (tally_after (known_head h) ms) e.tally;
    }

-- a charge from its power-up on
one_went : (c : BoardCharge) (b after : BoardValue) (ms : List Moment) (stop : Option Stop)
    → ChargeRun c.measure c.amount (powered b c.start) (run_outcome ms (ended stop) after)
    → Went (c ∷ []) b (power_up_of b c.start ∷ ms) stop after
one_went c b after ms None h = λ more r k. Next c more b ms after r h k
one_went c b after ms (Some stop) h = λ more. Last c more b ms stop after h

-- a run whose first charge is this
run_with : (c : BoardCharge) (more : List BoardCharge) (b : BoardValue) (ms : List Moment) (e : End) (end : BoardValue)
    → ChargeRun c.measure c.amount (powered b c.start) (run_outcome ms e end)
    → (rest : List Moment) × (ending : End) × (last : BoardValue) × Run (c ∷ more) b (run_outcome (power_up_of b c.start ∷ (ms ++ rest)) ending last)
run_with c more b ms Charges end h = let r = has_run more end in (r.0.moments, r.0.ending, r.0.board, Next c more b ms end r.0 h r.1)
run_with c more b ms (Stopped stop) end h =
    let P : List Moment → Type 0 = λ x. Run (c ∷ more) b (run_outcome (power_up_of b c.start ∷ x) (Stopped stop) end) in
    ([], Stopped stop, end, subst P (sym (append-nil ms)) (Last c more b ms stop end h))

-- lines that are cut in some moments are cut in more
cut_more : (h mid : Known) (front ms rest whole : List Moment) (old between new : Option (List ℕ)) (after : BoardValue) → whole ≡ front ++ (ms ++ rest)
    → Wrote h front old between mid
    → IsCutInMoment mid.history [] ms between new after → IsCutInMoment h.history [] whole old new after
cut_more h mid front ms rest whole old between new after e w c =
    let k = h.history in
    let P : List ℕ → Type 0 = λ t. BreaksOff old new t (moment_lines (after_all k (front ++ c.before)) c.moment) in
    let Q : History → Type 0 = λ x. BreaksOff old new (lines_from k front ++ lines_from mid.history c.before) (moment_lines x c.moment) in
    let later : after_all mid.history c.before ≡ after_all k (front ++ c.before) =
    ap (λ x. after_all x c.before) w.history ∙ sym (after_append k front c.before) in
    let lines : lines_from k front ++ lines_from mid.history c.before ≡ lines_from k (front ++ c.before) =
    ap (λ x. lines_from k front ++ lines_from x c.before) w.history ∙ sym (lines_append k front c.before) in
    record {
      before = front ++ c.before;
      moment = c.moment;
      later = c.later ++ rest;
      split = e ∙ ap (λ x. front ++ (x ++ rest)) c.split ∙ ap (λ x. front ++ x) (append_assoc c.before (c.moment ∷ c.later) rest)
          ∙ sym (append_assoc front c.before (c.moment ∷ (c.later ++ rest)));
      board = c.board;
      written =
          subst P lines (subst Q later (breaks_behind old between new (lines_from k front) (lines_from mid.history c.before)
          (moment_lines (after_all mid.history c.before) c.moment) w.written c.written));
    }

-- the power-up alone
power_up_alone : (h mid : Known) (b : BoardValue) (p : PowerState) (old : Option (List ℕ)) → IsPowered h mid (powered b p)
    → Wrote h (power_up_of b p ∷ []) old old mid
power_up_alone h mid b p old e = power_up_wrote h mid mid b p [] old old e (wrote_none mid mid old old (Appends-nil old) refl)

-- a cut in a charge is a cut in a run that begins with it
one_cut : (h mid : Known) (c : BoardCharge) (more : List BoardCharge) (b after : BoardValue) (r : RunOutcome) (old new : Option (List ℕ))
    → IsPowered h mid (powered b c.start)
    → ChargeRun c.measure c.amount (powered b c.start) r → IsCutInMoment mid.history [] r.moments old new after
    → (s : RunOutcome) × Run (c ∷ more) b s × IsCutInMoment h.history [] s.moments old new after
one_cut h mid c more b after r old new e run cut =
    let w = run_with c more b r.moments r.ending r.board run in
    let ms : List Moment = power_up_of b c.start ∷ (r.moments ++ w.0) in (
      run_outcome ms w.1 w.2,
      w.3,
      cut_more h mid (power_up_of b c.start ∷ []) r.moments w.0 ms old old new after refl
          (power_up_alone h mid b c.start old e) cut,
    )

-- a power-up takes no word
words_powered : (h mid : Known) (b : BoardValue) → IsPowered h mid b → words_of mid.tally ≡ words_of h.tally
words_powered h mid b e = let same = ap words_of e.tally in omega (arith, same)

few_of_one : (b p after : BoardValue) (n k : ℕ) → p.receiver ≡ b.receiver → FewMore p after n → n ≤ k → FewMore b after k
few_of_one b p after n k e f le =
    let a = f.accepted in
    let r = f.repeats in
    let x : p.receiver.accepted ≡ b.receiver.accepted = ap (λ (r : Receiver). r.accepted) e in
    let y : p.receiver.repeats ≡ b.receiver.repeats = ap (λ (r : Receiver). r.repeats) e in
    record { accepted = omega arith; repeats = omega arith }

-- one charge, from its power-up on
pub one_spent : (h mid now : Known) (c : BoardCharge) (b p after : BoardValue) (old new : Option (List ℕ)) (result : Result (Option Stop) Failed) (k : ℕ)
    → p ≡ powered b c.start → IsPowered h mid p
    → c.amount ≤ k → IsSpent mid c.measure c.amount p old new result after now → AreSpent h (c ∷ []) b old new result after now k
one_spent h mid now c b p after old new (Ok stop) k is e le s =
    let P : BoardValue → Type 0 = λ p. ChargeRun c.measure c.amount p (run_outcome s.moments (ended stop) after) in
    let words = s.words in
    let kept = words_powered h mid p e in
    record {
      moments = power_up_of b c.start ∷ s.moments;
      went = one_went c b after s.moments stop (subst P is s.run);
      wrote = power_up_wrote h mid now b c.start s.moments old new (subst (IsPowered h mid) is e) s.wrote;
      few = few_of_one b p after c.amount k (ap (λ (x : BoardValue). x.receiver) is) s.few le;
      words = omega (arith, words, kept, le);
    }
one_spent h mid now c b p after old new (Err f) k is e le (r, run, cut) = λ more.
    let P : BoardValue → Type 0 = λ p. ChargeRun c.measure c.amount p r in
    one_cut h mid c more b after r old new (subst (IsPowered h mid) is e) (subst P is run) cut

-- some charges are behind, and these are left
pub record SpendsFor (h : Known) (cs : List BoardCharge) (b : BoardValue) (old : Option (List ℕ)) (n : ℕ) (left : List BoardCharge) (now : BoardValue)
    (new : Option (List ℕ)) (watch : Known) (spare : ℕ) : Type 0 where
  pub moments : List Moment
  pub run : (more : List BoardCharge) (r : RunOutcome) → Run (left ++ more) now r → Run (cs ++ more) b (after_moments moments r)
  pub wrote : Wrote h moments old new watch
  pub accepted : now.receiver.accepted + spare ≤ b.receiver.accepted + n
  pub repeats : now.receiver.repeats + spare ≤ b.receiver.repeats + n
  pub words : words_of watch.tally + spare ≤ words_of h.tally + n

pub spends_for_first : (h : Known) (cs : List BoardCharge) (b : BoardValue) (old : Option (List ℕ)) (n : ℕ) → SpendsFor h cs b old n cs b old h n
spends_for_first h cs b old n = record {
  moments = [];
  run = λ more r k. k;
  wrote = record { written = Appends-nil old; history = refl; tally = refl };
  accepted = omega arith;
  repeats = omega arith;
  words = omega arith;
}

no_stop : (o : Option Stop) → is_some o ≡ false → o ≡ None
no_stop None e = refl
no_stop (Some x) e = cc

-- more of them
pub spends_for_more : (h : Known) (cs : List BoardCharge) (b : BoardValue) (old : Option (List ℕ)) (n : ℕ) (left front rest : List BoardCharge)
    (now next : BoardValue) (between new : Option (List ℕ)) (mid watch : Known) (spare less k : ℕ) (stop : Option Stop)
    → left ≡ front ++ rest → less + k ≤ spare → is_some stop ≡ false → SpendsFor h cs b old n left now between mid spare
    → SpentCharges mid front now between new stop next watch k
    → SpendsFor h cs b old n rest next new watch less
spends_for_more h cs b old n left front rest now next between new mid watch spare less k stop e le none s w =
    let P : Option Stop → Type 0 = λ o. Went front now w.moments o next in
    let went : WentThrough front now w.moments next = subst P (no_stop stop none) w.went in
    let few = w.few in
    let a = s.accepted in
    let r = s.repeats in
    let fa = few.accepted in
    let fr = few.repeats in
    let words = s.words in
    let more_words = w.words in
    record {
      moments = s.moments ++ w.moments;
      run = λ more r h.
          let Q : List BoardCharge → Type 0 = λ x. Run x now (after_moments w.moments r) in
          let R : RunOutcome → Type 0 = λ x. Run (cs ++ more) b x in
          subst R (sym (outcome_append s.moments w.moments r))
          (s.run more (after_moments w.moments r) (subst Q (sym (ap (λ x. x ++ more) e ∙ append_assoc front rest more)) (went (rest ++ more) r h)));
      wrote = wrote_more h mid watch s.moments w.moments old between new s.wrote w.wrote;
      accepted = omega arith;
      repeats = omega arith;
      words = omega arith;
    }

-- a stop in them
pub spends_for_stop : (h : Known) (cs : List BoardCharge) (b : BoardValue) (old : Option (List ℕ)) (n : ℕ) (left front rest : List BoardCharge)
    (now next : BoardValue) (between new : Option (List ℕ)) (mid watch : Known) (spare k : ℕ) (stop : Option Stop)
    → left ≡ front ++ rest → k ≤ spare → is_some stop ≡ true → SpendsFor h cs b old n left now between mid spare
    → SpentCharges mid front now between new stop next watch k
    → SpentCharges h cs b old new stop next watch n
spends_for_stop h cs b old n left front rest now next between new mid watch spare k None e le some s w = cc
spends_for_stop h cs b old n left front rest now next between new mid watch spare k (Some stop) e le some s w =
    let few = w.few in
    let a = s.accepted in
    let r = s.repeats in
    let fa = few.accepted in
    let fr = few.repeats in
    let words = s.words in
    let more_words = w.words in
    record {
      moments = s.moments ++ w.moments;
      went = λ more.
          let Q : List BoardCharge → Type 0 = λ x. Run x now (run_outcome w.moments (Stopped stop) next) in
          s.run more (run_outcome w.moments (Stopped stop) next) (subst Q (sym (ap (λ x. x ++ more) e ∙ append_assoc front rest more)) (w.went (rest ++ more)));
      wrote = wrote_more h mid watch s.moments w.moments old between new s.wrote w.wrote;
      few = record { accepted = omega arith; repeats = omega arith };
      words = omega arith;
    }

-- all of them
pub spends_for_end : (h : Known) (cs : List BoardCharge) (b : BoardValue) (old : Option (List ℕ)) (n : ℕ) (left : List BoardCharge) (now : BoardValue)
    (new : Option (List ℕ)) (watch : Known) (spare : ℕ) → left ≡ []
    → SpendsFor h cs b old n left now new watch spare → SpentCharges h cs b old new None now watch n
spends_for_end h cs b old n left now new watch spare e s =
    let a = s.accepted in
    let r = s.repeats in
    let words = s.words in
    record {
      moments = s.moments;
      went = λ more r h. let Q : List BoardCharge → Type 0 = λ x. Run (x ++ more) now r in s.run more r (subst Q (sym e) h);
      wrote = s.wrote;
      few = record { accepted = omega arith; repeats = omega arith };
      words = omega arith;
    }

are_err : (h now : Known) (cs : List BoardCharge) (b after : BoardValue) (old new : Option (List ℕ)) (n : ℕ) (result : Result (Option Stop) Failed)
    → IsErr result
    → ((more : List BoardCharge) → (r : RunOutcome) × Run (cs ++ more) b r × IsCutInMoment h.history [] r.moments old new after)
    → AreSpent h cs b old new result after now n
are_err h now cs b after old new n (Ok o) e p = cc
are_err h now cs b after old new n (Err f) e p = p

-- a line of one of them isn't written whole
pub spends_for_err : (h : Known) (cs : List BoardCharge) (b : BoardValue) (old : Option (List ℕ)) (n : ℕ) (left front rest : List BoardCharge)
    (now next : BoardValue) (between new : Option (List ℕ)) (mid watch watch' : Known) (spare k : ℕ)
    (f : Failed) (result : Result (Option Stop) Failed) → IsErr result → left ≡ front ++ rest → SpendsFor h cs b old n left now between mid spare
    → AreSpent mid front now between new (Err f) next watch' k
    → AreSpent h cs b old new result next watch n
spends_for_err h cs b old n left front rest now next between new mid watch watch' spare k f result err e s w =
    are_err h watch cs b next old new n result err (λ more.
    let cut = w (rest ++ more) in
    let Q : List BoardCharge → Type 0 = λ x. Run x now cut.0 in
    let run = s.run more cut.0 (subst Q (sym (ap (λ x. x ++ more) e ∙ append_assoc front rest more)) cut.1) in
    let more_cut =
    cut_more h mid s.moments cut.0.moments [] (s.moments ++ cut.0.moments) old between new next
    (ap (λ x. s.moments ++ x) (sym (append-nil cut.0.moments))) s.wrote cut.2 in
    (after_moments s.moments cut.0, run, more_cut))

-- the first of the charges that are left
pub repeated_split : (k : ℕ) (c : BoardCharge) → 0 < k → replicate k c ≡ (c ∷ []) ++ replicate (k - 1) c
repeated_split zero c h = absurd (omega arith)
repeated_split (suc k) c h = ap (λ n. c ∷ replicate n c) (let e : k ≡ suc k - 1 = omega arith in e)

pub repeated_end : (k : ℕ) (c : BoardCharge) → k ≤ 0 → replicate k c ≡ []
repeated_end zero c h = refl
repeated_end (suc k) c h = absurd (omega arith)

pub all_split : (cs : List Charge) (d : Charge) (i : ℕ) → i < length cs
    → charges_of (drop i cs) ≡ replicate (get_or cs i d).times (charge_of (get_or cs i d)) ++ charges_of (drop (i + 1) cs)
all_split cs d i h =
    ap charges_of (drop-cons cs i d h) ∙ ap (λ j. replicate (get_or cs i d).times (charge_of (get_or cs i d)) ++ charges_of (drop j cs))
    (let n : suc i ≡ i + 1 = omega arith in n)

pub count_split : (cs : List Charge) (d : Charge) (i : ℕ) → i < length cs → charge_count (drop i cs) ≡ (get_or cs i d).times + charge_count (drop (i + 1) cs)
count_split cs d i h =
    ap charge_count (drop-cons cs i d h) ∙ count_cons (get_or cs i d) (drop (suc i) cs)
    ∙ ap (λ j. (get_or cs i d).times + charge_count (drop j cs)) (let n : suc i ≡ i + 1 = omega arith in n)

pub all_end : (cs : List Charge) (i : ℕ) → length cs ≤ i → charges_of (drop i cs) ≡ []
all_end cs i h = ap charges_of (drop_of_length-le cs h)

-- a text is written, and the next in part: that is a front of both, whatever comes behind them
pub front_of_both : (old new : Option (List ℕ)) (text next behind : List ℕ) → BreaksOff old new text next
    → AppendsProperPrefix old new (text ++ (next ++ behind))
front_of_both old new text next behind p =
    let inside : p.count ≤ length next = let h = p.proper in omega arith in
    let P : List ℕ → Type 0 = λ t. Appends old new t in
    let front : text ++ take p.count next ≡ take (length text + p.count) (text ++ (next ++ behind)) =
    ap (λ x. text ++ x) (sym (take-append-le p.count next behind inside)) ∙ sym (take-append-add text (next ++ behind) p.count) in
    let proper = p.proper in
    record {
      count = length text + p.count;
      proper = omega (arith, length-append text (next ++ behind), length-append next behind);
      held = subst P front p.held;
    }

-- what is cut in a moment is a front of the report
front_of_report : (h : History) (events : List Event) (r : RunOutcome) (old new : Option (List ℕ)) (after : BoardValue)
    → IsCutInMoment h [] r.moments old new after → AppendsProperPrefix old new (rest_of h events r)
front_of_report h events r old new after c =
    let last : List ℕ = last_lines h events r in
    let own : List ℕ = moment_lines (after_all h c.before) c.moment in
    let later : List ℕ = lines_from (noted (after_all h c.before) c.moment) c.later in
    let P : List ℕ → Type 0 = λ t. AppendsProperPrefix old new t in
    let lines : lines_from h r.moments ≡ lines_from h c.before ++ (own ++ later) = ap (lines_from h) c.split ∙ lines_append h c.before (c.moment ∷ c.later) in
    subst P (sym (ap (λ x. x ++ last) lines))
    (part_of_first old new (lines_from h c.before ++ (own ++ later)) last (front_of_both old new (lines_from h c.before) own later c.written))

-- a run that was cut, or that is whole
run_err : (h now : History) (cs : List BoardCharge) (events : List Event) (b after : BoardValue) (old new : Option (List ℕ)) (result : Result RunEnd RunFault)
    → result ≡ Err fault.Write → (r : RunOutcome) × Run cs b r × IsCut h [] events b r old new after
    → IsRestOf h cs events b old new result after now
run_err h now cs events b after old new result e p =
    let P : Result RunEnd RunFault → Type 0 = λ x. IsRestOf h cs events b old new x after now in subst P (sym e) p

nil_charges : (cs : List BoardCharge) → cs ++ [] ≡ cs
nil_charges cs = append-nil cs

pub run_cut : (h watch : Known) (now : History) (cs : List BoardCharge) (events : List Event) (b after : BoardValue) (old new : Option (List ℕ)) (n : ℕ)
    (f : Failed) (result : Result RunEnd RunFault) → result ≡ Err fault.Write
    → AreSpent h cs b old new (Err f) after watch n → IsRestOf h.history cs events b old new result after now
run_cut h watch now cs events b after old new n f result e w =
    let cut = w [] in
    let P : List BoardCharge → Type 0 = λ x. Run x b cut.0 in
    run_err h.history now cs events b after old new result e (
      cut.0,
      subst P (nil_charges cs) cut.1,
      record { written = front_of_report h.history events cut.0 old new after cut.2; place = InMoment cut.2 },
    )

-- the run of charges that were spent or in which the board stopped
whole_run : (cs : List BoardCharge) (b after : BoardValue) (ms : List Moment) (stop : Option Stop) → Went cs b ms stop after
    → Run cs b (run_outcome ms (ended stop) after)
whole_run cs b after ms None w =
    let P : List BoardCharge → Type 0 = λ x. Run x b (run_outcome ms Charges after) in
    let Q : List Moment → Type 0 = λ x. Run (cs ++ []) b (run_outcome x Charges after) in
    subst P (nil_charges cs) (subst Q (append-nil ms) (w [] (run_outcome [] Charges after) (Over after)))
whole_run cs b after ms (Some stop) w = let P : List BoardCharge → Type 0 = λ x. Run x b (run_outcome ms (Stopped stop) after) in
    subst P (nil_charges cs) (w [])

-- and its last lines
module _ (h now : Known) (cs : List BoardCharge) (events : List Event) (b after : BoardValue) (old between new : Option (List ℕ)) (n : ℕ) (stop : Option Stop)
    (none : h.tally ≡ no_tally) (w : SpentCharges h cs b old between stop after now n) where
  abbrev pub r : RunOutcome
  r = run_outcome w.moments (ended stop) after

  run : Run cs b r
  run = whole_run cs b after w.moments stop w.went

  abbrev pub line : List ℕ
  line = known_lines now events (ended stop) after

  line_is : line ≡ last_lines h.history events r
  line_is =
      ap (λ c. events_lines events c ++ last_line now.history (ended stop) after) (counts_are h.history.map r now.tally
      (w.wrote.tally ∙ ap (tally_after (known_head h) w.moments) none))
      ∙ ap (λ x. events_lines events (event_counts h.history.map r) ++ last_line x (ended stop) after) w.wrote.history

  text : lines_from h.history w.moments ++ line ≡ rest_of h.history events r
  text = ap (λ x. lines_from h.history w.moments ++ x) line_is

  written : Appends between new line → Appends old new (rest_of h.history events r)
  written a = let P : List ℕ → Type 0 = λ t. Appends old new t in
      subst P text (Appends-trans old between new (lines_from h.history w.moments) line w.wrote.written a)

  pub run_end : (result : Result RunEnd RunFault) → IsEndOf (ended stop) line between new result
      → IsRestOf h.history cs events b old new result after now.history
  run_end (Ok end) e = (r, run, record { answer = e.0; board = refl; history = w.wrote.history; written = written e.1 })
  run_end (Err (fault.Illegal pc word)) e = (r, run, record { answer = e.0; board = refl; history = w.wrote.history; written = written e.1 })
  run_end (Err (fault.Bus pc address)) e = (r, run, record { answer = e.0; board = refl; history = w.wrote.history; written = written e.1 })
  run_end (Err fault.Write) e =
      let lines = lines_from h.history w.moments in
      let P : List ℕ → Type 0 = λ t. AppendsProperPrefix old new t in
      let Q : List ℕ → Type 0 = λ x. BreaksOff old new lines x in
      let R : List ℕ → Type 0 = λ t. BreaksOff old new t line in
      let cut =
      subst R (append-nil lines) (breaks_behind old between new lines [] line w.wrote.written (breaks_first between new line e)) in (
        r,
        run,
        record {
          written = subst P text (part_of_second old between new lines line w.wrote.written e);
          place = InLastLines refl (subst Q line_is cut);
        },
      )

-- the last line behind that of the events
pub end_behind : (end : End) (a b : List ℕ) (old mid new : Option (List ℕ)) (result : Result RunEnd RunFault) → Appends old mid a
    → IsEndOf end b mid new result → IsEndOf end (a ++ b) old new result
end_behind end a b old mid new (Ok e) first p = (p.0, Appends-trans old mid new a b first p.1)
end_behind end a b old mid new (Err (fault.Illegal pc word)) first p = (p.0, Appends-trans old mid new a b first p.1)
end_behind end a b old mid new (Err (fault.Bus pc address)) first p = (p.0, Appends-trans old mid new a b first p.1)
end_behind end a b old mid new (Err fault.Write) first p = part_of_second old mid new a b first p

-- the line of the events isn't written whole
pub end_cut : (end : End) (a b : List ℕ) (old new : Option (List ℕ)) (result : Result RunEnd RunFault) → result ≡ Err fault.Write
    → AppendsProperPrefix old new a → IsEndOf end (a ++ b) old new result
end_cut end a b old new result e cut =
    let P : Result RunEnd RunFault → Type 0 = λ x. IsEndOf end (a ++ b) old new x in
    subst P (sym e) (part_of_first old new a b cut)

-- a charge that stands where there is none
abbrev pub no_charge : Charge
no_charge = record { kind = kind.Cycles; n = 0; fill = 0; times = 0 }

-- where writing broke off, behind a text
place_behind : (h : History) (events : List Event) (b after : BoardValue) (r : RunOutcome) (old mid new : Option (List ℕ)) (text : List ℕ)
    → Appends old mid text → IsCutAt h [] events b r mid new after → IsCutAt h text events b r old new after
place_behind h events b after r old mid new text first (InText is p) = absurd (let h = p.proper in omega arith)
place_behind h events b after r old mid new text first (InMoment c) = InMoment (record {
  before = c.before;
  moment = c.moment;
  later = c.later;
  split = c.split;
  board = c.board;
  written = breaks_behind old mid new text (lines_from h c.before) (moment_lines (after_all h c.before) c.moment) first c.written;
})
place_behind h events b after r old mid new text first (InLastLines is p) =
    InLastLines is (breaks_behind old mid new text (lines_from h r.moments) (last_lines h events r) first p)

-- behind the line of the bound
pub bound_first : (h now : History) (cs : List BoardCharge) (events : List Event) (b after : BoardValue) (old mid new : Option (List ℕ))
    (result : Result RunEnd RunFault)
    → Appends old mid (bound_lines h.map)
    → IsRestOf h cs events b mid new result after now → IsRunOf h cs events b old new result after now
bound_first h now cs events b after old mid new (Ok end) first (r, run, w) = (
  r,
  run,
  record {
    answer = w.answer;
    board = w.board;
    history = w.history;
    written = Appends-trans old mid new (bound_lines h.map) (rest_of h events r) first w.written;
  },
)
bound_first h now cs events b after old mid new (Err (fault.Illegal pc word)) first (r, run, w) = (
  r,
  run,
  record {
    answer = w.answer;
    board = w.board;
    history = w.history;
    written = Appends-trans old mid new (bound_lines h.map) (rest_of h events r) first w.written;
  },
)
bound_first h now cs events b after old mid new (Err (fault.Bus pc address)) first (r, run, w) = (
  r,
  run,
  record {
    answer = w.answer;
    board = w.board;
    history = w.history;
    written = Appends-trans old mid new (bound_lines h.map) (rest_of h events r) first w.written;
  },
)
bound_first h now cs events b after old mid new (Err fault.Write) first (r, run, w) = (
  r,
  run,
  record {
    written = part_of_second old mid new (bound_lines h.map) (rest_of h events r) first w.written;
    place = place_behind h events b after r old mid new (bound_lines h.map) first w.place;
  },
)

-- the line of the bound itself isn't written whole
pub bound_cut : (h now : History) (cs : List BoardCharge) (events : List Event) (b : BoardValue) (old new : Option (List ℕ)) (result : Result RunEnd RunFault)
    → result ≡ Err fault.Write → AppendsProperPrefix old new (bound_lines h.map)
    → IsRunOf h cs events b old new result b now
bound_cut h now cs events b old new result e cut =
    let run = has_run cs b in
    let P : Result RunEnd RunFault → Type 0 = λ x. IsRunOf h cs events b old new x b now in
    subst P (sym e) (run.0, run.1, record { written = part_of_first old new (bound_lines h.map) (rest_of h events run.0) cut; place = InText refl cut })
