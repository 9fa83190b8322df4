-- The run that `save` makes, the line that it writes, and the state that it puts.
use Rattle.std.proofs.Common.{◌≡◌, ◌∙◌, ℕ, List, [], ◌∷◌, Option, Some, None, Result, Ok, Err, refl, sym, ap, subst}
use Rattle.std.specs.Io.KnownBytes.{Appends}
use Rattle.plain_commands.specs.alp_io.Count.{Rose}
use Rattle.plain_commands.specs.alp_io.Sink.{AppendsProperPrefix}
use Rattle.plain_commands.specs.energy_trace.TraceValue.{TraceValue}
use Rattle.plain_commands.specs.energy_trace.Reading.{trace_of}
use Rattle.plain_commands.specs.fram_board.msp_step.declared.machine.Stop.TheVariants as stop
use Rattle.plain_commands.specs.state_text.declared.state.State.{State}
use Rattle.plain_commands.specs.state_text.Reading.{state_of}
use Rattle.plain_commands.specs.fram_board.Board.{BoardValue}
use Rattle.plain_commands.specs.fram_board.Saved.{saved}
use Rattle.plain_commands.specs.fram_board.Run.{End, Charges, Stopped}
use Rattle.plain_commands.specs.board_run.declared.trace_run.RunEnd.{RunEnd}
use Rattle.plain_commands.specs.board_run.declared.trace_run.RunEnd.TheVariants as run_end
use Rattle.plain_commands.specs.board_run.declared.trace_run.RunFault.{RunFault}
use Rattle.plain_commands.specs.board_run.declared.trace_run.RunFault.TheVariants as fault
use Rattle.plain_commands.specs.board_run.Charges.{charges_of}
use Rattle.plain_commands.specs.board_run.History.{History, start_of}
use Rattle.plain_commands.specs.board_run.Report.{after_all, answer_of, HasWriteCause, IsRunOf, last_line}
use Rattle.plain_commands.specs.command_answers.CommandAnswers.{IsWhole, IsBroken}
use Rattle.plain_commands.specs.command_answers.Ending.{Ending, well, at_fault}
use Rattle.plain_commands.specs.command_answers.Outside.{Shelved, Written, Stands}
use Rattle.plain_commands.specs.RunReport.{ending_of}
use Rattle.plain_commands.specs.source_runs.Traces.{IsTraceOfWords}
use Rattle.state_commands.specs.Saved.{IsSavedAt, RanFrom, RanOn, Saves, RunsOnWords, IsOfWords, from_state, told_end, told_fault, save_promise}
use Rattle.plain_commands.proofs.command_answers.Interface.{never_rises}
use Rattle.plain_commands.proofs.Interface.{ends_well, ends_at_fault}

-- ---- the run, to a sink that never fails

ran_by : (s : State) (t : TraceValue) (old new : Option (List ℕ)) (end : Result RunEnd RunFault) (after : BoardValue) (now : History)
    → IsRunOf (start_of s.image) (charges_of t.charges) t.events (from_state s t) old new end after now → HasWriteCause 0 0 end
    → RanFrom s t end after now.completed
ran_by s t old new (Ok e) after now r cause =
    record { outcome = r.0; run = r.1; answer = r.2.answer; at_end = r.2.board; count = ap (λ h. h.completed) r.2.history }
ran_by s t old new (Err (fault.Illegal pc word)) after now r cause =
    record { outcome = r.0; run = r.1; answer = r.2.answer; at_end = r.2.board; count = ap (λ h. h.completed) r.2.history }
ran_by s t old new (Err (fault.Bus pc address)) after now r cause =
    record { outcome = r.0; run = r.1; answer = r.2.answer; at_end = r.2.board; count = ap (λ h. h.completed) r.2.history }
ran_by s t old new (Err fault.Write) after now r cause = absurd (never_rises (cause.failed refl))

pub ran_from : (s : State) (t : TraceValue) (old new : Option (List ℕ)) (end : Result RunEnd RunFault) (board after : BoardValue) (watch now : History)
    → board ≡ from_state s t → watch ≡ start_of s.image → IsRunOf watch (charges_of t.charges) t.events board old new end after now → HasWriteCause 0 0 end
    → (completed : ℕ) → completed ≡ now.completed → RanFrom s t end after completed
ran_from s t old new end board after watch now is_board is_watch r cause completed count =
    let of_state = subst (λ b. IsRunOf watch (charges_of t.charges) t.events b old new end after now) is_board r in
    let of_image = subst (λ h. IsRunOf h (charges_of t.charges) t.events (from_state s t) old new end after now) is_watch of_state in
    subst (λ k. RanFrom s t end after k) (sym count) (ran_by s t old new end after now of_image cause)

no_write : (e : End) → Err fault.Write ≡ answer_of e → ⊥
no_write Charges is = cc
no_write (Stopped stop.Off) is = cc
no_write (Stopped stop.NoReading) is = cc
no_write (Stopped (stop.Illegal pc word)) is = cc
no_write (Stopped (stop.Bus pc address)) is = cc

-- so it ends by itself
pub ends_by_itself : (s : State) (t : TraceValue) (end : Result RunEnd RunFault) (board : BoardValue) (completed : ℕ) → RanFrom s t end board completed
    → (f : RunFault) → end ≡ Err f → f ≡ fault.Write → ⊥
ends_by_itself s t end board completed r f is same = no_write r.outcome.ending (ap Err (sym same) ∙ sym is ∙ r.answer)

-- ---- its last line

end_is : (x : RunEnd) (completed : ℕ) (b : BoardValue) (h : History) (e : End) → Ok x ≡ answer_of e → completed ≡ h.completed
    → told_end x completed b ≡ last_line h e b
end_is x completed b h Charges is count =
    let same : x ≡ run_end.Charges = cc in ap (λ x. told_end x completed b) same ∙ ap (λ k. told_end run_end.Charges k b) count
end_is x completed b h (Stopped stop.Off) is count =
    let same : x ≡ run_end.Off = cc in ap (λ x. told_end x completed b) same ∙ ap (λ k. told_end run_end.Off k b) count
end_is x completed b h (Stopped stop.NoReading) is count =
    let same : x ≡ run_end.Readings = cc in ap (λ x. told_end x completed b) same ∙ ap (λ k. told_end run_end.Readings k b) count
end_is x completed b h (Stopped (stop.Illegal pc word)) is count = cc
end_is x completed b h (Stopped (stop.Bus pc address)) is count = cc

fault_is : (f : RunFault) (b : BoardValue) (h : History) (e : End) → Err f ≡ answer_of e → told_fault f ≡ last_line h e b
fault_is f b h Charges is = cc
fault_is f b h (Stopped stop.Off) is = cc
fault_is f b h (Stopped stop.NoReading) is = cc
fault_is f b h (Stopped (stop.Illegal pc word)) is = let same : f ≡ fault.Illegal pc word = cc in ap told_fault same
fault_is f b h (Stopped (stop.Bus pc address)) is = let same : f ≡ fault.Bus pc address = cc in ap told_fault same

-- ---- what the command makes

abbrev pub ran_on : (image trace : List ℕ) (s : State) (t : TraceValue) (end : Result RunEnd RunFault) (board : BoardValue) (completed : ℕ)
    → state_of image ≡ Ok s → trace_of trace ≡ Ok t → IsOfWords s → IsTraceOfWords t
    → RanFrom s t end board completed → RanOn image trace s end board completed
ran_on image trace s t end board completed state_said trace_said whole words ran =
    record { charges = t; state_said = state_said; trace_said = trace_said; ran = ran; words = (whole, words) }

module _ (image trace : List ℕ) (s : State) (end : Result RunEnd RunFault) (board : BoardValue) (completed : ℕ)
    (r : RanOn image trace s end board completed) where
  saves : (file : Option (List ℕ)) (ending : Ending) (output : List ℕ) → ending ≡ ending_of r.ran.outcome.ending
      → IsSavedAt ending file (saved board s.image.map)
      → output ≡ last_line (after_all (start_of s.image) r.ran.outcome.moments) r.ran.outcome.ending board → Saves RunsOnWords image trace file ending output
  saves file ending output ends put line = record {
    state = s;
    charges = r.charges;
    outcome = r.ran.outcome;
    state_said = r.state_said;
    trace_said = r.trace_said;
    run = r.ran.run;
    ends = ends;
    put = subst (λ b. IsSavedAt ending file (saved b s.image.map)) r.ran.at_end put;
    holds = r.words;
    line = line ∙ ap (λ b. last_line (after_all (start_of s.image) r.ran.outcome.moments) r.ran.outcome.ending b) r.ran.at_end;
  }

  -- where the run ended well
  pub saves_well : (x : RunEnd) (text output : List ℕ) → end ≡ Ok x → IsSavedAt well (Some text) (saved board s.image.map)
      → output ≡ told_end x completed board → Saves RunsOnWords image trace (Some text) well output
  saves_well x text output is put line =
      let answer = sym is ∙ r.ran.answer in
      saves (Some text) well output (ends_well r.ran.outcome.ending x answer) put
      (line ∙ end_is x completed board (after_all (start_of s.image) r.ran.outcome.moments) r.ran.outcome.ending answer r.ran.count)

  -- where it met a fault nothing is put
  saves_none : (f : RunFault) (output : List ℕ) → end ≡ Err f → output ≡ told_fault f → Saves RunsOnWords image trace None at_fault output
  saves_none f output is line =
      let answer = sym is ∙ r.ran.answer in
      saves None at_fault output (ends_at_fault r.ran.outcome.ending f answer) refl
      (line ∙ fault_is f board (after_all (start_of s.image) r.ran.outcome.moments) r.ran.outcome.ending answer)

  pub fault_whole : (f : RunFault) (a b c : List ℕ) (shelf : Shelved) (out : Written) → end ≡ Err f → Stands shelf → Appends out.old out.new (told_fault f)
      → IsWhole (save_promise RunsOnWords a b c) (image ∷ trace ∷ []) at_fault shelf out
  fault_whole f a b c shelf out is stands written = record {
    product = record { file = None; output = told_fault f; ending = at_fault };
    is = saves_none f (told_fault f) is refl;
    ends = refl;
    put = stands;
    written = written;
  }

  pub fault_breaks : (f : RunFault) (a b c : List ℕ) (shelf : Shelved) (out : Written) → end ≡ Err f → Stands shelf
      → AppendsProperPrefix out.old out.new (told_fault f) → Rose out.faults_old out.faults_new
      → IsBroken (save_promise RunsOnWords a b c) (image ∷ trace ∷ []) shelf out
  fault_breaks f a b c shelf out is stands written failed = record {
    product = record { file = None; output = told_fault f; ending = at_fault };
    is = saves_none f (told_fault f) is refl;
    put = stands;
    written = written;
    failed = failed;
  }
