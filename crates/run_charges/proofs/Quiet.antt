-- A run of a program that takes no events reads nothing of EVENT; nor does a step that stops a run.
use Rattle.std.proofs.Common.{◌≡◌, ℕ, ◌-◌, true, false, sym, ap, ◌∙◌, subst, List, [], ◌∷◌, ◌++◌, All, Option}
use Rattle.std.proofs.lemmas.List.Elements.{All-nil, All-cons}
use Rattle.fram_board.specs.declared.board.NextStep.{NextStep}
use Rattle.fram_board.specs.declared.board.NextStep.TheVariants as next_step
use Rattle.fram_board.specs.declared.board.Stepped.{Stepped}
use Rattle.fram_board.specs.declared.events.Heard.{Heard}
use Rattle.fram_board.specs.declared.events.Heard.TheVariants as heard
use Rattle.fram_board.specs.Board.{BoardValue, powered, executed, performed, at_boundary}
use Rattle.fram_board.specs.Run.{Measure, price, Action, PowerUp, Execute, Moment, Charges, Stopped, RunOutcome, run_outcome, BoardCharge}
use Rattle.fram_board.specs.Run.{Run, Over, Next, Last, StepKind}
use Rattle.fram_board.specs.Run.{ChargeRun, Spent, NoInstruction, TooDear, Refused, Executed}
use Rattle.fram_board.proofs.Interface.{told_heard}
use Rattle.machine_effects.proofs.Interface.{boundary_heard, powered_heard}
use Rattle.crash_rules.specs.History.{History, behind_boot}
use Rattle.run_charges.specs.View.{is_handlers, NoneServes}
use Rattle.run_charges.specs.Moments.{IsMomentFrom, PowersUp, Instructs, Serves, AreMoments}
use Rattle.run_charges.specs.Charges.{ArePowerStates, observed}
use Rattle.run_charges.proofs.Moments.{first_start, other_starts, nothing_seen}
use Rattle.run_charges.proofs.Running.{PlacedProgram, Running, looks_of, sees_of, refused_on, runs_on}
use Rattle.run_charges.proofs.Programs.{Ready, running}
use Rattle.run_charges.proofs.Spent.{spent_ready}

-- nothing was read of EVENT since the last boundary
abbrev pub IsSilent : BoardValue → Type 0
IsSilent b = b.line.heard ≡ heard.Nothing

-- of a word for what was read in an action, which is that of its step
module _ (said : Action → Heard) (up : said PowerUp ≡ heard.Nothing)
    (step : (kind : StepKind) (done : Stepped) (offered : Option ℕ) → said (Execute kind done offered) ≡ done.heard) where
  moment_silent : (b : BoardValue) (m : Moment) → IsSilent b → is_handlers m ≡ false → IsMomentFrom b m → (said m.action ≡ heard.Nothing) × IsSilent m.after
  moment_silent b m silent none (PowersUp p ok e) =
      let P : Moment → Type 0 = λ y. (said y.action ≡ heard.Nothing) × IsSilent y.after in subst P (sym e) (up, powered_heard b p)
  moment_silent b m silent none (Instructs i done c a same e) =
      let P : Moment → Type 0 = λ y. (said y.action ≡ heard.Nothing) × IsSilent y.after in
      subst P (sym e)
      (step _ done _ ∙ told_heard b (next_step.Instruction i) done a ∙ ap (λ q. q.heard) same.line ∙ silent, boundary_heard (executed b i).board)
  moment_silent b m silent none (Serves n done next a served e) =
      let no : true ≡ false = sym served.handlers ∙ ap is_handlers (sym e) ∙ none in absurd cc

  -- moments of which none is a handler's read nothing
  pub moments_hear_nothing : (b : BoardValue) (ms : List Moment) → IsSilent b → NoneServes ms → AreMoments b ms → All (λ m. said m.action ≡ heard.Nothing) ms
  moments_hear_nothing b [] silent none all = All-nil (λ m. said m.action ≡ heard.Nothing)
  moments_hear_nothing b (m ∷ ms) silent none all =
      let one = moment_silent m.before m (subst IsSilent (sym all.0.same) silent) none.0 all.1 in
      All-cons (λ m. said m.action ≡ heard.Nothing) m ms one.0 (moments_hear_nothing m.after ms one.1 none.1 all.2)

module _ (on : PlacedProgram) where
  charge_silent : (m : Measure) (left : ℕ) (b : BoardValue) (r : RunOutcome) → Running on b → IsSilent b → ChargeRun m left b r → IsSilent r.board
  charge_silent m left b r run silent (Spent _ _ none) = silent
  charge_silent m left b r run silent (NoInstruction _ _ e pos h) = silent
  charge_silent m left b r run silent (TooDear _ _ n pos c dear) = silent
  charge_silent m left b r run silent (Refused _ _ n e pos c paid a) =
      let f = refused_on on b run.whole run.words [] n e c a (run.machine (looks_of b n ++ []) (sees_of on b run.words n [] nothing_seen)) in
      subst (λ (y : NextStep). IsSilent (performed b y).board) (sym f.is) (ap (λ q. q.heard) f.line ∙ silent)
  charge_silent m left b r run silent (Executed _ _ n done rest pos c paid a h) =
      charge_silent m (left - price m n) (at_boundary (performed b n).board) rest (runs_on on b run n done c a) (boundary_heard (performed b n).board) h

  -- nor does the step that stops a run
  pub run_silent : (cs : List BoardCharge) (b : BoardValue) (h : History) (r : RunOutcome) → Ready on b h → IsSilent b → ArePowerStates cs → Run cs b r
      → IsSilent r.board
  run_silent cs b h r ready silent ok (Over _) = silent
  run_silent cs b h r ready silent ok (Next c ds _ ms end rest one more) =
      let start = first_start c ds ok in
      let up = powered b c.start in
      let next = charge_silent c.measure c.amount up (run_outcome ms Charges end) (running on b h ready c.start start) (powered_heard b c.start) one in
      run_silent ds end (observed on.marks ms (behind_boot h)) rest (spent_ready on b h ready c start ms end one) next (other_starts c ds ok) more
  run_silent cs b h r ready silent ok (Last c ds _ ms stop end one) =
      let start = first_start c ds ok in
      charge_silent c.measure c.amount (powered b c.start) (run_outcome ms (Stopped stop) end) (running on b h ready c.start start)
      (powered_heard b c.start) one
