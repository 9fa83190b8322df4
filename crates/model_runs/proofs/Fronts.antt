-- Fronts of a run whose code is a program of a model.
use Rattle.std.proofs.Common.{◌≡◌, ℕ, refl, sym, ◌∙◌, List, None}
use Rattle.fram_board.specs.Board.{BoardValue}
use Rattle.fram_board.specs.Run.{BoardCharge, Moment, RunOutcome}
use Rattle.machine_effects.specs.Machine.{MachineBoard}
use Rattle.machine_effects.specs.World.{World}
use Rattle.machine_effects.specs.View.{IsWhole, IsOfWords}
use Rattle.machine_effects.specs.Runs.{last_board}
use Rattle.crash_rules.specs.Model.{Model}
use Rattle.crash_rules.specs.History.{History, first_history}
use Rattle.crash_rules.specs.Runs.{Program, Charge, IsPoweredFrom, Charged}
use Rattle.crash_rules.specs.Laws.{Origin, IsLawful, Matches, HasRun, PowersUpBehind}
use Rattle.crash_rules.proofs.Interface.{crash_theorem}
use Rattle.run_charges.specs.View.{outside_of, NoneServes}
use Rattle.run_charges.specs.Moments.{IsFront}
use Rattle.run_charges.specs.Laws.{IsRunOfWords, IsProgramRun}
use Rattle.run_charges.proofs.Interface.{PlacedProgram, Ready, Reached, front_reached, program_run, run_alone, run_front}
use Rattle.model_runs.specs.Runs.{history_behind}
use Rattle.model_runs.specs.Bears.{BearsModel}
use Rattle.model_runs.specs.Laws.{FrontsAreLawful}

module _ {St : Type 0} (m : Model St) (c : Program) (readings : List ℕ) (origin : Origin St) (x : World) (b : BoardValue)
    (bears : BearsModel m c readings origin x b) where
  abbrev first : History
  first = first_history m.marks x

  -- the program, where it stands
  abbrev pub stood : PlacedProgram
  stood = record {
    program = c;
    marks = m.marks;
    events = bears.stands.events;
    place = bears.stands.place;
    instructions = bears.stands.instructions;
    entry = (outside_of b).fram 0xFFFE;
    is = bears.stands.placed;
  }

  pub ready_at_first : IsWhole b → IsOfWords b → Ready stood b first
  ready_at_first whole words = record {
    whole = whole;
    words = words;
    vector = refl;
    handler = bears.stands.handler;
    holds = bears.stands.holds;
    leaves = bears.stands.leaves;
  }

  -- its run is one of the program and of the handler beside it
  pub runs_so : (cs : List BoardCharge) (r : RunOutcome) → IsRunOfWords cs b r → IsProgramRun cs b r
  runs_so cs r run = program_run stood b first (ready_at_first run.whole run.words) cs r run

  -- of the program alone where there is no ANS
  pub runs_alone : m.marks.answer ≡ None → (cs : List BoardCharge) (r : RunOutcome) → IsRunOfWords cs b r → NoneServes r.moments
  runs_alone none cs r run =
      run_alone stood (bears.stands.marked none) cs b first r (ready_at_first run.whole run.words) run.starts run.run

  -- what is known at a front: charges lead there, and the code stands
  abbrev pub AtFront : BoardValue → History → Type 0
  AtFront t h = Reached stood b first t h

  pub at_front : (ms : List Moment) → IsFront b ms → AtFront (last_board b ms) (history_behind m x ms)
  at_front ms front = front_reached stood b first (ready_at_first front.whole front.words) ms front

  -- a run that came so far, and a power-up behind it, as the crash theorem takes them
  abbrev pub has_run : (es : List Charge) (t : MachineBoard) (h : History) → Charged c m.marks (outside_of b) first es t h → HasRun m c readings origin t h
  has_run es t h charged = record { world = x; start = outside_of b; begins = bears.begins; charges = es; leads = charged }

  abbrev pub powers_up : (es : List Charge) (t : MachineBoard) (h : History) → Charged c m.marks (outside_of b) first es t h → (q : MachineBoard)
      → c.IsPoweredUp q → IsPoweredFrom t q → PowersUpBehind m c readings origin q
  powers_up es t h charged q up from = record { board = t; history = h; run = has_run es t h charged; powered = up; from = from }

  -- what a model says holds there
  pub lawful_front : (ms : List Moment) → IsFront b ms
      → IsLawful m readings origin (history_behind m x ms) × Matches readings (outside_of (last_board b ms)) (history_behind m x ms)
  lawful_front ms front =
      let h = history_behind m x ms in
      let at = at_front ms front in
      let all = crash_theorem m c bears.model bears.program readings origin at.end h (has_run at.charges at.end h at.charged) in
      (all.0, record { fram = sym at.fram ∙ all.1.fram; readings_left = sym at.readings ∙ all.1.readings_left })

pub fronts_are_lawful : {St : Type 0} (m : Model St) (c : Program) → FrontsAreLawful m c
fronts_are_lawful m c readings origin x cs b r run bears ms rest e =
    lawful_front m c readings origin x b bears ms (run_front cs b r ms rest (runs_so m c readings origin x b bears cs r run) e)
