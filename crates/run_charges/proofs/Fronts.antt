-- A run of a program that stands in FRAM is one of it and its handler, and each front of it is charges of the program.
use Rattle.std.proofs.Common.{◌≡◌, refl, sym, subst, List}
use Rattle.fram_board.specs.Board.{BoardValue, powered}
use Rattle.fram_board.specs.Run.{Charges, Stopped, RunOutcome, run_outcome, BoardCharge, Run, Over, Next, Last}
use Rattle.machine_effects.specs.Runs.{last_board}
use Rattle.crash_rules.specs.Model.{Marks}
use Rattle.crash_rules.specs.History.{History, behind_boot}
use Rattle.crash_rules.specs.Runs.{Program}
use Rattle.run_charges.specs.View.{outside_of}
use Rattle.run_charges.specs.Moments.{PowersUp, AreMoments}
use Rattle.run_charges.specs.Charges.{ArePowerStates, observed}
use Rattle.run_charges.specs.Laws.{IsRunOfWords, IsProgramRun, StandsIn, ProgramsRun, ProgramsRunAlone, FrontsAreCharged}
use Rattle.run_charges.proofs.View.{no_gap}
use Rattle.run_charges.proofs.Moments.{charge_last, first_start, other_starts, are-append}
use Rattle.run_charges.proofs.Charges.{run_front}
use Rattle.run_charges.proofs.Running.{PlacedProgram, charge_moments}
use Rattle.run_charges.proofs.Programs.{Ready, running, front_charged}
use Rattle.run_charges.proofs.Spent.{spent_moments, spent_ready}
use Rattle.run_charges.proofs.Accepting.{run_alone}

module _ (on : PlacedProgram) where
  run_moments : (cs : List BoardCharge) (b : BoardValue) (h : History) (r : RunOutcome) → Ready on b h → ArePowerStates cs → Run cs b r
      → AreMoments b r.moments
  run_moments cs b h r ready ok (Over _) = tt
  run_moments cs b h r ready ok (Next c ds _ ms end rest one more) =
      let start = first_start c ds ok in
      let there : last_board (powered b c.start) ms ≡ end = charge_last c.measure c.amount (powered b c.start) (run_outcome ms Charges end) one refl in
      let front = spent_moments on b h ready c start ms end one in
      let next = spent_ready on b h ready c start ms end one in
      let behind = run_moments ds end (observed on.marks ms (behind_boot h)) rest next (other_starts c ds ok) more in
      let P : BoardValue → Type 0 = λ x. AreMoments x rest.moments in
      (no_gap b, PowersUp c.start start refl, are-append (powered b c.start) ms rest.moments front (subst P (sym there) behind))
  run_moments cs b h r ready ok (Last c ds _ ms stop end one) =
      let start = first_start c ds ok in (
        no_gap b,
        PowersUp c.start start refl,
        charge_moments on c.measure c.amount (powered b c.start) (run_outcome ms (Stopped stop) end) (running on b h ready c.start start) one,
      )

  -- a run from a board that is ready is one of the program and its handler
  pub program_run : (b : BoardValue) (h : History) → Ready on b h → (cs : List BoardCharge) (r : RunOutcome) → IsRunOfWords cs b r → IsProgramRun cs b r
  program_run b h ready cs r run = record { of_words = run; moments = run_moments cs b h r ready run.starts run.run }

-- where a program stands
module _ (c : Program) (marks : Marks) (b : BoardValue) (h : History) (stands : StandsIn c marks b h) where
  abbrev pub placed_program : PlacedProgram
  placed_program = record {
    program = c;
    marks = marks;
    events = stands.events;
    place = stands.place;
    instructions = stands.instructions;
    entry = (outside_of b).fram 0xFFFE;
    is = stands.placed;
  }

  pub ready_there : (cs : List BoardCharge) (r : RunOutcome) → IsRunOfWords cs b r → Ready placed_program b h
  ready_there cs r run = record {
    whole = run.whole;
    words = run.words;
    vector = refl;
    handler = stands.handler;
    holds = stands.holds;
    leaves = stands.leaves;
  }

-- a run of a program is one of it and its handler
pub programs_run : (c : Program) → ProgramsRun c
programs_run c cs b r run marks h stands =
    program_run (placed_program c marks b h stands) b h (ready_there c marks b h stands cs r run) cs r run

-- each front of a run is charges of the program
pub fronts_are_charged : (c : Program) → FrontsAreCharged c
fronts_are_charged c cs b r ms rest run e marks h stands =
    front_charged (placed_program c marks b h stands) b h (ready_there c marks b h stands cs r run) ms
    (run_front cs b r ms rest (programs_run c cs b r run marks h stands) e)

-- without events it runs alone
pub programs_run_alone : (c : Program) → ProgramsRunAlone c
programs_run_alone c cs b r run marks h stands off =
    run_alone (placed_program c marks b h stands) off cs b h r (ready_there c marks b h stands cs r run) run.starts run.run
