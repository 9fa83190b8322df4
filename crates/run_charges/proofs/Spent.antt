-- A charge that is spent is spent by the program too, but for what the handler took.
use Rattle.std.proofs.Common.{◌≡◌, ℕ, suc, ◌+◌, ◌-◌, ◌*◌, ◌≤◌, ◌<◌, ◌⊎◌, refl, sym, ap, ◌∙◌, subst, arith, inl, inr, ⊎_elim, List, [], ◌∷◌, ◌++◌}
use Rattle.std.proofs.Common.{if◌then◌else◌, Bool, true, false, Option, Some, None}
use Rattle.msp_isa.specs.declared.instructions.Instr.{Instr}
use Rattle.msp_cycles.specs.Cycles.{cycles_of}
use Rattle.msp_step.specs.Registers.{Registers, registers_of}
use Rattle.msp_step.specs.Access.{Access, Completed, Faulted}
use Rattle.msp_step.specs.Effect.{Written}
use Rattle.msp_step.specs.Step.{effect}
use Rattle.fram_board.proofs.Interface.{performed_cycles}
use Rattle.fram_board.specs.declared.board.NextStep.{NextStep}
use Rattle.fram_board.specs.declared.board.NextStep.TheVariants as next_step
use Rattle.fram_board.specs.Board.{BoardValue, powered, opened, performed, at_boundary}
use Rattle.fram_board.specs.Board.{step_cycles, is_accepting, IsNextStep}
use Rattle.fram_board.specs.Steps.{IsPowerState}
use Rattle.fram_board.specs.Run.{Cycles, Instructions, Moment, moment_of, Charges, RunOutcome, run_outcome, BoardCharge}
use Rattle.fram_board.specs.Run.{ChargeRun, Spent, NoInstruction, TooDear, Refused, Executed}
use Rattle.machine_effects.specs.Inputs.{Look, first_look, other_looks, look_effects}
use Rattle.machine_effects.specs.Going.{Goes, Stops, step_behind, At, going}
use Rattle.machine_effects.specs.Machine.{MachineBus, MachineBoard, MachineOutcome, machine_outcome, machine_bus, machine_opened_seeing}
use Rattle.machine_effects.specs.Machine.{machine_executed_seeing, machine_executed, looks_there, executed_looking, code_executed, uncovering, program_executed}
use Rattle.machine_effects.proofs.Interface.{told_cycles, powered_heard}
use Rattle.machine_effects.specs.Runs.{action_cycles, last_board}
use Rattle.fram_board.specs.Effects.{Effect}
use Rattle.event_handler.specs.Handler.{instruction_at}
use Rattle.program_view.specs.Stands.{StandsAs, AtCode, InHandler, cycles_due}
use Rattle.program_view.proofs.Interface.{handlers_go_on, power_up_arises, waits_or_accepts}
use Rattle.machine_effects.proofs.msp_step.Interface.{same_current}
use Rattle.fram_board.specs.Bus.{board_bus}
use Rattle.crash_rules.specs.History.{History, observe, behind_boot}
use Rattle.crash_rules.specs.Runs.{Charge, IsSpent, Spends}
use Rattle.run_charges.specs.View.{outside_of, is_handlers}
use Rattle.run_charges.specs.Moments.{AreMoments}
use Rattle.run_charges.specs.Charges.{AreInstructionMoments, observed, program_steps, program_cycles}
use Rattle.run_charges.specs.Fronts.{handler_steps, handler_cycles, acceptances, events_met}
use Rattle.run_charges.proofs.Moments.{charge_last, charge_instructs}
use Rattle.run_charges.proofs.Running.{PlacedProgram, is_code, charge_moments}
use Rattle.run_charges.proofs.Reaching.{Reach}
use Rattle.run_charges.proofs.Programs.{Ready, running, first, starts, reach, end_fram, end_readings, made, seen, ready_behind, charged_once, Reached}
use Rattle.run_charges.proofs.Programs.{charged_like, charged_join}

-- a step that takes, or would take, so many cycles
abbrev IsPriced : ℕ → MachineOutcome → Type 0
IsPriced n (Goes es c t) = c ≡ n
IsPriced n (Stops es price e) = price ≡ n

outcome_priced : (pc n : ℕ) (a : Access MachineBus (Registers × Option Written)) → IsPriced n (machine_outcome pc n a)
outcome_priced pc n (Completed x t) = refl
outcome_priced pc n (Faulted e a t) = refl

seeing_priced : (ring : Option Look) (s : MachineBoard) (i : Instr) → IsPriced (cycles_of i) (machine_executed_seeing ring s i)
seeing_priced ring s i = outcome_priced (s.registers 0) (cycles_of i) (effect machine_bus i s.registers (machine_opened_seeing ring s))

priced_behind : (es : List Effect) (n : ℕ) (o : MachineOutcome) → IsPriced n o → IsPriced n (step_behind es o)
priced_behind es n (Goes fs c t) h = h
priced_behind es n (Stops fs price e) h = h

priced_by : (c : Bool) (s : MachineBoard) (i : Instr) → IsPriced (cycles_of i) (if c then executed_looking s.inputs.looks s i else machine_executed s i)
priced_by true s i =
    let looks = s.inputs.looks in
    priced_behind (look_effects looks) (cycles_of i) _
    (seeing_priced (Some (first_look looks)) (record s { inputs = record s.inputs { looks = other_looks looks } }) i)
priced_by false s i = seeing_priced None s i

priced_uncovering : (i : Instr) (s : MachineBoard) (n : ℕ) (o : MachineOutcome) → IsPriced n o → IsPriced n (uncovering i s o)
priced_uncovering i s n (Goes es c t) h = h
priced_uncovering i s n (Stops es price e) h = h

-- an instruction takes its cycles, also one that looks
executed_priced : (s : MachineBoard) (i : Instr) → IsPriced (cycles_of i) (program_executed s i)
executed_priced s i = priced_uncovering i s (cycles_of i) (code_executed s i) (priced_by (looks_there i) s i)

-- a charge is spent where nothing is left, or less than the next step takes
none_left : (left : ℕ) (o : MachineOutcome) → left ≡ 0 → IsSpent left o
none_left left (Goes es c t) h = inl h
none_left left (Stops es price e) h = inl h

too_dear : (left n : ℕ) (o : MachineOutcome) → IsPriced n o → left < n → IsSpent left o
too_dear left n (Goes es c t) h l = inr (omega (arith, h, l))
too_dear left n (Stops es price e) h l = inr (omega (arith, h, l))

-- all cycles and steps are the program's or the handler's
both_cycles : (c : Bool) (n p h : ℕ) → (if c then p else n + p) + (if c then n + h else h) ≡ n + (p + h)
both_cycles true n p h = omega arith
both_cycles false n p h = omega arith

both_steps : (c : Bool) (p h : ℕ) → (if c then p else suc p) + (if c then suc h else h) ≡ suc (p + h)
both_steps true p h = omega arith
both_steps false p h = omega arith

-- nothing is left, or less than the next step costs
abbrev IsUsedUp : ℕ → BoardValue → Type 0
IsUsedUp left b = (left ≡ 0) ⊎ ((n : NextStep) × IsNextStep b n × (left < step_cycles n))

-- what moments take off a charge of cycles
record Uses (left : ℕ) (ms : List Moment) (end : BoardValue) : Type 0 where
  pub within : program_cycles ms + handler_cycles ms ≤ left
  pub used : IsUsedUp (left - (program_cycles ms + handler_cycles ms)) end

uses_more : (left c : ℕ) (m : Moment) (ms : List Moment) (end : BoardValue) → action_cycles m.action ≡ c → c ≤ left → Uses (left - c) ms end
    → Uses left (m ∷ ms) end
uses_more left c m ms end e fits more =
    let within = more.within in
    let all = both_cycles (is_handlers m) (action_cycles m.action) (program_cycles ms) (handler_cycles ms) in
    let same : left - c - (program_cycles ms + handler_cycles ms) ≡ left - (program_cycles (m ∷ ms) + handler_cycles (m ∷ ms)) = omega (arith, e, fits, all) in
    record { within = omega (arith, e, fits, within, all); used = subst (λ l. IsUsedUp l end) same more.used }

charge_used : (left : ℕ) (b : BoardValue) (r : RunOutcome) → ChargeRun Cycles left b r → r.ending ≡ Charges → Uses left r.moments r.board
charge_used left b r (Spent _ _ none) e = record { within = omega arith; used = inl (omega (arith, none)) }
charge_used left b r (NoInstruction _ _ x pos h) e = absurd cc
charge_used left b r (TooDear _ _ n pos c dear) e = record { within = omega arith; used = inr (n, c, omega (arith, dear)) }
charge_used left b r (Refused _ _ n x pos c paid a) e = absurd cc
charge_used left b r (Executed _ _ n done rest pos c paid a h) e =
    uses_more left (step_cycles n) (moment_of b n done) rest.moments rest.board (performed_cycles b n done a) paid
    (charge_used (left - step_cycles n) (at_boundary (performed b n).board) rest h e)

-- a charge of instructions that is spent has as many steps
instructions_used : (left : ℕ) (b : BoardValue) (r : RunOutcome) → ChargeRun Instructions left b r → r.ending ≡ Charges
    → program_steps r.moments + handler_steps r.moments ≡ left
instructions_used left b r (Spent _ _ none) e = omega (arith, none)
instructions_used left b r (NoInstruction _ _ x pos h) e = absurd cc
instructions_used left b r (TooDear _ _ n pos c dear) e = absurd (omega (arith, pos, dear))
instructions_used left b r (Refused _ _ n x pos c paid a) e = absurd cc
instructions_used left b r (Executed _ _ n done rest pos c paid a h) e =
    let more = instructions_used (left - 1) (at_boundary (performed b n).board) rest h e in
    let all = both_steps (is_handlers (moment_of b n done)) (program_steps rest.moments) (handler_steps rest.moments) in
    omega (arith, pos, more, all)

-- a charge that is spent, from a board that is ready
module _ (on : PlacedProgram) (b : BoardValue) (h : History) (ready : Ready on b h) (d : BoardCharge) (ok : IsPowerState d.start) (ms : List Moment)
    (end : BoardValue) (one : ChargeRun d.measure d.amount (powered b d.start) (run_outcome ms Charges end)) where
  abbrev step : MachineBoard → MachineOutcome
  step = on.program.step

  abbrev n : ℕ
  n = program_steps ms

  abbrev start : BoardValue
  start = powered b d.start

  abbrev spent : RunOutcome
  spent = run_outcome ms Charges end

  pub last : last_board start ms ≡ end
  last = charge_last d.measure d.amount start spent one refl

  pub are : AreInstructionMoments ms
  are = charge_instructs d.measure d.amount start spent one

  -- its moments
  pub spent_moments : AreMoments start ms
  spent_moments = charge_moments on d.measure d.amount start spent (running on b h ready d.start ok) one

  -- the machine with which it begins takes the looks of its moments
  abbrev pub p : MachineBoard
  p = first on b h ready d.start ok ms are spent_moments

  -- and its steps lead to this one
  abbrev reaches : Reach on start ms [] (starts on b h ready d.start ok ms are spent_moments)
  reaches = reach on b h ready d.start ok ms are spent_moments

  abbrev pub q : MachineBoard
  q = reaches.end.u

  pub status_behind : (going step n p).status ≡ At q
  status_behind = ap (λ z. z.status) (made on b h ready d.start ok ms are spent_moments)

  -- the program's effects are those that the moments tell
  pub spent_seen : observe on.marks (going step n p).effects (behind_boot h) ≡ observed on.marks ms (behind_boot h)
  spent_seen = seen on b h ready d.start ok ms are spent_moments

  -- the board behind it is ready
  pub spent_ready : Ready on end (observed on.marks ms (behind_boot h))
  spent_ready =
      let P : BoardValue → Type 0 = λ t. Ready on t (observed on.marks ms (behind_boot h)) in
      subst P last (ready_behind on b h ready d.start ok ms are spent_moments)

  -- charges lead to it where charges lead to the board before
  pub spent_reached : (first : BoardValue) (begun : History) → Reached on first begun b h → Reached on first begun end (observed on.marks ms (behind_boot h))
  spent_reached first begun at =
      let own : Charge = record { powered = p; steps = n } in
      let k = observed on.marks ms (behind_boot h) in
      let once = charged_once on b h ready d.start ok ms are spent_moments in
      let like = charged_like on.program on.marks (outside_of b) at.end at.fram at.readings (own ∷ []) q h k once in
      record {
        charges = at.charges ++ own ∷ [];
        end = like.end;
        charged = charged_join on.program on.marks at.charges (own ∷ []) (outside_of first) at.end like.end begun h k at.charged like.charged;
        fram = like.fram ∙ end_fram on b h ready d.start ok ms are spent_moments ∙ ap (λ t. (outside_of t).fram) last;
        readings = like.readings ∙ end_readings on b h ready d.start ok ms are spent_moments ∙ ap (λ t. (outside_of t).inputs.readings) last;
        ready = spent_ready;
      }

  -- one of instructions has made them all, but for the handler's
  pub all_made : d.measure ≡ Instructions → d.amount ≤ n + 16 * acceptances ms
  all_made e =
      let of_instructions : ChargeRun Instructions d.amount start spent = subst (λ y. ChargeRun y d.amount start spent) e one in
      let all = instructions_used d.amount start spent of_instructions refl in
      let brief = reaches.steps in
      omega (arith, all, brief)

  -- each event that is met in it arose in it
  pub events_arise : events_met ms end ≤ end.line.arisen - b.line.arisen
  events_arise =
      let t : BoardValue = last_board start ms in
      let grown = reaches.arise (powered_heard b d.start) in
      let first = power_up_arises b d.start in
      let late = waits_or_accepts t q reaches.end.stands in
      let all : events_met ms t ≤ t.line.arisen - b.line.arisen = omega (arith, grown, first, late) in
      subst (λ (y : BoardValue). events_met ms y ≤ y.line.arisen - b.line.arisen) last all

  -- what the program spends of it
  pub record SpendsItsPart : Type 0 where
    pub own : ℕ
    pub spends : Spends step own n p q
    pub rest : d.amount ≤ own + 48 * events_met ms end

  abbrev behind : BoardValue
  behind = last_board start ms

  cycles : (going step n p).cycles ≡ program_cycles ms
  cycles = ap (λ z. z.cycles) (made on b h ready d.start ok ms are spent_moments)

  -- what it took itself, where the rest is little
  exactly : d.amount ≤ program_cycles ms + 48 * events_met ms end → SpendsItsPart
  exactly little = record {
    own = program_cycles ms;
    spends = record {
      status = status_behind;
      within = omega (arith, cycles);
      spent = none_left (program_cycles ms - (going step n p).cycles) (step q) (omega (arith, cycles));
    };
    rest = little;
  }

  -- the next step is too dear, and so it is to the program, or is the handler's
  module _ (within : program_cycles ms + handler_cycles ms ≤ d.amount) where
    dear_by : (n : NextStep) → IsNextStep behind n → is_accepting behind ≡ is_accepting end → (st : StandsAs behind q)
        → handler_cycles ms + cycles_due st ≤ 48 * acceptances ms → d.amount - (program_cycles ms + handler_cycles ms) < step_cycles n → SpendsItsPart
    dear_by (next_step.Instruction i) next same (AtCode shows) brief less =
        let code = is_code on behind q shows reaches.end.holds (reaches.end.leaves 1) reaches.whole i next.1 in
        let priced : IsPriced (cycles_of i) (step q) = subst (λ (o : MachineOutcome). IsPriced (cycles_of i) o) code.step_is (executed_priced q i) in
        record {
          own = d.amount - handler_cycles ms;
          spends = record {
            status = status_behind;
            within = omega (arith, cycles, within);
            spent = too_dear (d.amount - handler_cycles ms - (going step n p).cycles) (cycles_of i) (step q) priced (omega (arith, cycles, within, less));
          };
          rest = omega (arith, brief);
        }
    dear_by next_step.Acceptance next same (AtCode shows) brief less =
        let met : events_met ms end ≡ acceptances ms + 1 = ap (λ (c : Bool). acceptances ms + (if c then 1 else 0)) (sym same ∙ next) in
        exactly (omega (arith, brief, less, met, within))
    dear_by (next_step.Instruction i) next same (InHandler from at shows interrupted inside) brief less =
        let goes_on = handlers_go_on behind q from at shows interrupted inside in
        let is : i ≡ instruction_at at = same_current board_bus (registers_of behind.cpu) (opened behind) i (instruction_at at) next.1 goes_on.next in
        let cost : cycles_of i ≡ goes_on.done.cycles = ap cycles_of is ∙ sym (told_cycles behind (instruction_at at) goes_on.done goes_on.made) in
        let left = goes_on.cycles in
        exactly (omega (arith, brief, less, cost, left, within))
    dear_by next_step.Acceptance next same (InHandler from at shows interrupted inside) brief less =
        let none = (handlers_go_on behind q from at shows interrupted inside).none in
        let no : true ≡ false = sym next ∙ none in absurd cc

  -- it is spent
  pub is_spent : d.measure ≡ Cycles → SpendsItsPart
  is_spent e =
      let one_of_cycles : ChargeRun Cycles d.amount start spent = subst (λ y. ChargeRun y d.amount start spent) e one in
      let uses = charge_used d.amount start spent one_of_cycles refl in
      let within = uses.within in
      let brief = reaches.cycles in
      let short : handler_cycles ms + cycles_due reaches.end.stands ≤ 48 * acceptances ms = omega (arith, brief) in
      ⊎_elim {C = SpendsItsPart} (λ none. exactly (omega (arith, none, within, short)))
      (λ dear.
      let less = dear.2 in
      dear_by within dear.0 (subst (λ (y : BoardValue). IsNextStep y dear.0) (sym last) dear.1) (ap is_accepting last) reaches.end.stands short less) uses.used
