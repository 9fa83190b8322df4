-- From an acceptance to its return the handler leaves the program's machine as it is.
use Rattle.std.proofs.Common.{◌≡◌, ◌+◌, ◌&&◌, ◌≤◌, if◌then◌else◌, not, nat_le, arith, ℕ, refl, sym, ◌∙◌, ap, ap₂, subst, Bool, true, false, List, [], ◌++◌}
use Rattle.std.proofs.Common.{length}
use Rattle.std.proofs.Common.{Option, Some, None, Result, Ok, Err, drop, leb-true}
use Rattle.std.proofs.lemmas.Bool.{and_parts}
use Rattle.event_places.specs.Places.{handler_place}
use Rattle.msp_isa.specs.declared.instructions.Instr.{Instr}
use Rattle.msp_isa.specs.declared.instructions.Instr.TheVariants as instr
use Rattle.msp_step.specs.declared.machine.Stop.{Stop}
use Rattle.msp_step.specs.declared.machine.Stepped as cpu
use Rattle.msp_step.specs.Registers.{Registers, registers_of}
use Rattle.msp_step.specs.Step.{Outcome, execution, is_interruptible, return_place, status_place}
use Rattle.fram_board.specs.declared.board.NextStep.{NextStep}
use Rattle.fram_board.specs.declared.board.NextStep.TheVariants as next_step
use Rattle.fram_board.specs.declared.board.Stepped.{Stepped}
use Rattle.fram_board.specs.Bus.{BusState, board_bus, is_word}
use Rattle.fram_board.specs.Effects.{Effect, store_at, stores_of, sends_of, takes_of, effects_of}
use Rattle.fram_board.specs.Events.{is_full, words_in, words_heard}
use Rattle.fram_board.specs.Board.{BoardValue, opened, answer_of, executed, acceptance_on, acceptance, performed, accepted_word, receiver_after}
use Rattle.fram_board.specs.Board.{at_boundary, is_accepting}
use Rattle.fram_board.specs.Run.{kind_of, moment_of, word_list}
use Rattle.fram_board.proofs.Interface.{counted, acceptance_line, told_heard}
use Rattle.machine_effects.specs.World.{EachStore}
use Rattle.machine_effects.proofs.Interface.{each_store-front, each_store-back}
use Rattle.machine_effects.specs.Machine.{MachineBoard, fram_of}
use Rattle.machine_effects.specs.View.{IsWhole, IsOfWords}
use Rattle.event_handler.specs.Handler.{Stage, SaveR4, SaveR5, TakeEvent, LoadHead, SubtractTail, CompareRoom, LeaveIfFull, LoadHeadAgain, CutToSlots}
use Rattle.event_handler.specs.Handler.{DoubleIndex, StoreWord, RaiseHead, RestoreR5, RestoreR4, Return, instruction_at, place_at}
use Rattle.event_handler.specs.Boundaries.{IsInterrupted, IsInHandler, HasReturned, IsBehind, IsOutsideAs, KeepsTheRest, next_stage, effects_at, cycles_left}
use Rattle.event_handler.specs.Boundaries.{instructions_left, left_behind, stack_of, heard_at, is_ring_full}
use Rattle.event_handler.proofs.Interface.{handler_begins, handler_goes_on, handler_keeps_the_rest, handler_takes_its_cycles}
use Rattle.program_view.specs.View.{steady, outside_of, is_handlers_step}
use Rattle.program_view.specs.Stands.{shown_from, Shows, StandsAs, AtCode, InHandler, cycles_due, steps_due, stage_of, stage_behind}
use Rattle.program_view.specs.Stands.{waiting_at, waiting, IsServed}
use Rattle.program_view.specs.Laws.{Begins, AcceptancesBegin, GoesOn, HandlersGoOn}
use Rattle.program_view.proofs.Steady.{same_steady}

-- where an instruction stands says whose it is
pub kind_is : (i : Instr) (b : BoardValue) → is_handlers_step (kind_of (next_step.Instruction i)) b ≡ nat_le handler_place (registers_of b.cpu 0)
kind_is (instr.Two op w x d) b = refl
kind_is (instr.One o) b = refl
kind_is (instr.Jump c o) b = refl
kind_is instr.Reti b = refl

place_high : (at : Stage) → nat_le handler_place (place_at at) ≡ true
place_high SaveR4 = refl
place_high SaveR5 = refl
place_high TakeEvent = refl
place_high LoadHead = refl
place_high SubtractTail = refl
place_high CompareRoom = refl
place_high LeaveIfFull = refl
place_high LoadHeadAgain = refl
place_high CutToSlots = refl
place_high DoubleIndex = refl
place_high StoreWord = refl
place_high RaiseHead = refl
place_high RestoreR5 = refl
place_high RestoreR4 = refl
place_high Return = refl

-- a step behind which the receiver is as before made it accept nothing
no_words : (o : Option ℕ) → length (word_list o) ≡ 0 → word_list o ≡ []
no_words None e = refl
no_words (Some w) e = absurd (omega (arith, e))

told_none : (b : BoardValue) (s : BusState) (a : Result cpu.Stepped Stop) (done : Stepped) → answer_of b s a ≡ Ok done
    → receiver_after s.outnum s.offered b.receiver ≡ b.receiver → word_list done.accepted ≡ []
told_none b s (Ok d) done e same =
    let is : done.accepted ≡ accepted_word s.outnum s.offered b.receiver = cc in
    let count = counted s.outnum s.offered b.receiver in
    let kept : (receiver_after s.outnum s.offered b.receiver).accepted ≡ b.receiver.accepted = ap (λ r. r.accepted) same in
    no_words done.accepted (ap (λ o. length (word_list o)) is ∙ omega (arith, count, kept))
told_none b s (Err x) done e same = absurd cc

accepts_none : (b : BoardValue) (n : NextStep) (done : Stepped) → (performed b n).answer ≡ Ok done → (performed b n).board.receiver ≡ b.receiver
    → word_list done.accepted ≡ []
accepts_none b next_step.Acceptance done e same =
    let o = acceptance_on (registers_of b.cpu) (opened b) in told_none b o.bus o.answer done e same
accepts_none b (next_step.Instruction i) done e same =
    let o = execution board_bus i (registers_of b.cpu) (opened b) in told_none b o.bus o.answer done e same

-- the rest is kept from one board in the handler to another
keeps_both : (from b c : BoardValue) → KeepsTheRest from b → KeepsTheRest from c → KeepsTheRest b c
keeps_both from b c h k = record {
  readings = k.readings ∙ sym h.readings;
  taken = k.taken ∙ sym h.taken;
  outnum = k.outnum ∙ sym h.outnum;
  receiver = k.receiver ∙ sym h.receiver;
}

-- FRAM off the ring is as at the acceptance
outside_steady : (from b : BoardValue) → IsOutsideAs from b → steady (fram_of b.fram) ≡ steady (fram_of from.fram)
outside_steady from b h = same_steady (fram_of b.fram) (fram_of from.fram) h.fram

-- an acceptance tells no store
abbrev WritesNone : Result cpu.Stepped Stop → Type 0
WritesNone (Ok d) = d.wrote ≡ None
WritesNone (Err e) = Unit {0}

none_written : (b : BoardValue) (s : BusState) (a : Result cpu.Stepped Stop) (done : Stepped) → answer_of b s a ≡ Ok done → WritesNone a → done.wrote ≡ None
none_written b s (Ok d) done e none = let is : done.wrote ≡ d.wrote = cc in is ∙ none
none_written b s (Err x) done e none = absurd cc

either_writes_none : (p : Bool) (x y : Outcome BusState) → WritesNone x.answer → WritesNone y.answer → WritesNone (if p then x else y).answer
either_writes_none true x y h k = h
either_writes_none false x y h k = k

acceptance_writes_none : (r : Registers) (s : BusState) → WritesNone (acceptance_on r s).answer
acceptance_writes_none r s =
    either_writes_none (not (is_word (return_place r))) _ _ tt (either_writes_none (not (is_word (status_place r))) _ _ tt refl)

acceptance_stores_none : (b : BoardValue) (done : Stepped) → (acceptance b).answer ≡ Ok done → (fram : List ℕ) → store_at done.wrote fram ≡ []
acceptance_stores_none b done e fram =
    let o = acceptance_on (registers_of b.cpu) (opened b) in
    ap (λ w. store_at w fram) (none_written b o.bus o.answer done e (acceptance_writes_none (registers_of b.cpu) (opened b)))

-- an instruction of the handler stores from the handler on
stage_stores : (from : BoardValue) (at : Stage) → EachStore (λ a w. handler_place ≤ a) (effects_at from at)
stage_stores from SaveR4 = tt
stage_stores from SaveR5 = tt
stage_stores from TakeEvent = tt
stage_stores from LoadHead = tt
stage_stores from SubtractTail = tt
stage_stores from CompareRoom = tt
stage_stores from LeaveIfFull = tt
stage_stores from LoadHeadAgain = tt
stage_stores from CutToSlots = tt
stage_stores from DoubleIndex = tt
stage_stores from StoreWord = (omega arith, tt)
stage_stores from RaiseHead = (omega arith, tt)
stage_stores from RestoreR5 = tt
stage_stores from RestoreR4 = tt
stage_stores from Return = tt

-- those are all that its moment tells
told_stores : (P : ℕ → ℕ → Type 0) (b : BoardValue) (i : Instr) (done : Stepped) → (executed b i).answer ≡ Ok done
    → EachStore P (effects_of b (executed b i)) → EachStore P (store_at done.wrote (executed b i).board.fram)
told_stores P b i done answer each =
    let x = executed b i in
    let told = each_store-front P (stores_of x.answer x.board) (sends_of b.outnum x.offered)
    (each_store-back P (takes_of b x) (stores_of x.answer x.board ++ sends_of b.outnum x.offered) each) in
    subst (λ a. EachStore P (stores_of a x.board)) answer told

-- the third instruction takes the event, and no other
either_waits : (full : Bool) → waiting_at (if full then RestoreR5 else LoadHeadAgain) ≡ 0
either_waits true = refl
either_waits false = refl

waits_there : (from : BoardValue) (at : Stage) → is_full from.line.port ≡ true
    → words_heard (heard_at from at) + left_behind waiting_at (next_stage from at) ≡ waiting_at at
waits_there from SaveR4 full = refl
waits_there from SaveR5 full = refl
waits_there from TakeEvent full = one_waits from.line.port full
  where
    one_waits : (port : Option ℕ) → is_full port ≡ true → words_in port + 0 ≡ 1
    one_waits (Some w) e = refl
    one_waits None e = absurd cc
waits_there from LoadHead full = refl
waits_there from SubtractTail full = refl
waits_there from CompareRoom full = refl
waits_there from LeaveIfFull full = let none = either_waits (is_ring_full from) in omega (arith, none)
waits_there from LoadHeadAgain full = refl
waits_there from CutToSlots full = refl
waits_there from DoubleIndex full = refl
waits_there from StoreWord full = refl
waits_there from RaiseHead full = refl
waits_there from RestoreR5 full = refl
waits_there from RestoreR4 full = refl
waits_there from Return full = refl

waits_by : (from : BoardValue) (at : Stage) → IsInterrupted from → (done : Stepped) → done.heard ≡ heard_at from at → {b : BoardValue} {u : MachineBoard}
    (stands : StandsAs b u) → waiting stands ≡ left_behind waiting_at (next_stage from at) → words_heard done.heard + waiting stands ≡ waiting_at at
waits_by from at interrupted done e stands w =
    let full = (and_parts (is_full from.line.port) (is_interruptible (registers_of from.cpu)) interrupted.accepting).0 in
    let told = ap words_heard e in
    let there = waits_there from at full in
    omega (arith, told, there, w)

module _ (from : BoardValue) (u : MachineBoard) (shows : Shows from u) (interrupted : IsInterrupted from) where
  -- the CPU accepts interrupts
  open_there : is_interruptible u.registers ≡ true
  open_there = ap is_interruptible shows.registers
      ∙ (and_parts (is_full from.line.port) (is_interruptible (registers_of from.cpu)) interrupted.accepting).1

  from_sp : shown_from u ≡ stack_of from
  from_sp = ap (λ (d : Bool). if d then u.registers 1 else 0) open_there ∙ ap (λ r. r 1) shows.registers

  -- behind the return the board shows the machine
  shows_again : (b : BoardValue) → HasReturned from b → Shows b u
  shows_again b h =
      let kept = (handler_keeps_the_rest from interrupted).returned b h in
      record {
        registers = shows.registers ∙ ap registers_of (sym h.registers);
        fram = shows.fram ∙ sym (outside_steady from b kept);
        ram = λ a w l even e. kept.ram a (subst (λ (n : ℕ). n ≤ a) from_sp l) ∙ shows.ram a w l even e;
        readings = shows.readings ∙ ap₂ (λ n l. drop n l) (sym kept.rest.taken) (sym kept.rest.readings);
        outnum = shows.outnum ∙ sym kept.rest.outnum;
      }

  -- behind a step of the handler it stands as the machine on
  record Stands (o : Option Stage) (b : BoardValue) : Type 0 where
    stands : StandsAs b u
    cycles : cycles_due stands ≡ left_behind cycles_left o
    steps : steps_due stands ≡ left_behind instructions_left o
    waits : waiting stands ≡ left_behind waiting_at o
    stage : stage_of stands ≡ stage_behind from o
    outside : IsOutsideAs from b

  stands_behind : (o : Option Stage) (b : BoardValue) → IsBehind from o b → Stands o b
  stands_behind None b h =
      record {
        stands = AtCode (shows_again b h);
        cycles = refl;
        steps = refl;
        waits = refl;
        stage = refl;
        outside = (handler_keeps_the_rest from interrupted).returned b h;
      }
  stands_behind (Some at) b h = record {
    stands = InHandler from at shows interrupted h;
    cycles = refl;
    steps = refl;
    waits = refl;
    stage = refl;
    outside = (handler_keeps_the_rest from interrupted).within at b h;
  }

  whole_behind : (o : Option Stage) (b : BoardValue) → IsBehind from o b → IsWhole b × IsOfWords b
  whole_behind None b h = (h.whole, h.words)
  whole_behind (Some at) b h = (h.whole, h.words)

  -- a step between two boards that are outside as that one
  served : (b : BoardValue) (n : NextStep) (done : Stepped) → (performed b n).answer ≡ Ok done → is_handlers_step (kind_of n) b ≡ true
      → EachStore (λ a w. handler_place ≤ a) (store_at done.wrote (performed b n).board.fram)
      → IsOutsideAs from b → (o : Option Stage) → IsBehind from o (at_boundary (performed b n).board) → IsServed b (moment_of b n done)
  served b n done made handlers stores before o behind =
      let after = at_boundary (performed b n).board in
      let next = stands_behind o after behind in
      let whole = whole_behind o after behind in
      let rest = keeps_both from b after before.rest next.outside.rest in
      record {
        handlers = handlers;
        accepts_none = accepts_none b n done made rest.receiver;
        stores = stores;
        whole = whole.0;
        words = whole.1;
        fram = outside_steady from after next.outside ∙ sym (outside_steady from b before);
        rest = rest;
      }

  begins : Begins from u
  begins =
      let first = handler_begins from interrupted in
      let same : IsOutsideAs from from =
      record { fram = λ a off. refl; ram = λ a l. refl; rest = record { readings = refl; taken = refl; outnum = refl; receiver = refl } } in
      let P : List Effect → Type 0 = λ es. EachStore (λ a w. handler_place ≤ a) es in
      let none = subst P (sym (acceptance_stores_none from first.done first.made (acceptance from).board.fram)) tt in
      record {
        done = first.done;
        made = first.made;
        cycles = first.cycles;
        served = served from next_step.Acceptance first.done first.made refl none same (Some SaveR4) first.behind;
        stands = InHandler from SaveR4 shows interrupted first.behind;
        due = refl;
        steps = refl;
        waits = refl;
        interrupted = interrupted;
        stage = refl;
        silent = λ none. told_heard from next_step.Acceptance first.done first.made ∙ ap (λ q. q.heard) (acceptance_line from) ∙ none;
        inside = first.behind;
      }

  goes_on : (b : BoardValue) (at : Stage) → IsInHandler from at b → GoesOn b u from at
  goes_on b at inside =
      let step = handler_goes_on from b at interrupted inside in
      let i : Instr = instruction_at at in
      let behind = stands_behind (next_stage from at) (at_boundary (executed b i).board) step.behind in
      let left = handler_takes_its_cycles from at in
      let here = (handler_keeps_the_rest from interrupted).within at b inside in
      let cost = step.cycles in
      let c = left.cycles in
      let d = behind.cycles in
      let n = left.instructions in
      let m = behind.steps in
      let P : List Effect → Type 0 = λ es. EachStore (λ a w. handler_place ≤ a) es in
      record {
        none = step.none;
        next = step.next;
        done = step.done;
        made = step.made;
        served = served b (next_step.Instruction i) step.done step.made
            (kind_is i b ∙ ap (λ (p : ℕ). nat_le handler_place p) inside.pc ∙ place_high at)
            (told_stores (λ a w. handler_place ≤ a) b i step.done step.made (subst P (sym step.effects) (stage_stores from at))) here (next_stage from at)
            step.behind;
        stands = behind.stands;
        interrupted = interrupted;
        inside = inside;
        heard = step.heard;
        behind = step.behind;
        stage = behind.stage;
        silent = inside.heard;
        waits = waits_by from at interrupted step.done step.heard behind.stands behind.waits;
        cycles = omega (arith, cost, c, d);
        steps = omega (arith, n, m);
      }

pub acceptances_begin : AcceptancesBegin
acceptances_begin b u shows interrupted = begins b u shows interrupted

pub handlers_go_on : HandlersGoOn
handlers_go_on b u from at shows interrupted inside = goes_on from u shows interrupted b at inside

-- a board has its machine's FRAM, and the readings that are left
pub stands_fram : (b : BoardValue) (u : MachineBoard) → StandsAs b u → u.fram ≡ (outside_of b).fram
stands_fram b u (AtCode shows) = shows.fram
stands_fram b u (InHandler from at shows interrupted inside) =
    shows.fram ∙ sym (outside_steady from b ((handler_keeps_the_rest from interrupted).within at b inside))

pub stands_readings : (b : BoardValue) (u : MachineBoard) → StandsAs b u → u.inputs.readings ≡ (outside_of b).inputs.readings
stands_readings b u (AtCode shows) = shows.readings
stands_readings b u (InHandler from at shows interrupted inside) =
    shows.readings ∙ ap₂ (λ n l. drop n l) (sym inside.rest.taken) (sym inside.rest.readings)

-- in the handler PC stands from there on
pub handler_is_high : (from : BoardValue) (at : Stage) (b : BoardValue) → IsInHandler from at b → handler_place ≤ registers_of b.cpu 0
handler_is_high from at b inside =
    let l = leb-true handler_place (place_at at) (place_high at) in
    let e = inside.pc in
    omega (arith, l, e)

full_word : (p q : Option ℕ) → is_full p ≡ true → q ≡ p → 1 ≤ words_in q
full_word (Some w) q e same = subst (λ (o : Option ℕ). 1 ≤ words_in o) (sym same) (omega arith)
full_word None q e same = absurd cc

accepting_word : (full interruptible : Bool) (port : Option ℕ) → is_full port ≡ full → 0 + (if full && interruptible then 1 else 0) ≤ words_in port
accepting_word true true (Some w) e = omega arith
accepting_word true true None e = absurd cc
accepting_word true false port e = omega arith
accepting_word false i port e = omega arith

-- an event that waits in EVENT yet is a word there
waits_at : (from : BoardValue) (at : Stage) (b : BoardValue) → is_full from.line.port ≡ true → IsInHandler from at b → waiting_at at ≤ words_in b.line.port
waits_at from SaveR4 b full inside = full_word from.line.port b.line.port full inside.knows
waits_at from SaveR5 b full inside = full_word from.line.port b.line.port full inside.knows
waits_at from TakeEvent b full inside = full_word from.line.port b.line.port full inside.knows
waits_at from LoadHead b full inside = omega arith
waits_at from SubtractTail b full inside = omega arith
waits_at from CompareRoom b full inside = omega arith
waits_at from LeaveIfFull b full inside = omega arith
waits_at from LoadHeadAgain b full inside = omega arith
waits_at from CutToSlots b full inside = omega arith
waits_at from DoubleIndex b full inside = omega arith
waits_at from StoreWord b full inside = omega arith
waits_at from RaiseHead b full inside = omega arith
waits_at from RestoreR5 b full inside = omega arith
waits_at from RestoreR4 b full inside = omega arith
waits_at from Return b full inside = omega arith

-- and where an acceptance is due the handler doesn't run
pub waits_or_accepts : (b : BoardValue) (u : MachineBoard) (stands : StandsAs b u)
    → waiting stands + (if is_accepting b then 1 else 0) ≤ words_in b.line.port
waits_or_accepts b u (AtCode shows) = accepting_word (is_full b.line.port) (is_interruptible (registers_of b.cpu)) b.line.port refl
waits_or_accepts b u (InHandler from at shows interrupted inside) =
    let none = (goes_on from u shows interrupted b at inside).none in
    let full = (and_parts (is_full from.line.port) (is_interruptible (registers_of from.cpu)) interrupted.accepting).0 in
    let here = waits_at from at b full inside in
    let late : ◌≡◌ {A = ℕ} (if is_accepting b then 1 else 0) 0 = ap (λ (c : Bool). if c then 1 else 0) none in
    omega (arith, late, here)
