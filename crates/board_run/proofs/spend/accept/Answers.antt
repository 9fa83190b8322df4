use Rattle.std.proofs.Common.{arith, refl, sym, ap, ap₂, ◌∙◌, Some}
use Rattle.msp_step.specs.Registers.{registers_of}
use Rattle.msp_step.specs.Step.{return_place, status_place}
use Rattle.fram_board.specs.declared.board.NextStep.TheVariants.{Acceptance}
use Rattle.fram_board.specs.Board.{BoardValue, acceptance, board_behind}
use Rattle.fram_board.specs.Run.{moment_of}
use Rattle.board_run.specs.Charges.{measure_of}
use Rattle.board_run.specs.State.{known_so}
use Rattle.board_run.specs.Tally.{counted}
use Rattle.board_run.proofs.Written.{follows_but, Twice}
use Rattle.board_run.proofs.Tallies.{step_ends_are, tallied_by}
use Rattle.board_run.specs.Parts.{IsMade}
use Rattle.board_run.proofs.Turns.{too_dear, refused, turned, turned_partly, IsNoted}
use Rattle.board_run.proofs.spend.accept.Goals as goal

pub returns-then-left-price-clause-turn : goal.returns-then-left-price-clause-turn
returns-then-left-price-clause-turn g c = too_dear (measure_of c.args.kind) c.args.left c.args.board.now Acceptance _ _ c.requires.some c.requires.next
    (omega (arith, c.if-left-price.true, c.acceptance_price-price.ensures))

pub returns-in-Err-clause-turn : goal.returns-in-Err-clause-turn
returns-in-Err-clause-turn g c =
    refused (measure_of c.args.kind) c.args.left c.args.board.now c.perform.new.self Acceptance c.in-Err.stop _ _
    c.requires.some c.requires.next
    (omega (arith, c.if-left-price.false, c.acceptance_price-price.ensures)) (sym c.perform.ensures.answer ∙ c.in-Err.is)
    (c.perform.ensures.board ∙ ap (λ r. board_behind r (acceptance c.args.board.now).board) c.in-Err.is) c.in-Err.ensures.stopped

pub returns-in_err-note-clause-turn : goal.returns-in_err-note-clause-turn
returns-in_err-note-clause-turn g c =
    let b = c.args.board.now in
    let made : IsMade (measure_of c.args.kind) c.args.left b c.perform.new.self Acceptance c.in-Ok.done = record {
      some = c.requires.some;
      next = c.requires.next;
      paid = omega (arith, c.if-left-price.false, c.acceptance_price-price.ensures);
      answer = sym c.perform.ensures.answer ∙ c.in-Ok.is;
      board = c.perform.ensures.board ∙ ap (λ r. board_behind r (acceptance b).board) c.in-Ok.is;
    } in
    turned_partly (known_so c.args.watch.now) (known_so c.note.new.self) (measure_of c.args.kind) c.args.left b c.perform.new.self
    Acceptance c.in-Ok.done _ _ c.from_residual.result made c.in_err-note.ensures.bytes.part c.from_residual.ensures.0

pub returns-clause-turn : goal.returns-clause-turn
returns-clause-turn g c =
    let b = c.args.board.now in
    let watch = c.args.watch.now in
    let after = c.perform.new.self in
    let made : IsMade (measure_of c.args.kind) c.args.left b after Acceptance c.in-Ok.done = record {
      some = c.requires.some;
      next = c.requires.next;
      paid = omega (arith, c.if-left-price.false, c.acceptance_price-price.ensures);
      answer = sym c.perform.ensures.answer ∙ c.in-Ok.is;
      board = c.perform.ensures.board ∙ ap (λ r. board_behind r (acceptance b).board) c.in-Ok.is;
    } in
    let noted : IsNoted (known_so watch) (known_so c.note.new.self) b after Acceptance c.in-Ok.done = record {
      history = c.in_ok-note.ensures.history;
      tally = tallied_by _ (moment_of b Acceptance c.in-Ok.done) _ (counted watch.tally) _
          (step_ends_are _ watch.head.place watch.head.word b Acceptance c.in-Ok.done
          after.fram _ c.requires.follows.head refl (ap (λ (x : BoardValue). x.fram) made.board)) c.note.ensures.tally;
      words = c.note.ensures.few;
    } in
    turned (known_so watch) (known_so c.note.new.self) (measure_of c.args.kind) c.args.left _ b after Acceptance c.in-Ok.done _ _
    made (omega (arith, c.acceptance_price-price.ensures)) c.in_ok-note.ensures.bytes.whole noted

pub note-requires-clause-follows : goal.note-requires-clause-follows
note-requires-clause-follows g c =
    let b = c.args.board.now in
    let r = registers_of b.cpu in
    let made = c.perform.ensures.board ∙ ap (λ r. board_behind r (acceptance b).board) c.in-Ok.is in
    let stores = c.acceptance_makes_its_stores.ensures b c.in-Ok.done (sym c.perform.ensures.answer ∙ c.in-Ok.is) in
    let cpu = c.cpu.ensures in
    let to = c.return_places-to.ensures.pc ∙ ap (λ x. return_place (registers_of x)) cpu in
    let below = c.return_places-to.ensures.sr ∙ ap (λ x. status_place (registers_of x)) cpu in
    follows_but c.args.watch.now b _ c.perform.new.self.fram
    (Twice (ap₂ (λ x y. (Some x, Some y)) to below) (ap (λ (x : BoardValue). x.fram) made ∙ stores.fram)) c.requires.follows
