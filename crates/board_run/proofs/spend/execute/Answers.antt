use Rattle.std.proofs.Common.{arith, refl, sym, ap, ◌∙◌, None}
use Rattle.fram_board.specs.declared.board.NextStep.TheVariants.{Instruction}
use Rattle.fram_board.specs.Board.{BoardValue, executed, board_behind}
use Rattle.fram_board.specs.Run.{moment_of}
use Rattle.board_run.specs.Charges.{measure_of}
use Rattle.board_run.specs.State.{known_so}
use Rattle.board_run.specs.Tally.{counted}
use Rattle.board_run.proofs.Written.{follows_but, Once}
use Rattle.board_run.proofs.Tallies.{step_ends_are, tallied_by}
use Rattle.board_run.specs.Parts.{IsMade}
use Rattle.board_run.proofs.Turns.{too_dear, refused, turned, turned_partly, IsNoted}
use Rattle.board_run.proofs.spend.execute.Goals as goal

pub returns-then-price-left-clause-turn : goal.returns-then-price-left-clause-turn
returns-then-price-left-clause-turn g c = too_dear (measure_of c.args.kind) c.args.left c.args.board.now (Instruction c.args.instruction.now) _ _
    c.requires.some
    c.requires.next
    (omega (arith, c.if-price-left.true, c.price-price.ensures))

pub returns-in-Err-clause-turn : goal.returns-in-Err-clause-turn
returns-in-Err-clause-turn g c =
    let x = executed c.args.board.now c.args.instruction.now in
    refused (measure_of c.args.kind) c.args.left c.args.board.now c.execute.new.self (Instruction c.args.instruction.now) c.in-Err.stop _ _
    c.requires.some c.requires.next
    (omega (arith, c.if-price-left.false, c.price-price.ensures)) (sym c.execute.ensures.answer ∙ c.in-Err.is)
    (c.execute.ensures.board ∙ ap (λ r. board_behind r x.board) c.in-Err.is) c.in-Err.ensures.stopped

pub returns-in_err-note-clause-turn : goal.returns-in_err-note-clause-turn
returns-in_err-note-clause-turn g c =
    let b = c.args.board.now in
    let i = c.args.instruction.now in
    let made : IsMade (measure_of c.args.kind) c.args.left b c.execute.new.self (Instruction i) c.in-Ok.done = record {
      some = c.requires.some;
      next = c.requires.next;
      paid = omega (arith, c.if-price-left.false, c.price-price.ensures);
      answer = sym c.execute.ensures.answer ∙ c.in-Ok.is;
      board = c.execute.ensures.board ∙ ap (λ r. board_behind r (executed b i).board) c.in-Ok.is;
    } in
    turned_partly (known_so c.args.watch.now) (known_so c.note.new.self) (measure_of c.args.kind) c.args.left b c.execute.new.self
    (Instruction i) c.in-Ok.done _ _ c.from_residual.result made c.in_err-note.ensures.bytes.part c.from_residual.ensures.0

pub returns-clause-turn : goal.returns-clause-turn
returns-clause-turn g c =
    let b = c.args.board.now in
    let i = c.args.instruction.now in
    let watch = c.args.watch.now in
    let after = c.execute.new.self in
    let made : IsMade (measure_of c.args.kind) c.args.left b after (Instruction i) c.in-Ok.done = record {
      some = c.requires.some;
      next = c.requires.next;
      paid = omega (arith, c.if-price-left.false, c.price-price.ensures);
      answer = sym c.execute.ensures.answer ∙ c.in-Ok.is;
      board = c.execute.ensures.board ∙ ap (λ r. board_behind r (executed b i).board) c.in-Ok.is;
    } in
    let noted : IsNoted (known_so watch) (known_so c.note.new.self) b after (Instruction i) c.in-Ok.done = record {
      history = c.in_ok-note.ensures.history;
      tally = tallied_by _ (moment_of b (Instruction i) c.in-Ok.done) _ (counted watch.tally) _
          (step_ends_are _ watch.head.place watch.head.word b (Instruction i) c.in-Ok.done
          after.fram c.is_return.result c.requires.follows.head c.is_return.ensures (ap (λ (x : BoardValue). x.fram) made.board)) c.note.ensures.tally;
      words = c.note.ensures.few;
    } in
    turned (known_so watch) (known_so c.note.new.self) (measure_of c.args.kind) c.args.left _ b after (Instruction i) c.in-Ok.done _ _
    made (omega (arith, c.price-price.ensures)) c.in_ok-note.ensures.bytes.whole noted

pub note-requires-clause-follows : goal.note-requires-clause-follows
note-requires-clause-follows g c =
    let b = c.args.board.now in
    let i = c.args.instruction.now in
    let made = c.execute.ensures.board ∙ ap (λ r. board_behind r (executed b i).board) c.in-Ok.is in
    follows_but c.args.watch.now b (c.in-Ok.done.wrote, None) c.execute.new.self.fram
    (Once i c.in-Ok.done c.taken-taken.ensures.valid c.requires.next.1 (sym c.execute.ensures.answer ∙ c.in-Ok.is) refl (ap (λ (x : BoardValue). x.fram) made))
    c.requires.follows
