use Rattle.std.proofs.Common.{sym, ◌∙◌, ap, subst}
use Rattle.fram_board.specs.Board.{BoardValue, powered, filled}
use Rattle.board_run.specs.Charges.{charge_of, measure_of}
use Rattle.board_run.specs.Events.{PowersUp}
use Rattle.board_run.specs.History.{behind_power_up}
use Rattle.board_run.specs.Tally.{tallied}
use Rattle.board_run.specs.Parts.{Known}
use Rattle.board_run.specs.State.{Follows}
use Rattle.board_run.specs.Stepwise.{state_of, known_of}
use Rattle.board_run.proofs.StepByStep.{room_powered, state_so}
use Rattle.board_run.proofs.stepwise.StepwiseRun.renew.Goals as goal

pub returns-clause-up : goal.returns-clause-up
returns-clause-up c is =
    let mid = c.take_charge.new.self in
    let taken = c.take_charge.ensures.taken c.if-not-take_charge.false in
    let board = c.power_up.ensures in
    let start = filled mid.charge.fill in
    record {
      charge = charge_of mid.charge;
      others = (state_of mid).charges;
      next = taken.next;
      state = state_so (state_of mid).charges (measure_of mid.charge.kind) mid.charge.n (board ∙ ap (λ b. powered b start) taken.board) taken.has_ended;
      history = c.note_power_up.ensures.history
          ∙ ap (λ (k : Known). behind_power_up k.history.map k.history c.power_up.new.self) taken.known;
      tally = c.note_power_up.ensures.tally ∙ ap (λ (k : Known). tallied PowersUp k.tally) taken.known;
      kept = record {
        going = record {
          next = taken.kept.going.next;
          follows = c.note_power_up.ensures.follows _
              (subst (Follows mid.watch.now) (sym (ap (λ (b : BoardValue). b.fram) board)) taken.kept.going.follows);
          repeats = taken.kept.going.repeats;
        };
        room = λ n h. room_powered mid _ start n board c.note_power_up.ensures.tally (taken.kept.room n h);
      };
    }
