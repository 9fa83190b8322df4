use Rattle.std.proofs.Common.{◌∙◌, ap, slice_index}
use Rattle.msp_step.specs.Registers.{registers_of}
use Rattle.msp_step.specs.Step.{interrupted}
use Rattle.fram_board.specs.Events.{line_behind_step}
use Rattle.state_text.specs.image_text.ImageValue.{place_of}
use Rattle.state_text.specs.address_space.Limits.{event_vector}
use Rattle.fram_board.specs.Bus.{BusState}
use Rattle.fram_board.proofs.Accepted.{stores_are, refused_is, made_so, refused_board, made_board}
use Rattle.fram_board.proofs.board.Board.accept.Goals as goal

pub returns-in-Err-clause-board : goal.returns-in-Err-clause-board
returns-in-Err-clause-board c =
    let r = registers_of c.self.inside.cpu in
    let places = c.return_places-to in
    let refused = c.in-Err.ensures.refused in
    refused_board c.args.self.now c.self.inside.cpu c.self.inside.devices c.store_two.new.self c.self.inside.receiver c.in-Err.address
    c.self.view_is c.self.invariant c.reg-pc.ensures.valid.long
    (refused_is r c.self.inside.devices places.result.0 places.result.1 c.in-Err.address places.ensures.pc places.ensures.sr refused.1 refused.2)
    refused.0

pub returns-clause-board : goal.returns-clause-board
returns-clause-board c =
    let r = registers_of c.self.inside.cpu in
    let d = c.self.inside.devices in
    let places = c.return_places-to in
    let stored = c.in_default.ensures.stored
    ∙ stores_are r d places.result.0 c.reg-pc.result places.result.1 c.reg-status.result
    places.ensures.pc c.reg-pc.ensures.value places.ensures.sr c.reg-status.ensures.value in
    let vector = c.event_vector.ensures ∙ ap (λ s. slice_index s.fram (place_of event_vector)) stored in
    made_board c.args.self.now c.self.inside.cpu d c.self.inside.receiver c.accept.new.self c.step.new.self c.self.view_is c.self.invariant
    (made_so r d places.result.0 places.result.1 places.ensures.pc places.ensures.sr c.in_default.ensures.ok)
    (record { registers = c.accept.ensures ∙ ap (λ v. interrupted r v) vector; len = c.reg-pc-2.ensures.valid.long })
    (c.step.ensures ∙ ap {A = BusState} (λ s. record s { line = line_behind_step s.line }) stored)
