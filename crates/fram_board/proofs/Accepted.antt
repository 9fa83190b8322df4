-- An acceptance in the code's own terms.
use Rattle.std.proofs.Common.{◌≡◌, ℕ, refl, sym, ◌∙◌, ap, length, slice_index, List, None, false, IsTrue, ◌⊎◌, inl, inr}
use Rattle.msp_step.specs.Registers.{Registers, registers_of}
use Rattle.msp_step.specs.Step.{return_place, status_place, interrupted}
use Rattle.state_text.specs.image_text.ImageValue.{place_of}
use Rattle.fram_board.specs.declared.receiver.Receiver.{Receiver}
use Rattle.fram_board.specs.Bus.{BusState, with_word, is_word}
use Rattle.state_text.specs.address_space.Limits.{event_vector}
use Rattle.fram_board.specs.Events.{line_behind_step}
use Rattle.fram_board.specs.Board.{BoardValue, board_outcome, register_list, receiver_after, at_boundary}
use Rattle.fram_board.specs.Board.{acceptance, acceptance_on, acceptance_refused, acceptance_made}
use Rattle.fram_board.proofs.Steps.{board_of, IsSilent, opened_is, register_list-registers_of}
use Rattle.fram_board.proofs.Acceptances.{both_stored, both_kept, made_is, first_refused, second_refused}

-- the stores as the code makes them
pub stores_are : (r : Registers) (d : BusState) (to pc below status : ℕ) → to ≡ return_place r → pc ≡ r 0 → below ≡ status_place r → status ≡ r 2
    → with_word (with_word d to pc) below status ≡ both_stored r d
stores_are r d to pc below status at_to is_pc at_below is_status =
    ap (λ a. with_word (with_word d a pc) below status) at_to
    ∙ ap (λ w. with_word (with_word d (return_place r) w) below status) is_pc
    ∙ ap (λ a. with_word (with_word d (return_place r) (r 0)) a status) at_below
    ∙ ap (λ w. with_word (with_word d (return_place r) (r 0)) (status_place r) w) is_status

accepting_is : (b : BoardValue) (cpu : List ℕ) (d : BusState) (r : Receiver) → board_of cpu d r ≡ b → IsSilent d
    → board_outcome (board_of cpu d r) (acceptance_on (registers_of cpu) d) ≡ acceptance b
accepting_is b cpu d r is off =
    ap (λ s. board_outcome (board_of cpu d r) (acceptance_on (registers_of cpu) s)) (sym (opened_is (board_of cpu d r) d cpu r refl off))
    ∙ ap acceptance is

-- an acceptance is refused at the first of its places that is no word of memory
pub refused_is : (r : Registers) (d : BusState) (to below a : ℕ) → to ≡ return_place r → below ≡ status_place r → is_word a ≡ false
    → ((a ≡ to) ⊎ ((a ≡ below) × IsTrue (is_word to))) → acceptance_on r d ≡ acceptance_refused r d a
refused_is r d to below a at_to at_below none (inl first) =
    let is = sym (first ∙ at_to) in
    first_refused r d (ap is_word is ∙ none) ∙ ap (λ x. acceptance_refused r d x) is
refused_is r d to below a at_to at_below none (inr second) =
    let is = sym (second.0 ∙ at_below) in
    let served = ap is_word (sym at_to) ∙ second.1 in
    second_refused r d served (ap is_word is ∙ none) ∙ ap (λ x. acceptance_refused r d x) is

-- where both places are served it is made
pub made_so : (r : Registers) (d : BusState) (to below : ℕ) → to ≡ return_place r → below ≡ status_place r
    → IsTrue (is_word to) × IsTrue (is_word below) → acceptance_on r d ≡ acceptance_made r (both_stored r d)
made_so r d to below at_to at_below served =
    made_is r d (ap is_word (sym at_to) ∙ served.0) (ap is_word (sym at_below) ∙ served.1)

-- the board behind an acceptance that is refused
pub refused_board : (b : BoardValue) (cpu : List ℕ) (d d' : BusState) (r : Receiver) (a : ℕ) → board_of cpu d r ≡ b → IsSilent d → length cpu ≡ 16
    → acceptance_on (registers_of cpu) d ≡ acceptance_refused (registers_of cpu) d a → d' ≡ d → board_of cpu d' r ≡ (acceptance b).board
refused_board b cpu d d' r a is off len refused same =
    ap (λ s. board_of cpu s r) same
    ∙ ap (λ c. board_of c d r) (sym (register_list-registers_of cpu len))
    ∙ ap (λ o. board_of (register_list (registers_of cpu)) d (receiver_after d.outnum o r)) (sym off.0)
    ∙ ap (λ o. (board_outcome (board_of cpu d r) o).board) (sym refused)
    ∙ ap (λ x. x.board) (accepting_is b cpu d r is off)

-- the registers as an acceptance leaves them
pub record IsInterrupted (cpu : List ℕ) (d : BusState) (cpu' : List ℕ) : Type 0 where
  pub registers : registers_of cpu' ≡ interrupted (registers_of cpu) (slice_index d.fram (place_of event_vector))
  pub len : length cpu' ≡ 16

nothing_offered : (r : Registers) (d : BusState) → d.offered ≡ None → (both_stored r d).offered ≡ None
nothing_offered r d off = ap (λ s. s.offered) (both_kept r d).same ∙ off

registers_are : (cpu : List ℕ) (s : BusState) (cpu' : List ℕ) → IsInterrupted cpu s cpu'
    → cpu' ≡ register_list (interrupted (registers_of cpu) (slice_index s.fram (place_of event_vector)))
registers_are cpu s cpu' is = sym (register_list-registers_of cpu' is.len) ∙ ap register_list is.registers

-- the board behind an acceptance that is made
pub made_board : (b : BoardValue) (cpu : List ℕ) (d : BusState) (r : Receiver) (cpu' : List ℕ) (d' : BusState) → board_of cpu d r ≡ b → IsSilent d
    → acceptance_on (registers_of cpu) d ≡ acceptance_made (registers_of cpu) (both_stored (registers_of cpu) d)
    → IsInterrupted cpu (both_stored (registers_of cpu) d) cpu'
    → d' ≡ record (both_stored (registers_of cpu) d) { line = line_behind_step (both_stored (registers_of cpu) d).line }
    → board_of cpu' d' r ≡ at_boundary (acceptance b).board
made_board b cpu d r cpu' d' is off made now stepped =
    let s = both_stored (registers_of cpu) d in
    let c = register_list (interrupted (registers_of cpu) (slice_index s.fram (place_of event_vector))) in
    let t : BusState = record s { line = line_behind_step s.line } in
    ap (λ x. board_of cpu' x r) stepped
    ∙ ap (λ x. board_of x t r) (registers_are cpu s cpu' now)
    ∙ ap (λ o. board_of c t (receiver_after s.outnum o r)) (sym (nothing_offered (registers_of cpu) d off.0))
    ∙ ap (λ o. at_boundary (board_outcome (board_of cpu d r) o).board) (sym made)
    ∙ ap (λ x. at_boundary x.board) (accepting_is b cpu d r is off)
