-- The acceptance leads to the handler's first instruction.
use Rattle.std.proofs.Common.{◌≡◌, ◌-◌, ◌*◌, ◌/◌, if◌then◌else◌, arith, ℕ, refl, sym, ◌∙◌, ap, subst, true, false}
use Rattle.std.proofs.Common.{[], ◌∷◌, ◌++◌, length-set, slice_set, None}
use Rattle.msp_step.specs.Registers.{Registers, registers_of}
use Rattle.msp_step.specs.Effect.{word_sum}
use Rattle.msp_step.specs.Step.{return_place, status_place}
use Rattle.fram_board.specs.Bus.{BusState, is_word, is_ram, is_fram, ram_place, with_word}
use Rattle.fram_board.specs.Board.{BoardValue, opened, board_outcome, acceptance, acceptance_on, acceptance_made, at_boundary}
use Rattle.fram_board.specs.Effects.{Store, store_of}
use Rattle.fram_board.proofs.Interface.{ram_not_fram}
use Rattle.machine_effects.specs.World.{put}
use Rattle.machine_effects.specs.Machine.{ram_of}
use Rattle.machine_effects.specs.View.{IsWhole, IsOfWords}
use Rattle.machine_effects.proofs.Interface.{acceptance_keeps_words, boundary_whole, boundary_words, boundary_heard}
use Rattle.event_handler.specs.Handler.{SaveR4}
use Rattle.event_handler.specs.Boundaries.{IsInterrupted, IsInHandler, stack_of, with_return}
use Rattle.event_handler.specs.Laws.{Begins, HandlerBegins}
use Rattle.event_handler.proofs.Bus.{IsStackWord, stack_ram, stack_is_word, with_ram, ram_written, ram_put}
use Rattle.event_handler.proofs.Stages.{IsStack, stack_from, word_below, kept_even, event_waits}

-- an acceptance at places that are words of memory is made
is_made : (r : Registers) (s : BusState) → is_word (return_place r) ≡ true → is_word (status_place r) ≡ true
    → acceptance_on r s ≡ acceptance_made r (with_word (with_word s (return_place r) (r 0)) (status_place r) (r 2))
is_made r s e f = rw (e, f) refl

first_place : (sp : ℕ) → IsStack sp → word_sum sp 0xFFFE ≡ sp - 2
first_place sp q = let l = q.low in let u = q.high in omega arith

second_place : (sp : ℕ) → IsStack sp → word_sum sp 0xFFFC ≡ sp - 4
second_place sp q = let l = q.low in let u = q.high in omega arith

-- both stores go to RAM
both_written : (r : Registers) (s : BusState) → is_ram (return_place r) ≡ true → is_ram (status_place r) ≡ true
    → with_word (with_word s (return_place r) (r 0)) (status_place r) (r 2) ≡ with_ram (with_ram s (return_place r) (r 0)) (status_place r) (r 2)
both_written r s e f =
    ap (λ t. with_word t (status_place r) (r 2)) (ram_written s (return_place r) (r 0) e)
    ∙ ram_written (with_ram s (return_place r) (r 0)) (status_place r) (r 2) f

no_store : (a w : ℕ) → is_fram a ≡ false → store_of a w ≡ []
no_store a w e = ap (λ b. if b then Store a w ∷ [] else []) e

module _ (from : BoardValue) (g : IsInterrupted from) where
  abbrev file : Registers
  file = registers_of from.cpu

  abbrev behind : BoardValue
  behind = (board_outcome from (acceptance_made file (with_ram (with_ram (opened from) (return_place file) (file 0)) (status_place file) (file 2)))).board

  to_first : return_place file ≡ stack_of from - 2
  to_first = first_place (stack_of from) (stack_from from g)

  to_second : status_place file ≡ stack_of from - 4
  to_second = second_place (stack_of from) (stack_from from g)

  first_word : IsStackWord (return_place file)
  first_word = subst IsStackWord (sym to_first) (word_below (stack_of from) (stack_from from g) 2 refl (omega arith) (omega arith))

  second_word : IsStackWord (status_place file)
  second_word = subst IsStackWord (sym to_second) (word_below (stack_of from) (stack_from from g) 4 refl (omega arith) (omega arith))

  accepted_as : acceptance_on file (opened from)
      ≡ acceptance_made file (with_ram (with_ram (opened from) (return_place file) (file 0)) (status_place file) (file 2))
  accepted_as =
      is_made file (opened from) (stack_is_word (return_place file) first_word) (stack_is_word (status_place file) second_word)
      ∙ ap (acceptance_made file)
      (both_written file (opened from) (stack_ram (return_place file) first_word) (stack_ram (status_place file) second_word))

  stacked : ram_of (slice_set (slice_set from.ram (ram_place (return_place file)) (file 0)) (ram_place (status_place file)) (file 2)) ≡ with_return from
  stacked =
      let one = slice_set from.ram (ram_place (return_place file)) (file 0) in
      let len = length-set from.ram (ram_place (return_place file)) (file 0) ∙ g.whole.board.ram in
      ram_put one (status_place file) (file 2) len second_word
      ∙ ap (λ m. put m (status_place file) (file 2)) (ram_put from.ram (return_place file) (file 0) g.whole.board.ram first_word)
      ∙ ap (λ a. put (put (ram_of from.ram) a (file 0)) (status_place file) (file 2)) to_first
      ∙ ap (λ a. put (put (ram_of from.ram) (stack_of from - 2) (file 0)) a (file 2)) to_second

  begun : IsWhole (at_boundary behind) → IsOfWords (at_boundary behind) → IsInHandler from SaveR4 (at_boundary behind)
  begun whole words = record {
    whole = whole;
    words = words;
    pc = ap (λ v. v / 2 * 2) g.handler.vector;
    sp = kept_even (stack_of from) (stack_from from g) (status_place file) 4 to_second refl (omega arith);
    control = refl;
    r4 = refl;
    r5 = refl;
    others = refl;
    fram = refl;
    ram = stacked;
    knows = event_waits from from.line g refl;
    heard = boundary_heard behind;
    rest = record { readings = refl; taken = refl; outnum = refl; receiver = refl };
  }

  begins : Begins from
  begins =
      let made = ap (board_outcome from) accepted_as in
      let all = acceptance_keeps_words from g.whole g.words in
      let whole = boundary_whole (acceptance from).board all.0 in
      let words = boundary_words (acceptance from).board all.1 in
      record {
        done = record { cycles = 6; wrote = None; took = from.taken - from.taken; accepted = None; heard = from.line.heard; sent = None };
        made = ap (λ x. x.answer) made;
        cycles = refl;
        effects = ap (λ es. es ++ store_of (status_place file) (file 2))
            (no_store (return_place file) (file 0) (ram_not_fram (return_place file) (stack_ram (return_place file) first_word)))
            ∙ no_store (status_place file) (file 2) (ram_not_fram (status_place file) (stack_ram (status_place file) second_word));
        behind = subst (λ x. IsInHandler from SaveR4 (at_boundary x.board)) (sym made)
            (begun (subst (λ x. IsWhole (at_boundary x.board)) made whole) (subst (λ x. IsOfWords (at_boundary x.board)) made words));
      }

pub handler_begins : HandlerBegins
handler_begins from g = begins from g
