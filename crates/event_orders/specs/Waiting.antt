-- The words that wait in a ring, and by what an answer of a program came about.
use Rattle.std.specs.Prelude.{◌≡◌, ℕ, zero, suc, ◌+◌, ◌%◌, ◌≤◌, ◌==◌, if◌then◌else◌, List, [], ◌∷◌, ◌++◌, length, slice_get, Contains, Some}
use Rattle.msp_step.specs.alp_words.Words.{word_difference}
use Rattle.event_places.specs.Places.{head_place, tail_place, sent_place, answer_place, ring_slots, slot_place}
use Rattle.fram_board.specs.Board.{BoardValue}
use Rattle.fram_board.specs.Run.{Moment}
use Rattle.board_run.specs.Events.{no_hand, hand_after}
use Rattle.machine_effects.specs.World.{EachStore}
use Rattle.machine_effects.specs.Machine.{fram_of}
use Rattle.machine_effects.specs.Runs.{last_board}
use Rattle.crash_rules.specs.Model.{words_stored}
use Rattle.run_charges.specs.View.{outside_effects, all_outside_effects}
use Rattle.event_rules.specs.Taking.{next_index}

-- so many words of a ring, from an index on
abbrev pub words_from : (ℕ → ℕ) → ℕ → ℕ → List ℕ
words_from fram index zero = []
words_from fram index (suc n) = fram (slot_place index) ∷ words_from fram (index + 1) n

-- the index of the first word that no committed attempt has taken, where GATE stands at this address: TAIL, or SE where a commit is pending
abbrev pub first_index : ℕ → (ℕ → ℕ) → ℕ
first_index gate fram = if fram gate == 1 then fram sent_place else fram tail_place

-- the words that wait from there up to HEAD
abbrev pub waiting_in : ℕ → (ℕ → ℕ) → List ℕ
waiting_in gate fram = let i = first_index gate fram in words_from fram i (word_difference (fram head_place) i)

-- the words that waited on a board, and those that a handler accepted in moments behind it
abbrev pub words_behind : ℕ → BoardValue → List Moment → List ℕ
words_behind gate b ms = waiting_in gate (fram_of b.fram) ++ (hand_after (Some head_place) ms no_hand).accepted

-- none waited: behind some of the moments HEAD was TAIL + EC, and the program has stored nothing since then
pub record NoneWaited (b : BoardValue) (ms : List Moment) : Type 0 where
  pub before : List Moment
  pub since : List Moment
  pub are : ms ≡ before ++ since
  pub empty : let f = fram_of (last_board b before).fram in f head_place ≡ next_index f
  pub quiet : EachStore (λ a w. ⊥) (all_outside_effects since)

-- a word is that with the number TAIL + EC among those that waited and those that were accepted since, counted from the first index on. Those behind it
-- have room in the ring, so that no other has the number
pub record IsNextWord (gate : ℕ) (b : BoardValue) (ms : List Moment) (w : ℕ) : Type 0 where
  pub number : ℕ
  pub word : slice_get (words_behind gate b ms) number ≡ Some w
  pub index : (first_index gate (fram_of b.fram) + number) % 0x10000 ≡ next_index (fram_of (last_board b ms).fram)
  pub last : length (words_behind gate b ms) ≤ number + ring_slots

-- how an answer came about
pub data IsAnswer (gate : ℕ) (b : BoardValue) (ms : List Moment) (w : ℕ) : Type 0 where
  AnswersNone : w ≡ 0 → NoneWaited b ms → IsAnswer gate b ms w
  AnswersNext : IsNextWord gate b ms w → IsAnswer gate b ms w

-- so did each that the program stores to ANS in these moments
abbrev pub TakesInOrder : ℕ → BoardValue → List Moment → Type 0
TakesInOrder gate b moments = (ms : List Moment) (m : Moment) (rest : List Moment) → moments ≡ ms ++ m ∷ rest
    → (w : ℕ) → Contains (words_stored answer_place (outside_effects m)) w → IsAnswer gate b ms w
