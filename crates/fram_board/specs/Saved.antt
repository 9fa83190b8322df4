-- What is saved of a board, and the number of the word that its receiver takes next.
use Rattle.std.specs.Prelude.{ℕ, ◌%◌, ◌≡◌, List, length, Option}
use Rattle.state_text.specs.image_text.image_map.MapValue.{MapValue}
use Rattle.state_text.specs.declared.state.State.{State}
use Rattle.fram_board.specs.declared.receiver.Receiver.{Receiver}
use Rattle.fram_board.specs.Board.{BoardValue, next_number}

-- what it takes next is the word behind these: their count is its number, modulo 65536
abbrev pub TakesNextBehind : List ℕ → Receiver → Type 0
TakesNextBehind ws r = length ws % 0x10000 ≡ next_number r

-- what is saved of a board, with what its image says of it: FRAM and the number of the word that the receiver takes next
abbrev pub saved : BoardValue → Option MapValue → State
saved b map = record { image = record { words = b.fram; map = map }; receiver = next_number b.receiver }
