-- What an instruction puts out at a port, as the bus tells it.
use Rattle.std.specs.Prelude.{ℕ, Option, Some, None}
use Rattle.fram_board.specs.declared.bus.Output.{Output}
use Rattle.fram_board.specs.declared.bus.Output.TheVariants.{Nothing, Offered, Sent}

-- the word that is offered to the receiver
abbrev pub offered_word : Output → Option ℕ
offered_word Nothing = None
offered_word (Offered word) = Some word
offered_word (Sent number word) = None

-- what is sent
abbrev pub sent_words : Output → Option (ℕ × ℕ)
sent_words Nothing = None
sent_words (Offered word) = None
sent_words (Sent number word) = Some (number, word)
