-- The radio of a board: none, that of a board that sends words, or that of a board that hears them. What the other side sends is
-- brought to the board between two steps.
use Rattle.std.specs.Prelude.{ℕ, ◌==◌, nat_lt, Bool, true, false, if◌then◌else◌, Result, Ok, Err}
pub use Rattle.state_text.specs.address_space.Limits.{acknowledgements_port, packet_number_port, answer_port}
use Rattle.msp_step.specs.declared.bus.Refused.{Refused}
use Rattle.msp_step.specs.declared.bus.Refused.TheVariants as refused
use Rattle.fram_board.specs.declared.radio.Radio.{Radio}
use Rattle.fram_board.specs.declared.radio.Radio.TheVariants.{Alone, Sends, Listens}

-- a board that sends: its words go to the other side, and its own receiver hears none
abbrev pub is_sender : Radio → Bool
is_sender Alone = false
is_sender (Sends greatest) = true
is_sender (Listens number) = false

-- a board that listens: packets come to its port EVENT
abbrev pub is_listener : Radio → Bool
is_listener Alone = false
is_listener (Sends greatest) = false
is_listener (Listens number) = true

-- a word read at a port of the radio; whether a packet waits in EVENT
abbrev pub radio_word : Radio → Bool → ℕ → Result ℕ Refused
radio_word Alone waits a = Err refused.Bus
radio_word (Sends greatest) waits a = if a == acknowledgements_port then Ok greatest else Err refused.Bus
radio_word (Listens number) waits a = if a == packet_number_port then Ok (if waits then number else 0) else Err refused.Bus

-- the radio as power comes back: no acknowledgement was brought since
abbrev pub radio_powered : Radio → Radio
radio_powered Alone = Alone
radio_powered (Sends greatest) = Sends 0
radio_powered (Listens number) = Listens 0

-- the radio once an acknowledgement is brought: the greatest one counts
abbrev pub acknowledged : ℕ → Radio → Radio
acknowledged number Alone = Alone
acknowledged number (Sends greatest) = Sends (if nat_lt greatest number then number else greatest)
acknowledged number (Listens last) = Listens last

-- the radio once a packet is brought; whether one waits in EVENT, which then stays there
abbrev pub packet_heard : ℕ → Bool → Radio → Radio
packet_heard number waits Alone = Alone
packet_heard number waits (Sends greatest) = Sends greatest
packet_heard number waits (Listens last) = Listens (if waits then last else number)
