-- The board as the CPU's bus: the memory map and the ports. RAM is 1C00 to 23FF, FRAM 4400 to FFFF; a word read at 0200
-- takes a reading, a word written to 0202 is kept, a word written to 0204 is offered to the receiver, or sent, a word read at 0206
-- takes the event that waits there; a word read at 0208 of a board that sends is the greatest acknowledgement, one read at 020A of a
-- board that listens the number of the packet in 0206, one written to 020C there is sent; nothing else answers.
use Rattle.std.specs.Prelude.{ℕ, ◌+◌, ◌-◌, ◌/◌, ◌%◌, ◌≡◌, ◌≤◌, Bool, ◌&&◌, ◌||◌, ◌==◌, nat_le, nat_lt, if◌then◌else◌, List, length, slice_index, slice_set}
use Rattle.std.specs.Prelude.{Result, Ok, Err, Option, Some, None}
use Rattle.alp_words.specs.declared.Width.{Width}
use Rattle.alp_words.specs.declared.Width.TheVariants.{Word, Byte}
use Rattle.alp_words.specs.Words.{word_bytes, word_of_bytes}
use Rattle.msp_step.specs.declared.bus.Refused.{Refused}
use Rattle.msp_step.specs.declared.bus.Refused.TheVariants as refused
use Rattle.msp_step.specs.Access.{BusModel}
use Rattle.state_text.specs.address_space.Limits.{ram_first, ram_end, fram_first, fram_end, fram_words}
pub use Rattle.state_text.specs.address_space.Limits.{sensor_port, number_port, data_port, event_port}
use Rattle.state_text.specs.image_text.ImageValue.{place_of}
use Rattle.fram_board.specs.declared.radio.Radio.{Radio}
use Rattle.fram_board.specs.declared.radio.Radio.TheVariants.{Alone, Sends, Listens}
use Rattle.fram_board.specs.Events.{EventLine, is_full, port_word, port_read}
use Rattle.fram_board.specs.Radio.{radio_word}
pub use Rattle.fram_board.specs.Radio.{acknowledgements_port, packet_number_port, answer_port}

-- memory and ports during one instruction
pub record BusState : Type 0 where
  pub fram : List ℕ  -- the words at 4400, 4402 .. FFFE
  pub ram : List ℕ  -- the words at 1C00, 1C02 .. 23FE
  pub outnum : ℕ  -- the word last written to OUTNUM
  pub readings : List ℕ  -- all readings of the sensor
  pub taken : ℕ  -- how many of them were taken
  pub offered : Option ℕ  -- the word that the instruction offered to the receiver, if it did
  pub sent : Option (ℕ × ℕ)  -- what it sent, if it did: a number and a word, or an acknowledgement and 0
  pub line : EventLine  -- the port EVENT, and what arises there
  pub radio : Radio  -- what the board has of a radio

-- the addresses of RAM
abbrev pub is_ram : ℕ → Bool
is_ram a = nat_le ram_first a && nat_lt a ram_end

-- the addresses of FRAM
abbrev pub is_fram : ℕ → Bool
is_fram a = nat_le fram_first a && nat_lt a fram_end

-- the addresses of memory
abbrev pub is_memory : ℕ → Bool
is_memory a = is_ram a || is_fram a

-- the addresses of whole words of memory
abbrev pub is_word : ℕ → Bool
is_word a = (a % 2 == 0) && is_memory a

-- where the word of RAM stands in the list to which an address belongs
abbrev pub ram_place : ℕ → ℕ
ram_place a = (a - ram_first) / 2

-- the word to which an address of memory belongs
abbrev pub memory_word : BusState → ℕ → ℕ
memory_word s a = if is_ram a then slice_index s.ram (ram_place a) else slice_index s.fram (place_of a)

-- the same with another word there
abbrev pub with_word : BusState → ℕ → ℕ → BusState
with_word s a w =
    if is_ram a then record s { ram = slice_set s.ram (ram_place a) w }
    else record s { fram = slice_set s.fram (place_of a) w }

-- the byte of a word: the low one at its even address, the high one at the odd
abbrev pub byte_of : ℕ → ℕ → ℕ
byte_of w a = slice_index (word_bytes w) (a % 2)

-- a word with one of its bytes replaced by the low byte of v
abbrev pub with_byte : ℕ → ℕ → ℕ → ℕ
with_byte w a v = word_of_bytes (slice_set (word_bytes w) (a % 2) (v % 0x100))

-- a fetch is served at the words of memory
abbrev pub fetched : BusState → ℕ → Option ℕ
fetched s a = if is_word a then Some (memory_word s a) else None

-- the next reading, if one is left
abbrev pub next_reading : BusState → Result ℕ Refused
next_reading s =
    if nat_lt s.taken (length s.readings) then Ok (slice_index s.readings s.taken)
    else Err refused.NoReading

-- a read is served in memory, of a word at an even address; and a word read at SENSOR, EVENT or a port of the radio
abbrev pub read_of : BusState → ℕ → Width → Result ℕ Refused
read_of s a Word =
    if is_word a then Ok (memory_word s a)
    else if a == sensor_port then next_reading s
    else if a == event_port then Ok (port_word s.line.port)
    else radio_word s.radio (is_full s.line.port) a
read_of s a Byte = if is_memory a then Ok (byte_of (memory_word s a) a) else Err refused.Bus

-- a word read at SENSOR takes the reading, and one read at EVENT the event
abbrev pub after_read : BusState → ℕ → Width → BusState
after_read s a Word = record s {
  taken = if a == sensor_port then s.taken + 1 else s.taken;
  line = if a == event_port then port_read s.line else s.line;
}
after_read s a Byte = s

-- a word written to OUTDATA is offered to the receiver; a board that sends sends it, with the number in OUTNUM
abbrev pub data_written : Radio → BusState → ℕ → BusState
data_written Alone s v = record s { offered = Some v; sent = None }
data_written (Sends greatest) s v = record s { offered = None; sent = Some (s.outnum, v) }
data_written (Listens number) s v = record s { offered = Some v; sent = None }

-- a word written to ACKOUT is sent as an acknowledgement, by a board that listens
abbrev pub answer_written : Radio → BusState → ℕ → ℕ → Option BusState
answer_written Alone s a v = None
answer_written (Sends greatest) s a v = None
answer_written (Listens number) s a v = if a == answer_port then Some (record s { offered = None; sent = Some (v, 0) }) else None

-- a word written to a port
abbrev pub port_written : BusState → ℕ → ℕ → Option BusState
port_written s a v =
    if a == number_port then Some (record s { outnum = v })
    else if a == data_port then Some (data_written s.radio s v)
    else answer_written s.radio s a v

-- a write is served in memory, of a word at an even address; and a word written to OUTNUM, OUTDATA or ACKOUT
abbrev pub written : BusState → ℕ → Width → ℕ → Option BusState
written s a Word v = if is_word a then Some (with_word s a v) else port_written s a v
written s a Byte v = if is_memory a then Some (with_word s a (with_byte (memory_word s a) a v)) else None

-- the board as a bus
abbrev pub board_bus : BusModel BusState
board_bus = record {
  memory = memory_word;
  fetches = fetched;
  reads = read_of;
  after_read = after_read;
  writes = written;
}

-- the lists are as long as the memory map says, and no more readings are taken than there are
pub record IsBusState (s : BusState) : Type 0 where
  pub fram : length s.fram ≡ fram_words
  pub ram : length s.ram ≡ 1024
  pub taken : s.taken ≤ length s.readings
  pub few : length s.readings ≤ 262144
