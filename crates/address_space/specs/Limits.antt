-- The limits of memory (MSP430FR5969: 2 KB of RAM, and the FRAM below 10000), and the board's ports.
use Rattle.std.specs.Prelude.{◌≡◌, ℕ, ◌+◌, ◌-◌, ◌*◌, ◌/◌, ◌%◌, ◌<◌, ◌≤◌}

-- the port SENSOR: a word read here is a reading
abbrev pub sensor_port : ℕ
sensor_port = 0x200

-- the port OUTNUM: the number of the word that is offered next
abbrev pub number_port : ℕ
number_port = 0x202

-- the port OUTDATA: a word written here is offered to the receiver
abbrev pub data_port : ℕ
data_port = 0x204

-- the port EVENT: a word read here is the event that waits in it, or 0 where none does
abbrev pub event_port : ℕ
event_port = 0x206

-- the port ACKS of a board that sends over a radio: a word read here is the greatest acknowledgement that was brought since power came back, or 0
abbrev pub acknowledgements_port : ℕ
acknowledgements_port = 0x208

-- the port EVNUM of a board that listens to one: a word read here is the number of the packet in the port EVENT, or 0 where that is empty
abbrev pub packet_number_port : ℕ
packet_number_port = 0x20A

-- the port ACKOUT of such a board: a word written here is sent as an acknowledgement
abbrev pub answer_port : ℕ
answer_port = 0x20C

-- the first word of RAM
abbrev pub ram_first : ℕ
ram_first = 0x1C00

-- behind its last word
abbrev pub ram_end : ℕ
ram_end = 0x2400

-- SP where nothing is on the stack
abbrev pub stack_top : ℕ
stack_top = ram_end

-- how many words of RAM a compiled task leaves free below its stack, at the least
abbrev pub spare_words : ℕ
spare_words = 16

-- the lowest SP of a compiled task: below it stand those words alone
abbrev pub stack_floor : ℕ
stack_floor = ram_first + 2 * spare_words

-- a stack that grows down from this address has room for so many words
pub record HasStackRoom (lowest words : ℕ) : Type 0 where
  pub fits : ram_first + 2 * (spare_words + words) ≤ lowest

-- the first word of the FRAM
abbrev pub fram_first : ℕ
fram_first = 0x4400

-- behind its last word
abbrev pub fram_end : ℕ
fram_end = 0x10000

-- how many words it has
abbrev pub fram_words : ℕ
fram_words = 24064

-- its last word, which holds the address at which the CPU starts
abbrev pub reset_vector : ℕ
reset_vector = 0xFFFE

-- the word that holds the address at which the CPU goes on where it accepts an event
abbrev pub event_vector : ℕ
event_vector = 0xFFF0

-- where the words and the code of a compiled source end at the latest: above it there is room for what stands at one place in every image
abbrev pub program_end : ℕ
program_end = 0xFF18

-- which word of the FRAM an address belongs to, counted from 0
abbrev pub place_of : ℕ → ℕ
place_of a = (a - fram_first) / 2

-- the address of a word of the FRAM
pub record IsFramWord (a : ℕ) : Type 0 where
  pub even : a % 2 ≡ 0
  pub low : fram_first ≤ a
  pub high : a < fram_end
