-- A memory with RAM from 1C00 to 23FF and FRAM from 4400 to FFFF, as a bus; its word at address a stands at a / 2.
use Rattle.std.specs.Prelude.{ℕ, ◌+◌, ◌-◌, ◌*◌, ◌/◌, ◌%◌, Bool, ◌&&◌, ◌||◌, ◌==◌, nat_le, nat_lt, if◌then◌else◌, List, slice_index, slice_set, Option, Some}
use Rattle.std.specs.Prelude.{None, Result, Ok, Err}
use Rattle.msp_step.specs.alp_words.declared.Width.{Width}
use Rattle.msp_step.specs.alp_words.declared.Width.TheVariants.{Word, Byte}
use Rattle.msp_step.specs.declared.bus.Refused.{Refused}
use Rattle.msp_step.specs.declared.bus.Refused.TheVariants as refused
use Rattle.msp_step.specs.Access.{BusModel}

-- the addresses of RAM and FRAM
abbrev pub is_memory : ℕ → Bool
is_memory a = (nat_le 0x1C00 a && nat_lt a 0x2400) || nat_le 0x4400 a

-- the addresses of whole words of it
abbrev pub is_word : ℕ → Bool
is_word a = ((a % 2) == 0) && is_memory a

-- the word of which the byte at an address is one
abbrev pub word_at : List ℕ → ℕ → ℕ
word_at m a = slice_index m (a / 2)

-- the low byte stands first
abbrev pub byte_at : List ℕ → ℕ → ℕ
byte_at m a = if (a % 2) == 0 then word_at m a % 0x100 else word_at m a / 0x100

-- the memory after a word was written there
abbrev pub with_word : List ℕ → ℕ → ℕ → List ℕ
with_word m a v = slice_set m (a / 2) v

-- the memory after the low byte of a value was written
abbrev pub with_byte : List ℕ → ℕ → ℕ → List ℕ
with_byte m a v = with_word m a (if (a % 2) == 0 then word_at m a / 0x100 * 0x100 + v % 0x100 else word_at m a % 0x100 + 0x100 * (v % 0x100))

-- what a fetch gives: whole words alone
abbrev pub fetched : List ℕ → ℕ → Option ℕ
fetched m a = if is_word a then Some (word_at m a) else None

-- what a read gives
abbrev pub read_of : List ℕ → ℕ → Width → Result ℕ Refused
read_of m a Word = if is_word a then Ok (word_at m a) else Err refused.Bus
read_of m a Byte = if is_memory a then Ok (byte_at m a) else Err refused.Bus

-- the memory after a write, where it is served
abbrev pub write_of : List ℕ → ℕ → Width → ℕ → Option (List ℕ)
write_of m a Word v = if is_word a then Some (with_word m a v) else None
write_of m a Byte v = if is_memory a then Some (with_byte m a v) else None

-- a read changes nothing: there is no port
abbrev pub unchanged : List ℕ → ℕ → Width → List ℕ
unchanged m a w = m

-- the memory as a bus
abbrev pub memory_bus : BusModel (List ℕ)
memory_bus = record { memory = word_at; fetches = fetched; reads = read_of; after_read = unchanged; writes = write_of }
