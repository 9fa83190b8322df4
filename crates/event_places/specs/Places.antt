-- What stands at one place in the image of each source that takes events: the words that count them, the handler, and the ring. From the
-- word HEAD up to the vector of interrupts a handler alone writes, between any two instructions of the program.
use Rattle.std.specs.Prelude.{ℕ, ◌+◌, ◌*◌, ◌%◌, ◌&&◌, nat_le, nat_lt, Bool}
use Rattle.address_space.specs.Limits.{program_end, event_vector}

-- TAIL: the index of the oldest word of the ring
abbrev pub tail_place : ℕ
tail_place = program_end

-- EC: how many words of the ring the attempt has taken
abbrev pub count_place : ℕ
count_place = 0xFF1A

-- SE: TAIL as the transition leaves it
abbrev pub sent_place : ℕ
sent_place = 0xFF1C

-- ANS: the last answer
abbrev pub answer_place : ℕ
answer_place = 0xFF1E

-- the handler's first instruction; from here on no program writes
abbrev pub handler_place : ℕ
handler_place = 0xFF20

-- HEAD: the index behind the newest word of the ring
abbrev pub head_place : ℕ
head_place = 0xFF6E

-- the first slot of the ring
abbrev pub ring_place : ℕ
ring_place = 0xFF70

-- how many slots it has; they end at the vector of interrupts
abbrev pub ring_slots : ℕ
ring_slots = 64

-- the slot of an index
abbrev pub slot_place : ℕ → ℕ
slot_place index = ring_place + 2 * (index % ring_slots)

-- HEAD and the slots
abbrev pub is_ring : ℕ → Bool
is_ring a = nat_le head_place a && nat_lt a event_vector
