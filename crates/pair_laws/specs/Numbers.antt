-- The 16-bit numbers by which two boards count words. Words are counted from 0, and the number of a word is its place as a word of 16 bits. B takes a packet
-- where its number is that of the word to come; A takes a word for accepted where an acknowledgement is above its number as a signed word. While B has
-- accepted at most 32,768 words both say the same as if places were compared.
use Rattle.std.specs.Prelude.{◌≡◌, ℕ, ◌+◌, ◌-◌, ◌%◌, ◌<◌, ◌≤◌, ◌&&◌, nat_lt, Bool, true}
use Rattle.pair_run.specs.Pair.{most_words}

-- the number of the word at a place
abbrev pub word_number : ℕ → ℕ
word_number place = place % 0x10000

-- an acknowledgement is above a number: the difference is above 0 as a signed word
abbrev pub is_above : ℕ → ℕ → Bool
is_above a n = let d = (a + 0x10000 - n) % 0x10000 in nat_lt 0 d && nat_lt d 0x8000

-- one that is above the number of a place is greater than the place, up to the place behind as many words as B may accept
abbrev pub AboveIsGreater : Type 0
AboveIsGreater = (a place : ℕ) → place ≤ most_words → is_above a (word_number place) ≡ true → place < a

-- not so at the place behind it: 0, which ACKS is behind a power-up, is above its number
abbrev pub IsAboveWronglyBehind : Type 0
IsAboveWronglyBehind = is_above 0 (word_number (most_words + 1)) ≡ true

-- places below 65536 that have one number are one
abbrev pub NumbersTellPlaces : Type 0
NumbersTellPlaces = (i j : ℕ) → i < 0x10000 → j < 0x10000 → word_number i ≡ word_number j → i ≡ j
