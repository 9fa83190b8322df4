-- A schedule as a text: a line for each entry, its letter and its number.
use Rattle.std.specs.Prelude.{ℕ, ◌<◌, ◌^◌, List, [], ◌∷◌, map, codes, decimal}
use Rattle.text_parts.specs.Printed.{printed}
use Rattle.radio_link.specs.declared.entry.Entry.{Entry}
use Rattle.radio_link.specs.declared.entry.Entry.TheVariants.{StepsOfA, StepsOfB, BringPacket, BringAcknowledgement, Rounds}

-- the letter of an entry
abbrev pub letter : Entry → List ℕ
letter (StepsOfA n) = codes "a"
letter (StepsOfB n) = codes "b"
letter (BringPacket k) = codes "d"
letter (BringAcknowledgement k) = codes "k"
letter (Rounds n) = codes "x"

-- the number in an entry
abbrev pub number_in : Entry → ℕ
number_in (StepsOfA n) = n
number_in (StepsOfB n) = n
number_in (BringPacket k) = k
number_in (BringAcknowledgement k) = k
number_in (Rounds n) = n

-- which numbers an entry may have
abbrev pub IsEntry : Entry → Type 0
IsEntry e = number_in e < 2 ^ 32

-- the words of an entry's line
abbrev pub entry_words : Entry → List (List ℕ)
entry_words e = letter e ∷ decimal (number_in e) ∷ []

-- the text of a schedule
abbrev pub text_of : List Entry → List ℕ
text_of es = printed (map entry_words es)
