-- What one line of a schedule says. Its fields stand before a `#`: a letter, which names what is done, and a number below 2^32.
use Rattle.std.specs.Prelude.{ℕ, ◌^◌, ◌==◌, if◌then◌else◌, List, [], ◌∷◌, Option, Some, None, codes}
use Rattle.std.specs.Str.{bytes_eq}
use Rattle.alp_text.specs.Numbers.{number_of, limited}
pub use Rattle.alp_text.specs.Sequence.{◌>>?◌}
use Rattle.text_parts.specs.Lengths.{before}
use Rattle.text_parts.specs.Fields.{fields}
use Rattle.radio_link.specs.declared.entry.Entry.{Entry}
use Rattle.radio_link.specs.declared.entry.Entry.TheVariants.{StepsOfA, StepsOfB, BringPacket, BringAcknowledgement, Rounds}

-- a line says nothing, or has an entry
pub data LineMeaning : Type 0 where
  nothing : LineMeaning
  entry : Entry → LineMeaning

-- the entry with this letter and this number
abbrev pub named : List ℕ → ℕ → Option Entry
named letter n = if bytes_eq letter (codes "a") then Some (StepsOfA n)
    else (if bytes_eq letter (codes "b") then Some (StepsOfB n)
    else (if bytes_eq letter (codes "d") then Some (BringPacket n)
    else (if bytes_eq letter (codes "k") then Some (BringAcknowledgement n)
    else (if bytes_eq letter (codes "x") then Some (Rounds n)
    else None))))

-- the entry of a line with this first field and these behind it
abbrev pub entry_of : List ℕ → List (List ℕ) → Option Entry
entry_of letter [] = None
entry_of letter (number ∷ []) = limited (2 ^ 32) (number_of number) >>? named letter
entry_of letter (number ∷ f ∷ fs) = None

-- what a line with these fields says
abbrev pub fields_say : List (List ℕ) → Option LineMeaning
fields_say [] = Some nothing
fields_say (letter ∷ behind) = entry_of letter behind >>? λ e. Some (entry e)

-- what a line says; `None` where it is no line of a schedule
unfoldable pub line_says : List ℕ → Option LineMeaning
line_says line = fields_say (fields (before (λ b. b == 35) line))
