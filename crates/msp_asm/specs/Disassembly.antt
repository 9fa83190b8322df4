-- The text of an image: for each section that is printed its `.org`, then line by line its instructions and words.
use Rattle.std.specs.Prelude.{◌≡◌, ℕ, zero, suc, ◌+◌, ◌-◌, ◌*◌, ◌⊎◌, List, [], ◌∷◌, ◌++◌, length, codes, slice_index, Some}
use Rattle.msp_isa.specs.declared.instructions.Instr.{Instr}
use Rattle.msp_isa.specs.Encoding.{encoding, IsInstruction, IsPrefix}
use Rattle.image_text.specs.address_space.Limits.{fram_first}
use Rattle.image_text.specs.Text.{Section, sections}
use Rattle.msp_asm.specs.Written.{number_text, instr_text}
use Rattle.msp_asm.specs.Alone.{line_alone}

-- the lines, each with its line feed
unfoldable pub instr_line : ℕ → Instr → List ℕ
instr_line a i = instr_text a i ++ codes "\n"

-- a word's line, with its line feed
unfoldable pub word_line : ℕ → List ℕ
word_line w = codes ".word " ++ number_text w ++ codes "\n"

-- the line that sets the address, with its line feed
unfoldable pub org_line : ℕ → List ℕ
org_line a = codes ".org " ++ number_text a ++ codes "\n"

-- the words begin with an instruction, all of whose words are there, and its line assembles to the same words at that address
pub record Stands (a : ℕ) (ws : List ℕ) (i : Instr) : Type 0 where
  pub legal : IsInstruction i
  pub whole : IsPrefix (encoding i) ws
  pub same : line_alone a (instr_text a i) ≡ Some (encoding i)

-- the line of what words begin with at an address, and how many words it takes: an instruction's, if one stands there, and else that of the first word
abbrev pub IsNext : ℕ → List ℕ → List ℕ → ℕ → Type 0
IsNext a ws line n = ((i : Instr) × Stands a ws i × (line ≡ instr_line a i) × (n ≡ length (encoding i)))
    ⊎ (((i : Instr) → Stands a ws i → ⊥) × (line ≡ word_line (slice_index ws 0)) × (n ≡ 1))

-- the lines of the words from an address on, of which the first few belong to the line before
abbrev pub AreLinesOf : ℕ → ℕ → List ℕ → List ℕ → Type 0
AreLinesOf a skip [] text = text ≡ []
AreLinesOf a (suc skip) (w ∷ ws) text = AreLinesOf (a + 2) skip ws text
AreLinesOf a zero (w ∷ ws) text = (line : List ℕ) × (n : ℕ) × (rest : List ℕ) × IsNext a (w ∷ ws) line n × (text ≡ line ++ rest)
    × AreLinesOf (a + 2) (n - 1) ws rest

-- a section's `.org` and its lines
abbrev pub IsSectionOf : ℕ → List ℕ → List ℕ → Type 0
IsSectionOf place ws text = (lines : List ℕ) × AreLinesOf (fram_first + 2 * place) 0 ws lines × (text ≡ org_line (fram_first + 2 * place) ++ lines)

-- the text of sections
abbrev pub AreSectionsOf : List Section → List ℕ → Type 0
AreSectionsOf [] text = text ≡ []
AreSectionsOf (s ∷ ss) text = (section : List ℕ) × (rest : List ℕ) × IsSectionOf s.place s.words section × (text ≡ section ++ rest) × AreSectionsOf ss rest

-- the text of an image's words
abbrev pub IsTextOf : List ℕ → List ℕ → Type 0
IsTextOf words = AreSectionsOf (sections 0 words)
