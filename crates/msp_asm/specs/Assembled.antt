-- The image of a text, or its first fault: a line that is none, or else the first fault of the least line.
use Rattle.std.specs.Prelude.{◌≡◌, ℕ, ◌+◌, List, [], ◌∷◌, map, Option, Some, None, Result, Ok, Err, unwrap_or}
pub use Rattle.alp_text.specs.Sequence.{◌>>=◌}
use Rattle.image_text.specs.address_space.Limits.{fram_first, fram_words}
use Rattle.image_text.specs.Reading.{empty}
use Rattle.asm_line.specs.Pieces.{Located, lines_left}
use Rattle.asm_line.specs.Lines.{line_of}
use Rattle.msp_asm.specs.declared.labels.Place.{Place}
use Rattle.msp_asm.specs.declared.fault.AsmFault.{AsmFault}
use Rattle.msp_asm.specs.declared.fault.AsmFault.TheVariants as fault
use Rattle.msp_asm.specs.Labels.{Table, with_label}
use Rattle.msp_asm.specs.Program.{after, said}
use Rattle.msp_asm.specs.Placing.{line_into}

-- the table with the label of a line that stands at an address
abbrev pub note : Table → Option Located → Place → Table
note f None p = f
note f (Some name) p = with_label f name.text p

-- the first pass: the labels of the lines from the n-th on, at an address, behind those that there are
unfoldable pub labels_of : Table → ℕ → ℕ → List Located → Result Table AsmFault
labels_of f n a [] = Ok f
labels_of f n a (l ∷ ls) = said n (line_of l) >>= λ m. labels_of (note f m.label (record { address = a; line = n })) (n + 1) (after a m.statement) ls

-- the second pass: the FRAM with the words of the lines from the n-th on, at an address
unfoldable pub placed : Table → ℕ → ℕ → List (Option ℕ) → List Located → Result (List (Option ℕ)) AsmFault
placed f n a m [] = Ok m
placed f n a m (l ∷ ls) = said n (line_of l) >>= λ s. line_into f n a s m >>= λ m. placed f (n + 1) (after a s.statement) m ls

-- the lines of a text
abbrev pub lines_in : List ℕ → List Located
lines_in text = lines_left (Some (record { at = 0; text = text }))

-- no label stands anywhere
abbrev pub no_labels : Table
no_labels name = None

-- the words of the FRAM; those that aren't given are 0
abbrev pub all_words : List (Option ℕ) → List ℕ
all_words m = map (λ w. unwrap_or w 0) m

-- the words of the image that a text assembles to, or its first fault; the first address is 4400
unfoldable pub assembled : List ℕ → Result (List ℕ) AsmFault
assembled text = labels_of no_labels 1 fram_first (lines_in text)
    >>= λ f. placed f 1 fram_first (empty fram_words) (lines_in text) >>= λ m. Ok (all_words m)

-- the fault of a call is that of the text, unless memory was refused
abbrev pub Fails : {A : Type 0} → AsmFault → Result A AsmFault → Type 0
Fails fault.Memory r = Unit {0}
Fails (fault.BadLine n) r = r ≡ Err (fault.BadLine n)
Fails (fault.RepeatedName n name) r = r ≡ Err (fault.RepeatedName n name)
Fails (fault.UnknownName n name) r = r ≡ Err (fault.UnknownName n name)
Fails (fault.OutOfRange n) r = r ≡ Err (fault.OutOfRange n)
Fails (fault.JumpTooFar n) r = r ≡ Err (fault.JumpTooFar n)
Fails (fault.Outside n) r = r ≡ Err (fault.Outside n)
Fails (fault.Overlap n) r = r ≡ Err (fault.Overlap n)

-- what a call returned, seen by `view`, is what the text says, unless memory was refused
abbrev pub Gives : {X A : Type 0} → (X → A) → Result X AsmFault → Result A AsmFault → Type 0
Gives view (Ok x) r = r ≡ Ok (view x)
Gives view (Err e) r = Fails e r
