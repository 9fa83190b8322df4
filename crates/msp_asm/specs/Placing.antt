-- The words of lines, each put at its place in the FRAM.
use Rattle.std.specs.Prelude.{ℕ, ◌+◌, ◌*◌, ◌%◌, ◌==◌, ◌&&◌, ◌||◌, Bool, false, nat_lt, if◌then◌else◌, List, length, Option, Some, None, Result, Ok}
use Rattle.std.specs.Prelude.{Err}
use Rattle.image_text.specs.address_space.Limits.{fram_first, fram_end, place_of}
use Rattle.image_text.specs.Memory.{put_once}
use Rattle.asm_line.specs.Values.{ValueMeaning, number, out_of_range, label, here}
use Rattle.asm_line.specs.Lines.{StatementMeaning, nothing, org, words, jump, instruction, LineMeaning}
use Rattle.msp_asm.specs.declared.fault.AsmFault.{AsmFault}
use Rattle.msp_asm.specs.declared.fault.AsmFault.TheVariants as fault
use Rattle.msp_asm.specs.Labels.{Table}
use Rattle.msp_asm.specs.Program.{line_fault, line_words}

-- an `.org` to an odd address or one below the FRAM, which ends at FFFF
abbrev pub is_bad_address : ValueMeaning → Bool
is_bad_address (number n) = nat_lt n fram_first || (n % 2 == 1)
is_bad_address (out_of_range n) = false
is_bad_address (label p) = false
is_bad_address here = false

-- a statement that is such an `.org`
abbrev pub is_bad_org : StatementMeaning → Bool
is_bad_org nothing = false
is_bad_org (org v) = is_bad_address v
is_bad_org (words vs) = false
is_bad_org (jump c v) = false
is_bad_org (instruction t) = false

-- the FRAM with words, unless one of their places is taken
abbrev pub put_or : ℕ → Option (List (Option ℕ)) → Result (List (Option ℕ)) AsmFault
put_or n (Some m) = Ok m
put_or n None = Err (fault.Overlap n)

-- words from an address on, where all of them are in the FRAM
abbrev pub place : ℕ → ℕ → List ℕ → List (Option ℕ) → Result (List (Option ℕ)) AsmFault
place n a ws m = if nat_lt 0 (length ws) && (nat_lt a fram_first || nat_lt fram_end (a + 2 * length ws)) then Err (fault.Outside n)
    else put_or n (put_once (place_of a) ws m)

-- a fault, or else the rest
abbrev pub unless : {A : Type 0} → Option AsmFault → Result A AsmFault → Result A AsmFault
unless (Some e) r = Err e
unless None r = r

-- the FRAM with the words of the n-th line, which stands at an address
unfoldable pub line_into : Table → ℕ → ℕ → LineMeaning → List (Option ℕ) → Result (List (Option ℕ)) AsmFault
line_into f n a l m = unless (line_fault f n a l)
    (if is_bad_org l.statement then Err (fault.Outside n) else place n a (line_words f a l.statement) m)
