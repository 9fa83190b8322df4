-- What a text says as a schedule: line by line, the entries so far with that of the line, or the first fault.
use Rattle.std.specs.Prelude.{◌≡◌, ℕ, ◌+◌, nat_lt, if◌then◌else◌, List, [], ◌∷◌, ◌++◌, length, Option, Some, None, Ok, Err, Result}
pub use Rattle.alp_text.specs.Sequence.{◌>>=◌}
use Rattle.text_parts.specs.Lines.{lines}
use Rattle.radio_link.specs.declared.entry.Entry.{Entry}
use Rattle.radio_link.specs.declared.fault.ScheduleFault.{ScheduleFault}
use Rattle.radio_link.specs.declared.fault.ScheduleFault.TheVariants.{BadLine, TooMany, Memory}
use Rattle.radio_link.specs.Line.{LineMeaning, nothing, entry, line_says}

-- the n-th line behind entries
abbrev pub step : ℕ → List Entry → Option LineMeaning → Result (List Entry) ScheduleFault
step n es None = Err (BadLine n)
step n es (Some nothing) = Ok es
step n es (Some (entry e)) = if nat_lt (length es) 65536 then Ok (es ++ e ∷ []) else Err (TooMany n)

-- the lines from the n-th on, behind entries
unfoldable pub read : ℕ → List Entry → List (List ℕ) → Result (List Entry) ScheduleFault
read n es [] = Ok es
read n es (l ∷ ls) = step n es (line_says l) >>= λ es. read (n + 1) es ls

-- what a text says as a schedule, or its first fault
abbrev pub schedule_of : List ℕ → Result (List Entry) ScheduleFault
schedule_of text = read 1 [] (lines text)

-- the fault of a call is that of the text, unless memory was refused
abbrev pub Fails : ScheduleFault → Result (List Entry) ScheduleFault → Type 0
Fails Memory said = Unit {0}
Fails (BadLine n) said = said ≡ Err (BadLine n)
Fails (TooMany n) said = said ≡ Err (TooMany n)

-- what a call returned, seen by `view`, is what the text says, unless memory was refused
abbrev pub Gives : {X : Type 0} → (X → List Entry) → Result X ScheduleFault → Result (List Entry) ScheduleFault → Type 0
Gives view (Ok x) said = said ≡ Ok (view x)
Gives view (Err e) said = Fails e said
