-- What the fields of a line say that begins a transition, `t K TASK NEXT A B`, or ends a report, `end REASON T ACCEPTED REPEATS`.
use Rattle.std.specs.Prelude.{ℕ, List, [], ◌∷◌, if◌then◌else◌, Option, Some, None, Ok, Err, Result, codes}
use Rattle.std.specs.Str.{bytes_eq}
use Rattle.alp_io.specs.declared.report.Reason.{Reason}
use Rattle.alp_io.specs.declared.report.Reason.TheVariants.{Charges, Readings, Limit}
use Rattle.alp_text.specs.Numbers.{number_of}
use Rattle.alp_text.specs.declared.numbers.NumberFault.{NumberFault}
use Rattle.source_values.specs.Values.{◌>>?◌}
use Rattle.report_audit.specs.declared.entry.Entry.{Entry}
use Rattle.report_audit.specs.declared.entry.Entry.TheVariants.{Transition, End}

-- the value, where there is one
abbrev pub said : Result ℕ NumberFault → Option ℕ
said (Ok n) = Some n
said (Err e) = None

-- the number that a field spells
abbrev pub number_in : List ℕ → Option ℕ
number_in field = said (number_of field)

-- the reasons that a report may end with
abbrev pub reason_of : List ℕ → Option Reason
reason_of field = if bytes_eq field (codes "charges") then Some Charges
    else (if bytes_eq field (codes "readings") then Some Readings
    else (if bytes_eq field (codes "limit") then Some Limit else None))

-- `K TASK NEXT A B`: the readings
abbrev pub span_of : List (List ℕ) → Option Entry
span_of (k ∷ task ∷ next ∷ from ∷ to ∷ rest) = number_in from >>? λ a. number_in to >>? λ b. Some (Transition a b)
span_of fields = None

-- `REASON T ACCEPTED REPEATS`: all but T
abbrev pub end_of : List (List ℕ) → Option Entry
end_of (reason ∷ t ∷ accepted ∷ repeats ∷ rest) =
    reason_of reason >>? λ r. number_in accepted >>? λ a. number_in repeats >>? λ n. Some (End r a n)
end_of fields = None

-- the whole line
abbrev pub entry_of : List (List ℕ) → Option Entry
entry_of [] = None
entry_of (word ∷ rest) = if bytes_eq word (codes "t") then span_of rest else (if bytes_eq word (codes "end") then end_of rest else None)
