-- An end that an audit reads isn't `off`.
use Rattle.std.proofs.Common.{◌≡◌, subst, if◌then◌else◌, ℕ, Bool, true, false, List, [], ◌∷◌, codes, Option, Some, None}
use Rattle.std.specs.Str.{bytes_eq}
use Rattle.alp_io.specs.declared.report.Reason.{Reason}
use Rattle.alp_io.specs.declared.report.Reason.TheVariants.{Charges, Readings, Off, Limit}
use Rattle.source_values.specs.Values.{◌>>?◌}
use Rattle.report_audit.specs.Entry.{number_in, span_of, end_of, entry_of}
use Rattle.report_audit.specs.declared.entry.Entry.{Entry}
use Rattle.report_audit.specs.declared.entry.Entry.TheVariants.{Transition, End}

-- what is read is no end by `off`
abbrev IsOnBoard : Entry → Type 0
IsOnBoard (Transition from to) = Unit {0}
IsOnBoard (End reason accepted repeats) = reason ≡ Off → ⊥

abbrev WhereRead : Option Entry → Type 0
WhereRead None = Unit {0}
WhereRead (Some e) = IsOnBoard e

span_read : (a b : Option ℕ) → WhereRead (a >>? λ x. b >>? λ y. Some (Transition x y))
span_read None b = tt
span_read (Some a) None = tt
span_read (Some a) (Some b) = tt

spans_read : (fs : List (List ℕ)) → WhereRead (span_of fs)
spans_read [] = tt
spans_read (k ∷ []) = tt
spans_read (k ∷ task ∷ []) = tt
spans_read (k ∷ task ∷ next ∷ []) = tt
spans_read (k ∷ task ∷ next ∷ from ∷ []) = tt
spans_read (k ∷ task ∷ next ∷ from ∷ to ∷ rest) = span_read (number_in from) (number_in to)

counts_read : (r : Reason) → (r ≡ Off → ⊥) → (a b : Option ℕ) → WhereRead (a >>? λ x. b >>? λ y. Some (End r x y))
counts_read r other None b = tt
counts_read r other (Some a) None = tt
counts_read r other (Some a) (Some b) = other

reason_read : (x y z : Bool) (a b : Option ℕ)
    → WhereRead ((if x then Some Charges else (if y then Some Readings else (if z then Some Limit else None)))
    >>? λ r. a >>? λ n. b >>? λ m. Some (End r n m))
reason_read true y z a b = counts_read Charges (λ e. cc e) a b
reason_read false true z a b = counts_read Readings (λ e. cc e) a b
reason_read false false true a b = counts_read Limit (λ e. cc e) a b
reason_read false false false a b = tt

ends_read : (fs : List (List ℕ)) → WhereRead (end_of fs)
ends_read [] = tt
ends_read (reason ∷ []) = tt
ends_read (reason ∷ t ∷ []) = tt
ends_read (reason ∷ t ∷ accepted ∷ []) = tt
ends_read (reason ∷ t ∷ accepted ∷ repeats ∷ rest) =
    reason_read (bytes_eq reason (codes "charges")) (bytes_eq reason (codes "readings")) (bytes_eq reason (codes "limit")) (number_in accepted)
    (number_in repeats)

by_word : (x y : Bool) (o p : Option Entry) → WhereRead o → WhereRead p → WhereRead (if x then o else (if y then p else None))
by_word true y o p h k = h
by_word false true o p h k = k
by_word false false o p h k = tt

all_read : (fs : List (List ℕ)) → WhereRead (entry_of fs)
all_read [] = tt
all_read (word ∷ rest) =
    by_word (bytes_eq word (codes "t")) (bytes_eq word (codes "end")) (span_of rest) (end_of rest) (spans_read rest) (ends_read rest)

pub never_off : (fs : List (List ℕ)) (reason : Reason) (accepted repeats : ℕ) → entry_of fs ≡ Some (End reason accepted repeats) → reason ≡ Off → ⊥
never_off fs reason accepted repeats e = subst WhereRead e (all_read fs)
