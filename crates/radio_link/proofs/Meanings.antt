-- What reading gives is the meaning of the lines.
use Rattle.std.proofs.Common.{◌≡◌, ◌≤◌, ℕ, ◌+◌, List, [], ◌∷◌, ◌++◌, length, map, refl, ap, sym, ◌∙◌, arith, subst, nat_lt, if◌then◌else◌, Bool, true, false}
use Rattle.std.proofs.Common.{Option, Some, None, Result, Ok, Err, append_assoc, length-append, append-nil}
use Rattle.std.proofs.lemmas.Bool.Decides.{nat_tests}
use Rattle.std.proofs.lemmas.List.{map-append}
use Rattle.radio_link.specs.declared.entry.Entry.{Entry}
use Rattle.radio_link.specs.declared.fault.ScheduleFault.{ScheduleFault}
use Rattle.radio_link.specs.declared.fault.ScheduleFault.TheVariants.{BadLine, TooMany, Memory}
use Rattle.radio_link.specs.Line.{LineMeaning, nothing, entry, line_says}
use Rattle.radio_link.specs.Reading.{step, read, Gives, ◌>>=◌}
use Rattle.radio_link.specs.Meaning.{entries_of, AreLinesOf, FaultAt, IsBadLine, IsTooMany, IsMeaningOf}

entries_append : (ms ns : List LineMeaning) → entries_of (ms ++ ns) ≡ entries_of ms ++ entries_of ns
entries_append [] ns = refl
entries_append (nothing ∷ ms) ns = entries_append ms ns
entries_append (entry e ∷ ms) ns = ap (λ r. e ∷ r) (entries_append ms ns)

-- one line more
more_lines : (done : List (List ℕ)) (l : List ℕ) (es fs : List Entry) (m : LineMeaning) → AreLinesOf done es → line_says l ≡ Some m
    → fs ≡ es ++ entries_of (m ∷ []) → length fs ≤ 65536 → AreLinesOf (done ++ l ∷ []) fs
more_lines done l es fs m h e more few = record {
  meanings = h.meanings ++ m ∷ [];
  lines = map-append line_says done (l ∷ []) ∙ ap (λ r. r ++ line_says l ∷ []) h.lines ∙ ap (λ o. map Some h.meanings ++ o ∷ []) e
      ∙ sym (map-append Some h.meanings (m ∷ []));
  entries = more ∙ ap (λ r. r ++ entries_of (m ∷ [])) h.entries ∙ sym (entries_append h.meanings (m ∷ []));
  few = few;
}

-- whatever lines come behind those that are read
abbrev ReadingContinues : List (List ℕ) → Type 0
ReadingContinues ls = (done : List (List ℕ)) (es : List Entry) → AreLinesOf done es → IsMeaningOf (done ++ ls) (read (length done + 1) es ls)

fault_at : (done ls : List (List ℕ)) (l : List ℕ) (es : List Entry) (IsFault : List Entry → Option LineMeaning → Type 0) → AreLinesOf done es
    → IsFault es (line_says l) → FaultAt (done ++ l ∷ ls) (length done + 1) IsFault
fault_at done ls l es IsFault h f = record { before = done; line = l; behind = ls; made = refl; number = refl; entries = es; read = h; fault = f }

-- a line that is read, and those behind it
next_line : (done ls : List (List ℕ)) (l : List ℕ) (es fs : List Entry) (m : LineMeaning) → ReadingContinues ls → AreLinesOf done es → line_says l ≡ Some m
    → fs ≡ es ++ entries_of (m ∷ []) → length fs ≤ 65536 → IsMeaningOf (done ++ l ∷ ls) (read (length done + 1 + 1) fs ls)
next_line done ls l es fs m next h e more few =
    let rest = next (done ++ l ∷ []) fs (more_lines done l es fs m h e more few) in
    let len : length (done ++ l ∷ []) + 1 ≡ length done + 1 + 1 = ap (λ k. k + 1) (length-append done (l ∷ [])) in
    let P : List (List ℕ) → Type 0 = λ ls'. IsMeaningOf ls' (read (length (done ++ l ∷ []) + 1) fs ls) in
    let Q : ℕ → Type 0 = λ k. IsMeaningOf (done ++ l ∷ ls) (read k fs ls) in
    subst Q len (subst P (append_assoc done (l ∷ []) ls) rest)

room_by : (room : Bool) (done ls : List (List ℕ)) (l : List ℕ) (es : List Entry) (e : Entry) → ReadingContinues ls → AreLinesOf done es
    → line_says l ≡ Some (entry e) → nat_lt (length es) 65536 ≡ room
    → IsMeaningOf (done ++ l ∷ ls) ((if room then Ok (es ++ e ∷ []) else Err (TooMany (length done + 1))) >>= λ es. read (length done + 1 + 1) es ls)
room_by true done ls l es e next h said room =
    let few : length es ≤ 65535 = grind (arith, nat_tests, room) in
    next_line done ls l es (es ++ e ∷ []) (entry e) next h said refl (omega (arith, length-append es (e ∷ [])))
room_by false done ls l es e next h said room =
    let few : length es ≤ 65536 = h.few in fault_at done ls l es IsTooMany h (e, said, grind (arith, nat_tests, room))

says_by : (said : Option LineMeaning) (done ls : List (List ℕ)) (l : List ℕ) (es : List Entry) → ReadingContinues ls → AreLinesOf done es → line_says l ≡ said
    → IsMeaningOf (done ++ l ∷ ls) (step (length done + 1) es said >>= λ es. read (length done + 1 + 1) es ls)
says_by None done ls l es next h e = fault_at done ls l es IsBadLine h e
says_by (Some nothing) done ls l es next h e = next_line done ls l es es nothing next h e (sym (append-nil es)) h.few
says_by (Some (entry x)) done ls l es next h e = room_by (nat_lt (length es) 65536) done ls l es x next h e refl

-- reading goes on to the meaning of all lines
goes_on : (ls : List (List ℕ)) → ReadingContinues ls
unfolding read
goes_on [] done es h = let P : List (List ℕ) → Type 0 = λ ls. AreLinesOf ls es in subst P (sym (append-nil done)) h
goes_on (l ∷ ls) done es h = says_by (line_says l) done ls l es (goes_on ls) h refl

start : AreLinesOf [] []
start = record { meanings = []; lines = refl; entries = refl; few = omega arith }

-- what a call gives is the meaning of the lines
pub meaning_is : (r : Result (List Entry) ScheduleFault) (ls : List (List ℕ)) → Gives (λ s. s) r (read 1 [] ls) → IsMeaningOf ls r
meaning_is (Ok es) ls h = let P : Result (List Entry) ScheduleFault → Type 0 = λ r. IsMeaningOf ls r in subst P h (goes_on ls [] [] start)
meaning_is (Err (BadLine n)) ls h = let P : Result (List Entry) ScheduleFault → Type 0 = λ r. IsMeaningOf ls r in subst P h (goes_on ls [] [] start)
meaning_is (Err (TooMany n)) ls h = let P : Result (List Entry) ScheduleFault → Type 0 = λ r. IsMeaningOf ls r in subst P h (goes_on ls [] [] start)
meaning_is (Err Memory) ls h = tt
