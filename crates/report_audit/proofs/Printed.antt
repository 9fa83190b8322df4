-- What the lines of a report say, as they are printed: their fields, and what an audit reads in them.
use Rattle.std.proofs.Common.{◌≡◌, ◌<◌, ◌^◌, ℕ, ◌+◌, ◌==◌, ◌&&◌, nat_le, List, [], ◌∷◌, ◌++◌, length, length-append, take, arith, refl, ap, ◌∙◌, subst}
use Rattle.std.proofs.Common.{not, append_assoc, codes, decimal, true, false, Option, Some, None, slice_get}
use Rattle.std.specs.List.{list_all}
use Rattle.std.proofs.lemmas.Bool.{and_parts}
use Rattle.std.proofs.lemmas.Bool.Decides.{nat_tests}
use Rattle.std.proofs.Math.Seq.{take-append_seam}
use Rattle.std.proofs.lemmas.List.Elements.{All-get_or}
use Rattle.std.proofs.lemmas.Option.{slice_get_within, get_or_from_slice_get}
use Rattle.std.specs.Option.{option_map}
use Rattle.std.specs.Char.{is_ascii_digit}
use Rattle.alp_text.specs.Lines.{line_len}
use Rattle.alp_text.proofs.Interface.{number_back}
use Rattle.alp_io.specs.declared.report.Reason.{Reason}
use Rattle.alp_io.specs.declared.report.Reason.TheVariants.{Charges, Readings, Off, Limit}
use Rattle.alp_io.specs.Report.{task_text, step_line, end_line, bound_line, reason_text}
use Rattle.text_parts.specs.Fields.{fields}
use Rattle.text_parts.specs.Printed.{spaced}
use Rattle.text_parts.proofs.Interface.{Inked, AreWords, decimal_word, fields_spaced}
use Rattle.source_maps.specs.model_runs.image_map.Names.{is_name_byte, is_name}
use Rattle.source_values.specs.Runs.{CheckedTask, CheckedProgram, Transition}
use Rattle.source_report.specs.SourceReport.{Committed, spelled, task_name, emitted_lines, change_lines, transition_lines}
use Rattle.source_maps.specs.Names.{HasNames}
use Rattle.report_audit.specs.Entry.{entry_of}
use Rattle.report_audit.specs.declared.entry.Entry.TheVariants as entry
use Rattle.report_audit.specs.Fronts.{first_line}

-- words with a line feed behind them, and then a text
abbrev pub fed : List (List ℕ) → List ℕ → List ℕ
fed ws rest = spaced ws ++ 10 ∷ rest

-- no byte of a word ends a line
inked_len : (bs rest : List ℕ) → Inked bs → line_len (bs ++ rest) ≡ length bs + line_len rest
inked_len [] rest h = omega arith
inked_len (b ∷ bs) rest h =
    let more = inked_len bs rest h.1 in
    let other : (b == 10) ≡ false = grind (arith, nat_tests, h) in
    rw other (omega (arith, more))

-- nor the space between two
spaced_len : (ws : List (List ℕ)) (rest : List ℕ) → AreWords ws → line_len (fed ws rest) ≡ length (spaced ws)
spaced_len [] rest h = refl
spaced_len ([] ∷ ws) rest h = absurd h
spaced_len ((b ∷ bs) ∷ []) rest h = let one = inked_len (b ∷ bs) (10 ∷ rest) (h.0, h.1) in omega (arith, one)
spaced_len ((b ∷ bs) ∷ v ∷ ws) rest h =
    let one = inked_len (b ∷ bs) (32 ∷ fed (v ∷ ws) rest) (h.0, h.1) in
    let more = spaced_len (v ∷ ws) rest h.2 in
    let both = length-append (b ∷ bs) (32 ∷ spaced (v ∷ ws)) in
    ap line_len (append_assoc (b ∷ bs) (32 ∷ spaced (v ∷ ws)) (10 ∷ rest)) ∙ omega (arith, one, more, both)

-- the first line is these words
pub first_line_is : (ws : List (List ℕ)) (rest : List ℕ) → AreWords ws → first_line (fed ws rest) ≡ spaced ws
first_line_is ws rest h = ap (λ n. take n (fed ws rest)) (spaced_len ws rest h) ∙ take-append_seam (spaced ws) (10 ∷ rest)

pub fields_are : (ws : List (List ℕ)) (rest : List ℕ) → AreWords ws → fields (first_line (fed ws rest)) ≡ ws
fields_are ws rest h = ap fields (first_line_is ws rest h) ∙ fields_spaced ws h

-- the fields of the lines
abbrev pub step_words : ℕ → Option (List ℕ) → Option (List ℕ) → ℕ → ℕ → List (List ℕ)
step_words k task next a b = codes "t" ∷ decimal k ∷ task_text task ∷ task_text next ∷ decimal a ∷ decimal b ∷ []

abbrev pub end_words : Reason → ℕ → ℕ → ℕ → List (List ℕ)
end_words reason t accepted repeats = codes "end" ∷ reason_text reason ∷ decimal t ∷ decimal accepted ∷ decimal repeats ∷ []

pub step_is : (k : ℕ) (task next : Option (List ℕ)) (a b : ℕ) (rest : List ℕ) → step_line k task next a b ++ rest ≡ fed (step_words k task next a b) rest
unfolding step_line
step_is k task next a b rest = simp append_assoc

pub end_is : (reason : Reason) (t accepted repeats : ℕ) (rest : List ℕ)
    → end_line reason t accepted repeats ++ rest ≡ fed (end_words reason t accepted repeats) rest
unfolding end_line
end_is reason t accepted repeats rest = simp append_assoc

pub bound_is : (b : ℕ) (rest : List ℕ) → bound_line b ++ rest ≡ fed (codes "bound" ∷ decimal b ∷ []) rest
unfolding bound_line
bound_is b rest = simp append_assoc

-- a name, or a question mark
abbrev IsNamed : Option (List ℕ) → Type 0
IsNamed None = Unit {0}
IsNamed (Some name) = is_name name ≡ true

-- the bytes of a name are those of a word
named_bytes : (b : ℕ) (bs : List ℕ) → list_all is_name_byte (b ∷ bs) ≡ true → (36 < b) × Inked bs
named_bytes b [] h = let one = (and_parts (is_name_byte b) true h).0 in (grind (arith, nat_tests, one), tt)
named_bytes b (c ∷ bs) h =
    let both = and_parts (is_name_byte b) (list_all is_name_byte (c ∷ bs)) h in
    let one = both.0 in
    (grind (arith, nat_tests, one), named_bytes c bs both.1)

task_word : (o : Option (List ℕ)) (ws : List (List ℕ)) → IsNamed o → AreWords ws → AreWords (task_text o ∷ ws)
task_word None ws h l = (omega arith, tt, l)
task_word (Some []) ws h l = cc
task_word (Some (b ∷ bs)) ws h l =
    let short = and_parts (nat_le (length (b ∷ bs)) 31) (not (is_ascii_digit b) && list_all is_name_byte (b ∷ bs)) h in
    let begun = and_parts (not (is_ascii_digit b)) (list_all is_name_byte (b ∷ bs)) short.1 in
    let bytes = named_bytes b bs begun.1 in
    (bytes.0, bytes.1, l)

reason_word : (reason : Reason) (ws : List (List ℕ)) → AreWords ws → AreWords (reason_text reason ∷ ws)
reason_word Charges ws l = (omega arith, (omega arith, (omega arith, (omega arith, (omega arith, (omega arith, (omega arith, tt)))))), l)
reason_word Readings ws l = (omega arith, (omega arith, (omega arith, (omega arith, (omega arith, (omega arith, (omega arith, (omega arith, tt))))))), l)
reason_word Off ws l = (omega arith, (omega arith, (omega arith, tt)), l)
reason_word Limit ws l = (omega arith, (omega arith, (omega arith, (omega arith, (omega arith, tt)))), l)

-- the task of each number has a name, or none has this number
named : (source : List ℕ) (program : CheckedProgram) (task : ℕ) → HasNames source program → IsNamed (task_name source program task)
named source program task names = by_task (slice_get program.tasks task) refl
  where
    by_task : (o : Option (CheckedTask)) → slice_get program.tasks task ≡ o → IsNamed (option_map (λ t. spelled source t.name) o)
    by_task None e = tt
    by_task (Some t) e =
        let P : CheckedTask → Type 0 = λ x. is_name (spelled source x.name) ≡ true in
        subst P (get_or_from_slice_get program.tasks task t t e) (All-get_or P program.tasks task t (slice_get_within program.tasks task t e) names.tasks)

module _ (source : List ℕ) (program : CheckedProgram) (names : HasNames source program) where
  -- the words of the first line of a transition
  abbrev pub words_of : ℕ → Committed → Transition → List (List ℕ)
  words_of k span t = step_words k (task_name source program t.from) (task_name source program t.next) span.from span.to

  pub are_words : (k : ℕ) (span : Committed) (t : Transition) → k < 2 ^ 64 → span.from < 2 ^ 64 → span.to < 2 ^ 64 → AreWords (words_of k span t)
  are_words k span t few a b = (
    omega arith,
    tt,
    decimal_word k _ few (task_word (task_name source program t.from) _ (named source program t.from names)
        (task_word (task_name source program t.next) _ (named source program t.next names) (decimal_word span.from _ a (decimal_word span.to [] b tt)))),
  )

  -- the lines of a transition begin with that line
  pub more_of : Transition → List ℕ
  more_of t = emitted_lines t.emitted ++ change_lines source program.shared t.before t.after

  pub transition_is : (k : ℕ) (span : Committed) (t : Transition) (rest : List ℕ)
      → transition_lines source program k span t ++ rest ≡ fed (words_of k span t) (more_of t ++ rest)
  unfolding transition_lines more_of
  transition_is k span t rest =
      append_assoc (step_line k (task_name source program t.from) (task_name source program t.next) span.from span.to) _ rest
      ∙ step_is k (task_name source program t.from) (task_name source program t.next) span.from span.to _

  pub transition_says : (k : ℕ) (span : Committed) (t : Transition) (rest : List ℕ) → k < 2 ^ 64 → span.from < 2 ^ 64 → span.to < 2 ^ 64
      → entry_of (fields (first_line (transition_lines source program k span t ++ rest))) ≡ Some (entry.Transition span.from span.to)
  transition_says k span t rest few a b =
      ap (λ text. entry_of (fields (first_line text))) (transition_is k span t rest)
      ∙ ap entry_of (fields_are (words_of k span t) (more_of t ++ rest) (are_words k span t few a b))
      ∙ rw (number_back span.from a, number_back span.to b) refl

pub end_says : (reason : Reason) (t accepted repeats : ℕ) (rest : List ℕ) → (reason ≡ Off → ⊥) → t < 2 ^ 64 → accepted < 2 ^ 64 → repeats < 2 ^ 64
    → entry_of (fields (first_line (end_line reason t accepted repeats ++ rest))) ≡ Some (entry.End reason accepted repeats)
end_says reason t accepted repeats rest on_board few a b =
    ap (λ text. entry_of (fields (first_line text))) (end_is reason t accepted repeats rest)
    ∙ ap entry_of (fields_are (end_words reason t accepted repeats) rest are)
    ∙ by_reason reason on_board
  where
    are : AreWords (end_words reason t accepted repeats)
    are =
        let counts = decimal_word t _ few (decimal_word accepted _ a (decimal_word repeats [] b tt)) in
        (omega arith, (omega arith, (omega arith, tt)), reason_word reason _ counts)

    by_reason : (r : Reason) → (r ≡ Off → ⊥) → entry_of (end_words r t accepted repeats) ≡ Some (entry.End r accepted repeats)
    by_reason Charges h = rw (number_back accepted a, number_back repeats b) refl
    by_reason Readings h = rw (number_back accepted a, number_back repeats b) refl
    by_reason Off h = absurd (h refl)
    by_reason Limit h = rw (number_back accepted a, number_back repeats b) refl
