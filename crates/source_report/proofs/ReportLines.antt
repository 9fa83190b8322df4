-- The lines that are left of a report, one behind the other.
use Rattle.std.proofs.Common.{◌≡◌, ◌<◌, ◌≤◌, ◌==◌, ℕ, zero, suc, ◌+◌, ◌-◌, List, [], ◌∷◌, ◌++◌, length, drop, get_or, slice_index}
use Rattle.std.proofs.Common.{arith, ap, ◌∙◌, drop-cons, sym, map, Some, true, if◌then◌else◌}
use Rattle.std.proofs.lemmas.Bool.Decides.{nat_tests}
use Rattle.std.proofs.Math.ListN.{get_or-map}
use Rattle.std.proofs.lemmas.List.{length-map, get_or-map as get_or-map_at}
use Rattle.alp_io.specs.Report.{accepted_line, value_line}
use Rattle.task_ast.specs.declared.SharedDeclaration.{SharedDeclaration}
use Rattle.source_values.specs.Runs.{initial_words}
use Rattle.source_report.specs.SourceReport.{spelled, emitted_lines, change_line, element_lines, variable_lines, change_lines}

pub rest_of_emitted : (words : List ℕ) (i : ℕ) → i < length words → emitted_lines (drop i words) ≡ accepted_line (get_or words i 0)
    ++ emitted_lines (drop (i + 1) words)
rest_of_emitted words i h =
    let split : drop i words ≡ get_or words i 0 ∷ drop (i + 1) words = grind (arith, drop-cons words i 0) in
    ap emitted_lines split

pub rest_of_elements : (name before now : List ℕ) (i : ℕ) → i < length before → i < length now
    → element_lines name i (drop i before) (drop i now)
    ≡ change_line name (Some i) (get_or before i 0) (get_or now i 0) ++ element_lines name (i + 1) (drop (i + 1) before) (drop (i + 1) now)
rest_of_elements name before now i hb hn =
    let split_b : drop i before ≡ get_or before i 0 ∷ drop (i + 1) before = grind (arith, drop-cons before i 0) in
    let split_n : drop i now ≡ get_or now i 0 ∷ drop (i + 1) now = grind (arith, drop-cons now i 0) in
    ap (λ x. element_lines name i x (drop i now)) split_b ∙ ap (element_lines name i (get_or before i 0 ∷ drop (i + 1) before)) split_n

-- no line for words that are the same
unchanged : (name : List ℕ) (i b w : ℕ) → b ≡ w → change_line name (Some i) b w ≡ []
unchanged name i b w e =
    let same : (b == w) ≡ true = grind (arith, nat_tests, e) in
    ap (λ x. if x then [] else value_line name (Some i) w) same

-- the elements up to an index are the same: only those from there on have lines
elements_passed_by : (n : ℕ) (name before now : List ℕ) (i j : ℕ) → j ≡ i + n → j ≤ length before → j ≤ length now
    → ((k : ℕ) → i ≤ k → k < j → slice_index before k ≡ slice_index now k)
    → element_lines name i (drop i before) (drop i now) ≡ element_lines name j (drop j before) (drop j now)
elements_passed_by zero name before now i j e hb hn same =
    let at : i ≡ j = omega arith in
    ap (λ k. element_lines name k (drop k before) (drop k now)) at
elements_passed_by (suc n) name before now i j e hb hn same =
    rest_of_elements name before now i (omega arith) (omega arith)
    ∙ ap (λ line. line ++ element_lines name (i + 1) (drop (i + 1) before) (drop (i + 1) now)) (unchanged name i _ _ (same i (omega arith) (omega arith)))
    ∙ elements_passed_by n name before now (i + 1) j (omega arith) hb hn (λ k low high. same k (omega arith) high)

pub elements_passed : (name before now : List ℕ) (i j : ℕ) → i ≤ j → j ≤ length before → j ≤ length now
    → ((k : ℕ) → i ≤ k → k < j → slice_index before k ≡ slice_index now k)
    → element_lines name i (drop i before) (drop i now) ≡ element_lines name j (drop j before) (drop j now)
elements_passed name before now i j low hb hn same = elements_passed_by (j - i) name before now i j (omega arith) hb hn same

-- rows that are as long as the declarations say
abbrev pub IsShapedBy : List SharedDeclaration → List (List ℕ) → Type 0
IsShapedBy shared rows = map (length {A = ℕ}) rows ≡ map (length {A = ℕ}) (map (λ d. initial_words d.extent) shared)

pub shaped_count : (shared : List SharedDeclaration) (rows : List (List ℕ)) → IsShapedBy shared rows → length rows ≡ length shared
shaped_count shared rows e = sym (length-map rows (length {A = ℕ})) ∙ ap length e ∙ length-map (map (λ d. initial_words d.extent) shared) (length {A = ℕ})
    ∙ length-map shared (λ d. initial_words d.extent)

pub shaped_row : (shared : List SharedDeclaration) (rows : List (List ℕ)) (v : ℕ) (d : SharedDeclaration) → IsShapedBy shared rows
    → v < length shared → length (get_or rows v []) ≡ length (initial_words (get_or shared v d).extent)
shaped_row shared rows v d e h =
    sym (get_or-map (length {A = ℕ}) rows v []) ∙ ap (λ ls. get_or ls v 0) e
    ∙ get_or-map (length {A = ℕ}) (map (λ d. initial_words d.extent) shared) v []
    ∙ ap (length {A = ℕ}) (get_or-map_at (λ d. initial_words d.extent) shared v d [] h)

pub rest_of_changes : (text : List ℕ) (shared : List SharedDeclaration) (before now : List (List ℕ)) (v : ℕ) (d : SharedDeclaration)
    → v < length shared → IsShapedBy shared before → IsShapedBy shared now
    → change_lines text (drop v shared) (drop v before) (drop v now)
    ≡ variable_lines (spelled text (get_or shared v d).name) (get_or shared v d).extent (get_or before v []) (get_or now v [])
    ++ change_lines text (drop (v + 1) shared) (drop (v + 1) before) (drop (v + 1) now)
rest_of_changes text shared before now v d h e f =
    let hb : v < length before = omega (arith, shaped_count shared before e) in
    let hn : v < length now = omega (arith, shaped_count shared now f) in
    let split : drop v shared ≡ get_or shared v d ∷ drop (v + 1) shared = grind (arith, drop-cons shared v d) in
    let split_b : drop v before ≡ get_or before v [] ∷ drop (v + 1) before = grind (arith, drop-cons before v []) in
    let split_n : drop v now ≡ get_or now v [] ∷ drop (v + 1) now = grind (arith, drop-cons now v []) in
    ap (λ x. change_lines text x (drop v before) (drop v now)) split
    ∙ ap (λ x. change_lines text (get_or shared v d ∷ drop (v + 1) shared) x (drop v now)) split_b
    ∙ ap (change_lines text (get_or shared v d ∷ drop (v + 1) shared) (get_or before v [] ∷ drop (v + 1) before)) split_n
