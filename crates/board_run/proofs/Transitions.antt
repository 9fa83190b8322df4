-- The lines of a transition, part by part.
use Rattle.std.proofs.Common.{◌≡◌, ℕ, zero, suc, List, [], ◌++◌, refl, arith, ap, ap₂, sym, subst, ◌∙◌, Option, Result, IsErr, flat_map, true, false}
use Rattle.std.proofs.Common.{not, ◌&&◌, ne_eqb, if◌then◌else◌, append-nil}
use Rattle.std.specs.Io.KnownBytes.{Appends}
use Rattle.alp_io.specs.Count.{risen}
use Rattle.alp_io.specs.Sink.{AppendsProperPrefix, Writes}
use Rattle.alp_io.specs.Report.{accepted_line, step_line}
use Rattle.alp_io.proofs.Interface.{Progress, progress_start, progress_step, progress_err}
use Rattle.image_text.specs.image_map.MapValue.{MapValue}
use Rattle.fram_board.specs.Board.{BoardValue}
use Rattle.board_run.specs.History.{History, task_name, word_in, more_lines, changed_lines, shared_numbers, transition_lines, is_done, is_decide, decided}
use Rattle.board_run.specs.History.{completed, gated}

-- the parts as they are written
pub record AreParts (m : MapValue) (h : History) (b : BoardValue) (k : ℕ) (t n : Option (List ℕ)) (ws : List ℕ) : Type 0 where
  pub number : k ≡ risen h.completed
  pub task : t ≡ task_name m.tasks h.task
  pub next : n ≡ task_name m.tasks (word_in b.fram m.words.current_task)
  pub words : ws ≡ h.accepted

pub parts_are : (m : MapValue) (h : History) (b : BoardValue) (k : ℕ) (task next : Option (List ℕ)) (words : List ℕ) → AreParts m h b k task next words
    → step_line k task next h.span_from h.span_to ++
    (flat_map accepted_line words ++ (more_lines h.more ++ changed_lines (shared_numbers m.variables) h.shared b.fram)) ≡ transition_lines m h b
parts_are m h b k task next words p =
    let rest : List ℕ → List ℕ = λ ws. flat_map accepted_line ws ++ (more_lines h.more ++ changed_lines (shared_numbers m.variables) h.shared b.fram) in
    ap (λ n. step_line n task next h.span_from h.span_to ++ rest words) p.number
    ∙ ap (λ t. step_line (risen h.completed) t next h.span_from h.span_to ++ rest words) p.task
    ∙ ap (λ t. step_line (risen h.completed) (task_name m.tasks h.task) t h.span_from h.span_to ++ rest words) p.next
    ∙ ap (λ ws. step_line (risen h.completed) (task_name m.tasks h.task)
    (task_name m.tasks (word_in b.fram m.words.current_task)) h.span_from h.span_to ++ rest ws) p.words

-- a cut in the second part, in the third, and in the last
pub cut_second : {T E : Type 0} (old mid new : Option (List ℕ)) (result : Result T E) (a b rest whole : List ℕ) → IsErr result → a ++ (b ++ rest) ≡ whole
    → Appends old mid a → AppendsProperPrefix mid new b → Writes old new result whole
cut_second old mid new result a b rest whole e is first cut =
    let P : List ℕ → Type 0 = λ t. Writes old new result t in
    subst P is (progress_err old mid new result b rest (a ++ (b ++ rest)) e
    (progress_step old old mid a (b ++ rest) (a ++ (b ++ rest)) (progress_start old (a ++ (b ++ rest))) first) cut)

pub cut_third : {T E : Type 0} (old one two new : Option (List ℕ)) (result : Result T E) (a b c rest whole : List ℕ) → IsErr result
    → a ++ (b ++ (c ++ rest)) ≡ whole → Appends old one a → Appends one two b → AppendsProperPrefix two new c
    → Writes old new result whole
cut_third old one two new result a b c rest whole e is first second cut =
    let text : List ℕ = a ++ (b ++ (c ++ rest)) in
    let P : List ℕ → Type 0 = λ t. Writes old new result t in
    subst P is (progress_err old two new result c rest text e
    (progress_step old one two b (c ++ rest) text (progress_step old old one a (b ++ (c ++ rest)) text (progress_start old text) first) second) cut)

pub cut_fourth : {T E : Type 0} (old one two three new : Option (List ℕ)) (result : Result T E) (a b c d whole : List ℕ) → IsErr result
    → a ++ (b ++ (c ++ d)) ≡ whole → Appends old one a → Appends one two b → Appends two three c
    → AppendsProperPrefix three new d → Writes old new result whole
cut_fourth old one two three new result a b c d whole e is first second third cut =
    let text : List ℕ = a ++ (b ++ (c ++ d)) in
    let P : List ℕ → Type 0 = λ t. Writes old new result t in
    let Q : List ℕ → Type 0 = λ t. Progress old three t text in
    subst P is (progress_err old three new result d [] text e
    (subst Q (sym (append-nil d)) (progress_step old two three c d text
    (progress_step old one two b (c ++ d) text (progress_step old old one a (b ++ (c ++ d)) text (progress_start old text) first) second) third)) cut)

-- GATE came to 1
pub decided_gate : (m : MapValue) (h : History) (b : BoardValue) (now : ℕ) → is_done h.gate now ≡ false → is_decide h.gate now ≡ true
    → record (decided h b) { gate = now } ≡ gated m h b now
decided_gate m h b now e f =
    ap (λ t. record (if t then decided h b else h) { gate = now }) (sym f)
    ∙ ap (λ t. record (if t then completed m h b else (if is_decide h.gate now then decided h b else h)) { gate = now }) (sym e)

-- GATE that is as it was neither decides nor ends anything
no_event : (gate : ℕ) → (is_done gate gate ≡ false) × (is_decide gate gate ≡ false)
no_event zero = (refl, refl)
no_event (suc zero) = (refl, refl)
no_event (suc (suc n)) =
    let not_one = ne_eqb (suc (suc n)) 1 (λ e. omega (arith, e)) in
    (ap₂ (λ p q. p && q) (ne_eqb (suc (suc n)) 0 (λ e. omega (arith, e))) not_one, ap (λ q. q && not q) not_one)

same_gate : (m : MapValue) (h : History) (b : BoardValue) → gated m h b h.gate ≡ h
same_gate m h b =
    ap (λ t. record (if t then completed m h b else if is_decide h.gate h.gate then decided h b else h) { gate = h.gate }) (no_event h.gate).0
    ∙ ap (λ t. record (if t then decided h b else h) { gate = h.gate }) (no_event h.gate).1

pub still_gated : (m : MapValue) (h k : History) (b : BoardValue) (gate : ℕ) → h.gate ≡ gate → h ≡ k → h ≡ gated m k b gate
still_gated m h k b gate is same = sym (same_gate m h b) ∙ ap (gated m h b) is ∙ ap (λ x. gated m x b gate) same
