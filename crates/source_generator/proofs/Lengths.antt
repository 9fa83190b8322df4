-- How long a generated text is at most.
use Rattle.std.proofs.Common.{◌≡◌, ℕ, zero, suc, ◌+◌, ◌*◌, ◌/◌, ◌%◌, ◌<◌, ◌≤◌, Bool, true, false, if◌then◌else◌, List, [], ◌∷◌, ◌++◌, length, codes, ap}
use Rattle.std.proofs.Common.{arith, length-append}
use Rattle.std.specs.Fmt.{decimal}
use Rattle.std.specs.Prelude.{flat_map, sum_by, ◌==◌}
use Rattle.std.proofs.lemmas.Fmt.{length-decimal-le}
use Rattle.std.proofs.lemmas.List.Concat.{length-flat_map}
use Rattle.std.proofs.lemmas.List.Sums.{sum_by-le}
use Rattle.source_generator.specs.Draws.{next, drawn, draws, behind}
use Rattle.source_generator.specs.Source.{texts, template, letter_text, filled, statement_text, scalar_text, scalar_texts, task_head, task_end, task_text}
use Rattle.source_generator.specs.Source.{task_texts, generated_text}

-- the longer of two texts
either_le : (c : Bool) (n : ℕ) (xs ys : List ℕ) → length xs ≤ n → length ys ≤ n → length (if c then xs else ys) ≤ n
either_le true n xs ys h k = h
either_le false n xs ys h k = k

drawn_small : (s : ℕ) → drawn s < 65536
drawn_small s = omega arith

number_le : (n : ℕ) → n < 65536 → length (decimal n) ≤ 5
number_le n h = length-decimal-le 5 n (omega arith) (omega arith) (omega arith)

letter_le : (d b : ℕ) → d < 65536 → length (letter_text d b) ≤ 5
unfolding letter_text
letter_le d b h =
    either_le (b == 65) 5 (decimal (d / 6 % 8)) _ (number_le _ (omega arith))
    (either_le (b == 66) 5 (decimal (d / 48 % 8)) _ (number_le _ (omega arith))
    (either_le (b == 67) 5 (decimal (d / 384 % 2)) _ (number_le _ (omega arith))
    (either_le (b == 68) 5 (decimal d) (b ∷ []) (number_le d h) (omega arith))))

template_le : (k : ℕ) → length (template k) ≤ 48
template_le k =
    either_le (k == 0) 48 (codes "xA = xB + sense();") _ (omega arith)
    (either_le (k == 1) 48 (codes "aC[xA] = xB;") _ (omega arith)
    (either_le (k == 2) 48 (codes "xA = aC[xB % 32] ^ D;") _ (omega arith)
    (either_le (k == 3) 48 (codes "if (xA < xB) { xA = D; } else { emit(xB); }") _ (omega arith)
    (either_le (k == 4) 48 (codes "for (i = 0; i < 8; i++) { aC[i] = aC[i] + xB; }") (codes "emit(xA * xB);") (omega arith) (omega arith)))))

filled_le : (d : ℕ) (text : List ℕ) → d < 65536 → length (filled d text) ≤ length text * 5
filled_le d text h =
    let sum : length (filled d text) ≡ sum_by (λ b. length (letter_text d b)) text = length-flat_map (letter_text d) text in
    let few : sum_by (λ b. length (letter_text d b)) text ≤ length text * 5 = sum_by-le (λ b. length (letter_text d b)) 5 text (λ k b _. letter_le d _ h) in
    omega (arith, sum, few)

-- a text in pieces
pieces_le : (m n : ℕ) (text : List ℕ) (more : List (List ℕ)) → length text ≤ m → length (texts more) ≤ n → length (texts (text ∷ more)) ≤ m + n
pieces_le m n text more h k = let sum : length (text ++ texts more) ≡ length text + length (texts more) = length-append text (texts more) in
    omega (arith, sum, h, k)

both_le : (m n : ℕ) (xs ys : List ℕ) → length xs ≤ m → length ys ≤ n → length (xs ++ ys) ≤ m + n
both_le m n xs ys h k = let sum : length (xs ++ ys) ≡ length xs + length ys = length-append xs ys in omega (arith, sum, h, k)

statement_le : (d : ℕ) → d < 65536 → length (statement_text d) ≤ 250
unfolding statement_text
statement_le d h =
    let few : length (template (d % 6)) ≤ 48 = template_le (d % 6) in
    let filling : length (filled d (template (d % 6))) ≤ length (template (d % 6)) * 5 = filled_le d (template (d % 6)) h in
    pieces_le 2 248 (codes "  ") (filled d (template (d % 6)) ∷ codes "\n" ∷ []) (omega arith)
    (pieces_le 247 1 (filled d (template (d % 6))) (codes "\n" ∷ []) (omega (arith, few, filling)) (omega arith))

statements_le : (n s : ℕ) → length (flat_map statement_text (draws n s)) ≤ n * 250
unfolding draws
statements_le zero s = omega arith
statements_le (suc n) s =
    let both : length (statement_text (drawn s) ++ flat_map statement_text (draws n (next s))) ≤ 250 + n * 250 =
    both_le 250 (n * 250) _ _ (statement_le (drawn s) (drawn_small s)) (statements_le n (next s)) in
    omega (arith, both)

scalar_le : (k d : ℕ) → k < 65536 → d < 65536 → length (scalar_text k d) ≤ 50
unfolding scalar_text
scalar_le k d h g =
    pieces_le 17 33 (codes "shared unsigned x") (decimal k ∷ codes " = " ∷ decimal d ∷ codes ";\n" ∷ []) (omega arith)
    (pieces_le 5 28 (decimal k) (codes " = " ∷ decimal d ∷ codes ";\n" ∷ []) (number_le k h)
    (pieces_le 3 25 (codes " = ") (decimal d ∷ codes ";\n" ∷ []) (omega arith)
    (pieces_le 5 20 (decimal d) (codes ";\n" ∷ []) (number_le d g) (omega arith))))

scalars_le : (n k s : ℕ) → k + n ≤ 65536 → length (scalar_texts k (draws n s)) ≤ n * 50
unfolding draws
scalars_le zero k s h = omega arith
scalars_le (suc n) k s h =
    let both : length (scalar_text k (drawn s) ++ scalar_texts (k + 1) (draws n (next s))) ≤ 50 + n * 50 =
    both_le 50 (n * 50) _ _ (scalar_le k (drawn s) (omega (arith, h)) (drawn_small s)) (scalars_le n (k + 1) (next s) (omega (arith, h))) in
    omega (arith, both)

head_le : (k : ℕ) → k < 65536 → length (task_head k) ≤ 30
unfolding task_head
head_le k h = pieces_le 6 24 (codes "task t") (decimal k ∷ codes " {\n  unsigned i;\n" ∷ []) (omega arith)
    (pieces_le 5 19 (decimal k) (codes " {\n  unsigned i;\n" ∷ []) (number_le k h) (omega arith))

end_le : (k e : ℕ) → length (task_end k e) ≤ 30
unfolding task_end
end_le k e = pieces_le 17 13 (codes "  transition_to(t") (decimal ((k + 1 + e % 3) % 16) ∷ codes ");\n}\n" ∷ []) (omega arith)
    (pieces_le 5 8 (decimal ((k + 1 + e % 3) % 16)) (codes ");\n}\n" ∷ []) (number_le _ (omega arith)) (omega arith))

task_le : (k s : ℕ) → k < 65536 → length (task_text k s) ≤ 1560
unfolding task_text
task_le k s h = both_le 30 1530 (task_head k) _ (head_le k h)
    (both_le 1500 30 (flat_map statement_text (draws 6 s)) (task_end k (drawn (behind 6 s))) (statements_le 6 s) (end_le k (drawn (behind 6 s))))

tasks_le : (n k s : ℕ) → k + n ≤ 65536 → length (task_texts n k s) ≤ n * 1560
unfolding task_texts
tasks_le zero k s h = omega arith
tasks_le (suc n) k s h =
    let both : length (task_text k s ++ task_texts n (k + 1) (behind 7 s)) ≤ 1560 + n * 1560 =
    both_le 1560 (n * 1560) _ _ (task_le k s (omega (arith, h))) (tasks_le n (k + 1) (behind 7 s) (omega (arith, h))) in
    omega (arith, both)

-- 8 scalars, 2 arrays and 16 tasks
pub generated_le : (n : ℕ) (text : List ℕ) → text ≡ generated_text n → length text ≤ 65536
unfolding generated_text
generated_le n text e =
    let arrays : List ℕ = codes "shared unsigned a0[32];\nshared unsigned a1[32];\n" in
    let whole : length (generated_text n) ≤ 400 + (60 + (24960 + 10)) =
    both_le 400 (60 + (24960 + 10)) (scalar_texts 0 (draws 8 n)) _ (scalars_le 8 0 n (omega arith))
    (both_le 60 (24960 + 10) arrays _ (omega arith)
    (both_le 24960 10 (task_texts 16 0 (behind 8 n)) (codes "entry t0;\n") (tasks_le 16 0 (behind 8 n) (omega arith)) (omega arith))) in
    let same : length text ≡ length (generated_text n) = ap length e in
    omega (arith, whole, same)
