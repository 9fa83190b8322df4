-- The `if`s of a statement, as they are listed.
use Rattle.std.proofs.Common.{◌≡◌, ◌∙◌, ℕ, suc, ◌+◌, ◌≤◌, ◌++◌, ◌∷◌, [], append_assoc, List, None, Some, length, slice_set, refl, sym}
use Rattle.std.proofs.Common.{ap, arith}
use Rattle.std.specs.Global.{Vec}
use Rattle.std.proofs.lemmas.List.{length-map, map-append, map-set}
use Rattle.std.proofs.Math.Seq.{set-append_seam}
use Rattle.task_ast.specs.Tree.{Tested, choice_of, choose}
use Rattle.task_ast.specs.Paths.{CheckedStatement, CheckedBlock}
use Rattle.task_ast.specs.View.{choice_view}
use Rattle.task_ast.specs.declared.Arm.{Arm}
use Rattle.task_ast.specs.declared.names.VariableName.{VariableName}
use Rattle.task_ast.specs.declared.names.TaskName.{TaskName}
use Rattle.task_ast.specs.declared.names.FunctionName.{FunctionName}
use Rattle.condition_lines.specs.Conditions.{lists_of, own_numbers, statement_conditions, choice_conditions, block_conditions, choice_ifs}
use Rattle.condition_lines.specs.Conditions.{block_ifs, statement_ifs}

-- the numbers of an `if`, set where its place was held
placed : (old new : List (Vec ℕ)) (own held : Vec ℕ) (nested : List (List ℕ)) (place : ℕ) → place ≡ length old
    → lists_of new ≡ lists_of (old ++ held ∷ []) ++ nested → lists_of (slice_set new place own) ≡ lists_of old ++ own.items ∷ nested
placed old new own held nested place at e =
    let here : length (lists_of old) ≡ length old = length-map old (λ numbers. numbers.items) in
    map-set (λ numbers. numbers.items) new place own
    ∙ ap (λ ls. slice_set ls place own.items) (e ∙ ap (λ ls. ls ++ nested) (map-append (λ numbers. numbers.items) old (held ∷ [])))
    ∙ ap (λ ls. slice_set ls place own.items) (append_assoc (lists_of old) (held.items ∷ []) nested)
    ∙ ap (λ i. slice_set (lists_of old ++ held.items ∷ nested) i own.items) (at ∙ sym here)
    ∙ set-append_seam (lists_of old) held.items nested own.items

-- the last block of an `if` is behind all others, and has no condition of its own
own_of_arms : (k : ℕ) (ts : List (Tested VariableName TaskName FunctionName)) (last : CheckedBlock)
    → own_numbers k (choice_of ts (Some last)) ≡ own_numbers k (choice_of ts None)
own_of_arms k [] last = refl
own_of_arms k (t ∷ ts) last = ap (λ ns. k ∷ ns) (own_of_arms (suc k + block_conditions t.block) ts last)

pub count_of_arms : (ts : List (Tested VariableName TaskName FunctionName)) (last : CheckedBlock)
    → choice_conditions (choice_of ts (Some last)) ≡ choice_conditions (choice_of ts None) + block_conditions last
count_of_arms [] last = omega arith
count_of_arms (t ∷ ts) last = let rest = count_of_arms ts last in omega (arith, rest)

ifs_of_arms : (k : ℕ) (ts : List (Tested VariableName TaskName FunctionName)) (last : CheckedBlock)
    → choice_ifs k (choice_of ts (Some last)) ≡ choice_ifs k (choice_of ts None) ++ block_ifs (k + choice_conditions (choice_of ts None)) last
ifs_of_arms k [] last = let none : k ≡ k + 0 = omega arith in ap (λ n. block_ifs n last) none
ifs_of_arms k (t ∷ ts) last =
    let within = suc k + block_conditions t.block in
    let first = block_ifs (suc k) t.block in
    let rest = choice_conditions (choice_of ts None) in
    let at : within + rest ≡ k + suc (block_conditions t.block + rest) = omega arith in
    ap (λ more. first ++ more) (ifs_of_arms within ts last) ∙ sym (append_assoc first (choice_ifs within (choice_of ts None)) (block_ifs (within + rest) last))
    ∙ ap (λ n. (first ++ choice_ifs within (choice_of ts None)) ++ block_ifs n last) at

pub if_listed : (old new : List (Vec ℕ)) (own held : Vec ℕ) (k place : ℕ) (statement : CheckedStatement) (arms : List (Arm VariableName TaskName FunctionName))
    → place ≡ length old → statement ≡ choose (choice_view arms None) → own.items ≡ own_numbers k (choice_view arms None)
    → lists_of new ≡ lists_of (old ++ held ∷ []) ++ choice_ifs k (choice_view arms None)
    → lists_of (slice_set new place own) ≡ lists_of old ++ statement_ifs k statement
if_listed old new own held k place statement arms at is numbers e =
    placed old new own held (choice_ifs k (choice_view arms None)) place at e
    ∙ ap (λ ns. lists_of old ++ ns ∷ choice_ifs k (choice_view arms None)) numbers
    ∙ ap (λ s. lists_of old ++ statement_ifs k s) (sym is)

pub last_listed : (old new : List (Vec ℕ)) (own held : Vec ℕ) (k n place : ℕ) (statement : CheckedStatement)
    (ts : List (Tested VariableName TaskName FunctionName))
    (block : CheckedBlock) → place ≡ length old → statement ≡ choose (choice_of ts (Some block)) → own.items ≡ own_numbers k (choice_of ts None)
    → n ≡ k + choice_conditions (choice_of ts None)
    → lists_of new ≡ (lists_of (old ++ held ∷ []) ++ choice_ifs k (choice_of ts None)) ++ block_ifs n block
    → lists_of (slice_set new place own) ≡ lists_of old ++ statement_ifs k statement
last_listed old new own held k n place statement ts block at is numbers count e =
    let all = choice_ifs k (choice_of ts (Some block)) in
    let whole : lists_of new ≡ lists_of (old ++ held ∷ []) ++ all =
    e ∙ append_assoc (lists_of (old ++ held ∷ [])) (choice_ifs k (choice_of ts None)) (block_ifs n block)
    ∙ ap (λ j. lists_of (old ++ held ∷ []) ++ (choice_ifs k (choice_of ts None) ++ block_ifs j block)) count
    ∙ ap (λ ls. lists_of (old ++ held ∷ []) ++ ls) (sym (ifs_of_arms k ts block)) in
    placed old new own held all place at whole
    ∙ ap (λ ns. lists_of old ++ ns ∷ all) (numbers ∙ sym (own_of_arms k ts block))
    ∙ ap (λ s. lists_of old ++ statement_ifs k s) (sym is)

-- and counts no more than the statement has
pub statement_few : (k n : ℕ) (statement : CheckedStatement) (ts : List (Tested VariableName TaskName FunctionName)) (block : CheckedBlock)
    → statement ≡ choose (choice_of ts (Some block)) → n ≡ k + choice_conditions (choice_of ts None)
    → n + block_conditions block ≡ k + statement_conditions statement
statement_few k n statement ts block is count =
    let sum = count_of_arms ts block in let all = ap statement_conditions is in omega (arith, sum, all, count)

-- its arms have no more than it
pub arms_few : (statement : CheckedStatement) (ts : List (Tested VariableName TaskName FunctionName)) (block : CheckedBlock)
    → statement ≡ choose (choice_of ts (Some block))
    → choice_conditions (choice_of ts None) ≤ statement_conditions statement
arms_few statement ts block is = let sum = count_of_arms ts block in let all = ap statement_conditions is in omega (arith, sum, all)
