-- Steps of the walks that mark and count.
use Rattle.std.proofs.Common.{◌≡◌, ℕ, zero, suc, [], ◌∷◌, ◌+◌, ◌-◌, ◌*◌, ◌<◌, ◌≤◌, ◌||◌, Bool, true, false, max, List, length, get_or, drop, map, replicate}
use Rattle.std.proofs.Common.{Option, ap, sym, subst}
use Rattle.std.proofs.Common.{refl, ◌∙◌, arith, slice_index, slice_index_or}
use Rattle.std.proofs.lemmas.List.{get_or-replicate}
use Rattle.std.specs.declared.alloc.Global.{Global}
use Rattle.std.specs.declared.vec.Vec.{Vec}
use Rattle.task_ast.specs.Tree.{choice_of}
use Rattle.task_ast.specs.Paths.{CheckedBlock}
use Rattle.task_ast.specs.View.{expression_of, statement_of, tested_of, block_view, last_view}
use Rattle.task_ast.specs.declared.names.VariableName.{VariableName}
use Rattle.task_ast.specs.declared.names.TaskName.{TaskName}
use Rattle.task_ast.specs.declared.names.FunctionName.{FunctionName}
use Rattle.task_ast.specs.declared.Stmt.{Stmt}
use Rattle.task_ast.specs.declared.Stmt.TheVariants.{If, For}
use Rattle.task_ast.specs.declared.Arm.{Arm, out-Arm}
use Rattle.task_ast.proofs.Interface.{drop_back}
use Rattle.cost_bound.specs.Table.{capped}
use Rattle.cost_bound.specs.Counts.{is_store_to, expression_count, statement_count, conditions_count, choice_count, block_count, choice_assigns, block_assigns}
use Rattle.cost_bound.specs.Counts.{expression_calls, choice_calls, block_calls}
use Rattle.cost_bound.specs.Rooms.{AreCapped, HaveGrown, AreMarked}
use Rattle.cost_bound.proofs.Views.{statement_of-If, statement_of-For, tested_of-block, tested_of-condition}
use Rattle.cost_bound.proofs.Caps.{capped_times}

abbrev CheckedArm : Type 0
CheckedArm = Arm VariableName TaskName FunctionName

abbrev CheckedStmt : Type 0
CheckedStmt = Stmt VariableName TaskName FunctionName

abbrev Last : Type 0
Last = Option CheckedBlock

or_swap : (s r h : Bool) → ((s || r) || h) ≡ (s || (h || r))
or_swap true r h = refl
or_swap false true true = refl
or_swap false true false = refl
or_swap false false true = refl
or_swap false false false = refl

pub marked_arm : (arms : List CheckedArm) (i : ℕ) (arm : CheckedArm) (items : List CheckedStmt) (last : Last) (start before after : List Bool)
    → 0 < i → i ≤ length arms → arm ≡ get_or arms (i - 1) arm → items ≡ (out-Arm VariableName TaskName FunctionName (get_or arms (i - 1) arm)).block.items
    → AreMarked start before (λ k. choice_assigns k (choice_of (map tested_of (drop i arms)) last))
    → AreMarked before after (λ k. block_assigns k (block_view items))
    → AreMarked start after (λ k. choice_assigns k (choice_of (map tested_of (drop (i - 1) arms)) last))
marked_arm arms i arm items last start before after pos h at e x y =
    subst (λ a. AreMarked start after (λ k. choice_assigns k (choice_of (map tested_of a) last))) (sym (drop_back arms i arm pos h at)) step
  where
    rest : ℕ → Bool
    rest k = choice_assigns k (choice_of (map tested_of (drop i arms)) last)

    step : (k : ℕ) → k < 256 → slice_index_or after k false ≡
        (slice_index_or start k false || (block_assigns k (tested_of arm).block || choice_assigns k (choice_of (map tested_of (drop i arms)) last)))
    step k l = y k l ∙ ap (λ m. m || block_assigns k (block_view items)) (x k l)
        ∙ or_swap (slice_index_or start k false) (choice_assigns k (choice_of (map tested_of (drop i arms)) last)) (block_assigns k (block_view items))
        ∙ ap (λ b. slice_index_or start k false || (block_assigns k b || choice_assigns k (choice_of (map tested_of (drop i arms)) last)))
        (ap block_view (e ∙ ap (λ a. (out-Arm VariableName TaskName FunctionName a).block.items) (sym at)) ∙ sym (tested_of-block arm))

or_turn : (s r h e : Bool) → (((s || r) || h) || e) ≡ (s || (e || (h || r)))
or_turn true r h e = refl
or_turn false true true true = refl
or_turn false true true false = refl
or_turn false true false true = refl
or_turn false true false false = refl
or_turn false false true true = refl
or_turn false false true false = refl
or_turn false false false true = refl
or_turn false false false false = refl

-- what is read of a list that reaches so far doesn't depend on what stands for nothing
read_where : {A : Type 0} (xs : List A) (i : ℕ) (a b : A) → i < length xs → get_or xs i a ≡ get_or xs i b
read_where [] i a b l = absurd (let none : ⊥ = omega arith in none)
read_where (x ∷ xs) zero a b l = refl
read_where (x ∷ xs) (suc i) a b l = read_where xs i a b (omega arith)

called_arm_of : (arms : List CheckedArm) (i : ℕ) (arm : CheckedArm) (items : List CheckedStmt) (last : Last) (start before between after : List Bool)
    → 0 < i → i ≤ length arms → arm ≡ get_or arms (i - 1) arm → block_view items ≡ (tested_of arm).block
    → AreMarked start before (λ k. choice_calls k (choice_of (map tested_of (drop i arms)) last))
    → AreMarked before between (λ k. block_calls k (block_view items))
    → AreMarked between after (λ k. expression_calls k (tested_of arm).condition)
    → AreMarked start after (λ k. choice_calls k (choice_of (map tested_of (drop (i - 1) arms)) last))
called_arm_of arms i arm items last start before between after pos h at e x y z =
    subst (λ a. AreMarked start after (λ k. choice_calls k (choice_of (map tested_of a) last))) (sym (drop_back arms i arm pos h at)) step
  where
    step : (k : ℕ) → k < 256 → slice_index_or after k false ≡ (slice_index_or start k false || (expression_calls k (tested_of arm).condition
        || (block_calls k (tested_of arm).block || choice_calls k (choice_of (map tested_of (drop i arms)) last))))
    step k l = z k l ∙ ap (λ m. m || expression_calls k (tested_of arm).condition) (y k l)
        ∙ ap (λ m. (m || block_calls k (block_view items)) || expression_calls k (tested_of arm).condition) (x k l)
        ∙ or_turn (slice_index_or start k false) (choice_calls k (choice_of (map tested_of (drop i arms)) last)) (block_calls k (block_view items))
        (expression_calls k (tested_of arm).condition)
        ∙ ap (λ b. slice_index_or start k false || (expression_calls k (tested_of arm).condition
        || (block_calls k b || choice_calls k (choice_of (map tested_of (drop i arms)) last)))) e

-- an arm whose condition and block are read apart
module _ (arms : List CheckedArm) (i : ℕ) (arm again : CheckedArm) (items : List CheckedStmt) (last : Last) (start before between after : List Bool) where
  pub called_arm : 0 < i → i ≤ length arms → arm ≡ get_or arms (i - 1) arm → again ≡ get_or arms (i - 1) again
      → items ≡ (out-Arm VariableName TaskName FunctionName (get_or arms (i - 1) arm)).block.items
      → AreMarked start before (λ k. choice_calls k (choice_of (map tested_of (drop i arms)) last))
      → AreMarked before between (λ k. block_calls k (block_view items))
      → AreMarked between after (λ k. expression_calls k (expression_of (out-Arm VariableName TaskName FunctionName (get_or arms (i - 1) again)).condition))
      → AreMarked start after (λ k. choice_calls k (choice_of (map tested_of (drop (i - 1) arms)) last))
  called_arm pos h at there e x y z =
      called_arm_of arms i arm items last start before between after pos h at
      (ap block_view (e ∙ ap (λ a. (out-Arm VariableName TaskName FunctionName a).block.items) (sym at)) ∙ sym (tested_of-block arm)) x y
      (λ k l. z k l ∙ ap (λ c. slice_index_or between k false || expression_calls k c) (same k l))
    where
      same : (k : ℕ) → k < 256 → expression_of (out-Arm VariableName TaskName FunctionName (get_or arms (i - 1) again)).condition ≡ (tested_of arm).condition
      same k l = ap (λ a. expression_of (out-Arm VariableName TaskName FunctionName a).condition)
          (read_where arms (i - 1) again arm (omega (arith, pos, h)) ∙ sym at) ∙ sym (tested_of-condition arm)

greater : (after here before a b : ℕ) → after ≡ max here before → capped here ≡ capped a → capped before ≡ capped b → capped after ≡ capped (max a b)
greater after here before a b x y z = omega arith

pub greatest_arm : (ns : ℕ → List ℕ) (arms : List CheckedArm) (i : ℕ) (arm : CheckedArm) (items : List CheckedStmt) (last : Last) (before here after : List ℕ)
    → 0 < i → i ≤ length arms → arm ≡ get_or arms (i - 1) arm → items ≡ (out-Arm VariableName TaskName FunctionName (get_or arms (i - 1) arm)).block.items
    → AreCapped before (λ k. choice_count (ns k) (is_store_to k) (choice_of (map tested_of (drop i arms)) last))
    → AreCapped here (λ k. block_count (ns k) (is_store_to k) (block_view items))
    → ((k : ℕ) → k < 256 → slice_index after k ≡ max (slice_index here k) (slice_index before k))
    → AreCapped after (λ k. choice_count (ns k) (is_store_to k) (choice_of (map tested_of (drop (i - 1) arms)) last))
greatest_arm ns arms i arm items last before here after pos h at e x y z =
    subst (λ a. AreCapped after (λ k. choice_count (ns k) (is_store_to k) (choice_of (map tested_of a) last))) (sym (drop_back arms i arm pos h at)) step
  where
    step : (k : ℕ) → k < 256 → capped (slice_index after k) ≡ capped
        (max (block_count (ns k) (is_store_to k) (tested_of arm).block) (choice_count (ns k) (is_store_to k) (choice_of (map tested_of (drop i arms)) last)))
    step k l =
        greater (slice_index after k) (slice_index here k) (slice_index before k) (block_count (ns k) (is_store_to k) (block_view items))
        (choice_count (ns k) (is_store_to k) (choice_of (map tested_of (drop i arms)) last))
        (z k l) (y k l) (x k l)
        ∙ ap (λ b. capped (max (block_count (ns k) (is_store_to k) b) (choice_count (ns k) (is_store_to k) (choice_of (map tested_of (drop i arms)) last))))
        (ap block_view (e ∙ ap (λ a. (out-Arm VariableName TaskName FunctionName a).block.items) (sym at)) ∙ sym (tested_of-block arm))

pub choice_added : (ns : ℕ → List ℕ) (arms : List CheckedArm) (i : ℕ) (last : Last) (old greatest new : List ℕ) → i ≤ 0
    → AreCapped greatest (λ k. choice_count (ns k) (is_store_to k) (choice_of (map tested_of (drop i arms)) last))
    → HaveGrown old new (λ k. 1 * slice_index greatest k)
    → HaveGrown old new (λ k. choice_count (ns k) (is_store_to k) (choice_of (map tested_of arms) last))
choice_added ns arms i last old greatest new low x y =
    subst (λ j. AreCapped greatest (λ k. choice_count (ns k) (is_store_to k) (choice_of (map tested_of (drop j arms)) last))
    → HaveGrown old new (λ k. choice_count (ns k) (is_store_to k) (choice_of (map tested_of arms) last)))
    (let e : 0 ≡ i = omega arith in e) step x
  where
    step : AreCapped greatest (λ k. choice_count (ns k) (is_store_to k) (choice_of (map tested_of arms) last))
        → HaveGrown old new (λ k. choice_count (ns k) (is_store_to k) (choice_of (map tested_of arms) last))
    step g k l = let a : capped (slice_index greatest k) ≡ capped (choice_count (ns k) (is_store_to k) (choice_of (map tested_of arms) last)) = g k l in
        let b : capped (slice_index new k) ≡ capped (slice_index old k + 1 * slice_index greatest k) = y k l in omega arith

pub none_counted : (k : ℕ) → k < 256 → capped (slice_index (replicate 256 0) k) ≡ capped 0
none_counted k l = ap capped (get_or-replicate 256 k 0 0 l)

condition_grown : (old before after rest condition : ℕ) → capped before ≡ capped (old + rest) → capped after ≡ capped (before + condition)
    → capped after ≡ capped (old + (condition + rest))
condition_grown old before after rest condition x y = omega arith

pub condition_counted : (ns : ℕ → List ℕ) (arms : List CheckedArm) (i : ℕ) (arm : CheckedArm) (last : Last) (old before after : List ℕ)
    → 0 < i → i ≤ length arms → arm ≡ get_or arms (i - 1) arm
    → HaveGrown old before (λ k. conditions_count (ns k) (choice_of (map tested_of (drop i arms)) last))
    → HaveGrown before after (λ k. expression_count (ns k) (expression_of (out-Arm VariableName TaskName FunctionName (get_or arms (i - 1) arm)).condition))
    → HaveGrown old after (λ k. conditions_count (ns k) (choice_of (map tested_of (drop (i - 1) arms)) last))
condition_counted ns arms i arm last old before after pos h at x y =
    subst (λ a. HaveGrown old after (λ k. conditions_count (ns k) (choice_of (map tested_of a) last))) (sym (drop_back arms i arm pos h at)) step
  where
    same : expression_of (out-Arm VariableName TaskName FunctionName (get_or arms (i - 1) arm)).condition ≡ (tested_of arm).condition
    same = ap (λ a. expression_of (out-Arm VariableName TaskName FunctionName a).condition) (sym at) ∙ sym (tested_of-condition arm)

    step : (k : ℕ) → k < 256 → capped (slice_index after k) ≡ capped (slice_index old k + (expression_count (ns k) (tested_of arm).condition
        + conditions_count (ns k) (choice_of (map tested_of (drop i arms)) last)))
    step k l = condition_grown (slice_index old k) (slice_index before k) (slice_index after k) _
        (expression_count (ns k) (tested_of arm).condition) (x k l)
        (y k l ∙ ap (λ e. capped (slice_index before k + expression_count (ns k) e)) same)

capped_both : (old between new conditions blocks : ℕ) → capped between ≡ capped (old + conditions) → capped new ≡ capped (between + blocks)
    → capped new ≡ capped (old + (conditions + blocks))
capped_both old between new conditions blocks x y = omega arith

-- an `if`: the calls of its conditions, and then the greatest block
module _ (ns : ℕ → List ℕ) (s : CheckedStmt) (arms : Vec CheckedArm Global) (tested items : List CheckedArm) (field last : Option (Vec CheckedStmt Global))
  where
    pub if_counted : (old between new : List ℕ) → s ≡ If arms field → field ≡ last → tested ≡ arms.items → items ≡ arms.items
        → HaveGrown old between (λ k. conditions_count (ns k) (choice_of (map tested_of tested) (last_view last)))
        → HaveGrown between new (λ k. choice_count (ns k) (is_store_to k) (choice_of (map tested_of items) (last_view last)))
        → HaveGrown old new (λ k. statement_count (ns k) (is_store_to k) (statement_of s))
    if_counted old between new e g t f x y = λ k l.
        capped_both (slice_index old k) (slice_index between k) (slice_index new k) _ _ (x k l) (y k l)
        ∙ ap (λ v. capped (slice_index old k + (conditions_count (ns k) (choice_of (map tested_of v) (last_view last))
        + choice_count (ns k) (is_store_to k) (choice_of (map tested_of items) (last_view last))))) t
        ∙ ap (λ v. capped (slice_index old k + (conditions_count (ns k) (choice_of (map tested_of arms.items) (last_view last))
        + choice_count (ns k) (is_store_to k) (choice_of (map tested_of v) (last_view last))))) f
        ∙ ap (λ v. capped (slice_index old k + statement_count (ns k) (is_store_to k) v))
        (sym (statement_of-If arms last) ∙ ap (λ o. statement_of (If arms o)) (sym g) ∙ ap statement_of (sym e))

capped_sum : (old new turns a b : ℕ) → capped new ≡ capped (old + turns * a) → capped a ≡ capped b → capped new ≡ capped (old + turns * b)
capped_sum old new turns a b x y =
    let f : capped (turns * a) ≡ capped (turns * b) = sym (capped_times turns a) ∙ ap (λ c. capped (turns * c)) y ∙ capped_times turns b in omega (arith, f)

pub loop_counted : (ns : ℕ → List ℕ) (s : CheckedStmt) (variable : VariableName) (from : ℕ) (tested : VariableName) (below : ℕ) (stepped : VariableName)
    (body : Vec CheckedStmt Global)
    (items : List CheckedStmt) (turns : ℕ) (old turn new : List ℕ) → s ≡ For variable from tested below stepped body → items ≡ body.items → turns ≡ below - from
    → AreCapped turn (λ k. block_count (ns k) (is_store_to k) (block_view items))
    → HaveGrown old new (λ k. turns * slice_index turn k)
    → HaveGrown old new (λ k. statement_count (ns k) (is_store_to k) (statement_of s))
loop_counted ns s variable from tested below stepped body items turns old turn new e f g x y = λ k l.
    capped_sum (slice_index old k) (slice_index new k) turns (slice_index turn k) (block_count (ns k) (is_store_to k) (block_view items)) (y k l)
    (x k l)
    ∙ ap (λ n. capped (slice_index old k + n * block_count (ns k) (is_store_to k) (block_view items))) g
    ∙ ap (λ v. capped (slice_index old k + (below - from) * block_count (ns k) (is_store_to k) (block_view v))) f
    ∙ ap (λ v. capped (slice_index old k + statement_count (ns k) (is_store_to k) v))
    (sym (statement_of-For variable from tested below stepped body) ∙ ap statement_of (sym e))
