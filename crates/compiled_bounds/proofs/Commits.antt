-- A boot and the commit of a full list and a full buffer keep to the bound: it has 40 cycles for each entry of the greatest list, and 100
-- for each word of the most that are emitted.
use Rattle.std.proofs.Common.{◌≡◌, ℕ, zero, suc, ◌+◌, ◌-◌, ◌*◌, ◌<◌, ◌≤◌, ⊎_elim, arith, Bool, List, [], ◌∷◌, ◌++◌, length, Some, None, slice_index}
use Rattle.std.proofs.lemmas.Bool.{cases_lt}
use Rattle.task_ast.specs.Tree as t
use Rattle.task_ast.specs.Paths.{CheckedExpression, CheckedValues, CheckedStatement, CheckedChoice, CheckedFunction}
use Rattle.task_ast.proofs.Interface.{along_answers}
use Rattle.cost_bound.specs.Summary.{Summary}
use Rattle.cost_bound.specs.Summaries.{function_summary, summaries}
use Rattle.cost_bound.specs.Table.{cycles_column, called_price, expression_price, values_price, statement_price, conditions_price, blocks_price, block_price}
use Rattle.cost_bound.specs.Counts.{CheckedBlock, is_emit, called_emits, expression_count, values_count, statement_count, conditions_count, choice_count}
use Rattle.cost_bound.specs.Counts.{block_count, emits_of}
use Rattle.cost_bound.specs.Allowance.{CheckedProgram, CheckedTask, bound_of, list_of, task_bound, uses_events, versions_of, greatest}
use Rattle.commit_runtime.specs.Listing.{commit_cycles}
use Rattle.undo_runtime.specs.Listing.{commit_cycles as logged_commit}
use Rattle.memory_map.specs.MemoryMap.{with_events}
use Rattle.runtime_code.proofs.Interface.{if_any_most, with_events_most}

turns_pay : (n count price : ℕ) → 60 * count ≤ price → 60 * (n * count) ≤ n * (40 + price)
turns_pay zero count price h = omega arith
turns_pay (suc n) count price h = let rest = turns_pay n count price h in omega (arith, rest, h)

-- 60 cycles for each word that a function emits
abbrev Pay : List Summary → Type 0
Pay known = (k : ℕ) → 60 * slice_index (called_emits known) k ≤ called_price known cycles_column k

-- and for each emit of a block, where the functions that it calls pay
module _ (known : List Summary) (functions_pay : Pay known) where
  mutual
    expression_pays : (e : CheckedExpression) → 60 * expression_count (called_emits known) e ≤ expression_price known cycles_column e
    expression_pays (t.number n) = omega arith
    expression_pays (t.long_number n) = omega arith
    expression_pays (t.name x) = omega arith
    expression_pays (t.element x index) = let a = expression_pays index in omega (arith, a)
    expression_pays t.sense = omega arith
    expression_pays t.next_event = omega arith
    expression_pays (t.call f values) = let a = values_pay values in let b = functions_pay f.function in omega (arith, a, b)
    expression_pays (t.unary op e) = let a = expression_pays e in omega (arith, a)
    expression_pays (t.binary op a b) = let x = expression_pays a in let y = expression_pays b in omega (arith, x, y)
    expression_pays (t.shift op e count) = let a = expression_pays e in omega (arith, a)
    expression_pays (t.short_circuit op a b) = let x = expression_pays a in let y = expression_pays b in omega (arith, x, y)

    values_pay : (v : CheckedValues) → 60 * values_count (called_emits known) v ≤ values_price known cycles_column v
    values_pay t.no_value = omega arith
    values_pay (t.value e more) = let x = expression_pays e in let y = values_pay more in omega (arith, x, y)

  mutual
    statement_pays : (s : CheckedStatement) → 60 * statement_count (called_emits known) is_emit s ≤ statement_price known cycles_column s
    statement_pays (t.declare _ _ None) = omega arith
    statement_pays (t.declare _ _ (Some e)) = let a = expression_pays e in omega (arith, a)
    statement_pays (t.assign _ e) = let a = expression_pays e in omega (arith, a)
    statement_pays (t.store _ i e) = let a = expression_pays i in let b = expression_pays e in omega (arith, a, b)
    statement_pays (t.emit e) = let a = expression_pays e in omega (arith, a)
    statement_pays (t.give _ e) = let a = expression_pays e in omega (arith, a)
    statement_pays (t.transition _ _) = omega arith
    statement_pays (t.choose c) = let a = conditions_pay c in let b = blocks_pay c in omega (arith, a, b)
    statement_pays (t.loop _ from _ below _ body) =
        let a = turns_pay (below - from) (block_count (called_emits known) is_emit body) (block_price known cycles_column body) (block_pays body) in
        omega (arith, a)

    conditions_pay : (c : CheckedChoice) → 60 * conditions_count (called_emits known) c ≤ conditions_price known cycles_column c
    conditions_pay t.nothing = omega arith
    conditions_pay (t.otherwise b) = omega arith
    conditions_pay (t.test e b more) = let x = expression_pays e in let y = conditions_pay more in omega (arith, x, y)

    blocks_pay : (c : CheckedChoice) → 60 * choice_count (called_emits known) is_emit c ≤ blocks_price known cycles_column c
    blocks_pay t.nothing = omega arith
    blocks_pay (t.otherwise b) = block_pays b
    blocks_pay (t.test _ b more) = let x = block_pays b in let y = blocks_pay more in omega (arith, x, y)

    block_pays : (b : CheckedBlock) → 60 * block_count (called_emits known) is_emit b ≤ block_price known cycles_column b
    block_pays t.end = omega arith
    block_pays (t.step s more) = let a = statement_pays s in let b = block_pays more in omega (arith, a, b)

  emits_pay : (b : CheckedBlock) → 60 * emits_of known b ≤ block_price known cycles_column b
  unfolding emits_of
  emits_pay b = block_pays b

-- one function more, that pays
pays_more : (known : List Summary) (s : Summary) → 60 * s.emits ≤ s.cycles → Pay known → Pay (known ++ s ∷ [])
pays_more [] s paid h zero = paid
pays_more [] s paid h (suc k) = omega arith
pays_more (x ∷ known) s paid h zero = h zero
pays_more (x ∷ known) s paid h (suc k) = pays_more known s paid (λ n. h (suc n)) k

-- each function of a source pays
functions_pay : (p : CheckedProgram) → Pay (summaries p)
functions_pay p = along_answers function_summary (λ front known. Pay known) (λ k. omega arith) step p.functions
  where
    step : (front : List CheckedFunction) (known : List Summary) (f : CheckedFunction) → Pay known → Pay (known ++ function_summary known f ∷ [])
    step front known f h = pays_more known (function_summary known f) (emits_pay known h f.body) h

-- a task has the greatest of one count, and its other count is within the greatest
record HasGreatest (f g : CheckedBlock → ℕ) (ts : List CheckedTask) : Type 0 where
  code : CheckedBlock
  is : greatest f ts ≡ f code
  within : g code ≤ greatest g ts

has_greatest : (f g : CheckedBlock → ℕ) (ts : List CheckedTask) → 0 < length ts → HasGreatest f g ts
has_greatest f g [] h = absurd (omega (arith, h))
has_greatest f g (t ∷ []) h = record { code = t.body; is = omega arith; within = omega arith }
has_greatest f g (t ∷ u ∷ ts) h =
    let k = has_greatest f g (u ∷ ts) (omega arith) in
    let is = k.is in let within = k.within in
    ⊎_elim {C = HasGreatest f g (t ∷ u ∷ ts)}
    (λ more. record { code = k.code; is = omega (arith, is, more); within = omega (arith, within) })
    (λ less. record { code = t.body; is = omega (arith, less); within = omega arith })
    (cases_lt (f t.body) (greatest f (u ∷ ts)))

pub commit_within_bound : (p : CheckedProgram) (events : Bool) (entries emits : ℕ) → 0 < length p.tasks
    → entries ≡ greatest (list_of (summaries p) p.shared) p.tasks
    → emits ≡ greatest (emits_of (summaries p)) p.tasks → with_events events 3 + 9 + commit_cycles events entries entries emits ≤ bound_of p
commit_within_bound p events entries emits some list_is emits_are =
    let price = task_bound (summaries p) (uses_events p) (versions_of p) p.shared in
    let a = has_greatest (list_of (summaries p) p.shared) price p.tasks some in
    let b = has_greatest (emits_of (summaries p)) price p.tasks some in
    let a_is = a.is in let a_within = a.within in let b_is = b.is in let b_within = b.within in
    let paid = emits_pay (summaries p) (functions_pay p) b.code in let boot = with_events_most events 3 in let more = with_events_most events 6 in
    let list_begins = if_any_most entries 2 in let sends_begin = if_any_most emits 2 in
    omega (arith, list_is, emits_are, a_is, a_within, b_is, b_within, paid, list_begins, sends_begin, boot, more)

-- so under undo, whose commit copies nothing
pub logged_commit_within_bound : (p : CheckedProgram) (events : Bool) (emits : ℕ) → 0 < length p.tasks
    → emits ≡ greatest (emits_of (summaries p)) p.tasks
    → with_events events 3 + 9 + logged_commit events emits ≤ bound_of p
logged_commit_within_bound p events emits some emits_are =
    let price = task_bound (summaries p) (uses_events p) (versions_of p) p.shared in
    let b = has_greatest (emits_of (summaries p)) price p.tasks some in
    let b_is = b.is in let b_within = b.within in
    let boot = with_events_most events 3 in let more = with_events_most events 6 in let sends_begin = if_any_most emits 2 in
    omega (arith, emits_are, b_is, b_within, sends_begin, boot, more)
