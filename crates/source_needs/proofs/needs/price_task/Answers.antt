use Rattle.std.proofs.Common.{◌≡◌, ◌∙◌, ◌-◌, ◌^◌, ◌<◌, ◌≤◌, min, length, get_or, refl, sym, ap, subst, arith}
use Rattle.std.proofs.lemmas.Option.{get_or_from_slice_get, same_Some}
use Rattle.task_ast.specs.View.{block_view, program_of}
use Rattle.source_values.specs.Runs.{body_of}
use Rattle.cost_bound.specs.Counts.{emits_of}
use Rattle.cost_bound.specs.Summaries.{summaries}
use Rattle.cost_bound.specs.Allowance.{list_of, task_bound, task_words, uses_events, versions_of}
use Rattle.code_costs.specs.Dearest.{most_spent}
use Rattle.memory_map.proofs.Interface.{privates_few}
use Rattle.compiled_model.specs.Parts.{program_parts, task_program}
use Rattle.task_needs.specs.Needs.{beside_path, elements_of, need_parts, own_privates, privates_of}
use Rattle.source_needs.proofs.Rows.{path_cut, task_at, task_holds}
use Rattle.source_needs.proofs.Tables.{tables_here}
use Rattle.source_needs.proofs.needs.price_task.Goals as goal

pub table_of-table-requires-clause-small : goal.table_of-table-requires-clause-small
table_of-table-requires-clause-small c =
    let text = c.args.accepted.now.text.items in
    let p = program_of c.args.accepted.now.checked.source in
    let l = c.args.layout.now in
    let k = c.args.number in
    let h = task_holds text p c.args.accepted.now.allow c.requires.laid_out.0 l c.requires.laid_out.1 k c.requires.task in
    let source = c.source-source.ensures ∙ ap (λ x. x.source) c.checked.ensures in
    let at = task_at c.args.accepted.now.checked.source.tasks.items k c.index-task.result.now h.task h.there
    (c.index-task.ensures ∙ ap (λ s. get_or s.tasks.items k c.index-task.result.now) source) in
    let shared : c.deref-3.result.now ≡ p.shared = c.deref-3.ensures.value ∙ ap (λ s. s.shared.items) source in
    let body : block_view c.deref-4.result.now ≡ h.task.body = ap block_view c.deref-4.ensures.value ∙ at.1 in
    let functions = c.deref.ensures.value ∙ ap (λ s. s.functions.items) source in
    let same = tables_here p c.args.accepted.now.checked.source.functions.items c.deref.result.now c.deref-2.result.now c.summaries-functions.result.items
    h.task.body refl functions c.deref-2.ensures.0 c.summaries-functions.ensures c.args.accepted.now.checked.few_functions
    c.args.accepted.now.checked.few_shared h.bound h.words in
    let events : c.runtime-runtime.result.events ≡ uses_events p = ap (λ r. r.events) c.runtime-runtime.ensures ∙ h.events in
    let versions : c.allow.result.now.versions ≡ versions_of p = ap (λ a. a.versions) c.allow.ensures ∙ h.versions in
    rw (events, versions, shared, body) (subst (λ n. n < 2 ^ 32) (sym same.bound) h.bound)

pub table_of-table-requires-clause-short : goal.table_of-table-requires-clause-short
table_of-table-requires-clause-short c =
    let text = c.args.accepted.now.text.items in
    let p = program_of c.args.accepted.now.checked.source in
    let l = c.args.layout.now in
    let k = c.args.number in
    let h = task_holds text p c.args.accepted.now.allow c.requires.laid_out.0 l c.requires.laid_out.1 k c.requires.task in
    let source = c.source-source.ensures ∙ ap (λ x. x.source) c.checked.ensures in
    let at = task_at c.args.accepted.now.checked.source.tasks.items k c.index-task.result.now h.task h.there
    (c.index-task.ensures ∙ ap (λ s. get_or s.tasks.items k c.index-task.result.now) source) in
    let shared : c.deref-3.result.now ≡ p.shared = c.deref-3.ensures.value ∙ ap (λ s. s.shared.items) source in
    let body : block_view c.deref-4.result.now ≡ h.task.body = ap block_view c.deref-4.ensures.value ∙ at.1 in
    let functions = c.deref.ensures.value ∙ ap (λ s. s.functions.items) source in
    let same = tables_here p c.args.accepted.now.checked.source.functions.items c.deref.result.now c.deref-2.result.now c.summaries-functions.result.items
    h.task.body refl functions c.deref-2.ensures.0 c.summaries-functions.ensures c.args.accepted.now.checked.few_functions
    c.args.accepted.now.checked.few_shared h.bound h.words in
    let small : task_words (summaries p) p.shared h.task.body < 2 ^ 32 = omega (arith, h.words) in
    rw (shared, body) (subst (λ n. n < 2 ^ 32) (sym same.words) small)

pub parts_of-parts-requires-clause-few : goal.parts_of-parts-requires-clause-few
parts_of-parts-requires-clause-few c =
    let text = c.args.accepted.now.text.items in
    let p = program_of c.args.accepted.now.checked.source in
    let l = c.args.layout.now in
    let k = c.args.number in
    let h = task_holds text p c.args.accepted.now.allow c.requires.laid_out.0 l c.requires.laid_out.1 k c.requires.task in
    let source = c.source-source.ensures ∙ ap (λ x. x.source) c.checked.ensures in
    let at = task_at c.args.accepted.now.checked.source.tasks.items k c.index-task.result.now h.task h.there
    (c.index-task.ensures ∙ ap (λ s. get_or s.tasks.items k c.index-task.result.now) source) in
    let shared : c.deref-3.result.now ≡ p.shared = c.deref-3.ensures.value ∙ ap (λ s. s.shared.items) source in
    let body : block_view c.deref-4.result.now ≡ h.task.body = ap block_view c.deref-4.ensures.value ∙ at.1 in
    let functions = c.deref.ensures.value ∙ ap (λ s. s.functions.items) source in
    let same = tables_here p c.args.accepted.now.checked.source.functions.items c.deref.result.now c.deref-2.result.now c.summaries-functions.result.items
    h.task.body refl functions c.deref-2.ensures.0 c.summaries-functions.ensures c.args.accepted.now.checked.few_functions
    c.args.accepted.now.checked.few_shared h.bound h.words in
    let place : c.index-tasks-number.result ≡ h.place =
    c.index-tasks-number.is ∙ ap (λ ts. get_or ts k c.index-tasks-number.result) c.tasks.ensures
    ∙ get_or_from_slice_get l.tasks k h.place c.index-tasks-number.result h.placed in
    let own : c.privates.result.now ≡ h.place.privates = c.privates.ensures ∙ ap (λ t. t.privates) place in
    let few = subst (λ n. n ≤ 512) same.scalars (rw (shared, body) at c.table_of-table.ensures.scalars) in
    omega (arith, ap length own, privates_few h.place.privates, h.privates, few)

pub parts_of-parts-requires-clause-bounded : goal.parts_of-parts-requires-clause-bounded
parts_of-parts-requires-clause-bounded c =
    let text = c.args.accepted.now.text.items in
    let p = program_of c.args.accepted.now.checked.source in
    let l = c.args.layout.now in
    let k = c.args.number in
    let h = task_holds text p c.args.accepted.now.allow c.requires.laid_out.0 l c.requires.laid_out.1 k c.requires.task in
    let source = c.source-source.ensures ∙ ap (λ x. x.source) c.checked.ensures in
    let at = task_at c.args.accepted.now.checked.source.tasks.items k c.index-task.result.now h.task h.there
    (c.index-task.ensures ∙ ap (λ s. get_or s.tasks.items k c.index-task.result.now) source) in
    let shared : c.deref-3.result.now ≡ p.shared = c.deref-3.ensures.value ∙ ap (λ s. s.shared.items) source in
    let body : block_view c.deref-4.result.now ≡ h.task.body = ap block_view c.deref-4.ensures.value ∙ at.1 in
    let functions = c.deref.ensures.value ∙ ap (λ s. s.functions.items) source in
    let same = tables_here p c.args.accepted.now.checked.source.functions.items c.deref.result.now c.deref-2.result.now c.summaries-functions.result.items
    h.task.body refl functions c.deref-2.ensures.0 c.summaries-functions.ensures c.args.accepted.now.checked.few_functions
    c.args.accepted.now.checked.few_shared h.bound h.words in
    let events : c.runtime-runtime.result.events ≡ uses_events p = ap (λ r. r.events) c.runtime-runtime.ensures ∙ h.events in
    let versions : c.allow.result.now.versions ≡ versions_of p = ap (λ a. a.versions) c.allow.ensures ∙ h.versions in
    let is = (rw (events, versions, shared, body) at c.table_of-table.ensures.bound) ∙ same.bound in
    omega (arith, is, h.bound)

pub returns-clause-parts : goal.returns-clause-parts
returns-clause-parts c =
    let text = c.args.accepted.now.text.items in
    let p = program_of c.args.accepted.now.checked.source in
    let l = c.args.layout.now in
    let k = c.args.number in
    let h = task_holds text p c.args.accepted.now.allow c.requires.laid_out.0 l c.requires.laid_out.1 k c.requires.task in
    let source = c.source-source.ensures ∙ ap (λ x. x.source) c.checked.ensures in
    let at = task_at c.args.accepted.now.checked.source.tasks.items k c.index-task.result.now h.task h.there
    (c.index-task.ensures ∙ ap (λ s. get_or s.tasks.items k c.index-task.result.now) source) in
    let shared : c.deref-3.result.now ≡ p.shared = c.deref-3.ensures.value ∙ ap (λ s. s.shared.items) source in
    let body : block_view c.deref-4.result.now ≡ h.task.body = ap block_view c.deref-4.ensures.value ∙ at.1 in
    let functions = c.deref.ensures.value ∙ ap (λ s. s.functions.items) source in
    let same = tables_here p c.args.accepted.now.checked.source.functions.items c.deref.result.now c.deref-2.result.now c.summaries-functions.result.items
    h.task.body refl functions c.deref-2.ensures.0 c.summaries-functions.ensures c.args.accepted.now.checked.few_functions
    c.args.accepted.now.checked.few_shared h.bound h.words in
    let events : c.runtime-runtime.result.events ≡ uses_events p = ap (λ r. r.events) c.runtime-runtime.ensures ∙ h.events in
    let versions : c.allow.result.now.versions ≡ versions_of p = ap (λ a. a.versions) c.allow.ensures ∙ h.versions in
    let place : c.index-tasks-number.result ≡ h.place =
    c.index-tasks-number.is ∙ ap (λ ts. get_or ts k c.index-tasks-number.result) c.tasks.ensures
    ∙ get_or_from_slice_get l.tasks k h.place c.index-tasks-number.result h.placed in
    let own : c.privates.result.now ≡ h.place.privates = c.privates.ensures ∙ ap (λ t. t.privates) place in
    let n = need_parts l.runtime.logging p l k in
    let table = c.table_of-table.result in
    let runtime : c.runtime-runtime.result ≡ l.runtime = c.runtime-runtime.ensures in
    let cleared : c.allow.result.now.versions ≡ l.versions.words = ap (λ a. a.versions) c.allow.ensures ∙ sym h.cleared in
    let privates : c.privates.result.now ≡ own_privates l k = own ∙ sym (ap privates_of h.placed) in
    let block = sym (ap body_of h.there) in
    let list = (rw (shared, body) at c.table_of-table.ensures.list) ∙ same.list
    ∙ ap (λ b. list_of (summaries p) p.shared b) block in
    let elements = (rw (shared, body) at c.table_of-table.ensures.elements) ∙ same.elements
    ∙ ap (λ b. elements_of (summaries p) p.shared b) block in
    let emits = (rw body at c.table_of-table.ensures.emits) ∙ same.emits
    ∙ ap (emits_of (summaries p)) block in
    let bound : table.bound ≡ (program_parts p l).cost k =
    (rw (events, versions, shared, body) at c.table_of-table.ensures.bound) ∙ same.bound
    ∙ ap (λ b. task_bound (summaries p) (uses_events p) (versions_of p) p.shared b) block in
    let priced : table.bound ≡ task_bound (summaries p) (uses_events p) (versions_of p) p.shared h.task.body =
    (rw (events, versions, shared, body) at c.table_of-table.ensures.bound) ∙ same.bound in
    let small : table.bound < 2 ^ 32 = omega (arith, priced, h.bound) in
    let boot : c.parts_of-parts.result.boot ≡ n.boot = rw (runtime, list) at c.parts_of-parts.ensures.boot in
    let start : c.parts_of-parts.result.start ≡ n.start = rw (runtime, cleared, privates) at c.parts_of-parts.ensures.start in
    let commit : c.parts_of-parts.result.commit ≡ n.commit = rw (runtime, privates, elements, emits) at c.parts_of-parts.ensures.commit in
    let beside = beside_path l.runtime.logging p l k in
    let cut = path_cut c.args.most (most_spent (task_program p l k)) table.bound beside small c.requires.most in
    let path : c.parts_of-parts.result.path ≡ n.path =
    (rw (runtime, cleared, privates, list, elements, emits) at c.parts_of-parts.ensures.path) ∙ cut
    ∙ ap (λ b. min (most_spent (task_program p l k)) (b - beside)) bound in
    λ i. record { boot = boot i; start = start i; path = path i; commit = commit i }

pub returns-clause-bound : goal.returns-clause-bound
returns-clause-bound c =
    let text = c.args.accepted.now.text.items in
    let p = program_of c.args.accepted.now.checked.source in
    let l = c.args.layout.now in
    let k = c.args.number in
    let h = task_holds text p c.args.accepted.now.allow c.requires.laid_out.0 l c.requires.laid_out.1 k c.requires.task in
    let source = c.source-source.ensures ∙ ap (λ x. x.source) c.checked.ensures in
    let at = task_at c.args.accepted.now.checked.source.tasks.items k c.index-task.result.now h.task h.there
    (c.index-task.ensures ∙ ap (λ s. get_or s.tasks.items k c.index-task.result.now) source) in
    let shared : c.deref-3.result.now ≡ p.shared = c.deref-3.ensures.value ∙ ap (λ s. s.shared.items) source in
    let body : block_view c.deref-4.result.now ≡ h.task.body = ap block_view c.deref-4.ensures.value ∙ at.1 in
    let functions = c.deref.ensures.value ∙ ap (λ s. s.functions.items) source in
    let same = tables_here p c.args.accepted.now.checked.source.functions.items c.deref.result.now c.deref-2.result.now c.summaries-functions.result.items
    h.task.body refl functions c.deref-2.ensures.0 c.summaries-functions.ensures c.args.accepted.now.checked.few_functions
    c.args.accepted.now.checked.few_shared h.bound h.words in
    let events : c.runtime-runtime.result.events ≡ uses_events p = ap (λ r. r.events) c.runtime-runtime.ensures ∙ h.events in
    let versions : c.allow.result.now.versions ≡ versions_of p = ap (λ a. a.versions) c.allow.ensures ∙ h.versions in
    (rw (events, versions, shared, body) at c.table_of-table.ensures.bound) ∙ same.bound
    ∙ ap (λ b. task_bound (summaries p) (uses_events p) (versions_of p) p.shared b) (sym (ap body_of h.there))

pub returns-clause-words : goal.returns-clause-words
returns-clause-words c = λ task there.
    let text = c.args.accepted.now.text.items in
    let p = program_of c.args.accepted.now.checked.source in
    let l = c.args.layout.now in
    let k = c.args.number in
    let h = task_holds text p c.args.accepted.now.allow c.requires.laid_out.0 l c.requires.laid_out.1 k c.requires.task in
    let source = c.source-source.ensures ∙ ap (λ x. x.source) c.checked.ensures in
    let at = task_at c.args.accepted.now.checked.source.tasks.items k c.index-task.result.now h.task h.there
    (c.index-task.ensures ∙ ap (λ s. get_or s.tasks.items k c.index-task.result.now) source) in
    let shared : c.deref-3.result.now ≡ p.shared = c.deref-3.ensures.value ∙ ap (λ s. s.shared.items) source in
    let body : block_view c.deref-4.result.now ≡ h.task.body = ap block_view c.deref-4.ensures.value ∙ at.1 in
    let functions = c.deref.ensures.value ∙ ap (λ s. s.functions.items) source in
    let same = tables_here p c.args.accepted.now.checked.source.functions.items c.deref.result.now c.deref-2.result.now c.summaries-functions.result.items
    h.task.body refl functions c.deref-2.ensures.0 c.summaries-functions.ensures c.args.accepted.now.checked.few_functions
    c.args.accepted.now.checked.few_shared h.bound h.words in
    (rw (shared, body) at c.table_of-table.ensures.words) ∙ same.words
    ∙ ap (λ t. task_words (summaries p) p.shared t.body) (same_Some h.task task (sym h.there ∙ there))

pub returns-clause-small : goal.returns-clause-small
returns-clause-small c =
    let text = c.args.accepted.now.text.items in
    let p = program_of c.args.accepted.now.checked.source in
    let l = c.args.layout.now in
    let k = c.args.number in
    let h = task_holds text p c.args.accepted.now.allow c.requires.laid_out.0 l c.requires.laid_out.1 k c.requires.task in
    let source = c.source-source.ensures ∙ ap (λ x. x.source) c.checked.ensures in
    let at = task_at c.args.accepted.now.checked.source.tasks.items k c.index-task.result.now h.task h.there
    (c.index-task.ensures ∙ ap (λ s. get_or s.tasks.items k c.index-task.result.now) source) in
    let shared : c.deref-3.result.now ≡ p.shared = c.deref-3.ensures.value ∙ ap (λ s. s.shared.items) source in
    let body : block_view c.deref-4.result.now ≡ h.task.body = ap block_view c.deref-4.ensures.value ∙ at.1 in
    let functions = c.deref.ensures.value ∙ ap (λ s. s.functions.items) source in
    let same = tables_here p c.args.accepted.now.checked.source.functions.items c.deref.result.now c.deref-2.result.now c.summaries-functions.result.items
    h.task.body refl functions c.deref-2.ensures.0 c.summaries-functions.ensures c.args.accepted.now.checked.few_functions
    c.args.accepted.now.checked.few_shared h.bound h.words in
    let events : c.runtime-runtime.result.events ≡ uses_events p = ap (λ r. r.events) c.runtime-runtime.ensures ∙ h.events in
    let versions : c.allow.result.now.versions ≡ versions_of p = ap (λ a. a.versions) c.allow.ensures ∙ h.versions in
    let bound = (rw (events, versions, shared, body) at c.table_of-table.ensures.bound) ∙ same.bound in
    let words = (rw (shared, body) at c.table_of-table.ensures.words) ∙ same.words in
    (omega (arith, bound, h.bound), omega (arith, words, h.words))
