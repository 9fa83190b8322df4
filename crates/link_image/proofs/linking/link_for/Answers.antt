use Rattle.std.proofs.Common.{◌≡◌, ◌∙◌, ℕ, List, length, Some, sym, ap, subst, arith}
use Rattle.std.proofs.lemmas.List.{length-map}
use Rattle.task_ast.specs.View.{program_of}
use Rattle.task_ast.specs.declared.Source.{Source}
use Rattle.task_ast.specs.declared.names.VariableName.{VariableName}
use Rattle.task_ast.specs.declared.names.FunctionName.{FunctionName}
use Rattle.task_ast.specs.declared.names.TaskName.{TaskName}
use Rattle.cost_bound.specs.declared.allowance.Allow.{Allow}
use Rattle.source_values.specs.Runs.{CheckedProgram}
use Rattle.memory_map.specs.MemoryMap.{MemoryMap}
use Rattle.image_map.specs.MapValue.{MapValue, TaskValue}
use Rattle.image_text.specs.ImageValue.{ImageValue}
use Rattle.image_laws.specs.Words.{AreImageWords}
use Rattle.source_maps.specs.Maps.{map_of}
use Rattle.source_maps.specs.Laws.{IsSourceMap}
use Rattle.link_image.proofs.linking.link_for.Goals as goal

-- a source's map has as many tasks as the source
as_many : (text : List ℕ) (p : CheckedProgram) (allow : Allow) (l : MemoryMap) → IsSourceMap text p allow l
    → length (map_of text p l allow).tasks ≡ length p.tasks
as_many text p allow l h =
    sym (length-map (map_of text p l allow).tasks (λ (t : TaskValue). t.name)) ∙ ap length h.of_source.tasks ∙ length-map p.tasks _

-- the map of what is equal
map_same : (t text : List ℕ) (s source : Source VariableName TaskName FunctionName) (l : MemoryMap) (a allow : Allow) → t ≡ text → s ≡ source → a ≡ allow
    → map_of t (program_of s) l a ≡ map_of text (program_of source) l allow
map_same t text s source l a allow e f g =
    ap (λ x. map_of x (program_of s) l a) e ∙ ap (λ (x : Source VariableName TaskName FunctionName). map_of text (program_of x) l a) f
    ∙ ap (λ x. map_of text (program_of source) l x) g

pub with_map-requires : goal.with_map-requires
with_map-requires c =
    let text = c.args.accepted.now.text.items in
    let p : CheckedProgram = program_of c.args.accepted.now.checked.source in
    let is : c.in_ok-map.map ≡ map_of text p c.layout_for-layout.result c.args.accepted.now.allow = c.in_ok-map.ensures
    ∙ map_same _ text _ c.args.accepted.now.checked.source c.layout_for-layout.result _ c.args.accepted.now.allow c.source.ensures
    (c.source-2.ensures ∙ ap (λ ch. ch.source) c.checked-checked.ensures) c.allow-2.ensures in
    let count = ap (λ (m : MapValue). length m.tasks) is in
    let many = as_many text p c.args.accepted.now.allow c.layout_for-layout.result c.is_ready.ensures.source_map in
    let some = c.is_ready.ensures.some_task in
    omega (arith, count, many, some)

pub returns : goal.returns
returns c =
    let text = c.args.accepted.now.text.items in
    let p : CheckedProgram = program_of c.args.accepted.now.checked.source in
    let l = c.layout_for-layout.result in
    let is : c.in_ok-map.map ≡ map_of text p l c.args.accepted.now.allow = c.in_ok-map.ensures
    ∙ map_same _ text _ c.args.accepted.now.checked.source l _ c.args.accepted.now.allow c.source.ensures
    (c.source-2.ensures ∙ ap (λ ch. ch.source) c.checked-checked.ensures) c.allow-2.ensures in
    record {
      plans = c.in_ok-plan.plan;
      layout = l;
      is_plan = rw c.checked-checked.ensures at c.in_ok-plan.ensures;
      is_layout = c.layout_for-layout.ensures;
      of_words = c.is_ready.ensures.of_words;
      words = subst (λ (i : ImageValue). AreImageWords p l i.words) (sym c.with_map.ensures) c.in_ok-image.ensures;
      map = ap (λ (i : ImageValue). i.map) c.with_map.ensures ∙ ap (λ m. Some m) is;
    }
