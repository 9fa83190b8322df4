-- The names of an accepted source.
use Rattle.std.proofs.Common.{◌≡◌, ◌∙◌, ℕ, true, List, [], ◌∷◌, ◌++◌, map, refl, sym, ap, subst}
use Rattle.std.specs.Prelude.{All}
use Rattle.std.proofs.lemmas.List.Elements.{All-nil, All-cons, All-head, All-tail}
use Rattle.alp_text.specs.declared.lines.Span.{Span}
use Rattle.task_ast.specs.Paths.{CheckedTask}
use Rattle.cost_bound.specs.task_check.LookedUp.{task_back}
use Rattle.cost_bound.specs.task_check.Occurrences.{program_names}
use Rattle.image_map.specs.Names.{is_name}
use Rattle.image_map.specs.MapValue.{are_different}
use Rattle.source_report.specs.SourceReport.{spelled}
use Rattle.source_maps.specs.Names.{HasWords, NamesAreNames}
use Rattle.source_maps.proofs.Spelling.{are_named, program_named, ProgramNamed}
use Rattle.source_maps.proofs.Declared.{program_declared}
use Rattle.source_maps.proofs.Different.{different, have_words, program_words}

tasks_there : (P : Span → Type 0) (tasks : List CheckedTask) → All (λ t. P t.name) (map task_back tasks) → All (λ t. P t.name) tasks
tasks_there P [] h = All-nil (λ t. P t.name)
tasks_there P (t ∷ ts) h =
    All-cons (λ t. P t.name) t ts (All-head (λ t. P t.name) (task_back t) (map task_back ts) h)
    (tasks_there P ts (All-tail (λ t. P t.name) (task_back t) (map task_back ts) h))

names_there : (text : List ℕ) (tasks : List CheckedTask) → map (λ t. spelled text t.name) (map task_back tasks)
    ≡ map (λ t. spelled text t.name) tasks
names_there text [] = refl
names_there text (t ∷ ts) = ap (λ l. spelled text t.name ∷ l) (names_there text ts)

pub names_are_names : NamesAreNames
names_are_names text p checks =
    let tree = checks.tree in
    let all = program_names text tree in
    let same = checks.checks.named.looked_up.places in
    let named = subst (ProgramNamed text) (sym same)
    (program_named text checks.parses.words tree checks.parses.grammar (are_named text checks.parses.words checks.parses.lexes)) in
    let names : are_different [] (map (λ d. spelled text d.name) tree.shared ++ map (λ t. spelled text t.name) tree.tasks) ≡ true =
    ap (are_different []) (sym (program_declared text tree)) ∙ different text all [] all refl checks.checks.named.names in
    let names_back : are_different [] (map (λ d. spelled text d.name) p.shared ++ map (λ t. spelled text t.name) (map task_back p.tasks)) ≡ true =
    subst (λ q. are_different [] (map (λ d. spelled text d.name) q.shared ++ map (λ t. spelled text t.name) q.tasks) ≡ true) (sym same) names in
    let words = program_words text tree (have_words text all all checks.checks.named.uses) in
    record {
      variables = named.shared_variables;
      tasks = tasks_there (λ s. is_name (spelled text s) ≡ true) p.tasks named.all_tasks;
      different = ap (λ l. are_different [] (map (λ d. spelled text d.name) p.shared ++ l)) (sym (names_there text p.tasks)) ∙ names_back;
      words = subst (λ q. All (λ d. HasWords d.extent) q.shared) (sym same) words;
    }
