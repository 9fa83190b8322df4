use Rattle.std.proofs.Common.{◌≡◌, ◌∙◌, true, ap, map, sym, subst}
use Rattle.std.specs.Prelude.{All}
use Rattle.task_ast.specs.View.{task_of, program_of}
use Rattle.image_map.specs.Names.{is_name}
use Rattle.source_report.specs.SourceReport.{spelled}
use Rattle.image_map.specs.MapValue.{IsFramWord, AreFramWords}
use Rattle.source_maps.specs.Maps.{map_buffer}
use Rattle.source_maps.proofs.Maps.{runtime_words, are_placed}
use Rattle.source_maps.proofs.Making.{names_back, bare_is, copies_are, ring_is_set, made}
use Rattle.source_maps.proofs.map.map_of.Goals as goal

pub add_tasks-requires-clause-names : goal.add_tasks-requires-clause-names
add_tasks-requires-clause-names c =
    subst (All (λ t. is_name (spelled c.args.text.now t.name) ≡ true)) (sym c.as_slice-3.ensures.value)
    (names_back (λ s. is_name (spelled c.args.text.now s) ≡ true) c.args.source.now.tasks.items c.requires.names.tasks)

pub new-map-requires-clause-words : goal.new-map-requires-clause-words
new-map-requires-clause-words c = subst AreFramWords (sym c.map_words-words.ensures) (runtime_words c.args.layout.now c.rules.ensures)

pub new-map-requires-clause-list : goal.new-map-requires-clause-list
new-map-requires-clause-list c = subst (λ p. IsFramWord p.address) (sym c.map_list-list.ensures) (are_placed c.args.layout.now c.rules.ensures).list.address

pub new-map-requires-clause-emits : goal.new-map-requires-clause-emits
new-map-requires-clause-emits c =
    subst (λ p. IsFramWord p.address) (sym (c.map_buffer-emits.ensures ∙ ap map_buffer c.emits.ensures))
    (are_placed c.args.layout.now c.rules.ensures).emits.address

pub new-map-requires-clause-versions : goal.new-map-requires-clause-versions
new-map-requires-clause-versions c =
    subst (λ p. IsFramWord p.address) (sym (c.map_buffer-versions.ensures ∙ ap map_buffer c.versions.ensures))
    (are_placed c.args.layout.now c.rules.ensures).versions.address

pub set_copies-requires : goal.set_copies-requires
set_copies-requires c =
    subst (λ p. IsFramWord p.address) (sym c.map_copies-copies.ensures) (are_placed c.args.layout.now c.rules.ensures).copies.address

pub returns : goal.returns
returns c =
    made c.args.text.now (program_of c.args.source.now) c.args.layout.now c.args.allow.now c.set_ring.new.added c.add_variables.new.added c.add_tasks.new.added
    c.as_slice.result.now c.as_slice-2.result.now c.variables.result.now (map task_of c.as_slice-3.result.now) c.tasks.result.now
    (ring_is_set c.args.layout.now c.args.allow.now c.set_copies.new.self c.set_ring.new.added _
    (copies_are c.args.layout.now c.args.allow.now c.new-map.result c.set_copies.new.self c.map_copies-copies.result
    (bare_is c.args.layout.now c.args.allow.now c.new-map.result c.map_words-words.result c.map_list-list.result c.map_buffer-emits.result
    c.map_buffer-versions.result
    c.new-map.ensures c.map_words-words.ensures c.map_list-list.ensures (c.map_buffer-emits.ensures ∙ ap map_buffer c.emits.ensures)
    (c.map_buffer-versions.ensures ∙ ap map_buffer c.versions.ensures))
    c.set_copies.ensures c.map_copies-copies.ensures)
    (ap (λ r. r.events) c.runtime.ensures) c.set_ring.ensures)
    c.as_slice.ensures.value c.as_slice-2.ensures.value c.variables.ensures (ap (map task_of) c.as_slice-3.ensures.value) c.tasks.ensures
    c.in_ok-add_variables.ensures c.in_ok-add_tasks.ensures
