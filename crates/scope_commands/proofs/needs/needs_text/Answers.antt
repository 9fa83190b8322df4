use Rattle.std.proofs.Common.{map}
use Rattle.task_ast.specs.View.{program_of}
use Rattle.need_lines.specs.Rows.{row_of}
use Rattle.scope_commands.proofs.Scoped.{scoped}
use Rattle.scope_commands.proofs.needs.needs_text.Goals as goal

pub returns-clause-text : goal.returns-clause-text
returns-clause-text c =
    let source = c.args.source.now in
    let needs = c.in_ok-needs.needs in
    let lines = rw (c.new-text.ensures.items, c.deref.ensures.value, c.allow.ensures) at c.in_ok-push_needs.ensures in
    scoped c.images_keep_the_laws.ensures source.text.items (program_of source.checked.source) source.allow (map row_of needs.items) _ c.requires.accepted
    c.in_ok-needs.ensures lines
