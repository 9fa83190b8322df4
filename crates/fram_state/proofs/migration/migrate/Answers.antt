use Rattle.std.proofs.Common.{◌∙◌, ap}
use Rattle.fram_state.proofs.Answered.{edition_at, current_at, calls_return_at}
use Rattle.fram_state.proofs.migration.migrate.Goals as goal

pub words_behind-requires-clause-old : goal.words_behind-requires-clause-old
words_behind-requires-clause-old c =
    edition_at c.args.old.now c.args.state.now c.requires.old c.source.result.now c.words.result.now c.source-2.result.now c.in-Some.old_map.now
    c.source.ensures (c.source-2.ensures ∙ ap (λ x. x.source) c.checked.ensures) c.in-Some.ensures.value c.words.ensures.len c.rules.ensures

pub words_behind-requires-clause-current : goal.words_behind-requires-clause-current
words_behind-requires-clause-current c =
    current_at c.args.old.now c.args.state.now c.requires.old c.source.result.now c.words.result.now c.source-2.result.now c.in-Some.old_map.now
    (c.source-2.ensures ∙ ap (λ x. x.source) c.checked.ensures) c.in-Some.ensures.value c.words.ensures.value

pub words_behind-requires-clause-old_calls : goal.words_behind-requires-clause-old_calls
words_behind-requires-clause-old_calls c =
    calls_return_at c.args.old.now c.source-2.result.now (c.source-2.ensures ∙ ap (λ x. x.source) c.checked.ensures)

pub words_behind-requires-clause-new_calls : goal.words_behind-requires-clause-new_calls
words_behind-requires-clause-new_calls c =
    calls_return_at c.args.new.now c.source-4.result.now (c.source-4.ensures ∙ ap (λ x. x.source) c.checked-2.ensures)
