use Rattle.std.proofs.Common.{◌∙◌, ap₂, refl}
use Rattle.plain_commands.specs.fram_board.Board.{fresh}
use Rattle.compiler_commands.specs.Try.{the_tried_source, the_tried_trace}
use Rattle.plain_commands.proofs.command_answers.Interface.{refusal_fails, memory_fails, put_whole, put_breaks, put_fails, handed_on}
use Rattle.plain_commands.proofs.Interface.{told_from}
use Rattle.compiler_commands.proofs.PutLaws.{tries}
use Rattle.compiler_commands.proofs.try_.try_texts.Goals as goal

pub returns-in_err-source-clause-failure : goal.returns-in_err-source-clause-failure
returns-in_err-source-clause-failure g c =
    handed_on _ _ _ c.from_residual.ensures (refusal_fails _ _ _ _ _ 0 _ _ refl (λ r no. the_tried_source r no) refl refl c.in_err-source.ensures.refused)

pub returns-in_err-trace-clause-failure : goal.returns-in_err-trace-clause-failure
returns-in_err-trace-clause-failure g c =
    handed_on _ _ _ c.from_residual-in_err-trace.ensures
    (refusal_fails _ _ _ _ _ 1 _ _ refl (λ r no. the_tried_trace _ r c.in_ok-source.ensures.said no) refl refl
    c.in_err-trace.ensures.refused)

pub returns-in_err-built-clause-failure : goal.returns-in_err-built-clause-failure
returns-in_err-built-clause-failure g c =
    handed_on _ _ _ c.from_residual-in_err-built.ensures (memory_fails _ _ _ _ _ c.in_err-built.ensures.failure refl refl)

pub returns-in_err-board-clause-failure : goal.returns-in_err-board-clause-failure
returns-in_err-board-clause-failure g c = handed_on _ _ _ c.from_residual-in_err-board.ensures (refl, refl)

pub returns-in_err-watch-clause-failure : goal.returns-in_err-watch-clause-failure
returns-in_err-watch-clause-failure g c = handed_on _ _ _ c.from_residual-in_err-watch.ensures (refl, refl)

pub returns-in_err-put_file-clause-failure : goal.returns-in_err-put_file-clause-failure
returns-in_err-put_file-clause-failure g c =
    let built = c.in_ok-built.ensures.built in
    let told = c.in_ok-built.ensures.told built.map built.mapped _ c.in_ok-trace.ensures.words in
    let source = c.in_ok-source.ensures in
    let tried = tries _ _ _ _ _ _ _ _ source.text source.accepted c.in_ok-trace.ensures.said built told in
    handed_on _ _ _ c.from_residual-in_err-put_file.ensures
    (put_fails _ _ _ _ _ _ _ _ refl (tried told.output told.report, refl) refl c.in_err-put_file.ensures.failure)

pub write_trial-requires-clause-ends_well : goal.write_trial-requires-clause-ends_well
write_trial-requires-clause-ends_well g c =
    let built = c.in_ok-built.ensures.built in
    let told = c.in_ok-built.ensures.told built.map built.mapped _ c.in_ok-trace.ensures.words in
    let is_board = c.in_ok-board.ensures ∙ ap₂ (fresh c.in_ok-built.built.image.words) c.readings.ensures.value c.events.ensures.value in
    λ ending output report. told.ends_well ending output (told_from _ _ _ _ _ is_board c.in_ok-watch.ensures ending output report)

pub returns-in_err-write_trial-clause-failure : goal.returns-in_err-write_trial-clause-failure
returns-in_err-write_trial-clause-failure g c =
    let built = c.in_ok-built.ensures.built in
    let told = c.in_ok-built.ensures.told built.map built.mapped _ c.in_ok-trace.ensures.words in
    let source = c.in_ok-source.ensures in
    let tried = tries _ _ _ _ _ _ _ _ source.text source.accepted c.in_ok-trace.ensures.said built told in
    let is_board = c.in_ok-board.ensures ∙ ap₂ (fresh c.in_ok-built.built.image.words) c.readings.ensures.value c.events.ensures.value in
    handed_on _ _ _ c.from_residual-in_err-write_trial.ensures
    (put_breaks _ _ _ _ _ _ _ _ refl (λ output report. (tried output (told_from _ _ _ _ _ is_board c.in_ok-watch.ensures _ _ report), refl))
    c.as_slice.ensures.value c.in_ok-put_file.ensures.put c.in_err-write_trial.ensures.failure)

pub returns-clause-whole : goal.returns-clause-whole
returns-clause-whole g c =
    let built = c.in_ok-built.ensures.built in
    let told = c.in_ok-built.ensures.told built.map built.mapped _ c.in_ok-trace.ensures.words in
    let source = c.in_ok-source.ensures in
    let tried = tries _ _ _ _ _ _ _ _ source.text source.accepted c.in_ok-trace.ensures.said built told in
    let is_board = c.in_ok-board.ensures ∙ ap₂ (fresh c.in_ok-built.built.image.words) c.readings.ensures.value c.events.ensures.value in
    put_whole _ _ _ _ _ _ _ _ refl (λ output report. (tried output (told_from _ _ _ _ _ is_board c.in_ok-watch.ensures _ _ report), refl))
    c.as_slice.ensures.value c.in_ok-put_file.ensures.put c.in_ok-write_trial.ensures.whole
