use Rattle.std.proofs.Common.{◌≡◌, ◌∙◌, refl, sym, ap}
use Rattle.source_generator.specs.Trace.{generated_trace}
use Rattle.plain_commands.proofs.command_answers.Interface.{put_whole, put_breaks, put_fails, handed_on}
use Rattle.compiler_commands.proofs.GenLaws.{generates, lines_of_run}
use Rattle.compiler_commands.proofs.generate.put_generated.Goals as goal

pub returns-in_err-board-clause-failure : goal.returns-in_err-board-clause-failure
returns-in_err-board-clause-failure g c = handed_on _ _ _ c.from_residual.ensures (refl, refl)

pub returns-in_err-watch-clause-failure : goal.returns-in_err-watch-clause-failure
returns-in_err-watch-clause-failure g c = handed_on _ _ _ c.from_residual-in_err-watch.ensures (refl, refl)

pub returns-in_err-put_file-clause-failure : goal.returns-in_err-put_file-clause-failure
returns-in_err-put_file-clause-failure g c =
    let built = c.requires.built in
    let told = c.requires.told built.map built.mapped _ c.requires.words in
    let product = generates _ _ _ _ _ _ _ _ _ refl c.requires.generated refl c.requires.trace c.requires.accepted built c.requires.told c.requires.words
    (told.report.outcome, told.report.run) _ refl in
    handed_on _ _ _ c.from_residual-in_err-put_file.ensures (put_fails _ _ _ _ _ _ _ _ refl (product, refl) refl c.in_err-put_file.ensures.failure)

pub returns-clause-whole : goal.returns-clause-whole
returns-clause-whole g c =
    let ran = c.run_alone-end.ensures in
    let bound = ap (λ a. a.cycles) c.allow.ensures in
    let product = generates _ _ _ _ _ _ _ _ _ refl c.requires.generated bound
    (c.requires.trace ∙ ap (λ b. generated_trace c.args.words.number b) (sym bound)) c.requires.accepted c.requires.built c.requires.told c.requires.words
    (ran.outcome, ran.run) in
    put_whole (λ output. output ≡ _) _ _ _ _ _ _ _ refl (λ output same. (product output (same ∙ lines_of_run _ _ _ _ _ _ _ ran), refl))
    c.as_slice.ensures.value c.in_ok-put_file.ensures.put
    (_, refl, c.in_ok-write_lines.ensures.bytes.whole)

pub returns-in_err-write_lines-clause-failure : goal.returns-in_err-write_lines-clause-failure
returns-in_err-write_lines-clause-failure g c =
    let ran = c.run_alone-end.ensures in
    let bound = ap (λ a. a.cycles) c.allow.ensures in
    let product = generates _ _ _ _ _ _ _ _ _ refl c.requires.generated bound
    (c.requires.trace ∙ ap (λ b. generated_trace c.args.words.number b) (sym bound)) c.requires.accepted c.requires.built c.requires.told c.requires.words
    (ran.outcome, ran.run) in
    handed_on _ _ _ c.from_residual-in_err-write_lines.ensures
    (put_breaks (λ output. output ≡ _) _ _ _ _ _ _ _ refl (λ output same. (product output (same ∙ lines_of_run _ _ _ _ _ _ _ ran), refl))
    c.as_slice.ensures.value c.in_ok-put_file.ensures.put (_, refl, c.in_err-write_lines.ensures.bytes.part, c.in_err-write_lines.ensures.cause.failed))

pub run_alone-end-requires-clause-ends_well : goal.run_alone-end-requires-clause-ends_well
run_alone-end-requires-clause-ends_well g c =
    let built = c.requires.built in
    (c.requires.told built.map built.mapped _ c.requires.words).ends_well
