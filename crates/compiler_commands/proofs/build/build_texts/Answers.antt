use Rattle.std.proofs.Common.{refl, ap}
use Rattle.plain_commands.specs.alp_io.Report.{bound_line}
use Rattle.plain_commands.proofs.command_answers.Interface.{refusal_fails, memory_fails, put_whole, put_breaks, put_fails, handed_on}
use Rattle.compiler_commands.proofs.PutLaws.{builds}
use Rattle.compiler_commands.proofs.build.build_texts.Goals as goal

pub returns-in_err-source-clause-failure : goal.returns-in_err-source-clause-failure
returns-in_err-source-clause-failure g c =
    handed_on _ _ _ c.from_residual.ensures (refusal_fails _ _ _ _ _ 0 _ _ refl (λ r no. (no, refl)) refl refl c.in_err-source.ensures.refused)

pub returns-in_err-built-clause-failure : goal.returns-in_err-built-clause-failure
returns-in_err-built-clause-failure g c =
    handed_on _ _ _ c.from_residual-in_err-built.ensures (memory_fails _ _ _ _ _ c.in_err-built.ensures.failure refl refl)

pub returns-in_err-put_file-clause-failure : goal.returns-in_err-put_file-clause-failure
returns-in_err-put_file-clause-failure g c =
    let built = c.in_ok-built.ensures.built in
    let source = c.in_ok-source.ensures in
    let product = builds c.images_keep_the_laws.ensures _ _ _ _ _ _ source.text source.accepted built
    (c.in_ok-built.ensures.told built.map built.mapped) _ refl in
    handed_on _ _ _ c.from_residual-in_err-put_file.ensures (put_fails _ _ _ _ _ _ _ _ refl (product, refl) refl c.in_err-put_file.ensures.failure)

pub returns-clause-whole : goal.returns-clause-whole
returns-clause-whole g c =
    let built = c.in_ok-built.ensures.built in
    let source = c.in_ok-source.ensures in
    let product = builds c.images_keep_the_laws.ensures _ _ _ _ _ _ source.text source.accepted built
    (c.in_ok-built.ensures.told built.map built.mapped) in
    put_whole _ _ _ _ _ _ _ _ refl (λ output bound. (product output bound, refl)) c.as_slice.ensures.value c.in_ok-put_file.ensures.put
    (_, ap (λ a. bound_line a.cycles) c.allow.ensures, c.in_ok-write_bound.ensures.bytes.whole)

pub returns-in_err-write_bound-clause-failure : goal.returns-in_err-write_bound-clause-failure
returns-in_err-write_bound-clause-failure g c =
    let built = c.in_ok-built.ensures.built in
    let source = c.in_ok-source.ensures in
    let product = builds c.images_keep_the_laws.ensures _ _ _ _ _ _ source.text source.accepted built
    (c.in_ok-built.ensures.told built.map built.mapped) in
    handed_on _ _ _ c.from_residual-in_err-write_bound.ensures
    (put_breaks _ _ _ _ _ _ _ _ refl (λ output bound. (product output bound, refl)) c.as_slice.ensures.value c.in_ok-put_file.ensures.put
    (_, ap (λ a. bound_line a.cycles) c.allow.ensures, c.in_err-write_bound.ensures.bytes.part, c.in_err-write_bound.ensures.cause.failed))
