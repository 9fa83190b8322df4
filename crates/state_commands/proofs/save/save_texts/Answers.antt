use Rattle.std.proofs.Common.{◌≡◌, refl}
use Rattle.plain_commands.proofs.command_answers.Interface.{memory_fails, nothing_done, put_whole, put_breaks, put_fails, handed_on}
use Rattle.state_commands.proofs.SaveLaws.{ends_by_itself, fault_whole, fault_breaks, saves_well}
use Rattle.state_commands.proofs.save.save_texts.Goals as goal

pub returns-in_err-state_run-clause-failure : goal.returns-in_err-state_run-clause-failure
returns-in_err-state_run-clause-failure g c =
    handed_on _ _ _ c.from_residual.ensures (nothing_done _ _ _ _ _ c.in_err-state_run.ensures.failure refl refl)

-- ---- a run that ended well

pub returns-in_err-text-in-Ok-clause-failure : goal.returns-in_err-text-in-Ok-clause-failure
returns-in_err-text-in-Ok-clause-failure g c =
    handed_on _ _ _ c.from_residual-in_err-text-in-Ok.ensures (memory_fails _ _ _ _ _ c.in_err-text-in-Ok.ensures.failure refl refl)

pub returns-in_err-put_file-in-Ok-clause-failure : goal.returns-in_err-put_file-in-Ok-clause-failure
returns-in_err-put_file-in-Ok-clause-failure g c =
    let ran = c.in_ok-state_run.ensures.ran in
    let product = saves_well _ _ _ _ _ _ ran _ _ _ c.in-Ok.is (c.in_ok-text-in-Ok.ensures.text, c.in_ok-text-in-Ok.ensures.reads_back) refl in
    handed_on _ _ _ c.from_residual-in_err-put_file-in-Ok.ensures (put_fails _ _ _ _ _ _ _ _ refl product refl c.in_err-put_file-in-Ok.ensures.failure)

pub returns-in_err-write_end-in-Ok-clause-failure : goal.returns-in_err-write_end-in-Ok-clause-failure
returns-in_err-write_end-in-Ok-clause-failure g c =
    let ran = c.in_ok-state_run.ensures.ran in
    handed_on _ _ _ c.from_residual-in_err-write_end-in-Ok.ensures
    (put_breaks (λ output. output ≡ _) _ _ _ _ _ _ _ refl
    (λ output line. saves_well _ _ _ _ _ _ ran _ _ output c.in-Ok.is (c.in_ok-text-in-Ok.ensures.text, c.in_ok-text-in-Ok.ensures.reads_back) line)
    c.as_slice.ensures.value c.in_ok-put_file-in-Ok.ensures.put
    (_, refl, c.in_err-write_end-in-Ok.ensures.bytes.part, c.in_err-write_end-in-Ok.ensures.cause.failed))

pub returns-in_ok-write_end-in-Ok-clause-whole : goal.returns-in_ok-write_end-in-Ok-clause-whole
returns-in_ok-write_end-in-Ok-clause-whole g c =
    let ran = c.in_ok-state_run.ensures.ran in
    put_whole (λ output. output ≡ _) _ _ _ _ _ _ _ refl
    (λ output line. saves_well _ _ _ _ _ _ ran _ _ output c.in-Ok.is (c.in_ok-text-in-Ok.ensures.text, c.in_ok-text-in-Ok.ensures.reads_back) line)
    c.as_slice.ensures.value c.in_ok-put_file-in-Ok.ensures.put (_, refl, c.in_ok-write_end-in-Ok.ensures.bytes.whole)

-- ---- one that met a machine fault

pub write_fault-requires : goal.write_fault-requires
write_fault-requires g c = ends_by_itself _ _ _ _ _ c.in_ok-state_run.ensures.ran.ran _ c.in-Err.is

pub returns-in_err-write_fault-in-Err-clause-failure : goal.returns-in_err-write_fault-in-Err-clause-failure
returns-in_err-write_fault-in-Err-clause-failure g c =
    handed_on _ _ _ c.from_residual-in_err-write_fault-in-Err.ensures
    (fault_breaks _ _ _ _ _ _ c.in_ok-state_run.ensures.ran _ _ _ _ _ _ c.in-Err.is refl c.in_err-write_fault-in-Err.ensures.bytes.part
    c.in_err-write_fault-in-Err.ensures.cause.failed)

pub returns-in_ok-write_fault-in-Err-clause-whole : goal.returns-in_ok-write_fault-in-Err-clause-whole
returns-in_ok-write_fault-in-Err-clause-whole g c =
    fault_whole _ _ _ _ _ _ c.in_ok-state_run.ensures.ran _ _ _ _ _ _ c.in-Err.is refl c.in_ok-write_fault-in-Err.ensures.bytes.whole
