use Rattle.compiler_commands.proofs.TrialLaws.{trial_whole, trial_breaks, no_fault}
use Rattle.plain_commands.proofs.command_answers.Interface.{handed_on}
use Rattle.compiler_commands.proofs.try_.write_trial.Goals as goal

pub unreachable-requires : goal.unreachable-requires
unreachable-requires g c = no_fault _ _ _ _ _ _ c.requires.ends_well c.in-AtFault.is c.in_ok-write_report.ensures.bytes

pub returns-in_err-write_report-clause-failure : goal.returns-in_err-write_report-clause-failure
returns-in_err-write_report-clause-failure g c =
    handed_on _ _ _ c.from_residual.ensures
    (trial_breaks _ _ _ _ _ c.requires.ends_well c.in_err-write_report.ensures.bytes c.in_err-write_report.ensures.cause.failed)

pub returns-clause-whole : goal.returns-clause-whole
returns-clause-whole g c = trial_whole _ _ _ _ _ _ c.in-Well.is c.in_ok-write_report.ensures.bytes
