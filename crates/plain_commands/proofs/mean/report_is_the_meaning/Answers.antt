use Rattle.plain_commands.proofs.mean.report_is_the_meaning.Goals as goal

pub returns : goal.returns
returns c = c.mean_report_is_determined.ensures _ _ _ c.args.source.now.runnable
