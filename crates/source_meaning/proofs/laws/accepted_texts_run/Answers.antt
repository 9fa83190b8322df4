use Rattle.source_meaning.proofs.Runnable.{accepted_texts_run}
use Rattle.source_meaning.proofs.laws.accepted_texts_run.Goals as goal

pub returns : goal.returns
returns c = accepted_texts_run
