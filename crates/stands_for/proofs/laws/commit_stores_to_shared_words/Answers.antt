use Rattle.stands_for.proofs.laws.commit_stores_to_shared_words.Goals as goal
use Rattle.stands_for.proofs.Theorems.{commit_stores_there}

pub returns : goal.returns
returns c = commit_stores_there
