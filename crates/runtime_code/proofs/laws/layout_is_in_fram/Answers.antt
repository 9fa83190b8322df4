use Rattle.runtime_code.proofs.Layouts.{privates_are_words}
use Rattle.runtime_code.proofs.laws.layout_is_in_fram.Goals as goal

pub returns-clause-privates : goal.returns-clause-privates
returns-clause-privates c = privates_are_words
