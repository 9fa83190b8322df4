-- What the proofs of other crates cite.

-- What one turn of the loops of the analysis finds.
pub use Rattle.war_analysis.proofs.Steps.{element}
-- Scalars that are marked have at most as many words as are counted.
pub use Rattle.war_analysis.proofs.Counted.{words_of_all, HasWords, marked_are_counted}
-- Each path of a function of a checked source returns.
pub use Rattle.war_analysis.proofs.Returning.{returns_at_once, calls_at, each_returns}
