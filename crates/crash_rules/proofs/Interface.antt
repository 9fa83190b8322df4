-- What the proofs of other crates cite.

-- Prefixes of effects, worlds behind them, and positions of readings.
pub use Rattle.crash_rules.proofs.Lists.{world_fram, holds-append, holds_both}
-- A task's cost is within the greatest.
pub use Rattle.crash_rules.proofs.Plays.{below_greatest}
-- Effects in front of an attempt.
pub use Rattle.crash_rules.proofs.Front.{in_front}
-- The words that effects store at an address, and the answers among them.
pub use Rattle.crash_rules.proofs.Observed.{stored-append, answers-append, takes_store_none}
-- What effects make of a history.
pub use Rattle.crash_rules.proofs.Observed.{observe-append, with_effects, unchanged, observe_quiet, observed_taken, observed_world}
-- The events of an instruction, by its effects and by GATE before and behind it.
pub use Rattle.crash_rules.proofs.Events.{events_of_instructions}
-- Steps of any machine, one after another.
pub use Rattle.crash_rules.proofs.Steps.{goes_on, changed}
-- The laws of runs that are cut anywhere.
pub use Rattle.crash_rules.proofs.Theorems.{crash_theorem, stops_short, never_lost, sent_once, pending_sends, spans_follow, pending_spans_follow}
pub use Rattle.crash_rules.proofs.Theorems.{tasks_pay, instructions_pay, progress_law, stores_only, runs_may_begin}
