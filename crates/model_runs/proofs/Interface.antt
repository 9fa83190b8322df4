-- What the proofs of other crates cite.

-- Fronts of a run whose code is a program of a model.
pub use Rattle.model_runs.proofs.Fronts.{stood, runs_so, runs_alone, AtFront, at_front, powers_up, fronts_are_lawful}
-- The world at the last boot or done is the world of a front.
pub use Rattle.model_runs.proofs.Starts.{starts_hold}
-- A run that stops stops where the source is short.
pub use Rattle.model_runs.proofs.Ends.{stops_where_short}
-- Each charge that is spent has as many dones as it has bounds.
pub use Rattle.model_runs.proofs.Progress.{makes_progress}
-- How many dones a run has at most, and how many readings it takes.
pub use Rattle.model_runs.proofs.Counts.{dones_are_few, takes_what_is_there}
-- In one charge the spans follow one another.
pub use Rattle.model_runs.proofs.Spans.{spans_are_in_order, spans_past_are_in_order}
-- What a word of FRAM holds at most, by what is stored there.
pub use Rattle.model_runs.proofs.Words.{words_stay_within}
-- EVENT is never read, and each event that arose waits there or was lost.
pub use Rattle.model_runs.proofs.Unheard.{never_reads}
pub use Rattle.model_runs.proofs.Waiting.{AreWaiting, moments_wait}
-- The two histories over the moments of a run.
pub use Rattle.model_runs.proofs.Histories.{Together, together_on, observed_so, moment_leads, moments_lead, first_histories_are_the_same}
-- The report of a run, by its dones.
pub use Rattle.model_runs.proofs.Reports.{report_is_of_dones, few_words_have_lines}
