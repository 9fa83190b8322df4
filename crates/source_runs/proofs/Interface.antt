-- What the proofs of other crates cite.

-- The spans of the transitions of a run, read off its moments, are those of the dones that are read off its effects; and so each of its
pub use Rattle.source_runs.proofs.Spans.{read_off}
-- What transitions cost by worlds.
pub use Rattle.source_runs.proofs.Costs.{task_costs}
-- The report of a run is the source's, on the committed readings of its dones.
pub use Rattle.source_runs.proofs.Told.{runs_are_told, resumed_runs_are_told}
-- A state's task costs what the world says that has its words; and each charge pays for its transitions.
pub use Rattle.source_runs.proofs.Told.{state_within, charges_pay}
-- The charges of a trace are few, and power-ups leave words; a board may hold its readings and its events.
pub use Rattle.source_runs.proofs.Traces.{traces_are_few, trace_inputs}
-- A transition is made by the task of its state, and emits at most 256 words.
pub use Rattle.source_runs.proofs.Transitions.{IsMadeBy, made}
