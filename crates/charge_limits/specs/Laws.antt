-- What is taken of the outside, and offered to it, since the last power-up or done, by what a run of a compiled source follows.
use Rattle.std.specs.Prelude.{◌≡◌, ℕ, ◌≤◌, ◌==◌, if◌then◌else◌, List, [], ◌∷◌, length}
use Rattle.machine_effects.specs.fram_board.Effects.{Effect, Store, Take, Outside, Offered, Looked}
use Rattle.machine_effects.specs.World.{readings_taken}
use Rattle.cost_bound.specs.Summaries.{summaries}
use Rattle.cost_bound.specs.Counts.{emits_of}
use Rattle.source_values.specs.Runs.{CheckedProgram, State, task_body}
use Rattle.memory_map.specs.declared.runtime.Logging.TheVariants.{Undo}
use Rattle.memory_map.specs.declared.words.RuntimeWord.TheVariants.{CurrentTask, Gate}
use Rattle.memory_map.specs.MemoryMap.{MemoryMap, word_place}
use Rattle.memory_map.specs.Laws.{AreApart}
use Rattle.crash_rules.specs.Model.{ModelLaws}
use Rattle.crash_rules.specs.History.{Done, History}
use Rattle.crash_rules.specs.Laws.{Origin, Resting, Pending, StandsFor, FollowsScript}
use Rattle.stands_for.specs.Layout.{HaveRoom}
use Rattle.compiled_model.specs.Places.{program_places}
use Rattle.compiled_model.specs.Parts.{compiled_model}
use Rattle.task_readings.specs.Readings.{block_readings, reading_counts}

-- how many readings are taken at most from a power-up or a done on, by FRAM there: those of the text of the task that CUR names, and none before a pending
-- commit is done
abbrev pub readings_from : CheckedProgram → MemoryMap → (ℕ → ℕ) → ℕ
readings_from p l f = if f (word_place l Gate) == 1 then 0 else block_readings (reading_counts p) (task_body p (f (word_place l CurrentTask)))

-- a run stands at a state, where the model keeps its laws and the places of the map are apart: so entries that are put back leave CUR as it is
pub record StandsApart (p : CheckedProgram) (l : MemoryMap) (readings : List ℕ) (h : History) : Type 0 where
  pub apart : AreApart l
  pub laws : ModelLaws (compiled_model p l)
  pub origin : Origin State
  pub stands : StandsFor (compiled_model p l) readings origin h

-- so at each board of a run, whose effects since the last power-up or done follow the script there, and which stands at a state where the runtime puts back
abbrev pub ReadingsAreFew : Type 0
ReadingsAreFew = (p : CheckedProgram) (l : MemoryMap) (readings : List ℕ) (h : History) → FollowsScript (compiled_model p l) readings h
    → (l.runtime.logging ≡ Undo → StandsApart p l readings h)
    → length (readings_taken h.effects) ≤ readings_from p l h.start.fram

-- the words that effects offer to the receiver, in order, also those that it has already
abbrev pub words_offered : List Effect → List ℕ
words_offered [] = []
words_offered (Store a w ∷ es) = words_offered es
words_offered (Take w ∷ es) = words_offered es
words_offered (Outside (Offered number w) ∷ es) = w ∷ words_offered es
words_offered (Outside (Looked look) ∷ es) = words_offered es

-- how many words are offered at most from a power-up or a done on, in a run that begins so and has these dones behind it, the last of which left a state:
-- those of the text of this state's task. While the commit with which the run began isn't done, of which nobody knows the task, as many as the buffer has
abbrev pub words_from : CheckedProgram → MemoryMap → Origin State → List Done → State → ℕ
words_from p l (Resting first) dones s = emits_of (summaries p) (task_body p s.task)
words_from p l (Pending to) [] s = l.emits.words
words_from p l (Pending to) (d ∷ ds) s = emits_of (summaries p) (task_body p s.task)

-- so at each board of a run, where the model keeps its laws, and under undo each task has its room
abbrev pub WordsAreFew : Type 0
WordsAreFew = (p : CheckedProgram) (l : MemoryMap) → (l.runtime.logging ≡ Undo → HaveRoom (program_places p l)) → ModelLaws (compiled_model p l)
    → (readings : List ℕ) (origin : Origin State) (h : History) → FollowsScript (compiled_model p l) readings h
    → (stands : StandsFor (compiled_model p l) readings origin h)
    → length (words_offered h.effects) ≤ words_from p l origin h.completed stands.state
