-- A run of a compiled source's image is told by the source.
use Rattle.std.specs.Prelude.{ℕ, ◌<◌, ◌^◌, List, Some}
use Rattle.image_map.specs.MapValue.{MapValue}
use Rattle.fram_board.specs.Board.{BoardValue}
use Rattle.fram_board.specs.Run.{BoardCharge, RunOutcome}
use Rattle.board_run.specs.History.{start_with}
use Rattle.board_run.specs.Report.{report_of}
use Rattle.source_values.specs.Runs.{CheckedProgram}
use Rattle.memory_map.specs.MemoryMap.{MemoryMap}
use Rattle.machine_effects.specs.World.{World}
use Rattle.crash_rules.specs.Runs.{Program}
use Rattle.run_charges.specs.Laws.{IsRunOfWords}
use Rattle.model_runs.specs.Runs.{all_amounts}
use Rattle.source_runs.specs.Tells.{IsToldBySource}
use Rattle.source_runs.specs.Sources.{IsOfSource, BeginsWithSource}
use Rattle.compiled_model.specs.Parts.{compiled_model}
use Rattle.image_reports.specs.Sources.{IsSourcesMap}

-- the tasks of a compiled source are the source's transitions
abbrev pub ModelsAreOfSources : Type 0
ModelsAreOfSources = (text : List ℕ) (p : CheckedProgram) (l : MemoryMap) (m : MapValue) → IsSourcesMap text p l m → IsOfSource text p m (compiled_model p l)

-- the report of each run that begins with a compiled source's first state is told by the source
abbrev pub CompiledRunsAreTold : Program → Type 0
CompiledRunsAreTold c = (text : List ℕ) (p : CheckedProgram) (l : MemoryMap) (m : MapValue) (x : World) (cs : List BoardCharge) (b : BoardValue)
    (r : RunOutcome)
    → IsSourcesMap text p l m → BeginsWithSource p m (compiled_model p l) c x b → IsRunOfWords cs b r → all_amounts cs < 2 ^ 64
    → IsToldBySource text p m cs b r (report_of (start_with b.fram (Some m)) b.line.coming r)
