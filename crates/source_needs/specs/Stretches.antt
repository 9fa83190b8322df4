-- Runs of private scalars as they are counted.
use Rattle.lower.specs.declared.runs.Run.{Run}
use Rattle.source_needs.specs.declared.runs.Stretch.{Stretch}

abbrev pub run_of : Stretch → Run
run_of s = record { home = s.home; copy = s.copy; words = s.words }
