-- What `try` or `undo` prints is a report that its source could have told; and `audit` answers so.
use Rattle.std.specs.Prelude.{◌≡◌, ℕ, false, List, []}
use Rattle.plain_commands.specs.cost_bound.Allowance.{uses_events}
use Rattle.memory_map.specs.declared.runtime.Logging.{Logging}
use Rattle.plain_commands.specs.report_audit.Good.{IsGoodReport}
use Rattle.compiler_commands.specs.Try.{Tries}
use Rattle.plain_commands.specs.Audited.{IsAnsweredYes}

-- the report of either is good, by the source and the trace that it was made of, if the source takes no events and the trace has none
abbrev pub TriedReportsAreGood : Type 0
TriedReportsAreGood = (logging : Logging) (source trace file output : List ℕ) (t : Tries logging source trace file output)
    → uses_events t.program ≡ false → t.charges.events ≡ [] → (n : ℕ) × IsGoodReport source t.program t.allow.cycles t.charges.readings output n

-- whatever an audit says of such a report on a source and a trace without events, it is `yes`
abbrev pub TriedReportsAreAnsweredYes : Type 0
TriedReportsAreAnsweredYes = (logging : Logging) (source trace file output : List ℕ) (t : Tries logging source trace file output)
    → uses_events t.program ≡ false → t.charges.events ≡ [] → IsAnsweredYes source trace output
