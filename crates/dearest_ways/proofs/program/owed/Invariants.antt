use Rattle.std.proofs.Common.{◌≡◌, drop}
use Rattle.code_paths.specs.Paths.{capped}
use Rattle.word_code.specs.Code.{owed}
use Rattle.dearest_ways.proofs.program.owed.Given as goal

abbrev pub invariant-loop-i : goal.invariant-loop-i
invariant-loop-i l = l.cycles ≡ capped (owed (drop l.i l.waiting))
