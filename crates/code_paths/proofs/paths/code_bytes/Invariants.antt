use Rattle.std.proofs.Common.{◌≡◌, drop}
use Rattle.code_forms.specs.Code.{forms_bytes}
use Rattle.code_paths.specs.Paths.{capped}
use Rattle.code_paths.proofs.paths.code_bytes.Given as goal

abbrev pub invariant-loop-i : goal.invariant-loop-i
invariant-loop-i l = l.bytes ≡ capped (forms_bytes (drop l.i l.code))
