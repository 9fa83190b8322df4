-- What the code of a word program spends.
use Rattle.std.specs.Prelude.{◌≡◌, ℕ, true}
use Rattle.word_code.specs.code_forms.Forms.{Core}
use Rattle.word_code.specs.code_forms.Code.{Stands, IsTidy, KeptCode}
use Rattle.word_code.specs.array_versions.Program.{Program}
use Rattle.word_code.specs.array_versions.Behaviour.{started, behaviour}
use Rattle.word_code.specs.array_versions.Form.{IsWhole, OfWords}
use Rattle.word_code.specs.Code.{code_of}
use Rattle.word_code.specs.Laws.{IsEntry, ComesToWithin, KeepsWithin, RoutinesStand}
use Rattle.code_costs.specs.Dearest.{most_spent}

-- code in which the code of a whole program stands, and that of what it calls, does what the program does, within the cycles of its dearest way, and keeps
-- SP where there is room for these stacks; with events its stack has room where that of such code begins
abbrev pub CodeKeepsToItsWays : Type 0
CodeKeepsToItsWays = (kept : KeptCode) (at : ℕ) (p : Program) (u : Core) → IsTidy kept.code → Stands kept.code at (code_of p)
    → RoutinesStand kept.code p → (whole : IsWhole p) → KeepsWithin kept p whole → OfWords p
    → IsEntry at u
    → let b = behaviour p (started u.fram u.inputs) in ComesToWithin kept (most_spent p) u b.effects b.end
