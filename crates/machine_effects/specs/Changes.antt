-- What an outcome of the machine says of FRAM and the inputs.
use Rattle.std.specs.Prelude.{◌≡◌}
use Rattle.machine_effects.specs.World.{fram_after}
use Rattle.machine_effects.specs.Inputs.{Inputs, TakesExactly}
use Rattle.machine_effects.specs.Going.{Goes, Stops}
use Rattle.machine_effects.specs.Machine.{MachineBoard, MachineOutcome}

-- what an outcome says of FRAM and the inputs: they are as the effects make them
abbrev pub ChangesByEffects : MachineBoard → MachineOutcome → Type 0
ChangesByEffects s (Goes es c t) = (t.fram ≡ fram_after es s.fram) × TakesExactly es s.inputs t.inputs
ChangesByEffects s (Stops es price stop) = (fram_after es s.fram ≡ s.fram) × ((left : Inputs) × TakesExactly es s.inputs left)
