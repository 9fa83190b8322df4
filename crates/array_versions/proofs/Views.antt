-- One more step at the end of a list.
use Rattle.std.proofs.Common.{◌≡◌, List, [], ◌∷◌, ◌++◌, refl, ap}
use Rattle.array_versions.specs.declared.program.WordStep.{WordStep}
use Rattle.array_versions.specs.Program.{behind, step}
use Rattle.array_versions.specs.View.{step_of, steps_of}

pub steps_of_pushed : (ws : List WordStep) (w : WordStep) → steps_of (ws ++ w ∷ []) ≡ behind (steps_of ws) (step_of w)
steps_of_pushed [] w = refl
steps_of_pushed (x ∷ ws) w = ap (step (step_of x)) (steps_of_pushed ws w)
