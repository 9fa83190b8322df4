use Rattle.std.proofs.Common.{◌∙◌, ap, Some, refl}
use Rattle.std.proofs.lemmas.Option.{slice_get-get_or}
use Rattle.privatise.proofs.TasksPlaced.{scalar_within, no_array}
use Rattle.privatise.proofs.tasks.private_scalar.Goals as goal

pub bounds-variables-number : goal.bounds-variables-number
bounds-variables-number c = scalar_within c.args.variables.now c.args.number c.requires

pub unreachable-requires : goal.unreachable-requires
unreachable-requires c =
    no_array c.args.variables.now c.args.number _ c.requires
    (slice_get-get_or c.args.variables.now c.args.number _ (scalar_within c.args.variables.now c.args.number c.requires) ∙ ap Some c.in-Array.is) refl

pub returns-clause-place : goal.returns-clause-place
returns-clause-place c = record {
  place = slice_get-get_or c.args.variables.now c.args.number _ (scalar_within c.args.variables.now c.args.number c.requires) ∙ ap Some c.in-Scalar.is;
}
