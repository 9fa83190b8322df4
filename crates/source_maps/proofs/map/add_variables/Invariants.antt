use Rattle.std.proofs.Common.{◌≡◌, drop}
use Rattle.source_maps.specs.Maps.{variables_of}
use Rattle.source_maps.specs.Adding.{with_variables, TakesVariables}
use Rattle.source_maps.proofs.map.add_variables.Given as goal

abbrev pub invariant-loop-i : goal.invariant-loop-i
invariant-loop-i l =
    let left = variables_of l.text (drop l.i l.shared) (drop l.i l.places) in
    record {
      made : with_variables l.added left ≡ with_variables l.fn.added (variables_of l.fn.text l.fn.shared l.fn.places);
      takes : TakesVariables l.added left;
    }
