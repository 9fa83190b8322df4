use Rattle.std.proofs.Common.{◌≡◌, drop}
use Rattle.source_maps.specs.Maps.{private_names}
use Rattle.source_maps.specs.Adding.{with_privates, TakesPrivates}
use Rattle.source_maps.proofs.map.add_privates.Given as goal

abbrev pub invariant-loop-scalar : goal.invariant-loop-scalar
invariant-loop-scalar l =
    let left = private_names l.text l.shared (drop l.scalar-index l.privates) in
    record {
      made : with_privates l.added left ≡ with_privates l.fn.added (private_names l.fn.text l.fn.shared l.fn.privates);
      takes : TakesPrivates l.added left;
    }
