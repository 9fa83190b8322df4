use Rattle.std.proofs.Common.{◌≡◌, ◌<◌, ◌++◌, ℕ, List, drop, map, get_or, true}
use Rattle.text_parts.specs.Printed.{printed}
use Rattle.image_map.specs.Names.{is_name}
use Rattle.image_map.specs.Text.{private_fields}
use Rattle.image_map.proofs.print.push_privates.Given as goal

abbrev pub invariant-loop-name : goal.invariant-loop-name
invariant-loop-name l = record {
  text : l.out.items ++ printed (map private_fields (drop l.name-index l.names)) ≡ l.fn.out.items ++ printed (map private_fields l.names);
  names : (k : ℕ) (d : List ℕ) → k < l.name-index → is_name (get_or l.names k d) ≡ true;
}
