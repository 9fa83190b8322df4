use Rattle.std.proofs.Common.{◌≡◌, ◌<◌, ◌++◌, ℕ, drop, map, get_or, true}
use Rattle.text_parts.specs.Printed.{printed}
use Rattle.image_map.specs.declared.parts.Variable.{Variable}
use Rattle.image_map.specs.Names.{is_name}
use Rattle.image_map.specs.Text.{variable_fields}
use Rattle.image_map.proofs.print.push_variables.Given as goal

abbrev pub invariant-loop-v : goal.invariant-loop-v
invariant-loop-v l = record {
  text : l.out.items ++ printed (map variable_fields (drop l.v-index l.variables)) ≡ l.fn.out.items ++ printed (map variable_fields l.variables);
  names : (k : ℕ) (d : Variable) → k < l.v-index → is_name (get_or l.variables k d).name ≡ true;
}
