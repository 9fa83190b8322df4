use Rattle.std.proofs.Common.{refl}
use Rattle.cost_bound.proofs.laws.long_price_rows.Goals as goal

pub returns : goal.returns
returns c = record {
  number = refl;
  scalar = refl;
  unary = refl;
  sum = refl;
  sum_on_the_right = refl;
  comparison = refl;
  part_of_a_part = refl;
  short_circuit = refl;
  shift = refl;
  declaration_with_value = refl;
  assignment = refl;
  assignment_of_a_long = refl;
  condition = refl;
}
