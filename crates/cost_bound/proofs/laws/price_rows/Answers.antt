use Rattle.std.proofs.Common.{refl}
use Rattle.cost_bound.proofs.laws.price_rows.Goals as goal

pub returns : goal.returns
returns c = record {
  number = refl;
  scalar = refl;
  reading = refl;
  event = refl;
  unary = refl;
  sum = refl;
  comparison = refl;
  short_circuit = refl;
  shift = refl;
  product = refl;
  quotient = refl;
  remainder = refl;
  element = refl;
  declaration = refl;
  declaration_with_value = refl;
  assignment = refl;
  store = refl;
  call = refl;
  call_of_two = refl;
  give = refl;
  transition = refl;
  choice = refl;
  choice_without_else = refl;
  loop = refl;
  loop_of_no_turns = refl;
}
