use Rattle.std.proofs.Common.{arith, subst, sym, ◌≡◌, true}
use Rattle.image_map.specs.MapValue.{MapValue, takes_variable}
use Rattle.image_map.specs.MapView.{map_of}
use Rattle.image_map.proofs.Rules.{variable_pushed}
use Rattle.image_map.proofs.map.Map.add_variable.Goals as goal

pub invariant_of-self-2 : goal.invariant_of-self-2
invariant_of-self-2 c =
    let P : MapValue → Type 0 = λ m. takes_variable m c.args.v ≡ true in
    variable_pushed (map_of c.self.inside) _ c.args.v (omega arith) c.in_ok-push.ensures.items c.self.invariant (subst P (sym c.self.view_is) c.requires)
