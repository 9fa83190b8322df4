use Rattle.std.proofs.Common.{subst, sym, ◌≡◌, true}
use Rattle.image_map.specs.MapValue.{MapValue, takes_task}
use Rattle.image_map.specs.MapView.{map_of}
use Rattle.image_map.proofs.Rules.{task_pushed}
use Rattle.image_map.proofs.map.Map.add_task.Goals as goal

pub invariant_of-self-2 : goal.invariant_of-self-2
invariant_of-self-2 c =
    let P : MapValue → Type 0 = λ m. takes_task m c.args.name ≡ true in
    task_pushed (map_of c.self.inside) _ _ c.args.name c.new.ensures c.in_ok-push.ensures.items c.self.invariant (subst P (sym c.self.view_is) c.requires)
