-- Tasks whose names are names.
use Rattle.std.specs.Prelude.{◌≡◌, true, All}
use Rattle.image_map.specs.Names.{is_name}
use Rattle.image_map.specs.MapValue.{TaskValue}

-- the names of a task and of its private scalars
pub record AreTaskNames (t : TaskValue) : Type 0 where
  pub name : is_name t.name ≡ true
  pub privates : All (λ n. is_name n ≡ true) t.privates
