-- What a map keeps.
use Rattle.std.specs.Prelude.{◌≡◌, ◌^◌, ◌<◌, ◌≤◌, true, [], ◌++◌, length, IfSome, All}
use Rattle.image_map.specs.MapValue.{AreFramWords, IsPlace, IsRing, IsVariable, MapValue, are_different, are_scalars, task_names, variable_names}

-- the rules of a map
pub record IsMap (m : MapValue) : Type 0 where
  pub bound : m.bound < 2 ^ 32
  pub words : AreFramWords m.words
  pub list : IsPlace m.list
  pub emits : IsPlace m.emits
  pub versions : IsPlace m.versions
  pub copies : IfSome m.copies IsPlace
  pub ring : IfSome m.ring IsRing
  pub variables : All IsVariable m.variables
  pub few_variables : length m.variables ≤ 256
  pub few_tasks : length m.tasks ≤ 64
  pub different : are_different [] (variable_names m.variables ++ task_names m.tasks) ≡ true
  pub privates : All (λ t. are_scalars t.privates m.variables ≡ true) m.tasks
