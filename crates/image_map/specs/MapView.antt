-- A map as a value.
use Rattle.image_map.specs.declared.map.Map.TheInside.{Inside}
use Rattle.image_map.specs.MapValue.{MapValue}

-- a map as it stands in memory
abbrev pub map_of : Inside → MapValue
map_of m = record {
  bound = m.bound;
  words = m.words;
  list = m.list;
  emits = m.emits;
  versions = m.versions;
  copies = m.copies;
  ring = m.ring;
  variables = m.variables.items;
  tasks = m.tasks.items;
}
