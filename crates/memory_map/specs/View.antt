-- The memory map that a layout is.
use Rattle.std.specs.Prelude.{List}
use Rattle.memory_map.specs.declared.place.VariablePlace.{VariablePlace}
use Rattle.memory_map.specs.declared.runtime.Runtime.{Runtime}
use Rattle.memory_map.specs.declared.layouts.Regions.{Regions}
use Rattle.memory_map.specs.declared.layouts.Layout.TheInside.{Inside}
use Rattle.memory_map.specs.MemoryMap.{MemoryMap, TaskPlace}

-- the regions for a runtime, with the places of the variables and of the tasks
abbrev pub map_with : Runtime → Regions → List VariablePlace → List TaskPlace → MemoryMap
map_with runtime r variables tasks = record {
  runtime = runtime;
  row = r.row;
  list = r.list;
  entries = r.entries;
  emits = r.emits;
  versions = r.versions;
  homes = r.homes;
  copies = r.copies;
  variables = variables;
  boot = r.boot;
  commit = r.commit;
  code = r.code;
  tasks = tasks;
}

-- a memory map as it stands in memory
abbrev pub map_of : Inside → MemoryMap
map_of l = map_with l.runtime l.regions l.variables.items l.tasks.items
