-- What the Rust value stands for.
use Rattle.memory_map.specs.Spots.{Places}
use Rattle.variable_places.specs.declared.places.TaskPlaces.{TaskPlaces}

-- what a task has of a memory map, as it stands in memory
abbrev pub places_in : TaskPlaces → Places
places_in p = record {
  map = record p.layout.now { variables = p.variables.now };
  privates = p.privates.now;
  first = p.first;
  routines = p.routines.now;
}
