-- The same places for the undo runtime.
use Rattle.std.proofs.Common.{ap}
use Rattle.memory_map.specs.declared.runtime.Logging.TheVariants.{Undo}
use Rattle.memory_map.specs.declared.runtime.Runtime.{Runtime}
use Rattle.memory_map.specs.MemoryMap.{MemoryMap, logged_map}
use Rattle.memory_map.specs.Places.{IsLaidOut}
use Rattle.privatise.specs.Laws.{LayoutsAreLogged}

-- the rules of layouts don't look at the runtime
logged_rules : (l : MemoryMap) → IsLaidOut l → IsLaidOut (logged_map l)
logged_rules l h = record {
  chain = h.chain;
  list = h.list;
  homes = h.homes;
  copies = h.copies;
  versions = h.versions;
  code = h.code;
  privates = h.privates;
}

pub layouts_are_logged : LayoutsAreLogged
layouts_are_logged p allow plans l h = record {
  placed = h.placed;
  runtime = ap (λ (r : Runtime). record r { logging = Undo }) h.runtime;
  rules = logged_rules l h.rules;
  list = h.list;
  emits = h.emits;
  versions = h.versions;
  homes = h.homes;
  copies = h.copies;
  variables = h.variables;
  boot = h.boot;
  commit = h.commit;
  code = h.code;
  tasks = h.tasks;
  size = h.size;
}
