-- What the Rust value stands for.
use Rattle.cost_bound.specs.Machine.{known_of}
use Rattle.privatise.specs.declared.routines.Functions.{Functions}
use Rattle.privatise.specs.Routines.{KnownFunctions}

-- what is known of functions, as it stands in memory
abbrev pub functions_in : Functions → KnownFunctions
functions_in f = record { summaries = known_of f.summaries.now; locals = f.locals.now }
