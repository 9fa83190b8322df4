-- What the paths of a block do with one variable.
use Rattle.std.specs.Prelude.{◌≡◌, ◌==◌, Bool, true, false, ◌&&◌, ◌||◌, if◌then◌else◌, List, [], ◌∷◌}
use Rattle.task_ast.specs.declared.names.Variable.{Variable}
use Rattle.task_ast.specs.declared.names.Variable.TheVariants.{Shared, Local}
use Rattle.task_ast.specs.Paths.{CheckedBlock, CheckedFunction, Access, read, write, unset, End, BlockPath}
use Rattle.path_sums.specs.Sums.{Algebra}
use Rattle.path_sums.specs.declared.access.AccessSummary.{AccessSummary}

-- whether the two are one variable
abbrev pub is_same : Variable → Variable → Bool
is_same (Shared x) (Shared y) = y == x
is_same (Local x) (Local y) = y == x
is_same _ _ = false

-- whether a path writes the variable
abbrev pub writes : Variable → List Access → Bool
writes v [] = false
writes v (read n ∷ more) = writes v more
writes v (write n ∷ more) = if is_same v n.variable then true else writes v more
writes v (unset n ∷ more) = writes v more

-- whether a path writes the variable before it reads it, and before its end
abbrev pub writes_first : Variable → List Access → Bool
writes_first v [] = false
writes_first v (read n ∷ more) = if is_same v n.variable then false else writes_first v more
writes_first v (write n ∷ more) = if is_same v n.variable then true else writes_first v more
writes_first v (unset n ∷ more) = writes_first v more

-- some path of the block, which may call these functions, is so
abbrev pub SomePath : List CheckedFunction → CheckedBlock → (List Access → Bool) → Type 0
SomePath fs b holds = (xs : List Access) × (end : End) × BlockPath fs b xs end × (holds xs ≡ true)

-- some path of the block isn't
abbrev pub SomePathNot : List CheckedFunction → CheckedBlock → (List Access → Bool) → Type 0
SomePathNot fs b holds = (xs : List Access) × (end : End) × BlockPath fs b xs end × (holds xs ≡ false)

-- A shared scalar is private to a task where some path writes it, and not every path writes it before it reads it and before its
-- transition. This is stricter than Alpaca's rule (Maeng, Colin, Lucia: Alpaca, OOPSLA 2017), which privatises what is read and later written.
abbrev pub IsPrivate : List CheckedFunction → CheckedBlock → Variable → Type 0
IsPrivate fs b v = SomePath fs b (writes v) × SomePathNot fs b (writes_first v)

abbrev pub summary_unit : AccessSummary
summary_unit = record { falls_through = true; untouched = true; transitions_untouched = false; exposed = false; writes = false }

abbrev pub summary_gone : AccessSummary
summary_gone = record { falls_through = false; untouched = false; transitions_untouched = true; exposed = false; writes = false }

abbrev pub summary_read : AccessSummary
summary_read = record { falls_through = true; untouched = false; transitions_untouched = false; exposed = true; writes = false }

abbrev pub summary_write : AccessSummary
summary_write = record { falls_through = true; untouched = false; transitions_untouched = false; exposed = false; writes = true }

abbrev pub summary_one : Variable → Access → AccessSummary
summary_one v (read n) = if is_same v n.variable then summary_read else summary_unit
summary_one v (write n) = if is_same v n.variable then summary_write else summary_unit
summary_one v (unset n) = summary_unit

abbrev pub summary_seq : AccessSummary → AccessSummary → AccessSummary
summary_seq s t = record {
  falls_through = s.falls_through && t.falls_through;
  untouched = s.untouched && t.untouched;
  transitions_untouched = s.transitions_untouched || (s.untouched && t.transitions_untouched);
  exposed = s.exposed || (s.untouched && t.exposed);
  writes = s.writes || (s.falls_through && t.writes);
}

abbrev pub summary_join : AccessSummary → AccessSummary → AccessSummary
summary_join s t = record {
  falls_through = s.falls_through || t.falls_through;
  untouched = s.untouched || t.untouched;
  transitions_untouched = s.transitions_untouched || t.transitions_untouched;
  exposed = s.exposed || t.exposed;
  writes = s.writes || t.writes;
}

-- a call of what this is the body's sum of: the paths that return go on, and locals are the function's own
abbrev pub summary_called : Variable → AccessSummary → AccessSummary
summary_called (Shared _) s = record {
  falls_through = true;
  untouched = s.transitions_untouched;
  transitions_untouched = false;
  exposed = s.exposed;
  writes = s.writes;
}
summary_called (Local _) s = summary_unit

-- the sums of what paths do with the variable
unfoldable pub summary : Variable → Algebra AccessSummary
summary v = record {
  unit = summary_unit;
  gone = summary_gone;
  one = summary_one v;
  seq = summary_seq;
  join = summary_join;
  called = summary_called v;
}

-- whether a variable is private where its accesses sum up so
abbrev pub private_of : AccessSummary → Bool
private_of s = s.writes && (s.exposed || (s.transitions_untouched || s.untouched))
