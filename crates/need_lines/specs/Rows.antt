-- What a task needs of a charge, as its lines tell it.
use Rattle.std.specs.Prelude.{ℕ, ◌+◌, max, List, [], ◌∷◌}
use Rattle.need_lines.specs.declared.needs.IfWay.{IfWay}
use Rattle.need_lines.specs.declared.needs.UndoNeed.{UndoNeed}
use Rattle.need_lines.specs.declared.needs.TaskNeed.{TaskNeed}

-- a task's name; the parts of its need, in cycles: from a power-up to the start of an attempt, with the version words cleared, up to the store that
-- decides, to the end of the commit; what the table of allowances has for it, and its words; which ways the dearest one through it goes at its `if`s; and the
-- same parts of what it needs in an image that works in place
pub record NeedRow : Type 0 where
  pub name : List ℕ
  pub boot : ℕ
  pub start : ℕ
  pub path : ℕ
  pub commit : ℕ
  pub table : ℕ
  pub words : ℕ
  pub ways : List IfWay
  pub undo : UndoNeed

abbrev pub row_of : TaskNeed → NeedRow
row_of t = record {
  name = t.name.now;
  boot = t.boot;
  start = t.start;
  path = t.path;
  commit = t.commit;
  table = t.table;
  words = t.words;
  ways = t.ways.items;
  undo = t.undo;
}

-- in all
abbrev pub need_in : NeedRow → ℕ
need_in r = r.boot + r.start + r.path + r.commit

abbrev pub undo_in : UndoNeed → ℕ
undo_in u = u.boot + u.start + u.path + u.commit

-- the greatest need
abbrev pub greatest : List NeedRow → ℕ
greatest [] = 0
greatest (r ∷ rs) = max (need_in r) (greatest rs)

-- in place
abbrev pub greatest_undo : List NeedRow → ℕ
greatest_undo [] = 0
greatest_undo (r ∷ rs) = max (undo_in r.undo) (greatest_undo rs)
