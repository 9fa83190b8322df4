-- The lines that tell what tasks need of a charge.
use Rattle.std.specs.Prelude.{ℕ, List, [], ◌∷◌, ◌++◌, codes, decimal, map}
use Rattle.text_parts.specs.Printed.{printed}
use Rattle.need_lines.specs.declared.needs.IfWay.{IfWay}
use Rattle.need_lines.specs.declared.needs.UndoNeed.{UndoNeed}
use Rattle.need_lines.specs.Rows.{NeedRow, need_in, undo_in, greatest, greatest_undo}

-- `task NAME NEED TABLE WORDS`
abbrev pub task_fields : NeedRow → List (List ℕ)
task_fields r = codes "task" ∷ r.name ∷ decimal (need_in r) ∷ decimal r.table ∷ decimal r.words ∷ []

-- `parts BOOT START PATH COMMIT`
abbrev pub parts_fields : NeedRow → List (List ℕ)
parts_fields r = codes "parts" ∷ decimal r.boot ∷ decimal r.start ∷ decimal r.path ∷ decimal r.commit ∷ []

-- `way LINE WAY TIMES`
abbrev pub way_fields : IfWay → List (List ℕ)
way_fields w = codes "way" ∷ decimal w.line ∷ decimal w.way ∷ decimal w.times ∷ []

-- `undo NEED BOOT START PATH COMMIT`
abbrev pub undo_fields : UndoNeed → List (List ℕ)
undo_fields u = codes "undo" ∷ decimal (undo_in u) ∷ decimal u.boot ∷ decimal u.start ∷ decimal u.path ∷ decimal u.commit ∷ []

-- the lines of each task
abbrev pub rows_fields : List NeedRow → List (List (List ℕ))
rows_fields [] = []
rows_fields (r ∷ rs) = task_fields r ∷ parts_fields r ∷ (map way_fields r.ways ++ undo_fields r.undo ∷ rows_fields rs)

-- `need N of B`
abbrev pub last_fields : ℕ → ℕ → List (List ℕ)
last_fields most bound = codes "need" ∷ decimal most ∷ codes "of" ∷ decimal bound ∷ []

-- `undo N of B`
abbrev pub last_undo_fields : ℕ → ℕ → List (List ℕ)
last_undo_fields most bound = codes "undo" ∷ decimal most ∷ codes "of" ∷ decimal bound ∷ []

-- the lines of tasks in order, and behind them the greatest needs and the bound
abbrev pub needs_text : List NeedRow → ℕ → List ℕ
needs_text rows bound = printed (rows_fields rows ++ last_undo_fields (greatest_undo rows) bound ∷ last_fields (greatest rows) bound ∷ [])

-- what is left of a line behind its first word
unfoldable pub tail_text : List (List ℕ) → List ℕ
tail_text [] = []
tail_text (w ∷ ws) = 32 ∷ w ++ tail_text ws
