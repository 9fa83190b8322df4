-- The labels of a text.
use Rattle.std.specs.Prelude.{ℕ, List, Option, Some, if◌then◌else◌, is_some}
use denote.Ref.{Bor}
use Rattle.std.specs.Ordering.{nat_cmp}
use Rattle.std.specs.Map.{update}
use Rattle.std.specs.Str.{bytes_eq}
use Rattle.std.specs.Cmp.Lexicographic.{slice_cmp}
use Rattle.std.specs.BTreeMap.{BTreeMap, get_by}
use Rattle.msp_asm.specs.declared.labels.Place.{Place}

-- where each label stands first
abbrev pub Table : Type 0
Table = List ℕ → Option Place

-- the table of a map
abbrev pub label_at : BTreeMap (Bor (List ℕ)) Place → Table
label_at m name = get_by (λ k. slice_cmp nat_cmp name k.now) m

-- a label that has no place yet gets this one
abbrev pub with_label : Table → List ℕ → Place → Table
with_label f name p q = if is_some (f name) then f q else update bytes_eq f name (Some p) q
