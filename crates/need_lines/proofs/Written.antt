-- The lines of needs as they are written.
use Rattle.std.proofs.Common.{◌≡◌, ◌∙◌, ℕ, suc, ◌+◌, ◌<◌, ◌++◌, ◌∷◌, [], List}
use Rattle.std.proofs.Common.{length, map, drop, get_or, drop-cons, append_assoc, append-nil, refl, sym, ap, arith}
use Rattle.text_parts.specs.Printed.{spaced, printed}
use Rattle.text_parts.proofs.Interface.{printed_append}
use Rattle.need_lines.specs.declared.needs.IfWay.{IfWay}
use Rattle.need_lines.specs.declared.needs.TaskNeed.{TaskNeed}
use Rattle.need_lines.specs.Rows.{NeedRow, row_of, greatest, greatest_undo}
use Rattle.need_lines.specs.Lines.{task_fields, parts_fields, way_fields, undo_fields, rows_fields, last_undo_fields, last_fields, needs_text, tail_text}

spaced_tail : (v : List ℕ) (ws : List (List ℕ)) → spaced (v ∷ ws) ≡ v ++ tail_text ws
unfolding tail_text
spaced_tail v [] = sym (append-nil v)
spaced_tail v (w ∷ ws) = ap (λ r. v ++ 32 ∷ r) (spaced_tail w ws)

pub line_written : (first : List ℕ) (ws : List (List ℕ)) (a b c d : List ℕ) → b ≡ a ++ first → c ≡ b ++ tail_text ws → d ≡ c ++ 10 ∷ []
    → d ≡ a ++ (spaced (first ∷ ws) ++ 10 ∷ [])
line_written first ws a b c d e f g =
    g ∙ ap (λ x. x ++ 10 ∷ []) (f ∙ ap (λ x. x ++ tail_text ws) e ∙ append_assoc a first (tail_text ws) ∙ ap (λ x. a ++ x) (sym (spaced_tail first ws)))
    ∙ append_assoc a (spaced (first ∷ ws)) (10 ∷ [])

-- a line, and those behind it
abbrev line_text : List (List ℕ) → List ℕ
line_text l = spaced l ++ 10 ∷ []

first_line : (l : List (List ℕ)) (ls : List (List (List ℕ))) → printed (l ∷ ls) ≡ line_text l ++ printed ls
unfolding printed
first_line l ls = refl

-- one way more is written
pub way_written : (ws : List IfWay) (i : ℕ) (d : IfWay) (a b : List ℕ) → i < length ws → b ≡ a ++ (spaced (way_fields (get_or ws i d)) ++ 10 ∷ [])
    → b ++ printed (map way_fields (drop (i + 1) ws)) ≡ a ++ printed (map way_fields (drop i ws))
way_written ws i d a b h f =
    let w = get_or ws i d in
    let next : i + 1 ≡ suc i = omega arith in
    let rest : List ℕ = printed (map way_fields (drop (i + 1) ws)) in
    ap (λ x. x ++ rest) f ∙ append_assoc a (line_text (way_fields w)) rest
    ∙ ap (λ x. a ++ x) (sym (first_line (way_fields w) (map way_fields (drop (i + 1) ws))))
    ∙ ap (λ ws. a ++ printed (map way_fields ws)) (ap (λ j. w ∷ drop j ws) next ∙ sym (drop-cons ws i d h))

pub no_ways_written : (a : List ℕ) → a ++ printed (map way_fields []) ≡ a
unfolding printed
no_ways_written a = append-nil a

-- the lines of one task more are written
pub task_written : (ts : List TaskNeed) (i : ℕ) (t : TaskNeed) (a b c d e : List ℕ) → i < length ts → t ≡ get_or ts i t
    → b ≡ a ++ (spaced (task_fields (row_of t)) ++ 10 ∷ []) → c ≡ b ++ (spaced (parts_fields (row_of t)) ++ 10 ∷ [])
    → d ≡ c ++ printed (map way_fields t.ways.items) → e ≡ d ++ (spaced (undo_fields t.undo) ++ 10 ∷ [])
    → e ++ printed (rows_fields (map row_of (drop (i + 1) ts))) ≡ a ++ printed (rows_fields (map row_of (drop i ts)))
task_written ts i t a b c d e h is f g k m =
    let next : i + 1 ≡ suc i = omega arith in
    let behind : List (List (List ℕ)) = rows_fields (map row_of (drop (i + 1) ts)) in
    let undo : List ℕ = line_text (undo_fields t.undo) in
    let more : List (List (List ℕ)) = undo_fields t.undo ∷ behind in
    let ways : List (List (List ℕ)) = map way_fields t.ways.items in
    let rest : List ℕ = printed ways ++ printed more in
    let first : List ℕ = line_text (task_fields (row_of t)) in
    let second : List ℕ = line_text (parts_fields (row_of t)) in
    ap (λ x. x ++ printed behind) m ∙ append_assoc d undo (printed behind) ∙ ap (λ x. d ++ x) (sym (first_line (undo_fields t.undo) behind))
    ∙ ap (λ x. x ++ printed more) k ∙ append_assoc c (printed ways) (printed more)
    ∙ ap (λ x. x ++ rest) (g ∙ ap (λ x. x ++ second) f) ∙ append_assoc (a ++ first) second rest ∙ append_assoc a first (second ++ rest)
    ∙ ap (λ x. a ++ (first ++ (second ++ x))) (sym (printed_append ways more))
    ∙ ap (λ x. a ++ (first ++ x)) (sym (first_line (parts_fields (row_of t)) (ways ++ more)))
    ∙ ap (λ x. a ++ x) (sym (first_line (task_fields (row_of t)) (parts_fields (row_of t) ∷ (ways ++ more))))
    ∙ ap (λ ts. a ++ printed (rows_fields (map row_of ts))) (ap (λ j. t ∷ drop j ts) next ∙ ap (λ u. u ∷ drop (suc i) ts) is ∙ sym (drop-cons ts i t h))

pub no_tasks_written : (a : List ℕ) → a ++ printed (rows_fields []) ≡ a
unfolding printed
no_tasks_written a = append-nil a

last_line : (l : List (List ℕ)) → printed (l ∷ []) ≡ spaced l ++ 10 ∷ []
unfolding printed
last_line l = append-nil (spaced l ++ 10 ∷ [])

-- all lines are written
pub needs_written : (rows : List NeedRow) (bound : ℕ) (a b c d : List ℕ) → b ≡ a ++ printed (rows_fields rows)
    → c ≡ b ++ (spaced (last_undo_fields (greatest_undo rows) bound) ++ 10 ∷ []) → d ≡ c ++ (spaced (last_fields (greatest rows) bound) ++ 10 ∷ [])
    → d ≡ a ++ needs_text rows bound
needs_written rows bound a b c d e f g =
    let last : List (List (List ℕ)) = last_fields (greatest rows) bound ∷ [] in
    let undo : List ℕ = line_text (last_undo_fields (greatest_undo rows) bound) in
    let end : List (List (List ℕ)) = last_undo_fields (greatest_undo rows) bound ∷ last in
    g ∙ ap (λ x. c ++ x) (sym (last_line (last_fields (greatest rows) bound))) ∙ ap (λ x. x ++ printed last) f ∙ append_assoc b undo (printed last)
    ∙ ap (λ x. b ++ x) (sym (first_line (last_undo_fields (greatest_undo rows) bound) last)) ∙ ap (λ x. x ++ printed end) e
    ∙ append_assoc a (printed (rows_fields rows)) (printed end) ∙ ap (λ x. a ++ x) (sym (printed_append (rows_fields rows) end))
