-- What stands at a name in a table, row by row.
use Rattle.std.proofs.Common.{◌≡◌, ◌∙◌, ◌<◌, ◌+◌, ℕ, Bool, true, false, if◌then◌else◌, List, [], ◌∷◌, Option, Some, length, drop, get_or, map}
use Rattle.std.proofs.Common.{option_map, refl, sym, ap}
use Rattle.std.proofs.lemmas.List.{at_drop_more}
use Rattle.std.specs.Borrow.{Bor}
use Rattle.std.specs.Str.{str_eq_ignore_ascii_case}
use Rattle.asm_line.specs.Values.{look_up}
use Rattle.asm_line.specs.TableViews.{row_of}

-- what stands at a name behind the first i rows of a table
abbrev pub behind_rows : {A : Type 0} → List (Bor (List ℕ) × A) → ℕ → List ℕ → Option A
behind_rows rows i name = look_up (map row_of (drop i rows)) name

-- what the next row leaves to the rows behind it
abbrev pub from_row : {A : Type 0} → List (Bor (List ℕ) × A) → ℕ → Bor (List ℕ) × A → List ℕ → Bool → Option A
from_row rows i row name here = if here then Some row.1 else behind_rows rows (i + 1) name

-- the next row decides
pub next_row : {A : Type 0} (rows : List (Bor (List ℕ) × A)) (i : ℕ) (row : Bor (List ℕ) × A) (name : List ℕ) (here : Bool) → i < length rows
    → row ≡ get_or rows i row → str_eq_ignore_ascii_case name row.0.now ≡ here → behind_rows rows i name ≡ from_row rows i row name here
next_row rows i row name here h is test = at_drop_more (λ rs. look_up (map row_of rs) name) rows i row h
    ∙ ap (λ r. look_up (map row_of (r ∷ drop (i + 1) rows)) name) (sym is) ∙ ap (from_row rows i row name) test

view_either : {A B : Type 0} (f : A → B) (here : Bool) (x : A) (o : Option A) (p : Option B) → option_map f o ≡ p
    → option_map f (if here then Some x else o) ≡ (if here then Some (f x) else p)
view_either f true x o p e = refl
view_either f false x o p e = e

-- a view of what stands at a name stands there in the table of the views
pub view_at : {A B : Type 0} (f : A → B) (rows : List (List ℕ × A)) (name : List ℕ)
    → option_map f (look_up rows name) ≡ look_up (map (λ r. (r.0, f r.1)) rows) name
view_at f [] name = refl
view_at f (row ∷ rows) name = view_either f (str_eq_ignore_ascii_case name row.0) row.1 _ _ (view_at f rows name)

-- so it does of what is found in a table
pub viewed : {A B : Type 0} (f : A → B) (rows table : List (Bor (List ℕ) × A)) (name : List ℕ) (found : Option A) → found ≡ look_up (map row_of rows) name
    → rows ≡ table → option_map f found ≡ look_up (map (λ r. (r.0, f r.1)) (map row_of table)) name
viewed f rows table name found e is = ap (option_map f) e ∙ view_at f (map row_of rows) name
    ∙ ap (λ rs. look_up (map (λ r. (r.0, f r.1)) (map row_of rs)) name) is
