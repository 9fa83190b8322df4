-- The first pass notes each label at its first place.
use Rattle.std.proofs.Common.{◌≡◌, ℕ, ◌+◌, List, [], ◌∷◌, map, refl, ap, sym, ◌∙◌, if◌then◌else◌, Bool, true, false, Option, Some, None, Result, Ok, Err}
use Rattle.std.proofs.Common.{arith}
use Rattle.std.proofs.lemmas.Slice.Eq.{bytes_eq-Decides}
use Rattle.std.specs.Prelude.{is_some}
use Rattle.std.specs.Str.{bytes_eq}
use Rattle.std.specs.Option.{option_or}
use Rattle.image_text.proofs.Interface.{or_none}
use Rattle.asm_line.specs.Pieces.{Located}
use Rattle.asm_line.specs.Lines.{LineMeaning, line_of}
use Rattle.msp_asm.specs.declared.labels.Place.{Place}
use Rattle.msp_asm.specs.declared.fault.AsmFault.{AsmFault}
use Rattle.msp_asm.specs.Labels.{Table}
use Rattle.msp_asm.specs.Program.{after, said}
use Rattle.msp_asm.specs.Assembled.{labels_of, note, no_labels, ◌>>=◌}
use Rattle.msp_asm.specs.Laws.{has_label, first_with}

same_text : (q name : List ℕ) → bytes_eq q name ≡ true → q ≡ name
same_text q name e = grind (arith, bytes_eq-Decides q name, e)

-- a line that is one says what the list of meanings begins with
pub record Begins (l : Located) (ls : List Located) (ms : List LineMeaning) : Type 0 where
  pub m : LineMeaning
  pub rest : List LineMeaning
  pub is : ms ≡ m ∷ rest
  pub says : line_of l ≡ Some m
  pub left : map line_of ls ≡ map Some rest

begins : (l : Located) (ls : List Located) (ms : List LineMeaning) → map line_of (l ∷ ls) ≡ map Some ms → Begins l ls ms
begins l ls [] e = cc
begins l ls (m ∷ rest) e = record { m = m; rest = rest; is = refl; says = cc; left = cc }

-- one more label in the table
noted_by : (t : Bool) (f : Table) (q name : List ℕ) (p : Place) (o : Option Place) (rest : Option Place) → bytes_eq q name ≡ t → f q ≡ o
    → option_or (if is_some o then f name else (if t then Some p else f name)) rest ≡ option_or (f name) (if t then Some p else rest)
noted_by false f q name p None rest e h = refl
noted_by false f q name p (Some x) rest e h = refl
noted_by true f q name p None rest e h = let at : f name ≡ None = ap f (sym (same_text q name e)) ∙ h in rw at refl
noted_by true f q name p (Some x) rest e h = let at : f name ≡ Some x = ap f (sym (same_text q name e)) ∙ h in rw at refl

noted : (f : Table) (label : Option Located) (p : Place) (name : List ℕ) (rest : Option Place)
    → option_or (note f label p name) rest ≡ option_or (f name) (if has_label name label then Some p else rest)
noted f None p name rest = refl
noted f (Some q) p name rest = noted_by (bytes_eq q.text name) f q.text name p (f q.text) rest refl refl

ok_of : Table → Result Table AsmFault → Table
ok_of d (Ok f) = f
ok_of d (Err e) = d

-- what the lines behind give, whatever was noted before them
abbrev Later : Table → List ℕ → List Located → Type 0
Later g name ls = (f : Table) (n a : ℕ) (ms : List LineMeaning) → map line_of ls ≡ map Some ms → labels_of f n a ls ≡ Ok g
    → g name ≡ option_or (f name) (first_with name n a ms)

one_more : (f g : Table) (n a : ℕ) (l : Located) (ls : List Located) (ms : List LineMeaning) (name : List ℕ) → Later g name ls → Begins l ls ms
    → (said n (line_of l) >>= λ m. labels_of (note f m.label (record { address = a; line = n })) (n + 1) (after a m.statement) ls) ≡ Ok g
    → g name ≡ option_or (f name) (first_with name n a ms)
one_more f g n a l ls ms name ih b h =
    let goes : labels_of (note f b.m.label (record { address = a; line = n })) (n + 1) (after a b.m.statement) ls ≡ Ok g
    = ap (λ o. said n o >>= λ m. labels_of (note f m.label (record { address = a; line = n })) (n + 1) (after a m.statement) ls) (sym b.says) ∙ h in
    ih (note f b.m.label (record { address = a; line = n })) (n + 1) (after a b.m.statement) b.rest b.left goes
    ∙ noted f b.m.label (record { address = a; line = n }) name (first_with name (n + 1) (after a b.m.statement) b.rest)
    ∙ ap (λ ms. option_or (f name) (first_with name n a ms)) (sym b.is)

first_labels : (g : Table) (name : List ℕ) (ls : List Located) → Later g name ls
unfolding labels_of ok_of
first_labels g name [] f n a [] e h = ap (λ r. ok_of f r name) (sym h) ∙ sym (or_none (f name))
first_labels g name [] f n a (m ∷ ms) e h = cc
first_labels g name (l ∷ ls) f n a ms e h = one_more f g n a l ls ms name (first_labels g name ls) (begins l ls ms e) h

pub labels_first : (ls : List Located) (ms : List LineMeaning) (f : Table) (name : List ℕ) → map line_of ls ≡ map Some ms
    → labels_of no_labels 1 0x4400 ls ≡ Ok f
    → f name ≡ first_with name 1 0x4400 ms
labels_first ls ms f name e h = first_labels f name ls no_labels 1 0x4400 ms e h
