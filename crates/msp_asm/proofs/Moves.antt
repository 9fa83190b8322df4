-- A line that gives words alone gives them wherever it stands.
use Rattle.std.proofs.Common.{◌≡◌, ℕ, List, refl, ap, sym, ◌∙◌, Option, Some, None}
use Rattle.msp_isa.specs.Encoding.{encoding}
use Rattle.msp_isa.specs.declared.instructions.Condition.{Condition}
use Rattle.msp_isa.specs.declared.instructions.Instr.{Instr}
use Rattle.msp_isa.specs.declared.instructions.Instr.TheVariants as instr
use Rattle.asm_line.specs.Numbers.{◌>>?◌}
use Rattle.asm_line.specs.Pieces.{Located}
use Rattle.asm_line.specs.Values.{ValueMeaning, number, out_of_range, label, here}
use Rattle.asm_line.specs.Lines.{StatementMeaning, nothing, org, words, jump, instruction, LineMeaning, line_of}
use Rattle.asm_line.specs.Filling.{fill, offset_to}
use Rattle.asm_line.specs.Places.{Same, ValueSame, StatementSame, LineSame}
use Rattle.asm_line.proofs.Interface.{line_same}
use Rattle.msp_asm.specs.Alone.{plain_value, plain_operand, statement_alone, without_label, meaning_alone, line_alone}

value_alike : (v w : ValueMeaning) → ValueSame v w → plain_value v ≡ plain_value w
value_alike (number n) (number m) h = ap Some h
value_alike (out_of_range n) (out_of_range m) h = refl
value_alike (label p) (label q) h = refl
value_alike here here h = refl
value_alike v w h = absurd h

operand_alike : (o p : Option ValueMeaning) → Same ValueSame o p → plain_operand o ≡ plain_operand p
operand_alike None None h = refl
operand_alike None (Some w) h = absurd h
operand_alike (Some v) None h = absurd h
operand_alike (Some v) (Some w) h = value_alike v w h

abbrev jump_alone : ℕ → Condition → Option ℕ → Option (List ℕ)
jump_alone a c o = o >>? λ n. offset_to a n >>? λ bits. Some (encoding (instr.Jump c bits))

abbrev instr_alone : ℕ → Instr → Option ℕ → Option ℕ → Option (List ℕ)
instr_alone a i o p = o >>? λ x. p >>? λ y. Some (encoding (fill a x y i))

statement_alike : (a : ℕ) (s t : StatementMeaning) → StatementSame s t → statement_alone a s ≡ statement_alone a t
statement_alike a nothing nothing h = refl
statement_alike a (org v) (org w) h = refl
statement_alike a (words vs) (words ws) h = refl
statement_alike a (jump c v) (jump d w) h = ap (λ c. jump_alone a c (plain_value v)) h.0 ∙ ap (jump_alone a d) (value_alike v w h.1)
statement_alike a (instruction t) (instruction u) h = ap (λ i. instr_alone a i (plain_operand t.source) (plain_operand t.destination)) h.0
    ∙ ap (λ o. instr_alone a u.instr o (plain_operand t.destination)) (operand_alike t.source u.source h.1)
    ∙ ap (instr_alone a u.instr (plain_operand u.source)) (operand_alike t.destination u.destination h.2)
statement_alike a s t h = absurd h

label_alike : (l m : Option Located) (ws vs : Option (List ℕ)) → Same (λ _ _. Unit {0}) l m → ws ≡ vs → without_label l ws ≡ without_label m vs
label_alike None None ws vs h e = e
label_alike None (Some q) ws vs h e = absurd h
label_alike (Some p) None ws vs h e = absurd h
label_alike (Some p) (Some q) ws vs h e = refl

meaning_alike : (a : ℕ) (l m : LineMeaning) → LineSame l m → meaning_alone a l ≡ meaning_alone a m
meaning_alike a l m h = label_alike l.label m.label (statement_alone a l.statement) (statement_alone a m.statement) h.0
    (statement_alike a l.statement m.statement h.1)

-- there is a meaning that gives these words
abbrev pub Says : ℕ → Option LineMeaning → List ℕ → Type 0
Says a o ws = (m : LineMeaning) × (o ≡ Some m) × (meaning_alone a m ≡ Some ws)

says_by : (a : ℕ) (o p : Option LineMeaning) (ws : List ℕ) → Same LineSame o p → (o >>? meaning_alone a) ≡ Some ws → Says a p ws
says_by a None p ws h e = cc
says_by a (Some l) None ws h e = absurd h
says_by a (Some l) (Some m) ws h e = (m, refl, sym (meaning_alike a l m h) ∙ e)

pub moved_alone : (a at : ℕ) (text ws : List ℕ) → line_alone a text ≡ Some ws → Says a (line_of (record { at = at; text = text })) ws
unfolding line_alone
moved_alone a at text ws e = says_by a (line_of (record { at = 0; text = text })) (line_of (record { at = at; text = text })) ws
    (line_same (record { at = 0; text = text }) (record { at = at; text = text }) refl) e
