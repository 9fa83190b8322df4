-- What a piece says doesn't depend on where it stands, but for the places of its labels.
use Rattle.std.proofs.Common.{◌≡◌, ℕ, ◌+◌, ◌==◌, ◌&&◌, ◌||◌, nat_le, nat_lt, List, [], ◌∷◌, length, take, drop, refl, ap, ◌∙◌, subst, if◌then◌else◌, Bool}
use Rattle.std.proofs.Common.{true, false, Option, Some, None}
use Rattle.std.specs.Prelude.{is_some}
use Rattle.std.specs.Prelude.{codes}
use Rattle.std.specs.Str.{str_eq_ignore_ascii_case}
use Rattle.text_parts.specs.Fields.{fields, no_fields}
use Rattle.msp_isa.specs.alp_words.declared.Width.{Width}
use Rattle.msp_isa.specs.declared.registers.Reg.{Reg}
use Rattle.msp_isa.specs.declared.operands.Src.{Src}
use Rattle.msp_isa.specs.declared.instructions.TwoOp.{TwoOp}
use Rattle.msp_isa.specs.declared.instructions.Condition.{Condition}
use Rattle.msp_isa.specs.declared.instructions.Instr.TheVariants as instr
use Rattle.asm_line.specs.declared.tables.OneName.{OneName}
use Rattle.asm_line.specs.Numbers.{◌>>?◌, number_of}
use Rattle.asm_line.specs.Pieces.{Located, mark_at, blank_len, word_len, behind, before_mark, behind_mark, without_blanks, word, behind_word, word_alone}
use Rattle.asm_line.specs.Pieces.{only_word, split, place_all, parts}
use Rattle.asm_line.specs.Values.{ValueMeaning, number, out_of_range, label, here, is_digit, is_label, unsigned, negative, value_at, value_of, register_named}
use Rattle.asm_line.specs.Operands.{OperandMeaning, register, immediate, indexed, symbolic, absolute, indirect, increment, without_last, pointed, with_index}
use Rattle.asm_line.specs.Operands.{in_memory, named, operand_from, operand_of, source_register, index_register, indirect_register, immediate_source, Open}
use Rattle.asm_line.specs.Operands.{source, destination, source_of, destination_of}
use Rattle.asm_line.specs.Tables.{OperandText, written, fixed, CoreText, two_named, one_named, condition_named, emulated_named}
use Rattle.asm_line.specs.Places.{Same, ValueSame, StatementSame, LineSame}
use Rattle.asm_line.specs.Lines.{StatementMeaning, words, instruction, suffix_of, base_name, width_of, two_of, one_op_of, one_of, two_words, place}
use Rattle.asm_line.specs.Lines.{is_written, takes_suffix, emulated_of, emulated, word_value, are_values, values_of, org_of, plain_of, without_suffix}
use Rattle.asm_line.specs.Lines.{if_no_suffix, or_emulated, or_one, or_two, operation_of, statement_from, statement_of, with_label, labelled, uncommented}
use Rattle.asm_line.specs.Lines.{line_of}

bind_same : {A B : Type 0} (R : A → A → Type 0) (S : B → B → Type 0) (o p : Option A) (f g : A → Option B) → Same R o p
    → ((x y : A) → R x y → Same S (f x) (g y)) → Same S (o >>? f) (p >>? g)
bind_same R S None None f g h k = tt
bind_same R S None (Some y) f g h k = absurd h
bind_same R S (Some x) None f g h k = absurd h
bind_same R S (Some x) (Some y) f g h k = k x y h

-- the same step behind one value
then_same : {A B : Type 0} (S : B → B → Type 0) (o : Option A) (f g : A → Option B) → ((x : A) → Same S (f x) (g x)) → Same S (o >>? f) (o >>? g)
then_same S None f g k = tt
then_same S (Some x) f g k = k x

if_same : {A : Type 0} (R : A → A → Type 0) (t : Bool) (x y u v : Option A) → Same R x u → Same R y v → Same R (if t then x else y) (if t then u else v)
if_same R true x y u v h k = h
if_same R false x y u v h k = k

abbrev pub Alike : Located → Located → Type 0
Alike p q = p.text ≡ q.text

value_refl : (o : Option ValueMeaning) → Same ValueSame o o
value_refl None = tt
value_refl (Some (number n)) = refl
value_refl (Some (out_of_range n)) = refl
value_refl (Some (label p)) = tt
value_refl (Some here) = tt

value_at_same : (a b : ℕ) (t : List ℕ) → Same ValueSame (value_at a t) (value_at b t)
value_at_same a b [] = tt
value_at_same a b (c ∷ cs) = if_same ValueSame ((c == 36) && nat_le (length cs) 0) _ _ _ _ tt
    (if_same ValueSame (c == 45) _ _ _ _ (value_refl (negative (number_of cs)))
    (if_same ValueSame (is_digit c) _ _ _ _ (value_refl (unsigned (number_of (c ∷ cs))))
    (if_same ValueSame (is_label (c ∷ cs)) _ _ _ _ tt tt)))

value_same : (p q : Located) → Alike p q → Same ValueSame (value_of p) (value_of q)
unfolding value_of
value_same p q e = let P : List ℕ → Type 0 = λ t. Same ValueSame (value_at p.at p.text) (value_at q.at t) in subst P e (value_at_same p.at q.at p.text)

before_same : (m : ℕ) (p q : Located) → Alike p q → Alike (before_mark m p) (before_mark m q)
unfolding before_mark
before_same m p q e = ap (λ t. take (mark_at m t) t) e

behind_same : (m : ℕ) (p q : Located) → Alike p q → Same Alike (behind_mark m p) (behind_mark m q)
unfolding behind_mark
behind_same m p q e = let P : List ℕ → Type 0 = λ t. Same Alike (if nat_lt (mark_at m p.text) (length p.text) then Some (behind (mark_at m p.text + 1) p)
    else None)
    (if nat_lt (mark_at m t) (length t) then Some (record { at = q.at + (mark_at m t + 1); text = drop (mark_at m t + 1) t }) else None) in
    subst P e (if_same Alike (nat_lt (mark_at m p.text) (length p.text)) _ _ _ _ refl tt)

blanks_same : (p q : Located) → Alike p q → Alike (without_blanks p) (without_blanks q)
unfolding without_blanks
blanks_same p q e = ap (λ t. drop (blank_len t) t) e

word_same : (p q : Located) → Alike p q → Alike (word p) (word q)
unfolding word
word_same p q e = ap (λ t. take (word_len t) t) e

behind_word_same : (p q : Located) → Alike p q → Alike (behind_word p) (behind_word q)
unfolding behind_word
behind_word_same p q e = ap (λ t. drop (word_len t) t) e

alone_same : (p q : Located) → Alike p q → Same Alike (word_alone p) (word_alone q)
alone_same p q e = let P : List ℕ → Type 0 = λ t. Same Alike (word_alone p) (if no_fields (fields t) then Some (word q) else None) in
    subst P (behind_word_same p q e) (if_same Alike (no_fields (fields (behind_word p).text)) _ _ _ _ (word_same p q e) tt)

only_same : (p q : Located) → Alike p q → Same Alike (only_word p) (only_word q)
unfolding only_word
only_same p q e = alone_same (without_blanks p) (without_blanks q) (blanks_same p q e)

-- operands whose values are alike
abbrev OperandSame : OperandMeaning → OperandMeaning → Type 0
OperandSame (register r) (register s) = r ≡ s
OperandSame (immediate v) (immediate w) = ValueSame v w
OperandSame (indexed v r) (indexed w s) = ValueSame v w × (r ≡ s)
OperandSame (symbolic v) (symbolic w) = ValueSame v w
OperandSame (absolute v) (absolute w) = ValueSame v w
OperandSame (indirect r) (indirect s) = r ≡ s
OperandSame (increment r) (increment s) = r ≡ s
OperandSame o p = ⊥

pointed_same : (t : List ℕ) (o : Option (List ℕ)) → Same OperandSame (pointed t o) (pointed t o)
pointed_same t None = then_same OperandSame (register_named t) _ _ (λ r. refl)
pointed_same t (Some n) = then_same OperandSame (register_named n) _ _ (λ r. refl)

index_same : (p q : Located) (o : Option (List ℕ)) → Alike p q → Same OperandSame (with_index p o) (with_index q o)
index_same p q None e = tt
index_same p q (Some n) e = bind_same ValueSame OperandSame (value_of p) (value_of q) _ _ (value_same p q e)
    (λ v w h. then_same OperandSame (register_named n) _ _ (λ r. (h, refl)))

memory_same : (p q : Located) (o u : Option Located) → Alike p q → Same Alike o u → Same OperandSame (in_memory p o) (in_memory q u)
memory_same p q None None e h = bind_same ValueSame OperandSame (value_of p) (value_of q) _ _ (value_same p q e) (λ v w h. h)
memory_same p q None (Some u) e h = absurd h
memory_same p q (Some o) None e h = absurd h
memory_same p q (Some o) (Some u) e h = let P : List ℕ → Type 0 =
    λ t. Same OperandSame (with_index (before_mark 40 p) (without_last 41 o.text)) (with_index (before_mark 40 q) (without_last 41 t)) in
    subst P h (index_same (before_mark 40 p) (before_mark 40 q) (without_last 41 o.text) (before_same 40 p q e))

named_same : (p q : Located) (r : Option Reg) → Alike p q → Same OperandSame (named p r) (named q r)
named_same p q (Some r) e = refl
named_same p q None e = memory_same p q (behind_mark 40 p) (behind_mark 40 q) e (behind_same 40 p q e)

operand_from_same : (p q : Located) (t : List ℕ) → Alike p q → Same OperandSame (operand_from p t) (operand_from q t)
operand_from_same p q [] e = tt
operand_from_same p q (b ∷ bs) e =
    let later : Alike (behind 1 p) (behind 1 q) = ap (drop 1) e in
    let value : Same ValueSame (value_of (behind 1 p)) (value_of (behind 1 q)) = value_same (behind 1 p) (behind 1 q) later in
    if_same OperandSame (b == 35) _ _ _ _ (bind_same ValueSame OperandSame (value_of (behind 1 p)) (value_of (behind 1 q)) _ _ value (λ v w h. h))
    (if_same OperandSame (b == 38) _ _ _ _ (bind_same ValueSame OperandSame (value_of (behind 1 p)) (value_of (behind 1 q)) _ _ value (λ v w h. h))
    (if_same OperandSame (b == 64) _ _ _ _ (pointed_same bs (without_last 43 bs)) (named_same p q (register_named (b ∷ bs)) e)))

operand_same : (p q : Located) → Alike p q → Same OperandSame (operand_of p) (operand_of q)
unfolding operand_of
operand_same p q e = let P : List ℕ → Type 0 = λ t. Same OperandSame (operand_from p p.text) (operand_from q t) in subst P e (operand_from_same p q p.text e)

-- operands that are equal but for their values, which are alike
abbrev OpenSame : {A : Type 0} → Open A → Open A → Type 0
OpenSame o p = (o.0 ≡ p.0) × Same ValueSame o.1 p.1

immediate_same : (v w : ValueMeaning) → ValueSame v w → immediate_source v ≡ immediate_source w
immediate_same (number n) (number m) h = ap (λ n. immediate_source (number n)) h
immediate_same (out_of_range n) (out_of_range m) h = ap (λ n. immediate_source (out_of_range n)) h
immediate_same (label p) (label q) h = refl
immediate_same here here h = refl
immediate_same v w h = absurd h

source_says : (o p : OperandMeaning) → OperandSame o p → Same OpenSame (source o) (source p)
source_says (register r) (register s) h = let P : Reg → Type 0 = λ s. Same OpenSame (source (register r)) (source (register s)) in
    subst P h (then_same OpenSame (source_register r) _ _ (λ r. (refl, tt)))
source_says (immediate v) (immediate w) h = (immediate_same v w h, h)
source_says (indexed v r) (indexed w s) h = let P : Reg → Type 0 = λ s. Same OpenSame (source (indexed v r)) (source (indexed w s)) in
    subst P h.1 (then_same OpenSame (index_register r) _ _ (λ r. (refl, h.0)))
source_says (symbolic v) (symbolic w) h = (refl, h)
source_says (absolute v) (absolute w) h = (refl, h)
source_says (indirect r) (indirect s) h = let P : Reg → Type 0 = λ s. Same OpenSame (source (indirect r)) (source (indirect s)) in
    subst P h (then_same OpenSame (indirect_register r) _ _ (λ r. (refl, tt)))
source_says (increment r) (increment s) h = let P : Reg → Type 0 = λ s. Same OpenSame (source (increment r)) (source (increment s)) in
    subst P h (then_same OpenSame (index_register r) _ _ (λ r. (refl, tt)))
source_says o p h = absurd h

destination_says : (o p : OperandMeaning) → OperandSame o p → Same OpenSame (destination o) (destination p)
destination_says (register r) (register s) h = let P : Reg → Type 0 = λ s. Same OpenSame (destination (register r)) (destination (register s)) in
    subst P h (refl, tt)
destination_says (immediate v) (immediate w) h = tt
destination_says (indexed v r) (indexed w s) h = let P : Reg → Type 0 = λ s. Same OpenSame (destination (indexed v r)) (destination (indexed w s)) in
    subst P h.1 (then_same OpenSame (index_register r) _ _ (λ r. (refl, h.0)))
destination_says (symbolic v) (symbolic w) h = (refl, h)
destination_says (absolute v) (absolute w) h = (refl, h)
destination_says (indirect r) (indirect s) h = tt
destination_says (increment r) (increment s) h = tt
destination_says o p h = absurd h

source_same : (p q : Located) → Alike p q → Same OpenSame (source_of p) (source_of q)
unfolding source_of
source_same p q e = bind_same OperandSame OpenSame (operand_of p) (operand_of q) source source (operand_same p q e) source_says

destination_same : (p q : Located) → Alike p q → Same OpenSame (destination_of p) (destination_of q)
unfolding destination_of
destination_same p q e = bind_same OperandSame OpenSame (operand_of p) (operand_of q) destination destination (operand_same p q e) destination_says

two_same : (op : TwoOp) (w : Option Width) (s d p q : Located) → Alike s p → Alike d q → Same StatementSame (two_of op w s d) (two_of op w p q)
unfolding two_of
two_same op w s d p q e f = bind_same OpenSame StatementSame (source_of s) (source_of p) _ _ (source_same s p e)
    (λ x y h. bind_same OpenSame StatementSame (destination_of d) (destination_of q) _ _ (destination_same d q f)
    (λ u v k. (ap (λ s. instr.Two op (width_of w) s u.0) h.0 ∙ ap (λ d. instr.Two op (width_of w) y.0 d) k.0, h.1, k.1)))

one_same : (name : OneName) (w : Option Width) (p q : Located) → Alike p q → Same StatementSame (one_of name w p) (one_of name w q)
unfolding one_of
one_same name w p q e = bind_same OpenSame StatementSame (source_of p) (source_of q) _ _ (source_same p q e)
    (λ x y h. step x y h)
  where
    step : (x y : Open Src) → OpenSame x y → Same StatementSame
        (one_op_of name w x.0 >>? λ op. Some (instruction (record { instr = instr.One op; source = x.1; destination = None })))
        (one_op_of name w y.0 >>? λ op. Some (instruction (record { instr = instr.One op; source = y.1; destination = None })))
    step x y h = let P : Src → Type 0 = λ s. Same StatementSame
        (one_op_of name w x.0 >>? λ op. Some (instruction (record { instr = instr.One op; source = x.1; destination = None })))
        (one_op_of name w s >>? λ op. Some (instruction (record { instr = instr.One op; source = y.1; destination = None }))) in
        subst P h.0 (then_same StatementSame (one_op_of name w x.0) _ _ (λ op. (refl, h.1, tt)))

words_same : (op : TwoOp) (w : Option Width) (p q : Located) (o u : Option Located) → Alike p q → Same Alike o u
    → Same StatementSame (two_words op w p o) (two_words op w q u)
words_same op w p q None None e h = tt
words_same op w p q None (Some u) e h = absurd h
words_same op w p q (Some o) None e h = absurd h
words_same op w p q (Some o) (Some u) e h = bind_same Alike StatementSame (only_word p) (only_word q) _ _ (only_same p q e)
    (λ s t f. bind_same Alike StatementSame (only_word o) (only_word u) _ _ (only_same o u h) (λ d r g. two_same op w s d t r f g))

place_same : (t : OperandText) (p q : Located) → Alike p q → Alike (place t p) (place t q)
place_same written p q e = e
place_same (fixed t) p q e = refl

emulated_of_same : (c : CoreText) (w : Option Width) (p q : Located) → Alike p q → Same StatementSame (emulated_of c w p) (emulated_of c w q)
emulated_of_same c w p q e = if_same StatementSame (takes_suffix c w) _ _ _ _
    (two_same c.op w (place c.source p) (place c.destination p) (place c.source q) (place c.destination q) (place_same c.source p q e)
    (place_same c.destination p q e)) tt

emulated_same : (c : CoreText) (w : Option Width) (p q : Located) → Alike p q → Same StatementSame (emulated c w p) (emulated c w q)
unfolding emulated
emulated_same c w p q e = if_same StatementSame (is_written c.source || is_written c.destination) _ _ _ _
    (bind_same Alike StatementSame (only_word p) (only_word q) (emulated_of c w) (emulated_of c w) (only_same p q e) (λ x y h. emulated_of_same c w x y h))
    (let P : List ℕ → Type 0 = λ t. Same StatementSame (if no_fields (fields p.text) then emulated_of c w p else None)
    (if no_fields (fields t) then emulated_of c w q else None) in
    subst P e (if_same StatementSame (no_fields (fields p.text)) _ _ _ _ (emulated_of_same c w p q e) tt))

word_value_same : (p q : Located) → Alike p q → Same ValueSame (word_value p) (word_value q)
word_value_same p q e = bind_same Alike ValueSame (only_word p) (only_word q) value_of value_of (only_same p q e) value_same

some_same : (o p : Option ValueMeaning) → Same ValueSame o p → is_some o ≡ is_some p
some_same None None h = refl
some_same None (Some y) h = absurd h
some_same (Some x) None h = absurd h
some_same (Some x) (Some y) h = refl

all_same : (a b : ℕ) (ts : List (List ℕ)) → are_values (place_all a ts) ≡ are_values (place_all b ts)
all_same a b [] = refl
all_same a b (t ∷ ts) = ap (λ s. s && are_values (place_all (a + length t + 1) ts))
    (some_same (word_value (record { at = a; text = t })) (word_value (record { at = b; text = t }))
    (word_value_same (record { at = a; text = t }) (record { at = b; text = t }) refl))
    ∙ ap (λ s. is_some (word_value (record { at = b; text = t })) && s) (all_same (a + length t + 1) (b + length t + 1) ts)

lists_same : (p q : Located) → Alike p q → are_values (parts 44 p) ≡ are_values (parts 44 q)
lists_same p q e = all_same p.at q.at (split 44 p.text) ∙ ap (λ t. are_values (place_all q.at (split 44 t))) e

org_same : (v w : ValueMeaning) → ValueSame v w → Same StatementSame (org_of v) (org_of w)
org_same (number n) (number m) h = h
org_same (out_of_range n) (out_of_range m) h = h
org_same (label p) (label q) h = tt
org_same here here h = tt
org_same v w h = absurd h

plain_same : (name : List ℕ) (p q : Located) → Alike p q → Same StatementSame (plain_of name p) (plain_of name q)
unfolding plain_of
plain_same name p q e = if_same StatementSame (str_eq_ignore_ascii_case name (codes "reti")) _ _ _ _ (reti e)
    (if_same StatementSame (str_eq_ignore_ascii_case name (codes ".org")) _ _ _ _
    (bind_same ValueSame StatementSame (word_value p) (word_value q) org_of org_of (word_value_same p q e) org_same)
    (if_same StatementSame (str_eq_ignore_ascii_case name (codes ".word")) _ _ _ _ (list (lists_same p q e)) tt))
  where
    reti : Alike p q → Same StatementSame (if no_fields (fields p.text)
        then Some (instruction (record { instr = instr.Reti; source = None; destination = None })) else None)
        (if no_fields (fields q.text) then Some (instruction (record { instr = instr.Reti; source = None; destination = None })) else None)
    reti e = let P : List ℕ → Type 0 = λ t. Same StatementSame (if no_fields (fields p.text)
        then Some (instruction (record { instr = instr.Reti; source = None; destination = None })) else None)
        (if no_fields (fields t) then Some (instruction (record { instr = instr.Reti; source = None; destination = None })) else None) in
        subst P e (if_same StatementSame (no_fields (fields p.text)) _ _ _ _ (refl, tt, tt) tt)

    list : are_values (parts 44 p) ≡ are_values (parts 44 q)
        → Same StatementSame (if are_values (parts 44 p) then Some (words (values_of (parts 44 p))) else None)
        (if are_values (parts 44 q) then Some (words (values_of (parts 44 q))) else None)
    list e = let P : Bool → Type 0 = λ t. Same StatementSame (if are_values (parts 44 p) then Some (words (values_of (parts 44 p))) else None)
        (if t then Some (words (values_of (parts 44 q))) else None) in
        subst P e (if_same StatementSame (are_values (parts 44 p)) _ _ _ _ tt tt)

suffixless_same : (c : Option Condition) (name : List ℕ) (p q : Located) → Alike p q → Same StatementSame (without_suffix c name p) (without_suffix c name q)
suffixless_same (Some c) name p q e = bind_same ValueSame StatementSame (word_value p) (word_value q) _ _ (word_value_same p q e) (λ v w h. (refl, h))
suffixless_same None name p q e = plain_same name p q e

no_suffix_same : (name : List ℕ) (w : Option Width) (p q : Located) → Alike p q → Same StatementSame (if_no_suffix name w p) (if_no_suffix name w q)
no_suffix_same name None p q e = suffixless_same (condition_named name) name p q e
no_suffix_same name (Some w) p q e = tt

or_emulated_same : (c : Option CoreText) (name : List ℕ) (w : Option Width) (p q : Located) → Alike p q
    → Same StatementSame (or_emulated c name w p) (or_emulated c name w q)
or_emulated_same (Some c) name w p q e = emulated_same c w p q e
or_emulated_same None name w p q e = no_suffix_same name w p q e

or_one_same : (o : Option OneName) (name : List ℕ) (w : Option Width) (p q : Located) → Alike p q → Same StatementSame (or_one o name w p) (or_one o name w q)
or_one_same (Some o) name w p q e = bind_same Alike StatementSame (only_word p) (only_word q) (one_of o w) (one_of o w) (only_same p q e)
    (λ x y h. one_same o w x y h)
or_one_same None name w p q e = or_emulated_same (emulated_named name) name w p q e

or_two_same : (o : Option TwoOp) (name : List ℕ) (w : Option Width) (p q : Located) → Alike p q → Same StatementSame (or_two o name w p) (or_two o name w q)
or_two_same (Some op) name w p q e = words_same op w (before_mark 44 p) (before_mark 44 q) (behind_mark 44 p) (behind_mark 44 q) (before_same 44 p q e)
    (behind_same 44 p q e)
or_two_same None name w p q e = or_one_same (one_named name) name w p q e

operation_same : (name : List ℕ) (w : Option Width) (p q : Located) → Alike p q → Same StatementSame (operation_of name w p) (operation_of name w q)
unfolding operation_of
operation_same name w p q e = or_two_same (two_named name) name w p q e

from_same : (p q : Located) (t : List ℕ) → Alike p q → Same StatementSame (statement_from p t) (statement_from q t)
from_same p q [] e = tt
from_same p q (b ∷ bs) e = let P : List ℕ → Type 0 =
    λ t. Same StatementSame (operation_of (base_name (word p).text) (suffix_of (word p).text) (behind_word p))
    (operation_of (base_name t) (suffix_of t) (behind_word q)) in
    subst P (word_same p q e) (operation_same (base_name (word p).text) (suffix_of (word p).text) (behind_word p) (behind_word q) (behind_word_same p q e))

statement_same : (p q : Located) → Alike p q → Same StatementSame (statement_of p) (statement_of q)
unfolding statement_of
statement_same p q e = let P : List ℕ → Type 0 = λ t. Same StatementSame (statement_from p p.text) (statement_from q t) in subst P e (from_same p q p.text e)

with_same : (l m : Option Located) (s t : Option StatementMeaning) → Same (λ _ _. Unit {0}) l m → Same StatementSame s t
    → Same LineSame (with_label l s) (with_label m t)
with_same l m None None h k = tt
with_same l m None (Some t) h k = absurd k
with_same l m (Some s) None h k = absurd k
with_same l m (Some s) (Some t) h k = (h, k)

labelled_same : (p q : Located) (o u : Option Located) → Alike p q → Same Alike o u → Same LineSame (labelled p o) (labelled q u)
labelled_same p q None None e h = with_same None None (statement_of p) (statement_of q) tt (statement_same p q e)
labelled_same p q None (Some u) e h = absurd h
labelled_same p q (Some o) None e h = absurd h
labelled_same p q (Some o) (Some u) e h = let P : List ℕ → Type 0 = λ t. Same LineSame (labelled p (Some o))
    (if is_label t then with_label (Some (before_mark 58 q)) (statement_of (without_blanks u)) else None) in
    subst P (before_same 58 p q e) (if_same LineSame (is_label (before_mark 58 p).text) _ _ _ _
    (with_same (Some (before_mark 58 p)) (Some (before_mark 58 q)) (statement_of (without_blanks o)) (statement_of (without_blanks u)) tt
    (statement_same (without_blanks o) (without_blanks u) (blanks_same o u h))) tt)

-- a line says the same wherever it stands
pub line_same : (p q : Located) → Alike p q → Same LineSame (line_of p) (line_of q)
unfolding line_of
line_same p q e = let f : Alike (uncommented p) (uncommented q) = blanks_same (before_mark 59 p) (before_mark 59 q) (before_same 59 p q e) in
    labelled_same (uncommented p) (uncommented q) (behind_mark 58 (uncommented p)) (behind_mark 58 (uncommented q)) f
    (behind_same 58 (uncommented p) (uncommented q) f)
