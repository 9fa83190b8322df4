-- A line that needs no label gives its words under any labels.
use Rattle.std.proofs.Common.{◌≡◌, ℕ, suc, ◌+◌, ◌*◌, ◌%◌, List, [], ◌++◌, length, length-append, refl, ap, sym, ◌∙◌, Option, Some, None}
use Rattle.msp_isa.specs.Encoding.{encoding, operand_row, source_row, destination_row}
use Rattle.msp_isa.specs.declared.operands.Operand.{Operand}
use Rattle.msp_isa.specs.declared.operands.Operand.TheVariants as operand
use Rattle.msp_isa.specs.declared.operands.Src.{Src}
use Rattle.msp_isa.specs.declared.operands.Src.TheVariants as src
use Rattle.msp_isa.specs.declared.operands.Dst.{Dst}
use Rattle.msp_isa.specs.declared.operands.Dst.TheVariants as dst
use Rattle.msp_isa.specs.declared.instructions.OneOp.{OneOp}
use Rattle.msp_isa.specs.declared.instructions.OneOp.TheVariants.{Rrc, Swpb, Rra, Sxt, Push, Call}
use Rattle.msp_isa.specs.declared.instructions.Condition.{Condition}
use Rattle.msp_isa.specs.declared.instructions.Instr.{Instr}
use Rattle.msp_isa.specs.declared.instructions.Instr.TheVariants as instr
use Rattle.asm_line.specs.Filling.{words_on, fill_operand, fill_source, fill_destination, fill_one, fill, offset_to}
use Rattle.asm_line.specs.Lines.{StatementMeaning, nothing, org, words, jump, instruction, LineMeaning}
use Rattle.asm_line.specs.Numbers.{◌>>?◌}
use Rattle.asm_line.specs.Pieces.{Located}
use Rattle.asm_line.specs.Values.{ValueMeaning, number, out_of_range, label, here}
use Rattle.msp_asm.specs.Alone.{statement_alone, meaning_alone}
use Rattle.msp_asm.specs.Laws.{GivesWords}
use Rattle.msp_asm.specs.Program.{line_fault, line_words}

abbrev some_of : {A : Type 0} → A → Option A → A
some_of d None = d
some_of d (Some x) = x

jump_gives : (a n : ℕ) (c : Condition) (ws : List ℕ) (o : Option ℕ) → offset_to a n ≡ o → (o >>? λ bits. Some (encoding (instr.Jump c bits))) ≡ Some ws
    → GivesWords a (record { label = None; statement = jump c (number n) }) ws
unfolding line_fault line_words
jump_gives a n c ws None e h = cc
jump_gives a n c ws (Some bits) e h = record {
  fine = λ f k. rw e refl;
  no_org = refl;
  words = λ f. rw e (ap (some_of []) h);
  next = ap (λ ws. (a + 2 * length ws) % 65536) (ap (some_of []) h);
}

append_len : (xs xs' ys ys' : List ℕ) → length xs ≡ length xs' → length ys ≡ length ys' → length (xs ++ ys) ≡ length (xs' ++ ys')
append_len xs xs' ys ys' h k = length-append xs ys ∙ ap (λ n. n + length ys) h ∙ ap (λ n. length xs' + n) k ∙ sym (length-append xs' ys')

operand_len : (a v : ℕ) (o : Operand) → length (operand_row (fill_operand a v o)).extension ≡ length (operand_row o).extension
operand_len a v (operand.Reg r) = refl
operand_len a v (operand.Indexed r x) = refl
operand_len a v (operand.Symbolic x) = refl
operand_len a v (operand.Absolute x) = refl
operand_len a v (operand.Indirect r) = refl
operand_len a v (operand.Increment r) = refl

source_len : (a v : ℕ) (s : Src) → length (source_row (fill_source a v s)).extension ≡ length (source_row s).extension
source_len a v (src.Operand o) = operand_len a v o
source_len a v (src.Immediate n) = refl
source_len a v (src.Constant k) = refl

destination_len : (a v : ℕ) (d : Dst) → length (destination_row (fill_destination a v d)).extension ≡ length (destination_row d).extension
destination_len a v (dst.Reg r) = refl
destination_len a v (dst.Indexed r x) = refl
destination_len a v (dst.Symbolic x) = refl
destination_len a v (dst.Absolute x) = refl

one_len : (a v : ℕ) (op : OneOp) → length (encoding (instr.One (fill_one a v op))) ≡ length (encoding (instr.One op))
one_len a v (Rrc w o) = ap suc (operand_len a v o)
one_len a v (Swpb o) = ap suc (operand_len a v o)
one_len a v (Rra w o) = ap suc (operand_len a v o)
one_len a v (Sxt o) = ap suc (operand_len a v o)
one_len a v (Push w s) = ap suc (source_len a v s)
one_len a v (Call s) = ap suc (source_len a v s)

-- values change no length
fill_len : (a x y : ℕ) (i : Instr) → length (encoding (fill a x y i)) ≡ length (encoding i)
fill_len a x y (instr.Two op w s d) = ap suc (append_len _ _ _ _ (source_len (words_on 1 a) x s)
    (destination_len (words_on (1 + length (source_row s).extension) a) y d))
fill_len a x y (instr.One op) = one_len (words_on 1 a) x op
fill_len a x y (instr.Jump c o) = refl
fill_len a x y instr.Reti = refl

moved_on : (a x y : ℕ) (i : Instr) (ws : List ℕ) → Some (encoding (fill a x y i)) ≡ Some ws
    → (a + 2 * length (encoding i)) % 65536 ≡ (a + 2 * length ws) % 65536
moved_on a x y i ws h = ap (λ n. (a + 2 * n) % 65536) (sym (fill_len a x y i) ∙ ap length (ap (some_of []) h))

-- an instruction of which both values, where there are any, are numbers in range
instr_gives : (a : ℕ) (i : Instr) (ws : List ℕ) (s d : Option ValueMeaning)
    → statement_alone a (instruction (record { instr = i; source = s; destination = d })) ≡ Some ws
    → GivesWords a (record { label = None; statement = instruction (record { instr = i; source = s; destination = d }) }) ws
unfolding line_fault line_words
instr_gives a i ws None None h = record { fine = λ f k. refl; no_org = refl; words = λ f. ap (some_of []) h; next = moved_on a 0 0 i ws h }
instr_gives a i ws None (Some (number y)) h = record { fine = λ f k. refl; no_org = refl; words = λ f. ap (some_of []) h; next = moved_on a 0 y i ws h }
instr_gives a i ws (Some (number x)) None h = record { fine = λ f k. refl; no_org = refl; words = λ f. ap (some_of []) h; next = moved_on a x 0 i ws h }
instr_gives a i ws (Some (number x)) (Some (number y)) h =
    record { fine = λ f k. refl; no_org = refl; words = λ f. ap (some_of []) h; next = moved_on a x y i ws h }
instr_gives a i ws None (Some (out_of_range y)) h = cc
instr_gives a i ws None (Some (label y)) h = cc
instr_gives a i ws None (Some here) h = cc
instr_gives a i ws (Some (number x)) (Some (out_of_range y)) h = cc
instr_gives a i ws (Some (number x)) (Some (label y)) h = cc
instr_gives a i ws (Some (number x)) (Some here) h = cc
instr_gives a i ws (Some (out_of_range x)) d h = cc
instr_gives a i ws (Some (label x)) d h = cc
instr_gives a i ws (Some here) d h = cc

statement_gives : (a : ℕ) (s : StatementMeaning) (ws : List ℕ) → statement_alone a s ≡ Some ws → GivesWords a (record { label = None; statement = s }) ws
statement_gives a nothing ws h = cc
statement_gives a (org v) ws h = cc
statement_gives a (words vs) ws h = cc
statement_gives a (jump c (number n)) ws h = jump_gives a n c ws (offset_to a n) refl h
statement_gives a (jump c (out_of_range n)) ws h = cc
statement_gives a (jump c (label p)) ws h = cc
statement_gives a (jump c here) ws h = cc
statement_gives a (instruction t) ws h = instr_gives a t.instr ws t.source t.destination h

meaning_by : (a : ℕ) (name : Option Located) (s : StatementMeaning) (ws : List ℕ) → meaning_alone a (record { label = name; statement = s }) ≡ Some ws
    → GivesWords a (record { label = name; statement = s }) ws
meaning_by a None s ws h = statement_gives a s ws h
meaning_by a (Some name) s ws h = cc

pub alone_gives : (a : ℕ) (m : LineMeaning) (ws : List ℕ) → meaning_alone a m ≡ Some ws → GivesWords a m ws
alone_gives a m ws h = meaning_by a m.label m.statement ws h
