-- Whether the instruction at PC looks is told by the words that stand there.
use Rattle.std.proofs.Common.{◌≡◌, ◌==◌, ◌&&◌, ◌+◌, ◌*◌, ◌/◌, ◌%◌, ◌<◌, ◌≤◌, if◌then◌else◌, not, nat_le, arith, ℕ, refl, sym, ◌∙◌, ap, ap₂, Bool, true, false}
use Rattle.std.proofs.Common.{List, [], ◌∷◌, ◌++◌, Option, Some, None}
use Rattle.std.proofs.lemmas.Bool.Decides.{nat_tests}
use Rattle.fram_board.specs.alp_words.declared.Width.{Width}
use Rattle.fram_board.specs.alp_words.declared.Width.TheVariants.{Word, Byte}
use Rattle.fram_board.specs.msp_isa.declared.registers.IndexRegister.{IndexRegister}
use Rattle.fram_board.specs.msp_isa.declared.operands.Operand.{Operand}
use Rattle.fram_board.specs.msp_isa.declared.operands.Operand.TheVariants as mode
use Rattle.fram_board.specs.msp_isa.declared.operands.Konst.TheVariants as konst
use Rattle.fram_board.specs.msp_isa.declared.operands.Src.{Src}
use Rattle.fram_board.specs.msp_isa.declared.operands.Src.TheVariants as src
use Rattle.fram_board.specs.msp_isa.declared.operands.Dst.{Dst}
use Rattle.fram_board.specs.msp_isa.declared.instructions.TwoOp.{TwoOp}
use Rattle.fram_board.specs.msp_isa.declared.instructions.OneOp.TheVariants as one
use Rattle.fram_board.specs.msp_isa.declared.instructions.Condition.{Condition}
use Rattle.fram_board.specs.msp_isa.declared.instructions.Instr.{Instr}
use Rattle.fram_board.specs.msp_isa.declared.instructions.Instr.TheVariants as instr
use Rattle.fram_board.specs.msp_isa.Encoding.{Row, index_number, operand_row, source_row, destination_row, opcode, byte_bit, condition_number, encoding}
use Rattle.fram_board.specs.msp_isa.Encoding.{first_word, IsInstruction}
use Rattle.fram_board.specs.msp_step.Registers.{registers_of}
use Rattle.fram_board.specs.msp_step.Effect.{word_sum}
use Rattle.fram_board.specs.msp_step.Step.{FetchedAt}
use Rattle.fram_board.specs.Bus.{is_word}
use Rattle.fram_board.specs.Board.{BoardValue, IsNextInstruction}
use Rattle.event_places.specs.Places.{is_ring}
use Rattle.machine_effects.specs.Inputs.{Look}
use Rattle.machine_effects.specs.Machine.{MachineBus, machine_bus, machine_opened, machine_word, source_looks, looks_there, fram_of}
use Rattle.machine_effects.specs.View.{machine_of, IsWhole, source_is_there, words_look, looks_at, seen_at_pc}
use Rattle.machine_effects.specs.Laws.{SeenByWords}
use Rattle.machine_effects.proofs.Steps.{current_on}

-- the word behind the first one, where there is one
abbrev NextIs : List ℕ → ℕ → Type 0
NextIs [] next = Unit {0}
NextIs (w ∷ []) next = Unit {0}
NextIs (w ∷ (x ∷ ws)) next = next ≡ x

-- columns of a row that fit into a word
record Fits (r : Row) : Type 0 where
  mode : r.mode < 4
  register : r.register < 16

operand_fits : (o : Operand) → Fits (operand_row o)
operand_fits o = record { mode = grind arith; register = grind arith }

source_fits : (x : Src) → Fits (source_row x)
source_fits (src.Operand o) = operand_fits o
source_fits (src.Immediate n) = record { mode = omega arith; register = omega arith }
source_fits (src.Constant konst.Zero) = record { mode = omega arith; register = omega arith }
source_fits (src.Constant konst.One) = record { mode = omega arith; register = omega arith }
source_fits (src.Constant konst.Two) = record { mode = omega arith; register = omega arith }
source_fits (src.Constant konst.MinusOne) = record { mode = omega arith; register = omega arith }
source_fits (src.Constant konst.Four) = record { mode = omega arith; register = omega arith }
source_fits (src.Constant konst.Eight) = record { mode = omega arith; register = omega arith }

destination_fits : (d : Dst) → ((destination_row d).mode < 2) × ((destination_row d).register < 16)
destination_fits d = (grind arith, grind arith)

opcode_fits : (op : TwoOp) → (4 ≤ opcode op) × (opcode op < 16)
opcode_fits op = (grind arith, grind arith)

bit_fits : (w : Width) → byte_bit w < 2
bit_fits Word = omega arith
bit_fits Byte = omega arith

-- by what a source's columns are
abbrev by_columns : ℕ → Row → ℕ → Bool
by_columns bit r next = (bit == 0) && ((r.mode == 1) && ((not (r.register == 0) && not (r.register == 3)) && is_ring next))

-- two operands
two_columns : (o bit a e next : ℕ) (r : Row) → 4 ≤ o → o < 16 → Fits r → a < 2 → bit < 2 → e < 16
    → words_look (o * 0x1000 + r.register * 0x100 + a * 0x80 + bit * 0x40 + r.mode * 0x10 + e) next ≡ by_columns bit r next
two_columns o bit a e next r low high fits la lb le =
    let w = o * 0x1000 + r.register * 0x100 + a * 0x80 + bit * 0x40 + r.mode * 0x10 + e in
    let s = fits.register in let m = fits.mode in
    let two : nat_le 0x4000 w ≡ true = grind (arith, nat_tests) in
    let width : w / 0x40 % 2 ≡ bit = omega arith in
    let bits : w / 0x10 % 4 ≡ r.mode = omega arith in
    let register : w / 0x100 % 16 ≡ r.register = omega arith in
    rw (two, width, bits, register) refl

-- PUSH
push_columns : (bit next : ℕ) (r : Row) → Fits r → bit < 2 → words_look (0x1200 + bit * 0x40 + r.mode * 0x10 + r.register) next ≡ by_columns bit r next
push_columns bit next r fits lb =
    let w = 0x1200 + bit * 0x40 + r.mode * 0x10 + r.register in
    let s = fits.register in let m = fits.mode in
    let two : nat_le 0x4000 w ≡ false = grind (arith, nat_tests) in
    let push : w / 0x80 ≡ 0x24 = omega arith in
    let width : w / 0x40 % 2 ≡ bit = omega arith in
    let bits : w / 0x10 % 4 ≡ r.mode = omega arith in
    let register : w % 16 ≡ r.register = omega arith in
    rw (two, push, width, bits, register) refl

-- any other
other_words : (w next : ℕ) → w < 0x4000 → (w / 0x80 == 0x24) ≡ false → words_look w next ≡ false
other_words w next low other =
    let two : nat_le 0x4000 w ≡ false = grind (arith, nat_tests) in
    rw (two, other) refl

other_columns : (k bit next : ℕ) (r : Row) → Fits r → bit < 2 → k < 0x80 → (k == 0x24) ≡ false
    → words_look (k * 0x80 + bit * 0x40 + r.mode * 0x10 + r.register) next ≡ false
other_columns k bit next r fits lb lk other =
    let w = k * 0x80 + bit * 0x40 + r.mode * 0x10 + r.register in
    let s = fits.register in let m = fits.mode in
    let is : w / 0x80 ≡ k = omega arith in
    other_words w next (omega arith) (ap (λ j. j == 0x24) is ∙ other)

-- a register to which a number is added
based : (r : IndexRegister) → (not (index_number r == 0) && not (index_number r == 3)) ≡ true
based r = grind arith

-- a source on words, by its columns
word_source : (x : Src) (w next : ℕ) → NextIs (w ∷ (source_row x).extension) next → by_columns 0 (source_row x) next ≡ source_looks x
word_source (src.Operand (mode.Reg h)) w next e = refl
word_source (src.Operand (mode.Indexed r x)) w next e = rw (based r) (ap is_ring e)
word_source (src.Operand (mode.Symbolic x)) w next e = refl
word_source (src.Operand (mode.Absolute a)) w next e = ap is_ring e
word_source (src.Operand (mode.Indirect p)) w next e = refl
word_source (src.Operand (mode.Increment b)) w next e = refl
word_source (src.Immediate n) w next e = refl
word_source (src.Constant konst.Zero) w next e = refl
word_source (src.Constant konst.One) w next e = refl
word_source (src.Constant konst.Two) w next e = refl
word_source (src.Constant konst.MinusOne) w next e = refl
word_source (src.Constant konst.Four) w next e = refl
word_source (src.Constant konst.Eight) w next e = refl

-- the words of a source come first
in_front : (w : ℕ) (es fs : List ℕ) (next : ℕ) → NextIs (w ∷ (es ++ fs)) next → NextIs (w ∷ es) next
in_front w [] fs next h = tt
in_front w (e ∷ es) fs next h = h

-- each instruction looks by its words
told_by_words : (i : Instr) (next : ℕ) → IsInstruction i → NextIs (encoding i) next → words_look (first_word i) next ≡ looks_there i
told_by_words (instr.Two op Word x d) next is h =
    let o = opcode_fits op in let t = destination_fits d in
    two_columns (opcode op) 0 (destination_row d).mode (destination_row d).register next (source_row x) o.0 o.1 (source_fits x) t.0 (omega arith) t.1
    ∙ word_source x (first_word (instr.Two op Word x d)) next
    (in_front (first_word (instr.Two op Word x d)) (source_row x).extension (destination_row d).extension next h)
told_by_words (instr.Two op Byte x d) next is h =
    let o = opcode_fits op in let t = destination_fits d in
    two_columns (opcode op) 1 (destination_row d).mode (destination_row d).register next (source_row x) o.0 o.1 (source_fits x) t.0 (omega arith) t.1
told_by_words (instr.One (one.Push Word x)) next is h =
    push_columns 0 next (source_row x) (source_fits x) (omega arith) ∙ word_source x (first_word (instr.One (one.Push Word x))) next h
told_by_words (instr.One (one.Push Byte x)) next is h = push_columns 1 next (source_row x) (source_fits x) (omega arith)
told_by_words (instr.One (one.Rrc w p)) next is h = other_columns 0x20 (byte_bit w) next (operand_row p) (operand_fits p) (bit_fits w) (omega arith) refl
told_by_words (instr.One (one.Swpb p)) next is h = other_columns 0x21 0 next (operand_row p) (operand_fits p) (omega arith) (omega arith) refl
told_by_words (instr.One (one.Rra w p)) next is h = other_columns 0x22 (byte_bit w) next (operand_row p) (operand_fits p) (bit_fits w) (omega arith) refl
told_by_words (instr.One (one.Sxt p)) next is h = other_columns 0x23 0 next (operand_row p) (operand_fits p) (omega arith) (omega arith) refl
told_by_words (instr.One (one.Call x)) next is h = other_columns 0x25 0 next (source_row x) (source_fits x) (omega arith) (omega arith) refl
told_by_words (instr.Jump c offset) next is h =
    let k : condition_number c < 8 = grind arith in
    other_words (0x2000 + condition_number c * 0x400 + offset) next (omega (arith, k, is)) (grind (arith, nat_tests))
told_by_words instr.Reti next is h = refl

-- words that are fetched are those in memory
fetched_word : (b : Bool) (w v : ℕ) → ◌≡◌ {A = Option ℕ} (if b then Some w else None) (Some v) → w ≡ v
fetched_word true w v e = cc
fetched_word false w v e = absurd cc

next_fetched : (s : MachineBus) (pc : ℕ) (ws : List ℕ) → FetchedAt machine_bus s pc ws → NextIs ws (machine_word s (word_sum pc 2))
next_fetched s pc [] h = tt
next_fetched s pc (w ∷ []) h = tt
next_fetched s pc (w ∷ (x ∷ ws)) h = fetched_word (is_word (word_sum pc 2)) (machine_word s (word_sum pc 2)) x h.1.0

first_fetched : (s : MachineBus) (pc : ℕ) (i : Instr) → FetchedAt machine_bus s pc (encoding i) → machine_word s pc ≡ first_word i
first_fetched s pc (instr.Two op w x d) h = fetched_word (is_word pc) (machine_word s pc) _ h.0
first_fetched s pc (instr.One (one.Push w x)) h = fetched_word (is_word pc) (machine_word s pc) _ h.0
first_fetched s pc (instr.One (one.Call x)) h = fetched_word (is_word pc) (machine_word s pc) _ h.0
first_fetched s pc (instr.One (one.Rrc w p)) h = fetched_word (is_word pc) (machine_word s pc) _ h.0
first_fetched s pc (instr.One (one.Rra w p)) h = fetched_word (is_word pc) (machine_word s pc) _ h.0
first_fetched s pc (instr.One (one.Swpb p)) h = fetched_word (is_word pc) (machine_word s pc) _ h.0
first_fetched s pc (instr.One (one.Sxt p)) h = fetched_word (is_word pc) (machine_word s pc) _ h.0
first_fetched s pc (instr.Jump c offset) h = fetched_word (is_word pc) (machine_word s pc) _ h.0
first_fetched s pc instr.Reti h = fetched_word (is_word pc) (machine_word s pc) _ h.0

pub seen_by_words : SeenByWords
seen_by_words b i whole current =
    let s = machine_opened (machine_of b) in
    let pc = registers_of b.cpu 0 in
    let at = current_on [] b whole i current in
    let first = first_fetched s pc i at.fetched in
    let told = told_by_words i (machine_word s (word_sum pc 2)) at.is (next_fetched s pc (encoding i) at.fetched) in
    ap {B = List Look} (λ t. if t then fram_of b.fram ∷ [] else []) (ap (λ w. words_look w (machine_word s (word_sum pc 2))) first ∙ told)
