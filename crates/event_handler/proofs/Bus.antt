-- Reads and writes of words of memory on the board's bus, and addresses of the stack.
use Rattle.std.proofs.Common.{◌≡◌, ◌%◌, ◌≤◌, ◌<◌, ◌==◌, if◌then◌else◌, arith, ℕ, refl, sym, ◌∙◌, ap, true, false}
use Rattle.std.proofs.Common.{List, ◌++◌, append-nil, length, slice_index, slice_set, slice_range, map, Option, None}
use Rattle.std.specs.Option.{option_map}
use Rattle.std.proofs.lemmas.Bool.Decides.{nat_tests}
use Rattle.msp_isa.specs.alp_words.declared.Width.TheVariants.{Word}
use Rattle.msp_isa.specs.declared.instructions.Instr.{Instr}
use Rattle.fram_board.specs.msp_step.Registers.{Registers, registers_of}
use Rattle.fram_board.specs.msp_step.Access.{Completed, read_at, write_at}
use Rattle.fram_board.specs.msp_step.Effect.{Written}
use Rattle.fram_board.specs.msp_step.Step.{effect, outcome_of}
use Rattle.fram_board.specs.image_text.ImageValue.{place_of}
use Rattle.fram_board.specs.Bus.{BusState, board_bus, is_ram, is_word, ram_place, memory_word, with_word, sensor_port, event_port}
use Rattle.fram_board.specs.Board.{BoardValue, opened, board_outcome, executed}
use Rattle.fram_board.specs.Effects.{Take, store_at, sends_of, effects_of}
use Rattle.machine_effects.specs.World.{put}
use Rattle.machine_effects.specs.Machine.{ram_of, word_address}
use Rattle.machine_effects.proofs.Interface.{ram_at, put_ram, none_taken}

-- a word of memory is read, and the bus stays
pub memory_read : (s : BusState) (a : ℕ) → is_word a ≡ true → (a == sensor_port) ≡ false → (a == event_port) ≡ false
    → read_at board_bus a Word s ≡ Completed (memory_word s a) s
memory_read s a w e f = rw (w, e, f) refl

-- or written
pub memory_write : {A : Type 0} (s : BusState) (a v : ℕ) (x : A) → is_word a ≡ true → write_at board_bus a Word v x s ≡ Completed x (with_word s a v)
memory_write s a v x w = rw w refl

-- an even address of RAM
pub record IsStackWord (a : ℕ) : Type 0 where
  pub even : a % 2 ≡ 0
  pub low : 0x1C00 ≤ a
  pub high : a < 0x2400

pub stack_ram : (a : ℕ) → IsStackWord a → is_ram a ≡ true
stack_ram a h = let l = h.low in let u = h.high in grind (arith, nat_tests)

pub stack_is_word : (a : ℕ) → IsStackWord a → is_word a ≡ true
stack_is_word a h = let e = h.even in let l = h.low in let u = h.high in grind (arith, nat_tests)

pub no_sensor : (a : ℕ) → 0x1C00 ≤ a → (a == sensor_port) ≡ false
no_sensor a l = grind (arith, nat_tests)

pub no_event : (a : ℕ) → 0x1C00 ≤ a → (a == event_port) ≡ false
no_event a l = grind (arith, nat_tests)

pub even_address : (a : ℕ) → a % 2 ≡ 0 → word_address a ≡ a
even_address a e = omega arith

-- a word of the stack
ram_word : (s : BusState) (a : ℕ) → is_ram a ≡ true → memory_word s a ≡ slice_index s.ram (ram_place a)
ram_word s a e = ap (λ b. if b then slice_index s.ram (ram_place a) else slice_index s.fram (place_of a)) e

pub stack_read : (s : BusState) (a : ℕ) → IsStackWord a → read_at board_bus a Word s ≡ Completed (ram_of s.ram a) s
stack_read s a h =
    let e = stack_ram a h in
    memory_read s a (stack_is_word a h) (no_sensor a h.low) (no_event a h.low)
    ∙ ap (λ v. Completed v s) (ram_word s a e ∙ sym (ram_at s.ram a e) ∙ ap (λ x. ram_of s.ram x) (even_address a h.even))

abbrev pub with_ram : BusState → ℕ → ℕ → BusState
with_ram s a v = record s { ram = slice_set s.ram (ram_place a) v }

pub ram_written : (s : BusState) (a v : ℕ) → is_ram a ≡ true → with_word s a v ≡ with_ram s a v
ram_written s a v e = rw e refl

pub stack_write : {A : Type 0} (s : BusState) (a v : ℕ) (x : A) → IsStackWord a → write_at board_bus a Word v x s ≡ Completed x (with_ram s a v)
stack_write s a v x h = memory_write s a v x (stack_is_word a h) ∙ ap (λ t. Completed x t) (ram_written s a v (stack_ram a h))

pub ram_put : (xs : List ℕ) (a v : ℕ) → length xs ≡ 1024 → IsStackWord a → ram_of (slice_set xs (ram_place a) v) ≡ put (ram_of xs) a v
ram_put xs a v len h = sym (put_ram xs a v len (stack_ram a h)) ∙ ap (λ x. put (ram_of xs) x v) (even_address a h.even)

-- the effects of an instruction that takes and offers nothing
pub effects_are : (b : BoardValue) (i : Instr) (x : Registers × Option Written) (t : BusState) → t.taken ≡ b.taken → t.offered ≡ None
    → effects_of b (board_outcome b (outcome_of i (registers_of b.cpu) (Completed x t))) ≡ store_at (option_map (λ p. p.0) x.1) t.fram
effects_are b i x t same off =
    let stores = store_at (option_map (λ p. p.0) x.1) t.fram in
    ap (λ n. map (λ w. Take w) (slice_range b.readings b.taken n) ++ (stores ++ sends_of b.outnum t.offered)) same
    ∙ ap (λ ws. map (λ w. Take w) ws ++ (stores ++ sends_of b.outnum t.offered)) (none_taken b.readings b.taken)
    ∙ ap (λ o. stores ++ sends_of b.outnum o) off
    ∙ append-nil stores

-- an instruction whose effect is known
pub executed_as : (b : BoardValue) (i : Instr) (x : Registers × Option Written) (t : BusState)
    → effect board_bus i (registers_of b.cpu) (opened b) ≡ Completed x t
    → executed b i ≡ board_outcome b (outcome_of i (registers_of b.cpu) (Completed x t))
executed_as b i x t e = ap (λ m. board_outcome b (outcome_of i (registers_of b.cpu) m)) e
