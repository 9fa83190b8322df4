-- An instruction takes at most two readings, and where the bus refuses an access it changes nothing else.
use Rattle.std.proofs.Common.{◌≡◌, ◌≤◌, ◌+◌, ◌==◌, if◌then◌else◌, suc, arith, ℕ, refl, ◌∙◌, ap, subst, Option, Some, None, Bool, true, false, List}
use Rattle.alp_words.specs.declared.Width.{Width}
use Rattle.alp_words.specs.declared.Width.TheVariants.{Word, Byte}
use Rattle.msp_isa.specs.declared.instructions.Instr.{Instr}
use Rattle.msp_step.specs.Registers.{Registers}
use Rattle.msp_step.specs.Access.{Access, Completed, Faulted}
use Rattle.msp_step.specs.Reads.{HasRead, Nothing, Once, OnlyReads}
use Rattle.msp_step.specs.Effect.{Written}
use Rattle.msp_step.specs.Step.{effect, execution, outcome_of}
use Rattle.msp_step.specs.Laws.{AfterWrite}
use Rattle.msp_step.proofs.Interface.{Ends, effect_ends}
use Rattle.fram_board.specs.Bus.{BusState, board_bus, after_read, written, port_written, data_written, answer_written, with_word, is_ram, is_word, is_memory}
use Rattle.fram_board.specs.Bus.{with_byte, memory_word}
use Rattle.fram_board.specs.declared.radio.Radio.{Radio}
use Rattle.fram_board.specs.declared.radio.Radio.TheVariants.{Alone, Sends, Listens}
use Rattle.fram_board.specs.Bus.{sensor_port, number_port, data_port, event_port, answer_port}
use Rattle.fram_board.specs.Events.{EventLine, port_read}
use Rattle.fram_board.specs.Steps.{line_heard}

-- so many readings more at most
pub record TakesUpTo (n : ℕ) (s t : BusState) : Type 0 where
  pub from : s.taken ≤ t.taken
  pub to : t.taken ≤ s.taken + n

-- and nothing else, but what waited in EVENT
pub record TakesOnly (n : ℕ) (s t : BusState) : Type 0 where
  pub same : t ≡ record s { taken = t.taken; line = line_heard s.line t.line }
  pub takes : TakesUpTo n s t

one_more : (b : Bool) (k : ℕ) → (k ≤ (if b then k + 1 else k)) × ((if b then k + 1 else k) ≤ k + 1)
one_more true k = (omega arith, omega arith)
one_more false k = (omega arith, omega arith)

line_read : (b : Bool) (q : EventLine) → (if b then port_read q else q) ≡ line_heard q (if b then port_read q else q)
line_read true q = refl
line_read false q = refl

read_takes : (s : BusState) (a : ℕ) (w : Width) → TakesOnly 1 s (after_read s a w)
read_takes s a Word =
    let m = one_more (a == sensor_port) s.taken in
    record {
      same = ap {B = BusState} (λ q. record s { taken = if a == sensor_port then s.taken + 1 else s.taken; line = q }) (line_read (a == event_port) s.line);
      takes = record { from = m.0; to = m.1 };
    }
read_takes s a Byte = record { same = refl; takes = record { from = omega arith; to = omega arith } }

join : (n : ℕ) (s t u : BusState) → TakesOnly n s t → TakesOnly 1 t u → TakesOnly (suc n) s u
join n s t u g h =
    let a = g.takes.from in
    let b = g.takes.to in
    let c = h.takes.from in
    let d = h.takes.to in
    record {
      same = h.same ∙ ap {A = BusState} (λ x. record x { taken = u.taken; line = line_heard x.line u.line }) g.same;
      takes = record { from = omega arith; to = omega arith };
    }

reads_take : (s t : BusState) (n : ℕ) → HasRead board_bus s n t → TakesOnly n s t
reads_take s t n Nothing = record { same = refl; takes = record { from = omega arith; to = omega arith } }
reads_take s t n (Once m u a w v h e) = join m s u t (reads_take s u m h) (read_takes u a w)

-- reads take readings, and change nothing else
pub only_takes : (n : ℕ) (s t : BusState) → OnlyReads board_bus n s t → TakesOnly n s t
only_takes n s t h =
    let g = reads_take s t h.count h.reads in
    let f = h.few in
    let b = g.takes.to in
    record { same = g.same; takes = record { from = g.takes.from; to = omega arith } }

-- the same was taken from outside: readings, and what waited in EVENT
abbrev pub SameInputs : BusState → BusState → Type 0
SameInputs s t = (t.taken ≡ s.taken) × (t.line ≡ s.line)

-- a write takes nothing
abbrev SameIfServed : BusState → Option BusState → Type 0
SameIfServed s None = Unit {0}
SameIfServed s (Some t) = SameInputs s t

pub word_same : (s : BusState) (b : Bool) (r f : List ℕ) → SameInputs s (if b then record s { ram = r } else record s { fram = f })
word_same s true r f = (refl, refl)
word_same s false r f = (refl, refl)

data_same : (s : BusState) (x : Radio) (v : ℕ) → SameInputs s (data_written x s v)
data_same s Alone v = (refl, refl)
data_same s (Sends greatest) v = (refl, refl)
data_same s (Listens number) v = (refl, refl)

either_same : (s : BusState) (b : Bool) (x y : Option BusState) → SameIfServed s x → SameIfServed s y → SameIfServed s (if b then x else y)
either_same s true x y g h = g
either_same s false x y g h = h

answer_same : (s : BusState) (x : Radio) (a v : ℕ) → SameIfServed s (answer_written x s a v)
answer_same s Alone a v = tt
answer_same s (Sends greatest) a v = tt
answer_same s (Listens number) a v =
    either_same s (a == answer_port) (Some (record s { offered = None; sent = Some (v, 0) })) None (refl, refl) tt

port_same : (s : BusState) (a v : ℕ) → SameIfServed s (port_written s a v)
port_same s a v =
    either_same s (a == number_port) (Some (record s { outnum = v })) _ (refl, refl)
    (either_same s (a == data_port) (Some (data_written s.radio s v)) (answer_written s.radio s a v) (data_same s s.radio v) (answer_same s s.radio a v))

write_same : (s : BusState) (a : ℕ) (w : Width) (v : ℕ) → SameIfServed s (written s a w v)
write_same s a Word v = either_same s (is_word a) (Some (with_word s a v)) (port_written s a v) (word_same s (is_ram a) _ _)
    (port_same s a v)
write_same s a Byte v = either_same s (is_memory a) (Some (with_word s a (with_byte (memory_word s a) a v))) None (word_same s (is_ram a) _ _) tt

pub after_write_same : (s t : BusState) (w : Option Written) → AfterWrite board_bus w s t → SameInputs s t
after_write_same s t None h = (ap (λ x. x.taken) h, ap (λ x. x.line) h)
after_write_same s t (Some w) h = let P : Option BusState → Type 0 = λ x. SameIfServed s x in subst P h.1 (write_same s w.0 h.0 w.1)

outcome_takes : (i : Instr) (r : Registers) (s : BusState) (m : Access BusState (Registers × Option Written)) → Ends board_bus 2 s m
    → TakesUpTo 2 s (outcome_of i r m).bus
outcome_takes i r s (Completed x t) h =
    let g = only_takes 2 s h.0 h.1 in
    let a = g.takes.from in
    let b = g.takes.to in
    let c = (after_write_same h.0 t x.1 h.2).0 in
    record { from = omega arith; to = omega arith }
outcome_takes i r s (Faulted e a t) h = (only_takes 2 s t h).takes

-- an instruction takes at most two readings
pub execution_takes : (i : Instr) (r : Registers) (s : BusState) → TakesUpTo 2 s (execution board_bus i r s).bus
execution_takes i r s = outcome_takes i r s (effect board_bus i r s) (effect_ends board_bus i r s)
