-- A state steps in one way: what is fetched begins one instruction or says why there is none.
use Rattle.std.proofs.Common.{◌≡◌, ◌<◌, ℕ, List, [], ◌∷◌, length, refl, sym, ◌∙◌, ap, arith, Option, Some, None, Ok, Err, unwrap_or}
use Rattle.msp_isa.specs.declared.instructions.Instr.{Instr}
use Rattle.msp_isa.specs.declared.instructions.Instr.TheVariants as instr
use Rattle.msp_isa.specs.declared.instructions.OneOp.TheVariants as one
use Rattle.msp_isa.specs.Encoding.{IsPrefix, IsInstruction, IsIllegal, encoding, first_word}
use Rattle.msp_decode.proofs.Interface.{length_below, same_instruction}
use Rattle.msp_step.specs.declared.machine.Stop.{Stop}
use Rattle.msp_step.specs.declared.machine.Stop.TheVariants as stop
use Rattle.msp_step.specs.declared.machine.Stepped.{Stepped}
use Rattle.msp_step.specs.Registers.{Registers}
use Rattle.msp_cycles.specs.Cycles.{cycles_of}
use Rattle.msp_step.specs.Access.{BusModel, Access, Completed, Faulted}
use Rattle.msp_step.specs.Effect.{Written, word_sum}
use Rattle.msp_step.specs.Step.{FetchedAt, IsCurrentInstruction, NotFetched, First, Second, Third, IsStopped, Outcome, outcome_of, effect, execution}
use Rattle.msp_step.specs.Step.{StepResult, Stopped, Executed, Costs, off_bit}

-- an instruction begins with its first word
begins : {S : Type 0} (bus : BusModel S) (s : S) (pc : ℕ) (i : Instr) → FetchedAt bus s pc (encoding i) → bus.fetches s pc ≡ Some (first_word i)
begins bus s pc (instr.Two op w x d) f = f.0
begins bus s pc (instr.One (one.Rrc w o)) f = f.0
begins bus s pc (instr.One (one.Rra w o)) f = f.0
begins bus s pc (instr.One (one.Swpb o)) f = f.0
begins bus s pc (instr.One (one.Sxt o)) f = f.0
begins bus s pc (instr.One (one.Push w x)) f = f.0
begins bus s pc (instr.One (one.Call x)) f = f.0
begins bus s pc (instr.Jump c o) f = f.0
begins bus s pc instr.Reti f = f.0

abbrev word_at : Option ℕ → ℕ
word_at o = unwrap_or o 0

in_front : {S : Type 0} (bus : BusModel S) (s : S) (pc : ℕ) (ws : List ℕ) → length ws < 4 → FetchedAt bus s pc ws
    → IsPrefix ws (word_at (bus.fetches s pc) ∷ word_at (bus.fetches s (word_sum pc 2)) ∷ word_at (bus.fetches s (word_sum (word_sum pc 2) 2)) ∷ [])
in_front bus s pc [] few f = tt
in_front bus s pc (x ∷ []) few f = (sym (ap word_at f.0), tt)
in_front bus s pc (x ∷ y ∷ []) few f = (sym (ap word_at f.0), (sym (ap word_at f.1.0), tt))
in_front bus s pc (x ∷ y ∷ z ∷ []) few f = (sym (ap word_at f.0), (sym (ap word_at f.1.0), (sym (ap word_at f.1.1.0), tt)))
in_front bus s pc (x ∷ y ∷ z ∷ v ∷ ws) few f = absurd (omega arith)

-- there is one current instruction
pub same_current : {S : Type 0} (bus : BusModel S) (r : Registers) (s : S) (i j : Instr) → IsCurrentInstruction bus r s i → IsCurrentInstruction bus r s j
    → i ≡ j
same_current bus r s i j a b =
    same_instruction i j _ _ _ a.is b.is (in_front bus s (r 0) (encoding i) (length_below i) a.fetched)
    (in_front bus s (r 0) (encoding j) (length_below j) b.fetched)

some_none : {w : ℕ} {o : Option ℕ} → o ≡ Some w → o ≡ None → ⊥
some_none a b = let e = sym a ∙ b in cc

some_same : {w v : ℕ} {o : Option ℕ} → o ≡ Some w → o ≡ Some v → w ≡ v
some_same a b = let e = sym a ∙ b in cc

second_there : {S : Type 0} (bus : BusModel S) (s : S) (pc : ℕ) (ws : List ℕ) → 1 < length ws → FetchedAt bus s pc ws → (w : ℕ)
    × (bus.fetches s (word_sum pc 2) ≡ Some w)
second_there bus s pc [] l f = absurd (omega arith)
second_there bus s pc (x ∷ []) l f = absurd (omega arith)
second_there bus s pc (x ∷ y ∷ ws) l f = (y, f.1.0)

third_there : {S : Type 0} (bus : BusModel S) (s : S) (pc : ℕ) (ws : List ℕ) → 2 < length ws → FetchedAt bus s pc ws → (w : ℕ)
    × (bus.fetches s (word_sum (word_sum pc 2) 2) ≡ Some w)
third_there bus s pc [] l f = absurd (omega arith)
third_there bus s pc (x ∷ []) l f = absurd (omega arith)
third_there bus s pc (x ∷ y ∷ []) l f = absurd (omega arith)
third_there bus s pc (x ∷ y ∷ z ∷ ws) l f = (z, f.1.1.0)

-- an instruction whose words are fetched, and a word that can't be, exclude each other
not_missing : {S : Type 0} (bus : BusModel S) (s : S) (pc a : ℕ) (i : Instr) → IsInstruction i → FetchedAt bus s pc (encoding i) → NotFetched bus s pc a → ⊥
not_missing bus s pc a i is f (First none) = some_none (begins bus s pc i f) none
not_missing bus s pc a i is f (Second w was longer none) =
    let t = second_there bus s pc (encoding i) (longer.all i is (some_same (begins bus s pc i f) was)) f in some_none t.1 none
not_missing bus s pc a i is f (Third w v was longer there none) =
    let t = third_there bus s pc (encoding i) (longer.all i is (some_same (begins bus s pc i f) was)) f in some_none t.1 none

same_missing : {S : Type 0} (bus : BusModel S) (s : S) (pc a b : ℕ) → NotFetched bus s pc a → NotFetched bus s pc b → a ≡ b
same_missing bus s pc a b (First x) (First y) = refl
same_missing bus s pc a b (First x) (Second w was longer y) = absurd (some_none was x)
same_missing bus s pc a b (First x) (Third w v was longer there y) = absurd (some_none was x)
same_missing bus s pc a b (Second w was longer y) (First x) = absurd (some_none was x)
same_missing bus s pc a b (Second w was longer y) (Second w' was' longer' y') = refl
same_missing bus s pc a b (Second w was longer y) (Third w' v was' longer' there y') = absurd (some_none there y)
same_missing bus s pc a b (Third w v was longer there y) (First x) = absurd (some_none was x)
same_missing bus s pc a b (Third w v was longer there y) (Second w' was' longer' y') = absurd (some_none there y')
same_missing bus s pc a b (Third w v was longer there y) (Third w' v' was' longer' there' y') = refl

-- an illegal word, and a word at PC that can't be fetched
illegal_fetched : {S : Type 0} (bus : BusModel S) (s : S) (pc a w : ℕ) → bus.fetches s pc ≡ Some w → IsIllegal w → NotFetched bus s pc a → ⊥
illegal_fetched bus s pc a w was bad (First x) = some_none was x
illegal_fetched bus s pc a w was bad (Second v is longer y) = bad longer.one longer.is (longer.begins ∙ some_same is was)
illegal_fetched bus s pc a w was bad (Third v u is longer there y) = bad longer.one longer.is (longer.begins ∙ some_same is was)

on_off : (r : Registers) → off_bit r ≡ 1 → off_bit r ≡ 0 → ⊥
on_off r a b = let e = sym a ∙ b in omega arith

-- there is one stop
pub same_stop : {S : Type 0} (bus : BusModel S) (r : Registers) (s : S) (e f : Stop) → IsStopped bus r s e → IsStopped bus r s f → e ≡ f
same_stop bus r s stop.Off stop.Off h k = refl
same_stop bus r s stop.Off (stop.Illegal p w) h k = absurd (on_off r h k.0)
same_stop bus r s stop.Off (stop.Bus p a) h k = absurd (on_off r h k.0)
same_stop bus r s stop.Off stop.NoReading h k = absurd k
same_stop bus r s (stop.Illegal p w) stop.Off h k = absurd (on_off r k h.0)
same_stop bus r s (stop.Illegal p w) (stop.Illegal q v) h k = let a = h.1.0 ∙ sym k.1.0 in let b = some_same h.1.1 k.1.1 in cc
same_stop bus r s (stop.Illegal p w) (stop.Bus q a) h k = absurd (illegal_fetched bus s (r 0) a w h.1.1 h.1.2 k.1.1)
same_stop bus r s (stop.Illegal p w) stop.NoReading h k = absurd k
same_stop bus r s (stop.Bus p a) stop.Off h k = absurd (on_off r k h.0)
same_stop bus r s (stop.Bus p a) (stop.Illegal q w) h k = absurd (illegal_fetched bus s (r 0) a w k.1.1 k.1.2 h.1.1)
same_stop bus r s (stop.Bus p a) (stop.Bus q b) h k = let x = h.1.0 ∙ sym k.1.0 in let y = same_missing bus s (r 0) a b h.1.1 k.1.1 in cc
same_stop bus r s (stop.Bus p a) stop.NoReading h k = absurd k
same_stop bus r s stop.NoReading f h k = absurd h

-- a current instruction isn't stopped
pub not_stopped : {S : Type 0} (bus : BusModel S) (r : Registers) (s : S) (e : Stop) (i : Instr) → IsStopped bus r s e → IsCurrentInstruction bus r s i → ⊥
not_stopped bus r s stop.Off i h c = on_off r h c.on
not_stopped bus r s (stop.Illegal p w) i h c = h.1.2 i c.is (some_same (begins bus s (r 0) i c.fetched) h.1.1)
not_stopped bus r s (stop.Bus p a) i h c = not_missing bus s (r 0) a i c.is c.fetched h.1.1
not_stopped bus r s stop.NoReading i h c = h

-- a step has one outcome
pub determined : {S : Type 0} (bus : BusModel S) (r : Registers) (s : S) (o p : Outcome S) → StepResult bus r s o → StepResult bus r s p → o ≡ p
determined {S} bus r s o p (Stopped e h) (Stopped f k) = ap (λ x. record { answer = Err x; registers = r; bus = s }) (same_stop bus r s e f h k)
determined bus r s o p (Stopped e h) (Executed i c) = absurd (not_stopped bus r s e i h c)
determined bus r s o p (Executed i c) (Stopped e h) = absurd (not_stopped bus r s e i h c)
determined bus r s o p (Executed i c) (Executed j d) = ap (λ x. execution bus x r s) (same_current bus r s i j c d)

took : {S : Type 0} (i : Instr) (r : Registers) (m : Access S (Registers × Option Written)) (done : Stepped) → (outcome_of i r m).answer ≡ Ok done
    → done.cycles ≡ cycles_of i
took i r (Completed x s) done e = cc
took i r (Faulted f a s) done e = cc

-- a step takes its cost
pub takes_its_cost : {S : Type 0} (bus : BusModel S) (r : Registers) (s : S) (o : Outcome S) (done : Stepped) → StepResult bus r s o → o.answer ≡ Ok done
    → Costs bus r s (Ok done.cycles)
takes_its_cost bus r s o done (Stopped e h) is = cc
takes_its_cost bus r s o done (Executed i c) is = (i, c, took i r (effect bus i r s) done is)
