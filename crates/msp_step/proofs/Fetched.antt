-- That the words of an instruction stand at an address, from what was fetched.
use Rattle.std.proofs.Common.{◌≡◌, ℕ, ◌<◌, List, [], ◌∷◌, length, refl, sym, ◌∙◌, ap, arith, Some, None, Result, Ok, Err, subst}
use Rattle.msp_isa.specs.declared.instructions.Instr.{Instr}
use Rattle.msp_isa.specs.Encoding.{IsPrefix, IsInstruction, encoding, first_word}
use Rattle.msp_decode.proofs.Interface.{prefix_first}
use Rattle.msp_step.specs.declared.machine.Stop.{Stop}
use Rattle.msp_step.specs.declared.machine.Stop.TheVariants as stop
use Rattle.msp_step.specs.declared.machine.Words.{Words}
use Rattle.msp_step.specs.Registers.{Registers}
use Rattle.msp_step.specs.Access.{BusModel}
use Rattle.msp_step.specs.Effect.{word_sum}
use Rattle.msp_step.specs.Step.{FetchedAt, AreWordsAt, AreCurrentWords, IsCurrentInstruction, IsNoInstruction, IsLongerThan, First, Second, Third}

-- words that are fetched one after another
pub fetched_at : {S : Type 0} (bus : BusModel S) (s : S) (pc : ℕ) (xs : List ℕ) (w0 w1 w2 : ℕ) → IsPrefix xs (w0 ∷ w1 ∷ w2 ∷ []) → bus.fetches s pc ≡ Some w0
    → (1 < length xs → bus.fetches s (word_sum pc 2) ≡ Some w1) → (2 < length xs → bus.fetches s (word_sum (word_sum pc 2) 2) ≡ Some w2) → FetchedAt bus s pc xs
fetched_at bus s pc [] w0 w1 w2 h f g k = tt
fetched_at bus s pc (x ∷ []) w0 w1 w2 h f g k = (f ∙ ap Some (sym h.0), tt)
fetched_at bus s pc (x ∷ y ∷ []) w0 w1 w2 h f g k = (f ∙ ap Some (sym h.0), (g (omega arith) ∙ ap Some (sym h.1.0), tt))
fetched_at bus s pc (x ∷ y ∷ z ∷ []) w0 w1 w2 h f g k =
    (f ∙ ap Some (sym h.0), (g (omega arith) ∙ ap Some (sym h.1.0), (k (omega arith) ∙ ap Some (sym h.1.1.0), tt)))
fetched_at bus s pc (x ∷ y ∷ z ∷ v ∷ xs) w0 w1 w2 h f g k = absurd h.1.1.1

-- why there is no instruction, from the fetch that failed
pub first_missing : {S : Type 0} (bus : BusModel S) (s : S) (pc : ℕ) (e : Stop) → (e ≡ stop.Bus pc pc) × (bus.fetches s pc ≡ None) → IsNoInstruction bus s pc e
first_missing bus s pc e h = subst (λ x. IsNoInstruction bus s pc x) (sym h.0) (refl, First h.1)

pub second_missing : {S : Type 0} (bus : BusModel S) (s : S) (pc w : ℕ) (e : Stop) → IsLongerThan 1 w → bus.fetches s pc ≡ Some w
    → (e ≡ stop.Bus pc (word_sum pc 2)) × (bus.fetches s (word_sum pc 2) ≡ None) → IsNoInstruction bus s pc e
second_missing bus s pc w e longer was h = subst (λ x. IsNoInstruction bus s pc x) (sym h.0) (refl, Second w was longer h.1)

pub third_missing : {S : Type 0} (bus : BusModel S) (s : S) (pc w v : ℕ) (e : Stop) → IsLongerThan 2 w → bus.fetches s pc ≡ Some w
    → bus.fetches s (word_sum pc 2) ≡ Some v → (e ≡ stop.Bus pc (word_sum (word_sum pc 2) 2)) × (bus.fetches s (word_sum (word_sum pc 2) 2) ≡ None)
    → IsNoInstruction bus s pc e
third_missing bus s pc w v e longer was then_was h = subst (λ x. IsNoInstruction bus s pc x) (sym h.0) (refl, Third w v was longer then_was h.1)

abbrev count_in : {E : Type 0} → Result ℕ E → ℕ
count_in (Ok n) = n
count_in (Err e) = 0

-- how many words the instructions have that begin with a word
abbrev pub HaveWords : ℕ → ℕ → Type 0
HaveWords first count = (i : Instr) → IsInstruction i → first_word i ≡ first → length (encoding i) ≡ count

pub have_words : {E : Type 0} (first count : ℕ)
    → ((i : Instr) → IsInstruction i → first_word i ≡ first → ◌≡◌ {A = Result ℕ E} (Ok count) (Ok (length (encoding i))))
    → HaveWords first count
have_words {E} first count only i is begins = sym (ap (count_in {E = E}) (only i is begins))

-- an instruction that begins with a word, and so many words of it
abbrev pub Begins : ℕ → ℕ → Type 0
Begins first count = (i : Instr) × IsInstruction i × (first_word i ≡ first) × (length (encoding i) ≡ count)

pub longer_by : (n first count : ℕ) → Begins first count → HaveWords first count → n < count → IsLongerThan n first
longer_by n first count (j, is, begins, len) all long =
    record { one = j; is = is; begins = begins; all = λ i fits starts. let same = all i fits starts in omega arith }

-- words that were fetched stand there as whichever instruction they begin with
pub words_stand : {S : Type 0} (bus : BusModel S) (s : S) (pc w0 w1 w2 count : ℕ) → Begins w0 count → HaveWords w0 count → bus.fetches s pc ≡ Some w0
    → (1 < count → bus.fetches s (word_sum pc 2) ≡ Some w1) → (2 < count → bus.fetches s (word_sum (word_sum pc 2) 2) ≡ Some w2)
    → AreWordsAt bus s pc (record { first = w0; second = w1; third = w2 })
words_stand bus s pc w0 w1 w2 count (j, is, begins, len) all f g k = record {
  begun = (j, is, begins);
  stand = λ i fits front.
      let same = all i fits (prefix_first i w0 (w1 ∷ w2 ∷ []) front) in
      fetched_at bus s pc (encoding i) w0 w1 w2 front f (λ l. g (omega arith)) (λ l. k (omega arith));
}

-- the words at PC are the instruction there that they begin with
pub is_current : {S : Type 0} (bus : BusModel S) (r : Registers) (s : S) (ws : Words) (i : Instr) → AreCurrentWords bus r s ws → IsInstruction i
    → IsPrefix (encoding i) (ws.first ∷ ws.second ∷ ws.third ∷ []) → IsCurrentInstruction bus r s i
is_current bus r s ws i (on, at) fits front = record { on = on; is = fits; fetched = at.stand i fits front }
