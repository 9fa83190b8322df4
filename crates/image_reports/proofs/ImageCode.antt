-- At each front of a run the board's next instruction is one of the code, whose words are those of the image.
use Rattle.image_reports.proofs.Names.{◌≡◌, ℕ, zero, suc, ◌+◌, ◌*◌, ◌%◌, ◌<◌, ◌≤◌, ◌==◌, Bool, true, false, cond, refl, sym, ap, ◌∙◌, subst, arith, eqb-true}
use Rattle.image_reports.proofs.Names.{List, [], ◌∷◌, length, length-append, Option, Some, None, slice_index, nat_tests, encoding, IsInstruction, place_of}
use Rattle.image_reports.proofs.Names.{BoardValue, opened, Effect, StepOutcome, Goes, Stops, At, Halted, going, continued, MachineBoard, Code, standing}
use Rattle.image_reports.proofs.Names.{undisturbed, exec}
use Rattle.image_reports.proofs.Names.{fram_of, is_fram_address, placed_at, words_of, Holds, AreInstructions, Marks, History, Program}
use Rattle.image_reports.proofs.Names.{Charge, Charged, IsPoweredFrom}
use Rattle.msp_step.specs.declared.machine.Stop.TheVariants as stop
use Rattle.msp_isa.specs.declared.instructions.Instr.{Instr}
use Rattle.msp_step.specs.declared.machine.Stop.{Stop}
use Rattle.msp_step.specs.Effect.{word_sum}
use Rattle.msp_step.specs.Step.{off_bit, FetchedAt}
use Rattle.fram_board.specs.Bus.{board_bus, memory_word, ram_place}
use Rattle.code_forms.proofs.Interface.{holds_front, holds_back, fram_no_ram, fram_word}

-- a machine that goes on, but where a reading is wanted that isn't left
abbrev pub GoesOn : Program → MachineBoard → Type 0
GoesOn c s = (es : List Effect) (price : ℕ) (e : Stop) → c.step s ≡ Stops es price e → e ≡ stop.NoReading

-- steps that come to a machine which stops then, stop in the next one
pub stops_next : {S X : Type 0} (step : S → StepOutcome S X) (n : ℕ) (s t : S) (es : List Effect) (price : ℕ) (e : X)
    → (going step n s).status ≡ At t → step t ≡ Stops es price e → (going step (suc n) s).status ≡ Halted price e
stops_next {S} {X} step zero s t es price e h k =
    let same : s ≡ t = cc h in
    ap (λ u. (continued (step u) (going step zero)).status) same ∙ ap (λ o. (continued o (going step zero)).status) k
stops_next {S} {X} step (suc n) s t es price e h k =
    (elim (step s) as (λ o. (continued o (going step n)).status ≡ At t → (continued o (going step (suc n))).status ≡ Halted price e) [
      | Goes fs c u ↦ λ q. stops_next step n u t es price e q k
      | Stops fs p x ↦ λ q. absurd cc
    ]) h

-- wherever charges lead, a further one stops for want of a reading alone
abbrev pub StopsAtReadings : Program → Marks → MachineBoard → History → Type 0
StopsAtReadings c marks s h = (es : List Charge) (t : MachineBoard) (k : History) → Charged c marks s h es t k → (p : MachineBoard) → c.IsPoweredUp p
    → IsPoweredFrom t p → (n price : ℕ) (e : Stop) → (going c.step n p).status ≡ Halted price e → e ≡ stop.NoReading

-- code that goes on at a machine: CPUOFF is clear, and an instruction stands at PC
pub record StandsOn (code : Code) (s : MachineBoard) : Type 0 where
  pub instruction : Instr
  pub there : code.at (s.registers 0) ≡ Some instruction
  pub on : off_bit s.registers ≡ 0

stands_at : (code : Code) (s : MachineBoard) (q : Option Instr) → code.at (s.registers 0) ≡ q → off_bit s.registers ≡ 0
    → ((es : List Effect) (price : ℕ) (e : Stop) → standing q s ≡ Stops es price e → e ≡ stop.NoReading) → StandsOn code s
stands_at code s None h on goes = absurd (let e = goes _ _ _ refl in cc)
stands_at code s (Some i) h on goes = record { instruction = i; there = h; on = on }

pub stands_on : (code : Code) (s : MachineBoard)
    → ((es : List Effect) (price : ℕ) (e : Stop) → exec code s ≡ Stops es price e → e ≡ stop.NoReading) → StandsOn code s
stands_on code s goes = by (off_bit s.registers == 1) refl
  where
    by : (b : Bool) → (off_bit s.registers == 1) ≡ b → StandsOn code s
    by true e =
        absurd (let x = goes [] 0 stop.Off (ap (λ b. undisturbed code.events s
        (cond b (Stops [] 0 stop.Off) (standing (code.at (s.registers 0)) s))) e) in cc)
    by false e =
        let on : off_bit s.registers ≡ 0 = grind (arith, nat_tests) in
        stands_at code s (code.at (s.registers 0)) refl on
        (λ es price x k. goes es price x
        (ap (λ b. undisturbed code.events s (cond b (Stops [] 0 stop.Off) (standing (code.at (s.registers 0)) s))) e
        ∙ ap (undisturbed code.events s) k))

-- an instruction of a list that stands in FRAM: its words are there, within those of the list
pub record IsWithin (f : ℕ → ℕ) (p n a : ℕ) (i : Instr) : Type 0 where
  pub is : IsInstruction i
  pub holds : Holds f a (encoding i)
  pub from : p ≤ a
  pub to : a + 2 * length (encoding i) ≤ p + 2 * n
  pub even : a % 2 ≡ 0

pub placed_within : (f : ℕ → ℕ) (is : List Instr) (p a : ℕ) (i : Instr) → AreInstructions is → p % 2 ≡ 0 → Holds f p (words_of is) → placed_at p is a ≡ Some i
    → IsWithin f p (length (words_of is)) a i
placed_within f [] p a i are e h q = absurd cc
placed_within f (j ∷ is) p a i are e h q =
    let next = p + 2 * length (encoding j) in
    let long : length (words_of (j ∷ is)) ≡ length (encoding j) + length (words_of is) = length-append (encoding j) (words_of is) in
    (elim (a == p) as (λ x. (a == p) ≡ x → cond x (Some j) (placed_at next is a) ≡ Some i → IsWithin f p (length (words_of (j ∷ is))) a i) [
      | true ↦ λ t k.
          let at : a ≡ p = eqb-true a p t in
          let same : j ≡ i = cc in
          let P : ℕ → Instr → Type 0 = λ b x. IsWithin f p (length (words_of (j ∷ is))) b x in
          subst (λ x. P a x) same (subst (λ b. P b j) (sym at) (record {
            is = are.0;
            holds = holds_front f p (encoding j) (words_of is) h;
            from = omega arith;
            to = omega (arith, long);
            even = e;
          }))
      | false ↦ λ t k.
          let r = placed_within f is next a i are.1 (omega arith) (holds_back f p (encoding j) (words_of is) h) k in
          let from = r.from in
          let to = r.to in
          record { is = r.is; holds = r.holds; from = omega (arith, from); to = omega (arith, to, long); even = r.even }
    ]) refl q

-- words that stand in FRAM twice are the same
pub same_words : (f g : ℕ → ℕ) (ws : List ℕ) (p a : ℕ) → Holds f p ws → Holds g p ws → p % 2 ≡ 0 → a % 2 ≡ 0 → p ≤ a → a < p + 2 * length ws → f a ≡ g a
same_words f g [] p a h k e d from to = absurd (omega arith)
same_words f g (w ∷ ws) p a h k e d from to =
    (elim (a == p) as (λ x. (a == p) ≡ x → f a ≡ g a) [
      | true ↦ λ t. let at : a ≡ p = eqb-true a p t in ap f at ∙ h.0 ∙ sym k.0 ∙ ap g (sym at)
      | false ↦ λ t.
          let further : p + 2 ≤ a = grind (arith, nat_tests) in
          same_words f g ws (p + 2) a h.1 k.1 (omega arith) d further (omega arith)
    ]) refl

-- words of FRAM are fetched by the board
word_fetched : (b : BoardValue) (a w : ℕ) → a % 2 ≡ 0 → 0x4400 ≤ a → a < 0x10000 → fram_of b.fram a ≡ w → board_bus.fetches (opened b) a ≡ Some w
word_fetched b a w e l h is =
    ap (λ x. cond x (Some (memory_word (opened b) a)) None) (fram_word a e l h)
    ∙ ap (λ x. Some (cond x (slice_index b.ram (ram_place a)) (slice_index b.fram (place_of a)))) (fram_no_ram a l)
    ∙ ap (λ x. Some (cond x (slice_index b.fram (place_of a)) 0)) (sym (is_fram_address a e l h))
    ∙ ap Some is

pub words_fetched : (b : BoardValue) (a : ℕ) (ws : List ℕ) → a % 2 ≡ 0 → 0x4400 ≤ a → a + 2 * length ws < 0x10000 → Holds (fram_of b.fram) a ws
    → FetchedAt board_bus (opened b) a ws
words_fetched b a [] e l h k = tt
words_fetched b a (w ∷ ws) e l h k =
    let n : word_sum a 2 ≡ a + 2 = omega (arith, h) in (
      word_fetched b a w e l (omega (arith, h)) k.0,
      subst (λ q. FetchedAt board_bus (opened b) q ws) (sym n) (words_fetched b (a + 2) ws (omega arith) (omega arith) (omega (arith, h)) k.1),
    )
