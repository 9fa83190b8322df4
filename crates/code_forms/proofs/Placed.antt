-- Instructions that stand one after another in FRAM, untouched, are what a machine fetches.
use Rattle.std.proofs.Common.{◌≡◌, ℕ, suc, ◌+◌, ◌*◌, ◌%◌, ◌<◌, ◌≤◌, ◌==◌, List, [], ◌∷◌, ◌++◌, length, Option, Some, None, refl, sym, ap, ◌∙◌, subst, arith}
use Rattle.std.proofs.Common.{Bool, true, false, if◌then◌else◌, cond, ◌⊎◌, inl, inr, ⊎_elim, eqb-true, ne_eqb, eq-eqb, length-append}
use Rattle.std.specs.Prelude.{unwrap_or}
use Rattle.std.proofs.lemmas.Bool.Decides.{nat_tests}
use Rattle.machine_effects.specs.msp_isa.declared.instructions.Instr.{Instr}
use Rattle.machine_effects.specs.msp_isa.Encoding.{encoding, IsInstruction, source_row, destination_row}
use Rattle.instruction_forms.specs.declared.kinds.Modification.TheVariants as change
use Rattle.machine_effects.specs.msp_step.declared.machine.Stop.{Stop}
use Rattle.machine_effects.specs.msp_step.declared.machine.Stop.TheVariants as stop
use Rattle.machine_effects.specs.msp_step.Effect.{word_sum}
use Rattle.machine_effects.specs.msp_step.Step.{off_bit, FetchedAt, IsStopped, IsCurrentInstruction}
use Rattle.machine_effects.proofs.msp_step.Interface.{same_current, not_stopped}
use Rattle.machine_effects.specs.fram_board.Bus.{is_word, is_ram}
use Rattle.machine_effects.specs.fram_board.Effects.{Effect, Store, Take, Outside}
use Rattle.machine_effects.specs.World.{put, fram_after_one, fram_after, OfStore, EachStore}
use Rattle.machine_effects.specs.Going.{Goes, Stops}
use Rattle.machine_effects.specs.Machine.{MachineBoard, MachineOutcome, machine_bus, machine_opened, machine_fetched}
use Rattle.machine_effects.specs.Machine.{program_executed}
use Rattle.machine_effects.specs.Machine.{IsProgramStep, NoInstruction, Executes, Code, step_with, exec, is_exposed, undisturbed, astray, word_address}
use Rattle.code_forms.specs.Forms.{Form, Move, Calculate, Compare, Update, Push, Modify, SetStack, Sense, Jump, Skip, Branch, BranchIndexed}
use Rattle.code_forms.specs.Forms.{EnableInterrupts, SkipBy, Call, Return, KeepStack, RestoreStack, source_operand, Target, ToRegister, target_operand}
use Rattle.code_forms.specs.Forms.{target_bytes}
use Rattle.code_forms.specs.Forms.{instruction_of, form_bytes}
use Rattle.code_forms.specs.Forms.{Core}
use Rattle.code_forms.specs.Code.{Stands, forms_bytes}
use Rattle.code_forms.specs.Placed.{placed_at, placed, words_of, instructions, Holds, AreInstructions, IsOutside}
use Rattle.code_forms.specs.Laws.{FormsStandWherePlaced, PlacedIsTidy, IsNoHole, CodeInFramSteps}
use Rattle.code_forms.proofs.Forms.{from_small, from_length, to_length}

-- a form's length is that of its instruction's words
pub bytes_are : (m : Form) → 2 * length (encoding (instruction_of m)) ≡ form_bytes m
bytes_are (Move x y) =
    omega (arith, from_length x, to_length y, length-append (source_row (source_operand x)).extension (destination_row (target_operand y)).extension)
bytes_are (Calculate op x b) = omega (arith, from_length x, length-append {A = ℕ} (source_row (source_operand x)).extension [])
bytes_are (Compare x a) = omega (arith, from_length x, length-append (source_row (source_operand x)).extension (a ∷ []))
bytes_are (Update op x a) = omega (arith, from_length x, length-append (source_row (source_operand x)).extension (a ∷ []))
bytes_are (Push x) = omega (arith, from_length x)
bytes_are (Modify change.Rrc b) = refl
bytes_are (Modify change.Rra b) = refl
bytes_are (Modify change.Swpb b) = refl
bytes_are (Modify change.Sxt b) = refl
bytes_are (SetStack n) = refl
bytes_are EnableInterrupts = refl
bytes_are (Sense b) = refl
bytes_are (Jump c o) = refl
bytes_are (Skip n) = refl
bytes_are (Branch a) = refl
bytes_are (BranchIndexed b x) = refl
bytes_are (SkipBy b) = refl
bytes_are (Call a) = refl
bytes_are Return = refl
bytes_are (KeepStack b) = refl
bytes_are RestoreStack = refl

to_small : (y : Target) → target_bytes y ≤ 2
to_small (ToRegister b) = omega arith
to_small _ = omega arith

-- a form has at most three words
pub form_small : (m : Form) → form_bytes m ≤ 6
form_small (Move x y) = omega (arith, from_small x, to_small y)
form_small (Calculate op x b) = omega (arith, from_small x)
form_small (Compare x a) = omega (arith, from_small x)
form_small (Update op x a) = omega (arith, from_small x)
form_small (Push x) = omega (arith, from_small x)
form_small (Modify m b) = omega arith
form_small (SetStack n) = omega arith
form_small EnableInterrupts = omega arith
form_small (Sense b) = omega arith
form_small (Jump c o) = omega arith
form_small (Skip n) = omega arith
form_small (Branch a) = omega arith
form_small (BranchIndexed b x) = omega arith
form_small (SkipBy b) = omega arith
form_small (Call a) = omega arith
form_small Return = omega arith
form_small (KeepStack b) = omega arith
form_small RestoreStack = omega arith

encoding_some : (i : Instr) → 0 < length (encoding i)
encoding_some i = grind arith

-- the first part of the words stands where both do
pub holds_front : (f : ℕ → ℕ) (p : ℕ) (a b : List ℕ) → Holds f p (a ++ b) → Holds f p a
holds_front f p [] b h = tt
holds_front f p (w ∷ a) b h = (h.0, holds_front f (p + 2) a b h.1)

-- the second part of the words stands behind the first
pub holds_back : (f : ℕ → ℕ) (p : ℕ) (a b : List ℕ) → Holds f p (a ++ b) → Holds f (p + 2 * length a) b
holds_back f p [] b h = let e : p ≡ p + 2 * 0 = omega arith in subst (λ n. Holds f n b) e h
holds_back f p (w ∷ a) b h =
    let e : p + 2 + 2 * length a ≡ p + 2 * suc (length a) = omega arith in
    subst (λ n. Holds f n b) e (holds_back f (p + 2) a b h.1)

-- an even address of FRAM is a word's
pub fram_word : (a : ℕ) → a % 2 ≡ 0 → 0x4400 ≤ a → a < 0x10000 → is_word a ≡ true
fram_word a e l h = grind (arith, nat_tests)

-- an address of FRAM is none of RAM
pub fram_no_ram : (a : ℕ) → 0x4400 ≤ a → is_ram a ≡ false
fram_no_ram a l = grind (arith, nat_tests)

-- words of FRAM are fetched
fetched_word : (s : MachineBoard) (p w : ℕ) → p % 2 ≡ 0 → 0x4400 ≤ p → p < 0x10000 → s.fram p ≡ w → machine_fetched (machine_opened s) p ≡ Some w
fetched_word s p w e l h is =
    let a = fram_word p e l h in
    let b = fram_no_ram p l in
    let c : word_address p ≡ p = omega arith in
    ap (λ x. cond x (Some (cond (is_ram p) (unwrap_or (s.ram (word_address p)) 0) (s.fram (word_address p)))) None) a
    ∙ ap (λ x. Some (cond x (unwrap_or (s.ram (word_address p)) 0) (s.fram (word_address p)))) b
    ∙ ap (λ x. Some (s.fram x)) c
    ∙ ap Some is

fetched : (s : MachineBoard) (p : ℕ) (ws : List ℕ) → p % 2 ≡ 0 → 0x4400 ≤ p → p + 2 * length ws < 0x10000 → Holds s.fram p ws
    → FetchedAt machine_bus (machine_opened s) p ws
fetched s p [] e l b h = tt
fetched s p (w ∷ ws) e l b h =
    let n : word_sum p 2 ≡ p + 2 = omega (arith, b) in (
      fetched_word s p w e l (omega (arith, b)) h.0,
      subst (λ q. FetchedAt machine_bus (machine_opened s) q ws) (sym n)
          (fetched s (p + 2) ws (omega arith) (omega arith) (omega (arith, b)) h.1),
    )

-- the instruction at an address of the list stands there
pub placed_next : (s : MachineBoard) (is : List Instr) (p a : ℕ) (i : Instr) → AreInstructions is → p % 2 ≡ 0 → 0x4400 ≤ p
    → p + 2 * length (words_of is) < 0x10000 → Holds s.fram p (words_of is) → placed_at p is a ≡ Some i
    → IsInstruction i × FetchedAt machine_bus (machine_opened s) a (encoding i)
placed_next s [] p a i are e l b h q = cc
placed_next s (j ∷ is) p a i are e l b h q =
    let long : length (words_of (j ∷ is)) ≡ length (encoding j) + length (words_of is) = length-append (encoding j) (words_of is) in
    let Is : Instr → Type 0 = λ x. IsInstruction x × FetchedAt machine_bus (machine_opened s) a (encoding x) in
    (elim (a == p) as (λ x. (a == p) ≡ x → cond x (Some j) (placed_at (p + 2 * length (encoding j)) is a) ≡ Some i
    → IsInstruction i × FetchedAt machine_bus (machine_opened s) a (encoding i)) [
      | true ↦ λ t k.
          let at : a ≡ p = eqb-true a p t in
          let same : j ≡ i = cc in
          subst Is same (
            are.0,
            subst (λ x. FetchedAt machine_bus (machine_opened s) x (encoding j)) (sym at)
                (fetched s p (encoding j) e l (omega (arith, b, long)) (holds_front s.fram p (encoding j) (words_of is) h)),
          )
      | false ↦ λ t k. placed_next s is (p + 2 * length (encoding j)) a i are.1 (omega arith) (omega arith) (omega (arith, b, long))
          (holds_back s.fram p (encoding j) (words_of is) h) k
    ]) refl q

holds_put : (f : ℕ → ℕ) (p a w : ℕ) (ws : List ℕ) → (a < p) ⊎ (p + 2 * length ws ≤ a) → Holds f p ws → Holds (put f a w) p ws
holds_put f p a w [] out h = tt
holds_put f p a w (v ∷ ws) out h =
    let ne : p ≡ a → ⊥ = λ e. ⊎_elim {C = ⊥} (λ x. omega arith) (λ x. omega arith) out in
    let further : (a < p + 2) ⊎ (p + 2 + 2 * length ws ≤ a) =
    ⊎_elim {C = (a < p + 2) ⊎ (p + 2 + 2 * length ws ≤ a)} (λ x. inl (omega arith)) (λ x. inr (omega arith)) out in
    (ap (λ b. cond b w (f p)) (ne_eqb p a ne) ∙ h.0, holds_put f (p + 2) a w ws further h.1)

holds_store : (f : ℕ → ℕ) (p : ℕ) (ws : List ℕ) (e : Effect) → OfStore (IsOutside p (length ws)) e → Holds f p ws → Holds (fram_after_one e f) p ws
holds_store f p ws (Store a w) s h = holds_put f p a w ws s h
holds_store f p ws (Take w) s h = h
holds_store f p ws (Outside o) s h = h

-- words on which no store falls stay
pub holds_stores : (es : List Effect) (f : ℕ → ℕ) (p : ℕ) (ws : List ℕ) → EachStore (IsOutside p (length ws)) es → Holds f p ws → Holds (fram_after es f) p ws
holds_stores [] f p ws s h = h
holds_stores (e ∷ es) f p ws s h = holds_stores es (fram_after_one e f) p ws s.1 (holds_store f p ws e s.0 h)

-- what isn't astray is as it is
undisturbed_goes : (events b : Bool) (s t : MachineBoard) (es : List Effect) (c : ℕ) → is_exposed events s t ≡ b
    → IsNoHole (undisturbed events s (Goes es c t)) → undisturbed events s (Goes es c t) ≡ Goes es c t
undisturbed_goes events true s t es c e hole = absurd (hole [] 0 _ _ (ap (λ b. if b then Stops [] 0 (astray s) else Goes es c t) e))
undisturbed_goes events false s t es c e hole = ap (λ b. if b then Stops [] 0 (astray s) else Goes es c t) e

undisturbed_is : (events : Bool) (s : MachineBoard) (o : MachineOutcome) → IsNoHole (undisturbed events s o) → undisturbed events s o ≡ o
undisturbed_is events s (Goes es c t) hole = undisturbed_goes events (is_exposed events s t) s t es c refl hole
undisturbed_is events s (Stops es price e) hole = refl

if_off : (n : ℕ) (o : MachineOutcome) → n ≡ 1 → Stops [] 0 stop.Off ≡ (if n == 1 then Stops [] 0 stop.Off else o)
if_off n o e = rw e refl

if_on : (n : ℕ) (o : MachineOutcome) → n ≡ 0 → (if n == 1 then Stops [] 0 stop.Off else o) ≡ o
if_on n o e = rw e refl

module _ (p : ℕ) (is : List Instr) (are : AreInstructions is) (even : p % 2 ≡ 0) (low : 0x4400 ≤ p) (high : p + 2 * length (words_of is) < 0x10000) where
  abbrev there : ℕ → Option Instr
  there = placed_at p is

  -- the instruction of the code is the machine's
  standing_at : (s : MachineBoard) (i : Instr) → Holds s.fram p (words_of is) → there (s.registers 0) ≡ Some i → off_bit s.registers ≡ 0
      → IsCurrentInstruction machine_bus s.registers (machine_opened s) i
  standing_at s i h e on = let k = placed_next s is p (s.registers 0) i are even low high h e in record { on = on; is = k.0; fetched = k.1 }

  stopped_at : (s : MachineBoard) (q : Option Instr) (e : Stop) → off_bit s.registers ≡ 0 → IsStopped machine_bus s.registers (machine_opened s) e
      → Holds s.fram p (words_of is) → there (s.registers 0) ≡ q → IsNoHole (step_with q s) → ⊥
  stopped_at s None e on k h t hole = hole [] 0 _ _ (if_on (off_bit s.registers) _ on)
  stopped_at s (Some i) e on k h t hole = not_stopped machine_bus s.registers (machine_opened s) e i k (standing_at s i h t on)

  executes_at : (s : MachineBoard) (q : Option Instr) (i : Instr) → IsCurrentInstruction machine_bus s.registers (machine_opened s) i
      → Holds s.fram p (words_of is) → there (s.registers 0) ≡ q → IsNoHole (step_with q s) → program_executed s i ≡ step_with q s
  executes_at s None i c h t hole = absurd (hole [] 0 _ _ (if_on (off_bit s.registers) _ c.on))
  executes_at s (Some j) i c h t hole =
      ap (λ x. program_executed s x) (same_current machine_bus s.registers (machine_opened s) i j c (standing_at s j h t c.on))
      ∙ sym (if_on (off_bit s.registers) (program_executed s j) c.on)

  none_at : (s : MachineBoard) (q : Option Instr) (e : Stop) → IsStopped machine_bus s.registers (machine_opened s) e → Holds s.fram p (words_of is)
      → there (s.registers 0) ≡ q → IsNoHole (step_with q s) → Stops [] 0 e ≡ step_with q s
  none_at s q stop.Off k h t hole = if_off (off_bit s.registers) _ k
  none_at s q (stop.Illegal at w) k h t hole = absurd (stopped_at s q (stop.Illegal at w) k.0 k h t hole)
  none_at s q (stop.Bus at a) k h t hole = absurd (stopped_at s q (stop.Bus at a) k.0 k h t hole)
  none_at s q stop.NoReading k h t hole = absurd k

  step_as : (s : MachineBoard) (o : MachineOutcome) → IsProgramStep s o → Holds s.fram p (words_of is)
      → IsNoHole (step_with (there (s.registers 0)) s)
      → o ≡ step_with (there (s.registers 0)) s
  step_as s o (NoInstruction e k) h hole = none_at s (there (s.registers 0)) e k h refl hole
  step_as s o (Executes i c) h hole = executes_at s (there (s.registers 0)) i c h refl hole

  -- a step of the machine is a step of the code that stays
  step_is : (events : Bool) (s : MachineBoard) (o : MachineOutcome) → IsProgramStep s o → Holds s.fram p (words_of is)
      → IsNoHole (exec (placed events p is) s) → o ≡ exec (placed events p is) s
  step_is events s o is_step h hole =
      let same = undisturbed_is events s (step_with (there (s.registers 0)) s) hole in
      step_as s o is_step h (subst IsNoHole same hole) ∙ sym same

-- code that stands in FRAM is executed as it stands
pub code_in_fram_steps : CodeInFramSteps
code_in_fram_steps events p is s o are even low high is_step h hole = step_is p is are even low high events s o is_step h hole

-- instructions stand at even addresses, within their bytes
pub placed_within : (is : List Instr) (q : ℕ) → q % 2 ≡ 0 → (a : ℕ) (i : Instr) → placed_at q is a ≡ Some i
    → (a % 2 ≡ 0) × (q ≤ a) × (a < q + 2 * length (words_of is))
placed_within [] q e a i h = cc
placed_within (j ∷ is) q e a i h =
    let long : length (words_of (j ∷ is)) ≡ length (encoding j) + length (words_of is) = length-append (encoding j) (words_of is) in
    let some = encoding_some j in
    (elim (a == q) as (λ x. (a == q) ≡ x → cond x (Some j) (placed_at (q + 2 * length (encoding j)) is a) ≡ Some i → (a % 2 ≡ 0) × (q ≤ a) ×
    (a < q + 2 * length (words_of (j ∷ is)))) [
      | true ↦ λ t k. let at : a ≡ q = eqb-true a q t in (omega arith, omega arith, omega (arith, long))
      | false ↦ λ t k. let r = placed_within is (q + 2 * length (encoding j)) (omega arith) a i k in let r0 = r.0 in let r1 = r.1 in let r2 = r.2 in
          (r0, omega arith, omega (arith, long))
    ]) refl h

-- code that is placed is tidy
pub placed_is_tidy : PlacedIsTidy
placed_is_tidy events is p e b a i h = let r = placed_within is p e a i h in let r0 = r.0 in let r2 = r.2 in record { even = r0; high = omega arith }

behind : (i : Instr) (is : List Instr) (p a : ℕ) → p < a → placed_at p (i ∷ is) a ≡ placed_at (p + 2 * length (encoding i)) is a
behind i is p a l = ap (λ b. cond b (Some i) (placed_at (p + 2 * length (encoding i)) is a)) (ne_eqb a p (λ e. omega arith))

stands_behind : (events : Bool) (ms : List Form) (q : ℕ) (i : Instr) (is : List Instr) (p : ℕ) → p < q
    → Stands (placed events (p + 2 * length (encoding i)) is) q ms → Stands (placed events p (i ∷ is)) q ms
stands_behind events [] q i is p l h = tt
stands_behind events (m ∷ ms) q i is p l h = (behind i is p q l ∙ h.0, stands_behind events ms (q + form_bytes m) i is p (omega arith) h.1)

-- the forms stand where they are placed
pub forms_stand : FormsStandWherePlaced
forms_stand events [] p = tt
forms_stand events (m ∷ ms) p =
    let some = encoding_some (instruction_of m) in
    let are = bytes_are m in
    let e : p + 2 * length (encoding (instruction_of m)) ≡ p + form_bytes m = omega arith in (
      ap (λ b. cond b (Some (instruction_of m)) (placed_at (p + 2 * length (encoding (instruction_of m))) (instructions ms) p)) (eq-eqb p p refl),
      stands_behind events ms (p + form_bytes m) (instruction_of m) (instructions ms) p (omega arith)
          (subst (λ q. Stands (placed events q (instructions ms)) (p + form_bytes m) ms) (sym e) (forms_stand events ms (p + form_bytes m))),
    )

-- the bytes of forms behind forms
pub forms_bytes-append : (a b : List Form) → forms_bytes (a ++ b) ≡ forms_bytes a + forms_bytes b
forms_bytes-append [] b = omega arith
forms_bytes-append (m ∷ a) b = omega (arith, forms_bytes-append a b)

-- the instructions of forms behind forms
pub instructions-append : (a b : List Form) → instructions (a ++ b) ≡ instructions a ++ instructions b
instructions-append [] b = refl
instructions-append (m ∷ a) b = ap (λ l. instruction_of m ∷ l) (instructions-append a b)

-- forms stand where the counter points
pub stands_at : (code : Code) (p : ℕ) (ms : List Form) (u : Core) → Stands code p ms → u.pc ≡ p → Stands code u.pc ms
stands_at code p ms u h e = subst (λ n. Stands code n ms) (sym e) h
