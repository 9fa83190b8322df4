-- The ladder and the stubs, whatever is done in them.
use Rattle.std.proofs.Common.{◌≡◌, ℕ, zero, suc, ◌+◌, ◌*◌, ◌%◌, ◌<◌, ◌≤◌, List, [], ◌∷◌, length, get_or, Some, refl, sym, ap, ◌∙◌, subst, arith, Bool, true}
use Rattle.std.proofs.Common.{false}
use Rattle.std.proofs.Common.{append-nil}
use Rattle.std.specs.List.{All}
use Rattle.std.proofs.lemmas.List.Elements.{All-head, All-tail, All-get_or}
use Rattle.code_forms.specs.alp_words.declared.Width.TheVariants.{Word}
use Rattle.code_forms.specs.alp_words.Words.{sum_of}
use Rattle.runtime_effects.specs.fram_board.Effects.{Effect}
use Rattle.runtime_effects.specs.machine_effects.Inputs.{Inputs}
use Rattle.runtime_effects.specs.machine_effects.World.{fram_after}
use Rattle.runtime_effects.specs.machine_effects.Machine.{Code, IsPlace}
use Rattle.runtime_effects.specs.memory_map.declared.words.RuntimeWord.TheVariants.{CurrentTask}
use Rattle.runtime_effects.specs.memory_map.MemoryMap.{MemoryMap, word_place}
use Rattle.code_forms.specs.Forms.{Core, Form, Branch, SkipBy, R4, instruction_of}
use Rattle.code_forms.specs.Code.{Stands, IsTidy, forms_bytes, anywhere}
use Rattle.code_forms.proofs.Interface.{stands_front, stands_back, form_comes, comes_on}
use Rattle.runtime_code.specs.Addresses.{stack_top}
use Rattle.runtime_code.specs.Comes.{Comes, IsAt, Enters}
use Rattle.runtime_code.specs.Counted.{if_any}
use Rattle.runtime_code.specs.Ladder.{task_found, dispatch, Rung, stub_with, stub_of, rung_with, ladder, all_stubs}
use Rattle.runtime_code.proofs.Sizes.{code_bytes}
use Rattle.runtime_code.proofs.Chains.{behind, core_at, from_there, then_on, so_ends, recounted, straight}

-- the rung of a task by its number; behind the last one nothing is done
abbrev pub rung_in : List Rung → ℕ → Rung
rung_in ss k = get_or ss k (record { body = []; bytes = 0; code = 0 })

-- where the stub of a task stands
abbrev pub stub_at : ℕ → List Rung → ℕ → ℕ
stub_at p [] k = p
stub_at p (s ∷ ss) zero = p
stub_at p (s ∷ ss) (suc k) = stub_at (p + s.bytes) ss k

-- where the rung of a task leads
abbrev pub rung_at : ℕ → List Rung → ℕ → ℕ
rung_at p ss k = let s = rung_in ss k in rung_with (stub_at p ss k) s.code s.body

-- a rung whose stub has its length, and whose task stands at an even address
pub record IsRung (s : Rung) : Type 0 where
  pub size : forms_bytes (stub_of s) ≡ s.bytes
  pub even : s.code % 2 ≡ 0

stub_is_even : (p : ℕ) (ss : List Rung) (k : ℕ) → p % 2 ≡ 0 → All IsRung ss → stub_at p ss k % 2 ≡ 0
stub_is_even p [] k e each = e
stub_is_even p (s ∷ ss) zero e each = e
stub_is_even p (s ∷ ss) (suc k) e each =
    let size = (All-head IsRung s ss each).size in
    let words = code_bytes (stub_of s) in
    stub_is_even (p + s.bytes) ss k (omega (arith, e, size, words)) (All-tail IsRung s ss each)

rung_even : (stub code : ℕ) (body : List Form) → stub % 2 ≡ 0 → code % 2 ≡ 0 → rung_with stub code body % 2 ≡ 0
rung_even stub code [] s c = c
rung_even stub code (m ∷ ms) s c = s

-- a task's rung of the ladder
rung_stands : (code : Code) (ss : List Rung) (p q k : ℕ) → Stands code p (ladder q ss) → k < length ss
    → code.at (p + 4 * k) ≡ Some (instruction_of (Branch (rung_at q ss k)))
rung_stands code [] p q k h l = absurd (omega (arith, l))
rung_stands code (s ∷ ss) p q zero h l = subst (λ x. code.at x ≡ Some (instruction_of (Branch (rung_with q s.code s.body)))) (omega arith) h.0
rung_stands code (s ∷ ss) p q (suc k) h l =
    subst (λ x. code.at x ≡ Some (instruction_of (Branch (rung_at (q + s.bytes) ss k)))) (omega arith)
    (rung_stands code ss (p + 4) (q + s.bytes) k h.1 (omega (arith, l)))

-- its stub stands at its place
stub_stands : (code : Code) (ss : List Rung) (p k : ℕ) → All IsRung ss → Stands code p (all_stubs ss) → k < length ss
    → Stands code (stub_at p ss k) (stub_of (rung_in ss k))
stub_stands code [] p k each h l = absurd (omega (arith, l))
stub_stands code (s ∷ ss) p zero each h l = stands_front code p (stub_of s) (all_stubs ss) h
stub_stands code (s ∷ ss) p (suc k) each h l =
    stub_stands code ss (p + s.bytes) k (All-tail IsRung s ss each)
    (subst (λ n. Stands code (p + n) (all_stubs ss)) (All-head IsRung s ss each).size (stands_back code p (stub_of s) (all_stubs ss) h)) (omega (arith, l))

-- a ladder has four bytes a task
pub ladder_bytes : (q : ℕ) (ss : List Rung) → forms_bytes (ladder q ss) ≡ 4 * length ss
ladder_bytes q [] = refl
ladder_bytes q (s ∷ ss) = let e = ladder_bytes (q + s.bytes) ss in omega (arith, e)

-- what is done in front of a task: on which FRAM and inputs, with what effects, in so many steps and cycles
pub record Deed : Type 0 where
  pub memory : ℕ → ℕ
  pub inputs : Inputs
  pub effects : List Effect
  pub steps : ℕ
  pub cycles : ℕ

-- code does it, wherever it stands, with SP where it is
abbrev pub Does : Code → ℕ → List Form → Deed → Type 0
Does code sp body d = (p : ℕ) (u : Core) → Stands code p body → Enters p sp d.memory d.inputs u
    → Comes code d.effects d.steps d.cycles u (Enters (p + forms_bytes body) sp (fram_after d.effects d.memory) d.inputs)

-- and the task is entered behind it
abbrev pub Entered : ℕ → Deed → ℕ → Core → Type 0
Entered sp d code u = Enters code sp (fram_after d.effects d.memory) d.inputs u

-- the dispatch stands at an address with the ladder right behind it, and the stubs at another
pub record HasLadder (code : Code) (m : MemoryMap) (p q : ℕ) (ss : List Rung) : Type 0 where
  pub dispatches : Stands code p (dispatch m)
  pub rungs : Stands code (p + 14) (ladder q ss)
  pub stubs : Stands code q (all_stubs ss)
  pub room : p + 14 + 4 * length ss < 0x10000
  pub even : q % 2 ≡ 0
  pub each : All IsRung ss
  pub current : IsPlace (word_place m CurrentTask)
  pub events : code.events ≡ m.runtime.events

module _ (code : Code) (tidy : IsTidy code) where
  -- to where the rung of the task that CUR names leads
  dispatched : (m : MemoryMap) (p q : ℕ) (ss : List Rung) (f : ℕ → ℕ) (l : Inputs) (u : Core) → HasLadder code m p q ss → IsAt p f l u
      → f (word_place m CurrentTask) < length ss
      → Comes code [] 6 12 u (Enters (rung_at q ss (f (word_place m CurrentTask))) stack_top f l)
  dispatched m p q ss f l u h at named =
      let k = f (word_place m CurrentTask) in
      let s = core_at p f l u in
      let found = behind (task_found m) s in
      let sum = sum_of Word (found.pc + 2) (found.work 4) false in
      let skipped : Core = record found { pc = sum.0; flags = sum.1 } in
      let to = rung_at q ss k in
      let room = h.room in
      let far : found.work 4 ≡ 4 * k = omega (arith, named, room) in
      let there : skipped.pc ≡ p + 14 + 4 * k = omega (arith, far, named, room) in
      let even = rung_even (stub_at q ss k) (rung_in ss k).code (rung_in ss k).body (stub_is_even q ss k h.even h.each)
      (All-get_or IsRung ss k (record { body = []; bytes = 0; code = 0 }) named h.each).even in
      from_there u at (then_on
      (straight code tidy (task_found m) s (tt, (tt, (tt, (tt, tt)))) (stands_front code p (task_found m) (SkipBy R4 ∷ []) h.dispatches) (
        (refl, λ e. record { low = omega arith; high = omega arith }, (omega arith, omega arith)),
        ((h.current, tt), ((tt, tt), ((tt, tt), tt))),
      ) refl)
      (then_on (form_comes (anywhere code) tidy (SkipBy R4) found skipped [] 2 (λ v. v ≡ skipped) h.dispatches.1.1.1.1.0 (omega (arith, far)) refl refl)
      (form_comes (anywhere code) tidy (Branch to) skipped (record skipped { pc = to }) [] 3 (Enters to stack_top f l)
      (ap code.at there ∙ rung_stands code ss (p + 14) q k h.rungs named) even refl (record { pc = refl; sp = refl; fram = refl; inputs = refl }))))

  -- from where a rung leads to the task's code, through its stub where it has one
  entered : (body : List Form) (stub to sp : ℕ) (d : Deed) (u : Core) → to % 2 ≡ 0 → Stands code stub (stub_with to body) → Does code sp body d
      → Enters (rung_with stub to body) sp d.memory d.inputs u
      → Comes code d.effects (d.steps + if_any (length body) 1) (d.cycles + if_any (length body) 3) u (Entered sp d to)
  entered [] stub to sp d u even h does at =
      recounted (omega arith) (omega arith) (so_ends (does to u tt at) (λ v k. record { pc = k.pc ∙ omega arith; sp = k.sp; fram = k.fram; inputs = k.inputs }))
  entered (m ∷ ms) stub to sp d u even h does at =
      let leaves : (v : Core) → Entered sp d (stub + forms_bytes (m ∷ ms)) v → Comes code [] 1 3 v (Entered sp d to) = λ v k.
      form_comes (anywhere code) tidy (Branch to) v (record v { pc = to }) [] 3 (Entered sp d to)
      (ap code.at k.pc ∙ (stands_back code stub (m ∷ ms) (Branch to ∷ []) h).0) even refl (record { pc = refl; sp = k.sp; fram = k.fram; inputs = k.inputs }) in
      subst (λ x. Comes code x (d.steps + 1) (d.cycles + 3) u (Entered sp d to)) (append-nil d.effects)
      (comes_on (does stub u (stands_front code stub (m ∷ ms) (Branch to ∷ []) h) at) leaves)

  -- from the dispatch to the code of the task that CUR names
  pub to_task : (m : MemoryMap) (p q : ℕ) (ss : List Rung) (s : Rung) (d : Deed) (u : Core) → HasLadder code m p q ss → IsAt p d.memory d.inputs u
      → d.memory (word_place m CurrentTask) < length ss → rung_in ss (d.memory (word_place m CurrentTask)) ≡ s
      → Does code stack_top s.body d
      → Comes code d.effects (6 + (d.steps + if_any (length s.body) 1)) (12 + (d.cycles + if_any (length s.body) 3)) u
      (Entered stack_top d s.code)
  to_task m p q ss s d u h at named is does =
      let k = d.memory (word_place m CurrentTask) in
      let t = rung_in ss k in
      let even = (All-get_or IsRung ss k (record { body = []; bytes = 0; code = 0 }) named h.each).even in
      let sp = stack_top in
      subst (λ r. Comes code d.effects (6 + (d.steps + if_any (length r.body) 1)) (12 + (d.cycles + if_any (length r.body) 3)) u (Entered sp d r.code)) is
      (comes_on (dispatched m p q ss d.memory d.inputs u h at named)
      (λ v e. entered t.body (stub_at q ss k) t.code sp d v even (stub_stands code ss q k h.each h.stubs named)
      (subst (λ r. Does code sp r.body d) (sym is) does) e))
