-- Registers with words, straight code on them, and jumps.
use Rattle.word_code.proofs.Names.{sym, subst, Option, ◌≡◌, ℕ, ◌+◌, ◌-◌, ◌%◌, ◌<◌, ◌==◌, List, [], ◌∷◌, Some, refl, ap, ap₂, ◌∙◌, arith, Bool, false, nat_le}
use Rattle.word_code.proofs.Names.{if◌then◌else◌, Flags, Effect, stretch, At, FormsNeed, AreStraight, forms_run, end_of, stands_at, work_number, WorkRegister}
use Rattle.word_code.proofs.Names.{bytes_are, nat_tests, Word, sum_of, Condition, sum16, distance, is_met, Core, Form, Jump, Skip, instruction_of, Stands}
use Rattle.word_code.proofs.Names.{forms_bytes, Runs, WordState, Inputs, rules_of}
use Rattle.word_code.proofs.Memory.{Memory, local_words}
use Rattle.word_code.proofs.Stretches.{straight, hop, so_runs, Setting}
use Rattle.word_code.proofs.Follows.{StandsFor, stands_elsewhere}

-- forms are of whole words
pub bytes_even : (ms : List Form) → forms_bytes ms % 2 ≡ 0
bytes_even [] = refl
bytes_even (m ∷ ms) = omega (arith, bytes_are m, bytes_even ms)

pub no_borrow : (x y : ℕ) → x < 0x10000 → y < 0x10000 → nat_le 0x10000 (x + (0xFFFF - y) + 1) ≡ nat_le y x
no_borrow x y h k = grind (arith, nat_tests)

-- two words are equal where their difference is 0
pub equal_flag : (x y : ℕ) → x < 0x10000 → y < 0x10000 → ((x + (0xFFFF - y) + 1) % 0x10000 == 0) ≡ (x == y)
equal_flag x y h k = grind (arith, nat_tests)

-- ---- what registers hold

-- a state of the machine, and what its registers hold
pub record With (S : Core → Type 0) (P : (ℕ → ℕ) → Type 0) (t : Core) : Type 0 where
  pub is : S t
  pub held : P t.work

-- a register holds this word
abbrev pub HasWord : WorkRegister → ℕ → (ℕ → ℕ) → Type 0
HasWord b v f = f (work_number b) ≡ v

-- R4 holds the left side, and R5 the right one
pub record HasSides (x y : ℕ) (f : ℕ → ℕ) : Type 0 where
  pub four : f 4 ≡ x
  pub five : f 5 ≡ y

abbrev pub IsZero : Bool → Flags → Type 0
IsZero b f = f.z ≡ b

abbrev pub IsCarry : Bool → Flags → Type 0
IsCarry b f = f.c ≡ b

-- what straight code that writes nothing but R4 to R7 leaves as it was
pub record Kept : Type 0 where
  pub sp : ℕ
  pub ram : ℕ → Option ℕ
  pub locals : List ℕ  -- the words of the locals in registers
  pub inputs : Inputs
  pub fram : ℕ → ℕ

-- the same of a machine
abbrev pub kept_by : Core → Kept
kept_by u = record { sp = u.sp; ram = u.ram; locals = local_words u.work; inputs = u.inputs; fram = u.fram }

module _ (z : Setting) where
  -- the machine stands for the state, and its registers hold such words
  abbrev pub Holds : ((ℕ → ℕ) → Type 0) → ℕ → WordState → Core → Type 0
  Holds P pc w = With (StandsFor z pc w) P

  abbrev pub Has : WorkRegister → ℕ → WordState → ℕ → Core → Type 0
  Has b pc w v = With (StandsFor z pc w) (HasWord b v)

  abbrev pub HasTwo : ℕ → WordState → ℕ → ℕ → Core → Type 0
  HasTwo pc w x y = With (StandsFor z pc w) (HasSides x y)

  -- besides, a fact of its flags
  pub record Flagged (P : (ℕ → ℕ) → Type 0) (F : Flags → Type 0) (pc : ℕ) (w : WordState) (t : Core) : Type 0 where
    pub all : With (StandsFor z pc w) P t
    pub flag : F t.flags

  module _ {pc : ℕ} {w : WordState} {t : Core} where
    -- straight code that writes R4 to R7 and words of FRAM
    pub store_line : (ms : List Form) (es : List Effect) (f : ℕ → ℕ) (c pc' : ℕ) (Q : Core → Type 0) → StandsFor z pc w t → AreStraight ms
        → Stands z.code pc ms → FormsNeed (rules_of z.kept) ms t → (let r = forms_run ms t in let v = end_of t r.status in r ≡ stretch r.effects c (At v)
        → kept_by (record v { fram = t.fram }) ≡ kept_by t → v.pc ≡ pc' → r.effects ≡ es → v.fram ≡ f
        → (StandsFor z pc' (record w { fram = f }) v → Q v) → Runs z.kept es c t Q)
    store_line ms es f c pc' Q i st h ok e k p made fram q =
        let r = forms_run ms t in
        let words = subst (λ x. Memory z x.sp x.ram x.locals w.stack w.locals) (sym k) i.memory in
        subst (λ l. Runs z.kept l c t Q) made
        (straight z ms c t (end_of t r.status) r.effects c Q st (stands_at z.code pc ms t h i.at) ok e (omega arith)
        (q (record { at = p; memory = words; fram = fram; inputs = ap (λ x. x.inputs) k ∙ i.inputs })))

    -- straight code that writes R4 to R7 alone
    pub line : (ms : List Form) (c pc' : ℕ) (Q : Core → Type 0) → StandsFor z pc w t → AreStraight ms → Stands z.code pc ms → FormsNeed (rules_of z.kept) ms t
        → (let v = end_of t (forms_run ms t).status in forms_run ms t ≡ stretch [] c (At v) → kept_by v ≡ kept_by t → v.pc ≡ pc'
        → (StandsFor z pc' w v → Q v) → Runs z.kept [] c t Q)
    line ms c pc' Q i st h ok e k p q =
        let words = subst (λ x. Memory z x.sp x.ram x.locals w.stack w.locals) (sym k) i.memory in
        straight z ms c t (end_of t (forms_run ms t).status) [] c Q st (stands_at z.code pc ms t h i.at) ok e (omega arith)
        (q (record { at = p; memory = words; fram = ap (λ x. x.fram) k ∙ i.fram; inputs = ap (λ x. x.inputs) k ∙ i.inputs }))

  -- ---- jumps

  -- an addition to PC
  pub skip_to : (n pc pc' : ℕ) (w : WordState) (t : Core) → z.code.at pc ≡ Some (instruction_of (Skip n)) → n % 2 ≡ 0 → (pc + 4 + n + 0) % 0x10000 ≡ pc'
      → StandsFor z pc w t → Runs z.kept [] 3 t (StandsFor z pc' w)
  skip_to n pc pc' w t h ev to i =
      let sum = sum_of Word (t.pc + 4) n false in
      hop z (Skip n) 3 t (record t { pc = sum.0; flags = sum.1 }) [] 3 _ (ap z.code.at i.at ∙ h) ev refl (omega arith)
      (stands_elsewhere z pc pc' w t _ i (ap (λ p. (p + 4 + n + 0) % 0x10000) i.at ∙ to) refl refl refl refl refl)

  -- a jump, with what the registers hold
  pub jump_with : {P : (ℕ → ℕ) → Type 0} {w : WordState} {t : Core} (k : Condition) (o pc pc' : ℕ) (b : Bool) → z.code.at pc ≡ Some (instruction_of (Jump k o))
      → is_met k t.flags ≡ b → (if b then sum16 (pc + 2) (distance o) else pc + 2) ≡ pc' → With (StandsFor z pc w) P t
      → Runs z.kept [] 2 t (With (StandsFor z pc' w) P)
  jump_with {P} {w} {t} k o pc pc' b h e to i =
      let p = i.is.at in
      hop z (Jump k o) 2 t (record t { pc = if is_met k t.flags then sum16 (t.pc + 2) (distance o) else t.pc + 2 }) [] 2 _ (ap z.code.at p ∙ h) tt refl
      (omega arith)
      (record {
        is = stands_elsewhere z pc pc' w t _ i.is (ap₂ (λ x q. if x then sum16 (q + 2) (distance o) else q + 2) e p ∙ to) refl refl refl refl refl;
        held = i.held;
      })

  -- with nothing of them
  pub jump_to : (k : Condition) (o pc pc' : ℕ) (b : Bool) (w : WordState) (t : Core) → z.code.at pc ≡ Some (instruction_of (Jump k o)) → is_met k t.flags ≡ b
      → (if b then sum16 (pc + 2) (distance o) else pc + 2) ≡ pc' → StandsFor z pc w t → Runs z.kept [] 2 t (StandsFor z pc' w)
  jump_to k o pc pc' b w t h e to i =
      so_runs (jump_with {P = λ f. Unit {0}} k o pc pc' b h e to (record { is = i; held = tt })) (λ s j. j.is)
