-- Operations on registers: what each leaves, and the steps that they are.
use Rattle.word_code.proofs.Names.{source_effects, if◌then◌else◌, ◌≤◌, IsNotMov, writes_destination, TwoOp, Bool, Calculate, Goes, Some, Source}
use Rattle.word_code.proofs.Names.{SourceNeeds, cycles_of, CodeRules, rules_of}
use Rattle.word_code.proofs.Names.{flags_after, instruction_of, put, source_bytes, source_cycles, source_operand, source_read, source_value, subst, sym}
use Rattle.word_code.proofs.Names.{to_register, true, work_number, ◌≡◌, ℕ, ◌+◌, ◌-◌, ◌%◌, ◌<◌, List, [], refl, ap, ap₂, ◌∙◌, arith, Flags, Word, operated}
use Rattle.word_code.proofs.Names.{WorkRegister, R4, R5, Core, Form, Stands, forms_bytes, Runs, Negate, Complement, PlainOperation, Add, Subtract, Plain}
use Rattle.word_code.proofs.Names.{unary_word, plain_word, binary_word, WordState, unary_middle, plain_instruction, binary_middle}
use Rattle.word_code.proofs.Stretches.{hop, Setting}
use Rattle.word_code.proofs.Registers.{Has, HasTwo, line}

-- what the instruction of an operation makes of two words
pub makes : (o : PlainOperation) (x y : ℕ) (f : Flags) → x < 0x10000 → y < 0x10000 → (operated (plain_instruction o) Word x y f).value ≡ plain_word o x y
makes Add x y f h k = omega arith
makes Subtract x y f h k = omega arith
makes _ x y f h k = refl

-- the instruction reads its destination and writes it; of each operation alike: the first clause makes it a proof by cases
pub plain_needs : (o : PlainOperation) → IsNotMov (plain_instruction o) × (writes_destination (plain_instruction o) ≡ true)
plain_needs Add = (tt, refl)
plain_needs _ = (tt, refl)

-- an operation reads these words in a register and from a source, and the machine is left so
pub record IsRead (rules : CodeRules) (x : Source) (b : WorkRegister) (l r : ℕ) (t s : Core) : Type 0 where
  pub needs : SourceNeeds rules x t
  pub quiet : source_effects x t ≡ []
  pub still : source_read x t ≡ s
  pub left : s.work (work_number b) ≡ l
  pub right : source_value x t ≡ r

module _ (z : Setting) where
  module _ (o : TwoOp) (x : Source) (b : WorkRegister) (c : ℕ) where
    -- an operation on a register: its value is written or not, and its flags are
    pub calculate : {l r : ℕ} {t : Core} (s : Core) (writes : Bool) (P : Core → Type 0) → IsNotMov o
        → writes_destination o ≡ writes → source_cycles to_register (source_operand x) ≤ c → z.code.at t.pc ≡ Some (instruction_of (Calculate o x b))
        → IsRead (rules_of z.kept) x b l r t s → (let does = operated o Word l r t.flags in P (record s {
          pc = t.pc + (2 + source_bytes x);
          flags = flags_after does.flags s.flags;
          work = if writes then put s.work (work_number b) does.value else s.work;
        })) → Runs z.kept [] c t P
    calculate {l} {r} {t} s writes P reads e price h k p =
        let n = work_number b in
        let cost = cycles_of (instruction_of (Calculate o x b)) in
        let after : Bool → Core → ℕ → ℕ → Core = λ d q i j. let does = operated o Word i j t.flags in
        record q { pc = t.pc + (2 + source_bytes x); flags = flags_after does.flags q.flags; work = if d then put q.work n does.value else q.work } in
        hop z (Calculate o x b) c t (after writes s l r) [] cost P h (reads, k.needs)
        (ap (λ es. Goes es cost (let q = source_read x t in after (writes_destination o) q (q.work n) (source_value x t))) k.quiet
        ∙ ap (λ q. Goes [] cost (after (writes_destination o) q (q.work n) (source_value x t))) k.still
        ∙ ap₂ (λ i j. Goes [] cost (after (writes_destination o) s i j)) k.left k.right ∙ ap (λ d. Goes [] cost (after d s l r)) e) price p

  module _ (o : PlainOperation) (x : Source) (b : WorkRegister) (c : ℕ) where
    -- what an operation makes of the two is written
    pub plain_step : {l r : ℕ} {t : Core} (s : Core) (P : Core → Type 0) → l < 0x10000
        → r < 0x10000 → source_cycles to_register (source_operand x) ≤ c → z.code.at t.pc ≡ Some (instruction_of (Calculate (plain_instruction o) x b))
        → IsRead (rules_of z.kept) x b l r t s → ((f : Flags) → P (record s {
          pc = t.pc + (2 + source_bytes x);
          flags = f;
          work = put s.work (work_number b) (plain_word o l r);
        })) → Runs z.kept [] c t P
    plain_step {l} {r} {t} s P ll lr price h k p =
        let needs = plain_needs o in
        let f = flags_after (operated (plain_instruction o) Word l r t.flags).flags s.flags in
        calculate (plain_instruction o) x b c s true P needs.0 needs.1 price h k
        (subst (λ v. P (record s { pc = t.pc + (2 + source_bytes x); flags = f; work = put s.work (work_number b) v })) (sym (makes o l r t.flags ll lr)) (p f))

  -- what forms leave of the values in R4 and R5
  abbrev pub BinaryMiddle : List Form → WorkRegister → ℕ → (ℕ → ℕ → ℕ) → Type 0
  BinaryMiddle ms b c f = (pc x y : ℕ) (w : WordState) (t : Core) → x < 0x10000 → y < 0x10000 → Stands z.code pc ms → HasTwo z pc w x y t
      → Runs z.kept [] c t (Has z b (pc + forms_bytes ms) w (f x y))

  -- the same of the value in R5
  abbrev pub UnaryMiddle : List Form → ℕ → (ℕ → ℕ) → Type 0
  UnaryMiddle ms c f = (pc y : ℕ) (w : WordState) (t : Core) → y < 0x10000 → Stands z.code pc ms → Has z R5 pc w y t
      → Runs z.kept [] c t (Has z R4 (pc + forms_bytes ms) w (f y))

  -- what it makes of R4 and R5
  made : (o : PlainOperation) (pc x y : ℕ) (w : WordState) (t : Core) → x < 0x10000 → y < 0x10000 → HasTwo z pc w x y t
      → (operated (plain_instruction o) Word (t.work 4) (t.work 5) t.flags).value ≡ plain_word o x y
  made o pc x y w t a b k =
      ap₂ (λ p q. (operated (plain_instruction o) Word p q t.flags).value) k.held.four k.held.five ∙ makes o x y t.flags a b

  -- of each operation alike: the first clause makes it a proof by cases
  pub plain_middle : (o : PlainOperation) → BinaryMiddle (binary_middle (Plain o)) R4 1 (binary_word (Plain o))
  plain_middle Add pc x y w t a b h k =
      line z (binary_middle (Plain Add)) 1 (pc + 2) _ k.is (tt, tt) h ((tt, tt), tt) refl refl (omega (arith, k.is.at))
      (λ s. record { is = s; held = made Add pc x y w t a b k })
  plain_middle o pc x y w t a b h k =
      line z (binary_middle (Plain o)) 1 (pc + 2) _ k.is (tt, tt) h ((tt, tt), tt) refl refl (omega (arith, k.is.at))
      (λ s. record { is = s; held = made o pc x y w t a b k })

  pub negate_middle : UnaryMiddle (unary_middle Negate) 2 (unary_word Negate)
  negate_middle pc y w t b h k =
      line z (unary_middle Negate) 2 (pc + 4) _ k.is (tt, (tt, tt)) h ((tt, tt), ((tt, tt), tt)) refl refl (omega (arith, k.is.at))
      (λ s. record { is = s; held = ap (λ q. (0 + (0xFFFF - q) + 1) % 0x10000) k.held ∙ omega arith })

  pub complement_middle : UnaryMiddle (unary_middle Complement) 2 (unary_word Complement)
  complement_middle pc y w t b h k =
      line z (unary_middle Complement) 2 (pc + 4) _ k.is (tt, (tt, tt)) h ((tt, tt), ((tt, tt), tt)) refl refl (omega (arith, k.is.at))
      (λ s. record { is = s; held = ap (λ q. (0xFFFF + (0xFFFF - q) + 1) % 0x10000) k.held ∙ omega arith })
