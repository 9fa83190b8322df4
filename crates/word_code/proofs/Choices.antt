-- Tests: where the code goes on.
use Rattle.word_code.specs.Code.{is_turned, compare_source}
use Rattle.word_code.proofs.Names.{Option, Waiting, right_source, stays, Source, Register, R5, WorkRegister, flags_after, operated, source_bytes, source_cycles}
use Rattle.word_code.proofs.Names.{to_register, source_operand, TwoOp, IsNotMov, writes_destination, ◌≤◌, form_bytes, ◌≡◌, ℕ, ◌+◌, ◌*◌, ◌%◌, ◌<◌, ◌==◌, not, []}
use Rattle.word_code.proofs.Names.{◌∷◌, Some, refl, sym, ap, ap₂, ◌∙◌, subst, arith, Bool, true, false, if◌then◌else◌, not-not, Flags, Word, Condition, is_met}
use Rattle.word_code.proofs.Names.{R4, Core, Constant, Form, Calculate, instruction_of, Stands, forms_bytes, Runs, Comparison, Above, SignedAbove, CommonBit}
use Rattle.word_code.proofs.Names.{List, ◌++◌, stands_back, forms_bytes-append, is_true, compare_words, WordState, Behaviour, compare_form, holding}
use Rattle.word_code.proofs.Names.{failing, jump_over, decision, rules_of}
use Rattle.word_code.proofs.Middles.{IsRead, calculate}
use Rattle.word_code.proofs.Follows.{stands_elsewhere, StandsFor, Follows, then_end}
use Rattle.word_code.proofs.Registers.{Holds, Has, line, equal_flag}
use Rattle.word_code.proofs.Sides.{Aiming, is_read, reading_cycles, reading_price, compare_stays}
use Rattle.array_versions.specs.msp_step.msp_isa.declared.instructions.Condition.TheVariants as condition
use Rattle.array_versions.specs.msp_step.msp_isa.declared.instructions.TwoOp.TheVariants as op
use Rattle.array_versions.specs.msp_step.msp_isa.declared.operands.Konst.TheVariants as konst
use Rattle.word_code.proofs.Stretches.{Setting, runs_on, so_runs}
use Rattle.word_code.proofs.Jumps.{stands_low, Decided, over_part}
use Rattle.word_code.proofs.Values.{difference_flags, compared_flags, compare_met, failing_met}

-- where a test goes on, where it holds and where it fails: at one of the two, as the flag says, it goes over so many words behind it, and what it goes over
-- ends below 10000
pub record Fork (when : Bool) (d holds_at fails_at behind : ℕ) : Type 0 where
  pub holds : (if when then behind + 2 * d else behind) ≡ holds_at
  pub fails : (if when then behind else behind + 2 * d) ≡ fails_at
  pub room : behind < 0x10000 → behind + 2 * d < 0x10000

pub fork_at : (when : Bool) (d holds_at fails_at a b : ℕ) → a ≡ b → Fork when d holds_at fails_at a → Fork when d holds_at fails_at b
fork_at when d holds_at fails_at a b e k = subst (Fork when d holds_at fails_at) e k

pub fork_turned : (when : Bool) (d holds_at fails_at behind : ℕ) → Fork when d holds_at fails_at behind → Fork (not when) d fails_at holds_at behind
fork_turned true d holds_at fails_at behind k = record { holds = k.fails; fails = k.holds; room = k.room }
fork_turned false d holds_at fails_at behind k = record { holds = k.fails; fails = k.holds; room = k.room }

-- the first of two parts that both have to hold: where it fails it goes over the second part, and on as both do where they fail
pub fork_both : (when : Bool) (d n holds_at fails_at middle : ℕ) → (middle < 0x10000 → middle + 2 * n < 0x10000)
    → Fork when d holds_at fails_at (middle + 2 * n) → Fork false (n + (if not when then d else 0)) middle fails_at middle
fork_both true d n holds_at fails_at middle l k = record { holds = refl; fails = omega (arith, k.fails); room = λ h. omega (arith, l h) }
fork_both false d n holds_at fails_at middle l k = record { holds = refl; fails = omega (arith, k.fails); room = λ h. omega (arith, k.room (l h)) }

-- the first of two parts of which one has to hold: where it holds it goes over the second part, and on as both do where one holds
pub fork_either : (when : Bool) (d n holds_at fails_at middle : ℕ) → (middle < 0x10000 → middle + 2 * n < 0x10000)
    → Fork when d holds_at fails_at (middle + 2 * n) → Fork true (n + (if when then d else 0)) holds_at middle middle
fork_either true d n holds_at fails_at middle l k = record { holds = omega (arith, k.holds); fails = refl; room = λ h. omega (arith, k.room (l h)) }
fork_either false d n holds_at fails_at middle l k = record { holds = omega (arith, k.holds); fails = refl; room = λ h. omega (arith, l h) }

module _ (z : Setting) where
  -- code that ends with a jump to the one way or the other stands here
  pub record Forked (when : Bool) (d pc : ℕ) (all : List Form) (held failed : ℕ) : Type 0 where
    pub stands : Stands z.code pc all
    pub fork : Fork when d held failed (pc + forms_bytes all)

  -- the code behind its first part
  pub forked_behind : (when : Bool) (d pc : ℕ) (a last : List Form) (held failed : ℕ) → Forked when d pc (a ++ last) held failed
      → Forked when d (pc + forms_bytes a) last held failed
  forked_behind when d pc a last held failed k =
      let same : pc + forms_bytes (a ++ last) ≡ pc + forms_bytes a + forms_bytes last = omega (arith, forms_bytes-append a last) in
      record { stands = stands_back z.code pc a last k.stands; fork = subst (Fork when d held failed) same k.fork }

  -- the jump alone
  module _ (w : WordState) (t : Core) where
    pub decision_part : (when b : Bool) (pc d held failed : ℕ) (met opposite : Condition) → Forked when d pc (decision when d met opposite) held failed
        → pc < 0x10000 → Decided z pc w b met opposite t → Runs z.kept [] 5 t (StandsFor z (if b then held else failed) w)
    decision_part true true pc d held failed met opposite k l i =
        let low = stands_low z pc (jump_over met opposite d) k.stands l in
        over_part z true pc d held met opposite w t k.stands k.fork.holds (omega (arith, k.fork.room low, k.fork.holds)) i
    decision_part true false pc d held failed met opposite k l i =
        let low = stands_low z pc (jump_over met opposite d) k.stands l in
        over_part z false pc d failed met opposite w t k.stands k.fork.fails (omega (arith, low, k.fork.fails)) i
    decision_part false true pc d held failed met opposite k l i =
        let low = stands_low z pc (jump_over opposite met d) k.stands l in
        over_part z false pc d held opposite met w t k.stands k.fork.holds (omega (arith, low, k.fork.holds))
        (record { is = i.is; holds = i.fails; fails = i.holds })
    decision_part false false pc d held failed met opposite k l i =
        let low = stands_low z pc (jump_over opposite met d) k.stands l in
        over_part z true pc d failed opposite met w t k.stands k.fork.fails (omega (arith, k.fork.room low, k.fork.fails))
        (record { is = i.is; holds = i.fails; fails = i.holds })

  -- the code that follows where it is decided, and the way that is taken
  module _ {when : Bool} {pc d held failed : ℕ} {met opposite : Condition} (k : Forked when d pc (decision when d met opposite) held failed)
      (low : pc < 0x10000) where
    pub decided_follows : (b : Bool) (n end m o : ℕ) (w : WordState) (u : Core) (x y : Behaviour) → Runs z.kept [] n u (Decided z pc w b met opposite)
        → ((t : Core) → StandsFor z held w t → Follows z end m t x) → ((t : Core) → StandsFor z failed w t → Follows z end o t y)
        → Follows z end (n + 5 + (if b then m else o)) u (if b then x else y)
    decided_follows true n end m o w u x y r f g =
        then_end z end m x.effects x.end (runs_on z r (λ t i. decision_part w t when true pc d held failed met opposite k low i)) f
    decided_follows false n end m o w u x y r f g =
        then_end z end o y.effects y.end (runs_on z r (λ t i. decision_part w t when false pc d held failed met opposite k low i)) g

  -- ---- whether the top isn't 0

  abbrev pub zero_test : Form
  zero_test = Calculate op.Cmp (Constant konst.Zero) R4

  pub holds_part : (pc v : ℕ) (w : WordState) (t : Core) → v < 0x10000 → z.code.at pc ≡ Some (instruction_of zero_test) → Has z R4 pc w v t
      → Runs z.kept [] 1 t (Decided z (pc + 2) w (is_true v) condition.NotEqual condition.Equal)
  holds_part pc v w t l h k =
      let zero : ((t.work 4 + 65535 + 1) % 65536 == 0) ≡ (v == 0) = ap (λ x. (x + 65535 + 1) % 65536 == 0) k.held ∙ equal_flag v 0 l (omega arith) in
      line z (zero_test ∷ []) 1 (pc + 2) _ k.is (tt, tt) (h, tt) ((tt, tt), tt) refl refl (omega (arith, k.is.at))
      (λ s. record { is = s; holds = ap not zero; fails = zero ∙ sym (not-not (v == 0)) })

  -- ---- whether two words compare so

  -- the flags are these
  record HasFlags (pc : ℕ) (w : WordState) (f : Flags) (t : Core) : Type 0 where
    is : StandsFor z pc w t
    flags : t.flags ≡ f

  -- an operation that writes no register leaves these flags
  flags_part : (o : TwoOp) (x : Source) (b : WorkRegister) (c pc : ℕ) {l r : ℕ} {w : WordState} {t : Core} (f : Flags) → IsNotMov o
      × (writes_destination o ≡ false)
      → source_cycles to_register (source_operand x) ≤ c
      → (let m = Calculate o x b in z.code.at pc ≡ Some (instruction_of m) → StandsFor z pc w t → IsRead (rules_of z.kept) x b l r t t
      → flags_after (operated o Word l r t.flags).flags t.flags ≡ f → Runs z.kept [] c t (HasFlags (pc + form_bytes m) w f))
  flags_part o x b c pc {l} {r} {w} {t} f reads price h i k made =
      calculate z o x b c t false _ reads.0 reads.1 price (ap z.code.at i.at ∙ h) k (record {
        is = stands_elsewhere z pc (pc + form_bytes (Calculate o x b)) w t _ i (ap (λ n. n + (2 + source_bytes x)) i.at) refl refl refl refl refl;
        flags = made;
      })

  -- R5, the right side, with R4
  turned_part : (pc x y : ℕ) (w : WordState) (t : Core) → z.code.at pc ≡ Some (instruction_of (Calculate op.Cmp (Register R4) R5))
      → Holds z (Aiming true (Register R5) x y w.fram) pc w t → Runs z.kept [] 1 t (HasFlags (pc + 2) w (difference_flags y x))
  turned_part pc x y w t h k =
      line z (Calculate op.Cmp (Register R4) R5 ∷ []) 1 (pc + 2) _ k.is (tt, tt) (h, tt) ((tt, tt), tt) refl refl (omega (arith, k.is.at))
      (λ s. record { is = s; flags = ap₂ difference_flags (k.held.gives.word t k.is.fram refl) k.held.four })

  compare_part : (c : Comparison) (o : Option Waiting) (pc x y : ℕ) (w : WordState) (t : Core)
      → (let s = compare_source c o in let m = compare_form c s in z.code.at pc ≡ Some (instruction_of m) → Holds z (Aiming true s x y w.fram) pc w t
      → Runs z.kept [] (reading_cycles (compare_stays (is_turned c) o)) t (HasFlags (pc + form_bytes m) w (compared_flags c x y)))
  compare_part CommonBit o pc x y w t h k =
      let s = right_source o in
      flags_part op.Bit s R4 (reading_cycles (stays o)) pc _ (tt, refl) (reading_price (stays o) o) h k.is
      (is_read true s R4 x y w.fram t k.is.fram k.held.four k.held.gives) refl
  compare_part Above o pc x y w t h k = turned_part pc x y w t h k
  compare_part SignedAbove o pc x y w t h k = turned_part pc x y w t h k
  compare_part c o pc x y w t h k =
      let s = right_source o in
      flags_part op.Cmp s R4 (reading_cycles (stays o)) pc _ (tt, refl) (reading_price (stays o) o) h k.is
      (is_read true s R4 x y w.fram t k.is.fram k.held.four k.held.gives) refl

  pub compares_part : (c : Comparison) (o : Option Waiting) (pc x y : ℕ) (w : WordState) (t : Core) → x < 0x10000 → y < 0x10000
      → (let s = compare_source c o in let m = compare_form c s in z.code.at pc ≡ Some (instruction_of m) → Holds z (Aiming true s x y w.fram) pc w t
      → Runs z.kept [] (reading_cycles (compare_stays (is_turned c) o)) t (Decided z (pc + form_bytes m) w (compare_words c x y) (holding c) (failing c)))
  compares_part c o pc x y w t l m h k =
      so_runs (compare_part c o pc x y w t h k) (λ s j.
      let met = ap (is_met (holding c)) j.flags ∙ compare_met c x y l m in
      record { is = j.is; holds = met; fails = failing_met c s.flags ∙ ap not met })
