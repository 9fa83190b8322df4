-- Jumps over code and back: how far each of them goes.
use Rattle.word_code.proofs.Names.{◌≡◌, ℕ, ◌+◌, ◌-◌, ◌*◌, ◌/◌, ◌%◌, ◌<◌, ◌≤◌, ◌==◌, not, Bool, true, false, nat_le, if◌then◌else◌, List, [], ◌∷◌, refl, ap, ◌∙◌}
use Rattle.word_code.proofs.Names.{subst, arith, eq-eqb, ne_eqb, eqb-true, nat_tests, Condition, sum16, distance, is_met, Core, Form, Jump, Skip, form_bytes}
use Rattle.word_code.proofs.Names.{Stands, forms_bytes, Runs, form_small, WordState, size, jump_over, pass_over, jump_back}
use Rattle.array_versions.specs.msp_step.msp_isa.declared.instructions.Condition.TheVariants as condition
use Rattle.word_code.proofs.Stretches.{Setting, runs_on, dearer, nothing_run}
use Rattle.word_code.proofs.Follows.{StandsFor}
use Rattle.word_code.proofs.Registers.{bytes_even, jump_to, skip_to}

-- code is of whole words
pub whole_size : (ms : List Form) → forms_bytes ms ≡ 2 * size ms
whole_size ms = let e = bytes_even ms in omega arith

pub near_is : (d : ℕ) → nat_le d 511 ≡ true → d ≤ 511
near_is d e = grind (arith, nat_tests)

-- a jump on, by up to 511 words
pub near_distance : (d : ℕ) → d ≤ 511 → distance d ≡ 2 * d
near_distance d l = ap (λ b. (2 * d + (if b then 0 else 0x10000 - 0x800)) % 0x10000) (eq-eqb (d / 0x200) 0 (omega arith)) ∙ omega arith

-- and back
pub back_distance : (d : ℕ) → d ≤ 511 → distance (1023 - d) ≡ 0xFFFE - 2 * d
back_distance d l =
    ap (λ b. (2 * (1023 - d) + (if b then 0 else 0x10000 - 0x800)) % 0x10000) (ne_eqb ((1023 - d) / 0x200) 0 (λ e. omega arith)) ∙ omega arith

module _ (z : Setting) where
  -- where code stands, what is behind it is no further than the end of memory
  pub stands_low : (pc : ℕ) (ms : List Form) → Stands z.code pc ms → pc < 0x10000 → pc + forms_bytes ms < 0x10000
  stands_low pc [] h l = omega arith
  stands_low pc (m ∷ ms) h l =
      let high = (z.tidy pc _ h.0).high in
      let small = form_small m in
      let rest = stands_low (pc + form_bytes m) ms h.1 (omega arith) in
      omega arith

  -- it is decided here: one condition is met where it holds, and the opposite one where it fails
  pub record Decided (pc : ℕ) (w : WordState) (b : Bool) (met opposite : Condition) (t : Core) : Type 0 where
    pub is : StandsFor z pc w t
    pub holds : is_met met t.flags ≡ b
    pub fails : is_met opposite t.flags ≡ not b

  -- over so many words where it holds; by whether they are few
  over_by : (near b : Bool) (pc d to : ℕ) (met opposite : Condition) (w : WordState) (t : Core) → nat_le d 511 ≡ near
      → (let ms : List Form = if near then Jump met d ∷ [] else (Jump opposite 2 ∷ Skip (2 * d) ∷ []) in Stands z.code pc ms
      → (if b then pc + forms_bytes ms + 2 * d else pc + forms_bytes ms) ≡ to → to < 0x10000 → Decided pc w b met opposite t
      → Runs z.kept [] 5 t (StandsFor z to w))
  over_by true true pc d to met opposite w t n h e l k =
      let far = near_distance d (near_is d n) in
      dearer z (omega arith) (jump_to z met d pc to true w t h.0 k.holds (ap (λ x. sum16 (pc + 2) x) far ∙ omega (arith, e)) k.is)
  over_by true false pc d to met opposite w t n h e l k =
      dearer z (omega arith) (jump_to z met d pc to false w t h.0 k.holds e k.is)
  over_by false true pc d to met opposite w t n h e l k =
      runs_on z (jump_to z opposite 2 pc (pc + 2) false w t h.0 k.fails refl k.is)
      (λ u j. skip_to z (2 * d) (pc + 2) to w u h.1.0 (omega arith) (omega (arith, e)) j)
  over_by false false pc d to met opposite w t n h e l k =
      let high = (z.tidy pc _ h.0).high in
      dearer z (omega arith) (jump_to z opposite 2 pc to true w t h.0 k.fails (omega (arith, e)) k.is)

  pub over_part : (b : Bool) (pc d to : ℕ) (met opposite : Condition) (w : WordState) (t : Core)
      → (let ms = jump_over met opposite d in Stands z.code pc ms → (if b then pc + forms_bytes ms + 2 * d else pc + forms_bytes ms) ≡ to → to < 0x10000
      → Decided pc w b met opposite t → Runs z.kept [] 5 t (StandsFor z to w))
  over_part b pc d to met opposite w t h e l k = over_by (nat_le d 511) b pc d to met opposite w t refl h e l k

  -- over so many words in any case; by whether there are any, and few
  pass_by : (empty near : Bool) (pc d to : ℕ) (w : WordState) (t : Core) → (d == 0) ≡ empty → nat_le d 511 ≡ near
      → (let ms : List Form = if empty then [] else if near then Jump condition.Always d ∷ [] else (Skip (2 * d) ∷ []) in Stands z.code pc ms
      → pc + forms_bytes ms + 2 * d ≡ to → (pc + forms_bytes ms < 0x10000 → to < 0x10000) → StandsFor z pc w t → Runs z.kept [] 3 t (StandsFor z to w))
  pass_by true near pc d to w t n m h e low i =
      let nothing = eqb-true d 0 n in
      let here : pc ≡ to = omega (arith, e, nothing) in
      dearer z (omega arith) (nothing_run z (subst (λ x. StandsFor z x w t) here i))
  pass_by false true pc d to w t n m h e low i =
      let far = near_distance d (near_is d m) in
      let high = (z.tidy pc _ h.0).high in
      let l = low (omega arith) in
      dearer z (omega arith) (jump_to z condition.Always d pc to true w t h.0 refl (ap (λ x. sum16 (pc + 2) x) far ∙ omega (arith, e)) i)
  pass_by false false pc d to w t n m h e low i =
      let high = (z.tidy pc _ h.0).high in
      let l = low (omega arith) in
      skip_to z (2 * d) pc to w t h.0 (omega arith) (omega (arith, e)) i

  pub pass_part : (pc d to : ℕ) (w : WordState) (t : Core) → Stands z.code pc (pass_over d) → pc + forms_bytes (pass_over d) + 2 * d ≡ to
      → (pc + forms_bytes (pass_over d) < 0x10000 → to < 0x10000) → StandsFor z pc w t → Runs z.kept [] 3 t (StandsFor z to w)
  pass_part pc d to w t h e low i = pass_by (d == 0) (nat_le d 511) pc d to w t refl refl h e low i

  -- back over so many words where it holds; by whether they are few
  back_by : (near b : Bool) (pc d to : ℕ) (met opposite : Condition) (w : WordState) (t : Core) → nat_le d 511 ≡ near
      → (let ms : List Form = if near then Jump met (1023 - d) ∷ [] else (Jump opposite 2 ∷ Skip (0xFFFA - 2 * d) ∷ []) in Stands z.code pc ms
      → (if b then to + 2 * d else pc + forms_bytes ms) ≡ (if b then pc else to) → Decided pc w b met opposite t → Runs z.kept [] 5 t (StandsFor z to w))
  back_by true true pc d to met opposite w t n h e k =
      let l = near_is d n in
      let high = (z.tidy pc _ h.0).high in
      dearer z (omega arith) (jump_to z met (1023 - d) pc to true w t h.0 k.holds (ap (λ x. sum16 (pc + 2) x) (back_distance d l) ∙ omega (arith, e)) k.is)
  back_by true false pc d to met opposite w t n h e k =
      dearer z (omega arith) (jump_to z met (1023 - d) pc to false w t h.0 k.holds e k.is)
  back_by false true pc d to met opposite w t n h e k =
      let high = (z.tidy (pc + 2) _ h.1.0).high in
      runs_on z (jump_to z opposite 2 pc (pc + 2) false w t h.0 k.fails refl k.is)
      (λ u j. skip_to z (0xFFFA - 2 * d) (pc + 2) to w u h.1.0 (omega arith) (omega (arith, e)) j)
  back_by false false pc d to met opposite w t n h e k =
      let high = (z.tidy pc _ h.0).high in
      let high' = (z.tidy (pc + 2) _ h.1.0).high in
      dearer z (omega arith) (jump_to z opposite 2 pc to true w t h.0 k.fails (omega (arith, e)) k.is)

  pub back_part : (b : Bool) (pc d to : ℕ) (met opposite : Condition) (w : WordState) (t : Core) → Stands z.code pc (jump_back met opposite d)
      → (if b then to + 2 * d else pc + forms_bytes (jump_back met opposite d)) ≡ (if b then pc else to) → Decided pc w b met opposite t
      → Runs z.kept [] 5 t (StandsFor z to w)
  back_part b pc d to met opposite w t h e k = back_by (nat_le d 511) b pc d to met opposite w t refl h e k
