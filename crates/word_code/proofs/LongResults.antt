-- The code of an operation with longs does what the operation does.
use Rattle.word_code.proofs.Names.{◌≡◌, ℕ, ◌+◌, ◌-◌, ◌*◌, ◌/◌, ◌%◌, ◌^◌, ◌<◌, ◌≤◌, Bool, true, false, nat_le, nat_lt, if◌then◌else◌, List, [], ◌∷◌, ◌++◌}
use Rattle.word_code.proofs.Names.{length, Option, None, Some, refl, sym, ap, ap₂, ◌∙◌, subst, arith, ltb-true, nat_tests, Core, Form, R4, R6, Runs, Source}
use Rattle.word_code.proofs.Names.{Stands, forms_bytes, Waiting, WordState, Behaviour, GoesOn, goes_on, broken, with_stack, Left, Right, shift_word, flushed}
use Rattle.word_code.proofs.Names.{top_of, below_top, kept, top_to_four, shift_middle, PlainOperation}
use Rattle.word_code.specs.declared.waiting.Waiting.TheVariants as waiting
use Rattle.array_versions.specs.Behaviour.{with_words}
use Rattle.array_versions.specs.Cost.{long_cycles}
use Rattle.array_versions.specs.Program.{long}
use Rattle.array_versions.specs.declared.operations.LongOperation.{LongOperation}
use Rattle.array_versions.specs.declared.operations.LongOperation.TheVariants as with_longs
use Rattle.array_versions.specs.Operations.{two_words, plain_long, long_to_left, long_to_right, sign_word, all_bits, long_pops, long_pushes, long_result}
use Rattle.word_code.specs.Code.{below_two, long_waits, parted, parting, long_sides, low_source, high_source, long_calculation, below_code, above_code}
use Rattle.word_code.specs.Code.{longs_lost, pair_lost, pair_to_registers, short_code, short_behind, left_by, right_by, dropped, lifted, high_code, high_behind}
use Rattle.word_code.specs.Code.{left_code, left_behind, right_shift_code, right_behind, complement_code, widen_code, long_code, long_behind}
use Rattle.word_code.proofs.Memory.{AreWords}
use Rattle.word_code.proofs.Stretches.{Setting, two_parts, nothing_run, so_runs, dearer}
use Rattle.word_code.proofs.Registers.{HasWord}
use Rattle.word_code.proofs.Operands.{owed, load_owed, Describes, waiting_word, head_is, words_same, dressed, flush_part, four_part, five_part, drop_part}
use Rattle.word_code.proofs.Operands.{waits_more}
use Rattle.word_code.proofs.Follows.{reach_more}
use Rattle.word_code.proofs.Results.{Does, StepDoes, Makes, Fetched, Template, template, does_behind, fetched, four_fetched, leaves_words, in_six}
use Rattle.word_code.proofs.ShiftParts.{shift_part}
use Rattle.word_code.proofs.LongWords.{Pair, pair, worth, pair_of, AreSmall, worth_small, high_of, low_of, sign_small, far_left_high, far_left_low, far_right}
use Rattle.word_code.proofs.LongSides.{HasPair, HasLongs, right_cycles, pair_cycles, low_cycles, high_cycles, low_price, high_price, pair_owed, longs_owed}
use Rattle.word_code.proofs.LongSides.{pair_to_registers_part, long_sides_part}
use Rattle.word_code.proofs.LongSteps.{calculation_part, below_part, above_part, widen_part}
use Rattle.word_code.proofs.LongShifts.{LongTurns, left_part, right_part, complement_part}

-- behind the pushes the low word of the long doesn't wait in R6
parted_pair : (lost : Bool) (os : List Waiting) → pair_lost os ≡ lost → pair_lost (parting lost os) ≡ false
parted_pair true os e = refl
parted_pair false os e = e

-- nor that of the left one of two longs
parted_longs : (lost : Bool) (os : List Waiting) → longs_lost os ≡ lost → longs_lost (parting lost os) ≡ false
parted_longs true os e = refl
parted_longs false os e = e

-- the cycles in which the top is popped where it doesn't wait
abbrev pop_cycles : Option Waiting → ℕ
pop_cycles None = 2
pop_cycles (Some o) = 0

pop_owed : (os : List Waiting) → pop_cycles (top_of os) + owed (below_top os) ≤ 2 + owed os
pop_owed [] = omega arith
pop_owed (o ∷ os) = omega arith

-- the top comes to wait, and the word below it is popped where it doesn't wait
abbrev high_cycles_of : List Waiting → ℕ
high_cycles_of os = pop_cycles (top_of os) + pop_cycles (top_of (below_top os))

high_owed : (os : List Waiting) → high_cycles_of os + owed (high_behind os) ≤ 7 + owed os
high_owed [] = omega arith
high_owed (o ∷ []) = omega arith
high_owed (o ∷ (p ∷ os)) = omega arith

-- ---- shifts by 16 bits and more

-- to the left: the high word is the low one, shifted by those that are left
left_words : (k l h : ℕ) → 16 ≤ k → l < 0x10000 → h < 0x10000 → (long_to_left (two_words l h) k / 0x10000 ≡ shift_word Left l (k - 16))
    × (long_to_left (two_words l h) k % 0x10000 ≡ 0)
left_words k l h m sl sh = by (nat_le k 31) (nat_le (k - 16) 15) refl refl
  where
    by : (b c : Bool) → nat_le k 31 ≡ b → nat_le (k - 16) 15 ≡ c
        → ((if b then (two_words l h * 2 ^ k) % 2 ^ 32 else 0) / 0x10000 ≡ (if c then (l * 2 ^ (k - 16)) % 0x10000 else 0))
        × ((if b then (two_words l h * 2 ^ k) % 2 ^ 32 else 0) % 0x10000 ≡ 0)
    by true true e f =
        let j = k - 16 in
        let is : 16 + j ≡ k = omega arith in (
          ap (λ m. (two_words l h * 2 ^ m) % 2 ^ 32 / 0x10000) (sym is) ∙ far_left_high l h j sl,
          ap (λ m. (two_words l h * 2 ^ m) % 2 ^ 32 % 0x10000) (sym is) ∙ far_left_low l h j,
        )
    by true false e f = absurd (grind (arith, nat_tests))
    by false true e f = absurd (grind (arith, nat_tests))
    by false false e f = (refl, refl)

quotient_small : (a d : ℕ) → a < 0x10000 → a / d < 0x10000
quotient_small a d h = grind arith

-- to the right: the low word is the high one, shifted so
right_words : (k l h : ℕ) → 16 ≤ k → l < 0x10000 → h < 0x10000 → (long_to_right (two_words l h) k / 0x10000 ≡ 0)
    × (long_to_right (two_words l h) k % 0x10000 ≡ shift_word Right h (k - 16))
right_words k l h m sl sh = by (nat_le k 31) (nat_le (k - 16) 15) refl refl
  where
    by : (b c : Bool) → nat_le k 31 ≡ b → nat_le (k - 16) 15 ≡ c
        → ((if b then two_words l h / 2 ^ k else 0) / 0x10000 ≡ 0)
        × ((if b then two_words l h / 2 ^ k else 0) % 0x10000 ≡ (if c then h / 2 ^ (k - 16) else 0))
    by true true e f =
        let j = k - 16 in
        let is : 16 + j ≡ k = omega arith in
        let value : two_words l h / 2 ^ k ≡ h / 2 ^ j = ap (λ m. two_words l h / 2 ^ m) (sym is) ∙ far_right l h j sl in
        let small : h / 2 ^ j < 0x10000 = quotient_small h (2 ^ j) sh in (
          ap (λ m. m / 0x10000) value ∙ omega arith,
          ap (λ m. m % 0x10000) value ∙ omega arith,
        )
    by true false e f = absurd (grind (arith, nat_tests))
    by false true e f = absurd (grind (arith, nat_tests))
    by false false e f = (refl, refl)

-- ---- words that are taken from the stack

-- what an operation does with them
abbrev made_of : LongOperation → WordState → List ℕ → List ℕ → Behaviour
made_of o w words rest = goes_on [] (with_stack (long_result o words ++ rest) w)

-- four of them: where there are fewer the program is broken
four_taken : (P : Behaviour → Type 0) (vs : List ℕ) (next : List ℕ → List ℕ → Behaviour) → P broken
    → ((d c b a : ℕ) (rest : List ℕ) → vs ≡ d ∷ (c ∷ (b ∷ (a ∷ rest))) → P (next (d ∷ (c ∷ (b ∷ (a ∷ [])))) rest)) → P (with_words 4 vs next)
four_taken P [] next p f = p
four_taken P (d ∷ []) next p f = p
four_taken P (d ∷ (c ∷ [])) next p f = p
four_taken P (d ∷ (c ∷ (b ∷ []))) next p f = p
four_taken P (d ∷ (c ∷ (b ∷ (a ∷ rest)))) next p f = f d c b a rest refl

-- two of them
two_taken : (P : Behaviour → Type 0) (vs : List ℕ) (next : List ℕ → List ℕ → Behaviour) → P broken
    → ((b a : ℕ) (rest : List ℕ) → vs ≡ b ∷ (a ∷ rest) → P (next (b ∷ (a ∷ [])) rest)) → P (with_words 2 vs next)
two_taken P [] next p f = p
two_taken P (b ∷ []) next p f = p
two_taken P (b ∷ (a ∷ rest)) next p f = f b a rest refl

module _ (z : Setting) where
  -- ---- longs that come to wait

  -- a long in R6 and R4
  abbrev in_pair : {w : WordState} {P : (ℕ → ℕ) → Type 0} (ms : List Form) (c : ℕ) (a : Pair) → Makes z P w ms c (HasPair a) → Template z w P
  in_pair ms c a f =
      leaves_words z (waiting.R6 ∷ (waiting.R4 ∷ [])) (a.high ∷ (a.low ∷ [])) (tt, (tt, tt)) (λ g q. ap₂ (λ x y. x ∷ (y ∷ [])) q.six q.four) ms c f

  -- all that waits is pushed first, or not
  parted_does : (lost : Bool) (os : List Waiting) (made : List Waiting → List Form) (after : List Waiting → List Waiting) (most pc : ℕ) (w : WordState)
      (u : Core) (b : Behaviour) → (let ps = parting lost os in Stands z.code pc (parted lost os ++ made ps) → Describes z os pc w u
      → ((p : ℕ) (t : Core) → Stands z.code p (made ps) → Describes z ps p w t → Does z (after ps) (p + forms_bytes (made ps)) (most + owed ps) t b)
      → Does z (after ps) (pc + forms_bytes (parted lost os ++ made ps)) (most + owed os) u b)
  parted_does true os made after most pc w u b h d f =
      let mid = pc + forms_bytes (flushed os) in
      does_behind z (flushed os) (made []) (after []) (most + 0) (most + owed os) pc u b (omega arith) h (flush_part z os pc w u d)
      (λ t s i. f mid t s (dressed z mid w t i))
  parted_does false os made after most pc w u b h d f = f pc u h d

  -- ---- two longs

  -- two longs on the stack
  abbrev pub TwoLongs : WordState → Pair → Pair → List ℕ → Type 0
  TwoLongs w a b vs = w.stack ≡ b.high ∷ (b.low ∷ (a.high ∷ (a.low ∷ vs)))

  module _ (w : WordState) (a b : Pair) (vs : List ℕ) (e : TwoLongs w a b vs) (la : AreSmall a) (lb : AreSmall b) where
    -- the left one comes to registers, and the right one to where it is read
    abbrev longs_fetched : (os : List Waiting) (pc : ℕ) (u : Core) → longs_lost os ≡ false → Describes z os pc w u
        → Fetched z pc w vs u (HasLongs (low_source os) (high_source os) a b w.fram)
    longs_fetched os pc u lost d =
        fetched z (long_sides os) (below_two (below_two os)) (right_cycles os + pair_cycles (below_two os)) 4
        (omega (arith, d.fits, ap (length {A = ℕ}) e)) (λ s. long_sides_part z os pc w a b vs u e lost s d)

    calculation_reaches : (o : PlainOperation) (os : List Waiting) (pc : ℕ) (u : Core) → (let n = plain_long o (worth a) (worth b) in
        StepDoes z [] os (long (with_longs.Calculate o)) 16 pc w u (goes_on [] (with_stack (n / 0x10000 ∷ (n % 0x10000 ∷ vs)) w)))
    calculation_reaches o os pc u h d =
        let lost = longs_lost os in
        let n = plain_long o (worth a) (worth b) in
        parted_does lost os (λ ps. long_sides ps ++ long_calculation o (low_source ps) (high_source ps)) (λ ps. long_waits (kept (below_two (below_two ps))))
        16 pc w u (goes_on [] (with_stack (n / 0x10000 ∷ (n % 0x10000 ∷ vs)) w)) h d (λ p t s k.
        let qs = parting lost os in
        let x = low_source qs in let y = high_source qs in
        let reads = low_cycles qs in let reads_high = high_cycles qs in
        template z (longs_fetched qs p t (parted_longs lost os refl) k) (in_pair (long_calculation o x y) (reads + reads_high) (pair_of n) (λ q xs r s k.
        calculation_part z x y reads reads_high (low_price qs) (high_price qs) b (with_stack xs w) o q a r la lb s k))
        (16 + owed qs) (omega arith) (omega (arith, longs_owed qs)) s)

    -- a comparison, which leaves a word in R6
    comparison_does : (made : Source → Source → List Form) (more most v : ℕ) (os : List Waiting) (pc : ℕ) (u : Core) → 13 + more ≤ most
        → (let qs = parting (longs_lost os) os in let x = low_source qs in let y = high_source qs in
        Makes z (HasLongs x y a b w.fram) w (made x y) (low_cycles qs + high_cycles qs + more) (HasWord R6 v)
        → Stands z.code pc (parted (longs_lost os) os ++ (long_sides qs ++ made x y)) → Describes z os pc w u
        → Does z (waiting.R6 ∷ kept (below_two (below_two qs))) (pc + forms_bytes (parted (longs_lost os) os ++ (long_sides qs ++ made x y))) (most + owed os) u
        (goes_on [] (with_stack (v ∷ vs) w)))
    comparison_does made more most v os pc u l makes h d =
        let lost = longs_lost os in
        let qs = parting lost os in
        parted_does lost os (λ ps. long_sides ps ++ made (low_source ps) (high_source ps)) (λ ps. waiting.R6 ∷ kept (below_two (below_two ps)))
        most pc w u (goes_on [] (with_stack (v ∷ vs) w)) h d (λ p t s k.
        template z (longs_fetched qs p t (parted_longs lost os refl) k)
        (in_six z (made (low_source qs) (high_source qs)) (low_cycles qs + high_cycles qs + more) v makes)
        (most + owed qs) (omega arith) (omega (arith, l, longs_owed qs)) s)

    below_reaches : (os : List Waiting) (pc : ℕ) (u : Core)
        → StepDoes z [] os (long with_longs.Below) 14 pc w u (goes_on [] (with_stack (all_bits (nat_lt (worth a) (worth b)) ∷ vs) w))
    below_reaches os pc u h d =
        let qs = parting (longs_lost os) os in
        comparison_does below_code 1 14 (all_bits (nat_lt (worth a) (worth b))) os pc u (omega arith) (λ p xs t s k.
        below_part z (low_source qs) (high_source qs) (low_cycles qs) (high_cycles qs) (low_price qs) (high_price qs) b (with_stack xs w) p a t la lb s k) h d

    above_reaches : (os : List Waiting) (pc : ℕ) (u : Core)
        → StepDoes z [] os (long with_longs.Above) 16 pc w u (goes_on [] (with_stack (all_bits (nat_lt (worth b) (worth a)) ∷ vs) w))
    above_reaches os pc u h d =
        let qs = parting (longs_lost os) os in
        comparison_does above_code 3 16 (all_bits (nat_lt (worth b) (worth a))) os pc u (omega arith) (λ p xs t s k. dearer z (omega arith)
        (above_part z (low_source qs) (high_source qs) (low_cycles qs) (high_cycles qs) (low_price qs) (high_price qs) b (with_stack xs w) p a t la lb s k)) h d

  -- ---- words that go, and words that come

  -- the top goes
  dropped_part : (os : List Waiting) (pc : ℕ) (w : WordState) (v : ℕ) (vs : List ℕ) (u : Core) → w.stack ≡ v ∷ vs → Stands z.code pc (dropped (top_of os))
      → Describes z os pc w u
      → Runs z.kept [] (pop_cycles (top_of os)) u (Describes z (below_top os) (pc + forms_bytes (dropped (top_of os))) (with_stack vs w))
  dropped_part [] pc w v vs u e h d = so_runs (five_part z [] pc w v vs u e h d) (λ t k. k.is)
  dropped_part (o ∷ os) pc w v vs u e h d =
      let same : pc ≡ pc + 0 = omega arith in
      nothing_run z (subst (λ n. Describes z os n (with_stack vs w) u) same (drop_part z o os pc w v vs u e d).0)

  -- the top stays, and the word below it goes
  high_part : (os : List Waiting) (pc : ℕ) (w : WordState) (v y : ℕ) (vs : List ℕ) (u : Core) → w.stack ≡ v ∷ (y ∷ vs) → Stands z.code pc (high_code os)
      → Describes z os pc w u → Runs z.kept [] (high_cycles_of os) u (Describes z (high_behind os) (pc + forms_bytes (high_code os)) (with_stack (v ∷ vs) w))
  high_part [] pc w v y vs u e h d =
      let left = with_stack (y ∷ vs) w in
      let room : length vs < z.room = omega (arith, d.fits, ap (length {A = ℕ}) e) in
      two_parts z (lifted None) (dropped None) pc (λ n. Describes z (waiting.R4 ∷ []) n (with_stack (v ∷ vs) w)) h
      (λ s. four_part z [] pc w v (y ∷ vs) u e refl s d)
      (λ t s k. so_runs (five_part z [] (pc + 2) left y vs t refl s k.is) (λ q j.
      waits_more z waiting.R4 [] (pc + 2 + 2) (with_stack vs w) v q tt (j.held.others 4 (λ n. omega (arith, n)) ∙ k.held.value) room j.is))
  high_part (o ∷ []) pc w v y vs u e h d =
      let k = drop_part z o [] pc w v (y ∷ vs) u e d in
      let room : length vs < z.room = omega (arith, d.fits, ap (length {A = ℕ}) e) in
      so_runs (five_part z [] pc (with_stack (y ∷ vs) w) y vs u refl h k.0) (λ q j.
      let same : waiting_word w.fram w.locals q.work o ≡ waiting_word w.fram w.locals u.work o =
      head_is (words_same w.fram w.locals q.work u.work (o ∷ []) (j.held.others 4 (λ n. omega (arith, n))) (j.held.others 6 (λ n. omega (arith, n)))) in
      waits_more z o [] (pc + 2) (with_stack vs w) v q d.there.0 (same ∙ k.1) room j.is)
  high_part (o ∷ (p ∷ os)) pc w v y vs u e h d =
      let k = drop_part z o (p ∷ os) pc w v (y ∷ vs) u e d in
      let left = (drop_part z p os pc (with_stack (y ∷ vs) w) y vs u refl k.0).0 in
      let room : length vs < z.room = omega (arith, d.fits, ap (length {A = ℕ}) e) in
      let same : pc ≡ pc + 0 = omega arith in
      nothing_run z (subst (λ n. Describes z (o ∷ os) n (with_stack (v ∷ vs) w) u) same
      (waits_more z o os pc (with_stack vs w) v u d.there.0 k.1 room left))

  -- ---- one long

  -- it comes to R6 and R4
  abbrev pair_fetched : (os : List Waiting) (pc : ℕ) (w : WordState) (a : Pair) (vs : List ℕ) (u : Core) → w.stack ≡ a.high ∷ (a.low ∷ vs)
      → pair_lost os ≡ false → Describes z os pc w u → Fetched z pc w vs u (HasPair a)
  pair_fetched os pc w a vs u e lost d =
      fetched z (pair_to_registers os) (below_two os) (pair_cycles os) 2 (omega (arith, d.fits, ap (length {A = ℕ}) e))
      (λ s. pair_to_registers_part z os pc w a vs u e lost s d)

  module _ (w : WordState) (a : Pair) (vs : List ℕ) (e : w.stack ≡ a.high ∷ (a.low ∷ vs)) (la : AreSmall a) where
    -- what code leaves of it, where such words wait behind it
    abbrev LeavesLong : List Waiting → List Form → ℕ → ℕ → List Waiting → ℕ → Core → Type 0
    LeavesLong after ms n most os pc u = Stands z.code pc ms → Describes z os pc w u
        → Does z after (pc + forms_bytes ms) (most + owed os) u (goes_on [] (with_stack (n / 0x10000 ∷ (n % 0x10000 ∷ vs)) w))

    as_worth : (g : ℕ → ℕ) → HasPair a g → HasPair (pair_of (worth a)) g
    as_worth g k = let low = la.low in record { four = k.four ∙ omega arith; six = k.six ∙ omega arith }

    short_reaches : (c : ℕ) (ms : List Form) (f : ℕ → ℕ) → LongTurns z ms c 0x100000000 f → (os : List Waiting) (pc : ℕ) (u : Core)
        → LeavesLong (short_behind os) (short_code os ms) (f (worth a)) (10 + c) os pc u
    short_reaches c ms f turns os pc u h d =
        let n = f (worth a) in
        let lost = pair_lost os in
        parted_does lost os (λ ps. pair_to_registers ps ++ ms) (λ ps. long_waits (kept (below_two ps))) (10 + c) pc w u
        (goes_on [] (with_stack (n / 0x10000 ∷ (n % 0x10000 ∷ vs)) w)) h d (λ p t s k.
        let qs = parting lost os in
        template z (pair_fetched qs p w a vs t e (parted_pair lost os refl) k) (in_pair ms c (pair_of n) (λ q xs r x j.
        turns q (worth a) (with_stack xs w) r (worth_small a la) x (record { is = j.is; held = as_worth r.work j.held })))
        (10 + c + owed qs) (omega arith) (omega (arith, pair_owed qs)) s)

    -- by 16 bits and more: one word of it is shifted, and the other one is 0
    far_left : (k : ℕ) (os : List Waiting) (pc : ℕ) (u : Core) → 16 ≤ k
        → LeavesLong (left_behind false os) (left_code false os k) (long_to_left (worth a) k) 32 os pc u
    far_left k os pc u m h d =
        let n = long_to_left (worth a) k in
        let under = below_top os in
        let left = with_stack (a.low ∷ vs) w in
        let ms = shift_middle Left (k - 16) in
        let is = left_words k a.low a.high m la.low la.high in
        let room : 2 + length vs ≤ z.room = omega (arith, d.fits, ap (length {A = ℕ}) e) in
        does_behind z (dropped (top_of os)) (top_to_four under ++ ms) (left_behind false os) (19 + owed under) (32 + owed os) pc u
        (goes_on [] (with_stack (n / 0x10000 ∷ (n % 0x10000 ∷ vs)) w)) (omega (arith, pop_owed os)) h
        (λ s. dropped_part os pc w a.high (a.low ∷ vs) u e s d) (λ t s j.
        template z (record (four_fetched z under (pc + forms_bytes (dropped (top_of os))) left a.low vs t refl j) { taken = 2; room = room })
        (leaves_words z {Q = HasWord R4 (shift_word Left a.low (k - 16))} (waiting.R4 ∷ (waiting.Number 0 ∷ [])) (n / 0x10000 ∷ (n % 0x10000 ∷ []))
        (tt, (tt, tt)) (λ g q. ap₂ (λ x y. x ∷ (y ∷ [])) (q ∙ sym is.0) (sym is.1)) ms 10
        (λ p xs r x i. shift_part z Left (k - 16) p a.low (with_stack xs left) r la.low x i))
        (19 + owed under) (omega arith) (omega (arith, load_owed under)) s)

    far_right_reaches : (k : ℕ) (os : List Waiting) (pc : ℕ) (u : Core) → 16 ≤ k
        → LeavesLong (right_behind false os) (right_shift_code false os k) (long_to_right (worth a) k) 32 os pc u
    far_right_reaches k os pc u m h d =
        let n = long_to_right (worth a) k in
        let under = high_behind os in
        let left = with_stack (a.high ∷ vs) w in
        let ms = shift_middle Right (k - 16) in
        let is = right_words k a.low a.high m la.low la.high in
        let room : 2 + length vs ≤ z.room = omega (arith, d.fits, ap (length {A = ℕ}) e) in
        does_behind z (high_code os) (top_to_four under ++ ms) (right_behind false os) (19 + owed under) (32 + owed os) pc u
        (goes_on [] (with_stack (n / 0x10000 ∷ (n % 0x10000 ∷ vs)) w)) (omega (arith, high_owed os)) h
        (λ s. high_part os pc w a.high a.low vs u e s d) (λ t s j.
        template z (record (four_fetched z under (pc + forms_bytes (high_code os)) left a.high vs t refl j) { taken = 2; room = room })
        (leaves_words z {Q = HasWord R4 (shift_word Right a.high (k - 16))} (waiting.Number 0 ∷ (waiting.R4 ∷ [])) (n / 0x10000 ∷ (n % 0x10000 ∷ []))
        (tt, (tt, tt)) (λ g q. ap₂ (λ x y. x ∷ (y ∷ [])) (sym is.0) (q ∙ sym is.1)) ms 10
        (λ p xs r x i. shift_part z Right (k - 16) p a.high (with_stack xs left) r la.high x i))
        (19 + owed under) (omega arith) (omega (arith, load_owed under)) s)

    left_reaches : (b : Bool) (k : ℕ) (os : List Waiting) (pc : ℕ) (u : Core) → nat_lt k 16 ≡ b
        → LeavesLong (left_behind b os) (left_code b os k) (long_to_left (worth a) k) 32 os pc u
    left_reaches true k os pc u few h d = short_reaches 22 (left_by k) (λ n. long_to_left n k) (left_part z k (ltb-true k 16 few)) os pc u h d
    left_reaches false k os pc u few h d = let m : 16 ≤ k = grind (arith, nat_tests) in far_left k os pc u m h d

    right_reaches : (b : Bool) (k : ℕ) (os : List Waiting) (pc : ℕ) (u : Core) → nat_lt k 16 ≡ b
        → LeavesLong (right_behind b os) (right_shift_code b os k) (long_to_right (worth a) k) 32 os pc u
    right_reaches true k os pc u few h d = short_reaches 22 (right_by k) (λ n. long_to_right n k) (right_part z k (ltb-true k 16 few)) os pc u h d
    right_reaches false k os pc u few h d = let m : 16 ≤ k = grind (arith, nat_tests) in far_right_reaches k os pc u m h d

    complement_reaches : (os : List Waiting) (pc : ℕ) (u : Core)
        → LeavesLong (short_behind os) (short_code os complement_code) (4294967295 - worth a) 16 os pc u
    complement_reaches os pc u h d =
        let n = 4294967295 - worth a in
        reach_more z (owed (short_behind os)) (Describes z (short_behind os) (pc + forms_bytes (short_code os complement_code))) (12 + owed os)
        (16 + owed os) u [] (GoesOn (with_stack (n / 0x10000 ∷ (n % 0x10000 ∷ vs)) w)) (omega arith)
        (short_reaches 2 complement_code (λ m. 4294967295 - m) (complement_part z) os pc u h d)

    -- two words that are one long already
    join_reaches : (os : List Waiting) (pc : ℕ) (u : Core) → LeavesLong os [] (worth a) 0 os pc u
    join_reaches os pc u h d =
        let same : pc ≡ pc + 0 = omega arith in
        let is = e ∙ ap₂ (λ x y. x ∷ (y ∷ vs)) (sym (high_of a la)) (sym (low_of a la)) in
        let n = worth a in
        let there = subst (λ l. Describes z os pc (with_stack l w) u) is d in
        record {
          spent = 0;
          within = omega arith;
          runs = nothing_run z (subst (λ p. Describes z os p (with_stack (n / 0x10000 ∷ (n % 0x10000 ∷ vs)) w) u) same there);
        }

  -- ---- one word and two

  widen_reaches : (os : List Waiting) (pc : ℕ) (w : WordState) (y : ℕ) (vs : List ℕ) (u : Core) → w.stack ≡ y ∷ vs → y < 0x10000 → length vs + 2 ≤ z.room
      → (let n = two_words y (sign_word y) in
      StepDoes z [] os (long with_longs.Widen) 12 pc w u (goes_on [] (with_stack (n / 0x10000 ∷ (n % 0x10000 ∷ vs)) w)))
  widen_reaches os pc w y vs u e l room h d =
      let a = pair y (sign_word y) in
      let n = worth a in
      let small : AreSmall a = record { low = l; high = sign_small y } in
      template z (record (four_fetched z os pc w y vs u e d) { taken = 2; room = omega (arith, room) })
      (leaves_words z {Q = HasPair a} (waiting.R6 ∷ (waiting.R4 ∷ [])) (n / 0x10000 ∷ (n % 0x10000 ∷ [])) (tt, (tt, tt))
      (λ g q. ap₂ (λ x y. x ∷ (y ∷ [])) (q.six ∙ sym (high_of a small)) (q.four ∙ sym (low_of a small))) widen_code 4
      (λ p xs t s k. widen_part z p y (with_stack xs w) t l s k)) (12 + owed os) (omega arith) (omega (arith, load_owed os)) h

  low_reaches : (os : List Waiting) (pc : ℕ) (w : WordState) (v y : ℕ) (vs : List ℕ) (u : Core) → w.stack ≡ v ∷ (y ∷ vs)
      → StepDoes z [] os (long with_longs.LowWord) 2 pc w u (goes_on [] (with_stack (y ∷ vs) w))
  low_reaches os pc w v y vs u e h d =
      record { spent = pop_cycles (top_of os); within = pop_owed os; runs = dropped_part os pc w v (y ∷ vs) u e h d }

  high_reaches : (os : List Waiting) (pc : ℕ) (w : WordState) (v y : ℕ) (vs : List ℕ) (u : Core) → w.stack ≡ v ∷ (y ∷ vs)
      → StepDoes z [] os (long with_longs.HighWord) 7 pc w u (goes_on [] (with_stack (v ∷ vs) w))
  high_reaches os pc w v y vs u e h d =
      record { spent = high_cycles_of os; within = high_owed os; runs = high_part os pc w v y vs u e h d }

  -- ---- each operation

  -- two words of the stack
  small_pair : (h l : ℕ) (vs : List ℕ) → AreWords (h ∷ (l ∷ vs)) → AreSmall (pair l h)
  small_pair h l vs s = record { low = s.1.0; high = s.0 }

  -- the operation's code ends so
  abbrev Ends : LongOperation → List Waiting → ℕ → Core → Behaviour → Type 0
  Ends o os pc u b = Does z (long_behind o os) (pc + forms_bytes (long_code o os)) (long_cycles o + owed os) u b

  pub long_reaches : (o : LongOperation) (os : List Waiting) (pc : ℕ) (w : WordState) (vs : List ℕ) (u : Core) → w.stack ≡ vs → AreWords vs
      → length vs - long_pops o + long_pushes o ≤ z.room
      → StepDoes z [] os (long o) (long_cycles o) pc w u
      (with_words (long_pops o) vs (λ words rest. goes_on [] (with_stack (long_result o words ++ rest) w)))
  long_reaches (with_longs.Calculate o) os pc w vs u e s room h d =
      let op = with_longs.Calculate o in
      four_taken (Ends op os pc u) vs (made_of op w) tt (λ bh bl ah al rest f.
      let t = subst AreWords f s in
      calculation_reaches w (pair al ah) (pair bl bh) rest (e ∙ f) (small_pair ah al rest t.1.1) (small_pair bh bl (ah ∷ (al ∷ rest)) t) o os pc u h d)
  long_reaches with_longs.Below os pc w vs u e s room h d =
      four_taken (Ends with_longs.Below os pc u) vs (made_of with_longs.Below w) tt (λ bh bl ah al rest f.
      let t = subst AreWords f s in
      below_reaches w (pair al ah) (pair bl bh) rest (e ∙ f) (small_pair ah al rest t.1.1) (small_pair bh bl (ah ∷ (al ∷ rest)) t) os pc u h d)
  long_reaches with_longs.Above os pc w vs u e s room h d =
      four_taken (Ends with_longs.Above os pc u) vs (made_of with_longs.Above w) tt (λ bh bl ah al rest f.
      let t = subst AreWords f s in
      above_reaches w (pair al ah) (pair bl bh) rest (e ∙ f) (small_pair ah al rest t.1.1) (small_pair bh bl (ah ∷ (al ∷ rest)) t) os pc u h d)
  long_reaches (with_longs.ShiftLeft k) os pc w vs u e s room h d =
      let op = with_longs.ShiftLeft k in
      two_taken (Ends op os pc u) vs (made_of op w) tt (λ ah al rest f.
      left_reaches w (pair al ah) rest (e ∙ f) (small_pair ah al rest (subst AreWords f s)) (nat_lt k 16) k os pc u refl h d)
  long_reaches (with_longs.ShiftRight k) os pc w vs u e s room h d =
      let op = with_longs.ShiftRight k in
      two_taken (Ends op os pc u) vs (made_of op w) tt (λ ah al rest f.
      right_reaches w (pair al ah) rest (e ∙ f) (small_pair ah al rest (subst AreWords f s)) (nat_lt k 16) k os pc u refl h d)
  long_reaches with_longs.Complement os pc w vs u e s room h d =
      two_taken (Ends with_longs.Complement os pc u) vs (made_of with_longs.Complement w) tt (λ ah al rest f.
      complement_reaches w (pair al ah) rest (e ∙ f) (small_pair ah al rest (subst AreWords f s)) os pc u h d)
  long_reaches with_longs.Widen os pc w [] u e s room h d = tt
  long_reaches with_longs.Widen os pc w (y ∷ rest) u e s room h d = widen_reaches os pc w y rest u e s.0 (omega (arith, room)) h d
  long_reaches with_longs.Join os pc w vs u e s room h d =
      two_taken (Ends with_longs.Join os pc u) vs (made_of with_longs.Join w) tt (λ ah al rest f.
      join_reaches w (pair al ah) rest (e ∙ f) (small_pair ah al rest (subst AreWords f s)) os pc u h d)
  long_reaches with_longs.LowWord os pc w vs u e s room h d =
      two_taken (Ends with_longs.LowWord os pc u) vs (made_of with_longs.LowWord w) tt (λ v y rest f. low_reaches os pc w v y rest u (e ∙ f) h d)
  long_reaches with_longs.HighWord os pc w vs u e s room h d =
      two_taken (Ends with_longs.HighWord os pc u) vs (made_of with_longs.HighWord w) tt (λ v y rest f. high_reaches os pc w v y rest u (e ∙ f) h d)
