-- Longs to registers: the left one to R6 and R4, the right one to where its words are read.
use Rattle.word_code.proofs.Names.{◌≡◌, ℕ, ◌+◌, ◌≤◌, Bool, true, false, if◌then◌else◌, List, [], ◌∷◌, ◌++◌, Option, Some, None, refl, ap, ◌∙◌, subst, arith}
use Rattle.word_code.proofs.Names.{drop, get_or, put, Core, Form, Move, ToRegister, Register, WorkRegister, R5, R6, R7, work_number, Runs, Source}
use Rattle.word_code.proofs.Names.{source_operand, source_cycles, to_register, Stands, forms_bytes, Waiting, WordState, with_stack, top_of, below_top, any_held}
use Rattle.word_code.proofs.Names.{cleared, kept, four_from, rests, source_from, waiting_source}
use Rattle.word_code.specs.declared.waiting.Waiting.TheVariants as waiting
use Rattle.word_code.specs.Code.{below_two, in_six, six_from, pair_from, pair_to_registers, side_from, long_sides, high_source, low_source}
use Rattle.word_code.proofs.Memory.{local_words, Owns}
use Rattle.word_code.proofs.Stretches.{two_parts, Setting, dearer, nothing_run, so_runs}
use Rattle.word_code.proofs.Operands.{owed, load_cycles, load_price, load_owed, source_word, Describes, Waits, IsLoaded, words_same, words_kept, move_part}
use Rattle.word_code.proofs.Operands.{take_part, drop_part, four_part, clear_cycles, none_held, waiting_word, waiting_words, behind_cleared}
use Rattle.word_code.proofs.Sides.{side_cycles, reading_cycles, side_owed, Gives, waiting_gives, gives_on}
use Rattle.word_code.proofs.LongWords.{Pair}

-- ---- a source that gives a word of the right side

-- the words of registers by which it is the same: that in the register that the word comes to, and the locals
abbrev pub side_words : WorkRegister → (ℕ → ℕ) → List ℕ
side_words b g = g (work_number b) ∷ local_words g

-- on each machine with this FRAM and such words in its registers it gives this word
abbrev pub ShowsOn : WorkRegister → Source → ℕ → (ℕ → ℕ) → (ℕ → ℕ) → Type 0
ShowsOn b x v f g = Gives (side_words b) x v f (side_words b g)

-- a register for the right side: no word waits there
pub record IsSpare (b : WorkRegister) : Type 0 where
  pub locals : (f : ℕ → ℕ) (y : ℕ) → local_words (put f (work_number b) y) ≡ local_words f
  pub four : (f : ℕ → ℕ) (y : ℕ) → put f (work_number b) y 4 ≡ f 4
  pub six : (f : ℕ → ℕ) (y : ℕ) → put f (work_number b) y 6 ≡ f 6

five_spare : IsSpare R5
five_spare = record { locals = λ f y. refl; four = λ f y. refl; six = λ f y. refl }

seven_spare : IsSpare R7
seven_spare = record { locals = λ f y. refl; four = λ f y. refl; six = λ f y. refl }

register_shows : (b : WorkRegister) (v : ℕ) (f g : ℕ → ℕ) → g (work_number b) ≡ v → ShowsOn b (Register b) v f g
register_shows b v f g e = record { word = λ s a l. ap (λ ws. get_or ws 0 0) l ∙ e; needs = λ rules s. tt; quiet = λ s. refl; still = λ s. refl }

-- those words are the same where that register and those of the locals are
side_same : (b : WorkRegister) (f g : ℕ → ℕ) → f (work_number b) ≡ g (work_number b) → ((n : ℕ) → 8 ≤ n → f n ≡ g n) → side_words b f ≡ side_words b g
side_same b f g e h =
    λ k. e k ∷ (h 8 (omega arith) k ∷ h 9 (omega arith) k ∷ h 10 (omega arith) k ∷ h 11 (omega arith) k ∷ h 12 (omega arith) k ∷ h 13 (omega arith) k
    ∷ h 14 (omega arith) k ∷ h 15 (omega arith) k ∷ [])

-- a source gives a word, and but for one register the others are as they were
record IsAside (b : WorkRegister) (x : Source) (v : ℕ) (f g h : ℕ → ℕ) : Type 0 where
  gives : ShowsOn b x v f h
  others : (n : ℕ) → (n ≡ work_number b → ⊥) → h n ≡ g n

-- sources give the words of a long
record ShowsLong (x y : Source) (b : Pair) (f g : ℕ → ℕ) : Type 0 where
  low : ShowsOn R5 x b.low f g
  high : ShowsOn R7 y b.high f g

-- R4 and R6 hold a long
pub record HasPair (a : Pair) (g : ℕ → ℕ) : Type 0 where
  pub four : g 4 ≡ a.low
  pub six : g 6 ≡ a.high

-- the other registers are as they were
record IsPaired (a : Pair) (g h : ℕ → ℕ) : Type 0 where
  held : HasPair a h
  others : (n : ℕ) → (n ≡ 4 → ⊥) → (n ≡ 6 → ⊥) → h n ≡ g n

-- R4 and R6 hold a long, and sources give another
pub record HasLongs (x y : Source) (a b : Pair) (f g : ℕ → ℕ) : Type 0 where
  pub four : g 4 ≡ a.low
  pub six : g 6 ≡ a.high
  pub low : ShowsOn R5 x b.low f g
  pub high : ShowsOn R7 y b.high f g

-- the words below the top are the same with another word in R6, where the first of them doesn't wait there, nor any other in a register
low_same : (f : ℕ → ℕ) (l : ℕ → Option ℕ) (g : ℕ → ℕ) (y : ℕ) (os : List Waiting) → in_six (top_of os) ≡ false → any_held (below_top os) ≡ false
    → waiting_words f l (put g 6 y) os ≡ waiting_words f l g os
low_same f l g y [] e none = refl
low_same f l g y (waiting.R6 ∷ os) e none = absurd (let q = e in (cc))
low_same f l g y (waiting.R4 ∷ os) e none = ap (λ xs. g 4 ∷ xs) (words_kept f l (put g 6 y) g os none)
low_same f l g y (o ∷ os) e none = ap (λ xs. waiting_word f l g o ∷ xs) (words_kept f l (put g 6 y) g os none)

-- ---- cycles, at most

-- those in which the words of the right side come to where they are read
abbrev pub right_cycles : List Waiting → ℕ
right_cycles os = side_cycles (rests (top_of os)) (top_of os) + side_cycles (rests (top_of (below_top os))) (top_of (below_top os))

-- and the left ones to R6 and R4
abbrev pub pair_cycles : List Waiting → ℕ
pair_cycles os = load_cycles (top_of os) + load_cycles (top_of (below_top os))

-- those of an instruction that reads the low word of the right side, and the high one
abbrev pub low_cycles : List Waiting → ℕ
low_cycles os = reading_cycles (rests (top_of (below_top os)))

abbrev pub high_cycles : List Waiting → ℕ
high_cycles os = reading_cycles (rests (top_of os))

source_price : (stay : Bool) (b : WorkRegister) (o : Option Waiting)
    → source_cycles to_register (source_operand (if stay then source_from o else (Register b))) ≤ reading_cycles stay
source_price true b None = omega arith
source_price true b (Some o) = load_price (Some o)
source_price false b o = omega arith

pub low_price : (os : List Waiting) → source_cycles to_register (source_operand (low_source os)) ≤ low_cycles os
low_price os = source_price (rests (top_of (below_top os))) R5 (top_of (below_top os))

pub high_price : (os : List Waiting) → source_cycles to_register (source_operand (high_source os)) ≤ high_cycles os
high_price os = source_price (rests (top_of os)) R7 (top_of os)

pub pair_owed : (os : List Waiting) → pair_cycles os + owed (below_two os) ≤ 4 + owed os
pair_owed os = omega (arith, load_owed os, load_owed (below_top os))

-- the two longs and both instructions
pub longs_owed : (os : List Waiting) → right_cycles os + pair_cycles (below_two os) + (low_cycles os + high_cycles os) + owed (below_two (below_two os))
    ≤ 10 + owed os
longs_owed os =
    omega (
      arith,
      side_owed (rests (top_of os)) os,
      side_owed (rests (top_of (below_top os))) (below_top os),
      pair_owed (below_two os),
    )

module _ (z : Setting) where
  -- ---- the right side

  -- a word of it
  side_by : (stay : Bool) (b : WorkRegister) (os : List Waiting) (pc : ℕ) (w : WordState) (v : ℕ) (vs : List ℕ) (u : Core) → IsSpare b
      → rests (top_of os) ≡ stay → w.stack ≡ v ∷ vs
      → (let ms : List Form = if stay then [] else (Move (source_from (top_of os)) (ToRegister b) ∷ []) in
      let x : Source = if stay then source_from (top_of os) else (Register b) in Stands z.code pc ms → Describes z os pc w u
      → Runs z.kept [] (side_cycles stay (top_of os)) u (Waits z (below_top os) (pc + forms_bytes ms) (with_stack vs w) (IsAside b x v w.fram u.work)))
  side_by true b [] pc w v vs u spare r e h d = absurd (let q = r in (cc))
  side_by true b (o ∷ os) pc w v vs u spare r e h d =
      let k = drop_part z o os pc w v vs u e d in
      let same : pc ≡ pc + 0 = omega arith in
      nothing_run z (record {
        is = subst (λ n. Describes z os n (with_stack vs w) u) same k.0;
        held = record {
          gives = subst (λ f. ShowsOn b (waiting_source o) v f u.work) d.is.fram (waiting_gives (side_words b) false (Owns z) w.locals o v u r d.there.0
              (source_word z o pc (with_stack d.rest w) u d.is d.there.0 ∙ k.1) (λ s l. (refl, ap (λ (ws : List ℕ). drop 1 ws) l)));
          others = λ n ne. refl;
        };
      })
  side_by false b os pc w v vs u spare r e h d =
      so_runs (move_part z b (top_of os) (below_top os) pc w v vs u spare.locals
      (λ f y. words_same w.fram w.locals (put f (work_number b) y) f (below_top os) (spare.four f y) (spare.six f y)) h (take_part z os pc w v vs u e d))
      (λ t j. record {
        is = j.is;
        held = record { gives = register_shows b v w.fram t.work j.held.value; others = j.held.others };
      })

  -- both
  right_part : (os : List Waiting) (pc : ℕ) (w : WordState) (b : Pair) (vs : List ℕ) (u : Core) → w.stack ≡ b.high ∷ (b.low ∷ vs)
      → (let ms = side_from R7 (top_of os) ++ side_from R5 (top_of (below_top os)) in Stands z.code pc ms → Describes z os pc w u
      → Runs z.kept [] (right_cycles os) u (Waits z (below_two os) (pc + forms_bytes ms) (with_stack vs w)
      (ShowsLong (low_source os) (high_source os) b w.fram)))
  right_part os pc w b vs u e h d =
      let under = below_top os in
      let first = side_from R7 (top_of os) in
      let mid = pc + forms_bytes first in
      let left = with_stack (b.low ∷ vs) w in
      two_parts z first (side_from R5 (top_of under)) pc
      (λ n. Waits z (below_two os) n (with_stack vs w) (ShowsLong (low_source os) (high_source os) b w.fram)) h
      (λ s. side_by (rests (top_of os)) R7 os pc w b.high (b.low ∷ vs) u seven_spare refl e s d)
      (λ t s k. so_runs (side_by (rests (top_of under)) R5 under mid left b.low vs t five_spare refl refl s k.is) (λ q j. record {
        is = j.is;
        held = record {
          low = j.held.gives;
          high = gives_on (side_words R7) t.work q.work k.held.gives
              (side_same R7 q.work t.work (j.held.others 7 (λ n. omega (arith, n))) (λ n l. j.held.others n (λ q. omega (arith, q, l))));
        };
      }))

  -- ---- the left one

  six_move : (os : List Waiting) (pc : ℕ) (w : WordState) (v : ℕ) (vs : List ℕ) (u : Core) → w.stack ≡ v ∷ vs → in_six (top_of (below_top os)) ≡ false
      → any_held (below_two os) ≡ false
      → (let m = Move (source_from (top_of os)) (ToRegister R6) in Stands z.code pc (m ∷ []) → Describes z os pc w u
      → Runs z.kept [] (load_cycles (top_of os)) u (Waits z (below_top os) (pc + forms_bytes (m ∷ [])) (with_stack vs w) (IsLoaded R6 v u.work)))
  six_move os pc w v vs u e apart none h d =
      move_part z R6 (top_of os) (below_top os) pc w v vs u (λ f y. refl) (λ f y. low_same w.fram w.locals f y (below_top os) apart none) h
      (take_part z os pc w v vs u e d)

  six_part : (os : List Waiting) (pc : ℕ) (w : WordState) (v : ℕ) (vs : List ℕ) (u : Core) → w.stack ≡ v ∷ vs → in_six (top_of (below_top os)) ≡ false
      → any_held (below_two os) ≡ false → Stands z.code pc (six_from (top_of os)) → Describes z os pc w u
      → Runs z.kept [] (load_cycles (top_of os)) u
      (Waits z (below_top os) (pc + forms_bytes (six_from (top_of os))) (with_stack vs w) (IsLoaded R6 v u.work))
  six_part (waiting.R6 ∷ os) pc w v vs u e apart none h d =
      let k = take_part z (waiting.R6 ∷ os) pc w v vs u e d in
      let same : pc ≡ pc + 0 = omega arith in
      dearer z (omega arith)
      (nothing_run z (record {
        is = subst (λ n. Describes z os n (with_stack vs w) u) same k.left;
        held = record { value = k.value; others = λ n ne. refl };
      }))
  six_part os pc w v vs u e apart none h d = six_move os pc w v vs u e apart none h d

  pair_part : (os : List Waiting) (pc : ℕ) (w : WordState) (a : Pair) (vs : List ℕ) (u : Core) → w.stack ≡ a.high ∷ (a.low ∷ vs)
      → in_six (top_of (below_top os)) ≡ false → any_held (below_two os) ≡ false → Stands z.code pc (pair_from os) → Describes z os pc w u
      → Runs z.kept [] (pair_cycles os) u (Waits z (below_two os) (pc + forms_bytes (pair_from os)) (with_stack vs w) (IsPaired a u.work))
  pair_part os pc w a vs u e apart none h d =
      let under = below_top os in
      let first = six_from (top_of os) in
      let mid = pc + forms_bytes first in
      let left = with_stack (a.low ∷ vs) w in
      two_parts z first (four_from (top_of under)) pc (λ n. Waits z (below_two os) n (with_stack vs w) (IsPaired a u.work)) h
      (λ s. six_part os pc w a.high (a.low ∷ vs) u e apart none s d)
      (λ t s k. so_runs (four_part z under mid left a.low vs t refl none s k.is) (λ q j. record {
        is = j.is;
        held = record {
          held = record { four = j.held.value; six = j.held.others 6 (λ n. omega (arith, n)) ∙ k.held.value };
          others = λ n four six. j.held.others n four ∙ k.held.others n six;
        };
      }))

  only_pair : {os : List Waiting} {pc n : ℕ} {w : WordState} {a : Pair} {g : ℕ → ℕ} {u : Core} → Runs z.kept [] n u (Waits z os pc w (IsPaired a g))
      → Runs z.kept [] n u (Waits z os pc w (HasPair a))
  only_pair x = so_runs x (λ t k. record { is = k.is; held = k.held.held })

  -- with words below it that may wait in registers
  pub pair_to_registers_part : (os : List Waiting) (pc : ℕ) (w : WordState) (a : Pair) (vs : List ℕ) (u : Core) → w.stack ≡ a.high ∷ (a.low ∷ vs)
      → in_six (top_of (below_top os)) ≡ false → Stands z.code pc (pair_to_registers os) → Describes z os pc w u
      → Runs z.kept [] (clear_cycles (below_two os) + pair_cycles os) u
      (Waits z (kept (below_two os)) (pc + forms_bytes (pair_to_registers os)) (with_stack vs w) (HasPair a))
  pair_to_registers_part [] pc w a vs u e apart h d = only_pair (pair_part [] pc w a vs u e refl refl h d)
  pair_to_registers_part (o ∷ []) pc w a vs u e apart h d = only_pair (pair_part (o ∷ []) pc w a vs u e refl refl h d)
  pair_to_registers_part (o ∷ (p ∷ os)) pc w a vs u e apart h d =
      behind_cleared z (o ∷ (p ∷ [])) os (pair_from (o ∷ (p ∷ []))) 6 pc w u (λ n. Waits z (kept os) n (with_stack vs w) (HasPair a)) d h
      (λ t s k. only_pair (pair_part (o ∷ (p ∷ kept os)) (pc + forms_bytes (cleared os)) w a vs t e apart (none_held os) s k))

  -- ---- both longs

  long_loads : (os : List Waiting) (pc : ℕ) (w : WordState) (a b : Pair) (vs : List ℕ) (u : Core)
      → w.stack ≡ b.high ∷ (b.low ∷ (a.high ∷ (a.low ∷ vs))) → in_six (top_of (below_top (below_two os))) ≡ false
      → any_held (below_two (below_two os)) ≡ false
      → (let ms = (side_from R7 (top_of os) ++ side_from R5 (top_of (below_top os))) ++ pair_from (below_two os) in Stands z.code pc ms
      → Describes z os pc w u → Runs z.kept [] (right_cycles os + pair_cycles (below_two os)) u
      (Waits z (below_two (below_two os)) (pc + forms_bytes ms) (with_stack vs w) (HasLongs (low_source os) (high_source os) a b w.fram)))
  long_loads os pc w a b vs u e apart none h d =
      let under = below_two os in
      let right = side_from R7 (top_of os) ++ side_from R5 (top_of (below_top os)) in
      let mid = pc + forms_bytes right in
      let left = with_stack (a.high ∷ (a.low ∷ vs)) w in
      two_parts z right (pair_from under) pc
      (λ n. Waits z (below_two under) n (with_stack vs w) (HasLongs (low_source os) (high_source os) a b w.fram)) h
      (λ s. right_part os pc w b (a.high ∷ (a.low ∷ vs)) u e s d)
      (λ t s k. so_runs (pair_part under mid left a vs t refl apart none s k.is) (λ q j.
      let high : (n : ℕ) → 8 ≤ n → q.work n ≡ t.work n = λ n l. j.held.others n (λ x. omega (arith, x, l)) (λ x. omega (arith, x, l)) in
      let other : (n : ℕ) → (n ≡ 4 → ⊥) → (n ≡ 6 → ⊥) → q.work n ≡ t.work n = j.held.others in
      record {
        is = j.is;
        held = record {
          four = j.held.held.four;
          six = j.held.held.six;
          low = gives_on (side_words R5) t.work q.work k.held.low
              (side_same R5 q.work t.work (other 5 (λ n. omega (arith, n)) (λ n. omega (arith, n))) high);
          high = gives_on (side_words R7) t.work q.work k.held.high
              (side_same R7 q.work t.work (other 7 (λ n. omega (arith, n)) (λ n. omega (arith, n))) high);
        };
      }))

  -- with words below them that may wait in registers
  pub long_sides_part : (os : List Waiting) (pc : ℕ) (w : WordState) (a b : Pair) (vs : List ℕ) (u : Core)
      → w.stack ≡ b.high ∷ (b.low ∷ (a.high ∷ (a.low ∷ vs))) → in_six (top_of (below_top (below_two os))) ≡ false → Stands z.code pc (long_sides os)
      → Describes z os pc w u → (let under = below_two (below_two os) in
      Runs z.kept [] (clear_cycles under + (right_cycles os + pair_cycles (below_two os))) u
      (Waits z (kept under) (pc + forms_bytes (long_sides os)) (with_stack vs w) (HasLongs (low_source os) (high_source os) a b w.fram)))
  long_sides_part [] pc w a b vs u e apart h d = dearer z (omega arith) (long_loads [] pc w a b vs u e refl refl h d)
  long_sides_part (o ∷ []) pc w a b vs u e apart h d = dearer z (omega arith) (long_loads (o ∷ []) pc w a b vs u e refl refl h d)
  long_sides_part (o ∷ (p ∷ [])) pc w a b vs u e apart h d = dearer z (omega arith) (long_loads (o ∷ (p ∷ [])) pc w a b vs u e refl refl h d)
  long_sides_part (o ∷ (p ∷ (q ∷ []))) pc w a b vs u e apart h d =
      dearer z (omega arith) (long_loads (o ∷ (p ∷ (q ∷ []))) pc w a b vs u e refl refl h d)
  long_sides_part (o ∷ (p ∷ (q ∷ (r ∷ os)))) pc w a b vs u e apart h d =
      let four = o ∷ (p ∷ (q ∷ (r ∷ []))) in
      let more = (side_from R7 (Some o) ++ side_from R5 (Some p)) ++ pair_from (q ∷ (r ∷ [])) in
      behind_cleared z four os more (right_cycles four + 6) pc w u
      (λ n. Waits z (kept os) n (with_stack vs w) (HasLongs (low_source four) (high_source four) a b w.fram)) d h
      (λ t s k. long_loads (o ∷ (p ∷ (q ∷ (r ∷ kept os)))) (pc + forms_bytes (cleared os)) w a b vs t e apart (none_held os) s k)
