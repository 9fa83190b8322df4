-- The two sides of an operation: the left one in R4, and the right one in R5, or read where it waits.
use Rattle.word_code.specs.Code.{is_turned, compare_sides, compare_source}
use Rattle.word_code.proofs.Names.{source_effects, Comparison, Core, Form, R5, Register, Runs, Source, SourceNeeds, Stands, Waiting, WordState}
use Rattle.word_code.proofs.Names.{WorkRegister, any_held, CodeRules, rules_of, same_Some, local_register}
use Rattle.word_code.proofs.Names.{below_top, cleared, drop, five_from, flushed, forms_bytes, four_from, get_or, kept, rest_source, rests, right_source}
use Rattle.word_code.proofs.Names.{right_to_rest, sides, source_cycles, source_from, source_operand, source_read, source_value, stays, to_memory, to_register}
use Rattle.word_code.proofs.Names.{to_rest, top_of, two_to_registers, update_sides, waiting_source, with_stack, work_number, ◌≡◌, ℕ, ◌+◌, ◌≤◌, Bool, true}
use Rattle.word_code.proofs.Names.{false, if◌then◌else◌, List, [], ◌∷◌, ◌++◌, Option, Some, None, refl, sym, ap, ◌∙◌, subst, arith}
use Rattle.word_code.specs.declared.waiting.Waiting.TheVariants as waiting
use Rattle.word_code.proofs.Stretches.{two_parts, Setting, dearer, nothing_run, so_runs}
use Rattle.word_code.proofs.Registers.{With, HasSides}
use Rattle.word_code.proofs.Middles.{IsRead}
use Rattle.word_code.proofs.Operands.{IsThere, owed, owed_least, load_cycles, load_price, load_owed, store_price, number_cases, source_still, source_quiet}
use Rattle.word_code.proofs.Operands.{source_needs}
use Rattle.word_code.proofs.Operands.{source_word, Describes, Waits, bare, flush_under, drop_part, five_part, four_part, clear_cycles, none_held}
use Rattle.word_code.proofs.Operands.{behind_cleared}
use Rattle.word_code.proofs.Memory.{local_words, Owns, local_word, in_register}
use Rattle.word_code.proofs.Follows.{StandsFor}

-- ---- cycles, at most

-- those in which the right side comes to where it is read, by whether it stays
abbrev pub side_cycles : Bool → Option Waiting → ℕ
side_cycles stay o = if stay then 0 else load_cycles o

-- those in which an operation on a register reads it there
abbrev pub reading_cycles : Bool → ℕ
reading_cycles stay = if stay then 3 else 1

pub reading_price : (stay : Bool) (o : Option Waiting)
    → source_cycles to_register (source_operand (if stay then source_from o else (Register R5))) ≤ reading_cycles stay
reading_price true None = omega arith
reading_price true (Some o) = load_price (Some o)
reading_price false o = omega arith

-- and an operation on a word of FRAM
pub writing_price : (stay : Bool) (o : Option Waiting) → source_cycles to_memory (source_operand (if stay then source_from o else (Register R5))) ≤ 6
writing_price true None = omega arith
writing_price true (Some o) = store_price (Some o)
writing_price false o = omega arith

pub side_owed : (stay : Bool) (os : List Waiting) → side_cycles stay (top_of os) + reading_cycles stay + owed (below_top os) ≤ 3 + owed os
side_owed true [] = omega arith
side_owed true (o ∷ os) = omega (arith, owed_least o)
side_owed false os = omega (arith, load_owed os)

-- whether the right side of a comparison stays
abbrev pub compare_stays : Bool → Option Waiting → Bool
compare_stays turned o = if turned then false else (stays o)

-- ---- a source that gives a word

-- the words of registers by which a word that waits is the same: that in R5, that in R6 where this is said, and the locals
abbrev pub kept_words : Bool → (ℕ → ℕ) → List ℕ
kept_words six g = g 5 ∷ ((if six then g 6 else 0) ∷ local_words g)

-- on each machine with this FRAM and these of its registers' words a source gives this word
pub record Gives (keeps : (ℕ → ℕ) → List ℕ) (x : Source) (v : ℕ) (f : ℕ → ℕ) (ws : List ℕ) : Type 0 where
  pub word : (s : Core) → s.fram ≡ f → keeps s.work ≡ ws → source_value x s ≡ v
  pub needs : (rules : CodeRules) (s : Core) → SourceNeeds rules x s
  pub quiet : (s : Core) → source_effects x s ≡ []
  pub still : (s : Core) → source_read x s ≡ s

abbrev pub GivesOn : Bool → Source → ℕ → (ℕ → ℕ) → (ℕ → ℕ) → Type 0
GivesOn six x v f g = Gives (kept_words six) x v f (kept_words six g)

-- R4 holds a word, and a source gives another
pub record Aiming (six : Bool) (x : Source) (k v : ℕ) (f g : ℕ → ℕ) : Type 0 where
  pub four : g 4 ≡ k
  pub gives : GivesOn six x v f g

pub five_gives : (six : Bool) (v : ℕ) (f g : ℕ → ℕ) → g 5 ≡ v → GivesOn six (Register R5) v f g
five_gives six v f g e = record { word = λ s a l. ap (λ ws. get_or ws 0 0) l ∙ e; needs = λ rules s. tt; quiet = λ s. refl; still = λ s. refl }

-- it stays where it waits, in R6 too where this is said
abbrev pub lies : Bool → Option Waiting → Bool
lies six None = false
lies true (Some o) = stays (Some o)
lies false (Some o) = rests (Some o)

-- a word that stays is the same where FRAM, R6 where this is said and the locals are
word_same : (six : Bool) (owns : ℕ → Type 0) (locals : ℕ → Option ℕ) (o : Waiting) (s t : Core) → lies six (Some o) ≡ true → IsThere owns locals o
    → s.fram ≡ t.fram
    → (if six then s.work 6 else 0) ≡ (if six then t.work 6 else 0) → local_words s.work ≡ local_words t.work
    → source_value (waiting_source o) s ≡ source_value (waiting_source o) t
word_same six owns locals (waiting.Number n) s t b h f k l = number_cases (λ x. source_value x s ≡ source_value x t) n refl (λ c e. refl)
word_same six owns locals (waiting.Fram a) s t b h f k l = ap (λ (g : ℕ → ℕ). g a) f
word_same six owns locals (waiting.Local n) s t b h f k l =
    let e = h.in_register in
    same_Some (s.work (work_number (local_register n))) (t.work (work_number (local_register n)))
    (sym (in_register s.work t.ram n e) ∙ ap (λ ws. local_word ws t.ram n) l ∙ in_register t.work t.ram n e)
word_same true owns locals waiting.R6 s t b h f k l = k
word_same false owns locals waiting.R6 s t b h f k l = absurd (let q = b in (cc))
word_same true owns locals waiting.R4 s t b h f k l = absurd (let q = b in (cc))
word_same false owns locals waiting.R4 s t b h f k l = absurd (let q = b in (cc))

-- it gives its word wherever those that are looked at tell R6 and the locals
pub waiting_gives : (keeps : (ℕ → ℕ) → List ℕ) (six : Bool) (owns : ℕ → Type 0) (locals : ℕ → Option ℕ) (o : Waiting) (v : ℕ) (t : Core)
    → lies six (Some o) ≡ true
    → IsThere owns locals o → source_value (waiting_source o) t ≡ v
    → ((s : Core) → keeps s.work ≡ keeps t.work → ((if six then s.work 6 else 0) ≡ (if six then t.work 6 else 0)) × (local_words s.work ≡ local_words t.work))
    → Gives keeps (waiting_source o) v t.fram (keeps t.work)
waiting_gives keeps six owns locals o v t b h q same =
    record {
      word = λ s a l. let k = same s l in word_same six owns locals o s t b h a k.0 k.1 ∙ q;
      needs = λ rules s. source_needs rules owns locals o s h;
      quiet = λ s. source_quiet o s;
      still = λ s. source_still o s;
    }

-- with other registers, where those words are the same
pub gives_on : (keeps : (ℕ → ℕ) → List ℕ) {x : Source} {v : ℕ} {f : ℕ → ℕ} (g h : ℕ → ℕ) → Gives keeps x v f (keeps g) → keeps h ≡ keeps g
    → Gives keeps x v f (keeps h)
gives_on keeps g h k e = record { word = λ s a b. k.word s a (b ∙ e); needs = k.needs; quiet = k.quiet; still = k.still }

-- and they are where but R4 is the same
kept_same : (six : Bool) (f g : ℕ → ℕ) → ((n : ℕ) → (n ≡ 4 → ⊥) → f n ≡ g n) → kept_words six f ≡ kept_words six g
kept_same six f g h =
    let other : (n : ℕ) → 5 ≤ n → f n ≡ g n = λ n l. h n (λ q. omega (arith, q, l)) in
    λ k. other 5 (omega arith) k ∷ ((if six then other 6 (omega arith) k else 0) ∷ (other 8 (omega arith) k ∷ other 9 (omega arith) k
    ∷ other 10 (omega arith) k ∷ other 11 (omega arith) k ∷ other 12 (omega arith) k ∷ other 13 (omega arith) k ∷ other 14 (omega arith) k
    ∷ other 15 (omega arith) k ∷ []))

-- an operation on a register reads what a source gives
pub is_read : {rules : CodeRules} (six : Bool) (x : Source) (b : WorkRegister) (k v : ℕ) (f : ℕ → ℕ) (t : Core) → t.fram ≡ f → t.work (work_number b) ≡ k
    → GivesOn six x v f t.work → IsRead rules x b k v t t
is_read {rules} six x b k v f t e l g = record { needs = g.needs rules t; quiet = g.quiet t; still = g.still t; left = l; right = g.word t e refl }

module _ (z : Setting) where
  -- the right side to where it is read
  side_by : (stay six : Bool) (os : List Waiting) (pc : ℕ) (w : WordState) (v : ℕ) (vs : List ℕ) (u : Core) → lies six (top_of os) ≡ stay → w.stack ≡ v ∷ vs
      → (let ms : List Form = if stay then [] else five_from (top_of os) in
      let x : Source = if stay then source_from (top_of os) else (Register R5) in Stands z.code pc ms → Describes z os pc w u
      → Runs z.kept [] (side_cycles stay (top_of os)) u (Waits z (below_top os) (pc + forms_bytes ms) (with_stack vs w) (GivesOn six x v w.fram)))
  side_by true six [] pc w v vs u b e h d = absurd (let q = b in (cc))
  side_by true six (o ∷ os) pc w v vs u b e h d =
      let k = drop_part z o os pc w v vs u e d in
      let same : pc ≡ pc + 0 = omega arith in
      nothing_run z (record {
        is = subst (λ n. Describes z os n (with_stack vs w) u) same k.0;
        held = subst (λ f. GivesOn six (waiting_source o) v f u.work) d.is.fram (waiting_gives (kept_words six) six (Owns z) w.locals o v u b d.there.0
            (source_word z o pc (with_stack d.rest w) u d.is d.there.0 ∙ k.1)
            (λ s l. (ap (λ ws. get_or ws 1 0) l, ap (λ (ws : List ℕ). drop 2 ws) l)));
      })
  side_by false six os pc w v vs u b e h d =
      so_runs (five_part z os pc w v vs u e h d) (λ t j. record { is = j.is; held = five_gives six v w.fram t.work j.held.value })

  -- and the left one to R4
  sides_run : (six : Bool) (os : List Waiting) (pc : ℕ) (w : WordState) (x y : ℕ) (vs : List ℕ) (u : Core) → w.stack ≡ y ∷ (x ∷ vs)
      → any_held (below_top (below_top os)) ≡ false → (let under = below_top os in let stay = lies six (top_of os) in
      let ms = (if stay then [] else five_from (top_of os)) ++ four_from (top_of under) in
      let s : Source = if stay then source_from (top_of os) else (Register R5) in Stands z.code pc ms → Describes z os pc w u
      → Runs z.kept [] (side_cycles stay (top_of os) + load_cycles (top_of under)) u
      (Waits z (below_top under) (pc + forms_bytes ms) (with_stack vs w) (Aiming six s x y w.fram)))
  sides_run six os pc w x y vs u e none h d =
      let under = below_top os in
      let stay = lies six (top_of os) in
      let first : List Form = if stay then [] else five_from (top_of os) in
      let s : Source = if stay then source_from (top_of os) else (Register R5) in
      let mid = pc + forms_bytes first in
      let left = with_stack (x ∷ vs) w in
      two_parts z first (four_from (top_of under)) pc (λ n. Waits z (below_top under) n (with_stack vs w) (Aiming six s x y w.fram)) h
      (λ q. side_by stay six os pc w y (x ∷ vs) u refl e q d) (λ t q k.
      so_runs (four_part z under mid left x vs t refl none q k.is) (λ r j. record {
        is = j.is;
        held = record { four = j.held.value; gives = gives_on (kept_words six) t.work r.work k.held (kept_same six r.work t.work j.held.others) };
      }))

  -- the same, words below the two being pushed where one of them waits in a register
  pub sides_part : (os : List Waiting) (pc : ℕ) (w : WordState) (x y : ℕ) (vs : List ℕ) (u : Core) → w.stack ≡ y ∷ (x ∷ vs)
      → Stands z.code pc (sides os) → Describes z os pc w u
      → (let under = below_top os in
      Runs z.kept [] (clear_cycles (below_top under) + (side_cycles (stays (top_of os)) (top_of os) + load_cycles (top_of under))) u
      (Waits z (kept (below_top under)) (pc + forms_bytes (sides os)) (with_stack vs w) (Aiming true (right_source (top_of os)) x y w.fram)))
  sides_part [] pc w x y vs u e h d = sides_run true [] pc w x y vs u e refl h d
  sides_part (o ∷ []) pc w x y vs u e h d = dearer z (omega arith) (sides_run true (o ∷ []) pc w x y vs u e refl h d)
  sides_part (o ∷ (p ∷ os)) pc w x y vs u e h d =
      let more = (if stays (Some o) then [] else five_from (Some o)) ++ four_from (Some p) in
      behind_cleared z (o ∷ (p ∷ [])) os more (side_cycles (stays (Some o)) (Some o) + 3) pc w u
      (λ n. Waits z (kept os) n (with_stack vs w) (Aiming true (right_source (Some o)) x y w.fram)) d h
      (λ t s k. sides_run true (o ∷ (p ∷ kept os)) (pc + forms_bytes (cleared os)) w x y vs t e (none_held os) s k)

  -- the right side to R5
  two_loads : (os : List Waiting) (pc : ℕ) (w : WordState) (x y : ℕ) (vs : List ℕ) (u : Core) → w.stack ≡ y ∷ (x ∷ vs)
      → any_held (below_top (below_top os)) ≡ false → (let ms = five_from (top_of os) ++ four_from (top_of (below_top os)) in Stands z.code pc ms
      → Describes z os pc w u → Runs z.kept [] (load_cycles (top_of os) + load_cycles (top_of (below_top os))) u
      (Waits z (below_top (below_top os)) (pc + forms_bytes ms) (with_stack vs w) (HasSides x y)))
  two_loads os pc w x y vs u e none h d =
      let under = below_top os in
      let first = five_from (top_of os) in
      let mid = pc + forms_bytes first in
      let left = with_stack (x ∷ vs) w in
      two_parts z first (four_from (top_of under)) pc (λ n. Waits z (below_top under) n (with_stack vs w) (HasSides x y)) h
      (λ s. five_part z os pc w y (x ∷ vs) u e s d) (λ t s k. so_runs (four_part z under mid left x vs t refl none s k.is)
      (λ q j. record { is = j.is; held = record { four = j.held.value; five = j.held.others 5 (λ n. omega (arith, n)) ∙ k.held.value } }))

  pub two_to_registers_part : (os : List Waiting) (pc : ℕ) (w : WordState) (x y : ℕ) (vs : List ℕ) (u : Core) → w.stack ≡ y ∷ (x ∷ vs)
      → Stands z.code pc (two_to_registers os) → Describes z os pc w u
      → (let under = below_top os in Runs z.kept [] (clear_cycles (below_top under) + (load_cycles (top_of os) + load_cycles (top_of under))) u
      (Waits z (kept (below_top under)) (pc + forms_bytes (two_to_registers os)) (with_stack vs w) (HasSides x y)))
  two_to_registers_part [] pc w x y vs u e h d = two_loads [] pc w x y vs u e refl h d
  two_to_registers_part (o ∷ []) pc w x y vs u e h d = two_loads (o ∷ []) pc w x y vs u e refl h d
  two_to_registers_part (o ∷ (p ∷ os)) pc w x y vs u e h d =
      let more = five_from (Some o) ++ four_from (Some p) in
      behind_cleared z (o ∷ (p ∷ [])) os more 6 pc w u (λ n. Waits z (kept os) n (with_stack vs w) (HasSides x y)) d h
      (λ t s k. two_loads (o ∷ (p ∷ kept os)) (pc + forms_bytes (cleared os)) w x y vs t e (none_held os) s k)

  -- both sides of a comparison: of R5, the right one, with R4, or the other way round
  compare_by : (turned : Bool) (os : List Waiting) (pc : ℕ) (w : WordState) (x y : ℕ) (vs : List ℕ) (u : Core) → w.stack ≡ y ∷ (x ∷ vs)
      → (let ms : List Form = if turned then two_to_registers os else (sides os) in
      let s : Source = if turned then Register R5 else (right_source (top_of os)) in let under = below_top os in Stands z.code pc ms → Describes z os pc w u
      → Runs z.kept [] (clear_cycles (below_top under) + (side_cycles (compare_stays turned (top_of os)) (top_of os) + load_cycles (top_of under))) u
      (Waits z (kept (below_top under)) (pc + forms_bytes ms) (with_stack vs w) (Aiming true s x y w.fram)))
  compare_by true os pc w x y vs u e h d =
      so_runs (two_to_registers_part os pc w x y vs u e h d) (λ t j. record {
        is = j.is;
        held = record { four = j.held.four; gives = five_gives true y w.fram t.work j.held.five };
      })
  compare_by false os pc w x y vs u e h d = sides_part os pc w x y vs u e h d

  pub compare_sides_part : (c : Comparison) (os : List Waiting) (pc : ℕ) (w : WordState) (x y : ℕ) (vs : List ℕ) (u : Core) → w.stack ≡ y ∷ (x ∷ vs)
      → Stands z.code pc (compare_sides c os) → Describes z os pc w u → (let under = below_top os in let stay = compare_stays (is_turned c) (top_of os) in
      Runs z.kept [] (clear_cycles (below_top under) + (side_cycles stay (top_of os) + load_cycles (top_of under))) u
      (Waits z (kept (below_top under)) (pc + forms_bytes (compare_sides c os)) (with_stack vs w) (Aiming true (compare_source c (top_of os)) x y w.fram)))
  compare_sides_part c os pc w x y vs u e h d = compare_by (is_turned c) os pc w x y vs u e h d

  -- ---- where all words below are pushed

  -- R4 holds a word, a source gives another, and none waits
  abbrev pub Aims : Source → ℕ → WordState → ℕ → ℕ → Core → Type 0
  Aims x pc w k v = With (StandsFor z pc w) (Aiming false x k v w.fram)

  alone : {l : ℕ} {u : Core} {P : (ℕ → ℕ) → Type 0} (pc : ℕ) (w : WordState) → Runs z.kept [] l u (Waits z [] pc w P)
      → Runs z.kept [] l u (With (StandsFor z pc w) P)
  alone pc w a = so_runs a (λ t k. record { is = bare z pc w t k.is; held = k.held })

  pub update_sides_part : (os : List Waiting) (pc : ℕ) (w : WordState) (i v : ℕ) (vs : List ℕ) (u : Core) → w.stack ≡ v ∷ (i ∷ vs)
      → Stands z.code pc (update_sides os) → Describes z os pc w u
      → (let under = below_top os in
      Runs z.kept [] (owed (below_top under) + (side_cycles (rests (top_of os)) (top_of os) + load_cycles (top_of under))) u
      (Aims (rest_source (top_of os)) (pc + forms_bytes (update_sides os)) (with_stack vs w) i v))
  update_sides_part [] pc w i v vs u e h d =
      alone (pc + forms_bytes (update_sides [])) (with_stack vs w) (sides_run false [] pc w i v vs u e refl h d)
  update_sides_part (o ∷ []) pc w i v vs u e h d =
      alone (pc + forms_bytes (update_sides (o ∷ []))) (with_stack vs w)
      (dearer z (omega arith) (sides_run false (o ∷ []) pc w i v vs u e refl h d))
  update_sides_part (o ∷ (p ∷ os)) pc w i v vs u e h d =
      let mid = pc + forms_bytes (flushed os) in
      let last = to_rest (Some o) ++ four_from (Some p) in
      two_parts z (flushed os) last pc (λ n. Aims (rest_source (Some o)) n (with_stack vs w) i v) h
      (flush_under z (o ∷ (p ∷ [])) os pc w u d)
      (λ t s k. alone (mid + forms_bytes last) (with_stack vs w) (sides_run false (o ∷ (p ∷ [])) mid w i v vs t e refl s k.is))

  -- the same without the index
  pub right_part : (o p : Waiting) (os : List Waiting) (pc : ℕ) (w : WordState) (v : ℕ) (vs : List ℕ) (u : Core) → w.stack ≡ v ∷ vs
      → Stands z.code pc (right_to_rest (o ∷ (p ∷ os))) → Describes z (o ∷ (p ∷ os)) pc w u
      → Runs z.kept [] (owed os + side_cycles (rests (Some o)) (Some o)) u
      (Waits z (p ∷ []) (pc + forms_bytes (right_to_rest (o ∷ (p ∷ os)))) (with_stack vs w) (GivesOn false (rest_source (Some o)) v w.fram))
  right_part o p os pc w v vs u e h d =
      let mid = pc + forms_bytes (flushed os) in
      two_parts z (flushed os) (to_rest (Some o)) pc
      (λ n. Waits z (p ∷ []) n (with_stack vs w) (GivesOn false (rest_source (Some o)) v w.fram)) h
      (flush_under z (o ∷ (p ∷ [])) os pc w u d) (λ t s k. side_by (rests (Some o)) false (o ∷ (p ∷ [])) mid w v vs t refl e s k.is)
