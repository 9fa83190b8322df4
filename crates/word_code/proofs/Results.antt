-- Steps where words wait: values that come to wait in a register, and statements behind which none waits.
use Rattle.word_code.proofs.Names.{AllByRecursion, stays, ◌≡◌, ℕ, ◌+◌, ◌*◌, ◌<◌, ◌≤◌, ◌-◌, ◌/◌, ◌%◌, ◌^◌, ◌==◌, ◌&&◌, Bool, true, false, nat_lt, if◌then◌else◌}
use Rattle.word_code.proofs.Names.{suc, List, [], ◌∷◌, ◌++◌, length, Option, Some, None, refl, sym, ap, ◌∙◌, subst, arith, bit_and, w16, ltb-true, eqb-true}
use Rattle.word_code.proofs.Names.{ne_eqb, le-leb, Step, and_parts, same_Some, and_mask, pow_pos, word_sum, word_product, quotient, remainder}
use Rattle.word_code.proofs.Names.{unwrap_or, Take, put}
use Rattle.word_code.proofs.Names.{IsPlace, R4, R5, R6, Core, Form, Move, Calculate, Update, Push, Ram, ToFram, sensed, Stands, forms_bytes, Runs, stands_front}
use Rattle.word_code.proofs.Names.{stands_back, forms_bytes-append, ArrayPlace, ListPlace, UnaryOperation, Negate, Complement, BinaryOperation, Multiply}
use Rattle.word_code.proofs.Names.{Divide, Remainder, Plain, PlainOperation, And, ShiftOperation, Left, Right, unary_word, plain_word, binary_word, shift_word}
use Rattle.word_code.proofs.Names.{keep, update, set_local, update_local, unary, binary, shift, element, emit_word, versioned_read, versioned_write, sense}
use Rattle.word_code.proofs.Names.{WordState, Behaviour, GoesOn, goes_on, with_top, with_two, with_stack, with_local, pushed, is_place, at_place, word_stored}
use Rattle.word_code.proofs.Names.{word_emitted, element_pushed, own_element, versioned_pushed, versioned_stored, reading_pushed, unary_cycles, binary_cycles}
use Rattle.word_code.proofs.Names.{Bound, Waiting, local_address, local_target, flushed, top_of, source_from, below_top, any_held, cleared, kept, top_to_four}
use Rattle.word_code.proofs.Names.{top_to_five, plain_instruction, update_code, sides, right_source, power, known_element, two_code, power_code, power_result}
use Rattle.word_code.proofs.Names.{two_to_registers, unary_middle, binary_middle, binary_result, shift_middle, element_code, emit_code, read_code, write_code}
use Rattle.word_code.proofs.Names.{top_number, element_at, is_inside, waiting_behind, step_code, Store, stored, with_readings, Inputs}
use Rattle.std.specs.Int.{trailing_zeros}
use Rattle.code_forms.specs.Forms as forms
use Rattle.word_code.specs.declared.waiting.Waiting.TheVariants as waiting
use Rattle.word_code.proofs.Memory.{Owns, HoldsWords, AreWords, place_is}
use Rattle.word_code.proofs.Stretches.{two_parts, Setting, hop, dearer_stall, nothing_run, so_runs, starved}
use Rattle.word_code.proofs.Registers.{With, HasWord, HasSides, Holds}
use Rattle.word_code.proofs.Operands.{Waits, IsThere, owed_by, owed, none_held, clear_cycles, owed_kept, load_cycles, load_owed, store_cycles, store_owed}
use Rattle.word_code.proofs.Operands.{Describes, Top, waiting_word, bare, dressed, flush_under, flush_part, clear_under, below_part, top_to_four_part}
use Rattle.word_code.proofs.Operands.{top_to_five_part, waits_more, drop_part, take_part, describes_on, all_wait, words_kept, owed_append, waiting_words}
use Rattle.word_code.proofs.Sides.{Aiming, is_read, side_cycles, reading_cycles, reading_price, side_owed, sides_part, two_to_registers_part}
use Rattle.word_code.proofs.Middles.{plain_step, UnaryMiddle, negate_middle, complement_middle}
use Rattle.word_code.proofs.Follows.{StandsFor, stands_elsewhere, Follows, Reaches, reach_more, then_reach, reaches, reach_guarded}
use Rattle.word_code.proofs.LoopBounds.{Bounded, top_inside, under_inside}
use Rattle.word_code.specs.Code.{any_at}
use Rattle.word_code.proofs.Parts.{local_part, keep_part, keep_beside, set_part}
use Rattle.word_code.proofs.Updates.{update_part, update_local_part}
use Rattle.word_code.proofs.Products.{multiply_within, multiply_middle}
use Rattle.word_code.proofs.Quotients.{divide_part, remainder_part}
use Rattle.word_code.proofs.ShiftParts.{shift_part}
use Rattle.word_code.proofs.Access.{past_end, before_end, emit_part}
use Rattle.word_code.proofs.VersionParts.{past_read, own_copy, own_home, write_part}

unary_price : (o : UnaryOperation) → unary_cycles o ≡ 7
unary_price Negate = refl
unary_price Complement = refl

-- a power of two
power_cases : (b : Bool) (k n : ℕ) (j : ℕ) → (nat_lt k 16 && (n == 2 ^ k)) ≡ b → (if b then Some k else None) ≡ Some j → (j < 16) × (n ≡ 2 ^ j)
power_cases true k n j e q =
    let same = same_Some k j q in
    let both = and_parts (nat_lt k 16) (n == 2 ^ k) e in
    subst (λ m. (m < 16) × (n ≡ 2 ^ m)) same (ltb-true k 16 both.0, eqb-true n (2 ^ k) both.1)
power_cases false k n j e q = absurd (let r = q in (cc))

power_is : (n k : ℕ) → power n ≡ Some k → (k < 16) × (n ≡ 2 ^ k)
power_is n k q = let t = trailing_zeros w16 n in power_cases (nat_lt t 16 && (n == 2 ^ t)) t n k refl q

shift_left : (x k : ℕ) → k < 16 → shift_word Left x k ≡ word_product x (2 ^ k)
shift_left x k l = ap (λ b. if b then word_product x (2 ^ k) else 0) (le-leb k 15 (omega arith))

shift_right : (x k : ℕ) → k < 16 → shift_word Right x k ≡ quotient x (2 ^ k)
shift_right x k l =
    ap (λ b. if b then x / 2 ^ k else 0) (le-leb k 15 (omega arith))
    ∙ sym (ap (λ b. if b then 0xFFFF else x / 2 ^ k) (ne_eqb (2 ^ k) 0 (λ e. let p = pow_pos k in omega arith)))

mask_rest : (x k : ℕ) → bit_and x (2 ^ k - 1) ≡ remainder x (2 ^ k)
mask_rest x k =
    and_mask x k ∙ sym (ap (λ b. if b then x else x % 2 ^ k) (ne_eqb (2 ^ k) 0 (λ e. let p = pow_pos k in omega arith)))

module _ (z : Setting) where
  -- what code does, and the words that wait behind it
  abbrev pub Does : List Waiting → ℕ → ℕ → Core → Behaviour → Type 0
  Does os pc most u b = Reaches z (owed os) (Describes z os pc) most u b.effects b.end

  -- what the code of a step does where it stands, within so many cycles and those that the words that wait have paid for
  abbrev pub StepDoes : List Bound → List Waiting → Step → ℕ → ℕ → WordState → Core → Behaviour → Type 0
  StepDoes bs os s cost pc w u b = Stands z.code pc (step_code bs os s) → Describes z os pc w u
      → Does (waiting_behind os s) (pc + forms_bytes (step_code bs os s)) (cost + owed os) u b

  module _ {l : ℕ} {P : Core → Type 0} (front ms : List Form) where
    -- code behind other code
    pub does_behind : (os : List Waiting) (c most pc : ℕ) (u : Core) (b : Behaviour) → l + c ≤ most → Stands z.code pc (front ++ ms)
        → (Stands z.code pc front → Runs z.kept [] l u P)
        → (let mid = pc + forms_bytes front in ((t : Core) → Stands z.code mid ms → P t → Does os (mid + forms_bytes ms) c t b)
        → Does os (pc + forms_bytes (front ++ ms)) most u b)
    does_behind os c most pc u b le h come f =
        let end = pc + forms_bytes front + forms_bytes ms in
        let there : end ≡ pc + forms_bytes (front ++ ms) = omega (arith, forms_bytes-append front ms) in
        subst (λ p. Does os p most u b) there
        (reach_more z (owed os) (Describes z os end) (l + c) most u b.effects b.end le
        (then_reach z (owed os) (Describes z os end) l c u P [] b.effects b.end (come (stands_front z.code pc front ms h))
        (λ t k. f t (stands_back z.code pc front ms h) k)))

  -- the same where no word waits behind it
  pub alone_behind : {l : ℕ} {P : Core → Type 0} (front ms : List Form) (c most pc : ℕ) (u : Core) (b : Behaviour) → l + c ≤ most
      → Stands z.code pc (front ++ ms) → (Stands z.code pc front → Runs z.kept [] l u P)
      → (let mid = pc + forms_bytes front in ((t : Core) → Stands z.code mid ms → P t → Follows z (mid + forms_bytes ms) c t b)
      → Does [] (pc + forms_bytes (front ++ ms)) most u b)
  alone_behind {l} {P} front ms c most pc u b le h come f =
      let end = pc + forms_bytes front + forms_bytes ms in
      does_behind front ms [] c most pc u b le h come (λ t s k. reaches z (Describes z [] end) end c t b.effects b.end (dressed z end) (f t s k))

  -- ---- templates: from words that wait in registers, or come there, to words that wait in registers

  -- forms make of registers with one fact registers with another, wherever they stand and whatever the stack is
  abbrev pub Makes : ((ℕ → ℕ) → Type 0) → WordState → List Form → ℕ → ((ℕ → ℕ) → Type 0) → Type 0
  Makes P w ms c Q = (pc : ℕ) (xs : List ℕ) (t : Core) → Stands z.code pc ms → Holds z P pc (with_stack xs w) t
      → Runs z.kept [] c t (Holds z Q (pc + forms_bytes ms) (with_stack xs w))

  -- words taken from the top come to registers: by which code, with which words below them, which are pushed where one of them waits in a register, and
  -- within how many cycles besides
  pub record Fetched (pc : ℕ) (w : WordState) (vs : List ℕ) (u : Core) (P : (ℕ → ℕ) → Type 0) : Type 0 where
    pub front : List Form
    pub below : List Waiting
    pub cycles : ℕ
    pub taken : ℕ
    pub room : taken + length vs ≤ z.room
    pub come : Stands z.code pc front → Runs z.kept [] (clear_cycles below + cycles) u (Waits z (kept below) (pc + forms_bytes front) (with_stack vs w) P)

  -- and what is made of them: where the results wait, and which they are
  pub record Template (w : WordState) (P : (ℕ → ℕ) → Type 0) : Type 0 where
    pub forms : List Form
    pub cycles : ℕ
    pub gives : List Waiting
    pub words : List ℕ
    pub there : AllByRecursion (IsThere (Owns z) w.locals) gives
    pub makes : Makes P w forms cycles (λ g. waiting_words w.fram w.locals g gives ≡ words)

  pub template : {pc : ℕ} {w : WordState} {vs : List ℕ} {u : Core} {P : (ℕ → ℕ) → Type 0} (f : Fetched pc w vs u P) (m : Template w P) (most : ℕ)
      → length m.gives ≤ f.taken → f.cycles + m.cycles + (owed f.below + owed m.gives) ≤ most → Stands z.code pc (f.front ++ m.forms)
      → Does (m.gives ++ kept f.below) (pc + forms_bytes (f.front ++ m.forms)) most u (goes_on [] (with_stack (m.words ++ vs) w))
  template {pc} {w} {vs} {u} f m most few budget h =
      let mid = pc + forms_bytes f.front in
      let end = mid + forms_bytes m.forms in
      let under = kept f.below in
      let paid = owed_kept f.below in
      let l = clear_cycles f.below + f.cycles in
      does_behind {l = l} f.front m.forms (m.gives ++ under) (most - l) most pc u (goes_on [] (with_stack (m.words ++ vs) w)) (omega (arith, budget, paid)) h
      f.come (λ t s k. record {
        spent = m.cycles;
        within = omega (arith, budget, paid, owed_append m.gives under);
        runs = so_runs (m.makes mid k.is.rest t s (record { is = k.is.is; held = k.held })) (λ q j.
            let same = words_kept w.fram w.locals q.work t.work under (none_held f.below) in
            let still = describes_on z under mid end (with_stack vs w) w.inputs t q k.is same j.is in
            subst (λ xs. Describes z (m.gives ++ under) end (with_stack (xs ++ vs) w) q) j.held
            (all_wait z m.gives under end w vs q m.there (omega (arith, few, f.room)) still));
      })

  -- forms whose results are what registers hold
  abbrev pub leaves_words : {w : WordState} {P Q : (ℕ → ℕ) → Type 0} (gives : List Waiting) (words : List ℕ)
      → AllByRecursion (IsThere (Owns z) w.locals) gives → ((g : ℕ → ℕ) → Q g → waiting_words w.fram w.locals g gives ≡ words)
      → (ms : List Form) (c : ℕ) → Makes P w ms c Q → Template w P
  leaves_words gives words there is ms c f = record {
    forms = ms;
    cycles = c;
    gives = gives;
    words = words;
    there = there;
    makes = λ pc xs t s k. so_runs (f pc xs t s k) (λ q j. record { is = j.is; held = is q.work j.held });
  }

  -- a word in R4, and one in R6
  abbrev pub in_four : {w : WordState} {P : (ℕ → ℕ) → Type 0} (ms : List Form) (c r : ℕ) → Makes P w ms c (HasWord R4 r) → Template w P
  in_four ms c r f = leaves_words (waiting.R4 ∷ []) (r ∷ []) (tt, tt) (λ g q. ap (λ x. x ∷ []) q) ms c f

  abbrev pub in_six : {w : WordState} {P : (ℕ → ℕ) → Type 0} (ms : List Form) (c r : ℕ) → Makes P w ms c (HasWord R6 r) → Template w P
  in_six ms c r f = leaves_words (waiting.R6 ∷ []) (r ∷ []) (tt, tt) (λ g q. ap (λ x. x ∷ []) q) ms c f

  abbrev pub fetched : {pc : ℕ} {w : WordState} {vs : List ℕ} {u : Core} {P : (ℕ → ℕ) → Type 0} (front : List Form) (below : List Waiting) (c n : ℕ)
      → n + length vs ≤ z.room
      → (Stands z.code pc front → Runs z.kept [] (clear_cycles below + c) u (Waits z (kept below) (pc + forms_bytes front) (with_stack vs w) P))
      → Fetched pc w vs u P
  fetched front below c n room come = record { front = front; below = below; cycles = c; taken = n; room = room; come = come }

  -- the top comes to R4, and to R5
  abbrev pub four_fetched : (os : List Waiting) (pc : ℕ) (w : WordState) (v : ℕ) (vs : List ℕ) (u : Core) → w.stack ≡ v ∷ vs → Describes z os pc w u
      → Fetched pc w vs u (HasWord R4 v)
  four_fetched os pc w v vs u e d =
      fetched (top_to_four os) (below_top os) (load_cycles (top_of os)) 1 (omega (arith, d.fits, ap (length {A = ℕ}) e))
      (λ s. top_to_four_part z os pc w v vs u e s d)

  abbrev five_fetched : (os : List Waiting) (pc : ℕ) (w : WordState) (v : ℕ) (vs : List ℕ) (u : Core) → w.stack ≡ v ∷ vs → Describes z os pc w u
      → Fetched pc w vs u (HasWord R5 v)
  five_fetched os pc w v vs u e d =
      fetched (top_to_five os) (below_top os) (load_cycles (top_of os)) 1 (omega (arith, d.fits, ap (length {A = ℕ}) e))
      (λ s. top_to_five_part z os pc w v vs u e s d)

  -- the two on top come to R4 and R5
  abbrev two_fetched : (os : List Waiting) (pc : ℕ) (w : WordState) (x y : ℕ) (vs : List ℕ) (u : Core) → w.stack ≡ y ∷ (x ∷ vs) → Describes z os pc w u
      → Fetched pc w vs u (HasSides x y)
  two_fetched os pc w x y vs u e d =
      let under = below_top os in
      fetched (two_to_registers os) (below_top under) (load_cycles (top_of os) + load_cycles (top_of under)) 2 (omega (arith, d.fits, ap (length {A = ℕ}) e))
      (λ s. two_to_registers_part z os pc w x y vs u e s d)

  -- the left one comes to R4, and the right one to where it is read
  abbrev sides_fetched : (os : List Waiting) (pc : ℕ) (w : WordState) (x y : ℕ) (vs : List ℕ) (u : Core) → w.stack ≡ y ∷ (x ∷ vs) → Describes z os pc w u
      → Fetched pc w vs u (Aiming true (right_source (top_of os)) x y w.fram)
  sides_fetched os pc w x y vs u e d =
      let under = below_top os in
      fetched (sides os) (below_top under) (side_cycles (stays (top_of os)) (top_of os) + load_cycles (top_of under)) 2
      (omega (arith, d.fits, ap (length {A = ℕ}) e)) (λ s. sides_part z os pc w x y vs u e s d)

  -- ---- values

  unary_middles : (o : UnaryOperation) → UnaryMiddle z (unary_middle o) 2 (unary_word o)
  unary_middles Negate = negate_middle z
  unary_middles Complement = complement_middle z

  pub unary_part : (o : UnaryOperation) (os : List Waiting) (pc : ℕ) (w : WordState) (vs : List ℕ) (u : Core) → w.stack ≡ vs → AreWords vs
      → StepDoes [] os (unary o) (unary_cycles o) pc w u (with_top vs (λ v us. goes_on [] (with_stack (unary_word o v ∷ us) w)))
  unary_part o os pc w [] u e l h d = tt
  unary_part o os pc w (y ∷ rest) u e l h d =
      template (five_fetched os pc w y rest u e d)
      (in_four (unary_middle o) 2 (unary_word o y) (λ p xs t s k. unary_middles o p y (with_stack xs w) t l.0 s k))
      (unary_cycles o + owed os) (omega arith) (omega (arith, unary_price o, load_owed os)) h

  -- a shift of R4, its result said otherwise
  abbrev shifted : (o : ShiftOperation) (n r : ℕ) (w : WordState) {v : ℕ} → shift_word o v n ≡ r → v < 0x10000 → Template w (HasWord R4 v)
  shifted o n r w {v} is l =
      in_four (shift_middle o n) 10 r (λ p xs t s k. so_runs (shift_part z o n p v (with_stack xs w) t l s k)
      (λ q j. record { is = j.is; held = j.held ∙ is }))

  pub shift_reaches : (o : ShiftOperation) (n : ℕ) (os : List Waiting) (pc : ℕ) (w : WordState) (vs : List ℕ) (u : Core) → w.stack ≡ vs → AreWords vs
      → StepDoes [] os (shift o n) 15 pc w u (with_top vs (λ v us. goes_on [] (with_stack (shift_word o v n ∷ us) w)))
  shift_reaches o n os pc w [] u e l h d = tt
  shift_reaches o n os pc w (y ∷ rest) u e l h d =
      template (four_fetched os pc w y rest u e d) (shifted o n (shift_word o y n) w refl l.0) (15 + owed os) (omega arith) (omega (arith, load_owed os)) h

  -- ---- words that no code brings anywhere

  waits_part : (o : Waiting) (os : List Waiting) (pc : ℕ) (w : WordState) (v n : ℕ) (u : Core) → IsThere (Owns z) w.locals o
      → waiting_word w.fram w.locals u.work o ≡ v → owed_by o ≤ n → length w.stack < z.room → Describes z os pc w u
      → Does (o ∷ os) (pc + 0) (n + owed os) u (goes_on [] (pushed v w))
  waits_part o os pc w v n u there word less room d =
      let same : pc ≡ pc + 0 = omega arith in
      record {
        spent = 0;
        within = omega (arith, less);
        runs = nothing_run z (subst (λ p. Describes z (o ∷ os) p (pushed v w) u) same (waits_more z o os pc w v u there word room d));
      }

  pub number_part : (n : ℕ) (os : List Waiting) (pc : ℕ) (w : WordState) (u : Core) → length w.stack < z.room → Describes z os pc w u
      → Does (waiting.Number n ∷ os) (pc + 0) (4 + owed os) u (goes_on [] (pushed n w))
  number_part n os pc w u room d = waits_part (waiting.Number n) os pc w n 4 u tt refl (omega arith) room d

  pub load_part : (a : ℕ) (os : List Waiting) (pc : ℕ) (w : WordState) (u : Core) → length w.stack < z.room → IsPlace a → Describes z os pc w u
      → Does (waiting.Fram a ∷ os) (pc + 0) (5 + owed os) u (goes_on [] (pushed (w.fram a) w))
  load_part a os pc w u room f d = waits_part (waiting.Fram a) os pc w (w.fram a) 5 u f refl (omega arith) room d

  -- ---- elements

  module _ (base size : ℕ) (small : size < 0x10000) (w : WordState) (i : ℕ) (r : i < 0x10000) (rest : List ℕ) (u : Core) (e : w.stack ≡ i ∷ rest) where
    -- what an element gives: 0 where the index isn't below the length, else a word of FRAM
    by_length : (b : Bool) (after : List Waiting) (end most : ℕ) → nat_lt i size ≡ b
        → (nat_lt i size ≡ false → Does after end most u (goes_on [] (with_stack (0 ∷ rest) w)))
        → (nat_lt i size ≡ true → IsPlace (2 * i + base) → Does after end most u (goes_on [] (with_stack (w.fram (2 * i + base) ∷ rest) w)))
        → (let a = 2 * i + base in let x : Behaviour = if b then at_place a (goes_on [] (with_stack (w.fram a ∷ rest) w)) else goes_on []
        (with_stack (0 ∷ rest) w) in Does after end most u x)
    by_length false after end most lt none there = none lt
    by_length true after end most lt none there =
        let a = 2 * i + base in
        reach_guarded z (is_place a) (owed after) (Describes z after end) most u (goes_on [] (with_stack (w.fram a ∷ rest) w)) (λ g. there lt (place_is a g))

    -- an element, by whether the index is below the length; whether it surely is decides what its code is
    element_by : (b : Bool) (os : List Waiting) (pc : ℕ) → (b ≡ true → nat_lt i size ≡ true)
        → (let ms = top_to_four os ++ element_code b base size in Stands z.code pc ms → Describes z os pc w u
        → Does (waiting.R4 ∷ kept (below_top os)) (pc + forms_bytes ms) (15 + owed os) u (element_pushed base size i (with_stack rest w)))
    element_by b os pc sure h d =
        let ms = element_code b base size in
        let after = waiting.R4 ∷ kept (below_top os) in
        let end = pc + forms_bytes (top_to_four os ++ ms) in
        let gives : (v : ℕ) → Makes (HasWord R4 i) w ms 10 (HasWord R4 v) → Does after end (15 + owed os) u (goes_on [] (with_stack (v ∷ rest) w)) =
        λ v f. template (four_fetched os pc w i rest u e d) (in_four ms 10 v f) (15 + owed os) (omega arith) (omega (arith, load_owed os)) h in
        by_length (nat_lt i size) after end (15 + owed os) refl
        (λ no. gives 0 (λ p xs t s k. past_end z b base size p i (with_stack xs w) t (record { small = small; index = r; held = k }) s sure no))
        (λ yes f. gives (w.fram (2 * i + base)) (λ p xs t s k. before_end z b base size p i (with_stack xs w) t
        (record { small = small; index = r; held = k }) s yes f))

    -- an element at a number that waits
    known_by : (k : ℕ) (os : List Waiting) (pc : ℕ) → Describes z (waiting.Number k ∷ os) pc w u
        → Does (known_element base size k ∷ os) (pc + 0) (15 + (owed os + 4)) u (element_pushed base size i (with_stack rest w))
    known_by k os pc d =
        let at = 2 * i + base in
        let left = with_stack rest w in
        let most = 15 + (owed os + 4) in
        let word = waiting.Fram (word_sum base (word_sum k k)) in
        let x = drop_part z (waiting.Number k) os pc w i rest u e d in
        let room : length rest < z.room = omega (arith, d.fits, ap (length {A = ℕ}) e) in
        -- by whether the number is below the length
        let one : (b : Bool) (v : ℕ) → nat_lt i size ≡ b → (let o = if b then word else (waiting.Number 0) in IsThere (Owns z) w.locals o
        → waiting_word w.fram w.locals u.work o ≡ v → owed_by o ≤ 5 → Does (known_element base size k ∷ os) (pc + 0) most u (goes_on [] (pushed v left))) =
        λ b v lt there is less. let o = if b then word else (waiting.Number 0) in
        subst (λ c. Does ((if c then word else (waiting.Number 0)) ∷ os) (pc + 0) most u (goes_on [] (pushed v left)))
        (sym (ap (λ n. nat_lt n size) x.1 ∙ lt))
        (reach_more z (owed (o ∷ os)) (Describes z (o ∷ os) (pc + 0)) (5 + owed os) most u [] (GoesOn (pushed v left))
        (omega arith) (waits_part o os pc left v 5 u there is less room x.0)) in
        by_length (nat_lt i size) (known_element base size k ∷ os) (pc + 0) most refl (λ no. one false 0 no tt refl (omega arith)) (λ yes f.
        let high = f.high in
        let there : word_sum base (word_sum k k) ≡ at = omega (arith, x.1) in
        one true (w.fram at) yes (subst IsPlace (sym there) f) (ap w.fram there) (omega arith))

    element_on : (b : Bool) (os : List Waiting) (pc : ℕ) → (b ≡ true → nat_lt i size ≡ true)
        → (let ms = element_at b (top_number (top_of os)) os base size in Stands z.code pc ms → Describes z os pc w u
        → Does (waiting_behind os (element base size)) (pc + forms_bytes ms) (15 + owed os) u (element_pushed base size i (with_stack rest w)))
    element_on b (waiting.Number k ∷ os) pc sure h d = known_by k os pc d
    element_on b os pc sure h d = element_by b os pc sure h d

  pub element_reaches : (bs : List Bound) (base size : ℕ) (os : List Waiting) (pc : ℕ) (w : WordState) (vs : List ℕ) (u : Core) → size < 0x10000
      → Bounded bs w.locals → w.stack ≡ vs → AreWords vs
      → StepDoes bs os (element base size) 15 pc w u (with_top vs (λ i us. element_pushed base size i (with_stack us w)))
  element_reaches bs base size os pc w [] u s lb e l h d = tt
  element_reaches bs base size os pc w (i ∷ rest) u s lb e l h d =
      element_on base size s w i l.0 rest u e (is_inside bs (top_of os) size) os pc (top_inside z bs pc u size os w i rest lb e d) h d

  -- ---- versioned reads, where their code stands

  module _ (sure : Bool) (place : ArrayPlace) (list : ListPlace) (os : List Waiting) (pc : ℕ) (small : place.length < 0x10000)
      (h : Stands z.code pc (top_to_four os ++ read_code sure place list)) (w : WordState) (i : ℕ) (rest : List ℕ) (u : Core)
      (wl : HoldsWords w.fram) (r : i < 0x10000) (is : sure ≡ true → nat_lt i place.length ≡ true) (e : w.stack ≡ i ∷ rest)
      (d : Describes z os pc w u) where
    abbrev after_read : List Waiting
    after_read = waiting_behind os (versioned_read place list)

    abbrev read_end : ℕ
    read_end = pc + forms_bytes (top_to_four os ++ read_code sure place list)

    -- a word that its code gives
    read_gives : (v : ℕ) → Makes (HasWord R4 i) w (read_code sure place list) 18 (HasWord R4 v)
        → Does after_read read_end (23 + owed os) u (goes_on [] (with_stack (v ∷ rest) w))
    read_gives v f =
        template (four_fetched os pc w i rest u e d) (in_four (read_code sure place list) 18 v f) (23 + owed os) (omega arith) (omega (arith, load_owed os)) h

    -- by whether the version word is the attempt's number
    own_by : (b : Bool) → (w.fram list.ver == w.fram (2 * i + place.versions)) ≡ b → nat_lt i place.length ≡ true → IsPlace list.ver
        → IsPlace (2 * i + place.versions) → (let c = 2 * i + place.copies in let a = 2 * i + place.elements in
        let x : Behaviour = if b then at_place c (goes_on [] (with_stack (w.fram c ∷ rest) w)) else at_place a (goes_on [] (with_stack (w.fram a ∷ rest) w)) in
        Does after_read read_end (23 + owed os) u x)
    own_by true q lt f g =
        let c = 2 * i + place.copies in
        reach_guarded z (is_place c) (owed after_read) (Describes z after_read read_end) (23 + owed os) u (goes_on [] (with_stack (w.fram c ∷ rest) w)) (λ p.
        read_gives (w.fram c) (λ p' xs t s k. own_copy z sure place list p' i (with_stack xs w) t (record { small = small; stands = s; index = r; held = k }) lt
        (record { words = wl; number = f; version = g }) q (place_is c p)))
    own_by false q lt f g =
        let a = 2 * i + place.elements in
        reach_guarded z (is_place a) (owed after_read) (Describes z after_read read_end) (23 + owed os) u (goes_on [] (with_stack (w.fram a ∷ rest) w)) (λ p.
        read_gives (w.fram a) (λ p' xs t s k. own_home z sure place list p' i (with_stack xs w) t (record { small = small; stands = s; index = r; held = k }) lt
        (record { words = wl; number = f; version = g }) q (place_is a p)))

    -- by whether the index is below the length
    read_by : (b : Bool) → nat_lt i place.length ≡ b → (let x : Behaviour = if b then own_element place list i (with_stack rest w) else goes_on []
        (with_stack (0 ∷ rest) w) in Does after_read read_end (23 + owed os) u x)
    read_by false lt = read_gives 0 (λ p' xs t s k. past_read z sure place list p' i (with_stack xs w) t
        (record { small = small; stands = s; index = r; held = k }) is lt)
    read_by true lt =
        let m = 2 * i + place.versions in
        reach_guarded z (is_place list.ver) (owed after_read) (Describes z after_read read_end) (23 + owed os) u _ (λ f.
        reach_guarded z (is_place m) (owed after_read) (Describes z after_read read_end) (23 + owed os) u _ (λ g.
        own_by (w.fram list.ver == w.fram m) refl lt (place_is list.ver f) (place_is m g)))

  pub read_reaches : (bs : List Bound) (place : ArrayPlace) (list : ListPlace) (os : List Waiting) (pc : ℕ) (w : WordState) (vs : List ℕ) (u : Core)
      → place.length < 0x10000 → HoldsWords w.fram → Bounded bs w.locals → (w.stack ≡ vs) × AreWords vs
      → StepDoes bs os (versioned_read place list) 23 pc w u (with_top vs (λ i us. versioned_pushed place list i (with_stack us w)))
  read_reaches bs place list os pc w [] u s wl lb e h d = tt
  read_reaches bs place list os pc w (i ∷ rest) u s wl lb e h d =
      let n = place.length in
      read_by (is_inside bs (top_of os) n) place list os pc s h w i rest u wl e.1.0 (top_inside z bs pc u n os w i rest lb e.0 d) e.0 d (nat_lt i n) refl

  -- ---- operations on two words

  -- the instruction of an operation, on R4 and the right side where that is read, its result said otherwise
  abbrev plain_made : (o : PlainOperation) (top : Option Waiting) (w : WordState) {x y : ℕ} (r : ℕ) → plain_word o x y ≡ r → x < 0x10000 → y < 0x10000
      → Template w (Aiming true (right_source top) x y w.fram)
  plain_made o top w {x} {y} r is lx ly =
      let s = right_source top in
      let ms = Calculate (plain_instruction o) s R4 ∷ [] in
      in_four ms (reading_cycles (stays top)) r (λ p xs t h k.
      plain_step z o s R4 (reading_cycles (stays top)) t _ lx ly (reading_price (stays top) top) (ap z.code.at k.is.at ∙ h.0)
      (is_read true s R4 x y w.fram t k.is.fram k.held.four k.held.gives) (λ f. record {
        is = stands_elsewhere z p (p + forms_bytes ms) (with_stack xs w) t _ k.is (omega (arith, k.is.at)) refl refl refl refl refl;
        held = is;
      }))

  module _ (pc : ℕ) (w : WordState) (x y : ℕ) (rest : List ℕ) (u : Core) (e : w.stack ≡ y ∷ (x ∷ rest)) (lx : x < 0x10000) (ly : y < 0x10000) where
    two_part : (o : BinaryOperation) (os : List Waiting) → Stands z.code pc (two_code os o) → Describes z os pc w u
        → Does (binary_result o ∷ kept (below_top (below_top os))) (pc + forms_bytes (two_code os o)) (binary_cycles o + owed os) u
        (goes_on [] (with_stack (binary_word o x y ∷ rest) w))
    two_part Multiply os h d =
        template (two_fetched os pc w x y rest u e d)
        (in_six (binary_middle Multiply) 145 (binary_word Multiply x y) (λ p xs t s k. multiply_middle z p x y (with_stack xs w) t lx ly s k))
        (152 + owed os) (omega arith) (omega (arith, load_owed os, load_owed (below_top os))) h
    two_part Divide os h d =
        template (two_fetched os pc w x y rest u e d)
        (in_four (binary_middle Divide) 195 (binary_word Divide x y) (λ p xs t s k. divide_part z p x y (with_stack xs w) t lx ly s k))
        (202 + owed os) (omega arith) (omega (arith, load_owed os, load_owed (below_top os))) h
    two_part Remainder os h d =
        template (two_fetched os pc w x y rest u e d)
        (in_six (binary_middle Remainder) 195 (binary_word Remainder x y) (λ p xs t s k. remainder_part z p x y (with_stack xs w) t lx ly s k))
        (202 + owed os) (omega arith) (omega (arith, load_owed os, load_owed (below_top os))) h
    two_part (Plain o) os h d =
        template (sides_fetched os pc w x y rest u e d) (plain_made o (top_of os) w (plain_word o x y) refl lx ly) (8 + owed os) (omega arith)
        (omega (arith, side_owed (stays (top_of os)) os, load_owed (below_top os))) h

    -- by whether the number that waits on top, which is no more than known, is a power of two
    power_by : (p : Option ℕ) (o : BinaryOperation) (n : ℕ) (os : List Waiting) → power n ≡ p → Stands z.code pc (power_code p (waiting.Number n ∷ os) o)
        → Describes z (waiting.Number n ∷ os) pc w u
        → Does (power_result p o ∷ kept (below_top os)) (pc + forms_bytes (power_code p (waiting.Number n ∷ os) o)) (binary_cycles o + (owed os + 4)) u
        (goes_on [] (with_stack (binary_word o x y ∷ rest) w))
    power_by None o n os q h d = two_part o (waiting.Number n ∷ os) h d
    power_by (Some k) Multiply n os q h d =
        let t = drop_part z (waiting.Number n) os pc w y (x ∷ rest) u e d in
        let of = power_is n k q in
        let left = with_stack (x ∷ rest) w in
        let is = shift_left x k of.0 ∙ ap (word_product x) (sym of.1 ∙ t.1) in
        template (four_fetched os pc left x rest u refl t.0) (shifted Left k (word_product x y) left is lx) (152 + (owed os + 4)) (omega arith)
        (omega (arith, load_owed os)) h
    power_by (Some k) Divide n os q h d =
        let t = drop_part z (waiting.Number n) os pc w y (x ∷ rest) u e d in
        let of = power_is n k q in
        let left = with_stack (x ∷ rest) w in
        let is = shift_right x k of.0 ∙ ap (quotient x) (sym of.1 ∙ t.1) in
        template (four_fetched os pc left x rest u refl t.0) (shifted Right k (quotient x y) left is lx) (202 + (owed os + 4)) (omega arith)
        (omega (arith, load_owed os)) h
    power_by (Some k) Remainder n os q h d =
        let t = drop_part z (waiting.Number n) os pc w y (x ∷ rest) u e d in
        let of = power_is n k q in
        let m = n - 1 in
        let masked = waiting.Number m ∷ os in
        let is = ap (λ p. bit_and x (p - 1)) of.1 ∙ mask_rest x k ∙ ap (remainder x) (sym of.1 ∙ t.1) in
        let lm : m < 0x10000 = omega (arith, t.1, ly) in
        let room : length (x ∷ rest) < z.room = omega (arith, d.fits, ap (length {A = ℕ}) e) in
        let left = with_stack (m ∷ (x ∷ rest)) w in
        let under = waits_more z (waiting.Number m) os pc (with_stack (x ∷ rest) w) m u tt refl room t.0 in
        template (sides_fetched masked pc left x m rest u refl under) (plain_made And (top_of masked) left (remainder x y) is lx lm) (202 + (owed os + 4))
        (omega arith) (omega (arith, load_owed os)) h
    power_by (Some k) (Plain o) n os q h d = two_part (Plain o) (waiting.Number n ∷ os) h d

    -- a product by a number that waits, of so few bits
    known_product : (turns n : ℕ) (os : List Waiting) → (n < 0x10000 → n < 2 ^ suc turns) → Stands z.code pc (two_code (waiting.Number n ∷ os) Multiply)
        → Describes z (waiting.Number n ∷ os) pc w u
        → Does (binary_result Multiply ∷ kept (below_top os)) (pc + forms_bytes (two_code (waiting.Number n ∷ os) Multiply))
        (8 + suc turns * 9 + (owed os + 4)) u (goes_on [] (with_stack (binary_word Multiply x y ∷ rest) w))
    known_product turns n os few h d =
        let all = waiting.Number n ∷ os in
        let is = (drop_part z (waiting.Number n) os pc w y (x ∷ rest) u e d).1 in
        let small : y < 2 ^ suc turns = subst (λ v. v < 2 ^ suc turns) is (few (omega (arith, is, ly))) in
        template (two_fetched all pc w x y rest u e d)
        (in_six (binary_middle Multiply) (1 + suc turns * 9) (binary_word Multiply x y)
        (λ p xs t s k. multiply_within z turns p x y (with_stack xs w) t lx small s k))
        (8 + suc turns * 9 + (owed os + 4)) (omega arith) (omega (arith, load_owed all, load_owed os)) h

    product_by : (p : Option ℕ) (turns n : ℕ) (os : List Waiting) → p ≡ None → (n < 0x10000 → n < 2 ^ suc turns)
        → Stands z.code pc (power_code p (waiting.Number n ∷ os) Multiply) → Describes z (waiting.Number n ∷ os) pc w u
        → Does (power_result p Multiply ∷ kept (below_top os)) (pc + forms_bytes (power_code p (waiting.Number n ∷ os) Multiply))
        (8 + suc turns * 9 + (owed os + 4)) u (goes_on [] (with_stack (binary_word Multiply x y ∷ rest) w))
    product_by None turns n os none few h d = known_product turns n os few h d
    product_by (Some k) turns n os none few h d = absurd (cc none)

    product_on : (turns n : ℕ) (os : List Waiting) → power n ≡ None → (n < 0x10000 → n < 2 ^ suc turns)
        → StepDoes [] (waiting.Number n ∷ os) (binary Multiply) (8 + suc turns * 9) pc w u (goes_on [] (with_stack (binary_word Multiply x y ∷ rest) w))
    product_on turns n os none few h d = product_by (power n) turns n os none few h d

    binary_on : (o : BinaryOperation) (os : List Waiting)
        → StepDoes [] os (binary o) (binary_cycles o) pc w u (goes_on [] (with_stack (binary_word o x y ∷ rest) w))
    binary_on o (waiting.Number n ∷ os) h d = power_by (power n) o n os refl h d
    binary_on o os h d = two_part o os h d

  pub binary_part : (o : BinaryOperation) (os : List Waiting) (pc : ℕ) (w : WordState) (vs : List ℕ) (u : Core) → w.stack ≡ vs → AreWords vs
      → StepDoes [] os (binary o) (binary_cycles o) pc w u (with_two vs (λ x y us. goes_on [] (with_stack (binary_word o x y ∷ us) w)))
  binary_part o os pc w [] u e l h d = tt
  binary_part o os pc w (y ∷ []) u e l h d = tt
  binary_part o os pc w (y ∷ (x ∷ rest)) u e l h d = binary_on pc w x y rest u e l.1.0 l.0 o os h d

  -- a product by a number that waits, in a turn for each of its bits
  pub product_part : (turns n : ℕ) (os : List Waiting) (pc : ℕ) (w : WordState) (vs : List ℕ) (u : Core) → power n ≡ None → (n < 0x10000 → n < 2 ^ suc turns)
      → w.stack ≡ vs → AreWords vs → StepDoes [] (waiting.Number n ∷ os) (binary Multiply) (8 + suc turns * 9) pc w u
      (with_two vs (λ x y us. goes_on [] (with_stack (binary_word Multiply x y ∷ us) w)))
  product_part turns n os pc w [] u none few e l h d = tt
  product_part turns n os pc w (y ∷ []) u none few e l h d = tt
  product_part turns n os pc w (y ∷ (x ∷ rest)) u none few e l h d = product_on pc w x y rest u e l.1.0 l.0 turns n os none few h d

  -- ---- statements

  -- code behind which no word waits, the others below what it takes being pushed in front of it
  pub alone_part : (os : List Waiting) (ms : List Form) (c pc : ℕ) (w : WordState) (u : Core) (b : Behaviour) → Stands z.code pc (flushed os ++ ms)
      → Describes z os pc w u → (let mid = pc + forms_bytes (flushed os) in ((t : Core) → Stands z.code mid ms → StandsFor z mid w t
      → Follows z (mid + forms_bytes ms) c t b) → Does [] (pc + forms_bytes (flushed os ++ ms)) (c + owed os) u b)
  alone_part os ms c pc w u b h d f =
      alone_behind (flushed os) ms c (c + owed os) pc u b (omega arith) h (flush_part z os pc w u d) f

  module _ (os : List Waiting) (pc : ℕ) (w : WordState) (v : ℕ) (vs : List ℕ) (u : Core) (e : w.stack ≡ v ∷ vs) (d : Describes z os pc w u) where
    -- the same where the top is its source
    statement_part : (ms : List Form) (c most : ℕ) (b : Behaviour) → owed (below_top os) + c ≤ most → Stands z.code pc (flushed (below_top os) ++ ms)
        → (let mid = pc + forms_bytes (flushed (below_top os)) in ((t : Core) → Stands z.code mid ms → Top z (source_from (top_of os)) [] mid w v vs t
        → Follows z (mid + forms_bytes ms) c t b) → Does [] (pc + forms_bytes (flushed (below_top os) ++ ms)) most u b)
    statement_part ms c most b l h f = alone_behind (flushed (below_top os)) ms c most pc u b l h (λ s. below_part z os pc w v vs u e s d) f

    -- a word is stored, the others going on to wait where none of them is that word
    keep_by : (b : Bool) (a : ℕ) → any_at a (below_top os) ≡ b
        → (let under = below_top os in let ms = (if b then flushed under else []) ++ Move (source_from (top_of os)) (ToFram a) ∷ [] in
        Stands z.code pc ms → Does (if b then [] else under) (pc + forms_bytes ms) (5 + owed os) u (word_stored a v (with_stack vs w)))
    keep_by true a f h =
        let mid = pc + forms_bytes (flushed (below_top os)) in
        statement_part (Move (source_from (top_of os)) (ToFram a) ∷ []) (store_cycles (top_of os)) (5 + owed os) (word_stored a v (with_stack vs w))
        (omega (arith, store_owed os)) h (λ t s k. keep_part z (top_of os) a mid v vs w t s k)
    keep_by false a f h =
        let under = below_top os in
        let end = pc + forms_bytes (Move (source_from (top_of os)) (ToFram a) ∷ []) in
        reach_guarded z (is_place a) (owed under) (Describes z under end) (5 + owed os) u (goes_on (Store a v ∷ []) (stored a v (with_stack vs w))) (λ g.
        record {
          spent = store_cycles (top_of os);
          within = store_owed os;
          runs = keep_beside z (top_of os) a pc v under vs w u f g h (take_part z os pc w v vs u e d);
        })

  pub keep_reaches : (a : ℕ) (os : List Waiting) (pc : ℕ) (w : WordState) (vs : List ℕ) (u : Core) → w.stack ≡ vs
      → StepDoes [] os (keep a) 5 pc w u (with_top vs (λ v us. word_stored a v (with_stack us w)))
  keep_reaches a os pc w [] u e h d = tt
  keep_reaches a os pc w (v ∷ us) u e h d = keep_by os pc w v us u e d (any_at a (below_top os)) a refl h

  pub update_reaches : (o : PlainOperation) (a : ℕ) (os : List Waiting) (pc : ℕ) (w : WordState) (vs : List ℕ) (u : Core) → w.fram a < 0x10000 → w.stack ≡ vs
      → AreWords vs → StepDoes [] os (update o a) 5 pc w u (with_top vs (λ v us. word_stored a (plain_word o (w.fram a) v) (with_stack us w)))
  update_reaches o a os pc w [] u f e l h d = tt
  update_reaches o a os pc w (v ∷ us) u f e l h d =
      let mid = pc + forms_bytes (flushed (below_top os)) in
      statement_part os pc w v us u e d (Update (plain_instruction o) (source_from (top_of os)) a ∷ []) (store_cycles (top_of os)) (5 + owed os)
      (word_stored a (plain_word o (w.fram a) v) (with_stack us w)) (omega (arith, store_owed os)) h
      (λ t s k. update_part z o (top_of os) a mid v us w t f l.0 s k)

  pub set_reaches : (n : ℕ) (os : List Waiting) (pc : ℕ) (w : WordState) (vs : List ℕ) (u : Core) → Owns z n → w.stack ≡ vs
      → StepDoes [] os (set_local n) 5 pc w u (with_top vs (λ v us. goes_on [] (with_local n v (with_stack us w))))
  set_reaches n os pc w [] u l e h d = tt
  set_reaches n os pc w (v ∷ us) u l e h d =
      let mid = pc + forms_bytes (flushed (below_top os)) in
      statement_part os pc w v us u e d (Move (source_from (top_of os)) (local_target n) ∷ []) (store_cycles (top_of os)) (5 + owed os)
      (goes_on [] (with_local n v (with_stack us w))) (omega (arith, store_owed os)) h (λ t s k. set_part z (top_of os) n v mid us w t l s k)

  pub update_local_reaches : (o : PlainOperation) (n x : ℕ) (os : List Waiting) (pc : ℕ) (w : WordState) (vs : List ℕ) (u : Core) → Owns z n
      → w.locals n ≡ Some x → x < 0x10000 → (w.stack ≡ vs) × AreWords vs
      → StepDoes [] os (update_local o n) 10 pc w u (with_top vs (λ v us. goes_on [] (with_local n (plain_word o x v) (with_stack us w))))
  update_local_reaches o n x os pc w [] u l q f e h d = tt
  update_local_reaches o n x os pc w (v ∷ us) u l q f e h d =
      let mid = pc + forms_bytes (flushed (below_top os)) in
      statement_part os pc w v us u e.0 d (update_code o n (source_from (top_of os))) (8 + load_cycles (top_of os)) (10 + owed os)
      (goes_on [] (with_local n (plain_word o x v) (with_stack us w))) (omega (arith, load_owed os)) h
      (λ t s top. update_local_part z o (top_of os) n x v mid us w t l q f e.1.0 s top)

  -- a local that is pushed, by where it stands
  pub local_by : (b : Bool) (n v : ℕ) (os : List Waiting) (pc : ℕ) (w : WordState) (u : Core) → nat_lt n 8 ≡ b → length w.stack < z.room → Owns z n
      → w.locals n ≡ Some v → (let ms : List Form = if b then [] else (flushed os ++ Push (Ram (local_address n)) ∷ []) in
      let after : List Waiting = if b then waiting.Local n ∷ os else [] in Stands z.code pc ms → Describes z os pc w u
      → Does after (pc + forms_bytes ms) (5 + owed os) u (goes_on [] (pushed v w)))
  local_by true n v os pc w u lt room l q h d =
      waits_part (waiting.Local n) os pc w v 5 u (record { in_register = lt; owned = l; word = v; assigned = q }) (ap (λ x. unwrap_or x 0) q) (omega arith)
      room d
  local_by false n v os pc w u lt room l q h d =
      alone_part os (Push (Ram (local_address n)) ∷ []) 5 pc w u (goes_on [] (pushed v w)) h d
      (λ t s i. local_part z n v (pc + forms_bytes (flushed os)) w t lt room l q s i)

  -- words in registers, and all that waits below is pushed then
  pub push_under : {P : (ℕ → ℕ) → Type 0} (ks : List Waiting) (pc : ℕ) (w : WordState) (u : Core) → Stands z.code pc (flushed ks)
      → With (Describes z ks pc w) P u → Runs z.kept [] (owed ks) u (With (StandsFor z (pc + forms_bytes (flushed ks)) w) P)
  push_under {P} ks pc w u h k =
      let end = pc + forms_bytes (flushed ks) in
      so_runs (flush_under z [] ks pc w u k.is h) (λ t j. record { is = bare z end w t j.is; held = subst P (sym j.held) k.held })

  -- the same behind what brings them there
  pub gathered : {P : (ℕ → ℕ) → Type 0} {l : ℕ} {w : WordState} {u : Core} (front : List Form) (ks : List Waiting) (pc : ℕ)
      → Stands z.code pc (front ++ flushed ks) → (Stands z.code pc front → Runs z.kept [] l u (With (Describes z ks (pc + forms_bytes front) w) P))
      → Runs z.kept [] (l + owed ks) u (Holds z P (pc + forms_bytes (front ++ flushed ks)) w)
  gathered {P} {l} {w} {u} front ks pc h come =
      two_parts z front (flushed ks) pc (λ p. Holds z P p w) h come (λ t s k. push_under ks (pc + forms_bytes front) w t s k)

  -- a word that is emitted
  pub emit_reaches : (count buffer : ℕ) (os : List Waiting) (pc : ℕ) (w : WordState) (vs : List ℕ) (u : Core) → w.stack ≡ vs
      → StepDoes [] os (emit_word count buffer) 16 pc w u (with_top vs (λ v us. word_emitted count buffer v (with_stack us w)))
  emit_reaches count buffer os pc w [] u e h d = tt
  emit_reaches count buffer os pc w (v ∷ rest) u e h d =
      let under = below_top os in
      let left = with_stack rest w in
      let front = top_to_five os ++ flushed (kept under) in
      alone_behind front (emit_code count buffer) 14 (16 + owed os) pc u (word_emitted count buffer v left) (omega (arith, owed_kept under, load_owed os)) h
      (λ s. gathered (top_to_five os) (kept under) pc s (λ s. top_to_five_part z os pc w v rest u e s d))
      (λ t s k. emit_part z count buffer (pc + forms_bytes front) v left t s k)

  -- a versioned write
  pub write_reaches : (bs : List Bound) (place : ArrayPlace) (list : ListPlace) (os : List Waiting) (pc : ℕ) (w : WordState) (vs : List ℕ) (u : Core)
      → place.length < 0x10000 → HoldsWords w.fram → Bounded bs w.locals → (w.stack ≡ vs) × AreWords vs
      → StepDoes bs os (versioned_write place list) 79 pc w u (with_two vs (λ i v us. versioned_stored place list i v (with_stack us w)))
  write_reaches bs place list os pc w [] u s wl lb e h d = tt
  write_reaches bs place list os pc w (v ∷ []) u s wl lb e h d = tt
  write_reaches bs place list os pc w (v ∷ (i ∷ rest)) u s wl lb e h d =
      let ks = kept (below_top (below_top os)) in
      let front = two_to_registers os ++ flushed ks in
      let left = with_stack rest w in
      let sure = is_inside bs (top_of (below_top os)) place.length in
      let is = under_inside z bs pc u place.length os w i v rest lb e.0 d in
      alone_behind front (write_code sure place list) 75 (79 + owed os) pc u (versioned_stored place list i v left)
      (omega (arith, owed_kept (below_top (below_top os)), load_owed os, load_owed (below_top os))) h
      (λ q. gathered (two_to_registers os) ks pc q (λ q. two_to_registers_part z os pc w i v rest u e.0 q d))
      (λ t q k.
      write_part z sure place list (pc + forms_bytes front) i v left t is q (record { small = s; index = e.1.1.0; word = e.1.0; words = wl; held = k }))

  -- ---- a reading

  taken_part : (ks : List Waiting) (pc : ℕ) (w : WordState) (r : ℕ) (rs : List ℕ) (t : Core) → any_held ks ≡ false → length w.stack < z.room
      → w.inputs.readings ≡ r ∷ rs → Stands z.code pc (forms.Sense R4 ∷ []) → Describes z ks pc w t
      → Runs z.kept (Take r ∷ []) 3 t (Describes z (waiting.R4 ∷ ks) (pc + 4) (pushed r (with_readings rs w)))
  taken_part ks pc w r rs t none room e h d =
      let left : WordState = with_readings rs w in
      let after : Core = record t { pc = t.pc + 4; work = put t.work 4 r; inputs = record t.inputs { readings = rs } } in
      hop z (forms.Sense R4) 3 t after (Take r ∷ []) 3 _ (ap z.code.at d.is.at ∙ h.0) tt (ap (λ l. sensed l R4 t) (ap (λ x. x.readings) d.is.inputs ∙ e))
      (omega arith) (waits_more z waiting.R4 ks (pc + 4) left r after tt refl room
      (describes_on z ks pc (pc + 4) w left.inputs t after d (words_kept w.fram w.locals after.work t.work ks none) (record {
        at = omega (arith, d.is.at);
        memory = d.is.memory;
        fram = d.is.fram;
        inputs = ap {A = Inputs} (λ x. record x { readings = rs }) d.is.inputs;
      })))

  pub sense_part : (os : List Waiting) (pc : ℕ) (w : WordState) (rs : List ℕ) (u : Core) → length w.stack < z.room → w.inputs.readings ≡ rs
      → StepDoes [] os sense 6 pc w u (reading_pushed rs w)
  sense_part os pc w rs u room e h d =
      let mid = pc + forms_bytes (cleared os) in
      does_behind (cleared os) (forms.Sense R4 ∷ []) (waiting.R4 ∷ kept os) (6 + owed (kept os)) (6 + owed os) pc u (reading_pushed rs w)
      (omega (arith, owed_kept os)) h (clear_under z [] os pc w u d) (λ t s k. by rs t e s k.is)
    where
      by : (rs : List ℕ) (t : Core) → w.inputs.readings ≡ rs → Stands z.code (pc + forms_bytes (cleared os)) (forms.Sense R4 ∷ [])
          → Describes z (kept os) (pc + forms_bytes (cleared os)) w t
          → Does (waiting.R4 ∷ kept os) (pc + forms_bytes (cleared os) + 4) (6 + owed (kept os)) t (reading_pushed rs w)
      by [] t q s j =
          dearer_stall z [] 3 (6 + owed (kept os)) t (omega arith)
          (starved z (forms.Sense R4) t 3 (ap z.code.at j.is.at ∙ s.0) tt (ap (λ l. sensed l R4 t) (ap (λ x. x.readings) j.is.inputs ∙ q)))
      by (r ∷ rs) t q s j =
          record {
            spent = 3;
            within = omega arith;
            runs = taken_part (kept os) (pc + forms_bytes (cleared os)) w r rs t (none_held os) room q s j;
          }
