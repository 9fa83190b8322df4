-- Words that wait to be pushed: what the machine stands for where some do, how they are pushed, and how they come to registers.
use Rattle.word_code.proofs.Names.{source_effects, ◌≡◌, ℕ, suc, ◌+◌, ◌-◌, ◌%◌, ◌<◌, ◌≤◌, nat_le, Bool, true, false, nat_lt, if◌then◌else◌, List, [], ◌∷◌}
use Rattle.word_code.proofs.Names.{◌++◌, length, get_or}
use Rattle.word_code.proofs.Names.{Inputs, drop, Option, Some, None, ◌==◌, eqb-true, refl, sym, ap, ap₂, ◌∙◌, subst, arith, append_assoc, append-nil}
use Rattle.word_code.proofs.Names.{length-append, Flags, unwrap_or, AllByRecursion, put, Goes, IsPlace, Konst, constant_value, CycleRow, cycles_of}
use Rattle.word_code.proofs.Names.{source_cycles, to_register, to_memory, push, put_same, put_other, WorkRegister, R4, R5, work_number, Core, Source, Number}
use Rattle.word_code.proofs.Names.{Constant, source_operand, source_bytes, source_value, source_read, SourceNeeds, ToRegister, Form, Move, Calculate, Push}
use Rattle.word_code.proofs.Names.{HasPushRoom, instruction_of, form_bytes, Stands, forms_bytes, Runs, WordState, with_stack, pushed, Waiting, number_source}
use Rattle.word_code.proofs.Names.{waiting_source, flushed, top_of, source_from, below_top, any_held, cleared, kept, four_from, five_from, top_to_four}
use Rattle.word_code.proofs.Names.{top_to_five, CodeRules, rules_of}
use Rattle.array_versions.specs.msp_step.msp_isa.declared.instructions.TwoOp.TheVariants as op
use Rattle.array_versions.specs.msp_step.msp_isa.declared.operands.Konst.TheVariants as konst
use Rattle.word_code.specs.declared.waiting.Waiting.TheVariants as waiting
use Rattle.word_code.proofs.Stretches.{two_parts, Setting, hop, dearer, nothing_run, so_runs}
use Rattle.word_code.proofs.Registers.{With, HasWord, Holds, Has, Flagged, line, no_borrow, equal_flag}
use Rattle.word_code.proofs.Memory.{local_words, Owns, register_is, Memory, pop_memory, pop_needs, push_needs, push_memory}
use Rattle.word_code.proofs.Follows.{StandsFor, stands_elsewhere, memory_as}
pub use Rattle.word_code.specs.Code.{owed_by, owed}

-- ---- what a word that waits is, and what it has paid for

-- by FRAM, the locals and the registers
abbrev pub waiting_word : (ℕ → ℕ) → (ℕ → Option ℕ) → (ℕ → ℕ) → Waiting → ℕ
waiting_word fram locals work (waiting.Number n) = n
waiting_word fram locals work (waiting.Fram a) = fram a
waiting_word fram locals work (waiting.Local n) = unwrap_or (locals n) 0
waiting_word fram locals work waiting.R4 = work 4
waiting_word fram locals work waiting.R6 = work 6

abbrev pub waiting_words : (ℕ → ℕ) → (ℕ → Option ℕ) → (ℕ → ℕ) → List Waiting → List ℕ
waiting_words fram locals work [] = []
waiting_words fram locals work (o ∷ os) = waiting_word fram locals work o ∷ waiting_words fram locals work os

-- a local that stands in a register, is one of these and is assigned
pub record LocalIsThere (owns : ℕ → Type 0) (locals : ℕ → Option ℕ) (n : ℕ) : Type 0 where
  pub in_register : nat_lt n 8 ≡ true
  pub owned : owns n
  pub word : ℕ
  pub assigned : locals n ≡ Some word

-- what a word that waits names is there
abbrev pub IsThere : (ℕ → Type 0) → (ℕ → Option ℕ) → Waiting → Type 0
IsThere owns locals (waiting.Number n) = Unit {0}
IsThere owns locals (waiting.Fram a) = IsPlace a
IsThere owns locals (waiting.Local n) = LocalIsThere owns locals n
IsThere owns locals waiting.R4 = Unit {0}
IsThere owns locals waiting.R6 = Unit {0}

-- what holds of an immediate number and of the constants holds of a number as a source
pick : (P : Source → Type 0) (b : Bool) (x y : Source) → (b ≡ true → P x) → P y → P (if b then x else y)
pick P true x y f p = f refl
pick P false x y f p = p

pub number_cases : (P : Source → Type 0) (n : ℕ) → P (Number n) → ((k : Konst) → constant_value k ≡ n → P (Constant k)) → P (number_source n)
number_cases P n p f =
    pick P (n == 0) _ _ (λ e. f konst.Zero (sym (eqb-true n 0 e))) (pick P (n == 1) _ _ (λ e. f konst.One (sym (eqb-true n 1 e)))
    (pick P (n == 2) _ _ (λ e. f konst.Two (sym (eqb-true n 2 e))) (pick P (n == 4) _ _ (λ e. f konst.Four (sym (eqb-true n 4 e)))
    (pick P (n == 8) _ _ (λ e. f konst.Eight (sym (eqb-true n 8 e))) (pick P (n == 0xFFFF) _ _ (λ e. f konst.MinusOne (sym (eqb-true n 0xFFFF e))) p)))))

pub number_price : (row : CycleRow) (n most : ℕ) → row.immediate ≤ most → row.register ≤ most → source_cycles row (source_operand (number_source n)) ≤ most
number_price row n most a b = number_cases (λ s. source_cycles row (source_operand s) ≤ most) n a (λ k e. b)

pub owed_least : (o : Waiting) → 3 ≤ owed_by o
owed_least (waiting.Number n) = omega arith
owed_least _ = omega arith

push_cycles : (o : Waiting) → cycles_of (instruction_of (Push (waiting_source o))) ≤ owed_by o
push_cycles (waiting.Number n) = number_price push n 4 (omega arith) (omega arith)
push_cycles _ = omega arith

-- ---- lists

pub head_is : {v x : ℕ} {vs xs : List ℕ} → v ∷ vs ≡ x ∷ xs → v ≡ x
head_is e = ap (λ (l : List ℕ). get_or l 0 0) e

tail_is : {v x : ℕ} {vs xs : List ℕ} → v ∷ vs ≡ x ∷ xs → vs ≡ xs
tail_is e = ap (λ (l : List ℕ). drop 1 l) e

waiting_length : (f : ℕ → ℕ) (l : ℕ → Option ℕ) (g : ℕ → ℕ) (os : List Waiting) → length (waiting_words f l g os) ≡ length os
waiting_length f l g [] = refl
waiting_length f l g (o ∷ os) = ap suc (waiting_length f l g os)

words_append : (f : ℕ → ℕ) (l : ℕ → Option ℕ) (g : ℕ → ℕ) (a b : List Waiting) → waiting_words f l g (a ++ b) ≡ waiting_words f l g a ++ waiting_words f l g b
words_append f l g [] b = refl
words_append f l g (o ∷ a) b = ap (λ xs. waiting_word f l g o ∷ xs) (words_append f l g a b)

-- the words are the same where R4 and R6 are
pub words_same : (f : ℕ → ℕ) (l : ℕ → Option ℕ) (g h : ℕ → ℕ) (os : List Waiting) → g 4 ≡ h 4 → g 6 ≡ h 6 → waiting_words f l g os ≡ waiting_words f l h os
words_same f l g h [] p q = refl
words_same f l g h (waiting.R4 ∷ os) p q = ap₂ (λ x xs. x ∷ xs) p (words_same f l g h os p q)
words_same f l g h (waiting.R6 ∷ os) p q = ap₂ (λ x xs. x ∷ xs) q (words_same f l g h os p q)
words_same f l g h (o ∷ os) p q = ap (λ xs. waiting_word f l g o ∷ xs) (words_same f l g h os p q)

-- and where none waits in a register for work
pub words_kept : (f : ℕ → ℕ) (l : ℕ → Option ℕ) (g h : ℕ → ℕ) (os : List Waiting) → any_held os ≡ false → waiting_words f l g os ≡ waiting_words f l h os
words_kept f l g h [] e = refl
words_kept f l g h (waiting.R4 ∷ os) e = absurd (let q = e in (cc))
words_kept f l g h (waiting.R6 ∷ os) e = absurd (let q = e in (cc))
words_kept f l g h (o ∷ os) e = ap (λ xs. waiting_word f l g o ∷ xs) (words_kept f l g h os e)

there_front : (P : Waiting → Type 0) (a b : List Waiting) → AllByRecursion P (a ++ b) → AllByRecursion P a
there_front P [] b h = tt
there_front P (o ∷ a) b h = (h.0, there_front P a b h.1)

there_back : (P : Waiting → Type 0) (a b : List Waiting) → AllByRecursion P (a ++ b) → AllByRecursion P b
there_back P [] b h = h
there_back P (o ∷ a) b h = there_back P a b h.1

kept_by : (b : Bool) (os : List Waiting) → any_held os ≡ b → any_held (if b then [] else os) ≡ false
kept_by true os e = refl
kept_by false os e = e

pub none_held : (os : List Waiting) → any_held (kept os) ≡ false
none_held os = kept_by (any_held os) os refl

-- the cycles in which words are pushed where one of them waits in a register, at most
abbrev pub clear_cycles : List Waiting → ℕ
clear_cycles os = if any_held os then owed os else 0

owed_kept_by : (b : Bool) (n : ℕ) (os : List Waiting) → owed os ≡ n → (if b then n else 0) + owed (if b then [] else os) ≡ n
owed_kept_by true n os e = omega arith
owed_kept_by false n os e = omega (arith, e)

pub owed_append : (a b : List Waiting) → owed (a ++ b) ≡ owed a + owed b
owed_append [] b = omega arith
owed_append (o ∷ a) b = omega (arith, owed_append a b)

pub owed_kept : (os : List Waiting) → clear_cycles os + owed (kept os) ≡ owed os
owed_kept os = owed_kept_by (any_held os) (owed os) os refl

-- the cycles in which the top comes to a register, at most
abbrev pub load_cycles : Option Waiting → ℕ
load_cycles None = 2
load_cycles (Some o) = 3

pub load_price : (o : Option Waiting) → source_cycles to_register (source_operand (source_from o)) ≤ load_cycles o
load_price (Some (waiting.Number n)) = number_price to_register n 3 (omega arith) (omega arith)
load_price _ = omega arith

-- the cycles of an instruction that writes memory and takes it as its source, at most
abbrev pub store_cycles : Option Waiting → ℕ
store_cycles None = 5
store_cycles (Some o) = 6

pub load_less : (o : Option Waiting) → load_cycles o ≤ store_cycles o
load_less None = omega arith
load_less (Some o) = omega arith

pub store_price : (o : Option Waiting) → source_cycles to_memory (source_operand (source_from o)) ≤ store_cycles o
store_price (Some (waiting.Number n)) = number_price to_memory n 6 (omega arith) (omega arith)
store_price _ = omega arith

pub store_owed : (os : List Waiting) → store_cycles (top_of os) + owed (below_top os) ≤ 5 + owed os
store_owed [] = omega arith
store_owed (o ∷ os) = omega (arith, owed_least o)

pub load_owed : (os : List Waiting) → load_cycles (top_of os) + owed (below_top os) ≤ 2 + owed os
load_owed [] = omega arith
load_owed (o ∷ os) = omega (arith, owed_least o)

-- ---- a word that waits, as a source

pub source_still : (o : Waiting) (u : Core) → source_read (waiting_source o) u ≡ u
source_still (waiting.Number n) u = number_cases (λ s. source_read s u ≡ u) n refl (λ k e. refl)
source_still _ u = refl

-- no look
pub source_quiet : (o : Waiting) (u : Core) → source_effects (waiting_source o) u ≡ []
source_quiet (waiting.Number n) u = number_cases (λ s. source_effects s u ≡ []) n refl (λ k e. refl)
source_quiet _ u = refl

pub source_needs : (rules : CodeRules) (owns : ℕ → Type 0) (locals : ℕ → Option ℕ) (o : Waiting) (u : Core) → IsThere owns locals o
    → SourceNeeds rules (waiting_source o) u
source_needs rules owns locals (waiting.Number n) u h = number_cases (λ s. SourceNeeds rules s u) n tt (λ k e. tt)
source_needs rules owns locals (waiting.Fram a) u h = h
source_needs rules owns locals _ u h = tt

-- the flags of a register that is compared with a number
pub record IsCompared (x k : ℕ) (f : Flags) : Type 0 where
  pub zero : f.z ≡ (x == k)
  pub carry : f.c ≡ nat_le k x

-- the machine at this place stands for what the program works on, where these words wait: the stack is their words, and below them the words that are pushed
pub record Describes (z : Setting) (os : List Waiting) (pc : ℕ) (w : WordState) (u : Core) : Type 0 where
  pub rest : List ℕ
  pub is : StandsFor z pc (with_stack rest w) u
  pub stack : w.stack ≡ waiting_words w.fram w.locals u.work os ++ rest
  pub there : AllByRecursion (IsThere (Owns z) w.locals) os
  pub fits : length w.stack ≤ z.room

-- where the top may be read: its word, what it needs, and what waits behind it
pub record Top (z : Setting) (x : Source) (os : List Waiting) (pc : ℕ) (w : WordState) (v : ℕ) (vs : List ℕ) (u : Core) : Type 0 where
  pub at : u.pc ≡ pc
  pub fram : u.fram ≡ w.fram
  pub value : source_value x u ≡ v
  pub needs : SourceNeeds (rules_of z.kept) x u
  pub quiet : source_effects x u ≡ []
  pub left : Describes z os pc (with_stack vs w) (source_read x u)
  pub same : (source_read x u).work ≡ u.work

-- a word is in a register, the others being as they were
pub record IsLoaded (b : WorkRegister) (v : ℕ) (g f : ℕ → ℕ) : Type 0 where
  pub value : f (work_number b) ≡ v
  pub others : (n : ℕ) → (n ≡ work_number b → ⊥) → f n ≡ g n

-- where words wait, the machine's registers hold such words
abbrev pub Waits : Setting → List Waiting → ℕ → WordState → ((ℕ → ℕ) → Type 0) → Core → Type 0
Waits z os pc w P = With (Describes z os pc w) P

-- the registers are these
abbrev pub AreThese : (ℕ → ℕ) → (ℕ → ℕ) → Type 0
AreThese g f = f ≡ g

module _ (z : Setting) where
  pub source_word : (o : Waiting) (pc : ℕ) (w : WordState) (u : Core) → StandsFor z pc w u → IsThere (Owns z) w.locals o
      → source_value (waiting_source o) u ≡ waiting_word w.fram w.locals u.work o
  source_word (waiting.Number n) pc w u i h = number_cases (λ s. source_value s u ≡ n) n refl (λ k e. e)
  source_word (waiting.Fram a) pc w u i h = ap (λ f. f a) i.fram
  source_word (waiting.Local n) pc w u i h =
      register_is u.work u.ram n h.word h.in_register (i.memory.vars n h.word h.owned h.assigned) ∙ sym (ap (λ x. unwrap_or x 0) h.assigned)
  source_word waiting.R4 pc w u i h = refl
  source_word waiting.R6 pc w u i h = refl

  -- ---- none waits

  pub bare : (pc : ℕ) (w : WordState) (u : Core) → Describes z [] pc w u → StandsFor z pc w u
  bare pc w u d = subst (λ l. StandsFor z pc (with_stack l w) u) (sym d.stack) d.is

  pub dressed : (pc : ℕ) (w : WordState) (u : Core) → StandsFor z pc w u → Describes z [] pc w u
  dressed pc w u i = record { rest = w.stack; is = i; stack = refl; there = tt; fits = i.memory.fits }

  -- the machine elsewhere, or with other inputs, where the words that wait are the same
  pub describes_on : (os : List Waiting) (pc end : ℕ) (w : WordState) (n : Inputs) (u t : Core) (d : Describes z os pc w u)
      → waiting_words w.fram w.locals t.work os ≡ waiting_words w.fram w.locals u.work os → StandsFor z end (record w { stack = d.rest; inputs = n }) t
      → Describes z os end (record w { inputs = n }) t
  describes_on os pc end w n u t d same i =
      record { rest = d.rest; is = i; stack = d.stack ∙ ap (λ xs. xs ++ d.rest) (sym same); there = d.there; fits = d.fits }

  -- ---- pushes

  push_waiting : (o : Waiting) (pc : ℕ) (w : WordState) (u : Core) → StandsFor z pc w u → IsThere (Owns z) w.locals o → length w.stack < z.room
      → z.code.at pc ≡ Some (instruction_of (Push (waiting_source o))) → Runs z.kept [] (owed_by o) u
      (Holds z (AreThese u.work) (pc + forms_bytes (Push (waiting_source o) ∷ [])) (pushed (waiting_word w.fram w.locals u.work o) w))
  push_waiting o pc w u i h s c =
      let x = waiting_source o in
      let v = waiting_word w.fram w.locals u.work o in
      let price = cycles_of (instruction_of (Push x)) in
      let after : Core → Core = λ t. record t { pc = u.pc + (2 + source_bytes x); sp = t.sp - 2; ram = put t.ram (t.sp - 2) (Some (source_value x u)) } in
      let still = source_still o u in
      hop z (Push x) (owed_by o) u (after u) [] price _ (ap z.code.at i.at ∙ c)
      (source_needs (rules_of z.kept) (Owns z) w.locals o u h, subst (λ (t : Core). HasPushRoom (rules_of z.kept) t.sp) (sym still) (push_needs z i.memory s))
      (ap (λ es. Goes es price (after (source_read x u))) (source_quiet o u) ∙ ap (λ t. Goes [] price (after t)) still) (push_cycles o)
      (record {
        is =
            record {
              at = omega (arith, i.at);
              memory =
                  subst (λ y. Memory z (u.sp - 2) (put u.ram (u.sp - 2) (Some y)) (local_words u.work) (v ∷ w.stack) w.locals) (sym (source_word o pc w u i h))
                  (push_memory z v i.memory s);
              fram = i.fram;
              inputs = i.inputs;
            };
        held = refl;
      })

  flush_run : (os : List Waiting) (pc : ℕ) (w : WordState) (u : Core) → StandsFor z pc w u → AllByRecursion (IsThere (Owns z) w.locals) os
      → length os + length w.stack ≤ z.room → Stands z.code pc (flushed os) → Runs z.kept [] (owed os) u
      (Holds z (AreThese u.work) (pc + forms_bytes (flushed os)) (with_stack (waiting_words w.fram w.locals u.work os ++ w.stack) w))
  flush_run [] pc w u i t l h =
      let e : pc ≡ pc + 0 = omega arith in
      nothing_run z (record { is = subst (λ n. StandsFor z n w u) e i; held = refl })
  flush_run (o ∷ os) pc w u i t l h =
      let there = with_stack (waiting_words w.fram w.locals u.work os ++ w.stack) w in
      let mid = pc + forms_bytes (flushed os) in
      let last = Push (waiting_source o) ∷ [] in
      let room : length there.stack < z.room =
      omega (arith, l, length-append (waiting_words w.fram w.locals u.work os) w.stack, waiting_length w.fram w.locals u.work os) in
      let less : length os + length w.stack ≤ z.room = omega (arith, l) in
      let all : (ℕ → ℕ) → WordState = λ g. pushed (waiting_word w.fram w.locals g o) there in
      two_parts z (flushed os) last pc (λ n. Holds z (AreThese u.work) n (all u.work)) h (flush_run os pc w u i t.1 less)
      (λ s c k. so_runs (push_waiting o mid there s k.is t.0 room c.0) (λ q j. record {
        is = subst (λ g. StandsFor z (mid + forms_bytes last) (all g) q) k.held
            j.is;
        held = j.held ∙ k.held;
      }))

  -- those behind others are pushed
  pub flush_under : (front back : List Waiting) (pc : ℕ) (w : WordState) (u : Core) → Describes z (front ++ back) pc w u → Stands z.code pc (flushed back)
      → Runs z.kept [] (owed back) u (Waits z front (pc + forms_bytes (flushed back)) w (AreThese u.work))
  flush_under front back pc w u d h =
      let P = IsThere (Owns z) w.locals in
      let words = waiting_words w.fram w.locals u.work in
      let all = ap (length {A = ℕ}) d.stack in
      let room : length back + length d.rest ≤ z.room =
      omega (
        arith,
        all,
        d.fits,
        length-append (words (front ++ back)) d.rest,
        waiting_length w.fram w.locals u.work (front ++ back),
        length-append front back,
      ) in
      so_runs (flush_run back pc (with_stack d.rest w) u d.is (there_back P front back d.there) room h) (λ t k. record {
        is =
            record {
              rest = words back ++ d.rest;
              is = k.is;
              stack = d.stack ∙ ap (λ xs. xs ++ d.rest) (words_append w.fram w.locals u.work front back) ∙ append_assoc (words front) (words back) d.rest
                  ∙ ap (λ g. waiting_words w.fram w.locals g front ++ (words back ++ d.rest)) (sym k.held);
              there = there_front P front back d.there;
              fits = d.fits;
            };
        held = k.held;
      })

  -- all are pushed
  pub flush_part : (os : List Waiting) (pc : ℕ) (w : WordState) (u : Core) → Describes z os pc w u → Stands z.code pc (flushed os)
      → Runs z.kept [] (owed os) u (StandsFor z (pc + forms_bytes (flushed os)) w)
  flush_part os pc w u d h =
      so_runs (flush_under [] os pc w u d h) (λ t k. bare (pc + forms_bytes (flushed os)) w t k.is)

  clear_by : (b : Bool) (front back : List Waiting) (pc : ℕ) (w : WordState) (u : Core) → Describes z (front ++ back) pc w u
      → (let ms : List Form = if b then flushed back else [] in Stands z.code pc ms
      → Runs z.kept [] (if b then owed back else 0) u (Waits z (front ++ (if b then [] else back)) (pc + forms_bytes ms) w (AreThese u.work)))
  clear_by true front back pc w u d h =
      subst (λ os. Runs z.kept [] (owed back) u (Waits z os (pc + forms_bytes (flushed back)) w (AreThese u.work))) (sym (append-nil front))
      (flush_under front back pc w u d h)
  clear_by false front back pc w u d h =
      let e : pc ≡ pc + 0 = omega arith in
      nothing_run z (record { is = subst (λ n. Describes z (front ++ back) n w u) e d; held = refl })

  -- those behind others are pushed where one of them waits in a register
  pub clear_under : (front back : List Waiting) (pc : ℕ) (w : WordState) (u : Core) → Describes z (front ++ back) pc w u → Stands z.code pc (cleared back)
      → Runs z.kept [] (clear_cycles back) u (Waits z (front ++ kept back) (pc + forms_bytes (cleared back)) w (AreThese u.work))
  clear_under front back pc w u d h = clear_by (any_held back) front back pc w u d h

  -- ---- the top

  pub take_part : (os : List Waiting) (pc : ℕ) (w : WordState) (v : ℕ) (vs : List ℕ) (u : Core) → w.stack ≡ v ∷ vs → Describes z os pc w u
      → Top z (source_from (top_of os)) (below_top os) pc w v vs u
  take_part [] pc w v vs u e d =
      let i = bare pc w u d in
      let m = memory_as z pc w u (v ∷ vs) e i in
      record {
        at = i.at;
        fram = i.fram;
        value = ap (λ o. unwrap_or o 0) m.stack.0;
        needs = pop_needs z m;
        quiet = refl;
        left = dressed pc (with_stack vs w) _ (record { at = i.at; memory = pop_memory z m; fram = i.fram; inputs = i.inputs });
        same = refl;
      }
  take_part (o ∷ os) pc w v vs u e d =
      let q = sym e ∙ d.stack in
      let still = source_still o u in
      record {
        at = d.is.at;
        fram = d.is.fram;
        value = source_word o pc (with_stack d.rest w) u d.is d.there.0 ∙ sym (head_is q);
        needs = source_needs (rules_of z.kept) (Owns z) w.locals o u d.there.0;
        quiet = source_quiet o u;
        left = subst (λ t. Describes z os pc (with_stack vs w) t) (sym still)
            (record { rest = d.rest; is = d.is; stack = tail_is q; there = d.there.1; fits = omega (arith, d.fits, ap (length {A = ℕ}) e) });
        same = ap (λ (t : Core). t.work) still;
      }

  -- a number by itself is read as a top would be
  pub number_top : (k pc : ℕ) (w : WordState) (u : Core) → StandsFor z pc w u → Top z (number_source k) [] pc w k w.stack u
  number_top k pc w u i =
      let still = source_still (waiting.Number k) u in
      record {
        at = i.at;
        fram = i.fram;
        value = source_word (waiting.Number k) pc w u i tt;
        needs = source_needs (rules_of z.kept) (Owns z) w.locals (waiting.Number k) u tt;
        quiet = source_quiet (waiting.Number k) u;
        left = subst (λ t. Describes z [] pc w t) (sym still) (dressed pc w u i);
        same = ap (λ (t : Core). t.work) still;
      }

  -- the top waits: its word, and what waits behind it
  pub drop_part : (o : Waiting) (os : List Waiting) (pc : ℕ) (w : WordState) (v : ℕ) (vs : List ℕ) (u : Core) → w.stack ≡ v ∷ vs → Describes z (o ∷ os) pc w u
      → Describes z os pc (with_stack vs w) u × (waiting_word w.fram w.locals u.work o ≡ v)
  drop_part o os pc w v vs u e d =
      let q = sym e ∙ d.stack in (
        record { rest = d.rest; is = d.is; stack = tail_is q; there = d.there.1; fits = omega (arith, d.fits, ap (length {A = ℕ}) e) },
        sym (head_is q),
      )

  -- a word comes to a register in which none of the others waits
  pub move_part : (b : WorkRegister) (o : Option Waiting) (os : List Waiting) (pc : ℕ) (w : WordState) (v : ℕ) (vs : List ℕ) (u : Core)
      → ((f : ℕ → ℕ) (y : ℕ) → local_words (put f (work_number b) y) ≡ local_words f)
      → ((f : ℕ → ℕ) (y : ℕ) → waiting_words w.fram w.locals (put f (work_number b) y) os ≡ waiting_words w.fram w.locals f os)
      → (let m = Move (source_from o) (ToRegister b) in Stands z.code pc (m ∷ []) → Top z (source_from o) os pc w v vs u
      → Runs z.kept [] (load_cycles o) u (Waits z os (pc + forms_bytes (m ∷ [])) (with_stack vs w) (IsLoaded b v u.work)))
  move_part b o os pc w v vs u clean spare h k =
      let x = source_from o in
      let m = Move x (ToRegister b) in
      let price = cycles_of (instruction_of m) in
      let t = source_read x u in
      let y = source_value x u in
      let end : u.pc + (2 + source_bytes x + 0) ≡ pc + forms_bytes (m ∷ []) = omega (arith, k.at) in
      let after : Core = record t { pc = u.pc + (2 + source_bytes x + 0); work = put t.work (work_number b) y } in
      hop z m (load_cycles o) u after [] price _ (ap z.code.at k.at ∙ h.0) (k.needs, tt)
      (ap (λ es. Goes es price after) k.quiet) (load_price o)
      (record {
        is = describes_on os pc _ (with_stack vs w) w.inputs t after k.left (spare t.work y)
            (stands_elsewhere z pc _ (with_stack k.left.rest w) t after k.left.is end refl refl (clean t.work y) refl refl);
        held = record {
          value = put_same t.work (work_number b) y ∙ k.value;
          others = λ n ne. put_other t.work (work_number b) y n ne ∙ ap (λ (g : ℕ → ℕ). g n) k.same;
        };
      })

  -- the last word that waits comes to R5
  pub to_five_part : (o : Option Waiting) (pc : ℕ) (w : WordState) (v : ℕ) (vs : List ℕ) (u : Core)
      → (let m = Move (source_from o) (ToRegister R5) in Stands z.code pc (m ∷ []) → Top z (source_from o) [] pc w v vs u
      → Runs z.kept [] (load_cycles o) u (Has z R5 (pc + form_bytes m) (with_stack vs w) v))
  to_five_part o pc w v vs u h k =
      let m = Move (source_from o) (ToRegister R5) in
      let end : pc + forms_bytes (m ∷ []) ≡ pc + form_bytes m = omega arith in
      subst (λ n. Runs z.kept [] (load_cycles o) u (Has z R5 n (with_stack vs w) v)) end
      (so_runs (move_part R5 o [] pc w v vs u (λ f y. refl) (λ f y. refl) h k)
      (λ t j. record { is = bare (pc + forms_bytes (m ∷ [])) (with_stack vs w) t j.is; held = j.held.value }))

  pub five_part : (os : List Waiting) (pc : ℕ) (w : WordState) (v : ℕ) (vs : List ℕ) (u : Core) → w.stack ≡ v ∷ vs
      → Stands z.code pc (five_from (top_of os)) → Describes z os pc w u
      → Runs z.kept [] (load_cycles (top_of os)) u (Waits z (below_top os) (pc + forms_bytes (five_from (top_of os))) (with_stack vs w) (IsLoaded R5 v u.work))
  five_part os pc w v vs u e h d =
      move_part R5 (top_of os) (below_top os) pc w v vs u (λ f y. refl) (λ f y. words_same w.fram w.locals (put f 5 y) f (below_top os) refl refl) h
      (take_part os pc w v vs u e d)

  four_move : (os : List Waiting) (pc : ℕ) (w : WordState) (v : ℕ) (vs : List ℕ) (u : Core) → w.stack ≡ v ∷ vs → any_held (below_top os) ≡ false
      → (let m = Move (source_from (top_of os)) (ToRegister R4) in Stands z.code pc (m ∷ []) → Describes z os pc w u
      → Runs z.kept [] (load_cycles (top_of os)) u (Waits z (below_top os) (pc + forms_bytes (m ∷ [])) (with_stack vs w) (IsLoaded R4 v u.work)))
  four_move os pc w v vs u e none h d =
      move_part R4 (top_of os) (below_top os) pc w v vs u (λ f y. refl) (λ f y. words_kept w.fram w.locals (put f 4 y) f (below_top os) none) h
      (take_part os pc w v vs u e d)

  pub four_part : (os : List Waiting) (pc : ℕ) (w : WordState) (v : ℕ) (vs : List ℕ) (u : Core) → w.stack ≡ v ∷ vs → any_held (below_top os) ≡ false
      → Stands z.code pc (four_from (top_of os)) → Describes z os pc w u
      → Runs z.kept [] (load_cycles (top_of os)) u (Waits z (below_top os) (pc + forms_bytes (four_from (top_of os))) (with_stack vs w) (IsLoaded R4 v u.work))
  four_part (waiting.R4 ∷ os) pc w v vs u e none h d =
      let k = take_part (waiting.R4 ∷ os) pc w v vs u e d in
      let same : pc ≡ pc + 0 = omega arith in
      dearer z (omega arith)
      (nothing_run z (record {
        is = subst (λ n. Describes z os n (with_stack vs w) u) same k.left;
        held = record { value = k.value; others = λ n ne. refl };
      }))
  four_part os pc w v vs u e none h d = four_move os pc w v vs u e none h d

  -- code behind pushes
  pub behind_cleared : (front back : List Waiting) (more : List Form) (n pc : ℕ) (w : WordState) (u : Core) (P : ℕ → Core → Type 0)
      → Describes z (front ++ back) pc w u → Stands z.code pc (cleared back ++ more)
      → (let mid = pc + forms_bytes (cleared back) in ((t : Core) → Stands z.code mid more → Describes z (front ++ kept back) mid w t
      → Runs z.kept [] n t (P (mid + forms_bytes more))) → Runs z.kept [] (clear_cycles back + n) u (P (pc + forms_bytes (cleared back ++ more))))
  behind_cleared front back more n pc w u P d h f =
      two_parts z (cleared back) more pc P h (clear_under front back pc w u d) (λ t s k. f t s k.is)

  only_has : {b : WorkRegister} {os : List Waiting} {pc v n : ℕ} {w : WordState} {g : ℕ → ℕ} {u : Core}
      → Runs z.kept [] n u (With (Describes z os pc w) (IsLoaded b v g)) → Runs z.kept [] n u (With (Describes z os pc w) (HasWord b v))
  only_has a = so_runs a (λ t k. record { is = k.is; held = k.held.value })

  pub top_to_four_part : (os : List Waiting) (pc : ℕ) (w : WordState) (v : ℕ) (vs : List ℕ) (u : Core) → w.stack ≡ v ∷ vs → Stands z.code pc (top_to_four os)
      → Describes z os pc w u → Runs z.kept [] (clear_cycles (below_top os) + load_cycles (top_of os)) u
      (Waits z (kept (below_top os)) (pc + forms_bytes (top_to_four os)) (with_stack vs w) (HasWord R4 v))
  top_to_four_part [] pc w v vs u e h d = only_has (four_part [] pc w v vs u e refl h d)
  top_to_four_part (o ∷ os) pc w v vs u e h d =
      behind_cleared (o ∷ []) os (four_from (Some o)) 3 pc w u (λ p. Waits z (kept os) p (with_stack vs w) (HasWord R4 v)) d h
      (λ t s k. only_has (four_part (o ∷ kept os) (pc + forms_bytes (cleared os)) w v vs t e (none_held os) s k))

  pub top_to_five_part : (os : List Waiting) (pc : ℕ) (w : WordState) (v : ℕ) (vs : List ℕ) (u : Core) → w.stack ≡ v ∷ vs → Stands z.code pc (top_to_five os)
      → Describes z os pc w u → Runs z.kept [] (clear_cycles (below_top os) + load_cycles (top_of os)) u
      (Waits z (kept (below_top os)) (pc + forms_bytes (top_to_five os)) (with_stack vs w) (HasWord R5 v))
  top_to_five_part [] pc w v vs u e h d = only_has (five_part [] pc w v vs u e h d)
  top_to_five_part (o ∷ os) pc w v vs u e h d =
      behind_cleared (o ∷ []) os (five_from (Some o)) 3 pc w u (λ p. Waits z (kept os) p (with_stack vs w) (HasWord R5 v)) d h
      (λ t s k. only_has (five_part (o ∷ kept os) (pc + forms_bytes (cleared os)) w v vs t e s k))

  -- the top for a statement, all others being pushed
  pub below_part : (os : List Waiting) (pc : ℕ) (w : WordState) (v : ℕ) (vs : List ℕ) (u : Core) → w.stack ≡ v ∷ vs → Stands z.code pc (flushed (below_top os))
      → Describes z os pc w u → Runs z.kept [] (owed (below_top os)) u (Top z (source_from (top_of os)) [] (pc + forms_bytes (flushed (below_top os))) w v vs)
  below_part [] pc w v vs u e h d =
      let same : pc ≡ pc + 0 = omega arith in
      nothing_run z (subst (λ n. Top z (source_from None) [] n w v vs u) same (take_part [] pc w v vs u e d))
  below_part (o ∷ os) pc w v vs u e h d =
      let end = pc + forms_bytes (flushed os) in
      so_runs (flush_under (o ∷ []) os pc w u d h) (λ t k. take_part (o ∷ []) end w v vs t e k.is)

  -- ---- more words wait

  -- a word that no code brings anywhere
  pub waits_more : (o : Waiting) (os : List Waiting) (pc : ℕ) (w : WordState) (v : ℕ) (u : Core) → IsThere (Owns z) w.locals o
      → waiting_word w.fram w.locals u.work o ≡ v → length w.stack < z.room → Describes z os pc w u → Describes z (o ∷ os) pc (pushed v w) u
  waits_more o os pc w v u there word room d =
      record {
        rest = d.rest;
        is = d.is;
        stack = ap₂ (λ x xs. x ∷ xs) (sym word) d.stack;
        there = (there, d.there);
        fits = omega (arith, room);
      }

  -- words that code left in registers
  pub all_wait : (gives os : List Waiting) (pc : ℕ) (w : WordState) (vs : List ℕ) (u : Core) → AllByRecursion (IsThere (Owns z) w.locals) gives
      → length gives + length vs ≤ z.room → Describes z os pc (with_stack vs w) u
      → Describes z (gives ++ os) pc (with_stack (waiting_words w.fram w.locals u.work gives ++ vs) w) u
  all_wait [] os pc w vs u there room d = d
  all_wait (o ∷ gives) os pc w vs u there room d =
      let words = waiting_words w.fram w.locals u.work gives in
      waits_more o (gives ++ os) pc (with_stack (words ++ vs) w) (waiting_word w.fram w.locals u.work o) u there.0 refl
      (omega (arith, room, length-append words vs, waiting_length w.fram w.locals u.work gives))
      (all_wait gives os pc w vs u there.1 (omega (arith, room)) d)

  -- ---- a comparison with a number

  pub compare_number : (b : WorkRegister) (pc x k : ℕ) (w : WordState) (t : Core) → x < 0x10000 → k < 0x10000 → t.work (work_number b) ≡ x
      → StandsFor z pc w t → (let m = Calculate op.Cmp (number_source k) b in z.code.at pc ≡ Some (instruction_of m)
      → Runs z.kept [] 2 t (Flagged z (AreThese t.work) (IsCompared x k) (pc + form_bytes m) w))
  compare_number b pc x k w t l r v i =
      let zero = ap (λ y. (y + (0xFFFF - k) + 1) % 0x10000 == 0) v ∙ equal_flag x k l r in
      let carry = ap (λ y. nat_le 0x10000 (y + (0xFFFF - k) + 1)) v ∙ no_borrow x k l r in
      let P : Source → Type 0 = λ s. let m = Calculate op.Cmp s b in z.code.at pc ≡ Some (instruction_of m)
      → Runs z.kept [] 2 t (Flagged z (AreThese t.work) (IsCompared x k) (pc + form_bytes m) w) in
      number_cases P k
      (λ h. line z (Calculate op.Cmp (Number k) b ∷ []) 2 (pc + 4) _ i (tt, tt) (h, tt) ((tt, tt), tt) refl refl (omega (arith, i.at))
      (λ s. record { all = record { is = s; held = refl }; flag = record { zero = zero; carry = carry } }))
      (λ c e h. dearer z (omega arith)
      (line z (Calculate op.Cmp (Constant c) b ∷ []) 1 (pc + 2) (Flagged z (AreThese t.work) (IsCompared x k) (pc + 2) w) i (tt, tt) (h, tt) ((tt, tt), tt)
      refl refl (omega (arith, i.at))
      (λ s. record {
        all = record { is = s; held = refl };
        flag =
            record {
              zero = ap (λ n. (t.work (work_number b) + (0xFFFF - n) + 1) % 0x10000 == 0) e ∙ zero;
              carry = ap (λ n. nat_le 0x10000 (t.work (work_number b) + (0xFFFF - n) + 1)) e ∙ carry;
            };
      })))
