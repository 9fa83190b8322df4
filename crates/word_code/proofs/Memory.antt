-- The stack and the locals: the first eight in registers, the others in RAM, above the stack.
use Rattle.word_code.proofs.Names.{◌≡◌, ℕ, zero, suc, ◌+◌, ◌-◌, ◌*◌, ◌<◌, ◌≤◌, List, [], ◌∷◌, length, ◌++◌, get_or, Option, Some, None, refl, sym, ap, ◌∙◌, subst}
use Rattle.word_code.proofs.Names.{arith}
use Rattle.word_code.proofs.Names.{Bool, true, false, ◌&&◌, nat_eq, nat_le, nat_lt, eq-eqb, ne_eqb, if◌then◌else◌, nat_tests, same_Some, put, IsPlace, IsRam}
use Rattle.word_code.proofs.Names.{put_same, put_other, work_number, HasPushRoom, is_place, assigned, local_register, local_address, eqb-true}
use Rattle.word_code.proofs.Names.{IsOwn, inl, inr, IsKept, rules_of, IsKnown, is_some, forgotten}
use Rattle.word_code.proofs.Stretches.{Setting}
pub use Rattle.array_versions.specs.alp_words.Words.{AreWords, HoldsWords}

-- the stack in RAM, its top first
abbrev pub StackIs : (ℕ → Option ℕ) → ℕ → List ℕ → Type 0
StackIs ram sp [] = Unit {0}
StackIs ram sp (v ∷ vs) = (ram sp ≡ Some v) × StackIs ram (sp + 2) vs

pub stack_put : (ram : ℕ → Option ℕ) (a : ℕ) (w : Option ℕ) (sp : ℕ) (vs : List ℕ) → a < sp → StackIs ram sp vs → StackIs (put ram a w) sp vs
stack_put ram a w sp [] l h = tt
stack_put ram a w sp (v ∷ vs) l h = (put_other ram a w sp (λ e. omega arith) ∙ h.0, stack_put ram a w (sp + 2) vs (omega arith) h.1)

-- a word above the stack is put
stack_below : (ram : ℕ → Option ℕ) (a : ℕ) (w : Option ℕ) (sp : ℕ) (vs : List ℕ) → sp + 2 * length vs ≤ a → StackIs ram sp vs → StackIs (put ram a w) sp vs
stack_below ram a w sp [] l h = tt
stack_below ram a w sp (v ∷ vs) l h = (put_other ram a w sp (λ e. omega arith) ∙ h.0, stack_below ram a w (sp + 2) vs (omega arith) h.1)

-- words that aren't known any more stand below an address
pub above_forgotten : (b : Bool) (from upto : ℕ) (ram : ℕ → Option ℕ) (a : ℕ) → upto ≤ a → (if b then forgotten from upto ram else ram) a ≡ ram a
above_forgotten true from upto ram a l = ap (λ b. if b then None else ram a) (by (nat_le from a))
  where
    by : (b : Bool) → (b && nat_lt a upto) ≡ false
    by true = grind (arith, nat_tests, l)
    by false = refl
above_forgotten false from upto ram a l = refl

-- RAM is the same from SP on
pub stack_same : (ram ram' : ℕ → Option ℕ) (sp : ℕ) (vs : List ℕ) → ((a : ℕ) → sp ≤ a → ram' a ≡ ram a) → StackIs ram sp vs → StackIs ram' sp vs
stack_same ram ram' sp [] same h = tt
stack_same ram ram' sp (v ∷ vs) same h =
    (same sp (omega arith) ∙ h.0, stack_same ram ram' (sp + 2) vs (λ a l. same a (omega (arith, l))) h.1)

-- of two parts of the stack the upper one, and where it ends the other
pub stack_upper : (ram : ℕ → Option ℕ) (sp : ℕ) (a b : List ℕ) → StackIs ram sp (a ++ b) → StackIs ram sp a
stack_upper ram sp [] b h = tt
stack_upper ram sp (v ∷ a) b h = (h.0, stack_upper ram (sp + 2) a b h.1)

pub place_is : (a : ℕ) → is_place a ≡ true → IsPlace a
place_is a h = record { even = grind (arith, nat_tests); low = grind (arith, nat_tests); high = grind (arith, nat_tests) }

pub address_small : {a : ℕ} → IsPlace a → a < 0x10000
address_small f = let high = f.high in omega (arith, high)

pub assigned_same : (f : ℕ → Option ℕ) (n v : ℕ) → assigned f n v n ≡ Some v
assigned_same f n v = ap (λ b. if b then Some v else f n) (eq-eqb n n refl)

-- the words of the registers in which the first eight locals stand. A write to another register leaves them, by computation alone
abbrev pub local_words : (ℕ → ℕ) → List ℕ
local_words work = work 8 ∷ work 9 ∷ work 10 ∷ work 11 ∷ work 12 ∷ work 13 ∷ work 14 ∷ work 15 ∷ []

-- the word of a local, where it is known
abbrev pub local_word : List ℕ → (ℕ → Option ℕ) → ℕ → Option ℕ
local_word words ram n = if nat_lt n 8 then Some (get_or words n 0) else ram (local_address n)

pub below_eight : (n : ℕ) → nat_lt n 8 ≡ true → n < 8
below_eight n e = grind (arith, nat_tests)

pub from_eight : (n : ℕ) → nat_lt n 8 ≡ false → 8 ≤ n
from_eight n e = grind (arith, nat_tests)

-- the register of a local, and its word
pub register_at : (work : ℕ → ℕ) (n : ℕ) → n < 8 → (work_number (local_register n) ≡ 8 + n) × (get_or (local_words work) n 0 ≡ work (8 + n))
register_at work zero l = (refl, refl)
register_at work (suc zero) l = (refl, refl)
register_at work (suc (suc zero)) l = (refl, refl)
register_at work (suc (suc (suc zero))) l = (refl, refl)
register_at work (suc (suc (suc (suc zero)))) l = (refl, refl)
register_at work (suc (suc (suc (suc (suc zero))))) l = (refl, refl)
register_at work (suc (suc (suc (suc (suc (suc zero)))))) l = (refl, refl)
register_at work (suc (suc (suc (suc (suc (suc (suc zero))))))) l = (refl, refl)
register_at work (suc (suc (suc (suc (suc (suc (suc (suc n)))))))) l = absurd (let high = l in omega arith)

-- a register of a local is written
pub register_put : (work : ℕ → ℕ) (n k v : ℕ) → n < 8 → k < 8
    → get_or (local_words (put work (work_number (local_register n)) v)) k 0 ≡ (if nat_eq k n then v else get_or (local_words work) k 0)
register_put work n k v l h =
    let same : nat_eq (8 + k) (8 + n) ≡ nat_eq k n = grind (arith, nat_tests) in
    (register_at (put work (work_number (local_register n)) v) k h).1 ∙ ap (λ r. put work r v (8 + k)) (register_at work n l).0
    ∙ ap (λ b. if b then v else work (8 + k)) same ∙ ap (λ x. if nat_eq k n then v else x) (sym (register_at work k h).1)

-- a local in a register
pub in_register : (work : ℕ → ℕ) (ram : ℕ → Option ℕ) (n : ℕ) → nat_lt n 8 ≡ true
    → local_word (local_words work) ram n ≡ Some (work (work_number (local_register n)))
in_register work ram n e =
    let at = register_at work n (below_eight n e) in
    ap (λ b. if b then Some (get_or (local_words work) n 0) else ram (local_address n)) e ∙ ap (λ w. Some w) (at.1 ∙ sym (ap work at.0))

-- its word
pub register_is : (work : ℕ → ℕ) (ram : ℕ → Option ℕ) (n v : ℕ) → nat_lt n 8 ≡ true → local_word (local_words work) ram n ≡ Some v
    → work (work_number (local_register n)) ≡ v
register_is work ram n v e h = same_Some _ v (sym (in_register work ram n e) ∙ h)

-- a local in RAM
pub in_ram : (words : List ℕ) (ram : ℕ → Option ℕ) (n : ℕ) → nat_lt n 8 ≡ false → local_word words ram n ≡ ram (local_address n)
in_ram words ram n e = ap (λ b. if b then Some (get_or words n 0) else ram (local_address n)) e

pub ram_is : (words : List ℕ) (ram : ℕ → Option ℕ) (n v : ℕ) → nat_lt n 8 ≡ false → local_word words ram n ≡ Some v → ram (local_address n) ≡ Some v
ram_is words ram n v e h = sym (in_ram words ram n e) ∙ h

-- two locals stand at one address where they are one local
pub address_same : (k n : ℕ) → n < 0x1207 → nat_eq (local_address k) (local_address n) ≡ nat_eq k n
address_same k n l = by (nat_eq k n) refl
  where
    by : (b : Bool) → nat_eq k n ≡ b → nat_eq (local_address k) (local_address n) ≡ b
    by true e = let same : k ≡ n = eqb-true k n e in eq-eqb (local_address k) (local_address n) (ap local_address same)
    by false e =
        ne_eqb (local_address k) (local_address n)
        (λ q. let same : k ≡ n = omega (arith, q, l) in let is = eq-eqb k n same in let no = e in absurd (cc))

-- a local is its own: a register of its own, or a word of RAM
abbrev pub Owns : Setting → ℕ → Type 0
Owns z n = IsOwn z.own z.registers z.frame z.ceiling n

-- the word of RAM at an address is none of its locals
abbrev pub OutsideFrame : Setting → ℕ → Type 0
OutsideFrame z a = z.frame ≤ a → z.ceiling ≤ a

-- what it leaves as it was: RAM from where its stack begins on, but for its locals, and the registers of others' locals
pub record Keeps (z : Setting) (ram : ℕ → Option ℕ) (words : List ℕ) : Type 0 where
  pub ram_words : (a : ℕ) → z.top ≤ a → OutsideFrame z a → ram a ≡ z.entered.ram a
  pub registers : (n : ℕ) → z.registers ≤ n → n < 8 → get_or words n 0 ≡ get_or (local_words z.entered.work) n 0

-- the locals, and the stack down from where it begins
pub record Memory (z : Setting) (sp : ℕ) (ram : ℕ → Option ℕ) (words vs : List ℕ) (ls : ℕ → Option ℕ) : Type 0 where
  pub depth : sp + 2 * length vs ≡ z.top
  pub fits : length vs ≤ z.room
  pub stack : StackIs ram sp vs
  pub vars : (n v : ℕ) → Owns z n → ls n ≡ Some v → local_word words ram n ≡ Some v
  pub keeps : Keeps z ram words

module _ (z : Setting) where
  -- a local of its own in RAM: where its word is
  pub record InRam (n : ℕ) : Type 0 where
    pub top : z.top ≤ local_address n
    pub frame : z.frame ≤ local_address n
    pub ceiling : local_address n < z.ceiling
    pub ram : IsRam (local_address n)
    pub few : n < 0x1207

  pub in_frame : (n : ℕ) → nat_lt n 8 ≡ false → Owns z n → InRam n
  in_frame n e (inl l) = let few = z.few in let from = from_eight n e in absurd (omega (arith, l.1))
  in_frame n e (inr at) =
      let low = at.1 in let high = at.2 in
      let r = z.roomy.fits in let d = z.deep in let a = z.above (omega arith) in let c = z.inside in
      record {
        top = omega arith;
        frame = low;
        ceiling = high;
        ram = record { even = omega arith; low = omega arith; high = omega arith };
        few = omega arith;
      }

  -- a local of its own in a register
  pub in_own : (n : ℕ) → n < 8 → Owns z n → (z.own ≤ n) × (n < z.registers)
  in_own n l (inl at) = at
  in_own n l (inr at) = absurd (omega (arith, at.0))

  pub pop_memory : {sp v : ℕ} {ram : ℕ → Option ℕ} {words vs : List ℕ} {ls : ℕ → Option ℕ} → Memory z sp ram words (v ∷ vs) ls → Memory z (sp + 2) ram words vs ls
  pop_memory m = record { depth = omega (arith, m.depth); fits = omega (arith, m.fits); stack = m.stack.1; vars = m.vars; keeps = m.keeps }

  -- so many words are popped
  pub drop_memory : {ram : ℕ → Option ℕ} {regs rest : List ℕ} {ls : ℕ → Option ℕ} (sp : ℕ) (words : List ℕ) → Memory z sp ram regs (words ++ rest) ls
      → Memory z (sp + 2 * length words) ram regs rest ls
  drop_memory {ram} {regs} {rest} {ls} sp [] m = let same : sp ≡ sp + 0 = omega arith in subst (λ n. Memory z n ram regs rest ls) same m
  drop_memory {ram} {regs} {rest} {ls} sp (v ∷ words) m =
      let same : sp + 2 + 2 * length words ≡ sp + 2 * length (v ∷ words) = omega arith in
      subst (λ n. Memory z n ram regs rest ls) same (drop_memory (sp + 2) words (pop_memory m))

  pub pop_needs : {sp v : ℕ} {ram : ℕ → Option ℕ} {words vs : List ℕ} {ls : ℕ → Option ℕ} → Memory z sp ram words (v ∷ vs) ls
      → IsRam sp × IsKnown (ram sp) × IsKept (rules_of z.kept) (sp + 2)
  pop_needs m =
      let d = m.depth in let f = m.fits in let r = z.roomy.fits in let e = z.even in let b = z.deep in let high = z.high in
      let floor = z.floor in let lowest = z.lowest in let within = z.within in (
        record { even = omega arith; low = omega arith; high = omega arith },
        ap is_some m.stack.0,
        (omega arith, omega arith),
      )

  pub push_needs : {sp : ℕ} {ram : ℕ → Option ℕ} {words vs : List ℕ} {ls : ℕ → Option ℕ} → Memory z sp ram words vs ls → length vs < z.room
      → HasPushRoom (rules_of z.kept) sp
  push_needs m l =
      let d = m.depth in let r = z.roomy.fits in let e = z.even in let b = z.deep in let h = z.high in
      let floor = z.floor in let lowest = z.lowest in let within = z.within in
      record { even = omega arith; room = record { fits = omega arith }; high = omega arith; below = (omega arith, omega arith) }

  pub local_needs : (n : ℕ) → nat_lt n 8 ≡ false → Owns z n → IsRam (local_address n)
  local_needs n e own = (in_frame n e own).ram

  -- a local in RAM that is assigned is read above the stack, and its word is known
  pub local_read : {sp : ℕ} {ram : ℕ → Option ℕ} {words vs : List ℕ} {ls : ℕ → Option ℕ} (n v : ℕ) → Memory z sp ram words vs ls → nat_lt n 8 ≡ false
      → Owns z n → ls n ≡ Some v → IsRam (local_address n) × (sp ≤ local_address n) × IsKnown (ram (local_address n))
  local_read {sp} {ram} {words} n v m e own q =
      let d = m.depth in let low = (in_frame n e own).top in
      (local_needs n e own, omega arith, ap is_some (ram_is words ram n v e (m.vars n v own q)))

  -- its locals are what they were, where its words of RAM are
  same_words : (ram ram' : ℕ → Option ℕ) (words : List ℕ) → ((n : ℕ) → nat_lt n 8 ≡ false → Owns z n → ram' (local_address n) ≡ ram (local_address n))
      → (n : ℕ) → Owns z n → local_word words ram' n ≡ local_word words ram n
  same_words ram ram' words same n own = by (nat_lt n 8) refl
    where
      by : (b : Bool) → nat_lt n 8 ≡ b
          → (if b then Some (get_or words n 0) else ram' (local_address n)) ≡ (if b then Some (get_or words n 0) else ram (local_address n))
      by true e = refl
      by false e = same n e own

  pub push_memory : {sp : ℕ} {ram : ℕ → Option ℕ} {words vs : List ℕ} {ls : ℕ → Option ℕ} (v : ℕ) → Memory z sp ram words vs ls → length vs < z.room
      → Memory z (sp - 2) (put ram (sp - 2) (Some v)) words (v ∷ vs) ls
  push_memory {sp} {ram} {words} {vs} v m l =
      let d = m.depth in let r = z.roomy.fits in let b = z.deep in
      let up : sp - 2 + 2 ≡ sp = omega arith in
      let after = put ram (sp - 2) (Some v) in
      let apart : (a : ℕ) → z.top ≤ a → after a ≡ ram a = λ a t. put_other ram (sp - 2) (Some v) a (λ e. omega arith) in
      record {
        depth = omega arith;
        fits = omega arith;
        stack = (put_same ram (sp - 2) (Some v), subst (λ n. StackIs after n vs) (sym up) (stack_put ram (sp - 2) (Some v) sp vs (omega arith) m.stack));
        vars = λ n w own q. same_words ram after words (λ k e is. apart (local_address k) (in_frame k e is).top) n own ∙ m.vars n w own q;
        keeps = record { ram_words = λ a t out. apart a t ∙ m.keeps.ram_words a t out; registers = m.keeps.registers };
      }

  -- what is called writes neither RAM from SP on nor the registers of locals from its own on
  pub memory_after : (sp : ℕ) (ram ram' : ℕ → Option ℕ) (words words' vs : List ℕ) (ls : ℕ → Option ℕ) → ((a : ℕ) → sp ≤ a → ram' a ≡ ram a)
      → ((n : ℕ) → z.own ≤ n → n < 8 → get_or words' n 0 ≡ get_or words n 0) → Memory z sp ram words vs ls → Memory z sp ram' words' vs ls
  memory_after sp ram ram' words words' vs ls same registers m =
      record {
        depth = m.depth;
        fits = m.fits;
        stack = stack_same ram ram' sp vs same m.stack;
        vars = λ n v own q. word n own (nat_lt n 8) refl ∙ m.vars n v own q;
        keeps = record {
          ram_words = λ a from out. let d = m.depth in same a (omega arith) ∙ m.keeps.ram_words a from out;
          registers = λ n from few. let o = z.ordered in registers n (omega arith) few ∙ m.keeps.registers n from few;
        };
      }
    where
      word : (n : ℕ) → Owns z n → (b : Bool) → nat_lt n 8 ≡ b
          → (if b then Some (get_or words' n 0) else ram' (local_address n)) ≡ (if b then Some (get_or words n 0) else ram (local_address n))
      word n own true e = let l = below_eight n e in ap (λ w. Some w) (registers n (in_own n l own).0 l)
      word n own false e = let d = m.depth in let low = (in_frame n e own).top in same (local_address n) (omega arith)

  -- one local has another word now, and the others theirs
  assign : (sp n v : ℕ) (ram ram' : ℕ → Option ℕ) (words words' vs : List ℕ) (ls : ℕ → Option ℕ) → Memory z sp ram words vs ls
      → StackIs ram' sp vs × Keeps z ram' words'
      → ((k : ℕ) → local_word words' ram' k ≡ (if nat_eq k n then Some v else local_word words ram k)) → Memory z sp ram' words' vs (assigned ls n v)
  assign sp n v ram ram' words words' vs ls m has same =
      record { depth = m.depth; fits = m.fits; stack = has.0; vars = λ k w own q. same k ∙ by (nat_eq k n) k w own q; keeps = has.1 }
    where
      by : (b : Bool) (k w : ℕ) → Owns z k → (if b then Some v else ls k) ≡ Some w → (if b then Some v else local_word words ram k) ≡ Some w
      by true k w own q = q
      by false k w own q = m.vars k w own q

  -- a local in a register is written
  pub set_register : (sp n v : ℕ) (ram : ℕ → Option ℕ) (work : ℕ → ℕ) (vs : List ℕ) (ls : ℕ → Option ℕ) → nat_lt n 8 ≡ true → Owns z n
      → Memory z sp ram (local_words work) vs ls → Memory z sp ram (local_words (put work (work_number (local_register n)) v)) vs (assigned ls n v)
  set_register sp n v ram work vs ls e own m =
      let after = put work (work_number (local_register n)) v in
      assign sp n v ram ram (local_words work) (local_words after) vs ls m
      (m.stack, record { ram_words = m.keeps.ram_words; registers = λ k from h. other k from h ∙ m.keeps.registers k from h }) (λ k. by (nat_lt k 8) k refl)
    where
      l : n < 8
      l = below_eight n e

      other : (k : ℕ) → z.registers ≤ k → k < 8 → get_or (local_words (put work (work_number (local_register n)) v)) k 0 ≡ get_or (local_words work) k 0
      other k from h =
          let less = (in_own n l own).1 in
          register_put work n k v l h ∙ ap (λ b. if b then v else get_or (local_words work) k 0) (ne_eqb k n (λ q. omega arith))

      some_either : (b : Bool) (x y : ℕ) → Some (if b then x else y) ≡ (if b then Some x else Some y)
      some_either true x y = refl
      some_either false x y = refl

      by : (b : Bool) (k : ℕ) → nat_lt k 8 ≡ b
          → (if b then Some (get_or (local_words (put work (work_number (local_register n)) v)) k 0) else ram (local_address k))
          ≡ (if nat_eq k n then Some v else (if b then Some (get_or (local_words work) k 0) else ram (local_address k)))
      by true k t = ap (λ w. Some w) (register_put work n k v l (below_eight k t)) ∙ some_either (nat_eq k n) v (get_or (local_words work) k 0)
      by false k t =
          let h = from_eight k t in
          let other : nat_eq k n ≡ false = ne_eqb k n (λ q. let low = l in omega arith) in
          ap (λ b. if b then Some v else ram (local_address k)) (sym other)

  -- a local in RAM is written
  pub set_ram : (sp n v : ℕ) (ram : ℕ → Option ℕ) (words vs : List ℕ) (ls : ℕ → Option ℕ) → nat_lt n 8 ≡ false → Owns z n → Memory z sp ram words vs ls
      → Memory z sp (put ram (local_address n) (Some v)) words vs (assigned ls n v)
  set_ram sp n v ram words vs ls e own m =
      let d = m.depth in
      let low = at.top in
      assign sp n v ram (put ram (local_address n) (Some v)) words words vs ls m (
        stack_below ram (local_address n) (Some v) sp vs (omega arith) m.stack,
        record { ram_words = λ a t out. other a out ∙ m.keeps.ram_words a t out; registers = m.keeps.registers },
      )
      (λ k. by (nat_lt k 8) k refl)
    where
      at : InRam n
      at = in_frame n e own

      other : (a : ℕ) → OutsideFrame z a → put ram (local_address n) (Some v) a ≡ ram a
      other a out =
          let low = at.frame in let high = at.ceiling in
          put_other ram (local_address n) (Some v) a (λ q. let up = out (omega arith) in omega arith)

      by : (b : Bool) (k : ℕ) → nat_lt k 8 ≡ b → (if b then Some (get_or words k 0) else put ram (local_address n) (Some v) (local_address k))
          ≡ (if nat_eq k n then Some v else (if b then Some (get_or words k 0) else ram (local_address k)))
      by true k t =
          let h = below_eight k t in let l = from_eight n e in
          let other : nat_eq k n ≡ false = ne_eqb k n (λ q. omega arith) in
          ap (λ b. if b then Some v else Some (get_or words k 0)) (sym other)
      by false k t = ap (λ b. if b then Some v else ram (local_address k)) (address_same k n at.few)
