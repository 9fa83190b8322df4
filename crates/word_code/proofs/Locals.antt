-- The locals that a program names, by the greatest of them; whose they are; and the place of the stack below them.
use Rattle.word_code.proofs.Names.{◌≡◌, ℕ, ◌+◌, ◌≤◌, Bool, true, false, nat_lt, if◌then◌else◌, nat_tests, List, [], ◌∷◌, refl, arith, Step, Test, Program}
use Rattle.word_code.proofs.Names.{local, set_local, update_local, truth, choose, repeat, holds, compares, both, either, fails, nothing, step, StepLocalsBelow}
use Rattle.word_code.proofs.Names.{TestLocalsBelow, LocalsBelow, step_locals, test_locals, locals_of, Core, Form, SetStack, forms_bytes, Stands, Runs}
use Rattle.word_code.proofs.Names.{stack_top, stack_base, stack_set, stack_cycles, HasStackRoom, IsInStack, forgotten, IsTidy, IsWhole, ◌<◌, ◌*◌, ◌%◌}
use Rattle.word_code.proofs.Names.{StepEachLocal, TestEachLocal, EachLocal, inl, inr, local_address, both_ways, KeptCode, IsKept, rules_of, KeepsWithin}
use Rattle.word_code.proofs.Names.{subst, sym}
use Rattle.word_code.proofs.Memory.{Owns, below_eight, from_eight, above_forgotten}
use Rattle.word_code.proofs.Stretches.{Setting, hop, nothing_run, dearer}

-- ---- each local is below a number where the greatest is

mutual
  step_below : (k : ℕ) (s : Step) → step_locals s ≤ k → StepLocalsBelow k s
  step_below k (local n) l = omega (arith, l)
  step_below k (set_local n) l = omega (arith, l)
  step_below k (update_local o n) l = omega (arith, l)
  step_below k (truth t) l = test_below k t l
  step_below k (choose t p q) l =
      (test_below k t (omega (arith, l)), program_below k p (omega (arith, l)), program_below k q (omega (arith, l)))
  step_below k (repeat n from below p) l = (omega (arith, l), program_below k p (omega (arith, l)))
  step_below k _ l = tt

  pub test_below : (k : ℕ) (t : Test) → test_locals t ≤ k → TestLocalsBelow k t
  test_below k (holds p) l = program_below k p l
  test_below k (compares o p) l = program_below k p l
  test_below k (both t u) l = (test_below k t (omega (arith, l)), test_below k u (omega (arith, l)))
  test_below k (either t u) l = (test_below k t (omega (arith, l)), test_below k u (omega (arith, l)))
  test_below k (fails t) l = test_below k t l

  pub program_below : (k : ℕ) (p : Program) → locals_of p ≤ k → LocalsBelow k p
  program_below k nothing l = tt
  program_below k (step s p) l = (step_below k s (omega (arith, l)), program_below k p (omega (arith, l)))

-- and the other way round
mutual
  step_least : (k : ℕ) (s : Step) → StepLocalsBelow k s → step_locals s ≤ k
  step_least k (local n) h = omega (arith, h)
  step_least k (set_local n) h = omega (arith, h)
  step_least k (update_local o n) h = omega (arith, h)
  step_least k (truth t) h = test_least k t h
  step_least k (choose t p q) h = omega (arith, test_least k t h.0, program_least k p h.1, program_least k q h.2)
  step_least k (repeat n from below p) h = omega (arith, h.0, program_least k p h.1)
  step_least k _ h = omega arith

  test_least : (k : ℕ) (t : Test) → TestLocalsBelow k t → test_locals t ≤ k
  test_least k (holds p) h = program_least k p h
  test_least k (compares o p) h = program_least k p h
  test_least k (both t u) h = omega (arith, test_least k t h.0, test_least k u h.1)
  test_least k (either t u) h = omega (arith, test_least k t h.0, test_least k u h.1)
  test_least k (fails t) h = test_least k t h

  pub program_least : (k : ℕ) (p : Program) → LocalsBelow k p → locals_of p ≤ k
  program_least k nothing h = omega arith
  program_least k (step s p) h = omega (arith, step_least k s h.0, program_least k p h.1)

-- ---- a fact of each local that a program names, by two others

mutual
  step_each : (P Q R : ℕ → Type 0) (s : Step) → ((n : ℕ) → P n → Q n → R n) → StepEachLocal P s → StepEachLocal Q s → StepEachLocal R s
  step_each P Q R (local n) f h i = f n h i
  step_each P Q R (set_local n) f h i = f n h i
  step_each P Q R (update_local o n) f h i = f n h i
  step_each P Q R (truth t) f h i = test_each P Q R t f h i
  step_each P Q R (choose t p q) f h i = (test_each P Q R t f h.0 i.0, each_local P Q R p f h.1 i.1, each_local P Q R q f h.2 i.2)
  step_each P Q R (repeat n from below p) f h i = (f n h.0 i.0, each_local P Q R p f h.1 i.1)
  step_each P Q R _ f h i = tt

  test_each : (P Q R : ℕ → Type 0) (t : Test) → ((n : ℕ) → P n → Q n → R n) → TestEachLocal P t → TestEachLocal Q t → TestEachLocal R t
  test_each P Q R (holds p) f h i = each_local P Q R p f h i
  test_each P Q R (compares o p) f h i = each_local P Q R p f h i
  test_each P Q R (both t u) f h i = (test_each P Q R t f h.0 i.0, test_each P Q R u f h.1 i.1)
  test_each P Q R (either t u) f h i = (test_each P Q R t f h.0 i.0, test_each P Q R u f h.1 i.1)
  test_each P Q R (fails t) f h i = test_each P Q R t f h i

  pub each_local : (P Q R : ℕ → Type 0) (p : Program) → ((n : ℕ) → P n → Q n → R n) → EachLocal P p → EachLocal Q p → EachLocal R p
  each_local P Q R nothing f h i = tt
  each_local P Q R (step s p) f h i = (step_each P Q R s f h.0 i.0, each_local P Q R p f h.1 i.1)

-- ---- code that nothing called: the registers from its own on are its own, and so is RAM from below its locals on

-- where the stack of a whole program begins, right below its locals in RAM
pub record Begins (p : Program) (whole : IsWhole p) : Type 0 where
  pub locals : ℕ
  pub top : ℕ
  pub even : top % 2 ≡ 0
  pub low : top ≤ stack_base locals
  pub deep : whole.bounds.low + 2 * whole.room ≤ top
  pub roomy : HasStackRoom top whole.room
  pub named : LocalsBelow locals p

abbrev pub at_base : (p : Program) (whole : IsWhole p) → Begins p whole
at_base p whole =
    let least = program_least whole.locals p whole.low_locals in
    let room = whole.fits.fits in
    let lowest = whole.lowest in
    record {
      locals = locals_of p;
      top = stack_base (locals_of p);
      even = omega arith;
      low = omega arith;
      deep = omega (arith, lowest, least);
      roomy = record { fits = omega (arith, room, least) };
      named = program_below (locals_of p) p (omega arith);
    }

module _ (kept : KeptCode) (tidy : IsTidy kept.code) (u : Core) (p : Program) (whole : IsWhole p) (keeps : KeepsWithin kept p whole)
    (b : Begins p whole) where
  abbrev pub uncalled : Setting
  uncalled = record {
    kept = kept;
    tidy = tidy;
    own = whole.bounds.first;
    registers = 8;
    frame = stack_base b.locals;
    ceiling = stack_top;
    room = whole.room;
    top = b.top;
    low = whole.bounds.low;
    bottom = whole.bounds.floor;
    gives = false;
    entered = u;
    ordered = whole.registers;
    few = omega arith;
    even = b.even;
    high = let low = b.low in omega arith;
    within = let low = b.low in let high = keeps.high in omega arith;
    above = λ l. b.low;
    inside = omega arith;
    deep = b.deep;
    floor = whole.floor;
    lowest = keeps.low;
    roomy = b.roomy;
    returns = λ e. absurd (both_ways false refl e);
  }

  owns : (n : ℕ) → n < b.locals → whole.bounds.first ≤ n → Owns uncalled n
  owns n l from = by (nat_lt n 8) refl
    where
      by : (few : Bool) → nat_lt n 8 ≡ few → Owns uncalled n
      by true e = inl (from, below_eight n e)
      by false e =
          let eight = from_eight n e in
          let low : stack_base b.locals ≤ local_address n = omega (arith, l, eight) in
          let high : local_address n < stack_top = omega (arith, eight) in
          inr (eight, low, high)

  -- each local that it names is its own
  pub uncalled_owns : EachLocal (Owns uncalled) p
  uncalled_owns = each_local (λ n. n < b.locals) (λ n. whole.bounds.first ≤ n) (Owns uncalled) p owns b.named whole.own_locals

-- ---- the place of the stack

-- the machine with its stack there, behind the code that sets it: RAM from where SP was on is as it was
pub record HasStack (pc top : ℕ) (u t : Core) : Type 0 where
  pub at : t.pc ≡ pc
  pub sp : t.sp ≡ top
  pub fram : t.fram ≡ u.fram
  pub inputs : t.inputs ≡ u.inputs
  pub ram : (a : ℕ) → u.sp ≤ a → t.ram a ≡ u.ram a
  pub work : t.work ≡ u.work

set_by : (z : Setting) (locals : ℕ) (b : Bool) (u : Core) → IsInStack (stack_base locals) → IsKept (rules_of z.kept) (stack_base locals) → nat_lt 8 locals ≡ b
    → u.sp ≡ stack_top
    → (let ms : List Form = if b then SetStack (stack_base locals) ∷ [] else [] in Stands z.code u.pc ms
    → Runs z.kept [] stack_cycles u (HasStack (u.pc + forms_bytes ms) (stack_base locals) u))
set_by z locals true u inside stays e sp h =
    let base = stack_base locals in
    let even : base % 2 ≡ 0 = omega arith in
    let t : Core = record u { pc = u.pc + 4; sp = base; ram = if u.enabled then forgotten base u.sp u.ram else u.ram } in
    hop z (SetStack base) 2 u t [] 2 (HasStack (u.pc + 4) base u) h.0 (even, λ k. inside, stays) refl (omega arith)
    (record { at = refl; sp = refl; fram = refl; inputs = refl; ram = λ a l. above_forgotten u.enabled base u.sp u.ram a l; work = refl })
set_by z locals false u inside stays e sp h =
    let few : locals ≤ 8 = grind (arith, nat_tests) in
    dearer z (omega arith)
    (nothing_run z (record { at = omega arith; sp = omega (arith, sp, few); fram = refl; inputs = refl; ram = λ a l. refl; work = refl }))

pub stack_part : (z : Setting) (locals : ℕ) (u : Core) → IsInStack (stack_base locals) → IsKept (rules_of z.kept) (stack_base locals) → u.sp ≡ stack_top
    → Stands z.code u.pc (stack_set locals)
    → Runs z.kept [] stack_cycles u (HasStack (u.pc + forms_bytes (stack_set locals)) (stack_base locals) u)
stack_part z locals u inside stays sp h = set_by z locals (nat_lt 8 locals) u inside stays refl sp h
