-- Stretches of code that stays, with room for locals and a stack.
use Rattle.word_code.proofs.Names.{subst, ◌≡◌, ℕ, ◌+◌, ◌≤◌, List, [], ◌++◌, Some, arith, forms_bytes, stands_front, stands_back, forms_bytes-append}
use Rattle.word_code.proofs.Names.{Effect, Goes, Stops, At, stretch, KeptCode, CodeRules, rules_of, Core, Form, instruction_of, form_step, FormNeeds, Stands}
use Rattle.word_code.proofs.Names.{AreStraight, forms_run, IsKnown, ram_word}
use Rattle.word_code.proofs.Names.{FormsNeed, IsTidy, Runs, Starves, stack_top, HasStackRoom, CallBounds, ◌%◌, ◌*◌, ◌<◌, Bool, true, false}
use Rattle.array_versions.specs.msp_step.declared.machine.Stop.TheVariants as stop
use Rattle.code_forms.proofs.Interface as blocks

-- the word where the stack of a function begins: the return address
pub record IsReturn (rules : CodeRules) (top frame ceiling : ℕ) (entered : Core) : Type 0 where
  pub outside : frame ≤ top → ceiling ≤ top
  pub high : top + 2 ≤ stack_top
  pub within : top + 2 ≤ rules.high
  pub known : IsKnown (entered.ram top)
  pub even : ram_word entered top % 2 ≡ 0

-- some code as it runs, from its beginning on: which locals are its own, where its stack begins and how many words that may take, what of RAM it leaves
-- to what it calls, and the machine as it began
pub record Setting : Type 0 where
  pub kept : KeptCode
  pub open kept use {code}
  pub tidy : IsTidy code
  pub own : ℕ  -- of the locals in registers those from this number on are its own
  pub registers : ℕ  -- up to this one; neither it nor what it calls writes the registers from here on
  pub frame : ℕ  -- its locals in RAM stand from this address on
  pub ceiling : ℕ  -- up to this one
  pub room : ℕ
  pub top : ℕ
  pub low : ℕ  -- SP stays at or above this address but in what it calls
  pub bottom : ℕ  -- in that too it stays at or above this one
  pub gives : Bool  -- it was called, and ends by giving a word
  pub entered : Core
  pub ordered : own ≤ registers
  pub few : registers ≤ 8
  pub even : top % 2 ≡ 0
  pub high : top ≤ stack_top
  pub within : top ≤ kept.high
  pub above : frame < ceiling → top ≤ frame
  pub inside : ceiling ≤ stack_top
  pub deep : low + 2 * room ≤ top
  pub floor : bottom ≤ low
  pub lowest : kept.low ≤ bottom
  pub roomy : HasStackRoom top room
  pub returns : gives ≡ true → IsReturn (rules_of kept) top frame ceiling entered

-- what bounds its calls
abbrev pub bounds_of : Setting → CallBounds
bounds_of z = record { first = z.own; low = z.low; floor = z.bottom }

-- straight code comes to where its forms do
module _ (z : Setting) (ms : List Form) (most : ℕ) (u t : Core) (es : List Effect) (c : ℕ) (P : Core → Type 0) where
  pub straight : AreStraight ms → Stands z.code u.pc ms → FormsNeed (rules_of z.kept) ms u → forms_run ms u ≡ stretch es c (At t) → c ≤ most → P t
      → Runs z.kept es most u P
  straight st h w e l p = blocks.runs_within z.kept z.tidy most (blocks.straight_comes z.kept z.tidy ms u t es c P st h w e p) l

-- one form, a jump too
module _ (z : Setting) (m : Form) (most : ℕ) (u t : Core) (es : List Effect) (c : ℕ) (P : Core → Type 0) where
  pub hop : z.code.at u.pc ≡ Some (instruction_of m) → FormNeeds (rules_of z.kept) m u → form_step m u ≡ Goes es c t → c ≤ most → P t → Runs z.kept es most u P
  hop = blocks.hop z.kept z.tidy m most u t es c P

pub runs_on : (z : Setting) {most more : ℕ} {u : Core} {P Q : Core → Type 0} {es fs : List Effect} → Runs z.kept es most u P
    → ((t : Core) → P t → Runs z.kept fs more t Q) → Runs z.kept (es ++ fs) (most + more) u Q
runs_on z {most} {more} {u} {P} {Q} {es} {fs} = blocks.runs_on z.kept z.tidy most more u P Q es fs

pub starves_on : (z : Setting) (most more : ℕ) (u : Core) (P : Core → Type 0) (es fs : List Effect) → Runs z.kept es most u P
    → ((t : Core) → P t → Starves z.kept fs more t) → Starves z.kept (es ++ fs) (most + more) u
starves_on z = blocks.starves_on z.kept z.tidy

pub dearer : (z : Setting) {es : List Effect} {most more : ℕ} {u : Core} {P : Core → Type 0} → most ≤ more → Runs z.kept es most u P → Runs z.kept es more u P
dearer z {es} {most} {more} {u} {P} = blocks.dearer z.kept z.tidy es most more u P

pub dearer_stall : (z : Setting) (es : List Effect) (most more : ℕ) (u : Core) → most ≤ more → Starves z.kept es most u → Starves z.kept es more u
dearer_stall z = blocks.dearer_starves z.kept z.tidy

-- what it comes to, said otherwise
pub so_runs : {code : KeptCode} {es : List Effect} {most : ℕ} {u : Core} {P Q : Core → Type 0} → Runs code es most u P → ((t : Core) → P t → Q t)
    → Runs code es most u Q
so_runs a f =
    record {
      steps = a.steps;
      cycles = a.cycles;
      within = a.within;
      comes = record { end = a.end; leads = a.leads; forms = a.forms; holds = f a.end a.holds };
    }

pub nothing_run : (z : Setting) {u : Core} {P : Core → Type 0} → P u → Runs z.kept [] 0 u P
nothing_run z {u} {P} = blocks.nothing z.kept z.tidy u P

-- a form that wants a reading where none is left
pub starved : (z : Setting) (m : Form) (u : Core) (price : ℕ) → z.code.at u.pc ≡ Some (instruction_of m) → FormNeeds (rules_of z.kept) m u
    → form_step m u ≡ Stops [] price stop.NoReading → Starves z.kept [] price u
starved z m u price h w e = blocks.starve z.kept z.tidy m price price u [] h w e (omega arith)

-- two parts of code, one behind the other
pub two_parts : (z : Setting) (a b : List Form) {n m : ℕ} (pc : ℕ) {u : Core} {P : Core → Type 0} (Q : ℕ → Core → Type 0) → Stands z.code pc (a ++ b)
    → (Stands z.code pc a → Runs z.kept [] n u P) → ((t : Core) → Stands z.code (pc + forms_bytes a) b → P t
    → Runs z.kept [] m t (Q (pc + forms_bytes a + forms_bytes b))) → Runs z.kept [] (n + m) u (Q (pc + forms_bytes (a ++ b)))
two_parts z a b {n} {m} pc {u} Q h f g =
    let end : pc + forms_bytes a + forms_bytes b ≡ pc + forms_bytes (a ++ b) = omega (arith, forms_bytes-append a b) in
    subst (λ p. Runs z.kept [] (n + m) u (Q p)) end (runs_on z (f (stands_front z.code pc a b h)) (λ t k. g t (stands_back z.code pc a b h) k))
