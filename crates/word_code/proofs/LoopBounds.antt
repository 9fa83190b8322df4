-- In the body of a loop the local that counts its turns is below a number, and so is an index that waits there.
use Rattle.word_code.proofs.Names.{◌≡◌, ◌≢◌, ℕ, ◌<◌, ◌==◌, ◌&&◌, ◌||◌, Bool, true, false, nat_lt, nat_le, if◌then◌else◌, List, [], ◌∷◌, Option, Some, ◌≤◌, refl}
use Rattle.word_code.proofs.Names.{sym, ap, ◌∙◌, subst, arith, ltb-true, lt-ltb, eqb-true, ne_eqb, and_parts, nat_tests, unwrap_or, AllByRecursion, Core, Step}
use Rattle.word_code.proofs.Names.{Program, nothing, step, WordState, End, GoesOn, on_end, with_stack, assigned, step_behaviour, behaviour, StepSpares, Spares}
use Rattle.word_code.proofs.Names.{Leaves, leaves, Bound, Waiting, top_of, below_top, is_bounded, is_inside}
use Rattle.word_code.specs.declared.waiting.Waiting.TheVariants as waiting
use Rattle.word_code.proofs.Stretches.{Setting}
use Rattle.word_code.proofs.Follows.{OnGoesOn}
use Rattle.word_code.proofs.Operands.{waiting_word, Describes, drop_part}

-- a local has a word, and that is below the number
pub record IsBelow (locals : ℕ → Option ℕ) (b : Bound) : Type 0 where
  pub word : ℕ
  pub has : locals b.local ≡ Some word
  pub less : word < b.below

-- so has the local of each bound
abbrev pub Bounded : List Bound → (ℕ → Option ℕ) → Type 0
Bounded bs locals = AllByRecursion (IsBelow locals) bs

-- the local of each bound is spared
abbrev pub Spared : List Bound → (ℕ → Type 0) → Type 0
Spared bs S = AllByRecursion (λ b. S b.local) bs

pub spared_so : (bs : List Bound) (S T : ℕ → Type 0) → ((n : ℕ) → S n → T n) → Spared bs S → Spared bs T
spared_so [] S T f h = tt
spared_so (b ∷ bs) S T f h = (f b.local h.0, spared_so bs S T f h.1)

-- where each of these locals keeps its word it stays below its number
same_bounded : (bs : List Bound) (l m : ℕ → Option ℕ) → Spared bs (λ n. m n ≡ l n) → Bounded bs l → Bounded bs m
same_bounded [] l m e h = tt
same_bounded (b ∷ bs) l m e h = (record { word = h.0.word; has = e.0 ∙ h.0.has; less = h.0.less }, same_bounded bs l m e.1 h.1)

-- another local has a new word
other_word : (l : ℕ → Option ℕ) (m v n : ℕ) → m ≢ n → assigned l m v n ≡ l n
other_word l m v n h = ap (λ b. if b then Some v else l n) (ne_eqb n m (λ e. h (sym e)))

pub bounded_with : (bs : List Bound) (l : ℕ → Option ℕ) (m v : ℕ) → Spared bs (λ n. m ≢ n) → Bounded bs l → Bounded bs (assigned l m v)
bounded_with bs l m v h k = same_bounded bs l (assigned l m v) (spared_so bs (λ n. m ≢ n) (λ n. assigned l m v n ≡ l n) (other_word l m v) h) k

-- where an end goes on
on_bounded : (bs : List Bound) (l : ℕ → Option ℕ) (e : End) → Bounded bs l → Spared bs (λ n. Leaves n (l n) e) → OnGoesOn (λ t. Bounded bs t.locals) e
on_bounded bs l (GoesOn t) h k = same_bounded bs l t.locals k h
on_bounded bs l _ h k = tt

pub bounded_on : (bs : List Bound) (p : Program) (s : WordState) → Spared bs (λ n. Spares n p) → Bounded bs s.locals
    → OnGoesOn (λ t. Bounded bs t.locals) (behaviour p s).end
bounded_on bs p s h k =
    let e = (behaviour p s).end in
    on_bounded bs s.locals e k (spared_so bs (λ n. Spares n p) (λ n. Leaves n (s.locals n) e) (λ n r. leaves n (s.locals n) p s r refl) h)

-- a step by itself
one_leaves : (n : ℕ) (o : Option ℕ) (e : End) → Leaves n o (on_end e (behaviour nothing)).end → Leaves n o e
one_leaves n o (GoesOn t) h = h
one_leaves n o _ h = tt

pub step_bounded : (bs : List Bound) (first : Step) (s : WordState) → Spared bs (λ n. StepSpares n first) → Bounded bs s.locals
    → OnGoesOn (λ t. Bounded bs t.locals) (step_behaviour first s).end
step_bounded bs first s h k =
    let e = (step_behaviour first s).end in
    on_bounded bs s.locals e k (spared_so bs (λ n. StepSpares n first) (λ n. Leaves n (s.locals n) e)
    (λ n r. one_leaves n (s.locals n) e (leaves n (s.locals n) (step first nothing) s (r, tt) refl)) h)

-- ---- an index that waits

-- a local whose bound is no more than a length
local_less : (b : Bound) (l : ℕ → Option ℕ) (n size : ℕ) → IsBelow l b → (b.local == n) ≡ true → nat_le b.below size ≡ true → unwrap_or (l n) 0 < size
local_less b l n size h e f =
    let less = h.less in
    let word : unwrap_or (l n) 0 ≡ h.word = ap (λ m. unwrap_or (l m) 0) (sym (eqb-true b.local n e)) ∙ ap (λ o. unwrap_or o 0) h.has in
    let within : b.below ≤ size = grind (arith, nat_tests) in
    omega (arith, word)

-- by which of two tests is true
either_true : {P : Type 0} (a b : Bool) → (a ≡ true → P) → (b ≡ true → P) → (a || b) ≡ true → P
either_true true b f g e = f refl
either_true false b f g e = g e

bounded_less : (bs : List Bound) (l : ℕ → Option ℕ) (n size : ℕ) → Bounded bs l → is_bounded bs n size ≡ true → unwrap_or (l n) 0 < size
bounded_less [] l n size h e = absurd (let q = e in (cc))
bounded_less (b ∷ bs) l n size h e =
    either_true ((b.local == n) && nat_le b.below size) (is_bounded bs n size)
    (λ q. let both = and_parts (b.local == n) (nat_le b.below size) q in local_less b l n size h.0 both.0 both.1) (λ q. bounded_less bs l n size h.1 q) e

inside_less : (bs : List Bound) (o : Waiting) (fram : ℕ → ℕ) (l : ℕ → Option ℕ) (work : ℕ → ℕ) (size : ℕ) → Bounded bs l
    → is_inside bs (Some o) size ≡ true → waiting_word fram l work o < size
inside_less bs (waiting.Number k) fram l work size h e = ltb-true k size e
inside_less bs (waiting.Local n) fram l work size h e = bounded_less bs l n size h e
inside_less bs _ fram l work size h e = absurd (let q = e in (cc))

module _ (z : Setting) (bs : List Bound) (pc : ℕ) (u : Core) (size : ℕ) where
  -- the index is the top
  pub top_inside : (os : List Waiting) (w : WordState) (i : ℕ) (rest : List ℕ) → Bounded bs w.locals → w.stack ≡ i ∷ rest → Describes z os pc w u
      → is_inside bs (top_of os) size ≡ true → nat_lt i size ≡ true
  top_inside [] w i rest h e d q = absurd (let p = q in (cc))
  top_inside (o ∷ os) w i rest h e d q =
      let word = (drop_part z o os pc w i rest u e d).1 in
      lt-ltb i size (subst (λ v. v < size) word (inside_less bs o w.fram w.locals u.work size h q))

  -- or below the top
  pub under_inside : (os : List Waiting) (w : WordState) (i v : ℕ) (rest : List ℕ) → Bounded bs w.locals → w.stack ≡ v ∷ (i ∷ rest) → Describes z os pc w u
      → is_inside bs (top_of (below_top os)) size ≡ true → nat_lt i size ≡ true
  under_inside [] w i v rest h e d q = absurd (let p = q in (cc))
  under_inside (o ∷ os) w i v rest h e d q =
      top_inside os (with_stack (i ∷ rest) w) i rest h refl (drop_part z o os pc w v (i ∷ rest) u e d).0 q
