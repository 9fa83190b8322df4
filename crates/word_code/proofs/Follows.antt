-- What it is that a stretch of code follows a word program.
use Rattle.word_code.proofs.Names.{◌≡◌, ℕ, ◌+◌, ◌≤◌, List, [], ◌++◌, refl, sym, ◌∙◌, subst, arith, append-nil, Bool, true, false, if◌then◌else◌, Effect, Core}
use Rattle.word_code.proofs.Names.{Runs, Starves, WordState, End, GoesOn, Jumps, Gives, Short, Strays, Broken, Behaviour, behind_effects, on_end, strays}
use Rattle.word_code.proofs.Names.{spent_on, ram_word}
use Rattle.word_code.proofs.Names.{HasJumped}
use Rattle.word_code.proofs.Stretches.{Setting, runs_on, starves_on, dearer, dearer_stall, so_runs}
use Rattle.word_code.proofs.Memory.{local_words, Keeps, Memory}

-- the machine at this place stands for what the program works on
pub record StandsFor (z : Setting) (pc : ℕ) (w : WordState) (u : Core) : Type 0 where
  pub at : u.pc ≡ pc
  pub memory : Memory z u.sp u.ram (local_words u.work) w.stack w.locals
  pub fram : u.fram ≡ w.fram
  pub inputs : u.inputs ≡ w.inputs

-- the machine behind a return: it goes on where it was called, with the word that is given in R4
pub record HasReturned (z : Setting) (v : ℕ) (w : WordState) (u : Core) : Type 0 where
  pub pc : u.pc ≡ ram_word z.entered z.top
  pub sp : u.sp ≡ z.top + 2
  pub result : u.work 4 ≡ v
  pub fram : u.fram ≡ w.fram
  pub inputs : u.inputs ≡ w.inputs
  pub keeps : Keeps z u.ram (local_words u.work)

-- what a stretch of code does, by how the program's part ends
abbrev pub FollowsEnd : Setting → ℕ → ℕ → Core → List Effect → End → Type 0
FollowsEnd z pc most u es (GoesOn w) = Runs z.kept es most u (StandsFor z pc w)
FollowsEnd z pc most u es (Jumps to w) = Runs z.kept es most u (HasJumped to w)
FollowsEnd z pc most u es (Gives v w) = Runs z.kept es most u (HasReturned z v w)
FollowsEnd z pc most u es Short = Starves z.kept es most u
FollowsEnd z pc most u es Strays = Unit {0}
FollowsEnd z pc most u es Broken = Unit {0}

abbrev pub Follows : Setting → ℕ → ℕ → Core → Behaviour → Type 0
Follows z pc most u b = FollowsEnd z pc most u b.effects b.end

-- a fact of the state where a program goes on
abbrev pub OnGoesOn : (WordState → Type 0) → End → Type 0
OnGoesOn P (GoesOn w) = P w
OnGoesOn P (Jumps to w) = Unit {0}
OnGoesOn P (Gives v w) = Unit {0}
OnGoesOn P Short = Unit {0}
OnGoesOn P Strays = Unit {0}
OnGoesOn P Broken = Unit {0}

-- more cycles allowed
pub more_cycles : (z : Setting) (pc most more : ℕ) (u : Core) (es : List Effect) (e : End) → most ≤ more → FollowsEnd z pc most u es e
    → FollowsEnd z pc more u es e
more_cycles z pc most more u es (GoesOn w) l a = dearer z l a
more_cycles z pc most more u es (Jumps to w) l a = dearer z l a
more_cycles z pc most more u es (Gives v w) l a = dearer z l a
more_cycles z pc most more u es Short l a = dearer_stall z es most more u l a
more_cycles z pc most more u es _ l a = tt

-- behind a stretch
pub then_end : (z : Setting) (pc : ℕ) {most : ℕ} (more : ℕ) {u : Core} {P : Core → Type 0} {es : List Effect} (fs : List Effect) (e : End)
    → Runs z.kept es most u P → ((t : Core) → P t → FollowsEnd z pc more t fs e) → FollowsEnd z pc (most + more) u (es ++ fs) e
then_end z pc more fs (GoesOn w) a b = runs_on z a b
then_end z pc more fs (Jumps to w) a b = runs_on z a b
then_end z pc more fs (Gives v w) a b = runs_on z a b
then_end z pc {most} more {u} {P} {es} fs Short a b = starves_on z most more u P es fs a b
then_end z pc more fs _ a b = tt

module _ (z : Setting) (pc pc' most : ℕ) (more : WordState → ℕ) where
  -- a part, and then what it goes on with, which costs by the state there
  pub then_way : (u : Core) (P : WordState → Type 0) (es : List Effect) (e : End)
      (go : WordState → Behaviour) → FollowsEnd z pc most u es e → OnGoesOn P e
      → ((t : Core) (w : WordState) → P w → StandsFor z pc w t → Follows z pc' (more w) t (go w))
      → Follows z pc' (most + spent_on e more) u (behind_effects es (on_end e go))
  then_way u P es (GoesOn w) go a p b = then_end z pc' (more w) (go w).effects (go w).end a (λ t h. b t w p h)
  then_way u P es (Jumps to w) go a p b =
      subst (λ l. Runs z.kept l (most + 0) u (HasJumped to w)) (sym (append-nil es)) (dearer z (omega arith) a)
  then_way u P es (Gives v w) go a p b =
      subst (λ l. Runs z.kept l (most + 0) u (HasReturned z v w)) (sym (append-nil es)) (dearer z (omega arith) a)
  then_way u P es Short go a p b =
      subst (λ l. Starves z.kept l (most + 0) u) (sym (append-nil es)) (dearer_stall z es most (most + 0) u (omega arith) a)
  then_way u P es _ go a p b = tt

-- one more stretch where the program goes on
pub then_hop : (z : Setting) (pc pc' most more : ℕ) (u : Core) (es : List Effect) (e : End) → FollowsEnd z pc most u es e
    → ((t : Core) (w : WordState) → StandsFor z pc w t → Runs z.kept [] more t (StandsFor z pc' w)) → FollowsEnd z pc' (most + more) u es e
then_hop z pc pc' most more u es (GoesOn w) a b =
    subst (λ l. Runs z.kept l (most + more) u (StandsFor z pc' w)) (append-nil es) (runs_on z a (λ t h. b t w h))
then_hop z pc pc' most more u es (Jumps to w) a b = more_cycles z pc most (most + more) u es (Jumps to w) (omega arith) a
then_hop z pc pc' most more u es (Gives v w) a b = more_cycles z pc most (most + more) u es (Gives v w) (omega arith) a
then_hop z pc pc' most more u es Short a b = more_cycles z pc most (most + more) u es Short (omega arith) a
then_hop z pc pc' most more u es _ a b = tt

-- the same place by another number
pub ends_at : (z : Setting) (pc pc' most : ℕ) (u : Core) (b : Behaviour) → pc ≡ pc' → Follows z pc most u b → Follows z pc' most u b
ends_at z pc pc' most u b e a = subst (λ p. Follows z p most u b) e a

-- nothing is promised of what strays
pub guarded : (z : Setting) (c : Bool) (pc most : ℕ) (u : Core) (b : Behaviour) → (c ≡ true → Follows z pc most u b)
    → Follows z pc most u (if c then b else strays)
guarded z true pc most u b h = h refl
guarded z false pc most u b h = tt

module _ (z : Setting) (pc pc' : ℕ) where
  -- the machine elsewhere, with other words in R4 to R7
  pub stands_elsewhere : (w : WordState) (u t : Core) → StandsFor z pc w u → t.pc ≡ pc' → t.sp ≡ u.sp → t.ram ≡ u.ram
      → local_words t.work ≡ local_words u.work → t.fram ≡ u.fram → t.inputs ≡ u.inputs → StandsFor z pc' w t
  stands_elsewhere w u t i p q r k f d =
      record {
        at = p;
        memory = subst (λ l. Memory z t.sp t.ram l w.stack w.locals) (sym k) (rw (q, r) i.memory);
        fram = f ∙ i.fram;
        inputs = d ∙ i.inputs;
      }

-- the stack under a name
pub memory_as : (z : Setting) (pc : ℕ) (w : WordState) (u : Core) (vs : List ℕ) → w.stack ≡ vs → StandsFor z pc w u
    → Memory z u.sp u.ram (local_words u.work) vs w.locals
memory_as z pc w u vs e i = subst (λ l. Memory z u.sp u.ram (local_words u.work) l w.locals) e i.memory

-- ---- where words wait that are not pushed yet: their pushes are paid for already

-- so many cycles are left of the bound for pushes
pub record Pays (z : Setting) (es : List Effect) (owed most : ℕ) (u : Core) (P : Core → Type 0) : Type 0 where
  pub spent : ℕ
  pub within : spent + owed ≤ most
  pub runs : Runs z.kept es spent u P

-- what a stretch of code does, by how the program's part ends; where that goes on, by what the machine is for the state there
abbrev pub Reaches : Setting → ℕ → (WordState → Core → Type 0) → ℕ → Core → List Effect → End → Type 0
Reaches z owed Q most u es (GoesOn w) = Pays z es owed most u (Q w)
Reaches z owed Q most u es (Jumps to w) = Runs z.kept es most u (HasJumped to w)
Reaches z owed Q most u es (Gives v w) = Runs z.kept es most u (HasReturned z v w)
Reaches z owed Q most u es Short = Starves z.kept es most u
Reaches z owed Q most u es Strays = Unit {0}
Reaches z owed Q most u es Broken = Unit {0}

-- more cycles allowed
pub reach_more : (z : Setting) (owed : ℕ) (Q : WordState → Core → Type 0) (most more : ℕ) (u : Core) (es : List Effect) (e : End) → most ≤ more
    → Reaches z owed Q most u es e → Reaches z owed Q more u es e
reach_more z owed Q most more u es (GoesOn w) l a = record { spent = a.spent; within = omega (arith, a.within, l); runs = a.runs }
reach_more z owed Q most more u es (Jumps to w) l a = dearer z l a
reach_more z owed Q most more u es (Gives v w) l a = dearer z l a
reach_more z owed Q most more u es Short l a = dearer_stall z es most more u l a
reach_more z owed Q most more u es _ l a = tt

-- where it comes to, exactly
exactly : (z : Setting) (es : List Effect) (most : ℕ) (u : Core) (P : Core → Type 0) (a : Runs z.kept es most u P) → Runs z.kept es most u (λ t. t ≡ a.end)
exactly z es most u P a =
    record {
      steps = a.steps;
      cycles = a.cycles;
      within = a.within;
      comes = record { end = a.end; leads = a.leads; forms = a.forms; holds = refl };
    }

pays_on : (z : Setting) (owed most more : ℕ) (u : Core) (P Q : Core → Type 0) (es fs : List Effect) → Runs z.kept es most u P
    → ((t : Core) → P t → Pays z fs owed more t Q) → Pays z (es ++ fs) owed (most + more) u Q
pays_on z owed most more u P Q es fs a b =
    let c = b a.end a.holds in
    record {
      spent = most + c.spent;
      within = omega (arith, c.within);
      runs = runs_on z (exactly z es most u P a) (λ t e. subst (λ x. Runs z.kept fs c.spent x Q) (sym e) c.runs);
    }

-- behind a stretch
pub then_reach : (z : Setting) (owed : ℕ) (Q : WordState → Core → Type 0) (most more : ℕ) (u : Core) (P : Core → Type 0) (es fs : List Effect) (e : End)
    → Runs z.kept es most u P → ((t : Core) → P t → Reaches z owed Q more t fs e) → Reaches z owed Q (most + more) u (es ++ fs) e
then_reach z owed Q most more u P es fs (GoesOn w) a b = pays_on z owed most more u P (Q w) es fs a b
then_reach z owed Q most more u P es fs (Jumps to w) a b = runs_on z a b
then_reach z owed Q most more u P es fs (Gives v w) a b = runs_on z a b
then_reach z owed Q most more u P es fs Short a b = starves_on z most more u P es fs a b
then_reach z owed Q most more u P es fs _ a b = tt

module _ (z : Setting) (owed owed' : ℕ) (Q Q' : WordState → Core → Type 0) where
  -- a part, and then what it goes on with, which costs by the state there; what the part has left is spent there
  pub reach_way : (most : ℕ) (more : WordState → ℕ) (u : Core) (P : WordState → Type 0)
      (es : List Effect) (e : End) (go : WordState → Behaviour) → Reaches z owed Q most u es e → OnGoesOn P e
      → ((t : Core) (w : WordState) → P w → Q w t → Reaches z owed' Q' (owed + more w) t (go w).effects (go w).end)
      → (let b = behind_effects es (on_end e go) in Reaches z owed' Q' (most + spent_on e more) u b.effects b.end)
  reach_way most more u P es (GoesOn w) go a p b =
      reach_more z owed' Q' (a.spent + (owed + more w)) (most + more w) u (es ++ (go w).effects) (go w).end (omega (arith, a.within))
      (then_reach z owed' Q' a.spent (owed + more w) u (Q w) es (go w).effects (go w).end a.runs (λ t h. b t w p h))
  reach_way most more u P es (Jumps to w) go a p b =
      subst (λ l. Runs z.kept l (most + 0) u (HasJumped to w)) (sym (append-nil es)) (dearer z (omega arith) a)
  reach_way most more u P es (Gives v w) go a p b =
      subst (λ l. Runs z.kept l (most + 0) u (HasReturned z v w)) (sym (append-nil es)) (dearer z (omega arith) a)
  reach_way most more u P es Short go a p b =
      subst (λ l. Starves z.kept l (most + 0) u) (sym (append-nil es)) (dearer_stall z es most (most + 0) u (omega arith) a)
  reach_way most more u P es _ go a p b = tt

-- where no word waits it is the same
pub reaches : (z : Setting) (Q : WordState → Core → Type 0) (pc most : ℕ) (u : Core) (es : List Effect) (e : End)
    → ((w : WordState) (t : Core) → StandsFor z pc w t → Q w t) → FollowsEnd z pc most u es e → Reaches z 0 Q most u es e
reaches z Q pc most u es (GoesOn w) f a = record { spent = most; within = omega arith; runs = so_runs a (f w) }
reaches z Q pc most u es (Jumps to w) f a = a
reaches z Q pc most u es (Gives v w) f a = a
reaches z Q pc most u es Short f a = a
reaches z Q pc most u es _ f a = tt

-- and where those that wait are pushed then
pub then_follows : (z : Setting) (owed pc most : ℕ) (Q : WordState → Core → Type 0) (u : Core) (es : List Effect) (e : End) → Reaches z owed Q most u es e
    → ((t : Core) (w : WordState) → Q w t → Runs z.kept [] owed t (StandsFor z pc w)) → FollowsEnd z pc most u es e
then_follows z owed pc most Q u es (GoesOn w) a b =
    dearer z a.within (subst (λ l. Runs z.kept l (a.spent + owed) u (StandsFor z pc w)) (append-nil es) (runs_on z a.runs (λ t h. b t w h)))
then_follows z owed pc most Q u es (Jumps to w) a b = a
then_follows z owed pc most Q u es (Gives v w) a b = a
then_follows z owed pc most Q u es Short a b = a
then_follows z owed pc most Q u es _ a b = tt

-- nothing is promised of what strays
pub reach_guarded : (z : Setting) (c : Bool) (owed : ℕ) (Q : WordState → Core → Type 0) (most : ℕ) (u : Core) (b : Behaviour)
    → (c ≡ true → Reaches z owed Q most u b.effects b.end) → (let x : Behaviour = if c then b else strays in Reaches z owed Q most u x.effects x.end)
reach_guarded z true owed Q most u b h = h refl
reach_guarded z false owed Q most u b h = tt
