-- Routes through code: some forms, then a jump that is taken or isn't, and so on. The machine begins with the words of R4 to R7 by name and with the FRAM
-- of the state that it stands for, so what it does and what it holds at the end are computations. Here alone it is reckoned where a jump comes to.
use Rattle.word_code.proofs.Names.{◌≡◌, ℕ, zero, suc, ◌+◌, ◌-◌, ◌%◌, ◌<◌, ◌==◌, List, [], ◌∷◌, drop, refl, sym, ap, ap₂, ◌∙◌, subst, arith, Bool, true, false}
use Rattle.word_code.proofs.Names.{if◌then◌else◌, eqb-true, Effect, stretch, after_effects, At, Halted, put, Condition, sum16, distance, is_met, Core}
use Rattle.word_code.proofs.Names.{Form, Jump, CodeRules, rules_of}
use Rattle.word_code.proofs.Names.{form_bytes, Stands, forms_bytes, forms_run, AreStraight, FormsNeed, Runs, stands_at, first_forms, forms_at}
use Rattle.word_code.proofs.Names.{forms_behind, forms_bytes-append, end_of}
use Rattle.word_code.proofs.Names.{WordState, Inputs}
use Rattle.std.proofs.Common.{take, take-add}
use Rattle.code_forms.specs.Forms.{CoreStretch}
use Rattle.array_versions.specs.machine_effects.Going.{Status}
use Rattle.array_versions.specs.msp_step.declared.machine.Stop.{Stop}
use Rattle.array_versions.specs.msp_step.msp_isa.declared.instructions.Condition.TheVariants as condition
use Rattle.word_code.proofs.Memory.{Memory}
use Rattle.word_code.proofs.Registers.{kept_by}
use Rattle.word_code.proofs.Stretches.{Setting, straight, hop, runs_on, so_runs, dearer, nothing_run}
use Rattle.word_code.proofs.Follows.{StandsFor}
use Rattle.word_code.proofs.Jumps.{stands_low}

-- a leg of a route: so many forms, or a jump, which is taken or isn't
pub data Leg : Type 0 where
  on : (n : ℕ) → Leg
  jump : (taken : Bool) → Leg

-- how many forms stand in so many bytes
abbrev pub forms_in : ℕ → List Form → ℕ
forms_in k [] = 0
forms_in k (m ∷ ms) = if k == 0 then 0 else suc (forms_in (k - form_bytes m) ms)

-- the condition and the offset of the jump in front
abbrev pub condition_of : List Form → Condition
condition_of (Jump c d ∷ ms) = c
condition_of _ = condition.Always

abbrev pub offset_of : List Form → ℕ
offset_of (Jump c d ∷ ms) = d
offset_of _ = 0

-- where so many forms end, as they go
abbrev pub end_at : ℕ → List Form → ℕ
end_at q [] = q
end_at q (m ∷ ms) = end_at (q + form_bytes m) ms

end_is : (q : ℕ) (ms : List Form) → end_at q ms ≡ q + forms_bytes ms
end_is q [] = omega arith
end_is q (m ∷ ms) = end_is (q + form_bytes m) ms ∙ omega arith

-- what follows a stretch
abbrev pub onward : Status Core Stop → List Effect → ℕ → (Core → CoreStretch) → CoreStretch
onward (At t) es c go = after_effects es c (go t)
onward (Halted price x) es c go = stretch es c (Halted price x)

abbrev pub OnAt : Status Core Stop → (Core → Type 0) → Type 0
OnAt (At t) P = P t
OnAt (Halted price x) P = Unit {0}

module _ (all : List Form) where
  -- where the form behind the first j of them stands, in bytes from the first on
  abbrev pub place : ℕ → ℕ
  place j = forms_bytes (take j all)

  -- where a jump there comes to, in bytes and in forms
  abbrev pub far : Bool → ℕ → ℕ
  far b j = if b then (place j + 2 + distance (offset_of (drop j all))) % 0x10000 else place j + 2

  abbrev pub next : Bool → ℕ → ℕ
  next b j = forms_in (far b j) all

  -- what a route does from the form behind the first j on, where the code stands at p
  abbrev pub routed : ℕ → List Leg → ℕ → Core → CoreStretch
  routed p [] j u = stretch [] 0 (At u)
  routed p (on n ∷ ls) j u = let r = forms_run (take n (drop j all)) u in onward r.status r.effects r.cycles (routed p ls (j + n))
  routed p (jump b ∷ ls) j u = after_effects [] 2 (routed p ls (next b j) (record u { pc = p + place (next b j) }))

  -- behind how many forms it ends
  abbrev pub ending : List Leg → ℕ → ℕ
  ending [] j = j
  ending (on n ∷ ls) j = ending ls (j + n)
  ending (jump b ∷ ls) j = ending ls (next b j)

  -- what it needs: its forms what they need, and that each jump is one, is decided so and comes to a form
  abbrev pub RouteNeeds : CodeRules → ℕ → List Leg → ℕ → Core → Type 0
  RouteNeeds rules p [] j u = Unit {0}
  RouteNeeds rules p (on n ∷ ls) j u =
      let ms = take n (drop j all) in
      AreStraight ms × FormsNeed rules ms u × OnAt (forms_run ms u).status (λ t. (t.pc ≡ end_at u.pc ms) × RouteNeeds rules p ls (j + n) t)
  RouteNeeds rules p (jump b ∷ ls) j u =
      let ms = drop j all in
      (ms ≡ Jump (condition_of ms) (offset_of ms) ∷ drop 1 ms) × (is_met (condition_of ms) u.flags ≡ b) × (place (next b j) ≡ far b j)
      × RouteNeeds rules p ls (next b j) (record u { pc = p + place (next b j) })

-- what so many forms need that need nothing
abbrev pub Free : ℕ → Type 0
Free zero = Unit {0}
Free (suc n) = (Unit {0} × Unit {0}) × Free n

pub free : (n : ℕ) → Free n
free zero = tt
free (suc n) = ((tt, tt), free n)

-- a jump comes to the form that it goes to
lands : (b : Bool) (p k d to : ℕ) → to ≡ (if b then (k + 2 + d) % 0x10000 else k + 2) → p + to < 0x10000
    → (if b then sum16 (p + k + 2) d else p + k + 2) ≡ p + to
lands true p k d to e low = omega (arith, e, low)
lands false p k d to e low = omega (arith, e)

module _ (z : Setting) (p : ℕ) (all : List Form) (h : Stands z.code p all) where
  -- it comes to this machine, behind so many forms
  abbrev Comes : ℕ → Core → Core → Type 0
  Comes j v t = (t ≡ v) × (v.pc ≡ p + place all j)

  on_by : {fs : List Effect} {d : ℕ} (s : Status Core Stop) (n j to : ℕ) {u v : Core} (go : Core → CoreStretch) (More : Core → Type 0)
      → (let ms = take n (drop j all) in u.pc ≡ p + place all j → AreStraight ms → FormsNeed (rules_of z.kept) ms u → forms_run ms u ≡ stretch fs d s
      → OnAt s More
      → ((t : Core) → More t → (go t).status ≡ At v → Runs z.kept (go t).effects (go t).cycles t (Comes to v))
      → (let r = onward s fs d go in r.status ≡ At v → Runs z.kept r.effects r.cycles u (Comes to v)))
  on_by {fs} {d} (At t) n j to {u} {v} go More at st needs made more on_then e =
      let ms = take n (drop j all) in
      let front = straight z ms d u t fs d (λ x. x ≡ t) st (stands_at z.code (p + place all j) ms u (forms_at z.code p j n all h) at) needs made
      (omega arith) refl in
      runs_on z front (λ x same. subst (λ y. Runs z.kept (go t).effects (go t).cycles y (Comes to v)) (sym same) (on_then t more e))
  on_by (Halted price x) n j to go More at st needs made more on_then e = absurd (cc)

  leads : (ls : List Leg) (j : ℕ) (u v : Core) → u.pc ≡ p + place all j → RouteNeeds all (rules_of z.kept) p ls j u
      → (let r = routed all p ls j u in r.status ≡ At v → Runs z.kept r.effects r.cycles u (Comes (ending all ls j) v))
  leads [] j u v at needs e = let same : u ≡ v = cc in nothing_run z (same, ap (λ x. x.pc) (sym same) ∙ at)
  leads (on n ∷ ls) j u v at needs e =
      let ms = take n (drop j all) in
      let there = ap forms_bytes (take-add j n all) ∙ forms_bytes-append (take j all) ms in
      on_by (forms_run ms u).status n j (ending all (on n ∷ ls) j) (routed all p ls (j + n))
      (λ t. (t.pc ≡ end_at u.pc ms) × RouteNeeds all (rules_of z.kept) p ls (j + n) t)
      at needs.0 needs.1 refl needs.2 (λ t more s. leads ls (j + n) t v (more.0 ∙ omega (arith, end_is u.pc ms, at, there)) more.1 s) e
  leads (jump b ∷ ls) j u v at needs e =
      let c = condition_of (drop j all) in
      let d = offset_of (drop j all) in
      let i = next all b j in
      let t : Core = record u { pc = p + place all i } in
      let r = routed all p ls i t in
      let to = Comes (ending all ls i) v in
      let here = subst (Stands z.code (p + place all j)) needs.0 (forms_behind z.code p j all h) in
      let high = (z.tidy (p + place all j) _ here.0).high in
      let end = stands_low z p (take i all) (first_forms z.code p i all h) (omega (arith, high)) in
      let goes : (if is_met c u.flags then sum16 (u.pc + 2) (distance d) else u.pc + 2) ≡ p + place all i =
      ap₂ (λ x q. if x then sum16 (q + 2) (distance d) else q + 2) needs.1 at ∙ lands b p (place all j) (distance d) (place all i) needs.2 end in
      runs_on z (hop z (Jump c d) 2 u _ [] 2 (λ x. x ≡ t) (ap z.code.at at ∙ here.0) tt refl (omega arith) (ap (λ q. record u { pc = q }) goes))
      (λ x same. subst (λ y. Runs z.kept r.effects r.cycles y to) (sym same) (leads ls i t v refl needs.3 e))

-- ---- the words of R4 to R7 by name

abbrev pub Work : ℕ → ℕ → ℕ → ℕ → (ℕ → ℕ) → Type 0
Work a b c d f = (f 4 ≡ a) × (f 5 ≡ b) × (f 6 ≡ c) × (f 7 ≡ d)

abbrev registers : ℕ → ℕ → ℕ → ℕ → (ℕ → ℕ) → ℕ → ℕ
registers a b c d f = put (put (put (put f 4 a) 5 b) 6 c) 7 d

-- the machine with them, and with what it stands for
abbrev pub named : ℕ → ℕ → ℕ → ℕ → ℕ → WordState → Core → Core
named pc a b c d w t = record t { pc = pc; work = registers a b c d t.work; fram = w.fram; inputs = w.inputs }

put_there : (f : ℕ → ℕ) (r v : ℕ) → f r ≡ v → put f r v ≡ f
put_there f r v e = λ i n. by n (n == r) refl i
  where
    by : (n : ℕ) (b : Bool) → (n == r) ≡ b → (if b then v else f n) ≡ f n
    by n true q = sym e ∙ ap f (sym (eqb-true n r q))
    by n false q = refl

registers_are : {a b c d : ℕ} (f : ℕ → ℕ) → Work a b c d f → registers a b c d f ≡ f
registers_are {a} {b} {c} {d} f k =
    ap (λ g. put (put (put g 5 b) 6 c) 7 d) (put_there f 4 a k.0) ∙ ap (λ g. put (put g 6 c) 7 d) (put_there f 5 b k.1)
    ∙ ap (λ g. put g 7 d) (put_there f 6 c k.2) ∙ put_there f 7 d k.3

module _ (z : Setting) where
  -- where the first form stands
  pub starts : {p : ℕ} {w : WordState} {t : Core} → StandsFor z p w t → StandsFor z (p + 0) w t
  starts {p} {w} {t} s = let e : p ≡ p + 0 = omega arith in subst (λ q. StandsFor z q w t) e s

  is_named : {pc a b c d : ℕ} {w : WordState} {t : Core} → StandsFor z pc w t → Work a b c d t.work → t ≡ named pc a b c d w t
  is_named {w = w} {t = t} s k =
      let work = sym (registers_are t.work k) in λ i. record t { pc = s.at i; work = work i; fram = s.fram i; inputs = s.inputs i }

  -- a route from where the machine stands for a state, behind the first j forms, with these words in R4 to R7
  module _ (p : ℕ) (all : List Form) (h : Stands z.code p all) (j : ℕ) {a b c d : ℕ} {w : WordState} {t : Core} (s : StandsFor z (p + place all j) w t)
      (words : Work a b c d t.work) where
    abbrev begun : Core
    begun = named (p + place all j) a b c d w t

    -- through code that writes R4 to R7 and words of FRAM, and takes some of the inputs
    pub look_route : (ls : List Leg) (es : List Effect) (f : ℕ → ℕ) (n : Inputs) (c : ℕ) (Q : Core → Type 0) → RouteNeeds all (rules_of z.kept) p ls j begun
        → (let r = routed all p ls j begun in let v = end_of begun r.status in r ≡ stretch r.effects c (At v)
        → kept_by (record v { fram = w.fram; inputs = w.inputs }) ≡ kept_by begun → r.effects ≡ es → v.fram ≡ f → v.inputs ≡ n
        → (StandsFor z (p + place all (ending all ls j)) (record w { fram = f; inputs = n }) v → Q v) → Runs z.kept es c t Q)
    look_route ls es f n c Q needs made kept effects fram inputs q =
        let r = routed all p ls j begun in
        let v = end_of begun r.status in
        let memory = subst (λ x. Memory z x.sp x.ram x.locals w.stack w.locals) (sym kept) s.memory in
        let cycles : r.cycles ≡ c = ap (λ x. x.cycles) made in
        subst (λ x. Runs z.kept es c x Q) (sym (is_named s words)) (subst (λ l. Runs z.kept l c begun Q) effects (dearer z (omega (arith, cycles))
        (so_runs (leads z p all h ls j begun v refl needs (ap (λ x. x.status) made)) (λ x k.
        subst Q (sym k.0) (q (record { at = k.1; memory = memory; fram = fram; inputs = inputs }))))))

    -- through code that writes R4 to R7 and words of FRAM
    pub store_route : (ls : List Leg) (es : List Effect) (f : ℕ → ℕ) (c : ℕ) (Q : Core → Type 0) → RouteNeeds all (rules_of z.kept) p ls j begun
        → (let r = routed all p ls j begun in let v = end_of begun r.status in r ≡ stretch r.effects c (At v)
        → kept_by (record v { fram = w.fram }) ≡ kept_by begun → r.effects ≡ es → v.fram ≡ f
        → (StandsFor z (p + place all (ending all ls j)) (record w { fram = f }) v → Q v) → Runs z.kept es c t Q)
    store_route ls es f c Q needs made kept effects fram q =
        look_route ls es f w.inputs c Q needs made (λ i. record (kept i) { inputs = w.inputs }) effects fram (ap (λ x. x.inputs) kept) q

    -- through code that writes R4 to R7 alone
    pub route : (ls : List Leg) (c : ℕ) (Q : Core → Type 0) → RouteNeeds all (rules_of z.kept) p ls j begun
        → (let r = routed all p ls j begun in let v = end_of begun r.status in r ≡ stretch [] c (At v) → kept_by v ≡ kept_by begun
        → (StandsFor z (p + place all (ending all ls j)) w v → Q v) → Runs z.kept [] c t Q)
    route ls c Q needs made kept q =
        let none : [] ≡ (routed all p ls j begun).effects = sym (ap (λ x. x.effects) made) in
        store_route ls [] w.fram c Q needs (made ∙ (λ i. stretch (none i) c (At (end_of begun (routed all p ls j begun).status))))
        (λ i. record (kept i) { fram = w.fram })
        (sym none) (ap (λ x. x.fram) kept) q
