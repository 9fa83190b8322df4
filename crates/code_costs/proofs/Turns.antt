-- Loops: so many turns, each by what one costs with what follows it.
use Rattle.code_costs.proofs.Names.{◌≡◌, ℕ, zero, suc, ◌+◌, ◌-◌, ◌*◌, ◌<◌, ◌≤◌, ◌==◌, Bool, true, false, not, nat_lt, nat_le, if◌then◌else◌, nat_tests}
use Rattle.code_costs.proofs.Names.{List, [], ◌∷◌, ◌++◌}
use Rattle.code_costs.proofs.Names.{Some, refl, sym, ap, ◌∙◌, subst, arith, eq-eqb, ne_eqb, forms_bytes-append, Core, Form, Jump, Skip, Stands}
use Rattle.code_costs.proofs.Names.{forms_bytes, Runs}
use Rattle.code_costs.proofs.Names.{stands_front, stands_back, WordState, Behaviour, with_local, turns, number_code, turn_end, turns_code, jump_back, size}
use Rattle.code_costs.proofs.Names.{Setting, Owns, runs_on, StandsFor, OnGoesOn, Reaches, then_reach, Decided, back_part, whole_size, jump_to, near_is}
use Rattle.code_costs.proofs.Names.{back_distance, raise_part, local_number, back_cycles, turn_most, turns_most, forward_most}
use Rattle.word_code.specs.msp_isa.declared.instructions.Condition.TheVariants as condition
use Rattle.word_code.specs.array_versions.msp_step.Effect.{word_sum}
use Rattle.code_costs.proofs.Alone.{alone, stand, stands_in, stands_out, runs_there}
use Rattle.code_costs.proofs.Reaching.{on_way}

module _ (z : Setting) where
  -- back over so many words where it holds; by whether they are few
  back_by : (near b : Bool) (pc d to : ℕ) (w : WordState) (t : Core) → nat_le d 511 ≡ near
      → (let ms : List Form = if near then Jump condition.NotEqual (1023 - d) ∷ [] else (Jump condition.Equal 2 ∷ Skip (0xFFFA - 2 * d) ∷ []) in
      Stands z.code pc ms → (if b then to + 2 * d else pc + forms_bytes ms) ≡ (if b then pc else to)
      → Decided z pc w b condition.NotEqual condition.Equal t → Runs z.kept [] 5 t (StandsFor z to w)
      → Runs z.kept [] (if near then 2 else 5) t (StandsFor z to w))
  back_by true true pc d to w t n h e k far =
      let l = near_is d n in
      let high = (z.tidy pc _ h.0).high in
      jump_to z condition.NotEqual (1023 - d) pc to true w t h.0 k.holds (ap (λ x. word_sum (pc + 2) x) (back_distance d l) ∙ omega (arith, e)) k.is
  back_by true false pc d to w t n h e k far = jump_to z condition.NotEqual (1023 - d) pc to false w t h.0 k.holds e k.is
  back_by false b pc d to w t n h e k far = far

  goes_back : (b : Bool) (pc d to : ℕ) (w : WordState) (t : Core) → (let back = jump_back condition.NotEqual condition.Equal d in Stands z.code pc back
      → (if b then to + 2 * d else pc + forms_bytes back) ≡ (if b then pc else to) → Decided z pc w b condition.NotEqual condition.Equal t
      → Runs z.kept [] (back_cycles d) t (StandsFor z to w))
  goes_back b pc d to w t h e k =
      back_by (nat_le d 511) b pc d to w t refl h e k (back_part z b pc d to condition.NotEqual condition.Equal w t h e k)

  -- the local is one more, and the flags tell whether it has come to the number
  abbrev Raised : ℕ → ℕ → ℕ → ℕ → WordState → Core → Type 0
  Raised pc n k below w t = Decided z pc (with_local n k w) (not (k == below)) condition.NotEqual condition.Equal t

  raises : (pc n k below : ℕ) (w : WordState) (u : Core) → Owns z n → w.locals n ≡ Some k → k + 1 < 0x10000 → below < 0x10000
      → Stands z.code pc (turn_end n below) → StandsFor z pc w u
      → Runs z.kept [] (forward_most (turn_end n below) 10) u (Raised (pc + forms_bytes (turn_end n below)) n (k + 1) below w)
  raises pc n k below w u lt q l lb h i =
      let ms = turn_end n below in
      let y = alone z pc ms h in
      runs_there z pc ms h i.at (raise_part y pc n k below w u lt q l lb (stand z pc ms h) (stands_in z pc ms h pc w u i)) (λ t j. record {
        is = stands_out z pc ms h (pc + forms_bytes ms) (with_local n (k + 1) w) t j.is;
        holds = j.holds;
        fails = j.fails;
      })

  -- turns of a body, where they stand; `fit` says of a state that so many turns can be made from it
  module _ (body : List Form) (pc n below : ℕ) (cost : ℕ → ℕ) (run : WordState → Behaviour) (fit : ℕ → WordState → Type 0) (lt : Owns z n)
      (small : below < 0x10000) (h : Stands z.code pc (turns_code n below body))
      (doing : (m k : ℕ) (s : WordState) (t : Core) → fit (suc m) s → k < below → StandsFor z pc (with_local n k s) t → (next : ℕ)
      → (let x = run (with_local n k s) in Reaches z next (StandsFor z (pc + forms_bytes body)) (cost next) t x.effects x.end))
      (keeps : (m k : ℕ) (s : WordState) → fit (suc m) s → k < below → OnGoesOn (λ v. fit m v × (v.locals n ≡ Some k)) (run (with_local n k s)).end) where
    abbrev turn : List Form
    turn = body ++ turn_end n below

    abbrev back : List Form
    back = jump_back condition.NotEqual condition.Equal (size turn)

    -- where a turn ends, and where all of them do
    abbrev behind_turn : ℕ
    behind_turn = pc + forms_bytes turn

    abbrev end : ℕ
    end = pc + forms_bytes (turn ++ back)

    -- what the end of a turn costs, and what goes back
    abbrev last : ℕ
    last = turn_most n below (size turn)

    inside : Stands z.code pc turn
    inside = stands_front z.code pc turn back h

    jumps_back : Stands z.code behind_turn back
    jumps_back = stands_back z.code pc turn back h

    behind_body : (k : ℕ) (v : WordState) (t : Core) → v.locals n ≡ Some k → k + 1 < 0x10000 → StandsFor z (pc + forms_bytes body) v t
        → Runs z.kept [] (forward_most (turn_end n below) 10) t (Raised behind_turn n (k + 1) below v)
    behind_body k v t q l i =
        let tail = stands_back z.code pc body (turn_end n below) inside in
        let e : pc + forms_bytes body + forms_bytes (turn_end n below) ≡ behind_turn = omega (arith, forms_bytes-append body (turn_end n below)) in
        subst (λ p. Runs z.kept [] (forward_most (turn_end n below) 10) t (Raised p n (k + 1) below v)) e
        (raises (pc + forms_bytes body) n k below v t lt q l small tail i)

    last_turn : (k : ℕ) (v : WordState) (t : Core) → v.locals n ≡ Some k → k + 1 ≡ below → StandsFor z (pc + forms_bytes body) v t
        → Runs z.kept [] last t (StandsFor z end (with_local n (k + 1) v))
    last_turn k v t q e i =
        let to : behind_turn + forms_bytes back ≡ end = omega (arith, forms_bytes-append turn back) in
        let over : not ((k + 1) == below) ≡ false = ap not (eq-eqb (k + 1) below e) in
        runs_on z (behind_body k v t q (omega arith) i) (λ u j. goes_back false behind_turn (size turn) end (with_local n (k + 1) v) u jumps_back to
        (subst (λ b. Decided z behind_turn (with_local n (k + 1) v) b condition.NotEqual condition.Equal u) over j))

    next_turn : (k : ℕ) (v : WordState) (t : Core) → v.locals n ≡ Some k → k + 1 < below → StandsFor z (pc + forms_bytes body) v t
        → Runs z.kept [] last t (StandsFor z pc (with_local n (k + 1) v))
    next_turn k v t q l i =
        let from : pc + 2 * size turn ≡ behind_turn = omega (arith, whole_size turn) in
        let more : not ((k + 1) == below) ≡ true = ap not (ne_eqb (k + 1) below (λ e. omega arith)) in
        runs_on z (behind_body k v t q (omega arith) i) (λ u j. goes_back true behind_turn (size turn) pc (with_local n (k + 1) v) u jumps_back from
        (subst (λ b. Decided z behind_turn (with_local n (k + 1) v) b condition.NotEqual condition.Equal u) more j))

    -- a turn, and what is behind its body
    one_turn : (m k : ℕ) (s : WordState) (u : Core) (next : ℕ) → fit (suc m) s → k < below → StandsFor z pc (with_local n k s) u
        → ((v : WordState) (t : Core) → fit m v → v.locals n ≡ Some k → StandsFor z (pc + forms_bytes body) v t
        → (let x = turns m n (k + 1) run v in Reaches z next (StandsFor z end) (last + turns_most m cost last next) t x.effects x.end))
        → (let x = turns (suc m) n k run s in Reaches z next (StandsFor z end) (turns_most (suc m) cost last next) u x.effects x.end)
    one_turn m k s u next g less i rest =
        let w = with_local n k s in
        let more = last + turns_most m cost last next in
        on_way z more next (cost more) u (λ v. fit m v × (v.locals n ≡ Some k)) (λ v. StandsFor z (pc + forms_bytes body) v) (λ v. StandsFor z end v)
        (run w).effects (run w).end (turns m n (k + 1) run) (doing m k s u g less i more) (keeps m k s g less) (λ t v p j. rest v t p.0 p.1 j)

    -- so many turns behind the first, and what follows them
    pub turns_reach : (m k : ℕ) (s : WordState) (u : Core) (next : ℕ) → fit (suc m) s → suc m ≡ below - k → StandsFor z pc (with_local n k s) u
        → (let x = turns (suc m) n k run s in Reaches z next (StandsFor z end) (turns_most (suc m) cost last next) u x.effects x.end)
    turns_reach zero k s u next g e i =
        one_turn zero k s u next g (omega (arith, e)) i
        (λ v t f q j. record { spent = last; within = omega arith; runs = last_turn k v t q (omega (arith, e)) j })
    turns_reach (suc m) k s u next g e i =
        one_turn (suc m) k s u next g (omega (arith, e)) i (λ v t f q j.
        let x = turns (suc m) n (k + 1) run v in
        then_reach z next (λ w. StandsFor z end w) last (turns_most (suc m) cost last next) t (StandsFor z pc (with_local n (k + 1) v)) [] x.effects x.end
        (next_turn k v t q (omega (arith, e)) j) (λ c l. turns_reach m (k + 1) v c next f (omega (arith, e)) l))

  -- a loop, where its code stands; by whether it makes a turn
  module _ (body : List Form) (pc n from below : ℕ) (cost : ℕ → ℕ) (run : WordState → Behaviour) (fit : ℕ → WordState → Type 0) where
    sets : (s : WordState) (u : Core) → Owns z n → Stands z.code pc (number_code n from) → StandsFor z pc s u
        → Runs z.kept [] (forward_most (number_code n from) 5) u (StandsFor z (pc + forms_bytes (number_code n from)) (with_local n from s))
    sets s u lt h i =
        let ms = number_code n from in
        let y = alone z pc ms h in
        runs_there z pc ms h i.at (local_number y n from pc s u lt (stand z pc ms h) (stands_in z pc ms h pc s u i))
        (λ t j. stands_out z pc ms h (pc + forms_bytes ms) (with_local n from s) t j)

    pub loop_reach : (any : Bool) (s : WordState) (u : Core) (next : ℕ) → nat_lt from below ≡ any → Owns z n → below < 0x10000
        → (let start = number_code n from in let rest : List Form = if any then turns_code n below body else [] in Stands z.code pc (start ++ rest)
        → StandsFor z pc s u → fit (below - from) s → (Stands z.code (pc + forms_bytes start) body → (m k : ℕ) (s : WordState) (t : Core) → fit (suc m) s
        → k < below → StandsFor z (pc + forms_bytes start) (with_local n k s) t → (more : ℕ)
        → (let x = run (with_local n k s) in
        Reaches z more (StandsFor z (pc + forms_bytes start + forms_bytes body)) (cost more) t x.effects x.end))
        → ((m k : ℕ) (s : WordState) → fit (suc m) s → k < below → OnGoesOn (λ v. fit m v × (v.locals n ≡ Some k)) (run (with_local n k s)).end)
        → (let last = turn_most n below (size (body ++ turn_end n below)) in let x = turns (below - from) n from run s in
        Reaches z next (StandsFor z (pc + forms_bytes (start ++ rest))) (forward_most start 5 + turns_most (below - from) cost last next) u x.effects x.end))
    loop_reach false s u next c lt lb h i g doing keeps =
        let start = number_code n from in
        let last = turn_most n below (size (body ++ turn_end n below)) in
        let none : below - from ≡ 0 = let l : below ≤ from = grind (arith, nat_tests) in omega arith in
        let e : pc + forms_bytes start ≡ pc + forms_bytes (start ++ []) = omega (arith, forms_bytes-append start []) in
        let set = sets s u lt (stands_front z.code pc start [] h) i in
        subst (λ m. (let x = turns m n from run s in
        Reaches z next (StandsFor z (pc + forms_bytes (start ++ []))) (forward_most start 5 + turns_most m cost last next) u x.effects x.end)) (sym none)
        (record {
          spent = forward_most start 5;
          within = omega arith;
          runs = subst (λ p. Runs z.kept [] (forward_most start 5) u (StandsFor z p (with_local n from s))) e set;
        })
    loop_reach true s u next c lt lb h i g doing keeps =
        let start = number_code n from in
        let rest = turns_code n below body in
        let last = turn_most n below (size (body ++ turn_end n below)) in
        let m = below - from - 1 in
        let count : suc m ≡ below - from = let l : from < below = grind (arith, nat_tests) in omega arith in
        let e : pc + forms_bytes start + forms_bytes rest ≡ pc + forms_bytes (start ++ rest) = omega (arith, forms_bytes-append start rest) in
        let set = sets s u lt (stands_front z.code pc start rest h) i in
        let top = pc + forms_bytes start in
        let turn = body ++ turn_end n below in
        let stand = stands_back z.code pc start rest h in
        let there = stands_front z.code top turn (jump_back condition.NotEqual condition.Equal (size turn)) stand in
        let inside = stands_front z.code top body (turn_end n below) there in
        let x = turns (suc m) n from run s in
        let made = then_reach z next (StandsFor z (top + forms_bytes rest)) (forward_most start 5) (turns_most (suc m) cost last next) u
        (StandsFor z top (with_local n from s)) [] x.effects x.end set
        (λ t j. turns_reach body top n below cost run fit lt lb stand (doing inside) keeps m from s t next (subst (λ q. fit q s) (sym count) g) count j) in
        subst (λ q. (let y = turns q n from run s in
        Reaches z next (StandsFor z (pc + forms_bytes (start ++ rest))) (forward_most start 5 + turns_most q cost last next) u y.effects y.end)) count
        (subst (λ p. Reaches z next (StandsFor z p) (forward_most start 5 + turns_most (suc m) cost last next) u x.effects x.end) e made)
