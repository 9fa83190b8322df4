-- Loops: a turn, and behind it the local decides whether there is another.
use Rattle.word_code.proofs.Names.{◌≡◌, ℕ, zero, suc, ◌+◌, ◌-◌, ◌*◌, ◌%◌, ◌<◌, ◌≤◌, ◌==◌, not, Bool, true, false, nat_lt, if◌then◌else◌, List, [], ◌∷◌, ◌++◌}
use Rattle.word_code.proofs.Names.{Some, unwrap_or, ram_word, refl, sym, ap, ◌∙◌, subst, arith, eq-eqb, ne_eqb, nat_tests, not-not, put, put_same, WorkRegister, R4, work_number}
use Rattle.word_code.proofs.Names.{Core, Register, Constant, Ram, ToRegister, ToRam, Form, Move, Calculate, instruction_of, form_bytes, Stands, forms_bytes}
use Rattle.word_code.proofs.Names.{forms_run, Runs, stands_front, stands_back, end_of, stands_at, form_at, first_forms, forms_bytes-append, WordState, End}
use Rattle.word_code.proofs.Names.{GoesOn, Behaviour, with_local, assigned, turns, spent_on, turns_spent, local_register, local_address, number_source}
use Rattle.word_code.proofs.Names.{number_code, size, ram_turn_end, turn_end, jump_back, turns_code}
use Rattle.array_versions.specs.msp_step.msp_isa.declared.instructions.Condition.TheVariants as condition
use Rattle.array_versions.specs.msp_step.msp_isa.declared.instructions.TwoOp.TheVariants as op
use Rattle.array_versions.specs.msp_step.msp_isa.declared.operands.Konst.TheVariants as konst
use Rattle.word_code.proofs.Registers.{Has}
use Rattle.word_code.proofs.Operands.{compare_number}
use Rattle.word_code.proofs.Stretches.{Setting, straight, runs_on, dearer, so_runs}
use Rattle.word_code.proofs.Memory.{local_words, Owns, register_is, ram_is, Memory, local_read, set_register, set_ram}
use Rattle.word_code.proofs.Follows.{StandsFor, Follows, OnGoesOn, more_cycles, then_end, then_way, ends_at}
use Rattle.word_code.proofs.Parts.{local_number}
use Rattle.word_code.proofs.Jumps.{whole_size, Decided, back_part}

-- what is spent behind a turn, with the turn's own part in front
turn_and_rest : (e : End) (f : WordState → ℕ) → spent_on e (λ v. 15 + f v) ≤ 15 + spent_on e f
turn_and_rest (GoesOn v) f = omega arith
turn_and_rest _ f = omega arith

module _ (z : Setting) where
  -- the local is one more, and the flags tell whether it has come to the number
  abbrev pub Raised : ℕ → ℕ → ℕ → ℕ → WordState → Core → Type 0
  Raised pc n k below w t = Decided z pc (with_local n k w) (not (k == below)) condition.NotEqual condition.Equal t

  -- behind the addition the local is compared
  compare_raised : (r : WorkRegister) (pc n k below : ℕ) (w : WordState) (t : Core) → k < 0x10000 → below < 0x10000
      → (let m = Calculate op.Cmp (number_source below) r in z.code.at pc ≡ Some (instruction_of m) → Has z r pc (with_local n k w) k t
      → Runs z.kept [] 2 t (Raised (pc + form_bytes m) n k below w))
  compare_raised r pc n k below w t l lb h i =
      let end = pc + form_bytes (Calculate op.Cmp (number_source below) r) in
      so_runs (compare_number z r pc k below (with_local n k w) t l lb i.held i.is h)
      (λ u j. record { is = j.all.is; holds = ap not j.flag.zero; fails = j.flag.zero ∙ sym (not-not (k == below)) })

  raise_by : (b : Bool) (pc n k below : ℕ) (w : WordState) (u : Core) → nat_lt n 8 ≡ b → Owns z n → w.locals n ≡ Some k → k + 1 < 0x10000 → below < 0x10000
      → (let ms : List Form = if b then Calculate op.Add (Constant konst.One) (local_register n) ∷ Calculate op.Cmp (number_source below)
      (local_register n) ∷ [] else (ram_turn_end n below) in Stands z.code pc ms → StandsFor z pc w u
      → Runs z.kept [] 10 u (Raised (pc + forms_bytes ms) n (k + 1) below w))
  raise_by true pc n k below w u b lt q l lb h i =
      let to = local_register n in
      let r = work_number to in
      let ms = Calculate op.Add (Constant konst.One) to ∷ [] in
      let last = Calculate op.Cmp (number_source below) to in
      let word = register_is u.work u.ram n k b (i.memory.vars n k lt q) in
      let next : (u.work r + 1 + 0) % 0x10000 ≡ k + 1 = omega (arith, word) in
      let end : pc + 2 + form_bytes last ≡ pc + forms_bytes (Calculate op.Add (Constant konst.One) to ∷ last ∷ []) = omega arith in
      let added = straight z ms 1 u (end_of u (forms_run ms u).status) [] 1 (Has z to (pc + 2) (with_local n (k + 1) w) (k + 1)) (tt, tt)
      (stands_at z.code pc ms u (h.0, tt) i.at) ((tt, tt), tt) refl (omega arith)
      (record {
        is =
            record {
              at = omega (arith, i.at);
              memory =
                  subst (λ y. Memory z u.sp u.ram (local_words (put u.work r y)) w.stack (assigned w.locals n (k + 1))) (sym next)
                  (set_register z u.sp n (k + 1) u.ram u.work w.stack w.locals b lt i.memory);
              fram = i.fram;
              inputs = i.inputs;
            };
        held = put_same u.work r ((u.work r + 1 + 0) % 0x10000) ∙ next;
      }) in
      subst (λ p. Runs z.kept [] 10 u (Raised p n (k + 1) below w)) end (dearer z (omega arith)
      (runs_on z added (λ t j. compare_raised to (pc + 2) n (k + 1) below w t l lb h.1.0 j)))
  raise_by false pc n k below w u b lt q l lb h i =
      let a = local_address n in
      let ms = Move (Ram a) (ToRegister R4) ∷ Calculate op.Add (Constant konst.One) R4 ∷ Move (Register R4) (ToRam a) ∷ [] in
      let last = Calculate op.Cmp (number_source below) R4 in
      let all = ram_turn_end n below in
      let word : ram_word u a ≡ k = ap (λ o. unwrap_or o 0) (ram_is (local_words u.work) u.ram n k b (i.memory.vars n k lt q)) in
      let next : (ram_word u a + 1 + 0) % 0x10000 ≡ k + 1 = omega (arith, word) in
      let needs = local_read z n k i.memory b lt q in
      let end : pc + 10 + form_bytes last ≡ pc + forms_bytes all = omega arith in
      let added = straight z ms 8 u (end_of u (forms_run ms u).status) [] 8 (Has z R4 (pc + 10) (with_local n (k + 1) w) (k + 1)) (tt, (tt, (tt, tt)))
      (stands_at z.code pc ms u (first_forms z.code pc 3 all h) i.at) ((needs, tt), ((tt, tt), ((tt, needs.0), tt))) refl (omega arith)
      (record {
        is =
            record {
              at = omega (arith, i.at);
              memory =
                  subst (λ y. Memory z u.sp (put u.ram a (Some y)) (local_words u.work) w.stack (assigned w.locals n (k + 1))) (sym next)
                  (set_ram z u.sp n (k + 1) u.ram (local_words u.work) w.stack w.locals b lt i.memory);
              fram = i.fram;
              inputs = i.inputs;
            };
        held = next;
      }) in
      subst (λ p. Runs z.kept [] 10 u (Raised p n (k + 1) below w)) end (runs_on z added
      (λ t j. compare_raised R4 (pc + 10) n (k + 1) below w t l lb (form_at z.code pc 3 all last h refl) j))

  pub raise_part : (pc n k below : ℕ) (w : WordState) (u : Core) → Owns z n → w.locals n ≡ Some k → k + 1 < 0x10000 → below < 0x10000
      → Stands z.code pc (turn_end n below) → StandsFor z pc w u → Runs z.kept [] 10 u (Raised (pc + forms_bytes (turn_end n below)) n (k + 1) below w)
  raise_part pc n k below w u lt q l lb h i = raise_by (nat_lt n 8) pc n k below w u refl lt q l lb h i

  -- turns of a body, where they stand; `fit` says of a state that so many turns can be made from it
  module _ (body : List Form) (pc n below : ℕ) (cost : WordState → ℕ) (run : WordState → Behaviour) (fit : ℕ → WordState → Type 0) (lt : Owns z n)
      (small : below < 0x10000) (h : Stands z.code pc (turns_code n below body))
      (doing : (m k : ℕ) (s : WordState) (t : Core) → fit (suc m) s → k < below → StandsFor z pc (with_local n k s) t
      → Follows z (pc + forms_bytes body) (cost (with_local n k s)) t (run (with_local n k s)))
      (keeps : (m k : ℕ) (s : WordState) → fit (suc m) s → k < below → OnGoesOn (λ v. fit m v × (v.locals n ≡ Some k)) (run (with_local n k s)).end) where
    abbrev turn : List Form
    turn = body ++ turn_end n below

    abbrev back : List Form
    back = jump_back condition.NotEqual condition.Equal (size turn)

    -- where a turn ends, and where all of them do
    abbrev behind_turn : ℕ
    behind_turn = pc + forms_bytes turn

    abbrev end : ℕ
    end = pc + forms_bytes (turn ++ back)

    inside : Stands z.code pc turn
    inside = stands_front z.code pc turn back h

    jumps_back : Stands z.code behind_turn back
    jumps_back = stands_back z.code pc turn back h

    -- behind the body: on to the end, or back for another turn
    behind_body : (k : ℕ) (v : WordState) (t : Core) → v.locals n ≡ Some k → k + 1 < 0x10000 → StandsFor z (pc + forms_bytes body) v t
        → Runs z.kept [] 10 t (Raised behind_turn n (k + 1) below v)
    behind_body k v t q l i =
        let tail = stands_back z.code pc body (turn_end n below) inside in
        let e : pc + forms_bytes body + forms_bytes (turn_end n below) ≡ behind_turn = omega (arith, forms_bytes-append body (turn_end n below)) in
        subst (λ p. Runs z.kept [] 10 t (Raised p n (k + 1) below v)) e (raise_part (pc + forms_bytes body) n k below v t lt q l small tail i)

    last_turn : (k : ℕ) (v : WordState) (t : Core) → v.locals n ≡ Some k → k + 1 ≡ below → StandsFor z (pc + forms_bytes body) v t
        → Runs z.kept [] 15 t (StandsFor z end (with_local n (k + 1) v))
    last_turn k v t q e i =
        let to : behind_turn + forms_bytes back ≡ end = omega (arith, forms_bytes-append turn back) in
        let over : not ((k + 1) == below) ≡ false = ap not (eq-eqb (k + 1) below e) in
        runs_on z (behind_body k v t q (omega arith) i) (λ u j. back_part z false behind_turn (size turn) end condition.NotEqual condition.Equal
        (with_local n (k + 1) v) u jumps_back to (subst (λ b. Decided z behind_turn (with_local n (k + 1) v) b condition.NotEqual condition.Equal u) over j))

    next_turn : (k : ℕ) (v : WordState) (t : Core) → v.locals n ≡ Some k → k + 1 < below → StandsFor z (pc + forms_bytes body) v t
        → Runs z.kept [] 15 t (StandsFor z pc (with_local n (k + 1) v))
    next_turn k v t q l i =
        let from : pc + 2 * size turn ≡ behind_turn = omega (arith, whole_size turn) in
        let more : not ((k + 1) == below) ≡ true = ap not (ne_eqb (k + 1) below (λ e. omega arith)) in
        runs_on z (behind_body k v t q (omega arith) i) (λ u j. back_part z true behind_turn (size turn) pc condition.NotEqual condition.Equal
        (with_local n (k + 1) v) u jumps_back from (subst (λ b. Decided z behind_turn (with_local n (k + 1) v) b condition.NotEqual condition.Equal u) more j))

    -- a turn, and what is behind its body
    one_turn : (m k : ℕ) (s : WordState) (u : Core) → fit (suc m) s → k < below → StandsFor z pc (with_local n k s) u
        → ((v : WordState) (t : Core) → fit m v → v.locals n ≡ Some k → StandsFor z (pc + forms_bytes body) v t
        → Follows z end (15 + turns_spent m n (k + 1) run cost v) t (turns m n (k + 1) run v))
        → Follows z end (turns_spent (suc m) n k run cost s) u (turns (suc m) n k run s)
    one_turn m k s u g less i rest =
        let w = with_local n k s in
        let more : WordState → ℕ = λ v. 15 + turns_spent m n (k + 1) run cost v in
        let all =
        then_way z (pc + forms_bytes body) end (cost w) more u (λ v. fit m v × (v.locals n ≡ Some k)) (run w).effects (run w).end (turns m n (k + 1) run)
        (doing m k s u g less i) (keeps m k s g less) (λ t v p j. rest v t p.0 p.1 j) in
        more_cycles z end (cost w + spent_on (run w).end more) _ u _ (turns (suc m) n k run s).end
        (omega (arith, turn_and_rest (run w).end (turns_spent m n (k + 1) run cost))) all

    -- so many turns behind the first
    pub turns_part : (m k : ℕ) (s : WordState) (u : Core) → fit (suc m) s → suc m ≡ below - k → StandsFor z pc (with_local n k s) u
        → Follows z end (turns_spent (suc m) n k run cost s) u (turns (suc m) n k run s)
    turns_part zero k s u g e i =
        one_turn zero k s u g (omega arith) i (λ v t f q j. last_turn k v t q (omega arith) j)
    turns_part (suc m) k s u g e i =
        one_turn (suc m) k s u g (omega arith) i (λ v t f q j. then_end z end (turns_spent (suc m) n (k + 1) run cost v) (turns (suc m) n (k + 1) run v).effects
        (turns (suc m) n (k + 1) run v).end (next_turn k v t q (omega arith) j) (λ c l. turns_part m (k + 1) v c f (omega arith) l))

  -- a loop, where its code stands; by whether it makes a turn
  module _ (body : List Form) (pc n from below : ℕ) (cost : WordState → ℕ) (run : WordState → Behaviour) (fit : ℕ → WordState → Type 0) where
    pub loop_by : (any : Bool) (s : WordState) (u : Core) → nat_lt from below ≡ any → Owns z n → below < 0x10000
        → (let start = number_code n from in let rest : List Form = if any then turns_code n below body else [] in Stands z.code pc (start ++ rest)
        → StandsFor z pc s u → fit (below - from) s → (Stands z.code (pc + forms_bytes start) body → (m k : ℕ) (s : WordState) (t : Core) → fit (suc m) s
        → k < below → StandsFor z (pc + forms_bytes start) (with_local n k s) t
        → Follows z (pc + forms_bytes start + forms_bytes body) (cost (with_local n k s)) t (run (with_local n k s)))
        → ((m k : ℕ) (s : WordState) → fit (suc m) s → k < below → OnGoesOn (λ v. fit m v × (v.locals n ≡ Some k)) (run (with_local n k s)).end)
        → Follows z (pc + forms_bytes (start ++ rest)) (5 + turns_spent (below - from) n from run cost s) u (turns (below - from) n from run s))
    loop_by false s u c lt lb h i g doing keeps =
        let start = number_code n from in
        let none : below - from ≡ 0 = let l : below ≤ from = grind (arith, nat_tests) in omega arith in
        let e : pc + forms_bytes start ≡ pc + forms_bytes (start ++ []) = omega (arith, forms_bytes-append start []) in
        let set = local_number z n from pc s u lt (stands_front z.code pc start [] h) i in
        subst (λ m. Follows z (pc + forms_bytes (start ++ [])) (5 + turns_spent m n from run cost s) u (turns m n from run s)) (sym none)
        (ends_at z (pc + forms_bytes start) _ 5 u (turns 0 n from run s) e set)
    loop_by true s u c lt lb h i g doing keeps =
        let start = number_code n from in
        let rest = turns_code n below body in
        let m = below - from - 1 in
        let count : suc m ≡ below - from = let l : from < below = grind (arith, nat_tests) in omega arith in
        let e : pc + forms_bytes start + forms_bytes rest ≡ pc + forms_bytes (start ++ rest) = omega (arith, forms_bytes-append start rest) in
        let set = local_number z n from pc s u lt (stands_front z.code pc start rest h) i in
        let top = pc + forms_bytes start in
        let turn = body ++ turn_end n below in
        let stand = stands_back z.code pc start rest h in
        let there = stands_front z.code top turn (jump_back condition.NotEqual condition.Equal (size turn)) stand in
        let inside = stands_front z.code top body (turn_end n below) there in
        subst (λ q. Follows z (pc + forms_bytes (start ++ rest)) (5 + turns_spent q n from run cost s) u (turns q n from run s)) count
        (ends_at z (pc + forms_bytes start + forms_bytes rest) _ (5 + turns_spent (suc m) n from run cost s) u (turns (suc m) n from run s) e
        (then_end z _ (turns_spent (suc m) n from run cost s) (turns (suc m) n from run s).effects (turns (suc m) n from run s).end set (λ t j.
        turns_part body top n below cost run fit lt lb stand (doing inside) keeps m from s t (subst (λ q. fit q s) (sym count) g) count j)))
