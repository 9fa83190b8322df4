-- Calls: values come to where the function that is called has its first locals, its code runs in a setting of its own, and behind its return the
-- caller goes on.
use Rattle.word_code.proofs.Names.{◌≡◌, ℕ, zero, suc, ◌+◌, ◌-◌, ◌*◌, ◌%◌, ◌<◌, ◌≤◌, Bool, true, false, nat_eq, if◌then◌else◌, List, [], ◌∷◌, ◌++◌}
use Rattle.word_code.proofs.Names.{length, get_or, Option, Some, None, refl, sym, ap, ◌∙◌, subst, arith, inl, inr, same_Some, eq-eqb, ne_eqb, eqb-true, lt-ltb}
use Rattle.word_code.proofs.Names.{append-nil, Effect, put, put_same, put_other, Goes, cycles_of, work_number, Core, source_bytes}
use Rattle.word_code.proofs.Names.{source_value, source_read, R4, ToRegister, Move, Call, Return}
use Rattle.word_code.proofs.Names.{instruction_of, form_bytes, Stands, forms_bytes, Runs, IsKnown, ram_word, is_some, unwrap_or}
use Rattle.word_code.proofs.Names.{WordState, Behaviour, End, Gives, Short, with_stack, with_top, behaves, called, parameter_words}
use Rattle.word_code.proofs.Names.{called_behind, with_words, words_spent, Program, IsCalled, IsFormed, IsOwn, frame_begin, entry_place, Matches, matches_local}
use Rattle.word_code.proofs.Names.{start_matches, local_words as state_local, Waiting, top_of, below_top, source_from, any_held, flushed}
use Rattle.word_code.proofs.Names.{four_from, local_register, local_address, below_words, values_code, light_call}
use Rattle.word_code.proofs.Names.{give_code, stands_front, stands_back, length-append, Starves}
use Rattle.array_versions.specs.Laws.{IsStateOfWords}
use Rattle.word_code.specs.declared.waiting.Waiting.TheVariants as waiting
use Rattle.word_code.proofs.Stretches.{Setting, bounds_of, two_parts, hop, runs_on, so_runs, nothing_run, dearer, dearer_stall}
use Rattle.word_code.proofs.Memory.{AreWords, local_words, local_word, register_at, register_put}
use Rattle.word_code.proofs.Memory.{Memory, memory_after, push_needs}
use Rattle.word_code.proofs.Follows.{StandsFor, FollowsEnd, Reaches, reach_more, then_reach, HasReturned}
use Rattle.word_code.proofs.Operands.{Describes, Waits, waiting_words, words_same, owed, load_cycles, load_price, load_owed, bare, describes_on}
use Rattle.word_code.proofs.Operands.{flush_under, take_part, four_part}
use Rattle.word_code.proofs.Registers.{With, HasWord}
use Rattle.word_code.proofs.Results.{Does, does_behind}

-- ---- words on top of the stack

-- so many words taken from the top: those, what is left, and that the meaning of a call takes them
pub record Popped (n : ℕ) (vs : List ℕ) : Type 0 where
  pub words : List ℕ
  pub rest : List ℕ
  pub is : vs ≡ words ++ rest
  pub count : length words ≡ n
  pub does : (next : List ℕ → List ℕ → Behaviour) → with_words n vs next ≡ next words rest
  pub spends : (next : List ℕ → ℕ) → words_spent n vs next ≡ next words

pub popped : (n : ℕ) (vs : List ℕ) → n ≤ length vs → Popped n vs
popped zero vs l = record { words = []; rest = vs; is = refl; count = refl; does = λ next. refl; spends = λ next. refl }
popped (suc n) [] l = absurd (let high = l in omega arith)
popped (suc n) (v ∷ vs) l =
    let p = popped n vs (omega (arith, l)) in
    record {
      words = v ∷ p.words;
      rest = p.rest;
      is = ap (λ xs. v ∷ xs) p.is;
      count = ap suc p.count;
      does = λ next. p.does (λ words rest. next (v ∷ words) rest);
      spends = λ next. p.spends (λ words. next (v ∷ words));
    }

pub front_words : (a b : List ℕ) → AreWords (a ++ b) → AreWords a
front_words [] b h = tt
front_words (v ∷ a) b h = (h.0, front_words a b h.1)

-- ---- the parameters of a function: its first locals, the last one's word in front

-- the state in which its body begins
pub enters : (first : ℕ) (words : List ℕ) (s : WordState) → Matches (entry_place first (length words)) (called first words s)
enters first [] s = start_matches s.fram s.inputs
enters first (v ∷ words) s = matches_local (entry_place first (length words)) (called first words s) (first + length words) v (enters first words s)

pub enters_words : (first : ℕ) (words : List ℕ) (s : WordState) → AreWords words → IsStateOfWords s → IsStateOfWords (called first words s)
enters_words first [] s l h =
    record { stack = tt; locals = λ n v q. absurd (let none = q in (cc)); fram = h.fram; inputs = h.inputs }
enters_words first (v ∷ words) s l h = state_local (called first words s) (first + length words) v (enters_words first words s l.1 h) l.0

-- they stand where its locals stand
abbrev pub HaveWords : ℕ → List ℕ → List ℕ → (ℕ → Option ℕ) → Type 0
HaveWords first [] regs ram = Unit {0}
HaveWords first (v ∷ words) regs ram = (local_word regs ram (first + length words) ≡ Some v) × HaveWords first words regs ram

-- in registers
abbrev pub HaveRegisters : ℕ → List ℕ → List ℕ → Type 0
HaveRegisters first [] regs = Unit {0}
HaveRegisters first (v ∷ words) regs = (get_or regs (first + length words) 0 ≡ v) × HaveRegisters first words regs

pub register_word : (n : ℕ) (regs : List ℕ) (ram : ℕ → Option ℕ) → n < 8 → local_word regs ram n ≡ Some (get_or regs n 0)
register_word n regs ram l = ap (λ b. if b then Some (get_or regs n 0) else ram (local_address n)) (lt-ltb n 8 l)

registers_have : (first : ℕ) (words regs : List ℕ) (ram : ℕ → Option ℕ) → ((j : ℕ) → j < length words → first + j < 8) → HaveRegisters first words regs
    → HaveWords first words regs ram
registers_have first [] regs ram few h = tt
registers_have first (v ∷ words) regs ram few h = (
  register_word (first + length words) regs ram (few (length words) (omega arith)) ∙ ap (λ w. Some w) h.0,
  registers_have first words regs ram (λ j l. few j (omega (arith, l))) h.1,
)

param_by : (b : Bool) (n m v x : ℕ) (o : Option ℕ) (regs : List ℕ) (ram : ℕ → Option ℕ) → nat_eq n m ≡ b
    → local_word regs ram m ≡ Some x → (o ≡ Some v → local_word regs ram n ≡ Some v) → (if b then Some x else o) ≡ Some v → local_word regs ram n ≡ Some v
param_by true n m v x o regs ram e has rest q = ap (local_word regs ram) (eqb-true n m e) ∙ has ∙ q
param_by false n m v x o regs ram e has rest q = rest q

pub params_are : (first : ℕ) (words regs : List ℕ) (ram : ℕ → Option ℕ) (n v : ℕ) → HaveWords first words regs ram → parameter_words first words n ≡ Some v
    → local_word regs ram n ≡ Some v
params_are first [] regs ram n v h q = absurd (let none = q in (cc))
params_are first (x ∷ words) regs ram n v h q =
    let m = first + length words in
    param_by (nat_eq n m) n m v x (parameter_words first words n) regs ram refl h.0 (λ p. params_are first words regs ram n v h.1 p) q

-- ---- words from the top to registers that are none of its own

-- the cycles in which so many words come to registers
abbrev pub values_cycles : ℕ → List Waiting → ℕ
values_cycles zero os = 0
values_cycles (suc n) os = load_cycles (top_of os) + values_cycles n (below_top os)

values_owed : (n : ℕ) (os : List Waiting) → values_cycles n os + owed (below_words n os) ≤ 2 * n + owed os
values_owed zero os = omega arith
values_owed (suc n) os = omega (arith, load_owed os, values_owed n (below_top os))

-- a local's register holds a word, the others being as they were
pub record IsPassed (m v : ℕ) (g f : ℕ → ℕ) : Type 0 where
  pub value : get_or (local_words f) m 0 ≡ v
  pub others : (n : ℕ) → n < 8 → (n ≡ m → ⊥) → get_or (local_words f) n 0 ≡ get_or (local_words g) n 0

-- so do those of parameters, the registers of locals behind them being as they were
pub record ArePassed (first : ℕ) (words : List ℕ) (g f : ℕ → ℕ) : Type 0 where
  pub have : HaveRegisters first words (local_words f)
  pub others : (n : ℕ) → first + length words ≤ n → n < 8 → get_or (local_words f) n 0 ≡ get_or (local_words g) n 0

module _ (z : Setting) where
  restacked : (os : List Waiting) (pc : ℕ) (w : WordState) (vs : List ℕ) (u : Core) → w.stack ≡ vs → Describes z os pc w u
      → Describes z os pc (with_stack vs w) u
  restacked os pc w vs u e d =
      record { rest = d.rest; is = d.is; stack = sym e ∙ d.stack; there = d.there; fits = subst (λ l. length l ≤ z.room) e d.fits }

  value_part : (m v pc : ℕ) (os : List Waiting) (vs : List ℕ) (w : WordState) (u : Core) → m < z.own → w.stack ≡ v ∷ vs
      → (let form = Move (source_from (top_of os)) (ToRegister (local_register m)) in Stands z.code pc (form ∷ []) → Describes z os pc w u
      → Runs z.kept [] (load_cycles (top_of os)) u (Waits z (below_top os) (pc + forms_bytes (form ∷ [])) (with_stack vs w) (IsPassed m v u.work)))
  value_part m v pc os vs w u low e h d =
      let x = source_from (top_of os) in
      let under = below_top os in
      let r = work_number (local_register m) in
      let form = Move x (ToRegister (local_register m)) in
      let k = take_part z os pc w v vs u e d in
      let price = cycles_of (instruction_of form) in
      let t = source_read x u in
      let y = source_value x u in
      let few = z.few in let ordered = z.ordered in
      let small : m < 8 = omega (arith, low) in
      let place = (register_at t.work m small).0 in
      let end : u.pc + (2 + source_bytes x + 0) ≡ pc + forms_bytes (form ∷ []) = omega (arith, k.at) in
      let after : Core = record t { pc = u.pc + (2 + source_bytes x + 0); work = put t.work r y } in
      let other : (n : ℕ) → n < 8 → (n ≡ m → ⊥) → get_or (local_words after.work) n 0 ≡ get_or (local_words t.work) n 0 =
      λ n l ne. register_put t.work m n y small l ∙ ap (λ b. if b then y else get_or (local_words t.work) n 0) (ne_eqb n m ne) in
      let waits = words_same w.fram w.locals after.work t.work under (put_other t.work r y 4 (λ q. omega (arith, q, place)))
      (put_other t.work r y 6 (λ q. omega (arith, q, place))) in
      let stands : StandsFor z (pc + forms_bytes (form ∷ [])) (with_stack k.left.rest w) after = record {
        at = end;
        memory =
            memory_after z t.sp t.ram t.ram (local_words t.work) (local_words after.work) k.left.rest w.locals (λ a l. refl)
            (λ n from l. other n l (λ q. omega (arith, q, from, low))) k.left.is.memory;
        fram = k.left.is.fram;
        inputs = k.left.is.inputs;
      } in
      hop z form (load_cycles (top_of os)) u after [] price _ (ap z.code.at k.at ∙ h.0) (k.needs, tt) (ap (λ es. Goes es price after) k.quiet)
      (load_price (top_of os))
      (record {
        is = describes_on z under pc (pc + forms_bytes (form ∷ [])) (with_stack vs w) w.inputs t after k.left waits stands;
        held = record {
          value = register_put t.work m m y small small ∙ ap (λ b. if b then y else get_or (local_words t.work) m 0) (eq-eqb m m refl) ∙ k.value;
          others = λ n l ne. other n l ne ∙ ap (λ (g : ℕ → ℕ). get_or (local_words g) n 0) k.same;
        };
      })

  values_part : (first : ℕ) (words vs : List ℕ) (os : List Waiting) (pc : ℕ) (w : WordState) (u : Core) → ((j : ℕ) → j < length words → first + j < z.own)
      → w.stack ≡ words ++ vs → (let n = length words in Stands z.code pc (values_code first n os) → Describes z os pc w u
      → Runs z.kept [] (values_cycles n os) u
      (Waits z (below_words n os) (pc + forms_bytes (values_code first n os)) (with_stack vs w) (ArePassed first words u.work)))
  values_part first [] vs os pc w u low e h d =
      let same : pc ≡ pc + 0 = omega arith in
      nothing_run z (record {
        is = subst (λ p. Describes z os p (with_stack vs w) u) same (restacked os pc w vs u e d);
        held = record { have = tt; others = λ n from l. refl };
      })
  values_part first (v ∷ words) vs os pc w u low e h d =
      let n = length words in
      let m = first + n in
      let form = Move (source_from (top_of os)) (ToRegister (local_register m)) in
      let under = below_top os in
      let rest = values_code first n under in
      let mid = pc + forms_bytes (form ∷ []) in
      let front : pc + form_bytes form ≡ mid = omega arith in
      let end : mid + forms_bytes rest ≡ pc + forms_bytes (form ∷ rest) = omega arith in
      let own = low n (omega arith) in
      let few = z.few in let ordered = z.ordered in
      let behind = subst (λ p. Stands z.code p rest) front h.1 in
      subst (λ p. Runs z.kept [] (load_cycles (top_of os) + values_cycles n under) u
      (Waits z (below_words n under) p (with_stack vs w) (ArePassed first (v ∷ words) u.work))) end
      (runs_on z (value_part m v pc os (words ++ vs) w u own e (h.0, tt) d) (λ t k.
      so_runs (values_part first words vs under mid (with_stack (words ++ vs) w) t (λ j l. low j (omega (arith, l))) refl behind k.is) (λ q j. record {
        is = j.is;
        held = record {
          have = (j.held.others m (omega arith) (omega (arith, own)) ∙ k.held.value, j.held.have);
          others = λ i from l. j.held.others i (omega (arith, from)) l ∙ k.held.others i l (λ same. omega (arith, same, from));
        };
      })))

  -- ---- the setting of what is called

  module _ (frame : Option ℕ) (first count : ℕ) (body : Program)
      (x : IsCalled (λ inner. IsFormed inner true body) (bounds_of z) frame first count body) where
    -- the machine as its code begins, with its stack at an address
    pub record Enters (top : ℕ) (t : Core) : Type 0 where
      pub even : top % 2 ≡ 0
      pub high : top + 2 ≤ z.top
      pub above : frame_begin frame z.low < z.low → top ≤ frame_begin frame z.low
      pub outside : frame_begin frame z.low ≤ top → z.low ≤ top
      pub deep : x.lowest + 2 * x.room ≤ top
      pub known : IsKnown (t.ram top)
      pub back : ram_word t top % 2 ≡ 0

    abbrev pub callee : (top : ℕ) (t : Core) → Enters top t → Setting
    callee top t e = record {
      kept = z.kept;
      tidy = z.tidy;
      own = x.own;
      registers = x.end;
      frame = frame_begin frame z.low;
      ceiling = z.low;
      room = x.room;
      top = top;
      low = x.lowest;
      bottom = z.bottom;
      gives = true;
      entered = t;
      ordered = x.ordered;
      few = let r : x.end ≤ z.own = x.registers in let o = z.ordered in let f = z.few in omega (arith, r);
      even = e.even;
      high = let h = e.high in let i = z.high in omega (arith, h);
      within = let h = e.high in let i = z.within in omega (arith, h);
      above = e.above;
      inside = let d = z.deep in let h = z.high in omega (arith, d);
      deep = e.deep;
      floor = x.floor;
      lowest = z.lowest;
      roomy = record { fits = let s = x.spare.fits in let d = e.deep in omega (arith, s, d) };
      returns = λ k. record {
        outside = e.outside;
        high = let h = e.high in let i = z.high in omega (arith, h);
        within = let h = e.high in let i = z.within in omega (arith, h);
        known = e.known;
        even = e.back;
      };
    }

    module _ (top : ℕ) (t : Core) (e : Enters top t) where
      abbrev inner : Setting
      inner = callee top t e

      -- its code begins with its parameters
      pub begins : (entry : ℕ) (words : List ℕ) (w : WordState) → t.pc ≡ entry → t.sp ≡ top → t.fram ≡ w.fram → t.inputs ≡ w.inputs
          → HaveWords first words (local_words t.work) t.ram → StandsFor inner entry (called first words w) t
      begins entry words w at sp fram inputs have =
          let depth : t.sp + 2 * 0 ≡ top = omega (arith, sp) in
          record {
            at = at;
            memory =
                record {
                  depth = depth;
                  fits = omega arith;
                  stack = tt;
                  vars = λ n v own q. params_are first words (local_words t.work) t.ram n v have q;
                  keeps = record { ram_words = λ a from out. refl; registers = λ n from few. refl };
                };
            fram = fram;
            inputs = inputs;
          }

      -- what the caller has is as it was in front of the call
      pub resumes : (sp v : ℕ) (s w : WordState) (regs : List ℕ) (ram : ℕ → Option ℕ) (vs : List ℕ) (q : Core) → top ≤ sp → z.low ≤ sp
          → Memory z sp ram regs vs w.locals × ((a : ℕ) → sp ≤ a → t.ram a ≡ ram a)
          → ((n : ℕ) → z.own ≤ n → n < 8 → get_or (local_words t.work) n 0 ≡ get_or regs n 0)
          → HasReturned inner v s q → Memory z sp q.ram (local_words q.work) vs w.locals
      resumes sp v s w regs ram vs q high low m same h =
          let r : x.end ≤ z.own = x.registers in
          let from_top : (a : ℕ) → sp ≤ a → top ≤ a = λ a from. omega (arith, from, high) in
          let from_low : (a : ℕ) → sp ≤ a → z.low ≤ a = λ a from. omega (arith, from, low) in
          let from_end : (n : ℕ) → z.own ≤ n → x.end ≤ n = λ n own. omega (arith, own, r) in
          memory_after z sp ram q.ram regs (local_words q.work) vs w.locals
          (λ a from. h.keeps.ram_words a (from_top a from) (λ k. from_low a from) ∙ m.1 a from)
          (λ n own few. h.keeps.registers n (from_end n own) few ∙ same n own few) m.0

      -- behind its code, by how its body ends: so many cycles are spent behind its return
      pub call_ends : (last most behind end : ℕ) (s : WordState) (es : List Effect) (b : End) → FollowsEnd inner last most t es b
          → ((v : ℕ) (w : WordState) (q : Core) → HasReturned inner v w q
          → Runs z.kept [] behind q (Describes z (waiting.R4 ∷ []) end (record w { stack = v ∷ s.stack; locals = s.locals })))
          → (let all = called_behind s (behaves es b) in
          Reaches z 3 (Describes z (waiting.R4 ∷ []) end) (most + (behind + 3)) t all.effects all.end)
      call_ends last most behind end s es (Gives v w) a f =
          record { spent = most + behind; within = omega arith; runs = runs_on z a (λ q h. f v w q h) }
      call_ends last most behind end s es Short a f =
          subst (λ l. Starves z.kept l (most + (behind + 3)) t) (sym (append-nil es)) (dearer_stall z es most (most + (behind + 3)) t (omega arith) a)
      call_ends last most behind end s es _ a f = tt

  -- the caller's stack stays above what it leaves to others
  pub stays_above : {sp : ℕ} {ram : ℕ → Option ℕ} {regs vs : List ℕ} {ls : ℕ → Option ℕ} → Memory z sp ram regs vs ls → z.low ≤ sp
  stays_above m = let d = m.depth in let f = m.fits in let l = z.deep in omega arith

  -- ---- a function whose locals stand in registers

  light_param : (own end low n : ℕ) → IsOwn own end low low n → n < end
  light_param own end low n (inl at) = at.1
  light_param own end low n (inr at) = absurd (let l = at.1 in let h = at.2 in omega arith)

  -- its parameters' words are there, and nothing waits
  record AreThere (first : ℕ) (words : List ℕ) (pc : ℕ) (w : WordState) (t : Core) : Type 0 where
    is : StandsFor z pc w t
    have : HaveRegisters first words (local_words t.work)

  module _ (first : ℕ) (words vs : List ℕ) (os : List Waiting) (pc : ℕ) (w : WordState) (u : Core) where
    pass_part : ((j : ℕ) → j < length words → first + j < z.own) → w.stack ≡ words ++ vs
        → (let n = length words in let under = below_words n os in let ms = values_code first n os ++ flushed under in
        Stands z.code pc ms → Describes z os pc w u
        → Runs z.kept [] (values_cycles n os + owed under) u (AreThere first words (pc + forms_bytes ms) (with_stack vs w)))
    pass_part low e h d =
        let n = length words in
        let under = below_words n os in
        let front = values_code first n os in
        let mid = pc + forms_bytes front in
        let left = with_stack vs w in
        two_parts z front (flushed under) pc (λ p. AreThere first words p left) h (λ s. values_part first words vs os pc w u low e s d) (λ t s k.
        so_runs (flush_under z [] under mid left t k.is s) (λ q j. record {
          is = bare z (mid + forms_bytes (flushed under)) left q j.is;
          have = subst (λ (g : ℕ → ℕ). HaveRegisters first words (local_words g)) (sym j.held) k.held.have;
        }))

  module _ (first count : ℕ) (body : Program) (x : IsCalled (λ inner. IsFormed inner true body) (bounds_of z) None first count body) where
    -- the code of a light function runs from its entry on
    abbrev pub LightRuns : (entry last cost : ℕ) (words : List ℕ) (w : WordState) (b : Behaviour) → Type 0
    LightRuns entry last cost words w b = (top : ℕ) (t : Core) (e : Enters None first count body x top t)
        → StandsFor (callee None first count body x top t e) entry (called first words w) t
        → FollowsEnd (callee None first count body x top t e) last cost t b.effects b.end

    -- the call itself, its parameters being there
    light_hop : (entry last cost pc : ℕ) (words : List ℕ) (w : WordState) (b : Behaviour) (u : Core) → entry % 2 ≡ 0 → length w.stack < z.room
        → length words ≡ count → LightRuns entry last cost words w b → Stands z.code pc (Call entry ∷ []) → AreThere first words pc w u
        → (let all = called_behind w b in Reaches z 3 (Describes z (waiting.R4 ∷ []) (pc + 4)) (8 + cost) u all.effects all.end)
    light_hop entry last cost pc words w b u even room few runs h k =
        let i = k.is in
        let m = i.memory in
        let sp = u.sp in
        let top = sp - 2 in
        let t : Core = record u { pc = entry; sp = sp - 2; ram = put u.ram (sp - 2) (Some (u.pc + 4)) } in
        let depth = m.depth in let deep = z.deep in let roomy = z.roomy.fits in let parity = z.even in
        let fits : x.lowest + 2 * (x.room + 1) ≤ z.low = x.fits in
        let above = stays_above m in
        let at = (z.tidy pc _ h.0).even in
        let back : t.ram top ≡ Some (u.pc + 4) = put_same u.ram (sp - 2) (Some (u.pc + 4)) in
        let up : top + 2 ≡ sp = omega arith in
        let e : Enters None first count body x top t = record {
          even = omega arith;
          high = omega arith;
          above = λ l. absurd (let less : z.low < z.low = l in omega arith);
          outside = λ l. l;
          deep = omega (arith, fits);
          known = ap is_some back;
          back = ap (λ o. unwrap_or o 0 % 2) back ∙ omega (arith, at, i.at);
        } in
        let registers : x.end ≤ z.own = x.registers in let ordered = z.ordered in let most = z.few in
        let small : (j : ℕ) → j < length words → first + j < 8 =
        λ j l. let own = light_param x.own x.end z.low (first + j) (x.parameters j (omega (arith, l, few))) in omega (arith, own) in
        let have = registers_have first words (local_words t.work) t.ram small k.have in
        let starts = begins None first count body x top t e entry words w refl refl i.fram i.inputs have in
        let apart : (a : ℕ) → sp ≤ a → t.ram a ≡ u.ram a = λ a l. put_other u.ram (sp - 2) (Some (u.pc + 4)) a (λ q. omega (arith, q, l, up)) in
        let all = called_behind w b in
        let after : WordState → Core → Type 0 = Describes z (waiting.R4 ∷ []) (pc + 4) in
        let hopped = hop z (Call entry) 5 u t [] 5 (λ q. q ≡ t) (ap z.code.at i.at ∙ h.0) (even, push_needs z m room) refl (omega arith) refl in
        let reached = call_ends None first count body x top t e last cost 0 (pc + 4) w b.effects b.end (runs top t e starts) (λ v v' q r.
        nothing_run z (record {
          rest = w.stack;
          is = record {
            at = r.pc ∙ ap (λ o. unwrap_or o 0) back ∙ ap (λ a. a + 4) i.at;
            memory = subst (λ n. Memory z n q.ram (local_words q.work) w.stack w.locals) (sym (r.sp ∙ up))
                (resumes None first count body x top t e sp v v' w (local_words u.work) u.ram w.stack q (omega arith) above (m, apart)
                (λ n own l. refl) r);
            fram = r.fram;
            inputs = r.inputs;
          };
          stack = ap (λ y. y ∷ w.stack) (sym r.result);
          there = (tt, tt);
          fits = omega (arith, room);
        })) in
        reach_more z 3 after (5 + (cost + (0 + 3))) (8 + cost) u all.effects all.end (omega arith)
        (then_reach z 3 after 5 (cost + (0 + 3)) u (λ q. q ≡ t) [] all.effects all.end hopped
        (λ q same. subst (λ y. Reaches z 3 after (cost + (0 + 3)) y all.effects all.end) (sym same) reached))

    light_own : (j : ℕ) → j < count → first + j < z.own
    light_own j l = let own = light_param x.own x.end z.low (first + j) (x.parameters j l) in
        let r : x.end ≤ z.own = x.registers in omega (arith, own, r)

    -- with the values in front of it
    pub light_reaches : (entry last cost pc : ℕ) (os : List Waiting) (w : WordState) (b : Behaviour) (u : Core) (p : Popped count w.stack) → entry % 2 ≡ 0
        → length p.rest < z.room → LightRuns entry last cost p.words w b → Stands z.code pc (light_call entry first count os) → Describes z os pc w u
        → Does z (waiting.R4 ∷ []) (pc + forms_bytes (light_call entry first count os)) (8 + 2 * count + cost + owed os) u
        (called_behind (with_stack p.rest w) b)
    light_reaches entry last cost pc os w b u p even room runs h d =
        let words = p.words in
        let n = length words in
        let front = values_code first n os ++ flushed (below_words n os) in
        let mid = pc + forms_bytes front in
        let left = with_stack p.rest w in
        let all = called_behind left b in
        let stands = subst (λ c. Stands z.code pc (light_call entry first c os)) (sym p.count) h in
        subst (λ c. Does z (waiting.R4 ∷ []) (pc + forms_bytes (light_call entry first c os)) (8 + 2 * c + cost + owed os) u all) p.count
        (does_behind z front (Call entry ∷ []) (waiting.R4 ∷ []) (8 + cost) (8 + 2 * n + cost + owed os) pc u all (omega (arith, values_owed n os)) stands
        (λ s. pass_part first words p.rest os pc w u (λ j l. light_own j (omega (arith, l, p.count))) p.is s d)
        (λ t s k. light_hop entry last cost mid words left b t even room p.count runs s k))

  -- ---- the return

  -- the word that is given is in R4, and nothing else is on the stack
  give_hop : (pc v : ℕ) (w : WordState) (t : Core) → z.gives ≡ true → w.stack ≡ [] → Stands z.code pc (Return ∷ []) → With (StandsFor z pc w) (HasWord R4 v) t
      → Runs z.kept [] 3 t (HasReturned z v w)
  give_hop pc v w t gives none h k =
      let i = k.is in
      let back = z.returns gives in
      let high = back.high in let parity = z.even in let roomy = z.roomy.fits in
      let within = back.within in let deep = z.deep in let floor = z.floor in let lowest = z.lowest in
      let sp : t.sp ≡ z.top = omega (arith, i.memory.depth, ap (length {A = ℕ}) none) in
      let word : t.ram t.sp ≡ z.entered.ram z.top = ap t.ram sp ∙ i.memory.keeps.ram_words z.top (omega arith) back.outside in
      hop z Return 3 t (record t { pc = ram_word t t.sp; sp = t.sp + 2 }) [] 3 (HasReturned z v w) (ap z.code.at i.at ∙ h.0) (
        record { even = omega (arith, sp); low = omega (arith, sp); high = omega (arith, sp) },
        ap is_some word ∙ back.known,
        ap (λ o. unwrap_or o 0 % 2) word ∙ back.even,
        (omega (arith, sp), omega (arith, sp)),
      ) refl (omega arith)
      (record { pc = ap (λ o. unwrap_or o 0) word; sp = ap (λ n. n + 2) sp; result = k.held; fram = i.fram; inputs = i.inputs; keeps = i.memory.keeps })

  -- where nothing waits below the top
  give_from : (v pc : ℕ) (os : List Waiting) (w : WordState) (u : Core) → z.gives ≡ true → w.stack ≡ v ∷ [] → below_top os ≡ []
      → Stands z.code pc (give_code os) → Describes z os pc w u
      → Runs z.kept [] (load_cycles (top_of os) + 3) u (HasReturned z v (with_stack [] w))
  give_from v pc os w u gives e under h d =
      let front = four_from (top_of os) in
      let mid = pc + forms_bytes front in
      let left = with_stack [] w in
      runs_on z (four_part z os pc w v [] u e (ap any_held under) (stands_front z.code pc front (Return ∷ []) h) d) (λ t k.
      give_hop mid v left t gives refl (stands_back z.code pc front (Return ∷ []) h)
      (record { is = bare z mid left t (subst (λ l. Describes z l mid left t) under k.is); held = k.held.value }))

  -- with one word on the stack no more than that waits
  one_waits : (os : List Waiting) (pc : ℕ) (w : WordState) (u : Core) → length w.stack ≡ 1 → Describes z os pc w u → below_top os ≡ []
  one_waits [] pc w u e d = refl
  one_waits (o ∷ []) pc w u e d = refl
  one_waits (o ∷ (p ∷ os)) pc w u e d =
      let words = waiting_words w.fram w.locals u.work (o ∷ (p ∷ os)) in
      absurd (let all = ap (length {A = ℕ}) d.stack in let both = length-append words d.rest in omega arith)

  pub give_part : (os : List Waiting) (pc : ℕ) (w : WordState) (vs : List ℕ) (u : Core) → z.gives ≡ true → w.stack ≡ vs → length vs ≡ 1
      → Stands z.code pc (give_code os) → Describes z os pc w u
      → Does z [] (pc + forms_bytes (give_code os)) (5 + owed os) u (with_top vs (λ v us. behaves [] (Gives v (with_stack us w))))
  give_part os pc w [] u gives e one h d = tt
  give_part os pc w (v ∷ (y ∷ vs)) u gives e one h d = absurd (omega (arith, one))
  give_part os pc w (v ∷ []) u gives e one h d =
      dearer z (omega (arith, load_owed os)) (give_from v pc os w u gives e (one_waits os pc w u (ap (length {A = ℕ}) e) d) h d)
