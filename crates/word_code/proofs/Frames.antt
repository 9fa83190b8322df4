-- Calls of functions with locals in RAM: the values are pushed, SP is set below those locals, and the values are moved there.
use Rattle.word_code.proofs.Names.{◌≡◌, ℕ, ◌+◌, ◌-◌, ◌*◌, ◌%◌, ◌<◌, ◌≤◌, Bool, true, false, nat_lt, if◌then◌else◌, List, [], ◌∷◌, ◌++◌}
use Rattle.word_code.proofs.Names.{length, get_or, Some, refl, sym, ap, ◌∙◌, subst, arith, inl, inr, eq-eqb, ne_eqb, put, put_same, put_other}
use Rattle.word_code.proofs.Names.{work_number, Core, R4, Register, ToRegister, ToRam, Move, Push, SetStack, Call, KeepStack, RestoreStack, StackNext}
use Rattle.word_code.proofs.Names.{form_bytes, Stands, forms_bytes, Runs, IsRam, stands_front, stands_back, forms_bytes-append}
use Rattle.word_code.proofs.Names.{WordState, Behaviour, with_stack, called_behind, called, Program, IsCalled, IsFormed, IsOwn, Waiting, flushed, length-append}
use Rattle.word_code.proofs.Names.{local_register, local_address, local_target, frame_code, framed_call, IsKept, rules_of, IsKnown, IsInStack, ram_word, is_some, unwrap_or, forgotten, Option}
use Rattle.word_code.specs.declared.waiting.Waiting.TheVariants as waiting
use Rattle.word_code.proofs.Stretches.{Setting, bounds_of, hop, runs_on, so_runs, nothing_run}
use Rattle.word_code.proofs.Memory.{local_words, local_word, register_at, register_put, below_eight, from_eight, StackIs, stack_same, stack_upper, address_same}
use Rattle.word_code.proofs.Memory.{Memory, drop_memory, above_forgotten}
use Rattle.word_code.proofs.Follows.{StandsFor, FollowsEnd, Reaches, reach_more, then_reach}
use Rattle.word_code.proofs.Operands.{Describes, owed, flush_part}
use Rattle.word_code.proofs.Results.{Does, does_behind}
use Rattle.word_code.proofs.Calls.{Popped, HaveWords, register_word, Enters, callee, begins, resumes, call_ends, stays_above}

-- the word of a local, where registers and RAM are what they were but for another local
same_local : (regs regs' : List ℕ) (ram ram' : ℕ → Option ℕ) (n : ℕ) → (n < 8 → get_or regs' n 0 ≡ get_or regs n 0)
    → (8 ≤ n → ram' (local_address n) ≡ ram (local_address n)) → local_word regs' ram' n ≡ local_word regs ram n
same_local regs regs' ram ram' n in_registers in_words = by (nat_lt n 8) refl
  where
    by : (b : Bool) → nat_lt n 8 ≡ b
        → (if b then Some (get_or regs' n 0) else ram' (local_address n)) ≡ (if b then Some (get_or regs n 0) else ram (local_address n))
    by true e = ap (λ w. Some w) (in_registers (below_eight n e))
    by false e = in_words (from_eight n e)

module _ (z : Setting) where
  -- what a machine has that it had before: FRAM, the inputs, RAM from the caller's SP on, and the registers from its own on
  pub record Unchanged (u t : Core) : Type 0 where
    pub fram : t.fram ≡ u.fram
    pub inputs : t.inputs ≡ u.inputs
    pub ram : (a : ℕ) → u.sp ≤ a → z.low ≤ a → t.ram a ≡ u.ram a
    pub registers : (n : ℕ) → z.own ≤ n → n < 8 → get_or (local_words t.work) n 0 ≡ get_or (local_words u.work) n 0

  -- SP is at the frame, and R4 at words of the caller's stack that are to be moved there, behind which the caller's SP will be
  pub record Filling (u : Core) (behind frame pc : ℕ) (words : List ℕ) (t : Core) : Type 0 where
    pub at : t.pc ≡ pc
    pub sp : t.sp ≡ frame
    pub next : t.work 4 + 2 * length words ≡ behind
    pub even : t.work 4 % 2 ≡ 0
    pub low : z.low ≤ t.work 4
    pub from : u.sp ≤ behind
    pub high : behind ≤ z.top
    pub stack : StackIs t.ram (t.work 4) words
    pub unchanged : Unchanged u t

  module _ (own end frame : ℕ) where
    abbrev Own : ℕ → Type 0
    Own = IsOwn own end frame z.low

    -- a local of the function has a word, the others having theirs
    record IsMoved (m v : ℕ) (u t : Core) : Type 0 where
      value : local_word (local_words t.work) t.ram m ≡ Some v
      others : (n : ℕ) → Own n → (n ≡ m → ⊥) → local_word (local_words t.work) t.ram n ≡ local_word (local_words u.work) u.ram n

    -- one word is moved, and more are to be moved
    record Moved (u : Core) (behind pc m v : ℕ) (words : List ℕ) (before t : Core) : Type 0 where
      filling : Filling u behind frame pc words t
      moved : IsMoved m v before t

    -- all words are moved, locals behind them having theirs
    record Filled (u : Core) (behind pc first : ℕ) (words : List ℕ) (before t : Core) : Type 0 where
      filling : Filling u behind frame pc [] t
      have : HaveWords first words (local_words t.work) t.ram
      others : (n : ℕ) → Own n → first + length words ≤ n → local_word (local_words t.work) t.ram n ≡ local_word (local_words before.work) before.ram n

  module _ (own end frame : ℕ) (few : end ≤ z.own) (below : frame ≤ z.low) (room : 0x1C00 ≤ frame) where
    next_ram : (u : Core) (behind pc v : ℕ) (words : List ℕ) (t : Core) → Filling u behind frame pc (v ∷ words) t
        → IsRam (t.work 4) × (t.sp ≤ t.work 4) × IsKnown (t.ram (t.work 4))
    next_ram u behind pc v words t k =
        let low = k.low in let high = k.high in let next = k.next in let top = z.high in let even = k.even in
        (record { even = even; low = omega (arith, low); high = omega (arith, low, next) }, omega (arith, k.sp, low), ap is_some k.stack.0)

    -- to a register
    to_register : (u : Core) (behind pc m v : ℕ) (words : List ℕ) (t : Core) → m < 8 → m < end
        → (let form = Move (StackNext R4) (ToRegister (local_register m)) in Stands z.code pc (form ∷ [])
        → Filling u behind frame pc (v ∷ words) t → Runs z.kept [] 5 t (Moved own end frame u behind (pc + 2) m v words t))
    to_register u behind pc m v words t small less h k =
        let r = work_number (local_register m) in
        let form = Move (StackNext R4) (ToRegister (local_register m)) in
        let y = ram_word t (t.work 4) in
        let is_word : y ≡ v = ap (λ o. unwrap_or o 0) k.stack.0 in
        let up = put t.work 4 (t.work 4 + 2) in
        let after : Core = record t { pc = t.pc + 2; work = put up r y } in
        let place = (register_at up m small).0 in
        let most = z.few in let ordered = z.ordered in
        let at_four : after.work 4 ≡ t.work 4 + 2 =
        put_other up r y 4 (λ q. omega (arith, q, place)) ∙ put_same t.work 4 (t.work 4 + 2) in
        let other : (n : ℕ) → n < 8 → (n ≡ m → ⊥) → get_or (local_words after.work) n 0 ≡ get_or (local_words t.work) n 0 =
        λ n l ne. register_put up m n y small l ∙ ap (λ b. if b then y else get_or (local_words up) n 0) (ne_eqb n m ne) in
        let c = k.unchanged in
        let needs = next_ram u behind pc v words t k in
        hop z form 5 t after [] 2 (Moved own end frame u behind (pc + 2) m v words t) (ap z.code.at k.at ∙ h.0) (needs, tt) refl (omega arith)
        (record {
          filling = record {
            at = omega (arith, k.at);
            sp = k.sp;
            next = omega (arith, at_four, k.next);
            even = omega (arith, at_four, k.even);
            low = omega (arith, at_four, k.low);
            from = k.from;
            high = k.high;
            stack = subst (λ a. StackIs t.ram a words) (sym at_four) k.stack.1;
            unchanged = record {
              fram = c.fram;
              inputs = c.inputs;
              ram = c.ram;
              registers = λ n from l. other n l (λ q. omega (arith, q, from, less)) ∙ c.registers n from l;
            };
          };
          moved = record {
            value = register_word m (local_words after.work) t.ram small ∙ ap (λ w. Some w) (register_put up m m y small small
                ∙ ap (λ b. if b then y else get_or (local_words up) m 0) (eq-eqb m m refl) ∙ is_word);
            others = λ n is ne. same_local (local_words t.work) (local_words after.work) t.ram t.ram n (λ l. other n l ne) (λ l. refl);
          };
        })

    -- to RAM
    to_ram : (u : Core) (behind pc m v : ℕ) (words : List ℕ) (t : Core) → 8 ≤ m → frame ≤ local_address m → local_address m < z.low
        → (let form = Move (StackNext R4) (ToRam (local_address m)) in Stands z.code pc (form ∷ [])
        → Filling u behind frame pc (v ∷ words) t → Runs z.kept [] 5 t (Moved own end frame u behind (pc + 4) m v words t))
    to_ram u behind pc m v words t eight from upto h k =
        let a = local_address m in
        let form = Move (StackNext R4) (ToRam a) in
        let y = ram_word t (t.work 4) in
        let is_word : y ≡ v = ap (λ o. unwrap_or o 0) k.stack.0 in
        let up = put t.work 4 (t.work 4 + 2) in
        let after : Core = record t { pc = t.pc + 4; work = up; ram = put t.ram a (Some y) } in
        let at_four : after.work 4 ≡ t.work 4 + 2 = put_same t.work 4 (t.work 4 + 2) in
        let deep = z.deep in let high = z.high in
        let few : m < 0x1207 = omega (arith, from) in
        let is : IsRam a = record { even = omega (arith, from); low = omega (arith, from); high = omega (arith, upto) } in
        let other : (b : ℕ) → z.low ≤ b → after.ram b ≡ t.ram b = λ b l. put_other t.ram a (Some y) b (λ q. omega (arith, q, l, upto)) in
        let c = k.unchanged in
        let low = k.low in
        let needs = next_ram u behind pc v words t k in
        hop z form 5 t after [] 5 (Moved own end frame u behind (pc + 4) m v words t) (ap z.code.at k.at ∙ h.0) (needs, is) refl (omega arith)
        (record {
          filling = record {
            at = omega (arith, k.at);
            sp = k.sp;
            next = omega (arith, at_four, k.next);
            even = omega (arith, at_four, k.even);
            low = omega (arith, at_four, k.low);
            from = k.from;
            high = k.high;
            stack = subst (λ b. StackIs after.ram b words) (sym at_four)
                (stack_same t.ram after.ram (t.work 4 + 2) words (λ b l. other b (omega (arith, l, low))) k.stack.1);
            unchanged = record {
              fram = c.fram;
              inputs = c.inputs;
              ram = λ b s l. other b l ∙ c.ram b s l;
              registers = c.registers;
            };
          };
          moved = record {
            value = ap (λ b. if b then Some (get_or (local_words t.work) m 0) else after.ram a) (is_high m eight) ∙ put_same t.ram a (Some y)
                ∙ ap (λ w. Some w) is_word;
            others = λ n own ne. same_local (local_words t.work) (local_words after.work) t.ram after.ram n (λ l. refl)
                (λ l. ap (λ b. if b then Some y else t.ram (local_address n)) (address_same n m few ∙ ne_eqb n m ne));
          };
        })
      where
        is_high : (n : ℕ) → 8 ≤ n → nat_lt n 8 ≡ false
        is_high n l = by (nat_lt n 8) refl
          where
            by : (b : Bool) → nat_lt n 8 ≡ b → nat_lt n 8 ≡ false
            by true e = absurd (let low = below_eight n e in omega (arith, l, low))
            by false e = e

    -- by where the local stands
    move_by : (b : Bool) (u : Core) (behind pc m v : ℕ) (words : List ℕ) (t : Core) → nat_lt m 8 ≡ b → Own own end frame m
        → (let form = Move (StackNext R4) (if b then ToRegister (local_register m) else ToRam (local_address m)) in Stands z.code pc (form ∷ [])
        → Filling u behind frame pc (v ∷ words) t → Runs z.kept [] 5 t (Moved own end frame u behind (pc + form_bytes form) m v words t))
    move_by true u behind pc m v words t e (inl own) h k = to_register u behind pc m v words t (below_eight m e) own.1 h k
    move_by true u behind pc m v words t e (inr at) h k = absurd (let low = below_eight m e in let l = at.0 in omega arith)
    move_by false u behind pc m v words t e (inl own) h k =
        absurd (let from = from_eight m e in let l = own.1 in let ordered = z.ordered in let most = z.few in omega arith)
    move_by false u behind pc m v words t e (inr at) h k = to_ram u behind pc m v words t at.0 at.1 at.2 h k

    fill_part : (u : Core) (behind pc first : ℕ) (words : List ℕ) (t : Core) → ((j : ℕ) → j < length words → Own own end frame (first + j))
        → (let n = length words in Stands z.code pc (frame_code first n) → Filling u behind frame pc words t
        → Runs z.kept [] (5 * n) t (Filled own end frame u behind (pc + forms_bytes (frame_code first n)) first words t))
    fill_part u behind pc first [] t owns h k =
        let same : pc ≡ pc + 0 = omega arith in
        nothing_run z (record { filling = subst (λ p. Filling u behind frame p [] t) same k; have = tt; others = λ n own l. refl })
    fill_part u behind pc first (v ∷ words) t owns h k =
        let n = length words in
        let m = first + n in
        let form = Move (StackNext R4) (local_target m) in
        let rest = frame_code first n in
        let mid = pc + form_bytes form in
        let there : mid + forms_bytes rest ≡ pc + forms_bytes (form ∷ rest) = omega arith in
        let cycles : 5 + 5 * n ≡ 5 * length (v ∷ words) = omega arith in
        let is : Own own end frame m = owns n (omega arith) in
        subst (λ c. Runs z.kept [] c t (Filled own end frame u behind (pc + forms_bytes (form ∷ rest)) first (v ∷ words) t)) cycles
        (subst (λ p. Runs z.kept [] (5 + 5 * n) t (Filled own end frame u behind p first (v ∷ words) t)) there
        (runs_on z (move_by (nat_lt m 8) u behind pc m v words t refl is (h.0, tt) k) (λ q j.
        so_runs (fill_part u behind mid first words q (λ i l. owns i (omega (arith, l))) h.1 j.filling) (λ r i. record {
          filling = i.filling;
          have = (i.others m is (omega arith) ∙ j.moved.value, i.have);
          others = λ b have l. i.others b have (omega (arith, l)) ∙ j.moved.others b have (λ same. omega (arith, same, l));
        }))))

  -- ---- a call

  -- SP of the caller is kept, and SP set
  module _ (frame : ℕ) (words vs : List ℕ) (pc : ℕ) (w : WordState) (u : Core) where
    frame_part : frame % 2 ≡ 0 → IsKept (rules_of z.kept) frame → IsInStack frame → frame ≤ u.sp → w.stack ≡ words ++ vs
        → Stands z.code pc (KeepStack R4 ∷ SetStack frame ∷ [])
        → StandsFor z pc w u → Runs z.kept [] 3 u (Filling u (u.sp + 2 * length words) frame (pc + 6) words)
    frame_part even stays inside down e h i =
        let t : Core = record u { pc = u.pc + 2; work = put u.work 4 u.sp } in
        let q : Core = record t { pc = u.pc + 2 + 4; sp = frame; ram = if u.enabled then forgotten frame u.sp u.ram else u.ram } in
        let above : (a : ℕ) → u.sp ≤ a → q.ram a ≡ u.ram a = λ a l. above_forgotten u.enabled frame u.sp u.ram a l in
        let m = subst (λ l. Memory z u.sp u.ram (local_words u.work) l w.locals) e i.memory in
        let depth = m.depth in let parity = z.even in let size = length-append words vs in
        let at : t.pc ≡ pc + 2 = omega (arith, i.at) in
        let four : q.work 4 ≡ u.sp = put_same u.work 4 u.sp in
        runs_on z (hop z (KeepStack R4) 1 u t [] 1 (λ s. s ≡ t) (ap z.code.at i.at ∙ h.0) tt refl (omega arith) refl) (λ s same.
        subst (λ s. Runs z.kept [] 2 s (Filling u (u.sp + 2 * length words) frame (pc + 6) words)) (sym same)
        (hop z (SetStack frame) 2 t q [] 2 (Filling u (u.sp + 2 * length words) frame (pc + 6) words) (ap z.code.at at ∙ h.1.0)
        (even, λ k. inside, stays) refl (omega arith)
        (record {
          at = omega (arith, i.at);
          sp = refl;
          next = ap (λ n. n + 2 * length words) four;
          even = omega (arith, four);
          low = let low = stays_above z i.memory in omega (arith, four, low);
          from = omega arith;
          high = omega arith;
          stack = subst (λ a. StackIs q.ram a words) (sym four) (stack_same u.ram q.ram u.sp words above (stack_upper u.ram u.sp words vs m.stack));
          unchanged = record { fram = refl; inputs = refl; ram = λ a s l. above a s; registers = λ n from l. refl };
        })))

  module _ (f first count : ℕ) (body : Program) (x : IsCalled (λ inner. IsFormed inner true body) (bounds_of z) (Some f) first count body) where
    -- the code of the function runs from its entry on
    abbrev pub FramedRuns : (entry last cost : ℕ) (words : List ℕ) (w : WordState) (b : Behaviour) → Type 0
    FramedRuns entry last cost words w b = (top : ℕ) (t : Core) (e : Enters z (Some f) first count body x top t)
        → StandsFor (callee z (Some f) first count body x top t e) entry (called first words w) t
        → FollowsEnd (callee z (Some f) first count body x top t e) last cost t b.effects b.end

    -- the frame has room for the caller's SP and the return address
    frame_room : 0x1C00 + 36 ≤ f
    frame_room = let spare = x.spare.fits in let fits : x.lowest + 2 * (x.room + 2) ≤ f = x.fits.2 in omega (arith, spare, fits)

    -- SP stays in the stack there
    frame_stays : (sp : ℕ) → f ≤ sp + 4 → sp ≤ f → IsKept (rules_of z.kept) sp
    frame_stays sp low high =
        let floor = x.floor in let lowest = z.lowest in let fits : x.lowest + 2 * (x.room + 2) ≤ f = x.fits.2 in
        let below : f ≤ z.low = x.fits.1 in let deep = z.deep in let within = z.within in
        (omega (arith, fits, low), omega (arith, below, high))

    -- what the caller has behind the call, in front of it: FRAM, the inputs, and its memory without the values
    record Suspended (behind : ℕ) (w : WordState) (u : Core) : Type 0 where
      memory : Memory z behind u.ram (local_words u.work) w.stack w.locals
      fram : u.fram ≡ w.fram
      inputs : u.inputs ≡ w.inputs

    have_same : (words : List ℕ) (regs : List ℕ) (ram ram' : ℕ → Option ℕ) → ((j : ℕ) → j < length words → IsOwn x.own x.end f z.low (first + j))
        → ((a : ℕ) → f ≤ a → ram' a ≡ ram a) → HaveWords first words regs ram → HaveWords first words regs ram'
    have_same [] regs ram ram' owns same h = tt
    have_same (v ∷ words) regs ram ram' owns same h =
        let m = first + length words in (
          same_local regs regs ram ram' m (λ l. refl) (λ l. same (local_address m) (address_from m l (owns (length words) (omega arith)))) ∙ h.0,
          have_same words regs ram ram' (λ j l. owns j (omega (arith, l))) same h.1,
        )
      where
        address_from : (n : ℕ) → 8 ≤ n → IsOwn x.own x.end f z.low n → f ≤ local_address n
        address_from n l (inl at) =
            absurd (let less = at.1 in let r : x.end ≤ z.own = x.registers in let ordered = z.ordered in let most = z.few in omega (arith, l))
        address_from n l (inr at) = at.1

    -- the caller's SP is pushed, then the call; behind it that is SP again
    framed_hops : (entry last cost pc behind : ℕ) (words : List ℕ) (w : WordState) (b : Behaviour) (u before t : Core) → entry % 2 ≡ 0
        → (length w.stack < z.room) × (length words ≡ count) → FramedRuns entry last cost words w b
        → Stands z.code pc (Push (Register R4) ∷ Call entry ∷ RestoreStack ∷ []) → Suspended behind w u
        → Filled x.own x.end f u behind pc first words before t
        → (let all = called_behind w b in Reaches z 3 (Describes z (waiting.R4 ∷ []) (pc + 8)) (13 + cost) t all.effects all.end)
    framed_hops entry last cost pc behind words w b u before t even fit runs h s k =
        let i = k.filling in
        let c = i.unchanged in
        let sp = i.sp in
        let saved = t.sp - 2 in
        let t1 : Core = record t { pc = t.pc + 2; sp = t.sp - 2; ram = put t.ram (t.sp - 2) (Some (t.work 4)) } in
        let t2 : Core = record t1 { pc = entry; sp = t1.sp - 2; ram = put t1.ram (t1.sp - 2) (Some (t1.pc + 4)) } in
        let top = t1.sp - 2 in
        let four : t.work 4 ≡ behind = omega (arith, i.next) in
        let room = frame_room in
        let stays = frame_stays in
        let parity : f % 2 ≡ 0 = x.fits.0 in let below : f ≤ z.low = x.fits.1 in let fits : x.lowest + 2 * (x.room + 2) ≤ f = x.fits.2 in
        let deep = z.deep in let high = z.high in let low = i.low in let less = i.high in
        let at = (z.tidy pc _ h.0).even in
        let back : t2.ram top ≡ Some (t1.pc + 4) = put_same t1.ram top (Some (t1.pc + 4)) in
        let kept : t2.ram saved ≡ Some (t.work 4) =
        put_other t1.ram top (Some (t1.pc + 4)) saved (λ q. omega (arith, q, sp, room)) ∙ put_same t.ram saved (Some (t.work 4)) in
        let apart : (a : ℕ) → f ≤ a → t2.ram a ≡ t.ram a = λ a l. put_other t1.ram top (Some (t1.pc + 4)) a (λ q. omega (arith, q, l, sp, room))
        ∙ put_other t.ram saved (Some (t.work 4)) a (λ q. omega (arith, q, l, sp, room)) in
        let e : Enters z (Some f) first count body x top t2 = record {
          even = omega (arith, sp);
          high = omega (arith, sp);
          above = λ l. (let under : top ≤ f = omega (arith, sp) in under);
          outside = λ l. absurd (let from : f ≤ top = l in omega (arith, sp));
          deep = omega (arith, sp);
          known = ap is_some back;
          back = ap (λ o. unwrap_or o 0 % 2) back ∙ omega (arith, at, i.at);
        } in
        let have = have_same words (local_words t.work) t.ram t2.ram (λ j l. x.parameters j (omega (arith, l, fit.1))) apart k.have in
        let starts = begins z (Some f) first count body x top t2 e entry words w refl refl (c.fram ∙ s.fram) (c.inputs ∙ s.inputs) have in
        let all = called_behind w b in
        let after : WordState → Core → Type 0 = Describes z (waiting.R4 ∷ []) (pc + 8) in
        let depth = s.memory.depth in let floor = z.floor in let lowest = z.lowest in let within = z.within in
        let even_behind : behind % 2 ≡ 0 = omega (arith, four, i.even) in
        let low_behind : z.low ≤ behind = omega (arith, four) in
        let at1 : t1.pc ≡ pc + 2 = omega (arith, i.at) in
        let pushed = hop z (Push (Register R4)) 3 t t1 [] 3 (λ q. q ≡ t1) (ap z.code.at i.at ∙ h.0) (
          tt,
          record {
            even = omega (arith, sp);
            room = record { fits = omega (arith, sp) };
            high = omega (arith, sp);
            below = stays saved
                (omega (arith, sp)) (omega (arith, sp));
          },
        )
        refl (omega arith) refl in
        let hopped = hop z (Call entry) 5 t1 t2 [] 5 (λ q. q ≡ t2) (ap z.code.at at1 ∙ h.1.0) (
          even,
          record {
            even = omega (arith, sp);
            room = record { fits = omega (arith, sp) };
            high = omega (arith, sp);
            below = stays top
                (omega (arith, sp)) (omega (arith, sp));
          },
        )
        refl (omega arith) refl in
        let reached = call_ends z (Some f) first count body x top t2 e last cost 2 (pc + 8) w b.effects b.end (runs top t2 e starts) (λ v v' q r.
        let there : q.sp ≡ saved = omega (arith, r.sp, sp) in
        let held : q.ram q.sp ≡ Some (t.work 4) =
        ap q.ram there ∙ r.keeps.ram_words saved (omega (arith, sp)) (λ l. omega (arith, l, sp)) ∙ kept in
        let word : ram_word q q.sp ≡ behind = ap (λ o. unwrap_or o 0) held ∙ four in
        let from : q.pc ≡ pc + 2 + 4 = r.pc ∙ ap (λ o. unwrap_or o 0) back ∙ omega (arith, at1) in
        let q' : Core = record q { pc = q.pc + 2; sp = ram_word q q.sp } in
        hop z RestoreStack 2 q q' [] 2 (Describes z (waiting.R4 ∷ []) (pc + 8) (record v' { stack = v ∷ w.stack; locals = w.locals }))
        (ap z.code.at from ∙ h.1.1.0) (
          record { even = omega (arith, there, sp); low = omega (arith, there, sp); high = omega (arith, there, sp) },
          ap is_some held,
          (omega (arith, word, there, sp, low_behind), omega (arith, word)),
          ap (λ n. n % 2) word ∙ even_behind,
          subst (IsKept (rules_of z.kept)) (sym word) (omega (arith, low_behind, floor), omega (arith, depth, within)),
        ) refl (omega arith)
        (record {
          rest = w.stack;
          is = record {
            at = omega (arith, from);
            memory = subst (λ n. Memory z n q.ram (local_words q.work) w.stack w.locals) (sym word)
                (resumes z (Some f) first count body x top t2 e behind v v' w (local_words u.work) u.ram w.stack q (omega (arith, sp, low_behind)) low_behind
                (s.memory, λ a l. apart a (omega (arith, l, low_behind)) ∙ c.ram a (omega (arith, l, i.from)) (omega (arith, l, low_behind))) c.registers r);
            fram = r.fram;
            inputs = r.inputs;
          };
          stack = ap (λ y. y ∷ w.stack) (sym r.result);
          there = (tt, tt);
          fits = omega (arith, fit.0);
        })) in
        reach_more z 3 after (3 + (5 + (cost + (2 + 3)))) (13 + cost) t all.effects all.end (omega arith)
        (then_reach z 3 after 3 (5 + (cost + (2 + 3))) t (λ q. q ≡ t1) [] all.effects all.end pushed (λ q same.
        subst (λ y. Reaches z 3 after (5 + (cost + (2 + 3))) y all.effects all.end) (sym same)
        (then_reach z 3 after 5 (cost + (2 + 3)) t1 (λ q. q ≡ t2) [] all.effects all.end hopped (λ q same.
        subst (λ y. Reaches z 3 after (cost + (2 + 3)) y all.effects all.end) (sym same) reached))))

    -- a handler has room there
    frame_inside : IsInStack f
    frame_inside = let room = frame_room in let below : f ≤ z.low = x.fits.1 in let deep = z.deep in let high = z.high in
        record { low = omega arith; high = omega (arith, below) }

    -- the values being pushed
    framed_front : (entry last cost pc : ℕ) (words vs : List ℕ) (w : WordState) (b : Behaviour) (u : Core) → entry % 2 ≡ 0 → length vs < z.room
        → length words ≡ count → w.stack ≡ words ++ vs → FramedRuns entry last cost words w b
        → (let ms = KeepStack R4 ∷ SetStack f ∷ (frame_code first (length words) ++ Push (Register R4) ∷ Call entry ∷ RestoreStack ∷ []) in
        Stands z.code pc ms → StandsFor z pc w u
        → (let all = called_behind (with_stack vs w) b in
        Reaches z 3 (Describes z (waiting.R4 ∷ []) (pc + forms_bytes ms)) (16 + 5 * length words + cost) u all.effects all.end))
    framed_front entry last cost pc words vs w b u even room few stack runs h i =
        let n = length words in
        let left = with_stack vs w in
        let moves = frame_code first n in
        let last_forms = Push (Register R4) ∷ Call entry ∷ RestoreStack ∷ [] in
        let ms = KeepStack R4 ∷ SetStack f ∷ (moves ++ last_forms) in
        let behind = u.sp + 2 * n in
        let mid = pc + 6 in
        let at : pc + 2 + 4 ≡ mid = omega arith in
        let rest = subst (λ p. Stands z.code p (moves ++ last_forms)) at h.1.1 in
        let call_at = mid + forms_bytes moves in
        let end : call_at + 8 ≡ pc + forms_bytes ms = omega (arith, forms_bytes-append moves last_forms) in
        let all = called_behind left b in
        let after : WordState → Core → Type 0 = Describes z (waiting.R4 ∷ []) (call_at + 8) in
        let most = 3 + (5 * n + (13 + cost)) in
        let suspended : Suspended behind left u = record {
          memory = drop_memory z u.sp words (subst (λ l. Memory z u.sp u.ram (local_words u.work) l w.locals) stack i.memory);
          fram = i.fram;
          inputs = i.inputs;
        } in
        let room_low = frame_room in
        let low : 0x1C00 ≤ f = omega arith in
        let above = stays_above z i.memory in let below : f ≤ z.low = x.fits.1 in
        let down : f ≤ u.sp = omega (arith, above, below) in
        subst (λ p. Reaches z 3 (Describes z (waiting.R4 ∷ []) p) (16 + 5 * n + cost) u all.effects all.end) end
        (reach_more z 3 after most (16 + 5 * n + cost) u all.effects all.end (omega arith)
        (then_reach z 3 after 3 (5 * n + (13 + cost)) u (Filling u behind f mid words) [] all.effects all.end
        (frame_part f words vs pc w u x.fits.0 (frame_stays f (omega arith) (omega arith)) frame_inside down stack (h.0, (h.1.0, tt)) i) (λ t k.
        then_reach z 3 after (5 * n) (13 + cost) t (Filled x.own x.end f u behind call_at first words t) [] all.effects all.end
        (fill_part x.own x.end f x.registers x.fits.1 low u behind mid first words t (λ j l. x.parameters j (omega (arith, l, few)))
        (stands_front z.code mid moves last_forms rest) k) (λ q j.
        framed_hops entry last cost call_at behind words left b u t q even (room, few) runs (stands_back z.code mid moves last_forms rest) suspended j))))

    pub framed_reaches : (entry last cost pc : ℕ) (os : List Waiting) (w : WordState) (b : Behaviour) (u : Core) (p : Popped count w.stack) → entry % 2 ≡ 0
        → length p.rest < z.room → FramedRuns entry last cost p.words w b → Stands z.code pc (framed_call entry f first count os) → Describes z os pc w u
        → Does z (waiting.R4 ∷ []) (pc + forms_bytes (framed_call entry f first count os)) (16 + 5 * count + cost + owed os) u
        (called_behind (with_stack p.rest w) b)
    framed_reaches entry last cost pc os w b u p even room runs h d =
        let words = p.words in
        let n = length words in
        let ms = KeepStack R4 ∷ SetStack f ∷ (frame_code first n ++ Push (Register R4) ∷ Call entry ∷ RestoreStack ∷ []) in
        let mid = pc + forms_bytes (flushed os) in
        let all = called_behind (with_stack p.rest w) b in
        let stands = subst (λ c. Stands z.code pc (framed_call entry f first c os)) (sym p.count) h in
        subst (λ c. Does z (waiting.R4 ∷ []) (pc + forms_bytes (framed_call entry f first c os)) (16 + 5 * c + cost + owed os) u all) p.count
        (does_behind z (flushed os) ms (waiting.R4 ∷ []) (16 + 5 * n + cost) (16 + 5 * n + cost + owed os) pc u all (omega arith) stands
        (flush_part z os pc w u d) (λ t s i. framed_front entry last cost mid words p.rest w b t even room p.count p.is runs s i))
