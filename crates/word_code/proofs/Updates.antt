-- Operations in place: on a word of FRAM, and on a local.
use Rattle.word_code.proofs.Names.{◌≡◌, ℕ, ◌+◌, ◌<◌, Bool, true, false, nat_lt, if◌then◌else◌, List, [], ◌∷◌, ◌++◌, Option, Some, refl, sym, ap, ap₂, ◌∙◌}
use Rattle.word_code.proofs.Names.{subst, unwrap_or}
use Rattle.word_code.proofs.Names.{arith, Word, operated, cycles_of, Store, put, Goes, R4, R5, Core, Register, Ram, source_bytes, source_value, source_read}
use Rattle.word_code.proofs.Names.{ToRegister, ToRam, Move, Calculate, Update, Form, flags_after, instruction_of, form_bytes, Stands, forms_bytes, forms_run}
use Rattle.word_code.proofs.Names.{Runs, stands_at, end_of, PlainOperation, plain_word, WordState, goes_on, with_stack, stored, assigned, with_local, is_place}
use Rattle.word_code.proofs.Names.{Source, word_stored, Waiting, plain_instruction, local_register, local_address, source_from, ram_update, update_code}
use Rattle.word_code.proofs.Registers.{Has, HasTwo}
use Rattle.word_code.proofs.Operands.{Top, bare, load_cycles, load_price, store_cycles, store_price, to_five_part}
use Rattle.word_code.proofs.Stretches.{Setting, straight, hop, runs_on, dearer}
use Rattle.word_code.proofs.Memory.{local_words, Owns, register_is, ram_is, Memory, local_needs, local_read, set_register, set_ram, place_is}
use Rattle.word_code.proofs.Follows.{StandsFor, Follows, guarded}
use Rattle.word_code.proofs.Middles.{makes, plain_middle, plain_step, plain_needs}

module _ (z : Setting) where
  -- what the instruction makes of the word and of the top is stored
  pub update_part : (o : PlainOperation) (x : Option Waiting) (a pc v : ℕ) (vs : List ℕ) (w : WordState) (u : Core) → w.fram a < 0x10000 → v < 0x10000
      → (let ms = Update (plain_instruction o) (source_from x) a ∷ [] in Stands z.code pc ms → Top z (source_from x) [] pc w v vs u
      → Follows z (pc + forms_bytes ms) (store_cycles x) u (word_stored a (plain_word o (w.fram a) v) (with_stack vs w)))
  update_part o x a pc v vs w u f l h k =
      let s = source_from x in
      let m = Update (plain_instruction o) s a in
      let end = pc + forms_bytes (m ∷ []) in
      let y = plain_word o (w.fram a) v in
      let t = source_read s u in
      let i = bare z pc (with_stack vs w) t k.left in
      let made = operated (plain_instruction o) Word (u.fram a) (source_value s u) u.flags in
      let is : made.value ≡ y = ap₂ (λ p q. (operated (plain_instruction o) Word p q u.flags).value) (ap (λ (g : ℕ → ℕ). g a) k.fram) k.value
      ∙ makes o (w.fram a) v u.flags f l in
      let to : u.pc + (2 + source_bytes s + 2) ≡ end = omega (arith, k.at) in
      let after : ℕ → Core = λ q. record t { pc = u.pc + (2 + source_bytes s + 2); flags = flags_after made.flags u.flags; fram = put u.fram a q } in
      let needs = plain_needs o in
      let price = cycles_of (instruction_of m) in
      guarded z (is_place a) end (store_cycles x) u (goes_on (Store a y ∷ []) (stored a y (with_stack vs w))) (λ g.
      hop z m (store_cycles x) u (after y) (Store a y ∷ []) price _ (ap z.code.at k.at ∙ h.0)
      (needs.0, needs.1, k.needs, place_is a g)
      (ap (λ es. Goes (es ++ Store a made.value ∷ []) price (after made.value)) k.quiet ∙ ap (λ q. Goes (Store a q ∷ []) price (after q)) is) (store_price x)
      (record { at = to; memory = i.memory; fram = ap (λ q. put q a y) k.fram; inputs = i.inputs }))

  -- R4 to a local in RAM
  set_from : (n v pc : ℕ) (w : WordState) (t : Core) → nat_lt n 8 ≡ false → Owns z n
      → z.code.at pc ≡ Some (instruction_of (Move (Register R4) (ToRam (local_address n))))
      → Has z R4 pc w v t → Runs z.kept [] 4 t (StandsFor z (pc + 4) (with_local n v w))
  set_from n v pc w t b lt h k =
      let ms = Move (Register R4) (ToRam (local_address n)) ∷ [] in
      let i = k.is in
      straight z ms 4 t (end_of t (forms_run ms t).status) [] 4 _ (tt, tt) (stands_at z.code pc ms t (h, tt) i.at)
      ((tt, local_needs z n b lt), tt) refl (omega arith)
      (record {
        at = omega (arith, i.at);
        memory =
            subst (λ y. Memory z t.sp (put t.ram (local_address n) (Some y)) (local_words t.work) w.stack (assigned w.locals n v)) (sym k.held)
            (set_ram z t.sp n v t.ram (local_words t.work) w.stack w.locals b lt i.memory);
        fram = i.fram;
        inputs = i.inputs;
      })

  -- a local and the top
  module _ (o : PlainOperation) (x : Option Waiting) (n y v pc : ℕ) (vs : List ℕ) (w : WordState) (u : Core) (lt : Owns z n)
      (q : w.locals n ≡ Some y) (l : y < 0x10000) (r : v < 0x10000) where
    abbrev made : ℕ
    made = plain_word o y v

    abbrev popped : WordState
    popped = with_stack vs w

    abbrev source : Source
    source = source_from x

    -- a local in a register
    update_register : nat_lt n 8 ≡ true
        → (let ms = Calculate (plain_instruction o) source (local_register n) ∷ [] in Stands z.code pc ms → Top z source [] pc w v vs u
        → Runs z.kept [] (8 + load_cycles x) u (StandsFor z (pc + forms_bytes ms) (with_local n made popped)))
    update_register b h k =
        let t = source_read source u in
        let i = bare z pc popped t k.left in
        let word = register_is t.work t.ram n y b (i.memory.vars n y lt q) in
        plain_step z o source (local_register n) (8 + load_cycles x) t _ l r (omega (arith, load_price x)) (ap z.code.at k.at ∙ h.0)
        (record { needs = k.needs; quiet = k.quiet; still = refl; left = word; right = k.value }) (λ f. record {
          at = omega (arith, k.at);
          memory = set_register z t.sp n made t.ram t.work vs w.locals b lt i.memory;
          fram = i.fram;
          inputs = i.inputs;
        })

    -- the top to R5, and a local in RAM to R4
    take_two : nat_lt n 8 ≡ false → Stands z.code pc (Move source (ToRegister R5) ∷ Move (Ram (local_address n)) (ToRegister R4) ∷ [])
        → Top z source [] pc w v vs u
        → Runs z.kept [] (load_cycles x + 3) u (HasTwo z (pc + form_bytes (Move source (ToRegister R5)) + 4) popped y v)
    take_two b h k =
        let ms = Move (Ram (local_address n)) (ToRegister R4) ∷ [] in
        let mid = pc + form_bytes (Move source (ToRegister R5)) in
        runs_on z (to_five_part z x pc w v vs u (h.0, tt) k) (λ t j.
        let i = j.is in
        straight z ms 3 t (end_of t (forms_run ms t).status) [] 3 _ (tt, tt)
        (stands_at z.code mid ms t h.1 i.at) ((local_read z n y i.memory b lt q, tt), tt) refl (omega arith)
        (record {
          is = record { at = omega (arith, i.at); memory = i.memory; fram = i.fram; inputs = i.inputs };
          held = record { four = ap (λ o. unwrap_or o 0) (ram_is (local_words t.work) t.ram n y b (i.memory.vars n y lt q)); five = j.held };
        }))

    -- by where the local stands
    update_by : (b : Bool) → nat_lt n 8 ≡ b
        → (let ms : List Form = if b then Calculate (plain_instruction o) source (local_register n) ∷ [] else (ram_update o n source) in
        Stands z.code pc ms → Top z source [] pc w v vs u
        → Runs z.kept [] (8 + load_cycles x) u (StandsFor z (pc + forms_bytes ms) (with_local n made popped)))
    update_by true b h top = update_register b h top
    update_by false b h top =
        let mid = pc + form_bytes (Move source (ToRegister R5)) + 4 in
        let end : mid + 2 + 4 ≡ pc + forms_bytes (ram_update o n source) = omega arith in
        let last = h.1.1 in
        subst (λ p. Runs z.kept [] (8 + load_cycles x) u (StandsFor z p (with_local n made popped))) end
        (dearer z (omega arith) (runs_on z (take_two b (h.0, (h.1.0, tt)) top)
        (λ t j. runs_on z (plain_middle z o mid y v popped t l r (last.0, tt) j) (λ s k. set_from n made (mid + 2) popped s b lt last.1.0 k))))

    -- what the instruction makes of a local and of the top is assigned
    pub update_local_part : (let ms = update_code o n source in Stands z.code pc ms → Top z source [] pc w v vs u
        → Runs z.kept [] (8 + load_cycles x) u (StandsFor z (pc + forms_bytes ms) (with_local n made popped)))
    update_local_part h top = update_by (nat_lt n 8) refl h top
