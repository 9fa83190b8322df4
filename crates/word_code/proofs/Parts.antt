-- The steps that are straight code: words of FRAM, locals, jumps.
use Rattle.word_code.proofs.Names.{◌≡◌, ℕ, ◌+◌, ◌-◌, ◌%◌, ◌<◌, Bool, true, false, nat_lt, List, [], ◌∷◌, length, Option, Some, refl, sym, ap, ap₂, ◌∙◌, ◌++◌}
use Rattle.word_code.proofs.Names.{source_value, ◌==◌, subst, arith, put_other, ◌≤◌, eq-eqb, if◌then◌else◌, cycles_of, source_cycles, to_register}
use Rattle.word_code.proofs.Names.{to_memory, Store, put}
use Rattle.word_code.proofs.Names.{Goes, At, stretch, IsPlace, Konst, constant_value, work_number, Core, Source, source_operand, source_bytes, source_read}
use Rattle.word_code.proofs.Names.{Constant, Fram, Ram, ToRegister, ToFram, ToRam, Move, Push, Branch, instruction_of, Stands, forms_bytes, forms_run, Runs}
use Rattle.word_code.proofs.Names.{stands_at, end_of, WordState, behaves, goes_on, Jumps, broken, with_stack, pushed, stored, with_local, is_place, word_stored}
use Rattle.word_code.proofs.Names.{ram_word, unwrap_or, jumped, Waiting, HasJumped, local_register, local_address, local_target, number_source, source_from, number_code}
use Rattle.word_code.proofs.Stretches.{Setting, straight, hop}
use Rattle.word_code.proofs.Memory.{local_words, Owns, ram_is, Memory, push_needs, local_needs, local_read, push_memory, set_register, set_ram, place_is}
use Rattle.word_code.proofs.Follows.{StandsFor, Follows, guarded}
use Rattle.word_code.specs.declared.waiting.Waiting.TheVariants as waiting
use Rattle.word_code.specs.Code.{any_at}
use Rattle.std.proofs.lemmas.Bool.{or_parts}
use Rattle.word_code.proofs.Operands.{number_price, Describes, Top, bare, number_top, load_price, load_less, store_cycles, store_price, waiting_word}
use Rattle.word_code.proofs.Operands.{waiting_words}

module _ (z : Setting) where
  pub constant_part : (k : Konst) (pc : ℕ) (w : WordState) (u : Core) → length w.stack < z.room → Stands z.code pc (Push (Constant k) ∷ [])
      → StandsFor z pc w u → Follows z (pc + 2) 3 u (goes_on [] (pushed (constant_value k) w))
  constant_part k pc w u s h i =
      let ms = Push (Constant k) ∷ [] in
      straight z ms 3 u (end_of u (forms_run ms u).status) [] 3 _ (tt, tt) (stands_at z.code pc ms u h i.at)
      ((tt, push_needs z i.memory s), tt) refl (omega arith)
      (record {
        at = omega (arith, i.at);
        memory = push_memory z (constant_value k) i.memory s;
        fram = i.fram;
        inputs = i.inputs;
      })

  -- a local that stands in RAM
  pub local_part : (n v pc : ℕ) (w : WordState) (u : Core) → nat_lt n 8 ≡ false → length w.stack < z.room → Owns z n → w.locals n ≡ Some v
      → Stands z.code pc (Push (Ram (local_address n)) ∷ []) → StandsFor z pc w u → Follows z (pc + 4) 5 u (goes_on [] (pushed v w))
  local_part n v pc w u e s f q h i =
      let ms = Push (Ram (local_address n)) ∷ [] in
      let there = ram_is (local_words u.work) u.ram n v e (i.memory.vars n v f q) in
      let same : ram_word u (local_address n) ≡ v = ap (λ o. unwrap_or o 0) there in
      straight z ms 5 u (end_of u (forms_run ms u).status) [] 5 _ (tt, tt) (stands_at z.code pc ms u h i.at)
      ((local_read z n v i.memory e f q, push_needs z i.memory s), tt) refl (omega arith)
      (record {
        at = omega (arith, i.at);
        memory =
            subst (λ g. Memory z (u.sp - 2) (put u.ram (u.sp - 2) (Some g)) (local_words u.work) (v ∷ w.stack) w.locals) (sym same) (push_memory z v i.memory s);
        fram = i.fram;
        inputs = i.inputs;
      })

  -- a word that a source gives is stored
  keep_from : (s : Source) (most a pc v : ℕ) (vs : List ℕ) (w : WordState) (u : Core) → source_cycles to_memory (source_operand s) ≤ most
      → (let ms = Move s (ToFram a) ∷ [] in Stands z.code pc ms → Top z s [] pc w v vs u
      → Follows z (pc + forms_bytes ms) most u (word_stored a v (with_stack vs w)))
  keep_from s most a pc v vs w u l h k =
      let m = Move s (ToFram a) in
      let end = pc + forms_bytes (m ∷ []) in
      let t = source_read s u in
      let i = bare z pc (with_stack vs w) t k.left in
      let to : u.pc + (2 + source_bytes s + 2) ≡ end = omega (arith, k.at) in
      let price = cycles_of (instruction_of m) in
      let after : ℕ → Core = λ y. record t { pc = u.pc + (2 + source_bytes s + 2); fram = put t.fram a y } in
      guarded z (is_place a) end most u (goes_on (Store a v ∷ []) (stored a v (with_stack vs w))) (λ g.
      hop z m most u (after v) (Store a v ∷ []) price _ (ap z.code.at k.at ∙ h.0) (k.needs, place_is a g)
      (ap (λ es. let y = source_value s u in Goes (es ++ Store a y ∷ []) price (after y)) k.quiet
      ∙ ap (λ y. Goes (Store a y ∷ []) price (after y)) k.value) l
      (record { at = to; memory = i.memory; fram = ap (λ f. put f a v) i.fram; inputs = i.inputs }))

  pub keep_part : (x : Option Waiting) (a pc v : ℕ) (vs : List ℕ) (w : WordState) (u : Core)
      → (let ms = Move (source_from x) (ToFram a) ∷ [] in Stands z.code pc ms → Top z (source_from x) [] pc w v vs u
      → Follows z (pc + forms_bytes ms) (store_cycles x) u (word_stored a v (with_stack vs w)))
  keep_part x a pc v vs w u h k = keep_from (source_from x) (store_cycles x) a pc v vs w u (store_price x) h k

  -- words that wait are what they were, where none of them is the word that is stored
  words_beside : (f : ℕ → ℕ) (l : ℕ → Option ℕ) (g : ℕ → ℕ) (a v : ℕ) (os : List Waiting) → any_at a os ≡ false
      → waiting_words (put f a v) l g os ≡ waiting_words f l g os
  words_beside f l g a v [] e = refl
  words_beside f l g a v (waiting.Fram b ∷ os) e =
      let parts = or_parts (a == b) (any_at a os) e in
      let other : b ≡ a → ⊥ = λ same. let is = eq-eqb a b (sym same) in let no = parts.0 in absurd (cc) in
      ap₂ (λ x xs. x ∷ xs) (put_other f a v b other) (words_beside f l g a v os parts.1)
  words_beside f l g a v (o ∷ os) e = ap (λ xs. waiting_word f l g o ∷ xs) (words_beside f l g a v os e)

  -- so they go on waiting
  pub keep_beside : (x : Option Waiting) (a pc v : ℕ) (os : List Waiting) (vs : List ℕ) (w : WordState) (u : Core) → any_at a os ≡ false → is_place a ≡ true
      → (let ms = Move (source_from x) (ToFram a) ∷ [] in Stands z.code pc ms → Top z (source_from x) os pc w v vs u
      → Runs z.kept (Store a v ∷ []) (store_cycles x) u (Describes z os (pc + forms_bytes ms) (stored a v (with_stack vs w))))
  keep_beside x a pc v os vs w u f g h k =
      let s = source_from x in
      let m = Move s (ToFram a) in
      let t = source_read s u in
      let d = k.left in
      let to : u.pc + (2 + source_bytes s + 2) ≡ pc + forms_bytes (m ∷ []) = omega (arith, k.at) in
      let price = cycles_of (instruction_of m) in
      let after : ℕ → Core = λ y. record t { pc = u.pc + (2 + source_bytes s + 2); fram = put t.fram a y } in
      hop z m (store_cycles x) u (after v) (Store a v ∷ []) price _ (ap z.code.at k.at ∙ h.0) (k.needs, place_is a g)
      (ap (λ es. let y = source_value s u in Goes (es ++ Store a y ∷ []) price (after y)) k.quiet
      ∙ ap (λ y. Goes (Store a y ∷ []) price (after y)) k.value) (store_price x)
      (record {
        rest = d.rest;
        is = record { at = to; memory = d.is.memory; fram = ap (λ f. put f a v) d.is.fram; inputs = d.is.inputs };
        stack = d.stack ∙ ap (λ xs. xs ++ d.rest) (sym (words_beside w.fram w.locals t.work a v os f));
        there = d.there;
        fits = d.fits;
      })

  -- a number is
  pub store_part : (a v pc : ℕ) (w : WordState) (u : Core)
      → (let ms = Move (number_source v) (ToFram a) ∷ [] in Stands z.code pc ms → StandsFor z pc w u → Follows z (pc + forms_bytes ms) 5 u (word_stored a v w))
  store_part a v pc w u h i =
      keep_from (number_source v) 5 a pc v w.stack w u (number_price to_memory v 5 (omega arith) (omega arith)) h (number_top z v pc w u i)

  -- a local becomes a word that a source gives, by where it stands
  set_by : (b : Bool) (s : Source) (most n v pc : ℕ) (vs : List ℕ) (w : WordState) (u : Core) → nat_lt n 8 ≡ b → Owns z n
      → (source_cycles to_register (source_operand s) ≤ most) × (source_cycles to_memory (source_operand s) ≤ most)
      → (let ms = Move s (if b then ToRegister (local_register n) else ToRam (local_address n)) ∷ [] in Stands z.code pc ms → Top z s [] pc w v vs u
      → Runs z.kept [] most u (StandsFor z (pc + forms_bytes ms) (with_local n v (with_stack vs w))))
  set_by true s most n v pc vs w u e lt price_is h k =
      let m = Move s (ToRegister (local_register n)) in
      let t = source_read s u in
      let i = bare z pc (with_stack vs w) t k.left in
      let r = work_number (local_register n) in
      let price = cycles_of (instruction_of m) in
      let to : u.pc + (2 + source_bytes s + 0) ≡ pc + forms_bytes (m ∷ []) = omega (arith, k.at) in
      let after : ℕ → Core = λ y. record t { pc = u.pc + (2 + source_bytes s + 0); work = put t.work r y } in
      hop z m most u (after v) [] price _ (ap z.code.at k.at ∙ h.0) (k.needs, tt)
      (ap (λ es. Goes es price (after (source_value s u))) k.quiet ∙ ap (λ y. Goes [] price (after y)) k.value) price_is.0
      (record { at = to; memory = set_register z t.sp n v t.ram t.work vs w.locals e lt i.memory; fram = i.fram; inputs = i.inputs })
  set_by false s most n v pc vs w u e lt price_is h k =
      let m = Move s (ToRam (local_address n)) in
      let t = source_read s u in
      let i = bare z pc (with_stack vs w) t k.left in
      let price = cycles_of (instruction_of m) in
      let to : u.pc + (2 + source_bytes s + 2) ≡ pc + forms_bytes (m ∷ []) = omega (arith, k.at) in
      let after : ℕ → Core = λ y. record t { pc = u.pc + (2 + source_bytes s + 2); ram = put t.ram (local_address n) (Some y) } in
      hop z m most u (after v) [] price _ (ap z.code.at k.at ∙ h.0) (k.needs, local_needs z n e lt)
      (ap (λ es. Goes es price (after (source_value s u))) k.quiet ∙ ap (λ y. Goes [] price (after y)) k.value) price_is.1
      (record { at = to; memory = set_ram z t.sp n v t.ram (local_words t.work) vs w.locals e lt i.memory; fram = i.fram; inputs = i.inputs })

  pub set_part : (x : Option Waiting) (n v pc : ℕ) (vs : List ℕ) (w : WordState) (u : Core) → Owns z n
      → (let ms = Move (source_from x) (local_target n) ∷ [] in Stands z.code pc ms → Top z (source_from x) [] pc w v vs u
      → Runs z.kept [] (store_cycles x) u (StandsFor z (pc + forms_bytes ms) (with_local n v (with_stack vs w))))
  set_part x n v pc vs w u lt h k =
      set_by (nat_lt n 8) (source_from x) (store_cycles x) n v pc vs w u refl lt (omega (arith, load_price x, load_less x), store_price x) h k

  -- a local's first number
  pub local_number : (n k pc : ℕ) (w : WordState) (u : Core) → Owns z n → Stands z.code pc (number_code n k) → StandsFor z pc w u
      → Runs z.kept [] 5 u (StandsFor z (pc + forms_bytes (number_code n k)) (with_local n k w))
  local_number n k pc w u lt h i =
      set_by (nat_lt n 8) (number_source k) 5 n k pc w.stack w u refl lt
      (number_price to_register k 5 (omega arith) (omega arith), number_price to_memory k 5 (omega arith) (omega arith)) h (number_top z k pc w u i)

  pub move_part : (from to pc : ℕ) (w : WordState) (u : Core) → IsPlace from → Stands z.code pc (Move (Fram from) (ToFram to) ∷ []) → StandsFor z pc w u
      → Follows z (pc + 6) 6 u (word_stored to (w.fram from) w)
  move_part from to pc w u f h i =
      let ms = Move (Fram from) (ToFram to) ∷ [] in
      let t : ℕ → Core = λ x. record u { pc = u.pc + (2 + 2 + 2); fram = put u.fram to x } in
      guarded z (is_place to) (pc + 6) 6 u (goes_on (Store to (w.fram from) ∷ []) (stored to (w.fram from) w)) (λ g.
      straight z ms 6 u (t (w.fram from)) (Store to (w.fram from) ∷ []) 6 _ (tt, tt) (stands_at z.code pc ms u h i.at) ((f, place_is to g), tt)
      (ap (λ x. stretch (Store to x ∷ []) 6 (At (t x))) (ap (λ g. g from) i.fram)) (omega arith)
      (record { at = omega (arith, i.at); memory = i.memory; fram = ap (λ g. put g to (w.fram from)) i.fram; inputs = i.inputs }))

  pub jump_part : (to pc : ℕ) (w : WordState) (u : Core) → to % 2 ≡ 0 → Stands z.code pc (Branch to ∷ []) → StandsFor z pc w u
      → Follows z (pc + 4) 3 u (jumped to w)
  jump_part to pc w u ev h i =
      subst (λ b. Follows z (pc + 4) 3 u (if b then behaves [] (Jumps to w) else broken)) (sym (eq-eqb (to % 2) 0 ev))
      (hop z (Branch to) 3 u (record u { pc = to }) [] 3 (HasJumped to w) (ap z.code.at i.at ∙ h.0) ev refl (omega arith)
      (record { pc = refl; fram = i.fram; inputs = i.inputs }))
