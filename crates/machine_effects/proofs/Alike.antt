-- The board's bus and the machine's answer alike, but for what the machine refuses.
use Rattle.std.proofs.Common.{ltb-true, nat_le}
use Rattle.std.proofs.Common.{◌≡◌, ◌==◌, ◌&&◌, if◌then◌else◌, cond, nat_lt, ◌≤◌, ◌<◌, ◌+◌, ◌-◌, ◌/◌, ◌%◌, arith, ℕ, zero, suc, refl, sym, ◌∙◌, ap, ap₂, subst}
use Rattle.std.proofs.Common.{Bool, true, false, List, [], ◌∷◌, ◌++◌, length, drop, slice_index, slice_set, get_or-set_same, get_or-set_other, length-set}
use Rattle.std.proofs.Common.{inl, inr, eqb-true, eq-eqb, Option, Some, None, Result, Ok, Err}
use mathlib.Core.Path.{fun_ext}
use Rattle.std.specs.Prelude.{is_some, unwrap_or}
use Rattle.std.proofs.lemmas.Bool.Decides.{nat_tests}
use Rattle.std.proofs.lemmas.Bool.{and_parts}
use Rattle.fram_board.specs.alp_words.declared.Width.{Width}
use Rattle.fram_board.specs.alp_words.declared.Width.TheVariants.{Word, Byte}
use Rattle.fram_board.specs.msp_step.declared.bus.Refused.{Refused}
use Rattle.fram_board.specs.msp_step.declared.bus.Refused.TheVariants as refused
use Rattle.fram_board.specs.image_text.ImageValue.{place_of}
use Rattle.fram_board.specs.Bus.{BusState, IsBusState, board_bus, is_ram, is_fram, is_memory, is_word, ram_place, memory_word, with_word, byte_of, with_byte}
use Rattle.event_places.specs.Places.{handler_place, is_ring}
use Rattle.fram_board.specs.Bus.{next_reading, read_of, after_read, written, port_written, data_written, answer_written, sensor_port, number_port, data_port}
use Rattle.fram_board.specs.Bus.{event_port}
use Rattle.fram_board.specs.declared.radio.Radio.{Radio}
use Rattle.fram_board.specs.declared.radio.Radio.TheVariants.{Alone, Sends, Listens}
use Rattle.fram_board.specs.Events.{EventLine, is_full, port_word, port_read}
use Rattle.fram_board.specs.Radio.{is_sender, radio_word}
use Rattle.fram_board.specs.Effects.{Effect, Store, Outside, Offered}
use Rattle.step_laws.specs.Alike.{ReadAlike, AnswerAlikeUnless, WrittenAlike}
use Rattle.fram_board.proofs.Interface.{other_is_fram, fram_low}
use Rattle.machine_effects.proofs.Worlds.{put_other}
use Rattle.machine_effects.specs.World.{put}
use Rattle.machine_effects.specs.Inputs.{Inputs, Look}
use Rattle.machine_effects.specs.Machine.{MachineBus, machine_bus, machine_word, word_in, word_address, fram_of, ram_of, first_reading, machine_read}
use Rattle.machine_effects.specs.Machine.{known, is_readable, ring_read, word_read, word_written}
use Rattle.machine_effects.specs.Machine.{reading_taken, machine_after_read, machine_stored, machine_port_written, machine_written}

-- what is ready on the board's bus, with these looks
abbrev ready_on : List Look → BusState → Inputs
ready_on looks s = record { readings = drop s.taken s.readings; looks = looks }

-- an access that the machine refuses
abbrev pub IsRefused : Refused → ℕ → Type 0
IsRefused e a = e ≡ refused.Bus

-- what the machine sees of the ring is what stands there
abbrev pub SeesFram : Option Look → List ℕ → Type 0
SeesFram None words = Unit {0}
SeesFram (Some look) words = (a : ℕ) → is_ring a ≡ true → look a ≡ fram_of words a

-- the same memory, ports and inputs, with these readings in all and these looks, and the port EVENT as it was at first; the words of the
-- board go to its own receiver
pub record SameBus (readings : List ℕ) (looks : List Look) (begun : EventLine) (s : BusState) (t : MachineBus) : Type 0 where
  pub whole : IsBusState s
  pub fram : t.fram ≡ fram_of s.fram
  pub ram : t.ram ≡ known (ram_of s.ram)
  pub left : t.inputs ≡ ready_on looks s
  pub outnum : t.outnum ≡ s.outnum
  pub all : s.readings ≡ readings
  pub line : s.line ≡ begun
  pub seen : SeesFram t.ring s.fram
  pub own : is_sender s.radio ≡ false

-- memory by addresses, from the list of its words; a word written to the list is one written to the function
abbrev view : (ℕ → Bool) → ℕ → List ℕ → ℕ → ℕ
view inside low xs x = if (x % 2 == 0) && inside x then slice_index xs ((x - low) / 2) else 0

module _ (inside : ℕ → Bool) (low : ℕ) (range : (x : ℕ) → ((x % 2 == 0) && inside x) ≡ true → (x % 2 ≡ 0) × (low ≤ x)) (xs : List ℕ) (y v : ℕ)
    (there : ((y % 2 == 0) && inside y) ≡ true) (within : (y - low) / 2 < length xs) where
  at_place : view inside low (slice_set xs ((y - low) / 2) v) y ≡ v
  at_place = ap (λ b. cond b (slice_index (slice_set xs ((y - low) / 2) v) ((y - low) / 2)) 0) there ∙ get_or-set_same xs ((y - low) / 2) v 0 within

  elsewhere : (x : ℕ) → (x ≡ y → ⊥) → (b : Bool) → ((x % 2 == 0) && inside x) ≡ b
      → cond b (slice_index xs ((x - low) / 2)) 0 ≡ cond b (slice_index (slice_set xs ((y - low) / 2) v) ((x - low) / 2)) 0
  elsewhere x ne true e =
      let r = range x e in
      let q = range y there in
      let r0 = r.0 in let r1 = r.1 in let q0 = q.0 in let q1 = q.1 in
      let apart : (x - low) / 2 ≡ (y - low) / 2 → ⊥ = λ k. ne (omega arith) in
      sym (get_or-set_other xs ((y - low) / 2) ((x - low) / 2) v 0 apart)
  elsewhere x ne false e = refl

  put_at : (x : ℕ) → (b : Bool) → (x == y) ≡ b → cond b v (view inside low xs x) ≡ view inside low (slice_set xs ((y - low) / 2) v) x
  put_at x true e = let same : x ≡ y = eqb-true x y e in sym (ap (λ z. view inside low (slice_set xs ((y - low) / 2) v) z) same ∙ at_place)
  put_at x false e = let ne : x ≡ y → ⊥ = λ q. cc (e, eq-eqb x y q) in elsewhere x ne ((x % 2 == 0) && inside x) refl

  put_view : put (view inside low xs) y v ≡ view inside low (slice_set xs ((y - low) / 2) v)
  put_view = fun_ext (λ x. put_at x (x == y) refl)

in_fram : (x : ℕ) → ((x % 2 == 0) && is_fram x) ≡ true → (x % 2 ≡ 0) × (0x4400 ≤ x)
in_fram x h = (grind (arith, nat_tests), grind (arith, nat_tests))

in_ram : (x : ℕ) → ((x % 2 == 0) && is_ram x) ≡ true → (x % 2 ≡ 0) × (0x1C00 ≤ x)
in_ram x h = (grind (arith, nat_tests), grind (arith, nat_tests))

pub ram_range : (a : ℕ) → is_ram a ≡ true → (0x1C00 ≤ a) × (a < 0x2400)
ram_range a h = (grind (arith, nat_tests), grind (arith, nat_tests))

-- an even address of FRAM
pub is_fram_address : (x : ℕ) → x % 2 ≡ 0 → 0x4400 ≤ x → x < 0x10000 → ((x % 2 == 0) && is_fram x) ≡ true
is_fram_address x e l h = grind (arith, nat_tests)

is_ram_address : (x : ℕ) → x % 2 ≡ 0 → 0x1C00 ≤ x → x < 0x2400 → ((x % 2 == 0) && is_ram x) ≡ true
is_ram_address x e l h = grind (arith, nat_tests)

-- the word of an address
record Aligned (a : ℕ) : Type 0 where
  pub even : word_address a % 2 ≡ 0
  pub low : a ≤ word_address a + 1
  pub high : word_address a ≤ a

aligned : (a : ℕ) → Aligned a
aligned a = record { even = omega arith; low = omega arith; high = omega arith }

fram_there : (a : ℕ) → is_fram a ≡ true → ((word_address a % 2 == 0) && is_fram (word_address a)) ≡ true
fram_there a h = let r = fram_low a h in let l = r.0 in let u = r.1 in is_fram_address (word_address a) (aligned a).even (omega arith) (omega arith)

ram_there : (a : ℕ) → is_ram a ≡ true → ((word_address a % 2 == 0) && is_ram (word_address a)) ≡ true
ram_there a h = let r = ram_range a h in let l = r.0 in let u = r.1 in is_ram_address (word_address a) (aligned a).even (omega arith) (omega arith)

fram_place : (a : ℕ) → is_fram a ≡ true → place_of (word_address a) ≡ place_of a
fram_place a h = let r = fram_low a h in let l = r.0 in omega arith

ram_place_same : (a : ℕ) → is_ram a ≡ true → ram_place (word_address a) ≡ ram_place a
ram_place_same a h = let r = ram_range a h in let l = r.0 in omega arith

-- the word at an address
pub fram_at : (xs : List ℕ) (a : ℕ) → is_fram a ≡ true → fram_of xs (word_address a) ≡ slice_index xs (place_of a)
fram_at xs a h = ap (λ b. cond b (slice_index xs (place_of (word_address a))) 0) (fram_there a h) ∙ ap (λ p. slice_index xs p) (fram_place a h)

pub ram_at : (xs : List ℕ) (a : ℕ) → is_ram a ≡ true → ram_of xs (word_address a) ≡ slice_index xs (ram_place a)
ram_at xs a h = ap (λ b. cond b (slice_index xs (ram_place (word_address a))) 0) (ram_there a h) ∙ ap (λ p. slice_index xs p) (ram_place_same a h)

-- a word of the ring
is_ring_word : (a : ℕ) → is_ring a ≡ true → (is_ram a ≡ false) × (is_fram a ≡ true)
is_ring_word a h = (grind (arith, nat_tests), grind (arith, nat_tests))

-- stands behind what a program writes
behind_handler : (a x : ℕ) → a < handler_place → is_ring x ≡ true → x ≡ word_address a → ⊥
behind_handler a x low r e = let h : 0xFF6E ≤ x = grind (arith, nat_tests) in let k = (aligned a).high in absurd (omega arith)

even_word : (a : ℕ) → (a % 2 == 0) ≡ true → word_address a ≡ a
even_word a h = let e : a % 2 ≡ 0 = eqb-true (a % 2) 0 h in omega arith

-- a word written
pub put_fram : (xs : List ℕ) (a v : ℕ) → length xs ≡ 24064 → is_fram a ≡ true → put (fram_of xs) (word_address a) v ≡ fram_of (slice_set xs (place_of a) v)
put_fram xs a v len h =
    let r = fram_low a h in
    let l = r.0 in let u = r.1 in
    let k = (aligned a).high in
    let within : place_of (word_address a) < length xs = omega arith in
    put_view is_fram 0x4400 in_fram xs (word_address a) v (fram_there a h) within ∙ ap (λ p. fram_of (slice_set xs p v)) (fram_place a h)

pub put_ram : (xs : List ℕ) (a v : ℕ) → length xs ≡ 1024 → is_ram a ≡ true → put (ram_of xs) (word_address a) v ≡ ram_of (slice_set xs (ram_place a) v)
put_ram xs a v len h =
    let r = ram_range a h in
    let l = r.0 in let u = r.1 in
    let k = (aligned a).high in
    let within : ram_place (word_address a) < length xs = omega arith in
    put_view is_ram 0x1C00 in_ram xs (word_address a) v (ram_there a h) within ∙ ap (λ p. ram_of (slice_set xs p v)) (ram_place_same a h)

-- a known word written among known ones
put_known : (f : ℕ → ℕ) (a v : ℕ) → put (known f) a (Some v) ≡ known (put f a v)
put_known f a v = fun_ext (λ x. by (x == a) (f x))
  where
    by : (b : Bool) (w : ℕ) → (if b then Some v else Some w) ≡ Some (if b then v else w)
    by true w = refl
    by false w = refl

-- a word that a program writes leaves the ring as it was seen
seen_stored : (o : Option Look) (xs : List ℕ) (a v : ℕ) → length xs ≡ 24064 → is_fram a ≡ true → a < handler_place → SeesFram o xs
    → SeesFram o (slice_set xs (place_of a) v)
seen_stored None xs a v len h low sees = tt
seen_stored (Some look) xs a v len h low sees =
    λ x r. sees x r ∙ sym (put_other (fram_of xs) (word_address a) v x (behind_handler a x low r)) ∙ ap (λ f. f x) (put_fram xs a v len h)

module _ (readings : List ℕ) (looks : List Look) (begun : EventLine) where
  word_on : (b : Bool) (s : BusState) (a : ℕ) → is_ram a ≡ b → is_memory a ≡ true
      → (if b then slice_index s.ram (ram_place a) else slice_index s.fram (place_of a)) ≡
      (if b then unwrap_or (known (ram_of s.ram) (word_address a)) 0 else fram_of s.fram (word_address a))
  word_on true s a e m = sym (ram_at s.ram a e)
  word_on false s a e m = sym (fram_at s.fram a (other_is_fram a e m))

  pub word_same : (s : BusState) (t : MachineBus) (a : ℕ) → SameBus readings looks begun s t → is_memory a ≡ true → memory_word s a ≡ machine_word t a
  word_same s t a h m = word_on (is_ram a) s a refl m ∙ sym (ap₂ (λ f r. word_in f r a) h.fram h.ram)

  fetched_on : (b : Bool) (x y : ℕ) → (b ≡ true → x ≡ y) → ◌≡◌ {A = Option ℕ} (if b then Some x else None) (if b then Some y else None)
  fetched_on true x y e = ap Some (e refl)
  fetched_on false x y e = refl

  pub fetches_same : (s : BusState) (t : MachineBus) (a : ℕ) → SameBus readings looks begun s t → board_bus.fetches s a ≡ machine_bus.fetches t a
  fetches_same s t a h = fetched_on (is_word a) (memory_word s a) (machine_word t a) (λ e. word_same s t a h (and_parts (a % 2 == 0) (is_memory a) e).1)

  -- a reading
  next_on : (xs : List ℕ) (n : ℕ) → (if nat_lt n (length xs) then Ok (slice_index xs n) else Err refused.NoReading) ≡ first_reading (drop n xs)
  next_on [] zero = refl
  next_on [] (suc n) = let e : nat_lt (suc n) 0 ≡ false = grind (arith, nat_tests) in rw e refl
  next_on (x ∷ xs) zero = let e : nat_lt 0 (suc (length xs)) ≡ true = grind (arith, nat_tests) in rw e refl
  next_on (x ∷ xs) (suc n) =
      let e : nat_lt (suc n) (suc (length xs)) ≡ nat_lt n (length xs) = grind (arith, nat_tests) in
      ap (λ b. cond b (Ok (slice_index xs n)) (Err refused.NoReading)) e ∙ next_on xs n

  next_same : (s : BusState) (t : MachineBus) → SameBus readings looks begun s t → next_reading s ≡ first_reading t.inputs.readings
  next_same s t h = next_on s.readings s.taken ∙ ap (λ i. first_reading i.readings) (sym h.left)

  -- a word of the ring, which the machine sees or refuses
  ring_same : (s : BusState) (look : Look) (a : ℕ) → SeesFram (Some look) s.fram → (a % 2 == 0) ≡ true → is_ring a ≡ true → memory_word s a ≡ look a
  ring_same s look a sees even r =
      let at = is_ring_word a r in
      ap (λ b. cond b (slice_index s.ram (ram_place a)) (slice_index s.fram (place_of a))) at.0
      ∙ sym (fram_at s.fram a at.1)
      ∙ ap (fram_of s.fram) (even_word a even)
      ∙ sym (sees a r)

  seen_on : (b : Bool) (a x y : ℕ) → (b ≡ true → x ≡ y) → ReadAlike IsRefused a (Ok x) (if b then Ok y else Err refused.Bus)
  seen_on true a x y h = inl (ap (λ v. Ok v) (h refl))
  seen_on false a x y h = inr (refused.Bus, refl, refl)

  ring_on : (o : Option Look) (s : BusState) (a : ℕ) → SeesFram o s.fram → (a % 2 == 0) ≡ true → ReadAlike IsRefused a (Ok (memory_word s a)) (ring_read o a)
  ring_on None s a sees even = inr (refused.Bus, refl, refl)
  ring_on (Some look) s a sees even = seen_on (is_ring a) a (memory_word s a) (look a) (λ r. ring_same s look a sees even r)

  word_by : (b : Bool) (a x y : ℕ) (m : Result ℕ Refused) → x ≡ y → ReadAlike IsRefused a (Ok x) m → ReadAlike IsRefused a (Ok x) (if b then Ok y else m)
  word_by true a x y m e h = inl (ap (λ v. Ok v) e)
  word_by false a x y m e h = h

  words_same : (s : BusState) (t : MachineBus) (a : ℕ) → SameBus readings looks begun s t → is_word a ≡ true
      → ReadAlike IsRefused a (Ok (memory_word s a)) (word_read t a)
  words_same s t a h e =
      let at = and_parts (a % 2 == 0) (is_memory a) e in
      word_by (is_readable t a) a (memory_word s a) (machine_word t a) (ring_read t.ring a) (word_same s t a h at.1) (ring_on t.ring s a h.seen at.0)

  read_on : (b c d : Bool) (a x z : ℕ) (m n p q : Result ℕ Refused) → (b ≡ true → ReadAlike IsRefused a (Ok x) m) → p ≡ q
      → ReadAlike IsRefused a (if b then Ok x else if c then p else if d then Ok z else n) (if b then m else if c then q else Err refused.Bus)
  read_on true c d a x z m n p q h e = h refl
  read_on false true d a x z m n p q h e = inl e
  read_on false false d a x z m n p q h e = inr (refused.Bus, refl, refl)

  byte_on : (b c : Bool) (a x y : ℕ) → (b ≡ true → x ≡ y)
      → ReadAlike IsRefused a (if b then Ok (byte_of x a) else Err refused.Bus) (if b && c then Ok (byte_of y a) else Err refused.Bus)
  byte_on true true a x y h = inl (ap (λ z. Ok (byte_of z a)) (h refl))
  byte_on true false a x y h = inr (refused.Bus, refl, refl)
  byte_on false c a x y h = inl refl

  reads_same : (s : BusState) (t : MachineBus) (a : ℕ) (w : Width) → SameBus readings looks begun s t
      → ReadAlike IsRefused a (read_of s a w) (machine_read t a w)
  reads_same s t a Word h =
      read_on (is_word a) (a == sensor_port) (a == event_port) a (memory_word s a) (port_word s.line.port) (word_read t a)
      (radio_word s.radio (is_full s.line.port) a) (next_reading s)
      (first_reading t.inputs.readings) (λ e. words_same s t a h e) (next_same s t h)
  reads_same s t a Byte h = byte_on (is_memory a) (is_readable t a) a (memory_word s a) (machine_word t a) (λ e. word_same s t a h e)

  -- a reading taken
  drop_next : (xs : List ℕ) (n w : ℕ) (ws : List ℕ) → drop n xs ≡ w ∷ ws → (drop (n + 1) xs ≡ ws) × (n + 1 ≤ length xs)
  drop_next [] zero w ws e = absurd cc
  drop_next [] (suc n) w ws e = absurd cc
  drop_next (x ∷ xs) zero w ws e = (cc, omega arith)
  drop_next (x ∷ xs) (suc n) w ws e =
      let r = drop_next xs n w ws e in
      let r1 = r.1 in
      let m : suc n + 1 ≡ suc (n + 1) = omega arith in
      (ap (λ q. drop q (x ∷ xs)) m ∙ r.0, omega arith)

  left_by : {l k : List Look} {xs ys : List ℕ} → l ≡ k → xs ≡ ys → ◌≡◌ {A = Inputs} (record { readings = ys; looks = l }) (record { readings = xs; looks = k })
  left_by e d = ap₂ {C = Inputs} (λ y x. record { readings = y; looks = x }) (sym d) e

  taken_same : (ws : List ℕ) (s : BusState) (t : MachineBus) (v : ℕ) → first_reading ws ≡ Ok v → t.inputs.readings ≡ ws → SameBus readings looks begun s t
      → SameBus readings looks begun (record s { taken = s.taken + 1 }) (reading_taken ws t)
  taken_same [] s t v e q h = absurd cc
  taken_same (w ∷ ws) s t v e q h =
      let d = drop_next s.readings s.taken w ws (sym (ap (λ i. i.readings) h.left) ∙ q) in
      let g = h.whole in
      record {
        whole = record { fram = g.fram; ram = g.ram; taken = d.1; few = g.few };
        fram = h.fram;
        ram = h.ram;
        left = left_by (ap (λ i. i.looks) h.left) d.0;
        outnum = h.outnum;
        all = h.all;
        line = h.line;
        seen = h.seen;
        own = h.own;
      }

  at_sensor : (t : MachineBus) (a v : ℕ) → a ≡ sensor_port → machine_read t a Word ≡ Ok v → first_reading t.inputs.readings ≡ Ok v
  at_sensor t a v e r = subst (λ x. machine_read t x Word ≡ Ok v) e r

  -- the machine serves no read of EVENT
  event_unread : (t : MachineBus) (v : ℕ) → machine_read t event_port Word ≡ Ok v → ⊥
  event_unread t v e = cc

  after_on : (b c : Bool) (s : BusState) (t : MachineBus) (a v : ℕ) → (a == sensor_port) ≡ b → (a == event_port) ≡ c → machine_read t a Word ≡ Ok v
      → SameBus readings looks begun s t
      → SameBus readings looks begun (record s { taken = if b then s.taken + 1 else s.taken; line = if c then port_read s.line else s.line })
      (if b then reading_taken t.inputs.readings t else t)
  after_on b true s t a v e k r h = absurd (event_unread t v (subst (λ x. machine_read t x Word ≡ Ok v) (eqb-true a event_port k) r))
  after_on true false s t a v e k r h = taken_same t.inputs.readings s t v (at_sensor t a v (eqb-true a sensor_port e) r) refl h
  after_on false false s t a v e k r h = h

  after_same : (s : BusState) (t : MachineBus) (a : ℕ) (w : Width) (v : ℕ) → SameBus readings looks begun s t → machine_read t a w ≡ Ok v
      → SameBus readings looks begun (after_read s a w) (machine_after_read t a w)
  after_same s t a Word v h r = after_on (a == sensor_port) (a == event_port) s t a v refl refl r h
  after_same s t a Byte v h r = h

  -- writes
  stored_same : (b : Bool) (s : BusState) (t : MachineBus) (a v : ℕ) (log : List Effect) → is_ram a ≡ b → is_memory a ≡ true
      → (b ≡ false → a < handler_place) → SameBus readings looks begun s t
      → SameBus readings looks begun (if b then record s { ram = slice_set s.ram (ram_place a) v } else record s { fram = slice_set s.fram (place_of a) v })
      (if b then record t { ram = put t.ram (word_address a) (Some v) } else record t { fram = put t.fram (word_address a) v; log = log })
  stored_same true s t a v log e m low h =
      let g = h.whole in
      record {
        whole = record { fram = g.fram; ram = length-set s.ram (ram_place a) v ∙ g.ram; taken = g.taken; few = g.few };
        fram = h.fram;
        ram = ap (λ f. put f (word_address a) (Some v)) h.ram ∙ put_known (ram_of s.ram) (word_address a) v ∙ ap known (put_ram s.ram a v g.ram e);
        left = h.left;
        outnum = h.outnum;
        all = h.all;
        line = h.line;
        seen = h.seen;
        own = h.own;
      }
  stored_same false s t a v log e m low h =
      let g = h.whole in
      record {
        whole = record { fram = length-set s.fram (place_of a) v ∙ g.fram; ram = g.ram; taken = g.taken; few = g.few };
        fram = ap (λ f. put f (word_address a) v) h.fram ∙ put_fram s.fram a v g.fram (other_is_fram a e m);
        ram = h.ram;
        left = h.left;
        outnum = h.outnum;
        all = h.all;
        line = h.line;
        seen = seen_stored t.ring s.fram a v g.fram (other_is_fram a e m) (low refl) h.seen;
        own = h.own;
      }

  word_stored : (s : BusState) (t : MachineBus) (a v : ℕ) → is_memory a ≡ true → (is_ram a ≡ false → a < handler_place) → SameBus readings looks begun s t
      → SameBus readings looks begun (with_word s a v) (machine_stored t a v)
  word_stored s t a v m low h = stored_same (is_ram a) s t a v (t.log ++ Store (word_address a) v ∷ []) refl m low h

  abbrev Alike : Option BusState → Option MachineBus → Type 0
  Alike x y = WrittenAlike (refused.Bus ≡ refused.Bus) (SameBus readings looks begun) x y

  -- a word written to OUTDATA of a board whose words go to its own receiver
  offered_same : (s : BusState) (t : MachineBus) (v : ℕ) (log : List Effect) → SameBus readings looks begun s t
      → SameBus readings looks begun (record s { offered = Some v; sent = None }) (record t { log = log })
  offered_same s t v log h =
      let g = h.whole in
      record {
        whole = record { fram = g.fram; ram = g.ram; taken = g.taken; few = g.few };
        fram = h.fram;
        ram = h.ram;
        left = h.left;
        outnum = h.outnum;
        all = h.all;
        line = h.line;
        seen = h.seen;
        own = h.own;
      }

  data_same : (x : Radio) (s : BusState) (t : MachineBus) (v : ℕ) (log : List Effect) → is_sender x ≡ false → SameBus readings looks begun s t
      → SameBus readings looks begun (data_written x s v) (record t { log = log })
  data_same Alone s t v log own h = offered_same s t v log h
  data_same (Sends greatest) s t v log own h = absurd cc
  data_same (Listens number) s t v log own h = offered_same s t v log h

  -- the machine refuses what is written to another port
  unserved : (x : Option BusState) → Alike x None
  unserved None = tt
  unserved (Some s) = refl

  port_same : (b c : Bool) (s : BusState) (t : MachineBus) (v : ℕ) (log : List Effect) (x : Option BusState) → SameBus readings looks begun s t
      → Alike (if b then Some (record s { outnum = v }) else if c then Some (data_written s.radio s v) else x)
      (if b then Some (record t { outnum = v }) else if c then Some (record t { log = log }) else None)
  port_same true c s t v log x h =
      let g = h.whole in
      record {
        whole = record { fram = g.fram; ram = g.ram; taken = g.taken; few = g.few };
        fram = h.fram;
        ram = h.ram;
        left = h.left;
        outnum = refl;
        all = h.all;
        line = h.line;
        seen = h.seen;
        own = h.own;
      }
  port_same false true s t v log x h = data_same s.radio s t v log h.own h
  port_same false false s t v log x h = unserved x

  either : (b : Bool) (x y : Option BusState) (z u : Option MachineBus) → (b ≡ true → Alike x z) → Alike y u
      → Alike (if b then x else y) (if b then z else u)
  either true x y z u h k = h refl
  either false x y z u h k = k

  -- the machine serves a write only where this test holds, too
  served_if : (b : Bool) (x : BusState) (z : MachineBus) → (b ≡ true → SameBus readings looks begun x z) → Alike (Some x) (if b then Some z else None)
  served_if true x z h = h refl
  served_if false x z h = refl

  either_if : (b c : Bool) (x : BusState) (z : MachineBus) → (b ≡ true → c ≡ true → SameBus readings looks begun x z)
      → Alike (if b then Some x else None) (if b && c then Some z else None)
  either_if true c x z h = served_if c x z (h refl)
  either_if false c x z h = tt

  -- the word of a byte that is written stands in front of the handler
  readable_low : (t : MachineBus) (a : ℕ) → is_readable t a ≡ true → is_ram a ≡ false → a < handler_place
  readable_low t a h e = ltb-true a handler_place
      (ap (λ b. cond b (nat_le t.floor (word_address a) && is_some (t.ram (word_address a))) (nat_lt a handler_place)) (sym e) ∙ h)

  byte_stored : (s : BusState) (t : MachineBus) (a v : ℕ) → is_memory a ≡ true → (is_ram a ≡ false → a < handler_place) → SameBus readings looks begun s t
      → SameBus readings looks begun (with_word s a (with_byte (memory_word s a) a v)) (machine_stored t a (with_byte (machine_word t a) a v))
  byte_stored s t a v m low h =
      subst (λ x. SameBus readings looks begun (with_word s a (with_byte (memory_word s a) a v)) (machine_stored t a (with_byte x a v))) (word_same s t a h m)
      (word_stored s t a (with_byte (memory_word s a) a v) m low h)

  writes_same : (s : BusState) (t : MachineBus) (a : ℕ) (w : Width) (v : ℕ) → SameBus readings looks begun s t
      → Alike (written s a w v) (machine_written t a w v)
  writes_same s t a Word v h =
      either (is_word a) (Some (with_word s a v)) (port_written s a v) (word_written t a v) (machine_port_written t a v)
      (λ e. served_if (nat_lt a handler_place) (with_word s a v) (machine_stored t a v)
      (λ l. word_stored s t a v (and_parts (a % 2 == 0) (is_memory a) e).1 (λ f. ltb-true a handler_place l) h))
      (port_same (a == number_port) (a == data_port) s t v (t.log ++ Outside (Offered t.outnum v) ∷ []) (answer_written s.radio s a v) h)
  writes_same s t a Byte v h =
      either_if (is_memory a) (is_readable t a) (with_word s a (with_byte (memory_word s a) a v))
      (machine_stored t a (with_byte (machine_word t a) a v)) (λ e r. byte_stored s t a v e (readable_low t a r) h)

  pub buses_alike : AnswerAlikeUnless IsRefused board_bus machine_bus (SameBus readings looks begun)
  buses_alike = record {
    reads = λ s t a w h. reads_same s t a w h;
    after = λ s t a w v h e. after_same s t a w v h e;
    writes = λ s t a w v h. writes_same s t a w v h;
  }
