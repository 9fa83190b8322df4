-- Where the ring of an image is, and that it keeps its rule before anything was done.
use Rattle.compiled_states.proofs.Names.{◌≡◌, ℕ, ◌+◌, ◌-◌, ◌*◌, ◌%◌, ◌<◌, ◌≤◌, ◌&&◌, nat_le, Bool, true, false, if◌then◌else◌, List, [], ◌∷◌}
use Rattle.compiled_states.proofs.Names.{Option, Some, None, refl, sym, ap}
use Rattle.compiled_states.proofs.Names.{◌==◌, ap₂, ne_eqb, or_parts, holds}
use Rattle.compiled_states.proofs.Names.{◌∙◌, subst, arith, inl, inr, IfSome, MemoryMap, MapValue, ImageValue, IsImageOf, IsFreshImage, images_are_fresh}
use Rattle.compiled_states.proofs.Names.{map_of, map_ring, is_ring, is_in_ring, is_ring_at, is_held, is_pending, runtime_of, word_in, KeepsRing, fram_of}
use Rattle.compiled_states.proofs.Names.{IsFram}
use Rattle.std.proofs.lemmas.Bool.Decides.{nat_tests}
use Rattle.address_space.specs.Limits.{program_end}
use Rattle.compiled_states.proofs.Names.{le-leb, leb-true, and_from, and_parts, eqb-true, eq-eqb}
use Rattle.event_places.specs.Places.{handler_place, head_place, tail_place, sent_place}
use Rattle.msp_step.specs.alp_words.Words.{word_difference}
use Rattle.event_rules.specs.Rings as rings
use Rattle.event_handler.specs.Handler.{HasHandler}
use Rattle.runtime_effects.specs.Needs.{IsEventWord}
use Rattle.source_maps.specs.Maps.{event_ring}
use Rattle.image_map.specs.MapValue.{ring_words}
use Rattle.image_map.specs.declared.parts.RingPlaces.{RingPlaces}
use Rattle.fram_state.specs.declared.stretch.Stretch.{Stretch}
use Rattle.fram_state.specs.Named.{ring_parts}
use Rattle.fram_state.specs.Migrated.{kept_ring_word}
use Rattle.fram_state.specs.Stretch.{words_at}
use Rattle.compiled_states.proofs.Held.{within}
use Rattle.fram_state.specs.Sound as sound
use Rattle.compiled_states.proofs.Words.{fram_at}

-- the parts of a ring, from one on
abbrev slot_parts : RingPlaces → List Stretch
slot_parts r = words_at r.slots ring_words ∷ []

abbrev answer_parts : RingPlaces → List Stretch
answer_parts r = words_at r.answer 1 ∷ slot_parts r

abbrev sent_parts : RingPlaces → List Stretch
sent_parts r = words_at r.sent_tail 1 ∷ answer_parts r

abbrev count_parts : RingPlaces → List Stretch
count_parts r = words_at r.event_count 1 ∷ sent_parts r

abbrev tail_parts : RingPlaces → List Stretch
tail_parts r = words_at r.tail 1 ∷ count_parts r

-- what the ring of a source that takes events hasn't, no image's has
off_by : (events : Bool) (a : ℕ) → is_held (ring_parts event_ring) a ≡ false → is_in_ring (if events then Some event_ring else None) a ≡ false
off_by true a h = h
off_by false a h = refl

low : (a : ℕ) → a < 0xFF18 → is_held (ring_parts event_ring) a ≡ false
low a below = grind (arith, nat_tests)

between : (a : ℕ) → 0xFF20 ≤ a → a < 0xFF6E → is_held (ring_parts event_ring) a ≡ false
between a from to = grind (arith, nat_tests)

-- the places of programs are off the ring, and so are the handler and the vectors
pub low_off : (l : MemoryMap) (a : ℕ) → a < 0xFF18 → is_in_ring (map_ring l) a ≡ false
low_off l a below = off_by l.runtime.events a (low a below)

pub between_off : (l : MemoryMap) (a : ℕ) → 0xFF20 ≤ a → a < 0xFF6E → is_in_ring (map_ring l) a ≡ false
between_off l a from to = off_by l.runtime.events a (between a from to)

pub vector_off : (l : MemoryMap) → is_in_ring (map_ring l) 0xFFFE ≡ false
vector_off l = off_by l.runtime.events 0xFFFE refl

pub interrupts_off : (l : MemoryMap) → is_in_ring (map_ring l) 0xFFF0 ≡ false
interrupts_off l = off_by l.runtime.events 0xFFF0 refl

-- a word that the ring hasn't counts no events; and if it would be HEAD's or the ring's, the source takes none
held_low : (a : ℕ) → is_held (ring_parts event_ring) a ≡ false → 0xFF18 ≤ a → a < 0xFF20 → ⊥
held_low a h from to = grind (arith, nat_tests, h, from, to)

held_ring : (a : ℕ) → is_held (ring_parts event_ring) a ≡ false → is_ring a ≡ true → ⊥
held_ring a h r = grind (arith, nat_tests, h, r)

event_off_by : (events : Bool) (a : ℕ) → is_in_ring (if events then Some event_ring else None) a ≡ false → events ≡ true → 0xFF18 ≤ a → a < 0xFF20 → ⊥
event_off_by true a h on from to = held_low a h from to
event_off_by false a h on from to = cc on

ring_off_by : (events : Bool) (a : ℕ) → is_in_ring (if events then Some event_ring else None) a ≡ false → is_ring a ≡ true → events ≡ false
ring_off_by true a h r = absurd (held_ring a h r)
ring_off_by false a h r = refl

pub event_off : (l : MemoryMap) (a : ℕ) → is_in_ring (map_ring l) a ≡ false → IsEventWord l a → ⊥
event_off l a h w = event_off_by l.runtime.events a h w.events w.from w.below

pub ring_off : (l : MemoryMap) (a : ℕ) → is_in_ring (map_ring l) a ≡ false → is_ring a ≡ true → l.runtime.events ≡ false
ring_off l a h r = ring_off_by l.runtime.events a h r

pub handler_off : (a : ℕ) → a < 0xFF6E → is_ring a ≡ false
handler_off a below = grind (arith, nat_tests)

-- a handler stands in each FRAM that has the same words there
pub handler_stands : (f g : ℕ → ℕ) → ((a : ℕ) → a % 2 ≡ 0 → handler_place ≤ a → a < 0xFF6E → f a ≡ g a) → f 0xFFF0 ≡ g 0xFFF0 → HasHandler g → HasHandler f
handler_stands f g same vector h = record {
  words = λ k below. same (handler_place + 2 * k) (omega arith) (omega arith) (omega (arith, below)) ∙ h.words k below;
  vector = vector ∙ h.vector;
}

-- and nothing of an old ring stands there
not_first : (from a : ℕ) → holds (words_at from 1) a ≡ false → (a == from) ≡ false
not_first from a off = ne_eqb a from (λ e.
    let on = within (words_at from 1) a (omega (arith, e)) (omega (arith, e)) in cc (on, off))

pub none_kept : (new old : Option RingPlaces) (words : List ℕ) (a : ℕ) → is_in_ring new a ≡ false → kept_ring_word new old words a ≡ None
none_kept None old words a off = refl
none_kept (Some n) None words a off = refl
none_kept (Some n) (Some o) words a off =
    let head = or_parts (holds (words_at n.head 1) a) (is_held (tail_parts n) a) off in
    let tail = or_parts (holds (words_at n.tail 1) a) (is_held (count_parts n) a) head.1 in
    let count = or_parts (holds (words_at n.event_count 1) a) (is_held (sent_parts n) a) tail.1 in
    let sent = or_parts (holds (words_at n.sent_tail 1) a) (is_held (answer_parts n) a) count.1 in
    let answer = or_parts (holds (words_at n.answer 1) a) (is_held (slot_parts n) a) sent.1 in
    let slots = or_parts (holds (words_at n.slots ring_words) a) false answer.1 in
    let at_slots : Option ℕ = if holds (words_at n.slots ring_words) a then Some (word_in words (o.slots + (a - n.slots))) else None in
    ap (λ b. if b then Some (word_in words o.head) else (if a == n.tail then Some (word_in words o.tail) else at_slots)) (not_first n.head a head.0)
    ∙ ap (λ b. if b then Some (word_in words o.tail) else at_slots) (not_first n.tail a tail.0)
    ∙ ap (λ b. if b then Some (word_in words (o.slots + (a - n.slots))) else None) slots.0

-- ---- the rule

empty : (pending : Bool) → sound.is_ring (record { waiting = 0; taken = 0 }) pending ≡ true
empty true = refl
empty false = refl

-- where no commit is pending it is kept by as many waiting words
pub waits_keep : (h t h0 t0 : ℕ) → h ≡ h0 → t ≡ t0 → (nat_le ((h0 + 65536 - t0) % 65536) 64 && true) ≡ true
    → (nat_le ((h + 65536 - t) % 65536) 64 && true) ≡ true
waits_keep h t h0 t0 head tail keeps = ap₂ (λ a b. nat_le ((a + 65536 - b) % 65536) 64 && true) head tail ∙ keeps

-- a ring that begins at its end keeps it
zeros_keep : (h t s : ℕ) (pending : Bool) → h ≡ 0 → t ≡ 0 → s ≡ 0
    → sound.is_ring (record { waiting = (h + 65536 - t) % 65536; taken = (s + 65536 - t) % 65536 }) pending ≡ true
zeros_keep h t s pending head tail sent =
    let waiting : (h + 65536 - t) % 65536 ≡ 0 = omega (arith, head, tail) in
    let taken : (s + 65536 - t) % 65536 ≡ 0 = omega (arith, sent, tail) in
    ap₂ (λ w k. sound.is_ring (record { waiting = w; taken = k }) pending) waiting taken ∙ empty pending

-- the rule of saved states by the words of FRAM, and back
is_kept : (head tail sent : ℕ) (pending : Bool) → tail < 0x10000 → word_difference head tail ≤ 64
    → (pending ≡ true → word_difference sent tail ≤ word_difference head tail)
    → sound.is_ring (record { waiting = (head + 65536 - tail) % 65536; taken = (sent + 65536 - tail) % 65536 }) pending ≡ true
is_kept head tail sent true small most taken =
    let few : (head + 65536 - tail) % 65536 ≤ 64 = omega (arith, small, most) in
    let ahead = taken refl in
    and_from (nat_le ((head + 65536 - tail) % 65536) 64) (nat_le ((sent + 65536 - tail) % 65536) ((head + 65536 - tail) % 65536))
    (le-leb ((head + 65536 - tail) % 65536) 64 few)
    (le-leb ((sent + 65536 - tail) % 65536) ((head + 65536 - tail) % 65536) (omega (arith, small, ahead)))
is_kept head tail sent false small most taken =
    let few : (head + 65536 - tail) % 65536 ≤ 64 = omega (arith, small, most) in
    and_from (nat_le ((head + 65536 - tail) % 65536) 64) true (le-leb ((head + 65536 - tail) % 65536) 64 few) refl

-- what the rule of saved states says of these words
record Kept (head tail sent : ℕ) (pending : Bool) : Type 0 where
  waiting : word_difference head tail ≤ 64
  taken : pending ≡ true → word_difference sent tail ≤ word_difference head tail

kept_so : (head tail sent : ℕ) (pending : Bool) → tail < 0x10000
    → sound.is_ring (record { waiting = (head + 65536 - tail) % 65536; taken = (sent + 65536 - tail) % 65536 }) pending ≡ true → Kept head tail sent pending
kept_so head tail sent true small keeps =
    let both = and_parts (nat_le ((head + 65536 - tail) % 65536) 64) (nat_le ((sent + 65536 - tail) % 65536) ((head + 65536 - tail) % 65536)) keeps in
    let few = leb-true ((head + 65536 - tail) % 65536) 64 both.0 in
    let ahead = leb-true ((sent + 65536 - tail) % 65536) ((head + 65536 - tail) % 65536) both.1 in
    record { waiting = omega (arith, small, few); taken = λ e. omega (arith, small, ahead) }
kept_so head tail sent false small keeps =
    let both = and_parts (nat_le ((head + 65536 - tail) % 65536) 64) true keeps in
    let few = leb-true ((head + 65536 - tail) % 65536) 64 both.0 in
    record { waiting = omega (arith, small, few); taken = λ e. absurd (cc e) }

module _ (words : List ℕ) (gate : ℕ) (is_gate : IsFram gate) (small : word_in words tail_place < 0x10000) where
  there : (a : ℕ) → a % 2 ≡ 0 → 0x4400 ≤ a → a < 0x10000 → fram_of words a ≡ word_in words a
  there a even low high = fram_at words a (record { even = even; low = low; high = high })

  head_there : fram_of words head_place ≡ word_in words head_place
  head_there = there head_place refl (omega arith) (omega arith)

  tail_there : fram_of words tail_place ≡ word_in words tail_place
  tail_there = there tail_place refl (omega arith) (omega arith)

  sent_there : fram_of words sent_place ≡ word_in words sent_place
  sent_there = there sent_place refl (omega arith) (omega arith)

  -- how far HEAD and SE are ahead of TAIL
  waiting : word_difference (fram_of words head_place) (fram_of words tail_place) ≡ word_difference (word_in words head_place) (word_in words tail_place)
  waiting = ap₂ word_difference head_there tail_there

  taken : word_difference (fram_of words sent_place) (fram_of words tail_place) ≡ word_difference (word_in words sent_place) (word_in words tail_place)
  taken = ap₂ word_difference sent_there tail_there

  -- a ring that keeps the rule on the board
  pub rule_of_ring : rings.KeepsRing gate (fram_of words) → is_ring_at (Some event_ring) words (word_in words gate == 1) ≡ true
  rule_of_ring k =
      let most = k.head in
      let ahead_of = waiting in
      let taken_of = taken in
      is_kept (word_in words head_place) (word_in words tail_place) (word_in words sent_place) (word_in words gate == 1) small (omega (arith, ahead_of, most))
      (λ e. let ahead = k.sent (fram_at words gate is_gate ∙ eqb-true (word_in words gate) 1 e) in omega (arith, ahead_of, taken_of, ahead))

  -- and back
  pub ring_of_rule : is_ring_at (Some event_ring) words (word_in words gate == 1) ≡ true → rings.KeepsRing gate (fram_of words)
  ring_of_rule keeps =
      let k = kept_so (word_in words head_place) (word_in words tail_place) (word_in words sent_place) (word_in words gate == 1) small keeps in
      let most = k.waiting in
      let ahead_of = waiting in
      let taken_of = taken in
      record {
        head = omega (arith, ahead_of, most);
        sent = λ e.
            let ahead = k.taken (eq-eqb (word_in words gate) 1 (sym (fram_at words gate is_gate) ∙ e)) in
            omega (arith, ahead_of, taken_of, ahead);
      }

module _ (text : List ℕ) (image : ImageValue) (of : IsImageOf text image) where
  open of use {program as p, allow, accepted as ok, compiled as c}

  new : IsFreshImage text p allow c.layout image
  new = images_are_fresh text p allow image ok c

  count_word : (a : ℕ) → IsFram a → program_end ≤ a → a < handler_place → word_in image.words a ≡ 0
  count_word a is from to = sym (fram_at image.words a is) ∙ new.ring a is from (inl to)

  pub tail_word : word_in image.words 0xFF18 ≡ 0
  tail_word = count_word 0xFF18 (record { even = refl; low = omega arith; high = omega arith }) (omega arith) (omega arith)

  pub head_word : word_in image.words 0xFF6E ≡ 0
  head_word =
      let is : IsFram 0xFF6E = record { even = refl; low = omega arith; high = omega arith } in
      sym (fram_at image.words 0xFF6E is) ∙ new.ring 0xFF6E is (omega arith) (inr refl)

  keeps_by : (events : Bool) (pending : Bool) → is_ring_at (if events then Some event_ring else None) image.words pending ≡ true
  keeps_by false pending = refl
  keeps_by true pending =
      zeros_keep (word_in image.words 0xFF6E) (word_in image.words 0xFF18) (word_in image.words 0xFF1C) pending head_word tail_word
      (count_word 0xFF1C (record { even = refl; low = omega arith; high = omega arith }) (omega arith) (omega arith))

  -- so does an image's before anything was done
  pub fresh_keeps_ring : KeepsRing (record { image = image; receiver = 0 })
  fresh_keeps_ring =
      let P : Option MapValue → Type 0 = λ o. IfSome o (λ m. is_ring_at m.ring image.words (is_pending (runtime_of m.words image.words)) ≡ true) in
      subst P (sym c.map) (keeps_by c.layout.runtime.events (is_pending (runtime_of (map_of text p c.layout allow).words image.words)))
