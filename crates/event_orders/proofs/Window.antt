-- The words of a ring that wait, each in its slot.
use Rattle.std.proofs.Common.{◌≡◌, ◌+◌, ◌%◌, ◌≤◌, ◌<◌, ◌==◌, arith, ℕ, sym, ap, ◌∙◌, subst, false, List, [], ◌∷◌, ◌++◌}
use Rattle.std.proofs.Common.{length, length-append, eq-eqb}
use Rattle.event_places.specs.Places.{handler_place, head_place, ring_slots, slot_place}
use Rattle.msp_step.specs.alp_words.Words.{word_sum, word_difference}
use Rattle.machine_effects.specs.World.{put}
use Rattle.machine_effects.proofs.Interface.{put_other, put_same}

-- words stand in slots, from an index on
abbrev pub Stands : (ℕ → ℕ) → ℕ → List ℕ → Type 0
Stands ring i [] = Unit {0}
Stands ring i (w ∷ ws) = (ring (slot_place i) ≡ w) × Stands ring (i + 1) ws

-- these wait there, up to HEAD, and no more than TAIL is away from it
pub record Window (ring : ℕ → ℕ) (tail i : ℕ) (ws : List ℕ) : Type 0 where
  pub stands : Stands ring i ws
  pub head : ring head_place ≡ (i + length ws) % 0x10000
  pub near : length ws ≤ word_difference (ring head_place) tail
  pub room : word_difference (ring head_place) tail ≤ ring_slots

-- where nothing changes from the handler on
stands_same : (f g : ℕ → ℕ) (i : ℕ) (ws : List ℕ) → ((a : ℕ) → handler_place ≤ a → g a ≡ f a) → Stands f i ws → Stands g i ws
stands_same f g i [] same h = tt
stands_same f g i (w ∷ ws) same h = (same (slot_place i) (omega arith) ∙ h.0, stands_same f g (i + 1) ws same h.1)

pub window_same : (f g : ℕ → ℕ) (tail i : ℕ) (ws : List ℕ) → ((a : ℕ) → handler_place ≤ a → g a ≡ f a) → Window f tail i ws → Window g tail i ws
window_same f g tail i ws same w =
    let head : g head_place ≡ f head_place = same head_place (omega arith) in
    record {
      stands = stands_same f g i ws same w.stands;
      head = head ∙ w.head;
      near = subst (λ h. length ws ≤ word_difference h tail) (sym head) w.near;
      room = subst (λ h. word_difference h tail ≤ ring_slots) (sym head) w.room;
    }

-- the slots of indexes fewer than 64 apart are others
other_slot : (a b n : ℕ) → n ≡ b % 0x10000 → a < b → b ≤ a + 63 → slot_place a ≡ slot_place n → ⊥
other_slot a b n e l near same = omega (arith, e, l, near, same)

pub same_slot : (b n : ℕ) → n ≡ b % 0x10000 → slot_place n ≡ slot_place b
same_slot b n e = omega (arith, e)

-- a store to the slot behind them
stands_put : (f : ℕ → ℕ) (i n v : ℕ) (ws : List ℕ) → n ≡ (i + length ws) % 0x10000 → length ws ≤ 63 → Stands f i ws → Stands (put f (slot_place n) v) i ws
stands_put f i n v [] e l h = tt
stands_put f i n v (w ∷ ws) e l h =
    let here : i < i + length (w ∷ ws) = omega arith in
    let near : i + length (w ∷ ws) ≤ i + 63 = omega (arith, l) in
    let next : n ≡ ((i + 1) + length ws) % 0x10000 = e ∙ (let s : i + length (w ∷ ws) ≡ (i + 1) + length ws = omega arith in ap (λ k. k % 0x10000) s) in (
      put_other f (slot_place n) v (slot_place i) (other_slot i (i + length (w ∷ ws)) n e here near) ∙ h.0,
      stands_put f (i + 1) n v ws next (omega (arith, l)) h.1,
    )

-- a store to HEAD
stands_head : (f : ℕ → ℕ) (i v : ℕ) (ws : List ℕ) → Stands f i ws → Stands (put f head_place v) i ws
stands_head f i v [] h = tt
stands_head f i v (w ∷ ws) h = (put_other f head_place v (slot_place i) (λ e. omega (arith, e)) ∙ h.0, stands_head f (i + 1) v ws h.1)

-- one more
stands_more : (f : ℕ → ℕ) (i w : ℕ) (ws : List ℕ) → Stands f i ws → f (slot_place (i + length ws)) ≡ w → Stands f i (ws ++ w ∷ [])
stands_more f i w [] h e = (ap (λ k. f (slot_place k)) (let s : i ≡ i + 0 = omega arith in s) ∙ e, tt)
stands_more f i w (v ∷ ws) h e =
    (h.0, stands_more f (i + 1) w ws h.1 (ap (λ k. f (slot_place k)) (let s : (i + 1) + length ws ≡ i + length (v ∷ ws) = omega arith in s) ∙ e))

-- those behind the first ones
pub stands_behind : (f : ℕ → ℕ) (i : ℕ) (ts rs : List ℕ) → Stands f i (ts ++ rs) → Stands f (i + length ts) rs
stands_behind f i [] rs h = subst (λ k. Stands f k rs) (let s : i ≡ i + 0 = omega arith in s) h
stands_behind f i (t ∷ ts) rs h =
    subst (λ k. Stands f k rs) (let s : (i + 1) + length ts ≡ i + length (t ∷ ts) = omega arith in s) (stands_behind f (i + 1) ts rs h.1)

-- a ring that isn't full, though it has no more words than slots, has room for one more
free : (h t n : ℕ) → (word_difference h t == ring_slots) ≡ false → n ≤ word_difference h t → word_difference h t ≤ ring_slots → n ≤ 63
free h t n full near room = below (word_difference h t) full near room
  where
    below : (d : ℕ) → (d == ring_slots) ≡ false → n ≤ d → d ≤ ring_slots → n ≤ 63
    below d full near room =
        let other : d ≡ ring_slots → ⊥ = λ e. let yes = eq-eqb d ring_slots e in absurd (cc (yes, full)) in
        omega (arith, other, near, room)

-- the next word is stored in the slot of HEAD, where the ring isn't full
pub stores_word : (f : ℕ → ℕ) (tail i v : ℕ) (ws : List ℕ) → (word_difference (f head_place) tail == ring_slots) ≡ false → Window f tail i ws
    → Window (put f (slot_place (f head_place)) v) tail i ws
stores_word f tail i v ws full w =
    let n = f head_place in
    let head : put f (slot_place n) v head_place ≡ n = put_other f (slot_place n) v head_place (λ e. omega (arith, e)) in
    record {
      stands = stands_put f i n v ws w.head (free n tail (length ws) full w.near w.room) w.stands;
      head = head ∙ w.head;
      near = subst (λ h. length ws ≤ word_difference h tail) (sym head) w.near;
      room = subst (λ h. word_difference h tail ≤ ring_slots) (sym head) w.room;
    }

raised_difference : (h t : ℕ) → h < 0x10000 → t < 0x10000 → word_difference h t ≤ ring_slots → word_difference (word_sum h 1) t ≡ word_difference h t + 1
raised_difference h t low small room = omega (arith, low, small, room)

-- and HEAD is raised
pub raises_head : (f : ℕ → ℕ) (tail i v : ℕ) (ws : List ℕ) → (word_difference (f head_place) tail == ring_slots) ≡ false → tail < 0x10000
    → f (slot_place (f head_place)) ≡ v → Window f tail i ws → Window (put f head_place (word_sum (f head_place) 1)) tail i (ws ++ v ∷ [])
raises_head f tail i v ws full small stands w =
    let n = f head_place in
    let low : n < 0x10000 = omega (arith, w.head) in
    let few = free n tail (length ws) full w.near w.room in
    let head : put f head_place (word_sum n 1) head_place ≡ word_sum n 1 = put_same f head_place (word_sum n 1) in
    let longer : length (ws ++ v ∷ []) ≡ length ws + 1 = length-append ws (v ∷ []) in
    let more = raised_difference n tail low small w.room in
    let at = w.head in
    let near = w.near in
    let room = w.room in
    record {
      stands = stands_head f i (word_sum n 1) (ws ++ v ∷ []) (stands_more f i v ws w.stands (ap f (sym (same_slot (i + length ws) n w.head)) ∙ stands));
      head = head ∙ (let e : word_sum n 1 ≡ (i + length (ws ++ v ∷ [])) % 0x10000 = omega (arith, at, longer) in e);
      near = subst (λ h. length (ws ++ v ∷ []) ≤ word_difference h tail) (sym head) (let e : length (ws ++ v ∷ []) ≤ word_difference (word_sum n 1) tail =
          omega (arith, longer, more, near) in e);
      room = subst (λ h. word_difference h tail ≤ ring_slots) (sym head) (differs n full room more);
    }
  where
    differs : (n : ℕ) → (word_difference n tail == ring_slots) ≡ false → word_difference n tail ≤ ring_slots
        → word_difference (word_sum n 1) tail ≡ word_difference n tail + 1 → word_difference (word_sum n 1) tail ≤ ring_slots
    differs n full room more =
        let few = free n tail (word_difference n tail) full (omega arith) room in
        omega (arith, more, few)

-- TAIL is moved to where they begin
pub moved_there : (f : ℕ → ℕ) (tail to i : ℕ) (ws : List ℕ) → to ≡ i % 0x10000 → Window f tail i ws → Window f to i ws
moved_there f tail to i ws e w =
    let head = w.head in
    let near = w.near in
    let room = w.room in
    let is : word_difference (f head_place) to ≡ length ws = omega (arith, head, e, near, room) in
    record { stands = w.stands; head = head; near = omega (arith, is); room = omega (arith, is, near, room) }

-- the first of them are given away
pub given_away : (f : ℕ → ℕ) (tail i : ℕ) (ts rs : List ℕ) → Window f tail i (ts ++ rs) → Window f tail (i + length ts) rs
given_away f tail i ts rs w =
    let head = w.head in
    let near = w.near in
    let long = length-append ts rs in
    record {
      stands = stands_behind f i ts rs w.stands;
      head = head ∙ (let e : (i + length (ts ++ rs)) % 0x10000 ≡ ((i + length ts) + length rs) % 0x10000 = omega (arith, long) in e);
      near = omega (arith, near, long);
      room = w.room;
    }
