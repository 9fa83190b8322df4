-- The next word of the ring, and the index that a transition leaves.
use Rattle.word_code.proofs.Names.{◌≡◌, ℕ, ◌+◌, ◌-◌, ◌*◌, ◌%◌, ◌<◌, ◌==◌, Bool, true, false, not, if◌then◌else◌, List, [], ◌∷◌, length, refl, sym, ap, ◌∙◌}
use Rattle.word_code.proofs.Names.{subst, append_assoc}
use Rattle.word_code.proofs.Names.{◌++◌, Effect, behind_effects, All, arith, bit_and, and_mask, Store, put, IsPlace, R4, Core, Stands, forms_bytes, Runs}
use Rattle.word_code.proofs.Names.{WordState, Behaviour, stored, pushed}
use Rattle.word_code.proofs.Names.{next_event, freeze_events, event_index, none_answered, word_answered, event_pushed, events_frozen, with_looks}
use Rattle.word_code.proofs.Names.{Waiting, flushed, event_code, freeze_code}
use Rattle.array_versions.specs.machine_effects.Inputs.{Look, first_look, other_looks, look_effects}
use Rattle.code_forms.specs.Forms.{IsSlot}
use Rattle.array_versions.specs.machine_effects.event_places.Places.{tail_place, count_place, sent_place, answer_place, head_place, ring_place, slot_place}
use Rattle.word_code.specs.declared.waiting.Waiting.TheVariants as waiting
use Rattle.word_code.proofs.Registers.{Has, equal_flag}
use Rattle.word_code.proofs.ListParts.{plus_none}
use Rattle.word_code.proofs.Routes.{on, jump, look_route, store_route, starts}
use Rattle.word_code.proofs.Stretches.{Setting, so_runs}
use Rattle.word_code.proofs.Follows.{StandsFor, Follows}
use Rattle.word_code.proofs.Operands.{Describes, owed, dressed, flush_part, waits_more}
use Rattle.word_code.proofs.Results.{Does, StepDoes, does_behind, alone_part}

-- what is seen at HEAD is a word
pub look_small : (looks : List Look) → All (λ look. (a : ℕ) → look a < 0x10000) looks → first_look looks head_place < 0x10000
look_small [] h = omega arith
look_small (look ∷ looks) h = h 0 look (omega arith) head_place

-- the words of FRAM that count events are places
tail_fits : IsPlace tail_place
tail_fits = record { even = refl; low = omega arith; high = omega arith }

count_fits : IsPlace count_place
count_fits = record { even = refl; low = omega arith; high = omega arith }

sent_fits : IsPlace sent_place
sent_fits = record { even = refl; low = omega arith; high = omega arith }

answer_fits : IsPlace answer_place
answer_fits = record { even = refl; low = omega arith; high = omega arith }

-- the index of the next word, and the offset of its slot, as the code has them
abbrev index : (ℕ → ℕ) → ℕ
index f = (f tail_place + f count_place + 0) % 0x10000

abbrev offset : ℕ → ℕ
offset i = let k = bit_and i 63 in (k + k + 0) % 0x10000

index_is : (f : ℕ → ℕ) → index f ≡ event_index f
index_is f = plus_none (f tail_place) (f count_place)

slot_is : (i : ℕ) → offset i + ring_place ≡ slot_place i
slot_is i = let masked : bit_and i 63 ≡ i % 64 = and_mask i 6 in omega (arith, masked)

-- the word of a slot is one of the ring
slot_fits : (i : ℕ) → IsSlot (slot_place i)
slot_fits i = record { even = omega arith; low = omega arith; high = omega arith }

module _ (z : Setting) where
  -- what the code sees at HEAD, and then at the slot, by the looks that are left
  module _ (pc : ℕ) (w : WordState) (t : Core) (h : Stands z.code pc event_code) (i : StandsFor z pc w t) where
    abbrev looks : List Look
    looks = w.inputs.looks

    abbrev others : List Look
    others = other_looks looks

    abbrev first : Look
    first = first_look looks

    abbrev second : Look
    second = first_look others

    -- the effects of both looks, in front of these
    abbrev seen : List Effect → List Effect
    seen es = look_effects looks ++ (look_effects others ++ es)

    -- as the code has them
    seen_is : (es : List Effect) → (look_effects looks ++ (look_effects others ++ [])) ++ es ≡ seen es
    seen_is es =
        append_assoc (look_effects looks) (look_effects others ++ []) es ∙ ap (λ l. look_effects looks ++ l) (append_assoc (look_effects others) [] es)

    abbrev at : ℕ
    at = event_index w.fram

    abbrev word : ℕ
    word = second (slot_place at)

    abbrev end : ℕ
    end = pc + forms_bytes event_code

    -- the state behind both looks
    abbrev left : WordState
    left = with_looks (other_looks others) w

    -- the flag by which both jumps go
    equal_is : (b : Bool) → first head_place < 0x10000 → (at == first head_place) ≡ b
        → ((index w.fram + (0xFFFF - first head_place) + 1) % 0x10000 == 0) ≡ b
    equal_is b small e =
        ap (λ k. (k + (0xFFFF - first head_place) + 1) % 0x10000 == 0) (index_is w.fram) ∙ equal_flag at (first head_place) (omega arith) small ∙ e

    -- the address that is seen second
    slot : offset (index w.fram) + ring_place ≡ slot_place at
    slot = ap (λ k. offset k + ring_place) (index_is w.fram) ∙ slot_is at

    slot_seen : IsSlot (offset (index w.fram) + ring_place)
    slot_seen = subst IsSlot (sym slot) (slot_fits at)

    -- nothing waits
    none_part : first head_place < 0x10000 → (at == first head_place) ≡ true
        → Runs z.kept (seen (Store answer_place 0 ∷ [])) 25 t (Has z R4 end (stored answer_place 0 left) 0)
    none_part small e =
        let equal = equal_is true small e in
        look_route z pc event_code h 0 (starts z i) (refl, refl, refl, refl) (on 7 ∷ jump false ∷ on 2 ∷ jump true ∷ [])
        (seen (Store answer_place 0 ∷ []))
        (put w.fram answer_place 0) left.inputs 25 _ (
          _,
          ((tail_fits, tt), ((tt, count_fits), ((tt, tt), ((tt, tt), ((tt, tt), ((tt, tt), ((slot_seen, tt), tt))))))),
          (refl, (refl, ap not equal, refl, (_, ((tt, tt), ((tt, answer_fits), tt)), (refl, (refl, equal, refl, tt))))),
        ) refl refl (seen_is (Store answer_place 0 ∷ [])) refl refl
        (λ s. record { is = s; held = refl })

    -- a word does
    word_part : first head_place < 0x10000 → (at == first head_place) ≡ false
        → (let n = (w.fram count_place + 1) % 0x10000 in
        Runs z.kept (seen (Store answer_place word ∷ Store count_place n ∷ [])) 28 t (Has z R4 end (stored count_place n (stored answer_place word left)) word))
    word_part small e =
        let n = (w.fram count_place + 1) % 0x10000 in
        let equal = equal_is false small e in
        let same : second (offset (index w.fram) + ring_place) ≡ word = ap second slot in
        let up : (w.fram count_place + 1 + 0) % 0x10000 ≡ n = plus_none (w.fram count_place) 1 in
        look_route z pc event_code h 0 (starts z i) (refl, refl, refl, refl) (on 7 ∷ jump true ∷ on 1 ∷ jump false ∷ on 1 ∷ [])
        (seen (Store answer_place word ∷ Store count_place n ∷ [])) (put (put w.fram answer_place word) count_place n) left.inputs 28 _ (
          _,
          ((tail_fits, tt), ((tt, count_fits), ((tt, tt), ((tt, tt), ((tt, tt), ((tt, tt), ((slot_seen, tt), tt))))))),
          (refl, (refl, ap not equal, refl, (_, ((tt, answer_fits), tt), (refl, (refl, equal, refl, (_, ((tt, refl, tt, count_fits), tt), (refl, tt))))))),
        ) refl
        refl (seen_is _ ∙ (λ k. seen (Store answer_place (same k) ∷ Store count_place (up k) ∷ [])))
        (λ k. put (put w.fram answer_place (same k)) count_place (up k)) refl
        (λ s. record { is = s; held = same })

    -- by whether the index is HEAD
    answer_by : (b : Bool) → (at == first head_place) ≡ b → first head_place < 0x10000 → length w.stack < z.room
        → (let x : Behaviour = if b then none_answered left else (word_answered word left) in
        Does z (waiting.R4 ∷ []) end 31 t (behind_effects (look_effects looks) (behind_effects (look_effects others) x)))
    answer_by true e small room =
        record {
          spent = 25;
          within = omega arith;
          runs = so_runs (none_part small e) (λ q k. waits_more z waiting.R4 [] end _ 0 q tt k.held room (dressed z end _ q k.is));
        }
    answer_by false e small room =
        record {
          spent = 28;
          within = omega arith;
          runs = so_runs (word_part small e) (λ q k. waits_more z waiting.R4 [] end _ word q tt k.held room (dressed z end _ q k.is));
        }

  -- the next word of the ring, or 0
  pub event_part : (os : List Waiting) (pc : ℕ) (w : WordState) (u : Core) → length w.stack < z.room → first_look w.inputs.looks head_place < 0x10000
      → StepDoes z [] os next_event 31 pc w u (event_pushed w.inputs.looks w)
  event_part os pc w u room small h d =
      does_behind z (flushed os) event_code (waiting.R4 ∷ []) 31 (31 + owed os) pc u (event_pushed w.inputs.looks w) (omega arith) h
      (flush_part z os pc w u d) (λ t s k. answer_by (pc + forms_bytes (flushed os)) w t s k (event_index w.fram == first_look w.inputs.looks head_place)
      refl small room)

  -- the index of the next word is stored
  frozen_part : (pc : ℕ) (w : WordState) (t : Core) → Stands z.code pc freeze_code → StandsFor z pc w t
      → Follows z (pc + forms_bytes freeze_code) 10 t (events_frozen w)
  frozen_part pc w t h i =
      let v = event_index w.fram in
      let is = index_is w.fram in
      store_route z pc freeze_code h 0 (starts z i) (refl, refl, refl, refl) (on 3 ∷ []) (Store sent_place v ∷ []) (put w.fram sent_place v) 10 _
      (_, ((tail_fits, tt), ((tt, count_fits), ((tt, sent_fits), tt))), (refl, tt)) refl refl
      (λ k. Store sent_place (is k) ∷ []) (λ k. put w.fram sent_place (is k)) (λ s. s)

  pub freeze_part : (os : List Waiting) (pc : ℕ) (w : WordState) (u : Core) → StepDoes z [] os freeze_events 10 pc w u (events_frozen w)
  freeze_part os pc w u h d =
      alone_part z os freeze_code 10 pc w u (events_frozen w) h d (λ t s i. frozen_part (pc + forms_bytes (flushed os)) w t s i)
