-- The runtime's words and buffers in a memory map.
use Rattle.std.proofs.Common.{◌≡◌, ℕ, ◌+◌, ◌*◌, ◌%◌, ◌<◌, ◌≤◌, List, [], ◌∷◌, inl, inr, arith}
use Rattle.std.specs.List.{All, flat_map}
use Rattle.std.proofs.lemmas.List.Elements.{All-weaker, All-nil, All-head, All-tail, All-append}
use Rattle.runtime_effects.specs.address_space.Limits.{program_end}
use Rattle.runtime_effects.specs.machine_effects.Machine.{IsPlace}
use Rattle.runtime_effects.specs.memory_map.declared.place.PrivateScalar.{PrivateScalar}
use Rattle.runtime_effects.specs.memory_map.declared.words.RuntimeWord.TheVariants.{NextTask, EmitCount, SentBase}
use Rattle.runtime_effects.specs.memory_map.MemoryMap.{MemoryMap, word_place}
use Rattle.runtime_effects.specs.memory_map.Places.{end_of, scalar_words, HasItsPlace, IsLaidOut}
use Rattle.runtime_effects.proofs.memory_map.Interface.{apart_of, parts_in_fram, words_stand, private_home, private_copy}
use Rattle.runtime_effects.specs.Needs.{ArePairWords}
use Rattle.runtime_effects.specs.Places.{scalar_pairs}
use Rattle.runtime_effects.proofs.Interface.{run_all}
use Rattle.runtime_code.specs.LayoutPlaces.{pairs_of}
use Rattle.runtime_code.specs.Laws.{PlacesAreInFram, OpeningKeepsTask, HomesLeaveCommit, PrivatesAreWords}

pub places_are_in_fram : PlacesAreInFram
places_are_in_fram l h =
    let row = (apart_of l h).list in
    let list = (apart_of l h).emits in
    let r = parts_in_fram l h in
    let emits = r.emits.end in let first = r.list.end in
    record {
      words = λ w.
          let stands = words_stand l w h in
          let is = stands.is_fram in let below = stands.below in
          record { even = is.even; low = is.low; high = omega (arith, below, first) };
      row = omega (arith, row, first);
      list = record { even = r.list.even; low = r.list.from; high = omega (arith, list, emits) };
      emits = record { even = r.emits.even; low = r.emits.from; high = emits };
      versions = record { even = r.versions.even; low = r.versions.from; high = r.versions.end };
    }

-- CUR stands in front of the version words
pub opening_keeps_task : OpeningKeepsTask
opening_keeps_task l h =
    let a = apart_of l h in
    let list = a.list in let emits = a.emits in let versions = a.versions in
    let end = (parts_in_fram l h).list.end in
    record { event_count = λ e. omega (arith, e, list, end); versions = inl (omega (arith, list, emits, versions)) }

-- shared words are behind all that a commit reads
pub homes_leave_commit : HomesLeaveCommit
homes_leave_commit l a h low high =
    let k = apart_of l h in
    let row = k.list in let list = k.emits in let emits = k.versions in let versions = k.homes in
    let v : l.versions.address ≤ a = omega (arith, versions, low) in
    let e : end_of l.emits ≤ a = omega (arith, emits, v) in
    let i : l.list.address + 6 * l.entries ≤ a = omega (arith, list, e) in
    let end = (parts_in_fram l h).homes.end in
    record {
      next_task = λ q. let same : a ≡ word_place l NextTask = q in omega (arith, same, row, i);
      emit_count = λ q. let same : a ≡ word_place l EmitCount = q in omega (arith, same, row, i);
      sent_base = λ q. let same : a ≡ word_place l SentBase = q in omega (arith, same, row, i);
      sent_tail = λ q. omega (arith, q, high, end);
      list = inr i;
      emits = inr e;
    }

-- ---- private scalars

word_pairs : (l : MemoryMap) → IsLaidOut l → (s : PrivateScalar) → HasItsPlace l.variables s → All ArePairWords (scalar_pairs s)
word_pairs l h s p =
    let home = private_home l h s p in
    let copy = private_copy l h s p in
    let apart = (apart_of l h).copies in
    let r = parts_in_fram l h in
    run_all ArePairWords (scalar_words s.width) s.home s.copy (λ i below. record {
      home = word_in i (scalar_words s.width) s.home l.homes.address (end_of l.homes) below home.even home.from home.end r.homes.from r.homes.end;
      copy = word_in i (scalar_words s.width) s.copy l.copies.address (end_of l.copies) below copy.even copy.from copy.end r.copies.from r.copies.end;
    })
  where
    word_in : (i n a from end : ℕ) → i < n → a % 2 ≡ 0 → from ≤ a → a + 2 * n ≤ end → 0x4400 ≤ from → end ≤ program_end → IsPlace (2 * i + a)
    word_in i n a from end below even low high first last =
        record { even = omega (arith, even); low = omega (arith, low, first); high = omega (arith, below, high, last) }

pub privates_are_words : PrivatesAreWords
privates_are_words l h =
    All-weaker (λ t. All (HasItsPlace l.variables) t.privates) (λ t. All ArePairWords (pairs_of t))
    (λ t p. each_pair t.privates p) l.tasks h.privates
  where
    each_pair : (xs : List PrivateScalar) → All (HasItsPlace l.variables) xs → All ArePairWords (flat_map scalar_pairs xs)
    each_pair [] p = All-nil ArePairWords
    each_pair (s ∷ xs) p = All-append ArePairWords (scalar_pairs s) (flat_map scalar_pairs xs) (word_pairs l h s (All-head (HasItsPlace l.variables) s xs p))
        (each_pair xs (All-tail (HasItsPlace l.variables) s xs p))
