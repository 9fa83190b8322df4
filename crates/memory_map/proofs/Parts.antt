-- The regions of a memory map, and the words of the runtime in front of them.
use Rattle.std.proofs.Common.{◌≡◌, ℕ, ◌+◌, ◌*◌, ◌%◌, ◌<◌, ◌≤◌, ◌==◌, if◌then◌else◌, arith, subst, refl, sym, ◌∙◌, ap, Some}
use Rattle.std.specs.Prelude.{slice_get}
use Rattle.address_space.specs.Limits.{fram_first, program_end}
use Rattle.memory_map.specs.declared.place.Region.{Region}
use Rattle.memory_map.specs.declared.words.RuntimeWord.{RuntimeWord}
use Rattle.memory_map.specs.declared.words.RuntimeWord.TheVariants.{CurrentTask, NextTask, Gate, ListLength, EmitCount, Base, SentBase, Version}
use Rattle.memory_map.specs.Words.{index_of, row_words}
use Rattle.memory_map.specs.MemoryMap.{MemoryMap, word_place, parts}
use Rattle.memory_map.specs.Places.{list_entry_room, AreInOrder, IsLaidOut}
use Rattle.memory_map.specs.Laws.{AreApart, AreEven, IsInFram, PartsInFram, WordsStand, WordsDiffer}
use Rattle.memory_map.proofs.InOrder.{in_order_within}

-- ---- the regions

-- what the chain says of each region
record Parts (m : MemoryMap) : Type 0 where
  pub apart : AreApart m
  pub even : AreEven m

list_end : (a words entries b : ℕ) → words ≡ list_entry_room * entries → a + 2 * words ≤ b → a + 2 * (list_entry_room * entries) ≤ b
list_end a words entries b e h = subst (λ n. a + 2 * n ≤ b) e h

parts_of : (m : MemoryMap) → m.list.words ≡ list_entry_room * m.entries → AreInOrder fram_first (parts m) program_end → Parts m
parts_of m e (row, (list, (emits, (versions, (homes, (copies, (boot, (commit, (code, high))))))))) = record {
  apart = record {
    row = row.from;
    list = list.from;
    emits = list_end m.list.address m.list.words m.entries m.emits.address e emits.from;
    versions = versions.from;
    homes = homes.from;
    copies = copies.from;
    boot = boot.from;
    commit = commit.from;
    code = code.from;
    high = high;
  };
  even = record {
    row = row.even;
    list = list.even;
    emits = emits.even;
    versions = versions.even;
    homes = homes.even;
    copies = copies.even;
    boot = boot.even;
    commit = commit.even;
    code = code.even;
  };
}

-- each region begins behind the one before
pub apart_of : (m : MemoryMap) → IsLaidOut m → AreApart m
apart_of m h = (parts_of m h.list h.chain).apart

-- each region begins at an even address
pub even_of : (m : MemoryMap) → IsLaidOut m → AreEven m
even_of m h = (parts_of m h.list h.chain).even

-- a region of the map by its number
in_fram : (m : MemoryMap) → IsLaidOut m → (k : ℕ) (r : Region) → slice_get (parts m) k ≡ Some r → IsInFram r
in_fram m h k r e =
    let w = in_order_within fram_first (parts m) program_end k r h.chain e in
    record { even = w.even; from = w.from; end = w.end }

-- each region is in the FRAM
pub parts_in_fram : (m : MemoryMap) → IsLaidOut m → PartsInFram m
parts_in_fram m h = record {
  list = in_fram m h 1 m.list refl;
  emits = in_fram m h 2 m.emits refl;
  versions = in_fram m h 3 m.versions refl;
  homes = in_fram m h 4 m.homes refl;
  copies = in_fram m h 5 m.copies refl;
  boot = in_fram m h 6 m.boot refl;
  commit = in_fram m h 7 m.commit refl;
  code = in_fram m h 8 m.code refl;
}

-- ---- the words of the runtime

index_below : (w : RuntimeWord) → index_of w < row_words
index_below CurrentTask = omega arith
index_below NextTask = omega arith
index_below Gate = omega arith
index_below ListLength = omega arith
index_below EmitCount = omega arith
index_below Base = omega arith
index_below SentBase = omega arith
index_below Version = omega arith

-- a word of the row, by its index
record Stands (row i list : ℕ) : Type 0 where
  pub even : (row + 2 * i) % 2 ≡ 0
  pub from : fram_first ≤ row + 2 * i
  pub behind : row ≤ row + 2 * i
  pub below : row + 2 * i + 2 ≤ list

stands : (row i list : ℕ) → i < row_words → row % 2 ≡ 0 → fram_first ≤ row → row + 2 * row_words ≤ list → Stands row i list
stands row i list lt even low high = record {
  even = omega (arith, even);
  from = omega (arith, low);
  behind = omega arith;
  below = omega (arith, lt, high);
}

-- each word of the runtime is a word of the FRAM, in front of all else
pub words_stand : WordsStand
words_stand m w h =
    let a = apart_of m h in
    let s = stands m.row (index_of w) m.list.address (index_below w) (even_of m h).row a.row a.list in
    let end = (parts_in_fram m h).list.end in
    let below = s.below in
    record {
      is_fram = record { even = s.even; low = s.from; high = omega (arith, end, below) };
      from = s.behind;
      below = s.below;
    }

-- ---- they differ

-- the word of an index
word_at : ℕ → RuntimeWord
word_at i = if i == 0 then CurrentTask
    else if i == 1 then NextTask
    else if i == 2 then Gate
    else if i == 3 then ListLength
    else if i == 4 then EmitCount
    else if i == 5 then Base
    else if i == 6 then SentBase
    else Version

is_at : (w : RuntimeWord) → word_at (index_of w) ≡ w
unfolding word_at
is_at CurrentTask = refl
is_at NextTask = refl
is_at Gate = refl
is_at ListLength = refl
is_at EmitCount = refl
is_at Base = refl
is_at SentBase = refl
is_at Version = refl

-- one address is that of one word
pub words_differ : WordsDiffer
words_differ m v w e =
    let same : index_of v ≡ index_of w = same_index m.row (index_of v) (index_of w) e in
    sym (is_at v) ∙ ap word_at same ∙ is_at w
  where
    same_index : (row i j : ℕ) → row + 2 * i ≡ row + 2 * j → i ≡ j
    same_index row i j e = omega (arith, e)

-- each stands at an even address
pub word_even : (m : MemoryMap) (w : RuntimeWord) → m.row % 2 ≡ 0 → word_place m w % 2 ≡ 0
word_even m w even = by m.row (index_of w) even
  where
    by : (row i : ℕ) → row % 2 ≡ 0 → (row + 2 * i) % 2 ≡ 0
    by row i e = omega (arith, e)
