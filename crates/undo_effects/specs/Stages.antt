-- What start, first stores to elements, commit and recovery do under undo, in the order of their stores, from what FRAM holds.
use Rattle.std.specs.Prelude.{ℕ, ◌+◌, ◌%◌, ◌==◌, if◌then◌else◌, List, [], ◌∷◌, ◌++◌}
use Rattle.runtime_effects.specs.fram_board.Effects.{Effect, Store}
use Rattle.runtime_effects.specs.machine_effects.World.{fram_after}
use Rattle.runtime_effects.specs.memory_map.declared.words.RuntimeWord.TheVariants.{CurrentTask, NextTask, Gate, ListLength, EmitCount, Base, SentBase, Version}
use Rattle.runtime_effects.specs.memory_map.MemoryMap.{MemoryMap, word_place}
use Rattle.runtime_effects.specs.Stages.{emits_sent, tail_moved, is_at_end, clearing_if, count_cleared}
use Rattle.undo_effects.specs.Entries.{Logged, entry_place, logged}

-- ---- the list

-- a word is logged: an entry of its address and of the word there, and then the entry counts
abbrev pub word_logged : MemoryMap → ℕ → (ℕ → ℕ) → List Effect
word_logged m a f =
    let n = f (word_place m ListLength) in
    Store (entry_place m n) a ∷ Store (entry_place m n + 2) (f a) ∷ Store (word_place m ListLength) ((n + 1) % 0x10000) ∷ []

-- words are logged, the first one first, each as FRAM then is
abbrev pub words_logged : MemoryMap → List ℕ → (ℕ → ℕ) → List Effect
words_logged m [] f = []
words_logged m (a ∷ rest) f = let es = word_logged m a f in es ++ words_logged m rest (fram_after es f)

-- in front of a store to an element, whose version word this is: where that is VER, nothing; else the element is logged, and its version word
-- becomes VER
abbrev pub first_logged : MemoryMap → ℕ → ℕ → (ℕ → ℕ) → List Effect
first_logged m element version f =
    if f version == f (word_place m Version) then [] else word_logged m element f ++ (Store version (f (word_place m Version)) ∷ [])

-- a store of a word to an element
abbrev pub element_stored : MemoryMap → ℕ → ℕ → ℕ → (ℕ → ℕ) → List Effect
element_stored m element version w f = first_logged m element version f ++ (Store element w ∷ [])

-- entries are put back, the last one first
abbrev pub put_back : List Logged → List Effect
put_back [] = []
put_back (e ∷ es) = put_back es ++ (Store e.address e.word ∷ [])

-- the recovery: the entries of the list are put back, and then none is left
abbrev pub recovery : MemoryMap → (ℕ → ℕ) → List Effect
recovery m f = put_back (logged m f) ++ (Store (word_place m ListLength) 0 ∷ [])

-- ---- the start

-- VER := VER + 1, EN := 0, and EC := 0, where there are events
abbrev pub numbering_effects : MemoryMap → (ℕ → ℕ) → List Effect
numbering_effects m f =
    Store (word_place m Version) ((f (word_place m Version) + 1) % 0x10000) ∷ Store (word_place m EmitCount) 0 ∷ count_cleared m

-- an attempt's opening: the clearing where VER is at its end; then the attempt has its own number, and nothing emitted or taken of the ring
abbrev pub undo_opening : MemoryMap → (ℕ → ℕ) → List Effect
undo_opening m f = let es = clearing_if m (is_at_end m f) in es ++ numbering_effects m (fram_after es f)

-- an attempt's start: its opening, then the words of the private scalars of the task that CUR names are logged
abbrev pub undo_start : MemoryMap → (ℕ → List ℕ) → (ℕ → ℕ) → List Effect
undo_start m privates f = let es = undo_opening m f in es ++ words_logged m (privates (f (word_place m CurrentTask))) (fram_after es f)

-- ---- commit and boot

-- CUR := NEXT, BASE := SB + EN
abbrev pub moved_on : MemoryMap → (ℕ → ℕ) → List Effect
moved_on m f =
    Store (word_place m CurrentTask) (f (word_place m NextTask))
    ∷ Store (word_place m Base) ((f (word_place m SentBase) + f (word_place m EmitCount)) % 0x10000) ∷ []

-- CLN := 0, GATE := 0
abbrev pub let_go : MemoryMap → List Effect
let_go m = Store (word_place m ListLength) 0 ∷ Store (word_place m Gate) 0 ∷ []

-- the commit: the emitted words are sent; TAIL := SE, where there are events; CUR := NEXT, BASE := SB + EN; CLN := 0, GATE := 0
abbrev pub undo_commit : MemoryMap → (ℕ → ℕ) → List Effect
undo_commit m f = emits_sent m f ++ (tail_moved m f ++ (moved_on m f ++ let_go m))

-- what a boot has to do first: the commit where GATE is 1, else the recovery
abbrev pub undo_pending : MemoryMap → (ℕ → ℕ) → List Effect
undo_pending m f = if f (word_place m Gate) == 1 then undo_commit m f else recovery m f

-- a boot, up to the task
abbrev pub undo_boot : MemoryMap → (ℕ → List ℕ) → (ℕ → ℕ) → List Effect
undo_boot m privates f = let es = undo_pending m f in es ++ undo_start m privates (fram_after es f)
