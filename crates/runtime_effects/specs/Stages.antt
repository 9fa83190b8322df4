-- What commit, attempt start and boot do to FRAM and to the receiver, in the order of their stores, from what FRAM holds.
use Rattle.std.specs.Prelude.{ℕ, zero, suc, ◌+◌, ◌%◌, ◌==◌, if◌then◌else◌, Bool, List, [], ◌∷◌, ◌++◌}
use Rattle.machine_effects.specs.fram_board.Effects.{Effect, Store, Outside, Offered}
use Rattle.machine_effects.specs.World.{put, fram_after}
use Rattle.memory_map.specs.declared.words.RuntimeWord.TheVariants.{CurrentTask, NextTask, Gate, ListLength, EmitCount, Base, SentBase, Version}
use Rattle.memory_map.specs.MemoryMap.{MemoryMap, word_place, where_events}
use Rattle.memory_map.specs.event_places.Places.{tail_place, count_place, sent_place}
use Rattle.runtime_effects.specs.Places.{CopyPair, listed}

-- copies go home, the first one first, each as FRAM then is
abbrev pub copied_home : List CopyPair → (ℕ → ℕ) → List Effect
copied_home [] f = []
copied_home (x ∷ xs) f = Store x.home (f x.copy) ∷ copied_home xs (put f x.home (f x.copy))

-- so many words from an address on are sent, numbered from a number on, modulo 65536
abbrev pub sends : ℕ → ℕ → ℕ → (ℕ → ℕ) → List Effect
sends zero number p f = []
sends (suc n) number p f = Outside (Offered number (f p)) ∷ sends n ((number + 1) % 0x10000) (p + 2) f

-- the emitted words, EN of them, numbered from SB on
abbrev pub emits_sent : MemoryMap → (ℕ → ℕ) → List Effect
emits_sent m f = sends (f (word_place m EmitCount)) (f (word_place m SentBase)) m.emits.address f

-- where the program takes events: TAIL := SE
abbrev pub tail_moved : MemoryMap → (ℕ → ℕ) → List Effect
tail_moved m f = where_events m.runtime.events (Store tail_place (f sent_place) ∷ [])

-- a commit's last stores: TAIL := SE, where there are events; CUR := NEXT, BASE := SB + EN, GATE := 0
abbrev pub commit_closed : MemoryMap → (ℕ → ℕ) → List Effect
commit_closed m f =
    tail_moved m f
    ++ (Store (word_place m CurrentTask) (f (word_place m NextTask))
    ∷ Store (word_place m Base) ((f (word_place m SentBase) + f (word_place m EmitCount)) % 0x10000) ∷ Store (word_place m Gate) 0 ∷ [])

-- the commit: the listed words are copied home, the emitted words are sent, then the last stores
abbrev pub commit_effects : MemoryMap → (ℕ → ℕ) → List Effect
commit_effects m f = copied_home (listed m f) f ++ (emits_sent m f ++ commit_closed m f)

-- so many words from an address on become 0
abbrev pub cleared : ℕ → ℕ → List Effect
cleared zero p = []
cleared (suc n) p = Store p 0 ∷ cleared n (p + 2)

-- VER is at its end, and no greater number is left for an attempt
abbrev pub is_at_end : MemoryMap → (ℕ → ℕ) → Bool
is_at_end m f = f (word_place m Version) == 0xFFFF

-- the clearing, where it comes: every version word := 0, then VER := 0
abbrev pub clearing_if : MemoryMap → Bool → List Effect
clearing_if m comes = if comes then cleared m.versions.words m.versions.address ++ (Store (word_place m Version) 0 ∷ []) else []

-- where the program takes events: EC := 0
abbrev pub count_cleared : MemoryMap → List Effect
count_cleared m = where_events m.runtime.events (Store count_place 0 ∷ [])

-- VER := VER + 1, CLN := 0, EN := 0, and EC := 0, where there are events
abbrev pub counting_effects : MemoryMap → (ℕ → ℕ) → List Effect
counting_effects m f =
    Store (word_place m Version) ((f (word_place m Version) + 1) % 0x10000) ∷ Store (word_place m ListLength) 0 ∷ Store (word_place m EmitCount) 0
    ∷ count_cleared m

-- an attempt's opening: the clearing where VER is at its end; then the attempt has its own number, and nothing listed, emitted or taken of the ring
abbrev pub opening_effects : MemoryMap → (ℕ → ℕ) → List Effect
opening_effects m f = let es = clearing_if m (is_at_end m f) in es ++ counting_effects m (fram_after es f)

-- homes are copied, the first one first, each as FRAM then is
abbrev pub copied_in : List CopyPair → (ℕ → ℕ) → List Effect
copied_in [] f = []
copied_in (x ∷ xs) f = Store x.copy (f x.home) ∷ copied_in xs (put f x.copy (f x.home))

-- an attempt's start: its opening, then the private scalars of the task that CUR names are copied
abbrev pub start_effects : MemoryMap → (ℕ → List CopyPair) → (ℕ → ℕ) → List Effect
start_effects m privates f = let es = opening_effects m f in es ++ copied_in (privates (f (word_place m CurrentTask))) (fram_after es f)

-- what a boot has to do first: the commit where GATE is 1, from its start
abbrev pub pending_effects : MemoryMap → (ℕ → ℕ) → List Effect
pending_effects m f = if f (word_place m Gate) == 1 then commit_effects m f else []

-- a boot, up to the task: the commit where GATE is 1, then an attempt's start
abbrev pub boot_effects : MemoryMap → (ℕ → List CopyPair) → (ℕ → ℕ) → List Effect
boot_effects m privates f = let es = pending_effects m f in es ++ start_effects m privates (fram_after es f)
