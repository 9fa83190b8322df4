-- The commit's code: its listing.
use Rattle.std.specs.Prelude.{ℕ, ◌+◌, ◌*◌, Bool, List, [], ◌∷◌, ◌++◌}
use Rattle.runtime_code.specs.msp_isa.declared.instructions.TwoOp.TheVariants.{Add, Sub}
use Rattle.runtime_code.specs.msp_isa.declared.operands.Konst.TheVariants.{Zero, One, Two}
use Rattle.runtime_code.specs.msp_isa.declared.instructions.Condition.TheVariants.{Carry, Always}
use Rattle.runtime_code.specs.code_forms.Forms.{Form, Move, Calculate, Jump, Branch, R4, R5, R6, R7, R8}
use Rattle.runtime_code.specs.code_forms.Forms.{Register, Constant, Fram, PointedNext, ToRegister, ToFram, ToPointed}
use Rattle.memory_map.specs.declared.words.RuntimeWord.TheVariants.{CurrentTask, NextTask, Gate, ListLength, Base}
use Rattle.memory_map.specs.MemoryMap.{MemoryMap, word_place, where_events, with_events}
use Rattle.memory_map.specs.event_places.Places.{tail_place, sent_place}
use Rattle.runtime_code.specs.Counted.{over, back_over, counted, if_any}
pub use Rattle.runtime_code.specs.Sending.{sends_begin, send_turn, send_loop, sending}

-- R4 := CLN
abbrev pub copies_begin : MemoryMap → List Form
copies_begin m = Move (Fram (word_place m ListLength)) (ToRegister R4) ∷ []

-- an entry is read: its home to R6, its copy to R7, its words to R8
abbrev pub entry_begin : List Form
entry_begin = Move (PointedNext R5) (ToRegister R6) ∷ Move (PointedNext R5) (ToRegister R7) ∷ Move (PointedNext R5) (ToRegister R8) ∷ []

-- a word goes home
abbrev pub word_moved : List Form
word_moved = Move (PointedNext R7) (ToPointed R6) ∷ Calculate Add (Constant Two) R6 ∷ []

-- one word less in R8
abbrev pub word_counted : List Form
word_counted = Calculate Sub (Constant One) R8 ∷ []

-- one word after another goes home, and R8 is counted down before each: it begins at the count, and leaves where nothing was left
abbrev pub word_loop : List Form
word_loop = over Always word_moved ∷ (word_moved ++ (word_counted ++ (Jump Carry (back_over (word_moved ++ word_counted)) ∷ [])))

-- for each entry of the commit list its words go home
abbrev pub copy_loop : MemoryMap → List Form
copy_loop m = counted m.list.address (entry_begin ++ word_loop)

-- TAIL := SE
abbrev pub tail_set : List Form
tail_set = Move (Fram sent_place) (ToFram tail_place) ∷ []

-- the same where there are events
abbrev pub events_taken : MemoryMap → List Form
events_taken m = where_events m.runtime.events tail_set

-- CUR := NEXT, BASE := the number in R7, GATE := 0
abbrev pub closing : MemoryMap → List Form
closing m =
    Move (Fram (word_place m NextTask)) (ToFram (word_place m CurrentTask)) ∷ Move (Register R7) (ToFram (word_place m Base))
    ∷ Move (Constant Zero) (ToFram (word_place m Gate)) ∷ []

-- the commit, and the branch to an attempt's start at this address: 41 words, 3 more where there are events
abbrev pub commit_forms : MemoryMap → ℕ → List Form
commit_forms m start = copies_begin m ++ (copy_loop m ++ (sends_begin m ++ (send_loop m ++ (events_taken m ++ (closing m ++ (Branch start ∷ []))))))

-- its length in bytes, by whether there are events
abbrev pub commit_bytes : Bool → ℕ
commit_bytes events = 82 + with_events events 6

-- its steps, by whether there are events, by the entries, the words that they name, and the emitted words
abbrev pub commit_steps : Bool → ℕ → ℕ → ℕ → ℕ
commit_steps events entries words emits =
    11 + with_events events 1 + (if_any entries 1 + 8 * entries + 4 * words) + (if_any emits 1 + 5 * emits)

-- its cycles: 29, and 3 for the branch, 6 more where there are events; each loop that has a turn takes 2 to begin
abbrev pub commit_cycles : Bool → ℕ → ℕ → ℕ → ℕ
commit_cycles events entries words emits =
    32 + with_events events 6 + (if_any entries 2 + 14 * entries + 9 * words) + (if_any emits 2 + 13 * emits)
