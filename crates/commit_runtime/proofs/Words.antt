-- The length of the commit's code.
use Rattle.std.proofs.Common.{ℕ, List, [], ◌∷◌, ◌++◌, arith, ◌∙◌}
use Rattle.runtime_code.specs.code_forms.Forms.{Form, Branch}
use Rattle.runtime_code.specs.code_forms.Code.{forms_bytes}
use Rattle.runtime_code.specs.code_forms.Placed.{instructions, AreInstructions}
use Rattle.runtime_code.proofs.code_forms.Interface.{forms_bytes-append}
use Rattle.runtime_code.proofs.Interface.{code_bytes, are_instructions-append, where_bytes, where_instructions}
use Rattle.memory_map.specs.MemoryMap.{MemoryMap}
use Rattle.commit_runtime.specs.Listing.{copies_begin, copy_loop, sends_begin, send_loop, tail_set, events_taken, closing, commit_forms}
use Rattle.commit_runtime.specs.Laws.{CommitIsShort, CommitIsCode}

-- the code in front of the store to TAIL
abbrev pub commit_front : MemoryMap → List Form
commit_front m = copies_begin m ++ (copy_loop m ++ (sends_begin m ++ send_loop m))

pub commit_is_short : CommitIsShort
commit_is_short m start =
    let last = closing m ++ (Branch start ∷ []) in
    let whole = forms_bytes-append (commit_front m) (events_taken m ++ last) in
    let rest = forms_bytes-append (events_taken m) last in
    let more = where_bytes m.runtime.events tail_set in
    code_bytes (commit_forms m start) ∙ omega (arith, whole, rest, more)

front_are : (m : MemoryMap) → AreInstructions (instructions (commit_front m))
front_are m = search arith

last_are : (m : MemoryMap) (start : ℕ) → AreInstructions (instructions (closing m ++ (Branch start ∷ [])))
last_are m start = search arith

pub commit_is_code : CommitIsCode
commit_is_code m start =
    let last = closing m ++ (Branch start ∷ []) in
    are_instructions-append (commit_front m) (events_taken m ++ last) (front_are m)
    (are_instructions-append (events_taken m) last (where_instructions m.runtime.events tail_set (tt, tt)) (last_are m start))
