-- What a word program does from a state on: its effects, and how it ends. Both depend on FRAM and the inputs at its start.
use Rattle.std.specs.Prelude.{ℕ, zero, suc, ◌+◌, ◌-◌, ◌*◌, ◌%◌, ◌==◌, ◌&&◌, Bool, nat_eq, nat_le, nat_lt, if◌then◌else◌, List, [], ◌∷◌, ◌++◌, Option, Some}
use Rattle.std.specs.Prelude.{None, length}
use Rattle.machine_effects.specs.address_space.Limits.{fram_first, program_end}
use Rattle.machine_effects.specs.alp_words.Words.{word_sum}
use Rattle.machine_effects.specs.event_places.Places.{tail_place, count_place, sent_place, answer_place, head_place, slot_place}
use Rattle.machine_effects.specs.fram_board.Effects.{Effect, Store, Take}
use Rattle.machine_effects.specs.World.{put}
use Rattle.machine_effects.specs.Inputs.{Look, Inputs, first_look, other_looks, look_effects}
use Rattle.array_versions.specs.declared.program.ArrayPlace.{ArrayPlace}
use Rattle.array_versions.specs.declared.program.ListPlace.{ListPlace}
use Rattle.array_versions.specs.declared.program.LoggedPlace.{LoggedPlace}
use Rattle.array_versions.specs.declared.operations.PlainOperation.{PlainOperation}
use Rattle.array_versions.specs.declared.operations.Comparison.{Comparison}
use Rattle.array_versions.specs.Operations.{unary_word, plain_word, binary_word, shift_word, is_true, compare_words, long_pops, long_result}
use Rattle.array_versions.specs.Program.{Step, Test, Program, number, load, keep, update, local, set_local, update_local, unary, binary, shift, long, element}
use Rattle.array_versions.specs.Program.{emit_word}
use Rattle.array_versions.specs.Program.{list_entry}
use Rattle.array_versions.specs.Program.{versioned_read, versioned_write, versioned_update, logged_write, logged_update, sense, next_event, freeze_events}
use Rattle.array_versions.specs.Program.{truth, choose, repeat}
use Rattle.array_versions.specs.Program.{store_number}
use Rattle.array_versions.specs.Program.{move_word, jump, call, give, holds}
use Rattle.array_versions.specs.Program.{compares}
use Rattle.array_versions.specs.Program.{both, either, fails, nothing, step}

-- what a program works on
pub record WordState : Type 0 where
  pub stack : List ℕ  -- its top first
  pub locals : ℕ → Option ℕ  -- none: not assigned yet
  pub fram : ℕ → ℕ  -- the word at each even address
  pub inputs : Inputs  -- what is ready

-- the state at the start of an attempt: nothing on the stack, and no local assigned
abbrev pub started : (ℕ → ℕ) → Inputs → WordState
started fram inputs = record { stack = []; locals = λ n. None; fram = fram; inputs = inputs }

-- how steps end: behind the last one; by a jump; by giving a word, as a function's body does; where a reading is wanted and none is left;
-- where an address isn't that of a word of FRAM in front of a program's end; or where a word is taken from an empty stack, a local is read
-- before it is assigned, a jump goes to an odd address, or a body ends without giving a word
pub data End : Type 0 where
  GoesOn : (state : WordState) → End
  Jumps : (to : ℕ) → (state : WordState) → End
  Gives : (word : ℕ) → (state : WordState) → End
  Short : End
  Strays : End
  Broken : End

-- what steps do
pub record Behaviour : Type 0 where
  pub effects : List Effect
  pub end : End

-- effects, and an end
abbrev pub behaves : List Effect → End → Behaviour
behaves es e = record { effects = es; end = e }

-- effects, and the steps go on
abbrev pub goes_on : List Effect → WordState → Behaviour
goes_on es s = behaves es (GoesOn s)

-- an address isn't a place
abbrev pub strays : Behaviour
strays = behaves [] Strays

-- the program is broken here
abbrev pub broken : Behaviour
broken = behaves [] Broken

-- a behaviour with these effects in front
abbrev pub behind_effects : List Effect → Behaviour → Behaviour
behind_effects es b = record { effects = es ++ b.effects; end = b.end }

-- what stands behind runs only where an end goes on
abbrev pub on_end : End → (WordState → Behaviour) → Behaviour
on_end (GoesOn s) next = next s
on_end (Jumps to s) next = behaves [] (Jumps to s)
on_end (Gives v s) next = behaves [] (Gives v s)
on_end Short next = behaves [] Short
on_end Strays next = strays
on_end Broken next = broken

-- one behaviour, and behind it another
abbrev pub then_on : Behaviour → (WordState → Behaviour) → Behaviour
then_on b next = behind_effects b.effects (on_end b.end next)

-- the even addresses of FRAM in front of where a program ends
abbrev pub is_place : ℕ → Bool
is_place a = (a % 2 == 0) && (nat_le fram_first a && nat_lt a program_end)

-- this, where the address is a place
abbrev pub at_place : ℕ → Behaviour → Behaviour
at_place a b = if is_place a then b else strays

-- pops a word
abbrev pub with_top : List ℕ → (ℕ → List ℕ → Behaviour) → Behaviour
with_top [] next = broken
with_top (v ∷ vs) next = next v vs

-- pops two words, the second one the top
abbrev pub with_two : List ℕ → (ℕ → ℕ → List ℕ → Behaviour) → Behaviour
with_two vs next = with_top vs (λ v us. with_top us (λ u rest. next u v rest))

-- pops so many words, which are handed on with the top first
abbrev pub with_words : ℕ → List ℕ → (List ℕ → List ℕ → Behaviour) → Behaviour
with_words zero vs next = next [] vs
with_words (suc n) vs next = with_top vs (λ v us. with_words n us (λ words rest. next (v ∷ words) rest))

-- the state with this stack
abbrev pub with_stack : List ℕ → WordState → WordState
with_stack vs s = record s { stack = vs }

-- the state with a word more on the stack
abbrev pub pushed : ℕ → WordState → WordState
pushed v s = with_stack (v ∷ s.stack) s

-- the state with a word stored
abbrev pub stored : ℕ → ℕ → WordState → WordState
stored a v s = record s { fram = put s.fram a v }

-- locals with this word of one of them
abbrev pub assigned : (ℕ → Option ℕ) → ℕ → ℕ → ℕ → Option ℕ
assigned locals n v m = if nat_eq m n then Some v else locals m

-- the state with this word of a local
abbrev pub with_local : ℕ → ℕ → WordState → WordState
with_local n v s = record s { locals = assigned s.locals n v }

-- pushes a local, if it is assigned
abbrev pub local_pushed : Option ℕ → WordState → Behaviour
local_pushed None s = broken
local_pushed (Some v) s = goes_on [] (pushed v s)

-- assigns to a local what an operation gives of it, if it is assigned, and of a word
abbrev pub local_updated : PlainOperation → ℕ → ℕ → Option ℕ → WordState → Behaviour
local_updated op n v None s = broken
local_updated op n v (Some u) s = goes_on [] (with_local n (plain_word op u v) s)

-- the state with these readings left
abbrev pub with_readings : List ℕ → WordState → WordState
with_readings rs s = record s { inputs = record s.inputs { readings = rs } }

-- takes the next reading and pushes it
abbrev pub reading_pushed : List ℕ → WordState → Behaviour
reading_pushed [] s = behaves [] Short
reading_pushed (r ∷ rs) s = goes_on (Take r ∷ []) (pushed r (with_readings rs s))

-- a word goes up by one, modulo 65536
abbrev pub raised : ℕ → WordState → Behaviour
raised a s = let v = (s.fram a + 1) % 65536 in goes_on (Store a v ∷ []) (stored a v s)

-- the index of the next word of the ring for the attempt: TAIL, and how many words it has taken
abbrev pub event_index : (ℕ → ℕ) → ℕ
event_index fram = word_sum (fram tail_place) (fram count_place)

-- the answer is 0
abbrev pub none_answered : WordState → Behaviour
none_answered s = goes_on (Store answer_place 0 ∷ []) (pushed 0 (stored answer_place 0 s))

-- a word is the answer, and the attempt has taken one more
abbrev pub word_answered : ℕ → WordState → Behaviour
word_answered w s = behind_effects (Store answer_place w ∷ []) (raised count_place (pushed w (stored answer_place w s)))

-- the answer, by what is seen at HEAD, and then at the slot of the attempt's index: 0 where HEAD is that index
abbrev pub event_answered : Look → Look → WordState → Behaviour
event_answered first second s =
    let at = event_index s.fram in if at == first head_place then none_answered s else word_answered (second (slot_place at)) s

-- the state with these looks left
abbrev pub with_looks : List Look → WordState → WordState
with_looks looks s = record s { inputs = record s.inputs { looks = looks } }

-- takes two looks, and pushes the answer; where none is left it sees nothing but 0
abbrev pub event_pushed : List Look → WordState → Behaviour
event_pushed looks s =
    let others = other_looks looks in
    behind_effects (look_effects looks)
    (behind_effects (look_effects others) (event_answered (first_look looks) (first_look others) (with_looks (other_looks others) s)))

-- TAIL as the transition leaves it: the index of the next word
abbrev pub events_frozen : WordState → Behaviour
events_frozen s = let v = event_index s.fram in goes_on (Store sent_place v ∷ []) (stored sent_place v s)

-- stores a word
abbrev pub word_stored : ℕ → ℕ → WordState → Behaviour
word_stored a v s = at_place a (goes_on (Store a v ∷ []) (stored a v s))

-- pushes an element of an array: 0 past its end
abbrev pub element_pushed : ℕ → ℕ → ℕ → WordState → Behaviour
element_pushed base length i s =
    let a = 2 * i + base in
    if nat_lt i length then at_place a (goes_on [] (pushed (s.fram a) s)) else goes_on [] (pushed 0 s)

-- stores a word behind those that are counted, then raises the count
abbrev pub word_emitted : ℕ → ℕ → ℕ → WordState → Behaviour
word_emitted count buffer v s =
    let n = s.fram count in
    let a = 2 * n + buffer in
    at_place count (at_place a (goes_on (Store a v ∷ Store count (n + 1) ∷ []) (stored count (n + 1) (stored a v s))))

-- stores an entry behind those that are counted, a run's first home, its first copy and its words, then raises the count
abbrev pub entry_stored : ℕ → ℕ → ℕ → ℕ → ℕ → WordState → Behaviour
entry_stored count list home copy words s =
    let a = 6 * s.fram count + list in
    at_place count (at_place a (at_place (a + 2) (at_place (a + 4) (
    behind_effects (Store a home ∷ Store (a + 2) copy ∷ Store (a + 4) words ∷ [])
    (raised count (stored (a + 4) words (stored (a + 2) copy (stored a home s))))))))

-- the run of the entry at an address, its homes and its copies, ends right before these two
abbrev pub ends_before : (ℕ → ℕ) → ℕ → ℕ → ℕ → Bool
ends_before fram a home copy =
    let bytes = 2 * fram (a + 4) in
    ((bytes + fram a) % 65536 == home) && ((bytes + fram (a + 2)) % 65536 == copy)

-- lists a home and its copy behind so many entries: the last one gets longer where its run ends right before both, else they are an
-- entry of one word
abbrev pub listed_behind : ℕ → ListPlace → ℕ → ℕ → WordState → Behaviour
listed_behind zero list home copy s = entry_stored list.cln list.list home copy 1 s
listed_behind (suc n) list home copy s =
    let a = 6 * n + list.list in
    at_place a (at_place (a + 2) (at_place (a + 4) (
    if ends_before s.fram a home copy then raised (a + 4) s else entry_stored list.cln list.list home copy 1 s)))

-- lists a home and its copy behind the entries that are counted
abbrev pub word_listed : ListPlace → ℕ → ℕ → WordState → Behaviour
word_listed list home copy s = at_place list.cln (listed_behind (s.fram list.cln) list home copy s)

-- an element as this attempt has it: its copy where its version word is the attempt's number, else the element
abbrev pub own_element : ArrayPlace → ListPlace → ℕ → WordState → Behaviour
own_element place list i s =
    let m = 2 * i + place.versions in
    let c = 2 * i + place.copies in
    let e = 2 * i + place.elements in
    at_place list.ver (at_place m (
    if s.fram list.ver == s.fram m then at_place c (goes_on [] (pushed (s.fram c) s)) else at_place e (goes_on [] (pushed (s.fram e) s))))

-- pushes an element of a versioned array: 0 past its end
abbrev pub versioned_pushed : ArrayPlace → ListPlace → ℕ → WordState → Behaviour
versioned_pushed place list i s = if nat_lt i place.length then own_element place list i s else goes_on [] (pushed 0 s)

-- behind the first store to an element's copy: the version word, then it is listed, the element being its home
abbrev pub first_stored : ArrayPlace → ListPlace → ℕ → WordState → Behaviour
first_stored place list i s =
    let m = 2 * i + place.versions in
    let e = 2 * i + place.elements in
    at_place e (behind_effects (Store m (s.fram list.ver) ∷ []) (word_listed list e (2 * i + place.copies) (stored m (s.fram list.ver) s)))

-- stores a word in an element's copy; where the version word isn't the attempt's number, it is the first store
abbrev pub own_stored : ArrayPlace → ListPlace → ℕ → ℕ → WordState → Behaviour
own_stored place list i v s =
    let c = 2 * i + place.copies in
    let m = 2 * i + place.versions in
    let t = stored c v s in
    at_place c (at_place list.ver (at_place m (
    if t.fram list.ver == t.fram m then goes_on (Store c v ∷ []) t else behind_effects (Store c v ∷ []) (first_stored place list i t))))

-- stores an element of a versioned array: nothing past its end
abbrev pub versioned_stored : ArrayPlace → ListPlace → ℕ → ℕ → WordState → Behaviour
versioned_stored place list i v s = if nat_lt i place.length then own_stored place list i v s else goes_on [] s

-- where this attempt has an element: in its copy, where the version word is the attempt's number
abbrev pub own_place : Bool → ArrayPlace → ℕ → ℕ
own_place b place i = if b then 2 * i + place.copies else (2 * i + place.elements)

-- stores a word in an element's copy, by whether the version word was the attempt's number in front of it; where it wasn't, it is the first store
abbrev pub own_kept : Bool → ArrayPlace → ListPlace → ℕ → ℕ → WordState → Behaviour
own_kept b place list i v s =
    let c = 2 * i + place.copies in
    let t = stored c v s in
    at_place c (if b then goes_on (Store c v ∷ []) t else behind_effects (Store c v ∷ []) (first_stored place list i t))

-- stores in an element's copy what an operation gives of the element as this attempt has it and of a word
abbrev pub own_updated : PlainOperation → ArrayPlace → ListPlace → ℕ → ℕ → WordState → Behaviour
own_updated op place list i v s =
    let m = 2 * i + place.versions in
    let b = s.fram list.ver == s.fram m in
    let a = own_place b place i in
    at_place list.ver (at_place m (at_place a (own_kept b place list i (plain_word op (s.fram a) v) s)))

-- the same of a versioned array: nothing past its end
abbrev pub versioned_updated : PlainOperation → ArrayPlace → ListPlace → ℕ → ℕ → WordState → Behaviour
versioned_updated op place list i v s = if nat_lt i place.length then own_updated op place list i v s else goes_on [] s

-- in front of the first store of an attempt to the element at e, which it goes on with: its address and the word there are an entry behind those that
-- are counted, and the count goes up; then its version word, at m, is the attempt's number
abbrev pub first_logged : ListPlace → ℕ → ℕ → WordState → (WordState → Behaviour) → Behaviour
first_logged list e m s next =
    let a = list.list + 4 * s.fram list.cln in
    let t = stored a e s in
    let u = stored (a + 2) (t.fram e) t in
    let n = (u.fram list.cln + 1) % 65536 in
    let x = stored list.cln n u in
    let logging = Store a e ∷ Store (a + 2) (t.fram e) ∷ Store list.cln n ∷ Store m (x.fram list.ver) ∷ [] in
    at_place list.cln (at_place a (at_place (a + 2) (behind_effects logging (next (stored m (x.fram list.ver) x)))))

-- a store of an attempt to an element, of a word by the state right in front of it; where the version word isn't the attempt's number, the element is
-- logged first
abbrev pub own_logged : LoggedPlace → ListPlace → ℕ → (WordState → ℕ) → WordState → Behaviour
own_logged place list i word s =
    let e = 2 * i + place.elements in
    let m = 2 * i + place.versions in
    let next : WordState → Behaviour = λ t. goes_on (Store e (word t) ∷ []) (stored e (word t) t) in
    at_place e (at_place list.ver (at_place m (if s.fram list.ver == s.fram m then next s else first_logged list e m s next)))

-- stores an element of a logged array in its place: nothing past its end
abbrev pub logged_stored : LoggedPlace → ListPlace → ℕ → ℕ → WordState → Behaviour
logged_stored place list i v s = if nat_lt i place.length then own_logged place list i (λ t. v) s else goes_on [] s

-- stores there what an operation gives of the element and of a word: nothing past its end
abbrev pub logged_updated : PlainOperation → LoggedPlace → ListPlace → ℕ → ℕ → WordState → Behaviour
logged_updated op place list i v s =
    let e = 2 * i + place.elements in
    if nat_lt i place.length then own_logged place list i (λ t. plain_word op (t.fram e) v) s else goes_on [] s

-- pushes a number
abbrev pub number_pushed : ℕ → WordState → Behaviour
number_pushed n s = goes_on [] (pushed n s)

-- pops a word: one way where it isn't 0, else another
abbrev pub way_by_top : (WordState → Behaviour) → (WordState → Behaviour) → WordState → Behaviour
way_by_top held failed s = with_top s.stack (λ v vs. if is_true v then held (with_stack vs s) else failed (with_stack vs s))

-- pops two words: one way where they compare so, else another
abbrev pub way_by_two : Comparison → (WordState → Behaviour) → (WordState → Behaviour) → WordState → Behaviour
way_by_two op held failed s =
    with_two s.stack (λ u v vs. if compare_words op u v then held (with_stack vs s) else failed (with_stack vs s))

-- so many turns for a local, from number k on; behind them it is the number after the last
abbrev pub turns : ℕ → ℕ → ℕ → (WordState → Behaviour) → WordState → Behaviour
turns zero n k body s = goes_on [] (with_local n k s)
turns (suc m) n k body s = then_on (body (with_local n k s)) (turns m n (k + 1) body)

-- the locals of a function as it is entered: its parameters, from the first on, are these words, of which the last parameter's is in front
abbrev pub parameter_words : ℕ → List ℕ → ℕ → Option ℕ
parameter_words first [] = λ n. None
parameter_words first (v ∷ words) = assigned (parameter_words first words) (first + length words) v

-- the state that its body starts with
abbrev pub called : ℕ → List ℕ → WordState → WordState
called first words s = record { stack = []; locals = parameter_words first words; fram = s.fram; inputs = s.inputs }

-- behind its body: the word that it gives is on the stack, which else is as it was, and so are the locals
abbrev pub behind_call : WordState → End → Behaviour
behind_call s (Gives v t) = goes_on [] (record t { stack = v ∷ s.stack; locals = s.locals })
behind_call s Short = behaves [] Short
behind_call s Strays = strays
behind_call s (GoesOn t) = broken
behind_call s (Jumps to t) = broken
behind_call s Broken = broken

-- a function called: what its body does, and then what is behind it
abbrev pub called_behind : WordState → Behaviour → Behaviour
called_behind s b = behind_effects b.effects (behind_call s b.end)

-- leaves by a jump
abbrev pub jumped : ℕ → WordState → Behaviour
jumped to s = if to % 2 == 0 then behaves [] (Jumps to s) else broken

abbrev mutual
  -- what one step does
  pub step_behaviour : Step → WordState → Behaviour
  step_behaviour (number w) s = goes_on [] (pushed w s)
  step_behaviour (load a) s = at_place a (goes_on [] (pushed (s.fram a) s))
  step_behaviour (keep a) s = with_top s.stack (λ v vs. word_stored a v (with_stack vs s))
  step_behaviour (update op a) s = with_top s.stack (λ v vs. word_stored a (plain_word op (s.fram a) v) (with_stack vs s))
  step_behaviour (local n) s = local_pushed (s.locals n) s
  step_behaviour (set_local n) s = with_top s.stack (λ v vs. goes_on [] (with_local n v (with_stack vs s)))
  step_behaviour (update_local op n) s = with_top s.stack (λ v vs. local_updated op n v (s.locals n) (with_stack vs s))
  step_behaviour (unary op) s = with_top s.stack (λ v vs. goes_on [] (with_stack (unary_word op v ∷ vs) s))
  step_behaviour (binary op) s = with_two s.stack (λ u v vs. goes_on [] (with_stack (binary_word op u v ∷ vs) s))
  step_behaviour (shift op k) s = with_top s.stack (λ v vs. goes_on [] (with_stack (shift_word op v k ∷ vs) s))
  step_behaviour (long op) s = with_words (long_pops op) s.stack (λ words vs. goes_on [] (with_stack (long_result op words ++ vs) s))
  step_behaviour (element base length) s = with_top s.stack (λ i vs. element_pushed base length i (with_stack vs s))
  step_behaviour (emit_word count buffer) s = with_top s.stack (λ v vs. word_emitted count buffer v (with_stack vs s))
  step_behaviour (list_entry count list home copy words) s = entry_stored count list home copy words s
  step_behaviour (versioned_read place list) s = with_top s.stack (λ i vs. versioned_pushed place list i (with_stack vs s))
  step_behaviour (versioned_write place list) s = with_two s.stack (λ i v vs. versioned_stored place list i v (with_stack vs s))
  step_behaviour (versioned_update op place list) s = with_two s.stack (λ i v vs. versioned_updated op place list i v (with_stack vs s))
  step_behaviour (logged_write place list) s = with_two s.stack (λ i v vs. logged_stored place list i v (with_stack vs s))
  step_behaviour (logged_update op place list) s = with_two s.stack (λ i v vs. logged_updated op place list i v (with_stack vs s))
  step_behaviour sense s = reading_pushed s.inputs.readings s
  step_behaviour next_event s = event_pushed s.inputs.looks s
  step_behaviour freeze_events s = events_frozen s
  step_behaviour (truth t) s = tested t (number_pushed 1) (number_pushed 0) s
  step_behaviour (choose t taken otherwise) s = tested t (behaviour taken) (behaviour otherwise) s
  step_behaviour (repeat n from below body) s = turns (below - from) n from (behaviour body) s
  step_behaviour (store_number a w) s = word_stored a w s
  step_behaviour (move_word from to) s = at_place from (word_stored to (s.fram from) s)
  step_behaviour (jump to) s = jumped to s
  step_behaviour (call entry frame first count body) s =
      with_words count s.stack (λ words vs. called_behind (with_stack vs s) (behaviour body (called first words s)))
  step_behaviour give s = with_top s.stack (λ v vs. behaves [] (Gives v (with_stack vs s)))

  -- one way where a test holds, and another where it fails. The second of two tests is asked only where the first leaves it open
  pub tested : Test → (WordState → Behaviour) → (WordState → Behaviour) → WordState → Behaviour
  tested (holds p) held failed s = then_on (behaviour p s) (way_by_top held failed)
  tested (compares op p) held failed s = then_on (behaviour p s) (way_by_two op held failed)
  tested (both t u) held failed s = tested t (tested u held failed) failed s
  tested (either t u) held failed s = tested t held (tested u held failed) s
  tested (fails t) held failed s = tested t failed held s

  -- one step after another
  pub behaviour : Program → WordState → Behaviour
  behaviour nothing s = goes_on [] s
  behaviour (step first more) s = then_on (step_behaviour first s) (behaviour more)
