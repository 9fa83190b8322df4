-- What a program must have so that code can be made of it: each way through it, with conditions free and loops with their turns,
-- ends in a jump, takes no word from an empty stack, and reads no local before it is assigned; and there is room.
use Rattle.std.specs.Prelude.{ℕ, zero, suc, ◌+◌, ◌-◌, ◌*◌, ◌%◌, ◌≡◌, ◌≢◌, ◌<◌, ◌≤◌, ◌||◌, ◌⊎◌, Bool, true, false, nat_eq, max, Option, Some, None}
use Rattle.machine_effects.specs.address_space.Limits.{stack_top, HasStackRoom}
use Rattle.machine_effects.specs.alp_words.Words.{IsWord}
use Rattle.array_versions.specs.declared.program.ArrayPlace.{ArrayPlace}
use Rattle.array_versions.specs.declared.program.ListPlace.{ListPlace}
use Rattle.array_versions.specs.declared.program.LoggedPlace.{LoggedPlace}
use Rattle.array_versions.specs.declared.operations.LongOperation.{LongOperation}
use Rattle.array_versions.specs.declared.operations.LongOperation.TheVariants as with_longs
use Rattle.array_versions.specs.Operations.{long_pops, long_pushes}
use Rattle.array_versions.specs.Program.{Step, Test, Program, number, load, keep, update, local, set_local, update_local, unary, binary, shift, long, element}
use Rattle.array_versions.specs.Program.{emit_word}
use Rattle.array_versions.specs.Program.{list_entry}
use Rattle.array_versions.specs.Program.{versioned_read, versioned_write, versioned_update, logged_write, logged_update, sense, next_event, freeze_events}
use Rattle.array_versions.specs.Program.{truth, choose, repeat}
use Rattle.array_versions.specs.Program.{store_number}
use Rattle.array_versions.specs.Program.{move_word, jump, call, give, holds}
use Rattle.array_versions.specs.Program.{compares}
use Rattle.array_versions.specs.Program.{both, either, fails, nothing, step}

-- what is known at a place of one way: the words on the stack, and which locals are assigned
pub record Place : Type 0 where
  pub depth : ℕ
  pub assigned : ℕ → Bool

-- at the start of an attempt
abbrev pub start : Place
start = record { depth = 0; assigned = λ n. false }

-- one local more is assigned
abbrev pub assigning : ℕ → Place → Place
assigning n p = record p { assigned = λ m. nat_eq m n || p.assigned m }

-- at the start of a function's body: so many parameters are assigned, from this local on
abbrev pub entry_place : (first count : ℕ) → Place
entry_place first zero = start
entry_place first (suc n) = assigning (first + n) (entry_place first n)

-- a step that pops and then pushes so many words, with room for so many
abbrev pub Moves : ℕ → ℕ → ℕ → (Place → Type 0) → Place → Type 0
Moves room pops pushes next p =
    (pops ≤ p.depth) × (p.depth - pops + pushes ≤ room) × next (record p { depth = p.depth - pops + pushes })

-- so many turns of a loop for a local, then what follows
abbrev pub EachTurn : ℕ → ℕ → ((Place → Type 0) → Place → Type 0) → (Place → Type 0) → Place → Type 0
EachTurn zero n body next p = next (assigning n p)
EachTurn (suc m) n body next p = body (EachTurn m n body next) (assigning n p)

abbrev mutual
  -- each way through a step from this place is fit, and what follows is so where the way goes on
  pub EachStepWay : ℕ → Step → (Place → Type 0) → Place → Type 0
  EachStepWay room (number w) next p = Moves room 0 1 next p
  EachStepWay room (load a) next p = Moves room 0 1 next p
  EachStepWay room (keep a) next p = Moves room 1 0 next p
  EachStepWay room (update op a) next p = Moves room 1 0 next p
  EachStepWay room (local n) next p = (p.assigned n ≡ true) × Moves room 0 1 next p
  EachStepWay room (set_local n) next p = Moves room 1 0 (λ q. next (assigning n q)) p
  EachStepWay room (update_local op n) next p = (p.assigned n ≡ true) × Moves room 1 0 (λ q. next (assigning n q)) p
  EachStepWay room (unary op) next p = Moves room 1 1 next p
  EachStepWay room (binary op) next p = Moves room 2 1 next p
  EachStepWay room (shift op k) next p = Moves room 1 1 next p
  EachStepWay room (long op) next p = Moves room (long_pops op) (long_pushes op) next p
  EachStepWay room (element base length) next p = Moves room 1 1 next p
  EachStepWay room (emit_word count buffer) next p = Moves room 1 0 next p
  EachStepWay room (list_entry count list home copy words) next p = next p
  EachStepWay room (versioned_read place list) next p = Moves room 1 1 next p
  EachStepWay room (versioned_write place list) next p = Moves room 2 0 next p
  EachStepWay room (versioned_update op place list) next p = Moves room 2 0 next p
  EachStepWay room (logged_write place list) next p = Moves room 2 0 next p
  EachStepWay room (logged_update op place list) next p = Moves room 2 0 next p
  EachStepWay room sense next p = Moves room 0 1 next p
  EachStepWay room next_event next p = Moves room 0 1 next p
  EachStepWay room freeze_events next p = next p
  EachStepWay room (truth t) next p = EachTestWay room t (Moves room 0 1 next) (Moves room 0 1 next) p
  EachStepWay room (choose t taken otherwise) next p = EachTestWay room t (EachWay room taken next) (EachWay room otherwise next) p
  EachStepWay room (repeat n from below body) next p = EachTurn (below - from) n (EachWay room body) next p
  EachStepWay room (store_number a w) next p = next p
  EachStepWay room (move_word from to) next p = next p
  EachStepWay room (jump to) next p = to % 2 ≡ 0
  EachStepWay room (call entry frame first count body) next p = Moves room count 1 next p
  EachStepWay room give next p = p.depth ≡ 1

  -- the same of a test; one thing follows where it holds, and another where it fails
  pub EachTestWay : ℕ → Test → (Place → Type 0) → (Place → Type 0) → Place → Type 0
  EachTestWay room (holds p) held failed q = EachWay room p (Moves room 1 0 (λ r. held r × failed r)) q
  EachTestWay room (compares op p) held failed q = EachWay room p (Moves room 2 0 (λ r. held r × failed r)) q
  EachTestWay room (both t u) held failed q = EachTestWay room t (EachTestWay room u held failed) failed q
  EachTestWay room (either t u) held failed q = EachTestWay room t held (EachTestWay room u held failed) q
  EachTestWay room (fails t) held failed q = EachTestWay room t failed held q

  -- the same of steps, one after another
  pub EachWay : ℕ → Program → (Place → Type 0) → Place → Type 0
  EachWay room nothing next p = next p
  EachWay room (step first more) next p = EachStepWay room first (EachWay room more next) p

abbrev mutual
  -- each local that a step names is one of these. What a function calls its own is none of its caller's
  pub StepEachLocal : (ℕ → Type 0) → Step → Type 0
  StepEachLocal P (local n) = P n
  StepEachLocal P (set_local n) = P n
  StepEachLocal P (update_local op n) = P n
  StepEachLocal P (truth t) = TestEachLocal P t
  StepEachLocal P (choose t taken otherwise) = TestEachLocal P t × EachLocal P taken × EachLocal P otherwise
  StepEachLocal P (repeat n from below body) = P n × EachLocal P body
  StepEachLocal P _ = Unit {0}

  -- the same of a test
  pub TestEachLocal : (ℕ → Type 0) → Test → Type 0
  TestEachLocal P (holds p) = EachLocal P p
  TestEachLocal P (compares op p) = EachLocal P p
  TestEachLocal P (both t u) = TestEachLocal P t × TestEachLocal P u
  TestEachLocal P (either t u) = TestEachLocal P t × TestEachLocal P u
  TestEachLocal P (fails t) = TestEachLocal P t

  -- the same of each step of a program
  pub EachLocal : (ℕ → Type 0) → Program → Type 0
  EachLocal P nothing = Unit {0}
  EachLocal P (step first more) = StepEachLocal P first × EachLocal P more

-- each local of a step is below this number
abbrev pub StepLocalsBelow : ℕ → Step → Type 0
StepLocalsBelow locals = StepEachLocal (λ n. n < locals)

-- the same of a test
abbrev pub TestLocalsBelow : ℕ → Test → Type 0
TestLocalsBelow locals = TestEachLocal (λ n. n < locals)

-- the same of a program
abbrev pub LocalsBelow : ℕ → Program → Type 0
LocalsBelow locals = EachLocal (λ n. n < locals)

abbrev mutual
  -- one more than the greatest local that a step names; 0 where it names none
  pub step_locals : Step → ℕ
  step_locals (local n) = n + 1
  step_locals (set_local n) = n + 1
  step_locals (update_local op n) = n + 1
  step_locals (truth t) = test_locals t
  step_locals (choose t taken otherwise) = max (test_locals t) (max (locals_of taken) (locals_of otherwise))
  step_locals (repeat n from below body) = max (n + 1) (locals_of body)
  step_locals _ = 0

  -- the same of a test
  pub test_locals : Test → ℕ
  test_locals (holds p) = locals_of p
  test_locals (compares op p) = locals_of p
  test_locals (both t u) = max (test_locals t) (test_locals u)
  test_locals (either t u) = max (test_locals t) (test_locals u)
  test_locals (fails t) = test_locals t

  -- the same of a program
  pub locals_of : Program → ℕ
  locals_of nothing = 0
  locals_of (step first more) = max (step_locals first) (locals_of more)

abbrev mutual
  -- a step assigns no local of this number
  pub StepSpares : ℕ → Step → Type 0
  StepSpares n (set_local m) = m ≢ n
  StepSpares n (update_local op m) = m ≢ n
  StepSpares n (truth t) = TestSpares n t
  StepSpares n (choose t taken otherwise) = TestSpares n t × Spares n taken × Spares n otherwise
  StepSpares n (repeat m from below body) = (m ≢ n) × Spares n body
  StepSpares n _ = Unit {0}

  -- the same of a test
  pub TestSpares : ℕ → Test → Type 0
  TestSpares n (holds p) = Spares n p
  TestSpares n (compares op p) = Spares n p
  TestSpares n (both t u) = TestSpares n t × TestSpares n u
  TestSpares n (either t u) = TestSpares n t × TestSpares n u
  TestSpares n (fails t) = TestSpares n t

  -- the same of each step of a program
  pub Spares : ℕ → Program → Type 0
  Spares n nothing = Unit {0}
  Spares n (step first more) = StepSpares n first × Spares n more

-- where a local from the ninth on stands in RAM: the ninth in its last word, each other one a word below the one before
abbrev pub local_address : ℕ → ℕ
local_address n = 0x240E - 2 * n

-- a local is one of these registers, or a word of RAM from an address up to another
abbrev pub IsOwn : (own end from upto : ℕ) → ℕ → Type 0
IsOwn own end from upto n = ((own ≤ n) × (n < end)) ⊎ ((8 ≤ n) × (from ≤ local_address n) × (local_address n < upto))

-- what bounds the calls of a program
pub record CallBounds : Type 0 where
  pub first : ℕ  -- the registers of all that it calls are below this local, its own are not
  pub low : ℕ  -- its stack stays at or above this address, that of what it calls is below
  pub floor : ℕ  -- no stack of what it calls goes below this one

-- those of a program that calls nothing
abbrev pub no_calls : CallBounds
no_calls = record { first = 0; low = 0; floor = 0 }

-- where the locals of a function begin in RAM: those of a light one nowhere
abbrev pub frame_begin : Option ℕ → ℕ → ℕ
frame_begin None low = low
frame_begin (Some f) low = f

-- a function's stack of so many words, which stays at or above `lowest`, has room below that of its caller, and so has its frame: the return address
-- is on top of it, and of a framed one in front of that its caller's SP
abbrev pub FrameFits : CallBounds → Option ℕ → (lowest room : ℕ) → Type 0
FrameFits bounds None lowest room = lowest + 2 * (room + 1) ≤ bounds.low
FrameFits bounds (Some f) lowest room = (f % 2 ≡ 0) × (f ≤ bounds.low) × (lowest + 2 * (room + 2) ≤ f)

-- a function may be called within bounds: it has locals and a stack of its own, below its caller's; and each way through its body, from its
-- parameters on, ends by giving a word. `Deeper` is what is asked of its body within its own bounds
pub record IsCalled (Deeper : CallBounds → Type 0) (bounds : CallBounds) (frame : Option ℕ) (first count : ℕ) (body : Program) : Type 0 where
  pub own : ℕ  -- its registers are from this local on
  pub end : ℕ  -- up to this one
  pub lowest : ℕ  -- its stack stays at or above this address
  pub room : ℕ  -- no way has more words on it
  pub ordered : own ≤ end
  pub registers : end ≤ bounds.first
  pub fits : FrameFits bounds frame lowest room
  pub floor : bounds.floor ≤ lowest
  pub spare : HasStackRoom lowest 0
  pub parameters : (n : ℕ) → n < count → IsOwn own end (frame_begin frame bounds.low) bounds.low (first + n)
  pub locals : EachLocal (IsOwn own end (frame_begin frame bounds.low) bounds.low) body
  pub ways : EachWay room body (λ q. ⊥) (entry_place first count)
  pub deeper : Deeper (record { first = own; low = lowest; floor = bounds.floor })

abbrev mutual
  -- the body of each loop assigns no local that counts the loop's turns, so that there are as many as it says; each function that is called may be
  -- called within these bounds; and a function's body ends by giving a word alone, a task by a jump
  pub StepIsFormed : CallBounds → (gives : Bool) → Step → Type 0
  StepIsFormed bounds gives (truth t) = TestIsFormed bounds gives t
  StepIsFormed bounds gives (choose t taken otherwise) = TestIsFormed bounds gives t × IsFormed bounds gives taken × IsFormed bounds gives otherwise
  StepIsFormed bounds gives (repeat n from below body) = Spares n body × IsFormed bounds gives body
  StepIsFormed bounds gives (jump to) = gives ≡ false
  StepIsFormed bounds gives (call entry frame first count body) = IsCalled (λ inner. IsFormed inner true body) bounds frame first count body
  StepIsFormed bounds gives give = gives ≡ true
  StepIsFormed bounds gives _ = Unit {0}

  -- the same of a test
  pub TestIsFormed : CallBounds → (gives : Bool) → Test → Type 0
  TestIsFormed bounds gives (holds p) = IsFormed bounds gives p
  TestIsFormed bounds gives (compares op p) = IsFormed bounds gives p
  TestIsFormed bounds gives (both t u) = TestIsFormed bounds gives t × TestIsFormed bounds gives u
  TestIsFormed bounds gives (either t u) = TestIsFormed bounds gives t × TestIsFormed bounds gives u
  TestIsFormed bounds gives (fails t) = TestIsFormed bounds gives t

  -- the same of each step of a program
  pub IsFormed : CallBounds → (gives : Bool) → Program → Type 0
  IsFormed bounds gives nothing = Unit {0}
  IsFormed bounds gives (step first more) = StepIsFormed bounds gives first × IsFormed bounds gives more

-- the places and the length of a versioned array are words
abbrev pub ArrayOfWords : ArrayPlace → Type 0
ArrayOfWords place = IsWord place.elements × IsWord place.copies × IsWord place.versions × IsWord place.length

-- so are those of a logged array
abbrev pub LoggedOfWords : LoggedPlace → Type 0
LoggedOfWords place = IsWord place.elements × IsWord place.versions × IsWord place.length

-- the places of a list of copies are words
abbrev pub ListOfWords : ListPlace → Type 0
ListOfWords list = IsWord list.ver × IsWord list.cln × IsWord list.list

-- the count of a shift is a word
abbrev pub LongOfWords : LongOperation → Type 0
LongOfWords (with_longs.ShiftLeft k) = IsWord k
LongOfWords (with_longs.ShiftRight k) = IsWord k
LongOfWords _ = Unit {0}

-- an address, if there is one, is a word
abbrev pub FrameOfWords : Option ℕ → Type 0
FrameOfWords None = Unit {0}
FrameOfWords (Some f) = IsWord f

abbrev mutual
  -- each number in a step is a word, as those of a program in memory are
  pub StepOfWords : Step → Type 0
  StepOfWords (number w) = IsWord w
  StepOfWords (load a) = IsWord a
  StepOfWords (keep a) = IsWord a
  StepOfWords (update op a) = IsWord a
  StepOfWords (local n) = IsWord n
  StepOfWords (set_local n) = IsWord n
  StepOfWords (update_local op n) = IsWord n
  StepOfWords (unary op) = Unit {0}
  StepOfWords (binary op) = Unit {0}
  StepOfWords (shift op k) = IsWord k
  StepOfWords (long op) = LongOfWords op
  StepOfWords (element base length) = IsWord base × IsWord length
  StepOfWords (emit_word count buffer) = IsWord count × IsWord buffer
  StepOfWords (list_entry count list home copy words) = IsWord count × IsWord list × IsWord home × IsWord copy × IsWord words
  StepOfWords (versioned_read place list) = ArrayOfWords place × ListOfWords list
  StepOfWords (versioned_write place list) = ArrayOfWords place × ListOfWords list
  StepOfWords (versioned_update op place list) = ArrayOfWords place × ListOfWords list
  StepOfWords (logged_write place list) = LoggedOfWords place × ListOfWords list
  StepOfWords (logged_update op place list) = LoggedOfWords place × ListOfWords list
  StepOfWords sense = Unit {0}
  StepOfWords next_event = Unit {0}
  StepOfWords freeze_events = Unit {0}
  StepOfWords (truth t) = TestOfWords t
  StepOfWords (choose t taken otherwise) = TestOfWords t × OfWords taken × OfWords otherwise
  StepOfWords (repeat n from below body) = IsWord n × IsWord from × IsWord below × OfWords body
  StepOfWords (store_number a w) = IsWord a × IsWord w
  StepOfWords (move_word from to) = IsWord from × IsWord to
  StepOfWords (jump to) = IsWord to
  StepOfWords (call entry frame first count body) = IsWord entry × FrameOfWords frame × IsWord first × IsWord count × OfWords body
  StepOfWords give = Unit {0}

  -- the same of a test
  pub TestOfWords : Test → Type 0
  TestOfWords (holds p) = OfWords p
  TestOfWords (compares op p) = OfWords p
  TestOfWords (both t u) = TestOfWords t × TestOfWords u
  TestOfWords (either t u) = TestOfWords t × TestOfWords u
  TestOfWords (fails t) = TestOfWords t

  -- the same of each step of a program
  pub OfWords : Program → Type 0
  OfWords nothing = Unit {0}
  OfWords (step first more) = StepOfWords first × OfWords more

-- where the stack of a program begins whose locals are below this number: right below those that stand in RAM, the ninth in its last word
abbrev pub stack_base : ℕ → ℕ
stack_base locals = stack_top - 2 * (locals - 8)

-- a program that is whole: RAM has room for its locals and the stack below them, and for what it calls; and each of its ways ends in a jump
pub record IsWhole (p : Program) : Type 0 where
  pub locals : ℕ  -- each local is below this number
  pub room : ℕ  -- no way has more words on the stack
  pub bounds : CallBounds  -- of its calls
  pub fits : HasStackRoom (stack_base locals) room
  pub lowest : bounds.low + 2 * room ≤ stack_base locals
  pub floor : bounds.floor ≤ bounds.low
  pub registers : bounds.first ≤ 8
  pub low_locals : LocalsBelow locals p
  pub own_locals : EachLocal (λ n. bounds.first ≤ n) p
  pub formed : IsFormed bounds false p
  pub ways : EachWay room p (λ q. ⊥) start
