-- What a step does that is seen from outside the CPU and RAM.
use Rattle.std.specs.Prelude.{ℕ, ◌+◌, ◌-◌, ◌%◌, ◌≡◌, ◌≤◌, if◌then◌else◌, List, [], ◌∷◌, ◌++◌, map, slice_index, slice_range, slice_set, Result, Ok, Err}
use Rattle.std.specs.Prelude.{Option, Some, None}
use Rattle.msp_step.specs.declared.machine.Stop.{Stop}
use Rattle.msp_step.specs.Registers.{registers_of}
use Rattle.msp_step.specs.Step.{return_place, status_place}
use Rattle.state_text.specs.image_text.ImageValue.{place_of}
use Rattle.fram_board.specs.declared.board.Stepped.{Stepped}
use Rattle.fram_board.specs.declared.receiver.Receiver.{Receiver}
use Rattle.fram_board.specs.Bus.{is_fram}
use Rattle.fram_board.specs.Board.{BoardValue, BoardOutcome, offered_to}

-- what a step has to do with the outside
pub data OutsideEffect : Type 0 where
  Offered : (number word : ℕ) → OutsideEffect  -- a word is offered to the receiver
  -- a program looks at words that a handler writes while it runs, and sees this there, by address. No step of the board tells it: to the
  -- board they are words of FRAM
  Looked : (seen : ℕ → ℕ) → OutsideEffect

-- a store to FRAM, a reading taken, what has to do with the outside
pub data Effect : Type 0 where
  Store : (address word : ℕ) → Effect  -- a word of FRAM, at its even address
  Take : (reading : ℕ) → Effect
  Outside : (effect : OutsideEffect) → Effect

-- the readings taken
abbrev pub takes_of : BoardValue → BoardOutcome → List Effect
takes_of b x = map (λ w. Take w) (slice_range b.readings b.taken x.board.taken)

-- the store to FRAM of a write at this address, read off FRAM after it: the whole word also where one byte was written
abbrev pub store_at : Option ℕ → List ℕ → List Effect
store_at None fram = []
store_at (Some a) fram = if is_fram a then Store (a - a % 2) (slice_index fram (place_of a)) ∷ [] else []

-- the store to FRAM of a step
abbrev pub stores_of : Result Stepped Stop → BoardValue → List Effect
stores_of (Ok done) after = store_at done.wrote after.fram
stores_of (Err stop) after = []

-- the word offered
abbrev pub sends_of : ℕ → Option ℕ → List Effect
sends_of number None = []
sends_of number (Some w) = Outside (Offered number w) ∷ []

-- the effects of a step, in order: its takes come before its store or its send
abbrev pub effects_of : BoardValue → BoardOutcome → List Effect
effects_of b x = takes_of b x ++ (stores_of x.answer x.board ++ sends_of b.outnum x.offered)

-- the store of a word at an even address of memory, if that is in FRAM
abbrev pub store_of : ℕ → ℕ → List Effect
store_of a w = if is_fram a then Store a w ∷ [] else []

-- the effects of an acceptance that is made: PC and then SR is stored
abbrev pub acceptance_effects : BoardValue → List Effect
acceptance_effects b =
    let r = registers_of b.cpu in
    store_of (return_place r) (r 0) ++ store_of (status_place r) (r 2)

-- FRAM after the stores among these effects
abbrev pub stored : List Effect → List ℕ → List ℕ
stored [] fram = fram
stored (Store a w ∷ es) fram = stored es (slice_set fram (place_of a) w)
stored (Take w ∷ es) fram = stored es fram
stored (Outside o ∷ es) fram = stored es fram

-- the receiver after such an effect
abbrev pub receiver_behind : OutsideEffect → Receiver → Receiver
receiver_behind (Offered n w) r = offered_to n r
receiver_behind (Looked seen) r = r

-- the receiver after the sends among them
abbrev pub heard : List Effect → Receiver → Receiver
heard [] r = r
heard (Store a w ∷ es) r = heard es r
heard (Take w ∷ es) r = heard es r
heard (Outside o ∷ es) r = heard es (receiver_behind o r)

-- the step changes FRAM by its stores, the receiver by its sends, and takes at most two readings
pub record MakesItsEffects (b : BoardValue) (x : BoardOutcome) : Type 0 where
  pub fram : x.board.fram ≡ stored (effects_of b x) b.fram
  pub receiver : x.board.receiver ≡ heard (effects_of b x) b.receiver
  pub readings : x.board.readings ≡ b.readings
  pub from : b.taken ≤ x.board.taken
  pub to : x.board.taken ≤ b.taken + 2

-- an acceptance that is made changes FRAM by its stores, beside it the registers and RAM, and nothing else
pub record MakesItsStores (b after : BoardValue) : Type 0 where
  pub fram : after.fram ≡ stored (acceptance_effects b) b.fram
  pub same : after ≡ record b { cpu = after.cpu; fram = after.fram; ram = after.ram }
