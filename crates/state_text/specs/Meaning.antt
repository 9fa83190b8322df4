-- When lines are a state, and which fault is the first, said by the lines themselves.
use Rattle.std.specs.Prelude.{◌≡◌, ℕ, ◌⊎◌, List, [], ◌∷◌, ◌++◌, Some, Result, Ok, Err}
use Rattle.image_map.specs.declared.fault.MapFault.TheVariants as map_fault
use Rattle.image_text.specs.declared.fault.ImageFault.{ImageFault}
use Rattle.image_text.specs.declared.fault.ImageFault.TheVariants as fault
use Rattle.image_text.specs.Reading.{Front, image_lines}
use Rattle.image_text.specs.Meaning.{IsFrontOf}
use Rattle.state_text.specs.declared.state.State.{State}
use Rattle.state_text.specs.Reading.{receiver_of, tail_of}

-- lines that are an image, and one line behind them with the receiver's number
pub record WithNumber (ls : List (List ℕ)) (s : State) : Type 0 where
  pub before : List (List ℕ)
  pub line : List ℕ
  pub made : ls ≡ before ++ line ∷ []
  pub image : image_lines before ≡ Ok s.image
  pub number : receiver_of line ≡ Some s.receiver

-- lines are a state: they are an image, and then its receiver takes number 0 next; or one line behind an image says the number
abbrev pub IsStateText : List (List ℕ) → State → Type 0
IsStateText ls s = ((image_lines ls ≡ Ok s.image) × (s.receiver ≡ 0)) ⊎ WithNumber ls s

-- what lines come to: a state that they are, or the first fault: that of the lines up to `q`, or the first line behind it that goes on to no state;
-- nothing is said where memory was refused
abbrev pub IsMeaningOf : List (List ℕ) → Result State ImageFault → Type 0
IsMeaningOf ls (Ok s) = IsStateText ls s
IsMeaningOf ls (Err (fault.BadMap n)) = (f : Front) × IsFrontOf ls (Ok f) × (tail_of f.line f.rest ≡ Err (map_fault.BadMap n))
IsMeaningOf ls (Err (fault.BadLine n)) = IsFrontOf ls (Err (fault.BadLine n))
IsMeaningOf ls (Err (fault.OutsideFram n)) = IsFrontOf ls (Err (fault.OutsideFram n))
IsMeaningOf ls (Err (fault.Twice n)) = IsFrontOf ls (Err (fault.Twice n))
IsMeaningOf ls (Err fault.NoReset) = IsFrontOf ls (Err fault.NoReset)
IsMeaningOf ls (Err fault.Memory) = Unit {0}
