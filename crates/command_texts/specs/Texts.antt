-- Texts that are refused, each with the line, the kind and what the fault keeps.
use Rattle.std.specs.Prelude.{◌≡◌, ℕ, List, codes, Option, Some, None, Err, Ok}
use Rattle.energy_trace.specs.declared.fault.TraceFault.TheVariants as trace_fault
use Rattle.energy_trace.specs.Reading.{trace_of}
use Rattle.image_text.specs.declared.fault.ImageFault.{ImageFault}
use Rattle.image_text.specs.declared.fault.ImageFault.TheVariants as image_fault
use Rattle.image_text.specs.Reading.{image_of}
use Rattle.state_text.specs.Reading.{state_of}
use Rattle.command_answers.specs.Refusals.{Refusal, plain}
use Rattle.energy_trace.specs.TraceValue.{TraceValue}
use Rattle.image_text.specs.ImageValue.{ImageValue}
use Rattle.state_text.specs.declared.state.State.{State}

-- the text's first fault as a trace
pub data RefusesTrace (text : List ℕ) : Refusal → Type 0 where
  bad_trace_line : (n : ℕ) → trace_of text ≡ Err (trace_fault.BadLine n) → RefusesTrace text (plain n (codes "BadLine"))
  too_many : (n : ℕ) → trace_of text ≡ Err (trace_fault.TooMany n) → RefusesTrace text (plain n (codes "TooMany"))

-- the refusal of each fault of an image text or a state text, if it is one of the text; that of a missing reset vector is of the whole text
abbrev pub image_refusal : ImageFault → Option Refusal
image_refusal (image_fault.BadLine line) = Some (plain line (codes "BadLine"))
image_refusal (image_fault.OutsideFram line) = Some (plain line (codes "OutsideFram"))
image_refusal (image_fault.Twice line) = Some (plain line (codes "Twice"))
image_refusal image_fault.NoReset = Some (plain 0 (codes "NoReset"))
image_refusal (image_fault.BadMap line) = Some (plain line (codes "BadMap"))
image_refusal image_fault.Memory = None

-- the text's first fault as an image
pub record RefusesImage (text : List ℕ) (r : Refusal) : Type 0 where
  pub cause : ImageFault
  pub refused : image_of text ≡ Err cause
  pub told : image_refusal cause ≡ Some r

-- the text's first fault as a state
pub record RefusesState (text : List ℕ) (r : Refusal) : Type 0 where
  pub cause : ImageFault
  pub refused : state_of text ≡ Err cause
  pub told : image_refusal cause ≡ Some r

-- a text is a trace
abbrev pub SaysTrace : List ℕ → Type 0
SaysTrace text = (value : TraceValue) × (trace_of text ≡ Ok value)

-- a text is an image
abbrev pub SaysImage : List ℕ → Type 0
SaysImage text = (value : ImageValue) × (image_of text ≡ Ok value)

-- a text is a state
abbrev pub SaysState : List ℕ → Type 0
SaysState text = (value : State) × (state_of text ≡ Ok value)
