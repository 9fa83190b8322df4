-- What a call that reads an image text or a state text says of the text.
use Rattle.std.proofs.Common.{◌≡◌, ℕ, List, Result, Err, Some}
use Rattle.image_text.specs.declared.fault.ImageFault.{ImageFault}
use Rattle.image_text.specs.declared.fault.ImageFault.TheVariants as fault
use Rattle.image_text.specs.Reading.{Fails, image_of}
use Rattle.state_text.specs.Reading.{state_of}
use Rattle.command_answers.specs.declared.failure.Failure.{Failure}
use Rattle.command_answers.specs.declared.failure.Failure.TheVariants.{Refused, Put, Write, Memory}
use Rattle.command_answers.specs.Refusals.{Refusal}
use Rattle.command_answers.specs.Outcomes.{FailsRefused}
use Rattle.command_answers.specs.Views.{refusal_of}
use Rattle.command_texts.specs.Texts.{RefusesImage, RefusesState, image_refusal}

-- a fault that is told is the reading's
is_told : {A : Type 0} (said : Result A ImageFault) (e : ImageFault) (r : Refusal) → Fails e said → image_refusal e ≡ Some r → said ≡ Err e
is_told said (fault.BadLine n) r is told = is
is_told said (fault.OutsideFram n) r is told = is
is_told said (fault.Twice n) r is told = is
is_told said fault.NoReset r is told = is
is_told said (fault.BadMap n) r is told = is
is_told said fault.Memory r is told = cc

-- a failure that tells a fault of an image text refuses it
pub fails_image : (name text : List ℕ) (e : ImageFault) (failure : Failure) → Fails e (image_of text)
    → FailsRefused name (λ r. image_refusal e ≡ Some r) failure → FailsRefused name (RefusesImage text) failure
fails_image name text e (Refused file r) is fails =
    (fails.0, record { cause = e; refused = is_told (image_of text) e (refusal_of r) is fails.1; told = fails.1 })
fails_image name text e (Put file) is fails = fails
fails_image name text e Write is fails = fails
fails_image name text e Memory is fails = tt

-- one that tells a fault of a state text refuses it
pub fails_state : (name text : List ℕ) (e : ImageFault) (failure : Failure) → Fails e (state_of text)
    → FailsRefused name (λ r. image_refusal e ≡ Some r) failure → FailsRefused name (RefusesState text) failure
fails_state name text e (Refused file r) is fails =
    (fails.0, record { cause = e; refused = is_told (state_of text) e (refusal_of r) is fails.1; told = fails.1 })
fails_state name text e (Put file) is fails = fails
fails_state name text e Write is fails = fails
fails_state name text e Memory is fails = tt
