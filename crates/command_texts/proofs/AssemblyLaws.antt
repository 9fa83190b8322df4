-- What a call that assembles says of the text.
use Rattle.std.proofs.Common.{◌≡◌, ℕ, List, Some}
use Rattle.msp_asm.specs.declared.fault.AsmFault.{AsmFault}
use Rattle.msp_asm.specs.declared.fault.AsmFault.TheVariants as fault
use Rattle.msp_asm.specs.Assembled.{assembled, Fails}
use Rattle.command_answers.specs.declared.failure.Failure.{Failure}
use Rattle.command_answers.specs.declared.failure.Failure.TheVariants.{Refused, Put, Write, Memory}
use Rattle.command_answers.specs.Refusals.{Refusal}
use Rattle.command_answers.specs.Outcomes.{FailsRefused}
use Rattle.command_answers.specs.Views.{refusal_of}
use Rattle.command_texts.specs.Assemblies.{RefusesAssembly, assembly_refusal}

-- a fault that is told is the text's
pub refuses_assembly : (text : List ℕ) (e : AsmFault) (r : Refusal) → Fails e (assembled text) → assembly_refusal text e ≡ Some r → RefusesAssembly text r
refuses_assembly text (fault.BadLine n) r is told = record { cause = fault.BadLine n; refused = is; told = told }
refuses_assembly text (fault.RepeatedName n s) r is told = record { cause = fault.RepeatedName n s; refused = is; told = told }
refuses_assembly text (fault.UnknownName n s) r is told = record { cause = fault.UnknownName n s; refused = is; told = told }
refuses_assembly text (fault.OutOfRange n) r is told = record { cause = fault.OutOfRange n; refused = is; told = told }
refuses_assembly text (fault.JumpTooFar n) r is told = record { cause = fault.JumpTooFar n; refused = is; told = told }
refuses_assembly text (fault.Outside n) r is told = record { cause = fault.Outside n; refused = is; told = told }
refuses_assembly text (fault.Overlap n) r is told = record { cause = fault.Overlap n; refused = is; told = told }
refuses_assembly text fault.Memory r is told = cc

-- a failure that tells a fault of the text refuses it
pub fails_assembly : (name text : List ℕ) (e : AsmFault) (failure : Failure) → Fails e (assembled text)
    → FailsRefused name (λ r. assembly_refusal text e ≡ Some r) failure → FailsRefused name (RefusesAssembly text) failure
fails_assembly name text e (Refused file r) is fails = (fails.0, refuses_assembly text e (refusal_of r) is fails.1)
fails_assembly name text e (Put file) is fails = fails
fails_assembly name text e Write is fails = fails
fails_assembly name text e Memory is fails = tt
