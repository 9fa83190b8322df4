-- Assembler texts that are refused, each with the line, the kind and the name that the fault keeps.
use Rattle.std.specs.Prelude.{◌≡◌, ℕ, List, codes, Option, Some, None, Err, Ok}
use Rattle.msp_asm.specs.declared.fault.AsmFault.{AsmFault}
use Rattle.msp_asm.specs.declared.fault.AsmFault.TheVariants as fault
use Rattle.msp_asm.specs.Assembled.{assembled}
use Rattle.command_answers.specs.Refusals.{Refusal, plain, named}

-- the refusal of each fault, if it is one of the text
abbrev pub assembly_refusal : List ℕ → AsmFault → Option Refusal
assembly_refusal text (fault.BadLine line) = Some (plain line (codes "BadLine"))
assembly_refusal text (fault.RepeatedName line span) = Some (named text line (codes "RepeatedName") span)
assembly_refusal text (fault.UnknownName line span) = Some (named text line (codes "UnknownName") span)
assembly_refusal text (fault.OutOfRange line) = Some (plain line (codes "OutOfRange"))
assembly_refusal text (fault.JumpTooFar line) = Some (plain line (codes "JumpTooFar"))
assembly_refusal text (fault.Outside line) = Some (plain line (codes "Outside"))
assembly_refusal text (fault.Overlap line) = Some (plain line (codes "Overlap"))
assembly_refusal text fault.Memory = None

-- the text's first fault as an assembler text
pub record RefusesAssembly (text : List ℕ) (r : Refusal) : Type 0 where
  pub cause : AsmFault
  pub refused : assembled text ≡ Err cause
  pub told : assembly_refusal text cause ≡ Some r

-- a text is an assembler text
abbrev pub SaysAssembly : List ℕ → Type 0
SaysAssembly text = (words : List ℕ) × (assembled text ≡ Ok words)
