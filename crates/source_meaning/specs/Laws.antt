-- No text is accepted and refused, an accepted one is one program, and can be run.
use Rattle.std.specs.Prelude.{◌≡◌, ℕ, List}
use Rattle.task_ast.specs.Paths.{CheckedProgram}
use Rattle.cost_bound.specs.declared.allowance.Allow.{Allow}
use Rattle.source_meaning.specs.declared.fault.SourceFault.{SourceFault}
use Rattle.source_meaning.specs.declared.fault.SourceFault.TheVariants as source_fault
use Rattle.source_values.specs.Running.{IsRunnable}
use Rattle.source_meaning.specs.Acceptance.{IsAcceptedText, IsRefusedText}

-- of an accepted text no other fault is told than want of memory
abbrev pub OneAnswer : Type 0
OneAnswer = (text : List ℕ) (program : CheckedProgram) (allow : Allow) (fault : SourceFault)
    → IsAcceptedText text program allow → IsRefusedText text fault → fault ≡ source_fault.Memory

-- an accepted text is one program with one allowance
abbrev pub OneProgram : Type 0
OneProgram = (text : List ℕ) (p q : CheckedProgram) (a b : Allow) → IsAcceptedText text p a → IsAcceptedText text q b → (p ≡ q) × (a ≡ b)

-- each accepted text can be run
abbrev pub AcceptedTextsRun : Type 0
AcceptedTextsRun = (text : List ℕ) (program : CheckedProgram) (allow : Allow) → IsAcceptedText text program allow → IsRunnable program
