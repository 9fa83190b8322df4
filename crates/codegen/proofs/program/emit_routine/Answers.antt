use Rattle.codegen.proofs.Names.{sym, subst, steps_of, LocalsBelow}
use Rattle.codegen.proofs.program.emit_routine.Goals as goal

pub emit_block-requires-clause-locals : goal.emit_block-requires-clause-locals
emit_block-requires-clause-locals c = subst (λ s. LocalsBelow 1016 (steps_of s)) (sym c.deref.ensures.value) c.requires.locals
