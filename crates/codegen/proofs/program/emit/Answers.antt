use Rattle.codegen.proofs.Names.{sym, ap, subst, arith, steps_of, LocalsBelow, locals_of}
use Rattle.word_code.proofs.Interface.{program_least}
use Rattle.codegen.proofs.program.emit.Goals as goal

pub steps_locals-requires : goal.steps_locals-requires
steps_locals-requires c = subst (λ s. LocalsBelow 1016 (steps_of s)) (sym c.deref.ensures.value) c.requires.locals

pub emit_stack_set-requires : goal.emit_stack_set-requires
emit_stack_set-requires c =
    let p = steps_of c.args.program.now.steps.items in
    omega (arith, c.steps_locals.ensures, ap (λ s. locals_of (steps_of s)) c.deref.ensures.value, program_least 1016 p c.requires.locals)

pub emit_block-requires-clause-locals : goal.emit_block-requires-clause-locals
emit_block-requires-clause-locals c = subst (λ s. LocalsBelow 1016 (steps_of s)) (sym c.deref-2.ensures.value) c.requires.locals
