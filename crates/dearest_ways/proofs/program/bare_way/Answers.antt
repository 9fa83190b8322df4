use Rattle.std.proofs.Common.{sym, ap, subst, arith}
use Rattle.word_code.specs.array_versions.View.{steps_of}
use Rattle.word_code.specs.array_versions.Form.{LocalsBelow, locals_of}
use Rattle.word_code.proofs.Interface.{program_least}
use Rattle.dearest_ways.specs.Ways.{program_choices}
use Rattle.dearest_ways.proofs.Few.{program_few}
use Rattle.dearest_ways.proofs.program.bare_way.Goals as goal

pub steps_locals-requires : goal.steps_locals-requires
steps_locals-requires c = subst (λ s. LocalsBelow 1016 (steps_of s)) (sym c.deref.ensures.value) c.requires.locals

pub emit_stack_set-requires : goal.emit_stack_set-requires
emit_stack_set-requires c =
    let p = steps_of c.args.program.now.steps.items in
    omega (arith, c.steps_locals.ensures, ap (λ s. locals_of (steps_of s)) c.deref.ensures.value, program_least 1016 p c.requires.locals)

pub block_ways-requires-clause-locals : goal.block_ways-requires-clause-locals
block_ways-requires-clause-locals c = subst (λ s. LocalsBelow 1016 (steps_of s)) (sym c.deref-2.ensures.value) c.requires.locals

pub block_ways-requires-clause-few : goal.block_ways-requires-clause-few
block_ways-requires-clause-few c =
    let p = steps_of c.args.program.now.steps.items in
    omega (arith, program_few p, c.requires.room, ap (λ s. program_choices (steps_of s)) c.deref-2.ensures.value)
