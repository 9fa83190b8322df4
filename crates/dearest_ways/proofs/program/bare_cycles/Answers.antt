use Rattle.std.proofs.Common.{sym, ap, subst, arith}
use Rattle.word_code.specs.array_versions.View.{steps_of}
use Rattle.word_code.specs.array_versions.Form.{LocalsBelow}
use Rattle.dearest_ways.specs.Ways.{program_choices}
use Rattle.dearest_ways.proofs.Few.{program_few}
use Rattle.dearest_ways.proofs.program.bare_cycles.Goals as goal

pub block_ways-requires-clause-few : goal.block_ways-requires-clause-few
block_ways-requires-clause-few c =
    let p = steps_of c.args.body.now.steps.items in
    omega (arith, program_few p, c.requires.room, ap (λ s. program_choices (steps_of s)) c.deref.ensures.value)
