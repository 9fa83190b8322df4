use Rattle.std.proofs.Common.{◌≡◌, ◌∙◌, [], sym, ap}
use Rattle.std.proofs.lemmas.Result.{IfOk-weaker}
use Rattle.word_code.specs.array_versions.Program.{Program}
use Rattle.word_code.specs.array_versions.View.{program_of}
use Rattle.code_paths.specs.Paths.{capped}
use Rattle.code_costs.specs.Dearest.{block_most}
use Rattle.dearest_ways.specs.Calls.{CallsCost}
use Rattle.dearest_ways.specs.Ways.{bare, body_cycles}
use Rattle.dearest_ways.proofs.Bare.{bare_cycles}
use Rattle.dearest_ways.proofs.Costs.{body_costs}
use Rattle.dearest_ways.proofs.program.body_cycles.Goals as goal

pub returns : goal.returns
returns c =
    let calls = c.args.calls.now in
    let given = program_of c.args.body.now in
    IfOk-weaker c.bare_cycles.result (λ n. n ≡ body_cycles calls given)
    (λ n. (p : Program) → bare p ≡ given → CallsCost calls p → n ≡ capped (block_most [] p 0))
    (λ n is p e costs. is ∙ ap (body_cycles calls) (sym e) ∙ bare_cycles calls p ∙ body_costs calls p costs) c.bare_cycles.ensures
