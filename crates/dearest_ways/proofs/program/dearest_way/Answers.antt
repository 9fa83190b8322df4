use Rattle.std.proofs.Common.{◌≡◌, ◌∙◌, sym, ap, subst}
use Rattle.std.proofs.lemmas.Result.{IfOk-weaker}
use Rattle.word_code.specs.array_versions.Program.{Program}
use Rattle.word_code.specs.array_versions.View.{program_of}
use Rattle.code_paths.specs.Paths.{capped}
use Rattle.code_costs.specs.Dearest.{most_spent}
use Rattle.dearest_ways.specs.Calls.{CallsCost}
use Rattle.dearest_ways.specs.Ways.{bare, IsDearestWay}
use Rattle.dearest_ways.proofs.Bare.{with_bodies}
use Rattle.dearest_ways.proofs.Costs.{dearest_costs}
use Rattle.dearest_ways.proofs.program.dearest_way.Goals as goal

pub returns-clause-way : goal.returns-clause-way
returns-clause-way c =
    let calls = c.args.calls.now in
    let given = program_of c.args.program.now in
    IfOk-weaker c.bare_way.result (λ w. IsDearestWay w calls given) (λ w. (p : Program) → bare p ≡ given → IsDearestWay w calls p)
    (λ w is p e. with_bodies w calls p (subst (IsDearestWay w calls) (sym e) is)) c.bare_way.ensures

pub returns-clause-cycles : goal.returns-clause-cycles
returns-clause-cycles c =
    let calls = c.args.calls.now in
    let given = program_of c.args.program.now in
    IfOk-weaker c.bare_way.result (λ w. IsDearestWay w calls given)
    (λ w. (p : Program) → bare p ≡ given → CallsCost calls p → w.cycles ≡ capped (most_spent p))
    (λ w is p e costs. (with_bodies w calls p (subst (IsDearestWay w calls) (sym e) is)).cycles ∙ dearest_costs calls p costs)
    c.bare_way.ensures
