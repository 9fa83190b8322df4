use Rattle.std.proofs.Common.{length, ap, arith}
use Rattle.code_paths.proofs.Costs.{costs_length, cost_there}
use Rattle.code_paths.proofs.paths.dearest_there.Goals as goal

pub bounds-costs-i : goal.bounds-costs-i
bounds-costs-i c =
    let same = ap length c.requires in
    let many = costs_length c.args.code.now in
    let less = c.loop-i-test.true in
    omega (arith, same, many, less)

pub returns-then-left-eq0 : goal.returns-then-left-eq0
returns-then-left-eq0 c =
    cost_there c.args.code.now c.args.costs.now c.loop-i.i c.loop-i.left c.args.bytes c.requires c.loop-i-test.true c.if-left-eq0.true c.loop-i.invariant
