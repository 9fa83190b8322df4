use Rattle.std.proofs.Common.{◌∙◌, ◌++◌, append-nil, drop, sym, ap}
use Rattle.std.proofs.lemmas.List.{drop_all}
use Rattle.condition_lines.specs.Conditions.{lists_of}
use Rattle.condition_lines.specs.Ways.{task_ways}
use Rattle.condition_lines.proofs.Last.{no_ifs}
use Rattle.condition_lines.proofs.ways.task_ways.Goals as goal

pub returns : goal.returns
returns c =
    let held = c.args.held.now in
    let failed = c.args.failed.now in
    let lines = drop c.loop-i.i c.args.lines.now in
    let past = ap (λ ifs. task_ways held failed lines (lists_of ifs)) (drop_all c.loop-i.i c.args.ifs.now c.loop-i-test.false) ∙ no_ifs held failed lines in
    sym (ap (λ ws. c.loop-i.ways.items ++ ws) past ∙ append-nil c.loop-i.ways.items) ∙ c.loop-i.invariant
