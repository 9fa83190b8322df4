use Rattle.std.proofs.Common.{◌∙◌, ◌++◌, ap, sym, map}
use Rattle.std.proofs.Math.ListN.{drop_of_length-le}
use Rattle.text_parts.specs.Printed.{printed}
use Rattle.need_lines.specs.Lines.{way_fields}
use Rattle.need_lines.proofs.Written.{way_written, no_ways_written}
use Rattle.need_lines.proofs.lines.push_ways.Goals as goal

pub loop-way-preserved : goal.loop-way-preserved
loop-way-preserved c =
    way_written c.args.ways.now c.loop-way.way-index _ _ _ c.loop-way-test.true c.in_ok-push_way.ensures ∙ c.loop-way.invariant

pub returns : goal.returns
returns c =
    sym (ap (λ ws. c.loop-way.out.items ++ printed (map way_fields ws)) (drop_of_length-le c.args.ways.now c.loop-way-test.false)
    ∙ no_ways_written c.loop-way.out.items)
    ∙ c.loop-way.invariant
