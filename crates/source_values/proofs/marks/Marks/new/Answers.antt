use Rattle.std.proofs.Common.{ap₂, Bool, List}
use Rattle.source_values.specs.Marks.{MarksValue}
use Rattle.source_values.proofs.marks.Marks.new.Goals as goal

pub returns : goal.returns
returns c =
    let marks : List Bool → List Bool → MarksValue = λ variables blocks. record { variables = variables; blocks = blocks } in
    ap₂ marks (c.in_ok-vec.ensures.items_if_clones_equal (λ y e. e)) (c.in_ok-vec-2.ensures.items_if_clones_equal (λ y e. e))
