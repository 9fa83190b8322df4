use Rattle.std.proofs.Common.{◌≡◌, ◌∙◌, ap, ap₂, arith, Bool, false, List, replicate}
use Rattle.std.specs.Vec.{vec_len}
use Rattle.source_values.specs.Marks.{MarksValue}
use Rattle.source_values.proofs.marks.Marks.clear.Goals as goal

pub returns : goal.returns
returns c =
    let marks : List Bool → List Bool → MarksValue = λ variables blocks. record { variables = variables; blocks = blocks } in
    let few : vec_len c.self.inside.variables ≡ 256 = omega (arith, c.self.invariant.0, c.self.inside.variables.ok.0) in
    let many : vec_len c.self.inside.blocks ≡ 1024 = omega (arith, c.self.invariant.1, c.self.inside.blocks.ok.0) in
    ap₂ marks (c.fill.ensures.items (λ y h. h) ∙ ap (λ n. replicate n false) few) (c.fill-2.ensures.items (λ y h. h) ∙ ap (λ n. replicate n false) many)
