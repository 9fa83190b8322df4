use Rattle.std.proofs.Common.{◌≡◌, ◌∙◌, ℕ, List, true}
use Rattle.text_parts.proofs.Interface.{line_more, lines_done}
use Rattle.image_map.specs.Names.{is_name}
use Rattle.image_map.specs.Text.{private_fields}
use Rattle.image_map.proofs.Printed.{one_more}
use Rattle.image_map.proofs.print.push_privates.Goals as goal

pub loop-name-preserved : goal.loop-name-preserved
loop-name-preserved c =
    let P : List ℕ → Type 0 = (λ n. is_name n ≡ true) in
    record {
      text = line_more private_fields c.args.names.now _ c.loop-name.name-index _ _ c.loop-name-test.true c.name-item.is c.in_ok-push_private.ensures.text
          ∙ c.loop-name.invariant.text;
      names = one_more P c.args.names.now c.name-item.result c.loop-name.name-index c.loop-name-test.true c.name-item.is
          c.in_ok-push_private.ensures.name c.loop-name.invariant.names;
    }

pub returns-clause-text : goal.returns-clause-text
returns-clause-text c = lines_done private_fields c.args.names.now c.loop-name.name-index c.loop-name.out.items c.loop-name-test.false
    ∙ c.loop-name.invariant.text
