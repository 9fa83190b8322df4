use Rattle.std.proofs.Common.{◌≡◌, ◌∙◌, true}
use Rattle.text_parts.proofs.Interface.{line_more, lines_done}
use Rattle.image_map.specs.declared.parts.Variable.{Variable}
use Rattle.image_map.specs.Names.{is_name}
use Rattle.image_map.specs.Text.{variable_fields}
use Rattle.image_map.proofs.Printed.{one_more}
use Rattle.image_map.proofs.print.push_variables.Goals as goal

pub loop-v-preserved : goal.loop-v-preserved
loop-v-preserved c =
    let P : Variable → Type 0 = (λ v. is_name v.name ≡ true) in
    record {
      text = line_more variable_fields c.args.variables.now _ c.loop-v.v-index _ _ c.loop-v-test.true c.v-item.is c.in_ok-push_variable.ensures.text
          ∙ c.loop-v.invariant.text;
      names = one_more P c.args.variables.now c.v-item.result c.loop-v.v-index c.loop-v-test.true c.v-item.is
          c.in_ok-push_variable.ensures.name c.loop-v.invariant.names;
    }

pub returns-clause-text : goal.returns-clause-text
returns-clause-text c = lines_done variable_fields c.args.variables.now c.loop-v.v-index c.loop-v.out.items c.loop-v-test.false ∙ c.loop-v.invariant.text
