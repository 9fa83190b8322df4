use Rattle.std.proofs.Common.{◌≡◌, ◌++◌, map, ap, ◌∙◌, true, subst, List, All}
use Rattle.std.proofs.lemmas.Result.{on_ok_weaker}
use Rattle.text_parts.specs.Printed.{printed}
use Rattle.image_map.specs.declared.parts.Variable.{Variable}
use Rattle.image_map.specs.Names.{is_name}
use Rattle.image_map.specs.MapValue.{TaskValue}
use Rattle.image_map.specs.Named.{AreTaskNames}
use Rattle.image_map.specs.Text.{variable_fields, tasks_fields}
use Rattle.image_map.proofs.Printed.{map_written}
use Rattle.image_map.proofs.ReadBack.{reads_back}
use Rattle.image_map.proofs.print.push_map.Goals as goal

pub returns-clause-text : goal.returns-clause-text
returns-clause-text c = on_ok_weaker c.push_line.result
    (map_written c.args.map.now c.args.out.now.items _ _ _ _ _ c.in_ok-push_head.ensures
    c.in_ok-push_optional.ensures
    (c.in_ok-push_variables.ensures.text ∙ ap (λ vs. c.push_optional.new.out.items ++ printed (map variable_fields vs)) c.variables.ensures)
    (c.in_ok-push_tasks.ensures.text ∙ ap (λ ts. c.push_variables.new.out.items ++ printed (tasks_fields ts)) c.tasks.ensures))
    c.push_line.ensures

pub returns-clause-reads_back : goal.returns-clause-reads_back
returns-clause-reads_back c = λ some.
    let P : List Variable → Type 0 = λ vs. All (λ v. is_name v.name ≡ true) vs in
    let Q : List TaskValue → Type 0 = λ ts. All AreTaskNames ts in
    on_ok_weaker c.push_line.result
    (λ _. reads_back c.args.map.now c.rules.ensures (subst P c.variables.ensures c.in_ok-push_variables.ensures.names)
    (subst Q c.tasks.ensures c.in_ok-push_tasks.ensures.names) some)
    c.push_line.ensures
