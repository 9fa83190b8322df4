use Rattle.std.proofs.Common.{◌∙◌}
use Rattle.task_ast.specs.View.{program_of}
use Rattle.task_check.proofs.Finish.{finished, looked_up_is, limits_back}
use Rattle.task_check.proofs.passes.check_named.Goals as goal

pub returns-in_ok-checked-in-None-clause-answer : goal.returns-in_ok-checked-in-None-clause-answer
returns-in_ok-checked-in-None-clause-answer c =
    finished c.args.source.now (program_of c.args.tree) c.args.names.items c.args.walk c.requires.names c.requires.walked c.check_placed.result
    c.in_ok-checked-in-None.checked (record {
      fine = c.in-None.is;
      back = c.in_ok-checked-in-None.ensures.place;
      variables = c.in_ok-checked-in-None.ensures.variables ∙ c.deref.ensures.value;
      calls = c.in_ok-checked-in-None.ensures.calls ∙ c.deref-in-None.ensures.value;
      targets = c.in_ok-checked-in-None.ensures.targets ∙ c.deref-in-None-2.ensures.value;
    }) c.check_placed.ensures.same c.check_placed.ensures.fine c.check_placed.ensures.refused

pub check_placed-requires-clause-looked_up : goal.check_placed-requires-clause-looked_up
check_placed-requires-clause-looked_up c =
    looked_up_is c.args.source.now (program_of c.args.tree) c.args.names.items c.args.walk c.requires.names c.requires.walked
    (program_of c.in_ok-checked-in-None.checked) (record {
      fine = c.in-None.is;
      back = c.in_ok-checked-in-None.ensures.place;
      variables = c.in_ok-checked-in-None.ensures.variables ∙ c.deref.ensures.value;
      calls = c.in_ok-checked-in-None.ensures.calls ∙ c.deref-in-None.ensures.value;
      targets = c.in_ok-checked-in-None.ensures.targets ∙ c.deref-in-None-2.ensures.value;
    })

pub check_placed-requires-clause-limits : goal.check_placed-requires-clause-limits
check_placed-requires-clause-limits c = limits_back c.args.source.now (program_of c.args.tree) c.args.names.items c.args.walk c.requires.names c.requires.walked
    (program_of c.in_ok-checked-in-None.checked) c.in_ok-checked-in-None.ensures.place
