use Rattle.std.proofs.Common.{ap}
use Rattle.std.specs.Option.{option_map}
use Rattle.task_ast.specs.View.{expression_of}
use Rattle.path_checks.proofs.Walks.{declared_none, declared_some}
use Rattle.path_checks.proofs.walk.declare.Goals as goal

pub returns-in-None : goal.returns-in-None
returns-in-None c = declared_none c.unset.result c.args.walk.now c.unset.new.walk c.args.name.now (option_map expression_of c.args.value.now)
    (ap (option_map expression_of) c.in-None.is) c.unset.ensures

pub returns-in-Some : goal.returns-in-Some
returns-in-Some c =
    declared_some c.assign.result c.args.walk.now c.assign.new.walk c.args.name.now (option_map expression_of c.args.value.now)
    (expression_of c.in-Some.value) (ap (option_map expression_of) c.in-Some.is) c.assign.ensures
