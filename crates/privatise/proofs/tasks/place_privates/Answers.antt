use Rattle.std.proofs.Common.{sym, subst, take, ◌∙◌, arith}
use Rattle.std.proofs.lemmas.List.{get_or_default}
use Rattle.privatise.specs.Placing.{ArePrivates}
use Rattle.privatise.proofs.TasksPlaced.{no_privates, next_private, all_privates}
use Rattle.privatise.proofs.tasks.place_privates.Goals as goal

pub loop-number-init : goal.loop-number-init
loop-number-init c =
    subst (λ xs. ArePrivates c.args.variables.now (take 0 c.args.numbers.now) xs) (sym c.new-privates.ensures.items)
    (no_privates c.args.variables.now c.args.numbers.now)

pub private_scalar-requires : goal.private_scalar-requires
private_scalar-requires c = c.requires c.loop-number.number-index _ c.loop-number-test.true

pub loop-number-preserved : goal.loop-number-preserved
loop-number-preserved c =
    next_private c.args.variables.now c.args.numbers.now c.loop-number.number-index c.private_scalar.result c.loop-number.privates.items c.push.new.self.items
    c.loop-number-test.true
    (c.private_scalar.ensures.number ∙ get_or_default c.args.numbers.now c.loop-number.number-index _ _ c.loop-number-test.true)
    c.private_scalar.ensures.place c.in_ok-push.ensures.items c.loop-number.invariant

pub returns : goal.returns
returns c = all_privates c.args.variables.now c.args.numbers.now c.loop-number.number-index c.loop-number.privates.items (omega arith) c.loop-number.invariant
