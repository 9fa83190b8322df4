use Rattle.std.proofs.Common.{◌∙◌, ap, arith, subst, sym}
use Rattle.task_ast.specs.View.{function_of}
use Rattle.function_locals.specs.Locals.{function_locals}
use Rattle.function_locals.proofs.Loops.{Made, none_made, one_made, all_made}
use Rattle.function_locals.proofs.locals.all_locals.Goals as goal

pub loop-i-init : goal.loop-i-init
loop-i-init c = subst (Made c.args.functions.now 0) (sym c.new-known.ensures) (none_made c.args.functions.now)

pub loop-i-preserved : goal.loop-i-preserved
loop-i-preserved c =
    one_made c.args.functions.now c.loop-i.i c.index-functions-i.result c.loop-i.known.items c.push.new.self.items c.function_locals-next.result
    c.loop-i-test.true c.index-functions-i.is
    (c.function_locals-next.ensures ∙ ap (λ ks. function_locals ks (function_of c.index-functions-i.result)) c.deref.ensures.0)
    c.push.ensures.items c.loop-i.invariant

pub returns : goal.returns
returns c = all_made c.args.functions.now c.loop-i.i c.loop-i.known.items (omega arith) c.loop-i.invariant
