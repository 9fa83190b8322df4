use Rattle.std.proofs.Common.{◌∙◌, ◌+◌, ap, arith, subst, length}
use Rattle.task_ast.specs.View.{function_of}
use Rattle.cost_bound.specs.Summaries.{function_summary}
use Rattle.cost_bound.specs.Machine.{known_of, summary_of, IsSame}
use Rattle.cost_bound.proofs.Known.{one_known}
use Rattle.std.proofs.lemmas.List.{length_push}
use Rattle.cost_bound.proofs.function_summaries.summaries.Goals as goal

pub loop-i-preserved : goal.loop-i-preserved
loop-i-preserved c = record {
  count = ap length c.push.ensures.items ∙ length_push c.loop-i.known.items c.summary-next.result ∙ ap (λ n. n + 1) c.loop-i.invariant.count;
  are = one_known c.args.functions.now c.loop-i.i c.index-functions-i.result c.loop-i.known.items c.push.new.self.items c.summary-next.result
      c.loop-i-test.true c.index-functions-i.is
      (let few = c.requires.few in let count = c.loop-i.invariant.count in let l = c.loop-i-test.true in omega (arith, few, count, l))
      c.loop-i.invariant.are
      (subst (λ ks. IsSame (summary_of c.summary-next.result) (function_summary (known_of ks) (function_of c.index-functions-i.result))) c.deref.ensures.0
      c.summary-next.ensures) c.push.ensures.items;
}
