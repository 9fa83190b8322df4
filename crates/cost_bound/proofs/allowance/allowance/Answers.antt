use Rattle.cost_bound.proofs.Known.{few_emits_known}
use Rattle.cost_bound.proofs.allowance.allowance.Goals as goal

pub allowed-requires-clause-few_emits : goal.allowed-requires-clause-few_emits
allowed-requires-clause-few_emits c =
    few_emits_known c.args.source.now.functions.items c.deref.result.now c.args.source.now.tasks.items c.deref-3.result.now
    c.summaries-functions.result.items c.deref-2.result.now c.requires.few_functions c.deref.ensures.value c.deref-3.ensures.value c.deref-2.ensures.0
    c.summaries-functions.ensures c.in_default.ensures.none
