use Rattle.std.proofs.Common.{◌∙◌, ap, cond, Some, arith}
use Rattle.std.specs.Prelude.{◌-◌}
use Rattle.std.specs.Ordering.{nat_cmp}
use Rattle.std.specs.Cmp.Lexicographic.{slice_cmp}
use Rattle.std.specs.BTreeMap.{get_by}
use Rattle.std.specs.Str.{bytes_eq}
use Rattle.std.proofs.lemmas.Map.Text.{btree_map_updates_str}
use Rattle.fram_state.proofs.Numbers.{numbered}
use Rattle.fram_state.proofs.kept.numbers_of.Goals as goal

pub loop-i-preserved : goal.loop-i-preserved
loop-i-preserved c = λ q.
    btree_map_updates_str c.spelled.result.now c.loop-i.numbers c.insert.new.self _ c.in_ok-insert.ensures.updates q
    ∙ ap (λ n. cond (bytes_eq n q) (Some (c.loop-i.i - 1)) (get_by (λ k. slice_cmp nat_cmp q k.now) c.loop-i.numbers)) c.spelled.ensures
    ∙ numbered c.args.text.now c.args.shared.now c.loop-i.i _ q _ c.loop-i-test.true c.loop-i.auto.i (c.loop-i.invariant q)
