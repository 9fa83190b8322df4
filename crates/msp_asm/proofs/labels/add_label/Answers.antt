use Rattle.std.proofs.Common.{◌∙◌}
use Rattle.std.proofs.Math.Path.{fun_ext}
use Rattle.std.proofs.lemmas.Map.Text.{btree_map_updates_str}
use Rattle.msp_asm.specs.Labels.{label_at}
use Rattle.msp_asm.proofs.Table.{added}
use Rattle.msp_asm.proofs.labels.add_label.Goals as goal

pub returns : goal.returns
returns c = fun_ext (λ q. btree_map_updates_str c.args.name.now c.args.labels.now c.insert.new.self _ c.in_ok-insert.ensures.updates q
    ∙ added (label_at c.args.labels.now) c.args.name.now _ q _ c.place_of.ensures c.if-is_some.ensures)
