use Rattle.std.proofs.Common.{◌∙◌}
use Rattle.std.specs.Str.{bytes_eq}
use Rattle.std.proofs.lemmas.Map.Text.{btree_map_updates_str}
use Rattle.task_check.specs.Tables.{found}
use Rattle.task_check.proofs.Tables.{put}
use Rattle.task_check.proofs.table.set.Goals as goal

pub returns : goal.returns
returns g c = λ q. btree_map_updates_str c.args.name.now c.args.table.now c.insert.new.self _ c.in_ok-insert.ensures.updates q
    ∙ put (bytes_eq c.args.name.now q) c.args.value (found c.args.table.now q)
