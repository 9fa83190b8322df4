use Rattle.std.proofs.lemmas.Result.{on_ok_weaker}
use Rattle.image_text.proofs.Printed.{pairs_written, nothing_written}
use Rattle.image_text.proofs.print.push_pairs.Goals as goal

pub returns-in_default : goal.returns-in_default
returns-in_default c = nothing_written c.args.words.now c.args.out.now.items c.in_default.len_below

pub returns : goal.returns
returns c = on_ok_weaker c.push_tail.result (pairs_written c.args.words.now _ _ _ c.in-len1-up.len_at_least c.in_ok-push_pair.ensures) c.push_tail.ensures
