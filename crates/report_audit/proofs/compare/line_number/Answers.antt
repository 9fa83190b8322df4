use Rattle.std.proofs.Common.{take, sym, ◌∙◌, ap, ◌+◌}
use Rattle.report_audit.proofs.FirstLines.{feeds_are_counted}
use Rattle.report_audit.proofs.compare.line_number.Goals as goal

pub returns : goal.returns
returns c = ap (λ n. n + 1) (c.feed_count.ensures.value ∙ sym (feeds_are_counted (take c.args.at c.args.text.now)))
