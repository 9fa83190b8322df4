use Rattle.std.proofs.Common.{rules, ◌≡◌, ◌++◌, not, drop, map, ap, ◌∙◌}
use Rattle.std.specs.List.{filter}
use Rattle.path_checks.specs.Walks.{is_assigned, at_mark}
use Rattle.path_checks.specs.Ways.{ended, ended_unassigned, is_kept}
use Rattle.path_checks.proofs.Ended.{both_ended}
use Rattle.path_checks.proofs.ways.meet.Goals as goal

pub returns : goal.returns
returns c = λ x.
    let turned = drop c.args.mark c.args.walk.now.turned.items in
    let assigned = is_assigned c.args.walk.now in
    let both : c.extend_from_slice.new.self.items
    ≡ filter (is_kept assigned) c.args.ends.now ++ map ended_unassigned (filter (λ x. not (assigned x)) turned) = search rules in
    ap (λ es. ended es x (at_mark c.args.walk.now c.args.mark x)) both ∙ both_ended c.args.ends.now turned assigned x
