use Rattle.std.proofs.Common.{◌≡◌, ◌+◌, ◌++◌, None, drop}
use Rattle.task_ast.specs.View.{block_view, choice_view}
use Rattle.condition_lines.specs.Conditions.{block_conditions, block_ifs, choice_conditions, choice_ifs, lists_of, own_numbers}
use Rattle.condition_lines.proofs.conditions.+ifs.Given as goal

-- the conditions of an `if` so far, and those that are left of those with a condition
abbrev pub invariant-push_arms-loop-arm : goal.invariant-push_arms-loop-arm
invariant-push_arms-loop-arm l =
    let left = choice_view (drop l.arm-index l.arms) None in
    let all = choice_view l.arms None in
    record {
      own : l.own.items ++ own_numbers l.number left ≡ own_numbers l.initial.number all;
      ifs : lists_of l.ifs.items ++ choice_ifs l.number left ≡ lists_of l.initial.ifs.items ++ choice_ifs l.initial.number all;
      count : l.number + choice_conditions left ≡ l.initial.number + choice_conditions all;
    }

abbrev pub invariant-push_block-loop-statement : goal.invariant-push_block-loop-statement
invariant-push_block-loop-statement l =
    let left = block_view (drop l.statement-index l.body) in
    let all = block_view l.body in
    record {
      ifs : lists_of l.ifs.items ++ block_ifs l.number left ≡ lists_of l.initial.ifs.items ++ block_ifs l.initial.number all;
      count : l.number + block_conditions left ≡ l.initial.number + block_conditions all;
    }
