use Rattle.std.proofs.Common.{◌∙◌, ◌+◌, ◌%◌, ap}
use Rattle.board_run.specs.History.{values_in, total, shared_numbers}
use Rattle.board_run.specs.State.{numbers_left}
use Rattle.board_run.proofs.Changes.{start_variables, all_left, nothing_more}
use Rattle.board_run.proofs.seen.sum_of.Goals as goal

pub loop-place-init : goal.loop-place-init
loop-place-init c =
    let start = start_variables c.args.map.now.variables c.variables-rest.result.now c.variables-rest.ensures c.rules.ensures.variables in
    record {
      variables = start.0;
      index = start.1;
      made = ap (λ vs. (0 + total (values_in c.args.shadow.now.words (numbers_left vs 0))) % 65536) c.variables-rest.ensures
          ∙ ap (λ ps. (0 + total (values_in c.args.shadow.now.words ps)) % 65536) (all_left c.args.map.now.variables)
          ∙ ap (λ n. n % 65536) (nothing_more (total (values_in c.args.shadow.now.words (shared_numbers c.args.map.now.variables))));
    }
