use Rattle.std.proofs.Common.{◌∙◌, ◌∷◌, ◌+◌, ◌*◌, ap, sym, Some, List, ℕ, false}
use Rattle.board_run.specs.History.{SharedNumber}
use Rattle.board_run.specs.State.{numbers_left}
use Rattle.board_run.proofs.Placed.{behind_scalar, behind_array, cut_in_array}
use Rattle.board_run.proofs.numbers.cut_number.Goals as goal

pub returns-in-None-clause-next : goal.returns-in-None-clause-next
returns-in-None-clause-next c = behind_scalar c.args.variables.now c.v-item.result _ c.in-len1-up.len_at_least c.v-item.is c.requires.variables c.in-None.is
    c.is_long.ensures

pub returns-then-i-n-clause-cut : goal.returns-then-i-n-clause-cut
returns-then-i-n-clause-cut c =
    let P : List ℕ → List SharedNumber = λ name.
    record { name = name; index = Some c.args.i; address = c.v-item.result.address + 2 * c.args.i; is_long = false }
    ∷ numbers_left c.args.variables.now (c.args.i + 1) in
    cut_in_array c.args.variables.now c.v-item.result c.in-Some.n c.args.i c.in-len1-up.len_at_least c.v-item.is c.in-Some.is c.if-i-n.true
    ∙ ap P (sym c.as_bytes-name.ensures.value)

pub returns-else-i-n-clause-next : goal.returns-else-i-n-clause-next
returns-else-i-n-clause-next c = behind_array c.args.variables.now c.v-item.result c.in-Some.n c.args.i c.in-len1-up.len_at_least c.v-item.is
    c.requires.variables c.in-Some.is c.requires.index
