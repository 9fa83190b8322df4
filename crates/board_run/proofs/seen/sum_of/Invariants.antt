use Rattle.std.proofs.Common.{◌≡◌, ◌+◌, ◌%◌, length, All}
use Rattle.image_text.specs.image_map.MapValue.{IsVariable}
use Rattle.board_run.specs.History.{values_in, shared_numbers, total}
use Rattle.board_run.specs.State.{numbers_left, HasIndex}
use Rattle.board_run.proofs.seen.sum_of.Given as goal

abbrev pub invariant-loop-place : goal.invariant-loop-place
invariant-loop-place l = record {
  variables : All IsVariable l.rest;
  index : HasIndex l.rest l.i;
  made : (l.sum + total (values_in l.shadow.words (numbers_left l.rest l.i))) % 65536
      ≡ total (values_in l.shadow.words (shared_numbers l.map.variables)) % 65536;
}

abbrev pub decreases-loop-place : goal.decreases-loop-place
decreases-loop-place l = length (numbers_left l.rest l.i)
