use Rattle.std.proofs.Common.{arith, ◌<◌, length}
use Rattle.std.proofs.lemmas.Bool.Decides.{nat_tests}
use Rattle.msp_asm.proofs.Listing.{listed_step, listed_end, listed_cut, piece_fronts, room_behind, no_lines, on_err}
use Rattle.msp_asm.proofs.disassembler.write_lines.Goals as goal

pub returns-in_err-write_all-clause-part : goal.returns-in_err-write_all-clause-part
returns-in_err-write_all-clause-part g c =
    let some : 0 < length c.loop-rest.rest.now = grind (arith, nat_tests, c.is_empty.ensures, c.loop-rest-test.true) in
    on_err _ c.from_residual.result
    (listed_cut _ _ _ _ _ _ _ c.loop-rest.invariant.bytes
    (piece_fronts _ _ _ _ _ c.as_slice.ensures.value some c.next_line-line.ensures.next c.next_line-line.ensures.some c.next_line-line.ensures.within)
    c.in_err-write_all.ensures.bytes.part)

pub loop-rest-preserved : goal.loop-rest-preserved
loop-rest-preserved g c =
    let some : 0 < length c.loop-rest.rest.now = grind (arith, nat_tests, c.is_empty.ensures, c.loop-rest-test.true) in
    record {
      room = room_behind c.loop-rest.at c.next_line-line.result.1 c.loop-rest.rest.now c.next_line-line.ensures.within c.loop-rest.invariant.room;
      bytes = listed_step _ _ _ _ _ _ _ c.loop-rest.invariant.bytes
          (piece_fronts _ _ _ _ _ c.as_slice.ensures.value some c.next_line-line.ensures.next c.next_line-line.ensures.some c.next_line-line.ensures.within)
          c.in_ok-write_all.ensures.bytes.whole;
      count = omega (arith, c.write_all.ensures.cause.later, c.loop-rest.invariant.count);
    }

pub returns-clause-whole : goal.returns-clause-whole
returns-clause-whole g c = listed_end _ _ _ _ c.loop-rest.invariant.bytes (no_lines _ _ (grind (arith, nat_tests, c.is_empty.ensures, c.loop-rest-test.false)))
