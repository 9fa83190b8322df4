use Rattle.std.proofs.Common.{drop}
use Rattle.board_run.specs.Shadow.{HasLengths, AreRest}
use Rattle.board_run.proofs.shadow.follow_places.Given as goal

abbrev pub invariant-loop-listed : goal.invariant-loop-listed
invariant-loop-listed l = record {
  lengths : HasLengths l.words.items l.marks.items l.blocks.items l.regions.items;
  rest : AreRest l.words.items l.marks.items l.fram (drop l.listed-index l.places);
}
