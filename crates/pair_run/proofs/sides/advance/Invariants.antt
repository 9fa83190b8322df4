use Rattle.pair_run.proofs.sides.advance.Given as goal

-- the sink as it is
abbrev pub ghosts-advance_through : goal.ghosts-advance_through
ghosts-advance_through g a = record {
  place = a.sink.ghost_name;
  contents = g.S.Sink.contents a.sink.now;
  letter = a.letter;
}
