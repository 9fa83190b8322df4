use Rattle.pair_run.proofs.sides.write_bound.Given as goal

-- the sink as it is
abbrev pub ghosts-write_bound_through : goal.ghosts-write_bound_through
ghosts-write_bound_through g a = record {
  place = a.sink.ghost_name;
  contents = g.S.Sink.contents a.sink.now;
  letter = a.letter;
}
