use Rattle.pair_run.proofs.run.run_pair.Given as goal

-- the sink as it is
abbrev pub ghosts-write_through : goal.ghosts-write_through
ghosts-write_through g a = record {
  place = a.sink.ghost_name;
  contents = g.S.Sink.contents a.sink.now;
}
