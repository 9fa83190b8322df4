use Rattle.plain_commands.proofs.run.write_report.Given as goal

-- the output as it is
abbrev pub ghosts-write_through : goal.ghosts-write_through
ghosts-write_through g a = record {
  place = a.out.ghost_name;
  contents = g.O.Sink.contents a.out.now;
}
