use Rattle.std.proofs.Common.{◌≡◌, ◌≤◌, ◌-◌, take, drop, true}
use Rattle.alp_io.proofs.Interface.{Progress}
use Rattle.command_answers.specs.FileNames.{told_name, is_plain}
use Rattle.command_answers.proofs.names.write_name.Given as goal

abbrev pub invariant-loop-at : goal.invariant-loop-at
invariant-loop-at g l = record {
  inside : l.from ≤ l.at;
  plain : is_plain (take (l.at - l.from) (drop l.from l.name)) ≡ true;
  bytes : Progress (g.E.Sink.contents l.fn.err) (g.E.Sink.contents l.err) (told_name (drop l.from l.name)) (told_name l.name);
  count : g.E.Sink.faults l.fn.err ≤ g.E.Sink.faults l.err;
}
