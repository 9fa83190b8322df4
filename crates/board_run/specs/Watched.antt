-- A watch as a history.
use Rattle.board_run.specs.declared.watch.Watch.TheInside.{Inside}
use Rattle.board_run.specs.History.{History}
use Rattle.board_run.specs.State.{seen_so}

-- what a watch has seen
abbrev pub watched : Inside → History
watched w = seen_so w.seen
