use Rattle.std.proofs.Common.{arith, ◌∙◌, sym}
use Rattle.pair_run.specs.Lines.{known_after}
use Rattle.pair_run.proofs.Doing.{none_done}
use Rattle.pair_run.proofs.Going.{gone_on, rest_full, rest_ended, all_err}
use Rattle.pair_run.proofs.Entries.{entry_more, entry_partly, entries_rest, entries_end}
use Rattle.pair_run.proofs.Rooms.{room_less}
use Rattle.pair_run.proofs.run.make_entries.Goals as goal

pub loop-entry-init : goal.loop-entry-init
loop-entry-init g c = record {
  going = c.requires.going;
  room = room_less _ _ _ (omega arith) c.requires.room;
  faults = omega arith;
  on = λ p k shows. none_done _ p k _ shows;
}

pub make_entry-requires-clause-room : goal.make_entry-requires-clause-room
make_entry-requires-clause-room g c = room_less _ _ _ (omega arith) c.loop-entry.invariant.room

pub returns-then-is_full-clause-done : goal.returns-then-is_full-clause-done
returns-then-is_full-clause-done g c p k shows =
    let d = c.loop-entry.invariant.on p k shows in
    entries_rest c.args.entries.now c.loop-entry.entry-index p k _ _ _ d (λ acts. rest_full _ acts d.behind (known_after k d.moments) _ d.reaches (sym c.is_full.ensures ∙ c.if-is_full.true))

pub returns-then-have_ended-clause-done : goal.returns-then-have_ended-clause-done
returns-then-have_ended-clause-done g c p k shows =
    let d = c.loop-entry.invariant.on p k shows in
    entries_rest c.args.entries.now c.loop-entry.entry-index p k _ _ _ d (λ acts. rest_ended _ acts d.behind (known_after k d.moments) _ d.reaches (sym c.have_ended.ensures ∙ c.if-have_ended.true))

pub returns-in_err-make_entry-clause-done : goal.returns-in_err-make_entry-clause-done
returns-in_err-make_entry-clause-done g c p k shows =
    let d = c.loop-entry.invariant.on p k shows in
    let on = gone_on _ _ _ d.reaches (sym c.have_ended.ensures ∙ c.if-have_ended.false) in
    all_err _ p k _ _ _ _ c.from_residual.ensures.0
    (entry_partly c.args.entries.now c.loop-entry.entry-index p k _ _ _ d _ c.loop-entry-test.true (c.in_err-make_entry.ensures.done d.behind (known_after k d.moments) on))

pub loop-entry-preserved : goal.loop-entry-preserved
loop-entry-preserved g c = record {
  going = c.in_ok-make_entry.ensures.going;
  room = c.in_ok-make_entry.ensures.room _ (room_less _ _ _ (omega arith) c.loop-entry.invariant.room);
  faults = omega (arith, c.loop-entry.invariant.faults, c.in_ok-make_entry.ensures.cause.later);
  on = λ p k shows.
      let d = c.loop-entry.invariant.on p k shows in
      let on = gone_on _ _ _ d.reaches (sym c.have_ended.ensures ∙ c.if-have_ended.false) in
      entry_more c.args.entries.now c.loop-entry.entry-index p k _ _ _ d _ _ c.loop-entry-test.true (c.in_ok-make_entry.ensures.done d.behind (known_after k d.moments) on);
}

pub returns-clause-done : goal.returns-clause-done
returns-clause-done g c p k shows = entries_end c.args.entries.now c.loop-entry.entry-index p k _ _ _ (c.loop-entry.invariant.on p k shows) c.loop-entry-test.false
