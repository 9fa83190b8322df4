use Rattle.std.proofs.Common.{refl, arith}
use Rattle.board_run.specs.Charges.{charges_of}
use Rattle.pair_run.specs.Lines.{known_at_first}
use Rattle.pair_run.specs.Told.{pair_at_first}
use Rattle.pair_run.proofs.Starts.{room_first, counts_first, listener_first, shows_first, told_cut_a, told_cut_b, bounds_told, told_partly, told_all}
use Rattle.pair_run.proofs.run.write_lines.Goals as goal

pub make_entries-requires-clause-room : goal.make_entries-requires-clause-room
make_entries-requires-clause-room g c =
    let few = c.entries.ensures.few in
    record {
      a = room_first _ _ _ _ _ c.stepwise-a.ensures.state c.stepwise-a.ensures.known c.requires.a_accepted c.requires.a_repeats (omega (arith, few));
      b = room_first _ _ _ _ _ c.stepwise-b.ensures.state c.stepwise-b.ensures.known c.requires.b_accepted c.requires.b_repeats (omega (arith, few));
      listener = rw c.new-listener.ensures (counts_first _ _ _ (omega (arith, few)));
    }

pub returns-in_err-write_bound-clause-told : goal.returns-in_err-write_bound-clause-told
returns-in_err-write_bound-clause-told g c = told_cut_a _ _ _ _ _ _ _ c.from_residual.ensures.0 c.in_err-write_bound.ensures.bytes.part

pub returns-in_err-write_bound-2-clause-told : goal.returns-in_err-write_bound-2-clause-told
returns-in_err-write_bound-2-clause-told g c =
    told_cut_b _ _ _ _ _ _ _ _ c.from_residual-in_err-write_bound-2.ensures.0 c.in_ok-write_bound.ensures.bytes.whole c.in_err-write_bound-2.ensures.bytes.part

pub returns-in_err-make_entries-clause-told : goal.returns-in_err-make_entries-clause-told
returns-in_err-make_entries-clause-told g c =
    let p = pair_at_first c.args.a.now (charges_of c.args.a_trace.now.charges) c.args.b.now (charges_of c.args.b_trace.now.charges) c.args.air.now in
    let a = c.args.a_watch.now in
    let b = c.args.b_watch.now in
    let es = c.args.schedule.now in
    let old = g.S.Sink.contents c.args.sink.now in
    let half = g.S.Sink.contents c.write_bound.new.sink in
    let mid = g.S.Sink.contents c.write_bound-2.new.sink in
    let listener = listener_first c.stepwise-b.result _ _ _ _ _ _ c.stepwise-b.ensures.state c.stepwise-b.ensures.known c.answer_place.ensures
    c.events_taken.ensures c.new-listener.ensures in
    let shows = shows_first _ p a b c.stepwise-a.ensures.state c.stepwise-b.ensures.state refl refl refl
    c.stepwise-a.ensures.known c.stepwise-b.ensures.known listener in
    let begun = bounds_told p a b es old half mid c.in_ok-write_bound.ensures.bytes.whole c.in_ok-write_bound-2.ensures.bytes.whole in
    told_partly p a b es old mid _ _ c.from_residual-in_err-make_entries.ensures.0 begun
    (rw c.entries.ensures.value at (c.in_err-make_entries.ensures.done p (known_at_first a b) shows))

pub returns-clause-told : goal.returns-clause-told
returns-clause-told g c =
    let p = pair_at_first c.args.a.now (charges_of c.args.a_trace.now.charges) c.args.b.now (charges_of c.args.b_trace.now.charges) c.args.air.now in
    let a = c.args.a_watch.now in
    let b = c.args.b_watch.now in
    let es = c.args.schedule.now in
    let old = g.S.Sink.contents c.args.sink.now in
    let half = g.S.Sink.contents c.write_bound.new.sink in
    let mid = g.S.Sink.contents c.write_bound-2.new.sink in
    let listener = listener_first c.stepwise-b.result _ _ _ _ _ _ c.stepwise-b.ensures.state c.stepwise-b.ensures.known c.answer_place.ensures
    c.events_taken.ensures c.new-listener.ensures in
    let shows = shows_first _ p a b c.stepwise-a.ensures.state c.stepwise-b.ensures.state refl refl refl
    c.stepwise-a.ensures.known c.stepwise-b.ensures.known listener in
    let begun = bounds_told p a b es old half mid c.in_ok-write_bound.ensures.bytes.whole c.in_ok-write_bound-2.ensures.bytes.whole in
    told_all p a b es old _ mid _ _ _ begun
    (rw c.entries.ensures.value at (c.in_ok-make_entries.ensures.done p (known_at_first a b) shows))
    (rw c.accepted_events.ensures at c.write_last.ensures.bytes)
