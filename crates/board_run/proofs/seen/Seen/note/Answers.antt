use Rattle.std.proofs.Common.{ap, subst, option_map}
use Rattle.board_run.specs.State.{FollowsButBy}
use Rattle.board_run.proofs.Written.{follows_noted, watches_on}
use Rattle.board_run.proofs.seen.Seen.note.Goals as goal

pub note-requires-clause-covers : goal.note-requires-clause-covers
note-requires-clause-covers g c =
    let s = c.args.self.now.state in
    let P : _ → Type 0 = λ o. FollowsButBy (option_map (λ m. m.now) o) c.args.stores s.shadow s.is_gate_known s.gate c.args.board.now.fram in
    (subst P c.in-Some.is c.requires.follows.state).0

pub note-requires-clause-gate : goal.note-requires-clause-gate
note-requires-clause-gate g c =
    let s = c.args.self.now.state in
    let P : _ → Type 0 = λ o. FollowsButBy (option_map (λ m. m.now) o) c.args.stores s.shadow s.is_gate_known s.gate c.args.board.now.fram in
    (subst P c.in-Some.is c.requires.follows.state).1

pub returns-in-Some-clause-follows : goal.returns-in-Some-clause-follows
returns-in-Some-clause-follows g c =
    follows_noted c.note.result _ c.in-Some.map.now c.args.board.now.fram (ap (option_map (λ m. m.now)) c.in-Some.is)
    (watches_on _ _ _ _ _ c.requires.follows.place c.requires.follows.fits c.note_events.ensures.place c.note_events.ensures.word)
    c.note.ensures.covers c.note.ensures.gate
