use Rattle.std.proofs.Common.{slice_index_or, false, refl, subst, sym, arith, length, ◌<◌}
use Rattle.std.proofs.lemmas.List.{drop_all}
use Rattle.privatise.proofs.RoutinesPlaced.{Placed, Turn, marked_by, none_placed, marked_small, marked_fits, next_placed, all_placed}
use Rattle.privatise.proofs.routines.place_marked.Goals as goal

pub loop-k-init : goal.loop-k-init
loop-k-init c =
    let m = marked_by c.args.marks.now c.args.stack c.args.address c.args.functions.summaries.now c.args.functions.locals.now in
    subst (λ rs. Placed m 0 c.args.address rs) (sym c.new-routines.ensures.items) (none_placed m)

pub place_if-requires-clause-small : goal.place_if-requires-clause-small
place_if-requires-clause-small c = λ marked.
    let m = marked_by c.args.marks.now c.args.stack c.args.address c.args.functions.summaries.now c.args.functions.locals.now in
    let t : Turn m = record {
      k = c.loop-k.k;
      at = c.loop-k.at;
      routines = c.loop-k.routines.items;
      placed = c.loop-k.invariant;
      within = c.loop-k-test.true;
    } in
    marked_small m t _ marked c.requires.small

pub place_if-requires-clause-room : goal.place_if-requires-clause-room
place_if-requires-clause-room c = λ marked.
    let m = marked_by c.args.marks.now c.args.stack c.args.address c.args.functions.summaries.now c.args.functions.locals.now in
    let t : Turn m = record {
      k = c.loop-k.k;
      at = c.loop-k.at;
      routines = c.loop-k.routines.items;
      placed = c.loop-k.invariant;
      within = c.loop-k-test.true;
    } in
    marked_fits m t _ marked c.requires.room

pub loop-k-preserved : goal.loop-k-preserved
loop-k-preserved c =
    let m = marked_by c.args.marks.now c.args.stack c.args.address c.args.functions.summaries.now c.args.functions.locals.now in
    let t : Turn m = record {
      k = c.loop-k.k;
      at = c.loop-k.at;
      routines = c.loop-k.routines.items;
      placed = c.loop-k.invariant;
      within = c.loop-k-test.true;
    } in
    let inside : c.loop-k.k < length c.args.functions.locals.now = omega (arith, c.requires.same) in
    next_placed m t _ _ inside (slice_index_or c.args.marks.now c.loop-k.k false) refl _ c.in_ok-at.at c.in_ok-at.ensures.behind
    c.in_ok-at.ensures.routines

pub returns : goal.returns
returns c =
    let m = marked_by c.args.marks.now c.args.stack c.args.address c.args.functions.summaries.now c.args.functions.locals.now in
    all_placed m c.loop-k.k c.loop-k.at c.loop-k.routines.items (drop_all c.loop-k.k m.summaries (omega arith)) c.loop-k.invariant
