use Rattle.link_image.proofs.Names.{◌∙◌, ◌+◌, ◌*◌, ◌++◌, ap, sym, subst, length, drop, map, arith, reset_vector, program_of, chained, PartsInOrder}
use Rattle.link_image.proofs.Names.{◌≡◌, ◌<◌, ℕ, List, get_or, get_or_default, IsShort}
use Rattle.std.specs.Prelude.{None}
use Rattle.memory_map.specs.declared.place.RoutinePlace.{RoutinePlace}
use Rattle.link_image.specs.Needs.{HasFewLocals}
use Rattle.linked_code.specs.Linked.{routine_part, routine_parts}
use Rattle.link_image.proofs.code.push_routines.Goals as goal
use Rattle.link_image.proofs.Written.{words_in, part_words, routines_more, next_routine, next_each, order_end}

-- what is read where there is no place
abbrev no_routine : RoutinePlace
no_routine = record { function = 0; code = record { address = 0; words = 0 }; frame = None; first = 0 }

abbrev routine_of : List RoutinePlace → ℕ → RoutinePlace
routine_of rs k = get_or rs k no_routine

read : (rs : List RoutinePlace) (k : ℕ) → k < length rs → routine_of rs k ≡ get_or rs k (routine_of rs k)
read rs k l = get_or_default rs k no_routine (routine_of rs k) l

pub push_routine-requires-clause-order : goal.push_routine-requires-clause-order
push_routine-requires-clause-order c =
    let at = c.args.start + 2 * length c.loop-k.words.items in
    let rs = c.args.routines.now in
    let k = c.loop-k.k in
    let order = next_routine rs c.args.programs.now at k (routine_of rs k) c.index-programs-k.result c.loop-k-test.true c.requires.count
    (read rs k c.loop-k-test.true) c.index-programs-k.is c.loop-k.invariant.order in
    (order.0, order_end _ reset_vector _ order.1)

pub push_routine-requires-clause-short : goal.push_routine-requires-clause-short
push_routine-requires-clause-short c =
    (next_each IsShort c.args.programs.now c.loop-k.k c.index-programs-k.result (omega (arith, c.loop-k-test.true, c.requires.count)) c.index-programs-k.is
    c.loop-k.invariant.short).0

pub push_routine-requires-clause-locals : goal.push_routine-requires-clause-locals
push_routine-requires-clause-locals c =
    (next_each HasFewLocals c.args.programs.now c.loop-k.k c.index-programs-k.result (omega (arith, c.loop-k-test.true, c.requires.count))
    c.index-programs-k.is c.loop-k.invariant.locals).0

pub loop-k-preserved : goal.loop-k-preserved
loop-k-preserved c =
    let rs = c.args.routines.now in
    let ps = c.args.programs.now in
    let k = c.loop-k.k in
    let r = routine_of rs k in
    let there = read rs k c.loop-k-test.true in
    let p = c.index-programs-k.result in
    let old = c.loop-k.words.items in
    let new = c.push_routine.new.words.items in
    let at = c.args.start + 2 * length old in
    let part = routine_part r (program_of p) in
    let rest = routine_parts (drop (k + 1) rs) (map program_of (drop (k + 1) ps)) in
    let order = next_routine rs ps at k r p c.loop-k-test.true c.requires.count there c.index-programs-k.is c.loop-k.invariant.order in
    let more = routines_more rs ps k r p c.loop-k-test.true (omega (arith, c.loop-k-test.true, c.requires.count)) there c.index-programs-k.is in
    let made = part_words c.args.start old new _ part rest c.requires.even order.0.even order.0.from c.in_ok-push_routine.ensures
    (ap (λ l. old ++ words_in (chained at l)) (sym more) ∙ c.loop-k.invariant.made) in
    record {
      made = made.1;
      order = subst (λ e. PartsInOrder e rest reset_vector) (sym made.0) order.1;
      short = (next_each IsShort ps k p (omega (arith, c.loop-k-test.true, c.requires.count)) c.index-programs-k.is c.loop-k.invariant.short).1;
      locals = (next_each HasFewLocals ps k p (omega (arith, c.loop-k-test.true, c.requires.count)) c.index-programs-k.is c.loop-k.invariant.locals).1;
    }
