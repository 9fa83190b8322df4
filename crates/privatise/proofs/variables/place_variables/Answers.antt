use Rattle.std.proofs.Common.{sym, subst, ap, refl, arith}
use Rattle.std.proofs.lemmas.List.{get_or_default}
use Rattle.privatise.proofs.VariablesPlaced.{PlacedBelow, none_placed, room_for, one_placed, all_placed}
use Rattle.privatise.proofs.variables.place_variables.Goals as goal

pub loop-i-init : goal.loop-i-init
loop-i-init c =
    subst (λ xs. PlacedBelow c.args.shared.now c.args.written.now c.args.free 0 c.args.free xs) (sym c.new-places.ensures.items)
    (none_placed c.args.shared.now c.args.written.now c.args.free c.requires.room)

pub free_behind-next-requires-clause-home : goal.free_behind-next-requires-clause-home
free_behind-next-requires-clause-home c =
    (room_for c.args.shared.now c.args.written.now c.args.free c.loop-i.i _ _ c.loop-i.next c.loop-i-test.true
    (λ d. ap (λ x. x.extent) (get_or_default c.args.shared.now c.loop-i.i _ d c.loop-i-test.true)) refl c.place_at.result c.place_at.ensures
    c.loop-i.places.items c.requires.room c.loop-i.invariant).home

pub free_behind-next-requires-clause-copy : goal.free_behind-next-requires-clause-copy
free_behind-next-requires-clause-copy c =
    (room_for c.args.shared.now c.args.written.now c.args.free c.loop-i.i _ _ c.loop-i.next c.loop-i-test.true
    (λ d. ap (λ x. x.extent) (get_or_default c.args.shared.now c.loop-i.i _ d c.loop-i-test.true)) refl c.place_at.result c.place_at.ensures
    c.loop-i.places.items c.requires.room c.loop-i.invariant).copy

pub free_behind-next-requires-clause-version : goal.free_behind-next-requires-clause-version
free_behind-next-requires-clause-version c =
    (room_for c.args.shared.now c.args.written.now c.args.free c.loop-i.i _ _ c.loop-i.next c.loop-i-test.true
    (λ d. ap (λ x. x.extent) (get_or_default c.args.shared.now c.loop-i.i _ d c.loop-i-test.true)) refl c.place_at.result c.place_at.ensures
    c.loop-i.places.items c.requires.room c.loop-i.invariant).version

pub loop-i-preserved : goal.loop-i-preserved
loop-i-preserved c =
    one_placed c.args.shared.now c.args.written.now c.args.free c.loop-i.i _ _ c.loop-i.next c.loop-i-test.true
    (λ d. ap (λ x. x.extent) (get_or_default c.args.shared.now c.loop-i.i _ d c.loop-i-test.true)) refl
    c.free_behind-next.result c.place_at.result c.loop-i.places.items c.push.new.self.items c.place_at.ensures c.free_behind-next.ensures.home
    c.free_behind-next.ensures.copy c.free_behind-next.ensures.version
    c.in_ok-push.ensures.items c.loop-i.invariant

pub returns : goal.returns
returns c = all_placed c.args.shared.now c.args.written.now c.args.free c.loop-i.i c.loop-i.next c.loop-i.places.items (omega arith) c.loop-i.invariant
