use Rattle.std.proofs.Common.{arith, refl}
use Rattle.alp_io.proofs.Entries.{place_missing, place_is, entries_set, entries_added}
use Rattle.alp_io.proofs.mem_shelf.set_file.Goals as goal

pub index_mut-requires : goal.index_mut-requires
index_mut-requires c =
    let place = place_is c.args.name.now c.args.files.now.items _ _ c.deref.ensures.value c.in-Some.ensures in
    let len = rw c.deref.ensures.value at c.deref.ensures.len in
    omega (arith, place.inside, len)

pub returns-in_ok-add_file-in-None-clause-set : goal.returns-in_ok-add_file-in-None-clause-set
returns-in_ok-add_file-in-None-clause-set c =
    (entries_added _ _ _ _ _ _ (place_missing c.args.name.now c.args.files.now.items _ c.deref.ensures.value c.in-None.ensures)
    c.in_ok-add_file-in-None.ensures.added c.in_ok-from_str-in-None.ensures.ok (c.in_ok-bytes.ensures.items_if_clones_equal (λ x y e. e)) c.requires).0

pub returns-in_ok-add_file-in-None-clause-different : goal.returns-in_ok-add_file-in-None-clause-different
returns-in_ok-add_file-in-None-clause-different c =
    (entries_added _ _ _ _ _ _ (place_missing c.args.name.now c.args.files.now.items _ c.deref.ensures.value c.in-None.ensures)
    c.in_ok-add_file-in-None.ensures.added c.in_ok-from_str-in-None.ensures.ok (c.in_ok-bytes.ensures.items_if_clones_equal (λ x y e. e)) c.requires).1

pub returns-in-Some-clause-set : goal.returns-in-Some-clause-set
returns-in-Some-clause-set c =
    (entries_set c.args.name.now c.args.bytes.now c.args.files.now.items c.in-Some.place
    (record { name = c.index_mut.result.now.name; bytes = c.in_ok-bytes.bytes }) c.index_mut.result.now
    (place_is c.args.name.now c.args.files.now.items _ _ c.deref.ensures.value c.in-Some.ensures) c.index_mut.ensures.value refl
    (c.in_ok-bytes.ensures.items_if_clones_equal (λ x y e. e)) c.requires).0

pub returns-in-Some-clause-different : goal.returns-in-Some-clause-different
returns-in-Some-clause-different c =
    (entries_set c.args.name.now c.args.bytes.now c.args.files.now.items c.in-Some.place
    (record { name = c.index_mut.result.now.name; bytes = c.in_ok-bytes.bytes }) c.index_mut.result.now
    (place_is c.args.name.now c.args.files.now.items _ _ c.deref.ensures.value c.in-Some.ensures) c.index_mut.ensures.value refl
    (c.in_ok-bytes.ensures.items_if_clones_equal (λ x y e. e)) c.requires).1
