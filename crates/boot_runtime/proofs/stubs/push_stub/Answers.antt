use Rattle.std.proofs.Common.{◌<◌, ◌++◌, ◌∷◌, [], ap, ◌∙◌, arith, length}
use Rattle.std.specs.List.{flat_map}
use Rattle.std.proofs.lemmas.Bool.Decides.{nat_tests}
use Rattle.runtime_code.specs.code_forms.Forms.{Branch}
use Rattle.runtime_code.specs.runtime_effects.Places.{scalar_pairs}
use Rattle.runtime_code.specs.LayoutPlaces.{pairs_of}
use Rattle.runtime_code.proofs.runtime_effects.Interface.{scalar_pairs_count}
use Rattle.boot_runtime.specs.Listing.{copies_in}
use Rattle.boot_runtime.proofs.Writing.{some_to_copy, stub_written}
use Rattle.boot_runtime.proofs.stubs.push_stub.Goals as goal

pub returns : goal.returns
returns c =
    let privates = c.args.task.now.privates in
    let some : 0 < length c.privates-privates.result.now = grind (arith, nat_tests, c.is_empty.ensures, c.if-is_empty.false) in
    let same = ap length c.privates-privates.ensures in
    let words = some_to_copy privates (omega (arith, some, same)) in
    let count = scalar_pairs_count privates in
    stub_written c.args.code.now.items c.push_copies.new.code.items c.push.new.self.items (pairs_of c.args.task.now) c.args.task.now.code.address
    (omega (arith, words, count))
    (c.in_ok-push_copies.ensures ∙ ap (λ xs. c.args.code.now.items ++ copies_in (flat_map scalar_pairs xs)) c.privates-privates.ensures)
    (c.in_ok-push.ensures.items ∙ ap (λ r. c.push_copies.new.code.items ++ Branch r.address ∷ []) c.code.ensures)
