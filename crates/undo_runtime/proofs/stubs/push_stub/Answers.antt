use Rattle.std.proofs.Common.{◌<◌, ◌++◌, ◌∷◌, [], ap, ◌∙◌, arith, length}
use Rattle.std.proofs.lemmas.Bool.Decides.{nat_tests}
use Rattle.runtime_code.specs.code_forms.Forms.{Branch}
use Rattle.boot_runtime.proofs.Interface.{some_to_copy}
use Rattle.undo_runtime.specs.Entries.{homes_in}
use Rattle.undo_runtime.specs.Listing.{logs_in}
use Rattle.undo_runtime.proofs.Writing.{homes_count, stub_written}
use Rattle.undo_runtime.proofs.stubs.push_stub.Goals as goal

pub returns : goal.returns
returns c =
    let m = c.args.layout.now in
    let privates = c.args.task.now.privates in
    let some : 0 < length c.privates-privates.result.now = grind (arith, nat_tests, c.is_empty.ensures, c.if-is_empty.false) in
    let same = ap length c.privates-privates.ensures in
    let words = some_to_copy privates (omega (arith, some, same)) in
    let count = homes_count privates in
    stub_written m c.args.code.now.items c.push_scalars.new.code.items c.push.new.self.items (homes_in privates) c.args.task.now.code.address
    (omega (arith, words, count))
    (c.in_ok-push_scalars.ensures ∙ ap (λ xs. c.args.code.now.items ++ logs_in m 0 (homes_in xs)) c.privates-privates.ensures)
    (c.in_ok-push.ensures.items ∙ ap (λ r. c.push_scalars.new.code.items ++ Branch r.address ∷ []) c.code.ensures)
