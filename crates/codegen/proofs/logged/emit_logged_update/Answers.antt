use Rattle.codegen.proofs.Names.{sym, ◌∙◌}
use Rattle.codegen.proofs.logged.emit_logged_update.Goals as goal

pub returns-in-Some-clause-code : goal.returns-in-Some-clause-code
returns-in-Some-clause-code c =
    let known = sym c.in-Some.is ∙ (rw c.deref-2.ensures.value at c.known_index.ensures) in
    rw (sym known) c.emit_known_update.ensures.code

pub returns-in-None-clause-code : goal.returns-in-None-clause-code
returns-in-None-clause-code c =
    let known = sym c.in-None.is ∙ (rw c.deref-2.ensures.value at c.known_index.ensures) in
    let sure = rw (c.under_top.ensures, c.deref.ensures.value) at c.is_inside-inside.ensures in
    rw (sym known) (rw sure at c.emit_other_update.ensures.code)
