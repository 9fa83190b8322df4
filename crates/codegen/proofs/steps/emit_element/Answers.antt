use Rattle.codegen.proofs.Names.{◌∷◌, sym, ap₂, ◌∙◌, append_assoc, append-nil, on_ok_weaker}
use Rattle.codegen.proofs.steps.emit_element.Goals as goal

pub returns-in-Some-clause-code : goal.returns-in-Some-clause-code
returns-in-Some-clause-code c =
    let known = sym c.in-Some.is ∙ (rw c.deref-2.ensures.value at c.top_number.ensures) in
    rw (sym known) (on_ok_weaker c.wait.result (λ w. sym (append-nil c.args.code.now.items)) c.wait.ensures)

pub returns-in-Some-clause-waiting : goal.returns-in-Some-clause-waiting
returns-in-Some-clause-waiting c =
    let known = sym c.in-Some.is ∙ (rw c.deref-2.ensures.value at c.top_number.ensures) in
    rw (sym known) (on_ok_weaker c.wait.result (λ w. w ∙ ap₂ (λ o ws. o ∷ ws) c.known_element.ensures c.take.ensures.below) c.wait.ensures)

pub returns-in_ok-emit_indexed-in-None-clause-code : goal.returns-in_ok-emit_indexed-in-None-clause-code
returns-in_ok-emit_indexed-in-None-clause-code c =
    let known = sym c.in-None.is ∙ (rw c.deref-2.ensures.value at c.top_number.ensures) in
    let sure = rw (c.top.ensures, c.deref.ensures.value) at c.is_inside-inside.ensures in
    let front = c.in_ok-emit_top_to_four-in-None.ensures.code in
    rw (sym known) (on_ok_weaker c.wait-in-None.result (λ w. rw (sure, front, append_assoc) at c.in_ok-emit_indexed-in-None.ensures) c.wait-in-None.ensures)

pub returns-in_ok-emit_indexed-in-None-clause-waiting : goal.returns-in_ok-emit_indexed-in-None-clause-waiting
returns-in_ok-emit_indexed-in-None-clause-waiting c =
    let known = sym c.in-None.is ∙ (rw c.deref-2.ensures.value at c.top_number.ensures) in
    rw (sym known) (on_ok_weaker c.wait-in-None.result (λ w. rw c.in_ok-emit_top_to_four-in-None.ensures.waiting at w) c.wait-in-None.ensures)
