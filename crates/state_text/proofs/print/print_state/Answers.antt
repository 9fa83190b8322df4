use Rattle.std.proofs.Common.{◌∙◌, ◌++◌, ap}
use Rattle.text_parts.specs.Printed.{printed}
use Rattle.state_text.specs.Reading.{state_of}
use Rattle.state_text.specs.Text.{receiver_fields}
use Rattle.state_text.proofs.Texts.{state_back}
use Rattle.state_text.proofs.print.print_state.Goals as goal

pub returns-clause-text : goal.returns-clause-text
returns-clause-text c =
    c.in_ok-push_receiver.ensures.text ∙ ap (λ t. t ++ printed (receiver_fields c.args.state.now.receiver)) c.in_ok-out.ensures.text

pub returns-clause-reads_back : goal.returns-clause-reads_back
returns-clause-reads_back c =
    ap state_of c.in_ok-push_receiver.ensures.text
    ∙ state_back c.args.state.now.image c.args.state.now.receiver c.in_ok-out.out.items c.push_receiver.ensures.small c.in_ok-out.ensures.text
    c.in_ok-out.ensures.reads_back
