use Rattle.std.proofs.Common.{sym, ap, ◌∙◌}
use Rattle.fram_state.specs.Stretch.{held_until}
use Rattle.fram_state.specs.Named.{runtime_words, ring_until}
use Rattle.fram_state.proofs.Stretches.{runtime_named, buffers_named, ring_named}
use Rattle.fram_state.proofs.named.named_until.Goals as goal

pub returns-in-Some-clause-some : goal.returns-in-Some-clause-some
returns-in-Some-clause-some c = runtime_named c.args.map.now c.args.address c.in-Some.end
    (sym (c.in-Some.ensures ∙ ap (λ ss. held_until ss c.args.address) (c.runtime_words.ensures ∙ ap runtime_words c.words.ensures)))

pub returns-in-Some-held_until-clause-some : goal.returns-in-Some-held_until-clause-some
returns-in-Some-held_until-clause-some c = buffers_named c.args.map.now c.args.address c.in-Some-held_until.end
    (sym (c.in-Some-held_until.ensures ∙ ap (λ ss. held_until ss c.args.address) c.buffers.ensures))

pub returns-in-Some-ring_until-clause-some : goal.returns-in-Some-ring_until-clause-some
returns-in-Some-ring_until-clause-some c = ring_named c.args.map.now c.args.address c.in-Some-ring_until.end
    (sym (c.in-Some-ring_until.ensures ∙ ap (λ r. ring_until r c.args.address) c.ring.ensures))
