use Rattle.link_image.proofs.Names.{◌∙◌, ◌++◌, ◌∷◌, [], ◌-◌, ◌+◌, ap, sym, append_assoc, filler, repeated}
use Rattle.link_image.proofs.code.push_filler.Goals as goal
use Rattle.link_image.proofs.Written.{words_in, filler_more}

pub loop-i-preserved : goal.loop-i-preserved
loop-i-preserved c =
    let rest = words_in (repeated (c.args.count - (c.loop-i.i + 1)) filler) in
    ap (λ l. l ++ rest) c.in_ok-push.ensures.items ∙ append_assoc c.loop-i.words.items (0x3FFF ∷ []) rest
    ∙ ap (λ l. c.loop-i.words.items ++ l) (sym (filler_more c.args.count c.loop-i.i c.loop-i-test.true)) ∙ c.loop-i.invariant
