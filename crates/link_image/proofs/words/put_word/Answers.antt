use Rattle.link_image.proofs.Names.{◌∙◌, ◌<◌, ap, sym, subst, length, arith, fram_of, All-set, place_of, AreWords}
use Rattle.link_image.proofs.words.put_word.Goals as goal
use Rattle.link_image.proofs.Placing.{fram_set}

pub returns-clause-each : goal.returns-clause-each
returns-clause-each c = λ a is. ap (λ i. fram_of i.words a) c.set.ensures
    ∙ fram_set c.args.image.now.words c.args.at c.args.word a (ap length (sym c.words.ensures.value) ∙ c.words.ensures.len)
    (record { even = c.requires.even; low = c.requires.low; high = omega (arith, c.ranges.at.fits) }) is

pub returns-clause-are_words : goal.returns-clause-are_words
returns-clause-are_words c = λ h.
    subst (λ i. AreWords i.words) (sym c.set.ensures)
    (All-set (λ w. w < 0x10000) c.args.image.now.words (place_of c.args.at) c.args.word (omega (arith, c.ranges.word.fits)) h)
