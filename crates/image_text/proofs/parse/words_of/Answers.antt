use Rattle.std.proofs.Common.{arith, ◌∙◌, sym, ap, ◌++◌, drop, ◌*◌, ◌+◌}
use Rattle.image_text.specs.Reading.{words_of}
use Rattle.image_text.proofs.Lines.{words_more, words_end}
use Rattle.image_text.proofs.parse.words_of.Goals as goal

pub loop-i-preserved : goal.loop-i-preserved
loop-i-preserved c = record {
  len = omega (arith, c.in_ok-push.ensures.len);
  left = ap (λ ws. ws ++ words_of (drop (2 * (c.loop-i.i + 1)) c.args.memory.now)) c.in_ok-push.ensures.items
      ∙ words_more c.args.memory.now _ c.loop-i.i _ (omega arith) c.word_from.ensures ∙ c.loop-i.invariant.left;
}

pub returns-clause-value : goal.returns-clause-value
returns-clause-value c = sym (words_end c.args.memory.now _ c.loop-i.i (omega arith)) ∙ c.loop-i.invariant.left
