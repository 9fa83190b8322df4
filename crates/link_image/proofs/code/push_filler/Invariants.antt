use Rattle.link_image.proofs.Names.{◌≡◌, ◌++◌, ◌-◌, instructions, words_of, repeated, filler}
use Rattle.link_image.proofs.code.push_filler.Given as goal

abbrev pub invariant-loop-i : goal.invariant-loop-i
invariant-loop-i l = l.words.items ++ words_of (instructions (repeated (l.count - l.i) filler)) ≡ l.fn.words.items
    ++ words_of (instructions (repeated l.fn.count filler))
