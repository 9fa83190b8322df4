use Rattle.std.proofs.Common.{arith, ℕ, ◌≤◌, ◌+◌}
use Rattle.std.proofs.lemmas.Bool.Decides.{nat_tests}
use Rattle.image_text.proofs.Cuts.{cut_none, section_cut}
use Rattle.image_text.proofs.print.cut_section.Goals as goal

pub returns-then-is_empty : goal.returns-then-is_empty
returns-then-is_empty c =
    let none = cut_none _ _ _ c.hidden_len-hidden.ensures.value c.hidden_len-hidden.ensures.within
    (grind (arith, nat_tests, c.is_empty.ensures, c.if-is_empty.true)) in
    record { cut = none; shorter = none }

pub returns : goal.returns
returns c =
    let cut = section_cut _ _ _ _ c.hidden_len-hidden.ensures.value c.hidden_len-hidden.ensures.within c.shown_len-len.ensures.value
    c.shown_len-len.ensures.within
    (grind (arith, nat_tests, c.is_empty.ensures, c.if-is_empty.false)) in
    record { cut = cut.0; shorter = (cut.1, at_least c.args.place c.hidden_len-hidden.result, cut.2) }
  where
    at_least : (j n : ℕ) → j ≤ j + n
    at_least j n = omega arith
