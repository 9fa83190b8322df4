use Rattle.std.proofs.Common.{ap, sym, ◌∙◌, option_map}
use Rattle.asm_line.specs.Views.{located}
use Rattle.asm_line.specs.Lines.{values_of, with_value}
use Rattle.asm_line.specs.Pieces.{rest_parts}
use Rattle.asm_line.proofs.Splits.{cut_parts, cut_shorter}
use Rattle.asm_line.proofs.lists.next_value.Goals as goal

pub returns : goal.returns
returns c = record {
  values = ap values_of (cut_parts 44 (located c.args.list) _ _ c.cut_at.ensures.before c.cut_at.ensures.behind)
      ∙ ap (λ v. with_value v (values_of (rest_parts 44 (option_map located c.cut_at.result.1)))) (sym c.word_value.ensures);
  shorter = cut_shorter 44 (located c.args.list) _ c.cut_at.ensures.behind;
}
