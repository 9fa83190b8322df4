use Rattle.std.proofs.Common.{map, ap, sym, ◌∙◌, ◌∷◌, option_map}
use Rattle.asm_line.specs.Views.{located}
use Rattle.asm_line.specs.Pieces.{bare, lines_left}
use Rattle.asm_line.proofs.Splits.{cut_parts, cut_shorter}
use Rattle.asm_line.proofs.cuts.cut_line.Goals as goal

pub returns : goal.returns
returns c = record {
  lines = ap (map bare) (cut_parts 10 (located c.args.text) _ _ c.cut_at.ensures.before c.cut_at.ensures.behind)
      ∙ ap (λ l. l ∷ lines_left (option_map located c.cut_at.result.1)) (sym c.bare.ensures);
  shorter = cut_shorter 10 (located c.args.text) _ c.cut_at.ensures.behind;
}
