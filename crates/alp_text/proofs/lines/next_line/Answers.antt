use Rattle.alp_text.proofs.LineLaws.{first_line_at}
use Rattle.alp_text.proofs.lines.next_line.Goals as goal

pub returns-clause-first : goal.returns-clause-first
returns-clause-first c = first_line_at _ _ _ c.if-at-text.false c.line_len-len.ensures.value c.line_len-len.ensures.within
