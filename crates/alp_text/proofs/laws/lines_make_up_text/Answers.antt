use Rattle.alp_text.proofs.LineLaws.{lines_make_up}
use Rattle.alp_text.proofs.laws.lines_make_up_text.Goals as goal

pub returns : goal.returns
returns c = lines_make_up _
