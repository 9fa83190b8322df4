use Rattle.code_forms.proofs.Placed.{forms_stand, placed_is_tidy}
use Rattle.code_forms.proofs.laws.placed_code_stands.Goals as goal

pub returns-clause-stands : goal.returns-clause-stands
returns-clause-stands c = forms_stand

pub returns-clause-tidy : goal.returns-clause-tidy
returns-clause-tidy c = placed_is_tidy
