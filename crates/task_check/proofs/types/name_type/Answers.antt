use Rattle.std.proofs.Common.{◌∙◌, ap}
use Rattle.std.specs.Prelude.{unwrap_or}
use Rattle.task_ast.specs.declared.WordType.TheVariants.{Unsigned}
use Rattle.task_check.specs.SharedTypes.{type_in, shared_type}
use Rattle.task_check.specs.Typed.{HasSharedTypes}
use Rattle.task_check.proofs.types.name_type.Goals as goal

pub returns : goal.returns
unfolding shared_type HasSharedTypes
returns c =
    let types = c.args.types.now in
    c.unwrap_or.ensures ∙ ap (λ o. unwrap_or o Unsigned) (c.get.ensures ∙ (c.requires c.text_of.result.now
    ∙ ap (λ name. type_in types.source.now name types.shared.now) c.text_of.ensures))
