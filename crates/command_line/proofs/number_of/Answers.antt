use Rattle.std.proofs.Common.{◌∙◌, ap, sym, option_map}
use Rattle.std.specs.Prelude.{decimal}
use Rattle.std.proofs.lemmas.Int.{to_z-of_z}
use mir.Syntax.{w64}
use Rattle.command_line.proofs.Numbers.{is_read, not_read}
use Rattle.command_line.proofs.number_of.Goals as goal

pub returns-in_err-number : goal.returns-in_err-number
returns-in_err-number c = ap (option_map (λ n. decimal n)) c.from_residual.ensures
    ∙ sym (not_read c.args.word.now c.parse.result c.parse.ensures.value.0 c.in_err-number.ensures.value)

pub returns : goal.returns
returns c = ap (option_map (λ n. decimal n)) c.ok-2.ensures.value
    ∙ is_read c.args.word.now c.parse.result c.in_ok-number.number _ c.try_from.result c.parse.ensures.value.0 c.in_ok-number.ensures.value
    (to_z-of_z w64 c.in_ok-number.number) c.try_from.ensures
