use Rattle.std.proofs.Common.{◌∙◌, option_map, ap, sym}
use Rattle.asm_line.specs.Tables.{CoreText, core}
use Rattle.asm_line.specs.TableViews.{core_text_of, operand_text}
use Rattle.asm_line.specs.declared.tables.OperandText as declared
use Rattle.msp_isa.specs.declared.instructions.TwoOp.{TwoOp}
use Rattle.asm_line.proofs.Rows.{viewed}
use Rattle.asm_line.proofs.tables.emulated_named.Goals as goal

-- a core text by its columns
abbrev columns : TwoOp × declared.OperandText × declared.OperandText → CoreText
columns r = core r.0 (operand_text r.1) (operand_text r.2)

pub returns-in_err-op : goal.returns-in_err-op
unfolding Rattle.asm_line.specs.Tables.emulated_named
returns-in_err-op c = ap (option_map core_text_of) c.from_residual.ensures ∙ ap (option_map columns) (sym c.in_err-op.was)
    ∙ viewed columns _ _ c.args.name.now _ c.look_up.ensures c.as_slice.ensures

pub returns : goal.returns
unfolding Rattle.asm_line.specs.Tables.emulated_named
returns c = ap (option_map columns) (sym c.in_ok-op.was) ∙ viewed columns _ _ c.args.name.now _ c.look_up.ensures c.as_slice.ensures
