mod ParserLaws
mod Turns
mod SameLaws
mod Values
mod ExpressionLaws
mod ExpressionSame
mod ExpressionComplete
mod Views
mod StatementLaws
mod StatementSame
mod StatementComplete
mod Many
mod ProgramComplete
mod Whole
mod OneAnswer
mod Nesting
pub mod Interface
