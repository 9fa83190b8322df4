pub mod Laws
pub mod Marks
pub mod Rows
pub mod Values
pub mod Numbers
pub mod Statements
pub mod Runs
pub mod Running
pub mod View
pub mod WorkedCalls
pub mod WorkedRows
pub use Rattle.task_ast.specs.alp_text as alp_text
pub use Rattle.alp_words.specs as alp_words
pub use Rattle.task_ast.specs as task_ast
