pub mod Places
pub mod View
pub use Rattle.task_ast.specs as task_ast
pub use Rattle.array_versions.specs as array_versions
pub use Rattle.memory_map.specs as memory_map
