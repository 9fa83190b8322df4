-- The types that the code keeps of a source's shared variables.
use Rattle.alp_text.specs.declared.lines.Span.{Span}
use Rattle.task_ast.specs.declared.WordType.{WordType}
use Rattle.task_check.specs.declared.types.SharedTypes.{SharedTypes}
use Rattle.task_check.specs.SharedTypes.{shared_type}
use Rattle.task_check.specs.Tables.{HasTypes}

-- the types of names that they give
abbrev pub types_of : SharedTypes → Span → WordType
types_of types = shared_type types.source.now types.shared.now

-- their table is that of the shared variables
unfoldable pub HasSharedTypes : SharedTypes → Type 0
HasSharedTypes types = HasTypes types.source.now types.shared.now types.table
