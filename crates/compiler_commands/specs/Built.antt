-- The image that is built of a source.
use Rattle.std.specs.Prelude.{◌≡◌, ℕ, List, ◌++◌, Some, Ok}
use Rattle.image_map.specs.MapValue.{MapValue}
use Rattle.plain_commands.specs.image_text.ImageValue.{ImageValue}
use Rattle.plain_commands.specs.image_text.Reading.{image_of}
use Rattle.plain_commands.specs.image_text.Text.{map_part, text_of}
use Rattle.text_parts.specs.Printed.{printed}
use Rattle.plain_commands.specs.cost_bound.declared.allowance.Allow.{Allow}
use Rattle.memory_map.specs.declared.runtime.Logging.{Logging}
use Rattle.memory_map.specs.declared.runtime.Logging.TheVariants.{Redo}
use Rattle.image_laws.specs.Compiled.{IsCompiledFor}
use Rattle.plain_commands.specs.source_values.Runs.{CheckedProgram}
use Rattle.source_runs.specs.Naming.{IsMapOf}

-- These bytes are the image text that is printed of an image, and they read back. The image has a map, which names the source's
-- variables and tasks and has its bound; and it is exactly what the compiler makes of the source for a runtime that logs so.
pub record IsBuiltFor (logging : Logging) (source : List ℕ) (program : CheckedProgram) (allow : Allow) (image : ImageValue) (file : List ℕ) : Type 0 where
  pub text : file ≡ text_of image.words ++ printed (map_part image.map)
  pub reads_back : image_of file ≡ Ok image
  pub map : MapValue
  pub mapped : image.map ≡ Some map
  pub names : IsMapOf source program map
  pub bound : map.bound ≡ allow.cycles
  pub compiled : IsCompiledFor logging source program allow image

-- and for the one that works in copies
abbrev pub IsBuilt : List ℕ → CheckedProgram → Allow → ImageValue → List ℕ → Type 0
IsBuilt = IsBuiltFor Redo
