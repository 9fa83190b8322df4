-- The text of an image is an accepted text, with a plan and a layout of its source for the image's runtime.
use Rattle.image_laws.proofs.Names.{◌≡◌, ap, ℕ, List, Allow, CheckedProgram, IsAcceptedText, ImageValue, IsCompiledFor}
use Rattle.memory_map.specs.declared.runtime.Logging.{Logging}
use Rattle.memory_map.specs.declared.runtime.Runtime.{Runtime}
use Rattle.whole_programs.specs.Laws.{IsLaidOutText}

pub laid_out : {logging : Logging} (text : List ℕ) (p : CheckedProgram) (allow : Allow) (image : ImageValue) → IsAcceptedText text p allow
    → (c : IsCompiledFor logging text p allow image) → IsLaidOutText text p allow c.plans c.layout
laid_out {logging} text p allow image ok c = record { accepted = ok; plan = c.is_plan; logging = logging; layout = c.is_layout }

-- how the runtime logs
pub logs_so : {logging : Logging} (text : List ℕ) (p : CheckedProgram) (allow : Allow) (image : ImageValue) (c : IsCompiledFor logging text p allow image)
    → c.layout.runtime.logging ≡ logging
logs_so text p allow image c = ap (λ (r : Runtime). r.logging) c.is_layout.runtime
