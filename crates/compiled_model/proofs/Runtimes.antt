-- What holds of a source under a runtime, on a board that is alone, holds of it under the runtime of its memory map where that logs so, and the other way.
use Rattle.std.proofs.Common.{◌≡◌, ◌⊎◌, inl, inr, refl, sym, ap₂, subst}
use Rattle.memory_map.specs.declared.runtime.Logging.{Logging}
use Rattle.memory_map.specs.declared.runtime.Logging.TheVariants.{Redo, Undo}
use Rattle.memory_map.specs.declared.runtime.Role.{Role}
use Rattle.memory_map.specs.declared.runtime.Role.TheVariants.{Alone}
use Rattle.memory_map.specs.MemoryMap.{MemoryMap}
use Rattle.source_values.specs.Runs.{CheckedProgram}
use Rattle.compiled_model.specs.Parts.{redo_model, logged_model, model_by, compiled_model}

only_alone : (role : Role) → role ≡ Alone
only_alone Alone = refl

-- a runtime logs by redo or by undo
pub either_logging : (logging : Logging) → (logging ≡ Redo) ⊎ (logging ≡ Undo)
either_logging Redo = inl refl
either_logging Undo = inr refl

pub is_redo : (p : CheckedProgram) (l : MemoryMap) → l.runtime.logging ≡ Redo → compiled_model p l ≡ redo_model p l
is_redo p l logs = ap₂ (λ logging role. model_by logging role p l) logs (only_alone l.runtime.role)

pub is_logged : (p : CheckedProgram) (l : MemoryMap) → l.runtime.logging ≡ Undo → compiled_model p l ≡ logged_model p l
is_logged p l logs = ap₂ (λ logging role. model_by logging role p l) logs (only_alone l.runtime.role)

-- from how it logs to the map
pub under_map : {chosen : Logging} (l : MemoryMap) (P : Logging → Role → Type 0) → l.runtime.logging ≡ chosen → P chosen Alone
    → P l.runtime.logging l.runtime.role
under_map {chosen} l P logs h = subst (λ role. P l.runtime.logging role) (sym (only_alone l.runtime.role)) (subst (λ logging. P logging Alone) (sym logs) h)

-- and from the map
pub from_map : {chosen : Logging} (l : MemoryMap) (P : Logging → Role → Type 0) → l.runtime.logging ≡ chosen → P l.runtime.logging l.runtime.role
    → P chosen Alone
from_map {chosen} l P logs h = subst (λ logging. P logging Alone) logs (subst (λ role. P l.runtime.logging role) (only_alone l.runtime.role) h)
