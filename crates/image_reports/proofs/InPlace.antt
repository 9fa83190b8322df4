-- Where the runtime works in place each version word is below VER behind what is put back and the start.
use Rattle.image_reports.proofs.Names.{◌≡◌, ℕ, Bool, true, false, sym, subst, refl, World, fram_after, CheckedProgram, State, Gate}
use Rattle.image_reports.proofs.Names.{MemoryMap, word_place, ModelLaws, Origin, world_fram, program_places, compiled_model, start_under, under_map}
use Rattle.image_reports.proofs.Names.{VersionsBelow}
use Rattle.machine_effects.specs.World.{world_after}
use Rattle.machine_effects.proofs.Interface.{fram_after-append}
use Rattle.memory_map.specs.Laws.{AreApart}
use Rattle.memory_map.specs.declared.runtime.Logging.{Logging}
use Rattle.memory_map.specs.declared.runtime.Logging.TheVariants.{Undo}
use Rattle.memory_map.specs.declared.runtime.Role.{Role}
use Rattle.crash_rules.specs.History.{Done}
use Rattle.crash_rules.specs.Laws.{StartsFrom, FromUndecided, FromDecided, FromCommitting}
use Rattle.stands_for.specs.Layout.{HaveRoom}
use Rattle.undo_states.specs.States.{AreLogged}
use Rattle.undo_states.specs.Program.{LoggingContract}
use Rattle.undo_states.proofs.Interface.{logging_starts}
use Rattle.undo_effects.specs.Stages.{undo_start}
use Rattle.compiled_model.specs.View.{state_view}
use Rattle.compiled_model.specs.Parts.{private_homes, model_by, start_of as start_due}
use Rattle.image_reports.specs.ImageLaw.{due_in_place}
use Rattle.std.specs.Prelude.{List}

module _ (p : CheckedProgram) (l : MemoryMap) (undo : l.runtime.logging ≡ Undo) (apart : AreApart l) (room : HaveRoom (program_places p l))
    (privates : (k : ℕ) → AreLogged (program_places p l) k (private_homes l k)) (laws : ModelLaws (compiled_model p l)) where
  starts : LoggingContract (program_places p l) (state_view p l) (private_homes l) (undo_start l (private_homes l))
  starts = logging_starts State (program_places p l) (state_view p l) (private_homes l) apart room privates

  -- behind the start of a settled world
  settled_below : (s : State) (x : World) → (compiled_model p l).Settled s x → VersionsBelow l (fram_after (start_due l x.fram) x.fram)
  settled_below s x =
      let P : Logging → Role → Type 0 =
      λ logging role. (model_by logging role p l).Settled s x → VersionsBelow l (fram_after (start_under logging l x.fram) x.fram) in
      under_map l P undo
      (λ settled. subst (λ f. VersionsBelow l f) (world_fram (undo_start l (private_homes l) x.fram) x) (starts.started s x settled).versions)

  -- behind a boot what is put back comes first
  undecided_below : (booted : Bool) (s : State) (x : World) → (compiled_model p l).Undecided s x → (booted ≡ false → (compiled_model p l).Settled s x)
      → VersionsBelow l (fram_after (due_in_place p l booted x.fram) x.fram)
  undecided_below false s x u k = settled_below s x (k refl)
  undecided_below true s x u k =
      let rec = (compiled_model p l).recover x.fram in
      let y = world_after rec x in
      let same : y.fram ≡ fram_after rec x.fram = world_fram rec x in
      let behind = settled_below s y (laws.recovers s x u).settled in
      let there : VersionsBelow l (fram_after (start_due l (fram_after rec x.fram)) (fram_after rec x.fram)) =
      subst (λ f. VersionsBelow l (fram_after (start_due l f) f)) same behind in
      subst (λ f. VersionsBelow l f) (sym (fram_after-append rec (start_due l (fram_after rec x.fram)) x.fram)) there

  -- from any world where no commit is pending
  pub below_in_place : (origin : Origin State) (booted : Bool) (ds : List Done) (s : State) (x : World)
      → StartsFrom (compiled_model p l) origin booted ds s x → x.fram (word_place l Gate) ≡ 0
      → VersionsBelow l (fram_after (due_in_place p l booted x.fram) x.fram)
  below_in_place origin booted ds s x (FromUndecided settled u k) gate = undecided_below booted s x u k
  below_in_place origin booted ds s x (FromDecided next settled d) gate =
      let one = laws.committing_gate next x (laws.decided_committing s next x d) in absurd (cc (one, gate))
  below_in_place origin booted ds s x (FromCommitting pending c) gate = let one = laws.committing_gate s x c in absurd (cc (one, gate))
