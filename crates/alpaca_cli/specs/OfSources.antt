-- What holds of saved, resumed and migrated states where an image is what the compiler makes of a source.
use Rattle.std.specs.Prelude.{◌≡◌, ◌⊎◌, ℕ, List}
use Rattle.plain_commands.specs.energy_trace.TraceValue.{TraceValue}
use Rattle.plain_commands.specs.image_text.ImageValue.{ImageValue}
use Rattle.plain_commands.specs.state_text.declared.state.State.{State}
use Rattle.state_commands.specs.fram_state.Belongs.{Belongs}
use Rattle.state_commands.specs.fram_state.Migrated.{rows_of}
use Rattle.plain_commands.specs.fram_board.Run.{RunOutcome}
use Rattle.plain_commands.specs.fram_board.Saved.{saved}
use Rattle.plain_commands.specs.cost_bound.declared.allowance.Allow.{Allow}
use Rattle.plain_commands.specs.source_meaning.Acceptance.{IsAcceptedText}
use Rattle.compiler_commands.specs.image_laws.Compiled.{IsCompiled, IsImageOf}
use Rattle.compiled_states.specs.Worlds.{BelongsAt, IsToldByItsSource, LeavesItsStates}
use Rattle.state_commands.specs.Saved.{from_state}
use Rattle.state_commands.specs.Migrated.{HoldsOfMigrations, old_edition, new_edition}

-- a state from which a run of an image goes on: the image before anything was done, or one that belongs to it
abbrev pub IsStateOf : ImageValue → State → Type 0
IsStateOf image s = (s ≡ record { image = image; receiver = 0 }) ⊎ Belongs image s

-- of whatever source's image a run went on from a state, what is saved at the run's end belongs to it, so that the image takes it
abbrev pub StaysWithItsImage : State → RunOutcome → Type 0
StaysWithItsImage s r = (source : List ℕ) (image : ImageValue) → IsImageOf source image → IsStateOf image s
    → Belongs image (saved r.board s.image.map)

-- whatever the trace
abbrev pub SavedStatesStay : State → TraceValue → RunOutcome → Type 0
SavedStatesStay s trace r = StaysWithItsImage s r

-- What holds of a run from a state, on a trace, where the image is what the compiler makes of a source, whatever its text. The report is told by
-- the source: from the state on, or behind the transition of the commit that is pending there; and what is saved of each of the run's
-- boards, and at its end, belongs to the image again.
pub record IsOfItsSource (image : ImageValue) (s : State) (trace : TraceValue) (r : RunOutcome) (output : List ℕ) : Type 0 where
  pub told : IsToldByItsSource image s trace r output
  pub stays : (source : List ℕ) → IsImageOf source image → LeavesItsStates image s (from_state s trace) r

-- Where the new image is what the compiler makes of the new source, a migrated state belongs to it, and rests at the state of this source whose shared
-- words are those that were kept, or else those that the source begins with, and whose task is the one of the old current task's name.
abbrev pub RestsInItsSource : HoldsOfMigrations
RestsInItsSource t s u state g = (allow : Allow) → IsAcceptedText t.new_source s.new_program allow
    → (c : IsCompiled t.new_source s.new_program allow s.new_image)
    → BelongsAt s.new_program c.layout s.new_image (rows_of (old_edition t s u) (new_edition t s u)) g.migrates.can.number state
