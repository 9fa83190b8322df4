-- Where the world rests at a state of the source, the map finds the state's words in it.
use Rattle.image_laws.proofs.Names.{◌≡◌, ℕ, ◌+◌, ◌*◌, refl, ◌∙◌, subst, List, [], true, Some, slice_get, slice_index_or, Allow, is_written, CheckedProgram}
use Rattle.image_laws.proofs.Names.{State, VariablePlace, CurrentTask, MemoryMap, word_place, home_region, World, IsSharedWord, RestsAt, HasWordsOf}
use Rattle.image_laws.proofs.Names.{program_places, Model, state_view, state_in, is_redo, privates_are_few, HasLayout, words_of_variables_are_shared}
use Rattle.image_laws.proofs.Names.{view_has_their_words, worlds_have_states, map_of, of_kind, ImageValue, IsAcceptedText, IsCompiledFor}
use Rattle.image_laws.proofs.Names.{ImagesHaveStates}
use Rattle.war_analysis.specs.PlanValue.{TaskPlanValue}
use Rattle.war_analysis.proofs.Interface.{each_returns}
use Rattle.memory_map.specs.declared.runtime.Logging.{Logging}
use Rattle.image_laws.proofs.Names.{⊎_elim, compiled_model, either_logging, is_logged}
use Rattle.memory_map.specs.Spots.{IsWordOf}
use Rattle.image_laws.proofs.Rows.{RowStands, all_rows}
use Rattle.image_laws.proofs.Laid.{laid_out, logs_so}
use Rattle.cost_bound.specs.Summaries.{summaries}

module _ (text : List ℕ) (p : CheckedProgram) (allow : Allow) (plans : List TaskPlanValue) (l : MemoryMap) (laid : HasLayout p allow plans l)
    (s : State) (x : World) (is_state : (state_view p l).is_state s ≡ true)
    (shared : (a : ℕ) → IsSharedWord (program_places p l) a → x.fram a ≡ (state_view p l).word s a) where
  row_stands : (v : ℕ) (place : VariablePlace) → slice_get l.variables v ≡ Some place → RowStands x (slice_index_or s.shared v []) place
  row_stands v place at i below =
      let a = 2 * i + (home_region place).address in
      let word : IsWordOf l v i a = record { place = place; at = at; below = below; address = refl } in
      shared a (words_of_variables_are_shared p allow plans l laid v i a word) ∙ view_has_their_words p allow plans l laid s.shared v i a word

  finds_words : x.fram (word_place l CurrentTask) ≡ s.task → x.accepted ≡ s.emitted → HasWordsOf (map_of text p l allow) x s
  finds_words task accepted = record {
    task = task;
    shared = all_rows x text p.shared l.variables s.shared laid.layout.variables.count is_state
        (λ v d place at at_place. of_kind (is_written (summaries p) p.tasks v) d.extent place (laid.layout.variables.each v d place at at_place)) row_stands;
    accepted = accepted;
  }

pub finds_state : (text : List ℕ) (p : CheckedProgram) (allow : Allow) (plans : List TaskPlanValue) (l : MemoryMap) → HasLayout p allow plans l
    → (s : State) (x : World) → RestsAt (program_places p l) (state_view p l) s x → HasWordsOf (map_of text p l allow) x s
finds_state text p allow plans l laid s x rests =
    finds_words text p allow plans l laid s x rests.is_open.is_state rests.shared rests.is_open.current_task rests.is_open.accepted

layout_of : {logging : Logging} (text : List ℕ) (p : CheckedProgram) (allow : Allow) (image : ImageValue) → IsAcceptedText text p allow
    → (c : IsCompiledFor logging text p allow image) → HasLayout p allow c.plans c.layout
layout_of {logging} text p allow image ok c = record {
  allowed = ok.allowed;
  plan = c.is_plan;
  logging = logging;
  layout = c.is_layout;
  few = privates_are_few text p allow c.plans c.layout (laid_out text p allow image ok c);
  returning = (let k = ok.checks.checks in each_returns p k.named.placed k.paths.returns);
}

-- a world that rests at a state, under each runtime
rests_at : (p : CheckedProgram) (l : MemoryMap) (s : State) (x : World) → (compiled_model p l).Rests s x → RestsAt (program_places p l) (state_view p l) s x
rests_at p l s x rests =
    let P : Model State → Type 0 = λ m. m.Rests s x in
    ⊎_elim {C = RestsAt (program_places p l) (state_view p l) s x} (λ redo. subst P (is_redo p l redo) rests)
    (λ undo. (subst P (is_logged p l undo) rests).rests) (either_logging l.runtime.logging)

pub maps_find_states : {logging : Logging} (text : List ℕ) (p : CheckedProgram) (allow : Allow) (image : ImageValue) → IsAcceptedText text p allow
    → (c : IsCompiledFor logging text p allow image) → (s : State) (x : World)
    → (compiled_model p c.layout).Rests s x → HasWordsOf (map_of text p c.layout allow) x s
maps_find_states text p allow image ok c s x rests =
    finds_state text p allow c.plans c.layout (layout_of text p allow image ok c) s x (rests_at p c.layout s x rests)

-- what stands in each world is a state, and the map finds it
pub worlds_stand : ImagesHaveStates
worlds_stand text p allow image ok c =
    let laid = layout_of text p allow image ok c in
    let w = worlds_have_states p allow c.plans c.layout laid in
    record {
      words = λ x words. finds_words text p allow c.plans c.layout laid (state_in c.layout x) x (w.is_state x words) (w.shared x) refl refl;
      rest = w.rest (logs_so text p allow image c);
      commit = w.commit (logs_so text p allow image c);
    }
