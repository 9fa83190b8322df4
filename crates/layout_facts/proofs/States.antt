-- The state that a world has.
use Rattle.layout_facts.proofs.Names.{◌≡◌, ℕ, zero, suc, ◌+◌, ◌*◌, ◌<◌, ◌&&◌, Bool, true, List, [], ◌∷◌, length, map, refl, sym, ap, ap₂, ◌∙◌, eq-eqb, lt-ltb}
use Rattle.layout_facts.proofs.Names.{arith, Some, subst, slice_get-map, get_or_from_slice_get, option_map, slice_get, slice_index, slice_index_or}
use Rattle.layout_facts.proofs.Names.{SharedDeclaration, CheckedProgram, is_written, Allow, TaskPlanValue, State, initial_words, VariablePlace, Scalar, Array}
use Rattle.layout_facts.proofs.Names.{MemoryMap, home_region, IsPlaceOf, IsSharedWord, place_length, program_places, are_words, are_rows, shared_word, row_in}
use Rattle.layout_facts.proofs.Names.{state_view, state_in, state_left, HasLayout, WorldsHaveStates}
use Rattle.machine_effects.specs.World.{World}
use Rattle.stands_for.specs.StandsFor.{HoldsWords, words_at, RestsAt, IsAtRest, IsPendingCommit}
use Rattle.stands_for.proofs.Interface.{commit_rests, words_length}
use Rattle.compiled_model.proofs.Interface.{is_redo}
use Rattle.crash_rules.specs.Model.{Model}
use Rattle.layout_facts.proofs.Chains.{places_are_apart, tasks_have_room}
use Rattle.layout_facts.proofs.Homes.{shared_words_are_of_variables}
use Rattle.layout_facts.proofs.Views.{initial_length, view_has_their_words}
use Rattle.cost_bound.specs.Summaries.{summaries}

-- words that FRAM has from an address on
are_in_fram : (f : ℕ → ℕ) → HoldsWords f → (n p : ℕ) → are_words (words_at n p f) ≡ true
are_in_fram f words zero p = refl
are_in_fram f words (suc n) p = ap₂ (λ a b. a && b) (lt-ltb (f p) 0x10000 (words p)) (are_in_fram f words n (p + 2))

word_among : (f : ℕ → ℕ) (n p i : ℕ) → i < n → slice_index (words_at n p f) i ≡ f (2 * i + p)
word_among f zero p i h = absurd (omega (arith, h))
word_among f (suc n) p zero h = let here : p ≡ 2 * 0 + p = omega arith in ap f here
word_among f (suc n) p (suc i) h =
    let there : 2 * i + (p + 2) ≡ 2 * suc i + p = omega arith in word_among f n (p + 2) i (omega (arith, h)) ∙ ap f there

-- the rows that FRAM has at the places of declarations
abbrev rows_in : (ℕ → ℕ) → List VariablePlace → List (List ℕ)
rows_in f vs = map (λ v. row_in f (home_region v)) vs

place_words : (v : VariablePlace) → place_length v ≡ (home_region v).words
place_words (Scalar home copy width) = refl
place_words (Array elements length copies) = refl

rows_are : (f : ℕ → ℕ) → HoldsWords f → (written : ℕ → Bool) (ds : List SharedDeclaration) (vs : List VariablePlace) → length vs ≡ length ds
    → ((k : ℕ) (d : SharedDeclaration) (v : VariablePlace) → slice_get ds k ≡ Some d → slice_get vs k ≡ Some v → IsPlaceOf (written k) d.extent v)
    → are_rows ds (rows_in f vs) ≡ true
rows_are f words written [] [] e h = refl
rows_are f words written [] (v ∷ vs) e h = absurd (omega (arith, e))
rows_are f words written (d ∷ ds) [] e h = absurd (omega (arith, e))
rows_are f words written (d ∷ ds) (v ∷ vs) e h =
    let r = home_region v in
    let count : length (row_in f r) ≡ length (initial_words d.extent) =
    words_length r.words r.address f ∙ sym (place_words v) ∙ sym (initial_length (written 0) d.extent v (h 0 d v refl refl)) in
    ap₂ (λ a b. a && b) (eq-eqb (length (row_in f r)) (length (initial_words d.extent)) count)
    (ap₂ (λ a b. a && b) (are_in_fram f words r.words r.address)
    (rows_are f words (λ k. written (suc k)) ds vs (omega (arith, e)) (λ k g w a b. h (suc k) g w a b)))

module _ (p : CheckedProgram) (allow : Allow) (plans : List TaskPlanValue) (l : MemoryMap) (h : HasLayout p allow plans l) where
  row_at : (f : ℕ → ℕ) (v : ℕ) (place : VariablePlace) → slice_get l.variables v ≡ Some place
      → slice_index_or (rows_in f l.variables) v [] ≡ row_in f (home_region place)
  row_at f v place at =
      get_or_from_slice_get (rows_in f l.variables) v (row_in f (home_region place)) []
      (slice_get-map (λ w. row_in f (home_region w)) l.variables v ∙ ap (option_map (λ w. row_in f (home_region w))) at)

  shared_in : (f : ℕ → ℕ) (a : ℕ) → IsSharedWord (program_places p l) a → f a ≡ shared_word l.variables (rows_in f l.variables) a
  shared_in f a is =
      let w = shared_words_are_of_variables p allow plans l h a is in
      let v = w.0 in let i = w.1 in let word = w.2 in
      let r = home_region word.place in
      sym (view_has_their_words p allow plans l h (rows_in f l.variables) v i a word ∙ ap (λ row. slice_index row i) (row_at f v word.place word.at)
      ∙ word_among f r.words r.address i word.below ∙ ap f (sym word.address))

  is_state : (x : World) → HoldsWords x.fram → (state_view p l).is_state (state_in l x) ≡ true
  is_state x words = rows_are x.fram words (is_written (summaries p) p.tasks) p.shared l.variables h.layout.variables.count h.layout.variables.each

  rests : (x : World) → IsAtRest (program_places p l) x → RestsAt (program_places p l) (state_view p l) (state_in l x) x
  rests x r =
      record {
        is_open = record {
          is_state = is_state x r.words;
          is_task = r.current_task;
          words = r.words;
          current_task = refl;
          gate = r.gate;
          accepted = refl;
          base = r.base;
          versions = r.versions;
        };
        shared = shared_in x.fram;
      }

pub worlds_have_states : WorldsHaveStates
worlds_have_states p allow plans l h =
    let places = program_places p l in
    let Rest : Model State → Type 0 = λ m. (x : World) → IsAtRest places x → m.Rests (state_in l x) x in
    let Commit : Model State → Type 0 = λ m. (x : World) → IsPendingCommit places x → m.Committing (state_left l x) x in
    record {
      is_state = is_state p allow plans l h;
      shared = λ x a s. shared_in p allow plans l h x.fram a s;
      rest = λ logs. subst Rest (sym (is_redo p l logs)) (rests p allow plans l h);
      commit = λ logs. subst Commit (sym (is_redo p l logs)) (λ x d. record {
        pending = d;
        rests = rests p allow plans l h _ (commit_rests places (places_are_apart p allow plans l h) x d (tasks_have_room p allow plans l h));
      });
    }
