-- The answers that are read off the moments of a run are those that its effects store to ANS.
use Rattle.std.proofs.Common.{◌≡◌, ◌==◌, ◌+◌, ◌-◌, ◌≤◌, ◌<◌, ◌%◌, ℕ, refl, sym, ap, ap₂, ◌∙◌, subst, arith, Bool, true, false, cond, if◌then◌else◌}
use Rattle.std.proofs.Common.{List, [], ◌∷◌, ◌++◌, append-nil, slice_index, eqb-true, ne_eqb, Option, Some, None, IfSome, Ok}
use Rattle.std.proofs.lemmas.Bool.Decides.{nat_tests}
use Rattle.image_map.specs.declared.parts.RingPlaces.{RingPlaces}
use Rattle.image_map.specs.MapValue.{IsFramWord}
use Rattle.fram_board.specs.image_text.ImageValue.{place_of}
use Rattle.fram_board.specs.declared.board.Stepped.{Stepped}
use Rattle.fram_board.specs.Bus.{is_fram}
use Rattle.fram_board.specs.Board.{BoardValue}
use Rattle.fram_board.specs.Effects.{Effect, Store, Take, Outside, store_at, sends_of}
use Rattle.fram_board.specs.Run.{StepKind, Accepting, Returning, Plain, Moment}
use Rattle.board_run.specs.History.{word_in}
use Rattle.machine_effects.specs.event_places.Places.{handler_place}
use Rattle.machine_effects.specs.World.{EachStore}
use Rattle.machine_effects.specs.Inputs.{Look, look_effects}
use Rattle.machine_effects.specs.Runs.{step_effects}
use Rattle.machine_effects.specs.View.{seen_at_pc}
use Rattle.machine_effects.proofs.Interface.{takes}
use Rattle.crash_rules.specs.Model.{words_stored, answers_at}
use Rattle.crash_rules.proofs.Interface.{stored-append, takes_store_none}
use Rattle.run_charges.specs.View.{is_handlers, outside_effects}
use Rattle.run_charges.specs.Moments.{IsMomentFrom, PowersUp, Instructs, Serves, stored_by}
use Rattle.run_charges.proofs.Interface.{stepped, step_is_programs}
use Rattle.model_runs.specs.Events.{answer_in}
use Rattle.source_runs.specs.Tells.{written_at, answer_by}

sends_store_none : (a number : ℕ) (o : Option ℕ) → words_stored a (sends_of number o) ≡ []
sends_store_none a number None = refl
sends_store_none a number (Some w) = refl

looks_store_none : (a : ℕ) (looks : List Look) (es : List Effect) → words_stored a (look_effects looks ++ es) ≡ words_stored a es
looks_store_none a [] es = refl
looks_store_none a (look ∷ more) es = refl

-- what is stored elsewhere
store_elsewhere : (is : Bool) (w : ℕ) (ws : List ℕ) → is ≡ false → ws ≡ [] → cond is (w ∷ ws) ws ≡ []
store_elsewhere is w ws e f = ap (λ b. cond b (w ∷ ws) ws) e ∙ f

stores_elsewhere : (a low : ℕ) (es : List Effect) → a < low → EachStore (λ b w. low ≤ b) es → words_stored a es ≡ []
stores_elsewhere a low [] l h = refl
stores_elsewhere a low (Store b w ∷ es) l h =
    let at = h.0 in store_elsewhere (b == a) w (words_stored a es) (ne_eqb b a (λ e. omega (arith, e, l, at))) (stores_elsewhere a low es l h.1)
stores_elsewhere a low (Take w ∷ es) l h = stores_elsewhere a low es l h.1
stores_elsewhere a low (Outside o ∷ es) l h = stores_elsewhere a low es l h.1

-- ---- the word that a step wrote at an address of the FRAM

in_fram : (a d : ℕ) → IsFramWord a → (d - d % 2 == a) ≡ true → is_fram d ≡ true
in_fram a d h e =
    let at : d - d % 2 ≡ a = eqb-true (d - d % 2) a e in
    let even = h.even in let low = h.low in let high = h.high in
    let from : 17408 ≤ d = omega (arith, at, low) in
    let to : d < 65536 = omega (arith, at, high, even) in
    grind (arith, nat_tests, from, to)

same_place : (a d : ℕ) → IsFramWord a → (d - d % 2 == a) ≡ true → place_of d ≡ place_of a
same_place a d h e =
    let at : d - d % 2 ≡ a = eqb-true (d - d % 2) a e in
    let even = h.even in let low = h.low in
    omega (arith, at, even, low)

written_in : (fram : List ℕ) (a d : ℕ) (is there : Bool) → IsFramWord a → is_fram d ≡ is → (d - d % 2 == a) ≡ there
    → words_stored a (if is then Store (d - d % 2) (slice_index fram (place_of d)) ∷ [] else []) ≡ (if there then word_in fram a ∷ [] else [])
written_in fram a d true true h f e =
    ap {B = List ℕ} (λ (b : Bool). if b then slice_index fram (place_of d) ∷ [] else []) e ∙ ap (λ p. slice_index fram p ∷ []) (same_place a d h e)
written_in fram a d true false h f e = ap {B = List ℕ} (λ (b : Bool). if b then slice_index fram (place_of d) ∷ [] else []) e
written_in fram a d false true h f e = let is = in_fram a d h e in absurd (cc (f, is))
written_in fram a d false false h f e = refl

store_is_told : (fram : List ℕ) (a : ℕ) (wrote : Option ℕ) → IsFramWord a → words_stored a (store_at wrote fram) ≡ written_at a wrote fram
store_is_told fram a None h = refl
store_is_told fram a (Some d) h = written_in fram a d (is_fram d) (d - d % 2 == a) h refl refl

-- ---- of a step of a run

-- where ANS is
pub record IsAnswer (ring : RingPlaces) : Type 0 where
  pub there : IsFramWord ring.answer
  pub front : ring.answer < handler_place

module _ (ring : RingPlaces) (answer : IsAnswer ring) where
  effects_tell : (looks : List Look) (ws : List ℕ) (wrote : Option ℕ) (fram : List ℕ) (number : ℕ) (offered : Option ℕ)
      → words_stored ring.answer (look_effects looks ++ (takes ws ++ (store_at wrote fram ++ sends_of number offered))) ≡ written_at ring.answer wrote fram
  effects_tell looks ws wrote fram number offered =
      let a = ring.answer in
      let rest : List Effect = store_at wrote fram ++ sends_of number offered in
      looks_store_none a looks (takes ws ++ rest)
      ∙ stored-append a (takes ws) rest
      ∙ ap (λ l. l ++ words_stored a rest) (takes_store_none a ws)
      ∙ stored-append a (store_at wrote fram) (sends_of number offered)
      ∙ ap₂ (λ k l. k ++ l) (store_is_told fram a wrote answer.there) (sends_store_none a number offered)
      ∙ append-nil (written_at a wrote fram)

  -- the program's own, by what kind of step it is
  step_tells : (kind : StepKind) (looks : List Look) (b after : BoardValue) (done : Stepped) (offered : Option ℕ)
      → (kind ≡ Accepting → ⊥)
      → words_stored ring.answer (look_effects looks ++ step_effects kind b (record { answer = Ok done; offered = offered; board = after }))
      ≡ written_at ring.answer done.wrote after.fram
  step_tells Accepting looks b after done offered none = absurd (none refl)
  step_tells Returning looks b after done offered none = effects_tell looks _ done.wrote after.fram b.outnum offered
  step_tells Plain looks b after done offered none = effects_tell looks _ done.wrote after.fram b.outnum offered

  -- or the handler's
  said_by : (handlers : Bool) (kind : StepKind) (b after : BoardValue) (done : Stepped) (offered : Option ℕ)
      → (kind ≡ Accepting → handlers ≡ true) → (handlers ≡ true → EachStore (λ a w. handler_place ≤ a) (store_at done.wrote after.fram))
      → words_stored ring.answer (if handlers then [] else look_effects (seen_at_pc b) ++ step_effects kind b
      (record { answer = Ok done; offered = offered; board = after }))
      ≡ written_at ring.answer done.wrote after.fram
  said_by true kind b after done offered is off =
      sym (stores_elsewhere ring.answer handler_place (store_at done.wrote after.fram) answer.front (off refl))
      ∙ store_is_told after.fram ring.answer done.wrote answer.there
  said_by false kind b after done offered is off =
      step_tells kind (seen_at_pc b) b after done offered (λ e. let h = is e in absurd cc)

accepting_is_handlers : (kind : StepKind) (b : BoardValue) (done : Stepped) (offered : Option ℕ) (after : BoardValue) → kind ≡ Accepting
    → is_handlers (stepped b kind done offered after) ≡ true
accepting_is_handlers Accepting b done offered after e = refl
accepting_is_handlers Returning b done offered after e = absurd cc
accepting_is_handlers Plain b done offered after e = absurd cc

-- a handler's moment stores nothing in front of the handler
handlers_store : (b : BoardValue) (m : Moment) → IsMomentFrom b m → is_handlers m ≡ true → EachStore (λ a w. handler_place ≤ a) (stored_by m.action m.after)
handlers_store b m (PowersUp p ok e) h =
    let P : Moment → Type 0 = λ y. EachStore (λ a w. handler_place ≤ a) (stored_by y.action y.after) in subst P (sym e) tt
handlers_store b m (Instructs i done c a own e) h =
    let no : false ≡ true = sym (step_is_programs i b own.below) ∙ ap is_handlers (sym e) ∙ h in absurd cc
handlers_store b m (Serves n done next a served e) h =
    let P : Moment → Type 0 = λ y. EachStore (λ a w. handler_place ≤ a) (stored_by y.action y.after) in subst P (sym e) served.stores

-- so the answer that a step stores is the one that is read off it
pub answers_said : (ring : Option RingPlaces) → IfSome ring IsAnswer → (b : BoardValue) (kind : StepKind) (done : Stepped) (offered : Option ℕ)
    (after : BoardValue) → IsMomentFrom b (stepped b kind done offered after)
    → answers_at (answer_in ring) (outside_effects (stepped b kind done offered after)) ≡ answer_by ring done.wrote after.fram
answers_said None ok b kind done offered after from = refl
answers_said (Some ring) ok b kind done offered after from =
    let o = stepped b kind done offered after in
    said_by ring ok (is_handlers o) kind b after done offered (accepting_is_handlers kind b done offered after) (handlers_store b o from)
