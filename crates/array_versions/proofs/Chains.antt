-- Chains of what steps do to a state, and facts of all of them: each is an induction over chains.
use Rattle.std.proofs.Common.{◌≡◌, ℕ, ◌<◌, List, [], ◌∷◌, ◌++◌, Option, Some, refl, sym, ap, ◌∙◌, subst, append_assoc, ne_eqb, if◌then◌else◌, ◌≢◌}
use Rattle.machine_effects.specs.alp_words.Words.{AreWords}
use Rattle.machine_effects.specs.fram_board.Effects.{Effect, Store, Take, Outside, Looked}
use Rattle.machine_effects.specs.World.{fram_after, EachStore}
use Rattle.machine_effects.specs.Inputs.{Look, Inputs, TakesExactly}
use Rattle.machine_effects.proofs.Interface.{takes_nothing, takes_behind_store, takes_through, fram_after-append, each_store-append}
use Rattle.array_versions.specs.Behaviour.{WordState, with_stack, stored, with_local, called}
use Rattle.array_versions.specs.Laws.{IsStateOfWords}
use Rattle.array_versions.proofs.Words.{stack_words, stored_words, local_words, input_words, called_words}

-- the word of each store is a word
abbrev pub StoresWords : List Effect → Type 0
StoresWords = EachStore (λ a w. w < 0x10000)

-- What a function does that is called: it changes FRAM and takes inputs by its effects, and sets none of its caller's locals. Where `W` is given, from
-- words it leads to words
pub record Works (W : Type 0) (s : WordState) (es : List Effect) (t : WordState) : Type 0 where
  pub fram : t.fram ≡ fram_after es s.fram
  pub inputs : TakesExactly es s.inputs t.inputs
  pub locals : t.locals ≡ s.locals
  pub stores : W → StoresWords es
  pub words : W → IsStateOfWords s → IsStateOfWords t

-- A chain from a state to another by effects: other words on the stack, a local set, a word stored in FRAM, a reading or a look taken, a function
-- called. Where `W` is given, each word in it is one; a local that is set is none that is spared
pub data Run (W : Type 0) (spared : ℕ → Type 0) : WordState → List Effect → WordState → Type 0 where
  stays : {s : WordState} → Run W spared s [] s
  stacks : {s t : WordState} {es : List Effect} (vs : List ℕ) → (W → AreWords vs) → Run W spared (with_stack vs s) es t → Run W spared s es t
  assigns : {s t : WordState} {es : List Effect} (n v : ℕ) → ((m : ℕ) → spared m → n ≢ m) → (W → v < 0x10000) → Run W spared (with_local n v s) es t
      → Run W spared s es t
  stores : {s t : WordState} {es : List Effect} (a v : ℕ) → (W → v < 0x10000) → Run W spared (stored a v s) es t → Run W spared s (Store a v ∷ es) t
  takes : {s t : WordState} {es : List Effect} (r : ℕ) (left : Inputs) → TakesExactly (Take r ∷ []) s.inputs left
      → Run W spared (record s { inputs = left }) es t → Run W spared s (Take r ∷ es) t
  works : {s t u : WordState} {es fs : List Effect} → Works W s es t → Run W spared t fs u → Run W spared s (es ++ fs) u
  sees : {s t : WordState} {es : List Effect} (look : Look) (left : Inputs) → TakesExactly (Outside (Looked look) ∷ []) s.inputs left
      → Run W spared (record s { inputs = left }) es t → Run W spared s (Outside (Looked look) ∷ es) t

-- one chain behind another
pub run_behind : {W : Type 0} {spared : ℕ → Type 0} {s t u : WordState} {es fs : List Effect} → Run W spared s es t → Run W spared t fs u
    → Run W spared s (es ++ fs) u
run_behind stays r = r
run_behind (stacks vs l q) r = stacks vs l (run_behind q r)
run_behind (assigns n v d l q) r = assigns n v d l (run_behind q r)
run_behind (stores a v l q) r = stores a v l (run_behind q r)
run_behind (takes x left e q) r = takes x left e (run_behind q r)
run_behind (sees look left e q) r = sees look left e (run_behind q r)
run_behind {W = W} {spared = spared} {s = s} {u = u} {fs = gs} (works {es = es} {fs = fs} w q) r =
    subst (λ l. Run W spared s l u) (sym (append_assoc es fs gs)) (works w (run_behind q r))

-- from words it leads to words
pub run_words : {W : Type 0} {spared : ℕ → Type 0} {s t : WordState} {es : List Effect} → Run W spared s es t → W → IsStateOfWords s → IsStateOfWords t
run_words stays x i = i
run_words (stacks {s = s} vs l q) x i = run_words q x (stack_words s vs i (l x))
run_words (assigns {s = s} n v d l q) x i = run_words q x (local_words s n v i (l x))
run_words (stores {s = s} a v l q) x i = run_words q x (stored_words s a v i (l x))
run_words (takes {s = s} r left e q) x i = run_words q x (input_words s (Take r ∷ []) left e i)
run_words (sees {s = s} look left e q) x i = run_words q x (input_words s (Outside (Looked look) ∷ []) left e i)
run_words (works w q) x i = run_words q x (w.words x i)

module _ {W : Type 0} {spared : ℕ → Type 0} where
  -- each word that it stores is one
  pub run_stores : {s t : WordState} {es : List Effect} → Run W spared s es t → W → StoresWords es
  run_stores stays x = tt
  run_stores (stacks vs l q) x = run_stores q x
  run_stores (assigns n v d l q) x = run_stores q x
  run_stores (stores a v l q) x = (l x, run_stores q x)
  run_stores (takes r left e q) x = (tt, run_stores q x)
  run_stores (sees look left e q) x = (tt, run_stores q x)
  run_stores (works {es = es} {fs = fs} w q) x = each_store-append (λ a v. v < 0x10000) es fs (w.stores x) (run_stores q x)

  -- a local that is spared has its word on
  pub run_leaves : {s t : WordState} {es : List Effect} → Run W spared s es t → (n : ℕ) → spared n → t.locals n ≡ s.locals n
  run_leaves stays n y = refl
  run_leaves (stacks vs l q) n y = run_leaves q n y
  run_leaves (assigns {s = s} m v d l q) n y = run_leaves q n y ∙ ap (λ b. if b then Some v else s.locals n) (ne_eqb n m (λ e. d n y (sym e)))
  run_leaves (stores a v l q) n y = run_leaves q n y
  run_leaves (takes r left e q) n y = run_leaves q n y
  run_leaves (sees look left e q) n y = run_leaves q n y
  run_leaves (works w q) n y = run_leaves q n y ∙ ap (λ l. l n) w.locals

  -- it changes FRAM and takes inputs by its effects
  pub run_effects : {s t : WordState} {es : List Effect} → Run W spared s es t
      → (t.fram ≡ fram_after es s.fram) × TakesExactly es s.inputs t.inputs
  run_effects {s = s} stays = (refl, takes_nothing s.inputs)
  run_effects (stacks vs l q) = run_effects q
  run_effects (assigns n v d l q) = run_effects q
  run_effects {s = s} {t = t} (stores {es = es} a v l q) = let k = run_effects q in (k.0, takes_behind_store a v es s.inputs t.inputs k.1)
  run_effects {s = s} {t = t} (takes {es = es} r left e q) = let k = run_effects q in (k.0, takes_through (Take r ∷ []) es s.inputs left t.inputs e k.1)
  run_effects {s = s} {t = t} (sees {es = es} look left e q) =
      let k = run_effects q in (k.0, takes_through (Outside (Looked look) ∷ []) es s.inputs left t.inputs e k.1)
  run_effects {s = s} {t = u} (works {t = t} {es = es} {fs = fs} w q) =
      let k = run_effects q in
      (k.0 ∙ ap (fram_after fs) w.fram ∙ sym (fram_after-append es fs s.fram), takes_through es fs s.inputs t.inputs u.inputs w.inputs k.1)

-- a function that is called works as a chain through its body says
pub called_works : {W : Type 0} {s t : WordState} {es : List Effect} (first : ℕ) (ws : List ℕ) → (W → AreWords ws)
    → Run W (λ m. ⊥) (called first ws s) es t → Works W s es (record t { stack = s.stack; locals = s.locals })
called_works {s = s} first ws k q =
    let effects = run_effects q in
    record {
      fram = effects.0;
      inputs = effects.1;
      locals = refl;
      stores = run_stores q;
      words = λ x i.
          let there = run_words q x (called_words s first ws i (k x)) in
          record { stack = i.stack; locals = i.locals; fram = there.fram; inputs = there.inputs };
    }
