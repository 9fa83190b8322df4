-- What holds of each program's effects and ends: each is a fact of chains.
use Rattle.std.proofs.Common.{◌≡◌, ℕ, List, ◌++◌, Option, sym, ap, ◌∙◌, append-nil}
use Rattle.machine_effects.specs.fram_board.Effects.{Effect}
use Rattle.machine_effects.specs.World.{readings_taken}
use Rattle.array_versions.specs.Program.{Step, Program}
use Rattle.array_versions.specs.Behaviour.{WordState, End, GoesOn, Jumps, Gives, Short, Strays, Broken, step_behaviour, behaviour}
use Rattle.array_versions.specs.Form.{StepOfWords, OfWords, Spares}
use Rattle.array_versions.specs.Laws.{IsStateOfWords, EndsInWords, WordsStayWords, EndsByEffects, BehavesByEffects}
use Rattle.array_versions.proofs.Chains.{run_words, run_stores, run_leaves, run_effects}
pub use Rattle.array_versions.proofs.Chains.{StoresWords}
use Rattle.array_versions.proofs.Runs.{Reaches, step_does, runs}

-- where it goes on, the local has this word, or none
abbrev pub Leaves : ℕ → Option ℕ → End → Type 0
Leaves n o (GoesOn t) = t.locals n ≡ o
Leaves n o (Jumps to t) = Unit {0}
Leaves n o (Gives v t) = Unit {0}
Leaves n o Short = Unit {0}
Leaves n o Strays = Unit {0}
Leaves n o Broken = Unit {0}

-- ---- at ends

module _ (W : Type 0) (spared : ℕ → Type 0) where
  ends_words : (s : WordState) (es : List Effect) (e : End) → Reaches W spared s es e → W → IsStateOfWords s → EndsInWords e
  ends_words s es (GoesOn t) q x i = run_words q x i
  ends_words s es (Jumps to t) q x i = run_words q x i
  ends_words s es (Gives v t) q x i = (q.0 x, run_words q.1 x i)
  ends_words s es _ q x i = tt

  ends_stores : (s : WordState) (es : List Effect) (e : End) → Reaches W spared s es e → W → StoresWords es
  ends_stores s es (GoesOn t) q = run_stores q
  ends_stores s es (Jumps to t) q = run_stores q
  ends_stores s es (Gives v t) q = run_stores q.1
  ends_stores s es Short q = run_stores q.1
  ends_stores s es Strays q = run_stores q.1
  ends_stores s es Broken q = run_stores q.1

  ends_leaving : (s : WordState) (es : List Effect) (e : End) → Reaches W spared s es e → (n : ℕ) → spared n → Leaves n (s.locals n) e
  ends_leaving s es (GoesOn t) q n y = run_leaves q n y
  ends_leaving s es _ q n y = tt

  ends_by_effects : (s : WordState) (es : List Effect) (e : End) → Reaches W spared s es e → EndsByEffects s es e
  ends_by_effects s es (GoesOn t) q = run_effects q
  ends_by_effects s es (Jumps to t) q = run_effects q
  ends_by_effects s es (Gives v t) q = run_effects q.1
  ends_by_effects s es Short q =
      let k = run_effects q.1 in sym (append-nil (readings_taken es)) ∙ ap (λ l. readings_taken es ++ l) (sym q.2) ∙ k.1.readings
  ends_by_effects s es _ q = tt

-- ---- of programs

-- from words a step of words leads to words
pub step_words : (first : Step) (s : WordState) → StepOfWords first → IsStateOfWords s → EndsInWords (step_behaviour first s).end
step_words first s h w =
    let b = step_behaviour first s in
    ends_words (Unit {0}) (λ m. ⊥) s b.effects b.end (step_does (Unit {0}) (λ m. ⊥) first s (λ x. h) (λ m y. absurd y) (λ x. w)) tt w

-- from words a program of words leads to words
pub words : (p : Program) (s : WordState) → OfWords p → IsStateOfWords s → EndsInWords (behaviour p s).end
words p s h w = let b = behaviour p s in ends_words (OfWords p × IsStateOfWords s) (λ m. Spares m p) s b.effects b.end (runs p s) (h, w) w

pub words_stay_words : WordsStayWords
words_stay_words p s h w = words p s h w

-- and it stores words
pub stores_words : (p : Program) (s : WordState) → OfWords p → IsStateOfWords s → StoresWords (behaviour p s).effects
stores_words p s h w = let b = behaviour p s in ends_stores (OfWords p × IsStateOfWords s) (λ m. Spares m p) s b.effects b.end (runs p s) (h, w)

-- a program leaves the locals that it doesn't set
pub leaves : (n : ℕ) (o : Option ℕ) (p : Program) (s : WordState) → Spares n p → s.locals n ≡ o → Leaves n o (behaviour p s).end
leaves n o p s h e =
    let b = behaviour p s in
    by_end b.end (ends_leaving (OfWords p × IsStateOfWords s) (λ m. Spares m p) s b.effects b.end (runs p s) n h)
  where
    by_end : (end : End) → Leaves n (s.locals n) end → Leaves n o end
    by_end (GoesOn t) l = l ∙ e
    by_end _ l = tt

-- a program changes FRAM and the inputs as its effects say
pub behaves_by_effects : BehavesByEffects
behaves_by_effects p s =
    let b = behaviour p s in ends_by_effects (OfWords p × IsStateOfWords s) (λ m. Spares m p) s b.effects b.end (runs p s)
