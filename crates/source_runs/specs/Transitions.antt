-- A source's transitions and the dones of a run that stand for them.
use Rattle.std.specs.Prelude.{◌≡◌, ◌≤◌, ◌+◌, ℕ, zero, suc, List, [], ◌∷◌, map, length}
use Rattle.image_map.specs.declared.parts.Variable.{Variable}
use Rattle.image_map.specs.MapValue.{MapValue, word_count}
use Rattle.source_values.specs.Runs.{State, Transition, state_after}
use Rattle.machine_effects.specs.World.{World}
use Rattle.crash_rules.specs.History.{Done}
use Rattle.source_runs.specs.Tells.{CommittedAttempt}

-- so many words of a world, from an address on
abbrev pub words_at : World → ℕ → ℕ → List ℕ
words_at x a zero = []
words_at x a (suc n) = x.fram a ∷ words_at x (a + 2) n

-- the words of variables in a world
abbrev pub rows_in : World → List Variable → List (List ℕ)
rows_in x vs = map (λ v. words_at x v.address (word_count v.value_type v.length)) vs

-- a world has the words of a state: its current task, its shared words, and the words emitted so far
pub record HasWordsOf (m : MapValue) (x : World) (s : State) : Type 0 where
  pub task : x.fram m.words.current_task ≡ s.task
  pub shared : rows_in x m.variables ≡ s.shared
  pub accepted : x.accepted ≡ s.emitted

-- a done stands for a transition from a state: its world has the words of the state behind it
pub record StandsForTransition (m : MapValue) (s : State) (d : Done) (t : Transition) : Type 0 where
  pub from : t.from ≡ s.task
  pub before : t.before ≡ s.shared
  pub few : length t.emitted ≤ 256
  pub behind : HasWordsOf m d.world (state_after s t)

-- dones stand for transitions one behind the other
abbrev pub StandForTransitions : MapValue → State → List Done → List Transition → Type 0
StandForTransitions m s [] [] = Unit {0}
StandForTransitions m s [] (t ∷ ts) = ⊥
StandForTransitions m s (d ∷ ds) [] = ⊥
StandForTransitions m s (d ∷ ds) (t ∷ ts) = StandsForTransition m s d t × StandForTransitions m (state_after s t) ds ts

-- the attempts that dones committed
abbrev pub committed_by : List Done → List CommittedAttempt
committed_by ds = map (λ d. record { span = record { from = d.span_from; to = d.span_to }; answers = d.answers }) ds
