-- How a program takes words of the ring, told by its effects: EC is cleared as an attempt starts; then each answer comes of two looks, HEAD first; and
-- where a word waits EC is raised behind it. The transition freezes TAIL + EC in SE, and the commit moves TAIL there.
use Rattle.std.specs.Prelude.{◌≡◌, ◌≢◌, ℕ, ◌+◌, ◌%◌, ◌<◌, true, List, [], ◌∷◌}
use Rattle.msp_step.specs.alp_words.Words.{word_sum}
use Rattle.event_places.specs.Places.{tail_place, count_place, sent_place, answer_place, head_place, slot_place}
use Rattle.fram_board.specs.Effects.{Effect, Store, Take, Outside, Offered, Looked}
use Rattle.fram_board.specs.Run.{Action, PowerUp, Execute, Moment}
use Rattle.machine_effects.specs.World.{World, fram_after_one, EachStore}
use Rattle.machine_effects.specs.Inputs.{Look, other_looks}
use Rattle.crash_rules.specs.Model.{Model, Inputs, InputsAreWords}
use Rattle.run_charges.specs.View.{outside_of, outside_effects}

-- how far a program is
pub data Taking : Type 0 where
  Before : Taking  -- EC wasn't cleared since the boot or the done; a commit is made so too
  Open : Taking  -- EC words are taken
  SawHead : (head : ℕ) → Taking  -- the first look of an answer saw this at HEAD
  SawSlot : (head word : ℕ) → Taking  -- and the second this word in the slot
  Took : Taking  -- that word is the answer, but EC isn't raised yet
  Frozen : Taking  -- SE is TAIL + EC

-- the index of the next word that an attempt takes
abbrev pub next_index : (ℕ → ℕ) → ℕ
next_index f = word_sum (f tail_place) (f count_place)

-- no answer is under way
abbrev pub IsIdle : Taking → Type 0
IsIdle Before = Unit {0}
IsIdle Open = Unit {0}
IsIdle Frozen = Unit {0}
IsIdle (SawHead head) = ⊥
IsIdle (SawSlot head word) = ⊥
IsIdle Took = ⊥

-- what an effect may be there, from this FRAM on, and how far the program is behind it. Stores to other words change nothing
pub data Advances (gate : ℕ) (f : ℕ → ℕ) : Taking → Effect → Taking → Type 0 where
  Takes : {t : Taking} {r : ℕ} → IsIdle t → Advances gate f t (Take r) t
  Sends : {t : Taking} {n w : ℕ} → IsIdle t → Advances gate f t (Outside (Offered n w)) t
  Stores : {t : Taking} {a w : ℕ} → IsIdle t → a < tail_place → a ≢ gate → Advances gate f t (Store a w) t
  Clears : {a w : ℕ} → a ≡ count_place → w ≡ 0 → f gate ≢ 1 → Advances gate f Before (Store a w) Open
  Looks : {look : Look} {head : ℕ} → head ≡ look head_place → Advances gate f Open (Outside (Looked look)) (SawHead head)
  Sees : {look : Look} {head word : ℕ} → word ≡ look (slot_place (next_index f)) → Advances gate f (SawHead head) (Outside (Looked look)) (SawSlot head word)
  -- 0 is the answer only where HEAD was the index of the next word
  AnswersNone : {head word a w : ℕ} → a ≡ answer_place → w ≡ 0 → next_index f ≡ head → Advances gate f (SawSlot head word) (Store a w) Open
  AnswersWord : {head word a w : ℕ} → a ≡ answer_place → w ≡ word → next_index f ≢ head → Advances gate f (SawSlot head word) (Store a w) Took
  Counts : {a w : ℕ} → a ≡ count_place → w ≡ (f count_place + 1) % 0x10000 → Advances gate f Took (Store a w) Open
  Freezes : {a w : ℕ} → a ≡ sent_place → w ≡ next_index f → Advances gate f Open (Store a w) Frozen
  Decides : {a w : ℕ} → a ≡ gate → w ≡ 1 → f gate ≢ 1 → Advances gate f Frozen (Store a w) Before
  Moves : {a w : ℕ} → a ≡ tail_place → w ≡ f sent_place → f gate ≡ 1 → Advances gate f Before (Store a w) Before
  Ends : {a w : ℕ} → a ≡ gate → w ≡ 0 → f gate ≡ 1 → f tail_place ≡ f sent_place → Advances gate f Before (Store a w) Before

-- each of these effects is one that may be there, and behind the last one the program is so far
abbrev pub Follows : ℕ → (ℕ → ℕ) → Taking → List Effect → Taking → Type 0
Follows gate f t [] u = u ≡ t
Follows gate f t (e ∷ es) u = (v : Taking) × Advances gate f t e v × Follows gate (fram_after_one e f) v es u

-- the looks that an effect leaves
abbrev pub looks_behind : Effect → List Look → List Look
looks_behind (Store a w) looks = looks
looks_behind (Take r) looks = looks
looks_behind (Outside (Offered n w)) looks = looks
looks_behind (Outside (Looked seen)) looks = other_looks looks

-- what an effect may be, by FRAM in front of it and how far a program is in front of it and behind it
abbrev pub Rule : Type 1
Rule = (ℕ → ℕ) → Taking → Effect → Taking → Type 0

-- effects keep to a rule as long as looks are left: where none is a program sees nothing but 0, which no board shows it
pub data FollowsSeeing (R : Rule) : (ℕ → ℕ) → List Look → Taking → List Effect → Taking → Type 0 where
  Ended : {f : ℕ → ℕ} {looks : List Look} {t : Taking} → FollowsSeeing R f looks t [] t
  Next : {f : ℕ → ℕ} {looks : List Look} {t u v : Taking} {e : Effect} {es : List Effect} → R f t e v
      → FollowsSeeing R (fram_after_one e f) (looks_behind e looks) v es u → FollowsSeeing R f looks t (e ∷ es) u
  Blind : {f : ℕ → ℕ} {t u : Taking} {es : List Effect} → FollowsSeeing R f [] t es u

-- a store to another word than those that count events, or than GATE
abbrev pub IsOffRing : ℕ → ℕ → ℕ → Type 0
IsOffRing gate a w = (a < tail_place) × (a ≢ gate)

-- what recoveries, attempts and commits owe: a recovery leaves these words; an attempt that comes to its end has frozen SE; and a commit moves TAIL
pub record ScriptsTakeInOrder {St : Type 0} (m : Model St) : Type 0 where
  pub gate : m.marks.gate < tail_place
  pub recoveries : (s : St) (x : World) → m.Undecided s x → EachStore (IsOffRing m.marks.gate) (m.recover x.fram)
  pub attempts : (s : St) (x : World) (inputs : Inputs) → InputsAreWords inputs → m.Settled s x → let p = m.attempt x.fram inputs in
      (u : Taking) × FollowsSeeing (Advances m.marks.gate) x.fram inputs.looks Before p.effects u × (p.ends ≡ true → u ≡ Before)
  pub commits : (to : St) (x : World) (inputs : Inputs) → m.Committing to x
      → FollowsSeeing (Advances m.marks.gate) x.fram inputs.looks Before (m.commit x.fram inputs) Before

-- a moment of a run: a power-up begins anew; and the program goes on by what it does, a handler beside it doing nothing to it
abbrev pub MomentFollows : ℕ → Action → Moment → Taking → Taking → Type 0
MomentFollows gate PowerUp m t u = u ≡ Before
MomentFollows gate (Execute kind done offered) m t u = Follows gate (outside_of m.before).fram t (outside_effects m) u

-- moments, one behind the other
abbrev pub EachFollows : ℕ → Taking → List Moment → Type 0
EachFollows gate t [] = Unit {0}
EachFollows gate t (m ∷ ms) = (u : Taking) × MomentFollows gate m.action m t u × EachFollows gate u ms
