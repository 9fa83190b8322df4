-- A task takes words of the ring in order, and its transition freezes their count.
use Rattle.std.proofs.Common.{◌≡◌, ◌≢◌, ℕ, ◌<◌, ◌≤◌, List, [], ◌∷◌, ◌++◌, refl, sym, ◌∙◌, subst, arith, ⊎_elim, ◌⊎◌, inl, inr, ap₂}
use Rattle.task_attempts.proofs.Names.{Effect, Store, Take, Outside, Looked, Offered, EachStore, fram_after, each_weaker}
use Rattle.machine_effects.specs.World.{looks_taken}
use Rattle.machine_effects.specs.Inputs.{Look}
use Rattle.machine_effects.proofs.Interface.{fram_untouched, put_other}
use Rattle.machine_effects.specs.alp_words.Words.{word_sum}
use Rattle.memory_map.specs.event_places.Places.{tail_place, count_place, sent_place}
use Rattle.event_rules.specs.Taking.{Taking, Before, Open, SawHead, SawSlot, Took, Frozen, Advances, Freezes, Decides, next_index, Rule, looks_behind}
use Rattle.event_rules.specs.Taking as taking
use Rattle.event_rules.specs.Taking.{FollowsSeeing, Ended, Next, Blind, IsOffRing}
use Rattle.event_rules.proofs.Interface.{looks_after, joined, off_ring}
use Rattle.task_attempts.proofs.Asks.{Asks, Takes, Stores, Looks, Sees, AnswersNone, AnswersWord, Counts}
use Rattle.task_attempts.proofs.Asks as asks

-- a store that is none to GATE, nor to SE
abbrev pub IsNoClosing : ℕ → ℕ → ℕ → Type 0
IsNoClosing gate a w = (a ≢ gate) × (a ≢ sent_place)

-- where nothing is left to see
looks_gone : (es : List Effect) → looks_after es [] ≡ []
looks_gone [] = refl
looks_gone (Store a w ∷ es) = looks_gone es
looks_gone (Take r ∷ es) = looks_gone es
looks_gone (Outside (Offered n w) ∷ es) = looks_gone es
looks_gone (Outside (Looked seen) ∷ es) = looks_gone es

-- effects in two parts
parts : (R : Rule) (es fs : List Effect) {f : ℕ → ℕ} {looks : List Look} {t u : Taking} → FollowsSeeing R f looks t (es ++ fs) u
    → (v : Taking) × FollowsSeeing R f looks t es v × FollowsSeeing R (fram_after es f) (looks_after es looks) v fs u
parts R [] fs {t = t} h = (t, Ended, h)
parts R (e ∷ es) fs (Next a h) = let k = parts R es fs h in (k.0, Next a k.1, k.2)
parts R (e ∷ es) fs {f = f} {t = t} {u = u} Blind =
    let gone : looks_after (e ∷ es) [] ≡ [] = looks_gone (e ∷ es) in
    let P : List Look → Type 0 = λ l. FollowsSeeing R (fram_after (e ∷ es) f) l t fs u in
    (t, Blind, subst P (sym gone) Blind)

-- in front of an ordinary store nothing is asked
open_there : {f : ℕ → ℕ} {looks : List Look} {t u : Taking} {a w : ℕ} {es : List Effect} → FollowsSeeing Asks f looks t (Store a w ∷ es) u → a < tail_place
    → (t ≡ Open) ⊎ (looks ≡ [])
open_there (Next (Stores l) h) low = inl refl
open_there (Next (AnswersNone is w e) h) low = absurd (omega (arith, is, low))
open_there (Next (AnswersWord is w e) h) low = absurd (omega (arith, is, low))
open_there (Next (Counts is w) h) low = absurd (omega (arith, is, low))
open_there (Next (asks.Freezes is w) h) low = inl refl
open_there Blind low = inr refl

module _ (gate : ℕ) where
  -- what a word program's effects are, where none is a closing one
  asks_advance : {f : ℕ → ℕ} {looks : List Look} {t u : Taking} {es : List Effect} → FollowsSeeing Asks f looks t es u → EachStore (IsNoClosing gate) es
      → FollowsSeeing (Advances gate) f looks t es u
  asks_advance Ended h = Ended
  asks_advance Blind h = Blind
  asks_advance (Next Takes k) h = Next (taking.Takes tt) (asks_advance k h.1)
  asks_advance (Next (Stores low) k) h = Next (taking.Stores tt low h.0.0) (asks_advance k h.1)
  asks_advance (Next (Looks e) k) h = Next (taking.Looks e) (asks_advance k h.1)
  asks_advance (Next (Sees e) k) h = Next (taking.Sees e) (asks_advance k h.1)
  asks_advance (Next (AnswersNone is w e) k) h = Next (taking.AnswersNone is w e) (asks_advance k h.1)
  asks_advance (Next (AnswersWord is w e) k) h = Next (taking.AnswersWord is w e) (asks_advance k h.1)
  asks_advance (Next (Counts is w) k) h = Next (taking.Counts is w) (asks_advance k h.1)
  asks_advance (Next (asks.Freezes is w) k) h = absurd (h.0.1 is)

  pub statements_advance : {f : ℕ → ℕ} {looks : List Look} {es : List Effect} → FollowsSeeing Asks f looks Open es Open → EachStore (IsNoClosing gate) es
      → FollowsSeeing (Advances gate) f looks Open es Open
  statements_advance k h = asks_advance k h

  -- ordinary stores leave the words that count events, and GATE
  pub leaves_high : (es : List Effect) → EachStore (IsOffRing gate) es → (a : ℕ) → tail_place ≤ a → (f : ℕ → ℕ) → fram_after es f a ≡ f a
  leaves_high es h a high f =
      fram_untouched es a f (each_weaker (IsOffRing gate) (λ b w. b ≢ a) (λ b w k e. let low = k.0 in omega (arith, low, high, e)) es h)

  pub leaves_gate : (es : List Effect) → EachStore (IsOffRing gate) es → (f : ℕ → ℕ) → fram_after es f gate ≡ f gate
  leaves_gate es h f = fram_untouched es gate f (each_weaker (IsOffRing gate) (λ b w. b ≢ gate) (λ b w k. k.1) es h)

  pub leaves_index : (es : List Effect) → EachStore (IsOffRing gate) es → (f : ℕ → ℕ) → next_index (fram_after es f) ≡ next_index f
  leaves_index es h f =
      let tail = leaves_high es h tail_place (omega arith) f in
      let count = leaves_high es h count_place (omega arith) f in
      ap₂ word_sum tail count

  -- a transition: ordinary stores, then SE and GATE
  module _ (below : gate < tail_place) (front : List Effect) (ordinary : EachStore (IsOffRing gate) front) (sees_none : looks_taken front ≡ []) (index : ℕ)
    where
      abbrev pub closing : List Effect
      closing = front ++ (Store sent_place index ∷ Store gate 1 ∷ [])

      closes : (f : ℕ → ℕ) (looks : List Look) → index ≡ next_index f → f gate ≢ 1 → FollowsSeeing (Advances gate) f looks Open closing Before
      closes f looks is zero =
          let g = fram_after front f in
          let frozen : index ≡ next_index g = is ∙ sym (leaves_index front ordinary f) in
          let open_gate : g gate ≢ 1 = λ e. zero (sym (leaves_gate front ordinary f) ∙ e) in
          let other : fram_after (Store sent_place index ∷ []) g gate ≡ g gate = put_other g sent_place index gate (λ e. omega (arith, e, below)) in
          joined (Advances gate) (off_ring gate front f looks Open tt ordinary sees_none)
          (Next (Freezes refl frozen) (Next (Decides refl refl (λ e. open_gate (sym other ∙ e))) Ended))

      -- behind statements that don't close
      pub task_advances : (f : ℕ → ℕ) (looks : List Look) (body : List Effect) (a w : ℕ) (more : List Effect) → closing ≡ Store a w ∷ more → a < tail_place
          → FollowsSeeing Asks f looks Open (body ++ closing) Open → EachStore (IsNoClosing gate) body → index ≡ next_index (fram_after body f) → f gate ≢ 1
          → FollowsSeeing (Advances gate) f looks Open (body ++ closing) Before
      task_advances f looks body a w more first low k h is zero =
          let all = parts Asks body closing k in
          let v = all.0 in
          let g = fram_after body f in
          let looks_there = looks_after body looks in
          let body_advances = asks_advance all.1 h in
          let same : g gate ≡ f gate = fram_untouched body gate f (each_weaker (IsNoClosing gate) (λ b u. b ≢ gate) (λ b u q. q.0) body h) in
          let zero_there : g gate ≢ 1 = λ e. zero (sym same ∙ e) in
          let second : FollowsSeeing Asks g looks_there v (Store a w ∷ more) Open = subst (λ l. FollowsSeeing Asks g looks_there v l Open) first all.2 in
          ⊎_elim {C = FollowsSeeing (Advances gate) f looks Open (body ++ closing) Before}
          (λ e. joined (Advances gate) (subst (λ u. FollowsSeeing (Advances gate) f looks Open body u) e body_advances) (closes g looks_there is zero_there))
          (λ e. joined (Advances gate) body_advances
          (subst (λ (l : List Look). FollowsSeeing (Advances gate) g l v closing Before) (sym e) Blind))
          (open_there second low)
