-- A round of a pair, and rounds one after the other.
use Rattle.std.proofs.Common.{◌≡◌, ◌≤◌, ◌<◌, ◌+◌, ◌-◌, nat_le, arith, ℕ, suc, refl, sym, ◌∙◌, ap, subst, true, false, List, [], ◌∷◌, ◌++◌, length, Option}
use Rattle.board_run.specs.Events.{head_of}
use Rattle.pair_run.specs.declared.sides.Sides.{Sides}
use Rattle.pair_run.specs.Actions.{PairAction, StepOfA, StepOfB, NewestPacketToB, NewestAcknowledgementToA, one_round, repeated}
use Rattle.pair_run.specs.Pair.{Pair, PairMoment, most_words, Acts, ActsA, BringsNewest}
use Rattle.pair_run.specs.Lines.{PairKnown, known_after}
use Rattle.pair_run.specs.Sides.{accepted_words, Shows, Does, DoesPartly, IsBrought, DoesAll, DoesAllPartly}
use Rattle.pair_run.proofs.Doing.{one_done, one_partly, one_brought, all_behind, partly_behind, partly_more, repeated_more}
use Rattle.pair_run.proofs.Going.{few_in, rest_full}

-- a step of A leaves the words that B has accepted
a_leaves_words : (head : Option ℕ) (p q : Pair) (ms : List PairMoment) → Acts head StepOfA p ms q → q.hand ≡ p.hand
a_leaves_words head p q ms (ActsA _ ns a steps) = refl

packet_leaves_words : (head : Option ℕ) (p q : Pair) (ms : List PairMoment) → Acts head NewestPacketToB p ms q → q.hand ≡ p.hand
packet_leaves_words head p q ms (BringsNewest _) = refl

abbrev brings : List PairAction
brings = NewestPacketToB ∷ NewestAcknowledgementToA ∷ []

module _ (before first : Sides) (p : Pair) (k : PairKnown) (old mid : Option (List ℕ)) (shows : Shows before p k)
    (few : nat_le most_words (accepted_words before) ≡ false) where
  few_at : length p.hand.accepted < most_words
  few_at = few_in before p k shows few

  -- A's step isn't told whole
  pub round_partly_a : DoesPartly StepOfA p k old mid → DoesAllPartly one_round p k old mid
  round_partly_a d = partly_more (StepOfA ∷ []) (StepOfB ∷ brings) p k old mid (one_partly StepOfA p k old mid few_at d)

  module _ (d : Does StepOfA p k old mid first) (last : Sides) (new : Option (List ℕ)) where
    few_behind : length d.behind.hand.accepted < most_words
    few_behind =
        let same = ap (λ h. length h.accepted) (a_leaves_words (head_of k.b.map) p d.behind d.moments d.acts) in
        let less = few_at in
        omega (arith, same, less)

    -- or B's
    pub round_partly_b : DoesPartly StepOfB d.behind (known_after k d.moments) mid new → DoesAllPartly one_round p k old new
    round_partly_b e =
        partly_more (StepOfA ∷ StepOfB ∷ []) brings p k old new
        (partly_behind (StepOfA ∷ []) (StepOfB ∷ []) p k old mid new first (one_done first StepOfA p k old mid few_at d)
        (one_partly StepOfB d.behind (known_after k d.moments) mid new few_behind e))

    module _ (e : Does StepOfB d.behind (known_after k d.moments) mid new last) where
      both_steps : DoesAll (StepOfA ∷ StepOfB ∷ []) p k old new last
      both_steps =
          all_behind (StepOfA ∷ []) (StepOfB ∷ []) p k old mid new first last (one_done first StepOfA p k old mid few_at d)
          (one_done last StepOfB d.behind (known_after k d.moments) mid new few_behind e)

      -- B has accepted all words that it may
      pub round_full : nat_le most_words (accepted_words last) ≡ true → DoesAll one_round p k old new last
      round_full full =
          all_behind (StepOfA ∷ StepOfB ∷ []) brings p k old new new last last both_steps
          (rest_full last brings both_steps.behind (known_after k both_steps.moments) new both_steps.reaches full)

      -- or the newest are brought
      pub round_whole : (third fourth : Sides) → nat_le most_words (accepted_words last) ≡ false → IsBrought NewestPacketToB last third
          → IsBrought NewestAcknowledgementToA third fourth → DoesAll one_round p k old new fourth
      round_whole third fourth few_last packet acknowledgement =
          let q = e.behind in
          let known = known_after (known_after k d.moments) e.moments in
          let one = packet q known e.shows in
          let few_q = few_in last q known e.shows few_last in
          let few_one : length one.0.hand.accepted < most_words =
          subst (λ h. length h.accepted < most_words) (sym (packet_leaves_words (head_of known.b.map) q one.0 [] one.1)) few_q in
          let brought : DoesAll (NewestPacketToB ∷ []) q known new new third =
          one_brought NewestPacketToB last third q known new few_q packet e.shows in
          let answered : DoesAll (NewestAcknowledgementToA ∷ []) one.0 known new new fourth =
          one_brought NewestAcknowledgementToA third fourth one.0 known new few_one acknowledgement one.2 in
          let steps_b : DoesAll (StepOfB ∷ brings) d.behind (known_after k d.moments) mid new fourth =
          all_behind (StepOfB ∷ []) brings d.behind (known_after k d.moments) mid new new last fourth
          (one_done last StepOfB d.behind (known_after k d.moments) mid new few_behind e)
          (all_behind (NewestPacketToB ∷ []) (NewestAcknowledgementToA ∷ []) q known new new new third fourth brought answered) in
          all_behind (StepOfA ∷ []) (StepOfB ∷ brings) p k old mid new first fourth (one_done first StepOfA p k old mid few_at d) steps_b

-- ---- so often

-- some are done, and one more
pub once_more : (i : ℕ) (acts : List PairAction) (p : Pair) (k : PairKnown) (old mid new : Option (List ℕ)) (s t : Sides)
    → (d : DoesAll (repeated i acts) p k old mid s) → DoesAll acts d.behind (known_after k d.moments) mid new t → DoesAll (repeated (i + 1) acts) p k old new t
once_more i acts p k old mid new s t d e =
    subst (λ xs. DoesAll xs p k old new t) (sym (repeated_more i 1 acts ∙ ap (λ xs. repeated i acts ++ xs) (one_of acts)))
    (all_behind (repeated i acts) acts p k old mid new s t d e)
  where
    one_of : (acts : List PairAction) → repeated 1 acts ≡ acts
    one_of [] = refl
    one_of (act ∷ more) = ap (λ xs. act ∷ xs) (one_of more)

-- all are done
pub all_of_them : (i n : ℕ) (acts : List PairAction) (p : Pair) (k : PairKnown) (old new : Option (List ℕ)) (s : Sides) → i ≡ n
    → DoesAll (repeated i acts) p k old new s → DoesAll (repeated n acts) p k old new s
all_of_them i n acts p k old new s same d = subst (λ m. DoesAll (repeated m acts) p k old new s) same d

-- some are done, and the rest isn't needed
pub rest_of_them : (i n : ℕ) (acts : List PairAction) (p : Pair) (k : PairKnown) (old new : Option (List ℕ)) (s : Sides) → i ≤ n
    → (d : DoesAll (repeated i acts) p k old new s)
    → ((rest : ℕ) → DoesAll (repeated rest acts) d.behind (known_after k d.moments) new new s) → DoesAll (repeated n acts) p k old new s
rest_of_them i n acts p k old new s inside d rest =
    let split : n ≡ i + (n - i) = omega (arith, inside) in
    subst (λ xs. DoesAll xs p k old new s) (sym (ap (λ j. repeated j acts) split ∙ repeated_more i (n - i) acts))
    (all_behind (repeated i acts) (repeated (n - i) acts) p k old new new s s d (rest (n - i)))

-- some are done, and one isn't told whole
pub partly_of_them : (i n : ℕ) (acts : List PairAction) (p : Pair) (k : PairKnown) (old mid new : Option (List ℕ)) (s : Sides) → i < n
    → (d : DoesAll (repeated i acts) p k old mid s) → DoesAllPartly acts d.behind (known_after k d.moments) mid new
    → DoesAllPartly (repeated n acts) p k old new
partly_of_them i n acts p k old mid new s inside d e =
    let left = n - (i + 1) in
    let split : n ≡ i + suc left = omega (arith, inside) in
    subst (λ xs. DoesAllPartly xs p k old new) (sym (ap (λ j. repeated j acts) split ∙ repeated_more i (suc left) acts))
    (partly_behind (repeated i acts) (repeated (suc left) acts) p k old mid new s d
    (partly_more acts (repeated left acts) d.behind (known_after k d.moments) mid new e))
