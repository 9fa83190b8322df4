-- What a schedule has done, one thing after the other.
use Rattle.std.specs.Prelude.{ℕ, zero, suc, List, [], ◌∷◌, ◌++◌}
use Rattle.radio_link.specs.declared.entry.Entry.{Entry}
use Rattle.radio_link.specs.declared.entry.Entry.TheVariants.{StepsOfA, StepsOfB, BringPacket, BringAcknowledgement, Rounds}

-- one thing: a step of a board, or something is brought that was sent, by its place or as the newest
pub data PairAction : Type 0 where
  StepOfA : PairAction
  StepOfB : PairAction
  PacketToB : (place : ℕ) → PairAction
  AcknowledgementToA : (place : ℕ) → PairAction
  NewestPacketToB : PairAction
  NewestAcknowledgementToA : PairAction

-- these, so often
abbrev pub repeated : ℕ → List PairAction → List PairAction
repeated zero acts = []
repeated (suc n) acts = acts ++ repeated n acts

-- a round
abbrev pub one_round : List PairAction
one_round = StepOfA ∷ StepOfB ∷ NewestPacketToB ∷ NewestAcknowledgementToA ∷ []

-- what an entry has done
abbrev pub actions_of : Entry → List PairAction
actions_of (StepsOfA n) = repeated n (StepOfA ∷ [])
actions_of (StepsOfB n) = repeated n (StepOfB ∷ [])
actions_of (BringPacket k) = PacketToB k ∷ []
actions_of (BringAcknowledgement k) = AcknowledgementToA k ∷ []
actions_of (Rounds n) = repeated n one_round

-- what a schedule has done
abbrev pub all_actions : List Entry → List PairAction
all_actions [] = []
all_actions (e ∷ es) = actions_of e ++ all_actions es
