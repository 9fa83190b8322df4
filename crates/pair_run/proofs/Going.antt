-- How things that are done one after the other go on, and where they end early.
use Rattle.std.proofs.Common.{◌≡◌, ◌≤◌, ◌<◌, ◌&&◌, nat_le, arith, ℕ, refl, sym, ◌∙◌, ap, Bool, true, false, List, [], ◌∷◌, length}
use Rattle.std.proofs.Common.{Option, Result, Ok, Err, IsErr}
use Rattle.std.proofs.lemmas.Bool.Decides.{nat_tests}
use Rattle.std.proofs.KnownBytes.{Appends-nil}
use Rattle.alp_io.specs.declared.sink.Failed.{Failed}
use Rattle.board_run.specs.Events.{head_of}
use Rattle.board_run.specs.Stepwise.{state_of}
use Rattle.pair_run.specs.declared.sides.Sides.{Sides}
use Rattle.pair_run.specs.Actions.{PairAction, StepOfA, StepOfB, repeated}
use Rattle.pair_run.specs.Pair.{Pair, most_words}
use Rattle.pair_run.specs.Lines.{PairKnown}
use Rattle.pair_run.specs.Sides.{accepted_words, Shows, Tells, Reaches, GoesOn, HaveEnded, DoesPartly, DoesSo, DoesAll, DoesAllPartly, DoesAllSo}
use Rattle.pair_run.proofs.Runs.{rests}
use Rattle.pair_run.proofs.Doing.{full_rest, ended_rest, idle_rest_a, idle_rest_b}

-- ---- how many words B has accepted

words_in : (s : Sides) (p : Pair) (k : PairKnown) → Shows s p k → accepted_words s ≡ length p.hand.accepted
words_in s p k shows = ap (λ t. t.accepted) shows.tells.tally ∙ ap (λ h. length h.accepted) shows.hand

is_full : (n m : ℕ) → nat_le n m ≡ true → n ≤ m
is_full n m e = grind (arith, nat_tests)

is_few : (n m : ℕ) → nat_le n m ≡ false → m < n
is_few n m e = grind (arith, nat_tests)

pub full_in : (s : Sides) (p : Pair) (k : PairKnown) → Shows s p k → nat_le most_words (accepted_words s) ≡ true → most_words ≤ length p.hand.accepted
full_in s p k shows full =
    let words = words_in s p k shows in
    let most = is_full most_words (accepted_words s) full in
    omega (arith, words, most)

pub few_in : (s : Sides) (p : Pair) (k : PairKnown) → Shows s p k → nat_le most_words (accepted_words s) ≡ false → length p.hand.accepted < most_words
few_in s p k shows few =
    let words = words_in s p k shows in
    let less = is_few most_words (accepted_words s) few in
    omega (arith, words, less)

-- ---- it goes on

both : (a b : Bool) → a ≡ true → b ≡ true → (a && b) ≡ true
both true true e f = refl
both true false e f = cc
both false b e f = cc

-- unless both runs have ended
pub gone_on : (s : Sides) (p : Pair) (k : PairKnown) → Reaches s p k → ((state_of s.a).has_ended && (state_of s.b).has_ended) ≡ false → Shows s p k
gone_on s p k (GoesOn shows) on = shows
gone_on s p k (HaveEnded a b p_a p_b tells) on =
    let ended = both (state_of s.a).has_ended (state_of s.b).has_ended a b in absurd (let e = sym ended ∙ on in cc)

one_on : (a b : Bool) → a ≡ false → (a && b) ≡ false
one_on true b e = cc
one_on false b e = refl

other_on : (a b : Bool) → b ≡ false → (a && b) ≡ false
other_on true true e = cc
other_on true false e = refl
other_on false b e = refl

pub gone_on_a : (s : Sides) (p : Pair) (k : PairKnown) → Reaches s p k → (state_of s.a).has_ended ≡ false → Shows s p k
gone_on_a s p k r on = gone_on s p k r (one_on (state_of s.a).has_ended (state_of s.b).has_ended on)

pub gone_on_b : (s : Sides) (p : Pair) (k : PairKnown) → Reaches s p k → (state_of s.b).has_ended ≡ false → Shows s p k
gone_on_b s p k r on = gone_on s p k r (other_on (state_of s.a).has_ended (state_of s.b).has_ended on)

-- ---- or it ends early

rests_there : (s : Sides) (acts : List PairAction) (p : Pair) (k : PairKnown) (old : Option (List ℕ)) → (state_of s.a).has_ended ≡ true
    → (state_of s.b).has_ended ≡ true → p.a.has_ended ≡ true → p.b.has_ended ≡ true → Tells s k → DoesAll acts p k old old s
rests_there s acts p k old a b p_a p_b tells =
    let rest = rests (head_of k.b.map) acts p (record { a = p_a; b = p_b }) in
    record { moments = []; behind = rest.last; run = rest.run; reaches = HaveEnded a b rest.ended.a rest.ended.b tells; written = Appends-nil old }

pub rest_full : (s : Sides) (acts : List PairAction) (p : Pair) (k : PairKnown) (old : Option (List ℕ)) → Reaches s p k
    → nat_le most_words (accepted_words s) ≡ true → DoesAll acts p k old old s
rest_full s acts p k old (GoesOn shows) full = full_rest s acts p k old (full_in s p k shows full) shows
rest_full s acts p k old (HaveEnded a b p_a p_b tells) full = rests_there s acts p k old a b p_a p_b tells

left_of : (a b : Bool) → (a && b) ≡ true → a ≡ true
left_of true b e = refl
left_of false b e = cc

right_of : (a b : Bool) → (a && b) ≡ true → b ≡ true
right_of true b e = e
right_of false b e = cc

pub rest_ended : (s : Sides) (acts : List PairAction) (p : Pair) (k : PairKnown) (old : Option (List ℕ)) → Reaches s p k
    → ((state_of s.a).has_ended && (state_of s.b).has_ended) ≡ true → DoesAll acts p k old old s
rest_ended s acts p k old (GoesOn shows) e =
    ended_rest s acts p k old shows (left_of (state_of s.a).has_ended (state_of s.b).has_ended e) (right_of (state_of s.a).has_ended (state_of s.b).has_ended e)
rest_ended s acts p k old (HaveEnded a b p_a p_b tells) e = rests_there s acts p k old a b p_a p_b tells

pub rest_a : (s : Sides) (n : ℕ) (p : Pair) (k : PairKnown) (old : Option (List ℕ)) → Reaches s p k → (state_of s.a).has_ended ≡ true
    → DoesAll (repeated n (StepOfA ∷ [])) p k old old s
rest_a s n p k old (GoesOn shows) e = idle_rest_a s n p k old shows e
rest_a s n p k old (HaveEnded a b p_a p_b tells) e = rests_there s (repeated n (StepOfA ∷ [])) p k old a b p_a p_b tells

pub rest_b : (s : Sides) (n : ℕ) (p : Pair) (k : PairKnown) (old : Option (List ℕ)) → Reaches s p k → (state_of s.b).has_ended ≡ true
    → DoesAll (repeated n (StepOfB ∷ [])) p k old old s
rest_b s n p k old (GoesOn shows) e = idle_rest_b s n p k old shows e
rest_b s n p k old (HaveEnded a b p_a p_b tells) e = rests_there s (repeated n (StepOfB ∷ [])) p k old a b p_a p_b tells

-- ---- by the answer

pub all_err : {T : Type 0} (acts : List PairAction) (p : Pair) (k : PairKnown) (old new : Option (List ℕ)) (result : Result T Failed) (s : Sides)
    → IsErr result → DoesAllPartly acts p k old new → DoesAllSo acts p k old new result s
all_err acts p k old new (Ok x) s e d = cc
all_err acts p k old new (Err f) s e d = d

pub one_err : {T : Type 0} (act : PairAction) (p : Pair) (k : PairKnown) (old new : Option (List ℕ)) (result : Result T Failed) (s : Sides)
    → IsErr result → DoesPartly act p k old new → DoesSo act p k old new result s
one_err act p k old new (Ok x) s e d = cc
one_err act p k old new (Err f) s e d = d
