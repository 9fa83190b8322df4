-- What becomes of the words that were taken from EVENT.
use Rattle.std.proofs.Common.{◌≡◌, ℕ, ◌+◌, ◌==◌, Bool, true, false, if◌then◌else◌, List, [], ◌∷◌, ◌++◌, length, length-append, Option, Some, None, arith, refl}
use Rattle.std.proofs.Common.{ap, ◌∙◌}
use Rattle.std.specs.Prelude.{All}
use Rattle.std.proofs.lemmas.List.Elements.{All-head, All-tail}
use Rattle.fram_board.specs.declared.events.Heard.{Heard}
use Rattle.fram_board.specs.declared.events.Heard.TheVariants as heard
use Rattle.fram_board.specs.Board.{BoardValue}
use Rattle.fram_board.specs.Run.{Moment, Action, PowerUp, Execute, End, Charges, Stopped, word_list}
use Rattle.board_run.specs.History.{word_in}
use Rattle.board_run.specs.Events.{HandEnd, Reads, ChangesHead, Returns, PowersUp, Hand, no_hand, handed, handed_all, head_ends, is_return, return_ends}
use Rattle.board_run.specs.Events.{reads_of}
use Rattle.board_run.specs.Events.{head_of, action_ends, hand_behind, hand_after, hand_at, run_hand, taken_by, words_known, AllWordsAreKnown}
use Rattle.board_run.specs.Events.{counts_of, heard_by, SilentRunsAcceptNothing, RinglessRunsAcceptNothing}

-- one end keeps count of the words
known_behind : (e : HandEnd) (h : Hand) → words_known (handed e h) ≡ taken_by e + words_known h
known_behind (Reads took) h = omega arith
known_behind ChangesHead h = let e = length-append h.accepted (word_list h.word) in omega (arith, e)
known_behind Returns h = omega arith
known_behind PowersUp h = omega arith

pub all_words_are_known : AllWordsAreKnown
all_words_are_known [] h = omega arith
all_words_are_known (e ∷ es) h =
    let first = known_behind e h in
    let rest = all_words_are_known es (handed e h) in
    omega (arith, first, rest)

-- with nothing in hand a change of HEAD changes nothing
head_silent : (head : Option ℕ) (before after : List ℕ) (es : List HandEnd)
    → handed_all (head_ends head before after ++ es) no_hand ≡ handed_all es no_hand
head_silent None before after es = refl
head_silent (Some head) before after es = by_test (word_in after head == word_in before head)
  where
    by_test : (t : Bool) → handed_all ((if t then [] else ChangesHead ∷ []) ++ es) no_hand ≡ handed_all es no_hand
    by_test true = refl
    by_test false = refl

-- nor does a RETI
return_silent : (returned : Bool) → handed_all (return_ends returned) no_hand ≡ no_hand
return_silent true = refl
return_silent false = refl

-- nor a moment without a read
action_silent : (head : Option ℕ) (a : Action) (before after : List ℕ) → heard_by a ≡ heard.Nothing
    → handed_all (action_ends head a before after) no_hand ≡ no_hand
action_silent head PowerUp before after none = refl
action_silent head (Execute kind done offered) before after none =
    ap (λ r. handed_all (reads_of r ++ (head_ends head before after ++ return_ends (is_return kind))) no_hand) none
    ∙ head_silent head before after (return_ends (is_return kind)) ∙ return_silent (is_return kind)

moments_silent : (head : Option ℕ) (ms : List Moment) → All (λ m. heard_by m.action ≡ heard.Nothing) ms → hand_after head ms no_hand ≡ no_hand
unfolding hand_behind
moments_silent head [] h = refl
moments_silent head (m ∷ ms) h =
    ap (hand_after head ms) (action_silent head m.action m.before.fram m.after.fram (All-head (λ m. heard_by m.action ≡ heard.Nothing) m ms h))
    ∙ moments_silent head ms (All-tail (λ m. heard_by m.action ≡ heard.Nothing) m ms h)

end_silent : (e : End) (b : BoardValue) → b.line.heard ≡ heard.Nothing → hand_at e b no_hand ≡ no_hand
end_silent Charges b none = refl
end_silent (Stopped stop) b none = ap (λ r. handed_all (reads_of r) no_hand) none

pub silent_runs_accept_nothing : SilentRunsAcceptNothing
silent_runs_accept_nothing m r never =
    let line = r.board.line in
    let silent : run_hand m r ≡ no_hand = ap (hand_at r.ending r.board) (moments_silent (head_of m) r.moments never.moments)
    ∙ end_silent r.ending r.board never.stop in
    ap (counts_of line.arisen line.missed) silent
    ∙ ap (λ n. record { arisen = line.arisen; accepted = 0; lost = n }) (let e : line.missed + 0 ≡ line.missed = omega arith in e)

-- reads and a return accept nothing
return_accepts_none : (returned : Bool) (h : Hand) → (handed_all (return_ends returned) h).accepted ≡ h.accepted
return_accepts_none true h = refl
return_accepts_none false h = refl

reads_accept_none : (r : Heard) (es : List HandEnd) (h : Hand) → ((k : Hand) → (handed_all es k).accepted ≡ k.accepted)
    → (handed_all (reads_of r ++ es) h).accepted ≡ h.accepted
reads_accept_none heard.Nothing es h rest = rest h
reads_accept_none (heard.Once took) es h rest = rest (handed (Reads took) h)
reads_accept_none (heard.Again took) es h rest = rest (handed (Reads None) (handed (Reads took) h))

ringless_action : (a : Action) (before after : List ℕ) (h : Hand) → (handed_all (action_ends None a before after) h).accepted ≡ h.accepted
ringless_action PowerUp before after h = refl
ringless_action (Execute kind done offered) before after h =
    reads_accept_none done.heard (return_ends (is_return kind)) h (return_accepts_none (is_return kind))

ringless_moments : (ms : List Moment) (h : Hand) → (hand_after None ms h).accepted ≡ h.accepted
unfolding hand_behind
ringless_moments [] h = refl
ringless_moments (m ∷ ms) h = ringless_moments ms (handed_all (action_ends None m.action m.before.fram m.after.fram) h)
    ∙ ringless_action m.action m.before.fram m.after.fram h

ringless_end : (e : End) (b : BoardValue) (h : Hand) → (hand_at e b h).accepted ≡ h.accepted
ringless_end Charges b h = refl
ringless_end (Stopped stop) b h = by_reads b.line.heard
  where
    by_reads : (r : Heard) → (handed_all (reads_of r) h).accepted ≡ h.accepted
    by_reads heard.Nothing = refl
    by_reads (heard.Once took) = refl
    by_reads (heard.Again took) = refl

pub ringless_runs_accept_nothing : RinglessRunsAcceptNothing
ringless_runs_accept_nothing m r none =
    ap length (ringless_end r.ending r.board (hand_after (head_of m) r.moments no_hand)
    ∙ ap (λ head. (hand_after head r.moments no_hand).accepted) none ∙ ringless_moments r.moments no_hand)
