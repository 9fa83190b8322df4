-- What becomes of events, as it is counted while a run is made.
use Rattle.std.proofs.Common.{◌≡◌, ℕ, ◌+◌, Bool, true, false, if◌then◌else◌, List, [], ◌∷◌, ◌++◌, length, length-append, is_some, Option, Some, None}
use Rattle.std.proofs.Common.{refl, ap, sym, ◌∙◌, arith, nat_lt}
use Rattle.image_text.specs.image_map.MapValue.{MapValue}
use Rattle.fram_board.specs.declared.events.Heard.TheVariants as heard
use Rattle.fram_board.specs.declared.board.NextStep.{NextStep}
use Rattle.fram_board.specs.declared.board.Stepped.{Stepped}
use Rattle.fram_board.specs.Board.{BoardValue}
use Rattle.fram_board.specs.Run.{Moment, Action, PowerUp, Execute, End, Charges, Stopped, RunOutcome, word_list, kind_of, moment_of}
use Rattle.board_run.specs.History.{History, noted, behind_action, behind_instruction, behind_power_up, gated, with_word, with_words, completed, decided}
use Rattle.board_run.specs.History.{is_done, is_decide, word_in}
use Rattle.board_run.specs.Events.{HandEnd, Reads, ChangesHead, Returns, PowersUp, Hand, no_hand, handed, handed_all, head_of, head_ends, change_ends}
use Rattle.board_run.specs.Events.{is_return}
use Rattle.board_run.specs.Events.{return_ends, reads_of, action_ends, hand_behind, hand_after, hand_at, run_hand, event_counts}
use Rattle.board_run.specs.Report.{after_all}
use Rattle.board_run.specs.Tally.{TallyValue, no_tally, one_if, tallied, tallied_all, tally_behind, tally_after, tally_at, counts_at, tally_of}
use Rattle.board_run.specs.Tally.{IsHead, WatchesHead, seen_ends, step_ends}

-- a tally is that of a hand
held : (o : Option ℕ) → length (word_list o) ≡ one_if (is_some o)
held None = refl
held (Some w) = refl

pub tally_handed : (e : HandEnd) (h : Hand) → tally_of (handed e h) ≡ tallied e (tally_of h)
tally_handed (Reads took) h = ap (λ n. record { in_hand = is_some took; accepted = length h.accepted; lost = h.lost + n }) (held h.word)
tally_handed ChangesHead h =
    ap (λ n. record { in_hand = false; accepted = n; lost = h.lost }) (length-append h.accepted (word_list h.word)
    ∙ ap (λ n. length h.accepted + n) (held h.word))
tally_handed Returns h = ap (λ n. record { in_hand = false; accepted = length h.accepted; lost = h.lost + n }) (held h.word)
tally_handed PowersUp h = ap (λ n. record { in_hand = false; accepted = length h.accepted; lost = h.lost + n }) (held h.word)

tally_handed_all : (es : List HandEnd) (h : Hand) → tally_of (handed_all es h) ≡ tallied_all es (tally_of h)
tally_handed_all [] h = refl
tally_handed_all (e ∷ es) h = tally_handed_all es (handed e h) ∙ ap (tallied_all es) (tally_handed e h)

pub tally_of_moments : (head : Option ℕ) (ms : List Moment) (h : Hand) → tally_of (hand_after head ms h) ≡ tally_after head ms (tally_of h)
unfolding hand_behind tally_behind
tally_of_moments head [] h = refl
tally_of_moments head (m ∷ ms) h = tally_of_moments head ms (handed_all (action_ends head m.action m.before.fram m.after.fram) h)
    ∙ ap (tally_after head ms) (tally_handed_all (action_ends head m.action m.before.fram m.after.fram) h)

tally_of_end : (e : End) (b : BoardValue) (h : Hand) → tally_of (hand_at e b h) ≡ tally_at e b (tally_of h)
tally_of_end Charges b h = refl
tally_of_end (Stopped stop) b h = tally_handed_all (reads_of b.line.heard) h

-- the counts of a run are those of its tally
pub counts_are : (m : Option MapValue) (r : RunOutcome) (t : TallyValue) → t ≡ tally_after (head_of m) r.moments no_tally
    → counts_at r.ending r.board t ≡ event_counts m r
counts_are m r t is =
    let line = r.board.line in
    let at : tally_at r.ending r.board t ≡ tally_of (run_hand m r) =
    ap (tally_at r.ending r.board) (is ∙ sym (tally_of_moments (head_of m) r.moments no_hand))
    ∙ sym (tally_of_end r.ending r.board (hand_after (head_of m) r.moments no_hand)) in
    ap (λ u. record { arisen = line.arisen; accepted = u.accepted; lost = line.missed + u.lost }) at

-- where nothing is in hand, nothing was read and no HEAD is looked at, a tally stays
pub nothing_ends : (place : Option ℕ) (was : ℕ) (fram : List ℕ) (returns : Bool) (t : TallyValue) → place ≡ None → t.in_hand ≡ false
    → tallied_all (step_ends heard.Nothing place was fram returns) t ≡ t
nothing_ends None was fram false t none empty = refl
nothing_ends None was fram true t none empty =
    let none_more : t.lost + one_if false ≡ t.lost = omega arith in
    ap (λ h. record { in_hand = false; accepted = t.accepted; lost = t.lost + one_if h }) empty
    ∙ (ap {B = TallyValue} (λ n. record { in_hand = false; accepted = t.accepted; lost = n }) none_more
    ∙ ap {B = TallyValue} (λ h. record t { in_hand = h }) (sym empty))
nothing_ends (Some place) was fram returns t none empty = cc

-- a history keeps its map
if_map : (t : Bool) (x y : History) (m : Option MapValue) → x.map ≡ m → y.map ≡ m → (if t then x else y).map ≡ m
if_map true x y m e f = e
if_map false x y m e f = f

words_map : (h : History) (ws : List ℕ) → (with_words h ws).map ≡ h.map
words_map h [] = refl
words_map h (w ∷ ws) = words_map (with_word h w) ws ∙ if_map (nat_lt (length h.accepted) 256) _ _ h.map refl refl

gate_map : (m : MapValue) (h : History) (b : BoardValue) (now : ℕ) → (gated m h b now).map ≡ h.map
gate_map m h b now = if_map (is_done h.gate now) (completed m h b) _ h.map refl (if_map (is_decide h.gate now) (decided h b) h h.map refl refl)

instruction_map : (o : Option MapValue) (h : History) (ws : List ℕ) (b : BoardValue) → (behind_instruction o h ws b).map ≡ h.map
instruction_map None h ws b = refl
instruction_map (Some m) h ws b = gate_map m (with_words h ws) b (word_in b.fram m.words.gate) ∙ words_map h ws

pub power_map : (o : Option MapValue) (h : History) (b : BoardValue) → (behind_power_up o h b).map ≡ h.map
power_map None h b = refl
power_map (Some m) h b = refl

action_map : (a : Action) (h : History) (b : BoardValue) → (behind_action a h b).map ≡ h.map
action_map PowerUp h b = power_map h.map h b
action_map (Execute kind done offered) h b = instruction_map h.map h (word_list done.accepted) b

pub after_map : (h : History) (ms : List Moment) → (after_all h ms).map ≡ h.map
unfolding noted
after_map h [] = refl
after_map h (m ∷ ms) = after_map (behind_action m.action h m.after) ms ∙ action_map m.action h m.after

-- the ends of a step, by what HEAD was when it was looked at last
seen_so : (place : Option ℕ) (head : ℕ) (before after : List ℕ) → IsHead place head before → seen_ends place head after ≡ head_ends place before after
seen_so None head before after is = refl
seen_so (Some place) head before after is = ap (λ w. change_ends w (word_in after place)) is

pub step_ends_are : (m : Option MapValue) (place : Option ℕ) (head : ℕ) (b : BoardValue) (n : NextStep) (done : Stepped) (after : List ℕ) (r : Bool)
    → WatchesHead m place head b.fram → r ≡ is_return (kind_of n) → after ≡ (moment_of b n done).after.fram
    → step_ends done.heard place head after r ≡ action_ends (head_of m) (moment_of b n done).action b.fram (moment_of b n done).after.fram
step_ends_are m place head b n done after r w is at =
    ap (λ x. step_ends done.heard place head after x) is
    ∙ ap (λ es. reads_of done.heard ++ (es ++ return_ends (is_return (kind_of n)))) (seen_so place head b.fram after w.same
    ∙ ap (λ a. head_ends place b.fram a) at ∙ ap (λ p. head_ends p b.fram (moment_of b n done).after.fram) w.place)

-- a tally of the ends of a moment is the one behind it
pub tallied_by : (head : Option ℕ) (m : Moment) (es : List HandEnd) (t u : TallyValue) → es ≡ action_ends head m.action m.before.fram m.after.fram
    → u ≡ tallied_all es t → u ≡ tally_behind head m t
unfolding tally_behind
tallied_by head m es t u is e = e ∙ ap (λ es. tallied_all es t) is

-- moments behind moments
pub tally_append : (head : Option ℕ) (ms ns : List Moment) (t : TallyValue) → tally_after head (ms ++ ns) t ≡ tally_after head ns (tally_after head ms t)
tally_append head [] ns t = refl
tally_append head (m ∷ ms) ns t = tally_append head ms ns (tally_behind head m t)
