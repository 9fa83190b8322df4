-- A step of either side, with the power-ups before it, keeps a pair joined.
use Rattle.std.proofs.Common.{◌≡◌, ◌<◌, ℕ, refl, sym, subst, List, [], ◌∷◌, ◌++◌, append_assoc, append-nil, length, Option}
use Rattle.radio_link.specs.declared.air.Packet.{Packet}
use Rattle.fram_board.specs.Board.{BoardValue, PowerState}
use Rattle.fram_board.specs.Run.{Moment, power_up_of, moment_of}
use Rattle.board_run.specs.History.{History, noted}
use Rattle.board_run.specs.Events.{Hand, hand_behind, hand_after}
use Rattle.board_run.specs.Stepwise.{RunState, behind_power, StepsOn, Idle, Makes, Halts, Ends, Powers}
use Rattle.pair_run.specs.Pair.{Pair, behind_a, behind_b, most_words}
use Rattle.pair_laws.specs.Sender.{Sending, completes, EachSends}
use Rattle.pair_laws.specs.Listener.{EachListens}
use Rattle.pair_laws.specs.Joined.{Leads, IsJoined}
use Rattle.pair_laws.proofs.Moments.{sender_moment, listener_moment}

pub hand_append : (head : Option ℕ) (ms ns : List Moment) (h : Hand) → hand_after head (ms ++ ns) h ≡ hand_after head ns (hand_after head ms h)
hand_append head [] ns h = refl
hand_append head (m ∷ ms) ns h = hand_append head ms ns (hand_behind head m h)

-- a power-up accepts no word
power_accepts_none : (head : Option ℕ) (b : BoardValue) (p : PowerState) (h : Hand) → (hand_behind head (power_up_of b p) h).accepted ≡ h.accepted
unfolding hand_behind
power_accepts_none head b p h = refl

-- the boards themselves are no part of it
joined_with_a : (x : Sending) (heard : List ℕ) (brought : List Packet) (p : Pair) (a : RunState) → IsJoined x heard brought p
    → IsJoined x heard brought (behind_a p [] a)
joined_with_a x heard brought p a j = record {
  leads = j.leads;
  packets = j.packets;
  acknowledgements = j.acknowledgements;
  heard = j.heard;
  brought = j.brought;
  few = j.few;
  order = j.order;
}

joined_with_b : (x : Sending) (heard : List ℕ) (brought : List Packet) (head : Option ℕ) (p : Pair) (b : RunState) → IsJoined x heard brought p
    → IsJoined x heard brought (behind_b head p [] b)
joined_with_b x heard brought head p b j = record {
  leads = j.leads;
  packets = j.packets;
  acknowledgements = j.acknowledgements;
  heard = j.heard;
  brought = j.brought;
  few = j.few;
  order = j.order;
}

-- moments of A
pub sends_joined : (sending : List Moment → Sending) (heard : List ℕ) (brought : List Packet) (h : History) (front ns : List Moment) (p : Pair) (a : RunState)
    → EachSends sending heard h front ns → IsJoined (sending front) heard brought p → IsJoined (sending (front ++ ns)) heard brought (behind_a p ns a)
sends_joined sending heard brought h front [] p a sends j =
    subst (λ l. IsJoined (sending l) heard brought (behind_a p [] a)) (sym (append-nil front)) (joined_with_a (sending front) heard brought p a j)
sends_joined sending heard brought h front (m ∷ ns) p a sends j =
    let one = sender_moment (sending front) (sending (front ++ m ∷ [])) heard brought p (completes h m) m a j sends.0 in
    subst (λ l. IsJoined (sending l) heard brought (behind_a p (m ∷ ns) a)) (append_assoc front (m ∷ []) ns)
    (sends_joined sending heard brought (noted h m) (front ++ m ∷ []) ns (behind_a p (m ∷ []) a) a sends.1 one)

-- a step of B: its power-ups accept nothing, so it accepts one word at most
pub listens_joined : (x : Sending) (heard : List ℕ) (brought : List Packet) (head : Option ℕ) (p : Pair) (s t b : RunState) (ns : List Moment)
    → StepsOn s ns t → EachListens head brought p.hand ns → (length p.hand.accepted < most_words) × IsJoined x heard brought p
    → IsJoined x heard brought (behind_b head p ns b)
listens_joined x heard brought head p s t b ns (Idle _ ended) l j = joined_with_b x heard brought head p b j.1
listens_joined x heard brought head p s t b ns (Makes _ n done on made) l j = listener_moment x heard brought head p (moment_of s.board n done) b j.1 j.0 l.0
listens_joined x heard brought head p s t b ns (Halts _ stop after on run) l j = joined_with_b x heard brought head p b j.1
listens_joined x heard brought head p s t b ns (Ends _ on spent none) l j = joined_with_b x heard brought head p b j.1
listens_joined x heard brought head p s t b ns (Powers _ c cs ms _ on spent more rest) l j =
    let up = power_up_of s.board c.start in
    let one = listener_moment x heard brought head p up b j.1 j.0 l.0 in
    let few : length (hand_behind head up p.hand).accepted < most_words =
    subst (λ ws. length ws < most_words) (sym (power_accepts_none head s.board c.start p.hand)) j.0 in
    listens_joined x heard brought head (behind_b head p (up ∷ []) b) (behind_power s c cs) t b ms rest l.1 (few, one)
